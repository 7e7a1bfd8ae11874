use Rattle.std.proofs.Common.{◌≡◌, ◌∙◌, sym, ap, Some, rules}
use Rattle.std.proofs.lemmas.Int.{to_z-of_z}
use Rattle.std.proofs.lemmas.Slice.Eq.{bytes_eq-Decides}
use Rattle.std.specs.Fmt.{signed_decimal}
use mir.Syntax.{w32}
use Rattle.report_words.proofs.Numerals.{read_signed}
use Rattle.report_words.proofs.numbers.signed_in.Goals as goal

pub returns-in_err-number-clause-only : goal.returns-in_err-number-clause-only
returns-in_err-number-clause-only c z h =
    let read : c.ok.result ≡ Some z = read_signed c.args.text.now z c.parse.result c.ok.result c.parse.ensures.value.0 c.ok.ensures.value h in
    absurd (cc c.in_err-number.was)

pub returns-then-eq-clause-only : goal.returns-then-eq-clause-only
returns-then-eq-clause-only c z h =
    let read : c.ok.result ≡ Some z = read_signed c.args.text.now z c.parse.result c.ok.result c.parse.ensures.value.0 c.ok.ensures.value h in
    let same : c.in_ok-number.number ≡ z = cc c.in_ok-number.was in
    ap Some (to_z-of_z w32 c.in_ok-number.number (search rules) ∙ same)

pub returns-else-eq-clause-only : goal.returns-else-eq-clause-only
returns-else-eq-clause-only c z h =
    let read : c.ok.result ≡ Some z = read_signed c.args.text.now z c.parse.result c.ok.result c.parse.ensures.value.0 c.ok.ensures.value h in
    let same : c.in_ok-number.number ≡ z = cc c.in_ok-number.was in
    let text : c.format.result.now ≡ c.args.text.now = c.format.ensures.text ∙ ap signed_decimal (to_z-of_z w32 c.in_ok-number.number (search rules) ∙ same) ∙ sym h.text in
    let equal = (bytes_eq-Decides c.format.result.now c.args.text.now).1 text in
    absurd (cc (equal, c.eq.ensures, c.if-eq.false))
