use Rattle.std.proofs.Common.{◌≡◌, ◌∙◌, sym, ap, arith, rules, Some, ℤ}
use Rattle.std.proofs.lemmas.Int.{ints, to_z-of_z}
use Rattle.std.proofs.lemmas.Slice.Eq.{bytes_eq-Decides}
use mir.Syntax.{w32}
use Rattle.std.specs.Fmt.{signed_decimal}
use Rattle.command_words.specs.Words.{IsNumber}
use Rattle.command_words.proofs.Numerals.{read_number}
use Rattle.command_words.proofs.NamedWords.{if_none}
use Rattle.command_words.proofs.values.number_of.Goals as goal

pub returns-in_err-number-clause-only : goal.returns-in_err-number-clause-only
returns-in_err-number-clause-only c z h =
    let read : c.ok.result ≡ Some z = read_number c.args.word.now c.args.low c.args.high z c.parse.result c.ok.result c.parse.ensures.value.0 c.ok.ensures.value c.ranges.low c.ranges.high h in
    cc c.in_err-number.was

pub returns-then-number-low-clause-only : goal.returns-then-number-low-clause-only
returns-then-number-low-clause-only c z h =
    let read : c.ok.result ≡ Some z = read_number c.args.word.now c.args.low c.args.high z c.parse.result c.ok.result c.parse.ensures.value.0 c.ok.ensures.value c.ranges.low c.ranges.high h in
    let same : c.in_ok-number.number ≡ z = cc c.in_ok-number.was in
    absurd (omega (arith, ints, h.at_least, c.if-number-low.true))

pub returns-then-high-number-clause-only : goal.returns-then-high-number-clause-only
returns-then-high-number-clause-only c z h =
    let read : c.ok.result ≡ Some z = read_number c.args.word.now c.args.low c.args.high z c.parse.result c.ok.result c.parse.ensures.value.0 c.ok.ensures.value c.ranges.low c.ranges.high h in
    let same : c.in_ok-number.number ≡ z = cc c.in_ok-number.was in
    absurd (omega (arith, ints, h.at_most, c.if-high-number.true))

pub returns-then-eq-clause-only : goal.returns-then-eq-clause-only
returns-then-eq-clause-only c z h =
    let read : c.ok.result ≡ Some z = read_number c.args.word.now c.args.low c.args.high z c.parse.result c.ok.result c.parse.ensures.value.0 c.ok.ensures.value c.ranges.low c.ranges.high h in
    let same : c.in_ok-number.number ≡ z = cc c.in_ok-number.was in
    ap Some (to_z-of_z w32 c.in_ok-number.number (search rules) ∙ same)

pub returns-else-eq-clause-only : goal.returns-else-eq-clause-only
returns-else-eq-clause-only c z h =
    let read : c.ok.result ≡ Some z = read_number c.args.word.now c.args.low c.args.high z c.parse.result c.ok.result c.parse.ensures.value.0 c.ok.ensures.value c.ranges.low c.ranges.high h in
    let same : c.in_ok-number.number ≡ z = cc c.in_ok-number.was in
    let text : c.format.result.now ≡ c.args.word.now = c.format.ensures.text ∙ ap signed_decimal (to_z-of_z w32 c.in_ok-number.number (search rules) ∙ same) ∙ sym h.text in
    let equal = (bytes_eq-Decides c.format.result.now c.args.word.now).1 text in
    absurd (cc (equal, c.eq.ensures, c.if-eq.false))

pub returns-in_err-number-clause-none : goal.returns-in_err-number-clause-none
returns-in_err-number-clause-none c =
    if_none c.from_residual.result ((z : ℤ) → IsNumber c.args.word.now c.args.low c.args.high z → ⊥) (λ z h.
    let read : c.ok.result ≡ Some z = read_number c.args.word.now c.args.low c.args.high z c.parse.result c.ok.result c.parse.ensures.value.0 c.ok.ensures.value c.ranges.low c.ranges.high h in
    absurd (cc c.in_err-number.was))

pub returns-then-number-low-clause-none : goal.returns-then-number-low-clause-none
returns-then-number-low-clause-none c z h = absurd (cc (returns-then-number-low-clause-only c z h))

pub returns-then-high-number-clause-none : goal.returns-then-high-number-clause-none
returns-then-high-number-clause-none c z h = absurd (cc (returns-then-high-number-clause-only c z h))

pub returns-else-eq-clause-none : goal.returns-else-eq-clause-none
returns-else-eq-clause-none c z h = absurd (cc (returns-else-eq-clause-only c z h))
