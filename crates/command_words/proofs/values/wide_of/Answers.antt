use Rattle.std.proofs.Common.{◌≡◌, ◌∙◌, sym, ap, Some, ℕ}
use Rattle.std.proofs.lemmas.Slice.Eq.{bytes_eq-Decides}
use Rattle.std.specs.Fmt.{decimal}
use Rattle.command_words.specs.Words.{IsWide}
use Rattle.command_words.proofs.NamedWords.{if_none}
use Rattle.command_words.proofs.Numerals.{read_wide}
use Rattle.command_words.proofs.values.wide_of.Goals as goal

pub returns-in_err-number-clause-only : goal.returns-in_err-number-clause-only
returns-in_err-number-clause-only c n h =
    let read : c.ok.result ≡ Some n = read_wide c.args.word.now n c.parse.result c.ok.result c.parse.ensures.value.0 c.ok.ensures.value h in
    absurd (cc c.in_err-number.was)

pub returns-then-eq-clause-only : goal.returns-then-eq-clause-only
returns-then-eq-clause-only c n h =
    let read : c.ok.result ≡ Some n = read_wide c.args.word.now n c.parse.result c.ok.result c.parse.ensures.value.0 c.ok.ensures.value h in
    cc c.in_ok-number.was

pub returns-else-eq-clause-only : goal.returns-else-eq-clause-only
returns-else-eq-clause-only c n h =
    let read : c.ok.result ≡ Some n = read_wide c.args.word.now n c.parse.result c.ok.result c.parse.ensures.value.0 c.ok.ensures.value h in
    let same : c.in_ok-number.number ≡ n = cc c.in_ok-number.was in
    let text : c.format.result.now ≡ c.args.word.now = c.format.ensures.text ∙ ap decimal same ∙ sym h.text in
    let equal = (bytes_eq-Decides c.format.result.now c.args.word.now).1 text in
    absurd (cc (equal, c.eq.ensures, c.if-eq.false))

pub returns-in_err-number-clause-none : goal.returns-in_err-number-clause-none
returns-in_err-number-clause-none c =
    if_none c.from_residual.result ((n : ℕ) → IsWide c.args.word.now n → ⊥) (λ n h.
    let read : c.ok.result ≡ Some n = read_wide c.args.word.now n c.parse.result c.ok.result c.parse.ensures.value.0 c.ok.ensures.value h in
    absurd (cc c.in_err-number.was))

pub returns-else-eq-clause-none : goal.returns-else-eq-clause-none
returns-else-eq-clause-none c n h = absurd (cc (returns-else-eq-clause-only c n h))
