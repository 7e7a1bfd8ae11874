use Rattle.std.proofs.Common.{◌≡◌, sym, subst, ℕ, pos, List}
use Rattle.std.proofs.lemmas.Int.{to_z-of_z}
use mir.Syntax.{w32}
use Rattle.command_words.specs.Words.{IsNumber}
use Rattle.command_words.proofs.words.behind_number.Goals as goal

pub returns-in_default-number_of-clause-none : goal.returns-in_default-number_of-clause-none
returns-in_default-number_of-clause-none c word rest n e h =
    let first = c.in-Some.ensures.some in
    let same : word ≡ c.in-Some.first.word.now = cc (e, first) in
    let number : IsNumber c.in-Some.first.word.now (pos 1) c.args.high (pos n) = subst (λ (w : List ℕ). IsNumber w (pos 1) c.args.high (pos n)) same h in
    c.in_default-number_of.ensures.none (pos n) (subst (λ k. IsNumber c.in-Some.first.word.now (pos 1) k (pos n)) (sym (to_z-of_z w32 c.args.high c.ranges.high)) number)
