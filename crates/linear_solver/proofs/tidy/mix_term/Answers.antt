use Rattle.std.proofs.Common.{◌∙◌, ap, rules, SFits, ℕ, ◌+◌, ◌*◌, ◌%◌, unsigned_abs}
use Rattle.std.proofs.lemmas.Int.{to_z-of_z}
use mir.Syntax.{w128}
use Rattle.linear_solver.specs.Chains.{mix}
use Rattle.linear_solver.proofs.tidy.mix_term.Goals as goal

pub returns-clause-value : goal.returns-clause-value
unfolding mix
returns-clause-value c =
    let f : SFits w128 c.args.t.coefficient = search rules in
    ap (λ (n : ℕ). (((c.args.number * 1000003) + (c.args.t.place * 31)) + (n % 4294967296)) % 4294967296) (c.unsigned_abs.ensures.value ∙ ap unsigned_abs (to_z-of_z w128 c.args.t.coefficient f))
