use Rattle.std.proofs.Common.{◌≡◌, ◌∙◌, sym, ap, rules, arith, SFits, ℤ, pos, int_lt, vec_len}
use Rattle.std.proofs.lemmas.Int.{to_z-of_z}
use mir.Syntax.{w128}
use borrow.Author.Tests.{eqb-true, eq-eqb}
use Rattle.linear_solver.specs.Seen.{seen}
use Rattle.linear_solver.proofs.TidySteps.{false_none, false_some}
use Rattle.linear_solver.proofs.tidy.cannot_hold.Goals as goal

pub returns-then-is_empty : goal.returns-then-is_empty
returns-then-is_empty c =
    let f : SFits w128 c.args.i.now.most = search rules in
    let e : vec_len c.args.i.now.terms ≡ 0 = eqb-true (vec_len c.args.i.now.terms) 0 (sym c.is_empty.ensures ∙ c.if-is_empty.true) in
    false_none (seen c.args.i.now) _ (omega (arith, e, c.args.i.now.terms.ok.0)) (ap (λ (z : ℤ). int_lt z (pos 0)) (to_z-of_z w128 c.args.i.now.most f))

pub returns-else-is_empty : goal.returns-else-is_empty
returns-else-is_empty c =
    false_some (seen c.args.i.now) (λ h. let e : vec_len c.args.i.now.terms ≡ 0 = omega (arith, h, c.args.i.now.terms.ok.0) in
    let t = eq-eqb (vec_len c.args.i.now.terms) 0 e in let s = sym c.is_empty.ensures ∙ c.if-is_empty.false in cc (t, s))
