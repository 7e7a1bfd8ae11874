use Rattle.std.proofs.Common.{sym, subst, rules, arith, ℤ, ◌+◌, Some, take, set, get_or, SFits}
use Rattle.std.proofs.lemmas.Int.{to_z-of_z}
use mir.Syntax.{w32}
use Rattle.linear_solver.specs.Parts.{Wrote}
use Rattle.linear_solver.specs.Seen.{at_places}
use Rattle.linear_solver.proofs.WritingAnswers.{wrote_none, wrote_more, wrote_all}
use Rattle.linear_solver.proofs.solve.write.Goals as goal

pub loop-x-init : goal.loop-x-init
loop-x-init c = wrote_none (at_places c.args.values.now) c.args.answers.now.items c.args.part.now

pub loop-x-preserved : goal.loop-x-preserved
loop-x-preserved c =
    let f : SFits w32 c.value_at.result = search rules in
    let h = c.requires c.loop-x.x-index 0 c.loop-x-test.true in
    let n = c.loop-x.invariant.0 in let m = c.args.answers.now.ok.0 in
    subst (λ (z : ℤ). Wrote (take (c.loop-x.x-index + 1) c.args.part.now) (at_places c.args.values.now) c.args.answers.now.items (set c.loop-x.answers.items (get_or c.args.part.now c.loop-x.x-index 0) (Some z))) (sym (to_z-of_z w32 c.value_at.result f))
    (wrote_more (at_places c.args.values.now) c.args.answers.now.items c.loop-x.answers.items c.args.part.now c.loop-x.x-index c.value_at.result c.loop-x-test.true (omega (arith, h, n, m)) c.value_at.ensures c.loop-x.invariant)

pub returns : goal.returns
returns c = wrote_all (at_places c.args.values.now) c.args.answers.now.items c.loop-x.answers.items c.args.part.now c.loop-x.x-index c.loop-x-test.false c.loop-x.invariant
