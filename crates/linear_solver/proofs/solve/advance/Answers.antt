use Rattle.std.proofs.Common.{subst, ℤ, List, reverse, to_z, of_z, true, false}
use mir.Syntax.{w32}
use Rattle.cc_base.specs.Solve as plain
use Rattle.linear_solver.specs.declared.group.GroupAnswer.{GroupAnswer}
use Rattle.linear_solver.specs.Answers.{Advanced}
use Rattle.linear_solver.specs.Atoms.{seen_atoms}
use Rattle.linear_solver.specs.Parts.{Wrote}
use Rattle.linear_solver.specs.Seen.{at_places}
use Rattle.linear_solver.specs.Settled.{Settles}
use Rattle.linear_solver.proofs.WritingAnswers.{at_bounds, values_settled, beyond_settled}
use Rattle.linear_solver.proofs.solve.advance.Goals as goal

pub returns-in-Refuted : goal.returns-in-Refuted
returns-in-Refuted c =
    let A = seen_atoms c.args.group.now in
    at_bounds (λ lo hi. plain.Refuted lo hi c.args.budget A) c.args.lo c.args.hi c.ranges.lo c.ranges.hi
    (subst (λ (r : GroupAnswer). Settles (to_z w32 (of_z w32 c.args.lo)) (to_z w32 (of_z w32 c.args.hi)) c.args.budget A r) c.in-Refuted.is c.in_ok-settle.ensures)

pub returns-in-Values : goal.returns-in-Values
returns-in-Values c =
    let A = seen_atoms c.args.group.now in
    let s = subst (λ (r : GroupAnswer). Settles (to_z w32 (of_z w32 c.args.lo)) (to_z w32 (of_z w32 c.args.hi)) c.args.budget A r) c.in-Values.is c.in_ok-settle.ensures in
    let w = subst (λ (l : List ℤ). Wrote (reverse c.args.part.now) (at_places l) c.args.progress.now.answers.items c.write.new.answers.items) c.deref.ensures.value c.write.ensures in
    at_bounds (λ lo hi. Advanced lo hi c.args.budget (reverse c.args.part.now) A c.args.progress.now.answers.items c.args.progress.now.spent c.write.new.answers.items c.args.progress.now.spent false) c.args.lo c.args.hi c.ranges.lo c.ranges.hi
    (values_settled _ _ c.args.budget (reverse c.args.part.now) A c.args.progress.now.answers.items c.write.new.answers.items c.args.progress.now.spent c.in-Values.values s w)

pub returns-in-Beyond : goal.returns-in-Beyond
returns-in-Beyond c =
    let A = seen_atoms c.args.group.now in
    let s = subst (λ (r : GroupAnswer). Settles (to_z w32 (of_z w32 c.args.lo)) (to_z w32 (of_z w32 c.args.hi)) c.args.budget A r) c.in-Beyond.is c.in_ok-settle.ensures in
    at_bounds (λ lo hi. Advanced lo hi c.args.budget (reverse c.args.part.now) A c.args.progress.now.answers.items c.args.progress.now.spent c.args.progress.now.answers.items true false) c.args.lo c.args.hi c.ranges.lo c.ranges.hi
    (beyond_settled _ _ c.args.budget (reverse c.args.part.now) A c.args.progress.now.answers.items c.args.progress.now.spent s)
