use Rattle.std.proofs.Common.{subst, Bool, vec_len, to_z, of_z}
use mir.Syntax.{w32}
use Rattle.cc_base.specs.Groups.{parts, groups, groups_of}
use Rattle.cc_base.specs.Solve.{SomeRefuted}
use Rattle.linear_solver.specs.Answers.{AloneAdvanced}
use Rattle.linear_solver.specs.Atoms.{seen_atom, seen_atoms}
use Rattle.linear_solver.specs.Standing.{Stands}
use Rattle.linear_solver.proofs.Writing.{fit_at}
use Rattle.linear_solver.proofs.WritingAnswers.{at_bounds, from_bounds, alone_refutes, alone_stands, alone_start, alone_end}
use Rattle.linear_solver.proofs.solve.settle_alone.Goals as goal

pub loop-a-init : goal.loop-a-init
loop-a-init c =
    let L = seen_atoms c.args.atoms.now in
    alone_start (to_z w32 (of_z w32 c.args.lo)) (to_z w32 (of_z w32 c.args.hi)) c.args.budget (vec_len c.args.progress.now.answers) c.args.progress.now.answers.items c.args.progress.now.spent (parts L) (groups_of (parts L) L) c.args.atoms.now
    (from_bounds (λ lo hi. Stands lo hi c.args.budget (vec_len c.args.progress.now.answers) c.args.progress.now.answers.items c.args.progress.now.spent (parts L) (groups_of (parts L) L)) c.args.lo c.args.hi c.ranges.lo c.ranges.hi c.requires.start)

pub advance_alone-requires-clause-fit : goal.advance_alone-requires-clause-fit
advance_alone-requires-clause-fit c = fit_at c.args.atoms.now c.loop-a.a-index c.a-item.result c.requires.fit c.loop-a-test.true c.a-item.is

pub returns-then-branch : goal.returns-then-branch
returns-then-branch c =
    let L = seen_atoms c.args.atoms.now in
    let a = subst (λ (r : Bool). AloneAdvanced (to_z w32 (of_z w32 c.args.lo)) (to_z w32 (of_z w32 c.args.hi)) c.args.budget (seen_atom c.a-item.result) c.loop-a.progress.answers.items c.loop-a.progress.spent c.advance_alone.new.progress.answers.items c.advance_alone.new.progress.spent r) c.if-branch.true c.in_ok-advance_alone.ensures in
    at_bounds (λ lo hi. SomeRefuted lo hi c.args.budget (groups L)) c.args.lo c.args.hi c.ranges.lo c.ranges.hi
    (alone_refutes _ _ c.args.budget c.loop-a.progress.answers.items c.advance_alone.new.progress.answers.items c.loop-a.progress.spent c.advance_alone.new.progress.spent c.args.atoms.now c.loop-a.a-index c.a-item.result c.loop-a-test.true c.a-item.is a)

pub loop-a-preserved : goal.loop-a-preserved
loop-a-preserved c =
    let L = seen_atoms c.args.atoms.now in
    let a = subst (λ (r : Bool). AloneAdvanced (to_z w32 (of_z w32 c.args.lo)) (to_z w32 (of_z w32 c.args.hi)) c.args.budget (seen_atom c.a-item.result) c.loop-a.progress.answers.items c.loop-a.progress.spent c.advance_alone.new.progress.answers.items c.advance_alone.new.progress.spent r) c.if-branch.false c.in_ok-advance_alone.ensures in
    alone_stands _ _ c.args.budget (vec_len c.args.progress.now.answers) c.loop-a.progress.answers.items c.advance_alone.new.progress.answers.items c.loop-a.progress.spent c.advance_alone.new.progress.spent (parts L) (groups_of (parts L) L) c.args.atoms.now c.loop-a.a-index c.a-item.result
    c.loop-a-test.true c.a-item.is a c.loop-a.invariant

pub returns : goal.returns
returns c =
    let L = seen_atoms c.args.atoms.now in
    at_bounds (λ lo hi. Stands lo hi c.args.budget (vec_len c.args.progress.now.answers) c.loop-a.progress.answers.items c.loop-a.progress.spent (parts L) (groups L)) c.args.lo c.args.hi c.ranges.lo c.ranges.hi
    (alone_end _ _ c.args.budget (vec_len c.args.progress.now.answers) c.loop-a.progress.answers.items c.loop-a.progress.spent (parts L) c.args.atoms.now c.loop-a.a-index c.loop-a-test.false c.loop-a.invariant)
