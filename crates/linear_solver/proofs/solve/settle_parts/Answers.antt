use Rattle.std.proofs.Common.{◌∙◌, sym, subst, ℕ, ◌<◌, List, [], Bool, true, false, reverse, vec_len, All, to_z, of_z}
use mir.Syntax.{w32}
use Rattle.cc_base.specs.Groups.{parts, groups_of}
use Rattle.cc_base.specs.Solve.{SomeRefuted}
use Rattle.linear_solver.specs.Answers.{PartAdvanced}
use Rattle.linear_solver.specs.Atoms.{seen_atoms}
use Rattle.linear_solver.specs.Parts.{backwards}
use Rattle.linear_solver.specs.Standing.{Stands}
use Rattle.linear_solver.proofs.WritingAnswers.{at_bounds, from_bounds, member_at, part_below, part_refutes, part_stands, parts_start, parts_end}
use Rattle.linear_solver.proofs.solve.settle_parts.Goals as goal

pub loop-part-init : goal.loop-part-init
loop-part-init c =
    parts_start (to_z w32 (of_z w32 c.args.lo)) (to_z w32 (of_z w32 c.args.hi)) c.args.budget (vec_len c.args.progress.now.answers) c.args.progress.now.answers.items c.args.progress.now.spent (seen_atoms c.args.atoms.now) c.args.cut.now
    (from_bounds (λ lo hi. Stands lo hi c.args.budget (vec_len c.args.progress.now.answers) c.args.progress.now.answers.items c.args.progress.now.spent [] []) c.args.lo c.args.hi c.ranges.lo c.ranges.hi c.requires.start)

pub advance_part-requires-clause-within : goal.advance_part-requires-clause-within
advance_part-requires-clause-within c =
    let L = seen_atoms c.args.atoms.now in
    let m = member_at c.args.cut.now c.loop-part.part-index c.part-item.result (parts L) c.loop-part-test.true c.part-item.is c.requires.parts in
    let b = part_below (vec_len c.args.progress.now.answers) L c.part-item.result.items c.requires.below m in
    let n = c.loop-part.progress.answers.ok.0 in
    subst (λ (l : List ℕ). All (λ x. x < vec_len c.loop-part.progress.answers) l) (sym c.deref.ensures.value)
    (subst (λ (k : ℕ). All (λ x. x < k) c.part-item.result.items) (sym (n ∙ c.loop-part.invariant.size)) b)

pub returns-then-branch : goal.returns-then-branch
returns-then-branch c =
    let L = seen_atoms c.args.atoms.now in
    let m = member_at c.args.cut.now c.loop-part.part-index c.part-item.result (parts L) c.loop-part-test.true c.part-item.is c.requires.parts in
    let a = subst (λ (l : List ℕ). PartAdvanced (to_z w32 (of_z w32 c.args.lo)) (to_z w32 (of_z w32 c.args.hi)) c.args.budget (reverse l) L c.loop-part.progress.answers.items c.loop-part.progress.spent c.advance_part.new.progress.answers.items c.advance_part.new.progress.spent true)
    c.deref.ensures.value (subst (λ (r : Bool). PartAdvanced (to_z w32 (of_z w32 c.args.lo)) (to_z w32 (of_z w32 c.args.hi)) c.args.budget (reverse c.deref.result.now) L c.loop-part.progress.answers.items c.loop-part.progress.spent c.advance_part.new.progress.answers.items c.advance_part.new.progress.spent r) c.if-branch.true c.in_ok-advance_part.ensures) in
    at_bounds (λ lo hi. SomeRefuted lo hi c.args.budget (groups_of (parts L) L)) c.args.lo c.args.hi c.ranges.lo c.ranges.hi
    (part_refutes _ _ c.args.budget c.loop-part.progress.answers.items c.advance_part.new.progress.answers.items c.loop-part.progress.spent c.advance_part.new.progress.spent L (backwards c.part-item.result) m a)

pub loop-part-preserved : goal.loop-part-preserved
loop-part-preserved c =
    let L = seen_atoms c.args.atoms.now in
    let a = subst (λ (l : List ℕ). PartAdvanced (to_z w32 (of_z w32 c.args.lo)) (to_z w32 (of_z w32 c.args.hi)) c.args.budget (reverse l) L c.loop-part.progress.answers.items c.loop-part.progress.spent c.advance_part.new.progress.answers.items c.advance_part.new.progress.spent false)
    c.deref.ensures.value (subst (λ (r : Bool). PartAdvanced (to_z w32 (of_z w32 c.args.lo)) (to_z w32 (of_z w32 c.args.hi)) c.args.budget (reverse c.deref.result.now) L c.loop-part.progress.answers.items c.loop-part.progress.spent c.advance_part.new.progress.answers.items c.advance_part.new.progress.spent r) c.if-branch.false c.in_ok-advance_part.ensures) in
    part_stands _ _ c.args.budget (vec_len c.args.progress.now.answers) c.loop-part.progress.answers.items c.advance_part.new.progress.answers.items c.loop-part.progress.spent c.advance_part.new.progress.spent L c.args.cut.now c.loop-part.part-index c.part-item.result
    c.loop-part-test.true c.part-item.is c.requires.parts a c.loop-part.invariant

pub returns : goal.returns
returns c =
    let L = seen_atoms c.args.atoms.now in
    at_bounds (λ lo hi. Stands lo hi c.args.budget (vec_len c.args.progress.now.answers) c.loop-part.progress.answers.items c.loop-part.progress.spent (parts L) (groups_of (parts L) L)) c.args.lo c.args.hi c.ranges.lo c.ranges.hi
    (parts_end _ _ c.args.budget (vec_len c.args.progress.now.answers) c.loop-part.progress.answers.items c.loop-part.progress.spent L c.args.cut.now c.loop-part.part-index c.loop-part-test.false c.requires.parts c.loop-part.invariant)
