use Rattle.std.proofs.Common.{◌≡◌, ◌≤◌, length, take, inr, Some, List, ℕ, subst, arith}
use Rattle.std.proofs.lemmas.List.{take_all}
use Rattle.input_map.specs.Reading.{start, steps}
use Rattle.input_map.specs.declared.reading.Reader.{Reader}
use Rattle.input_map.proofs.Passing.{begun, few, goes, stops, ends, breaks_off}
use Rattle.input_map.proofs.reading.read_form.Goals as goal

whole : (l : List ℕ) (i : ℕ) (s : Reader) → length l ≤ i → steps start (take i l) ≡ Some s → steps start l ≡ Some s
whole l i s h e = subst (λ t. steps start t ≡ Some s) (take_all i l h) e

pub loop-at-init : goal.loop-at-init
loop-at-init c = begun _ c.new-reader.ensures

pub step-requires : goal.step-requires
step-requires c = few _ _ c.loop-at.invariant

pub returns-then-not-branch-clause-refused : goal.returns-then-not-branch-clause-refused
returns-then-not-branch-clause-refused c = inr (stops _ c.loop-at.at _ _ _ _ c.if-not-branch.true (omega arith) c.loop-at.invariant c.mark_of.ensures c.in_ok-step.ensures)

pub loop-at-preserved : goal.loop-at-preserved
loop-at-preserved c = goes _ c.loop-at.at _ _ _ _ c.if-not-branch.false (omega arith) c.loop-at.invariant c.mark_of.ensures c.in_ok-step.ensures

pub finish-requires : goal.finish-requires
finish-requires c = few _ _ c.loop-at.invariant

pub returns-then-not-branch-2-clause-refused : goal.returns-then-not-branch-2-clause-refused
returns-then-not-branch-2-clause-refused c = inr (breaks_off _ _ _ _ c.if-not-branch-2.true (whole _ c.loop-at.at _ (omega arith) c.loop-at.invariant) c.in_ok-finish.ensures)

pub returns-clause-read : goal.returns-clause-read
returns-clause-read c = ends _ _ _ _ c.if-not-branch-2.false (whole _ c.loop-at.at _ (omega arith) c.loop-at.invariant) c.in_ok-finish.ensures
