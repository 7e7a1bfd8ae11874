use Rattle.sym_run.proofs.PointerLaws.{first_here, first_past, first_none}
use Rattle.sym_run.proofs.pointer_events.is_first.Goals as goal

pub returns-then-first-place : goal.returns-then-first-place
returns-then-first-place c = first_here _ _ _ _ _ c.loop-first-test.true c.if-first-place.true c.loop-first.invariant

pub loop-first-preserved : goal.loop-first-preserved
loop-first-preserved c = first_past _ _ _ _ _ c.loop-first-test.true c.if-first-place.false c.loop-first.invariant

pub returns : goal.returns
returns c = first_none _ _ _ _ c.loop-first-test.false c.loop-first.invariant
