use Rattle.sym_run.proofs.RunningLaws.{came_on_at, came_over_at}
use Rattle.sym_run.proofs.machine.Machine.finish.Goals as goal

pub instructions-preserved : goal.instructions-preserved
instructions-preserved c = came_on_at _ c.instructions.self c.step.new.self c.in_ok-end.field-0 c.instructions.invariant c.in_ok-end.ensures c.in_default.is

pub returns-in-Some : goal.returns-in-Some
returns-in-Some c = came_over_at _ c.instructions.self c.step.new.self c.in_ok-end.field-0 c.in-Some.end c.instructions.invariant c.in_ok-end.ensures c.requires.compiles c.in-Some.is
