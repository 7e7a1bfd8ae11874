use Rattle.sym_run.specs.Stands.{Setting}
use Rattle.sym_run.proofs.PassLaws.{PassedTo}
use Rattle.sym_run.proofs.machine.Machine.pass_all.Given as goal

-- the arguments so far were passed
abbrev pub invariant-loop-slot : goal.invariant-loop-slot
invariant-loop-slot l = (w : Setting) → PassedTo w l.initial.self l.cells l.types l.self l.slot
