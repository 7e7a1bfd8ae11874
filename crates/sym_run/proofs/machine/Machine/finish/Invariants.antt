use Rattle.sym_run.specs.Stands.{setting}
use Rattle.sym_run.specs.Running.{Came}
use Rattle.sym_run.proofs.machine.Machine.finish.Given as goal

abbrev pub invariant-instructions : goal.invariant-instructions
invariant-instructions l = Came (setting (l.fixed).checked.now (l.fixed).tac.now (l.fixed).bounds.now (l.fixed).input.now) l.self
