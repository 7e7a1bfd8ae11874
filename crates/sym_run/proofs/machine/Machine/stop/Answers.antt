use Rattle.sym_run.proofs.InstructionLaws.{stop_over}
use Rattle.sym_run.proofs.machine.Machine.stop.Goals as goal

pub returns : goal.returns
returns c = λ w. stop_over w c.args.self.now c.args.self.now c.args.kind c.args.line
