use Rattle.std.proofs.Common.{refl}
use Rattle.sym_run.proofs.InstructionLaws.{jump_done}
use Rattle.sym_run.proofs.machine.Machine.jump.Goals as goal

pub returns : goal.returns
returns c = λ w. jump_done w c.args.self.now (record c.args.self.now { pc = c.args.to }) c.args.to refl
