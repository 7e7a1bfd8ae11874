use Rattle.sym_run.proofs.InstructionLaws.{global_done}
use Rattle.sym_run.proofs.machine.Machine.global.Goals as goal

pub returns : goal.returns
returns c = λ w. global_done w c.args.self.now c.give.new.self c.args.dst c.args.cell c.in_ok-give.ensures
