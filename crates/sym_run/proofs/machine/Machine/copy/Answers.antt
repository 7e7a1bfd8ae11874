use Rattle.sym_run.proofs.InstructionLaws.{copy_done}
use Rattle.sym_run.proofs.machine.Machine.copy.Goals as goal

pub returns : goal.returns
returns c = λ w. copy_done w c.args.self.now c.give.new.self c.args.dst c.args.source c.in_ok-cell.cell c.in_ok-cell.ensures.there c.in_ok-give.ensures
