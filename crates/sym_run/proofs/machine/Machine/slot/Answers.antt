use Rattle.sym_run.proofs.InstructionLaws.{slot_done}
use Rattle.sym_run.proofs.machine.Machine.slot.Goals as goal

pub returns : goal.returns
returns c = λ w. slot_done w c.args.self.now c.give.new.self c.args.dst c.args.slot c.in_ok-cell.cell c.in_ok-cell.ensures c.in_ok-give.ensures
