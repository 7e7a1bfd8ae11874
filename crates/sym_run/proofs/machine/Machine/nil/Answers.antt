use Rattle.sym_run.proofs.InstructionLaws.{nil_done}
use Rattle.sym_run.proofs.machine.Machine.nil.Goals as goal

pub returns : goal.returns
returns c = λ w. nil_done w c.args.self.now c.give.new.self c.args.dst c.in_ok-give.ensures
