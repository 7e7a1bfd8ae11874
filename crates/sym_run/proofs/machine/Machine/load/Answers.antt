use Rattle.sym_run.proofs.DataActs.{load_did}
use Rattle.sym_run.proofs.machine.Machine.load.Goals as goal

pub returns-in_ok-give-in-Some : goal.returns-in_ok-give-in-Some
returns-in_ok-give-in-Some c = λ w. load_did w c.args.self.now c.give.new.self c.args.dst c.args.pointer c.in_ok-at.at c.in-Some.cell c.in_ok-at.ensures.there c.in-Some.ensures c.in_ok-give-in-Some.ensures
