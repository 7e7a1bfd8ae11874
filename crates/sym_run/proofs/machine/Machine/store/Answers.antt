use Rattle.sym_run.proofs.DataActs.{store_did}
use Rattle.sym_run.proofs.machine.Machine.store.Goals as goal

pub returns : goal.returns
returns c = λ w. store_did w c.args.self.now c.advance.new.self c.args.pointer c.args.source c.in_ok-at.at c.in_ok-cell.cell c.store.new.self c.in_ok-at.ensures.there c.in_ok-cell.ensures.there c.in_ok-store.ensures.stored c.in_ok-store.ensures.names c.in_ok-advance.ensures
