use Rattle.c_scopes.proofs.Going.{popped_place}
use Rattle.c_scopes.proofs.inside.Inside.close.Goals as goal

pub returns : goal.returns
returns c = popped_place c.pop.result c.args.self.now.scopes c.pop.new.self c.args.self.now.next c.args.self.now.in_loop c.pop.ensures
