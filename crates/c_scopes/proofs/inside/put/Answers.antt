use Rattle.c_scopes.proofs.Going.{pushed}
use Rattle.c_scopes.proofs.inside.put.Goals as goal

pub returns : goal.returns
returns c = pushed c.args.variable c.args.scopes.now c.pop.new.self c.push-2.new.self c.in-Some.scope c.push.new.self c.in-Some.ensures c.in_ok-push.ensures c.in_ok-push-2.ensures.ok
