use Rattle.std.proofs.Common.{refl}
use Rattle.c_names.proofs.IndexLemmas.{place_put}
use Rattle.c_names.proofs.places.put.Goals as goal

pub returns-clause-found : goal.returns-clause-found
returns-clause-found c = place_put (λ k. k.items) _ c.args.places.now.entries c.insert.new.self.entries c.in_ok-key.key c.args.name.now c.args.place c.place_of.result c.is_some.result (λ j. refl) c.in_ok-key.ensures.items c.in_ok-insert.ensures.entries c.place_of.ensures c.is_some.ensures c.if-is_some.false
