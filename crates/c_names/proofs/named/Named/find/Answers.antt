use Rattle.std.proofs.Common.{◌∙◌, ap, sym, Some, None, find, bytes_eq}
use Rattle.c_names.proofs.IndexLemmas.{found_at}
use Rattle.c_names.proofs.named.Named.find.Goals as goal

pub returns-in-Some : goal.returns-in-Some
returns-in-Some g c =
    c.get.ensures.value ∙ found_at (bytes_eq c.args.name.now) g.T.HasName.name_of c.self.inside.items c.self.inside.names c.self.invariant (Some c.in-Some.place) (sym c.in-Some.is ∙ c.position.ensures.value)
    ∙ ap (find (λ x. bytes_eq c.args.name.now (g.T.HasName.name_of x))) c.self.view_is

pub returns-in-None : goal.returns-in-None
returns-in-None g c =
    found_at (bytes_eq c.args.name.now) g.T.HasName.name_of c.self.inside.items c.self.inside.names c.self.invariant None (sym c.in-None.is ∙ c.position.ensures.value)
    ∙ ap (find (λ x. bytes_eq c.args.name.now (g.T.HasName.name_of x))) c.self.view_is
