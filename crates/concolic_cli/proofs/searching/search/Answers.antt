use Rattle.concolic_cli.proofs.searching.search.Goals as goal

pub explore-requires-clause-known : goal.explore-requires-clause-known
explore-requires-clause-known g c = record { compiles = c.requires.compiles; points = c.requires.points }
