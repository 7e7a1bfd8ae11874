use Rattle.concolic_cli.proofs.walking.walk_lines.Goals as goal

pub walk-requires-clause-known : goal.walk-requires-clause-known
walk-requires-clause-known g c = record { compiles = c.requires.compiles; points = c.requires.points }
