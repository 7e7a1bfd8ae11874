use Rattle.std.proofs.Common.{◌≡◌, ◌++◌, length, reverse}
use Rattle.flip_solve.specs.Needed.{bare_first}
use Rattle.search_dfs.proofs.runs.bare_first.Given as goal

abbrev pub invariant-events : goal.invariant-events
invariant-events l = bare_first l.number l.initial.events ≡ bare_first l.number l.events ++ reverse l.kept.items

abbrev pub decreases-events : goal.decreases-events
decreases-events l = length l.events
