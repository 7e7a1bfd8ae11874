-- The listing of a program's tested function.
use Rattle.std.specs.Prelude.{ℕ, ◌+◌, ◌^◌, ◌<◌, ◌≤◌, ◌≡◌, List, [], length, Option}
use Rattle.cc_base.specs.declared.inputs.Input.{Input}
use Rattle.cc_base.specs.declared.inputs.Test.{Test}
use Rattle.cc_base.specs.Limits.{Limits}
use Rattle.cc_base.specs.Paths.{Path, In}
use Rattle.cc_model.specs.declared.checked.Site.{Site}
use Rattle.cc_model.specs.Core.{Program}
use Rattle.cc_model.specs.Runs.{path_at, end_at}
use Rattle.cc_model.specs.Tested.{Term, tested}
use Rattle.cc_model.specs.Listing.{Item, Listing, path_count, run_count, counts_of, tests, IsComplete, Sound, Licensed, Covered, Enumerates}
use Rattle.replay.specs.ReportFiles.{AreSmall}
use Rattle.search_base.specs.Readable.{CanBeRead, IsNarrow}
use Rattle.search_dfs.specs.Missed.{HoldsPaths, IsEasy, MissesNoMore, room, searched}

-- the test of a run
abbrev pub test_at : Program → Limits → Input → Test
test_at p b h = record { path = path_at p b h; end = end_at p b h; input = h }

-- the line and the column of each term, and the counts, have 64 bits
pub record HasNarrowLines (l : Listing) : Type 0 where
  pub terms : (e : Term) → In e l.terms → IsNarrow e
  pub paths : path_count l < 2 ^ 64
  pub runs : run_count l < 2 ^ 64
  pub counts : AreSmall (counts_of l)

-- A listing of the program's tested function within the bounds, above the path `after` where one is given, of at most so many
-- runs, with this budget for a solve. Each item is real and has its cause, its line can be read again, as can those of the terms and
-- the counts, and at each prefix every alternative is settled.
-- Where no run concretised it misses no more than it says, and where the five counts are zero its tests enumerate the paths of
-- every input, each once, in byte order. For an easy program with runs for each path, the counts are zero.
pub record IsListing (sites : List Site) (p : Program) (b : Limits) (runs budget : ℕ) (after : Option Path) (l : Listing) : Type 0 where
  pub bounds : l.bounds ≡ b
  pub sound : Sound after (tested p b) l.items
  pub licensed : Licensed after (searched sites p b budget) runs l
  pub covered : Covered after (searched sites p b budget) l.items
  pub few : (x : Item) → In x l.items → CanBeRead x
  pub narrow : HasNarrowLines l
  pub misses_no_more : l.terms ≡ [] → MissesNoMore p b after l
  pub enumerates : IsComplete l → Enumerates after (tested p b) (tests l.items)
  pub complete : IsEasy p b budget → (paths : List Path) → HoldsPaths p b after paths → length paths + room after ≤ runs → IsComplete l
