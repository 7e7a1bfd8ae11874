-- What a search as a whole owes.
use Rattle.std.specs.Prelude.{◌≡◌, ℕ, ◌+◌, ◌^◌, ◌<◌, ◌≤◌, List, [], ◌++◌, length, Option}
use Rattle.cc_base.specs.Paths.{Path, In}
use Rattle.cc_model.specs.CheckedProgram.{core_of}
use Rattle.cc_model.specs.Tested.{Term, tested}
use Rattle.cc_model.specs.Listing.{Item, Listing, Counts, counts_of, path_count, run_count, tests, Sound, Licensed, Covered, IsComplete, Enumerates}
use Rattle.cc_model.specs.Report.{item_lines, term_lines, has_fault}
use Rattle.cc_outside.specs.Told.{appended, WritesPart}
use Rattle.search_dfs.specs.declared.search.Summary.{Summary}
use Rattle.search_dfs.specs.declared.tally.Tally.{Tally}
use Rattle.search_base.specs.Readable.{CanBeRead, IsNarrow}
use Rattle.search_base.specs.Setting.{Setting, layer_of}
use Rattle.search_dfs.specs.Missed.{HoldsPaths, IsEasy, MissesNoMore, room}

abbrev counted : Summary → Counts
counted s = record { terms = s.terms; spent = s.spent; steps = s.steps; strays = s.strays; unrun = s.unrun }

-- the summary has the counts of the listing
pub record Sums (l : Listing) (s : Summary) : Type 0 where
  pub paths : s.paths ≡ path_count l
  pub runs : s.runs ≡ run_count l
  pub counts : counted s ≡ counts_of l
  pub fault : s.fault ≡ has_fault l.items

-- the summary has what was counted
pub record Counted (t : Tally) (s : Summary) : Type 0 where
  pub paths : s.paths ≡ t.paths
  pub runs : s.runs ≡ t.runs
  pub terms : s.terms ≡ length (t.terms).items
  pub spent : s.spent ≡ t.spent
  pub steps : s.steps ≡ t.steps
  pub strays : s.strays ≡ t.strays
  pub unrun : s.unrun ≡ t.unrun
  pub fault : s.fault ≡ t.fault

-- the numbers of the summary have 64 bits
pub record HasNumbers (s : Summary) : Type 0 where
  pub paths : s.paths < 2 ^ 64
  pub runs : s.runs < 2 ^ 64
  pub terms : s.terms < 2 ^ 64
  pub spent : s.spent < 2 ^ 64
  pub steps : s.steps < 2 ^ 64
  pub strays : s.strays < 2 ^ 64
  pub unrun : s.unrun < 2 ^ 64

abbrev pub listing_of : Setting → List Item → List Term → Listing
listing_of p items terms = record { bounds = p.limits; items = items; terms = terms }

-- What was written are the lines of a listing that is sound, licensed and covered, of items and terms that can be read again, and
-- the summary has its counts. Where no run concretised it misses no more than it says. Where the five counts are zero its tests
-- enumerate the paths of every input. For an easy program, with runs for each path, the counts are zero.
pub record Explored (p : Setting) (after : Option Path) (limit : ℕ) (old new : Option (List ℕ)) (s : Summary) : Type 0 where
  pub items : List Item
  pub terms : List Term
  pub written : new ≡ appended old (item_lines items ++ term_lines terms)
  pub sound : Sound after ((layer_of p).runs) items
  pub licensed : Licensed after (layer_of p) limit (listing_of p items terms)
  pub covered : Covered after (layer_of p) items
  pub few : (x : Item) → In x items → CanBeRead x
  pub narrow : (e : Term) → In e terms → IsNarrow e
  pub sums : Sums (listing_of p items terms) s
  pub numbers : HasNumbers s
  pub misses_no_more : terms ≡ [] → MissesNoMore (core_of p.checked) p.limits after (listing_of p items terms)
  pub enumerates : IsComplete (listing_of p items terms) → Enumerates after (tested (core_of p.checked) p.limits) (tests items)
  pub complete : IsEasy (core_of p.checked) p.limits p.budget → (paths : List Path) → HoldsPaths (core_of p.checked) p.limits after paths →
      length paths + room after ≤ limit → IsComplete (listing_of p items terms)

-- what was written is a first part of the lines of sound items and of terms
pub record ExploredSome (p : Setting) (after : Option Path) (old new : Option (List ℕ)) : Type 0 where
  pub items : List Item
  pub terms : List Term
  pub written : WritesPart old new (item_lines items ++ term_lines terms)
  pub sound : Sound after ((layer_of p).runs) items
