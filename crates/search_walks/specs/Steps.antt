-- What a walk does at each step.
use Rattle.std.specs.Prelude.{ℕ, ◌≡◌, ◌↔◌, Bool, true, List, Option, Some, None, All}
use Rattle.cc_base.specs.declared.inputs.Input.{Input}
use Rattle.cc_base.specs.Outcomes.{HasByte}
use Rattle.cc_base.specs.Paths.{Path}
use Rattle.cc_model.specs.Listing.{Item, test_item, spent_item}
use Rattle.cc_model.specs.Report.{item_line}
use Rattle.cc_outside.specs.Told.{appended, WritesPart}
use Rattle.search_walks.specs.declared.log.Log.{Log}
use Rattle.search_walks.specs.declared.runs.Made.{Made}
use Rattle.search_walks.specs.declared.log.Tried.{Tried}
use Rattle.search_walks.specs.Counted.{Counted}
use Rattle.search_walks.specs.Made.{RunOf}
use Rattle.search_base.specs.Readable.{CanBeRead}
use Rattle.search_base.specs.Setting.{Setting, layer_of, base_of}
use Rattle.search_walks.specs.Walks.{Candidate, Keeps, IsItemOf, IsNever, IsSpent, Gives, prediction, test_of}

-- the line of a run's item, which can be read again
pub record IsLine (s : Setting) (i : Input) (p : Path) (bytes : List ℕ) : Type 0 where
  pub item : Item
  pub is_item : IsItemOf s i p item
  pub few : CanBeRead item
  pub line : bytes ≡ item_line item

-- a run was made for a prediction, listed and counted
pub record Followed (s : Setting) (i : Input) (p : Path) (old new : Option (List ℕ)) (l m : Log) (t : Tried) : Type 0 where
  pub run : RunOf s (t.run).trace (t.run).path
  pub input : ((t.run).trace).input ≡ i
  pub kept : (t.kept ≡ true) ↔ Keeps s i p
  pub item : Item
  pub is_item : IsItemOf s i p item
  pub few : CanBeRead item
  pub written : new ≡ appended old (item_line item)
  pub counted : Counted s i (((layer_of s).runs).end i) l m t.is_new

-- a first part of its line was written, or nothing yet
pub data FollowedSome (s : Setting) (i : Input) (p : Path) (old new : Option (List ℕ)) : Type 0 where
  nothing_came : new ≡ old → FollowedSome s i p old new
  one_came : (x : Item) → IsItemOf s i p x → WritesPart old new (item_line x) → FollowedSome s i p old new

abbrev pub base_item : Setting → Item
base_item s = test_item (test_of s (base_of s))

-- the base input was run, listed and counted
pub record Started (s : Setting) (old new : Option (List ℕ)) (l m : Log) (r : Made) : Type 0 where
  pub run : RunOf s r.trace r.path
  pub input : (r.trace).input ≡ base_of s
  pub few : CanBeRead (base_item s)
  pub written : new ≡ appended old (item_line (base_item s))
  pub is_new : Bool
  pub counted : Counted s (base_of s) (((layer_of s).runs).end (base_of s)) l m is_new

-- what comes of a candidate: no input, none within the budget, or a run
pub data TriedOne (s : Setting) (u : Input) (c : Candidate) (old new : Option (List ℕ)) (l m : Log) : Option Tried → Type 0 where
  no_input : IsNever s u (prediction s u c) → new ≡ old → m ≡ l → TriedOne s u c old new l m None
  past_budget : IsSpent s u (prediction s u c) → All HasByte (prediction s u c) → new ≡ appended old (item_line (spent_item (prediction s u c))) → m ≡ l → TriedOne s u c old new l m None
  was_run : (i : Input) (t : Tried) → Gives s u (prediction s u c) i → Followed s i (prediction s u c) old new l m t → TriedOne s u c old new l m (Some t)

-- a first part of the line of what comes of it was written, or nothing
pub data TriedSome (s : Setting) (u : Input) (c : Candidate) (old new : Option (List ℕ)) : Type 0 where
  nothing_yet : new ≡ old → TriedSome s u c old new
  some_of_spent : IsSpent s u (prediction s u c) → WritesPart old new (item_line (spent_item (prediction s u c))) → TriedSome s u c old new
  some_of_run : (i : Input) → Gives s u (prediction s u c) i → FollowedSome s i (prediction s u c) old new → TriedSome s u c old new
