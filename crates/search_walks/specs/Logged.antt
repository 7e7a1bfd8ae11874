-- What a log holds of the items that were listed.
use Rattle.std.specs.Prelude.{ℕ, ◌≡◌, ◌↔◌, ◌*◌, ◌++◌, Bool, true, List, length, Option, Some, slice_get, map}
use Rattle.cc_base.specs.declared.inputs.Test.{Test}
use Rattle.cc_base.specs.Paths.{In}
use Rattle.cc_model.specs.Listing.{Item, WasRun, count_by, is_run}
use Rattle.cc_model.specs.Report.{item_lines, term_lines, has_fault}
use Rattle.cc_model.specs.Tested.{Term, Real}
use Rattle.cc_outside.specs.Told.{appended, WritesPart}
use Rattle.search_walks.specs.declared.log.Log.{Log}
use Rattle.search_walks.specs.declared.log.WalkSummary.{WalkSummary}
use Rattle.search_walks.specs.Counted.{Took}
use Rattle.search_walks.specs.Output.{AreTerms, Sums, HasNumbers, Begins}
use Rattle.search_base.specs.Readable.{CanBeRead, IsNarrow}
use Rattle.search_base.specs.Setting.{Setting, layer_of}
use Rattle.search_base.specs.Terms.{seen_term, InOrder}

-- the log holds the runs among the items, whether one is a fault, their terms, and the outcomes of decisions that they took; each
-- of their tests is real, and each can be read again from its line
pub record Logged (s : Setting) (items : List Item) (log : Log) : Type 0 where
  pub made : log.made ≡ count_by is_run items
  pub fault : log.fault ≡ has_fault items
  pub terms : (x : Term) → In x (map seen_term (log.terms).items) ↔ ((t : Test) × WasRun t items × In x ((layer_of s).terms t.input))
  pub order : InOrder (log.terms).items
  pub size : length (log.covered).items ≡ 2 * length s.checked.sites
  pub covered : (a : ℕ) → (slice_get (log.covered).items a ≡ Some true) ↔ ((t : Test) × WasRun t items × Took s t.input a)
  pub real : (t : Test) → WasRun t items → Real ((layer_of s).runs) t
  pub few : (x : Item) → In x items → CanBeRead x

-- the lines of the terms were written behind those of the items, and the items summed up
pub record Finished (s : Setting) (items : List Item) (old new : Option (List ℕ)) (w : WalkSummary) : Type 0 where
  pub terms : List Term
  pub written : new ≡ appended old (term_lines terms)
  pub are_terms : AreTerms s items terms
  pub sums : Sums s items w
  pub narrow : (e : Term) → In e terms → IsNarrow e
  pub numbers : HasNumbers w

-- a first part of the lines of the terms was written
pub record FinishedSome (old new : Option (List ℕ)) : Type 0 where
  pub terms : List Term
  pub written : WritesPart old new (term_lines terms)

-- the items of the walk were written and logged
pub record Walked (s : Setting) (Walk : List Item → Type 0) (old new : Option (List ℕ)) (log : Log) : Type 0 where
  pub items : List Item
  pub written : new ≡ appended old (item_lines items)
  pub walked : Begins s Walk items
  pub logged : Logged s items log

-- a first part of the items of a walk was written
pub record WalkedSome (s : Setting) (Walk : List Item → Type 0) (old new : Option (List ℕ)) : Type 0 where
  pub items : List Item
  pub written : WritesPart old new (item_lines items)
  pub walked : Begins s Walk items
  pub real : (t : Test) → WasRun t items → Real ((layer_of s).runs) t

-- the items were written and logged, and however the walk goes on from here, it goes on so from its start
pub record Along (s : Setting) (From Here : Bool → List Item → Type 0) (old new : Option (List ℕ)) (log : Log) : Type 0 where
  pub items : List Item
  pub written : new ≡ appended old (item_lines items)
  pub logged : Logged s items log
  pub on : (cuts : Bool) (rest : List Item) → Here cuts rest → Begins s (From cuts) (items ++ rest)
