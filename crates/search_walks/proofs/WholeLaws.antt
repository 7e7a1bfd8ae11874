-- A walk as a whole, at the end of its call.
use Rattle.std.proofs.Common.{ℕ, Bool, true, false, List, Option, Result, Ok, Err, IfOk, OnErr}
use Rattle.cc_model.specs.Listing.{Item}
use Rattle.search_base.specs.declared.fault.SearchFault.{SearchFault}
use Rattle.search_walks.specs.declared.log.Log.{Log}
use Rattle.search_walks.specs.declared.log.WalkSummary.{WalkSummary}
use Rattle.search_walks.specs.Logged.{Logged, Finished, FinishedSome, Walked}
use Rattle.search_walks.specs.Output.{WalkedWhole, WalkedPart}
use Rattle.search_base.specs.Setting.{Setting}
use Rattle.search_walks.proofs.LoggedLaws.{whole, part_of_terms}

module _ (s : Setting) (W : Bool → List Item → Type 0) (old mid new : Option (List ℕ)) (l : Log) where
  pub whole_on : (r : Result WalkSummary SearchFault) → ((cuts : Bool) → Walked s (W cuts) old mid l) → IfOk r (λ w. (items : List Item) → Logged s items l → Finished s items mid new w) → IfOk r (WalkedWhole s (W false) old new)
  whole_on (Ok w) h f = whole s W old mid new l w h f
  whole_on (Err e) h f = tt

  pub part_on : (r : Result WalkSummary SearchFault) → ((cuts : Bool) → Walked s (W cuts) old mid l) → OnErr r (FinishedSome mid new) → OnErr r (WalkedPart s (W true) old new)
  part_on (Ok w) h f = tt
  part_on (Err e) h f = part_of_terms s W old mid new l h f
