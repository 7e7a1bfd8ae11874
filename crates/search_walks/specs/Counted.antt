-- What a walk has counted.
use Rattle.std.specs.Prelude.{ℕ, suc, ◌≡◌, ◌⊎◌, ◌↔◌, ◌||◌, ◌*◌, Bool, true, false, [], length, Some, slice_get, map}
use Rattle.cc_base.specs.declared.ends.End.{End}
use Rattle.cc_base.specs.declared.inputs.Input.{Input}
use Rattle.cc_base.specs.Paths.{In}
use Rattle.cc_model.specs.Report.{is_fault}
use Rattle.cc_model.specs.Tested.{Term}
use Rattle.search_walks.specs.declared.log.Log.{Log}
use Rattle.search_walks.specs.Covering.{Marks}
use Rattle.search_walks.specs.Distance.{entry}
use Rattle.search_base.specs.Setting.{Setting, layer_of}
use Rattle.search_walks.specs.Deciding.{Takes}
use Rattle.search_base.specs.Terms.{seen_term, InOrder}

-- nothing was counted, with two outcomes for each of so many sites
pub record Nothing (sites : ℕ) (log : Log) : Type 0 where
  pub made : log.made ≡ 0
  pub fault : log.fault ≡ false
  pub terms : (log.terms).items ≡ []
  pub size : length (log.covered).items ≡ 2 * sites
  pub covered : (a : ℕ) → slice_get (log.covered).items a ≡ Some true → ⊥

-- an outcome of a decision that the run of an input takes
pub record Took (s : Setting) (u : Input) (a : ℕ) : Type 0 where
  pub site : ℕ
  pub side : Bool
  pub number : a ≡ entry site side
  pub takes : Takes s u site side

-- one more run was counted
pub record Counted (s : Setting) (u : Input) (end : End) (old new : Log) (is_new : Bool) : Type 0 where
  pub made : new.made ≡ suc old.made
  pub fault : new.fault ≡ old.fault || is_fault end
  pub terms : (x : Term) → In x (map seen_term (new.terms).items) ↔ (In x (map seen_term (old.terms).items) ⊎ In x ((layer_of s).terms u))
  pub order : InOrder (old.terms).items → InOrder (new.terms).items
  pub covered : Marks (old.covered).items (new.covered).items (Took s u) is_new
