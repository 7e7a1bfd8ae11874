-- The outcomes of decisions that runs took.
use Rattle.std.specs.Prelude.{◌≡◌, ◌<◌, ◌⊎◌, ◌↔◌, ℕ, Bool, true, false, List, length, Some, slice_get}
use Rattle.cc_model.specs.declared.checked.Checked.{Checked}
use Rattle.sym_run.specs.declared.trace.Event.{Event}
use Rattle.sym_run.specs.Traces.{outcome_at}
use Rattle.search_walks.specs.Distance.{entry, IsDecisionSite}
use Rattle.search_walks.specs.Deciding.{side_of}
use Rattle.search_base.specs.Terms.{token_in}

-- those of which Q holds are covered, too; one of them wasn't
pub record Marks (old new : List Bool) (Q : ℕ → Type 0) (is_new : Bool) : Type 0 where
  pub size : length new ≡ length old
  pub each : (a : ℕ) → (slice_get new a ≡ Some true) ↔ ((slice_get old a ≡ Some true) ⊎ (Q a × (a < length old)))
  pub one_new : (is_new ≡ true) ↔ ((a : ℕ) × Q a × (slice_get old a ≡ Some false))

-- the outcome of a decision site of the token, among the first sites
pub record IsAmong (c : Checked) (token : ℕ) (side : Bool) (k a : ℕ) : Type 0 where
  pub site : ℕ
  pub below : site < k
  pub is_site : IsDecisionSite c site
  pub token_is : token_in c.sites site ≡ token
  pub number : a ≡ entry site side

-- the outcome that an event of a decision took
pub record IsTakenAt (c : Checked) (e : Event) (a : ℕ) : Type 0 where
  pub side : Bool
  pub is_decision : IsDecisionSite c (e.site).0
  pub took : outcome_at e ≡ side_of side
  pub among : IsAmong c (token_in c.sites (e.site).0) side (length c.sites) a

-- the outcomes that the first events took
pub record IsTakenUpTo (c : Checked) (es : List Event) (k a : ℕ) : Type 0 where
  pub at : ℕ
  pub before : at < k
  pub event : Event
  pub is : slice_get es at ≡ Some event
  pub taken : IsTakenAt c event a
