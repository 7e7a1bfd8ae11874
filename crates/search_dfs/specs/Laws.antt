-- What the search takes from the layers below: the tested function's traced runs tell which inputs run the same way.
use Rattle.std.specs.Prelude.{◌<◌, ◌≤◌, ◌≡◌, ◌≢◌, ◌⊎◌, [], length}
use Rattle.cc_base.specs.declared.inputs.Input.{Input}
use Rattle.cc_base.specs.declared.outcomes.Outcome.{Outcome}
use Rattle.cc_base.specs.Paths.{Path, In, next, BeginsWith}
use Rattle.cc_model.specs.Tested.{Layer, never, Offers}

pub record Laws (y : Layer) : Type 0 where
  pub base_within : (y.runs).IsWithin (y.runs).base
  -- no path is a proper prefix of another
  pub no_prefix : (u h : Input) → (y.runs).IsWithin u → (y.runs).IsWithin h → BeginsWith ((y.runs).path h) ((y.runs).path u) → (y.runs).path h ≡ (y.runs).path u
  -- an alternative is another outcome than the run's own
  pub not_own : (u : Input) (q : Path) (o own : Outcome) → (y.runs).IsWithin u → Offers y u q o → BeginsWith ((y.runs).path u) (next q own) → o ≢ own
  -- before the first term, an input that comes to an event takes the run's own outcome there or one of its alternatives
  pub exhausts : (u h : Input) (q : Path) (own : Outcome) → (y.runs).IsWithin u → (y.runs).IsWithin h → length q < y.clean u →
      BeginsWith ((y.runs).path u) (next q own) → BeginsWith ((y.runs).path h) q →
      (o : Outcome) × BeginsWith ((y.runs).path h) (next q o) × ((o ≡ own) ⊎ In o (y.others u (length q)))
  -- up to the first term, an input that meets the condition of an alternative takes it
  pub turns : (u i : Input) (q : Path) (o : Outcome) → (y.runs).IsWithin u → (y.runs).IsWithin i → Offers y u q o → length q ≤ y.clean u →
      y.Meets u (next q o) i → BeginsWith ((y.runs).path i) (next q o)
  -- and no input takes an alternative whose condition is refuted
  pub never_true : (u h : Input) (q : Path) (o : Outcome) → (y.runs).IsWithin u → (y.runs).IsWithin h → Offers y u q o → length q ≤ y.clean u →
      y.Answers u (next q o) never → BeginsWith ((y.runs).path h) (next q o) → ⊥
  -- without a term all events come before the first one
  pub clean_whole : (u : Input) → (y.runs).IsWithin u → y.terms u ≡ [] → y.clean u ≡ length ((y.runs).path u)
