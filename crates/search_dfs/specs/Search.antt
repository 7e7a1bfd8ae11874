-- The depth-first search as a relation: which items come of what is to be searched, whatever inputs the solver picks.
use Rattle.std.specs.Prelude.{ℕ, suc, ◌<◌, ◌≡◌, ◌≢◌, ◌⊎◌, ◌↔◌, Bool, true, List, [], ◌∷◌, ◌++◌, length, Option, Some, None}
use Rattle.cc_base.specs.declared.inputs.Input.{Input}
use Rattle.cc_base.specs.declared.inputs.Test.{Test}
use Rattle.cc_base.specs.declared.outcomes.Outcome.{Outcome}
use Rattle.cc_base.specs.Paths.{Path, In, Ascend, next, BeginsWith}
use Rattle.cc_model.specs.Tested.{Layer, never, spent, turned, Offers}
use Rattle.cc_model.specs.Listing.{Item, test_item, past_item, stray_item, spent_item, unrun_item, Above, NotAbove, PassedOver, Reached}

-- the runs made so far, and the prefix of the input that was not run
pub record State : Type 0 where
  pub made : ℕ
  pub unrun : Option Path

pub data Job : Type 0 where
  -- below the prefix q of u's path
  below : (q : Path) (u : Input) → Job
  -- these outcomes at the end of q, where u's own is own
  among : (q : Path) (u : Input) (own : Outcome) (os : List Outcome) → Job
  -- one of them
  via : (q : Path) (u : Input) (own o : Outcome) → Job

-- one run was made, of the base input
abbrev pub start : State
start = record { made = 1; unrun = None }

module _ (y : Layer) where
  -- the test of a run on the input
  abbrev pub test_of : Input → Test
  test_of i = record { path = (y.runs).path i; end = (y.runs).end i; input = i }

  -- at most so many runs; where it may be cut off, each part may end at once
  module _ (after : Option Path) (limit : ℕ) (cuts : Bool) where
    -- an alternative that is solved
    pub record Asked (q : Path) (u : Input) (own o : Outcome) (s : State) : Type 0 where
      pub other : o ≢ own
      pub going : s.unrun ≡ None
      pub reached : Reached after (next q o)
      pub offers : Offers y u q o

    -- the solve gave the input
    pub record Turns (q : Path) (u : Input) (o : Outcome) (i : Input) : Type 0 where
      pub answer : y.Answers u (next q o) turned
      pub within : (y.runs).IsWithin i
      pub meets : y.Meets u (next q o) i

    pub data Search : Job → State → List Item → State → Type 0 where
      leaf_test : (q : Path) (u : Input) (s : State) → (y.runs).path u ≡ q → Above after ((y.runs).path u) → Search (below q u) s (test_item (test_of u) ∷ []) s
      leaf_past : (q : Path) (u : Input) (s : State) → (y.runs).path u ≡ q → NotAbove after ((y.runs).path u) → Search (below q u) s (past_item (test_of u) ∷ []) s
      inner : (q : Path) (u : Input) (s t : State) (a : List Item) (own : Outcome) (os : List Outcome) →
          BeginsWith ((y.runs).path u) (next q own) → Ascend os → ((o : Outcome) → In o os ↔ ((o ≡ own) ⊎ In o (y.others u (length q)))) →
          Search (among q u own os) s a t → Search (below q u) s a t
      cut_below : (q : Path) (u : Input) (s : State) → cuts ≡ true → Search (below q u) s [] s
      cut : (q : Path) (u : Input) (own : Outcome) (os : List Outcome) (s : State) → cuts ≡ true → Search (among q u own os) s [] s
      none : (q : Path) (u : Input) (own : Outcome) (s : State) → Search (among q u own []) s [] s
      each : (q : Path) (u : Input) (own o : Outcome) (os : List Outcome) (s m t : State) (a b : List Item) →
          Search (via q u own o) s a m → Search (among q u own os) m b t → Search (among q u own (o ∷ os)) s (a ++ b) t
      mine : (q : Path) (u : Input) (own : Outcome) (s t : State) (a : List Item) → Search (below (next q own) u) s a t → Search (via q u own own) s a t
      passed : (q : Path) (u : Input) (own o : Outcome) (s : State) → o ≢ own → PassedOver after (next q o) → Search (via q u own o) s [] s
      stopped : (q : Path) (u : Input) (own o : Outcome) (s : State) (w : Path) → o ≢ own → s.unrun ≡ Some w → Search (via q u own o) s [] s
      never_one : (q : Path) (u : Input) (own o : Outcome) (s : State) → Asked q u own o s → y.Answers u (next q o) never → Search (via q u own o) s [] s
      spent_one : (q : Path) (u : Input) (own o : Outcome) (s : State) → Asked q u own o s → y.Answers u (next q o) spent →
          Search (via q u own o) s (spent_item (next q o) ∷ []) s
      unrun_one : (q : Path) (u : Input) (own o : Outcome) (s : State) (i : Input) → Asked q u own o s → Turns q u o i → s.made ≡ limit →
          Search (via q u own o) s (unrun_item i (next q o) ∷ []) (record { made = s.made; unrun = Some (next q o) })
      stray_one : (q : Path) (u : Input) (own o : Outcome) (s : State) (i : Input) → Asked q u own o s → Turns q u o i → s.made < limit →
          (BeginsWith ((y.runs).path i) (next q o) → ⊥) →
          Search (via q u own o) s (stray_item (test_of i) (next q o) ∷ []) (record { made = suc s.made; unrun = None })
      gone : (q : Path) (u : Input) (own o : Outcome) (s t : State) (a : List Item) (i : Input) → Asked q u own o s → Turns q u o i → s.made < limit →
          BeginsWith ((y.runs).path i) (next q o) → Search (below (next q o) i) (record { made = suc s.made; unrun = None }) a t →
          Search (via q u own o) s a t

    -- the items of a whole search
    abbrev pub Searched : List Item → Type 0
    Searched l = (t : State) × Search (below [] (y.runs).base) start l t
