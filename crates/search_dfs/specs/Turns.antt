-- What one turn of the loop does.
use Rattle.std.specs.Prelude.{ℕ, zero, suc, ◌+◌, ◌-◌, ◌*◌, ◌^◌, ◌<◌, ◌≤◌, ◌≡◌, ◌≢◌, Bool, true, false, List, [], ◌∷◌, ◌++◌, length, Option, Some, None, take, All}
use Rattle.cc_base.specs.declared.outcomes.Outcome.{Outcome}
use Rattle.cc_base.specs.Outcomes.{HasByte}
use Rattle.cc_base.specs.Paths.{Path, next}
use Rattle.cc_base.specs.declared.inputs.Test.{Test}
use Rattle.cc_model.specs.Listing.{Item, test_item, past_item, Above, NotAbove, Reached}
use Rattle.search_dfs.specs.Search.{State}
use Rattle.search_base.specs.Setting.{Setting, layer_of, within_of, meets_of, base_of}
use Rattle.search_dfs.specs.declared.open.Pending.{Pending}
use Rattle.search_dfs.specs.declared.open.Open.{Open}
use Rattle.cc_base.specs.declared.inputs.Input.{Input}
use Rattle.cc_model.specs.Tested.{turned}
use Rattle.search_dfs.specs.Setting.{TraceOf, own_at}
use Rattle.search_dfs.specs.Output.{Items, Out, Wrote, WroteSome}
use Rattle.search_dfs.specs.Stack.{levels}
use Rattle.search_dfs.specs.Stack.{last_first, left_at, path_of_run, Level, Levels, Rest, Under}
use Rattle.search_base.specs.Lines.{listed}

abbrev pub levels_of : Open → List (List Outcome)
levels_of b = levels b.tree

abbrev pub runs_of : Open → List Pending
runs_of b = last_first b.runs

-- the levels are counted, and each belongs to a run that is kept
pub record Fits_open (p : Setting) (b : Open) : Type 0 where
  pub most : (b.tree).most ≡ p.limits.depth + 1
  pub depth : b.depth ≡ length (levels_of b)
  pub levels : Levels p (levels_of b) (runs_of b)

-- the last run is still to be gone into below the levels
pub record Ready (p : Setting) (b : Open) (r : Pending) (rs : List Pending) : Type 0 where
  pub runs : runs_of b ≡ r ∷ rs
  pub trace : TraceOf p r.from r.trace r.path
  pub from : r.from ≤ b.depth
  pub short : b.depth ≤ length (path_of_run r)
  pub most : (b.tree).most ≡ p.limits.depth + 1
  pub depth : b.depth ≡ length (levels_of b)
  pub levels : Levels p (levels_of b) (left_at b.depth (r ∷ rs))

-- the least outcome of the deepest level was taken off it and is still to be tried
pub record Taken (p : Setting) (b : Open) (o : Outcome) (os : List Outcome) (ls : List (List Outcome)) (r : Pending) (rs : List Pending) : Type 0 where
  pub runs : runs_of b ≡ r ∷ rs
  pub now : levels_of b ≡ os ∷ ls
  pub most : (b.tree).most ≡ p.limits.depth + 1
  pub depth : b.depth ≡ suc (length ls)
  pub level : Level p r (length ls) (o ∷ os)
  pub levels : Levels p ls (left_at (length ls) (r ∷ rs))

-- the beginning: the base run is kept and no level is there
pub record Begins (p : Setting) (b : Open) (v : Pending) : Type 0 where
  pub none : levels_of b ≡ []
  pub depth : b.depth ≡ 0
  pub runs : runs_of b ≡ v ∷ []
  pub from : v.from ≡ 0
  pub trace : TraceOf p v.from v.trace v.path
  pub most : (b.tree).most ≡ p.limits.depth + 1
  pub base : (v.trace).input ≡ base_of p
  pub made : b.made ≡ 1
  pub stopped : b.stopped ≡ false

abbrev pub Stopped_at : Bool → Option Path → Type 0
Stopped_at true w = (v : Path) × (w ≡ Some v)
Stopped_at false w = w ≡ None

-- the state of the search that the loop is in
pub record Matches (b : Open) (s : State) : Type 0 where
  pub made : b.made ≡ s.made
  pub unrun : Stopped_at b.stopped s.unrun

-- how much there can still be to do
unfoldable pub cost : ℕ → ℕ
cost zero = 2
cost (suc n) = 2 + 30 * cost n

unfoldable pub weight : List (List Outcome) → ℕ
weight [] = 0
weight (os ∷ ls) = length os * cost (1024 - length ls) + 1 + weight ls

module _ (p : Setting) (after : Option Path) (limit : ℕ) where
  abbrev pub UnderOf : Bool → List (List Outcome) → List Pending → State → Items → State → Type 0
  UnderOf cuts ls [] s a t = ⊥
  UnderOf cuts ls (r ∷ rs) s a t = Under p after limit cuts ls r rs s a t

  -- gone into: what is to come now, behind the items e, is what was to come below the levels
  pub record Went (old new : Open) (was now : Out) : Type 0 where
    pub items : Items
    pub wrote : Wrote p items was now
    pub fits : Fits_open p new
    pub made : new.made ≡ old.made
    pub stopped : new.stopped ≡ old.stopped
    pub less : weight (levels_of new) ≤ weight (levels_of old) + 29 * cost (1024 - length (levels_of old)) + 1
    pub ahead : (cuts : Bool) (s t : State) (a : Items) → Rest p after limit cuts (levels_of new) (runs_of new) s a t →
        UnderOf cuts (levels_of old) (runs_of old) s (items ++ a) t

  -- a refusal on the way: a first part of what may come was written
  pub record WentSome (old : Open) (was now : Out) : Type 0 where
    pub items : Items
    pub wrote : WroteSome p items was now
    pub ahead : (s : State) → UnderOf true (levels_of old) (runs_of old) s items s

  -- a turn from these levels and runs
  pub record Turn (ls : List (List Outcome)) (rs : List Pending) (old new : Open) (was now : Out) : Type 0 where
    pub items : Items
    pub wrote : Wrote p items was now
    pub fits : Fits_open p new
    pub less : weight (levels_of new) < weight ls
    pub ahead : (s : State) → Matches old s → (m : State) × Matches new m
        × ((cuts : Bool) (t : State) (a : Items) → Rest p after limit cuts (levels_of new) (runs_of new) m a t → Rest p after limit cuts ls rs s (items ++ a) t)

  pub record TurnSome (ls : List (List Outcome)) (rs : List Pending) (old : Open) (was now : Out) : Type 0 where
    pub items : Items
    pub wrote : WroteSome p items was now
    pub ahead : (s : State) → Matches old s → (t : State) × Rest p after limit true ls rs s items t

-- an alternative that is to be solved for, and its prefix
pub record Solving (p : Setting) (after : Option Path) (b : Open) (o : Outcome) (w : Path) (os : List Outcome) (ls : List (List Outcome)) (r : Pending) (rs : List Pending) : Type 0 where
  pub taken : Taken p b o os ls r rs
  pub other : o ≢ own_at (length ls) (path_of_run r)
  pub going : b.stopped ≡ false
  pub prefix : w ≡ next (take (length ls) (path_of_run r)) o
  pub reached : Reached after w
  pub bytes : All HasByte w

-- the solve gave the input
abbrev pub Turned_to : Setting → Input → Path → Input → Type 0
Turned_to p u w i = (layer_of p).Answers u w turned × within_of p i × meets_of p u w i × (length i.cells < 10 ^ 18)

-- the run that ends has its line: a test, or a past one
pub data Ends (after : Option Path) (t : Test) : Item → Type 0 where
  as_test : Above after t.path → Ends after t (test_item t)
  as_past : NotAbove after t.path → Ends after t (past_item t)

pub record Ended (p : Setting) (after : Option Path) (t : Test) (old new : Out) : Type 0 where
  pub item : Item
  pub ends : Ends after t item
  pub wrote : Wrote p (item ∷ []) old new

pub record EndedSome (p : Setting) (after : Option Path) (t : Test) (old new : Out) : Type 0 where
  pub item : Item
  pub ends : Ends after t item
  pub wrote : WroteSome p (item ∷ []) old new

-- the test of a run
abbrev pub test_at : Pending → Test
test_at r = listed r.trace r.path
