-- What a stack of levels and runs still owes to the search.
use Rattle.std.specs.Prelude.{ℕ, ◌<◌, ◌≤◌, ◌≡◌, ◌⊎◌, Bool, List, [], ◌∷◌, ◌++◌, length, Option, nat_eq, take, if◌then◌else◌}
use Rattle.cc_base.specs.declared.outcomes.Outcome.{Outcome}
use Rattle.cc_base.specs.Paths.{Path, In}
use Rattle.cc_model.specs.Listing.{Item}
use Rattle.search_dfs.specs.Search.{State, Job, below, among, Search}
use Rattle.search_base.specs.Setting.{Setting, layer_of, others_of}
use Rattle.search_dfs.specs.declared.open.Pending.{Pending}
use Rattle.search_dfs.specs.Setting.{TraceOf, own_at}
use Rattle.path_tree.specs.Branches.{Branches}

abbrev pub levels : Branches → List (List Outcome)
levels t = t.levels

abbrev pub last_first : List Pending → List Pending
last_first [] = []
last_first (r ∷ l) = last_first l ++ (r ∷ [])

-- the runs that are left once what lies from level k on is done
abbrev pub left_at : ℕ → List Pending → List Pending
left_at k [] = []
left_at k (r ∷ rs) = if nat_eq r.from k then rs else r ∷ rs

abbrev pub path_of_run : Pending → Path
path_of_run r = r.path

-- the level after k levels belongs to the run, and these of its outcomes are unsettled
pub record Level (p : Setting) (r : Pending) (k : ℕ) (os : List Outcome) : Type 0 where
  pub trace : TraceOf p r.from r.trace r.path
  pub event : k < length (path_of_run r)
  pub from : r.from ≤ k
  pub open_ones : (o : Outcome) → In o os → (o ≡ own_at k (path_of_run r)) ⊎ In o (others_of p (r.trace).input k)

abbrev pub Levels : (p : Setting) → List (List Outcome) → List Pending → Type 0
Levels p [] rs = Unit {0}
Levels p (os ∷ ls) [] = ⊥
Levels p (os ∷ ls) (r ∷ rs) = Level p r (length ls) os × Levels p ls (left_at (length ls) (r ∷ rs))

module _ (p : Setting) (after : Option Path) (limit : ℕ) (cuts : Bool) where
  abbrev pub Does : Job → State → List Item → State → Type 0
  Does j s a t = Search (layer_of p) after limit cuts j s a t

  -- what is still to come: the unsettled outcomes of the deepest level, then those of the next
  abbrev pub Rest : List (List Outcome) → List Pending → State → List Item → State → Type 0
  Rest [] rs s a t = (a ≡ []) × (t ≡ s)
  Rest (os ∷ ls) [] s a t = ⊥
  Rest (os ∷ ls) (r ∷ rs) s a t =
      (b : List Item) × (c : List Item) × (m : State) × (a ≡ b ++ c)
      × Does (among (take (length ls) (path_of_run r)) (r.trace).input (own_at (length ls) (path_of_run r)) os) s b m
      × Rest ls (left_at (length ls) (r ∷ rs)) m c t

  -- the same where the last run is still to be gone into below these levels
  abbrev pub Under : List (List Outcome) → Pending → List Pending → State → List Item → State → Type 0
  Under ls r rs s a t =
      (b : List Item) × (c : List Item) × (m : State) × (a ≡ b ++ c)
      × Does (below (take (length ls) (path_of_run r)) (r.trace).input) s b m
      × Rest ls (left_at (length ls) (r ∷ rs)) m c t
