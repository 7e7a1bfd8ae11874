-- The walks, read along their items: which items come, whatever inputs the solver picks. The walks are this project's own.
use Rattle.std.specs.Prelude.{ℕ, suc, ◌*◌, ◌-◌, ◌<◌, ◌≤◌, ◌≡◌, ◌⊎◌, ◌↔◌, Bool, true, List, [], ◌∷◌, ◌++◌, length, map, take, drop, Some, slice_get}
use Rattle.cc_base.specs.declared.inputs.Input.{Input}
use Rattle.cc_base.specs.declared.inputs.Test.{Test}
use Rattle.cc_base.specs.declared.outcomes.Outcome.{Outcome}
use Rattle.cc_base.specs.Paths.{Path, In, Ascend, next, BeginsWith}
use Rattle.cc_model.specs.declared.commands.Strategy.{Strategy}
use Rattle.cc_model.specs.declared.commands.Strategy.TheVariants.{Dfs, Random, UniformRandom, Cfg}
use Rattle.cc_model.specs.Listing.{Item, test_item, stray_item, spent_item}
use Rattle.cc_model.specs.Tested.{never, spent, turned}
use Rattle.rand_pcg.specs.Lcg.{Lcg}
use Rattle.tac_lower.specs.declared.tac.Tac.{Tac}
use Rattle.search_walks.specs.Distance.{entry, IsDistance}
use Rattle.search_walks.specs.Draws.{draw, after_draw, seeded}
use Rattle.search_base.specs.Setting.{Setting, layer_of, path_of, base_of}
use Rattle.search_walks.specs.Deciding.{Decides, Takes, side_of}

-- an alternative: the event's number, and the outcome
abbrev pub Candidate : Type 0
Candidate = ℕ × Outcome

-- the list without the one at place i
abbrev pub without : {A : Type 0} → ℕ → List A → List A
without i l = take i l ++ drop (suc i) l

module _ (s : Setting) where
  -- the test of a run on the input
  abbrev pub test_of : Input → Test
  test_of i = record { path = path_of s i; end = ((layer_of s).runs).end i; input = i }

  -- the prediction: the outcomes before the event, and the alternative
  abbrev pub prediction : Input → Candidate → Path
  prediction u (k, o) = next (take k (path_of s u)) o

  -- the run keeps its prediction
  abbrev pub Keeps : Input → Path → Type 0
  Keeps i p = BeginsWith (path_of s i) p

  -- the item of a run: a test where it keeps its prediction, else a stray
  pub data IsItemOf (i : Input) (p : Path) : Item → Type 0 where
    kept : Keeps i p → IsItemOf i p (test_item (test_of i))
    left : (Keeps i p → ⊥) → IsItemOf i p (stray_item (test_of i) p)

  -- what a solve gives: no input, none within the budget, or the input
  abbrev pub IsNever : Input → Path → Type 0
  IsNever u p = (layer_of s).Answers u p never

  abbrev pub IsSpent : Input → Path → Type 0
  IsSpent u p = (layer_of s).Answers u p spent

  pub record Gives (u : Input) (p : Path) (i : Input) : Type 0 where
    pub answer : (layer_of s).Answers u p turned
    pub within : ((layer_of s).runs).IsWithin i
    pub meets : (layer_of s).Meets u p i

  -- the alternatives of events of a run from number k on, by event and then by outcome
  abbrev pub at_event : ℕ → List Outcome → List Candidate
  at_event k os = map (λ o. (k, o)) os

  abbrev pub candidates_from : Input → ℕ → Path → List Candidate
  candidates_from u k [] = []
  candidates_from u k (o ∷ p) = at_event k ((layer_of s).others u k) ++ candidates_from u (suc k) p

  -- all of them
  abbrev pub candidates : Input → List Candidate
  candidates u = candidates_from u 0 (path_of s u)

  -- the outcomes of an event, its own and the alternatives, ascending
  pub record AreOutcomes (u : Input) (k : ℕ) (own : Outcome) (os : List Outcome) : Type 0 where
    pub is_own : slice_get (path_of s u) k ≡ Some own
    pub ascend : Ascend os
    pub all : (o : Outcome) → In o os ↔ ((o ≡ own) ⊎ In o ((layer_of s).others u k))

  -- ---- what directs a walk by the flow of the code

  -- the list holds for each outcome of each decision site whether one of the inputs' runs took it
  pub record IsCovered (inputs : List Input) (covered : List Bool) : Type 0 where
    pub each : (n : ℕ) (side b : Bool) → slice_get covered (entry n side) ≡ Some b → (b ≡ true) ↔ ((u : Input) × In u inputs × Takes s u n side)
    pub all : length covered ≡ 2 * length s.checked.sites

  -- the run takes an outcome of a decision that no run of the inputs took
  abbrev pub IsNew : Input → List Input → Type 0
  IsNew i inputs = (n : ℕ) × (side : Bool) × Takes s i n side × (((u : Input) × In u inputs × Takes s u n side) → ⊥)

  module _ (t : Tac) where
    -- the candidate at place j has this distance: it is the outcome of a decision
    pub record IsFar (u : Input) (covered : List Bool) (c : Candidate) (d : ℕ) : Type 0 where
      pub site : ℕ
      pub side : Bool
      pub decides : Decides s u c.0 site
      pub outcome : c.1 ≡ side_of side
      pub distance : IsDistance s.checked t covered site side (Some d)

    -- the candidate of least finite distance, on a tie the first
    pub record IsNearest (u : Input) (inputs : List Input) (cs : List Candidate) (j : ℕ) (c : Candidate) : Type 0 where
      pub covered : List Bool
      pub is_covered : IsCovered inputs covered
      pub is : slice_get cs j ≡ Some c
      pub d : ℕ
      pub far : IsFar u covered c d
      pub least : (i : ℕ) (x : Candidate) (e : ℕ) → slice_get cs i ≡ Some x → IsFar u covered x e → (d ≤ e) × (i < j → d < e)

    -- no candidate has a finite distance
    pub record HasNone (u : Input) (inputs : List Input) (cs : List Candidate) : Type 0 where
      pub covered : List Bool
      pub is_covered : IsCovered inputs covered
      pub none : (i : ℕ) (x : Candidate) (e : ℕ) → slice_get cs i ≡ Some x → IsFar u covered x e → ⊥

  -- at most `limit` runs; where it may be cut off, a walk may end anywhere
  module _ (limit : ℕ) (cuts : Bool) where
    -- ---- random branch: from the current run u, with the candidates that are left, the generator, and the runs made so far

    pub data Branches : Input → List Candidate → Lcg → ℕ → List Item → Type 0 where
      branch_full : (u : Input) (cs : List Candidate) (g : Lcg) → Branches u cs g limit []
      branch_none_left : (u : Input) (g : Lcg) (made : ℕ) → Branches u [] g made []
      branch_cut_off : (u : Input) (cs : List Candidate) (g : Lcg) (made : ℕ) → cuts ≡ true → Branches u cs g made []
      branch_never_one : (u : Input) (cs : List Candidate) (g : Lcg) (made : ℕ) (l : List Item) (c : Candidate) → made < limit →
          slice_get cs (draw (length cs) g) ≡ Some c → IsNever u (prediction u c) →
          Branches u (without (draw (length cs) g) cs) (after_draw g) made l → Branches u cs g made l
      branch_spent_one : (u : Input) (cs : List Candidate) (g : Lcg) (made : ℕ) (l : List Item) (c : Candidate) → made < limit →
          slice_get cs (draw (length cs) g) ≡ Some c → IsSpent u (prediction u c) →
          Branches u (without (draw (length cs) g) cs) (after_draw g) made l → Branches u cs g made (spent_item (prediction u c) ∷ l)
      branch_run_one : (u : Input) (cs : List Candidate) (g : Lcg) (made : ℕ) (l : List Item) (c : Candidate) (i : Input) (x : Item) → made < limit →
          slice_get cs (draw (length cs) g) ≡ Some c → Gives u (prediction u c) i → IsItemOf i (prediction u c) x →
          Branches i (candidates i) (after_draw g) (suc made) l → Branches u cs g made (x ∷ l)

    -- ---- uniform random: at event k of the run u, with the passes that are left behind this one

    pub data Passes : Input → ℕ → ℕ → Lcg → ℕ → List Item → Type 0 where
      pass_full : (u : Input) (k passes : ℕ) (g : Lcg) → Passes u k passes g limit []
      last_pass : (u : Input) (g : Lcg) (made : ℕ) → Passes u (length (path_of s u)) 0 g made []
      pass_cut_off : (u : Input) (k passes : ℕ) (g : Lcg) (made : ℕ) → cuts ≡ true → Passes u k passes g made []
      next_pass : (u : Input) (passes : ℕ) (g : Lcg) (made : ℕ) (l : List Item) → made < limit →
          Passes ((layer_of s).runs).base 0 passes g made l → Passes u (length (path_of s u)) (suc passes) g made l
      pass_no_draw : (u : Input) (k passes : ℕ) (g : Lcg) (made : ℕ) (l : List Item) → made < limit → k < length (path_of s u) →
          (layer_of s).others u k ≡ [] → Passes u (suc k) passes g made l → Passes u k passes g made l
      pass_own_one : (u : Input) (k passes : ℕ) (g : Lcg) (made : ℕ) (l : List Item) (own : Outcome) (os : List Outcome) → made < limit →
          ((layer_of s).others u k ≡ [] → ⊥) → AreOutcomes u k own os → slice_get os (draw (length os) g) ≡ Some own →
          Passes u (suc k) passes (after_draw g) made l → Passes u k passes g made l
      pass_never_one : (u : Input) (k passes : ℕ) (g : Lcg) (made : ℕ) (l : List Item) (own o : Outcome) (os : List Outcome) → made < limit →
          AreOutcomes u k own os → slice_get os (draw (length os) g) ≡ Some o → (o ≡ own → ⊥) → IsNever u (prediction u (k, o)) →
          Passes u (suc k) passes (after_draw g) made l → Passes u k passes g made l
      pass_spent_one : (u : Input) (k passes : ℕ) (g : Lcg) (made : ℕ) (l : List Item) (own o : Outcome) (os : List Outcome) → made < limit →
          AreOutcomes u k own os → slice_get os (draw (length os) g) ≡ Some o → (o ≡ own → ⊥) → IsSpent u (prediction u (k, o)) →
          Passes u (suc k) passes (after_draw g) made l → Passes u k passes g made (spent_item (prediction u (k, o)) ∷ l)
      pass_kept_one : (u : Input) (k passes : ℕ) (g : Lcg) (made : ℕ) (l : List Item) (own o : Outcome) (os : List Outcome) (i : Input) → made < limit →
          AreOutcomes u k own os → slice_get os (draw (length os) g) ≡ Some o → (o ≡ own → ⊥) → Gives u (prediction u (k, o)) i →
          Keeps i (prediction u (k, o)) → Passes i (suc k) passes (after_draw g) (suc made) l → Passes u k passes g made (test_item (test_of i) ∷ l)
      pass_left_one : (u : Input) (k passes : ℕ) (g : Lcg) (made : ℕ) (l : List Item) (own o : Outcome) (os : List Outcome) (i : Input) → made < limit →
          AreOutcomes u k own os → slice_get os (draw (length os) g) ≡ Some o → (o ≡ own → ⊥) → Gives u (prediction u (k, o)) i →
          (Keeps i (prediction u (k, o)) → ⊥) → Passes i 0 passes (after_draw g) (suc made) l →
          Passes u k passes g made (stray_item (test_of i) (prediction u (k, o)) ∷ l)

    -- ---- control-flow directed

    module _ (t : Tac) where
      -- from the current run u, with its candidates that are left, and the inputs that were run
      pub data Directed : Input → List Candidate → List Input → ℕ → List Item → Type 0 where
        directed_full : (u : Input) (cs : List Candidate) (ran : List Input) → Directed u cs ran limit []
        directed_none_near : (u : Input) (cs : List Candidate) (ran : List Input) (made : ℕ) → HasNone t u ran cs → Directed u cs ran made []
        directed_cut_off : (u : Input) (cs : List Candidate) (ran : List Input) (made : ℕ) → cuts ≡ true → Directed u cs ran made []
        directed_never_one : (u : Input) (cs : List Candidate) (ran : List Input) (made : ℕ) (l : List Item) (j : ℕ) (c : Candidate) → made < limit →
            IsNearest t u ran cs j c → IsNever u (prediction u c) → Directed u (without j cs) ran made l → Directed u cs ran made l
        directed_spent_one : (u : Input) (cs : List Candidate) (ran : List Input) (made : ℕ) (l : List Item) (j : ℕ) (c : Candidate) → made < limit →
            IsNearest t u ran cs j c → IsSpent u (prediction u c) → Directed u (without j cs) ran made l →
            Directed u cs ran made (spent_item (prediction u c) ∷ l)
        directed_new_one : (u : Input) (cs : List Candidate) (ran : List Input) (made : ℕ) (l : List Item) (j : ℕ) (c : Candidate) (i : Input) (x : Item) →
            made < limit → IsNearest t u ran cs j c → Gives u (prediction u c) i → IsItemOf i (prediction u c) x → IsNew i ran →
            Directed i (candidates i) (i ∷ ran) (suc made) l → Directed u cs ran made (x ∷ l)
        directed_old_one : (u : Input) (cs : List Candidate) (ran : List Input) (made : ℕ) (l : List Item) (j : ℕ) (c : Candidate) (i : Input) (x : Item) →
            made < limit → IsNearest t u ran cs j c → Gives u (prediction u c) i → IsItemOf i (prediction u c) x → (IsNew i ran → ⊥) →
            Directed u (without j cs) (i ∷ ran) (suc made) l → Directed u cs ran made (x ∷ l)

-- the items behind the first are those of a walk by the strategy, of at most so many runs: from the base run, which is made, with
-- the generator of the seed; where it may be cut off, it may end anywhere
abbrev pub WalkOf : Strategy → Setting → Tac → (runs seed : ℕ) → (cuts : Bool) → List Item → Type 0
WalkOf Dfs s t runs seed cuts l = ⊥
WalkOf Random s t runs seed cuts l = Branches s runs cuts (base_of s) (candidates s (base_of s)) (seeded seed) 1 l
WalkOf UniformRandom s t runs seed cuts l = Passes s runs cuts (base_of s) 0 (runs - 1) (seeded seed) 1 l
WalkOf Cfg s t runs seed cuts l = Directed s runs cuts t (base_of s) (candidates s (base_of s)) (base_of s ∷ []) 1 l
