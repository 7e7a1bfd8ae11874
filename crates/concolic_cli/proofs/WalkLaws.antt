-- A walk may be cut off at its end, and behind its first run; what it lists.
use Rattle.std.proofs.Common.{◌≡◌, ℕ, Bool, true, false, inl, inr, List, [], ◌∷◌, refl, sym, subst}
use Rattle.cc_base.specs.declared.inputs.Input.{Input}
use Rattle.cc_base.specs.declared.inputs.Test.{Test}
use Rattle.cc_base.specs.Paths.{Path, In}
use Rattle.cc_model.specs.declared.commands.Strategy.{Strategy}
use Rattle.cc_model.specs.declared.commands.Strategy.TheVariants.{Dfs, Random, UniformRandom, Cfg}
use Rattle.cc_model.specs.Listing.{Item, test_item, stray_item, spent_item, unrun_item}
use Rattle.rand_pcg.specs.Lcg.{Lcg}
use Rattle.tac_lower.specs.declared.tac.Tac.{Tac}
use Rattle.search_base.specs.Setting.{Setting}
use Rattle.search_walks.specs.Output.{Begins}
use Rattle.search_walks.specs.Walks.{Candidate, Branches, branch_full, branch_none_left, branch_cut_off, branch_never_one, branch_spent_one, branch_run_one, Passes, pass_full, last_pass, pass_cut_off, next_pass, pass_no_draw, pass_own_one, pass_never_one, pass_spent_one, pass_kept_one, pass_left_one, Directed, directed_full, directed_none_near, directed_cut_off, directed_never_one, directed_spent_one, directed_new_one, directed_old_one, prediction, IsItemOf, kept, left, WalkOf}

module _ (s : Setting) (limit : ℕ) where
  branches_cut : (u : Input) (cs : List Candidate) (g : Lcg) (made : ℕ) (l : List Item) → Branches s limit false u cs g made l → Branches s limit true u cs g made l
  branches_cut _ _ _ _ _ (branch_full u cs g) = branch_full u cs g
  branches_cut _ _ _ _ _ (branch_none_left u g made) = branch_none_left u g made
  branches_cut _ _ _ _ _ (branch_cut_off u cs g made e) = branch_cut_off u cs g made refl
  branches_cut _ _ _ _ _ (branch_never_one u cs g made l c h a n w) = branch_never_one u cs g made l c h a n (branches_cut _ _ _ _ _ w)
  branches_cut _ _ _ _ _ (branch_spent_one u cs g made l c h a n w) = branch_spent_one u cs g made l c h a n (branches_cut _ _ _ _ _ w)
  branches_cut _ _ _ _ _ (branch_run_one u cs g made l c i x h a n k w) = branch_run_one u cs g made l c i x h a n k (branches_cut _ _ _ _ _ w)

  passes_cut : (u : Input) (k passes : ℕ) (g : Lcg) (made : ℕ) (l : List Item) → Passes s limit false u k passes g made l → Passes s limit true u k passes g made l
  passes_cut _ _ _ _ _ _ (pass_full u k passes g) = pass_full u k passes g
  passes_cut _ _ _ _ _ _ (last_pass u g made) = last_pass u g made
  passes_cut _ _ _ _ _ _ (pass_cut_off u k passes g made e) = pass_cut_off u k passes g made refl
  passes_cut _ _ _ _ _ _ (next_pass u passes g made l h w) = next_pass u passes g made l h (passes_cut _ _ _ _ _ _ w)
  passes_cut _ _ _ _ _ _ (pass_no_draw u k passes g made l h a n w) = pass_no_draw u k passes g made l h a n (passes_cut _ _ _ _ _ _ w)
  passes_cut _ _ _ _ _ _ (pass_own_one u k passes g made l own os h a n d w) = pass_own_one u k passes g made l own os h a n d (passes_cut _ _ _ _ _ _ w)
  passes_cut _ _ _ _ _ _ (pass_never_one u k passes g made l own o os h a d n v w) = pass_never_one u k passes g made l own o os h a d n v (passes_cut _ _ _ _ _ _ w)
  passes_cut _ _ _ _ _ _ (pass_spent_one u k passes g made l own o os h a d n v w) = pass_spent_one u k passes g made l own o os h a d n v (passes_cut _ _ _ _ _ _ w)
  passes_cut _ _ _ _ _ _ (pass_kept_one u k passes g made l own o os i h a d n v p w) = pass_kept_one u k passes g made l own o os i h a d n v p (passes_cut _ _ _ _ _ _ w)
  passes_cut _ _ _ _ _ _ (pass_left_one u k passes g made l own o os i h a d n v p w) = pass_left_one u k passes g made l own o os i h a d n v p (passes_cut _ _ _ _ _ _ w)

  directed_cut : (t : Tac) (u : Input) (cs : List Candidate) (ran : List Input) (made : ℕ) (l : List Item) → Directed s limit false t u cs ran made l → Directed s limit true t u cs ran made l
  directed_cut t _ _ _ _ _ (directed_full u cs ran) = directed_full u cs ran
  directed_cut t _ _ _ _ _ (directed_none_near u cs ran made n) = directed_none_near u cs ran made n
  directed_cut t _ _ _ _ _ (directed_cut_off u cs ran made e) = directed_cut_off u cs ran made refl
  directed_cut t _ _ _ _ _ (directed_never_one u cs ran made l j c h n v w) = directed_never_one u cs ran made l j c h n v (directed_cut t _ _ _ _ _ w)
  directed_cut t _ _ _ _ _ (directed_spent_one u cs ran made l j c h n v w) = directed_spent_one u cs ran made l j c h n v (directed_cut t _ _ _ _ _ w)
  directed_cut t _ _ _ _ _ (directed_new_one u cs ran made l j c i x h n v k a w) = directed_new_one u cs ran made l j c i x h n v k a (directed_cut t _ _ _ _ _ w)
  directed_cut t _ _ _ _ _ (directed_old_one u cs ran made l j c i x h n v k a w) = directed_old_one u cs ran made l j c i x h n v k a (directed_cut t _ _ _ _ _ w)

-- a whole walk is one that may be cut off
pub whole_cut : (strategy : Strategy) (s : Setting) (t : Tac) (runs seed : ℕ) (l : List Item) → WalkOf strategy s t runs seed false l → WalkOf strategy s t runs seed true l
whole_cut Dfs s t runs seed l w = w
whole_cut Random s t runs seed l w = branches_cut s runs _ _ _ _ l w
whole_cut UniformRandom s t runs seed l w = passes_cut s runs _ _ _ _ _ l w
whole_cut Cfg s t runs seed l w = directed_cut s runs t _ _ _ _ l w

-- a walk may be cut off at once
pub cut_at_once : (strategy : Strategy) (s : Setting) (t : Tac) (runs seed : ℕ) → (strategy ≡ Dfs → ⊥) → WalkOf strategy s t runs seed true []
cut_at_once Dfs s t runs seed n = absurd (n refl)
cut_at_once Random s t runs seed n = branch_cut_off _ _ _ _ refl
cut_at_once UniformRandom s t runs seed n = pass_cut_off _ _ _ _ _ refl
cut_at_once Cfg s t runs seed n = directed_cut_off _ _ _ _ refl

-- ---- a walk lists tests, strays and prefixes alone

abbrev pub AllRun : List Item → Type 0
AllRun l = (i : Input) (q : Path) → In (unrun_item i q) l → ⊥

none_run : AllRun []
none_run i q k = k

spent_run : (w : Path) (l : List Item) → AllRun l → AllRun (spent_item w ∷ l)
spent_run w l h i q (inl e) = cc e
spent_run w l h i q (inr k) = h i q k

test_run : (t : Test) (l : List Item) → AllRun l → AllRun (test_item t ∷ l)
test_run t l h i q (inl e) = cc e
test_run t l h i q (inr k) = h i q k

stray_run : (t : Test) (w : Path) (l : List Item) → AllRun l → AllRun (stray_item t w ∷ l)
stray_run t w l h i q (inl e) = cc e
stray_run t w l h i q (inr k) = h i q k

item_run : (s : Setting) (i : Input) (w : Path) (x : Item) (l : List Item) → IsItemOf s i w x → AllRun l → AllRun (x ∷ l)
item_run s i w _ l (kept k) h = test_run _ l h
item_run s i w _ l (left n) h = stray_run _ w l h

module _ (s : Setting) (limit : ℕ) (cuts : Bool) where
  branches_run : (u : Input) (cs : List Candidate) (g : Lcg) (made : ℕ) (l : List Item) → Branches s limit cuts u cs g made l → AllRun l
  branches_run _ _ _ _ _ (branch_full u cs g) = none_run
  branches_run _ _ _ _ _ (branch_none_left u g made) = none_run
  branches_run _ _ _ _ _ (branch_cut_off u cs g made e) = none_run
  branches_run _ _ _ _ _ (branch_never_one u cs g made l c h a n w) = branches_run _ _ _ _ l w
  branches_run _ _ _ _ _ (branch_spent_one u cs g made l c h a n w) = spent_run _ l (branches_run _ _ _ _ l w)
  branches_run _ _ _ _ _ (branch_run_one u cs g made l c i x h a n k w) = item_run s i (prediction s u c) x l k (branches_run _ _ _ _ l w)

  passes_run : (u : Input) (k passes : ℕ) (g : Lcg) (made : ℕ) (l : List Item) → Passes s limit cuts u k passes g made l → AllRun l
  passes_run _ _ _ _ _ _ (pass_full u k passes g) = none_run
  passes_run _ _ _ _ _ _ (last_pass u g made) = none_run
  passes_run _ _ _ _ _ _ (pass_cut_off u k passes g made e) = none_run
  passes_run _ _ _ _ _ _ (next_pass u passes g made l h w) = passes_run _ _ _ _ _ l w
  passes_run _ _ _ _ _ _ (pass_no_draw u k passes g made l h a n w) = passes_run _ _ _ _ _ l w
  passes_run _ _ _ _ _ _ (pass_own_one u k passes g made l own os h a n d w) = passes_run _ _ _ _ _ l w
  passes_run _ _ _ _ _ _ (pass_never_one u k passes g made l own o os h a d n v w) = passes_run _ _ _ _ _ l w
  passes_run _ _ _ _ _ _ (pass_spent_one u k passes g made l own o os h a d n v w) = spent_run _ l (passes_run _ _ _ _ _ l w)
  passes_run _ _ _ _ _ _ (pass_kept_one u k passes g made l own o os i h a d n v p w) = test_run _ l (passes_run _ _ _ _ _ l w)
  passes_run _ _ _ _ _ _ (pass_left_one u k passes g made l own o os i h a d n v p w) = stray_run _ _ l (passes_run _ _ _ _ _ l w)

  directed_run : (t : Tac) (u : Input) (cs : List Candidate) (ran : List Input) (made : ℕ) (l : List Item) → Directed s limit cuts t u cs ran made l → AllRun l
  directed_run t _ _ _ _ _ (directed_full u cs ran) = none_run
  directed_run t _ _ _ _ _ (directed_none_near u cs ran made n) = none_run
  directed_run t _ _ _ _ _ (directed_cut_off u cs ran made e) = none_run
  directed_run t _ _ _ _ _ (directed_never_one u cs ran made l j c h n v w) = directed_run t _ _ _ _ l w
  directed_run t _ _ _ _ _ (directed_spent_one u cs ran made l j c h n v w) = spent_run _ l (directed_run t _ _ _ _ l w)
  directed_run t _ _ _ _ _ (directed_new_one u cs ran made l j c i x h n v k a w) = item_run s i (prediction s u c) x l k (directed_run t _ _ _ _ l w)
  directed_run t _ _ _ _ _ (directed_old_one u cs ran made l j c i x h n v k a w) = item_run s i (prediction s u c) x l k (directed_run t _ _ _ _ l w)

walk_run : (strategy : Strategy) (s : Setting) (t : Tac) (runs seed : ℕ) (cuts : Bool) (l : List Item) → WalkOf strategy s t runs seed cuts l → AllRun l
walk_run Dfs s t runs seed cuts l w = absurd w
walk_run Random s t runs seed cuts l w = branches_run s runs cuts _ _ _ _ l w
walk_run UniformRandom s t runs seed cuts l w = passes_run s runs cuts _ _ _ _ _ l w
walk_run Cfg s t runs seed cuts l w = directed_run s runs cuts t _ _ _ _ l w

-- the items of a walk as a whole
pub begins_run : (strategy : Strategy) (s : Setting) (t : Tac) (runs seed : ℕ) (cuts : Bool) (items : List Item) → Begins s (WalkOf strategy s t runs seed cuts) items → AllRun items
begins_run strategy s t runs seed cuts items (l, e, w) = subst AllRun (sym e) (test_run _ l (walk_run strategy s t runs seed cuts l w))
