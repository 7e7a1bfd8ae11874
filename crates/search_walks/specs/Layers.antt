-- What is known of distances while they are found layer by layer, going backwards from the outcomes that aren't covered.
use Rattle.std.specs.Prelude.{◌≡◌, ◌<◌, ◌≤◌, ◌⊎◌, ◌+◌, ◌*◌, ◌/◌, ℕ, suc, Bool, true, false, sum_by, List, length, Option, Some, None, slice_get}
use Rattle.cc_base.specs.Paths.{In}
use Rattle.cc_model.specs.declared.checked.Checked.{Checked}
use Rattle.tac_lower.specs.declared.tac.Tac.{Tac}
use Rattle.search_walks.specs.Distance.{entry, IsDecisionSite, DecidesAt, Flows, Walk}
use Rattle.search_walks.specs.Rows.{Has}
use Rattle.search_walks.specs.Backwards.{Edge, Arrives, IsDecision, FlowUpTo}

abbrev pub one_if_not : Bool → ℕ
one_if_not false = 1
one_if_not true = 0

abbrev pub one_if_none : Option ℕ → ℕ
one_if_none None = 1
one_if_none (Some d) = 0

-- how many are not passed
abbrev pub unpassed : List Bool → ℕ
unpassed l = sum_by one_if_not l

-- how many have no distance
abbrev pub nones : List (Option ℕ) → ℕ
nones l = sum_by one_if_none l

abbrev pub IsPassed : List Bool → ℕ → Type 0
IsPassed passed at = slice_get passed at ≡ Some true

pub record HasDistance (distances : List (Option ℕ)) (o : ℕ) : Type 0 where
  pub distance : ℕ
  pub is : slice_get distances o ≡ Some (Some distance)

-- those of which Q holds are passed, and the new ones of them are open
pub record Opens (passed : List Bool) (open' : List ℕ) (passed_new : List Bool) (open_new : List ℕ) (Q : ℕ → Type 0) : Type 0 where
  pub size : length passed_new ≡ length passed
  pub kept : (a : ℕ) → IsPassed passed a → IsPassed passed_new a
  pub were : (a : ℕ) → IsPassed passed_new a → IsPassed passed a ⊎ In a open_new
  pub still : (a : ℕ) → In a open' → In a open_new
  pub opened : (a : ℕ) → In a open_new → In a open' ⊎ Q a
  pub all : (a : ℕ) → Q a → a < length passed → IsPassed passed_new a
  pub fewer : unpassed passed_new + length open_new ≡ unpassed passed + length open'

-- those of which Q holds have a distance, and those that have it only now come next
pub record Gives (distance : ℕ) (old : List (Option ℕ)) (next : List ℕ) (new : List (Option ℕ)) (next_new : List ℕ) (Q : ℕ → Type 0) : Type 0 where
  pub size : length new ≡ length old
  pub kept : (o d : ℕ) → slice_get old o ≡ Some (Some d) → slice_get new o ≡ Some (Some d)
  pub given : (o d : ℕ) → slice_get new o ≡ Some (Some d) → (slice_get old o ≡ Some (Some d)) ⊎ (Q o × (d ≡ distance) × In o next_new)
  pub still : (o : ℕ) → In o next → In o next_new
  pub comes : (o : ℕ) → In o next_new → In o next ⊎ (Q o × (slice_get new o ≡ Some (Some distance)))
  pub all : (o : ℕ) → Q o → o < length old → HasDistance new o
  pub fewer : nones new + length next_new ≡ nones old + length next

-- an instruction is a decision of one of these outcomes' sites
pub record DecisionsOf (decisions : List (List ℕ)) (outcomes : List ℕ) (a : ℕ) : Type 0 where
  pub outcome : ℕ
  pub is_in : In outcome outcomes
  pub has : Has decisions (outcome / 2) a

module _ (c : Checked) (t : Tac) (covered : List Bool) where
  -- behind an instruction the next decision can be one from which there is a walk with so many further decisions
  pub record Near (m at : ℕ) : Type 0 where
    pub to : ℕ
    pub site : ℕ
    pub side : Bool
    pub flows : Flows c t at to
    pub decides : DecidesAt c t to site
    pub walk : Walk c t covered m site side

  pub record Within (n : ℕ) (distances : List (Option ℕ)) (o : ℕ) : Type 0 where
    pub distance : ℕ
    pub is : slice_get distances o ≡ Some (Some distance)
    pub most : distance ≤ n

  -- all that leads to an instruction is passed or has a distance
  pub record Done (distances : List (Option ℕ)) (passed : List Bool) (at : ℕ) : Type 0 where
    pub all_before : (b : ℕ) → Edge c t at b → IsPassed passed b
    pub all_outcomes : (o : ℕ) → Arrives c t at o → HasDistance distances o

  -- within the layer of distance suc m
  pub record Layer (m : ℕ) (distances : List (Option ℕ)) (passed : List Bool) (open' next : List ℕ) : Type 0 where
    pub sites : length distances ≡ 2 * length c.sites
    pub places : length passed ≡ length t.code
    pub near : (a : ℕ) → In a open' → Near m a
    pub closed : (a : ℕ) → IsPassed passed a → In a open' ⊎ Done distances passed a
    pub walks : (s : ℕ) (side : Bool) (d : ℕ) → slice_get distances (entry s side) ≡ Some (Some d) → Walk c t covered d s side
    pub most : (s : ℕ) (side : Bool) (d : ℕ) → slice_get distances (entry s side) ≡ Some (Some d) → d ≤ suc m
    pub later : (s : ℕ) (side : Bool) → slice_get distances (entry s side) ≡ Some (Some (suc m)) → In (entry s side) next
    pub comes : (o : ℕ) → In o next → slice_get distances o ≡ Some (Some (suc m))
    pub went : (s : ℕ) (side : Bool) (d at : ℕ) → slice_get distances (entry s side) ≡ Some (Some d) → d ≤ m → IsDecision c t s at → IsPassed passed at
    pub known : (n s : ℕ) (side : Bool) → n ≤ m → Walk c t covered n s side → Within n distances (entry s side)

  -- between two layers: all distances up to k are found
  pub record Found (k : ℕ) (distances : List (Option ℕ)) (passed : List Bool) (next : List ℕ) : Type 0 where
    pub sites : length distances ≡ 2 * length c.sites
    pub places : length passed ≡ length t.code
    pub closed : (a : ℕ) → IsPassed passed a → Done distances passed a
    pub walks : (s : ℕ) (side : Bool) (d : ℕ) → slice_get distances (entry s side) ≡ Some (Some d) → Walk c t covered d s side
    pub most : (s : ℕ) (side : Bool) (d : ℕ) → slice_get distances (entry s side) ≡ Some (Some d) → d ≤ k
    pub later : (s : ℕ) (side : Bool) → slice_get distances (entry s side) ≡ Some (Some k) → In (entry s side) next
    pub comes : (o : ℕ) → In o next → slice_get distances o ≡ Some (Some k)
    pub went : (s : ℕ) (side : Bool) (d at : ℕ) → slice_get distances (entry s side) ≡ Some (Some d) → d < k → IsDecision c t s at → IsPassed passed at
    pub known : (n s : ℕ) (side : Bool) → n ≤ k → Walk c t covered n s side → Within n distances (entry s side)

-- what passing backwards does, whatever the code
pub record Passing (before outcomes decisions : List (List ℕ)) (distance : ℕ) (d_old : List (Option ℕ)) (p_old : List Bool) (o_old n_old : List ℕ) (d_new : List (Option ℕ)) (p_new : List Bool) (o_new n_new : List ℕ) : Type 0 where
  pub layer : (c : Checked) (t : Tac) (covered : List Bool) (m : ℕ) → distance ≡ suc m → FlowUpTo c t (length t.code) before outcomes decisions →
      Layer c t covered m d_old p_old o_old n_old → Layer c t covered m d_new p_new o_new n_new
  pub fewer : nones d_new + length n_new ≡ nones d_old + length n_old

-- the outcome is that of a decision and not covered
pub record IsUncovered (c : Checked) (covered : List Bool) (o : ℕ) : Type 0 where
  pub is_site : IsDecisionSite c (o / 2)
  pub is_not : slice_get covered o ≡ Some false

-- the first outcomes: those that aren't covered have the distance 0
pub record Starts (c : Checked) (covered : List Bool) (k : ℕ) (distances : List (Option ℕ)) (next : List ℕ) : Type 0 where
  pub size : length distances ≡ k
  pub given : (o d : ℕ) → slice_get distances o ≡ Some (Some d) → (d ≡ 0) × IsUncovered c covered o
  pub all : (o : ℕ) → o < k → IsUncovered c covered o → slice_get distances o ≡ Some (Some 0)
  pub comes : (o : ℕ) → In o next → slice_get distances o ≡ Some (Some 0)
  pub later : (o : ℕ) → slice_get distances o ≡ Some (Some 0) → In o next
