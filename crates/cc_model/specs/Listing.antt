-- A listing, and what it owes.
use Rattle.std.specs.Prelude.{ℕ, suc, ◌+◌, ◌<◌, ◌≤◌, ◌≡◌, ◌⊎◌, ◌↔◌, List, [], ◌∷◌, length, Option, Some}
use Rattle.cc_base.specs.declared.ends.End.{End}
use Rattle.cc_base.specs.declared.ends.End.TheVariants.{Return, Assume, Cut, Objects, Steps, Fault}
use Rattle.cc_base.specs.declared.inputs.Input.{Input}
use Rattle.cc_base.specs.declared.inputs.Test.{Test}
use Rattle.cc_base.specs.declared.outcomes.Outcome.{Outcome}
use Rattle.cc_base.specs.Limits.{Limits}
use Rattle.cc_base.specs.Paths.{Path, In, Pairwise, Before, next, BeginsWith, in_common}
use Rattle.cc_model.specs.declared.terms.TermKind.{TermKind}
use Rattle.cc_model.specs.declared.terms.TermKind.TheVariants.{Product, Quotient, Index, Wide}
use Rattle.cc_model.specs.Tested.{Tested, Real, Term, Layer, Offers, never, spent, turned}

pub data Item : Type 0 where
  -- a listed test
  test_item : Test → Item
  -- a run that is not above the path after which the listing goes on
  past_item : Test → Item
  -- a run that left its prediction, which is the prefix
  stray_item : Test → Path → Item
  -- a prefix whose solve passed the budget
  spent_item : Path → Item
  -- an input that was solved for the prefix and not run
  unrun_item : Input → Path → Item

-- where an item stands in the order: at its path, or at its prefix
abbrev pub key : Item → Path
key (test_item t) = t.path
key (past_item t) = t.path
key (stray_item t p) = p
key (spent_item p) = p
key (unrun_item i p) = p

pub record Listing : Type 0 where
  pub bounds : Limits
  pub items : List Item
  pub terms : List Term

-- ---- counts

abbrev pub count_by : (Item → ℕ) → List Item → ℕ
count_by f [] = 0
count_by f (x ∷ l) = f x + count_by f l

abbrev pub is_test : Item → ℕ
is_test (test_item t) = 1
is_test (past_item t) = 0
is_test (stray_item t p) = 0
is_test (spent_item p) = 0
is_test (unrun_item i p) = 0

-- each run made has its item
abbrev pub is_run : Item → ℕ
is_run (test_item t) = 1
is_run (past_item t) = 1
is_run (stray_item t p) = 1
is_run (spent_item p) = 0
is_run (unrun_item i p) = 0

abbrev pub is_spent : Item → ℕ
is_spent (test_item t) = 0
is_spent (past_item t) = 0
is_spent (stray_item t p) = 0
is_spent (spent_item p) = 1
is_spent (unrun_item i p) = 0

abbrev pub at_steps : End → ℕ
at_steps Return = 0
at_steps Assume = 0
at_steps Cut = 0
at_steps Objects = 0
at_steps Steps = 1
at_steps (Fault k l) = 0

-- a listed test that the bound on steps ended
abbrev pub is_at_steps : Item → ℕ
is_at_steps (test_item t) = at_steps t.end
is_at_steps (past_item t) = 0
is_at_steps (stray_item t p) = 0
is_at_steps (spent_item p) = 0
is_at_steps (unrun_item i p) = 0

abbrev pub is_stray : Item → ℕ
is_stray (test_item t) = 0
is_stray (past_item t) = 0
is_stray (stray_item t p) = 1
is_stray (spent_item p) = 0
is_stray (unrun_item i p) = 0

abbrev pub is_unrun : Item → ℕ
is_unrun (test_item t) = 0
is_unrun (past_item t) = 0
is_unrun (stray_item t p) = 0
is_unrun (spent_item p) = 0
is_unrun (unrun_item i p) = 1

abbrev pub path_count : Listing → ℕ
path_count l = count_by is_test l.items

abbrev pub run_count : Listing → ℕ
run_count l = count_by is_run l.items

-- the five counts of a listing that may not be complete
pub record Counts : Type 0 where
  pub terms : ℕ
  pub spent : ℕ
  pub steps : ℕ
  pub strays : ℕ
  pub unrun : ℕ

abbrev pub counts_of : Listing → Counts
counts_of l = record {
  terms = length l.terms;
  spent = count_by is_spent l.items;
  steps = count_by is_at_steps l.items;
  strays = count_by is_stray l.items;
  unrun = count_by is_unrun l.items;
}

-- the five counts are zero
abbrev pub IsComplete : Listing → Type 0
IsComplete l = counts_of l ≡ record { terms = 0; spent = 0; steps = 0; strays = 0; unrun = 0 }

-- ---- the tests

abbrev pub tests : List Item → List Test
tests [] = []
tests (test_item t ∷ l) = t ∷ tests l
tests (past_item t ∷ l) = tests l
tests (stray_item t p ∷ l) = tests l
tests (spent_item p ∷ l) = tests l
tests (unrun_item i p ∷ l) = tests l

-- t is a test or past item of the list
abbrev pub Listed : Test → List Item → Type 0
Listed t l = In (test_item t) l ⊎ In (past_item t) l

-- t is a test, past or stray item of the list
abbrev pub WasRun : Test → List Item → Type 0
WasRun t l = Listed t l ⊎ (p : Path) × In (stray_item t p) l

-- p is the prefix of a spent, stray or unrun item
abbrev pub ClosedAt : Path → List Item → Type 0
ClosedAt p l = In (spent_item p) l ⊎ (((t : Test) × In (stray_item t p) l) ⊎ ((i : Input) × In (unrun_item i p) l))

module _ (after : Option Path) where
  -- above the path after which the listing goes on, where one is given
  abbrev pub Above : Path → Type 0
  Above p = (a : Path) → after ≡ Some a → Before a p

  -- not above it
  abbrev pub NotAbove : Path → Type 0
  NotAbove p = (a : Path) × (after ≡ Some a) × (Before a p → ⊥)

  -- below it and no prefix of it
  abbrev pub PassedOver : Path → Type 0
  PassedOver p = (a : Path) × (after ≡ Some a) × Before p a × (BeginsWith a p → ⊥)

  -- above it or a prefix of it
  abbrev pub Reached : Path → Type 0
  Reached p = (a : Path) → after ≡ Some a → Before a p ⊎ BeginsWith a p

  module _ (y : Tested) where
    -- ---- every path of every input, each once, in order

    pub record Enumerates (l : List Test) : Type 0 where
      pub ascending : Pairwise (λ t u. Before t.path u.path) l
      pub above : (t : Test) → In t l → Above t.path
      pub real : (t : Test) → In t l → Real y t
      pub all : (h : Input) → y.IsWithin h → Above (y.path h) → (t : Test) × In t l × (t.path ≡ y.path h)

    -- the same but for the inputs under a spent prefix, and those that are not below the unrun one
    pub record EnumeratesBut (l : List Test) (spents : Path → Type 0) (unruns : Path → Type 0) : Type 0 where
      pub ascending : Pairwise (λ t u. Before t.path u.path) l
      pub above : (t : Test) → In t l → Above t.path
      pub real : (t : Test) → In t l → Real y t
      pub all : (h : Input) → y.IsWithin h → Above (y.path h) →
          ((p : Path) → spents p → BeginsWith (y.path h) p → ⊥) → ((w : Path) → unruns w → Before (y.path h) w) →
          (t : Test) × In t l × (t.path ≡ y.path h)

    -- ---- what each listed item is

    pub record Sound (l : List Item) : Type 0 where
      pub ascending : Pairwise (λ x z. Before (key x) (key z)) l
      pub real : (t : Test) → WasRun t l → Real y t
      pub tests_above : (t : Test) → In (test_item t) l → Above t.path
      pub pasts_not_above : (t : Test) → In (past_item t) l → NotAbove t.path
      -- no two past items have equally many first outcomes in common with the path after which the listing goes on
      pub pasts_part : (t u : Test) (a : Path) → In (past_item t) l → In (past_item u) l → after ≡ Some a →
          in_common a t.path ≡ in_common a u.path → past_item t ≡ past_item u
      pub strays_left : (t : Test) (p : Path) → In (stray_item t p) l → BeginsWith t.path p → ⊥
      pub closed : (t : Test) (p : Path) → Listed t l → ClosedAt p l → BeginsWith t.path p → ⊥
      pub reached : (p : Path) → ClosedAt p l → Reached p
      pub spent_first : (p w : Path) (i : Input) → In (spent_item p) l → In (unrun_item i w) l → Before p w
      pub stray_first : (t : Test) (p w : Path) (i : Input) → In (stray_item t p) l → In (unrun_item i w) l → Before p w
      pub unrun_within : (i : Input) (w : Path) → In (unrun_item i w) l → y.IsWithin i
      pub one_unrun : count_by is_unrun l ≤ 1

    -- the base input was run and listed, and no more runs were made than allowed
    pub record Begun (limit : ℕ) (l : List Item) : Type 0 where
      pub base_listed : (t : Test) × Listed t l × (t.input ≡ y.base)
      pub within_limit : count_by is_run l ≤ limit

  module _ (y : Layer) where
    -- ---- each item has its cause in a listed run

    -- u is the input of a test or past item
    abbrev pub Source : Input → List Item → Type 0
    Source u l = (t : Test) × Listed t l × (t.input ≡ u)

    -- a listed input offers the last outcome of p, and i meets the condition
    abbrev pub Cause : List Item → Input → Path → Input → Type 0
    Cause l u p i = (q : Path) × (o : Outcome) × (p ≡ next q o) × Source u l × Offers y u q o × y.Meets u p i

    -- by line, then by column, then by the bytes of the kind
    abbrev pub kind_rank : TermKind → ℕ
    kind_rank Index = 0
    kind_rank Product = 1
    kind_rank Quotient = 2
    kind_rank Wide = 3

    abbrev pub TermBefore : Term → Term → Type 0
    TermBefore a c = (a.line < c.line) ⊎ ((a.line ≡ c.line) × ((a.col < c.col) ⊎ ((a.col ≡ c.col) × (kind_rank a.kind < kind_rank c.kind))))

    pub record Licensed (limit : ℕ) (l : Listing) : Type 0 where
      pub begun : Begun (y.runs) limit l.items
      pub run : (t : Test) → Listed t l.items → (t.input ≡ (y.runs).base) ⊎ ((u : Input) × (p : Path) × BeginsWith t.path p × Cause l.items u p t.input)
      pub stray : (t : Test) (p : Path) → In (stray_item t p) l.items → (u : Input) × Cause l.items u p t.input × (suc (y.clean u) < length p)
      pub spent : (p : Path) → In (spent_item p) l.items →
          (u : Input) × (q : Path) × (o : Outcome) × (p ≡ next q o) × Source u l.items × Offers y u q o × y.Answers u p spent
      pub unrun : (i : Input) (p : Path) → In (unrun_item i p) l.items → ((u : Input) × Cause l.items u p i) × (count_by is_run l.items ≡ limit)
      pub terms_ascend : Pairwise TermBefore l.terms
      pub terms : (e : Term) → In e l.terms ↔ ((t : Test) × WasRun t l.items × In e (y.terms t.input))

    -- what became of the alternative at p of the input u: it has no input, its line stands in the list, a listed path goes
    -- that way, the listing stopped before it, or it is passed over
    abbrev pub Settled : List Item → Input → Path → Type 0
    Settled l u p =
        y.Answers u p never
        ⊎ (ClosedAt p l
        ⊎ ((y.Answers u p turned × (t : Test) × Listed t l × BeginsWith t.path p)
        ⊎ (((i : Input) × (w : Path) × In (unrun_item i w) l × Before w p)
        ⊎ PassedOver p)))

    -- at each proper prefix of a listed path some listed run has all its alternatives settled
    abbrev pub Covered : List Item → Type 0
    Covered l = (t : Test) (q : Path) (own : Outcome) → Listed t l → BeginsWith t.path (next q own) →
        (u : Test) × Listed u l × BeginsWith u.path q × ((o : Outcome) → Offers y u.input q o → Settled l u.input (next q o))
