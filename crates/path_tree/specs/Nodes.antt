-- The nodes of a tree, and what they stand for. The layout is this project's own.
use Rattle.std.specs.Prelude.{ℕ, zero, suc, ◌+◌, ◌*◌, ◌<◌, ◌≤◌, ◌≡◌, List, [], ◌∷◌, length, map, nat_eq, if◌then◌else◌, Option, Some, None, slice_index_or}
use Rattle.cc_base.specs.declared.outcomes.Outcome.{Outcome}
use Rattle.cc_base.specs.declared.outcomes.Outcome.TheVariants.{Plain}
use Rattle.cc_base.specs.Paths.{Ascend}
use Rattle.path_tree.specs.declared.Node.{Node}
use Rattle.path_tree.specs.Branches.{unsettled}

-- a node with no links
abbrev pub blank : Node
blank = record { outcome = Plain; parent = None; first_child = None; next_sibling = None }

-- the node at an index
abbrev pub node_at : List Node → ℕ → Node
node_at ns i = slice_index_or ns i blank

-- the outcomes of the chain of siblings from a link, as far as some number of them
abbrev pub siblings : ℕ → List Node → Option ℕ → List Outcome
siblings zero ns link = []
siblings (suc n) ns None = []
siblings (suc n) ns (Some i) = (node_at ns i).outcome ∷ siblings n ns (node_at ns i).next_sibling

-- the levels from a link upward, as far as some number of them
abbrev pub levels_up : ℕ → List Node → Option ℕ → List (List Outcome)
levels_up zero ns link = []
levels_up (suc n) ns None = []
levels_up (suc n) ns (Some i) = siblings (length ns) ns (node_at ns i).first_child ∷ levels_up n ns (node_at ns i).parent

-- the indexes of the chain of siblings from a link
abbrev pub Chain : List Node → Option ℕ → List ℕ → Type 0
Chain ns link [] = link ≡ None
Chain ns link (i ∷ is) = (link ≡ Some i) × (i < length ns) × Chain ns (node_at ns i).next_sibling is

-- the places of a level: its own index, and those of its outcomes
pub record Places : Type 0 where
  pub own : ℕ
  pub outcomes : List ℕ

-- the places of the levels from a link upward
abbrev pub Up : List Node → Option ℕ → List Places → Type 0
Up ns link [] = link ≡ None
Up ns link (l ∷ ls) = (link ≡ Some l.own) × (l.own < length ns) × Chain ns (node_at ns l.own).first_child l.outcomes × Up ns (node_at ns l.own).parent ls

-- the outcomes that the places hold
abbrev pub spelled : List Node → List Places → List (List Outcome)
spelled ns [] = []
spelled ns (l ∷ ls) = map (λ i. (node_at ns i).outcome) l.outcomes ∷ spelled ns ls

-- 1 where the indexes are one
unfoldable pub same : ℕ → ℕ → ℕ
same k i = if nat_eq k i then 1 else 0

-- how often an index stands in a list
abbrev pub times : ℕ → List ℕ → ℕ
times k [] = 0
times k (i ∷ is) = same k i + times k is

-- how often an index stands in the places of levels
abbrev pub times_up : ℕ → List Places → ℕ
times_up k [] = 0
times_up k (l ∷ ls) = same k l.own + times k l.outcomes + times_up k ls

-- how many nodes the levels use
abbrev pub used : List Places → ℕ
used [] = 0
used (l ∷ ls) = 1 + length l.outcomes + used ls

-- each level ascends, and has at most 29 outcomes
abbrev pub WellFormed : List (List Outcome) → Type 0
WellFormed [] = Unit {0}
WellFormed (os ∷ rest) = Ascend os × (length os ≤ 29) × WellFormed rest

-- the nodes stand for these levels: the levels and the free chain hold each node once
pub record Shows (ns : List Node) (deepest free : Option ℕ) (most depth live : ℕ) (ls : List (List Outcome)) : Type 0 where
  pub standing : List Places
  pub spare : List ℕ
  pub chained : Up ns deepest standing
  pub freed : Chain ns free spare
  pub apart : (k : ℕ) → times_up k standing + times k spare ≤ 1
  pub whole : used standing + length spare ≡ length ns
  pub spells : spelled ns standing ≡ ls
  pub fits : WellFormed ls
  pub room : length ns ≡ 30 * most
  pub deep : depth ≡ length ls
  pub within : depth ≤ most
  pub alive : live ≡ unsettled ls
  pub small : most ≤ 1025
