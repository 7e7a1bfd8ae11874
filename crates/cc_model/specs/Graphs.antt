-- Graphs: the inputs of a function, whatever their blocks are named. The definitions are this project's own.
use Rattle.std.specs.Prelude.{ℕ, zero, suc, ◌+◌, ◌≤◌, ◌≡◌, ◌≢◌, ◌⊎◌, ℤ, pos, negsuc, List, [], ◌∷◌, ◌++◌, length, map, drop, nat_eq, if◌then◌else◌}
use Rattle.cc_base.specs.declared.ends.End.{End}
use Rattle.cc_base.specs.declared.inputs.Input.{Input}
use Rattle.cc_base.specs.declared.outcomes.Outcome.{Outcome}
use Rattle.cc_base.specs.Limits.{Limits, base_of}
use Rattle.cc_base.specs.Paths.{Path, In, Pairwise}
use Rattle.cc_model.specs.Core.{Cell, int_cell, ptr_cell, Program}
use Rattle.cc_model.specs.Meaning.{State, Ran}
use Rattle.cc_model.specs.Plain.{plain, Value, num, null, at, block, Data, locals_at, names_new, target}
use Rattle.cc_model.specs.Canonical.{Named, IsCanonical}
use Rattle.cc_model.specs.Runs.{Begin, end_of, path_of, run, fixed_of, value_of_start}

-- what a cell of a graph holds: a number, NULL, or a pointer to a block by its name
pub data Content : Type 0 where
  number : (z : ℤ) → Content
  nil : Content
  pointer : (name : ℕ) → Content

pub record Block : Type 0 where
  pub name : ℕ
  pub type : ℕ
  pub cells : List Content

-- the parameters' cells, the numbers that are taken, and the blocks: a finite map by their names, so their order says nothing
pub record Graph : Type 0 where
  pub params : List Content
  pub stream : List ℤ
  pub blocks : List Block

-- a cell of this type may hold this content: a number, or NULL or a block of the target type
abbrev pub Fits : Graph → Cell → Content → Type 0
Fits g int_cell (number z) = Unit {0}
Fits g (ptr_cell t) nil = Unit {0}
Fits g (ptr_cell t) (pointer a) = (k : Block) × In k g.blocks × (k.name ≡ a) × (k.type ≡ t)
Fits g _ _ = ⊥

-- cells of these types, one for each
abbrev pub FitAll : Graph → List Cell → List Content → Type 0
FitAll g [] [] = Unit {0}
FitAll g (c ∷ cs) (v ∷ vs) = Fits g c v × FitAll g cs vs
FitAll g _ _ = ⊥

-- a walk to the block a: a cell of the walk's first block points to a, a cell of the next one to that block, and so on,
-- and a parameter's cell to the last
abbrev pub Leads : Graph → List Block → ℕ → Type 0
Leads g [] a = In (pointer a) g.params
Leads g (k ∷ walk) a = In k g.blocks × In (pointer a) k.cells × Leads g walk k.name

abbrev pub Reached : Graph → ℕ → Type 0
Reached g a = (walk : List Block) × Leads g walk a

-- the parameters' cells and each block's are of their types, no two blocks have one name, and each is reached from the parameters
pub record IsGraph (layouts : ℕ → List Cell) (types : List Cell) (g : Graph) : Type 0 where
  pub params : FitAll g types g.params
  pub blocks : (k : Block) → In k g.blocks → FitAll g (layouts k.type) k.cells
  pub names : Pairwise (λ j k. j.name ≢ k.name) g.blocks
  pub reached : (k : Block) → In k g.blocks → Reached g k.name

-- ---- renaming

abbrev pub rename : (ℕ → ℕ) → Content → Content
rename r (number z) = number z
rename r nil = nil
rename r (pointer a) = pointer (r a)

abbrev pub rename_block : (ℕ → ℕ) → Block → Block
rename_block r k = record { name = r k.name; type = k.type; cells = map (rename r) k.cells }

-- r, which is one-to-one on the names of g's blocks, turns g into k
pub record Renames (g k : Graph) (r : ℕ → ℕ) : Type 0 where
  pub one_to_one : (i j : Block) → In i g.blocks → In j g.blocks → r i.name ≡ r j.name → i.name ≡ j.name
  pub params : k.params ≡ map (rename r) g.params
  pub stream : k.stream ≡ g.stream
  pub blocks : (i : Block) → In i g.blocks → In (rename_block r i) k.blocks
  pub no_more : (j : Block) → In j k.blocks → (i : Block) × In i g.blocks × (j ≡ rename_block r i)

-- ---- the graph of an input

unfoldable pub content_of : Cell → ℤ → Content
content_of int_cell z = number z
content_of (ptr_cell t) (pos zero) = nil
content_of (ptr_cell t) (pos (suc a)) = pointer (suc a)
content_of (ptr_cell t) (negsuc n) = nil

-- the contents of cells of these types, as long as there are numbers
unfoldable pub contents : List Cell → List ℤ → List Content
contents [] zs = []
contents (c ∷ cs) [] = []
contents (c ∷ cs) (z ∷ zs) = content_of c z ∷ contents cs zs

-- the numbers from an address on: the first cell has address 1
unfoldable pub from_address : ℕ → List ℤ → List ℤ
from_address zero zs = zs
from_address (suc n) zs = drop n zs

module _ (layouts : ℕ → List Cell) where
  -- the blocks that cells of the types that are due name, in order of address: a new block has the address `next`
  unfoldable pub named_by : List Cell → ℕ → List ℤ → List Named
  named_by [] next zs = []
  named_by (c ∷ due) next [] = []
  named_by (c ∷ due) next (z ∷ zs) = if names_new c z next
      then record { address = next; type = target c } ∷ named_by (due ++ layouts (target c)) (next + length (layouts (target c))) zs
      else named_by due next zs

  unfoldable pub block_at : List ℤ → Named → Block
  block_at zs k = record { name = k.address; type = k.type; cells = contents (layouts k.type) (from_address k.address zs) }

  -- the names of its blocks are their addresses
  unfoldable pub graph_of : List Cell → Input → Graph
  graph_of params h = record {
    params = contents params h.cells;
    stream = h.stream;
    blocks = map (block_at h.cells) (named_by params (suc (length params)) h.cells);
  }

-- ---- runs on graphs

unfoldable pub value_of : Content → Value
value_of (number z) = num z
value_of nil = null
value_of (pointer a) = at (block a) 0

unfoldable pub cells_named : ℕ → List Block → List Content
cells_named a [] = []
cells_named a (k ∷ l) = if nat_eq a k.name then k.cells else cells_named a l

-- as on an input: the parameters hold their cells, and the blocks are objects, under their names
unfoldable pub begin_on : Program → Limits → Graph → Begin Value Data
begin_on p b g = record {
  locals = locals_at;
  data_now = record {
    blocks = λ a. map value_of (cells_named a g.blocks);
    made = map value_of_start p.globals ∷ map (λ v. value_of v ∷ []) g.params;
    touched = [];
    stream = g.stream;
    base = base_of b;
    count = 0;
  };
}

unfoldable pub run_on : Program → Limits → Graph → Ran Outcome (State Value Data) (Unit {0})
run_on p b g = run plain (fixed_of p b) b.steps b.depth (begin_on p b g)

unfoldable pub path_on : Program → Limits → Graph → Path
path_on p b g = path_of plain (run_on p b g).log

unfoldable pub end_on : Program → Limits → Graph → End
end_on p b g = end_of (run_on p b g).result

-- ---- one list of cells for each graph

-- each type to which a pointer cell of the parameters or of a type points has a cell
abbrev pub PointsToCells : (ℕ → List Cell) → List Cell → Type 0
PointsToCells layouts params = (t : ℕ) → In (ptr_cell t) params ⊎ ((s : ℕ) × In (ptr_cell t) (layouts s)) → 1 ≤ length (layouts t)

-- an input but for the range of its numbers: it is one within some bounds
abbrev pub IsListed : (ℕ → List Cell) → List Cell → Input → Type 0
IsListed layouts params h = (b : Limits) × IsCanonical layouts b params h
