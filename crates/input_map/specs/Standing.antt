-- How the checker of cells goes on from cell to cell.
use Rattle.std.specs.Prelude.{ℕ, suc, ◌+◌, ◌*◌, ◌<◌, ◌≤◌, ◌≡◌, ◌⊎◌, ◌||◌, min, Bool, false, ℤ, pos, negsuc, nat_eq, List, [], ◌++◌, length, map, drop, Option, Some, None, Result, Ok, Err}
use Rattle.std.specs.Ordering.{nat_cmp}
use Rattle.std.specs.BTreeSet.{contains, BTreeSet}
use Rattle.cc_base.specs.declared.cells.CellTy.{CellTy}
use Rattle.cc_base.specs.Limits.{Limits}
use Rattle.cc_model.specs.Core.{Cell}
use Rattle.cc_model.specs.Canonical.{Named}
use Rattle.cc_model.specs.CheckedProgram.{cell_of}
use Rattle.input_map.specs.declared.faults.MapFault.{MapFault}
use Rattle.input_map.specs.declared.faults.MapFault.TheVariants.{NoMemory}
use Rattle.input_map.specs.declared.checking.Standing.{Standing}
use Rattle.input_map.specs.CellFaults.{is_named, cells_fault}

-- the key of a block: its address and its type
abbrev pub key : ℕ → ℕ → ℕ
key a t = a * 4294967296 + t

-- as `is_old`, by the keys
abbrev pub has_old : BTreeSet ℕ → ℕ → ℤ → Bool
has_old keys t (pos a) = nat_eq a 0 || contains nat_cmp keys (key a t)
has_old keys t (negsuc n) = false

-- where the checker stands before cell number `at`, from 0: `due`, `named` and `next` are those of the rule of inputs.
-- It has the types of all cells, or at least of the first `most`, and counts no further than 2^64 - 1.
pub record Stands (most at : ℕ) (s : Standing) (due : List Cell) (named : List Named) (next : ℕ) : Type 0 where
  pub rest : List Cell
  pub due_is : due ≡ drop at (map cell_of s.types) ++ rest
  pub covered : (rest ≡ []) ⊎ (most ≤ length s.types)
  pub reached : at ≤ length s.types
  pub next_is : next ≡ suc (at + length due)
  pub counted : s.next ≡ min next 18446744073709551615
  pub keys : (a t : ℕ) → t < 4294967296 → contains nat_cmp s.named (key a t) ≡ is_named named t a

module _ (layouts : ℕ → List Cell) (b : Limits) (most : ℕ) where
  -- the cells from number `at` on have the fault o, or none
  pub record Follows (at : ℕ) (s : Standing) (zs : List ℤ) (o : Option MapFault) : Type 0 where
    pub due : List Cell
    pub named : List Named
    pub next : ℕ
    pub stands : Stands most at s due named next
    pub fault : cells_fault layouts b due named next (suc at) zs ≡ o

  -- a step either goes on or gives the fault
  abbrev pub GoesOn : {A : Type 0} → ℕ → Result A MapFault → Standing → List ℤ → Option MapFault → Type 0
  GoesOn at (Ok u) s zs o = Follows (suc at) s zs o
  GoesOn at (Err f) s zs o = (f ≡ NoMemory) ⊎ (o ≡ Some f)

-- the answer to whether there is a fault
abbrev pub Judges : {A : Type 0} → Result A MapFault → Option MapFault → Type 0
Judges (Ok u) o = o ≡ None
Judges (Err f) o = (f ≡ NoMemory) ⊎ (o ≡ Some f)

-- a block was named: its key is in, its cells are counted, and their types are there where they matter
pub record Names (most address target : ℕ) (cells : List CellTy) (s r : Standing) : Type 0 where
  pub types : ((length s.types < most) × (r.types ≡ s.types ++ cells)) ⊎ ((most ≤ length s.types) × (r.types ≡ s.types))
  pub counted : r.next ≡ min (s.next + length cells) 18446744073709551615
  pub keys : (q : ℕ) → contains nat_cmp r.named q ≡ nat_eq (key address target) q || contains nat_cmp s.named q
