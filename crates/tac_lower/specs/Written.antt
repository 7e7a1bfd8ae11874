-- The code of functions while it is written: from the end of the last one to the first.
use Rattle.std.specs.Prelude.{◌≡◌, ℕ, ◌+◌, ◌<◌, List, [], ◌∷◌, length, reverse, Option, Some, None, slice_get, drop}
use Rattle.cc_model.specs.declared.checked.Checked.{Checked}
use Rattle.cc_model.specs.Core.{Func}
use Rattle.cc_model.specs.declared.checked.Sig.{Sig}
use Rattle.cc_model.specs.CheckedProgram.{cells_at, funcs_from}
use Rattle.tac_lower.specs.declared.instr.Instr.{Instr}
use Rattle.tac_lower.specs.declared.tac.TacFunc.{TacFunc}
use Rattle.tac_lower.specs.Adding.{ordered, PartsSited}
use Rattle.tac_lower.specs.Emitted.{line_in, AddsFunc}
use Rattle.tac_lower.specs.Finished.{IsFunc, AreFuncs}
use Rattle.tac_lower.specs.Lowering.{code_from, first_from}

-- how many instructions stand behind a function's first one; 0 where there is no such function
abbrev pub behind_of : Option TacFunc → ℕ
behind_of None = 0
behind_of (Some f) = f.first

module _ (c : Checked) where
  abbrev pub FuncsSited : List Func → Type 0
  FuncsSited [] = Unit {0}
  FuncsSited (f ∷ fs) = PartsSited c f.body × FuncsSited fs

  -- each type has fewer than 2^32 cells
  abbrev pub Narrow : Type 0
  Narrow = (n : ℕ) → length (cells_at c n) < 4294967296

  -- the code of these functions was written, and each one's `first` is how many instructions stood behind it then
  pub record IsWritten (fs : List Func) (code : List Instr) (funcs : List TacFunc) : Type 0 where
    pub reads : FuncsSited fs → 4 + length code < 4294967296 → (total pc : ℕ) → pc + length code ≡ total → ordered c total code ≡ code_from (line_in c) fs pc
    pub firsts : (total pc i : ℕ) → pc + length code ≡ total → first_from (line_in c) fs pc i + behind_of (slice_get (reverse funcs) i) ≡ total

  -- the function's code was added, and this is known of it
  pub record IsDefined (f : Func) (s : Sig) (old new : List Instr) (g : TacFunc) : Type 0 where
    pub adds : AddsFunc c f old new
    pub first : g.first ≡ length new
    pub has : IsFunc s g

  -- the functions from number n on are written
  pub record AreWritten (n : ℕ) (written : List Instr) (known : List TacFunc) : Type 0 where
    pub code : IsWritten (funcs_from c n (drop n c.funcs)) written known
    pub funcs : AreFuncs (drop n c.funcs) (reverse known)
