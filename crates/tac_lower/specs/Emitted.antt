-- What each emitter adds, in front of what was written. A result stands in the temporary n. There is room where the temporaries and the instructions are fewer than 2^32.
use Rattle.std.specs.Prelude.{◌≡◌, ℕ, suc, ◌+◌, ◌-◌, ◌<◌, List, [], ◌∷◌, ◌++◌, length, Option, unwrap_or, slice_get}
use Rattle.cc_model.specs.declared.checked.Checked.{Checked}
use Rattle.cc_model.specs.declared.checked.SiteKind.TheVariants.{Index}
use Rattle.cc_model.specs.Core.{Cell, Layout, Op, Val, Cond, Loc, Vals, Simple, Declarator, Stmt, Parts, Func}
use Rattle.cc_model.specs.Instructions.{Instruction, i_step, i_local, i_index}
use Rattle.tac_lower.specs.declared.instr.Instr.{Instr}
use Rattle.tac_lower.specs.Lowering.{arith_code, sides_code, number_code, value_code, decision_code, cond_code, locate_code, values_code, simply_code, declare_code, declare_all_code, simply_if_code, cond_if_code, return_code, exec_code, parts_code, func_code}
use Rattle.tac_lower.specs.Sizes.{op_size, value_size, decision_size, cond_size, locate_size, values_size, simply_size, declare_size, declare_all_size, simply_if_size, cond_if_size, return_size, exec_size, parts_size}
use Rattle.tac_lower.specs.Adding.{Adds, HasSite, OpSited, Sited, CondSited, PlaceSited, AllSited, SimpleSited, ValueIfSited, CondIfSited, SimpleIfSited, DeclaratorsSited, StmtSited, PartsSited}

abbrev pub Room : ℕ → List Instr → ℕ → Type 0
Room n old size = n + length old + size < 4294967296

module _ (c : Checked) where
  unfoldable pub AddsOperation : ℕ → Op → ℕ → (old new : List Instr) → Type 0
  AddsOperation t o n old new = Adds c old new (op_size o) (OpSited c t o × (n < 4294967295)) (λ total pc. arith_code t o n)

  -- by the decision in n to where y or z instructions stand behind
  unfoldable pub AddsSides : ℕ → ℕ → ℕ → (old new : List Instr) → Type 0
  AddsSides n y z old new = Adds c old new 2 (Unit {0}) (λ total pc. sides_code n (total - y) (total - z))

  unfoldable pub AddsValue : Val → ℕ → (old new : List Instr) → Type 0
  AddsValue v n old new = Adds c old new (value_size v) (Sited c v × Room n old (value_size v)) (λ total pc. value_code v pc n)

  unfoldable pub AddsDecision : Cond → ℕ → (old new : List Instr) → Type 0
  AddsDecision k n old new = Adds c old new (decision_size k) (CondSited c k × Room n old (decision_size k)) (λ total pc. decision_code k pc n)

  -- a condition that leads to where y or z instructions stand behind
  unfoldable pub AddsCond : Cond → ℕ → ℕ → ℕ → (old new : List Instr) → Type 0
  AddsCond k n y z old new = Adds c old new (cond_size k) (CondSited c k × Room n old (cond_size k)) (λ total pc. cond_code k pc n (total - y) (total - z))

  -- 1 or 0 at the end of a condition's jumps
  unfoldable pub AddsNumber : Cond → ℕ → (old new : List Instr) → Type 0
  AddsNumber k n old new = Adds c old new (cond_size k + 3) (CondSited c k × Room n old (cond_size k + 3))
      (λ total pc. cond_code k pc n (pc + length (cond_code k pc n 0 0)) (suc (suc (pc + length (cond_code k pc n 0 0)))) ++ number_code n (pc + length (cond_code k pc n 0 0)))

  -- from the array in n by the index in m
  unfoldable pub AddsIndex : ℕ → (cells width : ℕ) → (n m : ℕ) → (old new : List Instr) → Type 0
  AddsIndex t cells width n m old new = Adds c old new 1 ((width < 4294967296) × HasSite c Index t) (λ total pc. i_index t n n m cells width ∷ [])

  unfoldable pub AddsPlace : Loc → ℕ → (old new : List Instr) → Type 0
  AddsPlace l n old new = Adds c old new (locate_size l) (PlaceSited c l × Room n old (locate_size l)) (λ total pc. locate_code l pc n)

  unfoldable pub AddsValues : Vals → ℕ → (old new : List Instr) → Type 0
  AddsValues xs n old new = Adds c old new (values_size xs) (AllSited c xs × Room n old (values_size xs)) (λ total pc. values_code xs pc n)

  -- ---- statements: their temporaries are 0 to 3

  -- the line of a token
  abbrev pub line_in : ℕ → ℕ
  line_in t = unwrap_or (slice_get c.lines t) 0

  unfoldable pub AddsSimple : Simple → (old new : List Instr) → Type 0
  AddsSimple s old new = Adds c old new (simply_size s) (SimpleSited c s × Room 4 old (simply_size s)) (λ total pc. simply_code line_in s pc)

  unfoldable pub AddsSimpleIf : Option Simple → (old new : List Instr) → Type 0
  AddsSimpleIf s old new = Adds c old new (simply_if_size s) (SimpleIfSited c s × Room 4 old (simply_if_size s)) (λ total pc. simply_if_code line_in s pc)

  -- a new object for a local
  unfoldable pub AddsLocal : ℕ → Layout → (old new : List Instr) → Type 0
  AddsLocal slot type old new = Adds c old new 2 (Unit {0}) (λ total pc. i_step ∷ i_local slot type ∷ [])

  unfoldable pub AddsDeclarator : Declarator → (old new : List Instr) → Type 0
  AddsDeclarator d old new = Adds c old new (declare_size d) (ValueIfSited c d.start × Room 4 old (declare_size d)) (λ total pc. declare_code line_in d pc)

  unfoldable pub AddsDeclarators : List Declarator → (old new : List Instr) → Type 0
  AddsDeclarators ds old new = Adds c old new (declare_all_size ds) (DeclaratorsSited c ds × Room 4 old (declare_all_size ds)) (λ total pc. declare_all_code line_in ds pc)

  unfoldable pub AddsCondIf : Option Cond → ℕ → ℕ → (old new : List Instr) → Type 0
  AddsCondIf k y z old new = Adds c old new (cond_if_size k) (CondIfSited c k × Room 4 old (cond_if_size k)) (λ total pc. cond_if_code line_in k pc (total - y) (total - z))

  unfoldable pub AddsReturn : Cell → Option Val → (old new : List Instr) → Type 0
  AddsReturn res a old new = Adds c old new (return_size a) (ValueIfSited c a × Room 4 old (return_size a)) (λ total pc. return_code line_in res a pc)

  -- `break` and `continue` lead to where brk or cont instructions stand behind
  unfoldable pub AddsStmt : Cell → Stmt → (brk cont : ℕ) → (old new : List Instr) → Type 0
  AddsStmt res s brk cont old new = Adds c old new (exec_size s) (StmtSited c s × Room 4 old (exec_size s)) (λ total pc. exec_code line_in res s pc (total - brk) (total - cont))

  unfoldable pub AddsParts : Cell → Parts → (brk cont : ℕ) → (old new : List Instr) → Type 0
  AddsParts res s brk cont old new = Adds c old new (parts_size s) (PartsSited c s × Room 4 old (parts_size s)) (λ total pc. parts_code line_in res s pc (total - brk) (total - cont))

  -- a function: its step, its body, and 0 or NULL where the body ends without a return
  unfoldable pub AddsFunc : Func → (old new : List Instr) → Type 0
  AddsFunc f old new = Adds c old new (parts_size f.body + 3) (PartsSited c f.body × Room 4 old (parts_size f.body + 3)) (λ total pc. func_code line_in f pc)
