-- A finished code: where its jumps lead, the temporaries that it names, and its functions.
use Rattle.std.specs.Prelude.{◌≡◌, ℕ, ◌+◌, ◌-◌, ◌≤◌, max, List, [], ◌∷◌, length, option_map, unwrap_or, slice_get}
use Rattle.cc_model.specs.declared.checked.Sig.{Sig}
use Rattle.tac_lower.specs.declared.instr.Instr.{Instr}
use Rattle.tac_lower.specs.declared.instr.Instr.TheVariants as instr
use Rattle.tac_lower.specs.declared.tac.TacFunc.{TacFunc}
use Rattle.tac_lower.specs.declared.tac.Tac.{Tac}

-- the place that a jump leads to, where it said how many instructions of all stand behind that place
abbrev pub placed : (total : ℕ) → Instr → Instr
placed total (instr.Jump behind) = instr.Jump (total - behind)
placed total (instr.JumpZero a behind) = instr.JumpZero a (total - behind)
placed total i = i

-- the same of a function's first instruction, and how many temporaries the code has
abbrev pub completed : (total temps : ℕ) → TacFunc → TacFunc
completed total temps f = record { first = total - f.first; params = f.params; temps = temps; slots = f.slots }

-- where the code of a function begins, and the length of the code where there is no such function
abbrev pub first_in : Tac → ℕ → ℕ
first_in t n = unwrap_or (option_map (λ f. f.first) (slice_get t.funcs n)) (length t.code)

-- one more than the last temporary that an instruction names, and 0 where it names none
abbrev pub named : Instr → ℕ
named (instr.Number n z) = n + 1
named (instr.Nil n) = n + 1
named (instr.Copy n a) = max n a + 1
named (instr.Add s n a b) = max n (max a b) + 1
named (instr.Sub s n a b) = max n (max a b) + 1
named (instr.Mul s n a b) = max n (max a b) + 1
named (instr.Quot s n a b) = max n (max a b) + 1
named (instr.Rem s n a b) = max n (max a b) + 1
named (instr.Divisor s a b) = max a b + 1
named (instr.Neg s n a) = max n a + 1
named (instr.Compare s o n a b) = max n (max a b) + 1
named (instr.Truth s n a) = max n a + 1
named (instr.Slot n s) = n + 1
named (instr.Glob n g) = n + 1
named (instr.Access s n a) = max n a + 1
named (instr.Offset n a m) = max n a + 1
named (instr.Index s n a i m w) = max n (max a i) + 1
named (instr.Load n a) = max n a + 1
named (instr.Store a b) = max a b + 1
named (instr.Malloc n y) = n + 1
named (instr.Take a) = a + 1
named (instr.JumpZero a to) = a + 1
named (instr.Call n f first m) = max (n + 1) (first + m)
named (instr.Return a) = a + 1
named (instr.Unless a) = a + 1
named _ = 0

-- each temporary that the code names is one of so many
abbrev pub AllBelow : ℕ → List Instr → Type 0
AllBelow t [] = Unit {0}
AllBelow t (i ∷ l) = (named i ≤ t) × AllBelow t l

-- as many parameters and slots as the function has
pub record IsFunc (s : Sig) (f : TacFunc) : Type 0 where
  pub params : f.params ≡ length s.params
  pub slots : f.slots ≡ length s.slots

abbrev pub AreFuncs : List Sig → List TacFunc → Type 0
AreFuncs [] [] = Unit {0}
AreFuncs (s ∷ ss) (f ∷ fs) = IsFunc s f × AreFuncs ss fs
AreFuncs _ _ = ⊥

-- a function's temporaries are all that any instruction of the code names
abbrev pub TempsAbove : List TacFunc → List Instr → Type 0
TempsAbove [] code = Unit {0}
TempsAbove (f ∷ fs) code = AllBelow f.temps code × TempsAbove fs code
