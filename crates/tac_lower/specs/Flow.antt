-- Which instructions have a site, and where instructions lead.
use Rattle.std.specs.Prelude.{◌≡◌, ℕ, zero, suc, ◌<◌, ◌⊎◌, ◌↔◌, max, Bool, if◌then◌else◌, nat_eq, nat_le, List, [], ◌∷◌, length, Option, Some, None, slice_get}
use Rattle.std.specs.List.{Contains}
use Rattle.std.specs.List.Sorted.{IsStrictlyIncreasing}
use Rattle.cc_model.specs.declared.checked.SiteId.{SiteId}
use Rattle.tac_lower.specs.declared.instr.Instr.{Instr}
use Rattle.tac_lower.specs.declared.instr.Instr.TheVariants as instr
use Rattle.tac_lower.specs.declared.tac.TacFunc.{TacFunc}
use Rattle.tac_lower.specs.declared.tac.Tac.{Tac}
use Rattle.tac_lower.specs.declared.flow.Way.{Way}
use Rattle.tac_lower.specs.declared.flow.Way.TheVariants as ways
use Rattle.tac_lower.specs.Finished.{first_in}

-- the site of an instruction: arithmetic, decisions, accesses and indices have one
abbrev pub site_in : Instr → Option SiteId
site_in (instr.Add s n a b) = Some s
site_in (instr.Sub s n a b) = Some s
site_in (instr.Mul s n a b) = Some s
site_in (instr.Quot s n a b) = Some s
site_in (instr.Rem s n a b) = Some s
site_in (instr.Divisor s a b) = Some s
site_in (instr.Neg s n a) = Some s
site_in (instr.Compare s o n a b) = Some s
site_in (instr.Truth s n a) = Some s
site_in (instr.Access s n a) = Some s
site_in (instr.Index s n a i m w) = Some s
site_in _ = None

-- ---- edges

-- the way on that an instruction names
abbrev pub way : Instr → Way
way (instr.Jump to) = ways.To to
way (instr.JumpZero a to) = ways.Beside to
way (instr.Call n f first m) = ways.Into f
way (instr.Return a) = ways.Back
way (instr.Stop kind line) = ways.Nowhere
way _ = ways.Next

-- the temporary of a decision's result
abbrev pub decided : Instr → Option ℕ
decided (instr.Compare s o n a b) = Some n
decided (instr.Truth s n a) = Some n
decided _ = None

-- the numbers of which P holds, ascending, each once
abbrev pub AreThose : (ℕ → Type 0) → List ℕ → Type 0
AreThose P l = IsStrictlyIncreasing l × ((n : ℕ) → Contains l n ↔ P n)

-- where the last of the functions begins that begin not above a place, and 0 where none does
abbrev pub last_first : ℕ → List TacFunc → ℕ
last_first at [] = 0
last_first at (f ∷ fs) = if nat_le f.first at then max f.first (last_first at fs) else last_first at fs

-- where an outcome of a decision leads, by the instruction behind it: a jump where the result is 0 tells the two apart
abbrev pub side : (at result : ℕ) → Bool → Option Instr → ℕ
side at n outcome (Some (instr.JumpZero a there)) = if nat_eq a n then (if outcome then suc (suc at) else there) else suc at
side at n outcome _ = suc at

module _ (t : Tac) where
  -- there is an instruction at a place of 32 bits
  abbrev pub IsPlace : ℕ → Type 0
  IsPlace to = (to < length t.code) × (to < 4294967296)

  -- a call of a function that begins at a place
  abbrev pub Calls : ℕ → Option Instr → Type 0
  Calls first (Some (instr.Call n f a m)) = first_in t f ≡ first
  Calls first _ = ⊥

  -- the place behind such a call
  abbrev pub IsBehind : ℕ → ℕ → Type 0
  IsBehind first zero = ⊥
  IsBehind first (suc at) = Calls first (slice_get t.code at)

  -- where an instruction leads: to the next one, to a target alone, to both, into the function that is called, to behind each call of its own function, or nowhere
  abbrev pub GoesTo : ℕ → Way → ℕ → Type 0
  GoesTo at ways.Next to = to ≡ suc at
  GoesTo at (ways.To there) to = to ≡ there
  GoesTo at (ways.Beside there) to = (to ≡ suc at) ⊎ (to ≡ there)
  GoesTo at (ways.Into f) to = to ≡ first_in t f
  GoesTo at ways.Back to = IsBehind (last_first at t.funcs) to
  GoesTo at ways.Nowhere to = ⊥

  -- a flow edge between two instructions
  pub record LeadsTo (at to : ℕ) : Type 0 where
    pub instruction : Instr
    pub is : slice_get t.code at ≡ Some instruction
    pub place : IsPlace to
    pub goes : GoesTo at (way instruction) to

  -- the places to which flow edges lead
  abbrev pub AreSuccessors : ℕ → List ℕ → Type 0
  AreSuccessors at l = AreThose (LeadsTo at) l

  -- an edge from an outcome of a decision
  pub record OutcomeLeadsTo (at : ℕ) (outcome : Bool) (to : ℕ) : Type 0 where
    pub instruction : Instr
    pub is : slice_get t.code at ≡ Some instruction
    pub result : ℕ
    pub decides : decided instruction ≡ Some result
    pub place : IsPlace to
    pub goes : to ≡ side at result outcome (slice_get t.code (suc at))
