-- Where functions begin, and the places behind their calls: where returns lead.
use Rattle.std.specs.Prelude.{◌≡◌, ◌<◌, ◌≤◌, ◌⊎◌, ◌↔◌, ℕ, suc, Bool, true, List, length, Option, Some, None, slice_get}
use Rattle.tac_lower.specs.declared.instr.Instr.{Instr}
use Rattle.tac_lower.specs.declared.instr.Instr.TheVariants as instr
use Rattle.tac_lower.specs.declared.tac.TacFunc.{TacFunc}
use Rattle.tac_lower.specs.declared.tac.Tac.{Tac}
use Rattle.tac_lower.specs.Flow.{last_first, Calls, IsBehind}
use Rattle.search_walks.specs.Rows.{Has}

-- the function that an instruction calls
abbrev pub called : Instr → Option ℕ
called (instr.Call n f a m) = Some f
called _ = None

-- the place is marked, too, where there is such a place
pub record IsMarked (old new : List Bool) (place : ℕ) : Type 0 where
  pub places : length new ≡ length old
  pub each : (at : ℕ) → (slice_get new at ≡ Some true) ↔ ((slice_get old at ≡ Some true) ⊎ ((at < length old) × (at ≡ place)))

module _ (t : Tac) where
  -- one of the first k functions begins at a place
  pub record Begins (k at : ℕ) : Type 0 where
    pub number : ℕ
    pub before : number < k
    pub function : TacFunc
    pub is : slice_get t.funcs number ≡ Some function
    pub first : function.first ≡ at

  -- those places are marked at which one of the first k functions begins
  pub record BeginsUpTo (k : ℕ) (marks : List Bool) : Type 0 where
    pub places : length marks ≡ length t.code
    pub each : (at : ℕ) → (slice_get marks at ≡ Some true) ↔ ((at < length t.code) × Begins k at)

  -- where the function of each of the first k places begins
  pub record FirstsUpTo (k : ℕ) (firsts : List ℕ) : Type 0 where
    pub places : length firsts ≡ k
    pub each : (at : ℕ) → at < k → slice_get firsts at ≡ Some (last_first at t.funcs)

  -- the place behind an instruction that calls a function, at the function's first
  pub record IsBehindAt (at first to : ℕ) : Type 0 where
    pub there : first < length t.code
    pub calls : Calls t first (slice_get t.code at)
    pub next : to ≡ suc at

  -- the places behind those of the first k instructions that call a function, at the function's first
  pub record BehindUpTo (k : ℕ) (behind : List (List ℕ)) : Type 0 where
    pub places : length behind ≡ length t.code
    pub each : (first to : ℕ) → Has behind first to ↔ ((first < length t.code) × (to ≤ k) × IsBehind t first to)

  -- both tables of a code whose places are numbers of 32 bits
  pub record AreReturns (firsts : List ℕ) (behind : List (List ℕ)) : Type 0 where
    pub short : length t.code < 4294967296
    pub function : FirstsUpTo (length t.code) firsts
    pub calls : BehindUpTo (length t.code) behind
