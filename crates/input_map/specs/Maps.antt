-- Map texts. The rules are this project's own.
use Rattle.std.specs.Prelude.{ℕ, suc, ◌^◌, ◌<◌, ◌≡◌, ◌⊎◌, ℤ, unsigned_abs, List, [], ◌∷◌, ◌++◌, length, take}
use Rattle.cc_base.specs.declared.inputs.Input.{Input}
use Rattle.cc_base.specs.Inputs.{map_text}

-- a number of at most 18 digits
abbrev pub IsShort : ℤ → Type 0
IsShort z = unsigned_abs z < 10 ^ 18

abbrev pub AllShort : List ℤ → Type 0
AllShort [] = Unit {0}
AllShort (z ∷ zs) = IsShort z × AllShort zs

-- the text is the map text of these cells and this stream, whatever cells they are and whatever bounds
pub record IsMap (text : List ℕ) (h : Input) : Type 0 where
  pub written : text ≡ map_text h
  pub cells : AllShort h.cells
  pub stream : AllShort h.stream

-- some map text begins with these bytes
abbrev pub BeginsMap : List ℕ → Type 0
BeginsMap start = (rest : List ℕ) × (h : Input) × IsMap (start ++ rest) h

-- the text is no map text, from byte number n on, counted from 1: the bytes before it begin one, and with it they begin
-- none; or the text ends before byte n, begins one and is none
pub record MalformedAt (text : List ℕ) (n : ℕ) : Type 0 where
  pub before : ℕ
  pub number : n ≡ suc before
  pub begins : BeginsMap (take before text)
  pub no_more : ((before < length text) × (BeginsMap (take (suc before) text) → ⊥)) ⊎ ((before ≡ length text) × ((h : Input) → IsMap text h → ⊥))
