-- The numbers at which atoms of one place may hold.
use Rattle.std.specs.Prelude.{ℕ, ◌<◌, ◌≡◌, Bool, true, false, get_or, ℤ, pos, ◌+ℤ◌, ◌*ℤ◌, ◌≤ℤ◌, List, [], ◌∷◌, Option, Some, None}
use Rattle.std.specs.declared.vec.Vec.{Vec}
use Rattle.std.specs.declared.alloc.Global.{Global}
use Rattle.cc_base.specs.declared.forms.Multiple.{Multiple}
use Rattle.cc_base.specs.Groups.{Atom, Holds, HoldAll, form_of}
use Rattle.cc_base.specs.Witness.{changed, origin}
use Rattle.linear_solver.specs.Seen.{at_places}
use Rattle.linear_solver.specs.declared.one_place.Span.{Span}

-- t lies in s, and has each z of s that P holds of
pub record Keeps (P : ℤ → Type 0) (s t : Span) : Type 0 where
  pub low : s.low ≤ℤ t.low
  pub high : t.high ≤ℤ s.high
  pub all : (z : ℤ) → s.low ≤ℤ z → z ≤ℤ s.high → P z → (t.low ≤ℤ z) × (z ≤ℤ t.high)

-- those z with c * z + k at most 0
abbrev pub Narrows : Span → ℤ → ℤ → Span → Type 0
Narrows s c k t = Keeps (λ z. ((c *ℤ z) +ℤ k) ≤ℤ pos 0) s t

-- the terms name no place but x
abbrev pub Only : ℕ → List Multiple → Type 0
Only x [] = Unit {0}
Only x (t ∷ l) = (t.place ≡ x) × Only x l

abbrev pub OnlyAll : ℕ → List Atom → Type 0
OnlyAll x [] = Unit {0}
OnlyAll x (a ∷ l) = Only x (form_of a).terms × OnlyAll x l

-- those z at which the atom holds
abbrev pub Encloses : ℕ → Atom → Span → Span → Type 0
Encloses x a s t = Keeps (λ z. Holds (changed origin x z) a) s t

abbrev pub EnclosesAll : ℕ → List Atom → Span → Span → Type 0
EnclosesAll x l s t = Keeps (λ z. HoldAll (changed origin x z) l) s t

-- values at which the atoms hold, the place's in lo..hi; or there are none
abbrev pub FoundAt : ℤ → ℤ → ℕ → List Atom → Option (Vec ℤ Global) → Type 0
FoundAt lo hi x l None = (z : ℤ) → lo ≤ℤ z → z ≤ℤ hi → HoldAll (changed origin x z) l → ⊥
FoundAt lo hi x l (Some v) = (lo ≤ℤ at_places v.items x) × (at_places v.items x ≤ℤ hi) × HoldAll (at_places v.items) l

-- the span has n numbers
pub record Counted (s : Span) (n : ℕ) : Type 0 where
  pub within : (k : ℕ) → k < n → (s.low +ℤ pos k) ≤ℤ s.high
  pub each : (z : ℤ) → s.low ≤ℤ z → z ≤ℤ s.high → (k : ℕ) × (k < n) × (z ≡ s.low +ℤ pos k)

-- values with the number z at the place, at which the atoms hold; or they don't hold
abbrev pub TriedAt : ℕ → ℤ → List Atom → Option (Vec ℤ Global) → Type 0
TriedAt x z l None = HoldAll (changed origin x z) l → ⊥
TriedAt x z l (Some v) = (at_places v.items ≡ changed origin x z) × HoldAll (at_places v.items) l

-- the atom doesn't hold where the place has the number that lies n from l
abbrev pub Excludes : ℕ → ℤ → Atom → ℕ → Type 0
Excludes x l a n = Holds (changed origin x (l +ℤ pos n)) a → ⊥

-- the atoms don't all hold where the place has a marked number; the marks are by the distance from l
abbrev pub ExcludesOnly : ℕ → ℤ → List Atom → List Bool → Type 0
ExcludesOnly x l a m = (k : ℕ) → get_or m k false ≡ true → HoldAll (changed origin x (l +ℤ pos k)) a → ⊥
