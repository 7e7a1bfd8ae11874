-- What cells mean stays when symbols are added behind.
use Rattle.std.proofs.Common.{◌≡◌, ◌∙◌, refl, sym, ap, subst, arith, ℕ, zero, suc, ◌<◌, ◌≤◌, List, [], ◌∷◌, ◌++◌, length, Option, Some, append_assoc}
use Rattle.std.specs.List.{slice_get}
use Rattle.checked_memory.specs.declared.values.Cell.{Cell}
use Rattle.cc_model.specs.Plain.{Value}
use Rattle.cc_model.specs.Traced.{Traced, Shadow}
use Rattle.sym_run.specs.declared.symbols.Symbol.{Symbol}
use Rattle.sym_run.specs.Beside.{IsCell, traced_of, value_of, shadow_by, shadow_if, shadow_of_symbol}
use Rattle.sym_run.specs.Numbers.{Grows}

pub got_append : (l m : List Symbol) (n : ℕ) → n < length l → slice_get (l ++ m) n ≡ slice_get l n
got_append [] m n h = absurd (omega (arith, h))
got_append (s ∷ l) m zero h = refl
got_append (s ∷ l) m (suc n) h = got_append l m n (omega (arith, h))

pub got_seam : (l : List Symbol) (s : Symbol) (m : List Symbol) → slice_get (l ++ s ∷ m) (length l) ≡ Some s
got_seam [] s m = refl
got_seam (t ∷ l) s m = got_seam l s m

longer : (l m : List Symbol) → length l ≤ length (l ++ m)
longer [] m = omega arith
longer (s ∷ l) m = let h = longer l m in omega (arith, h)

pub length_seam : (l : List Symbol) (s : Symbol) → length (l ++ s ∷ []) ≡ suc (length l)
length_seam [] s = refl
length_seam (t ∷ l) s = ap (λ (n : ℕ). suc n) (length_seam l s)

shadow_append : (l m : List Symbol) (n : ℕ) (v : Value) → n ≤ length l → shadow_by (l ++ m) n v ≡ shadow_by l n v
shadow_append l m zero v h = refl
shadow_append l m (suc n) v h = ap (λ (o : Option Symbol). shadow_if v o) (got_append l m n (omega (arith, h)))

pub traced-append : (symbols more : List Symbol) (c : Cell) → IsCell symbols c → traced_of (symbols ++ more) c ≡ traced_of symbols c
traced-append symbols more c i =
    ap (λ (s : Shadow). let t : Traced = record { plain = value_of c.value; shadow = s } in t) (shadow_append symbols more c.shadow (value_of c.value) i.known)

pub IsCell-append : (symbols more : List Symbol) (c : Cell) → IsCell symbols c → IsCell (symbols ++ more) c
IsCell-append symbols more c i = record { known = let k = i.known in let h = longer symbols more in omega (arith, k, h); value = i.value }

-- the same, by how a list grows
pub traced-grown : (old new : List Symbol) (c : Cell) → Grows old new → IsCell old c → traced_of new c ≡ traced_of old c
traced-grown old new c g i = subst (λ (l : List Symbol). traced_of l c ≡ traced_of old c) (sym g.1) (traced-append old g.0 c i)

pub IsCell-grown : (old new : List Symbol) (c : Cell) → Grows old new → IsCell old c → IsCell new c
IsCell-grown old new c g i = subst (λ (l : List Symbol). IsCell l c) (sym g.1) (IsCell-append old g.0 c i)

-- it grows by nothing, and by steps
pub Grows-refl : (l : List Symbol) → Grows l l
Grows-refl l = ([], sym (nothing l))
  where
    nothing : (l : List Symbol) → l ++ [] ≡ l
    nothing [] = refl
    nothing (s ∷ l) = ap (λ (m : List Symbol). s ∷ m) (nothing l)

pub Grows-trans : (a b c : List Symbol) → Grows a b → Grows b c → Grows a c
Grows-trans a b c g h = (g.0 ++ h.0, h.1 ∙ ap (λ (l : List Symbol). l ++ h.0) g.1 ∙ append_assoc a g.0 h.0)

-- a cell of the symbol that was added last
pub shadow_last : (l : List Symbol) (s : Symbol) (n : ℕ) (v : Value) → n ≡ length (l ++ s ∷ []) → shadow_by (l ++ s ∷ []) n v ≡ shadow_of_symbol s
shadow_last l s n v e = subst (λ (m : ℕ). shadow_by (l ++ s ∷ []) m v ≡ shadow_of_symbol s) (sym (e ∙ length_seam l s)) (ap (λ (o : Option Symbol). shadow_if v o) (got_seam l s []))
