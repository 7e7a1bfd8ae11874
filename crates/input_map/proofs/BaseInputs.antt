-- The base input is an input.
use Rattle.std.proofs.Common.{◌≡◌, inl, ℕ, suc, Bool, true, false, ℤ, pos, ◌≤ℤ◌, int_lt, List, [], ◌∷◌, length, map, refl, sym, ap, ◌∙◌, subst, arith, if◌then◌else◌}
use Rattle.std.proofs.lemmas.Int.{ints}
use Rattle.cc_base.specs.Limits.{Limits, base_of}
use Rattle.cc_model.specs.Core.{Cell, int_cell, ptr_cell}
use Rattle.cc_model.specs.Canonical.{Within, AllWithin, AreCells, IsCanonical, base_cell, base_input_of}

module _ (b : Limits) (r : b.lo ≤ℤ b.hi) where
  below_zero : (t : Bool) → int_lt b.hi (pos 0) ≡ t → int_lt (pos 0) b.lo ≡ false → Within b (if t then b.hi else pos 0)
  below_zero true e f = (r, grind (arith, ints))
  below_zero false e f = (grind (arith, ints), grind (arith, ints))

  above_zero : (t : Bool) → int_lt (pos 0) b.lo ≡ t → Within b (if t then b.lo else (if int_lt b.hi (pos 0) then b.hi else pos 0))
  above_zero true e = (grind (arith, ints), r)
  above_zero false e = below_zero (int_lt b.hi (pos 0)) refl e

  pub base_within : Within b (base_of b)
  base_within = above_zero (int_lt (pos 0) b.lo) refl

  base_cells : (layouts : ℕ → List Cell) (cs : List Cell) (next : ℕ) → AreCells layouts b cs [] next (map (base_cell b) cs)
  base_cells layouts [] next = tt
  base_cells layouts (int_cell ∷ cs) next = (base_within, base_cells layouts cs next)
  base_cells layouts (ptr_cell t ∷ cs) next = inl (inl refl, base_cells layouts cs next)

  pub base_is_input : (layouts : ℕ → List Cell) (params : List Cell) → IsCanonical layouts b params (base_input_of b params)
  base_is_input layouts params = (base_cells layouts params (suc (length params)), tt)

  pub base_from : (layouts : ℕ → List Cell) (params types : List Cell) (cs ss : List ℤ) → cs ≡ map (base_cell b) types → types ≡ params → ss ≡ []
      → AreCells layouts b params [] (suc (length params)) cs × AllWithin b ss
  base_from layouts params types cs ss e f g = (
    subst (AreCells layouts b params [] (suc (length params))) (ap (map (base_cell b)) (sym f) ∙ sym e) (base_cells layouts params (suc (length params))),
    subst (AllWithin b) (sym g) tt,
  )
