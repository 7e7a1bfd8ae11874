-- The numbers of an input of fewer than 10^18 cells have at most 18 digits.
use Rattle.std.proofs.Common.{◌≡◌, ℕ, suc, ◌+◌, ◌^◌, ◌<◌, ◌≤◌, ◌⊎◌, inl, inr, ℤ, pos, negsuc, ◌≤ℤ◌, List, [], ◌∷◌, ◌++◌, length, refl, sym, ap, subst, arith, length-append}
use Rattle.std.proofs.lemmas.Int.{ints}
use Rattle.cc_base.specs.declared.inputs.Input.{Input}
use Rattle.cc_base.specs.Inputs.{map_text}
use Rattle.cc_base.specs.Limits.{Limits}
use Rattle.cc_base.specs.Paths.{In}
use Rattle.cc_model.specs.Core.{Cell, int_cell, ptr_cell}
use Rattle.cc_model.specs.Canonical.{Named, Within, AllWithin, NamesOld, AreCells, IsCanonical}
use Rattle.cc_model.specs.Graphs.{PointsToCells}
use Rattle.input_map.specs.Maps.{IsShort, AllShort, IsMap}

in_append : {A : Type 0} (x : A) (l m : List A) → In x (l ++ m) → In x l ⊎ In x m
in_append x [] m i = inr i
in_append x (y ∷ l) m (inl e) = inl (inl e)
in_append x (y ∷ l) m (inr i) = elim (in_append x l m i) [ inl j ↦ inl (inr j) | inr j ↦ inr j ]

module _ (b : Limits) (low : negsuc 2147483647 ≤ℤ b.lo) (high : b.hi ≤ℤ pos 2147483647) where
  number_short : (z : ℤ) → Within b z → IsShort z
  number_short (pos n) h = let u = h.1 in let m : n ≤ 2147483647 = omega (arith, ints) in omega (arith, m)
  number_short (negsuc n) h = let u = h.0 in let m : n ≤ 2147483647 = omega (arith, ints) in omega (arith, m)

  stream_short : (zs : List ℤ) → AllWithin b zs → AllShort zs
  stream_short [] h = tt
  stream_short (z ∷ zs) h = (number_short z h.0, stream_short zs h.1)

  module _ (layouts : ℕ → List Cell) (deep : (s t : ℕ) → In (ptr_cell t) (layouts s) → 1 ≤ length (layouts t)) where
    -- there are at least as many cells as are due
    long_enough : (zs : List ℤ) (due : List Cell) (named : List Named) (next : ℕ) → AreCells layouts b due named next zs → length due ≤ length zs
    long_enough [] [] named next h = omega arith
    long_enough [] (c ∷ due) named next h = absurd h
    long_enough (z ∷ zs) [] named next h = absurd h
    long_enough (z ∷ zs) (int_cell ∷ due) named next h = let l = long_enough zs due named next h.1 in omega (arith, l)
    long_enough (z ∷ zs) (ptr_cell t ∷ due) named next (inl h) = let l = long_enough zs due named next h.1 in omega (arith, l)
    long_enough (z ∷ zs) (ptr_cell t ∷ due) named next (inr h) = let l = long_enough zs (due ++ layouts t) (record { address = next; type = t } ∷ named) (next + length (layouts t)) h.1 in
        let m = length-append due (layouts t) in omega (arith, l, m)

    abbrev Sized : List Cell → Type 0
    Sized due = (t : ℕ) → In (ptr_cell t) due → 1 ≤ length (layouts t)

    sized_more : (due : List Cell) (t : ℕ) → Sized due → Sized (due ++ layouts t)
    sized_more due t s u i = elim (in_append (ptr_cell u) due (layouts t) i) [ inl j ↦ s u j | inr j ↦ deep t u j ]

    module _ (all : ℕ) (few : all < 10 ^ 18) where
      abbrev Low : List Named → Type 0
      Low named = (k : Named) → In k named → k.address ≤ all

      low_more : (named : List Named) (next t : ℕ) → next ≤ all → Low named → Low (record { address = next; type = t } ∷ named)
      low_more named next t h l k (inl e) = let f = ap (λ m. m.address) e in omega (arith, f, h)
      low_more named next t h l k (inr i) = l k i

      old_short : (named : List Named) (t : ℕ) (z : ℤ) → Low named → NamesOld named t z → IsShort z
      old_short named t z l (inl e) = subst IsShort (sym e) (omega arith)
      old_short named t z l (inr (k, i, e, f)) = subst IsShort (sym e) (let m = l k i in omega (arith, m, few))

      new_low : (zs : List ℤ) (due : List Cell) (named : List Named) (next t : ℕ) → 1 ≤ length (layouts t) → next + suc (length zs) ≡ suc (all + suc (length due))
          → AreCells layouts b (due ++ layouts t) named (next + length (layouts t)) zs → next ≤ all
      new_low zs due named next t size e h = let l = long_enough zs (due ++ layouts t) named (next + length (layouts t)) h in let m = length-append due (layouts t) in omega (arith, l, m, size, e)

      shorts : (zs : List ℤ) (due : List Cell) (named : List Named) (next : ℕ) → Sized due → Low named → next + length zs ≡ suc (all + length due) → AreCells layouts b due named next zs → AllShort zs
      shorts [] due named next s l e h = tt
      shorts (z ∷ zs) [] named next s l e h = absurd h
      shorts (z ∷ zs) (int_cell ∷ due) named next s l e h = (number_short z h.0, shorts zs due named next (λ t i. s t (inr i)) l (omega (arith, e)) h.1)
      shorts (z ∷ zs) (ptr_cell t ∷ due) named next s l e (inl h) = (old_short named t z l h.0, shorts zs due named next (λ u i. s u (inr i)) l (omega (arith, e)) h.1)
      shorts (z ∷ zs) (ptr_cell t ∷ due) named next s l e (inr h) =
          let m = new_low zs due (record { address = next; type = t } ∷ named) next t (s t (inl refl)) e h.1 in
          let a = length-append due (layouts t) in (
            subst IsShort (sym h.0) (omega (arith, m, few)),
            shorts zs (due ++ layouts t) (record { address = next; type = t } ∷ named) (next + length (layouts t)) (sized_more due t (λ u i. s u (inr i))) (low_more named next t m l) (omega (arith, e, a)) h.1,
          )

  pub has_map : (layouts : ℕ → List Cell) (params : List Cell) (h : Input) → PointsToCells layouts params → IsCanonical layouts b params h → length h.cells < 10 ^ 18 → IsMap (map_text h) h
  has_map layouts params h points c few = record {
    written = refl;
    cells = shorts layouts (λ s t i. points t (inr (s, i))) (length h.cells) few h.cells params [] (suc (length params)) (λ t i. points t (inl i)) (λ k i. absurd i) (omega arith) c.0;
    stream = stream_short h.stream c.1;
  }
