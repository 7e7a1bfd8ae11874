-- The steps of finding values backwards.
use Rattle.std.proofs.Common.{◌≡◌, ◌∙◌, sym, ap, ap₂, subst, refl, arith, ℕ, zero, suc, ◌+◌, ◌-◌, ◌^◌, ◌<◌, ◌≤◌, Bool, true, false, inl, inr, nat_eq, int_le, List, [], ◌∷◌, ◌++◌, length, drop, get_or, replicate, Option, Some, None, ℤ, pos, negsuc, neg_ℤ, ◌+ℤ◌, ◌-ℤ◌, ◌*ℤ◌, ◌≤ℤ◌, unsigned_abs, if◌then◌else◌, SFits, FitsSigned, to_z, of_z}
use Rattle.std.proofs.lemmas.List.{drop_more, drop_all, get_or_past}
use Rattle.std.proofs.lemmas.Int.{ints, to_z-of_z, unsigned_abs-mul}
use mir.Syntax.{w128, w32}
use borrow.Author.Tests.{eqb-true, eq-eqb}
use native.Mathlib.Nat.{mul-le-mul}
use Rattle.cc_base.specs.Inequality as plain
use Rattle.cc_base.specs.Inequality.{total, floor, coefficient}
use Rattle.cc_base.specs.declared.forms.Multiple.{Multiple}
use Rattle.cc_base.specs.Pass.{below, above, is_positive, is_lower, is_upper, lowers, uppers}
use Rattle.cc_base.specs.Witness.{changed, left, least_for, most_for, larger, smaller, greatest, smallest, value_for}
use Rattle.linear_solver.specs.declared.inequalities.Inequality.{Inequality}
use Rattle.linear_solver.specs.declared.pass.Step.{Step}
use Rattle.linear_solver.specs.declared.restore.Room.{Room}
use Rattle.linear_solver.specs.Sides.{side}
use Rattle.linear_solver.specs.Seen.{seen, seen_all, seen_turns, at_places}
use Rattle.linear_solver.specs.Ordered.{Ordered, NarrowAll}
use Rattle.linear_solver.specs.Trail.{Sound, with_low, with_high, room_step, room_from, or_zero, first_of, no_room}
use Rattle.linear_solver.proofs.Integers.{bool_cases}
use Rattle.linear_solver.proofs.Loops.{seen_drop, seen_end}

pub changed_same : (v : ℕ → ℤ) (x y : ℕ) (z : ℤ) → y ≡ x → changed v x z y ≡ z
unfolding changed
changed_same v x y z e = ap (λ (b : Bool). if b then z else v y) (eq-eqb x y (sym e))

pub changed_other : (v : ℕ → ℤ) (x y : ℕ) (z : ℤ) → (y ≡ x → ⊥) → changed v x z y ≡ v y
unfolding changed
changed_other v x y z n = elim (bool_cases (nat_eq x y)) [ inl t ↦ absurd (n (sym (eqb-true x y t))) | inr t ↦ ap (λ (b : Bool). if b then z else v y) t ]

pub at_is : (l : List ℤ) (x : ℕ) → get_or l x (pos 0) ≡ at_places l x
unfolding at_places
at_is l x = refl

pub at_past : (l : List ℤ) (x : ℕ) → length l ≤ x → pos 0 ≡ at_places l x
unfolding at_places
at_past l x h = sym (get_or_past l x (pos 0) h)

replicate_at : (n y : ℕ) → get_or (replicate n (pos 0)) y (pos 0) ≡ pos 0
replicate_at zero y = refl
replicate_at (suc n) zero = refl
replicate_at (suc n) (suc y) = replicate_at n y

append_at : (l : List ℤ) (n y : ℕ) → get_or (l ++ replicate n (pos 0)) y (pos 0) ≡ get_or l y (pos 0)
append_at [] n y = replicate_at n y
append_at (z ∷ l) n zero = refl
append_at (z ∷ l) n (suc y) = append_at l n y

pub at_grown : (l m : List ℤ) (n : ℕ) → m ≡ l ++ replicate n (pos 0) → at_places m ≡ at_places l
unfolding at_places
at_grown l m n e = ap at_places e ∙ (λ i y. append_at l n y i)

pub zero_term : (k z : ℤ) → z ≡ pos 0 → pos 0 ≡ k *ℤ z
zero_term k z e = sym (ap (λ (y : ℤ). k *ℤ y) e ∙ (omega (arith, ints)))

pub term_bound : (k z : ℤ) → unsigned_abs k ≤ 2 ^ 44 → unsigned_abs z ≤ 2 ^ 31 → unsigned_abs (k *ℤ z) ≤ 2 ^ 75
term_bound k z h i = let e = unsigned_abs-mul k z in let p = mul-le-mul h i in omega (arith, e, p)

pub fits_term : (z : ℤ) → unsigned_abs z ≤ 2 ^ 75 → SFits w128 z
fits_term z h = (let f : FitsSigned w128 z = omega (arith, ints, h) in f)

pub value_small : (z : ℤ) → SFits w32 z → unsigned_abs z ≤ 2 ^ 31
value_small z f = let s = f.sfits in omega (arith, ints, s)

pub ordered_length : (n : ℕ) (l : List Multiple) → Ordered n l → length l ≤ 2 ^ 32 - n
ordered_length n [] o = omega arith
ordered_length n (t ∷ l) o = let i = ordered_length (suc t.place) l o.2 in let a = o.0 in let b = o.1 in omega (arith, i, a, b)

pub total_more : (v : ℕ → ℤ) (l : List Multiple) (k : ℕ) (d : Multiple) (s n z w : ℤ) → k < length l → z ≡ (get_or l k d).coefficient *ℤ v (get_or l k d).place → n ≡ s +ℤ z → s +ℤ total v (drop k l) ≡ w → n +ℤ total v (drop (k + 1) l) ≡ w
unfolding total
total_more v l k d s n z w h e f g =
    let i : total v (drop k l) ≡ ((get_or l k d).coefficient *ℤ v (get_or l k d).place) +ℤ total v (drop (k + 1) l) = ap (total v) (drop_more l k d h) in
    omega (arith, ints, e, f, g, i)

pub total_end : (v : ℕ → ℤ) (l : List Multiple) (k : ℕ) (s w : ℤ) → length l ≤ k → s +ℤ total v (drop k l) ≡ w → s ≡ w
unfolding total
total_end v l k s w h g = let i : total v (drop k l) ≡ pos 0 = ap (total v) (drop_all k l h) in omega (arith, ints, g, i)

pub left_is : (v : ℕ → ℤ) (x : ℕ) (i : plain.Inequality) (s : ℤ) → s ≡ total (changed v x (pos 0)) i.terms → i.most -ℤ s ≡ left v x i
unfolding left
left_is v x i s e = ap (λ (z : ℤ). i.most -ℤ z) e

pub larger_first : (a b : ℤ) → b ≤ℤ a → a ≡ larger a b
unfolding larger
larger_first a b h = elim (bool_cases (int_le a b)) [
  | inl t ↦ (let k : a ≤ℤ b = grind (arith, ints) in let e : a ≡ b = omega (arith, ints, h, k) in e) ∙ sym (ap (λ (c : Bool). if c then b else a) t)
  | inr t ↦ sym (ap (λ (c : Bool). if c then b else a) t)
]

pub larger_second : (a b : ℤ) → a ≤ℤ b → b ≡ larger a b
unfolding larger
larger_second a b h = let t : int_le a b ≡ true = grind (arith, ints) in sym (ap (λ (c : Bool). if c then b else a) t)

pub smaller_first : (a b : ℤ) → a ≤ℤ b → a ≡ smaller a b
unfolding smaller
smaller_first a b h = let t : int_le a b ≡ true = grind (arith, ints) in sym (ap (λ (c : Bool). if c then a else b) t)

pub smaller_second : (a b : ℤ) → b ≤ℤ a → b ≡ smaller a b
unfolding smaller
smaller_second a b h = elim (bool_cases (int_le a b)) [
  | inl t ↦ (let k : a ≤ℤ b = grind (arith, ints) in let e : b ≡ a = omega (arith, ints, h, k) in e) ∙ sym (ap (λ (c : Bool). if c then a else b) t)
  | inr t ↦ sym (ap (λ (c : Bool). if c then a else b) t)
]

pub with_low_none : (o : Option ℤ) (z : ℤ) → o ≡ None → Some z ≡ with_low o z
unfolding with_low
with_low_none o z e = sym (ap (λ (p : Option ℤ). with_low p z) e)

pub with_low_some : (o : Option ℤ) (y z : ℤ) → o ≡ Some y → Some (larger y z) ≡ with_low o z
unfolding with_low
with_low_some o y z e = sym (ap (λ (p : Option ℤ). with_low p z) e)

pub with_high_none : (o : Option ℤ) (z : ℤ) → o ≡ None → Some z ≡ with_high o z
unfolding with_high
with_high_none o z e = sym (ap (λ (p : Option ℤ). with_high p z) e)

pub with_high_some : (o : Option ℤ) (y z : ℤ) → o ≡ Some y → Some (smaller y z) ≡ with_high o z
unfolding with_high
with_high_some o y z e = sym (ap (λ (p : Option ℤ). with_high p z) e)

pub first_low : (o h : Option ℤ) (z : ℤ) → o ≡ Some z → z ≡ first_of o h
unfolding first_of
first_low o h z e = sym (ap (λ (p : Option ℤ). first_of p h) e)

pub first_high : (o h : Option ℤ) (z : ℤ) → o ≡ None → h ≡ Some z → z ≡ first_of o h
unfolding first_of or_zero
first_high o h z e f = sym (ap₂ first_of e f)

pub first_none : (o h : Option ℤ) → o ≡ None → h ≡ None → pos 0 ≡ first_of o h
unfolding first_of or_zero
first_none o h e f = sym (ap₂ first_of e f)

-- ---- the room that a list leaves

pub room_more : (v : ℕ → ℤ) (x : ℕ) (r s : Room) (l : List Inequality) (k : ℕ) (i : Inequality) (w : Room) → k < length l → i ≡ get_or l k i → s ≡ room_step (side (coefficient x i.terms.items)) (left v x (seen i)) r →
    room_from v x r (seen_all (drop k l)) ≡ w → room_from v x s (seen_all (drop (k + 1) l)) ≡ w
unfolding room_from
room_more v x r s l k i w h e f g = ap (λ (y : Room). room_from v x y (seen_all (drop (k + 1) l))) f ∙ sym (ap (room_from v x r) (seen_drop l k i h e)) ∙ g

pub room_end : (v : ℕ → ℤ) (x : ℕ) (r w : Room) (l : List Inequality) (k : ℕ) → length l ≤ k → room_from v x r (seen_all (drop k l)) ≡ w → r ≡ w
unfolding room_from
room_end v x r w l k h g = sym (ap (room_from v x r) (seen_end l k h)) ∙ g

lows : (ℕ → ℤ) → ℕ → Option ℤ → List plain.Inequality → Option ℤ
lows v x o [] = o
lows v x o (i ∷ l) = lows v x (with_low o (least_for v x i)) l

highs : (ℕ → ℤ) → ℕ → Option ℤ → List plain.Inequality → Option ℤ
highs v x o [] = o
highs v x o (i ∷ l) = highs v x (with_high o (most_for v x i)) l

larger_assoc : (a b c : ℤ) → larger (larger a b) c ≡ larger a (larger b c)
unfolding larger
larger_assoc a b c = elim (bool_cases (int_le a b)) [
  | inl t ↦ elim (bool_cases (int_le b c)) [
    | inl u ↦ ap (λ (d : ℤ). larger d c) (ap (λ (e : Bool). if e then b else a) t) ∙ (let k : a ≤ℤ c = grind (arith, ints) in larger_up b c u ∙ larger_second a c k) ∙ ap (larger a) (sym (larger_up b c u))
    | inr u ↦ ap (λ (d : ℤ). larger d c) (ap (λ (e : Bool). if e then b else a) t) ∙ larger_down b c u ∙ sym (larger_up a b t) ∙ ap (larger a) (sym (larger_down b c u))
  ]
  | inr t ↦ elim (bool_cases (int_le b c)) [
    | inl u ↦ ap (λ (d : ℤ). larger d c) (larger_down a b t) ∙ ap (larger a) (sym (larger_up b c u))
    | inr u ↦ ap (λ (d : ℤ). larger d c) (larger_down a b t) ∙ (let k : c ≤ℤ a = grind (arith, ints) in sym (larger_first a c k)) ∙ sym (larger_down a b t) ∙ ap (larger a) (sym (larger_down b c u))
  ]
]
  where
    larger_up : (a b : ℤ) → int_le a b ≡ true → larger a b ≡ b
    larger_up a b t = ap (λ (e : Bool). if e then b else a) t

    larger_down : (a b : ℤ) → int_le a b ≡ false → larger a b ≡ a
    larger_down a b t = ap (λ (e : Bool). if e then b else a) t

smaller_assoc : (a b c : ℤ) → smaller (smaller a b) c ≡ smaller a (smaller b c)
unfolding smaller
smaller_assoc a b c = elim (bool_cases (int_le a b)) [
  | inl t ↦ elim (bool_cases (int_le b c)) [
    | inl u ↦ ap (λ (d : ℤ). smaller d c) (smaller_up a b t) ∙ (let k : a ≤ℤ c = grind (arith, ints) in sym (smaller_first a c k)) ∙ sym (smaller_up a b t) ∙ ap (smaller a) (sym (smaller_up b c u))
    | inr u ↦ ap (λ (d : ℤ). smaller d c) (smaller_up a b t) ∙ ap (smaller a) (sym (smaller_down b c u))
  ]
  | inr t ↦ elim (bool_cases (int_le b c)) [
    | inl u ↦ ap (λ (d : ℤ). smaller d c) (smaller_down a b t) ∙ smaller_up b c u ∙ sym (smaller_down a b t) ∙ ap (smaller a) (sym (smaller_up b c u))
    | inr u ↦ ap (λ (d : ℤ). smaller d c) (smaller_down a b t) ∙ smaller_down b c u ∙ (let k : c ≤ℤ a = grind (arith, ints) in smaller_second a c k) ∙ ap (smaller a) (sym (smaller_down b c u))
  ]
]
  where
    smaller_up : (a b : ℤ) → int_le a b ≡ true → smaller a b ≡ a
    smaller_up a b t = ap (λ (e : Bool). if e then a else b) t

    smaller_down : (a b : ℤ) → int_le a b ≡ false → smaller a b ≡ b
    smaller_down a b t = ap (λ (e : Bool). if e then a else b) t

lows_some : (v : ℕ → ℤ) (x : ℕ) (y : ℤ) (i : plain.Inequality) (l : List plain.Inequality) → lows v x (Some y) (i ∷ l) ≡ Some (larger y (greatest v x i l))
unfolding lows with_low greatest
lows_some v x y i [] = refl
lows_some v x y i (j ∷ l) = lows_some v x (larger y (least_for v x i)) j l ∙ ap (λ (z : ℤ). Some z) (larger_assoc y (least_for v x i) (greatest v x j l))

lows_none : (v : ℕ → ℤ) (x : ℕ) (i : plain.Inequality) (l : List plain.Inequality) → lows v x None (i ∷ l) ≡ Some (greatest v x i l)
unfolding lows with_low greatest
lows_none v x i [] = refl
lows_none v x i (j ∷ l) = lows_some v x (least_for v x i) j l

highs_some : (v : ℕ → ℤ) (x : ℕ) (y : ℤ) (i : plain.Inequality) (l : List plain.Inequality) → highs v x (Some y) (i ∷ l) ≡ Some (smaller y (smallest v x i l))
unfolding highs with_high smallest
highs_some v x y i [] = refl
highs_some v x y i (j ∷ l) = highs_some v x (smaller y (most_for v x i)) j l ∙ ap (λ (z : ℤ). Some z) (smaller_assoc y (most_for v x i) (smallest v x j l))

highs_none : (v : ℕ → ℤ) (x : ℕ) (i : plain.Inequality) (l : List plain.Inequality) → highs v x None (i ∷ l) ≡ Some (smallest v x i l)
unfolding highs with_high smallest
highs_none v x i [] = refl
highs_none v x i (j ∷ l) = highs_some v x (most_for v x i) j l

low_step : (c : ℤ) (z : ℤ) (r : Room) → (room_step (side c) z r).low ≡ (if is_positive (below c) then with_low r.low (neg_ℤ (floor z (below c))) else r.low)
unfolding side below is_positive
low_step (pos zero) z r = refl
low_step (pos (suc n)) z r = refl
low_step (negsuc n) z r = refl

high_step : (c : ℤ) (z : ℤ) (r : Room) → (room_step (side c) z r).high ≡ (if is_positive (above c) then with_high r.high (floor z (above c)) else r.high)
unfolding side above is_positive
high_step (pos zero) z r = refl
high_step (pos (suc n)) z r = refl
high_step (negsuc n) z r = refl

low_room : (v : ℕ → ℤ) (x : ℕ) (r : Room) (l : List plain.Inequality) → (room_from v x r l).low ≡ lows v x r.low (lowers x l)
unfolding room_from lowers is_lower lows least_for
low_room v x r [] = refl
low_room v x r (i ∷ l) = low_room v x (room_step (side (coefficient x i.terms)) (left v x i) r) l ∙ elim (bool_cases (is_positive (below (coefficient x i.terms)))) [
  | inl t ↦ ap (λ (o : Option ℤ). lows v x o (lowers x l)) (low_step (coefficient x i.terms) (left v x i) r ∙ ap (λ (b : Bool). if b then with_low r.low (neg_ℤ (floor (left v x i) (below (coefficient x i.terms)))) else r.low) t)
      ∙ sym (ap (λ (b : Bool). lows v x r.low (if b then i ∷ lowers x l else lowers x l)) t)
  | inr t ↦ ap (λ (o : Option ℤ). lows v x o (lowers x l)) (low_step (coefficient x i.terms) (left v x i) r ∙ ap (λ (b : Bool). if b then with_low r.low (neg_ℤ (floor (left v x i) (below (coefficient x i.terms)))) else r.low) t)
      ∙ sym (ap (λ (b : Bool). lows v x r.low (if b then i ∷ lowers x l else lowers x l)) t)
]

high_room : (v : ℕ → ℤ) (x : ℕ) (r : Room) (l : List plain.Inequality) → (room_from v x r l).high ≡ highs v x r.high (uppers x l)
unfolding room_from uppers is_upper highs most_for
high_room v x r [] = refl
high_room v x r (i ∷ l) = high_room v x (room_step (side (coefficient x i.terms)) (left v x i) r) l ∙ elim (bool_cases (is_positive (above (coefficient x i.terms)))) [
  | inl t ↦ ap (λ (o : Option ℤ). highs v x o (uppers x l)) (high_step (coefficient x i.terms) (left v x i) r ∙ ap (λ (b : Bool). if b then with_high r.high (floor (left v x i) (above (coefficient x i.terms))) else r.high) t)
      ∙ sym (ap (λ (b : Bool). highs v x r.high (if b then i ∷ uppers x l else uppers x l)) t)
  | inr t ↦ ap (λ (o : Option ℤ). highs v x o (uppers x l)) (high_step (coefficient x i.terms) (left v x i) r ∙ ap (λ (b : Bool). if b then with_high r.high (floor (left v x i) (above (coefficient x i.terms))) else r.high) t)
      ∙ sym (ap (λ (b : Bool). highs v x r.high (if b then i ∷ uppers x l else uppers x l)) t)
]

choose : (v : ℕ → ℤ) (x : ℕ) (ls us : List plain.Inequality) → first_of (lows v x None ls) (highs v x None us) ≡ value_for v x ls us
unfolding first_of or_zero value_for lows highs
choose v x [] [] = refl
choose v x [] (j ∷ us) = ap (first_of None) (highs_none v x j us)
choose v x (i ∷ ls) us = ap (λ (o : Option ℤ). first_of o (highs v x None us)) (lows_none v x i ls)

pub room_value : (v : ℕ → ℤ) (x : ℕ) (l : List plain.Inequality) (r : Room) → r ≡ room_from v x no_room l → first_of r.low r.high ≡ value_for v x (lowers x l) (uppers x l)
unfolding no_room
room_value v x l r e = ap (λ (s : Room). first_of s.low s.high) e ∙ ap₂ first_of (low_room v x no_room l) (high_room v x no_room l) ∙ choose v x (lowers x l) (uppers x l)

pub room_start : (v : ℕ → ℤ) (x : ℕ) (l : List plain.Inequality) (r : Room) → r.low ≡ None → r.high ≡ None → room_from v x r l ≡ room_from v x no_room l
unfolding no_room
room_start v x l r e f = ap₂ (λ (a b : Option ℤ). room_from v x (record { low = a; high = b }) l) e f

-- ---- the turns, backwards

pub sound_at : (l : List Step) (k : ℕ) (s : Step) → k < length l → s ≡ get_or l k s → Sound (seen_turns l) → NarrowAll (seen_all s.list.items)
unfolding seen_turns
sound_at [] k s h e d = absurd (omega arith)
sound_at (t ∷ l) zero s h e d = subst (λ (y : Step). NarrowAll (seen_all y.list.items)) (sym e) d.0
sound_at (t ∷ l) (suc k) s h e d = sound_at l k s (omega arith) e d.1

wide_value : (z : ℤ) → SFits w32 z → SFits w128 z
wide_value z f = let s = value_small z f in (let g : FitsSigned w128 z = omega (arith, ints, s) in g)

pub unwrapped : (k z : ℤ) → SFits w128 k → SFits w32 z → unsigned_abs k ≤ 2 ^ 44 → to_z w128 (of_z w128 (to_z w128 (of_z w128 k) *ℤ to_z w128 (of_z w128 (to_z w32 (of_z w32 z))))) ≡ k *ℤ z
unwrapped k z f g h =
    ap (λ (y : ℤ). to_z w128 (of_z w128 y)) (ap₂ (λ (a b : ℤ). a *ℤ b) (to_z-of_z w128 k f) (ap (λ (y : ℤ). to_z w128 (of_z w128 y)) (to_z-of_z w32 z g) ∙ to_z-of_z w128 z (wide_value z g)))
    ∙ to_z-of_z w128 (k *ℤ z) (fits_term (k *ℤ z) (term_bound k z h (value_small z g)))
