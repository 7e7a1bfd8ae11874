-- The values that are found backwards.
use Rattle.std.proofs.Common.{◌≡◌, ◌≢◌, ◌∙◌, sym, ap, subst, refl, arith, ℕ, zero, suc, ℤ, pos, ◌<◌, ◌≤◌, ◌-◌, Bool, inl, inr, nat_eq, List, [], ◌∷◌, length, map, drop, drop-cons, set, replicate, get_or, if◌then◌else◌}
use Rattle.std.proofs.lemmas.List.{get_or-set_same, get_or-set_other}
use lib.ListN.{drop_of_length-le}
use borrow.Author.Tests.{eqb-true, eqb-false}
use Rattle.cc_base.specs.Pass.{lowers, uppers}
use Rattle.cc_base.specs.Witness.{changed, origin, restored, value_for, unwound}
use Rattle.linear_solver.specs.Seen.{seen_all, seen_turn, seen_turns, at_places}
use Rattle.linear_solver.specs.declared.pass.Step.{Step}
use Rattle.linear_solver.proofs.Integers.{bool_cases}

set_at : (l : List ℤ) (x : ℕ) (z : ℤ) (y : ℕ) → x < length l → at_places (set l x z) y ≡ changed (at_places l) x z y
unfolding at_places changed
set_at l x z y h = elim (bool_cases (nat_eq x y)) [
  | inl t ↦ subst (λ (w : ℕ). get_or (set l x z) w (pos 0) ≡ z) (eqb-true x y t) (get_or-set_same l x z (pos 0) h) ∙ sym (ap (λ (b : Bool). if b then z else get_or l y (pos 0)) t)
  | inr t ↦ let n : y ≢ x = λ e. eqb-false x y t (sym e) in get_or-set_other l x y z (pos 0) n ∙ sym (ap (λ (b : Bool). if b then z else get_or l y (pos 0)) t)
]

pub at_set : (l : List ℤ) (x : ℕ) (z : ℤ) → x < length l → at_places (set l x z) ≡ changed (at_places l) x z
at_set l x z h = λ i y. set_at l x z y h i

zeros_at : (n y : ℕ) → at_places (replicate n (pos 0)) y ≡ pos 0
unfolding at_places
zeros_at zero y = refl
zeros_at (suc n) zero = refl
zeros_at (suc n) (suc y) = zeros_at n y

pub at_zeros : (n : ℕ) → at_places (replicate n (pos 0)) ≡ origin
unfolding origin
at_zeros n = λ i y. zeros_at n y i

pub turns_drop : (l : List Step) (k : ℕ) (s : Step) → 0 < k → k ≤ length l → s ≡ get_or l (k - 1) s → (v : ℕ → ℤ) →
    unwound (seen_turns (drop (k - 1) l)) v ≡ restored (unwound (seen_turns (drop k l)) v) s.place (seen_all s.list.items)
unfolding seen_turns unwound
turns_drop l zero s h m e v = absurd (omega arith)
turns_drop l (suc k) s h m e v =
    let f : suc k - 1 ≡ k = omega arith in
    let g : s ≡ get_or l k s = e ∙ ap (λ (j : ℕ). get_or l j s) f in
    let d : drop (suc k - 1) l ≡ s ∷ drop (suc k) l = ap (λ (j : ℕ). drop j l) f ∙ drop-cons l k s (omega arith) ∙ ap (λ (t : Step). t ∷ drop (suc k) l) (sym g) in
    ap (λ (t : List Step). unwound (map seen_turn t) v) d

pub turns_end : (l : List Step) (v : ℕ → ℤ) → v ≡ unwound (seen_turns (drop (length l) l)) v
unfolding seen_turns unwound
turns_end l v = sym (ap (λ (t : List Step). unwound (map seen_turn t) v) (drop_of_length-le l (let h : length l ≤ length l = omega arith in h)))

pub restored_is : (v w : ℕ → ℤ) (s : Step) (z : ℤ) → v ≡ w → z ≡ value_for v s.place (lowers s.place (seen_all s.list.items)) (uppers s.place (seen_all s.list.items)) → changed v s.place z ≡ restored w s.place (seen_all s.list.items)
unfolding restored
restored_is v w s z e f = ap (changed v s.place) f ∙ ap (λ (u : ℕ → ℤ). changed u s.place (value_for u s.place (lowers s.place (seen_all s.list.items)) (uppers s.place (seen_all s.list.items)))) e

pub at_none : (l : List ℤ) → l ≡ [] → at_places l ≡ origin
unfolding at_places origin
at_none l e = ap at_places e
