-- Each point of the box has a number.
use Rattle.std.proofs.Common.{◌≡◌, ◌∙◌, sym, ap, subst, arith, ℕ, suc, ◌+◌, ◌*◌, ◌/◌, ◌%◌, ◌^◌, ◌<◌, ◌≤◌, ℤ, pos, ◌+ℤ◌, ◌-ℤ◌, ◌≤ℤ◌, unsigned_abs, Bool, inl, inr, nat_eq, List, [], ◌∷◌, length, if◌then◌else◌}
use Rattle.std.proofs.lemmas.Int.{ints}
use native.Mathlib.Nat.{add-mul-div_left, add-mul-mod_self_left, pow-zero, pow-succ', mul-le-mul_left, mod-eq_of_lt, div-eq_of_lt}
use borrow.Author.Tests.{eqb-true, eq-eqb}
use Rattle.cc_base.specs.Witness.{changed}
use Rattle.cc_base.specs.Groups.{Between, contains}
use Rattle.cc_base.specs.Need.{width}
use Rattle.linear_solver.specs.Box.{decoded}
use Rattle.linear_solver.proofs.Integers.{bool_cases}
use Rattle.linear_solver.proofs.Tidied.{or_true}
use Rattle.linear_solver.proofs.Parting.{In}

distance : (lo hi y : ℤ) → lo ≤ℤ y → y ≤ℤ hi → (d : ℕ) × (d < width lo hi) × (y ≡ lo +ℤ pos d)
unfolding width
distance lo hi y h k = (unsigned_abs (y -ℤ lo), omega (arith, ints, h, k), omega (arith, ints, h))

low_digit : (w d k : ℕ) → d < w → (d + w * k) % w ≡ d
low_digit w d k h = add-mul-mod_self_left d w k ∙ mod-eq_of_lt h

high_digits : (w d k : ℕ) → d < w → (d + w * k) / w ≡ k
high_digits w d k h = add-mul-div_left d k (omega arith) ∙ ap (λ (n : ℕ). n + k) (div-eq_of_lt h) ∙ (omega arith)

below_power : (w d k n : ℕ) → d < w → k < w ^ n → d + w * k < w ^ suc n
below_power w d k n h m = let e = pow-succ' w n in let f : w * suc k ≤ w * w ^ n = mul-le-mul_left w m in omega (arith, e, f, h)

changed_at : (v : ℕ → ℤ) (x y : ℕ) (z : ℤ) → x ≡ y → changed v x z y ≡ z
unfolding changed
changed_at v x y z e = ap (λ (b : Bool). if b then z else v y) (eq-eqb x y e)

changed_off : (v : ℕ → ℤ) (x y : ℕ) (z u : ℤ) → v y ≡ u → (x ≡ y → z ≡ u) → changed v x z y ≡ u
unfolding changed
changed_off v x y z u h k = elim (bool_cases (nat_eq x y)) [
  | inl t ↦ ap (λ (b : Bool). if b then z else v y) t ∙ k (eqb-true x y t)
  | inr t ↦ ap (λ (b : Bool). if b then z else v y) t ∙ h
]

pub numbered : (lo hi : ℤ) (v : ℕ → ℤ) (l : List ℕ) → Between lo hi v l → (k : ℕ) × (k < width lo hi ^ length l) × ((x : ℕ) → In x l → decoded lo (width lo hi) k l x ≡ v x)
unfolding decoded contains
numbered lo hi v [] b = (0, subst (λ (n : ℕ). 0 < n) (sym (pow-zero (width lo hi))) (omega arith), λ x h. absurd (cc h))
numbered lo hi v (y ∷ l) b =
    let r = numbered lo hi v l b.2 in let d = distance lo hi (v y) b.0 b.1 in
    let w = width lo hi in let k = d.0 + w * r.0 in
    let z : lo +ℤ pos (k % w) ≡ v y = ap (λ (n : ℕ). lo +ℤ pos n) (low_digit w d.0 r.0 d.1) ∙ sym d.2 in
    let q : k / w ≡ r.0 = high_digits w d.0 r.0 d.1 in (
      k,
      below_power w d.0 r.0 (length l) d.1 r.1,
      λ x h. elim (or_true (nat_eq x y) (contains l x) h) [
        | inl e ↦ let s : y ≡ x = sym (eqb-true x y e) in changed_at (decoded lo w (k / w) l) y x (lo +ℤ pos (k % w)) s ∙ z ∙ ap v s
        | inr e ↦ changed_off (decoded lo w (k / w) l) y x (lo +ℤ pos (k % w)) (v x) (ap (λ (n : ℕ). decoded lo w n l x) q ∙ r.2 x e) (λ s. z ∙ ap v s)
      ],
    )

-- and each number gives a point of the box
from_low : (lo hi : ℤ) (d : ℕ) → lo ≤ℤ hi → d < width lo hi → (lo ≤ℤ (lo +ℤ pos d)) × ((lo +ℤ pos d) ≤ℤ hi)
unfolding width
from_low lo hi d h k = (omega (arith, ints), omega (arith, ints, h, k))

positive : (lo hi : ℤ) → 0 < width lo hi
unfolding width
positive lo hi = omega arith

pub in_box : (lo hi : ℤ) (k : ℕ) (l : List ℕ) → lo ≤ℤ hi → (x : ℕ) → In x l → (lo ≤ℤ decoded lo (width lo hi) k l x) × (decoded lo (width lo hi) k l x ≤ℤ hi)
unfolding decoded contains changed
in_box lo hi k [] h x i = absurd (cc i)
in_box lo hi k (y ∷ l) h x i =
    let w = width lo hi in let p : 0 < w = positive lo hi in
    elim (bool_cases (nat_eq y x)) [
      | inl t ↦ subst (λ (b : Bool). (lo ≤ℤ (if b then lo +ℤ pos (k % w) else decoded lo w (k / w) l x)) × ((if b then lo +ℤ pos (k % w) else decoded lo w (k / w) l x) ≤ℤ hi)) (sym t) (from_low lo hi (k % w) h (omega arith))
      | inr t ↦ subst (λ (b : Bool). (lo ≤ℤ (if b then lo +ℤ pos (k % w) else decoded lo w (k / w) l x)) × ((if b then lo +ℤ pos (k % w) else decoded lo w (k / w) l x) ≤ℤ hi)) (sym t)
          (elim (or_true (nat_eq x y) (contains l x) i) [ inl e ↦ absurd (let s = eq-eqb y x (sym (eqb-true x y e)) in cc (s, t)) | inr e ↦ in_box lo hi (k / w) l h x e ])
    ]
