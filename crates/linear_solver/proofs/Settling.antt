-- What shows that a group is settled.
use Rattle.std.proofs.Common.{◌≡◌, ◌∙◌, sym, ap, ap₂, subst, arith, ℕ, suc, ◌+◌, ◌-◌, ◌*◌, ◌^◌, ◌<◌, ◌≤◌, true, false, ◌||◌, inl, inr, nat_eq, List, [], ◌∷◌, length, ℤ, pos, ◌+ℤ◌, ◌≤ℤ◌}
use Rattle.std.proofs.lemmas.Int.{ints}
use borrow.Author.Tests.{eqb-true}
use native.Mathlib.Nat.{mul-le-mul}
use Rattle.cc_base.specs.declared.forms.Multiple.{Multiple}
use Rattle.cc_base.specs.Groups.{Atom, HoldAll, Between, HasValues, form_of, contains, named, places_in}
use Rattle.cc_base.specs.Need.{Tried, found, closed, open_choice, after, elimination, box, width, with_elimination, need_at, need}
use Rattle.cc_base.specs.Solve as plain
use Rattle.cc_base.specs.Witness.{changed, origin}
use Rattle.linear_solver.specs.Box.{decoded}
use Rattle.linear_solver.specs.Counts.{beyond, within, tried_count}
use Rattle.linear_solver.specs.Spans.{Only, OnlyAll}
use Rattle.linear_solver.proofs.Boxes.{numbered, in_box}
use Rattle.linear_solver.proofs.Choosing.{within_is}
use Rattle.linear_solver.proofs.Eliminated.{Right, elimination_right}
use Rattle.linear_solver.proofs.Evaluation.{changed_same}
use Rattle.linear_solver.proofs.Parting.{In, all_first, all_second, put_new, put_old, or_left, or_right, same_nat, holds_same}
use Rattle.linear_solver.proofs.Spent.{beyond_decides, open_decides, group_beyond}
use Rattle.linear_solver.proofs.Tidied.{or_true}

-- values that agree on the places of atoms
pub same_places : (v w : ℕ → ℤ) (l : List Atom) → ((x : ℕ) → In x (places_in l) → v x ≡ w x) → HoldAll v l → HoldAll w l
unfolding places_in
same_places v w [] h m = tt
same_places v w (a ∷ l) h m =
    (holds_same v w a (λ x i. h x (all_first x (named (form_of a).terms) (places_in l) i)) m.0, same_places v w l (λ x i. h x (all_second x (named (form_of a).terms) (places_in l) i)) m.1)

pub between_at : (lo hi : ℤ) (v : ℕ → ℤ) (l : List ℕ) (x : ℕ) → Between lo hi v l → In x l → (lo ≤ℤ v x) × (v x ≤ℤ hi)
unfolding contains
between_at lo hi v [] x b i = absurd (cc i)
between_at lo hi v (y ∷ l) x b i = elim (or_true (nat_eq x y) (contains l x) i) [
  | inl e ↦ let s = eqb-true x y e in subst (λ (z : ℕ). (lo ≤ℤ v z) × (v z ≤ℤ hi)) (sym s) (b.0, b.1)
  | inr e ↦ between_at lo hi v l x b.2 e
]

pub between_all : (lo hi : ℤ) (v : ℕ → ℤ) (l : List ℕ) → ((x : ℕ) → In x l → (lo ≤ℤ v x) × (v x ≤ℤ hi)) → Between lo hi v l
unfolding contains
between_all lo hi v [] h = tt
between_all lo hi v (y ∷ l) h = let a = h y (or_left (nat_eq y y) (contains l y) (same_nat y)) in (a.0, a.1, between_all lo hi v l (λ x i. h x (or_right (nat_eq x y) (contains l x) i)))

-- ---- without place

pub need_none : (lo hi : ℤ) (l : List Atom) → [] ≡ places_in l → need lo hi l ≡ 1
unfolding need need_at
need_none lo hi l e = ap (λ (p : List ℕ). need_at (length p) lo hi l) (sym e)

pub values_none : (lo hi : ℤ) (v : ℕ → ℤ) (l : List Atom) → [] ≡ places_in l → Between lo hi v (places_in l)
values_none lo hi v l e = subst (λ (p : List ℕ). Between lo hi v p) e tt

nothing_in : (x : ℕ) (p : List ℕ) → [] ≡ p → In x p → ⊥
unfolding contains
nothing_in x p e i = let f : contains [] x ≡ true = ap (λ (q : List ℕ). contains q x) e ∙ i in cc f

pub refuted_none : (lo hi : ℤ) (b : ℕ) (v : ℕ → ℤ) (l : List Atom) → [] ≡ places_in l → 1 ≤ b → (HoldAll v l → ⊥) → plain.Refuted lo hi b l
refuted_none lo hi b v l e h n = record { within = let f = need_none lo hi l e in omega (arith, f, h); none = λ m. n (same_places m.0 v l (λ x i. absurd (nothing_in x (places_in l) e i)) m.2) }

-- ---- one place

pub need_one : (lo hi : ℤ) (x : ℕ) (l : List Atom) → x ∷ [] ≡ places_in l → need lo hi l ≡ length l + 1
unfolding need need_at
need_one lo hi x l e = ap (λ (p : List ℕ). need_at (length p) lo hi l) (sym e)

in_one : (x y : ℕ) (p : List ℕ) → x ∷ [] ≡ p → In y p → y ≡ x
unfolding contains
in_one x y p e i = let f : nat_eq y x || false ≡ true = ap (λ (q : List ℕ). contains q y) e ∙ i in elim (or_true (nat_eq y x) false f) [ inl g ↦ eqb-true y x g | inr g ↦ absurd (cc g) ]

only_terms : (x : ℕ) (p : List Multiple) → ((y : ℕ) → In y (named p) → y ≡ x) → Only x p
unfolding named
only_terms x [] h = tt
only_terms x (t ∷ p) h = (h t.place (put_new t.place (named p)), only_terms x p (λ y i. h y (put_old t.place y (named p) i)))

only_atoms : (x : ℕ) (l : List Atom) → ((y : ℕ) → In y (places_in l) → y ≡ x) → OnlyAll x l
unfolding places_in
only_atoms x [] h = tt
only_atoms x (a ∷ l) h = (only_terms x (form_of a).terms (λ y i. h y (all_first y (named (form_of a).terms) (places_in l) i)), only_atoms x l (λ y i. h y (all_second y (named (form_of a).terms) (places_in l) i)))

pub only_one : (x : ℕ) (l : List Atom) → x ∷ [] ≡ places_in l → OnlyAll x l
only_one x l e = only_atoms x l (λ y i. in_one x y (places_in l) e i)

pub values_one : (lo hi : ℤ) (v : ℕ → ℤ) (x : ℕ) (l : List Atom) → x ∷ [] ≡ places_in l → lo ≤ℤ v x → v x ≤ℤ hi → Between lo hi v (places_in l)
values_one lo hi v x l e a b = subst (λ (p : List ℕ). Between lo hi v p) e (a, b, tt)

pub refuted_one : (lo hi : ℤ) (b x : ℕ) (l : List Atom) → x ∷ [] ≡ places_in l → length l < b → ((z : ℤ) → lo ≤ℤ z → z ≤ℤ hi → HoldAll (changed origin x z) l → ⊥) → plain.Refuted lo hi b l
refuted_one lo hi b x l e h n = record {
  within = let f = need_one lo hi x l e in omega (arith, f, h);
  none = λ m. let v = m.0 in let w = subst (λ (p : List ℕ). Between lo hi v p) (sym e) m.1 in
      n (v x) w.0 w.1 (same_places v (changed origin x (v x)) l (λ y i. (let s = in_one x y (places_in l) e i in ap v s ∙ sym (changed_same origin x y (v x) s))) m.2);
}

-- ---- more places: the box

two_more : (n : ℕ) → 2 ≤ n → n ≡ suc (suc (n - 2))
two_more n h = omega arith

lesser_box : (b : ℕ) (t : Tried) → with_elimination b t ≤ b
unfolding with_elimination
lesser_box b (found c) = omega arith
lesser_box b (closed c) = omega arith
lesser_box b (open_choice c) = omega arith

need_several : (lo hi : ℤ) (l : List Atom) → 2 ≤ length (places_in l) → need lo hi l ≡ with_elimination (box lo hi l) (elimination lo hi l)
unfolding need need_at
need_several lo hi l h = ap (λ (n : ℕ). need_at n lo hi l) (two_more (length (places_in l)) h)

pub need_box : (lo hi : ℤ) (b : ℕ) (l : List Atom) → 2 ≤ length (places_in l) → box lo hi l ≤ b → need lo hi l ≤ b
need_box lo hi b l h k = let e = need_several lo hi l h in let f = lesser_box (box lo hi l) (elimination lo hi l) in omega (arith, e, f, k)

pub values_box : (lo hi : ℤ) (k : ℕ) (v : ℕ → ℤ) (p : List ℕ) → lo ≤ℤ hi → v ≡ decoded lo (width lo hi) k p → Between lo hi v p
values_box lo hi k v p h e = between_all lo hi v p (λ x i. (let b = in_box lo hi k p h x i in let s : v x ≡ decoded lo (width lo hi) k p x = ap (λ (w : ℕ → ℤ). w x) e in
    (subst (λ (z : ℤ). lo ≤ℤ z) (sym s) b.0, subst (λ (z : ℤ). z ≤ℤ hi) (sym s) b.1)))

pub refuted_box : (lo hi : ℤ) (b n : ℕ) (l : List Atom) → 2 ≤ length (places_in l) → box lo hi l ≤ b → n ≡ width lo hi ^ length (places_in l) → ((k : ℕ) → k < n → HoldAll (decoded lo (width lo hi) k (places_in l)) l → ⊥) → plain.Refuted lo hi b l
refuted_box lo hi b n l h k e f = record {
  within = need_box lo hi b l h k;
  none = λ m. let v = m.0 in let q = numbered lo hi v (places_in l) m.1 in let q1 = q.1 in
      f q.0 (omega (arith, q1, e)) (same_places v (decoded lo (width lo hi) q.0 (places_in l)) l (λ x i. sym (q.2 x i)) m.2);
}

pub box_power : (lo hi : ℤ) (b : ℕ) (l : List Atom) → box lo hi l ≤ b → width lo hi ^ length (places_in l) ≤ b
unfolding box
box_power lo hi b l h =
    let p = mul-le-mul (let s : 1 ≤ length l + 1 = omega arith in s) (let s : width lo hi ^ length (places_in l) ≤ width lo hi ^ length (places_in l) = omega arith in s) in
    let q : 1 * width lo hi ^ length (places_in l) ≡ width lo hi ^ length (places_in l) = omega arith in omega (arith, p, q, h)

pub box_is : (lo hi : ℤ) (l : List Atom) (m w n : ℕ) → m ≡ length l + 1 → w ≡ width lo hi → n ≡ length (places_in l) → m * w ^ n ≡ box lo hi l
unfolding box
box_is lo hi l m w n e f g = ap₂ (λ (a b : ℕ). a * b) e (ap₂ (λ (a b : ℕ). a ^ b) f g)

-- ---- more places: elimination

pub beyond_several : (lo hi : ℤ) (b : ℕ) (l : List Atom) → 2 ≤ length (places_in l) → b < box lo hi l → beyond ≡ tried_count 0 b (elimination lo hi l) → b < need lo hi l
beyond_several lo hi b l h k e = group_beyond (length (places_in l) - 2) b lo hi l (two_more (length (places_in l)) h) k (beyond_decides b (elimination lo hi l) e)

pub open_several : (lo hi : ℤ) (b u : ℕ) (l : List Atom) → 2 ≤ length (places_in l) → b < box lo hi l → within (open_choice u) ≡ tried_count 0 b (elimination lo hi l) → b < need lo hi l
open_several lo hi b u l h k e = group_beyond (length (places_in l) - 2) b lo hi l (two_more (length (places_in l)) h) k (open_decides b u (elimination lo hi l) e)

found_need : (b u x : ℕ) (t : Tried) → found u ≡ after 0 t → u ≤ b → with_elimination x t ≤ b
unfolding after with_elimination
found_need b u x (found c) e h = let f : u ≡ 0 + c = cc e in omega (arith, f, h)
found_need b u x (closed c) e h = absurd (cc e)
found_need b u x (open_choice c) e h = absurd (cc e)

closed_need : (b u x : ℕ) (t : Tried) → closed u ≡ after 0 t → u ≤ b → with_elimination x t ≤ b
unfolding after with_elimination
closed_need b u x (found c) e h = absurd (cc e)
closed_need b u x (closed c) e h = let f : u ≡ 0 + c = cc e in omega (arith, f, h)
closed_need b u x (open_choice c) e h = absurd (cc e)

closed_right : (lo hi : ℤ) (u : ℕ) (l : List Atom) (t : Tried) → closed u ≡ after 0 t → Right lo hi l t → HasValues lo hi l → ⊥
unfolding after
closed_right lo hi u l (found c) e r = absurd (cc e)
closed_right lo hi u l (closed c) e r = r
closed_right lo hi u l (open_choice c) e r = absurd (cc e)

pub found_several : (lo hi : ℤ) (b u : ℕ) (l : List Atom) → 2 ≤ length (places_in l) → within (found u) ≡ tried_count 0 b (elimination lo hi l) → u ≤ b → need lo hi l ≤ b
found_several lo hi b u l h e k = let n = need_several lo hi l h in let f = found_need b u (box lo hi l) (elimination lo hi l) (within_is 0 b (elimination lo hi l) (found u) e).1 k in omega (arith, n, f)

pub refuted_several : (lo hi : ℤ) (b u : ℕ) (l : List Atom) → 2 ≤ length (places_in l) → within (closed u) ≡ tried_count 0 b (elimination lo hi l) → u ≤ b → plain.Refuted lo hi b l
refuted_several lo hi b u l h e k =
    let w = (within_is 0 b (elimination lo hi l) (closed u) e).1 in
    record {
      within = let n = need_several lo hi l h in let f = closed_need b u (box lo hi l) (elimination lo hi l) w k in omega (arith, n, f);
      none = closed_right lo hi u l (elimination lo hi l) w (elimination_right lo hi l);
    }

pub width_positive : (lo hi : ℤ) → 0 < width lo hi
unfolding width
width_positive lo hi = omega arith

pub width_fits : (lo hi : ℤ) → lo ≤ℤ hi → hi ≤ℤ pos 2147483647 → (lo +ℤ pos (width lo hi)) ≤ℤ pos 2147483648
unfolding width
width_fits lo hi h k = omega (arith, ints, h, k)

pub width_small : (lo hi : ℤ) → lo ≤ℤ hi → pos 0 ≤ℤ (lo +ℤ pos 2147483648) → hi ≤ℤ pos 2147483647 → width lo hi ≤ 2 ^ 32
unfolding width
width_small lo hi h l k = omega (arith, ints, h, l, k)
