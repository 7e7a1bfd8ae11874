-- The steps of loops over inequalities.
use Rattle.std.proofs.Common.{◌≡◌, ◌∙◌, sym, ap, ap₂, subst, refl, arith, ℕ, zero, suc, ◌+◌, ◌<◌, ◌≤◌, List, [], ◌∷◌, ◌++◌, length, map, reverse, take, drop, get_or, append_assoc, append-nil, ℤ, pos, ◌+ℤ◌, Bool, true, inl, inr, nat_eq, if◌then◌else◌}
use Rattle.std.proofs.lemmas.List.{drop_more, drop_all, take_more, take_all, map-append, reverse-append}
use Rattle.std.proofs.lemmas.Int.{ints}
use borrow.Author.Tests.{eqb-true, eq-eqb}
use Rattle.cc_base.specs.Inequality as plain
use Rattle.cc_base.specs.Inequality.{coefficient}
use Rattle.cc_base.specs.declared.forms.Multiple.{Multiple}
use Rattle.linear_solver.specs.declared.inequalities.Inequality.{Inequality}
use Rattle.linear_solver.specs.Seen.{seen, seen_all}
use Rattle.linear_solver.specs.Ordered.{Ordered, Narrow, NarrowAll}
use Rattle.linear_solver.proofs.Integers.{bool_cases}

pub seen_drop : (l : List Inequality) (k : ℕ) (x : Inequality) → k < length l → x ≡ get_or l k x → seen_all (drop k l) ≡ seen x ∷ seen_all (drop (k + 1) l)
unfolding seen_all
seen_drop l k x h e = ap (map seen) (drop_more l k x h ∙ ap (λ (y : Inequality). y ∷ drop (k + 1) l) (sym e))

pub seen_end : (l : List Inequality) (k : ℕ) → length l ≤ k → seen_all (drop k l) ≡ []
unfolding seen_all
seen_end l k h = ap (map seen) (drop_all k l h)

pub seen_none : (l : List Inequality) → l ≡ [] → seen_all l ≡ []
unfolding seen_all
seen_none l e = ap (map seen) e

pub seen_push : (o : List Inequality) (x : Inequality) → seen_all (o ++ (x ∷ [])) ≡ seen_all o ++ (seen x ∷ [])
unfolding seen_all
seen_push o x = map-append seen o (x ∷ [])

pub seen_take : (l : List Inequality) (n k : ℕ) (x : Inequality) → n ≡ k + 1 → k < length l → x ≡ get_or l k x → seen_all (take n l) ≡ seen_all (take k l) ++ (seen x ∷ [])
unfolding seen_all
seen_take l n k x m h e = ap (λ (j : ℕ). map seen (take j l)) m ∙ ap (map seen) (take_more l k x h ∙ ap (λ (y : Inequality). take k l ++ (y ∷ [])) (sym e)) ∙ map-append seen (take k l) (x ∷ [])

pub copied : (o l : List Inequality) (k : ℕ) (x r : Inequality) (w : List plain.Inequality) → k < length l → x ≡ get_or l k x → seen r ≡ seen x →
    seen_all o ++ seen_all (drop k l) ≡ w → seen_all (o ++ (r ∷ [])) ++ seen_all (drop (k + 1) l) ≡ w
copied o l k x r w h e f g =
    ap (λ (y : List plain.Inequality). y ++ seen_all (drop (k + 1) l)) (seen_push o r ∙ ap (λ (y : plain.Inequality). seen_all o ++ (y ∷ [])) f)
    ∙ append_assoc (seen_all o) (seen x ∷ []) (seen_all (drop (k + 1) l))
    ∙ sym (ap (λ (y : List plain.Inequality). seen_all o ++ y) (seen_drop l k x h e)) ∙ g

pub copied_all : (o l : List Inequality) (k : ℕ) (w : List plain.Inequality) → length l ≤ k → seen_all o ++ seen_all (drop k l) ≡ w → seen_all o ≡ w
copied_all o l k w h g = sym (ap (λ (y : List plain.Inequality). seen_all o ++ y) (seen_end l k h) ∙ append-nil (seen_all o)) ∙ g

pub copied_back : (o l : List Inequality) (n k : ℕ) (x r : Inequality) (w : List plain.Inequality) → n ≡ k + 1 → k < length l → x ≡ get_or l k x → seen r ≡ seen x →
    seen_all o ++ reverse (seen_all (take n l)) ≡ w → seen_all (o ++ (r ∷ [])) ++ reverse (seen_all (take k l)) ≡ w
copied_back o l n k x r w m h e f g =
    ap (λ (y : List plain.Inequality). y ++ reverse (seen_all (take k l))) (seen_push o r ∙ ap (λ (y : plain.Inequality). seen_all o ++ (y ∷ [])) f)
    ∙ append_assoc (seen_all o) (seen x ∷ []) (reverse (seen_all (take k l)))
    ∙ sym (ap (λ (y : List plain.Inequality). seen_all o ++ y) (ap reverse (seen_take l n k x m h e) ∙ reverse-append (seen_all (take k l)) (seen x ∷ []))) ∙ g

pub copied_back_start : (o l : List Inequality) (n : ℕ) → o ≡ [] → length l ≤ n → seen_all o ++ reverse (seen_all (take n l)) ≡ reverse (seen_all l)
copied_back_start o l n e h =
    ap (λ (y : List plain.Inequality). y ++ reverse (seen_all (take n l))) (seen_none o e)
    ∙ ap (λ (y : List Inequality). reverse (seen_all y)) (take_all n l h)

pub copied_back_all : (o l : List Inequality) (n : ℕ) (w : List plain.Inequality) → n ≤ 0 → seen_all o ++ reverse (seen_all (take n l)) ≡ w → seen_all o ≡ w
unfolding seen_all
copied_back_all o l zero w h g = sym (append-nil (seen_all o)) ∙ g
copied_back_all o l (suc n) w h g = absurd (omega arith)

-- ---- inequalities at an index

pub narrow_at : (l : List Inequality) (k : ℕ) (x : Inequality) → NarrowAll (seen_all l) → k < length l → x ≡ get_or l k x → Narrow (seen x)
unfolding seen_all
narrow_at [] k x n h e = absurd (omega arith)
narrow_at (i ∷ l) zero x n h e = subst (λ (y : Inequality). Narrow (seen y)) (sym e) n.0
narrow_at (i ∷ l) (suc k) x n h e = narrow_at l k x n.1 (omega arith) e

-- ---- the coefficient of a place

pub ordered_later : (n m : ℕ) (l : List Multiple) → m ≤ n → Ordered n l → Ordered m l
ordered_later n m [] h o = tt
ordered_later n m (t ∷ l) h o = let a = o.0 in (omega (arith, a, h), o.1, o.2)

pub ordered_tail : (l : List Multiple) (k : ℕ) (d : Multiple) → k < length l → Ordered 0 (drop k l) → Ordered (suc (get_or l k d).place) (drop (k + 1) l)
ordered_tail l k d h o = let e = drop_more l k d h in let p : Ordered 0 (get_or l k d ∷ drop (k + 1) l) = subst (λ (y : List Multiple). Ordered 0 y) e o in p.2

pub ordered_rest : (l : List Multiple) (k : ℕ) (d : Multiple) → k < length l → Ordered 0 (drop k l) → Ordered 0 (drop (k + 1) l)
ordered_rest l k d h o = ordered_later (suc (get_or l k d).place) 0 (drop (k + 1) l) (omega arith) (ordered_tail l k d h o)

pub no_coefficient : (n x : ℕ) (l : List Multiple) → x < n → Ordered n l → coefficient x l ≡ pos 0
unfolding coefficient
no_coefficient n x [] h o = refl
no_coefficient n x (t ∷ l) h o = let a = o.0 in let i = no_coefficient (suc t.place) x l (omega (arith, a, h)) o.2 in elim (bool_cases (nat_eq x t.place)) [
  | inl e ↦ absurd (let s = eqb-true x t.place e in omega (arith, s, a, h))
  | inr e ↦ ap₂ (λ (b : Bool) (z : ℤ). (if b then t.coefficient else pos 0) +ℤ z) e i
]

coefficient_head : (x : ℕ) (t : Multiple) (l : List Multiple) → t.place ≡ x → Ordered (suc t.place) l → t.coefficient ≡ coefficient x (t ∷ l)
unfolding coefficient
coefficient_head x t l e o =
    let i = no_coefficient (suc t.place) x l (omega (arith, e)) o in
    let s : nat_eq x t.place ≡ true = eq-eqb x t.place (sym e) in
    sym (ap₂ (λ (b : Bool) (z : ℤ). (if b then t.coefficient else pos 0) +ℤ z) s i ∙ (let f : t.coefficient +ℤ pos 0 ≡ t.coefficient = omega (arith, ints) in f))

coefficient_other : (x : ℕ) (t : Multiple) (l : List Multiple) → (t.place ≡ x → ⊥) → coefficient x l ≡ coefficient x (t ∷ l)
unfolding coefficient
coefficient_other x t l n = elim (bool_cases (nat_eq x t.place)) [
  | inl e ↦ absurd (n (sym (eqb-true x t.place e)))
  | inr e ↦ sym (ap (λ (b : Bool). (if b then t.coefficient else pos 0) +ℤ coefficient x l) e ∙ (let f : pos 0 +ℤ coefficient x l ≡ coefficient x l = omega (arith, ints) in f))
]

pub coefficient_found : (x : ℕ) (l : List Multiple) (k : ℕ) (d : Multiple) (c : ℤ) → k < length l → (get_or l k d).place ≡ x → Ordered 0 (drop k l) → coefficient x (drop k l) ≡ c → (get_or l k d).coefficient ≡ c
coefficient_found x l k d c h e o f =
    coefficient_head x (get_or l k d) (drop (k + 1) l) e (ordered_tail l k d h o) ∙ sym (ap (coefficient x) (drop_more l k d h)) ∙ f

pub coefficient_next : (x : ℕ) (l : List Multiple) (k : ℕ) (d : Multiple) (c : ℤ) → k < length l → ((get_or l k d).place ≡ x → ⊥) → coefficient x (drop k l) ≡ c → coefficient x (drop (k + 1) l) ≡ c
coefficient_next x l k d c h n f = coefficient_other x (get_or l k d) (drop (k + 1) l) n ∙ sym (ap (coefficient x) (drop_more l k d h)) ∙ f

pub coefficient_end : (x : ℕ) (l : List Multiple) (k : ℕ) (c : ℤ) → length l ≤ k → coefficient x (drop k l) ≡ c → pos 0 ≡ c
unfolding coefficient
coefficient_end x l k c h f = sym (ap (coefficient x) (drop_all k l h)) ∙ f
