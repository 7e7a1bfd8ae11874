-- The steps of a merge.
use Rattle.std.proofs.Common.{◌≡◌, ◌≢◌, ◌∙◌, sym, ap, ap₂, refl, arith, ℕ, zero, suc, ℤ, pos, negsuc, ◌+ℤ◌, ◌*ℤ◌, ◌<◌, ◌≤◌, ◌+◌, Bool, true, false, nat_lt, List, [], ◌∷◌, ◌++◌, length, take, drop, drop-cons, get_or, add-one, append_assoc, append-nil, if◌then◌else◌}
use Rattle.std.proofs.lemmas.List.{take_more, take_all}
use lib.ListN.{drop_of_length-le}
use Rattle.cc_base.specs.Inequality.{scaled, scaled_term, merge, merge_term, put_unless_zero, int_is_zero}
use Rattle.cc_base.specs.declared.forms.Multiple.{Multiple}

scaled_append : (k : ℤ) (p q : List Multiple) → scaled k (p ++ q) ≡ scaled k p ++ scaled k q
unfolding scaled
scaled_append k [] q = refl
scaled_append k (t ∷ p) q = ap (λ (l : List Multiple). scaled_term k t ∷ l) (scaled_append k p q)

pub push_scaled : (o u : List Multiple) (k : ℤ) (p : List Multiple) (i : ℕ) (d : Multiple) → i < length p → u ≡ o ++ scaled k (take i p) → u ++ (scaled_term k (get_or p i d) ∷ []) ≡ o ++ scaled k (take (i + 1) p)
unfolding scaled
push_scaled o u k p i d h e =
    ap (λ (l : List Multiple). l ++ (scaled_term k (get_or p i d) ∷ [])) e ∙ append_assoc o (scaled k (take i p)) (scaled_term k (get_or p i d) ∷ [])
    ∙ ap (λ (l : List Multiple). o ++ l) (sym (scaled_append k (take i p) (get_or p i d ∷ [])) ∙ ap (scaled k) (sym (take_more p i d h)))

pub pushed_all : (o u : List Multiple) (k : ℤ) (p : List Multiple) (i : ℕ) → length p ≤ i → u ≡ o ++ scaled k (take i p) → u ≡ o ++ scaled k p
pushed_all o u k p i h e = e ∙ ap (λ (l : List Multiple). o ++ scaled k l) (take_all i p h)

scaled_drop : (k : ℤ) (p : List Multiple) (i : ℕ) (d : Multiple) → i < length p → scaled k (drop i p) ≡ scaled_term k (get_or p i d) ∷ scaled k (drop (i + 1) p)
unfolding scaled
scaled_drop k p i d h = let e : drop i p ≡ get_or p i d ∷ drop (i + 1) p = rw add-one (drop-cons p i d h) in ap (scaled k) e

left_first : (t u : Multiple) (p q : List Multiple) → t.place < u.place → merge (t ∷ p) (u ∷ q) ≡ t ∷ merge p (u ∷ q)
unfolding merge merge_term
left_first t u p q h = let e : nat_lt t.place u.place ≡ true = grind arith in
    ap (λ (b : Bool). if b then t ∷ merge p (u ∷ q) else (if nat_lt u.place t.place then u ∷ merge_term t (merge p) q else put_unless_zero t.place (t.coefficient +ℤ u.coefficient) (merge p q))) e

right_first : (t u : Multiple) (p q : List Multiple) → u.place < t.place → merge (t ∷ p) (u ∷ q) ≡ u ∷ merge (t ∷ p) q
unfolding merge merge_term
right_first t u p q h = let e : nat_lt t.place u.place ≡ false = grind arith in let f : nat_lt u.place t.place ≡ true = grind arith in
    ap (λ (b : Bool). if b then t ∷ merge p (u ∷ q) else (if nat_lt u.place t.place then u ∷ merge_term t (merge p) q else put_unless_zero t.place (t.coefficient +ℤ u.coefficient) (merge p q))) e
    ∙ ap (λ (b : Bool). if b then u ∷ merge_term t (merge p) q else put_unless_zero t.place (t.coefficient +ℤ u.coefficient) (merge p q)) f

both_first : (t u : Multiple) (p q : List Multiple) → t.place ≡ u.place → merge (t ∷ p) (u ∷ q) ≡ put_unless_zero t.place (t.coefficient +ℤ u.coefficient) (merge p q)
unfolding merge merge_term
both_first t u p q h = let e : nat_lt t.place u.place ≡ false = grind arith in let f : nat_lt u.place t.place ≡ false = grind arith in
    ap (λ (b : Bool). if b then t ∷ merge p (u ∷ q) else (if nat_lt u.place t.place then u ∷ merge_term t (merge p) q else put_unless_zero t.place (t.coefficient +ℤ u.coefficient) (merge p q))) e
    ∙ ap (λ (b : Bool). if b then u ∷ merge_term t (merge p) q else put_unless_zero t.place (t.coefficient +ℤ u.coefficient) (merge p q)) f

module _ (c a : ℤ) (p q : List Multiple) (i j : ℕ) (d : Multiple) (h : i < length p) (k : j < length q) where
  parts : merge (scaled c (drop i p)) (scaled a (drop j q)) ≡ merge (scaled_term c (get_or p i d) ∷ scaled c (drop (i + 1) p)) (scaled_term a (get_or q j d) ∷ scaled a (drop (j + 1) q))
  parts = ap₂ merge (scaled_drop c p i d h) (scaled_drop a q j d k)

  pub step_left : (get_or p i d).place < (get_or q j d).place → merge (scaled c (drop i p)) (scaled a (drop j q)) ≡ scaled_term c (get_or p i d) ∷ merge (scaled c (drop (i + 1) p)) (scaled a (drop j q))
  unfolding scaled_term
  step_left l = parts ∙ left_first (scaled_term c (get_or p i d)) (scaled_term a (get_or q j d)) (scaled c (drop (i + 1) p)) (scaled a (drop (j + 1) q)) l
      ∙ ap (λ (m : List Multiple). scaled_term c (get_or p i d) ∷ merge (scaled c (drop (i + 1) p)) m) (sym (scaled_drop a q j d k))

  pub step_right : (get_or q j d).place < (get_or p i d).place → merge (scaled c (drop i p)) (scaled a (drop j q)) ≡ scaled_term a (get_or q j d) ∷ merge (scaled c (drop i p)) (scaled a (drop (j + 1) q))
  unfolding scaled_term
  step_right l = parts ∙ right_first (scaled_term c (get_or p i d)) (scaled_term a (get_or q j d)) (scaled c (drop (i + 1) p)) (scaled a (drop (j + 1) q)) l
      ∙ ap (λ (m : List Multiple). scaled_term a (get_or q j d) ∷ merge m (scaled a (drop (j + 1) q))) (sym (scaled_drop c p i d h))

  pub step_both : (get_or p i d).place ≡ (get_or q j d).place → merge (scaled c (drop i p)) (scaled a (drop j q)) ≡
      put_unless_zero (get_or p i d).place ((c *ℤ (get_or p i d).coefficient) +ℤ (a *ℤ (get_or q j d).coefficient)) (merge (scaled c (drop (i + 1) p)) (scaled a (drop (j + 1) q)))
  unfolding scaled_term
  step_both l = parts ∙ both_first (scaled_term c (get_or p i d)) (scaled_term a (get_or q j d)) (scaled c (drop (i + 1) p)) (scaled a (drop (j + 1) q)) l

-- one more term is out
pub out_one : (o : List Multiple) (t : Multiple) (r m w : List Multiple) → o ++ r ≡ w → r ≡ t ∷ m → (o ++ (t ∷ [])) ++ m ≡ w
out_one o t r m w e f = append_assoc o (t ∷ []) m ∙ sym (ap (λ (l : List Multiple). o ++ l) f) ∙ e

put_zero : (x : ℕ) (k : ℤ) (m : List Multiple) → k ≡ pos 0 → put_unless_zero x k m ≡ m
unfolding put_unless_zero int_is_zero
put_zero x (pos zero) m h = refl
put_zero x (pos (suc n)) m h = absurd (cc h)
put_zero x (negsuc n) m h = absurd (cc h)

put_other : (x : ℕ) (k : ℤ) (m : List Multiple) → k ≢ pos 0 → put_unless_zero x k m ≡ (let t : Multiple = record { place = x; coefficient = k } in t) ∷ m
unfolding put_unless_zero int_is_zero
put_other x (pos zero) m h = absurd (h refl)
put_other x (pos (suc n)) m h = refl
put_other x (negsuc n) m h = refl

pub out_none : (o r m w : List Multiple) (x : ℕ) (k : ℤ) → o ++ r ≡ w → r ≡ put_unless_zero x k m → k ≡ pos 0 → o ++ m ≡ w
out_none o r m w x k e f z = sym (ap (λ (l : List Multiple). o ++ l) (f ∙ put_zero x k m z)) ∙ e

pub out_sum : (o r m w : List Multiple) (x : ℕ) (k : ℤ) → o ++ r ≡ w → r ≡ put_unless_zero x k m → k ≢ pos 0 → (o ++ ((let t : Multiple = record { place = x; coefficient = k } in t) ∷ [])) ++ m ≡ w
out_sum o r m w x k e f z = out_one o (record { place = x; coefficient = k }) r m w e (f ∙ put_other x k m z)

-- the ends
merge_none : (p : List Multiple) → merge p [] ≡ p
unfolding merge merge_term
merge_none [] = refl
merge_none (t ∷ p) = ap (λ (l : List Multiple). t ∷ l) (merge_none p)

pub left_out : (o w : List Multiple) (c a : ℤ) (p q : List Multiple) (i j : ℕ) → length p ≤ i → o ++ merge (scaled c (drop i p)) (scaled a (drop j q)) ≡ w → (o ++ scaled c (drop i p)) ++ scaled a (drop j q) ≡ w
unfolding scaled merge
left_out o w c a p q i j h e =
    let n : scaled c (drop i p) ≡ [] = ap (scaled c) (drop_of_length-le p h) in
    append_assoc o (scaled c (drop i p)) (scaled a (drop j q)) ∙ ap (λ (l : List Multiple). o ++ (l ++ scaled a (drop j q))) n
    ∙ sym (ap (λ (l : List Multiple). o ++ merge l (scaled a (drop j q))) n) ∙ e

pub right_out : (o w : List Multiple) (c a : ℤ) (p q : List Multiple) (i j : ℕ) → length q ≤ j → o ++ merge (scaled c (drop i p)) (scaled a (drop j q)) ≡ w → (o ++ scaled c (drop i p)) ++ scaled a (drop j q) ≡ w
unfolding scaled
right_out o w c a p q i j h e =
    let n : scaled a (drop j q) ≡ [] = ap (scaled a) (drop_of_length-le q h) in
    append_assoc o (scaled c (drop i p)) (scaled a (drop j q)) ∙ ap (λ (l : List Multiple). o ++ (scaled c (drop i p) ++ l)) n ∙ ap (λ (l : List Multiple). o ++ l) (append-nil (scaled c (drop i p)) ∙ sym (merge_none (scaled c (drop i p))))
    ∙ sym (ap (λ (l : List Multiple). o ++ merge (scaled c (drop i p)) l) n) ∙ e
