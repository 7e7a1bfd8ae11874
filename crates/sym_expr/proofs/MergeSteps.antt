-- The steps of a merge.
use Rattle.std.proofs.Common.{◌≡◌, ◌∙◌, sym, ap, ap₂, refl, arith, ℕ, zero, suc, ℤ, pos, negsuc, ◌+ℤ◌, ◌<◌, ◌≤◌, ◌+◌, Bool, true, false, nat_lt, List, [], ◌∷◌, ◌++◌, length, drop, drop-cons, get_or, add-one, append_assoc, append-nil, if◌then◌else◌}
use lib.ListN.{drop_of_length-le}
use Rattle.cc_base.specs.declared.forms.Multiple.{Multiple}
use Rattle.sym_expr.specs.declared.forms.FormTerm.{FormTerm}
use Rattle.sym_expr.specs.TermsSeen.{multiple_of, multiples_of}
use Rattle.sym_expr.specs.Sums.{merge, merge_term, put_unless_zero, is_zero_number}

dropped : (p : List FormTerm) (i : ℕ) (d : FormTerm) → i < length p → multiples_of (drop i p) ≡ multiple_of (get_or p i d) ∷ multiples_of (drop (i + 1) p)
dropped p i d h = let e : drop i p ≡ get_or p i d ∷ drop (i + 1) p = rw add-one (drop-cons p i d h) in ap multiples_of e

left_first : (t u : Multiple) (p q : List Multiple) → t.place < u.place → merge (t ∷ p) (u ∷ q) ≡ t ∷ merge p (u ∷ q)
unfolding merge merge_term
left_first t u p q h = let e : nat_lt t.place u.place ≡ true = grind arith in
    ap (λ (b : Bool). if b then t ∷ merge p (u ∷ q) else (if nat_lt u.place t.place then u ∷ merge_term t (merge p) q else put_unless_zero t.place (t.coefficient +ℤ u.coefficient) (merge p q))) e

right_first : (t u : Multiple) (p q : List Multiple) → u.place < t.place → merge (t ∷ p) (u ∷ q) ≡ u ∷ merge (t ∷ p) q
unfolding merge merge_term
right_first t u p q h = let e : nat_lt t.place u.place ≡ false = grind arith in let f : nat_lt u.place t.place ≡ true = grind arith in
    ap (λ (b : Bool). if b then t ∷ merge p (u ∷ q) else (if nat_lt u.place t.place then u ∷ merge_term t (merge p) q else put_unless_zero t.place (t.coefficient +ℤ u.coefficient) (merge p q))) e
    ∙ ap (λ (b : Bool). if b then u ∷ merge_term t (merge p) q else put_unless_zero t.place (t.coefficient +ℤ u.coefficient) (merge p q)) f

both_first : (t u : Multiple) (p q : List Multiple) → t.place ≡ u.place → merge (t ∷ p) (u ∷ q) ≡ put_unless_zero t.place (t.coefficient +ℤ u.coefficient) (merge p q)
unfolding merge merge_term
both_first t u p q h = let e : nat_lt t.place u.place ≡ false = grind arith in let f : nat_lt u.place t.place ≡ false = grind arith in
    ap (λ (b : Bool). if b then t ∷ merge p (u ∷ q) else (if nat_lt u.place t.place then u ∷ merge_term t (merge p) q else put_unless_zero t.place (t.coefficient +ℤ u.coefficient) (merge p q))) e
    ∙ ap (λ (b : Bool). if b then u ∷ merge_term t (merge p) q else put_unless_zero t.place (t.coefficient +ℤ u.coefficient) (merge p q)) f

module _ (p q : List FormTerm) (i j : ℕ) (d : FormTerm) (h : i < length p) (k : j < length q) where
  parts : merge (multiples_of (drop i p)) (multiples_of (drop j q)) ≡ merge (multiple_of (get_or p i d) ∷ multiples_of (drop (i + 1) p)) (multiple_of (get_or q j d) ∷ multiples_of (drop (j + 1) q))
  parts = ap₂ merge (dropped p i d h) (dropped q j d k)

  pub step_left : (get_or p i d).place.0 < (get_or q j d).place.0 → merge (multiples_of (drop i p)) (multiples_of (drop j q)) ≡ multiple_of (get_or p i d) ∷ merge (multiples_of (drop (i + 1) p)) (multiples_of (drop j q))
  step_left l = parts ∙ left_first (multiple_of (get_or p i d)) (multiple_of (get_or q j d)) (multiples_of (drop (i + 1) p)) (multiples_of (drop (j + 1) q)) l
      ∙ ap (λ (m : List Multiple). multiple_of (get_or p i d) ∷ merge (multiples_of (drop (i + 1) p)) m) (sym (dropped q j d k))

  pub step_right : (get_or q j d).place.0 < (get_or p i d).place.0 → merge (multiples_of (drop i p)) (multiples_of (drop j q)) ≡ multiple_of (get_or q j d) ∷ merge (multiples_of (drop i p)) (multiples_of (drop (j + 1) q))
  step_right l = parts ∙ right_first (multiple_of (get_or p i d)) (multiple_of (get_or q j d)) (multiples_of (drop (i + 1) p)) (multiples_of (drop (j + 1) q)) l
      ∙ ap (λ (m : List Multiple). multiple_of (get_or q j d) ∷ merge m (multiples_of (drop (j + 1) q))) (sym (dropped p i d h))

  pub step_both : (get_or p i d).place.0 ≡ (get_or q j d).place.0 → merge (multiples_of (drop i p)) (multiples_of (drop j q)) ≡
      put_unless_zero (get_or p i d).place.0 ((get_or p i d).coefficient +ℤ (get_or q j d).coefficient) (merge (multiples_of (drop (i + 1) p)) (multiples_of (drop (j + 1) q)))
  step_both l = parts ∙ both_first (multiple_of (get_or p i d)) (multiple_of (get_or q j d)) (multiples_of (drop (i + 1) p)) (multiples_of (drop (j + 1) q)) l

-- a term in front of a list, put by itself
pub put_front : (x : ℕ) (k : ℤ) (m : List Multiple) → put_unless_zero x k [] ++ m ≡ put_unless_zero x k m
unfolding put_unless_zero is_zero_number
put_front x (pos zero) m = refl
put_front x (pos (suc n)) m = refl
put_front x (negsuc n) m = refl

-- what comes next is out
pub out_next : (o t r m w : List Multiple) → o ++ r ≡ w → r ≡ t ++ m → (o ++ t) ++ m ≡ w
out_next o t r m w e f = append_assoc o t m ∙ sym (ap (λ (l : List Multiple). o ++ l) f) ∙ e

merge_none : (p : List Multiple) → merge p [] ≡ p
unfolding merge merge_term
merge_none [] = refl
merge_none (t ∷ p) = ap (λ (l : List Multiple). t ∷ l) (merge_none p)

-- the ends
pub left_out : (o w : List Multiple) (p q : List FormTerm) (i j : ℕ) → length p ≤ i → o ++ merge (multiples_of (drop i p)) (multiples_of (drop j q)) ≡ w → (o ++ multiples_of (drop i p)) ++ multiples_of (drop j q) ≡ w
unfolding merge
left_out o w p q i j h e =
    let n : multiples_of (drop i p) ≡ [] = ap multiples_of (drop_of_length-le p h) in
    append_assoc o (multiples_of (drop i p)) (multiples_of (drop j q)) ∙ ap (λ (l : List Multiple). o ++ (l ++ multiples_of (drop j q))) n
    ∙ sym (ap (λ (l : List Multiple). o ++ merge l (multiples_of (drop j q))) n) ∙ e

pub right_out : (o w : List Multiple) (p q : List FormTerm) (i j : ℕ) → length q ≤ j → o ++ merge (multiples_of (drop i p)) (multiples_of (drop j q)) ≡ w → (o ++ multiples_of (drop i p)) ++ multiples_of (drop j q) ≡ w
right_out o w p q i j h e =
    let n : multiples_of (drop j q) ≡ [] = ap multiples_of (drop_of_length-le q h) in
    append_assoc o (multiples_of (drop i p)) (multiples_of (drop j q)) ∙ ap (λ (l : List Multiple). o ++ (multiples_of (drop i p) ++ l)) n
    ∙ ap (λ (l : List Multiple). o ++ l) (append-nil (multiples_of (drop i p)) ∙ sym (merge_none (multiples_of (drop i p))))
    ∙ sym (ap (λ (l : List Multiple). o ++ merge (multiples_of (drop i p)) l) n) ∙ e

pub multiples_append : (p q : List FormTerm) → multiples_of (p ++ q) ≡ multiples_of p ++ multiples_of q
multiples_append [] q = refl
multiples_append (t ∷ p) q = ap (λ (l : List Multiple). multiple_of t ∷ l) (multiples_append p q)
