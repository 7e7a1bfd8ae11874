-- The terms that are found.
use Rattle.std.proofs.Common.{◌≡◌, ℕ, zero, suc, ◌+◌, ◌<◌, ◌≤◌, ◌⊎◌, ◌↔◌, inl, inr, List, [], ◌∷◌, length, map, take, drop, Some, slice_get, ◌≢◌, if◌then◌else◌, refl, sym, ap, ◌∙◌, subst, arith, get_or, insert}
use Rattle.cc_base.specs.Paths.{In, Pairwise}
use Rattle.cc_model.specs.declared.terms.TermKind.{TermKind}
use Rattle.cc_model.specs.declared.terms.TermKind.TheVariants.{Product, Quotient, Index, Wide}
use Rattle.cc_model.specs.Tested.{Term}
use Rattle.cc_model.specs.declared.checked.Site.{Site}
use Rattle.cc_laws.proofs.Members.{is_same, not_same}
use Rattle.sym_run.specs.declared.trace.Term.{Term as RunTerm}
use Rattle.search_base.specs.declared.terms.FoundTerm.{FoundTerm}
use Rattle.search_base.specs.Setting.{column_in}
use Rattle.search_base.specs.Inserting.{IsPlace}
use Rattle.search_base.specs.Terms.{seen_term, rank_of, Comes, InOrder}
use Rattle.search_base.proofs.InsertLaws.{ascends, in_inserted}
use Rattle.search_base.proofs.PathLaws.{order_of}

pub there_is : {A : Type 0} → (l : List A) (k : ℕ) (x : A) → k < length l → x ≡ get_or l k x → slice_get l k ≡ Some x
there_is [] k x h e = absurd (omega (arith, h))
there_is (a ∷ l) zero x h e = ap Some (sym e)
there_is (a ∷ l) (suc k) x h e = there_is l k x (omega (arith, h)) e

-- ---- the order

rank_tells : (a b : TermKind) → rank_of a ≡ rank_of b → a ≡ b
rank_tells Index Index e = refl
rank_tells Product Product e = refl
rank_tells Quotient Quotient e = refl
rank_tells Wide Wide e = refl
rank_tells _ _ e = absurd (omega (arith, e))

comes_trans : (a b c : Term) → Comes a b → Comes b c → Comes a c
comes_trans a b c (inl h) (inl k) = inl (omega (arith, h, k))
comes_trans a b c (inl h) (inr k) = let e = k.0 in inl (omega (arith, h, e))
comes_trans a b c (inr h) (inl k) = let e = h.0 in inl (omega (arith, e, k))
comes_trans a b c (inr (e, inl h)) (inr (f, inl k)) = inr (e ∙ f, inl (omega (arith, h, k)))
comes_trans a b c (inr (e, inl h)) (inr (f, inr k)) = let g = k.0 in inr (e ∙ f, inl (omega (arith, h, g)))
comes_trans a b c (inr (e, inr h)) (inr (f, inl k)) = let g = h.0 in inr (e ∙ f, inl (omega (arith, g, k)))
comes_trans a b c (inr (e, inr (g, h))) (inr (f, inr (i, k))) = inr (e ∙ f, inr (g ∙ i, omega (arith, h, k)))

abbrev made : ℕ → ℕ → TermKind → Term
made l c k = record { line = l; col = c; kind = k }

-- neither comes before the other
pub one_term : (a b : Term) → (Comes a b → ⊥) → (Comes b a → ⊥) → a ≡ b
one_term a b n m = by (order_of a.line b.line)
  where
    make : a.line ≡ b.line → a.col ≡ b.col → a.kind ≡ b.kind → a ≡ b
    make e f g = ap (λ l. made l a.col a.kind) e ∙ ap (λ c. made b.line c a.kind) f ∙ ap (λ k. made b.line b.col k) g

    kinds : a.line ≡ b.line → a.col ≡ b.col → (rank_of a.kind < rank_of b.kind) ⊎ ((rank_of a.kind ≡ rank_of b.kind) ⊎ (rank_of b.kind < rank_of a.kind)) → a ≡ b
    kinds e f (inl h) = absurd (n (inr (e, inr (f, h))))
    kinds e f (inr (inl h)) = make e f (rank_tells a.kind b.kind h)
    kinds e f (inr (inr h)) = absurd (m (inr (sym e, inr (sym f, h))))

    cols : a.line ≡ b.line → (a.col < b.col) ⊎ ((a.col ≡ b.col) ⊎ (b.col < a.col)) → a ≡ b
    cols e (inl h) = absurd (n (inr (e, inl h)))
    cols e (inr (inl f)) = kinds e f (order_of (rank_of a.kind) (rank_of b.kind))
    cols e (inr (inr h)) = absurd (m (inr (sym e, inl h)))

    by : (a.line < b.line) ⊎ ((a.line ≡ b.line) ⊎ (b.line < a.line)) → a ≡ b
    by (inl h) = absurd (n (inl h))
    by (inr (inl e)) = cols e (order_of a.col b.col)
    by (inr (inr h)) = absurd (m (inl h))

-- ---- one more term

in_seen : (l : List FoundTerm) (x : Term) → In x (map seen_term l) → (y : FoundTerm) × In y l × (x ≡ seen_term y)
in_seen [] x i = absurd i
in_seen (y ∷ l) x (inl e) = (y, inl refl, e)
in_seen (y ∷ l) x (inr i) = let r = in_seen l x i in (r.0, inr r.1, r.2)

seen_in : (l : List FoundTerm) (y : FoundTerm) → In y l → In (seen_term y) (map seen_term l)
seen_in [] y i = absurd i
seen_in (z ∷ l) y (inl e) = inl (ap seen_term e)
seen_in (z ∷ l) y (inr i) = inr (seen_in l y i)

-- the order of those found, and of what they are seen as
to_seen : (l : List FoundTerm) → Pairwise (λ a b. Comes (seen_term a) (seen_term b)) l → InOrder l
to_seen [] h = tt
to_seen (x ∷ l) h = ((λ y i. let r = in_seen l y i in subst (Comes (seen_term x)) (sym r.2) (h.0 r.0 r.1)), to_seen l h.1)

from_seen : (l : List FoundTerm) → InOrder l → Pairwise (λ a b. Comes (seen_term a) (seen_term b)) l
from_seen [] h = tt
from_seen (x ∷ l) h = ((λ y i. h.0 (seen_term y) (seen_in l y i)), from_seen l h.1)

abbrev pub Before_it : FoundTerm → FoundTerm → Type 0
Before_it t x = Comes (seen_term x) (seen_term t)

abbrev pub AlsoHas : List FoundTerm → List FoundTerm → FoundTerm → Type 0
AlsoHas old new t = (x : Term) → In x (map seen_term new) ↔ (In x (map seen_term old) ⊎ (x ≡ seen_term t))

module _ (l : List FoundTerm) (t : FoundTerm) (n : ℕ) (place : IsPlace (Before_it t) l n) where
  pub put_all : AlsoHas l (insert l n t) t
  put_all x = (to, back)
    where
      to : In x (map seen_term (insert l n t)) → In x (map seen_term l) ⊎ (x ≡ seen_term t)
      to i = let r = in_seen (insert l n t) x i in elim ((in_inserted l n t r.0).0 r.1) [
        | inl j ↦ inl (subst (λ z. In z (map seen_term l)) (sym r.2) (seen_in l r.0 j))
        | inr e ↦ inr (r.2 ∙ ap seen_term e)
      ]

      back : In x (map seen_term l) ⊎ (x ≡ seen_term t) → In x (map seen_term (insert l n t))
      back (inl i) = let r = in_seen l x i in subst (λ z. In z (map seen_term (insert l n t))) (sym r.2) (seen_in (insert l n t) r.0 ((in_inserted l n t r.0).1 (inl r.1)))
      back (inr e) = subst (λ z. In z (map seen_term (insert l n t))) (sym e) (seen_in (insert l n t) t ((in_inserted l n t t).1 (inr refl)))

  pub put_order : ((x : FoundTerm) → slice_get l n ≡ Some x → Comes (seen_term t) (seen_term x)) → InOrder l → InOrder (insert l n t)
  put_order above h = to_seen (insert l n t) (ascends FoundTerm (λ a b. Comes (seen_term a) (seen_term b)) t (λ x z g k. comes_trans (seen_term t) (seen_term x) (seen_term z) g k) l n (from_seen l h) place.before above)

  -- it is there
  pub is_there : (x : FoundTerm) → slice_get l n ≡ Some x → (Comes (seen_term t) (seen_term x) → ⊥) → AlsoHas l l t
  is_there x e m y = ((λ i. inl i), (λ i. elim i [ inl j ↦ j | inr f ↦ subst (λ z. In z (map seen_term l)) (sym (f ∙ sym (one_term (seen_term x) (seen_term t) (place.next x e) m))) (seen_in l x (got l n x e)) ]))
    where
      got : (l : List FoundTerm) (k : ℕ) (a : FoundTerm) → slice_get l k ≡ Some a → In a l
      got [] k a e = absurd (cc e)
      got (x ∷ l) zero a e = inl (cc e)
      got (x ∷ l) (suc k) a e = inr (got l k a e)

-- ---- columns

column_first : (x : Site) (l : List Site) (t : ℕ) → x.token ≡ t → x.col ≡ column_in (x ∷ l) t
unfolding column_in
column_first x l t e = sym (ap (λ b. if b then x.col else column_in l t) (is_same x.token t e))

column_next : (x : Site) (l : List Site) (t : ℕ) → x.token ≢ t → column_in (x ∷ l) t ≡ column_in l t
unfolding column_in
column_next x l t n = ap (λ b. if b then x.col else column_in l t) (not_same x.token t n)

pub column_here : (l : List Site) (i t : ℕ) (d : Site) → i < length l → (get_or l i d).token ≡ t → (get_or l i d).col ≡ column_in (drop i l) t
column_here [] i t d h e = absurd (omega (arith, h))
column_here (x ∷ l) zero t d h e = column_first x l t e
column_here (x ∷ l) (suc i) t d h e = column_here l i t d (omega (arith, h)) e

column_step : (l : List Site) (i t : ℕ) (d : Site) → i < length l → (get_or l i d).token ≢ t → column_in (drop i l) t ≡ column_in (drop (suc i) l) t
column_step [] i t d h e = absurd (omega (arith, h))
column_step (x ∷ l) zero t d h e = column_next x l t e
column_step (x ∷ l) (suc i) t d h e = column_step l i t d (omega (arith, h)) e

pub column_on : (l : List Site) (i t : ℕ) (d : Site) → i < length l → (get_or l i d).token ≢ t → column_in (drop i l) t ≡ column_in (drop (i + 1) l) t
column_on l i t d h n = column_step l i t d h n ∙ ap (λ m. column_in (drop m l) t) (next_is i)
  where
    next_is : (i : ℕ) → suc i ≡ i + 1
    next_is i = omega arith

column_nil : (t : ℕ) → 0 ≡ column_in [] t
unfolding column_in
column_nil t = refl

pub column_end : (l : List Site) (i t : ℕ) → length l ≤ i → 0 ≡ column_in (drop i l) t
column_end [] zero t h = column_nil t
column_end [] (suc i) t h = column_nil t
column_end (x ∷ l) zero t h = absurd (omega (arith, h))
column_end (x ∷ l) (suc i) t h = column_end l i t (omega (arith, h))

-- ---- the terms of a run, one after another

pub one_further : (f : RunTerm → Term) (l : List RunTerm) (i : ℕ) (d : RunTerm) → i < length l → (y : Term) → In y (map f (take (i + 1) l)) ↔ (In y (map f (take i l)) ⊎ (y ≡ f (get_or l i d)))
one_further f l i d h y = subst (λ m. In y (map f (take m l)) ↔ (In y (map f (take i l)) ⊎ (y ≡ f (get_or l i d)))) (next_is i) (further l i h)
  where
    next_is : (i : ℕ) → suc i ≡ i + 1
    next_is i = omega arith

    further : (l : List RunTerm) (i : ℕ) → i < length l → In y (map f (take (suc i) l)) ↔ (In y (map f (take i l)) ⊎ (y ≡ f (get_or l i d)))
    further [] i h = absurd (omega (arith, h))
    further (x ∷ l) zero h = ((λ j. elim j [ inl e ↦ inr e | inr k ↦ absurd k ]), (λ j. elim j [ inl k ↦ absurd k | inr e ↦ inl e ]))
    further (x ∷ l) (suc i) h = let r = further l i (omega (arith, h)) in (
      (λ j. elim j [ inl e ↦ inl (inl e) | inr k ↦ elim (r.0 k) [ inl m ↦ inl (inr m) | inr e ↦ inr e ] ]),
      (λ j. elim j [ inl k ↦ elim k [ inl e ↦ inl e | inr m ↦ inr (r.1 (inl m)) ] | inr e ↦ inr (r.1 (inr e)) ]),
    )

-- one more term was put to those found
pub found_more : (f : RunTerm → Term) (l : List RunTerm) (i : ℕ) (d : RunTerm) (first old new : List FoundTerm) (t : FoundTerm) → i < length l → seen_term t ≡ f (get_or l i d)
    → ((y : Term) → In y (map seen_term old) ↔ (In y (map seen_term first) ⊎ In y (map f (take i l))))
    → ((y : Term) → In y (map seen_term new) ↔ (In y (map seen_term old) ⊎ (y ≡ seen_term t)))
    → (y : Term) → In y (map seen_term new) ↔ (In y (map seen_term first) ⊎ In y (map f (take (i + 1) l)))
found_more f l i d first old new t h e before one y = let o = one_further f l i d h y in (
  (λ j. elim ((one y).0 j) [
    | inl k ↦ elim ((before y).0 k) [ inl m ↦ inl m | inr m ↦ inr (o.1 (inl m)) ]
    | inr g ↦ inr (o.1 (inr (g ∙ e)))
  ]),
  (λ j. elim j [
    | inl m ↦ (one y).1 (inl ((before y).1 (inl m)))
    | inr k ↦ elim (o.0 k) [ inl m ↦ (one y).1 (inl ((before y).1 (inr m))) | inr g ↦ (one y).1 (inr (g ∙ sym e)) ]
  ]),
)

take_whole : (l : List RunTerm) (n : ℕ) → length l ≤ n → take n l ≡ l
take_whole [] zero h = refl
take_whole [] (suc n) h = refl
take_whole (x ∷ l) zero h = absurd (omega (arith, h))
take_whole (x ∷ l) (suc n) h = ap (λ m. x ∷ m) (take_whole l n (omega (arith, h)))

pub found_all : (f : RunTerm → Term) (l : List RunTerm) (n : ℕ) (first now : List FoundTerm) → length l ≤ n
    → ((y : Term) → In y (map seen_term now) ↔ (In y (map seen_term first) ⊎ In y (map f (take n l)))) → (y : Term) → In y (map seen_term now) ↔ (In y (map seen_term first) ⊎ In y (map f l))
found_all f l n first now h k y = subst (λ m. In y (map seen_term now) ↔ (In y (map seen_term first) ⊎ In y (map f m))) (take_whole l n h) (k y)
