-- One instruction is passed, one outcome gets a distance.
use Rattle.std.proofs.Common.{◌≡◌, ◌≢◌, ◌<◌, ◌≤◌, ◌⊎◌, inl, inr, ℕ, zero, suc, ◌+◌, ◌/◌, Bool, true, false, List, [], ◌∷◌, ◌++◌, length, take, set, get_or, Option, Some, None, slice_get, refl, sym, ◌∙◌, subst, ap, arith}
use Rattle.std.specs.Option.{is_some}
use Rattle.std.proofs.Math.ListN.{length-set}
use Rattle.std.proofs.lemmas.List.{length-append}
use Rattle.std.proofs.lemmas.Bool.{cases_lt, cases_eq}
use Rattle.std.proofs.lemmas.List.Sums.{sum_by-set}
use Rattle.std.proofs.lemmas.Option.{slice_get_within, slice_get-get_or}
use Rattle.cc_base.specs.Paths.{In}
use Rattle.cc_model.specs.declared.checked.Checked.{Checked}
use Rattle.search_walks.specs.Distance.{IsDecisionSite}
use Rattle.search_walks.specs.Rows.{row}
use Rattle.search_walks.specs.Layers.{one_if_not, one_if_none, IsPassed, HasDistance, Opens, Gives, DecisionsOf, nones, unpassed, IsUncovered, Starts}
use Rattle.search_base.proofs.PathLaws.{in_left, in_right}
use Rattle.search_walks.proofs.RowLaws.{in_push, in_more, in_next, in_front, get_any}

pub get_same : {A : Type 0} → (l : List A) (i : ℕ) (x : A) → i < length l → slice_get (set l i x) i ≡ Some x
get_same [] i x h = absurd (omega (arith, h))
get_same (y ∷ l) zero x h = refl
get_same (y ∷ l) (suc i) x h = get_same l i x (omega (arith, h))

pub get_other : {A : Type 0} → (l : List A) (i j : ℕ) (x : A) → j ≢ i → slice_get (set l i x) j ≡ slice_get l j
get_other [] i j x h = refl
get_other (y ∷ l) zero zero x h = absurd (h refl)
get_other (y ∷ l) zero (suc j) x h = refl
get_other (y ∷ l) (suc i) zero x h = refl
get_other (y ∷ l) (suc i) (suc j) x h = get_other l i j x (λ e. h (ap suc e))

length_last : {A : Type 0} → (l : List A) (x : A) → length (l ++ x ∷ []) ≡ length l + 1
length_last l x = length-append l (x ∷ [])

-- ---- passing

module _ (p : List Bool) (o : List ℕ) (at : ℕ) where
  pub opens_one : (d : Bool) → at < length p → get_or p at d ≡ false → Opens p o (set p at true) (o ++ at ∷ []) (λ a. a ≡ at)
  opens_one d h e = record {
    size = length-set p at true;
    kept = λ a i. kept a i (cases_eq a at);
    were = λ a i. elim (cases_eq a at) [ inl q ↦ inr (in_right a o (at ∷ []) (inl q)) | inr q ↦ inl (sym (get_other p at a true q) ∙ i) ];
    still = λ a i. in_left a o (at ∷ []) i;
    opened = λ a i. in_push a at o i;
    all = λ a q i. subst (λ k. IsPassed (set p at true) k) (sym q) (get_same p at true h);
    fewer = count;
  }
    where
      kept : (a : ℕ) → IsPassed p a → (a ≡ at) ⊎ (a ≡ at → ⊥) → IsPassed (set p at true) a
      kept a i (inl q) = subst (λ k. IsPassed (set p at true) k) (sym q) (get_same p at true h)
      kept a i (inr q) = get_other p at a true q ∙ i

      count : unpassed (set p at true) + length (o ++ at ∷ []) ≡ unpassed p + length o
      count = let s = sum_by-set one_if_not p at true d h in let z = ap one_if_not e in let l = length_last o at in omega (arith, s, z, l)

  pub opens_passed : slice_get p at ≡ Some true → Opens p o p o (λ a. a ≡ at)
  opens_passed e = record {
    size = refl;
    kept = λ a i. i;
    were = λ a i. inl i;
    still = λ a i. i;
    opened = λ a i. inl i;
    all = λ a q i. subst (IsPassed p) (sym q) e;
    fewer = refl;
  }

  pub opens_past : length p ≤ at → Opens p o p o (λ a. a ≡ at)
  opens_past h = record {
    size = refl;
    kept = λ a i. i;
    were = λ a i. inl i;
    still = λ a i. i;
    opened = λ a i. inl i;
    all = λ a q i. absurd (omega (arith, h, q, i));
    fewer = refl;
  }

module _ (p : List Bool) (o : List ℕ) where
  pub opens_none : (Q : ℕ → Type 0) → ((a : ℕ) → Q a → ⊥) → Opens p o p o Q
  opens_none Q n = record {
    size = refl;
    kept = λ a i. i;
    were = λ a i. inl i;
    still = λ a i. i;
    opened = λ a i. inl i;
    all = λ a q i. absurd (n a q);
    fewer = refl;
  }

  module _ (p1 : List Bool) (o1 : List ℕ) (Q : ℕ → Type 0) (x : Opens p o p1 o1 Q) where
    pub opens_by : (R : ℕ → Type 0) → ((a : ℕ) → Q a → R a) → ((a : ℕ) → R a → Q a) → Opens p o p1 o1 R
    opens_by R f g = record {
      size = x.size;
      kept = x.kept;
      were = x.were;
      still = x.still;
      opened = λ a i. elim (x.opened a i) [ inl j ↦ inl j | inr j ↦ inr (f a j) ];
      all = λ a r i. x.all a (g a r) i;
      fewer = x.fewer;
    }

    pub opens_then : (p2 : List Bool) (o2 : List ℕ) (R : ℕ → Type 0) → Opens p1 o1 p2 o2 R → Opens p o p2 o2 (λ a. Q a ⊎ R a)
    opens_then p2 o2 R y = record {
      size = y.size ∙ x.size;
      kept = λ a i. y.kept a (x.kept a i);
      were = λ a i. elim (y.were a i) [ inl j ↦ elim (x.were a j) [ inl k ↦ inl k | inr k ↦ inr (y.still a k) ] | inr j ↦ inr j ];
      still = λ a i. y.still a (x.still a i);
      opened = λ a i. elim (y.opened a i) [ inl j ↦ elim (x.opened a j) [ inl k ↦ inl k | inr k ↦ inr (inl k) ] | inr j ↦ inr (inr j) ];
      all = λ a q i. all a q i;
      fewer = y.fewer ∙ x.fewer;
    }
      where
        all : (a : ℕ) → Q a ⊎ R a → a < length p → IsPassed p2 a
        all a (inl q) i = y.kept a (x.all a q i)
        all a (inr q) i = y.all a q (subst (λ k. a < k) (sym x.size) i)

-- one more of these instructions
pub opens_more : (p : List Bool) (o : List ℕ) (p1 : List Bool) (o1 : List ℕ) (p2 : List Bool) (o2 : List ℕ) (l : List ℕ) (i a : ℕ) → i < length l → a ≡ get_or l i 0 →
    Opens p o p1 o1 (λ x. In x (take i l)) → Opens p1 o1 p2 o2 (λ x. x ≡ a) → Opens p o p2 o2 (λ x. In x (take (i + 1) l))
opens_more p o p1 o1 p2 o2 l i a h e x y =
    opens_by p o p2 o2 (λ z. In z (take i l) ⊎ (z ≡ a)) (opens_then p o p1 o1 (λ z. In z (take i l)) x p2 o2 (λ z. z ≡ a) y) (λ z. In z (take (i + 1) l))
    (λ z q. in_next i l a z h (get_any l i a 0 h e) q) (λ z q. in_more l i a z h (get_any l i a 0 h e) q)

-- the decisions of one more of these outcomes
pub opens_decisions_more : (d : List (List ℕ)) (p : List Bool) (o : List ℕ) (p1 : List Bool) (o1 : List ℕ) (p2 : List Bool) (o2 : List ℕ) (l : List ℕ) (i a : ℕ) (r : List ℕ) → i < length l → a ≡ get_or l i 0 → r ≡ row d (a / 2) →
    Opens p o p1 o1 (DecisionsOf d (take i l)) → Opens p1 o1 p2 o2 (λ x. In x r) → Opens p o p2 o2 (DecisionsOf d (take (i + 1) l))
opens_decisions_more d p o p1 o1 p2 o2 l i a r h e f x y =
    opens_by p o p2 o2 (λ z. DecisionsOf d (take i l) z ⊎ In z r) (opens_then p o p1 o1 (DecisionsOf d (take i l)) x p2 o2 (λ z. In z r) y) (DecisionsOf d (take (i + 1) l)) to back
  where
    g : a ≡ get_or l i a
    g = get_any l i a 0 h e

    to : (z : ℕ) → DecisionsOf d (take i l) z ⊎ In z r → DecisionsOf d (take (i + 1) l) z
    to z (inl q) = record { outcome = q.outcome; is_in = in_next i l a q.outcome h g (inl q.is_in); has = q.has }
    to z (inr q) = record { outcome = a; is_in = in_next i l a a h g (inr refl); has = record { is_in = subst (λ k. In z k) f q } }

    back : (z : ℕ) → DecisionsOf d (take (i + 1) l) z → DecisionsOf d (take i l) z ⊎ In z r
    back z q = elim (in_more l i a q.outcome h g q.is_in) [
      | inl j ↦ inl (record { outcome = q.outcome; is_in = j; has = q.has })
      | inr j ↦ inr (subst (λ k. In z k) (sym f) (subst (λ k. In z (row d (k / 2))) j (q.has).is_in))
    ]

-- ---- giving

module _ (k : ℕ) (d : List (Option ℕ)) (n : List ℕ) (at : ℕ) where
  pub gives_one : (v : Option ℕ) → at < length d → get_or d at v ≡ None → Gives k d n (set d at (Some k)) (n ++ at ∷ []) (λ a. a ≡ at)
  gives_one v h e = record {
    size = length-set d at (Some k);
    kept = λ a w i. get_other d at a (Some k) (λ q. absurd (was a w q i)) ∙ i;
    given = λ a w i. given a w i (cases_eq a at);
    still = λ a i. in_left a n (at ∷ []) i;
    comes = λ a i. elim (in_push a at n i) [ inl j ↦ inl j | inr j ↦ inr (j, subst (λ x. slice_get (set d at (Some k)) x ≡ Some (Some k)) (sym j) (get_same d at (Some k) h)) ];
    all = λ a q i. record { distance = k; is = subst (λ x. slice_get (set d at (Some k)) x ≡ Some (Some k)) (sym q) (get_same d at (Some k) h) };
    fewer = count;
  }
    where
      was : (a w : ℕ) → a ≡ at → slice_get d a ≡ Some (Some w) → ⊥
      was a w q i = absurd (cc (slice_get-get_or d at v h, e, ap (slice_get d) q, i))

      given : (a w : ℕ) → slice_get (set d at (Some k)) a ≡ Some (Some w) → (a ≡ at) ⊎ (a ≡ at → ⊥) → (slice_get d a ≡ Some (Some w)) ⊎ ((a ≡ at) × (w ≡ k) × In a (n ++ at ∷ []))
      given a w i (inl q) = inr (q, cc (get_same d at (Some k) h, ap (slice_get (set d at (Some k))) q, i), in_right a n (at ∷ []) (inl q))
      given a w i (inr q) = inl (sym (get_other d at a (Some k) q) ∙ i)

      count : nones (set d at (Some k)) + length (n ++ at ∷ []) ≡ nones d + length n
      count = let s = sum_by-set one_if_none d at (Some k) v h in let z = ap one_if_none e in let l = length_last n at in omega (arith, s, z, l)

  pub gives_there : (w : ℕ) → slice_get d at ≡ Some (Some w) → Gives k d n d n (λ a. a ≡ at)
  gives_there w e = record {
    size = refl;
    kept = λ a v i. i;
    given = λ a v i. inl i;
    still = λ a i. i;
    comes = λ a i. inl i;
    all = λ a q i. record { distance = w; is = ap (slice_get d) q ∙ e };
    fewer = refl;
  }

  pub gives_past : length d ≤ at → Gives k d n d n (λ a. a ≡ at)
  gives_past h = record {
    size = refl;
    kept = λ a v i. i;
    given = λ a v i. inl i;
    still = λ a i. i;
    comes = λ a i. inl i;
    all = λ a q i. absurd (omega (arith, h, q, i));
    fewer = refl;
  }

module _ (k : ℕ) (d : List (Option ℕ)) (n : List ℕ) where
  pub gives_none : (Q : ℕ → Type 0) → ((a : ℕ) → Q a → ⊥) → Gives k d n d n Q
  gives_none Q h = record {
    size = refl;
    kept = λ a v i. i;
    given = λ a v i. inl i;
    still = λ a i. i;
    comes = λ a i. inl i;
    all = λ a q i. absurd (h a q);
    fewer = refl;
  }

  module _ (d1 : List (Option ℕ)) (n1 : List ℕ) (Q : ℕ → Type 0) (x : Gives k d n d1 n1 Q) where
    pub gives_by : (R : ℕ → Type 0) → ((a : ℕ) → Q a → R a) → ((a : ℕ) → R a → Q a) → Gives k d n d1 n1 R
    gives_by R f g = record {
      size = x.size;
      kept = x.kept;
      given = λ a v i. elim (x.given a v i) [ inl j ↦ inl j | inr j ↦ inr (f a j.0, j.1, j.2) ];
      still = x.still;
      comes = λ a i. elim (x.comes a i) [ inl j ↦ inl j | inr j ↦ inr (f a j.0, j.1) ];
      all = λ a r i. x.all a (g a r) i;
      fewer = x.fewer;
    }

    pub gives_then : (d2 : List (Option ℕ)) (n2 : List ℕ) (R : ℕ → Type 0) → Gives k d1 n1 d2 n2 R → Gives k d n d2 n2 (λ a. Q a ⊎ R a)
    gives_then d2 n2 R y = record {
      size = y.size ∙ x.size;
      kept = λ a v i. y.kept a v (x.kept a v i);
      given = λ a v i. elim (y.given a v i) [
        | inl j ↦ elim (x.given a v j) [ inl q ↦ inl q | inr q ↦ inr (inl q.0, q.1, y.still a q.2) ]
        | inr j ↦ inr (inr j.0, j.1, j.2)
      ];
      still = λ a i. y.still a (x.still a i);
      comes = λ a i. elim (y.comes a i) [
        | inl j ↦ elim (x.comes a j) [ inl q ↦ inl q | inr q ↦ inr (inl q.0, y.kept a k q.1) ]
        | inr j ↦ inr (inr j.0, j.1)
      ];
      all = λ a q i. all a q i;
      fewer = y.fewer ∙ x.fewer;
    }
      where
        all : (a : ℕ) → Q a ⊎ R a → a < length d → HasDistance d2 a
        all a (inl q) i = let r = x.all a q i in record { distance = r.distance; is = y.kept a r.distance r.is }
        all a (inr q) i = y.all a q (subst (λ m. a < m) (sym x.size) i)

pub gives_more : (k : ℕ) (d : List (Option ℕ)) (n : List ℕ) (d1 : List (Option ℕ)) (n1 : List ℕ) (d2 : List (Option ℕ)) (n2 : List ℕ) (l : List ℕ) (i a : ℕ) → i < length l → a ≡ get_or l i 0 →
    Gives k d n d1 n1 (λ x. In x (take i l)) → Gives k d1 n1 d2 n2 (λ x. x ≡ a) → Gives k d n d2 n2 (λ x. In x (take (i + 1) l))
gives_more k d n d1 n1 d2 n2 l i a h e x y =
    gives_by k d n d2 n2 (λ z. In z (take i l) ⊎ (z ≡ a)) (gives_then k d n d1 n1 (λ z. In z (take i l)) x d2 n2 (λ z. z ≡ a) y) (λ z. In z (take (i + 1) l))
    (λ z q. in_next i l a z h (get_any l i a 0 h e) q) (λ z q. in_more l i a z h (get_any l i a 0 h e) q)

-- ---- in the words of the code

pub opened_now : (p : List Bool) (o : List ℕ) (at : ℕ) (b : Bool) (new : List ℕ) → at < length p → b ≡ get_or p at b → b ≡ false → new ≡ o ++ at ∷ [] → Opens p o (set p at true) new (λ a. a ≡ at)
opened_now p o at b new h e f g = subst (λ k. Opens p o (set p at true) k (λ a. a ≡ at)) (sym g) (opens_one p o at b h (sym e ∙ f))

pub opened_before : (p : List Bool) (o : List ℕ) (at : ℕ) (b : Bool) → at < length p → b ≡ get_or p at b → b ≡ true → Opens p o p o (λ a. a ≡ at)
opened_before p o at b h e f = opens_passed p o at (slice_get-get_or p at b h ∙ ap Some (sym e ∙ f))

is_none_of : (b : Option ℕ) → is_some b ≡ false → b ≡ None
is_none_of None e = refl
is_none_of (Some x) e = absurd (cc e)

pub given_now : (k : ℕ) (d : List (Option ℕ)) (o : List ℕ) (at : ℕ) (b : Option ℕ) (new : List ℕ) → at < length d → b ≡ get_or d at b → is_some b ≡ false → new ≡ o ++ at ∷ [] → Gives k d o (set d at (Some k)) new (λ a. a ≡ at)
given_now k d o at b new h e f g = subst (λ m. Gives k d o (set d at (Some k)) m (λ a. a ≡ at)) (sym g) (gives_one k d o at b h (sym e ∙ is_none_of b f))

pub given_before : (k : ℕ) (d : List (Option ℕ)) (o : List ℕ) (at : ℕ) (b : Option ℕ) → at < length d → b ≡ get_or d at b → is_some b ≡ true → Gives k d o d o (λ a. a ≡ at)
given_before k d o at b h e f = by b refl
  where
    by : (v : Option ℕ) → b ≡ v → Gives k d o d o (λ a. a ≡ at)
    by None q = absurd (cc (f, ap is_some q))
    by (Some w) q = gives_there k d o at w (slice_get-get_or d at b h ∙ ap Some (sym e ∙ q))

-- all are passed over
in_whole : (l : List ℕ) (i z : ℕ) → length l ≤ i → In z l → In z (take i l)
in_whole [] i z h x = absurd x
in_whole (y ∷ l) zero z h x = absurd (omega (arith, h))
in_whole (y ∷ l) (suc i) z h (inl e) = inl e
in_whole (y ∷ l) (suc i) z h (inr x) = inr (in_whole l i z (omega (arith, h)) x)

pub opens_end : (p : List Bool) (o : List ℕ) (p1 : List Bool) (o1 : List ℕ) (l : List ℕ) (i : ℕ) → length l ≤ i → Opens p o p1 o1 (λ x. In x (take i l)) → Opens p o p1 o1 (λ x. In x l)
opens_end p o p1 o1 l i h x = opens_by p o p1 o1 (λ z. In z (take i l)) x (λ z. In z l) (λ z q. in_front i l z q) (λ z q. in_whole l i z h q)

pub opens_decisions_end : (d : List (List ℕ)) (p : List Bool) (o : List ℕ) (p1 : List Bool) (o1 : List ℕ) (l : List ℕ) (i : ℕ) → length l ≤ i → Opens p o p1 o1 (DecisionsOf d (take i l)) → Opens p o p1 o1 (DecisionsOf d l)
opens_decisions_end d p o p1 o1 l i h x = opens_by p o p1 o1 (DecisionsOf d (take i l)) x (DecisionsOf d l)
    (λ z q. record { outcome = q.outcome; is_in = in_front i l q.outcome q.is_in; has = q.has }) (λ z q. record { outcome = q.outcome; is_in = in_whole l i q.outcome h q.is_in; has = q.has })

pub gives_end : (k : ℕ) (d : List (Option ℕ)) (n : List ℕ) (d1 : List (Option ℕ)) (n1 : List ℕ) (l : List ℕ) (i : ℕ) → length l ≤ i → Gives k d n d1 n1 (λ x. In x (take i l)) → Gives k d n d1 n1 (λ x. In x l)
gives_end k d n d1 n1 l i h x = gives_by k d n d1 n1 (λ z. In z (take i l)) x (λ z. In z l) (λ z q. in_front i l z q) (λ z q. in_whole l i z h q)

-- ---- the first outcomes

get_before : {A : Type 0} → (l : List A) (x : A) (i : ℕ) → i < length l → slice_get (l ++ x ∷ []) i ≡ slice_get l i
get_before [] x i h = absurd (omega (arith, h))
get_before (y ∷ l) x zero h = refl
get_before (y ∷ l) x (suc i) h = get_before l x i (omega (arith, h))

get_new : {A : Type 0} → (l : List A) (x : A) (i : ℕ) → i ≡ length l → slice_get (l ++ x ∷ []) i ≡ Some x
get_new [] x zero h = refl
get_new [] x (suc i) h = absurd (omega (arith, h))
get_new (y ∷ l) x zero h = absurd (omega (arith, h))
get_new (y ∷ l) x (suc i) h = get_new l x i (omega (arith, h))

module _ (c : Checked) (covered : List Bool) (k : ℕ) (d : List (Option ℕ)) (n : List ℕ) (w : Starts c covered k d n) where
  cases_new : (x : Option ℕ) (o v : ℕ) → slice_get (d ++ x ∷ []) o ≡ Some (Some v) → (slice_get d o ≡ Some (Some v)) ⊎ ((o ≡ k) × (x ≡ Some v))
  cases_new x o v e = by (cases_lt o k)
    where
      size : length (d ++ x ∷ []) ≡ length d + 1
      size = length_last d x

      by : (o < k) ⊎ (k ≤ o) → (slice_get d o ≡ Some (Some v)) ⊎ ((o ≡ k) × (x ≡ Some v))
      by (inl h) = inl (sym (get_before d x o (omega (arith, h, w.size))) ∙ e)
      by (inr h) = let r = slice_get_within (d ++ x ∷ []) o (Some v) e in let z : o ≡ length d = omega (arith, h, r, size, w.size) in inr (z ∙ w.size, cc (get_new d x o z, e))

  stays : (x : Option ℕ) (o v : ℕ) → slice_get d o ≡ Some (Some v) → slice_get (d ++ x ∷ []) o ≡ Some (Some v)
  stays x o v e = get_before d x o (slice_get_within d o (Some v) e) ∙ e

  -- an outcome that isn't covered
  pub starts_open : (d1 : List (Option ℕ)) (n1 : List ℕ) → IsUncovered c covered k → d1 ≡ d ++ Some 0 ∷ [] → n1 ≡ n ++ k ∷ [] → Starts c covered (suc k) d1 n1
  starts_open d1 n1 u e f = subst (λ x. Starts c covered (suc k) x n1) (sym e) (subst (Starts c covered (suc k) (d ++ Some 0 ∷ [])) (sym f) starts)
    where
      starts : Starts c covered (suc k) (d ++ Some 0 ∷ []) (n ++ k ∷ [])
      starts = record {
        size = let l = length_last d (Some 0) in omega (arith, l, w.size);
        given = λ o v i. elim (cases_new (Some 0) o v i) [ inl j ↦ w.given o v j | inr j ↦ (cc j.1, subst (IsUncovered c covered) (sym j.0) u) ];
        all = λ o h i. elim (cases_lt o k) [ inl j ↦ stays (Some 0) o 0 (w.all o j i) | inr j ↦ get_new d (Some 0) o (omega (arith, h, j, w.size)) ];
        comes = λ o i. elim (in_push o k n i) [ inl j ↦ stays (Some 0) o 0 (w.comes o j) | inr j ↦ get_new d (Some 0) o (j ∙ sym w.size) ];
        later = λ o i. elim (cases_new (Some 0) o 0 i) [ inl j ↦ in_left o n (k ∷ []) (w.later o j) | inr j ↦ in_right o n (k ∷ []) (inl j.0) ];
      }

  -- another
  pub starts_none : (d1 : List (Option ℕ)) → (IsUncovered c covered k → ⊥) → d1 ≡ d ++ None ∷ [] → Starts c covered (suc k) d1 n
  starts_none d1 u e = subst (λ x. Starts c covered (suc k) x n) (sym e) starts
    where
      starts : Starts c covered (suc k) (d ++ None ∷ []) n
      starts = record {
        size = let l = length_last d None in omega (arith, l, w.size);
        given = λ o v i. elim (cases_new None o v i) [ inl j ↦ w.given o v j | inr j ↦ absurd (cc j.1) ];
        all = λ o h i. elim (cases_lt o k) [ inl j ↦ stays None o 0 (w.all o j i) | inr j ↦ let z : o ≡ k = omega (arith, h, j) in absurd (u (subst (IsUncovered c covered) z i)) ];
        comes = λ o i. stays None o 0 (w.comes o i);
        later = λ o i. elim (cases_new None o 0 i) [ inl j ↦ w.later o j | inr j ↦ absurd (cc j.1) ];
      }

pub starts_empty : (c : Checked) (covered : List Bool) (d : List (Option ℕ)) (n : List ℕ) → d ≡ [] → n ≡ [] → Starts c covered 0 d n
starts_empty c covered d n e f = subst (λ x. Starts c covered 0 x n) (sym e) (subst (Starts c covered 0 []) (sym f) starts)
  where
    no_item : (o : ℕ) → slice_get {X = Option ℕ} [] o ≡ None
    no_item zero = refl
    no_item (suc o) = refl

    starts : Starts c covered 0 [] []
    starts = record {
      size = refl;
      given = λ o v i. absurd (cc (no_item o, i));
      all = λ o h i. absurd (omega (arith, h));
      comes = λ o i. absurd i;
      later = λ o i. absurd (cc (no_item o, i));
    }

pub uncovered : (c : Checked) (covered : List Bool) (o : ℕ) (d : Bool) → o < length covered → get_or covered o d ≡ false → IsDecisionSite c (o / 2) → IsUncovered c covered o
uncovered c covered o d h e i = record { is_site = i; is_not = slice_get-get_or covered o d h ∙ ap Some e }

pub not_uncovered : (c : Checked) (covered : List Bool) (o : ℕ) (d : Bool) → o < length covered → get_or covered o d ≡ true → IsUncovered c covered o → ⊥
not_uncovered c covered o d h e u = absurd (cc (u.is_not, slice_get-get_or covered o d h, e))
