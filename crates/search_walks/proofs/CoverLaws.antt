-- Outcomes are covered, one after another.
use Rattle.std.proofs.Common.{◌≡◌, ◌<◌, ◌≤◌, ◌⊎◌, ◌||◌, inl, inr, ℕ, zero, suc, ◌+◌, ◌*◌, Bool, true, false, List, [], ◌∷◌, ◌++◌, length, set, get_or, Some, slice_get, refl, sym, ◌∙◌, subst, ap, arith}
use Rattle.std.proofs.Math.ListN.{length-set}
use Rattle.std.proofs.lemmas.List.{length-append}
use Rattle.std.proofs.lemmas.Bool.{cases_lt, cases_eq}
use Rattle.std.proofs.lemmas.Option.{slice_get_within, slice_get-get_or}
use Rattle.cc_model.specs.declared.checked.Checked.{Checked}
use Rattle.sym_run.specs.declared.trace.Event.{Event}
use Rattle.search_walks.specs.Distance.{entry, IsDecisionSite}
use Rattle.search_walks.specs.Covering.{Marks, IsAmong, IsTakenAt, IsTakenUpTo}
use Rattle.sym_run.specs.Traces.{outcome_at}
use Rattle.search_walks.specs.Deciding.{side_of}
use Rattle.search_base.specs.Terms.{token_in}
use Rattle.search_walks.proofs.StepLaws.{get_same, get_other}

module _ (l : List Bool) where
  pub marks_none : (Q : ℕ → Type 0) → ((a : ℕ) → Q a → ⊥) → Marks l l Q false
  marks_none Q n = record {
    size = refl;
    each = λ a. ((λ i. inl i), λ i. elim i [ inl j ↦ j | inr j ↦ absurd (n a j.0) ]);
    one_new = ((λ e. absurd (cc e)), λ i. absurd (n i.0 i.1));
  }

  -- one that wasn't covered
  pub marks_one : (at : ℕ) (d : Bool) → at < length l → get_or l at d ≡ false → Marks l (set l at true) (λ a. a ≡ at) true
  marks_one at d h e = record {
    size = length-set l at true;
    each = λ a. (to a (cases_eq a at), back a (cases_eq a at));
    one_new = ((λ _. (at, refl, slice_get-get_or l at d h ∙ ap Some e)), λ _. refl);
  }
    where
      to : (a : ℕ) → (a ≡ at) ⊎ (a ≡ at → ⊥) → slice_get (set l at true) a ≡ Some true → (slice_get l a ≡ Some true) ⊎ ((a ≡ at) × (a < length l))
      to a (inl q) i = inr (q, subst (λ k. k < length l) (sym q) h)
      to a (inr q) i = inl (sym (get_other l at a true q) ∙ i)

      back : (a : ℕ) → (a ≡ at) ⊎ (a ≡ at → ⊥) → (slice_get l a ≡ Some true) ⊎ ((a ≡ at) × (a < length l)) → slice_get (set l at true) a ≡ Some true
      back a (inl q) i = subst (λ k. slice_get (set l at true) k ≡ Some true) (sym q) (get_same l at true h)
      back a (inr q) (inl i) = get_other l at a true q ∙ i
      back a (inr q) (inr i) = absurd (q i.0)

  -- one that is covered
  pub marks_there : (at : ℕ) (d : Bool) → at < length l → get_or l at d ≡ true → Marks l l (λ a. a ≡ at) false
  marks_there at d h e = record {
    size = refl;
    each = λ a. ((λ i. inl i), λ i. elim i [ inl j ↦ j | inr j ↦ subst (λ k. slice_get l k ≡ Some true) (sym j.0) (slice_get-get_or l at d h ∙ ap Some e) ]);
    one_new = ((λ f. absurd (cc f)), λ i. absurd (cc (i.2, ap (slice_get l) i.1, slice_get-get_or l at d h, e)));
  }

  pub marks_past : (at : ℕ) → length l ≤ at → Marks l l (λ a. a ≡ at) false
  marks_past at h = record {
    size = refl;
    each = λ a. ((λ i. inl i), λ i. elim i [ inl j ↦ j | inr j ↦ absurd (let q = j.0 in let r = j.1 in omega (arith, h, q, r)) ]);
    one_new = ((λ f. absurd (cc f)), λ i. absurd (let q = i.1 in let r = slice_get_within l i.0 false i.2 in omega (arith, h, q, r)));
  }

  module _ (m : List Bool) (Q : ℕ → Type 0) (b : Bool) (x : Marks l m Q b) where
    pub marks_by : (R : ℕ → Type 0) → ((a : ℕ) → Q a → R a) → ((a : ℕ) → R a → Q a) → Marks l m R b
    marks_by R f g = record {
      size = x.size;
      each = λ a. ((λ i. elim ((x.each a).0 i) [ inl j ↦ inl j | inr j ↦ inr (f a j.0, j.1) ]), λ i. (x.each a).1 (elim i [ inl j ↦ inl j | inr j ↦ inr (g a j.0, j.1) ]));
      one_new = ((λ e. let r = (x.one_new).0 e in (r.0, f r.0 r.1, r.2)), λ i. (x.one_new).1 (i.0, g i.0 i.1, i.2));
    }

    pub marks_then : (n : List Bool) (R : ℕ → Type 0) (d : Bool) → Marks m n R d → Marks l n (λ a. Q a ⊎ R a) (d || b)
    marks_then n R d y = record {
      size = y.size ∙ x.size;
      each = λ a. (to a, back a);
      one_new = (some d refl, news);
    }
      where
        to : (a : ℕ) → slice_get n a ≡ Some true → (slice_get l a ≡ Some true) ⊎ ((Q a ⊎ R a) × (a < length l))
        to a i = elim ((y.each a).0 i) [
          | inl j ↦ elim ((x.each a).0 j) [ inl k ↦ inl k | inr k ↦ inr (inl k.0, k.1) ]
          | inr j ↦ inr (inr j.0, subst (λ k. a < k) x.size j.1)
        ]

        back : (a : ℕ) → (slice_get l a ≡ Some true) ⊎ ((Q a ⊎ R a) × (a < length l)) → slice_get n a ≡ Some true
        back a (inl i) = (y.each a).1 (inl ((x.each a).1 (inl i)))
        back a (inr (inl q, h)) = (y.each a).1 (inl ((x.each a).1 (inr (q, h))))
        back a (inr (inr r, h)) = (y.each a).1 (inr (r, subst (λ k. a < k) (sym x.size) h))

        -- what isn't covered in between wasn't before
        was_not : (a : ℕ) → slice_get m a ≡ Some false → slice_get l a ≡ Some false
        was_not a i = by (get_or l a true) refl
          where
            h : a < length l
            h = subst (λ k. a < k) x.size (slice_get_within m a false i)

            by : (v : Bool) → get_or l a true ≡ v → slice_get l a ≡ Some false
            by false e = slice_get-get_or l a true h ∙ ap Some e
            by true e = absurd (cc ((x.each a).1 (inl (slice_get-get_or l a true h ∙ ap Some e)), i))

        some : (v : Bool) → d ≡ v → (d || b) ≡ true → (a : ℕ) × (Q a ⊎ R a) × (slice_get l a ≡ Some false)
        some true e i = let r = (y.one_new).0 e in (r.0, inr r.1, was_not r.0 r.2)
        some false e i = let f : b ≡ true = ap (λ w. w || b) (sym e) ∙ i in let r = (x.one_new).0 f in (r.0, inl r.1, r.2)

        or_right : (v : Bool) → (v || true) ≡ true
        or_right true = refl
        or_right false = refl

        news : (a : ℕ) × (Q a ⊎ R a) × (slice_get l a ≡ Some false) → (d || b) ≡ true
        news (a, inl q, i) = ap (λ w. d || w) ((x.one_new).1 (a, q, i)) ∙ or_right d
        news (a, inr r, i) = by (get_or m a true) refl
          where
            h : a < length m
            h = subst (λ k. a < k) (sym x.size) (slice_get_within l a false i)

            by : (v : Bool) → get_or m a true ≡ v → (d || b) ≡ true
            by false e = ap (λ w. w || b) ((y.one_new).1 (a, r, slice_get-get_or m a true h ∙ ap Some e))
            by true e = elim ((x.each a).0 (slice_get-get_or m a true h ∙ ap Some e)) [
              | inl j ↦ absurd (cc (i, j))
              | inr j ↦ ap (λ w. d || w) ((x.one_new).1 (a, j.0, i)) ∙ or_right d
            ]

-- ---- sites, events

module _ (c : Checked) (token : ℕ) (side : Bool) where
  pub among_none : (l : List Bool) → Marks l l (IsAmong c token side 0) false
  among_none l = marks_none l (IsAmong c token side 0) (λ a x. let h = x.below in absurd (omega (arith, h)))

  pub among_more : (l m n : List Bool) (b d e : Bool) (i : ℕ) → e ≡ d || b → Marks l m (IsAmong c token side i) b →
      Marks m n (λ a. IsDecisionSite c i × (token_in c.sites i ≡ token) × (a ≡ entry i side)) d → Marks l n (IsAmong c token side (i + 1)) e
  among_more l m n b d e i f x y = subst (Marks l n (IsAmong c token side (i + 1))) (sym f)
      (marks_by l n (λ a. IsAmong c token side i a ⊎ (IsDecisionSite c i × (token_in c.sites i ≡ token) × (a ≡ entry i side))) (d || b)
      (marks_then l m (IsAmong c token side i) b x n (λ a. IsDecisionSite c i × (token_in c.sites i ≡ token) × (a ≡ entry i side)) d y) (IsAmong c token side (i + 1)) to back)
    where
      to : (a : ℕ) → IsAmong c token side i a ⊎ (IsDecisionSite c i × (token_in c.sites i ≡ token) × (a ≡ entry i side)) → IsAmong c token side (i + 1) a
      to a (inl q) = record { site = q.site; below = let h = q.below in omega (arith, h); is_site = q.is_site; token_is = q.token_is; number = q.number }
      to a (inr q) = record { site = i; below = omega arith; is_site = q.0; token_is = q.1; number = q.2 }

      back : (a : ℕ) → IsAmong c token side (i + 1) a → IsAmong c token side i a ⊎ (IsDecisionSite c i × (token_in c.sites i ≡ token) × (a ≡ entry i side))
      back a q = by (cases_lt q.site i)
        where
          by : (q.site < i) ⊎ (i ≤ q.site) → IsAmong c token side i a ⊎ (IsDecisionSite c i × (token_in c.sites i ≡ token) × (a ≡ entry i side))
          by (inl h) = inl (record { site = q.site; below = h; is_site = q.is_site; token_is = q.token_is; number = q.number })
          by (inr h) = let k = q.below in let z : q.site ≡ i = omega (arith, h, k) in
              inr (subst (IsDecisionSite c) z q.is_site, ap (token_in c.sites) (sym z) ∙ q.token_is, q.number ∙ ap (λ s. entry s side) z)

module _ (c : Checked) (e : Event) where
  pub not_taken : (l : List Bool) → (IsDecisionSite c (e.site).0 → ⊥) → Marks l l (IsTakenAt c e) false
  not_taken l n = marks_none l (IsTakenAt c e) (λ a x. n x.is_decision)

  pub other_taken : (l : List Bool) → ((b : Bool) → outcome_at e ≡ side_of b → ⊥) → Marks l l (IsTakenAt c e) false
  other_taken l n = marks_none l (IsTakenAt c e) (λ a x. n x.side x.took)

  pub side_taken : (l m : List Bool) (side d : Bool) (token : ℕ) → IsDecisionSite c (e.site).0 → outcome_at e ≡ side_of side → token ≡ token_in c.sites (e.site).0 → Marks l m (IsAmong c token side (length c.sites)) d → Marks l m (IsTakenAt c e) d
  side_taken l m side d token i o f x = marks_by l m (IsAmong c token side (length c.sites)) d x (IsTakenAt c e) to back
    where
      to : (a : ℕ) → IsAmong c token side (length c.sites) a → IsTakenAt c e a
      to a q = record { side = side; is_decision = i; took = o; among = subst (λ k. IsAmong c k side (length c.sites) a) f q }

      same : (a b : Bool) → side_of a ≡ side_of b → a ≡ b
      same false false g = refl
      same true true g = refl
      same false true g = absurd (cc g)
      same true false g = absurd (cc g)

      back : (a : ℕ) → IsTakenAt c e a → IsAmong c token side (length c.sites) a
      back a q = let z : q.side ≡ side = same q.side side (sym q.took ∙ o) in subst (λ b. IsAmong c token b (length c.sites) a) z (subst (λ k. IsAmong c k q.side (length c.sites) a) (sym f) q.among)

module _ (c : Checked) (es : List Event) where
  pub taken_none : (l : List Bool) → Marks l l (IsTakenUpTo c es 0) false
  taken_none l = marks_none l (IsTakenUpTo c es 0) (λ a x. let h = x.before in absurd (omega (arith, h)))

  pub taken_more : (l m n : List Bool) (b d w : Bool) (i : ℕ) (e : Event) → slice_get es i ≡ Some e → w ≡ d || b → Marks l m (IsTakenUpTo c es i) b → Marks m n (IsTakenAt c e) d → Marks l n (IsTakenUpTo c es (i + 1)) w
  taken_more l m n b d w i e at f x y = subst (Marks l n (IsTakenUpTo c es (i + 1))) (sym f)
      (marks_by l n (λ a. IsTakenUpTo c es i a ⊎ IsTakenAt c e a) (d || b) (marks_then l m (IsTakenUpTo c es i) b x n (IsTakenAt c e) d y) (IsTakenUpTo c es (i + 1)) to back)
    where
      to : (a : ℕ) → IsTakenUpTo c es i a ⊎ IsTakenAt c e a → IsTakenUpTo c es (i + 1) a
      to a (inl q) = record { at = q.at; before = let h = q.before in omega (arith, h); event = q.event; is = q.is; taken = q.taken }
      to a (inr q) = record { at = i; before = omega arith; event = e; is = at; taken = q }

      back : (a : ℕ) → IsTakenUpTo c es (i + 1) a → IsTakenUpTo c es i a ⊎ IsTakenAt c e a
      back a q = by (cases_lt q.at i)
        where
          by : (q.at < i) ⊎ (i ≤ q.at) → IsTakenUpTo c es i a ⊎ IsTakenAt c e a
          by (inl h) = inl (record { at = q.at; before = h; event = q.event; is = q.is; taken = q.taken })
          by (inr h) = let k = q.before in let z : q.at ≡ i = omega (arith, h, k) in inr (subst (λ v. IsTakenAt c v a) (cc (q.is, ap (slice_get es) z, at)) q.taken)

pub among_at : (c : Checked) (token : ℕ) (side : Bool) (k n : ℕ) (l m : List Bool) (b : Bool) → k ≡ n → Marks l m (IsAmong c token side k) b → Marks l m (IsAmong c token side n) b
among_at c token side k n l m b e x = subst (λ i. Marks l m (IsAmong c token side i) b) e x

-- ---- none is covered

none_more : (l : List Bool) → ((a : ℕ) → slice_get l a ≡ Some true → ⊥) → (a : ℕ) → slice_get (l ++ false ∷ []) a ≡ Some true → ⊥
none_more [] n zero e = absurd (cc e)
none_more [] n (suc a) e = absurd (cc e)
none_more (b ∷ l) n zero e = n zero e
none_more (b ∷ l) n (suc a) e = none_more l (λ k f. n (suc k) f) a e

pub none_two : (l m w : List Bool) (k : ℕ) → m ≡ l ++ false ∷ [] → w ≡ m ++ false ∷ [] → length l ≡ 2 * k → ((a : ℕ) → slice_get l a ≡ Some true → ⊥) → (length w ≡ 2 * (k + 1)) × ((a : ℕ) → slice_get w a ≡ Some true → ⊥)
none_two l m w k e f h n = (
  let p = length-append l (false ∷ []) in let q = length-append m (false ∷ []) in let u = ap length e in let v = ap length f in omega (arith, p, q, u, v, h),
  λ a i. none_more m (λ b j. none_more l n b (subst (λ z. slice_get z b ≡ Some true) e j)) a (subst (λ z. slice_get z a ≡ Some true) f i),
)
