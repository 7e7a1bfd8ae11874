-- The nearest so far, one after another.
use Rattle.std.proofs.Common.{◌≡◌, ◌<◌, ◌≤◌, ◌⊎◌, inl, inr, ℕ, ◌+◌, ◌*◌, Bool, true, false, List, length, Option, Some, None, slice_get, ltb-true, ltb-false, refl, sym, ◌∙◌, subst, arith}
use Rattle.std.specs.Prelude.{nat_lt, if◌then◌else◌}
use Rattle.std.proofs.lemmas.Bool.{cases_lt}
use Rattle.std.proofs.lemmas.Option.{slice_get_within}
use Rattle.cc_model.specs.declared.checked.Checked.{Checked}
use Rattle.search_walks.specs.declared.candidates.Candidate.{Candidate as Offer}
use Rattle.search_walks.specs.Distance.{entry, IsDecisionSite}
use Rattle.search_walks.specs.Nearest.{IsLeast, lesser, nearer, IsAtSite, IsAtToken, IsAtOffer, IsAtPlace, IsFirstUpTo, IsFirst}
use Rattle.search_walks.specs.Deciding.{side_of}
use Rattle.search_base.specs.Terms.{token_in}

-- the least of two, where S holds of both and of nothing else
module _ (Q R S : ℕ → Type 0) (f : (d : ℕ) → Q d ⊎ R d → S d) (g : (d : ℕ) → S d → Q d ⊎ R d) where
  least_of : (a b : Option ℕ) → IsLeast Q a → IsLeast R b → IsLeast S (lesser a b)
  least_of None None p q = λ n h. elim (g n h) [ inl i ↦ p n i | inr i ↦ q n i ]
  least_of None (Some y) p q = (f y (inr q.0), λ n h. elim (g n h) [ inl i ↦ absurd (p n i) | inr i ↦ q.1 n i ])
  least_of (Some x) None p q = (f x (inl p.0), λ n h. elim (g n h) [ inl i ↦ p.1 n i | inr i ↦ absurd (q n i) ])
  least_of (Some x) (Some y) p q = by (nat_lt y x) refl
    where
      by : (v : Bool) → nat_lt y x ≡ v → IsLeast S (if nat_lt y x then Some y else Some x)
      by true e = let k = ltb-true y x e in subst (λ w. IsLeast S (if w then Some y else Some x)) (sym e)
          (f y (inr q.0), λ n h. elim (g n h) [ inl i ↦ (let r = p.1 n i in omega (arith, k, r)) | inr i ↦ q.1 n i ])
      by false e = let k = ltb-false y x e in subst (λ w. IsLeast S (if w then Some y else Some x)) (sym e)
          (f x (inl p.0), λ n h. elim (g n h) [ inl i ↦ p.1 n i | inr i ↦ (let r = q.1 n i in omega (arith, k, r)) ])

-- ---- sites

pub entry_below : (n k : ℕ) (side : Bool) → n < k → entry n side < 2 * k
entry_below n k false h = omega (arith, h)
entry_below n k true h = omega (arith, h)

module _ (c : Checked) (v : List (Option ℕ)) (token : ℕ) (side : Bool) where
  pub site_none : (site : ℕ) → (IsDecisionSite c site → ⊥) → IsLeast (IsAtSite c v token side site) None
  site_none site n = λ d x. n x.is_site

  pub site_other : (site : ℕ) → (token_in c.sites site ≡ token → ⊥) → IsLeast (IsAtSite c v token side site) None
  site_other site n = λ d x. n x.token_is

  pub site_past : (site : ℕ) → slice_get v (entry site side) ≡ None → IsLeast (IsAtSite c v token side site) None
  site_past site n = λ d x. absurd (cc (x.distance, n))

  pub site_is : (site : ℕ) (o : Option ℕ) → IsDecisionSite c site → token_in c.sites site ≡ token → slice_get v (entry site side) ≡ Some o → IsLeast (IsAtSite c v token side site) o
  site_is site None i k e = λ d x. absurd (cc (x.distance, e))
  site_is site (Some d) i k e = (record { is_site = i; token_is = k; distance = e }, λ n x. let z : d ≡ n = cc (x.distance, e) in omega (arith, z))

  pub token_first : IsLeast (IsAtToken c v token side 0) None
  token_first = λ d x. let h = x.below in absurd (omega (arith, h))

  pub token_more : (i : ℕ) (a b r : Option ℕ) → r ≡ lesser a b → IsLeast (IsAtToken c v token side i) a → IsLeast (IsAtSite c v token side i) b → IsLeast (IsAtToken c v token side (i + 1)) r
  token_more i a b r e p q = subst (IsLeast (IsAtToken c v token side (i + 1))) (sym e) (least_of (IsAtToken c v token side i) (IsAtSite c v token side i) (IsAtToken c v token side (i + 1)) to back a b p q)
    where
      to : (d : ℕ) → IsAtToken c v token side i d ⊎ IsAtSite c v token side i d → IsAtToken c v token side (i + 1) d
      to d (inl x) = record { site = x.site; below = let h = x.below in omega (arith, h); at = x.at }
      to d (inr x) = record { site = i; below = omega arith; at = x }

      back : (d : ℕ) → IsAtToken c v token side (i + 1) d → IsAtToken c v token side i d ⊎ IsAtSite c v token side i d
      back d x = by (cases_lt x.site i)
        where
          by : (x.site < i) ⊎ (i ≤ x.site) → IsAtToken c v token side i d ⊎ IsAtSite c v token side i d
          by (inl h) = inl (record { site = x.site; below = h; at = x.at })
          by (inr h) = let k = x.below in let z : x.site ≡ i = omega (arith, h, k) in inr (subst (λ j. IsAtSite c v token side j d) z x.at)

  pub token_all : (k n : ℕ) (r : Option ℕ) → k ≡ n → IsLeast (IsAtToken c v token side k) r → IsLeast (IsAtToken c v token side n) r
  token_all k n r e p = subst (λ i. IsLeast (IsAtToken c v token side i) r) e p

-- ---- a candidate

module _ (c : Checked) (v : List (Option ℕ)) (x : Offer) where
  pub offer_none : (IsDecisionSite c (x.site).0 → ⊥) → IsLeast (IsAtOffer c v x) None
  offer_none n = λ d w. n w.is_decision

  pub offer_other : ((b : Bool) → x.outcome ≡ side_of b → ⊥) → IsLeast (IsAtOffer c v x) None
  offer_other n = λ d w. n w.side w.outcome

  same_side : (a b : Bool) → side_of a ≡ side_of b → a ≡ b
  same_side false false g = refl
  same_side true true g = refl
  same_side false true g = absurd (cc g)
  same_side true false g = absurd (cc g)

  pub offer_is : (side : Bool) (token : ℕ) (r : Option ℕ) → IsDecisionSite c (x.site).0 → x.outcome ≡ side_of side → token ≡ token_in c.sites (x.site).0 → IsLeast (IsAtToken c v token side (length c.sites)) r → IsLeast (IsAtOffer c v x) r
  offer_is side token r i o e p = by r (subst (λ k. IsLeast (IsAtToken c v k side (length c.sites)) r) e p)
    where
      back : (d : ℕ) → IsAtOffer c v x d → IsAtToken c v (token_in c.sites (x.site).0) side (length c.sites) d
      back d w = subst (λ b. IsAtToken c v (token_in c.sites (x.site).0) b (length c.sites) d) (same_side w.side side (sym w.outcome ∙ o)) w.among

      by : (r : Option ℕ) → IsLeast (IsAtToken c v (token_in c.sites (x.site).0) side (length c.sites)) r → IsLeast (IsAtOffer c v x) r
      by None p = λ d w. p d (back d w)
      by (Some d) p = (record { side = side; is_decision = i; outcome = o; among = p.0 }, λ n w. p.1 n (back n w))

-- ---- candidates

module _ (c : Checked) (v : List (Option ℕ)) (cs : List Offer) where
  pub place_first : IsFirstUpTo (IsAtPlace c v cs) 0 None
  place_first = λ i d h x. absurd (omega (arith, h))

  pub place_more : (k : ℕ) (x : Offer) (f r : Option (ℕ × ℕ)) (o : Option ℕ) → slice_get cs k ≡ Some x → r ≡ nearer f k o → IsFirstUpTo (IsAtPlace c v cs) k f → IsLeast (IsAtOffer c v x) o → IsFirstUpTo (IsAtPlace c v cs) (k + 1) r
  place_more k x f r o at e p q = subst (IsFirstUpTo (IsAtPlace c v cs) (k + 1)) (sym e) (by f o p q)
    where
      -- at the place itself
      own : (d : ℕ) → IsAtPlace c v cs k d → IsAtOffer c v x d
      own d w = let z : w.offer ≡ x = cc (w.is, at) in subst (λ y. IsAtOffer c v y d) z w.at

      -- before it or at it
      split : (i d : ℕ) → i < k + 1 → IsAtPlace c v cs i d → (i < k) ⊎ ((i ≡ k) × IsAtOffer c v x d)
      split i d h w = to (cases_lt i k)
        where
          to : (i < k) ⊎ (k ≤ i) → (i < k) ⊎ ((i ≡ k) × IsAtOffer c v x d)
          to (inl g) = inl g
          to (inr g) = let z : i ≡ k = omega (arith, h, g) in inr (z, own d (subst (λ j. IsAtPlace c v cs j d) z w))

      by : (f : Option (ℕ × ℕ)) (o : Option ℕ) → IsFirstUpTo (IsAtPlace c v cs) k f → IsLeast (IsAtOffer c v x) o → IsFirstUpTo (IsAtPlace c v cs) (k + 1) (nearer f k o)
      by None None p q = λ i d h w. elim (split i d h w) [ inl g ↦ p i d g w | inr g ↦ q d g.1 ]
      by (Some (j, m)) None p q = (let h = p.0 in omega (arith, h), p.1, λ i e h w. elim (split i e h w) [ inl g ↦ p.2 i e g w | inr g ↦ absurd (q e g.1) ])
      by None (Some d) p q = (omega arith, record { offer = x; is = at; at = q.0 }, λ i e h w. elim (split i e h w) [ inl g ↦ absurd (p i e g w) | inr g ↦ (q.1 e g.1, λ n. let z = g.0 in absurd (omega (arith, n, z))) ])
      by (Some (j, m)) (Some d) p q = nearest_of (nat_lt d m) refl
        where
          nearest_of : (b : Bool) → nat_lt d m ≡ b → IsFirstUpTo (IsAtPlace c v cs) (k + 1) (if nat_lt d m then Some (k, d) else Some (j, m))
          nearest_of true e = let l = ltb-true d m e in subst (λ b. IsFirstUpTo (IsAtPlace c v cs) (k + 1) (if b then Some (k, d) else Some (j, m))) (sym e) (
            omega arith,
            record { offer = x; is = at; at = q.0 },
            λ i n h w. elim (split i n h w) [
              | inl g ↦ (let r = (p.2 i n g w).0 in (omega (arith, l, r), λ y. omega (arith, l, r)))
              | inr g ↦ (q.1 n g.1, λ y. let z = g.0 in absurd (omega (arith, y, z)))
            ],
          )
          nearest_of false e = let l = ltb-false d m e in subst (λ b. IsFirstUpTo (IsAtPlace c v cs) (k + 1) (if b then Some (k, d) else Some (j, m))) (sym e) (
            let h = p.0 in omega (arith, h),
            p.1,
            λ i n h w. elim (split i n h w) [
              | inl g ↦ p.2 i n g w
              | inr g ↦ (let r = q.1 n g.1 in let z = g.0 in let b = p.0 in (omega (arith, l, r), λ y. absurd (omega (arith, y, z, b))))
            ],
          )

  pub none_first : (k : ℕ) (f : Option (ℕ × ℕ)) → f ≡ None → length cs ≤ k → IsFirstUpTo (IsAtPlace c v cs) k f → IsFirst (IsAtPlace c v cs) None
  none_first k f e h p = let r = subst (IsFirstUpTo (IsAtPlace c v cs) k) e p in λ i d w. let l = slice_get_within cs i w.offer w.is in r i d (omega (arith, h, l)) w

  pub some_first : (k j d : ℕ) (f : Option (ℕ × ℕ)) → f ≡ Some (j, d) → length cs ≤ k → IsFirstUpTo (IsAtPlace c v cs) k f → IsFirst (IsAtPlace c v cs) (Some j)
  some_first k j d f e h p = let r = subst (IsFirstUpTo (IsAtPlace c v cs) k) e p in (d, r.1, λ i n w. let l = slice_get_within cs i w.offer w.is in r.2 i n (omega (arith, h, l)) w)
