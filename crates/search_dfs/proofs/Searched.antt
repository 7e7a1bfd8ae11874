-- What a search lists is Sound, Licensed and Covered.
use Rattle.std.proofs.Common.{◌≡◌, ◌≢◌, ℕ, ◌<◌, ◌≤◌, Bool, ◌⊎◌, inl, inr, List, [], ◌∷◌, Option, Some, None, refl, sym, ap, ◌∙◌, subst, arith}
use Rattle.cc_base.specs.declared.outcomes.Outcome.{Outcome}
use Rattle.cc_base.specs.Outcomes.{byte_of}
use Rattle.cc_base.specs.Paths.{Path, In, Pairwise, Ascend, Before, next, BeginsWith, in_common}
use Rattle.cc_model.specs.Tested.{Layer}
use Rattle.search_dfs.specs.Laws.{Laws}
use Rattle.cc_model.specs.Listing.{Item, test_item, past_item, stray_item, spent_item, unrun_item, key, count_by, is_unrun, Listed, ClosedAt, Above, NotAbove, Reached, Sound, WasRun}
use Rattle.cc_base.specs.declared.inputs.Input.{Input}
use Rattle.cc_base.specs.declared.inputs.Test.{Test}
use Rattle.cc_model.specs.Tested.{Real}
use Rattle.search_dfs.specs.Search.{State, test_of, Job, below, among, via, Search, leaf_test, leaf_past, inner, cut_below, cut, none, each, mine, passed, stopped, never_one, spent_one, unrun_one, stray_one, gone, Searched}
use Rattle.search_base.proofs.PathLaws.{in_left, in_right, in_either, pairwise_append, pairwise_map, pair_of, Parts, parts_before, parts_under, parts_next, parts_left, parts_right, begins_self, begins_next, above_under, common_more}

module _ (y : Layer) (laws : Laws y) (after : Option Path) (limit : ℕ) (cuts : Bool) where
  abbrev pub I : Type 0
  I = List Item

  abbrev pub Does : Job → State → I → State → Type 0
  Does j s a t = Search y after limit cuts j s a t

  abbrev pub Input_within : Job → Type 0
  Input_within (below q u) = (y.runs).IsWithin u
  Input_within (among q u own os) = (y.runs).IsWithin u
  Input_within (via q u own o) = (y.runs).IsWithin u

  nothing_in : {P : Type 0} → (x : Item) → In x [] → P
  nothing_in x i = absurd i

  one_in : (x z : Item) → In x (z ∷ []) → x ≡ z
  one_in x z (inl e) = e
  one_in x z (inr i) = absurd i

  -- ---- keys lie below the prefix

  abbrev pub Own_or_reached : Path → Outcome → Outcome → Type 0
  Own_or_reached q own o = (o ≡ own) ⊎ Reached after (next q o)

  abbrev pub Keys : Job → I → Type 0
  Keys (below q u) a = (x : Item) → In x a → BeginsWith (key x) q
  Keys (among q u own os) a = (x : Item) → In x a → (o : Outcome) × In o os × BeginsWith (key x) (next q o) × Own_or_reached q own o
  Keys (via q u own o) a = (x : Item) → In x a → BeginsWith (key x) (next q o) × Own_or_reached q own o

  key_is : (x z : Item) (q : Path) → In x (z ∷ []) → BeginsWith (key z) q → BeginsWith (key x) q
  key_is x z q i b = subst (λ w. BeginsWith (key w) q) (sym (one_in x z i)) b

  pub keys : (j : Job) (s : State) (a : I) (t : State) → Does j s a t → Keys j a
  keys _ _ _ _ (leaf_test q u s e ab) = λ x i. key_is x _ q i (subst (λ w. BeginsWith ((y.runs).path u) w) e (begins_self _))
  keys _ _ _ _ (leaf_past q u s e ab) = λ x i. key_is x _ q i (subst (λ w. BeginsWith ((y.runs).path u) w) e (begins_self _))
  keys _ _ _ _ (inner q u s t a own os b up all d) = λ x i. let k = keys (among q u own os) s a t d x i in begins_next _ _ _ k.2
  keys _ _ _ _ (cut_below q u s c) = λ x i. nothing_in x i
  keys _ _ _ _ (cut q u own os s c) = λ x i. nothing_in x i
  keys _ _ _ _ (none q u own s) = λ x i. nothing_in x i
  keys _ _ _ _ (each q u own o os s m t a b d e) = λ x i. elim (in_either x a b i) [
    | inl k ↦ let r = keys (via q u own o) s a m d x k in (o, inl refl, r.0, r.1)
    | inr k ↦ let r = keys (among q u own os) m b t e x k in (r.0, inr r.1, r.2, r.3)
  ]
  keys _ _ _ _ (mine q u own s t a d) = λ x i. (keys (below (next q own) u) s a t d x i, inl refl)
  keys _ _ _ _ (passed q u own o s n p) = λ x i. nothing_in x i
  keys _ _ _ _ (stopped q u own o s w n p) = λ x i. nothing_in x i
  keys _ _ _ _ (never_one q u own o s k e) = λ x i. nothing_in x i
  keys _ _ _ _ (spent_one q u own o s k e) = λ x i. (key_is x _ (next q o) i (begins_self _), inr k.reached)
  keys _ _ _ _ (unrun_one q u own o s i' k c e) = λ x i. (key_is x _ (next q o) i (begins_self _), inr k.reached)
  keys _ _ _ _ (stray_one q u own o s i' k c lt n) = λ x i. (key_is x _ (next q o) i (begins_self _), inr k.reached)
  keys _ _ _ _ (gone q u own o s t a i' k c lt b d) = λ x i. (keys (below (next q o) i') _ a t d x i, inr k.reached)

  -- ---- each item by itself

  abbrev pub Good : Item → Type 0
  Good (test_item t) = Real (y.runs) t × Above after t.path
  Good (past_item t) = Real (y.runs) t × NotAbove after t.path
  Good (stray_item t p) = Real (y.runs) t × (BeginsWith t.path p → ⊥) × Reached after p
  Good (spent_item p) = Reached after p
  Good (unrun_item i p) = (y.runs).IsWithin i × Reached after p

  abbrev pub AllGood : I → Type 0
  AllGood a = (x : Item) → In x a → Good x

  real_run : (i : Input) → (y.runs).IsWithin i → Real (y.runs) (test_of y i)
  real_run i w = record { within = w; path = refl; end = refl }

  good_one : (z : Item) → Good z → AllGood (z ∷ [])
  good_one z g x i = subst (λ w. Good w) (sym (one_in x z i)) g

  pub good : (j : Job) (s : State) (a : I) (t : State) → Does j s a t → Input_within j → AllGood a
  good _ _ _ _ (leaf_test q u s e ab) = λ w. good_one _ (real_run u w, ab)
  good _ _ _ _ (leaf_past q u s e ab) = λ w. good_one _ (real_run u w, ab)
  good _ _ _ _ (inner q u s t a own os b up all d) = λ w. good (among q u own os) s a t d w
  good _ _ _ _ (cut_below q u s c) = λ w x i. nothing_in x i
  good _ _ _ _ (cut q u own os s c) = λ w x i. nothing_in x i
  good _ _ _ _ (none q u own s) = λ w x i. nothing_in x i
  good _ _ _ _ (each q u own o os s m t a b d e) = λ w x i. elim (in_either x a b i) [
    | inl k ↦ good (via q u own o) s a m d w x k
    | inr k ↦ good (among q u own os) m b t e w x k
  ]
  good _ _ _ _ (mine q u own s t a d) = λ w. good (below (next q own) u) s a t d w
  good _ _ _ _ (passed q u own o s n p) = λ w x i. nothing_in x i
  good _ _ _ _ (stopped q u own o s v n p) = λ w x i. nothing_in x i
  good _ _ _ _ (never_one q u own o s k e) = λ w x i. nothing_in x i
  good _ _ _ _ (spent_one q u own o s k e) = λ w. good_one _ k.reached
  good _ _ _ _ (unrun_one q u own o s i k c e) = λ w. good_one _ (c.within, k.reached)
  good _ _ _ _ (stray_one q u own o s i k c lt n) = λ w. good_one _ (real_run i c.within, n, k.reached)
  good _ _ _ _ (gone q u own o s t a i k c lt b d) = λ w. good (below (next q o) i) _ a t d c.within

  -- ---- the one unrun item

  abbrev pub IsListed : Item → Type 0
  IsListed x = (t : Test) × ((x ≡ test_item t) ⊎ (x ≡ past_item t))

  some_none : (s : Option Path) (w : Path) → s ≡ Some w → s ≡ None → ⊥
  some_none s w e f = cc (e, f)

  -- after it nothing is run
  pub kept : (j : Job) (s : State) (a : I) (t : State) → Does j s a t → (w : Path) → s.unrun ≡ Some w → (t ≡ s) × ((x : Item) → In x a → IsListed x)
  kept _ _ _ _ (leaf_test q u s e ab) = λ w f. (refl, λ x i. (test_of y u, inl (one_in x _ i)))
  kept _ _ _ _ (leaf_past q u s e ab) = λ w f. (refl, λ x i. (test_of y u, inr (one_in x _ i)))
  kept _ _ _ _ (inner q u s t a own os b up all d) = λ w f. kept (among q u own os) s a t d w f
  kept _ _ _ _ (cut_below q u s c) = λ w f. (refl, λ x i. nothing_in x i)
  kept _ _ _ _ (cut q u own os s c) = λ w f. (refl, λ x i. nothing_in x i)
  kept _ _ _ _ (none q u own s) = λ w f. (refl, λ x i. nothing_in x i)
  kept _ _ _ _ (each q u own o os s m t a b d e) = λ w f.
      let h = kept (via q u own o) s a m d w f in
      let k = kept (among q u own os) m b t e w (ap (λ (n : State). n.unrun) h.0 ∙ f) in
      (k.0 ∙ h.0, λ x i. elim (in_either x a b i) [ inl v ↦ h.1 x v | inr v ↦ k.1 x v ])
  kept _ _ _ _ (mine q u own s t a d) = λ w f. kept (below (next q own) u) s a t d w f
  kept _ _ _ _ (passed q u own o s n p) = λ w f. (refl, λ x i. nothing_in x i)
  kept _ _ _ _ (stopped q u own o s v n p) = λ w f. (refl, λ x i. nothing_in x i)
  kept _ _ _ _ (never_one q u own o s k e) = λ w f. absurd (some_none _ _ f k.going)
  kept _ _ _ _ (spent_one q u own o s k e) = λ w f. absurd (some_none _ _ f k.going)
  kept _ _ _ _ (unrun_one q u own o s i k c e) = λ w f. absurd (some_none _ _ f k.going)
  kept _ _ _ _ (stray_one q u own o s i k c lt n) = λ w f. absurd (some_none _ _ f k.going)
  kept _ _ _ _ (gone q u own o s t a i k c lt b d) = λ w f. absurd (some_none _ _ f k.going)

  abbrev pub IsUnrun : Item → Path → Type 0
  IsUnrun x w = (i : Input) × (x ≡ unrun_item i w)

  other_item : (x z : Item) (w : Path) → In x (z ∷ []) → IsUnrun x w → (i : Input) × (z ≡ unrun_item i w)
  other_item x z w i k = (k.0, sym (one_in x z i) ∙ k.1)

  -- the state knows it
  pub tells : (j : Job) (s : State) (a : I) (t : State) → Does j s a t → (x : Item) (w : Path) → In x a → IsUnrun x w → t.unrun ≡ Some w
  tells _ _ _ _ (leaf_test q u s e ab) = λ x w i k. let r = other_item x _ w i k in absurd (cc r.1)
  tells _ _ _ _ (leaf_past q u s e ab) = λ x w i k. let r = other_item x _ w i k in absurd (cc r.1)
  tells _ _ _ _ (inner q u s t a own os b up all d) = λ x w i k. tells (among q u own os) s a t d x w i k
  tells _ _ _ _ (cut_below q u s c) = λ x w i k. nothing_in x i
  tells _ _ _ _ (cut q u own os s c) = λ x w i k. nothing_in x i
  tells _ _ _ _ (none q u own s) = λ x w i k. nothing_in x i
  tells _ _ _ _ (each q u own o os s m t a b d e) = λ x w i k. elim (in_either x a b i) [
    | inl v ↦ let f = tells (via q u own o) s a m d x w v k in let h = kept (among q u own os) m b t e w f in ap (λ (n : State). n.unrun) h.0 ∙ f
    | inr v ↦ tells (among q u own os) m b t e x w v k
  ]
  tells _ _ _ _ (mine q u own s t a d) = λ x w i k. tells (below (next q own) u) s a t d x w i k
  tells _ _ _ _ (passed q u own o s n p) = λ x w i k. nothing_in x i
  tells _ _ _ _ (stopped q u own o s v n p) = λ x w i k. nothing_in x i
  tells _ _ _ _ (never_one q u own o s k' e) = λ x w i k. nothing_in x i
  tells _ _ _ _ (spent_one q u own o s k' e) = λ x w i k. let r = other_item x _ w i k in absurd (cc r.1)
  tells _ _ _ _ (unrun_one q u own o s i' k' c e) = λ x w i k. let r = other_item x _ w i k in let f : next q o ≡ w = cc r.1 in ap (λ v. Some v) f
  tells _ _ _ _ (stray_one q u own o s i' k' c lt n) = λ x w i k. let r = other_item x _ w i k in absurd (cc r.1)
  tells _ _ _ _ (gone q u own o s t a i' k' c lt b d) = λ x w i k. tells (below (next q o) i') _ a t d x w i k

  -- what the state knows was there before or is listed
  abbrev pub Comes : State → I → State → Type 0
  Comes s a t = (w : Path) → t.unrun ≡ Some w → (s.unrun ≡ Some w) ⊎ ((i : Input) × In (unrun_item i w) a)

  from_none : {P : Type 0} → (w : Path) → None ≡ Some w → P
  from_none w e = absurd (cc e)

  pub comes : (j : Job) (s : State) (a : I) (t : State) → Does j s a t → Comes s a t
  comes _ _ _ _ (leaf_test q u s e ab) = λ w f. inl f
  comes _ _ _ _ (leaf_past q u s e ab) = λ w f. inl f
  comes _ _ _ _ (inner q u s t a own os b up all d) = λ w f. comes (among q u own os) s a t d w f
  comes _ _ _ _ (cut_below q u s c) = λ w f. inl f
  comes _ _ _ _ (cut q u own os s c) = λ w f. inl f
  comes _ _ _ _ (none q u own s) = λ w f. inl f
  comes _ _ _ _ (each q u own o os s m t a b d e) = λ w f. elim (comes (among q u own os) m b t e w f) [
    | inr v ↦ inr (v.0, in_right _ a b v.1)
    | inl g ↦ elim (comes (via q u own o) s a m d w g) [ inl h ↦ inl h | inr v ↦ inr (v.0, in_left _ a b v.1) ]
  ]
  comes _ _ _ _ (mine q u own s t a d) = λ w f. comes (below (next q own) u) s a t d w f
  comes _ _ _ _ (passed q u own o s n p) = λ w f. inl f
  comes _ _ _ _ (stopped q u own o s v n p) = λ w f. inl f
  comes _ _ _ _ (never_one q u own o s k e) = λ w f. inl f
  comes _ _ _ _ (spent_one q u own o s k e) = λ w f. inl f
  comes _ _ _ _ (unrun_one q u own o s i k c e) = λ w f. let g : next q o ≡ w = cc f in inr (i, inl (ap (λ v. unrun_item i v) (sym g)))
  comes _ _ _ _ (stray_one q u own o s i k c lt n) = λ w f. from_none w f
  comes _ _ _ _ (gone q u own o s t a i k c lt b d) = λ w f. elim (comes (below (next q o) i) _ a t d w f) [ inl g ↦ from_none w g | inr v ↦ inr v ]

  -- ---- two items

  -- in a listing x comes somewhere before z
  pub record Then (x z : Item) : Type 0 where
    pub parts : Parts (key x) (key z)
    pub stops : (w : Path) → IsUnrun x w → IsListed z
    pub pasts : (t u : Test) (a : Path) → x ≡ past_item t → z ≡ past_item u → after ≡ Some a → in_common a t.path ≢ in_common a u.path

  -- two outcomes of one event have no two past items with equally much in common
  pasts_differ : (q : Path) (own o p : Outcome) (a x z : Path) → after ≡ Some a → byte_of o < byte_of p → Own_or_reached q own o → Own_or_reached q own p →
      BeginsWith x (next q o) → BeginsWith z (next q p) → (Before a x → ⊥) → (Before a z → ⊥) → in_common a x ≢ in_common a z
  pasts_differ q own o p a x z e lt ro rp bx bz nx nz = at rp
    where
      differ : o ≢ p
      differ f = let g = ap byte_of f in omega (arith, lt, g)

      later : Reached after (next q p) → in_common a x ≢ in_common a z
      later r = elim (r a e) [
        | inl h ↦ absurd (nz (above_under _ _ _ h bz))
        | inr h ↦ λ f. let k = common_more a z x q p o h bz bx (λ g. differ (sym g)) in omega (arith, k, f)
      ]

      sooner : Reached after (next q o) → in_common a x ≢ in_common a z
      sooner r = elim (r a e) [
        | inl h ↦ absurd (nx (above_under _ _ _ h bx))
        | inr h ↦ λ f. let k = common_more a x z q o p h bx bz differ in omega (arith, k, f)
      ]

      at : Own_or_reached q own p → in_common a x ≢ in_common a z
      at (inr r) = later r
      at (inl f) = elim ro [
        | inl g ↦ absurd (differ (g ∙ sym f))
        | inr r ↦ sooner r
      ]

  not_above : (x : Item) (t : Test) (a : Path) → Good x → x ≡ past_item t → after ≡ Some a → Before a t.path → ⊥
  not_above x t a g e f b =
      let n : NotAbove after t.path = (subst (λ w. Good w) e g).1 in
      let i : n.0 ≡ a = some_one _ _ _ n.1 f in
      n.2 (subst (λ w. Before w t.path) (sym i) b)
    where
      some_one : (s : Option Path) (v w : Path) → s ≡ Some v → s ≡ Some w → v ≡ w
      some_one s v w h k = cc (h, k)

  single : (z : Item) → Pairwise Then (z ∷ [])
  single z = (λ x i. nothing_in x i, tt)

  abbrev pub In_order : Job → Type 0
  In_order (below q u) = Unit {0}
  In_order (among q u own os) = Ascend os
  In_order (via q u own o) = Unit {0}

  -- the items of one outcome come before those of the later ones
  across : (q : Path) (u : Input) (own o : Outcome) (os : List Outcome) (s m t : State) (a b : I) →
      Does (via q u own o) s a m → Does (among q u own os) m b t → (y.runs).IsWithin u → Ascend (o ∷ os) → (x z : Item) → In x a → In z b → Then x z
  across q u own o os s m t a b d e w up x z i k =
      let kx = keys (via q u own o) s a m d x i in
      let kz = keys (among q u own os) m b t e z k in
      let gx = good (via q u own o) s a m d w x i in
      let gz = good (among q u own os) m b t e w z k in
      let lt = up.0 kz.0 kz.1 in
      record {
        parts = parts_under _ _ _ _ (parts_next q o kz.0 lt) kx.0 kz.2;
        stops = λ v f. (kept (among q u own os) m b t e v (tells (via q u own o) s a m d x v i f)).1 z k;
        pasts = λ tx tz p fx fz ea.
            pasts_differ q own o kz.0 p tx.path tz.path ea lt kx.1 kz.3
            (subst (λ v. BeginsWith (key v) (next q o)) fx kx.0)
            (subst (λ v. BeginsWith (key v) (next q kz.0)) fz kz.2)
            (not_above x tx p gx fx ea) (not_above z tz p gz fz ea);
      }

  pub ordered : (j : Job) (s : State) (a : I) (t : State) → Does j s a t → Input_within j → In_order j → Pairwise Then a
  ordered _ _ _ _ (leaf_test q u s e ab) = λ w o'. single _
  ordered _ _ _ _ (leaf_past q u s e ab) = λ w o'. single _
  ordered _ _ _ _ (inner q u s t a own os b up all d) = λ w o'. ordered (among q u own os) s a t d w up
  ordered _ _ _ _ (cut_below q u s c) = λ w o'. tt
  ordered _ _ _ _ (cut q u own os s c) = λ w o'. tt
  ordered _ _ _ _ (none q u own s) = λ w o'. tt
  ordered _ _ _ _ (each q u own o os s m t a b d e) = λ w up.
      pairwise_append Then a b (ordered (via q u own o) s a m d w tt) (ordered (among q u own os) m b t e w up.1) (across q u own o os s m t a b d e w up)
  ordered _ _ _ _ (mine q u own s t a d) = λ w o'. ordered (below (next q own) u) s a t d w tt
  ordered _ _ _ _ (passed q u own o s n p) = λ w o'. tt
  ordered _ _ _ _ (stopped q u own o s v n p) = λ w o'. tt
  ordered _ _ _ _ (never_one q u own o s k e) = λ w o'. tt
  ordered _ _ _ _ (spent_one q u own o s k e) = λ w o'. single _
  ordered _ _ _ _ (unrun_one q u own o s i k c e) = λ w o'. single _
  ordered _ _ _ _ (stray_one q u own o s i k c lt n) = λ w o'. single _
  ordered _ _ _ _ (gone q u own o s t a i k c lt b d) = λ w o'. ordered (below (next q o) i) _ a t d c.within tt

  -- ---- Sound

  listed_not_spent : (p : Path) → IsListed (spent_item p) → ⊥
  listed_not_spent p (t, inl e) = cc e
  listed_not_spent p (t, inr e) = cc e

  listed_not_stray : (u : Test) (p : Path) → IsListed (stray_item u p) → ⊥
  listed_not_stray u p (t, inl e) = cc e
  listed_not_stray u p (t, inr e) = cc e

  listed_no_unrun : (x : Item) → IsListed x → is_unrun x ≡ 0
  listed_no_unrun x (t, inl e) = ap (is_unrun) e
  listed_no_unrun x (t, inr e) = ap (is_unrun) e

  all_listed : (l : I) → ((x : Item) → In x l → IsListed x) → count_by (is_unrun) l ≡ 0
  all_listed [] h = refl
  all_listed (x ∷ l) h = let a = listed_no_unrun x (h x (inl refl)) in let b = all_listed l (λ z i. h z (inr i)) in omega (arith, a, b)

  one_at_most : (l : I) → Pairwise Then l → count_by (is_unrun) l ≤ 1
  one_at_most [] h = omega arith
  one_at_most (test_item t ∷ l) h = let r = one_at_most l h.1 in omega (arith, r)
  one_at_most (past_item t ∷ l) h = let r = one_at_most l h.1 in omega (arith, r)
  one_at_most (stray_item t p ∷ l) h = let r = one_at_most l h.1 in omega (arith, r)
  one_at_most (spent_item p ∷ l) h = let r = one_at_most l h.1 in omega (arith, r)
  one_at_most (unrun_item i w ∷ l) h = let r = all_listed l (λ z k. (h.0 z k).stops w (i, refl)) in omega (arith, r)

  module _ (l : I) (gd : AllGood l) (th : Pairwise Then l) where
    run_real : (t : Test) → WasRun t l → Real (y.runs) t
    run_real t (inl (inl i)) = (gd _ i).0
    run_real t (inl (inr i)) = (gd _ i).0
    run_real t (inr (p, i)) = (gd _ i).0

    pasts_apart : (t u : Test) (a : Path) → In (past_item t) l → In (past_item u) l → after ≡ Some a → in_common a t.path ≡ in_common a u.path → past_item t ≡ past_item u
    pasts_apart t u a i j e f = elim (pair_of Then l (past_item t) (past_item u) th i j) [
      | inl g ↦ g
      | inr (inl k) ↦ absurd (k.pasts t u a refl refl e f)
      | inr (inr k) ↦ absurd (k.pasts u t a refl refl e (sym f))
    ]

    -- no item's key begins with that of another
    keys_apart : (x z : Item) → In x l → In z l → (x ≢ z) → BeginsWith (key x) (key z) → ⊥
    keys_apart x z i j n b = elim (pair_of Then l x z th i j) [
      | inl g ↦ n g
      | inr (inl k) ↦ parts_left _ _ k.parts b
      | inr (inr k) ↦ parts_right _ _ k.parts b
    ]

    closed_at : (t : Test) (p : Path) → Listed t l → ClosedAt p l → BeginsWith t.path p → ⊥
    closed_at t p (inl i) (inl j) = keys_apart _ _ i j (λ e. cc e)
    closed_at t p (inr i) (inl j) = keys_apart _ _ i j (λ e. cc e)
    closed_at t p (inl i) (inr (inl (u, j))) = keys_apart _ _ i j (λ e. cc e)
    closed_at t p (inr i) (inr (inl (u, j))) = keys_apart _ _ i j (λ e. cc e)
    closed_at t p (inl i) (inr (inr (u, j))) = keys_apart _ _ i j (λ e. cc e)
    closed_at t p (inr i) (inr (inr (u, j))) = keys_apart _ _ i j (λ e. cc e)

    all_reached : (p : Path) → ClosedAt p l → Reached after p
    all_reached p (inl j) = gd _ j
    all_reached p (inr (inl (u, j))) = (gd _ j).2
    all_reached p (inr (inr (u, j))) = (gd _ j).1

    spent_before : (p w : Path) (i : Input) → In (spent_item p) l → In (unrun_item i w) l → Before p w
    spent_before p w i j k = elim (pair_of Then l (spent_item p) (unrun_item i w) th j k) [
      | inl g ↦ absurd (cc g)
      | inr (inl h) ↦ parts_before _ _ h.parts
      | inr (inr h) ↦ absurd (listed_not_spent p (h.stops w (i, refl)))
    ]

    stray_before : (t : Test) (p w : Path) (i : Input) → In (stray_item t p) l → In (unrun_item i w) l → Before p w
    stray_before t p w i j k = elim (pair_of Then l (stray_item t p) (unrun_item i w) th j k) [
      | inl g ↦ absurd (cc g)
      | inr (inl h) ↦ parts_before _ _ h.parts
      | inr (inr h) ↦ absurd (listed_not_stray t p (h.stops w (i, refl)))
    ]

    pub sound : Sound after (y.runs) l
    sound = record {
      ascending = pairwise_map Then _ l (λ x z h. parts_before _ _ h.parts) th;
      real = run_real;
      tests_above = λ t i. (gd _ i).1;
      pasts_not_above = λ t i. (gd _ i).1;
      pasts_part = pasts_apart;
      strays_left = λ t p i. (gd _ i).1;
      closed = closed_at;
      reached = all_reached;
      spent_first = spent_before;
      stray_first = stray_before;
      unrun_within = λ i w j. (gd _ j).0;
      one_unrun = one_at_most l th;
    }

  -- whatever is cut off, what is listed is Sound
  pub search_sound : (l : I) → Searched y after limit cuts l → Sound after (y.runs) l
  search_sound l (t, d) = sound l (good _ _ _ _ d laws.base_within) (ordered _ _ _ _ d laws.base_within tt)
