-- What a whole search lists is Licensed and Covered.
use Rattle.std.proofs.Common.{◌≡◌, ◌≢◌, ℕ, suc, ◌+◌, ◌<◌, ◌≤◌, true, false, ◌⊎◌, ◌↔◌, inl, inr, List, [], ◌∷◌, ◌++◌, length, Option, Some, None, refl, sym, ap, ◌∙◌, subst, arith}
use Rattle.cc_base.specs.declared.outcomes.Outcome.{Outcome}
use Rattle.cc_base.specs.Limits.{Limits}
use Rattle.cc_base.specs.Paths.{Path, In, Pairwise, Ascend, next, BeginsWith}
use Rattle.cc_model.specs.Tested.{Layer, spent, Offers, Term}
use Rattle.search_dfs.specs.Laws.{Laws}
use Rattle.cc_model.specs.Listing.{Item, test_item, past_item, stray_item, spent_item, unrun_item, key, Listed, Source, Cause, Licensed, Settled, Covered, TermBefore, WasRun, is_run, count_by}
use Rattle.cc_base.specs.declared.inputs.Input.{Input}
use Rattle.cc_base.specs.declared.inputs.Test.{Test}
use Rattle.search_dfs.specs.Search.{State, test_of, Job, below, among, via, Turns, Search, leaf_test, leaf_past, inner, cut_below, cut, none, each, mine, passed, stopped, never_one, spent_one, unrun_one, stray_one, gone, Searched}
use Rattle.search_base.proofs.PathLaws.{in_left, in_right, in_either, Parts, parts_before, parts_under, parts_next, begins_self, begins_nil, begins_trans, begins_next, next_begins, begins_or_is, begins_one, not_longer, length_begins, length_next, order_of}
use Rattle.search_dfs.proofs.Searched as found

module _ (y : Layer) (laws : Laws y) (after : Option Path) (limit : ℕ) where
  abbrev I : Type 0
  I = List Item

  abbrev Does : Job → State → I → State → Type 0
  Does j s a t = Search y after limit false j s a t

  abbrev Input_within : Job → Type 0
  Input_within j = found.Input_within y laws after limit false j

  abbrev of : Job → Input
  of (below q u) = u
  of (among q u own os) = u
  of (via q u own o) = u

  not_cut : {P : Type 0} → false ≡ true → P
  not_cut e = absurd (cc e)

  no_item : {P : Type 0} → (x : Item) → In x [] → P
  no_item x i = absurd i

  the_one : (x z : Item) → In x (z ∷ []) → x ≡ z
  the_one x z (inl e) = e
  the_one x z (inr i) = absurd i

  -- ---- counts

  runs_append : (a b : I) → count_by is_run (a ++ b) ≡ count_by is_run a + count_by is_run b
  runs_append [] b = omega arith
  runs_append (x ∷ a) b = let r = runs_append a b in omega (arith, r)

  not_later : (o : Outcome) (os : List Outcome) → Ascend (o ∷ os) → In o os → ⊥
  not_later o os up i = let k = up.0 o i in omega (arith, k)

  abbrev Adds : State → I → State → Type 0
  Adds s a t = count_by is_run a + s.made ≡ t.made

  abbrev AddsOne : State → I → State → Type 0
  AddsOne s a t = count_by is_run a + s.made ≡ suc t.made

  abbrev Count : Job → State → I → State → Type 0
  Count (below q u) s a t = AddsOne s a t
  Count (among q u own os) s a t = Ascend os → (In own os → AddsOne s a t) × ((In own os → ⊥) → Adds s a t)
  Count (via q u own o) s a t = (o ≡ own → AddsOne s a t) × (o ≢ own → Adds s a t)

  counted : (j : Job) (s : State) (a : I) (t : State) → Does j s a t → Count j s a t
  counted _ _ _ _ (leaf_test q u s e ab) = omega arith
  counted _ _ _ _ (leaf_past q u s e ab) = omega arith
  counted _ _ _ _ (inner q u s t a own os b up all d) = (counted (among q u own os) s a t d up).0 ((all own).1 (inl refl))
  counted _ _ _ _ (cut_below q u s c) = not_cut c
  counted _ _ _ _ (cut q u own os s c) = not_cut c
  counted _ _ _ _ (none q u own s) = λ up. ((λ i. absurd i), (λ n. omega arith))
  counted _ _ _ _ (each q u own o os s m t a b d e) = λ up.
      let h = counted (via q u own o) s a m d in
      let k = counted (among q u own os) m b t e up.1 in
      let r = runs_append a b in
      ((λ i. one h k r up i), (λ n. let v = h.1 (λ f. n (inl (sym f))) in let w = k.1 (λ i. n (inr i)) in omega (arith, r, v, w)))
    where
      one : ((o ≡ own → AddsOne s a m) × (o ≢ own → Adds s a m)) → ((In own os → AddsOne m b t) × ((In own os → ⊥) → Adds m b t)) → count_by is_run (a ++ b) ≡ count_by is_run a + count_by is_run b → Ascend (o ∷ os) → In own (o ∷ os) → AddsOne s (a ++ b) t
      one h k r up (inl f) = let v = h.0 (sym f) in let w = k.1 (λ i. not_later o os up (subst (λ x. In x os) f i)) in omega (arith, r, v, w)
      one h k r up (inr i) = let v = h.1 (λ f. not_later o os up (subst (λ x. In x os) (sym f) i)) in let w = k.0 i in omega (arith, r, v, w)
  counted _ _ _ _ (mine q u own s t a d) = ((λ e. counted (below (next q own) u) s a t d), (λ n. absurd (n refl)))
  counted _ _ _ _ (passed q u own o s n p) = ((λ e. absurd (n e)), (λ n. omega arith))
  counted _ _ _ _ (stopped q u own o s v n p) = ((λ e. absurd (n e)), (λ n. omega arith))
  counted _ _ _ _ (never_one q u own o s k e) = ((λ e. absurd (k.other e)), (λ n. omega arith))
  counted _ _ _ _ (spent_one q u own o s k e) = ((λ e. absurd (k.other e)), (λ n. omega arith))
  counted _ _ _ _ (unrun_one q u own o s i k c e) = ((λ e. absurd (k.other e)), (λ n. omega arith))
  counted _ _ _ _ (stray_one q u own o s i k c lt n) = ((λ e. absurd (k.other e)), (λ n. omega arith))
  counted _ _ _ _ (gone q u own o s t a i k c lt b d) = ((λ e. absurd (k.other e)), (λ n. let r = counted (below (next q o) i) _ a t d in omega (arith, r)))

  abbrev Full : State → Type 0
  Full s = (s.made ≤ limit) × ((w : Path) → s.unrun ≡ Some w → s.made ≡ limit)

  full_none : (n : ℕ) → n ≤ limit → Full (record { made = n; unrun = None })
  full_none n h = (h, λ w e. absurd (cc e))

  pub full : (j : Job) (s : State) (a : I) (t : State) → Does j s a t → Full s → Full t
  full _ _ _ _ (leaf_test q u s e ab) = λ f. f
  full _ _ _ _ (leaf_past q u s e ab) = λ f. f
  full _ _ _ _ (inner q u s t a own os b up all d) = λ f. full (among q u own os) s a t d f
  full _ _ _ _ (cut_below q u s c) = λ f. f
  full _ _ _ _ (cut q u own os s c) = λ f. f
  full _ _ _ _ (none q u own s) = λ f. f
  full _ _ _ _ (each q u own o os s m t a b d e) = λ f. full (among q u own os) m b t e (full (via q u own o) s a m d f)
  full _ _ _ _ (mine q u own s t a d) = λ f. full (below (next q own) u) s a t d f
  full _ _ _ _ (passed q u own o s n p) = λ f. f
  full _ _ _ _ (stopped q u own o s v n p) = λ f. f
  full _ _ _ _ (never_one q u own o s k e) = λ f. f
  full _ _ _ _ (spent_one q u own o s k e) = λ f. f
  full _ _ _ _ (unrun_one q u own o s i k c e) = λ f. (f.0, λ w g. e)
  full _ _ _ _ (stray_one q u own o s i k c lt n) = λ f. full_none _ (omega (arith, lt))
  full _ _ _ _ (gone q u own o s t a i k c lt b d) = λ f. full (below (next q o) i) _ a t d (full_none _ (omega (arith, lt)))

  -- ---- the run that a job belongs to is listed

  abbrev Own_listed : Job → I → Type 0
  Own_listed (below q u) a = Listed (test_of y u) a
  Own_listed (among q u own os) a = In own os → Listed (test_of y u) a
  Own_listed (via q u own o) a = o ≡ own → Listed (test_of y u) a

  listed_left : (t : Test) (a b : I) → Listed t a → Listed t (a ++ b)
  listed_left t a b (inl i) = inl (in_left _ a b i)
  listed_left t a b (inr i) = inr (in_left _ a b i)

  listed_right : (t : Test) (a b : I) → Listed t b → Listed t (a ++ b)
  listed_right t a b (inl i) = inl (in_right _ a b i)
  listed_right t a b (inr i) = inr (in_right _ a b i)

  pub own_listed : (j : Job) (s : State) (a : I) (t : State) → Does j s a t → Own_listed j a
  own_listed _ _ _ _ (leaf_test q u s e ab) = inl (inl refl)
  own_listed _ _ _ _ (leaf_past q u s e ab) = inr (inl refl)
  own_listed _ _ _ _ (inner q u s t a own os b up all d) = own_listed (among q u own os) s a t d ((all own).1 (inl refl))
  own_listed _ _ _ _ (cut_below q u s c) = not_cut c
  own_listed _ _ _ _ (cut q u own os s c) = not_cut c
  own_listed _ _ _ _ (none q u own s) = λ i. absurd i
  own_listed _ _ _ _ (each q u own o os s m t a b d e) = λ i. elim i [
    | inl f ↦ listed_left _ a b (own_listed (via q u own o) s a m d (sym f))
    | inr k ↦ listed_right _ a b (own_listed (among q u own os) m b t e k)
  ]
  own_listed _ _ _ _ (mine q u own s t a d) = λ e. own_listed (below (next q own) u) s a t d
  own_listed _ _ _ _ (passed q u own o s n p) = λ e. absurd (n e)
  own_listed _ _ _ _ (stopped q u own o s v n p) = λ e. absurd (n e)
  own_listed _ _ _ _ (never_one q u own o s k e) = λ e. absurd (k.other e)
  own_listed _ _ _ _ (spent_one q u own o s k e) = λ e. absurd (k.other e)
  own_listed _ _ _ _ (unrun_one q u own o s i k c e) = λ e. absurd (k.other e)
  own_listed _ _ _ _ (stray_one q u own o s i k c lt n) = λ e. absurd (k.other e)
  own_listed _ _ _ _ (gone q u own o s t a i k c lt b d) = λ e. absurd (k.other e)

  -- ---- within a whole listing l

  module _ (l : I) where
    abbrev pub Sub : I → Type 0
    Sub a = (x : Item) → In x a → In x l

    abbrev pub Here : Input → Type 0
    Here u = Listed (test_of y u) l

    listed_sub : (t : Test) (a : I) → Sub a → Listed t a → Listed t l
    listed_sub t a h (inl i) = inl (h _ i)
    listed_sub t a h (inr i) = inr (h _ i)

    abbrev RunLicense : Input → Test → Type 0
    RunLicense u t = (t.input ≡ u) ⊎ ((v : Input) × (p : Path) × BeginsWith t.path p × Cause after y l v p t.input)

    abbrev pub License : Input → Item → Type 0
    License u (test_item t) = RunLicense u t
    License u (past_item t) = RunLicense u t
    License u (stray_item t p) = (v : Input) × Cause after y l v p t.input × (suc (y.clean v) < length p)
    License u (spent_item p) = (v : Input) × (q : Path) × (o : Outcome) × (p ≡ next q o) × Source after y v l × Offers y v q o × y.Answers v p spent
    License u (unrun_item i p) = (v : Input) × Cause after y l v p i

    one_license : (u : Input) (z : Item) → License u z → (x : Item) → In x (z ∷ []) → License u x
    one_license u z g x i = subst (λ w. License u w) (sym (the_one x z i)) g

    run_license : (q : Path) (u : Input) (o : Outcome) (i : Input) → Here u → Offers y u q o → y.Meets u (next q o) i → (t : Test) → BeginsWith t.path (next q o) → RunLicense i t → RunLicense u t
    run_license q u o i h f m t b (inl e) = inr (u, next q o, b, (q, o, refl, (test_of y u, h, refl), f, subst (λ w. y.Meets u (next q o) w) (sym e) m))
    run_license q u o i h f m t b (inr k) = inr k

    pass_on : (q : Path) (u : Input) (o : Outcome) (i : Input) → Here u → Offers y u q o → y.Meets u (next q o) i → (x : Item) → BeginsWith (key x) (next q o) → License i x → License u x
    pass_on q u o i h f m (test_item t) b k = run_license q u o i h f m t b k
    pass_on q u o i h f m (past_item t) b k = run_license q u o i h f m t b k
    pass_on q u o i h f m (stray_item t p) b k = k
    pass_on q u o i h f m (spent_item p) b k = k
    pass_on q u o i h f m (unrun_item v p) b k = k

    stray_clean : (q : Path) (u : Input) (o : Outcome) (i : Input) → (y.runs).IsWithin u → Offers y u q o → Turns y after limit false q u o i → (BeginsWith ((y.runs).path i) (next q o) → ⊥) → suc (y.clean u) < length (next q o)
    stray_clean q u o i w f c n = let e = length_next q o in elim (order_of (y.clean u) (length q)) [
      | inl h ↦ omega (arith, h, e)
      | inr (inl h) ↦ absurd (n (laws.turns u i q o w c.within f (omega (arith, h)) c.meets))
      | inr (inr h) ↦ absurd (n (laws.turns u i q o w c.within f (omega (arith, h)) c.meets))
    ]

    pub licensed : (j : Job) (s : State) (a : I) (t : State) → Does j s a t → Input_within j → Sub a → Here (of j) → (x : Item) → In x a → License (of j) x
    licensed _ _ _ _ (leaf_test q u s e ab) = λ w sub h. one_license u _ (inl refl)
    licensed _ _ _ _ (leaf_past q u s e ab) = λ w sub h. one_license u _ (inl refl)
    licensed _ _ _ _ (inner q u s t a own os b up all d) = λ w sub h. licensed (among q u own os) s a t d w sub h
    licensed _ _ _ _ (cut_below q u s c) = λ w sub h. not_cut c
    licensed _ _ _ _ (cut q u own os s c) = λ w sub h. not_cut c
    licensed _ _ _ _ (none q u own s) = λ w sub h x i. no_item x i
    licensed _ _ _ _ (each q u own o os s m t a b d e) = λ w sub h x i. elim (in_either x a b i) [
      | inl k ↦ licensed (via q u own o) s a m d w (λ z v. sub z (in_left z a b v)) h x k
      | inr k ↦ licensed (among q u own os) m b t e w (λ z v. sub z (in_right z a b v)) h x k
    ]
    licensed _ _ _ _ (mine q u own s t a d) = λ w sub h. licensed (below (next q own) u) s a t d w sub h
    licensed _ _ _ _ (passed q u own o s n p) = λ w sub h x i. no_item x i
    licensed _ _ _ _ (stopped q u own o s v n p) = λ w sub h x i. no_item x i
    licensed _ _ _ _ (never_one q u own o s k e) = λ w sub h x i. no_item x i
    licensed _ _ _ _ (spent_one q u own o s k e) = λ w sub h. one_license u _ (u, q, o, refl, (test_of y u, h, refl), k.offers, e)
    licensed _ _ _ _ (unrun_one q u own o s i k c e) = λ w sub h. one_license u _ (u, (q, o, refl, (test_of y u, h, refl), k.offers, c.meets))
    licensed _ _ _ _ (stray_one q u own o s i k c lt n) = λ w sub h.
        one_license u _ (u, (q, o, refl, (test_of y u, h, refl), k.offers, c.meets), stray_clean q u o i w k.offers c n)
    licensed _ _ _ _ (gone q u own o s t a i k c lt b d) = λ w sub h x v.
        pass_on q u o i h k.offers c.meets x (found.keys y laws after limit false (below (next q o) i) _ a t d x v)
        (licensed (below (next q o) i) _ a t d c.within sub (listed_sub _ a sub (own_listed (below (next q o) i) _ a t d)) x v)

    -- ---- Covered

    -- where the search has stopped, the unrun item is listed and its key lies before what is still to come
    abbrev pub Stopped : Job → Path → Type 0
    Stopped (below q u) w = Parts w q
    Stopped (among q u own os) w = (o : Outcome) → In o os → Parts w (next q o)
    Stopped (via q u own o) w = Parts w (next q o)

    abbrev pub Behind : Job → State → Type 0
    Behind j s = (w : Path) → s.unrun ≡ Some w → Stopped j w × (i : Input) × In (unrun_item i w) l

    abbrev pub Cover : Path → Type 0
    Cover q = (u : Test) × Listed u l × BeginsWith u.path q × ((o : Outcome) → Offers y u.input q o → Settled after y l u.input (next q o))

    abbrev pub CoverUnder : Path → I → Type 0
    CoverUnder q a = (t : Test) (r : Path) (c : Outcome) → Listed t a → BeginsWith r q → BeginsWith t.path (next r c) → Cover r

    abbrev pub SettledUnder : Path → Input → Outcome → List Outcome → Type 0
    SettledUnder q u own os = (o : Outcome) → In o os → o ≢ own → Settled after y l u (next q o)

    abbrev pub Covers : Job → I → Type 0
    Covers (below q u) a = CoverUnder q a
    Covers (among q u own os) a = ((o : Outcome) → CoverUnder (next q o) a) × SettledUnder q u own os
    Covers (via q u own o) a = CoverUnder (next q o) a × (o ≢ own → Settled after y l u (next q o))

    leaf_short : (q r : Path) (c : Outcome) (p : Path) → p ≡ q → BeginsWith r q → BeginsWith p (next r c) → ⊥
    leaf_short q r c p e h k = not_longer q c (begins_short h k)
      where
        begins_short : BeginsWith r q → BeginsWith p (next r c) → BeginsWith q (next q c)
        begins_short h k =
            let a = length_begins _ _ h in
            let b = length_begins _ _ k in
            let d = length_next r c in
            let f = ap length e in
            absurd (omega (arith, a, b, d, f))

    listed_one : (t : Test) (z : Item) → Listed t (z ∷ []) → key z ≡ t.path
    listed_one t z (inl i) = ap (key) (sym (the_one _ z i))
    listed_one t z (inr i) = ap (key) (sym (the_one _ z i))

    leaf_cover : (q : Path) (z : Item) → key z ≡ q → CoverUnder q (z ∷ [])
    leaf_cover q z e t r c i h k = absurd (leaf_short q r c t.path (sym (listed_one t z i) ∙ e) h k)

    no_cover : (q : Path) → CoverUnder q []
    no_cover q t r c i h k = elim i [ inl v ↦ absurd v | inr v ↦ absurd v ]

    -- an item that is no run is below no proper prefix
    not_listed : (q : Path) (z : Item) → ((t : Test) → test_item t ≢ z) → ((t : Test) → past_item t ≢ z) → CoverUnder q (z ∷ [])
    not_listed q z n m t r c (inl i) h k = absurd (n t (the_one _ z i))
    not_listed q z n m t r c (inr i) h k = absurd (m t (the_one _ z i))

    listed_either : (t : Test) (a b : I) → Listed t (a ++ b) → Listed t a ⊎ Listed t b
    listed_either t a b (inl i) = elim (in_either _ a b i) [ inl v ↦ inl (inl v) | inr v ↦ inr (inl v) ]
    listed_either t a b (inr i) = elim (in_either _ a b i) [ inl v ↦ inl (inr v) | inr v ↦ inr (inr v) ]

    key_listed : (t : Test) (a : I) (P : Path → Type 0) → ((x : Item) → In x a → P (key x)) → Listed t a → P t.path
    key_listed t a P f (inl i) = f _ i
    key_listed t a P f (inr i) = f _ i

    tail_behind : (q : Path) (u : Input) (own o : Outcome) (os : List Outcome) (s m : State) (a : I) →
        Does (via q u own o) s a m → Ascend (o ∷ os) → Sub a → Behind (among q u own (o ∷ os)) s → Behind (among q u own os) m
    tail_behind q u own o os s m a d up sub h w e = elim (found.comes y laws after limit false (via q u own o) s a m d w e) [
      | inl f ↦ let k = h w f in ((λ p i. k.0 p (inr i)), k.1, k.2)
      | inr f ↦ let b = found.keys y laws after limit false (via q u own o) s a m d _ f.1 in
          ((λ p i. parts_under _ _ _ _ (parts_next q o p (up.0 p i)) b.0 (begins_self _)), f.0, sub _ f.1)
    ]

    nobody_behind : (j : Job) (n : ℕ) → Behind j (record { made = n; unrun = None })
    nobody_behind j n w e = absurd (cc e)

    inner_cover : (q : Path) (u : Input) (own : Outcome) (os : List Outcome) (a : I) → (y.runs).IsWithin u → Here u → BeginsWith ((y.runs).path u) (next q own) →
        ((o : Outcome) → In o os ↔ ((o ≡ own) ⊎ In o (y.others u (length q)))) → Covers (among q u own os) a → CoverUnder q a
    inner_cover q u own os a w here b all c t r k i h g = elim (begins_or_is r q h) [
      | inl e ↦ subst (λ v. Cover v) (sym e) (test_of y u, here, begins_next _ _ _ b, λ o f. c.1 o ((all o).1 (inr f.1)) (laws.not_own u q o own w f b))
      | inr v ↦ c.0 v.0 t r k i v.1 g
    ]

    each_cover : (q : Path) (u : Input) (own o : Outcome) (os : List Outcome) (s m t : State) (a b : I) →
        Does (via q u own o) s a m → Covers (via q u own o) a → Covers (among q u own os) b → Covers (among q u own (o ∷ os)) (a ++ b)
    each_cover q u own o os s m t a b d h k = (under, one)
      where
        under : (p : Outcome) → CoverUnder (next q p) (a ++ b)
        under p v r c i g f = elim (listed_either v a b i) [
          | inr j ↦ k.0 p v r c j g f
          | inl j ↦
              let e : o ≡ p = begins_one v.path q o p
              (key_listed v a (λ w. BeginsWith w (next q o)) (λ x n. (found.keys y laws after limit false (via q u own o) s a m d x n).0) j)
              (begins_trans _ _ _ (begins_next _ _ _ f) g) in
              h.0 v r c j (subst (λ w. BeginsWith r (next q w)) (sym e) g) f
        ]

        one : SettledUnder q u own (o ∷ os)
        one p (inl e) n = subst (λ w. Settled after y l u (next q w)) (sym e) (h.1 (λ f. n (e ∙ f)))
        one p (inr i) n = k.1 p i n

    pub covered : (j : Job) (s : State) (a : I) (t : State) → Does j s a t → Input_within j → found.In_order y laws after limit false j → Sub a → Here (of j) → Behind j s → Covers j a
    covered _ _ _ _ (leaf_test q u s e ab) = λ w up sub h n. leaf_cover q _ e
    covered _ _ _ _ (leaf_past q u s e ab) = λ w up sub h n. leaf_cover q _ e
    covered _ _ _ _ (inner q u s t a own os b up all d) = λ w up' sub h n.
        inner_cover q u own os a w h b all (covered (among q u own os) s a t d w up sub h (λ v e. let k = n v e in ((λ o i. parts_under _ _ _ _ k.0 (begins_self _) (next_begins q o)), k.1, k.2)))
    covered _ _ _ _ (cut_below q u s c) = λ w up sub h n. not_cut c
    covered _ _ _ _ (cut q u own os s c) = λ w up sub h n. not_cut c
    covered _ _ _ _ (none q u own s) = λ w up sub h n. ((λ o. no_cover _), (λ o i. absurd i))
    covered _ _ _ _ (each q u own o os s m t a b d e) = λ w up sub h n.
        each_cover q u own o os s m t a b d
        (covered (via q u own o) s a m d w tt (λ z v. sub z (in_left z a b v)) h (λ v f. let k = n v f in (k.0 o (inl refl), k.1, k.2)))
        (covered (among q u own os) m b t e w up.1 (λ z v. sub z (in_right z a b v)) h (tail_behind q u own o os s m a d up (λ z v. sub z (in_left z a b v)) n))
    covered _ _ _ _ (mine q u own s t a d) = λ w up sub h n. (covered (below (next q own) u) s a t d w tt sub h n, (λ f. absurd (f refl)))
    covered _ _ _ _ (passed q u own o s f p) = λ w up sub h n. (no_cover _, λ g. inr (inr (inr (inr p))))
    covered _ _ _ _ (stopped q u own o s v f p) = λ w up sub h n. (no_cover _, λ g. let k = n v p in inr (inr (inr (inl (k.1, v, k.2, parts_before _ _ k.0)))))
    covered _ _ _ _ (never_one q u own o s k e) = λ w up sub h n. (no_cover _, λ g. inl e)
    covered _ _ _ _ (spent_one q u own o s k e) = λ w up sub h n. (not_listed _ _ (λ t f. cc f) (λ t f. cc f), λ g. inr (inl (inl (sub _ (inl refl)))))
    covered _ _ _ _ (unrun_one q u own o s i k c e) = λ w up sub h n. (not_listed _ _ (λ t f. cc f) (λ t f. cc f), λ g. inr (inl (inr (inr (i, sub _ (inl refl))))))
    covered _ _ _ _ (stray_one q u own o s i k c lt f) = λ w up sub h n. (not_listed _ _ (λ t f. cc f) (λ t f. cc f), λ g. inr (inl (inr (inl (test_of y i, sub _ (inl refl))))))
    covered _ _ _ _ (gone q u own o s t a i k c lt b d) = λ w up sub h n.
        let here = listed_sub _ a sub (own_listed (below (next q o) i) _ a t d) in
        (covered (below (next q o) i) _ a t d c.within tt sub here (nobody_behind (below (next q o) i) (suc s.made)), λ g. inr (inr (inl (c.answer, test_of y i, here, b))))

  -- ---- the whole search

  -- the terms of the runs, in order, each once
  abbrev pub TermsOf : I → List Term → Type 0
  TermsOf l es = Pairwise (TermBefore after y) es × ((e : Term) → In e es ↔ ((t : Test) × WasRun t l × In e (y.terms t.input)))

  licensed_test : (l : I) (t : Test) → ((x : Item) → In x l → License l (y.runs).base x) → Listed t l → RunLicense l (y.runs).base t
  licensed_test l t h (inl i) = h _ i
  licensed_test l t h (inr i) = h _ i

  pub search_licensed : (b : Limits) (l : I) (es : List Term) → Searched y after limit false l → 1 ≤ limit → TermsOf l es → Licensed after y limit (record { bounds = b; items = l; terms = es })
  search_licensed b l es (t, d) le te =
      let here = own_listed (below [] (y.runs).base) _ l t d in
      let lic = licensed l (below [] (y.runs).base) _ l t d laws.base_within (λ x i. i) here in
      let n = counted (below [] (y.runs).base) _ l t d in
      let f = full (below [] (y.runs).base) _ l t d (full_none 1 le) in
      record {
        begun = record { base_listed = (test_of y (y.runs).base, here, refl); within_limit = let g = f.0 in omega (arith, n, g) };
        run = λ v i. licensed_test l v lic i;
        stray = λ v p i. lic _ i;
        spent = λ p i. lic _ i;
        unrun = λ i p k. (lic _ k, (let g = f.1 p (found.tells y laws after limit false (below [] (y.runs).base) _ l t d _ p k (i, refl)) in omega (arith, n, g)));
        terms_ascend = te.0;
        terms = te.1;
      }

  pub search_covered : (l : I) → Searched y after limit false l → Covered after y l
  search_covered l (t, d) t' q own i b =
      covered l (below [] (y.runs).base) _ l t d laws.base_within tt (λ x i. i) (own_listed (below [] (y.runs).base) _ l t d) (nobody_behind l (below [] (y.runs).base) 1) t' q own i (begins_nil q) b
