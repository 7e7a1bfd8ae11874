-- The index of places finds each of them.
use Rattle.std.proofs.Common.{◌≡◌, ℕ, suc, ◌+◌, ◌<◌, ◌⊎◌, inl, inr, Bool, true, false, nat_eq, nat_lt, List, [], ◌∷◌, ◌++◌, slice_get, Option, Some, None, if◌then◌else◌, refl, sym, ap, ◌∙◌, subst, subst₂, arith}
use Rattle.std.proofs.lemmas.Bool.Decides.{nat_tests}
use Rattle.std.proofs.lemmas.Bool.{cases_eq}
use Rattle.std.specs.Option.{option_map}
use Rattle.std.specs.Ordering.{nat_cmp}
use Rattle.std.specs.BTreeMap.{BTreeMap, get}
use Rattle.cc_base.specs.Paths.{In}
use Rattle.cc_base.specs.Places.{Place, Placed, arg, field, stream}
use Rattle.sym_expr.specs.declared.places.PlaceId.{PlaceId}
use Rattle.input_map.specs.declared.building.Assignment.{Assignment}
use Rattle.input_map.specs.Builds.{class_of}
use Rattle.input_map.specs.Laying.{Seat, Entry, IsIndex, IsOwner, key, found_in, owner_in, Puts, block_number, cell_number}
use Rattle.input_map.proofs.Lists.{some_same}

equal : (m n : ℕ) → nat_eq m n ≡ true → m ≡ n
equal m n e = grind (arith, nat_tests)

unequal : (m n : ℕ) → nat_eq m n ≡ false → m ≡ n → ⊥
unequal m n e f = grind (arith, nat_tests)

is_equal : (m n : ℕ) → m ≡ n → nat_eq m n ≡ true
is_equal m n e = grind (arith, nat_tests)

is_below : (m n : ℕ) → m < n → nat_lt m n ≡ true
is_below m n e = grind (arith, nat_tests)

below : (m n : ℕ) → nat_lt m n ≡ true → m < n
below m n e = grind (arith, nat_tests)

seat_here : (q : Place) → Seat q (block_number q) (cell_number q)
seat_here (arg k) = (refl, refl)
seat_here (stream k) = (refl, refl)
seat_here (field t c) = (refl, refl)

seat_is : (a : Place) (q j : ℕ) → Seat a q j → (q ≡ block_number a) × (j ≡ cell_number a)
seat_is (arg k) q j s = (s.0, sym s.1)
seat_is (stream k) q j s = (s.0, sym s.1)
seat_is (field t c) q j s = (s.0, sym s.1)

if_none : (t : Bool) (o : Option ℕ) → o ≡ None → (if t then o else None) ≡ None
if_none true o e = e
if_none false o e = refl

pub index_none : (places : List Placed) (m : BTreeMap ℕ ℕ) → ((q : ℕ) → get nat_cmp m q ≡ None) → IsIndex places 0 (found_in m)
index_none places m e = record {
  sound = λ q j id f. absurd (cc (f, if_none (nat_lt j 18446744073709551616) (get nat_cmp m (key q j)) (e (key q j))));
  total = λ id x q j s. let l = x.small in absurd (omega (arith, l));
}

abbrev wider : (places : List Placed) (n id : ℕ) → Entry places n id → Entry places (suc n) id
wider places n id e = let l = e.small in record { entry = e.entry; small = omega (arith, l); is = e.is }

pub index_past : (places : List Placed) (n : ℕ) (f : ℕ → ℕ → Option ℕ) → IsIndex places n f → slice_get places n ≡ None → IsIndex places (suc n) f
index_past places n f h e = record {
  sound = λ q j id g. let r = h.sound q j id g in (wider places n id r.0, r.1);
  total = λ id x q j s. elim (cases_eq id n) [
    | inl g ↦ (let r : slice_get places id ≡ Some x.entry = x.is in let m = ap (slice_get places) g in absurd (cc (r, m, e)))
    | inr g ↦ (let l = x.small in h.total id (record { entry = x.entry; small = omega (arith, l, g); is = x.is }) q j s)
  ];
}

-- one more place, at its key
module _ (m new : BTreeMap ℕ ℕ) (b c n : ℕ) (small : c < 18446744073709551616) (puts : Puts m (key b c) n new) where
  abbrev Found : ℕ → ℕ → Type 0
  Found q j = ((q ≡ b) × (j ≡ c) × (found_in new q j ≡ Some n)) ⊎ (((q ≡ b) → (j ≡ c) → ⊥) × (found_in new q j ≡ found_in m q j))

  by_key : (q j : ℕ) → nat_lt j 18446744073709551616 ≡ true → (t : Bool) → nat_eq (key b c) (key q j) ≡ t → get nat_cmp new (key q j) ≡ (if t then Some n else get nat_cmp m (key q j)) → Found q j
  by_key q j s true e f =
      let k = equal (key b c) (key q j) e in let l = below j 18446744073709551616 s in
      inl (omega (arith, k, l, small), omega (arith, k, l, small), ap (λ t. if t then get nat_cmp new (key q j) else None) s ∙ f)
  by_key q j s false e f = inr (
    (λ x y. unequal (key b c) (key q j) e (ap (λ z. key z c) (sym x) ∙ ap (key q) (sym y))),
    ap (λ o. if nat_lt j 18446744073709551616 then o else None) f,
  )

  by_size : (q j : ℕ) (t : Bool) → nat_lt j 18446744073709551616 ≡ t → Found q j
  by_size q j true s = by_key q j s (nat_eq (key b c) (key q j)) refl (puts (key q j))
  by_size q j false s = inr (
    (λ x y. absurd_test (sym s ∙ is_below j 18446744073709551616 (subst (λ z. z < 18446744073709551616) (sym y) small))),
    ap (λ t. if t then get nat_cmp new (key q j) else None) s ∙ sym (ap (λ t. if t then get nat_cmp m (key q j) else None) s),
  )
    where
      absurd_test : false ≡ true → ⊥
      absurd_test e = cc

  found_put : (q j : ℕ) → Found q j
  found_put q j = by_size q j (nat_lt j 18446744073709551616) refl

  pub index_put : (places : List Placed) (e : Placed) → slice_get places n ≡ Some e → b ≡ block_number e.place → c ≡ cell_number e.place → IsIndex places n (found_in m) → IsIndex places (suc n) (found_in new)
  index_put places e is x y h = record {
    sound = λ q j id f. elim (found_put q j) [
      | inl g ↦ subst (λ (k : ℕ). (z : Entry places (suc n) k) × Seat z.entry.place q j) (some_same n id (sym g.2 ∙ f))
          (record { entry = e; small = omega arith; is = is }, subst₂ (Seat e.place) (sym (g.0 ∙ x)) (sym (g.1 ∙ y)) (seat_here e.place))
      | inr g ↦ (let r = h.sound q j id (sym g.1 ∙ f) in (wider places n id r.0, r.1))
    ];
    total = λ id z q j s. elim (found_put q j) [
      | inl g ↦ (n, g.2)
      | inr g ↦ elim (cases_eq id n) [
        | inl k ↦ (let same : z.entry ≡ e = some_same z.entry e (sym z.is ∙ ap (slice_get places) k ∙ is) in
            let r = seat_is e.place q j (subst (λ (p : Placed). Seat p.place q j) same s) in absurd (g.0 (r.0 ∙ sym x) (r.1 ∙ sym y)))
        | inr k ↦ (let l = z.small in let r = h.total id (record { entry = z.entry; small = omega (arith, l, k); is = z.is }) q j s in (r.0, g.1 ∙ r.1))
      ]
    ];
  }

-- ---- owners

pub in_front : (x : PlaceId) (l m : List PlaceId) → In x l → In x (l ++ m)
in_front x [] m h = absurd h
in_front x (y ∷ l) m (inl e) = inl e
in_front x (y ∷ l) m (inr h) = inr (in_front x l m h)

pub in_last : (x : PlaceId) (l : List PlaceId) → In x (l ++ x ∷ [])
in_last x [] = inl refl
in_last x (y ∷ l) = inr (in_last x l)

pub in_push : (x y : PlaceId) (l : List PlaceId) → In x (l ++ y ∷ []) → In x l ⊎ (x ≡ y)
in_push x y [] (inl e) = inr e
in_push x y [] (inr h) = absurd h
in_push x y (z ∷ l) (inl e) = inl (inl e)
in_push x y (z ∷ l) (inr h) = elim (in_push x y l h) [ inl g ↦ inl (inr g) | inr g ↦ inr g ]

pub owner_none : (v : Assignment) (m : BTreeMap ℕ ℕ) → ((q : ℕ) → get nat_cmp m q ≡ None) → IsOwner v [] (owner_in m)
owner_none v m e = record { sound = λ c t f. absurd (cc (f, e c)); total = λ t h. absurd h }

module _ (v : Assignment) (m new : BTreeMap ℕ ℕ) (t : PlaceId) (puts : Puts m (class_of v t.0) t.0 new) where
  sound_by : (l : List PlaceId) → IsOwner v l (owner_in m) → (c s : ℕ) (e : Bool) → nat_eq (class_of v t.0) c ≡ e → (if e then Some t.0 else get nat_cmp m c) ≡ Some s → In (record { 0 = s }) (l ++ t ∷ []) × (class_of v s ≡ c)
  sound_by l h c s true e f = let g = some_same t.0 s f in
      subst (λ (k : ℕ). In (record { 0 = k }) (l ++ t ∷ []) × (class_of v k ≡ c)) g (in_last t l, equal (class_of v t.0) c e)
  sound_by l h c s false e f = let r = h.sound c s f in (in_front (record { 0 = s }) l (t ∷ []) r.0, r.1)

  total_by : (c : ℕ) (e : Bool) → (o : Option ℕ) → (k : ℕ) × (o ≡ Some k) → (j : ℕ) × ((if e then Some t.0 else o) ≡ Some j)
  total_by c true o k = (t.0, refl)
  total_by c false o k = k

  total_here : (e : Bool) (o : Option ℕ) → e ≡ true → (j : ℕ) × ((if e then Some t.0 else o) ≡ Some j)
  total_here true o f = (t.0, refl)
  total_here false o f = absurd (cc f)

  pub owner_put : (l : List PlaceId) → IsOwner v l (owner_in m) → IsOwner v (l ++ t ∷ []) (owner_in new)
  owner_put l h = record {
    sound = λ c s f. sound_by l h c s (nat_eq (class_of v t.0) c) refl (sym (puts c) ∙ f);
    total = λ s i. elim (in_push s t l i) [
      | inl g ↦ (let r = total_by (class_of v s.0) (nat_eq (class_of v t.0) (class_of v s.0)) (get nat_cmp m (class_of v s.0)) (h.total s g) in (r.0, puts (class_of v s.0) ∙ r.1))
      | inr g ↦ (let r = total_here (nat_eq (class_of v t.0) (class_of v s.0)) (get nat_cmp m (class_of v s.0)) (is_equal (class_of v t.0) (class_of v s.0) (ap (λ (x : PlaceId). class_of v x.0) (sym g))) in (r.0, puts (class_of v s.0) ∙ r.1))
    ];
  }

-- ---- a place by its number

pub no_entry : (o : Option Placed) → None ≡ option_map (λ (e : Placed). e.place) o → o ≡ None
no_entry None e = refl
no_entry (Some x) e = absurd (cc e)

pub an_entry : (o : Option Placed) (q : Place) → Some q ≡ option_map (λ (e : Placed). e.place) o → (e : Placed) × (o ≡ Some e) × (q ≡ e.place)
an_entry None q e = absurd (cc e)
an_entry (Some x) q e = (x, refl, cc e)

pub index_no_place : (places : List Placed) (n : ℕ) (f : ℕ → ℕ → Option ℕ) → None ≡ option_map (λ (e : Placed). e.place) (slice_get places n) → IsIndex places n f → IsIndex places (suc n) f
index_no_place places n f e h = index_past places n f h (no_entry (slice_get places n) e)

pub index_a_place : (places : List Placed) (n k : ℕ) (m new : BTreeMap ℕ ℕ) (q : Place) → Some q ≡ option_map (λ (e : Placed). e.place) (slice_get places n) → k ≡ key (block_number q) (cell_number q) → cell_number q < 4294967296
    → Puts m k n new → IsIndex places n (found_in m) → IsIndex places (suc n) (found_in new)
index_a_place places n k m new q e f small puts h = let x = an_entry (slice_get places n) q e in
    index_put m new (block_number q) (cell_number q) n (omega (arith, small)) (subst (λ (i : ℕ). Puts m i n new) f puts) places x.0 x.1 (ap block_number x.2) (ap cell_number x.2) h

pub found_is : (m : BTreeMap ℕ ℕ) (q j : ℕ) → j < 18446744073709551616 → get nat_cmp m (key q j) ≡ found_in m q j
found_is m q j h = sym (ap (λ t. if t then get nat_cmp m (key q j) else None) (is_below j 18446744073709551616 h))
