-- A traced run with the numbers of types renumbered is the traced run over the renumbered layouts.
use Rattle.std.proofs.Common.{◌≡◌, ℕ, zero, suc, ℤ, pos, Bool, true, false, ◌||◌, inl, List, [], ◌∷◌, ◌++◌, map, length, Option, Some, None, slice_get, slice_set, option_map, nat_eq, nat_lt, refl, sym, ap, ap₂, subst, ◌∙◌, if◌then◌else◌}
use Rattle.std.proofs.lemmas.List.{length-map, map-append, map-set}
use Rattle.std.proofs.lemmas.Option.{slice_get-map}
use Rattle.cc_base.specs.declared.outcomes.Outcome.{Outcome}
use Rattle.cc_base.specs.declared.outcomes.Outcome.TheVariants.{Zero, High, Low, Plain, False, True, Object}
use Rattle.cc_base.specs.declared.cells.CellTy.TheVariants as ty
use Rattle.cc_base.specs.Forms.{nothing, at as at_place, same, differ}
use Rattle.cc_base.specs.Places.{Placed, arg, field, stream}
use Rattle.cc_model.specs.declared.terms.TermKind.TheVariants as kind
use Rattle.cc_model.specs.Core.{Cell, int_cell, ptr_cell, Layout, Cmp}
use Rattle.cc_model.specs.Domain.{Act, act_arith, act_divisor, act_negate, act_compare, act_test, act_access, act_index, Acted}
use Rattle.cc_model.specs.Plain as base
use Rattle.cc_model.specs.Plain.{Value, num, null, at, block, made, or_none}
use Rattle.cc_model.specs.FormOperations.{Forms}
use Rattle.cc_model.specs.Traced as on
use Rattle.cc_model.specs.Traced.{Shadow, form, place, none, Traced, Spot, in_made, in_touched, nowhere, spot_of, Touched, Shadows, Data, Choice, Asked, asks_nothing, one_of, term, Event, Formed, plain_number, formed, termed, traced}
use Rattle.cc_laws.proofs.Related.{SameAct, Gives, Related}
use Rattle.source_laws.specs.Renumbering.{renumber_cell, renumber_placed, renumber_event}

module _ (r : ℕ → ℕ) where
  abbrev pub renumber_shadow : Shadow → Shadow
  renumber_shadow (form g) = form g
  renumber_shadow (place p t) = place p (r t)
  renumber_shadow none = none

  abbrev pub renumber_value : Traced → Traced
  renumber_value v = record { plain = v.plain; shadow = renumber_shadow v.shadow }

  abbrev pub renumber_touched : Touched → Touched
  renumber_touched b = record { first = b.first; type = r b.type; shadows = map renumber_shadow b.shadows }

  abbrev pub renumber_shadows : Shadows → Shadows
  renumber_shadows s = record { made = map (map renumber_shadow) s.made; touched = map renumber_touched s.touched; places = map (renumber_placed r) s.places }

  abbrev pub renumber_data : Data → Data
  renumber_data x = record { plain = x.plain; shadows = renumber_shadows x.shadows }

  abbrev pub renumber_act : Act Traced → Act Traced
  renumber_act (act_arith o a b) = act_arith o (renumber_value a) (renumber_value b)
  renumber_act (act_divisor a b) = act_divisor (renumber_value a) (renumber_value b)
  renumber_act (act_negate a) = act_negate (renumber_value a)
  renumber_act (act_compare o a b) = act_compare o (renumber_value a) (renumber_value b)
  renumber_act (act_test a) = act_test (renumber_value a)
  renumber_act (act_access a) = act_access (renumber_value a)
  renumber_act (act_index p i n w) = act_index (renumber_value p) (renumber_value i) n w

  abbrev pub Is : Traced → Traced → Type 0
  Is v u = renumber_value v ≡ u

  is_act : (a b : Act Traced) → SameAct Is Is a b → renumber_act a ≡ b
  is_act (act_arith o a b) (act_arith p c e) h = ap₂ (λ q m. act_arith q m (renumber_value b)) h.0 h.1 ∙ ap (act_arith p c) h.2
  is_act (act_divisor a b) (act_divisor c e) h = ap₂ act_divisor h.0 h.1
  is_act (act_negate a) (act_negate c) h = ap act_negate h
  is_act (act_compare o a b) (act_compare p c e) h = ap₂ (λ q m. act_compare q m (renumber_value b)) h.0 h.1 ∙ ap (act_compare p c) h.2
  is_act (act_test a) (act_test c) h = ap act_test h
  is_act (act_access a) (act_access c) h = ap act_access h
  is_act (act_index p i n c) (act_index q j m e) h = ap₂ (λ s t. act_index s t n c) h.0 h.1 ∙ ap₂ (act_index q j) h.2 h.3
  is_act _ _ h = absurd h

  -- ---- memory

  or_shadow : (o : Option Shadow) → or_none none (option_map renumber_shadow o) ≡ renumber_shadow (or_none none o)
  unfolding or_none
  or_shadow None = refl
  or_shadow (Some s) = refl

  or_shadows : (o : Option (List Shadow)) → or_none [] (option_map (map renumber_shadow) o) ≡ map renumber_shadow (or_none [] o)
  unfolding or_none
  or_shadows None = refl
  or_shadows (Some s) = refl

  touched_same : (o : Option Touched) → on.touched_shadows (option_map renumber_touched o) ≡ map renumber_shadow (on.touched_shadows o)
  unfolding on.touched_shadows
  touched_same None = refl
  touched_same (Some b) = refl

  cell_same : (l : List Shadow) (c : ℕ) → or_none none (slice_get (map renumber_shadow l) c) ≡ renumber_shadow (or_none none (slice_get l c))
  cell_same l c = ap (or_none none) (slice_get-map renumber_shadow l c) ∙ or_shadow (slice_get l c)

  made_same : (l : List (List Shadow)) (n : ℕ) → or_none [] (slice_get (map (map renumber_shadow) l) n) ≡ map renumber_shadow (or_none [] (slice_get l n))
  made_same l n = ap (or_none []) (slice_get-map (map renumber_shadow) l n) ∙ or_shadows (slice_get l n)

  touched_at : (l : List Touched) (k : ℕ) → on.touched_shadows (slice_get (map renumber_touched l) k) ≡ map renumber_shadow (on.touched_shadows (slice_get l k))
  touched_at l k = ap on.touched_shadows (slice_get-map renumber_touched l k) ∙ touched_same (slice_get l k)

  shadow_same : (p : Spot) (s : Shadows) → on.shadow_at p (renumber_shadows s) ≡ renumber_shadow (on.shadow_at p s)
  unfolding on.shadow_at
  shadow_same (in_made n c) s = ap (λ l. or_none none (slice_get l c)) (made_same s.made n) ∙ cell_same (or_none [] (slice_get s.made n)) c
  shadow_same (in_touched k c) s = ap (λ l. or_none none (slice_get l c)) (touched_at s.touched k) ∙ cell_same (on.touched_shadows (slice_get s.touched k)) c
  shadow_same nowhere s = refl

  set_same : (l : List Touched) (k c : ℕ) (v : Shadow) → on.set_touched (map renumber_touched l) k c (renumber_shadow v) ≡ map renumber_touched (on.set_touched l k c v)
  unfolding on.set_touched
  set_same [] k c v = refl
  set_same (b ∷ l) zero c v = ap (λ s. record { first = b.first; type = r b.type; shadows = s } ∷ map renumber_touched l) (sym (map-set renumber_shadow b.shadows c v))
  set_same (b ∷ l) (suc k) c v = ap (λ m. renumber_touched b ∷ m) (set_same l k c v)

  with_same : (p : Spot) (v : Shadow) (s : Shadows) → on.with_shadow p (renumber_shadow v) (renumber_shadows s) ≡ renumber_shadows (on.with_shadow p v s)
  unfolding on.with_shadow
  with_same (in_made n c) v s = ap (λ l. record { made = l; touched = map renumber_touched s.touched; places = map (renumber_placed r) s.places })
      (ap (λ l. slice_set (map (map renumber_shadow) s.made) n (slice_set l c (renumber_shadow v))) (made_same s.made n)
      ∙ ap (slice_set (map (map renumber_shadow) s.made) n) (sym (map-set renumber_shadow (or_none [] (slice_get s.made n)) c v))
      ∙ sym (map-set (map renumber_shadow) s.made n (slice_set (or_none [] (slice_get s.made n)) c v)))
  with_same (in_touched k c) v s = ap (λ l. record { made = map (map renumber_shadow) s.made; touched = l; places = map (renumber_placed r) s.places }) (set_same s.touched k c v)
  with_same nowhere v s = refl

  pub load_same : (p : Traced) (x : Data) → renumber_value (on.load p x) ≡ on.load (renumber_value p) (renumber_data x)
  unfolding on.load
  load_same p x = ap (λ s. record { plain = base.load p.plain (x.plain); shadow = s }) (sym (shadow_same (spot_of p.plain (x.plain).touched) x.shadows))

  pub store_same : (p v : Traced) (x : Data) → renumber_data (on.store p v x) ≡ on.store (renumber_value p) (renumber_value v) (renumber_data x)
  unfolding on.store
  store_same p v x = ap (λ s. record { plain = base.store p.plain v.plain x.plain; shadows = s }) (sym (with_same (spot_of p.plain (x.plain).touched) v.shadow x.shadows))

  pub offset_same : (v : Traced) (n : ℕ) → renumber_value (on.offset v n) ≡ on.offset (renumber_value v) n
  unfolding on.offset
  offset_same v n = refl

  pub nil_same : renumber_value on.nil ≡ on.nil
  unfolding on.nil
  nil_same = refl

  module _ (f : Forms) where
    pub number_same : (z : ℤ) → renumber_value (on.number f z) ≡ on.number f z
    unfolding on.number
    number_same z = refl

    zero_same : (cs : List Cell) → map (on.zero_shadow f) cs ≡ map renumber_shadow (map (on.zero_shadow f) cs)
    unfolding on.zero_shadow
    zero_same [] = refl
    zero_same (int_cell ∷ cs) = ap (λ l. form (f.number (pos 0)) ∷ l) (zero_same cs)
    zero_same (ptr_cell t ∷ cs) = ap (λ l. none ∷ l) (zero_same cs)

    pub make_same : (t : Layout) (x : Data) → (renumber_value (on.make f t x).value ≡ (on.make f t (renumber_data x)).value) × (renumber_data (on.make f t x).after ≡ (on.make f t (renumber_data x)).after)
    unfolding on.make
    make_same t x = (
      refl,
      ap (λ l. record { plain = (base.make t x.plain).after; shadows = record { made = l; touched = map renumber_touched (x.shadows).touched; places = map (renumber_placed r) (x.shadows).places } })
          (map-append (map renumber_shadow) (x.shadows).made (map (on.zero_shadow f) t.cells ∷ []) ∙ ap (λ l. map (map renumber_shadow) (x.shadows).made ++ l ∷ []) (sym (zero_same t.cells))),
    )

    taken : (p : Traced) (x : Data) (n : ℕ) (l : List Placed) → n ≡ length (x.shadows).places → l ≡ map (renumber_placed r) ((x.shadows).places ++ record { place = stream (x.plain).count; holds = ty.Int } ∷ [])
        → renumber_data (on.take f p x) ≡ record { plain = base.take p.plain x.plain; shadows = on.with_shadow (spot_of p.plain (x.plain).touched) (form (f.of n)) (record { made = map (map renumber_shadow) (x.shadows).made; touched = map renumber_touched (x.shadows).touched; places = l }) }
    unfolding on.take
    taken p x n l e i = ap (λ s. record { plain = base.take p.plain x.plain; shadows = s })
        (sym (ap₂ (λ m k. on.with_shadow (spot_of p.plain (x.plain).touched) (form (f.of m)) (record { made = map (map renumber_shadow) (x.shadows).made; touched = map renumber_touched (x.shadows).touched; places = k })) e i
        ∙ with_same (spot_of p.plain (x.plain).touched) (form (f.of (length (x.shadows).places))) (record x.shadows { places = (x.shadows).places ++ record { place = stream (x.plain).count; holds = ty.Int } ∷ [] })))

    pub take_same : (p : Traced) (x : Data) → renumber_data (on.take f p x) ≡ on.take f (renumber_value p) (renumber_data x)
    unfolding on.take
    take_same p x = taken p x _ _ (length-map (x.shadows).places (renumber_placed r)) (sym (map-append (renumber_placed r) (x.shadows).places (record { place = stream (x.plain).count; holds = ty.Int } ∷ [])))

    form_same : (s : Shadow) → on.form_of f (renumber_shadow s) ≡ on.form_of f s
    unfolding on.form_of
    form_same (form g) = refl
    form_same (place p t) = refl
    form_same none = refl

    formed_same : (g : Formed) (v : Value) → on.shadow_of f g v ≡ renumber_shadow (on.shadow_of f g v)
    unfolding on.shadow_of
    formed_same plain_number v = refl
    formed_same (formed g) v = refl
    formed_same (termed k) v = refl

    test_same : (s : Shadow) → on.test_asked f (renumber_shadow s) ≡ on.test_asked f s
    unfolding on.test_asked
    test_same (form g) = refl
    test_same (place p t) = refl
    test_same none = refl

    pub cells_same : (n : ℕ) (cs : List Cell) → on.cell_shadows f n (map (renumber_cell r) cs) ≡ map renumber_shadow (on.cell_shadows f n cs)
    unfolding on.cell_shadows
    cells_same n [] = refl
    cells_same n (int_cell ∷ cs) = ap (λ l. form (f.of n) ∷ l) (cells_same (suc n) cs)
    cells_same n (ptr_cell t ∷ cs) = ap (λ l. place n (r t) ∷ l) (cells_same (suc n) cs)

    fields_same : (p c : ℕ) (cs : List Cell) → on.field_places p c (map (renumber_cell r) cs) ≡ map (renumber_placed r) (on.field_places p c cs)
    unfolding on.field_places on.cell_ty
    fields_same p c [] = refl
    fields_same p c (int_cell ∷ cs) = ap (λ l. record { place = field p c; holds = ty.Int } ∷ l) (fields_same p (suc c) cs)
    fields_same p c (ptr_cell t ∷ cs) = ap (λ l. record { place = field p c; holds = ty.Ptr (record { 0 = r t }) } ∷ l) (fields_same p (suc c) cs)

    pub args_same : (n : ℕ) (cs : List Cell) → on.arg_places n (map (renumber_cell r) cs) ≡ map (renumber_placed r) (on.arg_places n cs)
    unfolding on.arg_places on.cell_ty
    args_same n [] = refl
    args_same n (int_cell ∷ cs) = ap (λ l. record { place = arg n; holds = ty.Int } ∷ l) (args_same (suc n) cs)
    args_same n (ptr_cell t ∷ cs) = ap (λ l. record { place = arg n; holds = ty.Ptr (record { 0 = r t }) } ∷ l) (args_same (suc n) cs)

    module _ (one : (m n : ℕ) → nat_eq (r m) (r n) ≡ nat_eq m n) where
      -- ---- what is asked of pointers

      first_same : (t : ℕ) (o : Option Touched) → on.first_if (r t) (option_map renumber_touched o) ≡ on.first_if t o
      unfolding on.first_if
      first_same t None = refl
      first_same t (Some b) = ap (λ e. if e then Some (at_place b.first) else None) (one b.type t)

      side_same : (t : ℕ) (p : Spot) (l : List Touched) → on.side_at (r t) p (map renumber_touched l) ≡ on.side_at t p l
      unfolding on.side_at
      side_same t (in_made n c) l = refl
      side_same t (in_touched k zero) l = ap (on.first_if (r t)) (slice_get-map renumber_touched l k) ∙ first_same t (slice_get l k)
      side_same t (in_touched k (suc c)) l = refl
      side_same t nowhere l = refl

      without_same : (t : ℕ) (v : Value) (touched : List ℕ) (l : List Touched) → on.side_without (r t) v touched (map renumber_touched l) ≡ on.side_without t v touched l
      unfolding on.side_without
      without_same t null touched l = refl
      without_same t (num z) touched l = side_same t (spot_of (num z) touched) l
      without_same t (at o c) touched l = side_same t (spot_of (at o c) touched) l

      places_same : (o : Cmp) (p t q u : ℕ) → on.places_asked o p (r t) q (r u) ≡ on.places_asked o p t q u
      unfolding on.places_asked
      places_same o p t q u = ap (λ e. if e then on.sides_asked o (Some (at_place p)) (Some (at_place q)) else term kind.Wide) (one t u)

      compare_same : (o : Cmp) (a : Value) (s : Shadow) (b : Value) (t : Shadow) (x : Data)
          → on.compare_asked f o (record { plain = a; shadow = renumber_shadow s }) (record { plain = b; shadow = renumber_shadow t }) (renumber_data x) ≡ on.compare_asked f o (record { plain = a; shadow = s }) (record { plain = b; shadow = t }) x
      unfolding on.compare_asked on.pointers_asked
      compare_same o a (form g) b (form h) x = refl
      compare_same o a (form g) b (place q u) x = refl
      compare_same o a (form g) b none x = refl
      compare_same o a (place p t) b (form h) x = refl
      compare_same o a none b (form h) x = refl
      compare_same o a (place p t) b (place q u) x = places_same o p t q u
      compare_same o a (place p t) b none x = ap (on.sides_asked o (Some (at_place p))) (without_same t b (x.plain).touched (x.shadows).touched)
      compare_same o a none b (place q u) x = ap (λ w. on.sides_asked o w (Some (at_place q))) (without_same u a (x.plain).touched (x.shadows).touched)
      compare_same o a none b none x = refl

      is_first_same : (p : ℕ) (l : List Touched) → on.is_first p (map renumber_touched l) ≡ on.is_first p l
      unfolding on.is_first
      is_first_same p [] = refl
      is_first_same p (b ∷ l) = ap (λ e. nat_eq p b.first || e) (is_first_same p l)

      letters_same : (p t n : ℕ) (l : List Touched) → on.letters p (r t) n (map renumber_touched l) ≡ on.letters p t n l
      unfolding on.letters
      letters_same p t n [] = refl
      letters_same p t n (b ∷ l) = ap₂ (λ e m. if e then record { outcome = Object n; atoms = same (at_place p) (at_place b.first) ∷ [] } ∷ m else m) (one t b.type) (letters_same p t (suc n) l)

      differs_same : (p t : ℕ) (l : List Touched) → on.differs p (r t) (map renumber_touched l) ≡ on.differs p t l
      unfolding on.differs
      differs_same p t [] = refl
      differs_same p t (b ∷ l) = ap₂ (λ e m. if e then differ (at_place p) (at_place b.first) ∷ m else m) (one t b.type) (differs_same p t l)

      choices_same : (p t : ℕ) (l : List Touched) → on.access_choices p (r t) (map renumber_touched l) ≡ on.access_choices p t l
      unfolding on.access_choices
      choices_same p t l = ap₂ (λ m n. record { outcome = Zero; atoms = same (at_place p) nothing ∷ [] } ∷ (m ++ record { outcome = Object n; atoms = differ (at_place p) nothing ∷ on.differs p (r t) (map renumber_touched l) } ∷ []))
          (letters_same p t 0 l) (length-map l renumber_touched)
          ∙ ap (λ m. record { outcome = Zero; atoms = same (at_place p) nothing ∷ [] } ∷ (on.letters p t 0 l ++ record { outcome = Object (length l); atoms = differ (at_place p) nothing ∷ m } ∷ [])) (differs_same p t l)

      access_same : (s : Shadow) (l : List Touched) → on.access_asked (renumber_shadow s) (map renumber_touched l) ≡ on.access_asked s l
      unfolding on.access_asked
      access_same (form g) l = refl
      access_same (place p t) l = ap₂ (λ e m. if e then asks_nothing else one_of m) (is_first_same p l) (choices_same p t l)
      access_same none l = refl

      asked_same : (a : Act Traced) (x : Data) → on.asked_of f (renumber_act a) (renumber_data x) ≡ on.asked_of f a x
      unfolding on.asked_of
      asked_same (act_arith o a b) x = ap₂ (λ g h. on.fit_asked f (on.formed_of f o g h)) (form_same a.shadow) (form_same b.shadow)
      asked_same (act_divisor a b) x = ap₂ (on.divisor_asked f) (form_same a.shadow) (form_same b.shadow)
      asked_same (act_negate a) x = ap (λ g. on.fit_asked f (on.negated_of f g)) (form_same a.shadow)
      asked_same (act_compare o a b) x = compare_same o a.plain a.shadow b.plain b.shadow x
      asked_same (act_test a) x = test_same a.shadow
      asked_same (act_access a) x = access_same a.shadow (x.shadows).touched
      asked_same (act_index p i n w) x = ap (on.index_asked f) (form_same i.shadow)

      -- ---- what comes of an event

      first_of_same : (o : Option Touched) (s : Shadow) → on.first_of (option_map renumber_touched o) (renumber_shadow s) ≡ renumber_shadow (on.first_of o s)
      unfolding on.first_of
      first_of_same None s = refl
      first_of_same (Some b) (form g) = refl
      first_of_same (Some b) (place p t) = refl
      first_of_same (Some b) none = refl

      reached_same : (t : Outcome) (s : Shadow) (l : List Touched) → on.reached_shadow t (renumber_shadow s) (map renumber_touched l) ≡ renumber_shadow (on.reached_shadow t s l)
      unfolding on.reached_shadow
      reached_same (Object n) s l = ap (λ o. on.first_of o (renumber_shadow s)) (slice_get-map renumber_touched l n) ∙ first_of_same (slice_get l n) s
      reached_same Zero s l = refl
      reached_same High s l = refl
      reached_same Low s l = refl
      reached_same Plain s l = refl
      reached_same False s l = refl
      reached_same True s l = refl

      module _ (layout other : ℕ → List Cell) (laid : (t : ℕ) → other (r t) ≡ map (renumber_cell r) (layout t)) where
        touch_same : (p t : ℕ) (s : Shadows) → on.touch f other p (r t) (renumber_shadows s) ≡ renumber_shadows (on.touch f layout p t s)
        unfolding on.touch
        touch_same p t s = ap₂ (λ a b. record { made = map (map renumber_shadow) s.made; touched = a; places = b })
            (ap (λ l. map renumber_touched s.touched ++ record { first = p; type = r t; shadows = l } ∷ []) (ap (λ n. on.cell_shadows f n (other (r t))) (length-map s.places (renumber_placed r)) ∙ ap (on.cell_shadows f (length s.places)) (laid t) ∙ cells_same (length s.places) (layout t))
            ∙ sym (map-append renumber_touched s.touched (record { first = p; type = t; shadows = on.cell_shadows f (length s.places) (layout t) } ∷ [])))
            (ap (λ l. map (renumber_placed r) s.places ++ l) (ap (on.field_places p 0) (laid t) ∙ fields_same p 0 (layout t)) ∙ sym (map-append (renumber_placed r) s.places (on.field_places p 0 (layout t))))

        if_renumbered : (b : Bool) (s t : Shadows) → renumber_shadows (if b then s else t) ≡ if b then renumber_shadows s else renumber_shadows t
        if_renumbered true s t = refl
        if_renumbered false s t = refl

        touched_by : (t : Outcome) (a : Shadow) (s : Shadows) → on.touch_by f other t (renumber_shadow a) (renumber_shadows s) ≡ renumber_shadows (on.touch_by f layout t a s)
        unfolding on.touch_by
        touched_by (Object n) (place p t) s = ap₂ (λ m z. if nat_lt n m then renumber_shadows s else z) (length-map s.touched renumber_touched) (touch_same p t s)
            ∙ sym (if_renumbered (nat_lt n (length s.touched)) s (on.touch f layout p t s))
        touched_by (Object n) (form g) s = refl
        touched_by (Object n) none s = refl
        touched_by Zero a s = refl
        touched_by High a s = refl
        touched_by Low a s = refl
        touched_by Plain a s = refl
        touched_by False a s = refl
        touched_by True a s = refl

        after_same : (a : Act Traced) (t : Outcome) (s : Shadows) → on.after_shadows f other (renumber_act a) t (renumber_shadows s) ≡ renumber_shadows (on.after_shadows f layout a t s)
        unfolding on.after_shadows
        after_same (act_arith o a b) t s = refl
        after_same (act_divisor a b) t s = refl
        after_same (act_negate a) t s = refl
        after_same (act_compare o a b) t s = refl
        after_same (act_test a) t s = refl
        after_same (act_access a) t s = touched_by t a.shadow s
        after_same (act_index p i n w) t s = refl

        value_same : (a : Act Traced) (t : Outcome) (v : Value) (s : Shadows) → on.value_shadow f other (renumber_act a) t v (renumber_shadows s) ≡ renumber_shadow (on.value_shadow f layout a t v s)
        unfolding on.value_shadow
        value_same (act_arith o a b) t v s = ap₂ (λ g h. on.shadow_of f (on.formed_of f o g h) v) (form_same a.shadow) (form_same b.shadow) ∙ formed_same (on.formed_of f o (on.form_of f a.shadow) (on.form_of f b.shadow)) v
        value_same (act_divisor a b) t v s = refl
        value_same (act_negate a) t v s = ap (λ g. on.shadow_of f (on.negated_of f g) v) (form_same a.shadow) ∙ formed_same (on.negated_of f (on.form_of f a.shadow)) v
        value_same (act_compare o a b) t v s = refl
        value_same (act_test a) t v s = refl
        value_same (act_access a) t v s = reached_same t a.shadow s.touched
        value_same (act_index p i n w) t v s = refl

        plain_same : (a : Act Traced) → on.plain_of f other (renumber_act a) ≡ on.plain_of f layout a
        unfolding on.plain_of
        plain_same (act_arith o a b) = refl
        plain_same (act_divisor a b) = refl
        plain_same (act_negate a) = refl
        plain_same (act_compare o a b) = refl
        plain_same (act_test a) = refl
        plain_same (act_access a) = refl
        plain_same (act_index p i n w) = refl

        abbrev acted_by : Acted Value base.Data Outcome → Asked → List Placed → Shadow → Shadows → Acted Traced Data Event
        acted_by b k l s t = record { event = record { outcome = b.event; asked = k; places = l }; value = record { plain = b.value; shadow = s }; after = record { plain = b.after; shadows = t } }

        abbrev acted_with : Act Traced → Data → Act Value → Acted Traced Data Event
        acted_with a x c = let b = base.act c x.plain in acted_by b (on.asked_of f (renumber_act a) (renumber_data x)) (map (renumber_placed r) (x.shadows).places)
            (on.value_shadow f other (renumber_act a) b.event b.value (on.after_shadows f other (renumber_act a) b.event (renumber_shadows x.shadows)))
            (on.after_shadows f other (renumber_act a) b.event (renumber_shadows x.shadows))

        abbrev renumbered : Acted Traced Data Event → Acted Traced Data Event
        renumbered e = record { event = renumber_event r e.event; value = renumber_value e.value; after = renumber_data e.after }

        acted : (a : Act Traced) (x : Data) → on.act f other (renumber_act a) (renumber_data x) ≡ renumbered (on.act f layout a x)
        unfolding on.act
        acted a x = let b = base.act (on.plain_of f layout a) x.plain in let l = map (renumber_placed r) (x.shadows).places in
            ap (acted_with a x) (plain_same a)
            ∙ ap₂ (λ k t. acted_by b k l (on.value_shadow f other (renumber_act a) b.event b.value t) t) (asked_same a x) (after_same a b.event x.shadows)
            ∙ ap (λ s. acted_by b (on.asked_of f a x) l s (renumber_shadows (on.after_shadows f layout a b.event x.shadows))) (value_same a b.event b.value (on.after_shadows f layout a b.event x.shadows))

        given : (a : Act Traced) (t : Outcome) (v u : Traced) → renumber_value v ≡ u → Gives Is Is a t v u
        given (act_arith o a b) t v u e = e
        given (act_negate a) t v u e = e
        given (act_access a) t v u e = λ z. e
        given (act_index p i n k) t v u e = e
        given (act_divisor a b) t v u e = tt
        given (act_compare o a b) t v u e = tt
        given (act_test a) t v u e = tt

        abbrev pub Out : Act Traced → Acted Traced Data Event → Acted Traced Data Event → Type 0
        Out a e g = (w : Unit {0}) × Unit {0} × ((e.event).outcome ≡ (g.event).outcome) × (renumber_event r e.event ≡ g.event) × Gives Is Is a (e.event).outcome e.value g.value × (renumber_data e.after ≡ g.after)

        out : (a : Act Traced) (e : Acted Traced Data Event) → Out a e (renumbered e)
        out a e = (tt, tt, refl, refl, given a (e.event).outcome e.value _ refl, refl)

        pub act_same : (a b : Act Traced) (x y : Data) → SameAct Is Is a b → renumber_data x ≡ y → Out a (on.act f layout a x) (on.act f other b y)
        act_same a b x y h k = subst (Out a (on.act f layout a x)) (sym (acted a x) ∙ ap₂ (on.act f other) (is_act a b h) k) (out a (on.act f layout a x))

        abbrev pub renumbering : Related (traced f layout) (traced f other)
        renumbering = record {
          W = Unit {0};
          Le = λ w w'. Unit {0};
          le_refl = λ w. tt;
          le_trans = λ w w' w'' i j. tt;
          RV = λ w v u. Is v u;
          RL = λ w v u. Is v u;
          later_value = λ w w' v u i j. j;
          later_location = λ w w' v u i j. j;
          RD = λ w x y. renumber_data x ≡ y;
          Ev = λ w a b. renumber_event r a ≡ b;
          Part = λ w a b. ⊥;
          later_event = λ w w' a b le k. k;
          number = λ w z. number_same z;
          nil = λ w. nil_same;
          address = λ w v u i. i;
          offset = λ w v u n i. offset_same v n ∙ ap (λ t. on.offset t n) i;
          global = λ w n. refl;
          load = λ w p q x y i k. load_same p x ∙ ap₂ on.load i k;
          store = λ w p v q u x y i j k. store_same p v x ∙ ap₂ (λ s t. on.store s (renumber_value v) t) i k ∙ ap (λ s. on.store q s y) j;
          make = λ w t x y k. let m = make_same t x in (m.0 ∙ ap (λ z. (on.make f t z).value) k, m.1 ∙ ap (λ z. (on.make f t z).after) k);
          take = λ w p q x y i k. (tt, tt, take_same p x ∙ ap₂ (on.take f) i k);
          act = λ w a b x y i k. inl (act_same a b x y i k);
        }
