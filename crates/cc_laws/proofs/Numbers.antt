-- The atoms of events on numbers tell the outcome.
use Rattle.std.proofs.Common.{◌≡◌, ◌≢◌, ℕ, ℤ, pos, negsuc, neg_ℤ, ◌+ℤ◌, ◌-ℤ◌, ◌≤ℤ◌, int_lt, int_le, Bool, true, false, not, ◌&&◌, ◌⊎◌, ◌↔◌, inl, inr, List, [], ◌∷◌, Option, IsSome, refl, sym, ap, ◌∙◌, subst, arith, if◌then◌else◌}
use Rattle.std.proofs.lemmas.Int.{ints}
use Rattle.cc_base.specs.declared.outcomes.Outcome.{Outcome}
use Rattle.cc_base.specs.declared.outcomes.Outcome.TheVariants.{High, Low, Plain, False, True}
use Rattle.cc_base.specs.Forms.{Form, Atom, at_most_zero, is_zero, not_zero}
use Rattle.cc_base.specs.Holds.{value_of_form, AllValued, or_zero, Holds, Meets}
use Rattle.cc_base.specs.Paths.{In}
use Rattle.cc_model.specs.Core as tree
use Rattle.cc_model.specs.Core.{Op, Cmp}
use Rattle.cc_model.specs.Plain.{fit_of, decision_of, compare_int, int_eq}
use Rattle.cc_model.specs.FormOperations.{Forms, Laws, places_of_form}
use Rattle.cc_model.specs.Traced as on
use Rattle.cc_model.specs.Traced.{Choice, Asked, asks_nothing, one_of, term}
use Rattle.cc_laws.proofs.Ranks.{bool_cases}

-- each choice is the outcome exactly where its atoms hold
abbrev pub Each : (ℕ → Option ℤ) → List Choice → Outcome → Type 0
Each value [] o = Unit {0}
Each value (c ∷ cs) o = ((c.outcome ≡ o) ↔ Meets value c.atoms) × Each value cs o

-- one of the choices is the outcome
abbrev pub Some_of : List Choice → Outcome → Type 0
Some_of [] o = ⊥
Some_of (c ∷ cs) o = (c.outcome ≡ o) ⊎ Some_of cs o

abbrev pub Told : (ℕ → Option ℤ) → List Choice → Outcome → Type 0
Told value cs o = Each value cs o × Some_of cs o

-- what the three outcomes say of a number
fit_high : (z : ℤ) → (pos 2147483648 ≤ℤ z) → fit_of z ≡ High
unfolding fit_of
fit_high z h = let e : int_lt (pos 2147483647) z ≡ true = grind (arith, ints) in ap (λ b. if b then High else (if int_lt z (negsuc 2147483647) then Low else Plain)) e

fit_low : (z : ℤ) → (z ≤ℤ negsuc 2147483648) → fit_of z ≡ Low
unfolding fit_of
fit_low z h =
    let e : int_lt (pos 2147483647) z ≡ false = grind (arith, ints) in
    let i : int_lt z (negsuc 2147483647) ≡ true = grind (arith, ints) in
    ap (λ b. if b then High else (if int_lt z (negsuc 2147483647) then Low else Plain)) e ∙ ap (λ b. if b then Low else Plain) i

fit_plain : (z : ℤ) → (z ≤ℤ pos 2147483647) → (negsuc 2147483647 ≤ℤ z) → fit_of z ≡ Plain
unfolding fit_of
fit_plain z h k =
    let e : int_lt (pos 2147483647) z ≡ false = grind (arith, ints) in
    let i : int_lt z (negsuc 2147483647) ≡ false = grind (arith, ints) in
    ap (λ b. if b then High else (if int_lt z (negsuc 2147483647) then Low else Plain)) e ∙ ap (λ b. if b then Low else Plain) i

-- the three ranges
data Range (z : ℤ) : Type 0 where
  high : (pos 2147483648 ≤ℤ z) → Range z
  low : (z ≤ℤ negsuc 2147483648) → Range z
  within : (z ≤ℤ pos 2147483647) → (negsuc 2147483647 ≤ℤ z) → Range z

range_of : (z : ℤ) → Range z
range_of z = elim (bool_cases (int_lt (pos 2147483647) z)) [
  | inl h ↦ high (grind (arith, ints))
  | inr h ↦ elim (bool_cases (int_lt z (negsuc 2147483647))) [
    | inl k ↦ low (grind (arith, ints))
    | inr k ↦ within (grind (arith, ints)) (grind (arith, ints))
  ]
]

-- one choice: it is the outcome, and holds; or neither
abbrev pub Fits : Type 0 → Outcome → Outcome → Type 0
Fits P c o = (c ≡ o) ↔ P

pub yes_it_is : {P : Type 0} → (c o : Outcome) → c ≡ o → P → Fits P c o
yes_it_is c o e m = ((λ _. m), (λ _. e))

pub it_is_not : {P : Type 0} → (c o : Outcome) → c ≢ o → (P → ⊥) → Fits P c o
it_is_not c o e m = ((λ h. absurd (e h)), (λ h. absurd (m h)))

not_true : (t : Bool) → not t ≡ true → t ≡ false
not_true true h = absurd (cc h)
not_true false h = refl

not_false : (t : Bool) → not t ≡ false → t ≡ true
not_false true h = refl
not_false false h = absurd (cc h)

and_false : (a b : Bool) → a && b ≡ false → (a ≡ false) ⊎ (b ≡ false)
and_false true b h = inr h
and_false false b h = inl refl

and_true : (a b : Bool) → a && b ≡ true → (a ≡ true) × (b ≡ true)
and_true true b h = (refl, h)
and_true false b h = absurd (cc h)

pub int_eq_tells : (x y : ℤ) → ((int_eq x y ≡ true) × (x ≡ y)) ⊎ ((int_eq x y ≡ false) × (x ≢ y))
unfolding int_eq
int_eq_tells x y = elim (bool_cases (int_le x y && int_le y x)) [
  | inl h ↦ let r = and_true (int_le x y) (int_le y x) h in let a = r.0 in let b = r.1 in inl (h, grind (arith, ints))
  | inr h ↦ inr (h, λ e. elim (and_false (int_le x y) (int_le y x) h) [ inl a ↦ grind (arith, ints) | inr a ↦ grind (arith, ints) ])
]

-- every place of the list has a value
pub all_valued : (value : ℕ → Option ℤ) (l : List ℕ) → ((p : ℕ) → In p l → IsSome (value p)) → AllValued value l
all_valued value [] h = tt
all_valued value (p ∷ l) h = (h p (inl refl), all_valued value l (λ q i. h q (inr i)))

module _ (f : Forms) (laws : Laws f) (value : ℕ → Option ℤ) where
  abbrev pub of_form : Form → ℤ
  of_form g = value_of_form (or_zero value) g

  -- each place of the form has a value
  abbrev pub Valued : Form → Type 0
  Valued g = (p : ℕ) → In p (places_of_form g) → IsSome (value p)

  pub valued_shift : (g : Form) (c : ℤ) → Valued g → Valued (f.shift g c)
  valued_shift g c v = λ p i. v p (subst (In p) (laws.shift_places g c) i)

  pub valued_opposite : (g : Form) → Valued g → Valued (f.opposite g)
  valued_opposite g v = λ p i. v p (subst (In p) (laws.opposite_places g) i)

  le_holds : (g : Form) → Valued g → (of_form g ≤ℤ pos 0) → Holds value (at_most_zero g)
  le_holds g v c = record { valued = all_valued value (places_of_form g) v; compares = c }

  zero_holds : (g : Form) → Valued g → (of_form g ≡ pos 0) → Holds value (is_zero g)
  zero_holds g v c = record { valued = all_valued value (places_of_form g) v; compares = c }

  not_zero_holds : (g : Form) → Valued g → (of_form g ≢ pos 0) → Holds value (not_zero g)
  not_zero_holds g v c = record { valued = all_valued value (places_of_form g) v; compares = c }

  shifted : (g : Form) (z c : ℤ) → of_form g ≡ z → of_form (f.shift g c) ≡ z +ℤ c
  shifted g z c h = laws.shift g c (or_zero value) ∙ ap (λ n. n +ℤ c) h

  opposed : (g : Form) (z : ℤ) → of_form g ≡ z → of_form (f.opposite g) ≡ neg_ℤ z
  opposed g z h = laws.opposite g (or_zero value) ∙ ap neg_ℤ h

  module _ (g : Form) (z : ℤ) (h : of_form g ≡ z) (v : Valued g) where
    m_high : Holds value (at_most_zero (f.shift (f.opposite g) (pos 2147483648))) → pos 2147483648 ≤ℤ z
    m_high m = let i = shifted (f.opposite g) (neg_ℤ z) (pos 2147483648) (opposed g z h) in let c = m.compares in omega (arith, ints, i, c)

    m_high' : pos 2147483648 ≤ℤ z → Holds value (at_most_zero (f.shift (f.opposite g) (pos 2147483648)))
    m_high' m = le_holds _ (valued_shift _ _ (valued_opposite g v)) (let i = shifted (f.opposite g) (neg_ℤ z) (pos 2147483648) (opposed g z h) in omega (arith, ints, i, m))

    m_low : Holds value (at_most_zero (f.shift g (pos 2147483649))) → z ≤ℤ negsuc 2147483648
    m_low m = let i = shifted g z (pos 2147483649) h in let c = m.compares in omega (arith, ints, i, c)

    m_low' : z ≤ℤ negsuc 2147483648 → Holds value (at_most_zero (f.shift g (pos 2147483649)))
    m_low' m = le_holds _ (valued_shift g _ v) (let i = shifted g z (pos 2147483649) h in omega (arith, ints, i, m))

    m_top : Holds value (at_most_zero (f.shift g (negsuc 2147483646))) → z ≤ℤ pos 2147483647
    m_top m = let i = shifted g z (negsuc 2147483646) h in let c = m.compares in omega (arith, ints, i, c)

    m_top' : z ≤ℤ pos 2147483647 → Holds value (at_most_zero (f.shift g (negsuc 2147483646)))
    m_top' m = le_holds _ (valued_shift g _ v) (let i = shifted g z (negsuc 2147483646) h in omega (arith, ints, i, m))

    m_bottom : Holds value (at_most_zero (f.shift (f.opposite g) (negsuc 2147483647))) → negsuc 2147483647 ≤ℤ z
    m_bottom m = let i = shifted (f.opposite g) (neg_ℤ z) (negsuc 2147483647) (opposed g z h) in let c = m.compares in omega (arith, ints, i, c)

    m_bottom' : negsuc 2147483647 ≤ℤ z → Holds value (at_most_zero (f.shift (f.opposite g) (negsuc 2147483647)))
    m_bottom' m = le_holds _ (valued_shift _ _ (valued_opposite g v)) (let i = shifted (f.opposite g) (neg_ℤ z) (negsuc 2147483647) (opposed g z h) in omega (arith, ints, i, m))

    fit_in : Range z → Told value (on.fit_choices f g) (fit_of z)
    unfolding on.fit_choices
    fit_in (high r) = let o = fit_high z r in (
      (
        yes_it_is High (fit_of z) (sym o) (m_high' r, tt),
        (
          it_is_not Low (fit_of z) (λ i. cc (i ∙ o)) (λ m. let q = m_low m.0 in omega (arith, ints, q, r)),
          (it_is_not Plain (fit_of z) (λ i. cc (i ∙ o)) (λ m. let q = m_top m.0 in omega (arith, ints, q, r)), tt),
        ),
      ),
      inl (sym o),
    )
    fit_in (low r) = let o = fit_low z r in (
      (
        it_is_not High (fit_of z) (λ i. cc (i ∙ o)) (λ m. let q = m_high m.0 in omega (arith, ints, q, r)),
        (
          yes_it_is Low (fit_of z) (sym o) (m_low' r, tt),
          (it_is_not Plain (fit_of z) (λ i. cc (i ∙ o)) (λ m. let q = m_bottom (m.1).0 in omega (arith, ints, q, r)), tt),
        ),
      ),
      inr (inl (sym o)),
    )
    fit_in (within r s) = let o = fit_plain z r s in (
      (
        it_is_not High (fit_of z) (λ i. cc (i ∙ o)) (λ m. let q = m_high m.0 in omega (arith, ints, q, r)),
        (
          it_is_not Low (fit_of z) (λ i. cc (i ∙ o)) (λ m. let q = m_low m.0 in omega (arith, ints, q, s)),
          (yes_it_is Plain (fit_of z) (sym o) (m_top' r, (m_bottom' s, tt)), tt),
        ),
      ),
      inr (inr (inl (sym o))),
    )

    pub fit_told : Told value (on.fit_choices f g) (fit_of z)
    fit_told = fit_in (range_of z)

  -- ---- decisions

  pub two_told : (a b : Atom) (t : Bool) → (t ≡ true → Holds value a × (Holds value b → ⊥)) → (t ≡ false → Holds value b × (Holds value a → ⊥)) → Told value (on.two_choices a b) (decision_of t)
  unfolding on.two_choices decision_of
  two_told a b true h k = let r = h refl in
      ((it_is_not False True (λ i. cc i) (λ m. r.1 m.0), (yes_it_is True True refl (r.0, tt), tt)), inr (inl refl))
  two_told a b false h k = let r = k refl in
      ((yes_it_is False False refl (r.0, tt), (it_is_not True False (λ i. cc i) (λ m. r.1 m.0), tt)), inl refl)

  module _ (g : Form) (x y : ℤ) (h : of_form g ≡ x -ℤ y) (v : Valued g) where
    -- the atoms of an equation and of its opposite
    eq_told : (t : Bool) → int_eq x y ≡ t → Told value (on.two_choices (is_zero g) (not_zero g)) (decision_of t)
    eq_told t k = elim (int_eq_tells x y) [
      | inl q ↦ two_told _ _ t (λ i. (zero_holds g v (let c = q.1 in omega (arith, ints, h, c)), λ m. let c = q.1 in m.compares (omega (arith, ints, h, c)))) (λ i. absurd (cc (q.0, k, i)))
      | inr q ↦ two_told _ _ t (λ i. absurd (cc (q.0, k, i))) (λ i. (not_zero_holds g v (λ m. q.1 (omega (arith, ints, h, m))), λ m. let c = m.compares in q.1 (omega (arith, ints, h, c))))
    ]

    ne_told : (t : Bool) → int_eq x y ≡ t → Told value (on.two_choices (not_zero g) (is_zero g)) (decision_of (not t))
    ne_told t k = elim (int_eq_tells x y) [
      | inl q ↦ two_told _ _ (not t) (λ i. absurd (cc (q.0, k, not_true t i))) (λ i. (zero_holds g v (let c = q.1 in omega (arith, ints, h, c)), λ m. let c = q.1 in m.compares (omega (arith, ints, h, c))))
      | inr q ↦ two_told _ _ (not t) (λ i. (not_zero_holds g v (λ m. q.1 (omega (arith, ints, h, m))), λ m. let c = m.compares in q.1 (omega (arith, ints, h, c)))) (λ i. absurd (cc (q.0, k, not_false t i)))
    ]

    n_up : of_form (f.shift g (pos 1)) ≡ (x -ℤ y) +ℤ pos 1
    n_up = shifted g (x -ℤ y) (pos 1) h

    n_opp : of_form (f.opposite g) ≡ neg_ℤ (x -ℤ y)
    n_opp = opposed g (x -ℤ y) h

    n_opp_up : of_form (f.shift (f.opposite g) (pos 1)) ≡ neg_ℤ (x -ℤ y) +ℤ pos 1
    n_opp_up = shifted (f.opposite g) (neg_ℤ (x -ℤ y)) (pos 1) n_opp

    abbrev Le : Form → Type 0
    Le a = Holds value (at_most_zero a)

    up : (((x -ℤ y) +ℤ pos 1) ≤ℤ pos 0) → Le (f.shift g (pos 1))
    up i = le_holds _ (valued_shift g _ v) (subst (λ z. z ≤ℤ pos 0) (sym n_up) i)

    down : (neg_ℤ (x -ℤ y) ≤ℤ pos 0) → Le (f.opposite g)
    down i = le_holds _ (valued_opposite g v) (subst (λ z. z ≤ℤ pos 0) (sym n_opp) i)

    down_up : ((neg_ℤ (x -ℤ y) +ℤ pos 1) ≤ℤ pos 0) → Le (f.shift (f.opposite g) (pos 1))
    down_up i = le_holds _ (valued_shift _ _ (valued_opposite g v)) (subst (λ z. z ≤ℤ pos 0) (sym n_opp_up) i)

    here : ((x -ℤ y) ≤ℤ pos 0) → Le g
    here i = le_holds g v (subst (λ z. z ≤ℤ pos 0) (sym h) i)

    lt_told : Told value (on.two_choices (at_most_zero (f.shift g (pos 1))) (at_most_zero (f.opposite g))) (decision_of (int_lt x y))
    lt_told = let a = n_up in let b = n_opp in
        two_told _ _ _ (λ t. (up (grind (arith, ints)), λ m. let c = m.compares in grind (arith, ints))) (λ t. (down (grind (arith, ints)), λ m. let c = m.compares in grind (arith, ints)))

    gt_told : Told value (on.two_choices (at_most_zero (f.shift (f.opposite g) (pos 1))) (at_most_zero g)) (decision_of (int_lt y x))
    gt_told = let a = n_opp_up in
        two_told _ _ _ (λ t. (down_up (grind (arith, ints)), λ m. let c = m.compares in grind (arith, ints))) (λ t. (here (grind (arith, ints)), λ m. let c = m.compares in grind (arith, ints)))

    le_told : Told value (on.two_choices (at_most_zero g) (at_most_zero (f.shift (f.opposite g) (pos 1)))) (decision_of (int_le x y))
    le_told = let a = n_opp_up in
        two_told _ _ _ (λ t. (here (grind (arith, ints)), λ m. let c = m.compares in grind (arith, ints))) (λ t. (down_up (grind (arith, ints)), λ m. let c = m.compares in grind (arith, ints)))

    ge_told : Told value (on.two_choices (at_most_zero (f.opposite g)) (at_most_zero (f.shift g (pos 1)))) (decision_of (int_le y x))
    ge_told = let a = n_up in let b = n_opp in
        two_told _ _ _ (λ t. (down (grind (arith, ints)), λ m. let c = m.compares in grind (arith, ints))) (λ t. (up (grind (arith, ints)), λ m. let c = m.compares in grind (arith, ints)))

  pub compare_told : (o : Cmp) (g : Form) (x y : ℤ) → of_form g ≡ x -ℤ y → Valued g → Told value (on.two_choices (on.compare_atom f o true g) (on.compare_atom f o false g)) (decision_of (compare_int o x y))
  unfolding on.compare_atom compare_int
  compare_told tree.eq g x y h v = eq_told g x y h v _ refl
  compare_told tree.ne g x y h v = ne_told g x y h v _ refl
  compare_told tree.lt g x y h v = lt_told g x y h v
  compare_told tree.gt g x y h v = gt_told g x y h v
  compare_told tree.le g x y h v = le_told g x y h v
  compare_told tree.ge g x y h v = ge_told g x y h v

  pub test_told : (g : Form) (x : ℤ) → of_form g ≡ x → Valued g → Told value (on.two_choices (not_zero g) (is_zero g)) (decision_of (not (int_eq x (pos 0))))
  test_told g x h v = let i : of_form g ≡ x -ℤ pos 0 = omega (arith, ints, h) in ne_told g x (pos 0) i v _ refl
