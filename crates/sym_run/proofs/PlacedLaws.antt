-- The places of a run, and what its events name of them.
use Rattle.std.proofs.Common.{◌≡◌, ◌<◌, ◌+◌, ◌⊎◌, inl, inr, ℕ, zero, suc, ℤ, pos, negsuc, Bool, true, false, ◌||◌, List, [], ◌∷◌, ◌++◌, length, length-append, append_assoc, append-nil, map, Option, Some, None, slice_get, slice_set, nat_eq, nat_lt, refl, sym, ap, subst, ◌∙◌, arith, if◌then◌else◌}
use Rattle.std.proofs.lemmas.Bool.{eqb-true}
use Rattle.std.proofs.lemmas.Option.{same_Some}
use Rattle.cc_base.specs.declared.cells.CellTy.{CellTy}
use Rattle.cc_base.specs.declared.cells.CellTy.TheVariants as cell
use Rattle.cc_base.specs.declared.outcomes.Outcome.{Outcome}
use Rattle.cc_base.specs.declared.outcomes.Outcome.TheVariants.{Zero, High, Low, Plain, False, True, Object}
use Rattle.cc_base.specs.Forms as asked
use Rattle.cc_base.specs.Forms.{Form, Side, nothing, Atom, at_most_zero, is_zero, not_zero, same, differ}
use Rattle.cc_base.specs.Paths.{In}
use Rattle.cc_base.specs.Places.{Place, Placed, arg, field, stream, ParentBelow}
use Rattle.cc_model.specs.Conditions.{start_shadow, taken, alternatives, atoms_of, without, same_outcome}
use Rattle.cc_model.specs.Core as tree
use Rattle.cc_model.specs.Core.{Cell, int_cell, ptr_cell, Layout, Op, Cmp}
use Rattle.cc_model.specs.Domain.{Act, act_arith, act_divisor, act_negate, act_compare, act_test, act_access, act_index}
use Rattle.cc_model.specs.FormOperations.{Forms, Laws, places_of_form}
use Rattle.cc_model.specs.Plain as base
use Rattle.cc_model.specs.Plain.{Value, null, num, at, made, block, or_none}
use Rattle.cc_model.specs.declared.terms.TermKind.TheVariants as kind
use Rattle.cc_model.specs.Traced as on
use Rattle.cc_model.specs.Traced.{Traced, Data, Shadow, form, place, none, Spot, in_made, in_touched, nowhere, spot_of, Touched, Shadows, Choice, Event, Asked, asks_nothing, one_of, term, Formed, plain_number, formed, termed, traced, cell_ty}
use Rattle.sym_run.specs.Placing.{IsNumberAt, IsPointerTo, IsPointerAt, FitsCell, ArePlaces, NamesForm, NamesSide, OfOneType, NamesAtom, NameAtoms}
use Rattle.sym_run.proofs.KeptLaws.{OfAll, Each, Invariant}

-- ---- more places

get_front : {A : Type 0} (l m : List A) (n : ℕ) (x : A) → slice_get l n ≡ Some x → slice_get (l ++ m) n ≡ Some x
get_front [] m n x e = absurd (cc e)
get_front (y ∷ l) m zero x e = e
get_front (y ∷ l) m (suc n) x e = get_front l m n x e

get_end : {A : Type 0} (l : List A) (x : A) → slice_get (l ++ x ∷ []) (length l) ≡ Some x
get_end [] x = refl
get_end (y ∷ l) x = get_end l x

get_more : {A : Type 0} (l : List A) (x y : A) (n : ℕ) → slice_get (l ++ x ∷ []) n ≡ Some y → (slice_get l n ≡ Some y) ⊎ ((n ≡ length l) × (x ≡ y))
get_more [] x y zero e = inr (refl, same_Some x y e)
get_more [] x y (suc n) e = absurd (cc e)
get_more (z ∷ l) x y zero e = inl e
get_more (z ∷ l) x y (suc n) e = elim (get_more l x y n e) [ inl h ↦ inl h | inr h ↦ inr (ap suc h.0, h.1) ]

get_map : {A B : Type 0} (f : A → B) (l : List A) (n : ℕ) (x : A) → slice_get l n ≡ Some x → slice_get (map f l) n ≡ Some (f x)
get_map f [] n x e = absurd (cc e)
get_map f (y ∷ l) zero x e = ap (λ z. Some (f z)) (same_Some y x e)
get_map f (y ∷ l) (suc n) x e = get_map f l n x e

number_later : (l m : List Placed) (p : ℕ) → IsNumberAt l p → IsNumberAt (l ++ m) p
number_later l m p h = (h.0, get_front l m p _ h.1)

pointer_later : (l m : List Placed) (p t : ℕ) → IsPointerTo l p t → IsPointerTo (l ++ m) p t
pointer_later l m p t h = (h.0, get_front l m p _ h.1)

points_at : (l : List Placed) (p t : ℕ) → IsPointerTo l p t → IsPointerAt l p
points_at l p t h = (h.0, record { 0 = t }, h.1)

one_type : (l : List Placed) (p q t : ℕ) → IsPointerTo l p t → IsPointerTo l q t → OfOneType l (asked.at p) (asked.at q)
one_type l p q t h g e f ep eq = ap (λ (x : Placed). x.holds) (same_Some e _ (sym ep ∙ h.1)) ∙ ap (λ (x : Placed). x.holds) (same_Some _ f (sym g.1 ∙ eq))

-- what stands beside a value names places
abbrev pub Good : List Placed → Shadow → Type 0
Good l (form g) = NamesForm l g
Good l (place p t) = IsPointerTo l p t
Good l none = Unit {0}

good_later : (l m : List Placed) (s : Shadow) → Good l s → Good (l ++ m) s
good_later l m (form g) h = λ p i. number_later l m p (h p i)
good_later l m (place p t) h = pointer_later l m p t h
good_later l m none h = tt

abbrev pub AllGood : List Placed → List Shadow → Type 0
AllGood l ss = Each (Good l) ss

all_later : (l m : List Placed) (ss : List Shadow) → AllGood l ss → AllGood (l ++ m) ss
all_later l m [] h = tt
all_later l m (s ∷ ss) h = (good_later l m s h.0, all_later l m ss h.1)

abbrev pub GoodTouched : List Placed → Touched → Type 0
GoodTouched l b = IsPointerTo l b.first b.type × AllGood l b.shadows

each_later : (l m : List Placed) (bs : List Touched) → Each (GoodTouched l) bs → Each (GoodTouched (l ++ m)) bs
each_later l m [] h = tt
each_later l m (b ∷ bs) h = ((pointer_later l m b.first b.type (h.0).0, all_later l m b.shadows (h.0).1), each_later l m bs h.1)

made_later : (l m : List Placed) (ss : List (List Shadow)) → Each (AllGood l) ss → Each (AllGood (l ++ m)) ss
made_later l m [] h = tt
made_later l m (s ∷ ss) h = (all_later l m s h.0, made_later l m ss h.1)

each_end : {A : Type 0} (P : A → Type 0) (l : List A) (x : A) → Each P l → P x → Each P (l ++ x ∷ [])
each_end P [] x h p = (p, tt)
each_end P (y ∷ l) x h p = (h.0, each_end P l x h.1 p)

each_or : {A : Type 0} (P : A → Type 0) (z : A) (l : List A) (n : ℕ) → P z → Each P l → P (or_none z (slice_get l n))
unfolding or_none
each_or P z [] n p h = p
each_or P z (x ∷ l) zero p h = h.0
each_or P z (x ∷ l) (suc n) p h = each_or P z l n p h.1

each_set : {A : Type 0} (P : A → Type 0) (l : List A) (n : ℕ) (x : A) → Each P l → P x → Each P (slice_set l n x)
each_set P [] n x h p = tt
each_set P (y ∷ l) zero x h p = (p, h.1)
each_set P (y ∷ l) (suc n) x h p = (h.0, each_set P l n x h.1 p)

-- what is asked names places
abbrev pub NameChoices : List Placed → List Choice → Type 0
NameChoices l cs = Each (λ c. NameAtoms l c.atoms) cs

abbrev pub NameAsked : List Placed → Asked → Type 0
NameAsked l asks_nothing = Unit {0}
NameAsked l (one_of cs) = NameChoices l cs
NameAsked l (term k) = Unit {0}

-- ---- the places themselves

module _ (params : List Cell) (layouts : ℕ → List Cell) where
  fits_later : (l m : List Placed) (q : Place) (h : CellTy) → FitsCell params layouts l q h → FitsCell params layouts (l ++ m) q h
  fits_later l m (arg i) h k = k
  fits_later l m (field q c) h k = (k.0, pointer_later l m q k.0 k.1, k.2)
  fits_later l m (stream i) h k = k

  places_push : (l : List Placed) (p : Placed) → ArePlaces params layouts l → ParentBelow (length l) p.place → FitsCell params layouts l p.place p.holds → ArePlaces params layouts (l ++ p ∷ [])
  places_push l p h b f = record {
    parents = record {
      below = λ id q e. elim (get_more l p q id e) [
        | inl g ↦ (h.parents).below id q g
        | inr g ↦ subst (λ (n : ℕ). ParentBelow n q.place) (sym g.0) (subst (λ (r : Placed). ParentBelow (length l) r.place) g.1 b)
      ];
    };
    fits = λ id q e. elim (get_more l p q id e) [
      | inl g ↦ fits_later l (p ∷ []) q.place q.holds (h.fits id q g)
      | inr g ↦ subst (λ (r : Placed). FitsCell params layouts (l ++ p ∷ []) r.place r.holds) g.1 (fits_later l (p ∷ []) p.place p.holds f)
    ];
  }

  pointer_below : (l : List Placed) (p t : ℕ) → IsPointerTo l p t → p < length l
  pointer_below l p t h = get_below l p _ h.1
    where
      get_below : (m : List Placed) (n : ℕ) (x : Placed) → slice_get m n ≡ Some x → n < length m
      get_below [] n x e = absurd (cc e)
      get_below (y ∷ m) zero x e = omega arith
      get_below (y ∷ m) (suc n) x e = let h = get_below m n x e in omega (arith, h)

  none_yet : ArePlaces params layouts []
  none_yet = record { parents = record { below = λ id p e. absurd (cc e) }; fits = λ id p e. absurd (cc e) }

  module _ (f : Forms) (laws : Laws f) where
    names_of : (l : List Placed) (n : ℕ) (q : Place) → slice_get l n ≡ Some (record { place = q; holds = cell.Int }) → NamesForm l (f.of n)
    names_of l n q e p i = only p (subst (λ (m : List ℕ). In p m) (laws.of_places n) i)
      where
        only : (p : ℕ) → In p (n ∷ []) → IsNumberAt l p
        only p (inl h) = subst (λ (m : ℕ). IsNumberAt l m) (sym h) (q, e)
        only p (inr h) = absurd h

    number_names : (l : List Placed) (z : ℤ) → NamesForm l (f.number z)
    number_names l z p i = absurd (subst (λ (g : Form). In p (places_of_form g)) (laws.number z) i)

    -- ---- the cells of a block, or the parameters' cells, one after another

    get_mid : (l m : List Placed) (x : Placed) → slice_get (l ++ x ∷ m) (length l) ≡ Some x
    get_mid [] m x = refl
    get_mid (y ∷ l) m x = get_mid l m x

    module _ (of : ℕ → Place) (whole : List Cell) (Has : List Placed → Type 0) (more : (l : List Placed) (x : Placed) → Has l → Has (l ++ x ∷ []))
        (fits : (l : List Placed) (c : ℕ) (k : Cell) → slice_get whole c ≡ Some k → Has l → ParentBelow (length l) (of c) × FitsCell params layouts l (of c) (cell_ty k)) where
      abbrev Rest : ℕ → List Cell → Type 0
      Rest c cs = (j : ℕ) (k : Cell) → slice_get cs j ≡ Some k → slice_get whole (c + j) ≡ Some k

      rest_next : (c : ℕ) (k : Cell) (cs : List Cell) → Rest c (k ∷ cs) → Rest (suc c) cs
      rest_next c k cs h j x e = ap (slice_get whole) (let n : suc c + j ≡ c + suc j = omega arith in n) ∙ h (suc j) x e

      rest_first : (c : ℕ) (k : Cell) (cs : List Cell) → Rest c (k ∷ cs) → slice_get whole c ≡ Some k
      rest_first c k cs h = ap (slice_get whole) (let n : c ≡ c + 0 = omega arith in n) ∙ h 0 k refl

      abbrev one : ℕ → Cell → Placed
      one c k = record { place = of c; holds = cell_ty k }

      abbrev placed : ℕ → List Cell → List Placed
      placed c [] = []
      placed c (k ∷ cs) = one c k ∷ placed (suc c) cs

      grow : (c : ℕ) (cs : List Cell) (l : List Placed) → Rest c cs → Has l → ArePlaces params layouts l → ArePlaces params layouts (l ++ placed c cs)
      grow c [] l r h a = subst (λ (m : List Placed). ArePlaces params layouts m) (sym (append-nil l)) a
      grow c (k ∷ cs) l r h a =
          let g = fits l c k (rest_first c k cs r) h in
          subst (λ (m : List Placed). ArePlaces params layouts m) (append_assoc l (one c k ∷ []) (placed (suc c) cs))
          (grow (suc c) cs (l ++ one c k ∷ []) (rest_next c k cs r) (more l (one c k) h) (places_push l (one c k) a g.0 g.1))

      longer : (l : List Placed) (x : Placed) → length (l ++ x ∷ []) ≡ suc (length l)
      longer l x = let e = length-append l (x ∷ []) in omega (arith, e)

      good_cells : (c : ℕ) (cs : List Cell) (l : List Placed) → AllGood (l ++ placed c cs) (on.cell_shadows f (length l) cs)
      unfolding on.cell_shadows cell_ty
      good_cells c [] l = tt
      good_cells c (int_cell ∷ cs) l =
          let x : Placed = record { place = of c; holds = cell.Int } in (
            names_of (l ++ x ∷ placed (suc c) cs) (length l) (of c) (get_mid l (placed (suc c) cs) x),
            subst (λ (n : ℕ). AllGood (l ++ x ∷ placed (suc c) cs) (on.cell_shadows f n cs)) (longer l x)
                (subst (λ (m : List Placed). AllGood m (on.cell_shadows f (length (l ++ x ∷ [])) cs)) (append_assoc l (x ∷ []) (placed (suc c) cs)) (good_cells (suc c) cs (l ++ x ∷ []))),
          )
      good_cells c (ptr_cell t ∷ cs) l =
          let x : Placed = record { place = of c; holds = cell.Ptr (record { 0 = t }) } in (
            (of c, get_mid l (placed (suc c) cs) x),
            subst (λ (n : ℕ). AllGood (l ++ x ∷ placed (suc c) cs) (on.cell_shadows f n cs)) (longer l x)
                (subst (λ (m : List Placed). AllGood m (on.cell_shadows f (length (l ++ x ∷ [])) cs)) (append_assoc l (x ∷ []) (placed (suc c) cs)) (good_cells (suc c) cs (l ++ x ∷ []))),
          )

    -- ---- what operations on numbers give

    names_same : (l : List Placed) (a b : Form) → places_of_form b ≡ places_of_form a → NamesForm l a → NamesForm l b
    names_same l a b e h p i = h p (subst (λ (m : List ℕ). In p m) e i)

    names_either : (l : List Placed) (a b c : Form) → ((p : ℕ) → In p (places_of_form c) → In p (places_of_form a) ⊎ In p (places_of_form b)) → NamesForm l a → NamesForm l b → NamesForm l c
    names_either l a b c e h g p i = elim (e p i) [ inl j ↦ h p j | inr j ↦ g p j ]

    shift_names : (l : List Placed) (a : Form) (z : ℤ) → NamesForm l a → NamesForm l (f.shift a z)
    shift_names l a z h = names_same l a (f.shift a z) (laws.shift_places a z) h

    opposite_names : (l : List Placed) (a : Form) → NamesForm l a → NamesForm l (f.opposite a)
    opposite_names l a h = names_same l a (f.opposite a) (laws.opposite_places a) h

    abbrev GoodFormed : List Placed → Formed → Type 0
    GoodFormed l (formed g) = NamesForm l g
    GoodFormed l plain_number = Unit {0}
    GoodFormed l (termed k) = Unit {0}

    wide_good : (l : List Placed) (o : Option Form) → ((g : Form) → o ≡ Some g → NamesForm l g) → GoodFormed l (on.or_wide o)
    unfolding on.or_wide
    wide_good l None h = tt
    wide_good l (Some g) h = h g refl

    scale_good : (l : List Placed) (z : ℤ) (a : Form) → NamesForm l a → GoodFormed l (on.or_wide (f.scale z a))
    scale_good l z a h = wide_good l (f.scale z a) (λ g e p i. h p (laws.scale_places z a g e p i))

    product_good : (l : List Placed) (c d : Bool) (a b : Form) → NamesForm l a → NamesForm l b → GoodFormed l (on.product_of f c d a b)
    unfolding on.product_of
    product_good l true true a b h g = tt
    product_good l true false a b h g = scale_good l b.constant a h
    product_good l false d a b h g = scale_good l a.constant b g

    result_good : (l : List Placed) (o : Op) (a b : Form) → NamesForm l a → NamesForm l b → GoodFormed l (on.result_of f o a b)
    unfolding on.result_of
    result_good l tree.add a b h g = wide_good l (f.sum a b) (λ c e. names_either l a b c (laws.sum_places a b c e) h g)
    result_good l tree.sub a b h g = wide_good l (f.difference a b) (λ c e. names_either l a b c (laws.difference_places a b c e) h g)
    result_good l tree.mul a b h g = product_good l (on.depends a) (on.depends b) a b h g
    result_good l tree.quot a b h g = tt
    result_good l tree.rem a b h g = tt

    either_formed : (l : List Placed) (b : Bool) (q : Formed) → GoodFormed l q → GoodFormed l (if b then q else plain_number)
    either_formed l true q h = h
    either_formed l false q h = tt

    formed_good : (l : List Placed) (o : Op) (a b : Form) → NamesForm l a → NamesForm l b → GoodFormed l (on.formed_of f o a b)
    unfolding on.formed_of
    formed_good l o a b h g = either_formed l (on.depends a || on.depends b) (on.result_of f o a b) (result_good l o a b h g)

    negated_good : (l : List Placed) (a : Form) → NamesForm l a → GoodFormed l (on.negated_of f a)
    unfolding on.negated_of
    negated_good l a h = either_formed l (on.depends a) (on.or_wide (f.scale (negsuc 0) a)) (scale_good l (negsuc 0) a h)

    shadow_good : (l : List Placed) (q : Formed) (v : Value) → GoodFormed l q → Good l (on.shadow_of f q v)
    unfolding on.shadow_of
    shadow_good l (formed g) v h = h
    shadow_good l plain_number v h = number_names l _
    shadow_good l (termed k) v h = number_names l _

    form_good : (l : List Placed) (s : Shadow) → Good l s → NamesForm l (on.form_of f s)
    unfolding on.form_of
    form_good l (form g) h = h
    form_good l (place p t) h = number_names l (pos 0)
    form_good l none h = number_names l (pos 0)

    -- ---- what events ask

    either_asked : (l : List Placed) (b : Bool) (q r : Asked) → NameAsked l q → NameAsked l r → NameAsked l (if b then q else r)
    either_asked l true q r h g = h
    either_asked l false q r h g = g

    fit_named : (l : List Placed) (q : Formed) → GoodFormed l q → NameAsked l (on.fit_asked f q)
    unfolding on.fit_asked on.fit_choices
    fit_named l plain_number h = tt
    fit_named l (formed g) h = (
      (shift_names l (f.opposite g) _ (opposite_names l g h), tt),
      ((shift_names l g _ h, tt), ((shift_names l g _ h, (shift_names l (f.opposite g) _ (opposite_names l g h), tt)), tt)),
    )
    fit_named l (termed k) h = tt

    two_named : (l : List Placed) (t e : Atom) → NamesAtom l t → NamesAtom l e → NameChoices l (on.two_choices t e)
    unfolding on.two_choices
    two_named l t e h g = ((g, tt), ((h, tt), tt))

    compare_named : (l : List Placed) (o : Cmp) (b : Bool) (g : Form) → NamesForm l g → NamesAtom l (on.compare_atom f o b g)
    unfolding on.compare_atom
    compare_named l tree.eq true g h = h
    compare_named l tree.eq false g h = h
    compare_named l tree.ne true g h = h
    compare_named l tree.ne false g h = h
    compare_named l tree.lt true g h = shift_names l g (pos 1) h
    compare_named l tree.lt false g h = opposite_names l g h
    compare_named l tree.gt true g h = shift_names l (f.opposite g) (pos 1) (opposite_names l g h)
    compare_named l tree.gt false g h = h
    compare_named l tree.le true g h = h
    compare_named l tree.le false g h = shift_names l (f.opposite g) (pos 1) (opposite_names l g h)
    compare_named l tree.ge true g h = opposite_names l g h
    compare_named l tree.ge false g h = shift_names l g (pos 1) h

    difference_named : (l : List Placed) (o : Cmp) (q : Option Form) → ((g : Form) → q ≡ Some g → NamesForm l g) → NameAsked l (on.difference_asked f o q)
    unfolding on.difference_asked
    difference_named l o None h = tt
    difference_named l o (Some g) h = two_named l _ _ (compare_named l o true g (h g refl)) (compare_named l o false g (h g refl))

    numbers_named : (l : List Placed) (o : Cmp) (a b : Form) → NamesForm l a → NamesForm l b → NameAsked l (on.numbers_asked f o a b)
    unfolding on.numbers_asked
    numbers_named l o a b h g = either_asked l (on.depends a || on.depends b) (on.difference_asked f o (f.difference a b)) asks_nothing
        (difference_named l o (f.difference a b) (λ c e. names_either l a b c (laws.difference_places a b c e) h g)) tt

    same_named : (l : List Placed) (o : Cmp) (a b : Side) → NamesAtom l (same a b) → NameChoices l (on.same_choices o a b)
    unfolding on.same_choices
    same_named l tree.ne a b h = two_named l (differ a b) (same a b) h h
    same_named l _ a b h = two_named l (same a b) (differ a b) h h

    -- a side of a pointer to this type, or NULL
    abbrev NamesTo : List Placed → ℕ → Side → Type 0
    NamesTo l t nothing = Unit {0}
    NamesTo l t (asked.at p) = IsPointerTo l p t

    both_to : (l : List Placed) (t : ℕ) (a b : Side) → NamesTo l t a → NamesTo l t b → NamesAtom l (same a b)
    both_to l t nothing nothing h g = (tt, tt, tt)
    both_to l t (asked.at p) nothing h g = (points_at l p t h, tt, tt)
    both_to l t nothing (asked.at q) h g = (tt, points_at l q t g, tt)
    both_to l t (asked.at p) (asked.at q) h g = (points_at l p t h, points_at l q t g, one_type l p q t h g)

    abbrev IfSide : List Placed → ℕ → Option Side → Type 0
    IfSide l t None = Unit {0}
    IfSide l t (Some a) = NamesTo l t a

    sides_named : (l : List Placed) (t : ℕ) (o : Cmp) (a b : Option Side) → IfSide l t a → IfSide l t b → NameAsked l (on.sides_asked o a b)
    unfolding on.sides_asked
    sides_named l t o (Some a) (Some b) h g = either_asked l (on.same_side a b) asks_nothing (one_of (on.same_choices o a b)) tt (same_named l o a b (both_to l t a b h g))
    sides_named l t o None b h g = tt
    sides_named l t o (Some a) None h g = tt

    if_side : (l : List Placed) (t : ℕ) (b : Bool) (a : Side) → (b ≡ true → NamesTo l t a) → IfSide l t (if b then Some a else None)
    if_side l t true a h = h refl
    if_side l t false a h = tt

    first_named : (l : List Placed) (t : ℕ) (bs : List Touched) (r : ℕ) → Each (GoodTouched l) bs → IfSide l t (on.first_if t (slice_get bs r))
    unfolding on.first_if
    first_named l t [] r h = tt
    first_named l t (b ∷ bs) zero h = if_side l t (nat_eq b.type t) (asked.at b.first) (λ e. subst (λ (u : ℕ). IsPointerTo l b.first u) (eqb-true b.type t e) (h.0).0)
    first_named l t (b ∷ bs) (suc r) h = first_named l t bs r h.1

    side_at_named : (l : List Placed) (t : ℕ) (s : Spot) (bs : List Touched) → Each (GoodTouched l) bs → IfSide l t (on.side_at t s bs)
    unfolding on.side_at
    side_at_named l t (in_touched r zero) bs h = first_named l t bs r h
    side_at_named l t (in_touched r (suc c)) bs h = tt
    side_at_named l t (in_made n c) bs h = tt
    side_at_named l t nowhere bs h = tt

    without_named : (l : List Placed) (t : ℕ) (v : Value) (touched : List ℕ) (bs : List Touched) → Each (GoodTouched l) bs → IfSide l t (on.side_without t v touched bs)
    unfolding on.side_without
    without_named l t null touched bs h = tt
    without_named l t (num z) touched bs h = side_at_named l t _ bs h
    without_named l t (at o c) touched bs h = side_at_named l t _ bs h

    places_named : (l : List Placed) (o : Cmp) (p t q u : ℕ) → IsPointerTo l p t → IsPointerTo l q u → NameAsked l (on.places_asked o p t q u)
    unfolding on.places_asked
    places_named l o p t q u h g = if_asked (nat_eq t u) refl
      where
        if_asked : (b : Bool) → nat_eq t u ≡ b → NameAsked l (if b then on.sides_asked o (Some (asked.at p)) (Some (asked.at q)) else term kind.Wide)
        if_asked true e = sides_named l t o _ _ h (subst (λ (x : ℕ). IsPointerTo l q x) (sym (eqb-true t u e)) g)
        if_asked false e = tt

    pointers_named : (l : List Placed) (o : Cmp) (x : Value) (s : Shadow) (y : Value) (u : Shadow) (touched : List ℕ) (bs : List Touched) → Good l s → Good l u → Each (GoodTouched l) bs
        → NameAsked l (on.pointers_asked o (record { plain = x; shadow = s }) (record { plain = y; shadow = u }) touched bs)
    unfolding on.pointers_asked
    pointers_named l o x (place p t) y (place q u) touched bs h g k = places_named l o p t q u h g
    pointers_named l o x (place p t) y (form g) touched bs h i k = sides_named l t o _ _ h (without_named l t y touched bs k)
    pointers_named l o x (place p t) y none touched bs h i k = sides_named l t o _ _ h (without_named l t y touched bs k)
    pointers_named l o x (form g) y (place q u) touched bs h i k = sides_named l u o _ _ (without_named l u x touched bs k) i
    pointers_named l o x none y (place q u) touched bs h i k = sides_named l u o _ _ (without_named l u x touched bs k) i
    pointers_named l o x (form g) y (form h) touched bs i j k = tt
    pointers_named l o x (form g) y none touched bs i j k = tt
    pointers_named l o x none y (form h) touched bs i j k = tt
    pointers_named l o x none y none touched bs i j k = tt

    asks_compare : (l : List Placed) (o : Cmp) (x : Value) (s : Shadow) (y : Value) (u : Shadow) (d : Data) → Good l s → Good l u → Each (GoodTouched l) (d.shadows).touched
        → NameAsked l (on.compare_asked f o (record { plain = x; shadow = s }) (record { plain = y; shadow = u }) d)
    unfolding on.compare_asked
    asks_compare l o x (form g) y (form h) d i j k = numbers_named l o g h i j
    asks_compare l o x (form g) y (place q u) d i j k = tt
    asks_compare l o x (form g) y none d i j k = tt
    asks_compare l o x (place p t) y (form h) d i j k = tt
    asks_compare l o x none y (form h) d i j k = tt
    asks_compare l o x (place p t) y (place q u) d i j k = pointers_named l o x (place p t) y (place q u) (d.plain).touched (d.shadows).touched i j k
    asks_compare l o x (place p t) y none d i j k = pointers_named l o x (place p t) y none (d.plain).touched (d.shadows).touched i j k
    asks_compare l o x none y (place q u) d i j k = pointers_named l o x none y (place q u) (d.plain).touched (d.shadows).touched i j k
    asks_compare l o x none y none d i j k = pointers_named l o x none y none (d.plain).touched (d.shadows).touched i j k

    asks_test : (l : List Placed) (s : Shadow) → Good l s → NameAsked l (on.test_asked f s)
    unfolding on.test_asked
    asks_test l (form g) h = either_asked l (on.depends g) (one_of (on.two_choices (not_zero g) (is_zero g))) asks_nothing (two_named l (not_zero g) (is_zero g) h h) tt
    asks_test l (place p t) h = two_named l (differ (asked.at p) nothing) (same (asked.at p) nothing) (points_at l p t h, tt, tt) (points_at l p t h, tt, tt)
    asks_test l none h = tt

    letter_named : (l : List Placed) (b : Bool) (c : Choice) (cs : List Choice) → (b ≡ true → NameAtoms l c.atoms) → NameChoices l cs → NameChoices l (if b then c ∷ cs else cs)
    letter_named l true c cs h g = (h refl, g)
    letter_named l false c cs h g = g

    -- the first place of a block of this type
    first_to : (l : List Placed) (t : ℕ) (b : Touched) → IsPointerTo l b.first b.type → nat_eq t b.type ≡ true → IsPointerTo l b.first t
    first_to l t b h e = subst (λ (u : ℕ). IsPointerTo l b.first u) (sym (eqb-true t b.type e)) h

    letters_named : (l : List Placed) (p t n : ℕ) (bs : List Touched) → IsPointerTo l p t → Each (GoodTouched l) bs → NameChoices l (on.letters p t n bs)
    unfolding on.letters
    letters_named l p t n [] h g = tt
    letters_named l p t n (b ∷ bs) h g = letter_named l (nat_eq t b.type) _ (on.letters p t (suc n) bs) (λ e. (both_to l t (asked.at p) (asked.at b.first) h (first_to l t b (g.0).0 e), tt)) (letters_named l p t (suc n) bs h g.1)

    one_differs : (l : List Placed) (b : Bool) (a : Atom) (m : List Atom) → (b ≡ true → NamesAtom l a) → NameAtoms l m → NameAtoms l (if b then a ∷ m else m)
    one_differs l true a m h g = (h refl, g)
    one_differs l false a m h g = g

    differs_named : (l : List Placed) (p t : ℕ) (bs : List Touched) → IsPointerTo l p t → Each (GoodTouched l) bs → NameAtoms l (on.differs p t bs)
    unfolding on.differs
    differs_named l p t [] h g = tt
    differs_named l p t (b ∷ bs) h g = one_differs l (nat_eq t b.type) _ (on.differs p t bs) (λ e. both_to l t (asked.at p) (asked.at b.first) h (first_to l t b (g.0).0 e)) (differs_named l p t bs h g.1)

    asks_access : (l : List Placed) (s : Shadow) (bs : List Touched) → Good l s → Each (GoodTouched l) bs → NameAsked l (on.access_asked s bs)
    unfolding on.access_asked on.access_choices
    asks_access l (place p t) bs h g = either_asked l (on.is_first p bs) asks_nothing (one_of (on.access_choices p t bs)) tt
        (((points_at l p t h, tt, tt), tt), each_end (λ c. NameAtoms l c.atoms) (on.letters p t 0 bs) _ (letters_named l p t 0 bs h g) ((points_at l p t h, tt, tt), differs_named l p t bs h g))
    asks_access l (form g) bs h k = tt
    asks_access l none bs h k = tt

    asks_all : (l : List Placed) (a : Act Traced) (d : Data) → OfAll (λ v. Good l v.shadow) a → Each (GoodTouched l) (d.shadows).touched → NameAsked l (on.asked_of f a d)
    unfolding on.asked_of on.divisor_asked on.index_asked
    asks_all l (act_arith o a b) d h g = fit_named l _ (formed_good l o _ _ (form_good l a.shadow h.0) (form_good l b.shadow h.1))
    asks_all l (act_divisor a b) d h g = either_asked l (on.depends (on.form_of f a.shadow) || on.depends (on.form_of f b.shadow)) (term _) asks_nothing tt tt
    asks_all l (act_negate a) d h g = fit_named l _ (negated_good l _ (form_good l a.shadow h))
    asks_all l (act_compare o a b) d h g = asks_compare l o a.plain a.shadow b.plain b.shadow d h.0 h.1 g
    asks_all l (act_test a) d h g = asks_test l a.shadow h
    asks_all l (act_access a) d h g = asks_access l a.shadow (d.shadows).touched h g
    asks_all l (act_index p i n w) d h g = either_asked l (on.depends (on.form_of f i.shadow)) (term _) asks_nothing tt tt

    -- ---- memory

    pub record GoodShadows (l : List Placed) (s : Shadows) : Type 0 where
      pub made : Each (AllGood l) s.made
      pub touched : Each (GoodTouched l) s.touched

    shadows_later : (l m : List Placed) (s : Shadows) → GoodShadows l s → GoodShadows (l ++ m) s
    shadows_later l m s h = record { made = made_later l m s.made h.made; touched = each_later l m s.touched h.touched }

    touched_good : (l : List Placed) (bs : List Touched) (r : ℕ) → Each (GoodTouched l) bs → AllGood l (on.touched_shadows (slice_get bs r))
    unfolding on.touched_shadows
    touched_good l [] r h = tt
    touched_good l (b ∷ bs) zero h = (h.0).1
    touched_good l (b ∷ bs) (suc r) h = touched_good l bs r h.1

    read_good : (l : List Placed) (q : Spot) (s : Shadows) → GoodShadows l s → Good l (on.shadow_at q s)
    unfolding on.shadow_at
    read_good l (in_made n c) s h = each_or (Good l) none (or_none [] (slice_get s.made n)) c tt (each_or (AllGood l) [] s.made n tt h.made)
    read_good l (in_touched r c) s h = each_or (Good l) none (on.touched_shadows (slice_get s.touched r)) c tt (touched_good l s.touched r h.touched)
    read_good l nowhere s h = tt

    set_good : (l : List Placed) (bs : List Touched) (r c : ℕ) (v : Shadow) → Good l v → Each (GoodTouched l) bs → Each (GoodTouched l) (on.set_touched bs r c v)
    unfolding on.set_touched
    set_good l [] r c v g h = tt
    set_good l (b ∷ bs) zero c v g h = (((h.0).0, each_set (Good l) b.shadows c v (h.0).1 g), h.1)
    set_good l (b ∷ bs) (suc r) c v g h = (h.0, set_good l bs r c v g h.1)

    write_good : (l : List Placed) (q : Spot) (v : Shadow) (s : Shadows) → Good l v → GoodShadows l s → GoodShadows l (on.with_shadow q v s)
    unfolding on.with_shadow
    write_good l (in_made n c) v s g h = record { made = each_set (AllGood l) s.made n _ h.made (each_set (Good l) (or_none [] (slice_get s.made n)) c v (each_or (AllGood l) [] s.made n tt h.made) g); touched = h.touched }
    write_good l (in_touched r c) v s g h = record { made = h.made; touched = set_good l s.touched r c v g h.touched }
    write_good l nowhere v s g h = h

    write_places : (q : Spot) (v : Shadow) (s : Shadows) → (on.with_shadow q v s).places ≡ s.places
    unfolding on.with_shadow
    write_places (in_made n c) v s = refl
    write_places (in_touched r c) v s = refl
    write_places nowhere v s = refl

    -- ---- the places and what stands beside the cells, together

    pub record IsPlaced (s : Shadows) : Type 0 where
      pub places : ArePlaces params layouts s.places
      pub cells : GoodShadows s.places s

    pub record Grown (s s' : Shadows) : Type 0 where
      pub more : List Placed
      pub is : s'.places ≡ s.places ++ more
      pub placed : IsPlaced s'

    good_grown : (s s' : Shadows) (v : Shadow) → Grown s s' → Good s.places v → Good s'.places v
    good_grown s s' v g h = subst (λ (l : List Placed). Good l v) (sym g.is) (good_later s.places g.more v h)

    same_grown : (s : Shadows) → IsPlaced s → Grown s s
    same_grown s h = record { more = []; is = sym (append-nil s.places); placed = h }

    written : (q : Spot) (v : Shadow) (s : Shadows) → Good s.places v → IsPlaced s → IsPlaced (on.with_shadow q v s)
    written q v s g h = record {
      places = subst (λ (l : List Placed). ArePlaces params layouts l) (sym (write_places q v s)) h.places;
      cells = subst (λ (l : List Placed). GoodShadows l (on.with_shadow q v s)) (sym (write_places q v s)) (write_good s.places q v s g h.cells);
    }

    pub load_good : (p : Traced) (d : Data) → IsPlaced d.shadows → Good (d.shadows).places (on.load p d).shadow
    unfolding on.load
    load_good p d h = read_good (d.shadows).places _ d.shadows h.cells

    pub store_grown : (p v : Traced) (d : Data) → Good (d.shadows).places v.shadow → IsPlaced d.shadows → Grown d.shadows (on.store p v d).shadows
    unfolding on.store
    store_grown p v d g h = record { more = []; is = write_places _ v.shadow d.shadows ∙ sym (append-nil (d.shadows).places); placed = written _ v.shadow d.shadows g h }

    pub take_grown : (p : Traced) (d : Data) → IsPlaced d.shadows → Grown d.shadows (on.take f p d).shadows
    unfolding on.take
    take_grown p d h =
        let l : List Placed = (d.shadows).places in
        let x : Placed = record { place = stream (d.plain).count; holds = cell.Int } in
        let s : Shadows = record d.shadows { places = l ++ x ∷ [] } in
        record {
          more = x ∷ [];
          is = write_places (spot_of p.plain (d.plain).touched) (form (f.of (length l))) s;
          placed = written (spot_of p.plain (d.plain).touched) (form (f.of (length l))) s (names_of (l ++ x ∷ []) (length l) (stream (d.plain).count) (get_end l x))
              (record { places = places_push l x h.places tt refl; cells = made_of (shadows_later l (x ∷ []) d.shadows h.cells) });
        }
      where
        made_of : {l : List Placed} → GoodShadows l d.shadows → GoodShadows l (record d.shadows { places = l })
        made_of g = record { made = g.made; touched = g.touched }

    zero_good : (l : List Placed) (cs : List Cell) → AllGood l (map (on.zero_shadow f) cs)
    unfolding on.zero_shadow
    zero_good l [] = tt
    zero_good l (int_cell ∷ cs) = (number_names l (pos 0), zero_good l cs)
    zero_good l (ptr_cell t ∷ cs) = (tt, zero_good l cs)

    pub make_grown : (t : Layout) (d : Data) → IsPlaced d.shadows → Grown d.shadows ((on.make f t d).after).shadows
    unfolding on.make
    make_grown t d h = record {
      more = [];
      is = sym (append-nil (d.shadows).places);
      placed = record {
        places = h.places;
        cells = record { made = each_end (AllGood (d.shadows).places) (d.shadows).made _ (h.cells).made (zero_good (d.shadows).places t.cells); touched = (h.cells).touched };
      };
    }

    pub make_good : (t : Layout) (d : Data) (l : List Placed) → Good l ((on.make f t d).value).shadow
    unfolding on.make
    make_good t d l = tt

    -- ---- a block is touched

    field_fits : (p t : ℕ) (l : List Placed) (c : ℕ) (k : Cell) → slice_get (layouts t) c ≡ Some k → IsPointerTo l p t → ParentBelow (length l) (field p c) × FitsCell params layouts l (field p c) (cell_ty k)
    field_fits p t l c k e h = (pointer_below l p t h, (t, h, get_map cell_ty (layouts t) c k e))

    fields_are : (p t c : ℕ) (cs : List Cell) → on.field_places p c cs ≡ placed (field p) (layouts t) (λ l. IsPointerTo l p t) (λ l x h. pointer_later l (x ∷ []) p t h) (field_fits p t) c cs
    unfolding on.field_places
    fields_are p t c [] = refl
    fields_are p t c (k ∷ cs) = ap (λ (l : List Placed). (let x : Placed = record { place = field p c; holds = cell_ty k } in x) ∷ l) (fields_are p t (suc c) cs)

    touch_grown : (p t : ℕ) (s : Shadows) → IsPointerTo s.places p t → IsPlaced s → Grown s (on.touch f layouts p t s)
    unfolding on.touch
    touch_grown p t s g h =
        let l : List Placed = s.places in
        let m : List Placed = on.field_places p 0 (layouts t) in
        let e = fields_are p t 0 (layouts t) in
        record {
          more = m;
          is = refl;
          placed = record {
            places = subst (λ (n : List Placed). ArePlaces params layouts (l ++ n)) (sym e)
                (grow (field p) (layouts t) (λ l. IsPointerTo l p t) (λ l x h. pointer_later l (x ∷ []) p t h) (field_fits p t) 0 (layouts t) l (λ j k e. ap (slice_get (layouts t)) (let z : 0 + j ≡ j = omega arith in z) ∙ e) g h.places);
            cells = record {
              made = made_later l m s.made (h.cells).made;
              touched = each_end (GoodTouched (l ++ m)) s.touched _ (each_later l m s.touched (h.cells).touched) (
                pointer_later l m p t g,
                subst (λ (n : List Placed). AllGood (l ++ n) (on.cell_shadows f (length l) (layouts t))) (sym e)
                    (good_cells (field p) (layouts t) (λ l. IsPointerTo l p t) (λ l x h. pointer_later l (x ∷ []) p t h) (field_fits p t) 0 (layouts t) l),
              );
            };
          };
        }

    either_grown : (b : Bool) (s x y : Shadows) → Grown s x → Grown s y → Grown s (if b then x else y)
    either_grown true s x y h g = h
    either_grown false s x y h g = g

    by_grown : (o : Outcome) (v : Shadow) (s : Shadows) → Good s.places v → IsPlaced s → Grown s (on.touch_by f layouts o v s)
    unfolding on.touch_by
    by_grown (Object n) (place p t) s g h = either_grown (nat_lt n (length s.touched)) s s (on.touch f layouts p t s) (same_grown s h) (touch_grown p t s g h)
    by_grown (Object n) (form a) s g h = same_grown s h
    by_grown (Object n) none s g h = same_grown s h
    by_grown Zero v s g h = same_grown s h
    by_grown High v s g h = same_grown s h
    by_grown Low v s g h = same_grown s h
    by_grown Plain v s g h = same_grown s h
    by_grown False v s g h = same_grown s h
    by_grown True v s g h = same_grown s h

    -- ---- what an operation gives

    abbrev GoodValue : Shadows → Traced → Type 0
    GoodValue s v = Good s.places v.shadow

    after_grown : (a : Act Traced) (o : Outcome) (s : Shadows) → OfAll (GoodValue s) a → IsPlaced s → Grown s (on.after_shadows f layouts a o s)
    unfolding on.after_shadows
    after_grown (act_access a) o s g h = by_grown o a.shadow s g h
    after_grown (act_arith o a b) t s g h = same_grown s h
    after_grown (act_divisor a b) t s g h = same_grown s h
    after_grown (act_negate a) t s g h = same_grown s h
    after_grown (act_compare o a b) t s g h = same_grown s h
    after_grown (act_test a) t s g h = same_grown s h
    after_grown (act_index p i n w) t s g h = same_grown s h

    first_good : (l : List Placed) (bs : List Touched) (n : ℕ) (v : Shadow) → Each (GoodTouched l) bs → Good l v → Good l (on.first_of (slice_get bs n) v)
    unfolding on.first_of
    first_good l [] n v h g = g
    first_good l (b ∷ bs) zero (place p t) h g = (h.0).0
    first_good l (b ∷ bs) zero (form a) h g = g
    first_good l (b ∷ bs) zero none h g = g
    first_good l (b ∷ bs) (suc n) v h g = first_good l bs n v h.1 g

    reached_good : (l : List Placed) (o : Outcome) (v : Shadow) (bs : List Touched) → Each (GoodTouched l) bs → Good l v → Good l (on.reached_shadow o v bs)
    unfolding on.reached_shadow
    reached_good l (Object n) v bs h g = first_good l bs n v h g
    reached_good l Zero v bs h g = g
    reached_good l High v bs h g = g
    reached_good l Low v bs h g = g
    reached_good l Plain v bs h g = g
    reached_good l False v bs h g = g
    reached_good l True v bs h g = g

    value_good : (a : Act Traced) (o : Outcome) (v : Value) (s s' : Shadows) → Grown s s' → OfAll (GoodValue s) a → Good s'.places (on.value_shadow f layouts a o v s')
    unfolding on.value_shadow
    value_good (act_arith o a b) t v s s' g h = good_grown s s' (on.shadow_of f (on.formed_of f o (on.form_of f a.shadow) (on.form_of f b.shadow)) v) g
        (shadow_good s.places (on.formed_of f o (on.form_of f a.shadow) (on.form_of f b.shadow)) v (formed_good s.places o (on.form_of f a.shadow) (on.form_of f b.shadow) (form_good s.places a.shadow h.0) (form_good s.places b.shadow h.1)))
    value_good (act_negate a) t v s s' g h = good_grown s s' (on.shadow_of f (on.negated_of f (on.form_of f a.shadow)) v) g
        (shadow_good s.places (on.negated_of f (on.form_of f a.shadow)) v (negated_good s.places (on.form_of f a.shadow) (form_good s.places a.shadow h)))
    value_good (act_access a) t v s s' g h = reached_good s'.places t a.shadow s'.touched ((g.placed).cells).touched (good_grown s s' a.shadow g h)
    value_good (act_divisor a b) t v s s' g h = tt
    value_good (act_compare o a b) t v s s' g h = tt
    value_good (act_test a) t v s s' g h = tt
    value_good (act_index p i n w) t v s s' g h = tt

    -- an event names the places that stood before it, which the later ones follow
    pub record NamesBefore (s : Shadows) (e : Event) : Type 0 where
      pub more : List Placed
      pub is : s.places ≡ e.places ++ more
      pub named : NameAsked e.places e.asked

    pub act_named : (a : Act Traced) (d : Data) → OfAll (GoodValue d.shadows) a → IsPlaced d.shadows → NamesBefore ((on.act f layouts a d).after).shadows (on.act f layouts a d).event
    unfolding on.act
    act_named a d g h =
        let r = after_grown a (base.act (on.plain_of f layouts a) d.plain).event d.shadows g h in
        record { more = r.more; is = r.is; named = asks_all (d.shadows).places a d g (h.cells).touched }

    pub act_grown : (a : Act Traced) (d : Data) → OfAll (GoodValue d.shadows) a → IsPlaced d.shadows → Grown d.shadows ((on.act f layouts a d).after).shadows
    unfolding on.act
    act_grown a d g h = after_grown a (base.act (on.plain_of f layouts a) d.plain).event d.shadows g h

    pub act_good : (a : Act Traced) (d : Data) → OfAll (GoodValue d.shadows) a → IsPlaced d.shadows → Good (((on.act f layouts a d).after).shadows).places ((on.act f layouts a d).value).shadow
    unfolding on.act
    act_good a d g h = value_good a _ _ d.shadows _ (after_grown a (base.act (on.plain_of f layouts a) d.plain).event d.shadows g h) g

    pub number_good : (l : List Placed) (z : ℤ) → Good l (on.number f z).shadow
    unfolding on.number
    number_good l z = number_names l z

    pub nil_good : (l : List Placed) → Good l on.nil.shadow
    unfolding on.nil
    nil_good l = tt

    pub offset_good : (l : List Placed) (v : Traced) (n : ℕ) → Good l (on.offset v n).shadow
    unfolding on.offset
    offset_good l v n = tt

    abbrev pub Follows : Data → Data → Type 0
    Follows x y = (m : List Placed) × ((y.shadows).places ≡ (x.shadows).places ++ m)

    pub follows_on : (x y z : Data) → Follows x y → Follows y z → Follows x z
    follows_on x y z h g = (h.0 ++ g.0, g.1 ∙ ap (λ (l : List Placed). l ++ g.0) h.1 ∙ append_assoc (x.shadows).places h.0 g.0)

    pub good_follows : (x y : Data) (v : Traced) → Follows x y → Good (x.shadows).places v.shadow → Good (y.shadows).places v.shadow
    good_follows x y v h g = subst (λ (l : List Placed). Good l v.shadow) (sym h.1) (good_later (x.shadows).places h.0 v.shadow g)

    pub event_follows : (x y : Data) (e : Event) → Follows x y → NamesBefore x.shadows e → NamesBefore y.shadows e
    event_follows x y e h g = record { more = g.more ++ h.0; is = h.1 ∙ ap (λ (l : List Placed). l ++ h.0) g.is ∙ append_assoc e.places g.more h.0; named = g.named }

    -- whatever bound there is on blocks
    abbrev pub placed_run : (k : ℕ) → Invariant (traced f layouts) k
    placed_run k = record {
      Ok = λ x. IsPlaced x.shadows;
      Last = λ x. IsPlaced x.shadows;
      Value = λ x v. Good (x.shadows).places v.shadow;
      Ev = λ x e. NamesBefore x.shadows e;
      Le = λ x y. Follows x y;
      le_refl = λ x. ([], sym (append-nil (x.shadows).places));
      le_trans = follows_on;
      later = good_follows;
      later_event = event_follows;
      last = λ x h. h;
      number = λ x z. number_good (x.shadows).places z;
      nil = λ x. nil_good (x.shadows).places;
      offset = λ x v n h. offset_good (x.shadows).places v n;
      global = λ x n. tt;
      load = λ x p h o. load_good p x o;
      store = λ x p v h g o. (let r = store_grown p v x g o in (r.placed, (r.more, r.is)));
      make = λ x t o. ((make_grown t x o).placed, ((make_grown t x o).more, (make_grown t x o).is), make_good t x ((on.make f t x).after).shadows.places);
      take = λ x p h o. (let r = take_grown p x o in (r.placed, (r.more, r.is)));
      act = λ x a h o. (act_named a x h o, (act_grown a x h o).placed, ((act_grown a x h o).more, (act_grown a x h o).is), λ w. ((act_grown a x h o).placed, act_good a x h o));
    }

    -- ---- where a run begins

    arg_fits : (l : List Placed) (c : ℕ) (k : Cell) → slice_get params c ≡ Some k → Unit {0} → ParentBelow (length l) (arg c) × FitsCell params layouts l (arg c) (cell_ty k)
    arg_fits l c k e h = (tt, get_map cell_ty params c k e)

    args_are : (c : ℕ) (cs : List Cell) → on.arg_places c cs ≡ placed arg params (λ l. Unit {0}) (λ l x h. tt) arg_fits c cs
    unfolding on.arg_places
    args_are c [] = refl
    args_are c (k ∷ cs) = ap (λ (l : List Placed). (let x : Placed = record { place = arg c; holds = cell_ty k } in x) ∷ l) (args_are (suc c) cs)

    singles_good : (l : List Placed) (ss : List Shadow) → AllGood l ss → Each (AllGood l) (map (λ s. s ∷ []) ss)
    singles_good l [] h = tt
    singles_good l (s ∷ ss) h = ((h.0, tt), singles_good l ss h.1)

    pub begin_placed : (globals : List Shadow) → AllGood (on.arg_places 0 params) globals
        → IsPlaced (record { made = globals ∷ map (λ s. s ∷ []) (on.cell_shadows f 0 params); touched = []; places = on.arg_places 0 params })
    begin_placed globals g =
        let e = args_are 0 params in record {
          places = subst (λ (l : List Placed). ArePlaces params layouts l) (sym e)
              (grow arg params (λ l. Unit {0}) (λ l x h. tt) arg_fits 0 params [] (λ j k e. ap (slice_get params) (let z : 0 + j ≡ j = omega arith in z) ∙ e) tt none_yet);
          cells = record {
            made = (g, singles_good (on.arg_places 0 params) (on.cell_shadows f 0 params) (subst (λ (l : List Placed). AllGood l (on.cell_shadows f 0 params)) (sym e) (good_cells arg params (λ l. Unit {0}) (λ l x h. tt) arg_fits 0 params [])));
            touched = tt;
          };
        }

    pub start_good : (l : List Placed) (ss : List tree.Start) → AllGood l (map (start_shadow f) ss)
    unfolding start_shadow
    start_good l [] = tt
    start_good l (tree.start_number z ∷ ss) = (number_names l z, start_good l ss)
    start_good l (tree.start_null ∷ ss) = (tt, start_good l ss)

-- ---- of an event, the atoms taken and those of its alternatives

module _ (l : List Placed) where
  pick_atoms : (b : Bool) (m n : List Atom) → NameAtoms l m → NameAtoms l n → NameAtoms l (if b then m else n)
  pick_atoms true m n h g = h
  pick_atoms false m n h g = g

  atoms_named : (o : Outcome) (cs : List Choice) → NameChoices l cs → NameAtoms l (atoms_of o cs)
  unfolding atoms_of
  atoms_named o [] h = tt
  atoms_named o (c ∷ cs) h = pick_atoms (same_outcome c.outcome o) c.atoms (atoms_of o cs) h.0 (atoms_named o cs h.1)

  pick_all : (b : Bool) (m : List Choice) (c : Choice) → NameChoices l m → NameAtoms l c.atoms → NameChoices l (if b then m else c ∷ m)
  pick_all true m c h g = h
  pick_all false m c h g = (g, h)

  without_all : (o : Outcome) (cs : List Choice) → NameChoices l cs → NameChoices l (without o cs)
  unfolding without
  without_all o [] h = tt
  without_all o (c ∷ cs) h = pick_all (same_outcome c.outcome o) (without o cs) c (without_all o cs h.1) h.0

  pub taken_named : (o : Outcome) (q : Asked) (ps : List Placed) → NameAsked l q → NameAtoms l (taken (record { outcome = o; asked = q; places = ps }))
  unfolding taken
  taken_named o asks_nothing ps h = tt
  taken_named o (one_of cs) ps h = atoms_named o cs h
  taken_named o (term k) ps h = tt

  pub others_named : (o : Outcome) (q : Asked) (ps : List Placed) → NameAsked l q → NameChoices l (alternatives (record { outcome = o; asked = q; places = ps }))
  unfolding alternatives
  others_named o asks_nothing ps h = tt
  others_named o (one_of cs) ps h = without_all o cs h
  others_named o (term k) ps h = tt
