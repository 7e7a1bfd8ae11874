-- What is chosen for the first places of a run is an assignment.
use Rattle.std.proofs.Common.{◌≡◌, ◌≢◌, ℕ, ◌<◌, ◌≤◌, ◌⊎◌, inl, inr, ℤ, List, ◌++◌, length, take, Option, Some, None, option_map, unwrap_or, get_or, refl, sym, ap, ◌∙◌, subst, arith, slice_get}
use native.Mathlib.Decide.{ℕ_discrete}
use Rattle.cc_base.specs.declared.cells.CellTy.{CellTy}
use Rattle.cc_base.specs.declared.cells.CellTy.TheVariants as cell
use Rattle.cc_base.specs.declared.cells.TyId.{TyId}
use Rattle.cc_base.specs.declared.inputs.Input.{Input}
use Rattle.cc_base.specs.Classes.{Forced, turned, Mentions, AreClasses}
use Rattle.cc_base.specs.Forms.{Side, nothing, at, Atom, same, differ}
use Rattle.cc_base.specs.Limits.{Limits}
use Rattle.cc_base.specs.Paths.{In}
use Rattle.cc_base.specs.Places.{Placed, field, at_place}
use Rattle.cc_model.specs.Canonical.{Within}
use Rattle.cc_model.specs.Core.{Cell}
use Rattle.sym_expr.specs.declared.places.PlaceId.{PlaceId}
use Rattle.input_map.specs.declared.building.Assignment.{Assignment}
use Rattle.sym_run.specs.Placing.{NamesSide, OfOneType}
use Rattle.flip_solve.specs.Choosing.{HasCellIn, number_for, IsChosen, IsAsked}
use Rattle.input_map.specs.Builds.{class_of, IsTouchable, IsAssignment}
use Rattle.flip_solve.proofs.Members.{some_same, in_left, in_got, get_some, got_below, taken_got}
use Rattle.flip_solve.proofs.Pointers.{forced_type, mentioned}

-- the class of a place
abbrev pub class_in : List ℕ → ℕ → ℕ
class_in classes p = unwrap_or (slice_get classes p) 0

pub class_got : (classes : List ℕ) (p k : ℕ) → slice_get classes p ≡ Some k → class_in classes p ≡ k
class_got classes p k e = ap (λ (o : Option ℕ). unwrap_or o 0) e

wide_side : (all : List Placed) (n : ℕ) (s : Side) → NamesSide (take n all) s → NamesSide all s
wide_side all n nothing h = tt
wide_side all n (at p) h = (h.0, h.1, (taken_got n all p _ h.2).1)

-- the number of a place lies where the solver's and the own one do
number_within : (P : ℤ → Type 0) (ty : CellTy) (s own : Option ℤ) (z : ℤ) → number_for ty s own ≡ Some z → (s ≡ Some z → P z) → (ty ≡ cell.Int → own ≡ Some z → P z) → P z
number_within P cell.Int (Some y) own z e solved mine = solved e
number_within P cell.Int None own z e solved mine = mine refl e
number_within P (cell.Ptr t) s own z e solved mine = absurd (cc e)

module _ (layouts : ℕ → List Cell) (params : List Cell) (all : List Placed) (n : ℕ) (c d : List Atom) (known : IsAsked layouts params all n c d) (classes : List ℕ) (are : AreClasses (c ++ d) n classes) where
  abbrev class : ℕ → ℕ
  class p = class_in classes p

  class_at : (p : ℕ) → p < n → (k : ℕ) × (slice_get classes p ≡ Some k)
  class_at p h = get_some classes p (subst (λ (m : ℕ). p < m) (sym are.each) h)

  same_sides : (a b : Side) → In (same a b) (c ++ d) → NamesSide all a × NamesSide all b × OfOneType all a b
  same_sides a b i = let m = known.names (same a b) i in (wide_side all n a m.0, wide_side all n b m.1, known.one_type (same a b) i)

  -- places that are forced to be the same, and not NULL, hold one type
  holds_same : (p q : ℕ) (e f : Placed) → slice_get all p ≡ Some e → slice_get all q ≡ Some f → Forced (c ++ d) (at p) (at q) → (Forced (c ++ d) (at p) nothing → ⊥) → e.holds ≡ f.holds
  holds_same p q e f ep eq z h = elim (forced_type all (c ++ d) same_sides (at p) (at q) z) [
    | inl r ↦ absurd (h r.0)
    | inr t ↦ some_same e.holds f.holds (sym (ap (option_map (λ (x : Placed). x.holds)) ep) ∙ t ∙ ap (option_map (λ (x : Placed). x.holds)) eq)
  ]

  is_mentioned : (p : ℕ) → p < n → class p ≢ 0 → Mentions (c ++ d) p
  is_mentioned p h z = elim (mentioned (c ++ d) p) [
    | inl m ↦ m
    | inr m ↦ let k = class_at p h in absurd (z (class_got classes p k.0 k.1 ∙ (are.null p k.0 k.1).1 (inr m)))
  ]

  not_forced_null : (p : ℕ) → p < n → class p ≢ 0 → Forced (c ++ d) (at p) nothing → ⊥
  not_forced_null p h z g = let k = class_at p h in z (class_got classes p k.0 k.1 ∙ (are.null p k.0 k.1).1 (inl g))

  -- one class that isn't NULL's is forced
  forced_one : (p q : ℕ) → p < n → q < n → class p ≡ class q → class p ≢ 0 → Forced (c ++ d) (at p) (at q)
  forced_one p q h k e z =
      let x = class_at p h in
      let y = class_at q k in
      (are.together p q x.0 y.0 (is_mentioned p h z) (is_mentioned q k (λ f. z (e ∙ f))) x.1 y.1).0
      (sym (class_got classes p x.0 x.1) ∙ e ∙ class_got classes q y.0 y.1)

  -- a block's place isn't NULL
  block_not_null : (q : ℕ) → q < n → HasCellIn (take n all) q → class q ≢ 0
  block_not_null q h w z =
      let k = in_got (c ++ d) (differ (at q) nothing) (in_left (differ (at q) nothing) c d (known.touched q w)) in
      let x = class_at q h in
      elim ((are.null q x.0 x.1).0 (sym (class_got classes q x.0 x.1) ∙ z)) [
        | inl g ↦ are.apart k.0 (at q, nothing, k.1, g)
        | inr m ↦ m (k.0, differ (at q) nothing, k.1, inl refl)
      ]

  -- the place of a cell's block stands before it, and a pointer stands there
  block_place : (q : ℕ) → HasCellIn (take n all) q → (q < n) × ((e : Placed) × (ty : TyId) × (slice_get all q ≡ Some e) × (e.holds ≡ cell.Ptr ty))
  block_place q w =
      let got = taken_got n all w.0 (record { place = field q w.1; holds = w.2 }) w.3 in
      let first : q < w.0 = known.parents.below w.0 _ got.1 in
      let r = known.right w.0 _ got.1 in
      let low = got.0 in
      (omega (arith, first, low), (r.1, r.0, r.2, r.3))

  not_asked_apart : (q r : ℕ) → Forced (c ++ d) (at q) (at r) → In (differ (at q) (at r)) c ⊎ In (differ (at r) (at q)) c → ⊥
  not_asked_apart q r g (inl i) = let k = in_got (c ++ d) (differ (at q) (at r)) (in_left (differ (at q) (at r)) c d i) in are.apart k.0 (at q, at r, k.1, g)
  not_asked_apart q r g (inr i) = let k = in_got (c ++ d) (differ (at r) (at q)) (in_left (differ (at r) (at q)) c d i) in are.apart k.0 (at r, at q, k.1, turned (at q) (at r) g)

  -- blocks of one class are one
  one_block : (q r : ℕ) → HasCellIn (take n all) q → HasCellIn (take n all) r → class q ≡ class r → q ≡ r
  one_block q r w x e = elim (ℕ_discrete q r) [
    | yes f ↦ f
    | no f ↦
        let s = block_place q w in
        let t = block_place r x in
        let z = block_not_null q s.0 w in
        let g = forced_one q r s.0 t.0 e z in
        absurd (not_asked_apart q r g (known.separate q r _ _ w x f (s.1).2 (t.1).2 (holds_same q r _ _ (s.1).2 (t.1).2 g (not_forced_null q s.0 z))))
  ]

  module _ (b : Limits) (u : Input) (base : ℤ) (o : List (Option ℤ)) (v : Assignment) (chosen : IsChosen all n u base o classes v)
      (solved : (x : ℕ) (z : ℤ) → get_or o x None ≡ Some z → Within b z)
      (own : (id : ℕ) (e : Placed) (z : ℤ) → slice_get all id ≡ Some e → e.holds ≡ cell.Int → at_place all u base id ≡ Some z → Within b z) where
    size : length v.classes ≡ n
    size = ap length chosen.marks ∙ are.each

    class_is : (id : ℕ) → class_of v id ≡ class id
    class_is id = ap (λ (cs : List ℕ). class_in cs id) chosen.marks

    within : (i : ℕ) (z : ℤ) → slice_get v.ints i ≡ Some (Some z) → Within b z
    within i z e =
        let h : i < n = subst (λ (m : ℕ). i < m) chosen.each (got_below v.ints i (Some z) e) in
        let low = known.below in
        let p = get_some all i (omega (arith, h, low)) in
        let m = some_same _ _ (sym (chosen.numbers i p.0 h p.1) ∙ e) in
        number_within (Within b) (p.0).holds (get_or o i None) (at_place all u base i) z m (λ f. solved i z f) (λ t f. own i p.0 z p.1 t f)

    touchable : (t : PlaceId) → In t v.touched → IsTouchable all v t
    touchable t i =
        let w = chosen.touched t i in
        let s = block_place t.0 w in
        (subst (λ (m : ℕ). t.0 < m) (sym size) s.0, (λ z. block_not_null t.0 s.0 w (sym (class_is t.0) ∙ z)), s.1)

    pub is_assignment : IsAssignment layouts params b all v
    is_assignment = record {
      both = chosen.each ∙ sym size;
      enough = subst (λ (m : ℕ). m ≤ length all) (sym size) known.below;
      different = λ i j e f hi hj ei ej p. known.different i j e f ei ej p;
      typed = λ i e h ei. known.right i e ei;
      numbers = within;
      touched = touchable;
      one_each = λ s t i j e. one_block s.0 t.0 (chosen.touched s i) (chosen.touched t j) (sym (class_is s.0) ∙ e ∙ class_is t.0);
      parents = λ i e parent k h ei p. chosen.parents i e parent k (subst (λ (m : ℕ). i < m) size h) ei p;
      one_type = λ i j e f hi hj ei ej eq z.
          let ki = subst (λ (m : ℕ). i < m) size hi in
          let kj = subst (λ (m : ℕ). j < m) size hj in
          let q = sym (class_is i) ∙ eq ∙ class_is j in
          let y : class i ≢ 0 = λ g. z (class_is i ∙ g) in
          holds_same i j e f ei ej (forced_one i j ki kj q y) (not_forced_null i ki y);
    }
