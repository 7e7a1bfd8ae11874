-- What the places of a built input hold.
use Rattle.std.proofs.Common.{◌≡◌, ◌≢◌, ℕ, zero, suc, ◌+◌, ◌<◌, inl, inr, ℤ, pos, List, slice_get, Option, Some, unwrap_or, refl, sym, ap, ◌∙◌, subst, subst₂, arith}
use Rattle.std.specs.Prelude.{◌↔◌}
use Rattle.std.specs.Option.{option_and_then}
use Rattle.cc_base.specs.declared.cells.CellTy.{CellTy}
use Rattle.cc_base.specs.declared.cells.CellTy.TheVariants as cell
use Rattle.cc_base.specs.declared.cells.TyId.{TyId}
use Rattle.cc_base.specs.declared.inputs.Input.{Input}
use Rattle.cc_base.specs.Limits.{Limits}
use Rattle.cc_base.specs.Places.{Place, Placed, arg, field, stream, ParentBelow, ParentsFirst, at_place, value_there, cell_at, cell_behind}
use Rattle.cc_model.specs.Core.{Cell, ptr_cell}
use Rattle.cc_model.specs.Canonical.{Named}
use Rattle.cc_model.specs.CheckedProgram.{cell_of}
use Rattle.sym_expr.proofs.PlaceLaws.{at_place-is}
use Rattle.input_map.specs.Builds.{HasItsType, StandsIn}
use Rattle.input_map.specs.Laying.{Spot, Plan, spots, behind, Blocks, Points, Holds, Seat, Entry}
use Rattle.input_map.proofs.Lists.{some_same, part_get, get_spots}
use Rattle.input_map.proofs.Shapes.{IsPlan, Origin, Fits, Shape, every_get}
use Rattle.input_map.proofs.Laid.{HeldAll, held_get}

there_arg : (f : ℕ → Option ℤ) (i : Input) (base : ℤ) (k : ℕ) → value_there f i base (arg k) ≡ slice_get i.cells k
unfolding value_there
there_arg f i base k = refl

there_stream : (f : ℕ → Option ℤ) (i : Input) (base : ℤ) (k : ℕ) → value_there f i base (stream k) ≡ Some (unwrap_or (slice_get i.stream k) base)
unfolding value_there
there_stream f i base k = refl

behind_is : (cells : List ℤ) (a k c : ℕ) → a ≡ suc k → cell_behind cells (pos a) c ≡ slice_get cells (k + c)
unfolding cell_behind cell_at
behind_is cells zero k c e = absurd (omega (arith, e))
behind_is cells (suc a) k c e = at_sum (suc a + c) (omega (arith, e))
  where
    at_sum : (m : ℕ) → m ≡ suc (k + c) → cell_at cells (pos m) ≡ slice_get cells (k + c)
    at_sum zero f = absurd (omega (arith, f))
    at_sum (suc m) f = ap (slice_get cells) (let g : m ≡ k + c = omega (arith, f) in g)

there_field : (f : ℕ → Option ℤ) (i : Input) (base : ℤ) (t c a k : ℕ) → f t ≡ Some (pos a) → a ≡ suc k → value_there f i base (field t c) ≡ slice_get i.cells (k + c)
unfolding value_there
there_field f i base t c a k e g = ap (option_and_then (λ x. cell_behind i.cells x c)) e ∙ behind_is i.cells a k c g

ptr_same : (t u : ℕ) → ptr_cell t ≡ ptr_cell u → t ≡ u
ptr_same t u e = cc

module _ (p : Plan) (params : List Cell) (b : Limits) (places : List Placed) (n : ℕ) (h : IsPlan p params b places n) (first : ParentsFirst places)
    (all : List Spot) (named : List Named) (block : Blocks) (s : Shape p params b places n all named block) (i : Input) (held : HeldAll p block all i.cells)
    (taken : (id : ℕ) (e : Entry places n id) (k : ℕ) → e.entry.place ≡ stream k → unwrap_or (slice_get i.stream k) p.base ≡ p.number id) where
  abbrev at : ℕ → Option ℤ
  at id = at_place places i p.base id

  -- a place has a value, as its type and class say
  abbrev pub Valued : (id : ℕ) → Entry places n id → Type 0
  Valued id e = (z : ℤ) × (at id ≡ Some z) × Holds p block (cell_of e.entry.holds) (Some id) z

  at_is : (id : ℕ) (e : Entry places n id) (q : Place) → e.entry.place ≡ q → at id ≡ value_there at i p.base q
  at_is id e q f = at_place-is places i p.base id first ∙ ap (option_and_then (λ (x : Placed). value_there at i p.base x.place)) e.is ∙ ap (value_there at i p.base) f

  stands : (k : ℕ) (c : Cell) (o : Option ℕ) (id : ℕ) → slice_get all k ≡ Some (record { cell = c; place = o }) → o ≡ Some id → (z : ℤ) × (slice_get i.cells k ≡ Some z) × Holds p block c (Some id) z
  stands k c o id e f = let r = held_get p block all i.cells k (record { cell = c; place = o }) held e in (r.0, r.1, subst (λ x. Holds p block c x r.0) f r.2)

  value_arg : (id : ℕ) (e : Entry places n id) (k : ℕ) → e.entry.place ≡ arg k → Valued id e
  value_arg id e k f =
      let t : slice_get params k ≡ Some (cell_of e.entry.holds) = subst (λ (x : Place). HasItsType p.layouts params places x e.entry.holds) f (h.typed id e) in
      let o : p.found 0 k ≡ Some id = h.finds id e 0 k (subst (λ (x : Place). Seat x 0 k) (sym f) (refl, refl)) in
      let zero_sum : 0 + k ≡ k = omega arith in
      let r = stands (0 + k) (cell_of e.entry.holds) (p.found 0 (0 + k)) id (part_get all 0 (spots (p.found 0) 0 params) k _ s.first (get_spots (p.found 0) 0 params k (cell_of e.entry.holds) t)) (ap (p.found 0) zero_sum ∙ o) in
      (r.0, at_is id e (arg k) f ∙ there_arg at i p.base k ∙ ap (slice_get i.cells) (sym zero_sum) ∙ r.1, r.2)

  value_stream : (id : ℕ) (e : Entry places n id) (k : ℕ) → e.entry.place ≡ stream k → Valued id e
  value_stream id e k f =
      let t : e.entry.holds ≡ cell.Int = subst (λ (x : Place). HasItsType p.layouts params places x e.entry.holds) f (h.typed id e) in
      (p.number id, at_is id e (stream k) f ∙ there_stream at i p.base k ∙ ap Some (taken id e k f), subst (λ x. Holds p block (cell_of x) (Some id) (p.number id)) (sym t) refl)

  points_of : (t : ℕ) (e : Entry places n t) (ty : TyId) → e.entry.holds ≡ cell.Ptr ty → (v : Valued t e) → Points block (p.class t) v.0
  points_of t e ty f v = subst (λ (x : CellTy). Holds p block (cell_of x) (Some t) v.0) f v.2

  -- a touched place has the address of its class's block
  address_of : (t : ℕ) (z : ℤ) → p.class t ≢ 0 → Points block (p.class t) z → (a : ℕ) × (block (p.class t) ≡ Some a) × (z ≡ pos a)
  address_of t z d (inl x) = absurd (d x.0)
  address_of t z d (inr x) = (x.1, x.2, x.3)

  value_field : (id : ℕ) (e : Entry places n id) (t c : ℕ) → e.entry.place ≡ field t c → ((f : Entry places n t) → Valued t f) → Valued id e
  value_field id e t c f before =
      let own = h.parents id e t c f in
      let o = h.pointer (p.class t) t own.0 in
      let y : HasItsType p.layouts params places (field t c) e.entry.holds = subst (λ (x : Place). HasItsType p.layouts params places x e.entry.holds) f (h.typed id e) in
      let v = before o.0 in
      let a = address_of t v.0 own.1 (points_of t o.0 o.1 o.2 v) in
      let k = s.blocks (p.class t) a.0 a.1 in
      let u : y.1 ≡ (o.0).entry = some_same y.1 (o.0).entry (sym y.2 ∙ (o.0).is) in
      let w : (y.0).0 ≡ k.type = ptr_same (y.0).0 k.type (sym (ap cell_of y.3) ∙ ap (λ (x : Placed). cell_of x.holds) u ∙ k.of_type t o.0 refl) in
      let m : slice_get (p.layouts k.type) c ≡ Some (cell_of e.entry.holds) = ap (λ x. slice_get (p.layouts x) c) (sym w) ∙ y.4 in
      let zero_sum : 0 + c ≡ c = omega arith in
      let found : p.found (suc (suc t)) c ≡ Some id = h.finds id e (suc (suc t)) c (subst (λ (x : Place). Seat x (suc (suc t)) c) (sym f) (refl, refl)) in
      let is : behind p (p.owner (p.class t)) (0 + c) ≡ Some id = ap (λ x. behind p x (0 + c)) own.0 ∙ ap (p.found (suc (suc t))) zero_sum ∙ found in
      let r = stands (k.before + c) (cell_of e.entry.holds) (behind p (p.owner (p.class t)) (0 + c)) id
      (part_get all k.before (spots (behind p (p.owner (p.class t))) 0 (p.layouts k.type)) c _ k.cells (get_spots (behind p (p.owner (p.class t))) 0 (p.layouts k.type) c (cell_of e.entry.holds) m)) is in
      (r.0, at_is id e (field t c) f ∙ there_field at i p.base t c a.0 k.before (v.1 ∙ ap Some a.2) k.address ∙ r.1, r.2)

  value_by : (id : ℕ) (e : Entry places n id) → ((t : ℕ) → t < id → (f : Entry places n t) → Valued t f) → (q : Place) → e.entry.place ≡ q → Valued id e
  value_by id e before (arg k) f = value_arg id e k f
  value_by id e before (stream k) f = value_stream id e k f
  value_by id e before (field t c) f = value_field id e t c f (before t (subst (ParentBelow id) f (first.below id e.entry e.is)))

  value_to : (m id : ℕ) → id < m → (e : Entry places n id) → Valued id e
  value_to zero id l e = absurd (omega (arith, l))
  value_to (suc m) id l e = value_by id e (λ t k f. value_to m t (omega (arith, l, k)) f) e.entry.place refl

  pub valued : (id : ℕ) (e : Entry places n id) → Valued id e
  valued id e = value_to (suc id) id (omega arith) e

  -- ---- what is told of them

  pub number_at : (id : ℕ) (e : Entry places n id) → e.entry.holds ≡ cell.Int → at id ≡ Some (p.number id)
  number_at id e f = let v = valued id e in v.1 ∙ ap Some (subst (λ (x : CellTy). Holds p block (cell_of x) (Some id) v.0) f v.2)

  abbrev IsPointer : ℕ → Type 0
  IsPointer id = (a : ℕ) × (at id ≡ Some (pos a)) × ((a ≡ 0) ↔ (p.class id ≡ 0))

  pointer_by : (id : ℕ) (z : ℤ) → at id ≡ Some z → Points block (p.class id) z → IsPointer id
  pointer_by id z e (inl x) = (0, e ∙ ap Some x.1, ((λ _. x.0), (λ _. refl)))
  pointer_by id z e (inr x) = let k = s.blocks (p.class id) x.1 x.2 in let m = k.address in (x.1, e ∙ ap Some x.3, ((λ y. absurd (omega (arith, m, y))), (λ y. absurd (x.0 y))))

  pub pointer_at : (id : ℕ) (e : Entry places n id) (t : TyId) → e.entry.holds ≡ cell.Ptr t → IsPointer id
  pointer_at id e t f = let v = valued id e in pointer_by id v.0 v.1 (points_of id e t f v)

  pos_same : (a c : ℕ) → Some (pos a) ≡ Some (pos c) → a ≡ c
  pos_same a c e = cc

  same_class : (j k : ℕ) (y z : ℤ) → Points block (p.class j) y → Points block (p.class k) z → Some y ≡ Some z → p.class j ≡ p.class k
  same_class j k y z (inl u) (inl v) e = u.0 ∙ sym v.0
  same_class j k y z (inl u) (inr v) e = let m = (s.blocks (p.class k) v.1 v.2).address in let f = pos_same 0 v.1 (ap Some (sym u.1) ∙ e ∙ ap Some v.3) in absurd (omega (arith, m, f))
  same_class j k y z (inr u) (inl v) e = let m = (s.blocks (p.class j) u.1 u.2).address in let f = pos_same u.1 0 (ap Some (sym u.3) ∙ e ∙ ap Some v.1) in absurd (omega (arith, m, f))
  same_class j k y z (inr u) (inr v) e = s.apart (p.class j) (p.class k) u.1 u.2 (v.2 ∙ ap Some (sym (pos_same u.1 v.1 (ap Some (sym u.3) ∙ e ∙ ap Some v.3))))

  same_value : (j k : ℕ) (y z : ℤ) → Points block (p.class j) y → Points block (p.class k) z → p.class j ≡ p.class k → y ≡ z
  same_value j k y z (inl u) (inl v) e = u.1 ∙ sym v.1
  same_value j k y z (inl u) (inr v) e = absurd (v.0 (sym e ∙ u.0))
  same_value j k y z (inr u) (inl v) e = absurd (u.0 (e ∙ v.0))
  same_value j k y z (inr u) (inr v) e = u.3 ∙ ap pos (some_same u.1 v.1 (sym u.2 ∙ ap block e ∙ v.2)) ∙ sym v.3

  pub class_at : (j k : ℕ) (e : Entry places n j) (f : Entry places n k) (t u : TyId) → e.entry.holds ≡ cell.Ptr t → f.entry.holds ≡ cell.Ptr u → ((at j ≡ at k) ↔ (p.class j ≡ p.class k))
  class_at j k e f t u x y = let v = valued j e in let w = valued k f in (
    (λ g. same_class j k v.0 w.0 (points_of j e t x v) (points_of k f u y w) (sym v.1 ∙ g ∙ w.1)),
    (λ g. v.1 ∙ ap Some (same_value j k v.0 w.0 (points_of j e t x v) (points_of k f u y w) g) ∙ sym w.1),
  )

  -- a cell with a place is where the place stands
  stands_in : (k id : ℕ) (e : Entry places n id) (q : Place) → e.entry.place ≡ q → Origin p params b places n block k q → StandsIn places i p.base k q
  stands_in k id e (arg j) f o = o
  stands_in k id e (stream j) f o = absurd o
  stands_in k id e (field t c) f (a, own, is, g) =
      let r = h.parents id e t c f in
      let x = h.pointer (p.class t) t own in
      let v = valued t x.0 in
      let y = address_of t v.0 r.1 (points_of t x.0 x.1 x.2 v) in
      (a, v.1 ∙ ap Some (y.2 ∙ ap pos (some_same y.0 (suc a) (sym y.1 ∙ is))), g)

  pub place_in : (k : ℕ) (x : Spot) (id : ℕ) → slice_get all k ≡ Some x → x.place ≡ Some id → (e : Entry places n id) × StandsIn places i p.base k e.entry.place
  place_in k x id f g =
      let zero_sum : 0 + k ≡ k = omega arith in
      let r = subst₂ (λ (m : ℕ) (o : Option ℕ). Fits p params b places n block m x.cell o) zero_sum g (every_get p params b places n block 0 all k x s.fits f) in
      (r.0, stands_in k id r.0 (r.0).entry.place refl r.2)
