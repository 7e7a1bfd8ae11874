-- An assignment gives a plan.
use Rattle.std.proofs.Common.{◌≡◌, ℕ, zero, suc, ◌≤◌, inl, inr, ℤ, List, [], ◌∷◌, length, slice_get, Option, Some, None, unwrap_or, refl, sym, ap, ap₂, ◌∙◌, arith}
use Rattle.cc_base.specs.declared.cells.CellTy.{CellTy}
use Rattle.cc_base.specs.declared.cells.CellTy.TheVariants as cell
use Rattle.cc_base.specs.declared.cells.TyId.{TyId}
use Rattle.cc_base.specs.Limits.{Limits}
use Rattle.cc_base.specs.Paths.{In}
use Rattle.cc_base.specs.Places.{Place, Placed, arg, field, stream}
use Rattle.cc_model.specs.Core.{Cell, int_cell, ptr_cell}
use Rattle.cc_model.specs.Canonical.{Within}
use Rattle.cc_model.specs.CheckedProgram.{cell_of, flat}
use Rattle.cc_model.specs.Graphs.{PointsToCells}
use Rattle.sym_expr.specs.declared.places.PlaceId.{PlaceId}
use Rattle.input_map.specs.declared.building.Assignment.{Assignment}
use Rattle.input_map.specs.Builds.{class_of, HasItsType, IsAssignment}
use Rattle.input_map.specs.Laying.{Plan, plan_of, Seat, Entry, IsIndex, IsOwner}
use Rattle.input_map.proofs.Shapes.{IsPlan}

pub seat_same : (a c : Place) (q j : ℕ) → Seat a q j → Seat c q j → a ≡ c
seat_same (arg k) (arg m) q j h g = ap arg (h.1 ∙ sym g.1)
seat_same (arg k) (stream m) q j h g = absurd (let x = h.0 in let y = g.0 in omega (arith, x, y))
seat_same (arg k) (field t m) q j h g = absurd (let x = h.0 in let y = g.0 in omega (arith, x, y))
seat_same (stream k) (arg m) q j h g = absurd (let x = h.0 in let y = g.0 in omega (arith, x, y))
seat_same (stream k) (stream m) q j h g = ap stream (h.1 ∙ sym g.1)
seat_same (stream k) (field t m) q j h g = absurd (let x = h.0 in let y = g.0 in omega (arith, x, y))
seat_same (field t k) (arg m) q j h g = absurd (let x = h.0 in let y = g.0 in omega (arith, x, y))
seat_same (field t k) (stream m) q j h g = absurd (let x = h.0 in let y = g.0 in omega (arith, x, y))
seat_same (field t k) (field u m) q j h g = ap₂ field (let x = h.0 in let y = g.0 in omega (arith, x, y)) (h.1 ∙ sym g.1)

pub in_get : {A : Type 0} (l : List A) (k : ℕ) (x : A) → slice_get l k ≡ Some x → In x l
in_get [] k x e = absurd (cc e)
in_get (y ∷ l) zero x e = inl (cc e)
in_get (y ∷ l) (suc k) x e = inr (in_get l k x e)

module _ (layouts : ℕ → List Cell) (params : List Cell) (b : Limits) (places : List Placed) (v : Assignment) (a : IsAssignment layouts params b places v) where
  abbrev count : ℕ
  count = length v.classes

  some_number : (base : ℤ) → Within b base → (id : ℕ) (o : Option (Option ℤ)) → slice_get v.ints id ≡ o → Within b (unwrap_or (flat o) base)
  some_number base w id None e = w
  some_number base w id (Some None) e = w
  some_number base w id (Some (Some z)) e = a.numbers id z e

  module _ (base : ℤ) (base_within : Within b base) (found : ℕ → ℕ → Option ℕ) (owner : ℕ → Option ℕ) (i : IsIndex places count found) (o : IsOwner v v.touched owner) where
    abbrev plan : Plan
    plan = plan_of layouts v base found owner

    finds : (id : ℕ) (e : Entry places count id) (q j : ℕ) → Seat e.entry.place q j → found q j ≡ Some id
    finds id e q j s =
        let k = i.total id e q j s in
        let f = i.sound q j k.0 k.1 in
        k.1 ∙ ap Some (sym (a.different id k.0 e.entry (f.0).entry e.small (f.0).small e.is (f.0).is (seat_same e.entry.place (f.0).entry.place q j s f.1)))

    touched_entry : (c t : ℕ) → owner c ≡ Some t → (e : Entry places count t) × (ty : TyId) × (e.entry.holds ≡ cell.Ptr ty)
    touched_entry c t e = let x = a.touched (record { 0 = t }) (o.sound c t e).0 in
        (record { entry = (x.2).0; small = x.0; is = (x.2).2 }, (x.2).1, (x.2).3)

    owns : (t : PlaceId) → In t v.touched → owner (class_of v t.0) ≡ Some t.0
    owns t m =
        let k = o.total t m in
        let s = o.sound (class_of v t.0) k.0 k.1 in
        k.1 ∙ ap Some (a.one_each (record { 0 = k.0 }) t s.0 m s.1)

    pub is_plan : IsPlan plan params b places count
    is_plan = record {
      found_is = i.sound;
      finds = finds;
      class_is = λ c t e. (o.sound c t e).1;
      pointer = touched_entry;
      typed = λ id e. a.typed id e.entry e.small e.is;
      parents = λ id e parent c f. let m = a.parents id e.entry parent c e.small e.is f in (owns (record { 0 = parent }) m, (a.touched (record { 0 = parent }) m).1);
      one_type = λ j k e f g d. a.one_type j k e.entry f.entry e.small f.small e.is f.is g d;
      within = λ id. some_number base base_within id (slice_get v.ints id) refl;
      base_within = base_within;
    }

  -- the blocks that places point to have cells
  module _ (deep : PointsToCells layouts params) where
    int_no_ptr : (t : ℕ) → int_cell ≡ ptr_cell t → ⊥
    int_no_ptr t e = cc

    size_by : (t : ℕ) (q : Place) (ty : CellTy) → HasItsType layouts params places q ty → cell_of ty ≡ ptr_cell t → 1 ≤ length (layouts t)
    size_by t (arg k) ty h e = deep t (inl (in_get params k (ptr_cell t) (h ∙ ap Some e)))
    size_by t (field u c) ty h e = deep t (inr ((h.0).0, in_get (layouts (h.0).0) c (ptr_cell t) (h.4 ∙ ap Some e)))
    size_by t (stream k) ty h e = absurd (int_no_ptr t (ap cell_of (sym h) ∙ e))

    pub sizes : (t id : ℕ) (e : Entry places count id) → cell_of e.entry.holds ≡ ptr_cell t → 1 ≤ length (layouts t)
    sizes t id e f = size_by t e.entry.place e.entry.holds (a.typed id e.entry e.small e.is) f
