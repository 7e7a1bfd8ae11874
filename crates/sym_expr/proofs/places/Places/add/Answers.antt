use Rattle.std.proofs.Common.{◌≡◌, ◌∙◌, sym, ap, subst, refl, suc, arith, ℕ, ℤ, ◌-◌, ◌^◌, ◌<◌, ◌++◌, ◌∷◌, [], List, length, length-append}
use Rattle.cc_base.specs.declared.cells.CellTy.{CellTy}
use Rattle.cc_base.specs.declared.inputs.Input.{Input}
use Rattle.cc_base.specs.Places.{Placed, ParentBelow, ParentsFirst, at_place}
use Rattle.sym_expr.specs.declared.places.Place.{Place}
use Rattle.sym_expr.specs.PlacesSeen.{place_of, placed_of, entry_of, entries_of}
use Rattle.sym_expr.proofs.PlaceLaws.{ParentsFirst-push, at_place-append}
use Rattle.sym_expr.proofs.places.Places.add.Goals as goal

entries_push : (l : List (Place × CellTy)) (p : Place) (ty : CellTy) → entries_of (l ++ (p, ty) ∷ []) ≡ entries_of l ++ placed_of p ty ∷ []
entries_push [] p ty = refl
entries_push (e ∷ l) p ty = ap (λ (m : List Placed). entry_of e ∷ m) (entries_push l p ty)

entries_length : (l : List (Place × CellTy)) → length (entries_of l) ≡ length l
entries_length [] = refl
entries_length (e ∷ l) = ap suc (entries_length l)

pushed : (l m : List (Place × CellTy)) (v : List Placed) (p : Place) (ty : CellTy) → m ≡ l ++ (p, ty) ∷ [] → entries_of l ≡ v → ParentsFirst (entries_of l) → ParentBelow (length v) (place_of p) → ParentsFirst (entries_of m)
pushed l m v p ty e f h k =
    subst (λ (x : List Placed). ParentsFirst x) (sym (ap entries_of e ∙ entries_push l p ty))
    (ParentsFirst-push (entries_of l) (placed_of p ty) h (subst (λ (x : List Placed). ParentBelow (length x) (place_of p)) (sym f) k))

room : (l m : List (Place × CellTy)) (v : List Placed) (p : Place) (ty : CellTy) → m ≡ l ++ (p, ty) ∷ [] → entries_of l ≡ v → length v < 2 ^ 32 - 1 → length m < 2 ^ 32
room l m v p ty e f h = omega (arith, ap length e, ap length f, length-append l ((p, ty) ∷ []), entries_length l)

pub invariant_of-self-2 : goal.invariant_of-self-2
invariant_of-self-2 c =
    let e = c.in_ok-push.ensures.items in (
      pushed c.self.inside.entries.items _ c.args.self.now c.args.place c.args.ty e c.self.view_is c.self.invariant.0 c.requires.parent,
      room c.self.inside.entries.items _ c.args.self.now c.args.place c.args.ty e c.self.view_is c.requires.room,
    )

more_values : (l m : List (Place × CellTy)) (v : List Placed) (p : Place) (ty : CellTy) → m ≡ l ++ (p, ty) ∷ [] → entries_of l ≡ v → ParentsFirst (entries_of l)
    → (i : Input) (b : ℤ) (id : ℕ) → id < length v → at_place (entries_of m) i b id ≡ at_place v i b id
more_values l m v p ty e f h i b id k =
    ap (λ (x : List Placed). at_place x i b id) (ap entries_of e ∙ entries_push l p ty)
    ∙ at_place-append (entries_of l) (placed_of p ty ∷ []) i b id h (subst (λ (x : List Placed). id < length x) (sym f) k)
    ∙ ap (λ (x : List Placed). at_place x i b id) f

pub returns-clause-values : goal.returns-clause-values
returns-clause-values c =
    more_values c.self.inside.entries.items _ c.args.self.now c.args.place c.args.ty c.in_ok-push.ensures.items c.self.view_is c.self.invariant.0
