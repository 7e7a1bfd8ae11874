-- What stands at the places of a run, and what its atoms name.
use Rattle.std.specs.Prelude.{ℕ, ◌≡◌, List, [], ◌∷◌, map, Some, slice_get}
use Rattle.cc_base.specs.declared.cells.CellTy.{CellTy}
use Rattle.cc_base.specs.declared.cells.CellTy.TheVariants as cell
use Rattle.cc_base.specs.declared.cells.TyId.{TyId}
use Rattle.cc_base.specs.Forms.{Form, Side, nothing, at, Atom, at_most_zero, is_zero, not_zero, same, differ}
use Rattle.cc_base.specs.Paths.{In}
use Rattle.cc_base.specs.Places.{Place, Placed, arg, field, stream, ParentsFirst}
use Rattle.cc_model.specs.Core.{Cell}
use Rattle.cc_model.specs.Traced.{cell_ty}

-- a number stands at this place
abbrev pub IsNumberAt : List Placed → ℕ → Type 0
IsNumberAt l p = (q : Place) × (slice_get l p ≡ Some (record { place = q; holds = cell.Int }))

-- a pointer to this type stands at this place
abbrev pub IsPointerTo : List Placed → ℕ → ℕ → Type 0
IsPointerTo l p t = (q : Place) × (slice_get l p ≡ Some (record { place = q; holds = cell.Ptr (record { 0 = t }) }))

-- a pointer stands at this place
abbrev pub IsPointerAt : List Placed → ℕ → Type 0
IsPointerAt l p = (q : Place) × (t : TyId) × (slice_get l p ≡ Some (record { place = q; holds = cell.Ptr t }))

-- what stands at a place is what its cell holds: a parameter's cell, a cell of the type to which a pointer points, or a number of
-- the stream
abbrev pub FitsCell : List Cell → (ℕ → List Cell) → List Placed → Place → CellTy → Type 0
FitsCell params layouts l (arg i) h = slice_get (map cell_ty params) i ≡ Some h
FitsCell params layouts l (field q c) h = (t : ℕ) × IsPointerTo l q t × (slice_get (map cell_ty (layouts t)) c ≡ Some h)
FitsCell params layouts l (stream i) h = h ≡ cell.Int

-- so it is at each place, and a block's place stands before the places of its cells
pub record ArePlaces (params : List Cell) (layouts : ℕ → List Cell) (l : List Placed) : Type 0 where
  pub parents : ParentsFirst l
  pub fits : (id : ℕ) (p : Placed) → slice_get l id ≡ Some p → FitsCell params layouts l p.place p.holds

-- forms add up numbers at these places, and pointers at these places are compared, two of one type
abbrev pub NamesForm : List Placed → Form → Type 0
NamesForm l g = (p : ℕ) → In p (map (λ t. t.place) g.terms) → IsNumberAt l p

abbrev pub NamesSide : List Placed → Side → Type 0
NamesSide l nothing = Unit {0}
NamesSide l (at p) = IsPointerAt l p

abbrev pub OfOneType : List Placed → Side → Side → Type 0
OfOneType l (at p) (at q) = (e f : Placed) → slice_get l p ≡ Some e → slice_get l q ≡ Some f → e.holds ≡ f.holds
OfOneType l nothing s = Unit {0}
OfOneType l (at p) nothing = Unit {0}

abbrev pub NamesAtom : List Placed → Atom → Type 0
NamesAtom l (at_most_zero g) = NamesForm l g
NamesAtom l (is_zero g) = NamesForm l g
NamesAtom l (not_zero g) = NamesForm l g
NamesAtom l (same a b) = NamesSide l a × NamesSide l b × OfOneType l a b
NamesAtom l (differ a b) = NamesSide l a × NamesSide l b × OfOneType l a b

abbrev pub NameAtoms : List Placed → List Atom → Type 0
NameAtoms l [] = Unit {0}
NameAtoms l (a ∷ m) = NamesAtom l a × NameAtoms l m
