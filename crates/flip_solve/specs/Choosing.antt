-- What is asked of the pointers, and what is chosen for the first places of a run.
use Rattle.std.specs.Prelude.{ℕ, ◌<◌, ◌≤◌, ◌≡◌, ◌≢◌, ◌⊎◌, ℤ, List, [], ◌∷◌, ◌++◌, length, take, get_or, Option, Some, None, IsSome, slice_get}
use Rattle.cc_base.specs.declared.cells.CellTy.{CellTy}
use Rattle.cc_base.specs.declared.cells.CellTy.TheVariants as cell
use Rattle.cc_base.specs.declared.inputs.Input.{Input}
use Rattle.cc_base.specs.Classes.{Contradicts, AreClasses}
use Rattle.cc_base.specs.Forms.{nothing, at, Atom, at_most_zero, is_zero, not_zero, same, differ}
use Rattle.cc_base.specs.Holds.{places_of_atom, Meets}
use Rattle.cc_base.specs.Limits.{Limits, base_of}
use Rattle.cc_base.specs.Paths.{In}
use Rattle.cc_base.specs.Places.{Place, Placed, arg, field, stream, ParentsFirst, at_place}
use Rattle.cc_model.specs.Canonical.{Within}
use Rattle.cc_model.specs.Core.{Cell, Program}
use Rattle.cc_model.specs.Runs.{params_of}
use Rattle.sym_expr.specs.declared.places.PlaceId.{PlaceId}
use Rattle.sym_expr.specs.AtomsSeen.{atoms_of}
use Rattle.sym_run.specs.declared.trace.Event.{Event}
use Rattle.sym_run.specs.Placing.{OfOneType, NamesAtom}
use Rattle.input_map.specs.declared.building.Assignment.{Assignment}
use Rattle.input_map.specs.Builds.{HasItsType}

-- the atom, where it is one of pointers
abbrev pub pointer_part : Atom → List Atom
pointer_part (same a b) = same a b ∷ []
pointer_part (differ a b) = differ a b ∷ []
pointer_part (at_most_zero g) = []
pointer_part (is_zero g) = []
pointer_part (not_zero g) = []

-- the pointer atoms of a list, in their order
unfoldable pub pointers_of : List Atom → List Atom
pointers_of [] = []
pointers_of (a ∷ l) = pointer_part a ++ pointers_of l

-- the place is that of a block of which a cell is among the list
abbrev pub HasCellIn : List Placed → ℕ → Type 0
HasCellIn l q = (id : ℕ) × (c : ℕ) × (ty : CellTy) × (slice_get l id ≡ Some (record { place = field q c; holds = ty }))

-- the number of a place: the solver's where it gives one, else the own one
abbrev pub number_for : CellTy → Option ℤ → Option ℤ → Option ℤ
number_for cell.Int (Some z) own = Some z
number_for cell.Int None own = own
number_for (cell.Ptr t) solved own = None

-- an assignment to the first n of the places: the solver's numbers o and else those of the input u, the classes, and the places
-- of the blocks of which a cell is among them
pub record IsChosen (all : List Placed) (n : ℕ) (u : Input) (base : ℤ) (o : List (Option ℤ)) (classes : List ℕ) (v : Assignment) : Type 0 where
  pub marks : v.classes ≡ classes
  pub each : length v.ints ≡ n
  pub numbers : (id : ℕ) (e : Placed) → id < n → slice_get all id ≡ Some e → slice_get v.ints id ≡ Some (number_for e.holds (get_or o id None) (at_place all u base id))
  pub touched : (t : PlaceId) → In t v.touched → HasCellIn (take n all) t.0
  pub parents : (id : ℕ) (e : Placed) (parent c : ℕ) → id < n → slice_get all id ≡ Some e → e.place ≡ field parent c → In (record { 0 = parent }) v.touched

-- the atoms taken at events, in order
unfoldable pub taken_of : List Event → List Atom
taken_of [] = []
taken_of (e ∷ l) = atoms_of (e.taken).atoms ++ taken_of l

-- ---- numbers

-- the value, where there is one, lies within the bounds
abbrev pub LiesWithin : Limits → Option ℤ → Type 0
LiesWithin b v = (z : ℤ) → v ≡ Some z → Within b z

-- so do the input's numbers at the places
abbrev pub LieWithin : Limits → List Placed → Input → Type 0
LieWithin b all u = (id : ℕ) (e : Placed) → slice_get all id ≡ Some e → e.holds ≡ cell.Int → LiesWithin b (at_place all u (base_of b) id)

-- the numbers of the first n places
pub record AreNumbers (all : List Placed) (n : ℕ) (u : Input) (base : ℤ) (o : List (Option ℤ)) (l : List (Option ℤ)) : Type 0 where
  pub each : length l ≡ n
  pub numbers : (id : ℕ) (e : Placed) → id < n → slice_get all id ≡ Some e → slice_get l id ≡ Some (number_for e.holds (get_or o id None) (at_place all u base id))

-- ---- blocks

-- the place of the block of which a place is a cell
abbrev pub block_of : Place → Option PlaceId
block_of (field q c) = Some (record { 0 = q })
block_of (arg i) = None
block_of (stream i) = None

-- the new list has the old one's, and also this one
pub record HasAlso (block : PlaceId) (old new : List PlaceId) : Type 0 where
  pub here : In block new
  pub kept : (t : PlaceId) → In t old → In t new
  pub only : (t : PlaceId) → In t new → In t old ⊎ (t ≡ block)

-- the blocks of which a cell is among the first n places
pub record AreBlocks (all : List Placed) (n : ℕ) (l : List PlaceId) : Type 0 where
  pub touched : (t : PlaceId) → In t l → HasCellIn (take n all) t.0
  pub parents : (id : ℕ) (e : Placed) (parent c : ℕ) → id < n → slice_get all id ≡ Some e → e.place ≡ field parent c → In (record { 0 = parent }) l

-- ---- classes

-- the places of the atom are below n
abbrev pub AtomBelow : ℕ → Atom → Type 0
AtomBelow n a = (x : ℕ) → In x (places_of_atom a) → x < n

-- the classes of n places, or the list contradicts itself
abbrev pub AreClassesIf : List Atom → ℕ → Option (List ℕ) → Type 0
AreClassesIf l n (Some classes) = AreClasses l n classes
AreClassesIf l n None = (k : ℕ) × Contradicts l k

-- the places of the list's atoms are below n
abbrev pub NamesPlaces : ℕ → List Atom → Type 0
NamesPlaces n l = (a : Atom) → In a l → AtomBelow n a

-- the atom compares no pointers of different types
abbrev pub ComparesOneType : List Placed → Atom → Type 0
ComparesOneType l (same a b) = OfOneType l a b
ComparesOneType l (differ a b) = OfOneType l a b
ComparesOneType l (at_most_zero g) = Unit {0}
ComparesOneType l (is_zero g) = Unit {0}
ComparesOneType l (not_zero g) = Unit {0}

-- ---- what is known

-- of the first n places of a run, of the condition c before an event and of the atoms d of an outcome there: what stands at
-- the places, that the atoms name these places and compare pointers of one type, that a block's place is asked to be no NULL
-- and to differ from another's of its type
pub record IsAsked (layouts : ℕ → List Cell) (params : List Cell) (all : List Placed) (n : ℕ) (c d : List Atom) : Type 0 where
  pub below : n ≤ length all
  pub parents : ParentsFirst all
  pub right : (id : ℕ) (e : Placed) → slice_get all id ≡ Some e → HasItsType layouts params all e.place e.holds
  pub different : (i j : ℕ) (e f : Placed) → slice_get all i ≡ Some e → slice_get all j ≡ Some f → e.place ≡ f.place → i ≡ j
  pub names : (a : Atom) → In a (c ++ d) → NamesAtom (take n all) a
  pub one_type : (a : Atom) → In a (c ++ d) → ComparesOneType all a
  pub touched : (q : ℕ) → HasCellIn (take n all) q → In (differ (at q) nothing) c
  pub separate : (q r : ℕ) (w x : Placed) → HasCellIn (take n all) q → HasCellIn (take n all) r → q ≢ r → slice_get all q ≡ Some w → slice_get all r ≡ Some x → w.holds ≡ x.holds
      → In (differ (at q) (at r)) c ⊎ In (differ (at r) (at q)) c

-- and of the input u, of which this is asked: it has a value at each place, its numbers lie within the bounds, and it meets the
-- condition
pub record IsAskedOf (p : Program) (b : Limits) (all : List Placed) (n : ℕ) (c d : List Atom) (u : Input) : Type 0 where
  pub asked : IsAsked p.layouts (params_of p) all n c d
  pub valued : (id : ℕ) → id < length all → IsSome (at_place all u (base_of b) id)
  pub within : LieWithin b all u
  pub own : Meets (at_place all u (base_of b)) c
