-- The traced domain: the plain domain with a form or a place beside each value, and with what each event asks of the input.
-- All of it is this project's own.
use Rattle.std.specs.Prelude.{ℕ, zero, suc, ℤ, pos, negsuc, Bool, true, false, ◌||◌, List, [], ◌∷◌, ◌++◌, length, map, Option, Some, None, slice_get, slice_set, nat_eq, nat_lt, if◌then◌else◌}
use Rattle.cc_base.specs.declared.outcomes.Outcome.{Outcome}
use Rattle.cc_base.specs.declared.outcomes.Outcome.TheVariants.{Zero, High, Low, Plain, False, True, Object}
use Rattle.cc_base.specs.declared.cells.CellTy.{CellTy}
use Rattle.cc_base.specs.declared.cells.CellTy.TheVariants as cell
use Rattle.cc_base.specs.declared.forms.Multiple.{Multiple}
use Rattle.cc_base.specs.Forms.{Form, Side, nothing, at as at_place, Atom, at_most_zero, is_zero, not_zero, same, differ}
use Rattle.cc_base.specs.Places.{Placed, arg, field, stream}
use Rattle.cc_model.specs.declared.terms.TermKind.{TermKind}
use Rattle.cc_model.specs.declared.terms.TermKind.TheVariants as kind
use Rattle.cc_model.specs.Core as tree
use Rattle.cc_model.specs.Core.{Cell, int_cell, ptr_cell, Layout, Op, Cmp}
use Rattle.cc_model.specs.Domain.{Act, act_arith, act_divisor, act_negate, act_compare, act_test, act_access, act_index, Acted, Made, Domain}
use Rattle.cc_model.specs.Plain as base
use Rattle.cc_model.specs.Plain.{Value, num, null, at, Obj, block, made, number_of, or_none}
use Rattle.cc_model.specs.FormOperations.{Forms}

-- ---- values

-- what stands beside a value: the form of a number; the place of a pointer, with the type to which it points; or nothing,
-- beside a pointer without place
pub data Shadow : Type 0 where
  form : (g : Form) → Shadow
  place : (p target : ℕ) → Shadow
  none : Shadow

pub record Traced : Type 0 where
  pub plain : Value
  pub shadow : Shadow

-- where a cell stands, whatever the input's addresses are: in an object that the run made, or in a touched block, by its rank
pub data Spot : Type 0 where
  in_made : (n c : ℕ) → Spot
  in_touched : (rank c : ℕ) → Spot
  nowhere : Spot

-- the spot to which a pointer points, where these blocks were touched
unfoldable pub spot_of : Value → List ℕ → Spot
spot_of (at (made n) c) touched = in_made n c
spot_of (at (block a) c) touched = in_touched (base.rank a touched) c
spot_of _ touched = nowhere

-- ---- the state

-- a touched block: the place by which it was first accessed, its type, and what stands beside its cells
pub record Touched : Type 0 where
  pub first : ℕ
  pub type : ℕ
  pub shadows : List Shadow

-- beside the memory: the shadows of the cells of made objects and of touched blocks, these by rank, and the places so far.
-- Places are numbered from 0: the parameters' cells, then, in the order of the run, the cells of each block as it is
-- touched and each number that CREST_int takes.
pub record Shadows : Type 0 where
  pub made : List (List Shadow)
  pub touched : List Touched
  pub places : List Placed

pub record Data : Type 0 where
  pub plain : base.Data
  pub shadows : Shadows

-- ---- events

-- an outcome with the atoms that hold of exactly the inputs that take it
pub record Choice : Type 0 where
  pub outcome : Outcome
  pub atoms : List Atom

-- what an event asks of the input: nothing; one of these choices, ascending by outcome; or it belongs to a term, where the
-- run goes on with plain numbers
pub data Asked : Type 0 where
  asks_nothing : Asked
  one_of : (choices : List Choice) → Asked
  term : (kind : TermKind) → Asked

-- an event: its outcome, what it asks, and the places that stood before it
pub record Event : Type 0 where
  pub outcome : Outcome
  pub asked : Asked
  pub places : List Placed

-- ---- forms

unfoldable pub has_terms : List Multiple → Bool
has_terms [] = false
has_terms (t ∷ l) = true

-- a number depends on the input where its form has a term
unfoldable pub depends : Form → Bool
depends g = has_terms g.terms

-- what comes of an operation on numbers: a plain number where no operand depends; else a form, or a term
pub data Formed : Type 0 where
  plain_number : Formed
  formed : (g : Form) → Formed
  termed : (kind : TermKind) → Formed

unfoldable pub or_wide : Option Form → Formed
or_wide None = termed kind.Wide
or_wide (Some g) = formed g

-- whether sides are one
unfoldable pub same_side : Side → Side → Bool
same_side nothing nothing = true
same_side (at_place p) (at_place q) = nat_eq p q
same_side _ _ = false

unfoldable pub two_choices : Atom → Atom → List Choice
two_choices t e = record { outcome = False; atoms = e ∷ [] } ∷ record { outcome = True; atoms = t ∷ [] } ∷ []

-- ---- events on pointers

-- pointers are the same, or differ
unfoldable pub same_choices : Cmp → Side → Side → List Choice
same_choices tree.ne a b = two_choices (differ a b) (same a b)
same_choices _ a b = two_choices (same a b) (differ a b)

-- a side is asked of against another one
unfoldable pub sides_asked : Cmp → Option Side → Option Side → Asked
sides_asked o (Some a) (Some b) = if same_side a b then asks_nothing else one_of (same_choices o a b)
sides_asked o _ _ = asks_nothing

-- cell 0 of a touched block has the block's first place where the type of the block is that to which the pointer points
unfoldable pub first_if : ℕ → Option Touched → Option Side
first_if t None = None
first_if t (Some b) = if nat_eq b.type t then Some (at_place b.first) else None

unfoldable pub side_at : ℕ → Spot → List Touched → Option Side
side_at t (in_touched rank zero) l = first_if t (slice_get l rank)
side_at t _ l = None

-- a pointer without place, against one to the type t
unfoldable pub side_without : ℕ → Value → List ℕ → List Touched → Option Side
side_without t null touched l = Some nothing
side_without t v touched l = side_at t (spot_of v touched) l

-- two places: pointers to different types are compared by no checked program; there the run would go on without asking
unfoldable pub places_asked : Cmp → ℕ → ℕ → ℕ → ℕ → Asked
places_asked o p t q u = if nat_eq t u then sides_asked o (Some (at_place p)) (Some (at_place q)) else term kind.Wide

-- two pointers: nothing is asked where neither has a place
unfoldable pub pointers_asked : Cmp → Traced → Traced → List ℕ → List Touched → Asked
pointers_asked o a b touched l = elim a.shadow [
  | place p t ↦ elim b.shadow [ place q u ↦ places_asked o p t q u | _ ↦ sides_asked o (Some (at_place p)) (side_without t b.plain touched l) ]
  | _ ↦ elim b.shadow [ place q u ↦ sides_asked o (side_without u a.plain touched l) (Some (at_place q)) | _ ↦ asks_nothing ]
]

unfoldable pub is_first : ℕ → List Touched → Bool
is_first p [] = false
is_first p (b ∷ l) = nat_eq p b.first || is_first p l

-- the letters of the touched blocks of the target type, from rank n on
unfoldable pub letters : ℕ → ℕ → ℕ → List Touched → List Choice
letters p t n [] = []
letters p t n (b ∷ l) =
    if nat_eq t b.type then record { outcome = Object n; atoms = same (at_place p) (at_place b.first) ∷ [] } ∷ letters p t (suc n) l
    else letters p t (suc n) l

-- it differs from each touched block of the target type
unfoldable pub differs : ℕ → ℕ → List Touched → List Atom
differs p t [] = []
differs p t (b ∷ l) = if nat_eq t b.type then differ (at_place p) (at_place b.first) ∷ differs p t l else differs p t l

-- NULL, a touched block, or the next one
unfoldable pub access_choices : ℕ → ℕ → List Touched → List Choice
access_choices p t l =
    record { outcome = Zero; atoms = same (at_place p) nothing ∷ [] }
    ∷ (letters p t 0 l ++ record { outcome = Object (length l); atoms = differ (at_place p) nothing ∷ differs p t l } ∷ [])

-- an access through a place by which a block was first touched asks nothing, nor does one through a pointer without place
unfoldable pub access_asked : Shadow → List Touched → Asked
access_asked (place p t) l = if is_first p l then asks_nothing else one_of (access_choices p t l)
access_asked _ l = asks_nothing

-- a pointer to the reached block has the place by which that was first touched, and the block's type
unfoldable pub first_of : Option Touched → Shadow → Shadow
first_of (Some b) (place p t) = place b.first b.type
first_of _ s = s

unfoldable pub reached_shadow : Outcome → Shadow → List Touched → Shadow
reached_shadow (Object n) s l = first_of (slice_get l n) s
reached_shadow _ s l = s

-- ---- memory

unfoldable pub cell_ty : Cell → CellTy
cell_ty int_cell = cell.Int
cell_ty (ptr_cell t) = cell.Ptr (record { 0 = t })

unfoldable pub touched_shadows : Option Touched → List Shadow
touched_shadows None = []
touched_shadows (Some b) = b.shadows

unfoldable pub shadow_at : Spot → Shadows → Shadow
shadow_at (in_made n c) s = or_none none (slice_get (or_none [] (slice_get s.made n)) c)
shadow_at (in_touched r c) s = or_none none (slice_get (touched_shadows (slice_get s.touched r)) c)
shadow_at nowhere s = none

unfoldable pub set_touched : List Touched → ℕ → ℕ → Shadow → List Touched
set_touched [] r c v = []
set_touched (b ∷ l) zero c v = (record b { shadows = slice_set b.shadows c v }) ∷ l
set_touched (b ∷ l) (suc r) c v = b ∷ set_touched l r c v

-- a cell that is written has what stands beside the value
unfoldable pub with_shadow : Spot → Shadow → Shadows → Shadows
with_shadow (in_made n c) v s = record s { made = slice_set s.made n (slice_set (or_none [] (slice_get s.made n)) c v) }
with_shadow (in_touched r c) v s = record s { touched = set_touched s.touched r c v }
with_shadow nowhere v s = s

unfoldable pub nil : Traced
nil = record { plain = null; shadow = none }

unfoldable pub load : Traced → Data → Traced
load p d = record { plain = base.load p.plain d.plain; shadow = shadow_at (spot_of p.plain d.plain.touched) d.shadows }

unfoldable pub store : Traced → Traced → Data → Data
store p v d = record { plain = base.store p.plain v.plain d.plain; shadows = with_shadow (spot_of p.plain d.plain.touched) v.shadow d.shadows }

-- a field or an element is never of its object's type, so a pointer to it has no place
unfoldable pub offset : Traced → ℕ → Traced
offset v n = record { plain = base.offset v.plain n; shadow = none }

-- the places of a block's cells, and their shadows, numbered from n on
unfoldable pub field_places : ℕ → ℕ → List Cell → List Placed
field_places p c [] = []
field_places p c (k ∷ cs) = record { place = field p c; holds = cell_ty k } ∷ field_places p (suc c) cs

unfoldable pub arg_places : ℕ → List Cell → List Placed
arg_places i [] = []
arg_places i (k ∷ cs) = record { place = arg i; holds = cell_ty k } ∷ arg_places (suc i) cs

module _ (f : Forms) where
  unfoldable pub number : ℤ → Traced
  number z = record { plain = num z; shadow = form (f.number z) }

  unfoldable pub form_of : Shadow → Form
  form_of (form g) = g
  form_of _ = f.number (pos 0)

  -- ---- sums and their kin

  -- a product: one of two numbers that depend is a term
  unfoldable pub product_of : Bool → Bool → Form → Form → Formed
  product_of true true a b = termed kind.Product
  product_of true false a b = or_wide (f.scale b.constant a)
  product_of false d a b = or_wide (f.scale a.constant b)

  unfoldable pub result_of : Op → Form → Form → Formed
  result_of tree.add a b = or_wide (f.sum a b)
  result_of tree.sub a b = or_wide (f.difference a b)
  result_of tree.mul a b = product_of (depends a) (depends b) a b
  result_of tree.quot a b = termed kind.Quotient
  result_of tree.rem a b = termed kind.Quotient

  unfoldable pub formed_of : Op → Form → Form → Formed
  formed_of o a b = if depends a || depends b then result_of o a b else plain_number

  unfoldable pub negated_of : Form → Formed
  negated_of a = if depends a then or_wide (f.scale (negsuc 0) a) else plain_number

  -- what stands beside the result
  unfoldable pub shadow_of : Formed → Value → Shadow
  shadow_of (formed g) v = form g
  shadow_of _ v = form (f.number (number_of v))

  -- ---- events on numbers

  -- above 2147483647, below -2147483648, or between
  unfoldable pub fit_choices : Form → List Choice
  fit_choices g =
      record { outcome = High; atoms = at_most_zero (f.shift (f.opposite g) (pos 2147483648)) ∷ [] }
      ∷ record { outcome = Low; atoms = at_most_zero (f.shift g (pos 2147483649)) ∷ [] }
      ∷ record { outcome = Plain; atoms = at_most_zero (f.shift g (negsuc 2147483646)) ∷ at_most_zero (f.shift (f.opposite g) (negsuc 2147483647)) ∷ [] }
      ∷ []

  unfoldable pub fit_asked : Formed → Asked
  fit_asked plain_number = asks_nothing
  fit_asked (formed g) = one_of (fit_choices g)
  fit_asked (termed k) = term k

  -- a form against 0, or the opposite of it
  unfoldable pub compare_atom : Cmp → Bool → Form → Atom
  compare_atom tree.eq true g = is_zero g
  compare_atom tree.eq false g = not_zero g
  compare_atom tree.ne true g = not_zero g
  compare_atom tree.ne false g = is_zero g
  compare_atom tree.lt true g = at_most_zero (f.shift g (pos 1))
  compare_atom tree.lt false g = at_most_zero (f.opposite g)
  compare_atom tree.gt true g = at_most_zero (f.shift (f.opposite g) (pos 1))
  compare_atom tree.gt false g = at_most_zero g
  compare_atom tree.le true g = at_most_zero g
  compare_atom tree.le false g = at_most_zero (f.shift (f.opposite g) (pos 1))
  compare_atom tree.ge true g = at_most_zero (f.opposite g)
  compare_atom tree.ge false g = at_most_zero (f.shift g (pos 1))

  unfoldable pub difference_asked : Cmp → Option Form → Asked
  difference_asked o None = term kind.Wide
  difference_asked o (Some g) = one_of (two_choices (compare_atom o true g) (compare_atom o false g))

  unfoldable pub numbers_asked : Cmp → Form → Form → Asked
  numbers_asked o a b = if depends a || depends b then difference_asked o (f.difference a b) else asks_nothing

  unfoldable pub compare_asked : Cmp → Traced → Traced → Data → Asked
  compare_asked o a b d = elim a.shadow [
    | form g ↦ elim b.shadow [ form h ↦ numbers_asked o g h | _ ↦ asks_nothing ]
    | _ ↦ elim b.shadow [ form h ↦ asks_nothing | _ ↦ pointers_asked o a b d.plain.touched d.shadows.touched ]
  ]

  unfoldable pub test_asked : Shadow → Asked
  test_asked (form g) = if depends g then one_of (two_choices (not_zero g) (is_zero g)) else asks_nothing
  test_asked (place p t) = one_of (two_choices (differ (at_place p) nothing) (same (at_place p) nothing))
  test_asked none = asks_nothing

  -- a quotient with an operand that depends covers its divisor event
  unfoldable pub divisor_asked : Form → Form → Asked
  divisor_asked a b = if depends a || depends b then term kind.Quotient else asks_nothing

  unfoldable pub index_asked : Form → Asked
  index_asked i = if depends i then term kind.Index else asks_nothing

  unfoldable pub asked_of : Act Traced → Data → Asked
  asked_of (act_arith o a b) d = fit_asked (formed_of o (form_of a.shadow) (form_of b.shadow))
  asked_of (act_divisor a b) d = divisor_asked (form_of a.shadow) (form_of b.shadow)
  asked_of (act_negate a) d = fit_asked (negated_of (form_of a.shadow))
  asked_of (act_compare o a b) d = compare_asked o a b d
  asked_of (act_test a) d = test_asked a.shadow
  asked_of (act_access a) d = access_asked a.shadow d.shadows.touched
  asked_of (act_index p i n w) d = index_asked (form_of i.shadow)

  -- ---- the domain

  unfoldable pub cell_shadows : ℕ → List Cell → List Shadow
  cell_shadows n [] = []
  cell_shadows n (int_cell ∷ cs) = form (f.of n) ∷ cell_shadows (suc n) cs
  cell_shadows n (ptr_cell t ∷ cs) = place n t ∷ cell_shadows (suc n) cs

  unfoldable pub zero_shadow : Cell → Shadow
  zero_shadow int_cell = form (f.number (pos 0))
  zero_shadow (ptr_cell t) = none

  unfoldable pub make : Layout → Data → Made Traced Data
  make t d = let r = base.make t d.plain in record {
    value = record { plain = r.value; shadow = none };
    after = record { plain = r.after; shadows = record d.shadows { made = d.shadows.made ++ map zero_shadow t.cells ∷ [] } };
  }

  -- the next number of the stream has its place
  unfoldable pub take : Traced → Data → Data
  take p d = record {
    plain = base.take p.plain d.plain;
    shadows = with_shadow (spot_of p.plain d.plain.touched) (form (f.of (length d.shadows.places)))
        (record d.shadows { places = d.shadows.places ++ record { place = stream d.plain.count; holds = cell.Int } ∷ [] });
  }

  module _ (layout : ℕ → List Cell) where
    -- a block comes to the touched ones
    unfoldable pub touch : ℕ → ℕ → Shadows → Shadows
    touch p t s = record {
      made = s.made;
      touched = s.touched ++ record { first = p; type = t; shadows = cell_shadows (length s.places) (layout t) } ∷ [];
      places = s.places ++ field_places p 0 (layout t);
    }

    -- an access through a place that gives the next letter touches a block
    unfoldable pub touch_by : Outcome → Shadow → Shadows → Shadows
    touch_by (Object n) (place p t) s = if nat_lt n (length s.touched) then s else touch p t s
    touch_by _ _ s = s

    -- what stands beside the value that an operation gives
    unfoldable pub value_shadow : Act Traced → Outcome → Value → Shadows → Shadow
    value_shadow (act_arith o a b) t v s = shadow_of (formed_of o (form_of a.shadow) (form_of b.shadow)) v
    value_shadow (act_negate a) t v s = shadow_of (negated_of (form_of a.shadow)) v
    value_shadow (act_access a) t v s = reached_shadow t a.shadow s.touched
    value_shadow _ t v s = none

    unfoldable pub after_shadows : Act Traced → Outcome → Shadows → Shadows
    after_shadows (act_access a) t s = touch_by t a.shadow s
    after_shadows _ t s = s

    unfoldable pub plain_of : Act Traced → Act Value
    plain_of (act_arith o a b) = act_arith o a.plain b.plain
    plain_of (act_divisor a b) = act_divisor a.plain b.plain
    plain_of (act_negate a) = act_negate a.plain
    plain_of (act_compare o a b) = act_compare o a.plain b.plain
    plain_of (act_test a) = act_test a.plain
    plain_of (act_access a) = act_access a.plain
    plain_of (act_index p i n w) = act_index p.plain i.plain n w

    -- the plain operation, with what stands beside it
    unfoldable pub act : Act Traced → Data → Acted Traced Data Event
    act a d =
        let r = base.act (plain_of a) d.plain in
        let s = after_shadows a r.event d.shadows in
        record {
          event = record { outcome = r.event; asked = asked_of a d; places = d.shadows.places };
          value = record { plain = r.value; shadow = value_shadow a r.event r.value s };
          after = record { plain = r.after; shadows = s };
        }

    abbrev pub traced : Domain
    traced = record {
      V = Traced;
      D = Data;
      E = Event;
      outcome = λ e. e.outcome;
      act = act;
      number = number;
      nil = nil;
      offset = offset;
      global = λ n. record { plain = base.plain.global n; shadow = none };
      load = load;
      store = store;
      make = make;
      take = take;
    }
