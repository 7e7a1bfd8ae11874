-- Two inputs side by side: what relates the values, the memory and the touched blocks of their traced runs.
use Rattle.std.proofs.Common.{◌≡◌, ◌≢◌, ℕ, zero, suc, ◌+◌, ◌*◌, ◌<◌, ℤ, pos, negsuc, neg_ℤ, ◌+ℤ◌, ◌-ℤ◌, ◌*ℤ◌, Bool, true, false, not, ◌&&◌, ◌||◌, ◌⊎◌, ◌↔◌, inl, inr, List, [], ◌∷◌, ◌++◌, length, map, Option, IsSome, Some, None, unwrap_or, refl, sym, ap, ap₂, ◌∙◌, subst, arith, slice_get, slice_set, nat_eq, nat_lt, if◌then◌else◌, append-nil, append_assoc, length-append}
use Rattle.std.proofs.lemmas.Int.{ints}
use Rattle.std.proofs.lemmas.Bool.Decides.{eqb_tells}
use Rattle.std.proofs.lemmas.Bool.{eqb-true, eq-eqb}
use Rattle.cc_base.specs.declared.inputs.Input.{Input}
use Rattle.cc_base.specs.declared.outcomes.Outcome.{Outcome}
use Rattle.cc_base.specs.declared.outcomes.Outcome.TheVariants.{Zero, Plain, Object}
use Rattle.cc_base.specs.declared.forms.Multiple.{Multiple}
use Rattle.cc_base.specs.Forms.{Form, Side, nothing, Atom, at_most_zero, is_zero, not_zero, same, differ}
use Rattle.cc_base.specs.Forms as asked
use Rattle.cc_base.specs.Holds.{total, value_of_form, value_of_side, places_of_side, places_of_atom, or_zero, Holds, Meets, AllValued}
use Rattle.cc_base.specs.Paths.{In}
use Rattle.cc_base.specs.declared.cells.CellTy.TheVariants as cell
use Rattle.cc_base.specs.Places.{Placed, field, stream, ParentsFirst, cell_at, cell_behind, value_there, at_place}
use Rattle.cc_model.specs.Core as tree
use Rattle.cc_model.specs.Core.{Cell, int_cell, ptr_cell, Layout, Op, Cmp}
use Rattle.cc_model.specs.declared.terms.TermKind.{TermKind}
use Rattle.cc_model.specs.declared.terms.TermKind.TheVariants as kind
use Rattle.cc_model.specs.Domain.{Act, act_arith, act_divisor, act_negate, act_compare, act_test, act_access, act_index, Acted}
use Rattle.cc_model.specs.Plain as base
use Rattle.cc_model.specs.Plain.{Value, num, null, at, Obj, block, made, or_none, has, number_of, nat_of, fit_of, fitting, apply, decision_of, compared, is_truth}
use Rattle.cc_model.specs.FormOperations.{Forms, Laws, places_of_form}
use Rattle.cc_model.specs.Traced as on
use Rattle.cc_model.specs.Traced.{Traced, Data, Shadow, form, place, none, Spot, in_made, in_touched, nowhere, spot_of, Touched, Shadows, Choice, Asked, asks_nothing, one_of, term, Event, Formed, plain_number, formed, termed, traced}
use Rattle.cc_laws.proofs.Ranks.{Distinct, has_append, bool_cases, true_or, or_right, rank_here, rank_next, rank_out, rank_in, rank_inj, has_false, has_other, distinct_add}
use Rattle.std.specs.Option.{option_and_then}
use Rattle.sym_expr.proofs.PlaceLaws.{at_place-append, at_place-is, ParentsFirst-push}
use Rattle.sym_expr.proofs.AtomLaws.{value-same}
use Rattle.sym_expr.proofs.FormLaws.{value-without_terms}
use Rattle.std.proofs.Math.IntN.{*ℤ_comm}
use Rattle.cc_laws.proofs.Outcomes.{same_or_not}
use Rattle.cc_laws.proofs.Related.{SameAct, Gives, Related}
use Rattle.cc_laws.proofs.Numbers.{Each, Some_of, Told, fit_told, compare_told, test_told, two_told, yes_it_is, it_is_not, all_valued}

-- ---- one input

-- what a pointer cell to the type t holds: NULL, or the address of a block of that type
abbrev pub Points : (ℕ → ℕ) → (ℕ → Type 0) → ℕ → Option ℤ → Value → Type 0
Points type named t o v = ((o ≡ Some (pos 0)) × (v ≡ null)) ⊎ ((n : ℕ) × (o ≡ Some (pos (suc n))) × (v ≡ at (block (suc n)) 0) × (type (suc n) ≡ t) × named (suc n))

-- the number in a cell, and its value
abbrev pub IsCell : (ℕ → ℕ) → (ℕ → Type 0) → Cell → Option ℤ → Value → Type 0
IsCell type named int_cell o v = (z : ℤ) × (o ≡ Some z) × (v ≡ num z)
IsCell type named (ptr_cell t) o v = Points type named t o v

-- the values of the cells from an address on
abbrev pub AreCells : (ℕ → ℕ) → (ℕ → Type 0) → List ℤ → ℕ → List Cell → List Value → Type 0
AreCells type named zs a [] [] = Unit {0}
AreCells type named zs a (c ∷ cs) (v ∷ vs) = IsCell type named c (cell_at zs (pos a)) v × AreCells type named zs (suc a) cs vs
AreCells type named zs a _ _ = ⊥

-- what an input has at the start: each block that a cell names has a type, and cells of that type; the parameters' cells are
-- objects of one cell each
pub record Typed (layout : ℕ → List Cell) (params : List Cell) (globals : List Value) (b : ℤ) (i : Input) (d : base.Data) : Type 1 where
  pub type : ℕ → ℕ
  pub named : ℕ → Type 0
  pub cells : (n : ℕ) → named n → AreCells type named i.cells n (layout (type n)) (d.blocks n)
  pub values : List Value
  pub made : d.made ≡ globals ∷ map (λ v. v ∷ []) values
  pub arguments : AreCells type named i.cells 1 params values
  pub touched : d.touched ≡ []
  pub stream : d.stream ≡ i.stream
  pub base_value : d.base ≡ b
  pub count : d.count ≡ 0

-- a block that both runs touched, in the one input and in the other, with its first place and its type
pub record Key : Type 0 where
  pub name : ℕ
  pub other : ℕ
  pub first : ℕ
  pub type : ℕ

-- the blocks that both runs touched, and the places so far
pub record World : Type 0 where
  pub keys : List Key
  pub places : List Placed
  pub parents : ParentsFirst places

abbrev pub Le : World → World → Type 0
Le w w' = (m : List Key) × (q : List Placed) × (w'.keys ≡ w.keys ++ m) × (w'.places ≡ w.places ++ q)

pub le_same : (w : World) → Le w w
le_same w = ([], [], sym (append-nil w.keys), sym (append-nil w.places))

pub le_trans : (w w' w'' : World) → Le w w' → Le w' w'' → Le w w''
le_trans w w' w'' i j = (i.0 ++ j.0, i.1 ++ j.1, j.2 ∙ ap (λ l. l ++ j.0) i.2 ∙ append_assoc w.keys i.0 j.0, j.3 ∙ ap (λ l. l ++ j.1) i.3 ∙ append_assoc w.places i.1 j.1)

in_more : {A : Type 0} → (k : A) (w m : List A) → In k w → In k (w ++ m)
in_more k [] m i = absurd i
in_more k (j ∷ w) m (inl e) = inl e
in_more k (j ∷ w) m (inr i) = inr (in_more k w m i)

pub in_later : (k : Key) (w w' : World) → Le w w' → In k w.keys → In k w'.keys
in_later k w w' le i = subst (In k) (sym le.2) (in_more k w.keys le.0 i)

abbrev pub names : List Key → List ℕ
names l = map (λ k. k.name) l

abbrev pub others : List Key → List ℕ
others l = map (λ k. k.other) l

length_later : (w w' : World) → Le w w' → (n : ℕ) → n < length w.places → n < length w'.places
length_later w w' le n h = let e = ap length le.3 in let a = length-append w.places le.1 in omega (arith, e, a, h)

value_later : (i : Input) (b : ℤ) (w w' : World) → Le w w' → (p : ℕ) → p < length w.places → at_place w'.places i b p ≡ at_place w.places i b p
value_later i b w w' le p h = ap (λ l. at_place l i b p) le.3 ∙ at_place-append w.places le.1 i b p w.parents h

-- the atoms name the first n places alone
abbrev pub AtomsBelow : ℕ → List Atom → Type 0
AtomsBelow n [] = Unit {0}
AtomsBelow n (a ∷ l) = ((p : ℕ) → In p (places_of_atom a) → p < n) × AtomsBelow n l

abbrev pub ChoicesBelow : ℕ → List Choice → Type 0
ChoicesBelow n [] = Unit {0}
ChoicesBelow n (c ∷ cs) = AtomsBelow n c.atoms × ChoicesBelow n cs

abbrev pub AskedBelow : ℕ → Asked → Type 0
AskedBelow n asks_nothing = Unit {0}
AskedBelow n (one_of cs) = ChoicesBelow n cs
AskedBelow n (term k) = Unit {0}

module _ (layout : ℕ → List Cell) (params : List Cell) (globals : List Value) (b : ℤ) (gi hi : Input) (gd hd : base.Data) (tg : Typed layout params globals b gi gd) (th : Typed layout params globals b hi hd) where
  -- the values of places at the two inputs
  abbrev pub at_g : World → ℕ → Option ℤ
  at_g w p = at_place w.places gi b p

  abbrev pub at_h : World → ℕ → Option ℤ
  at_h w p = at_place w.places hi b p

  abbrev pub form_g : World → Form → ℤ
  form_g w a = value_of_form (or_zero (at_g w)) a

  abbrev pub form_h : World → Form → ℤ
  form_h w a = value_of_form (or_zero (at_h w)) a

  -- a place that the run knows, with a value at the other input and at its own
  pub record Known (w : World) (p : ℕ) : Type 0 where
    pub below : p < length w.places
    pub here : IsSome (at_g w p)
    pub there : IsSome (at_h w p)

  abbrev pub KnownForm : World → Form → Type 0
  KnownForm w a = (p : ℕ) → In p (places_of_form a) → Known w p

  -- ---- values

  -- two locations
  pub data SpotAt (w : World) (x y : Value) : Type 0 where
    spot_made : (n c : ℕ) → x ≡ at (made n) c → y ≡ at (made n) c → SpotAt w x y
    spot_block : (k : Key) (c : ℕ) → In k w.keys → x ≡ at (block k.name) c → y ≡ at (block k.other) c → SpotAt w x y

  -- the values of a place that holds a pointer
  pub record PlaceAt (w : World) (p t : ℕ) (x y : Value) : Type 0 where
    pub below : p < length w.places
    pub here : Points tg.type tg.named t (at_g w p) x
    pub there : Points th.type th.named t (at_h w p) y

  pub record FormAt (w : World) (a : Form) (x y : Value) : Type 0 where
    pub here : x ≡ num (form_g w a)
    pub there : y ≡ num (form_h w a)
    pub known : KnownForm w a

  -- two values beside one shadow
  abbrev pub Fits : World → Shadow → Value → Value → Type 0
  Fits w (form a) x y = FormAt w a x y
  Fits w (place p t) x y = PlaceAt w p t x y
  Fits w none x y = ((x ≡ null) × (y ≡ null)) ⊎ SpotAt w x y

  abbrev pub ValueAt : World → Traced → Traced → Type 0
  ValueAt w v u = (v.shadow ≡ u.shadow) × Fits w v.shadow v.plain u.plain

  abbrev pub LocAt : World → Traced → Traced → Type 0
  LocAt w v u = (v.shadow ≡ u.shadow) × Fits w v.shadow v.plain u.plain × SpotAt w v.plain u.plain

  known_later : (w w' : World) → Le w w' → (p : ℕ) → Known w p → Known w' p
  known_later w w' le p k = record {
    below = length_later w w' le p k.below;
    here = subst IsSome (sym (value_later gi b w w' le p k.below)) k.here;
    there = subst IsSome (sym (value_later hi b w w' le p k.below)) k.there;
  }

  spot_later : (w w' : World) (x y : Value) → Le w w' → SpotAt w x y → SpotAt w' x y
  spot_later w w' x y le (spot_made n c i j) = spot_made n c i j
  spot_later w w' x y le (spot_block k c m i j) = spot_block k c (in_later k w w' le m) i j

  place_later : (w w' : World) (p t : ℕ) (x y : Value) → Le w w' → PlaceAt w p t x y → PlaceAt w' p t x y
  place_later w w' p t x y le k = record {
    below = length_later w w' le p k.below;
    here = subst (λ o. Points tg.type tg.named t o x) (sym (value_later gi b w w' le p k.below)) k.here;
    there = subst (λ o. Points th.type th.named t o y) (sym (value_later hi b w w' le p k.below)) k.there;
  }

  form_later : (i : Input) (w w' : World) → Le w w' → (a : Form) → ((p : ℕ) → In p (places_of_form a) → p < length w.places) → value_of_form (or_zero (at_place w'.places i b)) a ≡ value_of_form (or_zero (at_place w.places i b)) a
  form_later i w w' le a k = value-same (or_zero (at_place w'.places i b)) (or_zero (at_place w.places i b)) a (λ p m. ap (λ o. unwrap_or o (pos 0)) (value_later i b w w' le p (k p m)))

  pub fits_later : (w w' : World) (s : Shadow) (x y : Value) → Le w w' → Fits w s x y → Fits w' s x y
  fits_later w w' (form a) x y le k = record {
    here = k.here ∙ ap num (sym (form_later gi w w' le a (λ p i. (k.known p i).below)));
    there = k.there ∙ ap num (sym (form_later hi w w' le a (λ p i. (k.known p i).below)));
    known = λ p i. known_later w w' le p (k.known p i);
  }
  fits_later w w' (place p t) x y le k = place_later w w' p t x y le k
  fits_later w w' none x y le (inl k) = inl k
  fits_later w w' none x y le (inr k) = inr (spot_later w w' x y le k)

  pub later_value : (w w' : World) (v u : Traced) → Le w w' → ValueAt w v u → ValueAt w' v u
  later_value w w' v u le k = (k.0, fits_later w w' v.shadow v.plain u.plain le k.1)

  pub later_location : (w w' : World) (v u : Traced) → Le w w' → LocAt w v u → LocAt w' v u
  later_location w w' v u le k = (k.0, fits_later w w' v.shadow v.plain u.plain le k.1, spot_later w w' v.plain u.plain le k.2)

  -- ---- memory

  -- the cells of an object at the two inputs, beside their shadows
  abbrev pub CellsAt : World → List Shadow → List Value → List Value → Type 0
  CellsAt w [] [] [] = Unit {0}
  CellsAt w (s ∷ ss) (x ∷ xs) (y ∷ ys) = Fits w s x y × CellsAt w ss xs ys
  CellsAt w _ _ _ = ⊥

  abbrev pub MadeAt : World → List (List Shadow) → List (List Value) → List (List Value) → Type 0
  MadeAt w [] [] [] = Unit {0}
  MadeAt w (s ∷ ss) (x ∷ xs) (y ∷ ys) = CellsAt w s x y × MadeAt w ss xs ys
  MadeAt w _ _ _ = ⊥

  -- the touched blocks: first places, types and cells
  abbrev pub BlocksAt : World → List Key → List Touched → (ℕ → List Value) → (ℕ → List Value) → Type 0
  BlocksAt w [] [] bx by = Unit {0}
  BlocksAt w (k ∷ ks) (c ∷ l) bx by = (c.first ≡ k.first) × (c.type ≡ k.type) × CellsAt w c.shadows (bx k.name) (by k.other) × BlocksAt w ks l bx by
  BlocksAt w _ _ bx by = ⊥

  -- the state of the two runs. The first places of touched blocks name pairwise different blocks in both inputs; blocks that
  -- were not touched are as at the start.
  pub record Lock (w : World) (x y : Data) : Type 0 where
    pub shadows : x.shadows ≡ y.shadows
    pub places : x.shadows.places ≡ w.places
    pub touched_g : x.plain.touched ≡ names w.keys
    pub touched_h : y.plain.touched ≡ others w.keys
    pub distinct_g : Distinct (names w.keys)
    pub distinct_h : Distinct (others w.keys)
    pub firsts : (k : Key) → In k w.keys → PlaceAt w k.first k.type (at (block k.name) 0) (at (block k.other) 0)
    pub blocks : BlocksAt w w.keys x.shadows.touched x.plain.blocks y.plain.blocks
    pub away_g : (n : ℕ) → has n (names w.keys) ≡ false → x.plain.blocks n ≡ gd.blocks n
    pub away_h : (n : ℕ) → has n (others w.keys) ≡ false → y.plain.blocks n ≡ hd.blocks n
    pub made : MadeAt w x.shadows.made x.plain.made y.plain.made
    pub stream_g : x.plain.stream ≡ gi.stream
    pub stream_h : y.plain.stream ≡ hi.stream
    pub base_g : x.plain.base ≡ b
    pub base_h : y.plain.base ≡ b
    pub count : x.plain.count ≡ y.plain.count

  -- ---- cells

  pub null_at : (w : World) → ValueAt w on.nil on.nil
  unfolding on.nil
  null_at w = (refl, inl (refl, refl))

  pub get_cell : (w : World) (ss : List Shadow) (xs ys : List Value) (c : ℕ) → CellsAt w ss xs ys → Fits w (or_none none (slice_get ss c)) (or_none null (slice_get xs c)) (or_none null (slice_get ys c))
  unfolding or_none
  get_cell w [] [] [] c k = inl (refl, refl)
  get_cell w (s ∷ ss) (x ∷ xs) (y ∷ ys) zero k = k.0
  get_cell w (s ∷ ss) (x ∷ xs) (y ∷ ys) (suc c) k = get_cell w ss xs ys c k.1
  get_cell w [] (x ∷ xs) ys c k = absurd k
  get_cell w [] [] (y ∷ ys) c k = absurd k
  get_cell w (s ∷ ss) [] ys c k = absurd k
  get_cell w (s ∷ ss) (x ∷ xs) [] c k = absurd k

  set_cell : (w : World) (ss : List Shadow) (xs ys : List Value) (c : ℕ) (s : Shadow) (x y : Value) → CellsAt w ss xs ys → Fits w s x y → CellsAt w (slice_set ss c s) (slice_set xs c x) (slice_set ys c y)
  set_cell w [] [] [] c s x y k j = tt
  set_cell w (a ∷ ss) (d ∷ xs) (e ∷ ys) zero s x y k j = (j, k.1)
  set_cell w (a ∷ ss) (d ∷ xs) (e ∷ ys) (suc c) s x y k j = (k.0, set_cell w ss xs ys c s x y k.1 j)
  set_cell w [] (d ∷ xs) ys c s x y k j = absurd k
  set_cell w [] [] (e ∷ ys) c s x y k j = absurd k
  set_cell w (a ∷ ss) [] ys c s x y k j = absurd k
  set_cell w (a ∷ ss) (d ∷ xs) [] c s x y k j = absurd k

  get_made : (w : World) (ss : List (List Shadow)) (xs ys : List (List Value)) (n : ℕ) → MadeAt w ss xs ys → CellsAt w (or_none [] (slice_get ss n)) (or_none [] (slice_get xs n)) (or_none [] (slice_get ys n))
  unfolding or_none
  get_made w [] [] [] n k = tt
  get_made w (s ∷ ss) (x ∷ xs) (y ∷ ys) zero k = k.0
  get_made w (s ∷ ss) (x ∷ xs) (y ∷ ys) (suc n) k = get_made w ss xs ys n k.1
  get_made w [] (x ∷ xs) ys n k = absurd k
  get_made w [] [] (y ∷ ys) n k = absurd k
  get_made w (s ∷ ss) [] ys n k = absurd k
  get_made w (s ∷ ss) (x ∷ xs) [] n k = absurd k

  set_made : (w : World) (ss : List (List Shadow)) (xs ys : List (List Value)) (n : ℕ) (s : List Shadow) (x y : List Value) → MadeAt w ss xs ys → CellsAt w s x y → MadeAt w (slice_set ss n s) (slice_set xs n x) (slice_set ys n y)
  set_made w [] [] [] n s x y k j = tt
  set_made w (a ∷ ss) (d ∷ xs) (e ∷ ys) zero s x y k j = (j, k.1)
  set_made w (a ∷ ss) (d ∷ xs) (e ∷ ys) (suc n) s x y k j = (k.0, set_made w ss xs ys n s x y k.1 j)
  set_made w [] (d ∷ xs) ys n s x y k j = absurd k
  set_made w [] [] (e ∷ ys) n s x y k j = absurd k
  set_made w (a ∷ ss) [] ys n s x y k j = absurd k
  set_made w (a ∷ ss) (d ∷ xs) [] n s x y k j = absurd k

  add_made : (w : World) (ss : List (List Shadow)) (xs ys : List (List Value)) (s : List Shadow) (x y : List Value) → MadeAt w ss xs ys → CellsAt w s x y → MadeAt w (ss ++ s ∷ []) (xs ++ x ∷ []) (ys ++ y ∷ [])
  add_made w [] [] [] s x y k j = (j, tt)
  add_made w (a ∷ ss) (d ∷ xs) (e ∷ ys) s x y k j = (k.0, add_made w ss xs ys s x y k.1 j)
  add_made w [] (d ∷ xs) ys s x y k j = absurd k
  add_made w [] [] (e ∷ ys) s x y k j = absurd k
  add_made w (a ∷ ss) [] ys s x y k j = absurd k
  add_made w (a ∷ ss) (d ∷ xs) [] s x y k j = absurd k

  length_made : (w : World) (ss : List (List Shadow)) (xs ys : List (List Value)) → MadeAt w ss xs ys → length xs ≡ length ys
  length_made w [] [] [] k = refl
  length_made w (a ∷ ss) (d ∷ xs) (e ∷ ys) k = ap suc (length_made w ss xs ys k.1)
  length_made w [] (d ∷ xs) ys k = absurd k
  length_made w [] [] (e ∷ ys) k = absurd k
  length_made w (a ∷ ss) [] ys k = absurd k
  length_made w (a ∷ ss) (d ∷ xs) [] k = absurd k

  later_cells : (w w' : World) → Le w w' → (ss : List Shadow) (xs ys : List Value) → CellsAt w ss xs ys → CellsAt w' ss xs ys
  later_cells w w' le [] [] [] k = tt
  later_cells w w' le (s ∷ ss) (x ∷ xs) (y ∷ ys) k = (fits_later w w' s x y le k.0, later_cells w w' le ss xs ys k.1)
  later_cells w w' le [] (d ∷ xs) ys k = absurd k
  later_cells w w' le [] [] (e ∷ ys) k = absurd k
  later_cells w w' le (a ∷ ss) [] ys k = absurd k
  later_cells w w' le (a ∷ ss) (d ∷ xs) [] k = absurd k

  pub later_made : (w w' : World) → Le w w' → (ss : List (List Shadow)) (xs ys : List (List Value)) → MadeAt w ss xs ys → MadeAt w' ss xs ys
  later_made w w' le [] [] [] k = tt
  later_made w w' le (s ∷ ss) (x ∷ xs) (y ∷ ys) k = (later_cells w w' le s x y k.0, later_made w w' le ss xs ys k.1)
  later_made w w' le [] (d ∷ xs) ys k = absurd k
  later_made w w' le [] [] (e ∷ ys) k = absurd k
  later_made w w' le (a ∷ ss) [] ys k = absurd k
  later_made w w' le (a ∷ ss) (d ∷ xs) [] k = absurd k

  pub later_blocks : (w w' : World) → Le w w' → (ks : List Key) (l : List Touched) (bx by : ℕ → List Value) → BlocksAt w ks l bx by → BlocksAt w' ks l bx by
  later_blocks w w' le [] [] bx by k = tt
  later_blocks w w' le (k ∷ ks) (c ∷ l) bx by i = (i.0, i.1, later_cells w w' le c.shadows (bx k.name) (by k.other) i.2, later_blocks w w' le ks l bx by i.3)
  later_blocks w w' le [] (c ∷ l) bx by k = absurd k
  later_blocks w w' le (k ∷ ks) [] bx by i = absurd i

  -- ---- where blocks stand

  eqb_swap : (a c : ℕ) → nat_eq a c ≡ false → nat_eq c a ≡ false
  eqb_swap a c q = elim (eqb_tells c a) [
    | inl r ↦ absurd (cc (q, eq-eqb a c (sym r.1)))
    | inr r ↦ r.0
  ]

  has_name : (of : Key → ℕ) (ks : List Key) (k : Key) → In k ks → has (of k) (map of ks) ≡ true
  unfolding has
  has_name of [] k i = absurd i
  has_name of (j ∷ ks) k (inl e) = true_or _ _ (eq-eqb (of k) (of j) (ap of e))
  has_name of (j ∷ ks) k (inr i) = or_right _ _ (has_name of ks k i)

  -- a later key has another name
  not_here : (of : Key → ℕ) (j : Key) (ks : List Key) (k : Key) → has (of j) (map of ks) ≡ false → In k ks → nat_eq (of k) (of j) ≡ false
  not_here of j ks k d i = elim (eqb_tells (of k) (of j)) [
    | inl q ↦ absurd (cc (d, subst (λ n. has n (map of ks) ≡ true) q.1 (has_name of ks k i)))
    | inr q ↦ q.0
  ]

  pub rank_key : (ks : List Key) → Distinct (names ks) → Distinct (others ks) → (k : Key) → In k ks → base.rank k.name (names ks) ≡ base.rank k.other (others ks)
  rank_key [] d e k i = absurd i
  rank_key (j ∷ ks) d e k (inl i) = rank_here k.name j.name (names ks) (eq-eqb k.name j.name (ap (λ m. m.name) i)) ∙ sym (rank_here k.other j.other (others ks) (eq-eqb k.other j.other (ap (λ m. m.other) i)))
  rank_key (j ∷ ks) d e k (inr i) = rank_next k.name j.name (names ks) (not_here (λ m. m.name) j ks k d.0 i) ∙ ap suc (rank_key ks d.1 e.1 k i) ∙ sym (rank_next k.other j.other (others ks) (not_here (λ m. m.other) j ks k e.0 i))

  -- two locations, written out
  pub data SpotIs (w : World) : Value → Value → Type 0 where
    is_made : (n c : ℕ) → SpotIs w (at (made n) c) (at (made n) c)
    is_block : (k : Key) (c : ℕ) → In k w.keys → SpotIs w (at (block k.name) c) (at (block k.other) c)

  pub spot_is : (w : World) (p q : Value) → SpotAt w p q → SpotIs w p q
  spot_is w p q (spot_made n c i j) = subst (λ v. SpotIs w v q) (sym i) (subst (λ u. SpotIs w (at (made n) c) u) (sym j) (is_made n c))
  spot_is w p q (spot_block k c m i j) = subst (λ v. SpotIs w v q) (sym i) (subst (λ u. SpotIs w (at (block k.name) c) u) (sym j) (is_block k c m))

  pub spots_same : (w : World) (p q : Value) (x y : Data) → SpotIs w p q → Lock w x y → spot_of p x.plain.touched ≡ spot_of q y.plain.touched
  unfolding spot_of
  spots_same w p q x y (is_made n c) k = refl
  spots_same w p q x y (is_block j c i) k = ap (λ r. in_touched r c) (ap (base.rank j.name) k.touched_g ∙ rank_key w.keys k.distinct_g k.distinct_h j i ∙ sym (ap (base.rank j.other) k.touched_h))

  get_block : (w : World) (ks : List Key) (l : List Touched) (bx by : ℕ → List Value) → BlocksAt w ks l bx by → Distinct (names ks) → (k : Key) → In k ks
      → CellsAt w (on.touched_shadows (slice_get l (base.rank k.name (names ks)))) (bx k.name) (by k.other)
  unfolding on.touched_shadows
  get_block w [] [] bx by i d k m = absurd m
  get_block w (j ∷ ks) (c ∷ l) bx by i d k (inl e) =
      subst (λ n. CellsAt w (on.touched_shadows (slice_get (c ∷ l) n)) (bx k.name) (by k.other)) (sym (rank_here k.name j.name (names ks) (eq-eqb k.name j.name (ap (λ m. m.name) e))))
      (subst (λ z. CellsAt w c.shadows (bx z.name) (by z.other)) (sym e) i.2)
  get_block w (j ∷ ks) (c ∷ l) bx by i d k (inr m) =
      subst (λ n. CellsAt w (on.touched_shadows (slice_get (c ∷ l) n)) (bx k.name) (by k.other)) (sym (rank_next k.name j.name (names ks) (not_here (λ m. m.name) j ks k d.0 m)))
      (get_block w ks l bx by i.3 d.1 k m)
  get_block w [] (c ∷ l) bx by i d k m = absurd i
  get_block w (j ∷ ks) [] bx by i d k m = absurd i

  if_at : (t : Bool) (xs ys : List Value) → t ≡ true → (if t then xs else ys) ≡ xs
  if_at true xs ys e = refl
  if_at false xs ys e = absurd (cc e)

  if_not : (t : Bool) (xs ys : List Value) → t ≡ false → (if t then xs else ys) ≡ ys
  if_not false xs ys e = refl
  if_not true xs ys e = absurd (cc e)

  other_blocks : (w : World) (ks : List Key) (l : List Touched) (bx by : ℕ → List Value) (a c : ℕ) (xs ys : List Value) → BlocksAt w ks l bx by → has a (names ks) ≡ false → has c (others ks) ≡ false
      → BlocksAt w ks l (base.with_block a xs bx) (base.with_block c ys by)
  unfolding base.with_block
  other_blocks w [] [] bx by a c xs ys i q r = tt
  other_blocks w (k ∷ ks) (d ∷ l) bx by a c xs ys i q r =
      let e = has_false a k.name (names ks) q in let g = has_false c k.other (others ks) r in (
        i.0,
        i.1,
        subst (λ z. CellsAt w d.shadows z (if nat_eq k.other c then ys else by k.other)) (sym (if_not _ xs (bx k.name) (eqb_swap a k.name e.0)))
            (subst (λ z. CellsAt w d.shadows (bx k.name) z) (sym (if_not _ ys (by k.other) (eqb_swap c k.other g.0))) i.2),
        other_blocks w ks l bx by a c xs ys i.3 e.1 g.1,
      )
  other_blocks w [] (d ∷ l) bx by a c xs ys i q r = absurd i
  other_blocks w (k ∷ ks) [] bx by a c xs ys i q r = absurd i

  set_block : (w : World) (ks : List Key) (l : List Touched) (bx by : ℕ → List Value) → BlocksAt w ks l bx by → Distinct (names ks) → Distinct (others ks) → (k : Key) → In k ks → (c : ℕ) (s : Shadow) (x y : Value) → Fits w s x y
      → BlocksAt w ks (on.set_touched l (base.rank k.name (names ks)) c s) (base.with_block k.name (slice_set (bx k.name) c x) bx) (base.with_block k.other (slice_set (by k.other) c y) by)
  unfolding on.set_touched base.with_block
  set_block w [] [] bx by i d e k m c s x y h = absurd m
  set_block w (j ∷ ks) (t ∷ l) bx by i d e k (inl m) c s x y h =
      subst (λ n. BlocksAt w (j ∷ ks) (on.set_touched (t ∷ l) n c s) (base.with_block k.name (slice_set (bx k.name) c x) bx) (base.with_block k.other (slice_set (by k.other) c y) by)) (sym (rank_here k.name j.name (names ks) (eq-eqb k.name j.name (ap (λ m. m.name) m))))
      (i.0, i.1, written, other_blocks w ks l bx by k.name k.other (slice_set (bx k.name) c x) (slice_set (by k.other) c y) i.3 (subst (λ z. has z.name (names ks) ≡ false) (sym m) d.0) (subst (λ z. has z.other (others ks) ≡ false) (sym m) e.0))
    where
      written : CellsAt w (slice_set t.shadows c s) (base.with_block k.name (slice_set (bx k.name) c x) bx j.name) (base.with_block k.other (slice_set (by k.other) c y) by j.other)
      written = subst (λ z. CellsAt w (slice_set t.shadows c s) z (base.with_block k.other (slice_set (by k.other) c y) by j.other)) (sym (if_at _ (slice_set (bx k.name) c x) (bx j.name) (eq-eqb j.name k.name (sym (ap (λ m. m.name) m)))))
          (subst (λ z. CellsAt w (slice_set t.shadows c s) (slice_set (bx k.name) c x) z) (sym (if_at _ (slice_set (by k.other) c y) (by j.other) (eq-eqb j.other k.other (sym (ap (λ m. m.other) m)))))
          (set_cell w t.shadows (bx k.name) (by k.other) c s x y (subst (λ z. CellsAt w t.shadows (bx z.name) (by z.other)) (sym m) i.2) h))
  set_block w (j ∷ ks) (t ∷ l) bx by i d e k (inr m) c s x y h =
      subst (λ n. BlocksAt w (j ∷ ks) (on.set_touched (t ∷ l) n c s) (base.with_block k.name (slice_set (bx k.name) c x) bx) (base.with_block k.other (slice_set (by k.other) c y) by)) (sym (rank_next k.name j.name (names ks) (not_here (λ m. m.name) j ks k d.0 m)))
      (i.0, i.1, kept, set_block w ks l bx by i.3 d.1 e.1 k m c s x y h)
    where
      kept : CellsAt w t.shadows (base.with_block k.name (slice_set (bx k.name) c x) bx j.name) (base.with_block k.other (slice_set (by k.other) c y) by j.other)
      kept = subst (λ z. CellsAt w t.shadows z (base.with_block k.other (slice_set (by k.other) c y) by j.other)) (sym (if_not _ (slice_set (bx k.name) c x) (bx j.name) (eqb_swap k.name j.name (not_here (λ m. m.name) j ks k d.0 m))))
          (subst (λ z. CellsAt w t.shadows (bx j.name) z) (sym (if_not _ (slice_set (by k.other) c y) (by j.other) (eqb_swap k.other j.other (not_here (λ m. m.other) j ks k e.0 m)))) i.2)
  set_block w [] (t ∷ l) bx by i d e k m c s x y h = absurd i
  set_block w (j ∷ ks) [] bx by i d e k m c s x y h = absurd i

  -- ---- loads and stores

  pub load_fits : (w : World) (p q : Value) (x y : Data) → SpotIs w p q → Lock w x y → Fits w (on.shadow_at (spot_of p x.plain.touched) x.shadows) (base.load p x.plain) (base.load q y.plain)
  unfolding on.shadow_at spot_of base.load base.cells_of
  load_fits w p q x y (is_made n c) k = get_cell w _ _ _ c (get_made w x.shadows.made x.plain.made y.plain.made n k.made)
  load_fits w p q x y (is_block j c i) k =
      get_cell w _ _ _ c (subst (λ t. CellsAt w (on.touched_shadows (slice_get x.shadows.touched (base.rank j.name t))) (x.plain.blocks j.name) (y.plain.blocks j.other)) (sym k.touched_g) (get_block w w.keys x.shadows.touched x.plain.blocks y.plain.blocks k.blocks k.distinct_g j i))

  pub load_at : (w : World) (p q : Traced) (x y : Data) → LocAt w p q → Lock w x y → ValueAt w (on.load p x) (on.load q y)
  unfolding on.load
  load_at w p q x y i k = let s = spot_is w p.plain q.plain i.2 in (ap₂ on.shadow_at (spots_same w p.plain q.plain x y s k) k.shadows, load_fits w p.plain q.plain x y s k)

  -- the states after a write
  abbrev written : Value → Shadow → Value → Data → Data
  written p s v x = record { plain = base.store p v x.plain; shadows = on.with_shadow (spot_of p x.plain.touched) s x.shadows }

  store_fits : (w : World) (p q : Value) (s : Shadow) (v u : Value) (x y : Data) → SpotIs w p q → Fits w s v u → Lock w x y → Lock w (written p s v x) (written q s u y)
  unfolding on.with_shadow spot_of base.store base.cells_of base.with_cells base.with_block
  store_fits w p q s v u x y (is_made n c) i k = record {
    shadows = ap {A = Shadows} (λ z. record z { made = slice_set z.made n (slice_set (or_none [] (slice_get z.made n)) c s) }) k.shadows;
    places = k.places;
    touched_g = k.touched_g;
    touched_h = k.touched_h;
    distinct_g = k.distinct_g;
    distinct_h = k.distinct_h;
    firsts = k.firsts;
    blocks = k.blocks;
    away_g = k.away_g;
    away_h = k.away_h;
    stream_g = k.stream_g;
    stream_h = k.stream_h;
    base_g = k.base_g;
    base_h = k.base_h;
    count = k.count;
    made = set_made w x.shadows.made x.plain.made y.plain.made n _ _ _ k.made (set_cell w _ _ _ c s v u (get_made w x.shadows.made x.plain.made y.plain.made n k.made) i);
  }
  store_fits w p q s v u x y (is_block j c m) i k = record {
    shadows = ap₂ (λ (r : ℕ) (z : Shadows). record z { touched = on.set_touched z.touched r c s }) (ap (base.rank j.name) k.touched_g ∙ rank_key w.keys k.distinct_g k.distinct_h j m ∙ sym (ap (base.rank j.other) k.touched_h)) k.shadows;
    places = k.places;
    touched_g = k.touched_g;
    touched_h = k.touched_h;
    distinct_g = k.distinct_g;
    distinct_h = k.distinct_h;
    firsts = k.firsts;
    blocks = subst (λ t. BlocksAt w w.keys (on.set_touched x.shadows.touched (base.rank j.name t) c s) (base.with_block j.name (slice_set (x.plain.blocks j.name) c v) x.plain.blocks) (base.with_block j.other (slice_set (y.plain.blocks j.other) c u) y.plain.blocks)) (sym k.touched_g)
        (set_block w w.keys x.shadows.touched x.plain.blocks y.plain.blocks k.blocks k.distinct_g k.distinct_h j m c s v u i);
    away_g = λ n z. away (λ m. m.name) x.plain.blocks j.name n (slice_set (x.plain.blocks j.name) c v) (has_name (λ m. m.name) w.keys j m) z ∙ k.away_g n z;
    away_h = λ n z. away (λ m. m.other) y.plain.blocks j.other n (slice_set (y.plain.blocks j.other) c u) (has_name (λ m. m.other) w.keys j m) z ∙ k.away_h n z;
    stream_g = k.stream_g;
    stream_h = k.stream_h;
    base_g = k.base_g;
    base_h = k.base_h;
    count = k.count;
    made = k.made;
  }
    where
      away : (of : Key → ℕ) (f : ℕ → List Value) (a n : ℕ) (xs : List Value) → has a (map of w.keys) ≡ true → has n (map of w.keys) ≡ false → base.with_block a xs f n ≡ f n
      away of f a n xs h z = elim (eqb_tells n a) [
        | inl q ↦ absurd (cc (z, subst (λ e. has e (map of w.keys) ≡ true) (sym q.1) h))
        | inr q ↦ if_not _ xs (f n) q.0
      ]

  pub store_at : (w : World) (p v q u : Traced) (x y : Data) → LocAt w p q → ValueAt w v u → Lock w x y → Lock w (on.store p v x) (on.store q u y)
  unfolding on.store
  store_at w p v q u x y i j k = subst (λ s. Lock w (written p.plain v.shadow v.plain x) (written q.plain s u.plain y)) j.0 (store_fits w p.plain q.plain v.shadow v.plain u.plain x y (spot_is w p.plain q.plain i.2) j.1 k)

  pub offset_at : (w : World) (v u : Traced) (n : ℕ) → LocAt w v u → LocAt w (on.offset v n) (on.offset u n)
  unfolding on.offset base.offset
  offset_at w v u n i = let s = moved (spot_is w v.plain u.plain i.2) in (refl, inr s, s)
    where
      moved : {x y : Value} → SpotIs w x y → SpotAt w (base.offset x n) (base.offset y n)
      moved (is_made m c) = spot_made m (c + n) refl refl
      moved (is_block k c m) = spot_block k (c + n) m refl refl

  moved_at : (w : World) (v u : Traced) (n : ℕ) → LocAt w v u → LocAt w (record { plain = base.offset v.plain n; shadow = none }) (record { plain = base.offset u.plain n; shadow = none })
  unfolding on.offset
  moved_at w v u n i = offset_at w v u n i

  module _ (f : Forms) (laws : Laws f) where
    -- ---- new objects, and numbers of the stream

    value_of_number : (e : ℕ → ℤ) (z : ℤ) → value_of_form e (f.number z) ≡ z
    unfolding value_of_form total
    value_of_number e z = ap (value_of_form e) (laws.number z) ∙ (let a : z +ℤ pos 0 ≡ z = omega (arith, ints) in a)

    no_places : (z : ℤ) (p : ℕ) → In p (places_of_form (f.number z)) → ⊥
    no_places z p i = subst (λ g. In p (places_of_form g)) (laws.number z) i

    pub number_fits : (w : World) (z : ℤ) → FormAt w (f.number z) (num z) (num z)
    number_fits w z = record {
      here = ap num (sym (value_of_number (or_zero (at_g w)) z));
      there = ap num (sym (value_of_number (or_zero (at_h w)) z));
      known = λ p i. absurd (no_places z p i);
    }

    pub number_at : (w : World) (z : ℤ) → ValueAt w (on.number f z) (on.number f z)
    unfolding on.number
    number_at w z = (refl, number_fits w z)

    zero_cells : (w : World) (cs : List Cell) → CellsAt w (map (on.zero_shadow f) cs) (map base.zero_cell cs) (map base.zero_cell cs)
    unfolding on.zero_shadow base.zero_cell
    zero_cells w [] = tt
    zero_cells w (int_cell ∷ cs) = (number_fits w (pos 0), zero_cells w cs)
    zero_cells w (ptr_cell t ∷ cs) = (inl (refl, refl), zero_cells w cs)

    pub make_at : (w : World) (t : Layout) (x y : Data) → Lock w x y → LocAt w (on.make f t x).value (on.make f t y).value × Lock w (on.make f t x).after (on.make f t y).after
    unfolding on.make base.make
    make_at w t x y k = (
      (refl, inr new, new),
      record {
        shadows = ap {A = Shadows} (λ z. record z { made = z.made ++ map (on.zero_shadow f) t.cells ∷ [] }) k.shadows;
        places = k.places;
        touched_g = k.touched_g;
        touched_h = k.touched_h;
        distinct_g = k.distinct_g;
        distinct_h = k.distinct_h;
        firsts = k.firsts;
        blocks = k.blocks;
        away_g = k.away_g;
        away_h = k.away_h;
        stream_g = k.stream_g;
        stream_h = k.stream_h;
        base_g = k.base_g;
        base_h = k.base_h;
        count = k.count;
        made = add_made w x.shadows.made x.plain.made y.plain.made _ _ _ k.made (zero_cells w t.cells);
      },
    )
      where
        new : SpotAt w (at (made (length x.plain.made)) 0) (at (made (length y.plain.made)) 0)
        new = spot_made (length x.plain.made) 0 refl (ap (λ n. at (made n) 0) (sym (length_made w x.shadows.made x.plain.made y.plain.made k.made)))

    get_last : {A : Type 0} → (l : List A) (p : A) → slice_get (l ++ p ∷ []) (length l) ≡ Some p
    get_last [] p = refl
    get_last (q ∷ l) p = get_last l p

    or_unwrap : (z : ℤ) (o : Option ℤ) → or_none z o ≡ unwrap_or o z
    unfolding or_none
    or_unwrap z None = refl
    or_unwrap z (Some a) = refl

    -- the next number of the stream has the last place
    abbrev taken : World → ℕ → World
    taken w n = record { keys = w.keys; places = w.places ++ (let p : Placed = record { place = stream n; holds = cell.Int } in p) ∷ []; parents = ParentsFirst-push w.places (record { place = stream n; holds = cell.Int }) w.parents tt }

    to_taken : (w : World) (n : ℕ) → Le w (taken w n)
    to_taken w n = ([], (let p : Placed = record { place = stream n; holds = cell.Int } in p) ∷ [], sym (append-nil w.keys), refl)

    at_taken : (w : World) (n : ℕ) (i : Input) → at_place (taken w n).places i b (length w.places) ≡ Some (unwrap_or (slice_get i.stream n) b)
    unfolding value_there
    at_taken w n i = at_place-is (taken w n).places i b (length w.places) (taken w n).parents ∙ ap (option_and_then (λ p. value_there (at_place (taken w n).places i b) i b p.place)) (get_last w.places (record { place = stream n; holds = cell.Int }))

    length_taken : (w : World) (n : ℕ) → length w.places < length (taken w n).places
    length_taken w n = let a = length-append w.places ((let p : Placed = record { place = stream n; holds = cell.Int } in p) ∷ []) in omega (arith, a)

    one_place : (w : World) (p : ℕ) → Known w p → (q : ℕ) → In q (places_of_form (f.of p)) → Known w q
    one_place w p k q i = elim (subst (In q) (laws.of_places p) i) [ inl e ↦ subst (Known w) (sym e) k | inr e ↦ absurd e ]

    place_number : (w : World) (p : ℕ) (z z' : ℤ) → p < length w.places → at_g w p ≡ Some z → at_h w p ≡ Some z' → FormAt w (f.of p) (num z) (num z')
    place_number w p z z' l i j = record {
      here = ap num (sym (laws.of p (or_zero (at_g w)) ∙ ap (λ o. unwrap_or o (pos 0)) i));
      there = ap num (sym (laws.of p (or_zero (at_h w)) ∙ ap (λ o. unwrap_or o (pos 0)) j));
      known = one_place w p (record { below = l; here = subst IsSome (sym i) refl; there = subst IsSome (sym j) refl });
    }

    next_fits : (w : World) (x y : Data) → Lock w x y → FormAt (taken w x.plain.count) (f.of (length w.places)) (num (or_none x.plain.base (slice_get x.plain.stream x.plain.count))) (num (or_none y.plain.base (slice_get y.plain.stream y.plain.count)))
    next_fits w x y k =
        subst (λ n. FormAt (taken w x.plain.count) (f.of (length w.places)) (num (or_none x.plain.base (slice_get x.plain.stream x.plain.count))) (num (or_none y.plain.base (slice_get y.plain.stream n)))) k.count
        (place_number (taken w x.plain.count) (length w.places) _ _ (length_taken w x.plain.count)
        (at_taken w x.plain.count gi ∙ ap Some (sym (or_unwrap b _) ∙ sym (ap₂ (λ d s. or_none d (slice_get s x.plain.count)) k.base_g k.stream_g)))
        (at_taken w x.plain.count hi ∙ ap Some (sym (or_unwrap b _) ∙ sym (ap₂ (λ d s. or_none d (slice_get s x.plain.count)) k.base_h k.stream_h))))

    abbrev counted : Data → Data
    counted x = record { plain = record x.plain { count = suc x.plain.count }; shadows = record x.shadows { places = x.shadows.places ++ record { place = stream x.plain.count; holds = cell.Int } ∷ [] } }

    counted_at : (w : World) (x y : Data) → Lock w x y → Lock (taken w x.plain.count) (counted x) (counted y)
    counted_at w x y k = record {
      shadows = ap₂ (λ (n : ℕ) (z : Shadows). record z { places = z.places ++ record { place = stream n; holds = cell.Int } ∷ [] }) k.count k.shadows;
      places = ap (λ l. l ++ (let p : Placed = record { place = stream x.plain.count; holds = cell.Int } in p) ∷ []) k.places;
      touched_g = k.touched_g;
      touched_h = k.touched_h;
      distinct_g = k.distinct_g;
      distinct_h = k.distinct_h;
      firsts = λ j i. place_later w (taken w x.plain.count) j.first j.type _ _ (to_taken w x.plain.count) (k.firsts j i);
      blocks = later_blocks w (taken w x.plain.count) (to_taken w x.plain.count) w.keys x.shadows.touched x.plain.blocks y.plain.blocks k.blocks;
      away_g = k.away_g;
      away_h = k.away_h;
      stream_g = k.stream_g;
      stream_h = k.stream_h;
      base_g = k.base_g;
      base_h = k.base_h;
      count = ap suc k.count;
      made = later_made w (taken w x.plain.count) (to_taken w x.plain.count) x.shadows.made x.plain.made y.plain.made k.made;
    }

    pub take_at : (w : World) (p q : Traced) (x y : Data) → LocAt w p q → Lock w x y → (w' : World) × Le w w' × Lock w' (on.take f p x) (on.take f q y)
    unfolding on.take base.take
    take_at w p q x y i k = (
      taken w x.plain.count,
      to_taken w x.plain.count,
      subst (λ s. Lock (taken w x.plain.count) (written p.plain (form (f.of (length x.shadows.places))) (num (or_none x.plain.base (slice_get x.plain.stream x.plain.count))) (counted x)) (written q.plain (form (f.of (length s.places))) (num (or_none y.plain.base (slice_get y.plain.stream y.plain.count))) (counted y))) k.shadows
          (subst (λ l. Lock (taken w x.plain.count) (written p.plain (form (f.of (length l))) (num (or_none x.plain.base (slice_get x.plain.stream x.plain.count))) (counted x)) (written q.plain (form (f.of (length l))) (num (or_none y.plain.base (slice_get y.plain.stream y.plain.count))) (counted y))) (sym k.places)
          (store_fits (taken w x.plain.count) p.plain q.plain (form (f.of (length w.places))) _ _ (counted x) (counted y) (spot_is (taken w x.plain.count) p.plain q.plain (spot_later w (taken w x.plain.count) p.plain q.plain (to_taken w x.plain.count) i.2)) (next_fits w x y k) (counted_at w x y k))),
    )

    -- ---- events

    -- what is asked tells the outcome of the other input; at a term nothing is said
    abbrev pub Fair : List Placed → Asked → Outcome → Type 0
    Fair l asks_nothing o = Unit {0}
    Fair l (one_of cs) o = Told (at_place l hi b) cs o
    Fair l (term k) o = ⊥

    -- one of several choices is the outcome of the other input
    abbrev pub Choosing : List Placed → Asked → Outcome → Type 0
    Choosing l (one_of cs) o = Told (at_place l hi b) cs o
    Choosing l _ o = ⊥

    -- two events at which the runs go on together
    pub record Ev (e e' : Event) : Type 0 where
      pub asked : e.asked ≡ e'.asked
      pub places : e.places ≡ e'.places
      pub parents : ParentsFirst e.places
      pub below : AskedBelow (length e.places) e.asked
      pub fair : Fair e.places e.asked e'.outcome

    -- two at which they part: at a term, or by another choice
    pub data Part (e e' : Event) : Type 0 where
      at_term : (k : TermKind) → e.asked ≡ term k → e.asked ≡ e'.asked → e.places ≡ e'.places → Part e e'
      apart : e.asked ≡ e'.asked → e.places ≡ e'.places → ParentsFirst e.places → AskedBelow (length e.places) e.asked → Choosing e.places e.asked e'.outcome → e.outcome ≢ e'.outcome → Part e e'

    -- what is known of an event in a world
    data Fact (w : World) (a : Asked) (o o' : Outcome) : Type 0 where
      together : o ≡ o' → Fair w.places a o' → Fact w a o o'
      splitting : Choosing w.places a o' → o ≢ o' → Fact w a o o'
      parting : (k : TermKind) → a ≡ term k → Fact w a o o'

    quiet_fact : (w : World) (o o' : Outcome) → o ≡ o' → Fact w asks_nothing o o'
    quiet_fact w o o' e = together e tt

    choice_fact : (w : World) (cs : List Choice) (o o' : Outcome) → Told (at_h w) cs o' → Fact w (one_of cs) o o'
    choice_fact w cs o o' t = elim (same_or_not o o') [ inl e ↦ together e t | inr n ↦ splitting t n ]

    term_fact : (w : World) (k : TermKind) (o o' : Outcome) → Fact w (term k) o o'
    term_fact w k o o' = parting k refl

    abbrev pub Act_fact : World → Act Traced → Acted Traced Data Event → Acted Traced Data Event → Type 0
    Act_fact w a p q = ((w' : World) × Le w w' × ((p.event).outcome ≡ (q.event).outcome) × Ev p.event q.event × Gives (ValueAt w') (LocAt w') a (p.event).outcome p.value q.value × Lock w' p.after q.after) ⊎ Part p.event q.event

    -- from what is known of the event, and of what it gives where the outcomes are one
    finish : (w : World) (a a' : Act Traced) (x y : Data) → Lock w x y → on.asked_of f a x ≡ on.asked_of f a' y → AskedBelow (length w.places) (on.asked_of f a x)
        → Fact w (on.asked_of f a x) ((on.act f layout a x).event).outcome ((on.act f layout a' y).event).outcome
        → (((k : TermKind) → on.asked_of f a x ≡ term k → ⊥) → ((on.act f layout a x).event).outcome ≡ ((on.act f layout a' y).event).outcome
        → (w' : World) × Le w w' × Gives (ValueAt w') (LocAt w') a ((on.act f layout a x).event).outcome (on.act f layout a x).value (on.act f layout a' y).value × Lock w' (on.act f layout a x).after (on.act f layout a' y).after)
        → Act_fact w a (on.act f layout a x) (on.act f layout a' y)
    unfolding on.act
    finish w a a' x y k e i (together o h) n = let r = n (λ t q. subst (λ z. Fair w.places z ((on.act f layout a' y).event).outcome) q h) o in inl (
      r.0,
      r.1,
      o,
      record {
        asked = e;
        places = ap (λ s. s.places) k.shadows;
        parents = subst ParentsFirst (sym k.places) w.parents;
        below = subst (λ l. AskedBelow (length l) (on.asked_of f a x)) (sym k.places) i;
        fair = subst (λ l. Fair l (on.asked_of f a x) ((on.act f layout a' y).event).outcome) (sym k.places) h;
      },
      r.2,
      r.3,
    )
    finish w a a' x y k e i (splitting h o) n = inr (apart e (ap (λ s. s.places) k.shadows) (subst ParentsFirst (sym k.places) w.parents) (subst (λ l. AskedBelow (length l) (on.asked_of f a x)) (sym k.places) i)
        (subst (λ l. Choosing l (on.asked_of f a x) ((on.act f layout a' y).event).outcome) (sym k.places) h) o)
    finish w a a' x y k e i (parting t q) n = inr (at_term t q e (ap (λ s. s.places) k.shadows))

    -- ---- numbers

    number_points : (type : ℕ → ℕ) (named : ℕ → Type 0) (t : ℕ) (o : Option ℤ) (v : Value) → Points type named t o v → number_of v ≡ pos 0
    unfolding number_of
    number_points type named t o v (inl i) = ap number_of i.1
    number_points type named t o v (inr i) = ap number_of i.2

    zero_form : (w : World) (x y : Value) → number_of x ≡ pos 0 → number_of y ≡ pos 0 → (number_of x ≡ form_g w (f.number (pos 0))) × (number_of y ≡ form_h w (f.number (pos 0))) × KnownForm w (f.number (pos 0))
    zero_form w x y i j = (i ∙ sym (value_of_number (or_zero (at_g w)) (pos 0)), j ∙ sym (value_of_number (or_zero (at_h w)) (pos 0)), λ p m. absurd (no_places (pos 0) p m))

    number_spot : (w : World) (x y : Value) → SpotAt w x y → (number_of x ≡ pos 0) × (number_of y ≡ pos 0)
    unfolding number_of
    number_spot w x y (spot_made n c i j) = (ap number_of i, ap number_of j)
    number_spot w x y (spot_block k c m i j) = (ap number_of i, ap number_of j)

    -- the number of a value at each of the two inputs is that of its form
    numbers : (w : World) (s : Shadow) (x y : Value) → Fits w s x y → (number_of x ≡ form_g w (on.form_of f s)) × (number_of y ≡ form_h w (on.form_of f s)) × KnownForm w (on.form_of f s)
    unfolding number_of on.form_of
    numbers w (form a) x y i = (ap number_of i.here, ap number_of i.there, i.known)
    numbers w (place p t) x y i = zero_form w x y (number_points tg.type tg.named t _ x i.here) (number_points th.type th.named t _ y i.there)
    numbers w none x y (inl i) = zero_form w x y (ap number_of i.0) (ap number_of i.1)
    numbers w none x y (inr i) = let r = number_spot w x y i in zero_form w x y r.0 r.1

    no_terms : (l : List Multiple) → on.has_terms l ≡ false → l ≡ []
    unfolding on.has_terms
    no_terms [] e = refl
    no_terms (t ∷ l) e = absurd (cc e)

    -- what doesn't depend has one value
    plain_both : (e e' : ℕ → ℤ) (a : Form) → on.depends a ≡ false → value_of_form e a ≡ value_of_form e' a
    unfolding on.depends
    plain_both e e' a i = let t = no_terms a.terms i in value-without_terms e a t ∙ sym (value-without_terms e' a t)

    plain_constant : (e : ℕ → ℤ) (a : Form) → on.depends a ≡ false → value_of_form e a ≡ a.constant
    unfolding on.depends
    plain_constant e a i = value-without_terms e a (no_terms a.terms i)

    or_both_false : (s t : Bool) → s || t ≡ false → (s ≡ false) × (t ≡ false)
    or_both_false true t i = absurd (cc i)
    or_both_false false t i = (refl, i)

    -- ---- the places of atoms

    -- each place of a form that is known
    form_below : (w : World) (g : Form) → KnownForm w g → (p : ℕ) → In p (places_of_form g) → p < length w.places
    form_below w g k p i = (k p i).below

    known_shift : (w : World) (g : Form) (z : ℤ) → KnownForm w g → KnownForm w (f.shift g z)
    known_shift w g z k = λ p i. k p (subst (In p) (laws.shift_places g z) i)

    known_opposite : (w : World) (g : Form) → KnownForm w g → KnownForm w (f.opposite g)
    known_opposite w g k = λ p i. k p (subst (In p) (laws.opposite_places g) i)

    fit_choices_below : (w : World) (g : Form) → KnownForm w g → ChoicesBelow (length w.places) (on.fit_choices f g)
    unfolding on.fit_choices
    fit_choices_below w g k = (
      (form_below w (f.shift (f.opposite g) (pos 2147483648)) (known_shift w (f.opposite g) (pos 2147483648) (known_opposite w g k)), tt),
      (
        (form_below w (f.shift g (pos 2147483649)) (known_shift w g (pos 2147483649) k), tt),
        ((form_below w (f.shift g (negsuc 2147483646)) (known_shift w g (negsuc 2147483646) k), (form_below w (f.shift (f.opposite g) (negsuc 2147483647)) (known_shift w (f.opposite g) (negsuc 2147483647) (known_opposite w g k)), tt)), tt),
      ),
    )

    compare_atom_below : (w : World) (o : Cmp) (t : Bool) (g : Form) → KnownForm w g → (p : ℕ) → In p (places_of_atom (on.compare_atom f o t g)) → p < length w.places
    unfolding on.compare_atom
    compare_atom_below w tree.eq true g k = form_below w g k
    compare_atom_below w tree.eq false g k = form_below w g k
    compare_atom_below w tree.ne true g k = form_below w g k
    compare_atom_below w tree.ne false g k = form_below w g k
    compare_atom_below w tree.lt true g k = form_below w (f.shift g (pos 1)) (known_shift w g (pos 1) k)
    compare_atom_below w tree.lt false g k = form_below w (f.opposite g) (known_opposite w g k)
    compare_atom_below w tree.gt true g k = form_below w (f.shift (f.opposite g) (pos 1)) (known_shift w (f.opposite g) (pos 1) (known_opposite w g k))
    compare_atom_below w tree.gt false g k = form_below w g k
    compare_atom_below w tree.le true g k = form_below w g k
    compare_atom_below w tree.le false g k = form_below w (f.shift (f.opposite g) (pos 1)) (known_shift w (f.opposite g) (pos 1) (known_opposite w g k))
    compare_atom_below w tree.ge true g k = form_below w (f.opposite g) (known_opposite w g k)
    compare_atom_below w tree.ge false g k = form_below w (f.shift g (pos 1)) (known_shift w g (pos 1) k)

    two_below : (n : ℕ) (s t : Atom) → ((p : ℕ) → In p (places_of_atom s) → p < n) → ((p : ℕ) → In p (places_of_atom t) → p < n) → ChoicesBelow n (on.two_choices s t)
    unfolding on.two_choices
    two_below n s t i j = ((j, tt), ((i, tt), tt))

    -- ---- sums and their kin

    module _ (w : World) (x y x' y' : ℤ) (a c : Form) (xa : x ≡ form_g w a) (yc : y ≡ form_g w c) (xa' : x' ≡ form_h w a) (yc' : y' ≡ form_h w c) (ka : KnownForm w a) (kc : KnownForm w c) where
      -- a result has the value of the operation at both inputs
      abbrev Good : Op → Formed → Type 0
      Good o plain_number = (x ≡ x') × (y ≡ y')
      Good o (formed g) = (form_g w g ≡ apply o x y) × (form_h w g ≡ apply o x' y') × ((m n : ℤ) → fitting o m n ≡ apply o m n) × KnownForm w g
      Good o (termed k) = Unit {0}

      plain_left : on.depends a ≡ false → x ≡ x'
      plain_left i = xa ∙ plain_both _ _ a i ∙ sym xa'

      plain_right : on.depends c ≡ false → y ≡ y'
      plain_right i = yc ∙ plain_both _ _ c i ∙ sym yc'

      good_wide : (o : Op) (r : Option Form) → ((g : Form) → r ≡ Some g → (form_g w g ≡ apply o x y) × (form_h w g ≡ apply o x' y') × ((m n : ℤ) → fitting o m n ≡ apply o m n) × KnownForm w g) → Good o (on.or_wide r)
      unfolding on.or_wide
      good_wide o None i = tt
      good_wide o (Some g) i = i g refl

      either_known : (g : Form) → ((p : ℕ) → In p (places_of_form g) → In p (places_of_form a) ⊎ In p (places_of_form c)) → KnownForm w g
      either_known g i = λ p m. elim (i p m) [ inl j ↦ ka p j | inr j ↦ kc p j ]

      good_product : (da dc : Bool) → on.depends a ≡ da → on.depends c ≡ dc → da || dc ≡ true → Good tree.mul (on.product_of f da dc a c)
      unfolding on.product_of apply fitting
      good_product true true i j e = tt
      good_product true false i j e = good_wide tree.mul (f.scale c.constant a) (λ g m. (
        laws.scale c.constant a g m (or_zero (at_g w)) ∙ ap₂ ◌*ℤ◌ (sym (plain_constant (or_zero (at_g w)) c j) ∙ sym yc) (sym xa) ∙ *ℤ_comm y x,
        laws.scale c.constant a g m (or_zero (at_h w)) ∙ ap₂ ◌*ℤ◌ (sym (plain_constant (or_zero (at_h w)) c j) ∙ sym yc') (sym xa') ∙ *ℤ_comm y' x',
        (λ m n. refl),
        λ p i. ka p (laws.scale_places c.constant a g m p i),
      ))
      good_product false true i j e = good_wide tree.mul (f.scale a.constant c) (λ g m. (
        laws.scale a.constant c g m (or_zero (at_g w)) ∙ ap₂ ◌*ℤ◌ (sym (plain_constant (or_zero (at_g w)) a i) ∙ sym xa) (sym yc),
        laws.scale a.constant c g m (or_zero (at_h w)) ∙ ap₂ ◌*ℤ◌ (sym (plain_constant (or_zero (at_h w)) a i) ∙ sym xa') (sym yc'),
        (λ m n. refl),
        λ p i. kc p (laws.scale_places a.constant c g m p i),
      ))
      good_product false false i j e = absurd (cc e)

      good_result : (o : Op) → on.depends a || on.depends c ≡ true → Good o (on.result_of f o a c)
      unfolding on.result_of apply fitting
      good_result tree.add e = good_wide tree.add (f.sum a c) (λ g m. (
        laws.sum a c g m (or_zero (at_g w)) ∙ ap₂ ◌+ℤ◌ (sym xa) (sym yc),
        laws.sum a c g m (or_zero (at_h w)) ∙ ap₂ ◌+ℤ◌ (sym xa') (sym yc'),
        (λ m n. refl),
        either_known g (laws.sum_places a c g m),
      ))
      good_result tree.sub e = good_wide tree.sub (f.difference a c) (λ g m. (
        laws.difference a c g m (or_zero (at_g w)) ∙ ap₂ ◌-ℤ◌ (sym xa) (sym yc),
        laws.difference a c g m (or_zero (at_h w)) ∙ ap₂ ◌-ℤ◌ (sym xa') (sym yc'),
        (λ m n. refl),
        either_known g (laws.difference_places a c g m),
      ))
      good_result tree.mul e = good_product (on.depends a) (on.depends c) refl refl e
      good_result tree.quot e = tt
      good_result tree.rem e = tt

      good_if : (o : Op) (t : Bool) → on.depends a || on.depends c ≡ t → Good o (if t then on.result_of f o a c else plain_number)
      good_if o true e = good_result o e
      good_if o false e = let r = or_both_false _ _ e in (plain_left r.0, plain_right r.1)

      good_formed : (o : Op) → Good o (on.formed_of f o a c)
      unfolding on.formed_of
      good_formed o = good_if o (on.depends a || on.depends c) refl

      -- the event of a result that has to fit
      fit_fact : (o : Op) (r : Formed) → Good o r → Fact w (on.fit_asked f r) (fit_of (fitting o x y)) (fit_of (fitting o x' y'))
      unfolding on.fit_asked
      fit_fact o plain_number i = quiet_fact w _ _ (ap₂ (λ m n. fit_of (fitting o m n)) i.0 i.1)
      fit_fact o (formed g) i = choice_fact w (on.fit_choices f g) _ _ (subst (λ z. Told (at_h w) (on.fit_choices f g) (fit_of z)) (sym (i.2 x' y')) (fit_told f laws (at_h w) g (apply o x' y') i.1 (λ p m. (i.3 p m).there)))
      fit_fact o (termed k) i = term_fact w k _ _

      -- what stands beside the result
      fit_value : (o : Op) (r : Formed) → Good o r → ((k : TermKind) → on.fit_asked f r ≡ term k → ⊥) → (on.shadow_of f r (num (apply o x y)) ≡ on.shadow_of f r (num (apply o x' y'))) × Fits w (on.shadow_of f r (num (apply o x y))) (num (apply o x y)) (num (apply o x' y'))
      unfolding on.shadow_of on.fit_asked number_of
      fit_value o plain_number i n = (
        ap₂ (λ s t. form (f.number (apply o s t))) i.0 i.1,
        subst (λ z. FormAt w (f.number (apply o x y)) (num (apply o x y)) (num z)) (ap₂ (apply o) i.0 i.1) (number_fits w (apply o x y)),
      )
      fit_value o (formed g) i n = (refl, record { here = ap num (sym i.0); there = ap num (sym i.1); known = i.3 })
      fit_value o (termed k) i n = absurd (n k refl)

      fit_below : (o : Op) (r : Formed) → Good o r → AskedBelow (length w.places) (on.fit_asked f r)
      unfolding on.fit_asked
      fit_below o plain_number i = tt
      fit_below o (formed g) i = fit_choices_below w g i.3
      fit_below o (termed k) i = tt

    abbrev mk : Value → Shadow → Traced
    mk x s = record { plain = x; shadow = s }

    -- an operation whose value and state stay in the world
    stay : (w : World) (a a' : Act Traced) (x y : Data) → Lock w x y → on.asked_of f a x ≡ on.asked_of f a' y → AskedBelow (length w.places) (on.asked_of f a x)
        → Fact w (on.asked_of f a x) ((on.act f layout a x).event).outcome ((on.act f layout a' y).event).outcome
        → (((k : TermKind) → on.asked_of f a x ≡ term k → ⊥) → ((on.act f layout a x).event).outcome ≡ ((on.act f layout a' y).event).outcome
        → Gives (ValueAt w) (LocAt w) a ((on.act f layout a x).event).outcome (on.act f layout a x).value (on.act f layout a' y).value)
        → Lock w (on.act f layout a x).after (on.act f layout a' y).after
        → Act_fact w a (on.act f layout a x) (on.act f layout a' y)
    stay w a a' x y k e i h n l = finish w a a' x y k e i h (λ t o. (w, le_same w, n t o, l))

    arith_at : (w : World) (o : Op) (s t : Shadow) (p p' q q' : Value) (x y : Data) → Fits w s p p' → Fits w t q q' → Lock w x y
        → Act_fact w (act_arith o (mk p s) (mk q t)) (on.act f layout (act_arith o (mk p s) (mk q t)) x) (on.act f layout (act_arith o (mk p' s) (mk q' t)) y)
    unfolding on.act on.asked_of on.after_shadows on.value_shadow on.plain_of base.act base.acted
    arith_at w o s t p p' q q' x y i j k =
        let m = numbers w s p p' i in
        let n = numbers w t q q' j in
        let g = good_formed w (number_of p) (number_of q) (number_of p') (number_of q') (on.form_of f s) (on.form_of f t) m.0 n.0 m.1 n.1 m.2 n.2 o in
        stay w (act_arith o (mk p s) (mk q t)) (act_arith o (mk p' s) (mk q' t)) x y k refl
        (fit_below w (number_of p) (number_of q) (number_of p') (number_of q') (on.form_of f s) (on.form_of f t) m.0 n.0 m.1 n.1 m.2 n.2 o _ g)
        (fit_fact w (number_of p) (number_of q) (number_of p') (number_of q') (on.form_of f s) (on.form_of f t) m.0 n.0 m.1 n.1 m.2 n.2 o _ g)
        (λ z e. fit_value w (number_of p) (number_of q) (number_of p') (number_of q') (on.form_of f s) (on.form_of f t) m.0 n.0 m.1 n.1 m.2 n.2 o _ g z)
        k

    minus_one : (z : ℤ) → negsuc 0 *ℤ z ≡ neg_ℤ z
    minus_one z = omega (arith, ints)

    module _ (w : World) (x x' : ℤ) (a : Form) (xa : x ≡ form_g w a) (xa' : x' ≡ form_h w a) (ka : KnownForm w a) where
      abbrev Good_minus : Formed → Type 0
      Good_minus plain_number = x ≡ x'
      Good_minus (formed g) = (form_g w g ≡ neg_ℤ x) × (form_h w g ≡ neg_ℤ x') × KnownForm w g
      Good_minus (termed k) = Unit {0}

      minus_wide : (r : Option Form) → ((g : Form) → r ≡ Some g → Good_minus (formed g)) → Good_minus (on.or_wide r)
      unfolding on.or_wide
      minus_wide None i = tt
      minus_wide (Some g) i = i g refl

      minus_if : (t : Bool) → on.depends a ≡ t → Good_minus (if t then on.or_wide (f.scale (negsuc 0) a) else plain_number)
      minus_if true e = minus_wide (f.scale (negsuc 0) a) (λ g m. (
        laws.scale (negsuc 0) a g m (or_zero (at_g w)) ∙ minus_one _ ∙ ap neg_ℤ (sym xa),
        laws.scale (negsuc 0) a g m (or_zero (at_h w)) ∙ minus_one _ ∙ ap neg_ℤ (sym xa'),
        λ p i. ka p (laws.scale_places (negsuc 0) a g m p i),
      ))
      minus_if false e = xa ∙ plain_both _ _ a e ∙ sym xa'

      good_minus : Good_minus (on.negated_of f a)
      unfolding on.negated_of
      good_minus = minus_if (on.depends a) refl

      minus_fact : (r : Formed) → Good_minus r → Fact w (on.fit_asked f r) (fit_of (neg_ℤ x)) (fit_of (neg_ℤ x'))
      unfolding on.fit_asked
      minus_fact plain_number i = quiet_fact w _ _ (ap (λ n. fit_of (neg_ℤ n)) i)
      minus_fact (formed g) i = choice_fact w (on.fit_choices f g) _ _ (fit_told f laws (at_h w) g (neg_ℤ x') i.1 (λ p m. (i.2 p m).there))
      minus_fact (termed k) i = term_fact w k _ _

      minus_value : (r : Formed) → Good_minus r → ((k : TermKind) → on.fit_asked f r ≡ term k → ⊥) → (on.shadow_of f r (num (neg_ℤ x)) ≡ on.shadow_of f r (num (neg_ℤ x'))) × Fits w (on.shadow_of f r (num (neg_ℤ x))) (num (neg_ℤ x)) (num (neg_ℤ x'))
      unfolding on.shadow_of on.fit_asked number_of
      minus_value plain_number i n = (
        ap (λ s. form (f.number (neg_ℤ s))) i,
        subst (λ z. FormAt w (f.number (neg_ℤ x)) (num (neg_ℤ x)) (num (neg_ℤ z))) i (number_fits w (neg_ℤ x)),
      )
      minus_value (formed g) i n = (refl, record { here = ap num (sym i.0); there = ap num (sym i.1); known = i.2 })
      minus_value (termed k) i n = absurd (n k refl)

      minus_below : (r : Formed) → Good_minus r → AskedBelow (length w.places) (on.fit_asked f r)
      unfolding on.fit_asked
      minus_below plain_number i = tt
      minus_below (formed g) i = fit_choices_below w g i.2
      minus_below (termed k) i = tt

    negate_at : (w : World) (s : Shadow) (p p' : Value) (x y : Data) → Fits w s p p' → Lock w x y
        → Act_fact w (act_negate (mk p s)) (on.act f layout (act_negate (mk p s)) x) (on.act f layout (act_negate (mk p' s)) y)
    unfolding on.act on.asked_of on.after_shadows on.value_shadow on.plain_of base.act base.acted
    negate_at w s p p' x y i k =
        let m = numbers w s p p' i in
        let g = good_minus w (number_of p) (number_of p') (on.form_of f s) m.0 m.1 m.2 in
        stay w (act_negate (mk p s)) (act_negate (mk p' s)) x y k refl
        (minus_below w (number_of p) (number_of p') (on.form_of f s) m.0 m.1 m.2 _ g)
        (minus_fact w (number_of p) (number_of p') (on.form_of f s) m.0 m.1 m.2 _ g)
        (λ z e. minus_value w (number_of p) (number_of p') (on.form_of f s) m.0 m.1 m.2 _ g z)
        k

    -- an event that is a term where it depends on the input, and else one outcome at both
    term_or_quiet : (w : World) (t : TermKind) (d : Bool) (o o' : Outcome) → (d ≡ false → o ≡ o') → Fact w (if d then term t else asks_nothing) o o'
    term_or_quiet w t true o o' i = term_fact w t o o'
    term_or_quiet w t false o o' i = quiet_fact w o o' (i refl)

    term_below : (n : ℕ) (t : TermKind) (d : Bool) → AskedBelow n (if d then term t else asks_nothing)
    term_below n t true = tt
    term_below n t false = tt

    divisor_at : (w : World) (s t : Shadow) (p p' q q' : Value) (x y : Data) → Fits w s p p' → Fits w t q q' → Lock w x y
        → Act_fact w (act_divisor (mk p s) (mk q t)) (on.act f layout (act_divisor (mk p s) (mk q t)) x) (on.act f layout (act_divisor (mk p' s) (mk q' t)) y)
    unfolding on.act on.asked_of on.divisor_asked on.after_shadows on.value_shadow on.plain_of base.act base.acted
    divisor_at w s t p p' q q' x y i j k =
        let n = numbers w t q q' j in
        stay w (act_divisor (mk p s) (mk q t)) (act_divisor (mk p' s) (mk q' t)) x y k refl
        (term_below (length w.places) kind.Quotient _)
        (term_or_quiet w kind.Quotient _ _ _ (λ d. ap (λ z. if base.int_eq z (pos 0) then Zero else Plain) (n.0 ∙ plain_both _ _ (on.form_of f t) (or_both_false _ _ d).1 ∙ sym n.1)))
        (λ z e. tt)
        k

    no_term : (t : TermKind) (d : Bool) → ((k : TermKind) → (if d then term t else asks_nothing) ≡ term k → ⊥) → d ≡ false
    no_term t true n = absurd (n t refl)
    no_term t false n = refl

    index_at : (w : World) (s t : Shadow) (p p' q q' : Value) (n c : ℕ) (x y : Data) → LocAt w (mk p s) (mk p' s) → Fits w t q q' → Lock w x y
        → Act_fact w (act_index (mk p s) (mk q t) n c) (on.act f layout (act_index (mk p s) (mk q t) n c) x) (on.act f layout (act_index (mk p' s) (mk q' t) n c) y)
    unfolding on.act on.asked_of on.index_asked on.after_shadows on.value_shadow on.plain_of base.act base.acted
    index_at w s t p p' q q' n c x y i j k =
        let m = numbers w t q q' j in
        stay w (act_index (mk p s) (mk q t) n c) (act_index (mk p' s) (mk q' t) n c) x y k refl
        (term_below (length w.places) kind.Index _)
        (term_or_quiet w kind.Index _ _ _ (λ d. ap (λ z. base.index_of z n) (m.0 ∙ plain_both _ _ (on.form_of f t) d ∙ sym m.1)))
        (λ z e. subst (λ r. LocAt w (mk (base.offset p (nat_of (number_of q) * c)) none) (mk (base.offset p' (nat_of r * c)) none)) (m.0 ∙ plain_both _ _ (on.form_of f t) (no_term kind.Index (on.depends (on.form_of f t)) z) ∙ sym m.1) (moved_at w (mk p s) (mk p' s) (nat_of (number_of q) * c) i))
        k

    -- ---- sides of pointer atoms

    -- the address of a pointer's value; that of NULL is 0
    pub data Addr : ℤ → Value → Type 0 where
      addr_null : Addr (pos 0) null
      addr_block : (n : ℕ) → Addr (pos (suc n)) (at (block (suc n)) 0)

    pub addr_of : (type : ℕ → ℕ) (named : ℕ → Type 0) (t : ℕ) (o : Option ℤ) (v : Value) → Points type named t o v → Addr (unwrap_or o (pos 0)) v
    addr_of type named t o v (inl i) = subst (λ r. Addr (unwrap_or r (pos 0)) v) (sym i.0) (subst (Addr (pos 0)) (sym i.1) addr_null)
    addr_of type named t o v (inr i) = subst (λ r. Addr (unwrap_or r (pos 0)) v) (sym i.1) (subst (Addr (pos (suc i.0))) (sym i.2) (addr_block i.0))

    pub points_some : (type : ℕ → ℕ) (named : ℕ → Type 0) (t : ℕ) (o : Option ℤ) (v : Value) → Points type named t o v → IsSome o
    points_some type named t o v (inl i) = subst IsSome (sym i.0) refl
    points_some type named t o v (inr i) = subst IsSome (sym i.1) refl

    -- a side and its values
    record SideAt (w : World) (a : Side) (x y : Value) : Type 0 where
      below : (p : ℕ) → In p (places_of_side a) → p < length w.places
      valued : (p : ℕ) → In p (places_of_side a) → IsSome (at_h w p)
      here : Addr (value_of_side (or_zero (at_g w)) a) x
      there : Addr (value_of_side (or_zero (at_h w)) a) y

    side_null : (w : World) → SideAt w nothing null null
    side_null w = record { below = λ p i. absurd i; valued = λ p i. absurd i; here = addr_null; there = addr_null }

    one_in : (P : ℕ → Type 0) (p : ℕ) → P p → (q : ℕ) → In q (p ∷ []) → P q
    one_in P p h q (inl e) = subst P (sym e) h
    one_in P p h q (inr e) = absurd e

    side_place : (w : World) (p t : ℕ) (x y : Value) → PlaceAt w p t x y → SideAt w (asked.at p) x y
    side_place w p t x y i = record {
      below = one_in (λ q. q < length w.places) p i.below;
      valued = one_in (λ q. IsSome (at_h w q)) p (points_some th.type th.named t (at_h w p) y i.there);
      here = addr_of tg.type tg.named t (at_g w p) x i.here;
      there = addr_of th.type th.named t (at_h w p) y i.there;
    }

    in_append : {A : Type 0} → (x : A) (l m : List A) → In x (l ++ m) → In x l ⊎ In x m
    in_append x [] m i = inr i
    in_append x (a ∷ l) m (inl e) = inl (inl e)
    in_append x (a ∷ l) m (inr i) = elim (in_append x l m i) [ inl j ↦ inl (inr j) | inr j ↦ inr j ]

    block_inj : (n m : ℕ) → pos (suc n) ≡ pos (suc m) → n ≡ m
    block_inj n m e = omega (arith, ints, e)

    -- two addresses are the same exactly where the pointers are
    addr_same : (z y : ℤ) (v u : Value) → Addr z v → Addr y u → ((base.same_ptr v u ≡ true) × (z ≡ y)) ⊎ ((base.same_ptr v u ≡ false) × (z ≢ y))
    unfolding base.same_ptr base.same_obj
    addr_same z y v u addr_null addr_null = inl (refl, refl)
    addr_same z y v u addr_null (addr_block n) = inr (refl, λ e. absurd (omega (arith, ints, e)))
    addr_same z y v u (addr_block n) addr_null = inr (refl, λ e. absurd (omega (arith, ints, e)))
    addr_same z y v u (addr_block n) (addr_block m) = elim (eqb_tells (suc n) (suc m)) [
      | inl q ↦ inl (ap (λ t. t && nat_eq 0 0) q.0, ap pos q.1)
      | inr q ↦ inr (ap (λ t. t && nat_eq 0 0) q.0, λ e. q.1 (ap suc (block_inj n m e)))
    ]

    same_holds : (w : World) (a c : Side) (x x' y y' : Value) → SideAt w a x x' → SideAt w c y y' → value_of_side (or_zero (at_h w)) a ≡ value_of_side (or_zero (at_h w)) c → Holds (at_h w) (same a c)
    same_holds w a c x x' y y' i j e = record { valued = all_valued (at_h w) (places_of_side a ++ places_of_side c) (λ p m. elim (in_append p _ _ m) [ inl n ↦ i.valued p n | inr n ↦ j.valued p n ]); compares = e }

    differ_holds : (w : World) (a c : Side) (x x' y y' : Value) → SideAt w a x x' → SideAt w c y y' → value_of_side (or_zero (at_h w)) a ≢ value_of_side (or_zero (at_h w)) c → Holds (at_h w) (differ a c)
    differ_holds w a c x x' y y' i j e = record { valued = all_valued (at_h w) (places_of_side a ++ places_of_side c) (λ p m. elim (in_append p _ _ m) [ inl n ↦ i.valued p n | inr n ↦ j.valued p n ]); compares = e }

    same_told : (w : World) (o : Cmp) (a c : Side) (x x' y y' : Value) → SideAt w a x x' → SideAt w c y y' → Told (at_h w) (on.same_choices o a c) (decision_of (base.compare_ptr o x' y'))
    unfolding on.same_choices base.compare_ptr
    same_told w tree.ne a c x x' y y' i j = elim (addr_same _ _ _ _ i.there j.there) [
      | inl e ↦ two_told f laws (at_h w) _ _ _ (λ t. absurd (cc (t, ap not e.0))) (λ t. (same_holds w a c x x' y y' i j e.1, λ m. m.compares e.1))
      | inr e ↦ two_told f laws (at_h w) _ _ _ (λ t. (differ_holds w a c x x' y y' i j e.1, λ m. e.1 m.compares)) (λ t. absurd (cc (t, ap not e.0)))
    ]
    same_told w _ a c x x' y y' i j = elim (addr_same _ _ _ _ i.there j.there) [
      | inl e ↦ two_told f laws (at_h w) _ _ _ (λ t. (same_holds w a c x x' y y' i j e.1, λ m. m.compares e.1)) (λ t. absurd (cc (e.0, t)))
      | inr e ↦ two_told f laws (at_h w) _ _ _ (λ t. absurd (cc (e.0, t))) (λ t. (differ_holds w a c x x' y y' i j e.1, λ m. e.1 m.compares))
    ]

    sides_below : (w : World) (a c : Side) (x x' y y' : Value) → SideAt w a x x' → SideAt w c y y' → (p : ℕ) → In p (places_of_side a ++ places_of_side c) → p < length w.places
    sides_below w a c x x' y y' i j p m = elim (in_append p _ _ m) [ inl n ↦ i.below p n | inr n ↦ j.below p n ]

    same_below : (w : World) (o : Cmp) (a c : Side) (x x' y y' : Value) → SideAt w a x x' → SideAt w c y y' → ChoicesBelow (length w.places) (on.same_choices o a c)
    unfolding on.same_choices
    same_below w tree.ne a c x x' y y' i j = two_below (length w.places) (differ a c) (same a c) (sides_below w a c x x' y y' i j) (sides_below w a c x x' y y' i j)
    same_below w _ a c x x' y y' i j = two_below (length w.places) (same a c) (differ a c) (sides_below w a c x x' y y' i j) (sides_below w a c x x' y y' i j)

    -- ---- comparisons of pointers

    ptr_by : Cmp → Bool → Bool
    ptr_by tree.ne t = not t
    ptr_by _ t = t

    ptr_is : (o : Cmp) (v u : Value) → base.compare_ptr o v u ≡ ptr_by o (base.same_ptr v u)
    unfolding base.compare_ptr ptr_by
    ptr_is tree.ne v u = refl
    ptr_is _ v u = refl

    data IsPtr : Value → Type 0 where
      ptr_null : IsPtr null
      ptr_at : (o : Obj) (c : ℕ) → IsPtr (at o c)

    first_ptr : (o : Cmp) (v u : Value) → IsPtr v → compared o v u ≡ base.compare_ptr o v u
    unfolding compared
    first_ptr o v u ptr_null = refl
    first_ptr o v u (ptr_at n c) = refl

    second_ptr : (o : Cmp) (v u : Value) → IsPtr u → compared o v u ≡ base.compare_ptr o v u
    unfolding compared
    second_ptr o (num z) u ptr_null = refl
    second_ptr o (num z) u (ptr_at n c) = refl
    second_ptr o null u i = refl
    second_ptr o (at n c) u i = refl

    -- two pairs of pointers that are both the same or both not
    pair_equal : (o : Cmp) (v u v' u' : Value) → compared o v u ≡ base.compare_ptr o v u → compared o v' u' ≡ base.compare_ptr o v' u' → base.same_ptr v u ≡ base.same_ptr v' u' → decision_of (compared o v u) ≡ decision_of (compared o v' u')
    pair_equal o v u v' u' i j e = ap decision_of (i ∙ ptr_is o v u ∙ ap (ptr_by o) e ∙ sym (ptr_is o v' u') ∙ sym j)

    addr_ptr : (z : ℤ) (v : Value) → Addr z v → IsPtr v
    addr_ptr z v addr_null = ptr_null
    addr_ptr z v (addr_block n) = ptr_at (block (suc n)) 0

    bare_ptr : (w : World) (x y : Value) → Fits w none x y → IsPtr x × IsPtr y
    bare_ptr w x y (inl i) = (subst IsPtr (sym i.0) ptr_null, subst IsPtr (sym i.1) ptr_null)
    bare_ptr w x y (inr (spot_made n c i j)) = (subst IsPtr (sym i) (ptr_at _ _), subst IsPtr (sym j) (ptr_at _ _))
    bare_ptr w x y (inr (spot_block k c m i j)) = (subst IsPtr (sym i) (ptr_at _ _), subst IsPtr (sym j) (ptr_at _ _))

    same_num : (z : ℤ) (v : Value) → base.same_ptr (num z) v ≡ false
    unfolding base.same_ptr
    same_num z (num y) = refl
    same_num z null = refl
    same_num z (at n c) = refl

    num_same : (z : ℤ) (v : Value) → base.same_ptr v (num z) ≡ false
    unfolding base.same_ptr
    num_same z (num y) = refl
    num_same z null = refl
    num_same z (at n c) = refl

    -- a number beside a pointer
    number_first : (w : World) (o : Cmp) (a : Form) (x x' y y' : Value) → FormAt w a x x' → IsPtr y × IsPtr y' → decision_of (compared o x y) ≡ decision_of (compared o x' y')
    number_first w o a x x' y y' i p = pair_equal o x y x' y' (second_ptr o x y p.0) (second_ptr o x' y' p.1) (ap (λ v. base.same_ptr v y) i.here ∙ same_num _ y ∙ sym (ap (λ v. base.same_ptr v y') i.there ∙ same_num _ y'))

    number_second : (w : World) (o : Cmp) (a : Form) (x x' y y' : Value) → FormAt w a x x' → IsPtr y × IsPtr y' → decision_of (compared o y x) ≡ decision_of (compared o y' x')
    number_second w o a x x' y y' i p = pair_equal o y x y' x' (first_ptr o y x p.0) (first_ptr o y' x' p.1) (ap (λ v. base.same_ptr y v) i.here ∙ num_same _ y ∙ sym (ap (λ v. base.same_ptr y' v) i.there ∙ num_same _ y'))

    place_ptr : (w : World) (p t : ℕ) (x y : Value) → PlaceAt w p t x y → IsPtr x × IsPtr y
    place_ptr w p t x y i = (addr_ptr _ x (addr_of tg.type tg.named t (at_g w p) x i.here), addr_ptr _ y (addr_of th.type th.named t (at_h w p) y i.there))

    -- what is known of an event that compares, with the places of its atoms
    abbrev Known_fact : World → Asked → Outcome → Outcome → Type 0
    Known_fact w a o o' = AskedBelow (length w.places) a × Fact w a o o'

    quiet_known : (w : World) (o o' : Outcome) → o ≡ o' → Known_fact w asks_nothing o o'
    quiet_known w o o' e = (tt, quiet_fact w o o' e)

    same_side_is : (a c : Side) → on.same_side a c ≡ true → a ≡ c
    unfolding on.same_side
    same_side_is nothing nothing e = refl
    same_side_is (asked.at p) (asked.at q) e = ap asked.at (eqb-true p q e)
    same_side_is nothing (asked.at q) e = absurd (cc e)
    same_side_is (asked.at p) nothing e = absurd (cc e)

    sides_if : (w : World) (o : Cmp) (a c : Side) (x x' y y' : Value) (t : Bool) → on.same_side a c ≡ t → SideAt w a x x' → SideAt w c y y' → Known_fact w (if t then asks_nothing else one_of (on.same_choices o a c)) (decision_of (compared o x y)) (decision_of (compared o x' y'))
    sides_if w o a c x x' y y' true e i j = quiet_known w _ _ (pair_equal o x y x' y' (first_ptr o x y (addr_ptr _ x i.here)) (first_ptr o x' y' (addr_ptr _ x' i.there)) (one_side (addr_same _ _ _ _ i.here j.here) (ap (value_of_side (or_zero (at_g w))) (same_side_is a c e)) ∙ sym (one_side (addr_same _ _ _ _ i.there j.there) (ap (value_of_side (or_zero (at_h w))) (same_side_is a c e)))))
      where
        one_side : {z y : ℤ} {s : Bool} → ((s ≡ true) × (z ≡ y)) ⊎ ((s ≡ false) × (z ≢ y)) → z ≡ y → s ≡ true
        one_side (inl q) r = q.0
        one_side (inr q) r = absurd (q.1 r)
    sides_if w o a c x x' y y' false e i j = (
      same_below w o a c x x' y y' i j,
      choice_fact w (on.same_choices o a c) _ _ (subst (λ z. Told (at_h w) (on.same_choices o a c) (decision_of z)) (sym (first_ptr o x' y' (addr_ptr _ x' i.there))) (same_told w o a c x x' y y' i j)),
    )

    sides_known : (w : World) (o : Cmp) (a c : Side) (x x' y y' : Value) → SideAt w a x x' → SideAt w c y y' → Known_fact w (on.sides_asked o (Some a) (Some c)) (decision_of (compared o x y)) (decision_of (compared o x' y'))
    unfolding on.sides_asked
    sides_known w o a c x x' y y' i j = sides_if w o a c x x' y y' (on.same_side a c) refl i j

    -- ---- a pointer without place, against one to the type t

    get_head : (w : World) (ks : List Key) (l : List Touched) (bx by : ℕ → List Value) → BlocksAt w ks l bx by → Distinct (names ks) → (k : Key) → In k ks
        → (c : Touched) × (slice_get l (base.rank k.name (names ks)) ≡ Some c) × (c.first ≡ k.first) × (c.type ≡ k.type)
    get_head w [] [] bx by i d k m = absurd m
    get_head w (j ∷ ks) (c ∷ l) bx by i d k (inl e) =
        (c, ap (slice_get (c ∷ l)) (rank_here k.name j.name (names ks) (eq-eqb k.name j.name (ap (λ m. m.name) e))), i.0 ∙ sym (ap (λ z. z.first) e), i.1 ∙ sym (ap (λ z. z.type) e))
    get_head w (j ∷ ks) (c ∷ l) bx by i d k (inr m) = let r = get_head w ks l bx by i.3 d.1 k m in
        (r.0, ap (slice_get (c ∷ l)) (rank_next k.name j.name (names ks) (not_here (λ m. m.name) j ks k d.0 m)) ∙ r.1, r.2, r.3)
    get_head w [] (c ∷ l) bx by i d k m = absurd i
    get_head w (j ∷ ks) [] bx by i d k m = absurd i

    head_at : (w : World) (x y : Data) → Lock w x y → (k : Key) → In k w.keys → (c : Touched) × (slice_get x.shadows.touched (base.rank k.name x.plain.touched) ≡ Some c) × (c.first ≡ k.first) × (c.type ≡ k.type)
    head_at w x y l k i = let r = get_head w w.keys x.shadows.touched x.plain.blocks y.plain.blocks l.blocks l.distinct_g k i in
        (r.0, ap (λ t. slice_get x.shadows.touched (base.rank k.name t)) l.touched_g ∙ r.1, r.2, r.3)

    block_eq : (n m : ℕ) → at (block n) 0 ≡ at (block m) 0 → n ≡ m
    block_eq n m e = ap name_of e
      where
        name_of : Value → ℕ
        name_of (at (block a) c) = a
        name_of _ = 0

    -- the blocks that keys name
    key_block : (type : ℕ → ℕ) (named : ℕ → Type 0) (t : ℕ) (o : Option ℤ) (n : ℕ) → Points type named t o (at (block n) 0) → (o ≡ Some (pos n)) × (type n ≡ t) × named n
    key_block type named t o n (inl i) = absurd (cc i.1)
    key_block type named t o n (inr i) = let e : n ≡ suc i.0 = block_eq n (suc i.0) i.2 in (i.1 ∙ ap (λ m. Some (pos m)) (sym e), ap type e ∙ i.3, subst named (sym e) i.4)

    same_null_at : (o : Obj) (c : ℕ) → base.same_ptr null (at o c) ≡ false
    unfolding base.same_ptr
    same_null_at o c = refl

    same_blocks : (n m c e : ℕ) → base.same_ptr (at (block n) c) (at (block m) e) ≡ nat_eq n m && nat_eq c e
    unfolding base.same_ptr base.same_obj
    same_blocks n m c e = refl

    -- a pointer to a block of another type is another pointer
    other_type : (type : ℕ → ℕ) (named : ℕ → Type 0) (t u : ℕ) (o q : Option ℤ) (v : Value) (n : ℕ) → t ≢ u → Points type named t o v → Points type named u q (at (block n) 0) → base.same_ptr v (at (block n) 0) ≡ false
    other_type type named t u o q v n ne (inl i) j = ap (λ z. base.same_ptr z (at (block n) 0)) i.1 ∙ same_null_at (block n) 0
    other_type type named t u o q v n ne (inr i) j = elim (eqb_tells (suc i.0) n) [
      | inl r ↦ absurd (ne (sym i.3 ∙ ap type r.1 ∙ (key_block type named u q n j).1))
      | inr r ↦ ap (λ z. base.same_ptr z (at (block n) 0)) i.2 ∙ same_blocks (suc i.0) n 0 0 ∙ ap (λ z. z && nat_eq 0 0) r.0
    ]

    -- cell 0 of a block beside a later cell
    and_not : (s : Bool) → s && false ≡ false
    and_not true = refl
    and_not false = refl

    eq_zero_suc : (c : ℕ) → nat_eq 0 (suc c) ≡ false
    eq_zero_suc c = elim (eqb_tells 0 (suc c)) [ inl q ↦ absurd (let e = q.1 in omega (arith, e)) | inr q ↦ q.0 ]

    far_from : (z : ℤ) (v : Value) (n c : ℕ) → Addr z v → base.same_ptr v (at (block n) (suc c)) ≡ false
    far_from z v n c addr_null = same_null_at (block n) (suc c)
    far_from z v n c (addr_block m) = same_blocks (suc m) n 0 (suc c) ∙ ap (λ t. nat_eq (suc m) n && t) (eq_zero_suc c) ∙ and_not _

    made_from : (z : ℤ) (v : Value) (n c : ℕ) → Addr z v → base.same_ptr v (at (made n) c) ≡ false
    unfolding base.same_ptr base.same_obj
    made_from z v n c addr_null = refl
    made_from z v n c (addr_block m) = refl

    swap_eq : (a c : ℕ) → nat_eq a c ≡ nat_eq c a
    swap_eq a c = elim (eqb_tells a c) [
      | inl q ↦ q.0 ∙ sym (eq-eqb c a (sym q.1))
      | inr q ↦ q.0 ∙ sym (eqb_swap a c q.0)
    ]

    swap_ptr : (v u : Value) → base.same_ptr v u ≡ base.same_ptr u v
    unfolding base.same_ptr base.same_obj
    swap_ptr (at (block a) c) (at (block d) e) = ap₂ (λ s t. s && t) (swap_eq a d) (swap_eq c e)
    swap_ptr (at (made a) c) (at (made d) e) = ap₂ (λ s t. s && t) (swap_eq a d) (swap_eq c e)
    swap_ptr (at (made a) c) (at (block d) e) = refl
    swap_ptr (at (block a) c) (at (made d) e) = refl
    swap_ptr (at (made a) c) null = refl
    swap_ptr (at (block a) c) null = refl
    swap_ptr null (at (made a) c) = refl
    swap_ptr null (at (block a) c) = refl
    swap_ptr null null = refl
    swap_ptr (num z) (num y) = refl
    swap_ptr (num z) null = refl
    swap_ptr (num z) (at (made a) c) = refl
    swap_ptr (num z) (at (block a) c) = refl
    swap_ptr null (num z) = refl
    swap_ptr (at (made a) c) (num z) = refl
    swap_ptr (at (block a) c) (num z) = refl

    -- what a pointer without place is against a place to the type t: a side with its values, or none, and then it differs from
    -- each pointer to that type
    data Without (w : World) (t : ℕ) (y y' : Value) (r : Option Side) : Type 0 where
      a_side : (c : Side) → r ≡ Some c → SideAt w c y y' → Without w t y y' r
      no_side : r ≡ None → ((p : ℕ) (x x' : Value) → PlaceAt w p t x x' → (base.same_ptr x y ≡ false) × (base.same_ptr x' y' ≡ false)) → Without w t y y' r

    without_first : (w : World) (t : ℕ) (k : Key) (c : Touched) (s : Bool) → nat_eq c.type t ≡ s → c.first ≡ k.first → c.type ≡ k.type → PlaceAt w k.first k.type (at (block k.name) 0) (at (block k.other) 0)
        → Without w t (at (block k.name) 0) (at (block k.other) 0) (if s then Some (asked.at c.first) else None)
    without_first w t k c true e i j h = a_side (asked.at c.first) refl (subst (λ n. SideAt w (asked.at n) (at (block k.name) 0) (at (block k.other) 0)) (sym i) (side_place w k.first k.type _ _ h))
    without_first w t k c false e i j h = no_side refl (λ p x x' m.
        let n : t ≢ k.type = λ q. absurd (cc (e, eq-eqb c.type t (j ∙ sym q))) in
        (other_type tg.type tg.named t k.type (at_g w p) (at_g w k.first) x k.name n m.here h.here, other_type th.type th.named t k.type (at_h w p) (at_h w k.first) x' k.other n m.there h.there))

    without_is : (w : World) (t : ℕ) (y y' : Value) (d d' : Data) → SpotIs w y y' → Lock w d d' → Without w t y y' (on.side_at t (spot_of y d.plain.touched) d.shadows.touched)
    unfolding on.side_at spot_of on.first_if
    without_is w t y y' d d' (is_made n c) l = no_side refl (λ p x x' m. (made_from _ x n c (addr_of tg.type tg.named t (at_g w p) x m.here), made_from _ x' n c (addr_of th.type th.named t (at_h w p) x' m.there)))
    without_is w t y y' d d' (is_block k zero i) l = let h = head_at w d d' l k i in
        subst (λ r. Without w t (at (block k.name) 0) (at (block k.other) 0) (on.first_if t r)) (sym h.1) (without_first w t k h.0 (nat_eq (h.0).type t) refl h.2 h.3 (l.firsts k i))
    without_is w t y y' d d' (is_block k (suc c) i) l = no_side refl (λ p x x' m. (far_from _ x k.name c (addr_of tg.type tg.named t (at_g w p) x m.here), far_from _ x' k.other c (addr_of th.type th.named t (at_h w p) x' m.there)))

    without_null : (t : ℕ) (touched : List ℕ) (l : List Touched) → on.side_without t null touched l ≡ Some nothing
    unfolding on.side_without
    without_null t touched l = refl

    without_at : (t : ℕ) (o : Obj) (c : ℕ) (touched : List ℕ) (l : List Touched) → on.side_without t (at o c) touched l ≡ on.side_at t (spot_of (at o c) touched) l
    unfolding on.side_without
    without_at t o c touched l = refl

    spot_at : (w : World) (y y' : Value) → SpotIs w y y' → (t : ℕ) (touched touched' : List ℕ) (l l' : List Touched) → (on.side_without t y touched l ≡ on.side_at t (spot_of y touched) l) × (on.side_without t y' touched' l' ≡ on.side_at t (spot_of y' touched') l')
    spot_at w y y' (is_made n c) t touched touched' l l' = (without_at t (made n) c touched l, without_at t (made n) c touched' l')
    spot_at w y y' (is_block k c i) t touched touched' l l' = (without_at t (block k.name) c touched l, without_at t (block k.other) c touched' l')

    without_of : (w : World) (t : ℕ) (y y' : Value) (d d' : Data) → Fits w none y y' → Lock w d d' → Without w t y y' (on.side_without t y d.plain.touched d.shadows.touched)
    without_of w t y y' d d' (inl i) l = a_side nothing (ap (λ v. on.side_without t v d.plain.touched d.shadows.touched) i.0 ∙ without_null t _ _) (subst (λ v. SideAt w nothing v y') (sym i.0) (subst (SideAt w nothing null) (sym i.1) (side_null w)))
    without_of w t y y' d d' (inr i) l = let s = spot_is w y y' i in subst (Without w t y y') (sym (spot_at w y y' s t d.plain.touched d'.plain.touched d.shadows.touched d'.shadows.touched).0) (without_is w t y y' d d' s l)

    -- the same side in both runs
    without_same : (w : World) (t : ℕ) (y y' : Value) (d d' : Data) → Fits w none y y' → Lock w d d' → on.side_without t y d.plain.touched d.shadows.touched ≡ on.side_without t y' d'.plain.touched d'.shadows.touched
    without_same w t y y' d d' (inl i) l = ap (λ v. on.side_without t v d.plain.touched d.shadows.touched) i.0 ∙ without_null t _ _ ∙ sym (ap (λ v. on.side_without t v d'.plain.touched d'.shadows.touched) i.1 ∙ without_null t _ _)
    without_same w t y y' d d' (inr i) l = let s = spot_is w y y' i in let e = spot_at w y y' s t d.plain.touched d'.plain.touched d.shadows.touched d'.shadows.touched in
        e.0 ∙ ap₂ (λ p z. on.side_at t p z.touched) (spots_same w y y' d d' s l) l.shadows ∙ sym e.1

    -- ---- comparisons

    difference_known : (w : World) (o : Cmp) (n m n' m' : ℤ) (r : Option Form) → ((g : Form) → r ≡ Some g → (form_h w g ≡ n' -ℤ m') × KnownForm w g) → Known_fact w (on.difference_asked f o r) (decision_of (base.compare_int o n m)) (decision_of (base.compare_int o n' m'))
    unfolding on.difference_asked
    difference_known w o n m n' m' None i = (tt, term_fact w kind.Wide _ _)
    difference_known w o n m n' m' (Some g) i = let r = i g refl in (
      two_below (length w.places) (on.compare_atom f o true g) (on.compare_atom f o false g) (compare_atom_below w o true g r.1) (compare_atom_below w o false g r.1),
      choice_fact w _ _ _ (compare_told f laws (at_h w) o g n' m' r.0 (λ p j. (r.1 p j).there)),
    )

    numbers_if : (w : World) (o : Cmp) (n m n' m' : ℤ) (a c : Form) → n ≡ form_g w a → m ≡ form_g w c → n' ≡ form_h w a → m' ≡ form_h w c → KnownForm w a → KnownForm w c → (t : Bool) → on.depends a || on.depends c ≡ t
        → Known_fact w (if t then on.difference_asked f o (f.difference a c) else asks_nothing) (decision_of (base.compare_int o n m)) (decision_of (base.compare_int o n' m'))
    numbers_if w o n m n' m' a c i j i' j' ka kc true e = difference_known w o n m n' m' (f.difference a c) (λ g q. (
      laws.difference a c g q (or_zero (at_h w)) ∙ ap₂ ◌-ℤ◌ (sym i') (sym j'),
      λ p z. elim (laws.difference_places a c g q p z) [ inl y ↦ ka p y | inr y ↦ kc p y ],
    ))
    numbers_if w o n m n' m' a c i j i' j' ka kc false e = let r = or_both_false _ _ e in
        quiet_known w _ _ (ap₂ (λ s t. decision_of (base.compare_int o s t)) (i ∙ plain_both _ _ a r.0 ∙ sym i') (j ∙ plain_both _ _ c r.1 ∙ sym j'))

    compared_numbers : (o : Cmp) (x y : Value) (n m : ℤ) → x ≡ num n → y ≡ num m → decision_of (compared o x y) ≡ decision_of (base.compare_int o n m)
    unfolding compared
    compared_numbers o x y n m i j = ap₂ (λ s t. decision_of (compared o s t)) i j

    numbers_known : (w : World) (o : Cmp) (a c : Form) (x x' y y' : Value) → FormAt w a x x' → FormAt w c y y' → Known_fact w (on.numbers_asked f o a c) (decision_of (compared o x y)) (decision_of (compared o x' y'))
    unfolding on.numbers_asked
    numbers_known w o a c x x' y y' i j =
        subst (λ z. Known_fact w (if on.depends a || on.depends c then on.difference_asked f o (f.difference a c) else asks_nothing) z (decision_of (compared o x' y'))) (sym (compared_numbers o x y _ _ i.here j.here))
        (subst (λ z. Known_fact w (if on.depends a || on.depends c then on.difference_asked f o (f.difference a c) else asks_nothing) (decision_of (base.compare_int o (form_g w a) (form_g w c))) z) (sym (compared_numbers o x' y' _ _ i.there j.there))
        (numbers_if w o (form_g w a) (form_g w c) (form_h w a) (form_h w c) a c refl refl refl refl i.known j.known (on.depends a || on.depends c) refl))

    one_name : (ks : List Key) → Distinct (names ks) → Distinct (others ks) → (k j : Key) → In k ks → In j ks → nat_eq k.name j.name ≡ nat_eq k.other j.other
    one_name [] d e k j m n = absurd m
    one_name (i ∷ ks) d e k j (inl m) (inl n) = eq-eqb k.name j.name (ap (λ z. z.name) m ∙ sym (ap (λ z. z.name) n)) ∙ sym (eq-eqb k.other j.other (ap (λ z. z.other) m ∙ sym (ap (λ z. z.other) n)))
    one_name (i ∷ ks) d e k j (inl m) (inr n) =
        subst (λ z. nat_eq z.name j.name ≡ nat_eq z.other j.other) (sym m) (eqb_swap j.name i.name (not_here (λ z. z.name) i ks j d.0 n) ∙ sym (eqb_swap j.other i.other (not_here (λ z. z.other) i ks j e.0 n)))
    one_name (i ∷ ks) d e k j (inr m) (inl n) =
        subst (λ z. nat_eq k.name z.name ≡ nat_eq k.other z.other) (sym n) (not_here (λ z. z.name) i ks k d.0 m ∙ sym (not_here (λ z. z.other) i ks k e.0 m))
    one_name (i ∷ ks) d e k j (inr m) (inr n) = one_name ks d.1 e.1 k j m n

    -- two pointers without place
    data BareIs (w : World) : Value → Value → Type 0 where
      bare_null : BareIs w null null
      bare_made : (n c : ℕ) → BareIs w (at (made n) c) (at (made n) c)
      bare_block : (k : Key) (c : ℕ) → In k w.keys → BareIs w (at (block k.name) c) (at (block k.other) c)

    bare_spot : (w : World) (x y : Value) → SpotIs w x y → BareIs w x y
    bare_spot w x y (is_made n c) = bare_made n c
    bare_spot w x y (is_block k c i) = bare_block k c i

    bare_is : (w : World) (x y : Value) → Fits w none x y → BareIs w x y
    bare_is w x y (inl i) = subst (λ v. BareIs w v y) (sym i.0) (subst (BareIs w null) (sym i.1) bare_null)
    bare_is w x y (inr i) = bare_spot w x y (spot_is w x y i)

    bare_same : (w : World) (x x' y y' : Value) → Distinct (names w.keys) → Distinct (others w.keys) → BareIs w x x' → BareIs w y y' → base.same_ptr x y ≡ base.same_ptr x' y'
    unfolding base.same_ptr base.same_obj
    bare_same w x x' y y' d e bare_null bare_null = refl
    bare_same w x x' y y' d e bare_null (bare_made n c) = refl
    bare_same w x x' y y' d e bare_null (bare_block k c i) = refl
    bare_same w x x' y y' d e (bare_made n c) bare_null = refl
    bare_same w x x' y y' d e (bare_made n c) (bare_made m c') = refl
    bare_same w x x' y y' d e (bare_made n c) (bare_block k c' i) = refl
    bare_same w x x' y y' d e (bare_block k c i) bare_null = refl
    bare_same w x x' y y' d e (bare_block k c i) (bare_made n c') = refl
    bare_same w x x' y y' d e (bare_block k c i) (bare_block j c' m) = ap (λ t. t && nat_eq c c') (one_name w.keys d e k j i m)

    against : (w : World) (o : Cmp) (p t : ℕ) (x x' y y' : Value) (r : Option Side) → PlaceAt w p t x x' → IsPtr y × IsPtr y' → Without w t y y' r → Known_fact w (on.sides_asked o (Some (asked.at p)) r) (decision_of (compared o x y)) (decision_of (compared o x' y'))
    unfolding on.sides_asked
    against w o p t x x' y y' r i q (a_side c e j) = subst (λ z. Known_fact w (on.sides_asked o (Some (asked.at p)) z) (decision_of (compared o x y)) (decision_of (compared o x' y'))) (sym e) (sides_known w o (asked.at p) c x x' y y' (side_place w p t x x' i) j)
    against w o p t x x' y y' r i q (no_side e j) = let z = j p x x' i in let u = place_ptr w p t x x' i in
        subst (λ z. Known_fact w (on.sides_asked o (Some (asked.at p)) z) (decision_of (compared o x y)) (decision_of (compared o x' y'))) (sym e) (quiet_known w _ _ (pair_equal o x y x' y' (first_ptr o x y u.0) (first_ptr o x' y' u.1) (z.0 ∙ sym z.1)))

    beside : (w : World) (o : Cmp) (p t : ℕ) (x x' y y' : Value) (r : Option Side) → PlaceAt w p t x x' → IsPtr y × IsPtr y' → Without w t y y' r → Known_fact w (on.sides_asked o r (Some (asked.at p))) (decision_of (compared o y x)) (decision_of (compared o y' x'))
    unfolding on.sides_asked
    beside w o p t x x' y y' r i q (a_side c e j) = subst (λ z. Known_fact w (on.sides_asked o z (Some (asked.at p))) (decision_of (compared o y x)) (decision_of (compared o y' x'))) (sym e) (sides_known w o c (asked.at p) y y' x x' j (side_place w p t x x' i))
    beside w o p t x x' y y' r i q (no_side e j) = let z = j p x x' i in
        subst (λ z. Known_fact w (on.sides_asked o z (Some (asked.at p))) (decision_of (compared o y x)) (decision_of (compared o y' x'))) (sym e) (quiet_known w _ _ (pair_equal o y x y' x' (first_ptr o y x q.0) (first_ptr o y' x' q.1) (swap_ptr y x ∙ z.0 ∙ sym (swap_ptr y' x' ∙ z.1))))

    if_known : (w : World) (b : Bool) (a : Asked) (o o' : Outcome) → Known_fact w a o o' → Known_fact w (if b then a else term kind.Wide) o o'
    if_known w true a o o' h = h
    if_known w false a o o' h = (tt, term_fact w kind.Wide o o')

    compare_known : (w : World) (o : Cmp) (s t : Shadow) (p p' q q' : Value) (x y : Data) → Fits w s p p' → Fits w t q q' → Lock w x y
        → Known_fact w (on.compare_asked f o (mk p s) (mk q t) x) (decision_of (compared o p q)) (decision_of (compared o p' q'))
    unfolding on.compare_asked on.pointers_asked on.places_asked
    compare_known w o (form a) (form c) p p' q q' x y i j k = numbers_known w o a c p p' q q' i j
    compare_known w o (form a) (place m t) p p' q q' x y i j k = quiet_known w _ _ (number_first w o a p p' q q' i (place_ptr w m t q q' j))
    compare_known w o (form a) none p p' q q' x y i j k = quiet_known w _ _ (number_first w o a p p' q q' i (bare_ptr w q q' j))
    compare_known w o (place m t) (form c) p p' q q' x y i j k = quiet_known w _ _ (number_second w o c q q' p p' j (place_ptr w m t p p' i))
    compare_known w o none (form c) p p' q q' x y i j k = quiet_known w _ _ (number_second w o c q q' p p' j (bare_ptr w p p' i))
    compare_known w o (place m t) (place n u) p p' q q' x y i j k = if_known w (nat_eq t u) _ _ _ (sides_known w o (asked.at m) (asked.at n) p p' q q' (side_place w m t p p' i) (side_place w n u q q' j))
    compare_known w o (place m t) none p p' q q' x y i j k = against w o m t p p' q q' _ i (bare_ptr w q q' j) (without_of w t q q' x y j k)
    compare_known w o none (place n u) p p' q q' x y i j k = beside w o n u q q' p p' _ j (bare_ptr w p p' i) (without_of w u p p' x y i k)
    compare_known w o none none p p' q q' x y i j k =
        let a = bare_ptr w p p' i in
        quiet_known w _ _ (pair_equal o p q p' q' (first_ptr o p q a.0) (first_ptr o p' q' a.1) (bare_same w p p' q q' k.distinct_g k.distinct_h (bare_is w p p' i) (bare_is w q q' j)))

    compare_same : (w : World) (o : Cmp) (s t : Shadow) (p p' q q' : Value) (x y : Data) → Fits w s p p' → Fits w t q q' → Lock w x y → on.compare_asked f o (mk p s) (mk q t) x ≡ on.compare_asked f o (mk p' s) (mk q' t) y
    unfolding on.compare_asked on.pointers_asked
    compare_same w o (form a) (form c) p p' q q' x y i j k = refl
    compare_same w o (form a) (place m t) p p' q q' x y i j k = refl
    compare_same w o (form a) none p p' q q' x y i j k = refl
    compare_same w o (place m t) (form c) p p' q q' x y i j k = refl
    compare_same w o none (form c) p p' q q' x y i j k = refl
    compare_same w o (place m t) (place n u) p p' q q' x y i j k = refl
    compare_same w o (place m t) none p p' q q' x y i j k = ap (on.sides_asked o (Some (asked.at m))) (without_same w t q q' x y j k)
    compare_same w o none (place n u) p p' q q' x y i j k = ap (λ r. on.sides_asked o r (Some (asked.at n))) (without_same w u p p' x y i k)
    compare_same w o none none p p' q q' x y i j k = refl

    compare_at : (w : World) (o : Cmp) (s t : Shadow) (p p' q q' : Value) (x y : Data) → Fits w s p p' → Fits w t q q' → Lock w x y
        → Act_fact w (act_compare o (mk p s) (mk q t)) (on.act f layout (act_compare o (mk p s) (mk q t)) x) (on.act f layout (act_compare o (mk p' s) (mk q' t)) y)
    unfolding on.act on.asked_of on.after_shadows on.value_shadow on.plain_of base.act base.acted
    compare_at w o s t p p' q q' x y i j k = let r = compare_known w o s t p p' q q' x y i j k in
        stay w (act_compare o (mk p s) (mk q t)) (act_compare o (mk p' s) (mk q' t)) x y k (compare_same w o s t p p' q q' x y i j k) r.0 r.1 (λ z e. tt) k

    -- ---- truths of values

    truth_number : (x : Value) (z : ℤ) → x ≡ num z → decision_of (is_truth x) ≡ decision_of (not (base.int_eq z (pos 0)))
    unfolding is_truth
    truth_number x z i = ap (λ v. decision_of (is_truth v)) i

    truth_addr : (z : ℤ) (v : Value) → Addr z v → is_truth v ≡ base.compare_ptr tree.ne v null
    unfolding is_truth base.compare_ptr base.same_ptr
    truth_addr z v addr_null = refl
    truth_addr z v (addr_block n) = refl

    truth_bare : (w : World) (x y : Value) → BareIs w x y → is_truth x ≡ is_truth y
    unfolding is_truth
    truth_bare w x y bare_null = refl
    truth_bare w x y (bare_made n c) = refl
    truth_bare w x y (bare_block k c i) = refl

    truth_if : (w : World) (a : Form) (n n' : ℤ) → n ≡ form_g w a → n' ≡ form_h w a → KnownForm w a → (t : Bool) → on.depends a ≡ t
        → Known_fact w (if t then one_of (on.two_choices (not_zero a) (is_zero a)) else asks_nothing) (decision_of (not (base.int_eq n (pos 0)))) (decision_of (not (base.int_eq n' (pos 0))))
    truth_if w a n n' i i' ka true e = (
      two_below (length w.places) (not_zero a) (is_zero a) (form_below w a ka) (form_below w a ka),
      choice_fact w _ _ _ (test_told f laws (at_h w) a n' (sym i') (λ p j. (ka p j).there)),
    )
    truth_if w a n n' i i' ka false e = quiet_known w _ _ (ap (λ z. decision_of (not (base.int_eq z (pos 0)))) (i ∙ plain_both _ _ a e ∙ sym i'))

    ne_told : (w : World) (a c : Side) (x x' y y' : Value) → SideAt w a x x' → SideAt w c y y' → Told (at_h w) (on.two_choices (differ a c) (same a c)) (decision_of (base.compare_ptr tree.ne x' y'))
    unfolding on.same_choices
    ne_told w a c x x' y y' i j = same_told w tree.ne a c x x' y y' i j

    test_known : (w : World) (s : Shadow) (p p' : Value) → Fits w s p p' → Known_fact w (on.test_asked f s) (decision_of (is_truth p)) (decision_of (is_truth p'))
    unfolding on.test_asked
    test_known w (form a) p p' i =
        subst (λ z. Known_fact w (if on.depends a then one_of (on.two_choices (not_zero a) (is_zero a)) else asks_nothing) z (decision_of (is_truth p'))) (sym (truth_number p _ i.here))
        (subst (λ z. Known_fact w (if on.depends a then one_of (on.two_choices (not_zero a) (is_zero a)) else asks_nothing) (decision_of (not (base.int_eq (form_g w a) (pos 0)))) z) (sym (truth_number p' _ i.there))
        (truth_if w a (form_g w a) (form_h w a) refl refl i.known (on.depends a) refl))
    test_known w (place m t) p p' i = let s = side_place w m t p p' i in (
      two_below (length w.places) (differ (asked.at m) nothing) (same (asked.at m) nothing) (sides_below w (asked.at m) nothing p p' null null s (side_null w)) (sides_below w (asked.at m) nothing p p' null null s (side_null w)),
      choice_fact w _ _ _ (subst (λ z. Told (at_h w) (on.two_choices (differ (asked.at m) nothing) (same (asked.at m) nothing)) (decision_of z)) (sym (truth_addr _ p' s.there)) (ne_told w (asked.at m) nothing p p' null null s (side_null w))),
    )
    test_known w none p p' i = quiet_known w _ _ (ap decision_of (truth_bare w p p' (bare_is w p p' i)))

    test_at : (w : World) (s : Shadow) (p p' : Value) (x y : Data) → Fits w s p p' → Lock w x y → Act_fact w (act_test (mk p s)) (on.act f layout (act_test (mk p s)) x) (on.act f layout (act_test (mk p' s)) y)
    unfolding on.act on.asked_of on.after_shadows on.value_shadow on.plain_of base.act base.acted
    test_at w s p p' x y i k = let r = test_known w s p p' i in stay w (act_test (mk p s)) (act_test (mk p' s)) x y k refl r.0 r.1 (λ z e. tt) k

    -- ---- accesses: what the choices tell

    some_inj : (z y : ℤ) → Some z ≡ Some y → z ≡ y
    some_inj z y e = cc e

    pos_inj : (n m : ℕ) → pos n ≡ pos m → n ≡ m
    pos_inj n m e = omega (arith, ints, e)

    value_is : (w : World) (p : ℕ) (z : ℤ) → at_h w p ≡ Some z → or_zero (at_h w) p ≡ z
    value_is w p z e = ap (λ o. unwrap_or o (pos 0)) e

    module _ (w : World) (m : ℕ) (z : ℤ) (zm : at_h w m ≡ Some z) where
      valued_pair : (q : ℕ) (y : ℤ) → at_h w q ≡ Some y → AllValued (at_h w) (m ∷ q ∷ [])
      valued_pair q y e = (subst IsSome (sym zm) refl, (subst IsSome (sym e) refl, tt))

      same_is : (q : ℕ) (y : ℤ) → at_h w q ≡ Some y → Holds (at_h w) (same (asked.at m) (asked.at q)) → z ≡ y
      same_is q y e h = sym (value_is w m z zm) ∙ h.compares ∙ value_is w q y e

      is_same : (q : ℕ) (y : ℤ) → at_h w q ≡ Some y → z ≡ y → Holds (at_h w) (same (asked.at m) (asked.at q))
      is_same q y e i = record { valued = valued_pair q y e; compares = value_is w m z zm ∙ i ∙ sym (value_is w q y e) }

      differ_is : (q : ℕ) (y : ℤ) → at_h w q ≡ Some y → Holds (at_h w) (differ (asked.at m) (asked.at q)) → z ≢ y
      differ_is q y e h = λ i. h.compares (value_is w m z zm ∙ i ∙ sym (value_is w q y e))

      is_differ : (q : ℕ) (y : ℤ) → at_h w q ≡ Some y → z ≢ y → Holds (at_h w) (differ (asked.at m) (asked.at q))
      is_differ q y e n = record { valued = valued_pair q y e; compares = λ i. n (sym (value_is w m z zm) ∙ i ∙ value_is w q y e) }

      null_is : Holds (at_h w) (same (asked.at m) nothing) → z ≡ pos 0
      null_is h = sym (value_is w m z zm) ∙ h.compares

      is_null : z ≡ pos 0 → Holds (at_h w) (same (asked.at m) nothing)
      is_null i = record { valued = (subst IsSome (sym zm) refl, tt); compares = value_is w m z zm ∙ i }

      not_null_is : Holds (at_h w) (differ (asked.at m) nothing) → z ≢ pos 0
      not_null_is h = λ i. h.compares (value_is w m z zm ∙ i)

      is_not_null : z ≢ pos 0 → Holds (at_h w) (differ (asked.at m) nothing)
      is_not_null n = record { valued = (subst IsSome (sym zm) refl, tt); compares = λ i. n (sym (value_is w m z zm) ∙ i) }

      -- the first places of the blocks have their addresses
      abbrev Firsts : List Key → Type 0
      Firsts ks = (k : Key) → In k ks → (at_h w k.first ≡ Some (pos k.other)) × (k.other ≢ 0)

      each_append : (cs ds : List Choice) (o : Outcome) → Each (at_h w) cs o → Each (at_h w) ds o → Each (at_h w) (cs ++ ds) o
      each_append [] ds o i j = j
      each_append (c ∷ cs) ds o i j = (i.0, each_append cs ds o i.1 j)

      some_left : (cs ds : List Choice) (o : Outcome) → Some_of cs o → Some_of (cs ++ ds) o
      some_left [] ds o i = absurd i
      some_left (c ∷ cs) ds o (inl i) = inl i
      some_left (c ∷ cs) ds o (inr i) = inr (some_left cs ds o i)

      some_right : (cs ds : List Choice) (o : Outcome) → Some_of ds o → Some_of (cs ++ ds) o
      some_right [] ds o i = i
      some_right (c ∷ cs) ds o i = inr (some_right cs ds o i)

      each_if : (t : Bool) (c : Choice) (cs : List Choice) (o : Outcome) → ((c.outcome ≡ o) ↔ Meets (at_h w) c.atoms) → Each (at_h w) cs o → Each (at_h w) (if t then c ∷ cs else cs) o
      each_if true c cs o i j = (i, j)
      each_if false c cs o i j = j

      object_rank : Outcome → ℕ
      object_rank (Object n) = n
      object_rank _ = 0

      object_same : (n k : ℕ) → Object n ≡ Object k → n ≡ k
      unfolding object_rank
      object_same n k e = ap object_rank e

      null_letters : z ≡ pos 0 → (t : ℕ) (ks : List Key) (l : List Touched) (bx by : ℕ → List Value) → BlocksAt w ks l bx by → Firsts ks → (n : ℕ) → Each (at_h w) (on.letters m t n l) Zero
      unfolding on.letters
      null_letters e t [] [] bx by i h n = tt
      null_letters e t (k ∷ ks) (c ∷ l) bx by i h n = each_if (nat_eq t c.type) (record { outcome = Object n; atoms = same (asked.at m) (asked.at c.first) ∷ [] }) (on.letters m t (suc n) l) Zero
          (it_is_not (Object n) Zero (λ q. cc q) (λ q. let r = h k (inl refl) in r.1 (pos_inj k.other 0 (sym (same_is c.first (pos k.other) (ap (at_h w) i.0 ∙ r.0) q.0) ∙ e))))
          (null_letters e t ks l bx by i.3 (λ j p. h j (inr p)) (suc n))
      null_letters e t [] (c ∷ l) bx by i h n = absurd i
      null_letters e t (k ∷ ks) [] bx by i h n = absurd i

      access_null : z ≡ pos 0 → (t : ℕ) (ks : List Key) (l : List Touched) (bx by : ℕ → List Value) → BlocksAt w ks l bx by → Firsts ks → Told (at_h w) (on.access_choices m t l) Zero
      unfolding on.access_choices
      access_null e t ks l bx by i h = ((yes_it_is Zero Zero refl (is_null e, tt), each_append (on.letters m t 0 l) _ Zero (null_letters e t ks l bx by i h 0) (it_is_not (Object (length l)) Zero (λ q. cc q) (λ q. not_null_is q.0 e), tt)), inl refl)

      module _ (a : ℕ) (za : z ≡ pos a) (a_not : a ≢ 0) where
        -- where the letter of the block stands in what is left of the list
        abbrev Stands : ℕ → ℕ → List Key → Type 0
        Stands n r ks = ((r < n) × (has a (others ks) ≡ false)) ⊎ (r ≡ n + base.rank a (others ks))

        same_first : (k : Key) (c : Touched) → c.first ≡ k.first → (at_h w k.first ≡ Some (pos k.other)) → Holds (at_h w) (same (asked.at m) (asked.at c.first)) → a ≡ k.other
        same_first k c i q h = pos_inj a k.other (sym za ∙ same_is c.first (pos k.other) (ap (at_h w) i ∙ q) h)

        first_same : (k : Key) (c : Touched) → c.first ≡ k.first → (at_h w k.first ≡ Some (pos k.other)) → a ≡ k.other → Holds (at_h w) (same (asked.at m) (asked.at c.first))
        first_same k c i q e = is_same c.first (pos k.other) (ap (at_h w) i ∙ q) (za ∙ ap pos e)

        first_differs : (k : Key) (c : Touched) → c.first ≡ k.first → (at_h w k.first ≡ Some (pos k.other)) → a ≢ k.other → Holds (at_h w) (differ (asked.at m) (asked.at c.first))
        first_differs k c i q n = is_differ c.first (pos k.other) (ap (at_h w) i ∙ q) (λ e. n (pos_inj a k.other (sym za ∙ e)))

        here_letter : (k : Key) (ks : List Key) (c : Touched) (n r : ℕ) → c.first ≡ k.first → (at_h w k.first ≡ Some (pos k.other)) → nat_eq a k.other ≡ true → a ≡ k.other → Stands n r (k ∷ ks) → (Object n ≡ Object r) ↔ Meets (at_h w) (same (asked.at m) (asked.at c.first) ∷ [])
        here_letter k ks c n r i j q e (inl u) = absurd (cc (q, (has_false a k.other (others ks) u.1).0))
        here_letter k ks c n r i j q e (inr u) = let v = rank_here a k.other (others ks) q in yes_it_is (Object n) (Object r) (ap Object (omega (arith, u, v))) (first_same k c i j e, tt)

        not_letter : (k : Key) (ks : List Key) (c : Touched) (n r : ℕ) → c.first ≡ k.first → (at_h w k.first ≡ Some (pos k.other)) → nat_eq a k.other ≡ false → a ≢ k.other → Stands n r (k ∷ ks) → (Object n ≡ Object r) ↔ Meets (at_h w) (same (asked.at m) (asked.at c.first) ∷ [])
        not_letter k ks c n r i j q e (inl u) = it_is_not (Object n) (Object r) (λ y. let v = object_same n r y in let s = u.0 in omega (arith, v, s)) (λ y. e (same_first k c i j y.0))
        not_letter k ks c n r i j q e (inr u) = let v = rank_next a k.other (others ks) q in it_is_not (Object n) (Object r) (λ y. let s = object_same n r y in omega (arith, u, v, s)) (λ y. e (same_first k c i j y.0))

        next_stands : (k : Key) (ks : List Key) (n r : ℕ) → Distinct (others (k ∷ ks)) → Stands n r (k ∷ ks) → Stands (suc n) r ks
        next_stands k ks n r d (inl u) = let s = u.0 in inl (omega (arith, s), (has_false a k.other (others ks) u.1).1)
        next_stands k ks n r d (inr u) = elim (eqb_tells a k.other) [
          | inl q ↦ let v = rank_here a k.other (others ks) q.0 in inl (omega (arith, u, v), subst (λ y. has y (others ks) ≡ false) (sym q.1) d.0)
          | inr q ↦ let v = rank_next a k.other (others ks) q.0 in inr (omega (arith, u, v))
        ]

        block_letters : (t : ℕ) (ks : List Key) (l : List Touched) (bx by : ℕ → List Value) → BlocksAt w ks l bx by → Firsts ks → Distinct (others ks) → (n r : ℕ) → Stands n r ks → Each (at_h w) (on.letters m t n l) (Object r)
        unfolding on.letters
        block_letters t [] [] bx by i h d n r s = tt
        block_letters t (k ∷ ks) (c ∷ l) bx by i h d n r s = each_if (nat_eq t c.type) (record { outcome = Object n; atoms = same (asked.at m) (asked.at c.first) ∷ [] }) (on.letters m t (suc n) l) (Object r) (elim (eqb_tells a k.other) [
          | inl q ↦ here_letter k ks c n r i.0 (h k (inl refl)).0 q.0 q.1 s
          | inr q ↦ not_letter k ks c n r i.0 (h k (inl refl)).0 q.0 q.1 s
        ]) (block_letters t ks l bx by i.3 (λ j p. h j (inr p)) d.1 (suc n) r (next_stands k ks n r d s))
        block_letters t [] (c ∷ l) bx by i h d n r s = absurd i
        block_letters t (k ∷ ks) [] bx by i h d n r s = absurd i

        some_if : (s : Bool) (c : Choice) (cs : List Choice) (o : Outcome) → Some_of cs o → Some_of (if s then c ∷ cs else cs) o
        some_if true c cs o i = inr i
        some_if false c cs o i = i

        some_here : (s : Bool) (c : Choice) (cs : List Choice) (o : Outcome) → s ≡ true → c.outcome ≡ o → Some_of (if s then c ∷ cs else cs) o
        some_here true c cs o e i = inl i
        some_here false c cs o e i = absurd (cc e)

        -- a key of that block has the type t
        abbrev Types : ℕ → List Key → Type 0
        Types t ks = (k : Key) → In k ks → a ≡ k.other → t ≡ k.type

        some_letter : (t : ℕ) (ks : List Key) (l : List Touched) (bx by : ℕ → List Value) → BlocksAt w ks l bx by → Types t ks → (n : ℕ) → has a (others ks) ≡ true → Some_of (on.letters m t n l) (Object (n + base.rank a (others ks)))
        unfolding on.letters has
        some_letter t [] [] bx by i ty n q = absurd (cc q)
        some_letter t (k ∷ ks) (c ∷ l) bx by i ty n q = elim (eqb_tells a k.other) [
          | inl r ↦ some_here (nat_eq t c.type) _ _ _ (eq-eqb t c.type (ty k (inl refl) r.1 ∙ sym i.1)) (let v = rank_here a k.other (others ks) r.0 in ap Object (omega (arith, v)))
          | inr r ↦ some_if (nat_eq t c.type) _ _ _ (subst (λ y. Some_of (on.letters m t (suc n) l) (Object y)) (let v = rank_next a k.other (others ks) r.0 in omega (arith, v)) (some_letter t ks l bx by i.3 (λ j p. ty j (inr p)) (suc n) (sym (has_other a k.other (others ks) r.0) ∙ q)))
        ]
        some_letter t [] (c ∷ l) bx by i ty n q = absurd i
        some_letter t (k ∷ ks) [] bx by i ty n q = absurd i

        meets_if : (s : Bool) (u : Atom) (l : List Atom) → Holds (at_h w) u → Meets (at_h w) l → Meets (at_h w) (if s then u ∷ l else l)
        meets_if true u l i j = (i, j)
        meets_if false u l i j = j

        meets_rest : (s : Bool) (u : Atom) (l : List Atom) → Meets (at_h w) (if s then u ∷ l else l) → Meets (at_h w) l
        meets_rest true u l i = i.1
        meets_rest false u l i = i

        meets_head : (s : Bool) (u : Atom) (l : List Atom) → s ≡ true → Meets (at_h w) (if s then u ∷ l else l) → Holds (at_h w) u
        meets_head true u l e i = i.0
        meets_head false u l e i = absurd (cc e)

        differs_hold : (t : ℕ) (ks : List Key) (l : List Touched) (bx by : ℕ → List Value) → BlocksAt w ks l bx by → Firsts ks → has a (others ks) ≡ false → Meets (at_h w) (on.differs m t l)
        unfolding on.differs
        differs_hold t [] [] bx by i h q = tt
        differs_hold t (k ∷ ks) (c ∷ l) bx by i h q = let r = has_false a k.other (others ks) q in
            meets_if (nat_eq t c.type) _ _ (first_differs k c i.0 (h k (inl refl)).0 (λ e. cc (r.0, eq-eqb a k.other e))) (differs_hold t ks l bx by i.3 (λ j p. h j (inr p)) r.1)
        differs_hold t [] (c ∷ l) bx by i h q = absurd i
        differs_hold t (k ∷ ks) [] bx by i h q = absurd i

        differs_fail : (t : ℕ) (ks : List Key) (l : List Touched) (bx by : ℕ → List Value) → BlocksAt w ks l bx by → Firsts ks → Types t ks → has a (others ks) ≡ true → Meets (at_h w) (on.differs m t l) → ⊥
        unfolding on.differs has
        differs_fail t [] [] bx by i h ty q y = absurd (cc q)
        differs_fail t (k ∷ ks) (c ∷ l) bx by i h ty q y = elim (eqb_tells a k.other) [
          | inl r ↦ differ_is c.first (pos k.other) (ap (at_h w) i.0 ∙ (h k (inl refl)).0) (meets_head (nat_eq t c.type) (differ (asked.at m) (asked.at c.first)) (on.differs m t l) (eq-eqb t c.type (ty k (inl refl) r.1 ∙ sym i.1)) y) (za ∙ ap pos r.1)
          | inr r ↦ differs_fail t ks l bx by i.3 (λ j p. h j (inr p)) (λ j p. ty j (inr p)) (sym (has_other a k.other (others ks) r.0) ∙ q) (meets_rest (nat_eq t c.type) _ _ y)
        ]
        differs_fail t [] (c ∷ l) bx by i h ty q y = absurd i
        differs_fail t (k ∷ ks) [] bx by i h ty q y = absurd i

        length_are : (ks : List Key) (l : List Touched) (bx by : ℕ → List Value) → BlocksAt w ks l bx by → length l ≡ length (others ks)
        length_are [] [] bx by i = refl
        length_are (k ∷ ks) (c ∷ l) bx by i = ap suc (length_are ks l bx by i.3)
        length_are [] (c ∷ l) bx by i = absurd i
        length_are (k ∷ ks) [] bx by i = absurd i

        not_zero_z : z ≢ pos 0
        not_zero_z e = a_not (pos_inj a 0 (sym za ∙ e))

        access_block : (t : ℕ) (ks : List Key) (l : List Touched) (bx by : ℕ → List Value) → BlocksAt w ks l bx by → Firsts ks → Types t ks → Distinct (others ks) → Told (at_h w) (on.access_choices m t l) (Object (base.rank a (others ks)))
        unfolding on.access_choices
        access_block t ks l bx by i h ty d = elim (bool_cases (has a (others ks))) [
          | inl q ↦ let v = rank_in a (others ks) q in let u = length_are ks l bx by i in (
            (
              it_is_not Zero _ (λ y. cc y) (λ y. not_zero_z (null_is y.0)),
              each_append (on.letters m t 0 l) _ _ (block_letters t ks l bx by i h d 0 _ (inr (omega arith)))
                  (it_is_not (Object (length l)) _ (λ y. let s = object_same _ _ y in omega (arith, s, u, v)) (λ y. differs_fail t ks l bx by i h ty q y.1), tt),
            ),
            inr (some_left (on.letters m t 0 l) _ _ (subst (λ y. Some_of (on.letters m t 0 l) (Object y)) (omega arith) (some_letter t ks l bx by i ty 0 q))),
          )
          | inr q ↦ let v = rank_out a (others ks) q in let u = length_are ks l bx by i in (
            (
              it_is_not Zero _ (λ y. cc y) (λ y. not_zero_z (null_is y.0)),
              each_append (on.letters m t 0 l) _ _ (block_letters t ks l bx by i h d 0 _ (inr (omega arith)))
                  (yes_it_is (Object (length l)) _ (ap Object (omega (arith, u, v))) (is_not_null not_zero_z, differs_hold t ks l bx by i h q), tt),
            ),
            inr (some_right (on.letters m t 0 l) _ _ (inl (ap Object (omega (arith, u, v))))),
          )
        ]

    below_if : (n : ℕ) (s : Bool) (c : Choice) (cs : List Choice) → AtomsBelow n c.atoms → ChoicesBelow n cs → ChoicesBelow n (if s then c ∷ cs else cs)
    below_if n true c cs i j = (i, j)
    below_if n false c cs i j = j

    atoms_if : (n : ℕ) (s : Bool) (a : Atom) (l : List Atom) → ((p : ℕ) → In p (places_of_atom a) → p < n) → AtomsBelow n l → AtomsBelow n (if s then a ∷ l else l)
    atoms_if n true a l i j = (i, j)
    atoms_if n false a l i j = j

    pair_below : (n p q : ℕ) → p < n → q < n → (r : ℕ) → In r (p ∷ q ∷ []) → r < n
    pair_below n p q i j r (inl e) = subst (λ x. x < n) (sym e) i
    pair_below n p q i j r (inr m) = one_in (λ x. x < n) q j r m

    choices_append : (n : ℕ) (cs ds : List Choice) → ChoicesBelow n cs → ChoicesBelow n ds → ChoicesBelow n (cs ++ ds)
    choices_append n [] ds i j = j
    choices_append n (c ∷ cs) ds i j = (i.0, choices_append n cs ds i.1 j)

    -- the places of the choices
    letters_below : (w : World) (m t : ℕ) → m < length w.places → (ks : List Key) (l : List Touched) (bx by : ℕ → List Value) → BlocksAt w ks l bx by → ((k : Key) → In k ks → k.first < length w.places) → (n : ℕ) → ChoicesBelow (length w.places) (on.letters m t n l)
    unfolding on.letters
    letters_below w m t lt [] [] bx by i h n = tt
    letters_below w m t lt (k ∷ ks) (c ∷ l) bx by i h n = below_if (length w.places) (nat_eq t c.type) (record { outcome = Object n; atoms = same (asked.at m) (asked.at c.first) ∷ [] }) (on.letters m t (suc n) l) (pair_below (length w.places) m c.first lt (subst (λ q. q < length w.places) (sym i.0) (h k (inl refl))), tt) (letters_below w m t lt ks l bx by i.3 (λ j p. h j (inr p)) (suc n))
    letters_below w m t lt [] (c ∷ l) bx by i h n = absurd i
    letters_below w m t lt (k ∷ ks) [] bx by i h n = absurd i

    differs_below : (w : World) (m t : ℕ) → m < length w.places → (ks : List Key) (l : List Touched) (bx by : ℕ → List Value) → BlocksAt w ks l bx by → ((k : Key) → In k ks → k.first < length w.places) → AtomsBelow (length w.places) (on.differs m t l)
    unfolding on.differs
    differs_below w m t lt [] [] bx by i h = tt
    differs_below w m t lt (k ∷ ks) (c ∷ l) bx by i h = atoms_if (length w.places) (nat_eq t c.type) (differ (asked.at m) (asked.at c.first)) (on.differs m t l) (pair_below (length w.places) m c.first lt (subst (λ q. q < length w.places) (sym i.0) (h k (inl refl)))) (differs_below w m t lt ks l bx by i.3 (λ j p. h j (inr p)))
    differs_below w m t lt [] (c ∷ l) bx by i h = absurd i
    differs_below w m t lt (k ∷ ks) [] bx by i h = absurd i

    access_below : (w : World) (m t : ℕ) → m < length w.places → (ks : List Key) (l : List Touched) (bx by : ℕ → List Value) → BlocksAt w ks l bx by → ((k : Key) → In k ks → k.first < length w.places) → ChoicesBelow (length w.places) (on.access_choices m t l)
    unfolding on.access_choices
    access_below w m t lt ks l bx by i h = (
      (one_in (λ q. q < length w.places) m lt, tt),
      choices_append (length w.places) (on.letters m t 0 l) _ (letters_below w m t lt ks l bx by i h 0) ((one_in (λ q. q < length w.places) m lt, differs_below w m t lt ks l bx by i h), tt),
    )

    -- ---- accesses: the blocks

    -- the touched lists as they were
    keep : (w : World) (x y : Data) (tx ty : List ℕ) → tx ≡ x.plain.touched → ty ≡ y.plain.touched → Lock w x y
        → Lock w (record { plain = record x.plain { touched = tx }; shadows = x.shadows }) (record { plain = record y.plain { touched = ty }; shadows = y.shadows })
    keep w x y tx ty i j k = record {
      shadows = k.shadows;
      places = k.places;
      touched_g = i ∙ k.touched_g;
      touched_h = j ∙ k.touched_h;
      distinct_g = k.distinct_g;
      distinct_h = k.distinct_h;
      firsts = k.firsts;
      blocks = k.blocks;
      away_g = k.away_g;
      away_h = k.away_h;
      made = k.made;
      stream_g = k.stream_g;
      stream_h = k.stream_h;
      base_g = k.base_g;
      base_h = k.base_h;
      count = k.count;
    }

    touch_old : (a : ℕ) (l : List ℕ) → has a l ≡ true → base.touch a l ≡ l
    unfolding base.touch
    touch_old a l e = if_list (has a l) l (l ++ a ∷ []) e
      where
        if_list : (s : Bool) (m n : List ℕ) → s ≡ true → (if s then m else n) ≡ m
        if_list true m n e = refl
        if_list false m n e = absurd (cc e)

    touch_new : (a : ℕ) (l : List ℕ) → has a l ≡ false → base.touch a l ≡ l ++ a ∷ []
    unfolding base.touch
    touch_new a l e = if_list (has a l) l (l ++ a ∷ []) e
      where
        if_list : (s : Bool) (m n : List ℕ) → s ≡ false → (if s then m else n) ≡ n
        if_list false m n e = refl
        if_list true m n e = absurd (cc e)

    has_g : (w : World) (x y : Data) (k : Key) → In k w.keys → Lock w x y → has k.name x.plain.touched ≡ true
    has_g w x y k i l = ap (has k.name) l.touched_g ∙ has_name (λ z. z.name) w.keys k i

    has_h : (w : World) (x y : Data) (k : Key) → In k w.keys → Lock w x y → has k.other y.plain.touched ≡ true
    has_h w x y k i l = ap (has k.other) l.touched_h ∙ has_name (λ z. z.other) w.keys k i

    ranks_of : (w : World) (x y : Data) (k : Key) → In k w.keys → Lock w x y → base.rank k.name x.plain.touched ≡ base.rank k.other y.plain.touched
    ranks_of w x y k i l = ap (base.rank k.name) l.touched_g ∙ rank_key w.keys l.distinct_g l.distinct_h k i ∙ sym (ap (base.rank k.other) l.touched_h)

    first_none : (c : Option Touched) → on.first_of c none ≡ none
    unfolding on.first_of
    first_none None = refl
    first_none (Some c) = refl

    reach : (w : World) (s : Shadow) (p p' q q' : Value) (x y : Data) → p ≡ q → p' ≡ q' → Act_fact w (act_access (mk q s)) (on.act f layout (act_access (mk q s)) x) (on.act f layout (act_access (mk q' s)) y) → Act_fact w (act_access (mk p s)) (on.act f layout (act_access (mk p s)) x) (on.act f layout (act_access (mk p' s)) y)
    reach w s p p' q q' x y i j m = subst (λ z. Act_fact w (act_access (mk z s)) (on.act f layout (act_access (mk z s)) x) (on.act f layout (act_access (mk p' s)) y)) (sym i) (subst (λ z. Act_fact w (act_access (mk q s)) (on.act f layout (act_access (mk q s)) x) (on.act f layout (act_access (mk z s)) y)) (sym j) m)

    access_number : (w : World) (a : Form) (z z' : ℤ) (x y : Data) → Lock w x y → Act_fact w (act_access (mk (num z) (form a))) (on.act f layout (act_access (mk (num z) (form a))) x) (on.act f layout (act_access (mk (num z') (form a))) y)
    unfolding on.act on.asked_of on.access_asked on.after_shadows on.touch_by on.value_shadow on.plain_of base.act base.access_in base.acted
    access_number w a z z' x y k = stay w (act_access (mk (num z) (form a))) (act_access (mk (num z') (form a))) x y k refl tt (quiet_fact w _ _ refl) (λ t e q. absurd (q refl)) k

    access_nothing : (w : World) (x y : Data) → Lock w x y → Act_fact w (act_access (mk null none)) (on.act f layout (act_access (mk null none)) x) (on.act f layout (act_access (mk null none)) y)
    unfolding on.act on.asked_of on.access_asked on.after_shadows on.touch_by on.value_shadow on.plain_of base.act base.access_in base.acted
    access_nothing w x y k = stay w (act_access (mk null none)) (act_access (mk null none)) x y k refl tt (quiet_fact w _ _ refl) (λ t e q. absurd (q refl)) k

    access_made : (w : World) (n c : ℕ) (x y : Data) → Lock w x y → Act_fact w (act_access (mk (at (made n) c) none)) (on.act f layout (act_access (mk (at (made n) c) none)) x) (on.act f layout (act_access (mk (at (made n) c) none)) y)
    unfolding on.act on.asked_of on.access_asked on.after_shadows on.touch_by on.value_shadow on.reached_shadow on.plain_of base.act base.access_in base.acted
    access_made w n c x y k = stay w (act_access (mk (at (made n) c) none)) (act_access (mk (at (made n) c) none)) x y k refl tt (quiet_fact w _ _ refl) (λ t e q. (refl, inr (spot_made n c refl refl), spot_made n c refl refl)) k

    access_inside : (w : World) (k : Key) (c : ℕ) (x y : Data) → In k w.keys → Lock w x y → Act_fact w (act_access (mk (at (block k.name) c) none)) (on.act f layout (act_access (mk (at (block k.name) c) none)) x) (on.act f layout (act_access (mk (at (block k.other) c) none)) y)
    unfolding on.act on.asked_of on.access_asked on.after_shadows on.touch_by on.value_shadow on.reached_shadow on.plain_of base.act base.access_in base.acted
    access_inside w k c x y i l = stay w (act_access (mk (at (block k.name) c) none)) (act_access (mk (at (block k.other) c) none)) x y l refl tt (quiet_fact w _ _ (ap Object (ranks_of w x y k i l)))
        (λ t e q. inside_gives (first_none _) (first_none _))
        (keep w x y _ _ (touch_old k.name x.plain.touched (has_g w x y k i l)) (touch_old k.other y.plain.touched (has_h w x y k i l)) l)
      where
        inside_gives : {s s' : Shadow} → s ≡ none → s' ≡ none → LocAt w (mk (at (block k.name) c) s) (mk (at (block k.other) c) s')
        inside_gives e e' = (e ∙ sym e', subst (λ z. Fits w z (at (block k.name) c) (at (block k.other) c)) (sym e) (inr (spot_block k c i refl refl)), spot_block k c i refl refl)

    access_bare : (w : World) (p p' : Value) (x y : Data) → BareIs w p p' → Lock w x y → Act_fact w (act_access (mk p none)) (on.act f layout (act_access (mk p none)) x) (on.act f layout (act_access (mk p' none)) y)
    access_bare w p p' x y bare_null l = access_nothing w x y l
    access_bare w p p' x y (bare_made n c) l = access_made w n c x y l
    access_bare w p p' x y (bare_block k c i) l = access_inside w k c x y i l

    -- ---- accesses through a place: a block that was touched before

    key_length : (w : World) (ks : List Key) (l : List Touched) (bx by : ℕ → List Value) → BlocksAt w ks l bx by → length l ≡ length (names ks)
    key_length w [] [] bx by i = refl
    key_length w (k ∷ ks) (c ∷ l) bx by i = ap suc (key_length w ks l bx by i.3)
    key_length w [] (c ∷ l) bx by i = absurd i
    key_length w (k ∷ ks) [] bx by i = absurd i

    abbrev Reached : World → ℕ → ℕ → Value → Value → Data → Data → Type 0
    Reached w m t p p' x y = (w' : World) × Le w w'
        × Gives (ValueAt w') (LocAt w') (act_access (mk p (place m t))) ((on.act f layout (act_access (mk p (place m t))) x).event).outcome (on.act f layout (act_access (mk p (place m t))) x).value (on.act f layout (act_access (mk p' (place m t))) y).value
        × Lock w' (on.act f layout (act_access (mk p (place m t))) x).after (on.act f layout (act_access (mk p' (place m t))) y).after

    old_shadows : (m t r : ℕ) (s : Shadows) → r < length s.touched → on.touch_by f layout (Object r) (place m t) s ≡ s
    unfolding on.touch_by
    old_shadows m t r s i = if_shadows (nat_lt r (length s.touched)) s (on.touch f layout m t s) (grind arith)
      where
        if_shadows : (c : Bool) (s u : Shadows) → c ≡ true → (if c then s else u) ≡ s
        if_shadows true s u e = refl
        if_shadows false s u e = absurd (cc e)

    new_shadows : (m t r : ℕ) (s : Shadows) → r ≡ length s.touched → on.touch_by f layout (Object r) (place m t) s ≡ on.touch f layout m t s
    unfolding on.touch_by
    new_shadows m t r s i = if_shadows (nat_lt r (length s.touched)) s (on.touch f layout m t s) (grind arith)
      where
        if_shadows : (c : Bool) (s u : Shadows) → c ≡ false → (if c then s else u) ≡ u
        if_shadows false s u e = refl
        if_shadows true s u e = absurd (cc e)

    first_at : (m t r : ℕ) (l : List Touched) (c : Touched) → slice_get l r ≡ Some c → on.reached_shadow (Object r) (place m t) l ≡ place c.first c.type
    unfolding on.reached_shadow on.first_of
    first_at m t r l c e = ap (λ o. on.first_of o (place m t)) e

    -- what is reached, from the shadows after the accesses
    reached_is : (w w' : World) (m t a c : ℕ) (x y : Data) (s s' : Shadow) (u u' : Shadows) → Le w w'
        → on.touch_by f layout (Object (base.rank a x.plain.touched)) (place m t) x.shadows ≡ u → on.touch_by f layout (Object (base.rank c y.plain.touched)) (place m t) y.shadows ≡ u'
        → on.reached_shadow (Object (base.rank a x.plain.touched)) (place m t) u.touched ≡ s → on.reached_shadow (Object (base.rank c y.plain.touched)) (place m t) u'.touched ≡ s'
        → LocAt w' (mk (at (block a) 0) s) (mk (at (block c) 0) s')
        → Lock w' (record { plain = record x.plain { touched = base.touch a x.plain.touched }; shadows = u }) (record { plain = record y.plain { touched = base.touch c y.plain.touched }; shadows = u' })
        → Reached w m t (at (block a) 0) (at (block c) 0) x y
    unfolding on.act on.after_shadows on.value_shadow on.plain_of base.act base.access_in base.acted
    reached_is w w' m t a c x y s s' u u' le e e' i i' h l = (
      w',
      le,
      (λ q. subst (λ z. LocAt w' (mk (at (block a) 0) z) (mk (at (block c) 0) (on.reached_shadow (Object (base.rank c y.plain.touched)) (place m t) (on.touch_by f layout (Object (base.rank c y.plain.touched)) (place m t) y.shadows).touched))) (sym (ap (λ z. on.reached_shadow (Object (base.rank a x.plain.touched)) (place m t) z.touched) e ∙ i))
          (subst (λ z. LocAt w' (mk (at (block a) 0) s) (mk (at (block c) 0) z)) (sym (ap (λ z. on.reached_shadow (Object (base.rank c y.plain.touched)) (place m t) z.touched) e' ∙ i')) h)),
      subst (λ z. Lock w' (record { plain = record x.plain { touched = base.touch a x.plain.touched }; shadows = z }) (record { plain = record y.plain { touched = base.touch c y.plain.touched }; shadows = on.touch_by f layout (Object (base.rank c y.plain.touched)) (place m t) y.shadows })) (sym e)
          (subst (λ z. Lock w' (record { plain = record x.plain { touched = base.touch a x.plain.touched }; shadows = u }) (record { plain = record y.plain { touched = base.touch c y.plain.touched }; shadows = z })) (sym e') l),
    )

    -- the type of the block is that to which the place points
    key_type : (w : World) (m t : ℕ) (x y : Data) (k : Key) → In k w.keys → Lock w x y → PlaceAt w m t (at (block k.name) 0) (at (block k.other) 0) → t ≡ k.type
    key_type w m t x y k i l h = sym (key_block tg.type tg.named t (at_g w m) k.name h.here).1 ∙ (key_block tg.type tg.named k.type (at_g w k.first) k.name (l.firsts k i).here).1

    reached_old : (w : World) (m t : ℕ) (k : Key) (x y : Data) → In k w.keys → PlaceAt w m t (at (block k.name) 0) (at (block k.other) 0) → Lock w x y → Reached w m t (at (block k.name) 0) (at (block k.other) 0) x y
    reached_old w m t k x y i h l =
        let c = head_at w x y l k i in
        let r = ranks_of w x y k i l in
        let n = key_length w w.keys x.shadows.touched x.plain.blocks y.plain.blocks l.blocks in
        let a = rank_in k.name (names w.keys) (has_name (λ z. z.name) w.keys k i) in
        let e = ap (base.rank k.name) l.touched_g in
        let below : base.rank k.name x.plain.touched < length x.shadows.touched = omega (arith, n, a, e) in
        let spot : SpotAt w (at (block k.name) 0) (at (block k.other) 0) = spot_block k 0 i refl refl in
        reached_is w w m t k.name k.other x y (place k.first k.type) (place k.first k.type) x.shadows y.shadows (le_same w)
        (old_shadows m t (base.rank k.name x.plain.touched) x.shadows below)
        (old_shadows m t (base.rank k.other y.plain.touched) y.shadows (subst (λ z. z < length y.shadows.touched) r (subst (λ z. base.rank k.name x.plain.touched < length z.touched) l.shadows below)))
        (first_at m t (base.rank k.name x.plain.touched) x.shadows.touched c.0 c.1 ∙ ap₂ place c.2 c.3)
        (first_at m t (base.rank k.other y.plain.touched) y.shadows.touched c.0 (ap₂ (λ z q. slice_get z.touched q) (sym l.shadows) (sym r) ∙ c.1) ∙ ap₂ place c.2 c.3)
        (refl, l.firsts k i, spot)
        (keep w x y _ _ (touch_old k.name x.plain.touched (has_g w x y k i l)) (touch_old k.other y.plain.touched (has_h w x y k i l)) l)

    -- ---- a block that neither run touched before

    parents_fields : (m : ℕ) (cs : List Cell) (l : List Placed) (c : ℕ) → ParentsFirst l → m < length l → ParentsFirst (l ++ on.field_places m c cs)
    unfolding on.field_places
    parents_fields m [] l c i lt = subst ParentsFirst (sym (append-nil l)) i
    parents_fields m (k ∷ cs) l c i lt =
        let p : Placed = record { place = field m c; holds = on.cell_ty k } in
        let n = length-append l (p ∷ []) in
        subst ParentsFirst (append_assoc l (p ∷ []) (on.field_places m (suc c) cs)) (parents_fields m cs (l ++ p ∷ []) (suc c) (ParentsFirst-push l p i lt) (omega (arith, n, lt)))

    length_fields : (m : ℕ) (cs : List Cell) (c : ℕ) → length (on.field_places m c cs) ≡ length cs
    unfolding on.field_places
    length_fields m [] c = refl
    length_fields m (k ∷ cs) c = ap suc (length_fields m cs (suc c))

    get_behind : {A : Type 0} → (l r : List A) (n : ℕ) → slice_get (l ++ r) (length l + n) ≡ slice_get r n
    get_behind [] r n = ap (slice_get r) (let e : 0 + n ≡ n = omega arith in e)
    get_behind (a ∷ l) r n = ap (slice_get (a ∷ l ++ r)) (let e : suc (length l) + n ≡ suc (length l + n) = omega arith in e) ∙ get_behind l r n

    get_field : (m : ℕ) (cs : List Cell) (c n : ℕ) → n < length cs → (q : Placed) × (slice_get (on.field_places m c cs) n ≡ Some q) × (q.place ≡ field m (c + n))
    unfolding on.field_places
    get_field m [] c n i = absurd (omega (arith, i))
    get_field m (k ∷ cs) c zero i = (record { place = field m c; holds = on.cell_ty k }, refl, ap (field m) (let e : c ≡ c + 0 = omega arith in e))
    get_field m (k ∷ cs) c (suc n) i = let r = get_field m cs (suc c) n (omega (arith, i)) in (r.0, r.1, r.2 ∙ ap (field m) (let e : suc c + n ≡ c + suc n = omega arith in e))

    cell_from : (zs : List ℤ) (a c : ℕ) → cell_behind zs (pos (suc a)) c ≡ cell_at zs (pos (suc a + c))
    unfolding cell_behind
    cell_from zs a c = ap (cell_at zs) (let e : pos (suc a) +ℤ pos c ≡ pos (suc a + c) = omega (arith, ints) in e)

    -- the world with a new block
    abbrev grown : (w : World) (j : Key) → j.first < length w.places → World
    grown w j lt = record { keys = w.keys ++ j ∷ []; places = w.places ++ on.field_places j.first 0 (layout j.type); parents = parents_fields j.first (layout j.type) w.places 0 w.parents lt }

    to_grown : (w : World) (j : Key) (lt : j.first < length w.places) → Le w (grown w j lt)
    to_grown w j lt = (j ∷ [], on.field_places j.first 0 (layout j.type), refl, refl)

    -- the number in a cell of the new block
    field_value : (w : World) (j : Key) (lt : j.first < length w.places) (i : Input) (a : ℕ) → at_place w.places i b j.first ≡ Some (pos (suc a)) → (c : ℕ) → c < length (layout j.type) → at_place (grown w j lt).places i b (length w.places + c) ≡ cell_at i.cells (pos (suc a + c))
    unfolding value_there
    field_value w j lt i a e c k =
        let q = get_field j.first (layout j.type) 0 c k in
        at_place-is (grown w j lt).places i b (length w.places + c) (grown w j lt).parents
        ∙ ap (option_and_then (λ p. value_there (at_place (grown w j lt).places i b) i b p.place)) (get_behind w.places (on.field_places j.first 0 (layout j.type)) c ∙ q.1)
        ∙ ap (value_there (at_place (grown w j lt).places i b) i b) (q.2 ∙ ap (field j.first) (let z : 0 + c ≡ c = omega arith in z))
        ∙ ap (option_and_then (λ z. cell_behind i.cells z c)) (value_later i b w (grown w j lt) (to_grown w j lt) j.first lt ∙ e)
        ∙ cell_from i.cells a c

    new_cell : (w : World) (n a c : ℕ) (k : Cell) (cs : List Cell) (v u : Value) (vs us : List Value) → IsCell tg.type tg.named k (cell_at gi.cells (pos a)) v × AreCells tg.type tg.named gi.cells (suc a) cs vs → IsCell th.type th.named k (cell_at hi.cells (pos c)) u × AreCells th.type th.named hi.cells (suc c) cs us
        → n < length w.places → at_g w n ≡ cell_at gi.cells (pos a) → at_h w n ≡ cell_at hi.cells (pos c) → CellsAt w (on.cell_shadows f (suc n) cs) vs us → CellsAt w (on.cell_shadows f n (k ∷ cs)) (v ∷ vs) (u ∷ us)
    unfolding on.cell_shadows
    new_cell w n a c int_cell cs v u vs us i j l g h r = (
      subst (λ z. FormAt w (f.of n) z u) (sym (i.0).2) (subst (FormAt w (f.of n) (num (i.0).0)) (sym (j.0).2) (place_number w n (i.0).0 (j.0).0 l (g ∙ (i.0).1) (h ∙ (j.0).1))),
      r,
    )
    new_cell w n a c (ptr_cell t) cs v u vs us i j l g h r = (
      record { below = l; here = subst (λ o. Points tg.type tg.named t o v) (sym g) i.0; there = subst (λ o. Points th.type th.named t o u) (sym h) j.0 },
      r,
    )

    new_cells : (w : World) (n a c : ℕ) (cs : List Cell) (vs us : List Value) → AreCells tg.type tg.named gi.cells a cs vs → AreCells th.type th.named hi.cells c cs us
        → ((i : ℕ) → i < length cs → n + i < length w.places) → ((i : ℕ) → i < length cs → at_g w (n + i) ≡ cell_at gi.cells (pos (a + i))) → ((i : ℕ) → i < length cs → at_h w (n + i) ≡ cell_at hi.cells (pos (c + i)))
        → CellsAt w (on.cell_shadows f n cs) vs us
    unfolding on.cell_shadows
    new_cells w n a c [] [] [] i j l g h = tt
    new_cells w n a c (k ∷ cs) (v ∷ vs) (u ∷ us) i j l g h = new_cell w n a c k cs v u vs us i j (subst (λ q. q < length w.places) (let e : n + 0 ≡ n = omega arith in e) (l 0 (omega arith)))
        (ap (at_g w) (let e : n ≡ n + 0 = omega arith in e) ∙ g 0 (omega arith) ∙ ap (λ z. cell_at gi.cells (pos z)) (let e : a + 0 ≡ a = omega arith in e))
        (ap (at_h w) (let e : n ≡ n + 0 = omega arith in e) ∙ h 0 (omega arith) ∙ ap (λ z. cell_at hi.cells (pos z)) (let e : c + 0 ≡ c = omega arith in e))
        (new_cells w (suc n) (suc a) (suc c) cs vs us i.1 j.1
        (λ m k. subst (λ z. z < length w.places) (let e : n + suc m ≡ suc n + m = omega arith in e) (l (suc m) (omega (arith, k))))
        (λ m k. ap (at_g w) (let e : suc n + m ≡ n + suc m = omega arith in e) ∙ g (suc m) (omega (arith, k)) ∙ ap (λ z. cell_at gi.cells (pos z)) (let e : a + suc m ≡ suc a + m = omega arith in e))
        (λ m k. ap (at_h w) (let e : suc n + m ≡ n + suc m = omega arith in e) ∙ h (suc m) (omega (arith, k)) ∙ ap (λ z. cell_at hi.cells (pos z)) (let e : c + suc m ≡ suc c + m = omega arith in e)))
    new_cells w n a c [] (v ∷ vs) us i j l g h = absurd i
    new_cells w n a c [] [] (u ∷ us) i j l g h = absurd j
    new_cells w n a c (k ∷ cs) [] us i j l g h = absurd i
    new_cells w n a c (k ∷ cs) (v ∷ vs) [] i j l g h = absurd j

    in_add : (k j : Key) (ks : List Key) → In k (ks ++ j ∷ []) → In k ks ⊎ (k ≡ j)
    in_add k j ks i = elim (in_append k ks (j ∷ []) i) [ inl m ↦ inl m | inr m ↦ elim m [ inl e ↦ inr e | inr e ↦ absurd e ] ]

    in_last : (j : Key) (ks : List Key) → In j (ks ++ j ∷ [])
    in_last j [] = inl refl
    in_last j (k ∷ ks) = inr (in_last j ks)

    map_add : (of : Key → ℕ) (ks : List Key) (j : Key) → map of (ks ++ j ∷ []) ≡ map of ks ++ of j ∷ []
    map_add of [] j = refl
    map_add of (k ∷ ks) j = ap (λ l. of k ∷ l) (map_add of ks j)

    has_front : (n : ℕ) (l m : List ℕ) → has n (l ++ m) ≡ false → has n l ≡ false
    has_front n l m q = (or_both_false (has n l) (has n m) (sym (has_append n l m) ∙ q)).0

    blocks_add : (w : World) (ks : List Key) (l : List Touched) (bx by : ℕ → List Value) (j : Key) (c : Touched) → BlocksAt w ks l bx by → c.first ≡ j.first → c.type ≡ j.type → CellsAt w c.shadows (bx j.name) (by j.other) → BlocksAt w (ks ++ j ∷ []) (l ++ c ∷ []) bx by
    blocks_add w [] [] bx by j c i e g h = (e, g, h, tt)
    blocks_add w (k ∷ ks) (d ∷ l) bx by j c i e g h = (i.0, i.1, i.2, blocks_add w ks l bx by j c i.3 e g h)
    blocks_add w [] (d ∷ l) bx by j c i e g h = absurd i
    blocks_add w (k ∷ ks) [] bx by j c i e g h = absurd i

    -- the block that the key j names, as it is touched
    module _ (w : World) (x y : Data) (l : Lock w x y) (j : Key) (h : PlaceAt w j.first j.type (at (block j.name) 0) (at (block j.other) 0)) (qa : has j.name (names w.keys) ≡ false) (qb : has j.other (others w.keys) ≡ false) where
      abbrev more : World
      more = grown w j h.below

      below_more : (i : ℕ) → i < length (layout j.type) → length w.places + i < length more.places
      below_more i k = let a = length-append w.places (on.field_places j.first 0 (layout j.type)) in let c = length_fields j.first (layout j.type) 0 in omega (arith, a, c, k)

      fresh_cells : CellsAt more (on.cell_shadows f (length w.places) (layout j.type)) (gd.blocks j.name) (hd.blocks j.other)
      fresh_cells = elim h.here [
        | inl i ↦ absurd (cc i.1)
        | inr i ↦ elim h.there [
          | inl k ↦ absurd (cc k.1)
          | inr k ↦ fresh_at i.0 k.0 i.1 k.1 (key_block tg.type tg.named j.type (at_g w j.first) j.name h.here) (key_block th.type th.named j.type (at_h w j.first) j.other h.there)
        ]
      ]
        where
          fresh_at : (n m : ℕ) → at_g w j.first ≡ Some (pos (suc n)) → at_h w j.first ≡ Some (pos (suc m)) → (at_g w j.first ≡ Some (pos j.name)) × (tg.type j.name ≡ j.type) × tg.named j.name → (at_h w j.first ≡ Some (pos j.other)) × (th.type j.other ≡ j.type) × th.named j.other
              → CellsAt more (on.cell_shadows f (length w.places) (layout j.type)) (gd.blocks j.name) (hd.blocks j.other)
          fresh_at n m e g a c =
              let en : suc n ≡ j.name = pos_inj (suc n) j.name (some_inj _ _ (sym e ∙ a.0)) in
              let em : suc m ≡ j.other = pos_inj (suc m) j.other (some_inj _ _ (sym g ∙ c.0)) in
              new_cells more (length w.places) (suc n) (suc m) (layout j.type) (gd.blocks j.name) (hd.blocks j.other)
              (subst (λ z. AreCells tg.type tg.named gi.cells z (layout j.type) (gd.blocks j.name)) (sym en) (subst (λ z. AreCells tg.type tg.named gi.cells j.name (layout z) (gd.blocks j.name)) a.1 (tg.cells j.name a.2)))
              (subst (λ z. AreCells th.type th.named hi.cells z (layout j.type) (hd.blocks j.other)) (sym em) (subst (λ z. AreCells th.type th.named hi.cells j.other (layout z) (hd.blocks j.other)) c.1 (th.cells j.other c.2)))
              below_more
              (λ i k. field_value w j h.below gi n e i k)
              (λ i k. field_value w j h.below hi m g i k)

      abbrev new_touched : Touched
      new_touched = record { first = j.first; type = j.type; shadows = on.cell_shadows f (length x.shadows.places) (layout j.type) }

      grow : Lock more (record { plain = record x.plain { touched = base.touch j.name x.plain.touched }; shadows = on.touch f layout j.first j.type x.shadows }) (record { plain = record y.plain { touched = base.touch j.other y.plain.touched }; shadows = on.touch f layout j.first j.type y.shadows })
      unfolding on.touch
      grow = record {
        shadows = ap (on.touch f layout j.first j.type) l.shadows;
        places = ap (λ z. z ++ on.field_places j.first 0 (layout j.type)) l.places;
        touched_g = touch_new j.name x.plain.touched (ap (has j.name) l.touched_g ∙ qa) ∙ ap (λ z. z ++ j.name ∷ []) l.touched_g ∙ sym (map_add (λ k. k.name) w.keys j);
        touched_h = touch_new j.other y.plain.touched (ap (has j.other) l.touched_h ∙ qb) ∙ ap (λ z. z ++ j.other ∷ []) l.touched_h ∙ sym (map_add (λ k. k.other) w.keys j);
        distinct_g = subst Distinct (sym (map_add (λ k. k.name) w.keys j)) (distinct_add (names w.keys) j.name l.distinct_g qa);
        distinct_h = subst Distinct (sym (map_add (λ k. k.other) w.keys j)) (distinct_add (others w.keys) j.other l.distinct_h qb);
        firsts = λ k i. elim (in_add k j w.keys i) [
          | inl m ↦ place_later w more k.first k.type _ _ (to_grown w j h.below) (l.firsts k m)
          | inr e ↦ subst (λ z. PlaceAt more z.first z.type (at (block z.name) 0) (at (block z.other) 0)) (sym e) (place_later w more j.first j.type _ _ (to_grown w j h.below) h)
        ];
        blocks = blocks_add more w.keys x.shadows.touched x.plain.blocks y.plain.blocks j new_touched (later_blocks w more (to_grown w j h.below) w.keys x.shadows.touched x.plain.blocks y.plain.blocks l.blocks) refl refl
            (subst (λ z. CellsAt more (on.cell_shadows f (length z) (layout j.type)) (x.plain.blocks j.name) (y.plain.blocks j.other)) (sym l.places)
            (subst (λ z. CellsAt more (on.cell_shadows f (length w.places) (layout j.type)) z (y.plain.blocks j.other)) (sym (l.away_g j.name qa))
            (subst (λ z. CellsAt more (on.cell_shadows f (length w.places) (layout j.type)) (gd.blocks j.name) z) (sym (l.away_h j.other qb)) fresh_cells)));
        away_g = λ n q. l.away_g n (has_front n (names w.keys) (j.name ∷ []) (sym (ap (has n) (map_add (λ k. k.name) w.keys j)) ∙ q));
        away_h = λ n q. l.away_h n (has_front n (others w.keys) (j.other ∷ []) (sym (ap (has n) (map_add (λ k. k.other) w.keys j)) ∙ q));
        made = later_made w more (to_grown w j h.below) x.shadows.made x.plain.made y.plain.made l.made;
        stream_g = l.stream_g;
        stream_h = l.stream_h;
        base_g = l.base_g;
        base_h = l.base_h;
        count = l.count;
      }

      rank_g : base.rank j.name x.plain.touched ≡ length x.shadows.touched
      rank_g = ap (base.rank j.name) l.touched_g ∙ rank_out j.name (names w.keys) qa ∙ sym (key_length w w.keys x.shadows.touched x.plain.blocks y.plain.blocks l.blocks)

      other_length : (ks : List Key) → length (others ks) ≡ length (names ks)
      other_length [] = refl
      other_length (k ∷ ks) = ap suc (other_length ks)

      rank_h : base.rank j.other y.plain.touched ≡ length y.shadows.touched
      rank_h = ap (base.rank j.other) l.touched_h ∙ rank_out j.other (others w.keys) qb ∙ other_length w.keys ∙ sym (key_length w w.keys x.shadows.touched x.plain.blocks y.plain.blocks l.blocks) ∙ ap (λ z. length z.touched) l.shadows

      new_first : (s : Shadows) (r : ℕ) → r ≡ length s.touched → on.reached_shadow (Object r) (place j.first j.type) (on.touch f layout j.first j.type s).touched ≡ place j.first j.type
      unfolding on.touch
      new_first s r e = first_at j.first j.type r _ _ (ap (slice_get (s.touched ++ (let c : Touched = record { first = j.first; type = j.type; shadows = on.cell_shadows f (length s.places) (layout j.type) } in c) ∷ [])) e ∙ get_last s.touched _)

      reached_new : Reached w j.first j.type (at (block j.name) 0) (at (block j.other) 0) x y
      reached_new = reached_is w more j.first j.type j.name j.other x y (place j.first j.type) (place j.first j.type) (on.touch f layout j.first j.type x.shadows) (on.touch f layout j.first j.type y.shadows) (to_grown w j h.below)
          (new_shadows j.first j.type (base.rank j.name x.plain.touched) x.shadows rank_g)
          (new_shadows j.first j.type (base.rank j.other y.plain.touched) y.shadows rank_h)
          (new_first x.shadows (base.rank j.name x.plain.touched) rank_g)
          (new_first y.shadows (base.rank j.other y.plain.touched) rank_h)
          (refl, place_later w more j.first j.type _ _ (to_grown w j h.below) h, spot_block j 0 (in_last j w.keys) refl refl)
          grow

    -- ---- accesses through a place

    points_same : (type : ℕ → ℕ) (named : ℕ → Type 0) (t u : ℕ) (o : Option ℤ) (v v' : Value) → Points type named t o v → Points type named u o v' → v ≡ v'
    points_same type named t u o v v' (inl i) (inl j) = i.1 ∙ sym j.1
    points_same type named t u o v v' (inl i) (inr j) = absurd (let e = some_inj _ _ (sym i.0 ∙ j.1) in omega (arith, ints, e))
    points_same type named t u o v v' (inr i) (inl j) = absurd (let e = some_inj _ _ (sym i.1 ∙ j.0) in omega (arith, ints, e))
    points_same type named t u o v v' (inr i) (inr j) = i.2 ∙ ap (λ n. at (block n) 0) (pos_inj (suc i.0) (suc j.0) (some_inj _ _ (sym i.1 ∙ j.1))) ∙ sym j.2

    first_key : (w : World) (m : ℕ) (ks : List Key) (l : List Touched) (bx by : ℕ → List Value) → BlocksAt w ks l bx by → on.is_first m l ≡ true → (k : Key) × In k ks × (m ≡ k.first)
    unfolding on.is_first
    first_key w m [] [] bx by i e = absurd (cc e)
    first_key w m (k ∷ ks) (c ∷ l) bx by i e = elim (bool_cases (nat_eq m c.first)) [
      | inl q ↦ (k, inl refl, eqb-true m c.first q ∙ i.0)
      | inr q ↦ let r = first_key w m ks l bx by i.3 (sym (ap (λ t. t || on.is_first m l) q) ∙ e) in (r.0, inr r.1, r.2)
    ]
    first_key w m [] (c ∷ l) bx by i e = absurd i
    first_key w m (k ∷ ks) [] bx by i e = absurd i

    -- the outcomes of accesses
    block_event : (a c : ℕ) (d : base.Data) → (base.access_in (at (block a) c) d).event ≡ Object (base.rank a d.touched)
    unfolding base.access_in base.acted
    block_event a c d = refl

    null_event : (d : base.Data) → (base.access_in null d).event ≡ Zero
    unfolding base.access_in base.acted
    null_event d = refl

    firsts_are : (w : World) (x y : Data) (m : ℕ) (z : ℤ) (e : at_h w m ≡ Some z) → Lock w x y → Firsts w m z e w.keys
    firsts_are w x y m z e l = λ k i. let h = l.firsts k i in ((key_block th.type th.named k.type (at_h w k.first) k.other h.there).0, not_null (at_h w k.first) k.other k.type h.there)
      where
        not_null : (o : Option ℤ) (n t : ℕ) → Points th.type th.named t o (at (block n) 0) → n ≢ 0
        not_null o n t (inl i) = absurd (cc i.1)
        not_null o n t (inr i) = λ e. absurd (let q = block_eq n (suc i.0) i.2 in omega (arith, q, e))

    -- what the choices tell of the other input's outcome
    through_told : (w : World) (m t : ℕ) (p p' : Value) (x y : Data) → PlaceAt w m t p p' → Lock w x y → Told (at_h w) (on.access_choices m t x.shadows.touched) (base.access_in p' y.plain).event
    through_told w m t p p' x y h l = elim h.there [
      | inl i ↦ subst (λ v. Told (at_h w) (on.access_choices m t x.shadows.touched) (base.access_in v y.plain).event) (sym i.1) (subst (Told (at_h w) (on.access_choices m t x.shadows.touched)) (sym (null_event y.plain))
          (access_null w m (pos 0) i.0 refl t w.keys x.shadows.touched x.plain.blocks y.plain.blocks l.blocks (firsts_are w x y m (pos 0) i.0 l)))
      | inr i ↦ subst (λ v. Told (at_h w) (on.access_choices m t x.shadows.touched) (base.access_in v y.plain).event) (sym i.2) (subst (Told (at_h w) (on.access_choices m t x.shadows.touched)) (sym (block_event (suc i.0) 0 y.plain ∙ ap (λ q. Object (base.rank (suc i.0) q)) l.touched_h))
          (access_block w m (pos (suc i.0)) i.1 (suc i.0) refl (λ e. absurd (omega (arith, e))) t w.keys x.shadows.touched x.plain.blocks y.plain.blocks l.blocks (firsts_are w x y m (pos (suc i.0)) i.1 l)
          (λ k q e. sym i.3 ∙ ap th.type e ∙ (key_block th.type th.named k.type (at_h w k.first) k.other (l.firsts k q).there).1) l.distinct_h))
    ]

    through_known : (w : World) (m t : ℕ) (p p' : Value) (x y : Data) → PlaceAt w m t p p' → Lock w x y → Known_fact w (on.access_asked (place m t) x.shadows.touched) (base.access_in p x.plain).event (base.access_in p' y.plain).event
    unfolding on.access_asked
    through_known w m t p p' x y h l = by_first (on.is_first m x.shadows.touched) refl
      where
        by_first : (c : Bool) → on.is_first m x.shadows.touched ≡ c → Known_fact w (if c then asks_nothing else one_of (on.access_choices m t x.shadows.touched)) (base.access_in p x.plain).event (base.access_in p' y.plain).event
        by_first true e = let k = first_key w m w.keys x.shadows.touched x.plain.blocks y.plain.blocks l.blocks e in
            let f0 = l.firsts k.0 k.1 in
            let ep : p ≡ at (block (k.0).name) 0 = points_same tg.type tg.named t (k.0).type (at_g w m) p _ h.here (subst (λ q. Points tg.type tg.named (k.0).type (at_g w q) (at (block (k.0).name) 0)) (sym k.2) f0.here) in
            let eq : p' ≡ at (block (k.0).other) 0 = points_same th.type th.named t (k.0).type (at_h w m) p' _ h.there (subst (λ q. Points th.type th.named (k.0).type (at_h w q) (at (block (k.0).other) 0)) (sym k.2) f0.there) in
            quiet_known w _ _ (ap (λ v. (base.access_in v x.plain).event) ep ∙ block_event (k.0).name 0 x.plain ∙ ap Object (ranks_of w x y k.0 k.1 l) ∙ sym (block_event (k.0).other 0 y.plain) ∙ sym (ap (λ v. (base.access_in v y.plain).event) eq))
        by_first false e = (
          access_below w m t h.below w.keys x.shadows.touched x.plain.blocks y.plain.blocks l.blocks (λ k i. (l.firsts k i).below),
          choice_fact w (on.access_choices m t x.shadows.touched) _ _ (through_told w m t p p' x y h l),
        )

    zero_object : (n : ℕ) → Zero ≡ Object n → ⊥
    zero_object n e = cc e

    object_inj : (n k : ℕ) → Object n ≡ Object k → n ≡ k
    object_inj n k e = ap rank_of e
      where
        rank_of : Outcome → ℕ
        rank_of (Object i) = i
        rank_of _ = 0

    reached_null : (w : World) (m t : ℕ) (x y : Data) → Lock w x y → Reached w m t null null x y
    unfolding on.act on.after_shadows on.touch_by on.value_shadow on.plain_of base.act base.access_in base.acted
    reached_null w m t x y l = (w, le_same w, (λ q. absurd (q refl)), l)

    find_name : (of : Key → ℕ) (n : ℕ) (ks : List Key) → has n (map of ks) ≡ true → (k : Key) × In k ks × (n ≡ of k)
    unfolding has
    find_name of n [] q = absurd (cc q)
    find_name of n (k ∷ ks) q = elim (eqb_tells n (of k)) [
      | inl r ↦ (k, inl refl, r.1)
      | inr r ↦ let i = find_name of n ks (sym (has_other n (of k) (map of ks) r.0) ∙ q) in (i.0, inr i.1, i.2)
    ]

    names_length : (ks : List Key) → length (names ks) ≡ length (others ks)
    names_length [] = refl
    names_length (k ∷ ks) = ap suc (names_length ks)

    reached_blocks : (w : World) (m t a c : ℕ) (x y : Data) → PlaceAt w m t (at (block a) 0) (at (block c) 0) → Lock w x y → base.rank a (names w.keys) ≡ base.rank c (others w.keys) → Reached w m t (at (block a) 0) (at (block c) 0) x y
    reached_blocks w m t a c x y h l e = elim (bool_cases (has a (names w.keys))) [
      | inl qa ↦ elim (bool_cases (has c (others w.keys))) [
        | inl qc ↦
            let k = find_name (λ z. z.other) c w.keys qc in
            let ea : a ≡ (k.0).name = rank_inj a (k.0).name (names w.keys) qa (has_name (λ z. z.name) w.keys k.0 k.1) (e ∙ ap (λ z. base.rank z (others w.keys)) k.2 ∙ sym (rank_key w.keys l.distinct_g l.distinct_h k.0 k.1)) in
            subst (λ z. Reached w m t (at (block z) 0) (at (block c) 0) x y) (sym ea) (subst (λ z. Reached w m t (at (block (k.0).name) 0) (at (block z) 0) x y) (sym k.2)
            (reached_old w m t k.0 x y k.1 (subst (λ z. PlaceAt w m t (at (block z) 0) (at (block (k.0).other) 0)) ea (subst (λ z. PlaceAt w m t (at (block a) 0) (at (block z) 0)) k.2 h)) l))
        | inr qc ↦ let i = rank_in a (names w.keys) qa in let j = rank_out c (others w.keys) qc in let n = names_length w.keys in absurd (omega (arith, e, i, j, n))
      ]
      | inr qa ↦ elim (bool_cases (has c (others w.keys))) [
        | inl qc ↦ let i = rank_out a (names w.keys) qa in let j = rank_in c (others w.keys) qc in let n = names_length w.keys in absurd (omega (arith, e, i, j, n))
        | inr qc ↦ reached_new w x y l (record { name = a; other = c; first = m; type = t }) h qa qc
      ]
    ]

    -- where the outcomes are one, both reach a block or both NULL
    reached : (w : World) (m t : ℕ) (p p' : Value) (x y : Data) → PlaceAt w m t p p' → Lock w x y → (base.access_in p x.plain).event ≡ (base.access_in p' y.plain).event → Reached w m t p p' x y
    reached w m t p p' x y h l e = elim h.here [
      | inl i ↦ elim h.there [
        | inl j ↦ put i.1 j.1 (reached_null w m t x y l)
        | inr j ↦ absurd (zero_object _ (sym (null_event x.plain) ∙ sym (ap (λ v. (base.access_in v x.plain).event) i.1) ∙ e ∙ ap (λ v. (base.access_in v y.plain).event) j.2 ∙ block_event (suc j.0) 0 y.plain))
      ]
      | inr i ↦ elim h.there [
        | inl j ↦ absurd (zero_object _ (sym (null_event y.plain) ∙ sym (ap (λ v. (base.access_in v y.plain).event) j.1) ∙ sym e ∙ ap (λ v. (base.access_in v x.plain).event) i.2 ∙ block_event (suc i.0) 0 x.plain))
        | inr j ↦ put i.2 j.2 (reached_blocks w m t (suc i.0) (suc j.0) x y (subst (λ v. PlaceAt w m t v (at (block (suc j.0)) 0)) i.2 (subst (λ v. PlaceAt w m t p v) j.2 h)) l
            (sym (ap (base.rank (suc i.0)) l.touched_g) ∙ object_inj _ _ (sym (block_event (suc i.0) 0 x.plain) ∙ sym (ap (λ v. (base.access_in v x.plain).event) i.2) ∙ e ∙ ap (λ v. (base.access_in v y.plain).event) j.2 ∙ block_event (suc j.0) 0 y.plain) ∙ ap (base.rank (suc j.0)) l.touched_h))
      ]
    ]
      where
        put : {v v' : Value} → p ≡ v → p' ≡ v' → Reached w m t v v' x y → Reached w m t p p' x y
        put {v} {v'} i j r = subst (λ z. Reached w m t z p' x y) (sym i) (subst (λ z. Reached w m t v z x y) (sym j) r)

    through : (w : World) (m t : ℕ) (p p' : Value) (x y : Data) → PlaceAt w m t p p' → Lock w x y → Act_fact w (act_access (mk p (place m t))) (on.act f layout (act_access (mk p (place m t))) x) (on.act f layout (act_access (mk p' (place m t))) y)
    unfolding on.act on.asked_of on.plain_of base.act
    through w m t p p' x y h l = let r = through_known w m t p p' x y h l in
        finish w (act_access (mk p (place m t))) (act_access (mk p' (place m t))) x y l (ap (λ z. on.access_asked (place m t) z.touched) l.shadows) r.0 r.1 (λ z e. reached w m t p p' x y h l e)

    access_at : (w : World) (s : Shadow) (p p' : Value) (x y : Data) → Fits w s p p' → Lock w x y → Act_fact w (act_access (mk p s)) (on.act f layout (act_access (mk p s)) x) (on.act f layout (act_access (mk p' s)) y)
    access_at w (form a) p p' x y i l = reach w (form a) p p' _ _ x y i.here i.there (access_number w a _ _ x y l)
    access_at w (place m t) p p' x y i l = through w m t p p' x y i l
    access_at w none p p' x y i l = access_bare w p p' x y (bare_is w p p' i) l

    -- ---- the operations are related

    -- the other value has the same shadow
    mk_is : (v : Traced) (s : Shadow) → s ≡ v.shadow → v ≡ mk v.plain s
    mk_is v s e = ap (λ z. mk v.plain z) (sym e)

    pub act_at : (w : World) (a c : Act Traced) (x y : Data) → SameAct (ValueAt w) (LocAt w) a c → Lock w x y → Act_fact w a (on.act f layout a x) (on.act f layout c y)
    act_at w (act_arith o p q) (act_arith o' u v) x y i k =
        subst (λ z. Act_fact w (act_arith o p q) (on.act f layout (act_arith o p q) x) (on.act f layout z y)) (ap₂ (λ s t. act_arith o s t) (sym (mk_is u p.shadow (i.1).0)) (sym (mk_is v q.shadow (i.2).0)) ∙ ap (λ z. act_arith z u v) i.0)
        (arith_at w o p.shadow q.shadow p.plain u.plain q.plain v.plain x y (i.1).1 (i.2).1 k)
    act_at w (act_divisor p q) (act_divisor u v) x y i k =
        subst (λ z. Act_fact w (act_divisor p q) (on.act f layout (act_divisor p q) x) (on.act f layout z y)) (ap₂ act_divisor (sym (mk_is u p.shadow (i.0).0)) (sym (mk_is v q.shadow (i.1).0)))
        (divisor_at w p.shadow q.shadow p.plain u.plain q.plain v.plain x y (i.0).1 (i.1).1 k)
    act_at w (act_negate p) (act_negate u) x y i k =
        subst (λ z. Act_fact w (act_negate p) (on.act f layout (act_negate p) x) (on.act f layout z y)) (ap act_negate (sym (mk_is u p.shadow i.0)))
        (negate_at w p.shadow p.plain u.plain x y i.1 k)
    act_at w (act_compare o p q) (act_compare o' u v) x y i k =
        subst (λ z. Act_fact w (act_compare o p q) (on.act f layout (act_compare o p q) x) (on.act f layout z y)) (ap₂ (λ s t. act_compare o s t) (sym (mk_is u p.shadow (i.1).0)) (sym (mk_is v q.shadow (i.2).0)) ∙ ap (λ z. act_compare z u v) i.0)
        (compare_at w o p.shadow q.shadow p.plain u.plain q.plain v.plain x y (i.1).1 (i.2).1 k)
    act_at w (act_test p) (act_test u) x y i k =
        subst (λ z. Act_fact w (act_test p) (on.act f layout (act_test p) x) (on.act f layout z y)) (ap act_test (sym (mk_is u p.shadow i.0)))
        (test_at w p.shadow p.plain u.plain x y i.1 k)
    act_at w (act_access p) (act_access u) x y i k =
        subst (λ z. Act_fact w (act_access p) (on.act f layout (act_access p) x) (on.act f layout z y)) (ap act_access (sym (mk_is u p.shadow i.0)))
        (access_at w p.shadow p.plain u.plain x y i.1 k)
    act_at w (act_index p q n c) (act_index u v m d) x y i k =
        subst (λ z. Act_fact w (act_index p q n c) (on.act f layout (act_index p q n c) x) (on.act f layout z y)) (ap₂ (λ s t. act_index s t n c) (sym (mk_is u p.shadow (i.0).0)) (sym (mk_is v q.shadow (i.1).0)) ∙ ap₂ (λ s t. act_index u v s t) i.2 i.3)
        (index_at w p.shadow q.shadow p.plain u.plain q.plain v.plain n c x y (refl, (i.0).1, (i.0).2) (i.1).1 k)
    act_at w _ _ x y i k = absurd i

    pub address_at : (w : World) (v u : Traced) → LocAt w v u → ValueAt w v u
    address_at w v u i = (i.0, i.1)

    pub global_at : (w : World) (n : ℕ) → LocAt w (mk (at (made 0) n) none) (mk (at (made 0) n) none)
    global_at w n = (refl, inr (spot_made 0 n refl refl), spot_made 0 n refl refl)

    abbrev pub lockstep : Related (traced f layout) (traced f layout)
    lockstep = record {
      W = World;
      Le = Le;
      le_refl = le_same;
      le_trans = le_trans;
      RV = ValueAt;
      RL = LocAt;
      later_value = later_value;
      later_location = later_location;
      RD = Lock;
      Ev = λ w e e'. Ev e e';
      Part = λ w e e'. Part e e';
      later_event = λ w w' a c i k. k;
      number = number_at;
      nil = null_at;
      address = address_at;
      offset = λ w v u n i. offset_at w v u n i;
      global = global_at;
      load = load_at;
      store = store_at;
      make = λ w t x y k. make_at w t x y k;
      take = λ w p q x y i k. take_at w p q x y i k;
      act = act_at;
    }
