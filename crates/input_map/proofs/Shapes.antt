-- The cells that a built input has: the parameters' and those of the blocks, with the places that stand there.
use Rattle.std.proofs.Common.{◌≡◌, ◌≢◌, ℕ, zero, suc, ◌+◌, ◌≤◌, ◌⊎◌, inl, inr, Bool, true, false, nat_eq, List, [], ◌∷◌, ◌++◌, length, slice_get, Option, Some, None, if◌then◌else◌, refl, sym, ap, ◌∙◌, subst, arith, length-append}
use Rattle.std.proofs.lemmas.Bool.Decides.{nat_tests}
use Rattle.std.proofs.lemmas.List.{append-nil}
use Rattle.cc_base.specs.declared.cells.CellTy.TheVariants as cell
use Rattle.cc_base.specs.declared.cells.TyId.{TyId}
use Rattle.cc_base.specs.Limits.{Limits}
use Rattle.cc_base.specs.Paths.{In}
use Rattle.cc_base.specs.Places.{Place, Placed, arg, field, stream}
use Rattle.cc_model.specs.Core.{Cell, ptr_cell}
use Rattle.cc_model.specs.Canonical.{Named, Within}
use Rattle.cc_model.specs.CheckedProgram.{cell_of}
use Rattle.input_map.specs.Builds.{HasItsType}
use Rattle.input_map.specs.Laying.{Spot, Plan, spots, behind, Blocks, Seat, Entry}
use Rattle.input_map.proofs.Lists.{some_same, Part, part_first, part_more, part_last, length_spots}

-- what the plan says of its places, of which there are n
pub record IsPlan (p : Plan) (params : List Cell) (b : Limits) (places : List Placed) (n : ℕ) : Type 0 where
  pub found_is : (q j id : ℕ) → p.found q j ≡ Some id → (e : Entry places n id) × Seat e.entry.place q j
  pub finds : (id : ℕ) (e : Entry places n id) (q j : ℕ) → Seat e.entry.place q j → p.found q j ≡ Some id
  -- of an owner
  pub class_is : (c t : ℕ) → p.owner c ≡ Some t → p.class t ≡ c
  pub pointer : (c t : ℕ) → p.owner c ≡ Some t → (e : Entry places n t) × (ty : TyId) × (e.entry.holds ≡ cell.Ptr ty)
  pub typed : (id : ℕ) (e : Entry places n id) → HasItsType p.layouts params places e.entry.place e.entry.holds
  pub parents : (id : ℕ) (e : Entry places n id) (parent c : ℕ) → e.entry.place ≡ field parent c → (p.owner (p.class parent) ≡ Some parent) × (p.class parent ≢ 0)
  pub one_type : (i j : ℕ) (e : Entry places n i) (f : Entry places n j) → p.class i ≡ p.class j → p.class i ≢ 0 → e.entry.holds ≡ f.entry.holds
  pub within : (id : ℕ) → Within b (p.number id)
  pub base_within : Within b p.base

module _ (p : Plan) (params : List Cell) (b : Limits) (places : List Placed) (n : ℕ) where
  -- the block of a class: its address, its type, which is that of each place of the class, and its cells
  pub record IsBlock (all : List Spot) (named : List Named) (c a : ℕ) : Type 0 where
    pub type : ℕ
    pub before : ℕ
    pub address : a ≡ suc before
    pub high : a ≤ length all
    pub is_named : In (record { address = a; type = type }) named
    pub of_type : (id : ℕ) (e : Entry places n id) → p.class id ≡ c → cell_of e.entry.holds ≡ ptr_cell type
    pub cells : Part all before (spots (behind p (p.owner c)) 0 (p.layouts type))

  -- where a place stands
  abbrev pub Origin : Blocks → ℕ → Place → Type 0
  Origin block k (arg i) = k ≡ i
  Origin block k (field t c) = (a : ℕ) × (p.owner (p.class t) ≡ Some t) × (block (p.class t) ≡ Some (suc a)) × (k ≡ a + c)
  Origin block k (stream i) = ⊥

  -- the place of cell number k, where it has one, is of its type
  abbrev pub Fits : Blocks → ℕ → Cell → Option ℕ → Type 0
  Fits block k c None = Unit {0}
  Fits block k c (Some id) = (e : Entry places n id) × (cell_of e.entry.holds ≡ c) × Origin block k e.entry.place

  abbrev pub EveryFits : Blocks → ℕ → List Spot → Type 0
  EveryFits block k [] = Unit {0}
  EveryFits block k (s ∷ l) = Fits block k s.cell s.place × EveryFits block (suc k) l

  pub every_append : (block : Blocks) (k : ℕ) (l m : List Spot) → EveryFits block k l → EveryFits block (k + length l) m → EveryFits block k (l ++ m)
  every_append block k [] m h g = subst (λ i. EveryFits block i m) (let e : k + 0 ≡ k = omega arith in e) g
  every_append block k (s ∷ l) m h g = (h.0, every_append block (suc k) l m h.1 (subst (λ i. EveryFits block i m) (let e : k + suc (length l) ≡ suc k + length l = omega arith in e) g))

  pub every_get : (block : Blocks) (k : ℕ) (l : List Spot) (i : ℕ) (s : Spot) → EveryFits block k l → slice_get l i ≡ Some s → Fits block (k + i) s.cell s.place
  every_get block k [] i s h e = absurd (cc e)
  every_get block k (x ∷ l) zero s h e = subst (λ (y : Spot). Fits block (k + 0) y.cell y.place) (some_same x s e) (subst (λ i. Fits block i x.cell x.place) (let f : k ≡ k + 0 = omega arith in f) h.0)
  every_get block k (x ∷ l) (suc i) s h e = subst (λ m. Fits block m s.cell s.place) (let f : suc k + i ≡ k + suc i = omega arith in f) (every_get block (suc k) l i s h.1 e)

  -- classes that have a block keep it
  abbrev pub Grows : Blocks → Blocks → Type 0
  Grows block new = (c a : ℕ) → block c ≡ Some a → new c ≡ Some a

  origin_grows : (block new : Blocks) → Grows block new → (k : ℕ) (q : Place) → Origin block k q → Origin new k q
  origin_grows block new g k (arg i) h = h
  origin_grows block new g k (field t c) (a, o, m, e) = (a, o, g (p.class t) (suc a) m, e)
  origin_grows block new g k (stream i) h = absurd h

  fits_grows : (block new : Blocks) → Grows block new → (k : ℕ) (c : Cell) (o : Option ℕ) → Fits block k c o → Fits new k c o
  fits_grows block new g k c None h = tt
  fits_grows block new g k c (Some id) (e, f, o) = (e, f, origin_grows block new g k e.entry.place o)

  pub every_grows : (block new : Blocks) → Grows block new → (k : ℕ) (l : List Spot) → EveryFits block k l → EveryFits new k l
  every_grows block new g k [] h = tt
  every_grows block new g k (s ∷ l) h = (fits_grows block new g k s.cell s.place h.0, every_grows block new g (suc k) l h.1)

  pub record Shape (all : List Spot) (named : List Named) (block : Blocks) : Type 0 where
    pub first : Part all 0 (spots (p.found 0) 0 params)
    pub blocks : (c a : ℕ) → block c ≡ Some a → IsBlock all named c a
    pub apart : (c d a : ℕ) → block c ≡ Some a → block d ≡ Some a → c ≡ d
    pub fits : EveryFits block 0 all

  module _ (h : IsPlan p params b places n) where
    ptr_same : (t u : ℕ) → ptr_cell t ≡ ptr_cell u → t ≡ u
    ptr_same t u e = cc

    -- a place that is found in a block
    seat_arg : (block : Blocks) (c : Cell) (j id : ℕ) (e : Entry places n id) (q : Place) → e.entry.place ≡ q → Seat q 0 j → slice_get params j ≡ Some c → (cell_of e.entry.holds ≡ c) × Origin block j q
    seat_arg block c j id e (arg k) f s g =
        let t : slice_get params k ≡ Some (cell_of e.entry.holds) = subst (λ (x : Place). HasItsType p.layouts params places x e.entry.holds) f (h.typed id e) in
        (some_same (cell_of e.entry.holds) c (sym t ∙ ap (slice_get params) s.1 ∙ g), sym s.1)
    seat_arg block c j id e (field t k) f s g = absurd (let x = s.0 in omega (arith, x))
    seat_arg block c j id e (stream k) f s g = absurd (let x = s.0 in omega (arith, x))

    place_arg : (block : Blocks) (c : Cell) (j : ℕ) (o : Option ℕ) → p.found 0 j ≡ o → slice_get params j ≡ Some c → Fits block j c o
    place_arg block c j None e g = tt
    place_arg block c j (Some id) e g = let r = h.found_is 0 j id e in let s = seat_arg block c j id r.0 (r.0).entry.place refl r.1 g in (r.0, s.0, s.1)

    every_arg : (block : Blocks) (j : ℕ) (cs : List Cell) → ((m : ℕ) (c : Cell) → slice_get cs m ≡ Some c → slice_get params (j + m) ≡ Some c) → EveryFits block j (spots (p.found 0) j cs)
    every_arg block j [] g = tt
    every_arg block j (c ∷ cs) g = (
      place_arg block c j (p.found 0 j) refl (let e : j ≡ j + 0 = omega arith in ap (slice_get params) e ∙ g 0 c refl),
      every_arg block (suc j) cs (λ m d e. let f : suc j + m ≡ j + suc m = omega arith in ap (slice_get params) f ∙ g (suc m) d e),
    )

    -- before the first cell is passed
    pub shape_first : (block : Blocks) → ((c : ℕ) → block c ≡ None) → Shape (spots (p.found 0) 0 params) [] block
    shape_first block none = record {
      first = subst (λ l. Part l 0 (spots (p.found 0) 0 params)) (append-nil (spots (p.found 0) 0 params)) (part_first (spots (p.found 0) 0 params) []);
      blocks = λ c a e. absurd (cc (e, none c));
      apart = λ c d a e f. absurd (cc (e, none c));
      fits = every_arg block 0 params (λ m c e. let f : 0 + m ≡ m = omega arith in ap (slice_get params) f ∙ e);
    }

    -- a block is named
    module _ (block new : Blocks) (c next type : ℕ) (entries : (id : ℕ) (e : Entry places n id) → p.class id ≡ c → cell_of e.entry.holds ≡ ptr_cell type) (at : ℕ) (here : new c ≡ Some (suc at)) where
      seat_field : (d : Cell) (j t : ℕ) → p.owner c ≡ Some t → (id : ℕ) (e : Entry places n id) (q : Place) → e.entry.place ≡ q → Seat q (suc (suc t)) j → slice_get (p.layouts type) j ≡ Some d
          → (cell_of e.entry.holds ≡ d) × Origin new (at + j) q
      seat_field d j t own id e (arg k) f s g = absurd (let x = s.0 in omega (arith, x))
      seat_field d j t own id e (stream k) f s g = absurd (let x = s.0 in omega (arith, x))
      seat_field d j t own id e (field u k) f s g =
          let same : u ≡ t = (let x = s.0 in omega (arith, x)) in
          let is : p.class u ≡ c = ap p.class same ∙ h.class_is c t own in
          let y : HasItsType p.layouts params places (field u k) e.entry.holds = subst (λ (x : Place). HasItsType p.layouts params places x e.entry.holds) f (h.typed id e) in
          let o = h.pointer c t own in
          let of : cell_of (o.0).entry.holds ≡ ptr_cell type = entries t o.0 (h.class_is c t own) in
          let v : y.1 ≡ (o.0).entry = some_same y.1 (o.0).entry (sym y.2 ∙ ap (slice_get places) same ∙ (o.0).is) in
          let w : (y.0).0 ≡ type = ptr_same (y.0).0 type (sym (ap cell_of y.3) ∙ ap (λ (x : Placed). cell_of x.holds) v ∙ of) in
          let m : slice_get (p.layouts type) j ≡ Some (cell_of e.entry.holds) = ap (λ x. slice_get (p.layouts x) j) (sym w) ∙ ap (slice_get (p.layouts (y.0).0)) (sym s.1) ∙ y.4 in
          (some_same (cell_of e.entry.holds) d (sym m ∙ g), (at, ap (λ x. p.owner (p.class x)) same ∙ ap p.owner (h.class_is c t own) ∙ own ∙ ap Some (sym same), ap new is ∙ here, ap (λ x. at + x) (sym s.1)))

      place_field : (d : Cell) (j t : ℕ) → p.owner c ≡ Some t → (o : Option ℕ) → p.found (suc (suc t)) j ≡ o → slice_get (p.layouts type) j ≡ Some d → Fits new (at + j) d o
      place_field d j t own None e g = tt
      place_field d j t own (Some id) e g = let r = h.found_is (suc (suc t)) j id e in let s = seat_field d j t own id r.0 (r.0).entry.place refl r.1 g in (r.0, s.0, s.1)

      place_behind : (d : Cell) (j : ℕ) (o : Option ℕ) → p.owner c ≡ o → slice_get (p.layouts type) j ≡ Some d → Fits new (at + j) d (behind p o j)
      place_behind d j None e g = tt
      place_behind d j (Some t) e g = place_field d j t e (p.found (suc (suc t)) j) refl g

      pub every_behind : (j : ℕ) (cs : List Cell) → ((m : ℕ) (d : Cell) → slice_get cs m ≡ Some d → slice_get (p.layouts type) (j + m) ≡ Some d) → EveryFits new (at + j) (spots (behind p (p.owner c)) j cs)
      every_behind j [] g = tt
      every_behind j (d ∷ cs) g = (
        place_behind d j (p.owner c) refl (let e : j ≡ j + 0 = omega arith in ap (slice_get (p.layouts type)) e ∙ g 0 d refl),
        subst (λ k. EveryFits new k (spots (behind p (p.owner c)) (suc j) cs)) (let e : at + suc j ≡ suc (at + j) = omega arith in e)
            (every_behind (suc j) cs (λ m x e. let f : suc j + m ≡ j + suc m = omega arith in ap (slice_get (p.layouts type)) f ∙ g (suc m) x e)),
      )

    -- ---- one more cell is passed

    pub shape_keeps : (all : List Spot) (named : List Named) (block new : Blocks) → ((c : ℕ) → new c ≡ block c) → Shape all named block → Shape all named new
    shape_keeps all named block new same g = record {
      first = g.first;
      blocks = λ c a e. g.blocks c a (sym (same c) ∙ e);
      apart = λ c d a e f. g.apart c d a (sym (same c) ∙ e) (sym (same d) ∙ f);
      fits = every_grows block new (λ c a e. same c ∙ e) 0 all g.fits;
    }

    -- a block is named
    module _ (all : List Spot) (named : List Named) (block new : Blocks) (g : Shape all named block) (type id : ℕ) (e : Entry places n id) (holds : cell_of e.entry.holds ≡ ptr_cell type)
        (not_null : p.class id ≢ 0) (is_new : block (p.class id) ≡ None) (with : (c : ℕ) → new c ≡ (if nat_eq (p.class id) c then Some (suc (length all)) else block c)) where
      abbrev more : List Spot
      more = spots (behind p (p.owner (p.class id))) 0 (p.layouts type)

      abbrev fresh : Named
      fresh = record { address = suc (length all); type = type }

      is_equal : (i j : ℕ) → nat_eq i j ≡ true → i ≡ j
      is_equal i j f = grind (arith, nat_tests)

      equal : (i : ℕ) → nat_eq i i ≡ true
      equal i = grind (arith, nat_tests)

      pub here : new (p.class id) ≡ Some (suc (length all))
      here = with (p.class id) ∙ ap (λ t. if t then Some (suc (length all)) else block (p.class id)) (equal (p.class id))

      abbrev Cases : ℕ → ℕ → Type 0
      Cases c a = ((p.class id ≡ c) × (a ≡ suc (length all))) ⊎ (block c ≡ Some a)

      by_test : (c a : ℕ) (t : Bool) → nat_eq (p.class id) c ≡ t → (if t then Some (suc (length all)) else block c) ≡ Some a → Cases c a
      by_test c a true f i = inl (is_equal (p.class id) c f, sym (some_same (suc (length all)) a i))
      by_test c a false f i = inr i

      new_cases : (c a : ℕ) → new c ≡ Some a → Cases c a
      new_cases c a f = by_test c a (nat_eq (p.class id) c) refl (sym (with c) ∙ f)

      keeps_test : (c a : ℕ) (t : Bool) → nat_eq (p.class id) c ≡ t → block c ≡ Some a → (if t then Some (suc (length all)) else block c) ≡ Some a
      keeps_test c a true f i = let k = is_equal (p.class id) c f in let m = ap block k in absurd (cc (i, m, is_new))
      keeps_test c a false f i = i

      pub grows : Grows block new
      grows c a f = with c ∙ keeps_test c a (nat_eq (p.class id) c) refl f

      pub of_class : (i : ℕ) (f : Entry places n i) → p.class i ≡ p.class id → cell_of f.entry.holds ≡ ptr_cell type
      of_class i f k = ap cell_of (h.one_type i id f e k (λ z. not_null (sym k ∙ z))) ∙ holds

      abbrev After : ℕ → ℕ → Type 0
      After c a = IsBlock (all ++ more) (fresh ∷ named) c a

      new_block : (c a : ℕ) → p.class id ≡ c → a ≡ suc (length all) → 1 ≤ length (p.layouts type) → After c a
      new_block c a k f some = let l = length-append all more in let m = length_spots (behind p (p.owner (p.class id))) 0 (p.layouts type) in record {
        type = type;
        before = length all;
        address = f;
        high = omega (arith, l, m, f, some);
        is_named = inl (ap (λ (x : ℕ). record { address = x; type = type }) f);
        of_type = λ i o x. of_class i o (x ∙ sym k);
        cells = subst (λ x. Part (all ++ more) (length all) (spots (behind p (p.owner x)) 0 (p.layouts type))) k (part_last all more);
      }

      old_block : (c a : ℕ) → IsBlock all named c a → After c a
      old_block c a o = let l = length-append all more in let m = o.high in record {
        type = o.type;
        before = o.before;
        address = o.address;
        high = omega (arith, l, m);
        is_named = inr o.is_named;
        of_type = o.of_type;
        cells = part_more all more o.before (spots (behind p (p.owner c)) 0 (p.layouts o.type)) o.cells;
      }

      apart_cases : (c d a : ℕ) → Cases c a → Cases d a → c ≡ d
      apart_cases c d a (inl x) (inl y) = sym x.0 ∙ y.0
      apart_cases c d a (inl x) (inr y) = let m = (g.blocks d a y).high in let i = x.1 in absurd (omega (arith, m, i))
      apart_cases c d a (inr x) (inl y) = let m = (g.blocks c a x).high in let i = y.1 in absurd (omega (arith, m, i))
      apart_cases c d a (inr x) (inr y) = g.apart c d a x y

      pub shape_names : 1 ≤ length (p.layouts type) → Shape (all ++ more) (fresh ∷ named) new
      shape_names some = record {
        first = part_more all more 0 (spots (p.found 0) 0 params) g.first;
        blocks = λ c a f. elim (new_cases c a f) [ inl x ↦ new_block c a x.0 x.1 some | inr x ↦ old_block c a (g.blocks c a x) ];
        apart = λ c d a f i. apart_cases c d a (new_cases c a f) (new_cases d a i);
        fits = every_append new 0 all more (every_grows block new grows 0 all g.fits)
            (subst (λ k. EveryFits new k more) (let f : length all + 0 ≡ 0 + length all = omega arith in f)
            (every_behind block new (p.class id) (suc (length all)) type of_class (length all) here 0 (p.layouts type)
            (λ m c f. let i : 0 + m ≡ m = omega arith in ap (slice_get (p.layouts type)) i ∙ f)));
      }
