-- The places of a run beside its own input and the atoms that it took, as both grow.
use Rattle.std.proofs.Common.{◌≡◌, ◌≢◌, ◌<◌, ◌≤◌, ◌+◌, ◌⊎◌, inl, inr, ℕ, zero, suc, ℤ, List, [], ◌∷◌, ◌++◌, length, map, IsSome, Some, slice_get, refl, sym, ap, subst, ◌∙◌, arith}
use Rattle.std.proofs.lemmas.Option.{same_Some}
use Rattle.cc_base.specs.declared.cells.CellTy.{CellTy}
use Rattle.cc_base.specs.declared.cells.CellTy.TheVariants as cell
use Rattle.cc_base.specs.declared.cells.TyId.{TyId}
use Rattle.cc_base.specs.declared.inputs.Input.{Input}
use Rattle.cc_base.specs.Forms as asked
use Rattle.cc_base.specs.Forms.{Form, Side, nothing, Atom, at_most_zero, is_zero, not_zero, same, differ}
use Rattle.cc_base.specs.Holds.{places_of_side, places_of_atom, Meets}
use Rattle.cc_base.specs.Paths.{In}
use Rattle.cc_base.specs.Places.{Place, Placed, arg, field, stream, ParentsFirst, at_place}
use Rattle.cc_model.specs.Core.{Cell}
use Rattle.cc_model.specs.Plain.{Value}
use Rattle.cc_model.specs.Traced.{Touched, cell_ty, field_places}
use Rattle.sym_expr.proofs.PlaceLaws.{at_place-append}
use Rattle.sym_expr.proofs.AtomLaws.{Holds-same, Meets-append}
use Rattle.sym_run.specs.Placing.{IsNumberAt, IsPointerTo, NamesForm, NamesSide, OfOneType, NamesAtom, NameAtoms}
use Rattle.cc_laws.proofs.Lockstep.{Points}

-- ---- lists that go on

pub get_front : {A : Type 0} (l m : List A) (n : ℕ) (x : A) → slice_get l n ≡ Some x → slice_get (l ++ m) n ≡ Some x
get_front [] m n x e = absurd (cc e)
get_front (y ∷ l) m zero x e = e
get_front (y ∷ l) m (suc n) x e = get_front l m n x e

pub get_below : {A : Type 0} (l : List A) (n : ℕ) (x : A) → slice_get l n ≡ Some x → n < length l
get_below [] n x e = absurd (cc e)
get_below (y ∷ l) zero x e = omega arith
get_below (y ∷ l) (suc n) x e = let h = get_below l n x e in omega (arith, h)

pub get_map : {A B : Type 0} (f : A → B) (l : List A) (n : ℕ) (x : A) → slice_get l n ≡ Some x → slice_get (map f l) n ≡ Some (f x)
get_map f [] n x e = absurd (cc e)
get_map f (y ∷ l) zero x e = ap (λ z. Some (f z)) (same_Some y x e)
get_map f (y ∷ l) (suc n) x e = get_map f l n x e

-- an item of both lists is one of the first, or one of the second
pub get_cases : {A : Type 0} (l m : List A) (n : ℕ) (x : A) → slice_get (l ++ m) n ≡ Some x → (slice_get l n ≡ Some x) ⊎ ((j : ℕ) × (n ≡ length l + j) × (slice_get m j ≡ Some x))
get_cases [] m n x e = inr (n, (let z : n ≡ 0 + n = omega arith in z), e)
get_cases (y ∷ l) m zero x e = inl e
get_cases (y ∷ l) m (suc n) x e = elim (get_cases l m n x e) [
  | inl h ↦ inl h
  | inr h ↦ let i = h.1 in inr (h.0, omega (arith, i), h.2)
]

pub in_front : {A : Type 0} (x : A) (l m : List A) → In x l → In x (l ++ m)
in_front x [] m i = absurd i
in_front x (y ∷ l) m (inl e) = inl e
in_front x (y ∷ l) m (inr i) = inr (in_front x l m i)

pub in_back : {A : Type 0} (x : A) (l m : List A) → In x m → In x (l ++ m)
in_back x [] m i = i
in_back x (y ∷ l) m i = inr (in_back x l m i)

in_parts : {A : Type 0} (x : A) (l m : List A) → In x (l ++ m) → In x l ⊎ In x m
in_parts x [] m i = inr i
in_parts x (y ∷ l) m (inl e) = inl (inl e)
in_parts x (y ∷ l) m (inr i) = elim (in_parts x l m i) [ inl j ↦ inl (inr j) | inr j ↦ inr j ]

-- ---- atoms that name places

number_later : (l m : List Placed) (p : ℕ) → IsNumberAt l p → IsNumberAt (l ++ m) p
number_later l m p h = (h.0, get_front l m p _ h.1)

pub pointer_later : (l m : List Placed) (p t : ℕ) → IsPointerTo l p t → IsPointerTo (l ++ m) p t
pointer_later l m p t h = (h.0, get_front l m p _ h.1)

form_later : (l m : List Placed) (g : Form) → NamesForm l g → NamesForm (l ++ m) g
form_later l m g h p i = number_later l m p (h p i)

side_later : (l m : List Placed) (a : Side) → NamesSide l a → NamesSide (l ++ m) a
side_later l m nothing h = tt
side_later l m (asked.at p) h = (h.0, h.1, get_front l m p _ h.2)

one_later : (l m : List Placed) (a c : Side) → NamesSide l a → NamesSide l c → OfOneType l a c → OfOneType (l ++ m) a c
one_later l m nothing c h g k = tt
one_later l m (asked.at p) nothing h g k = tt
one_later l m (asked.at p) (asked.at q) h g k = λ e f ep eq.
    ap (λ (x : Placed). x.holds) (same_Some e _ (sym ep ∙ get_front l m p _ h.2))
    ∙ k _ _ h.2 g.2
    ∙ ap (λ (x : Placed). x.holds) (same_Some _ f (sym (get_front l m q _ g.2) ∙ eq))

atom_later : (l m : List Placed) (a : Atom) → NamesAtom l a → NamesAtom (l ++ m) a
atom_later l m (at_most_zero g) h = form_later l m g h
atom_later l m (is_zero g) h = form_later l m g h
atom_later l m (not_zero g) h = form_later l m g h
atom_later l m (same a c) h = (side_later l m a h.0, side_later l m c h.1, one_later l m a c h.0 h.1 h.2)
atom_later l m (differ a c) h = (side_later l m a h.0, side_later l m c h.1, one_later l m a c h.0 h.1 h.2)

pub names_later : (l m : List Placed) (c : List Atom) → NameAtoms l c → NameAtoms (l ++ m) c
names_later l m [] h = tt
names_later l m (a ∷ c) h = (atom_later l m a h.0, names_later l m c h.1)

pub names_append : (l : List Placed) (c m : List Atom) → NameAtoms l c → NameAtoms l m → NameAtoms l (c ++ m)
names_append l [] m h g = g
names_append l (a ∷ c) m h g = (h.0, names_append l c m h.1 g)

side_below : (l : List Placed) (a : Side) → NamesSide l a → (p : ℕ) → In p (places_of_side a) → p < length l
side_below l nothing h p i = absurd i
side_below l (asked.at q) h p (inl e) = subst (λ n. n < length l) (sym e) (get_below l q _ h.2)
side_below l (asked.at q) h p (inr i) = absurd i

sides_below : (l : List Placed) (a c : Side) → NamesSide l a → NamesSide l c → (p : ℕ) → In p (places_of_side a ++ places_of_side c) → p < length l
sides_below l a c h g p i = elim (in_parts p (places_of_side a) (places_of_side c) i) [ inl j ↦ side_below l a h p j | inr j ↦ side_below l c g p j ]

atom_below : (l : List Placed) (a : Atom) → NamesAtom l a → (p : ℕ) → In p (places_of_atom a) → p < length l
atom_below l (at_most_zero g) h p i = get_below l p _ (h p i).1
atom_below l (is_zero g) h p i = get_below l p _ (h p i).1
atom_below l (not_zero g) h p i = get_below l p _ (h p i).1
atom_below l (same a c) h p i = sides_below l a c h.0 h.1 p i
atom_below l (differ a c) h p i = sides_below l a c h.0 h.1 p i

-- what atoms of the first places ask holds where more places come
pub meets_later : (l q : List Placed) (u : Input) (b : ℤ) → ParentsFirst l → (m : List Atom) → NameAtoms l m → Meets (at_place l u b) m → Meets (at_place (l ++ q) u b) m
meets_later l q u b h [] k s = tt
meets_later l q u b h (a ∷ m) k s = (Holds-same (at_place l u b) (at_place (l ++ q) u b) a (λ p i. sym (at_place-append l q u b p h (atom_below l a k.0 p i))) s.0, meets_later l q u b h m k.1 s.1)

-- ---- the first places of touched blocks

-- the place q is that by which a block of type t was first touched
abbrev pub FirstAt : ℕ → ℕ → List Touched → Type 0
FirstAt q t [] = ⊥
FirstAt q t (c ∷ bs) = ((c.first ≡ q) × (c.type ≡ t)) ⊎ FirstAt q t bs

pub first_front : (q t : ℕ) (bs : List Touched) (c : Touched) → FirstAt q t bs → FirstAt q t (bs ++ c ∷ [])
first_front q t [] c h = absurd h
first_front q t (d ∷ bs) c (inl h) = inl h
first_front q t (d ∷ bs) c (inr h) = inr (first_front q t bs c h)

pub first_last : (bs : List Touched) (c : Touched) → FirstAt c.first c.type (bs ++ c ∷ [])
first_last [] c = inl (refl, refl)
first_last (d ∷ bs) c = inr (first_last bs c)

pub first_cases : (q t : ℕ) (bs : List Touched) (c : Touched) → FirstAt q t (bs ++ c ∷ []) → FirstAt q t bs ⊎ ((c.first ≡ q) × (c.type ≡ t))
first_cases q t [] c (inl h) = inr h
first_cases q t [] c (inr h) = absurd h
first_cases q t (d ∷ bs) c (inl h) = inl (inl h)
first_cases q t (d ∷ bs) c (inr h) = elim (first_cases q t bs c h) [ inl i ↦ inl (inr i) | inr i ↦ inr i ]

-- a pointer to the type t stands at this place
abbrev pub PointsAt : List Placed → ℕ → ℕ → Type 0
PointsAt l p t = (q : Place) × (slice_get l p ≡ Some (record { place = q; holds = cell.Ptr (record { 0 = t }) }))

points_later : (l m : List Placed) (p t : ℕ) → PointsAt l p t → PointsAt (l ++ m) p t
points_later l m p t h = (h.0, get_front l m p _ h.1)

-- ---- what holds so far

abbrev pub Counted : ℕ → Place → Type 0
Counted n (arg i) = Unit {0}
Counted n (field q c) = Unit {0}
Counted n (stream i) = i < n

counted_later : (n m : ℕ) (q : Place) → n ≤ m → Counted n q → Counted m q
counted_later n m (arg i) h k = tt
counted_later n m (field q c) h k = tt
counted_later n m (stream i) h k = omega (arith, h, k)

abbrev pub OfFirst : List Touched → Place → Type 0
OfFirst bs (arg i) = Unit {0}
OfFirst bs (field q c) = (t : ℕ) × FirstAt q t bs
OfFirst bs (stream i) = Unit {0}

of_first_later : (bs ds : List Touched) (q : Place) → ((p t : ℕ) → FirstAt p t bs → FirstAt p t ds) → OfFirst bs q → OfFirst ds q
of_first_later bs ds (arg i) h k = tt
of_first_later bs ds (field q c) h k = (k.0, h q k.0 k.1)
of_first_later bs ds (stream i) h k = tt

module _ (params : List Cell) (layouts : ℕ → List Cell) where
  -- what stands at a place is what its cell holds
  abbrev pub StandsAt : List Placed → Place → CellTy → Type 0
  StandsAt l (arg i) ty = slice_get (map cell_ty params) i ≡ Some ty
  StandsAt l (field q c) ty = (w : Placed) × (t : TyId) × (slice_get l q ≡ Some w) × (w.holds ≡ cell.Ptr t) × (slice_get (map cell_ty (layouts t.0)) c ≡ Some ty)
  StandsAt l (stream i) ty = ty ≡ cell.Int

  stands_later : (l m : List Placed) (q : Place) (ty : CellTy) → StandsAt l q ty → StandsAt (l ++ m) q ty
  stands_later l m (arg i) ty h = h
  stands_later l m (field q c) ty h = (h.0, h.1, get_front l m q h.0 h.2, h.3, h.4)
  stands_later l m (stream i) ty h = h

  module _ (u : Input) (b : ℤ) (type : ℕ → ℕ) (named : ℕ → Type 0) where
    -- a number, or a pointer to this type, has a value
    abbrev pub ValuedAt : List Placed → ℕ → CellTy → Type 0
    ValuedAt l id cell.Int = IsSome (at_place l u b id)
    ValuedAt l id (cell.Ptr t) = (v : Value) × Points type named t.0 (at_place l u b id) v

    valued_later : (l m : List Placed) (id : ℕ) (ty : CellTy) → ParentsFirst l → id < length l → ValuedAt l id ty → ValuedAt (l ++ m) id ty
    valued_later l m id cell.Int h k v = subst IsSome (sym (at_place-append l m u b id h k)) v
    valued_later l m id (cell.Ptr t) h k v = (v.0, subst (λ o. Points type named t.0 o v.0) (sym (at_place-append l m u b id h k)) v.1)

    -- of places, touched blocks, numbers taken of the stream and atoms taken
    pub record Past (l : List Placed) (bs : List Touched) (n : ℕ) (c : List Atom) : Type 0 where
      pub parents : ParentsFirst l
      pub meets : Meets (at_place l u b) c
      pub names : NameAtoms l c
      pub valued : (id : ℕ) (e : Placed) → slice_get l id ≡ Some e → ValuedAt l id e.holds
      pub counted : (id : ℕ) (e : Placed) → slice_get l id ≡ Some e → Counted n e.place
      pub firsts : (id : ℕ) (e : Placed) → slice_get l id ≡ Some e → OfFirst bs e.place
      pub right : (id : ℕ) (e : Placed) → slice_get l id ≡ Some e → StandsAt l e.place e.holds
      pub different : (i j : ℕ) (e g : Placed) → slice_get l i ≡ Some e → slice_get l j ≡ Some g → e.place ≡ g.place → i ≡ j
      pub pointed : (q t : ℕ) → FirstAt q t bs → PointsAt l q t
      pub touched : (q t : ℕ) → FirstAt q t bs → In (differ (asked.at q) nothing) c
      pub apart : (q r t : ℕ) → FirstAt q t bs → FirstAt r t bs → q ≢ r → In (differ (asked.at q) (asked.at r)) c ⊎ In (differ (asked.at r) (asked.at q)) c

    -- more atoms are taken
    pub past_atoms : (l : List Placed) (bs : List Touched) (n : ℕ) (c m : List Atom) → Meets (at_place l u b) m → NameAtoms l m → Past l bs n c → Past l bs n (c ++ m)
    past_atoms l bs n c m h g k = record {
      parents = k.parents;
      meets = Meets-append (at_place l u b) c m k.meets h;
      names = names_append l c m k.names g;
      valued = k.valued;
      counted = k.counted;
      firsts = k.firsts;
      right = k.right;
      different = k.different;
      pointed = k.pointed;
      touched = λ q t i. in_front _ c m (k.touched q t i);
      apart = λ q r t i j ne. elim (k.apart q r t i j ne) [ inl a ↦ inl (in_front _ c m a) | inr a ↦ inr (in_front _ c m a) ];
    }

    -- the touched blocks' first places and types stay
    pub past_same : (l : List Placed) (bs ds : List Touched) (n : ℕ) (c : List Atom) → ((q t : ℕ) → FirstAt q t bs → FirstAt q t ds) → ((q t : ℕ) → FirstAt q t ds → FirstAt q t bs) → Past l bs n c → Past l ds n c
    past_same l bs ds n c h g k = record {
      parents = k.parents;
      meets = k.meets;
      names = k.names;
      valued = k.valued;
      counted = k.counted;
      firsts = λ id e i. of_first_later bs ds e.place h (k.firsts id e i);
      right = k.right;
      different = k.different;
      pointed = λ q t i. k.pointed q t (g q t i);
      touched = λ q t i. k.touched q t (g q t i);
      apart = λ q r t i j ne. k.apart q r t (g q t i) (g r t j) ne;
    }

    -- what is due of new places, and of the touched blocks with them
    pub record Due (l m : List Placed) (bs ds : List Touched) (n n' : ℕ) (c : List Atom) : Type 0 where
      pub parents : ParentsFirst (l ++ m)
      pub count : n ≤ n'
      pub keeps : (q t : ℕ) → FirstAt q t bs → FirstAt q t ds
      pub valued : (j : ℕ) (e : Placed) → slice_get m j ≡ Some e → ValuedAt (l ++ m) (length l + j) e.holds
      pub counted : (j : ℕ) (e : Placed) → slice_get m j ≡ Some e → Counted n' e.place
      pub firsts : (j : ℕ) (e : Placed) → slice_get m j ≡ Some e → OfFirst ds e.place
      pub right : (j : ℕ) (e : Placed) → slice_get m j ≡ Some e → StandsAt (l ++ m) e.place e.holds
      pub others : (i j : ℕ) (e g : Placed) → slice_get l i ≡ Some e → slice_get m j ≡ Some g → e.place ≡ g.place → ⊥
      pub different : (i j : ℕ) (e g : Placed) → slice_get m i ≡ Some e → slice_get m j ≡ Some g → e.place ≡ g.place → i ≡ j
      pub pointed : (q t : ℕ) → FirstAt q t ds → PointsAt (l ++ m) q t
      pub touched : (q t : ℕ) → FirstAt q t ds → In (differ (asked.at q) nothing) c
      pub apart : (q r t : ℕ) → FirstAt q t ds → FirstAt r t ds → q ≢ r → In (differ (asked.at q) (asked.at r)) c ⊎ In (differ (asked.at r) (asked.at q)) c

    past_more : (l m : List Placed) (bs ds : List Touched) (n n' : ℕ) (c : List Atom) → Due l m bs ds n n' c → Past l bs n c → Past (l ++ m) ds n' c
    past_more l m bs ds n n' c d k = record {
      parents = d.parents;
      meets = meets_later l m u b k.parents c k.names k.meets;
      names = names_later l m c k.names;
      valued = λ id e i. elim (get_cases l m id e i) [
        | inl h ↦ valued_later l m id e.holds k.parents (get_below l id e h) (k.valued id e h)
        | inr h ↦ subst (λ x. ValuedAt (l ++ m) x e.holds) (sym h.1) (d.valued h.0 e h.2)
      ];
      counted = λ id e i. elim (get_cases l m id e i) [
        | inl h ↦ counted_later n n' e.place d.count (k.counted id e h)
        | inr h ↦ d.counted h.0 e h.2
      ];
      firsts = λ id e i. elim (get_cases l m id e i) [
        | inl h ↦ of_first_later bs ds e.place d.keeps (k.firsts id e h)
        | inr h ↦ d.firsts h.0 e h.2
      ];
      right = λ id e i. elim (get_cases l m id e i) [
        | inl h ↦ stands_later l m e.place e.holds (k.right id e h)
        | inr h ↦ d.right h.0 e h.2
      ];
      different = λ i j e g x y same. elim (get_cases l m i e x) [
        | inl h ↦ elim (get_cases l m j g y) [
          | inl h' ↦ k.different i j e g h h' same
          | inr h' ↦ absurd (d.others i h'.0 e g h h'.2 same)
        ]
        | inr h ↦ elim (get_cases l m j g y) [
          | inl h' ↦ absurd (d.others j h.0 g e h' h.2 (sym same))
          | inr h' ↦ h.1 ∙ ap (λ z. length l + z) (d.different h.0 h'.0 e g h.2 h'.2 same) ∙ sym h'.1
        ]
      ];
      pointed = d.pointed;
      touched = d.touched;
      apart = d.apart;
    }

    -- ---- a number of the stream

    one_item : {A : Type 0} (x y : A) (j : ℕ) → slice_get (x ∷ []) j ≡ Some y → (j ≡ 0) × (x ≡ y)
    one_item x y zero e = (refl, same_Some x y e)
    one_item x y (suc j) e = absurd (cc e)

    pub past_stream : (l : List Placed) (bs : List Touched) (n : ℕ) (c : List Atom) → ParentsFirst (l ++ record { place = stream n; holds = cell.Int } ∷ []) → IsSome (at_place (l ++ record { place = stream n; holds = cell.Int } ∷ []) u b (length l))
        → Past l bs n c → Past (l ++ record { place = stream n; holds = cell.Int } ∷ []) bs (suc n) c
    past_stream l bs n c h v k =
        let x : Placed = record { place = stream n; holds = cell.Int } in
        past_more l (x ∷ []) bs bs n (suc n) c (record {
          parents = h;
          count = omega arith;
          keeps = λ q t i. i;
          valued = λ j e i. (let g = one_item x e j i in subst (λ (y : Placed). ValuedAt (l ++ x ∷ []) (length l + j) y.holds) g.1 (subst (λ z. IsSome (at_place (l ++ x ∷ []) u b z)) (let y : length l ≡ length l + j = (let w = g.0 in omega (arith, w)) in y) v));
          counted = λ j e i. subst (λ (y : Placed). Counted (suc n) y.place) (one_item x e j i).1 (let z : n < suc n = omega arith in z);
          firsts = λ j e i. subst (λ (y : Placed). OfFirst bs y.place) (one_item x e j i).1 tt;
          right = λ j e i. subst (λ (y : Placed). StandsAt (l ++ x ∷ []) y.place y.holds) (one_item x e j i).1 refl;
          others = λ i j e g y z same. (let w = subst (λ (q : Place). Counted n q) (same ∙ sym (ap (λ (m : Placed). m.place) (one_item x g j z).1)) (k.counted i e y) in omega (arith, w));
          different = λ i j e g y z same. (one_item x e i y).0 ∙ sym (one_item x g j z).0;
          pointed = λ q t i. points_later l (x ∷ []) q t (k.pointed q t i);
          touched = k.touched;
          apart = k.apart;
        }) k

    -- ---- a block that is touched

    fields_get : (p : ℕ) (cs : List Cell) (c j : ℕ) (e : Placed) → slice_get (field_places p c cs) j ≡ Some e → (k : Cell) × (slice_get cs j ≡ Some k) × (e.place ≡ field p (c + j)) × (e.holds ≡ cell_ty k)
    unfolding field_places
    fields_get p [] c j e i = absurd (cc i)
    fields_get p (k ∷ cs) c zero e i =
        let x : Placed = record { place = field p c; holds = cell_ty k } in
        let g : x ≡ e = same_Some x e i in
        (k, refl, sym (ap (λ (m : Placed). m.place) g) ∙ ap (field p) (let z : c ≡ c + 0 = omega arith in z), sym (ap (λ (m : Placed). m.holds) g))
    fields_get p (k ∷ cs) c (suc j) e i = let r = fields_get p cs (suc c) j e i in (r.0, r.1, r.2 ∙ ap (field p) (let z : suc c + j ≡ c + suc j = omega arith in z), r.3)

    field_cell : (p c q d : ℕ) → field p c ≡ field q d → (p ≡ q) × (c ≡ d)
    field_cell p c q d e = (ap parent_of e, ap cell_of e)
      where
        parent_of : Place → ℕ
        parent_of (field q c) = q
        parent_of _ = 0

        cell_of : Place → ℕ
        cell_of (field q c) = c
        cell_of _ = 0

    pub past_touch : (l : List Placed) (bs : List Touched) (n : ℕ) (c : List Atom) (p t : ℕ) (x : Touched) → x.first ≡ p → x.type ≡ t
        → ParentsFirst (l ++ field_places p 0 (layouts t)) → PointsAt l p t → ((t' : ℕ) → FirstAt p t' bs → ⊥)
        → In (differ (asked.at p) nothing) c → ((r : ℕ) → FirstAt r t bs → In (differ (asked.at p) (asked.at r)) c)
        → ((j : ℕ) (k : Cell) → slice_get (layouts t) j ≡ Some k → ValuedAt (l ++ field_places p 0 (layouts t)) (length l + j) (cell_ty k))
        → Past l bs n c → Past (l ++ field_places p 0 (layouts t)) (bs ++ x ∷ []) n c
    past_touch l bs n c p t x xp xt h pt fresh due ne v k =
        let m : List Placed = field_places p 0 (layouts t) in
        past_more l m bs (bs ++ x ∷ []) n n c (record {
          parents = h;
          count = omega arith;
          keeps = λ q s i. first_front q s bs x i;
          valued = λ j e i. (let g = fields_get p (layouts t) 0 j e i in subst (λ ty. ValuedAt (l ++ m) (length l + j) ty) (sym g.3) (v j g.0 g.1));
          counted = λ j e i. (let g = fields_get p (layouts t) 0 j e i in subst (Counted n) (sym g.2) tt);
          firsts = λ j e i. (let g = fields_get p (layouts t) 0 j e i in subst (OfFirst (bs ++ x ∷ [])) (sym g.2) (t, subst (λ q. FirstAt q t (bs ++ x ∷ [])) xp (subst (λ s. FirstAt x.first s (bs ++ x ∷ [])) xt (first_last bs x))));
          right = λ j e i. (let g = fields_get p (layouts t) 0 j e i in
              subst (λ q. StandsAt (l ++ m) q e.holds) (sym g.2) (
                record { place = pt.0; holds = cell.Ptr (record { 0 = t }) },
                record { 0 = t },
                get_front l m p _ pt.1,
                refl,
                ap (slice_get (map cell_ty (layouts t))) (let z : 0 + j ≡ j = omega arith in z) ∙ get_map cell_ty (layouts t) j g.0 g.1 ∙ ap Some (sym g.3),
              ));
          others = λ i j e g y z same. (let w = fields_get p (layouts t) 0 j g z in let f = subst (OfFirst bs) (same ∙ w.2) (k.firsts i e y) in fresh f.0 f.1);
          different = λ i j e g y z same. (let w = fields_get p (layouts t) 0 i e y in let w' = fields_get p (layouts t) 0 j g z in let r = (field_cell p (0 + i) p (0 + j) (sym w.2 ∙ same ∙ w'.2)).1 in omega (arith, r));
          pointed = λ q s i. elim (first_cases q s bs x i) [
            | inl a ↦ points_later l m q s (k.pointed q s a)
            | inr a ↦ subst (λ y. PointsAt (l ++ m) y s) (sym xp ∙ a.0) (subst (λ y. PointsAt (l ++ m) p y) (sym xt ∙ a.1) (points_later l m p t pt))
          ];
          touched = λ q s i. elim (first_cases q s bs x i) [
            | inl a ↦ k.touched q s a
            | inr a ↦ subst (λ y. In (differ (asked.at y) nothing) c) (sym xp ∙ a.0) due
          ];
          apart = λ q r s i j nq. elim (first_cases q s bs x i) [
            | inl a ↦ elim (first_cases r s bs x j) [
              | inl a' ↦ k.apart q r s a a' nq
              | inr a' ↦ inr (subst (λ y. In (differ (asked.at y) (asked.at q)) c) (sym xp ∙ a'.0) (ne q (subst (λ y. FirstAt q y bs) (sym a'.1 ∙ xt) a)))
            ]
            | inr a ↦ elim (first_cases r s bs x j) [
              | inl a' ↦ inl (subst (λ y. In (differ (asked.at y) (asked.at r)) c) (sym xp ∙ a.0) (ne r (subst (λ y. FirstAt r y bs) (sym a.1 ∙ xt) a')))
              | inr a' ↦ absurd (nq (sym a.0 ∙ a'.0))
            ]
          ];
        }) k
