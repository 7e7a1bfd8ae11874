-- What an access takes and touches.
use Rattle.std.proofs.Common.{◌≡◌, ◌<◌, ◌≤◌, ◌+◌, inl, inr, ℕ, zero, suc, ℤ, pos, Bool, true, false, ◌||◌, List, [], ◌∷◌, ◌++◌, length, Option, IsSome, Some, slice_get, nat_eq, if◌then◌else◌, refl, sym, ap, subst, ◌∙◌, arith}
use Rattle.std.proofs.lemmas.Int.{ints}
use Rattle.std.proofs.lemmas.Bool.{eqb-true, eq-eqb}
use Rattle.cc_base.specs.declared.inputs.Input.{Input}
use Rattle.cc_base.specs.declared.outcomes.Outcome.{Outcome}
use Rattle.cc_base.specs.declared.outcomes.Outcome.TheVariants.{Zero, Object}
use Rattle.cc_base.specs.Forms as asked
use Rattle.cc_base.specs.Forms.{Atom, nothing, same, differ}
use Rattle.cc_base.specs.Paths.{In}
use Rattle.cc_base.specs.Places.{at_place}
use Rattle.cc_model.specs.Conditions.{atoms_of, same_outcome}
use Rattle.cc_model.specs.Core.{Cell, int_cell, ptr_cell}
use Rattle.cc_model.specs.FormOperations.{Forms, Laws}
use Rattle.cc_model.specs.Plain as base
use Rattle.cc_model.specs.Plain.{Value, at, block, has, rank}
use Rattle.cc_model.specs.Traced as on
use Rattle.cc_model.specs.Traced.{Data, Shadow, Touched, Choice}
use Rattle.cc_laws.proofs.Ranks.{bool_cases, true_or, or_right, rank_in, rank_out}
use Rattle.cc_laws.proofs.Exact.{outcome_tells}
use Rattle.cc_laws.proofs.Lockstep.{Typed, Points, Key, World, names, Lock, CellsAt, BlocksAt, PlaceAt}
use Rattle.run_laws.proofs.PastLaws.{FirstAt}

-- ---- the atoms of the next block

object_differs : (n m : ℕ) → n < m → same_outcome (Object n) (Object m) ≡ false
object_differs n m h = elim (outcome_tells (Object n) (Object m)) [
  | inl q ↦ absurd (let e = ap rank_of q.1 in omega (arith, e, h))
  | inr q ↦ q.0
]
  where
    rank_of : Outcome → ℕ
    rank_of (Object i) = i
    rank_of _ = 0

object_same : (m : ℕ) → same_outcome (Object m) (Object m) ≡ true
object_same m = elim (outcome_tells (Object m) (Object m)) [ inl q ↦ q.0 | inr q ↦ absurd (q.1 refl) ]

zero_differs : (m : ℕ) → same_outcome Zero (Object m) ≡ false
zero_differs m = elim (outcome_tells Zero (Object m)) [ inl q ↦ absurd (cc q.1) | inr q ↦ q.0 ]

atoms_not : (b : Bool) (m n : List Atom) → b ≡ false → (if b then m else n) ≡ n
atoms_not false m n e = refl
atoms_not true m n e = absurd (cc e)

atoms_yes : (b : Bool) (m n : List Atom) → b ≡ true → (if b then m else n) ≡ m
atoms_yes true m n e = refl
atoms_yes false m n e = absurd (cc e)

skip_letter : (b : Bool) (o : Outcome) (c : Choice) (cs ds : List Choice) → same_outcome c.outcome o ≡ false → atoms_of o (cs ++ ds) ≡ atoms_of o ds → atoms_of o ((if b then c ∷ cs else cs) ++ ds) ≡ atoms_of o ds
unfolding atoms_of
skip_letter true o c cs ds e h = atoms_not _ c.atoms (atoms_of o (cs ++ ds)) e ∙ h
skip_letter false o c cs ds e h = h

letters_end : (p t n m : ℕ) (bs : List Touched) (cs : List Choice) → n + length bs ≤ m → atoms_of (Object m) (on.letters p t n bs ++ cs) ≡ atoms_of (Object m) cs
unfolding on.letters
letters_end p t n m [] cs h = refl
letters_end p t n m (b ∷ bs) cs h = skip_letter (nat_eq t b.type) (Object m) (record { outcome = Object n; atoms = same (asked.at p) (asked.at b.first) ∷ [] }) (on.letters p t (suc n) bs) cs
    (object_differs n m (omega (arith, h))) (letters_end p t (suc n) m bs cs (omega (arith, h)))

pub access_end : (p t : ℕ) (bs : List Touched) → atoms_of (Object (length bs)) (on.access_choices p t bs) ≡ differ (asked.at p) nothing ∷ on.differs p t bs
unfolding on.access_choices atoms_of
access_end p t bs =
    atoms_not _ _ _ (zero_differs (length bs))
    ∙ letters_end p t 0 (length bs) bs (record { outcome = Object (length bs); atoms = differ (asked.at p) nothing ∷ on.differs p t bs } ∷ []) (omega arith)
    ∙ atoms_yes _ (differ (asked.at p) nothing ∷ on.differs p t bs) [] (object_same (length bs))

in_if : (b : Bool) (x a : Atom) (m : List Atom) → In x m → In x (if b then a ∷ m else m)
in_if true x a m i = inr i
in_if false x a m i = i

in_head : (b : Bool) (x a : Atom) (m : List Atom) → b ≡ true → x ≡ a → In x (if b then a ∷ m else m)
in_head true x a m e i = inl i
in_head false x a m e i = absurd (cc e)

pub in_differs : (p t r : ℕ) (bs : List Touched) → FirstAt r t bs → In (differ (asked.at p) (asked.at r)) (on.differs p t bs)
unfolding on.differs
in_differs p t r [] h = absurd h
in_differs p t r (b ∷ bs) (inl h) = in_head (nat_eq t b.type) _ _ _ (eq-eqb t b.type (sym h.1)) (ap (λ q. differ (asked.at p) (asked.at q)) (sym h.0))
in_differs p t r (b ∷ bs) (inr h) = in_if (nat_eq t b.type) _ _ _ (in_differs p t r bs h)

-- ---- first places

pub is_first_at : (p : ℕ) (bs : List Touched) → on.is_first p bs ≡ true → (t : ℕ) × FirstAt p t bs
unfolding on.is_first
is_first_at p [] e = absurd (cc e)
is_first_at p (b ∷ bs) e = elim (bool_cases (nat_eq p b.first)) [
  | inl q ↦ (b.type, inl (sym (eqb-true p b.first q), refl))
  | inr q ↦ let r = is_first_at p bs (sym (ap (λ t. t || on.is_first p bs) q) ∙ e) in (r.0, inr r.1)
]

pub rank_most : (a : ℕ) (l : List ℕ) → rank a l ≤ length l
rank_most a l = elim (bool_cases (has a l)) [
  | inl q ↦ let h = rank_in a l q in omega (arith, h)
  | inr q ↦ let h = rank_out a l q in omega (arith, h)
]

names_has : (ks : List Key) (k : Key) → In k ks → has k.name (names ks) ≡ true
unfolding has
names_has [] k i = absurd i
names_has (j ∷ ks) k (inl e) = true_or _ _ (eq-eqb k.name j.name (ap (λ (m : Key). m.name) e))
names_has (j ∷ ks) k (inr i) = or_right _ _ (names_has ks k i)

names_count : (ks : List Key) → length (names ks) ≡ length ks
names_count [] = refl
names_count (k ∷ ks) = ap suc (names_count ks)

some_pos : (n m : ℕ) → Some (pos n) ≡ Some (pos m) → n ≡ m
some_pos n m e = let z : pos n ≡ pos m = cc e in omega (arith, ints, z)

-- what a pointer that isn't NULL points to
pub points_block : (type : ℕ → ℕ) (named : ℕ → Type 0) (t n : ℕ) (o : Option ℤ) (v : Value) → Points type named t o v → o ≡ Some (pos (suc n)) → (v ≡ at (block (suc n)) 0) × (type (suc n) ≡ t)
points_block type named t n o v (inl i) e = absurd (let z = some_pos 0 (suc n) (sym i.0 ∙ e) in omega (arith, z))
points_block type named t n o v (inr i) e = let z : i.0 ≡ n = (let y = some_pos (suc i.0) (suc n) (sym i.1 ∙ e) in omega (arith, y)) in (i.2 ∙ ap (λ m. at (block (suc m)) 0) z, ap (λ m. type (suc m)) (sym z) ∙ i.3)

block_of : (n c m e : ℕ) → at (block n) c ≡ at (block m) e → n ≡ m
block_of n c m e q = ap name_of q
  where
    name_of : Value → ℕ
    name_of (at (block a) c) = a
    name_of _ = 0

pub block_value : (type : ℕ → ℕ) (named : ℕ → Type 0) (t n : ℕ) (o : Option ℤ) → Points type named t o (at (block (suc n)) 0) → o ≡ Some (pos (suc n))
block_value type named t n o (inl i) = absurd (cc i.1)
block_value type named t n o (inr i) = i.1 ∙ ap (λ m. Some (pos m)) (sym (block_of (suc n) 0 (suc i.0) 0 i.2))

module _ (f : Forms) (laws : Laws f) (layout : ℕ → List Cell) (params : List Cell) (globals : List Value) (b : ℤ) (u : Input) (d : base.Data) (ty : Typed layout params globals b u d) where
  abbrev Lk : World → Data → Type 0
  Lk w x = Lock layout params globals b u u d d ty ty w x x

  abbrev At : World → ℕ → ℕ → Value → Type 0
  At w p t v = PlaceAt layout params globals b u u d d ty ty w p t v v

  abbrev Cells : World → List Shadow → List Value → List Value → Type 0
  Cells w ss xs ys = CellsAt layout params globals b u u d d ty ty w ss xs ys

  abbrev Blocks : World → List Key → List Touched → (ℕ → List Value) → (ℕ → List Value) → Type 0
  Blocks w ks l bx by = BlocksAt layout params globals b u u d d ty ty w ks l bx by

  blocks_count : (w : World) (ks : List Key) (l : List Touched) (bx by : ℕ → List Value) → Blocks w ks l bx by → length l ≡ length ks
  blocks_count w [] [] bx by i = refl
  blocks_count w (k ∷ ks) (c ∷ l) bx by i = ap suc (blocks_count w ks l bx by i.3)
  blocks_count w [] (c ∷ l) bx by i = absurd i
  blocks_count w (k ∷ ks) [] bx by i = absurd i

  pub touched_count : (w : World) (x : Data) → Lk w x → length x.shadows.touched ≡ length x.plain.touched
  touched_count w x l = blocks_count w w.keys x.shadows.touched x.plain.blocks x.plain.blocks l.blocks ∙ sym (names_count w.keys) ∙ ap length (sym l.touched_g)

  key_of : (w : World) (ks : List Key) (l : List Touched) (bx by : ℕ → List Value) (q t : ℕ) → Blocks w ks l bx by → FirstAt q t l → (k : Key) × In k ks × (k.first ≡ q) × (k.type ≡ t)
  key_of w (k ∷ ks) (c ∷ l) bx by q t i (inl h) = (k, inl refl, sym i.0 ∙ h.0, sym i.1 ∙ h.1)
  key_of w (k ∷ ks) (c ∷ l) bx by q t i (inr h) = let r = key_of w ks l bx by q t i.3 h in (r.0, inr r.1, r.2, r.3)
  key_of w [] [] bx by q t i h = absurd h
  key_of w [] (c ∷ l) bx by q t i h = absurd i
  key_of w (k ∷ ks) [] bx by q t i h = absurd i

  -- through a first place an access reaches a block that was touched
  pub first_reached : (w : World) (x : Data) (p t s n : ℕ) (v : Value) → Lk w x → At w p t v → v ≡ at (block (suc n)) 0 → FirstAt p s x.shadows.touched → rank (suc n) x.plain.touched < length x.shadows.touched
  first_reached w x p t s n v l h e i =
      let k = key_of w w.keys x.shadows.touched x.plain.blocks x.plain.blocks p s l.blocks i in
      let g = (l.firsts k.0 k.1).here in
      let a = block_value ty.type ty.named t n _ (subst (Points ty.type ty.named t (at_place w.places u b p)) e h.here) in
      let y = points_block ty.type ty.named (k.0).type n _ _ g (ap (at_place w.places u b) k.2 ∙ a) in
      let c = block_of (k.0).name 0 (suc n) 0 y.0 in
      let r = rank_in (suc n) x.plain.touched (ap (has (suc n)) l.touched_g ∙ subst (λ m. has m (names w.keys) ≡ true) c (names_has w.keys k.0 k.1)) in
      let z = touched_count w x l in omega (arith, r, z)

  -- ---- the cells of a block that is touched

  last_cells : (w : World) (ks : List Key) (l : List Touched) (c : Touched) (bx by : ℕ → List Value) → Blocks w ks (l ++ c ∷ []) bx by → (xs : List Value) × (ys : List Value) × Cells w c.shadows xs ys
  last_cells w [] [] c bx by i = absurd i
  last_cells w (k ∷ ks) [] c bx by i = (bx k.name, by k.other, i.2)
  last_cells w [] (e ∷ l) c bx by i = absurd i
  last_cells w (k ∷ ks) (e ∷ l) c bx by i = last_cells w ks l c bx by i.3

  -- a cell's place has a value
  abbrev pub HasValue : World → ℕ → Cell → Type 0
  HasValue w n int_cell = IsSome (at_place w.places u b n)
  HasValue w n (ptr_cell t) = (v : Value) × Points ty.type ty.named t (at_place w.places u b n) v

  cell_value : (w : World) (n : ℕ) (k : Cell) (cs : List Cell) (xs ys : List Value) → Cells w (on.cell_shadows f n (k ∷ cs)) xs ys → HasValue w n k × ((zs : List Value) × (ws : List Value) × Cells w (on.cell_shadows f (suc n) cs) zs ws)
  unfolding on.cell_shadows
  cell_value w n int_cell cs (x ∷ xs) (y ∷ ys) i = (((i.0).known n (subst (λ l. In n l) (sym (laws.of_places n)) (inl refl))).here, (xs, ys, i.1))
  cell_value w n (ptr_cell t) cs (x ∷ xs) (y ∷ ys) i = ((x, (i.0).here), (xs, ys, i.1))
  cell_value w n int_cell cs [] ys i = absurd i
  cell_value w n int_cell cs (x ∷ xs) [] i = absurd i
  cell_value w n (ptr_cell t) cs [] ys i = absurd i
  cell_value w n (ptr_cell t) cs (x ∷ xs) [] i = absurd i

  pub cells_valued : (w : World) (n : ℕ) (cs : List Cell) (xs ys : List Value) → Cells w (on.cell_shadows f n cs) xs ys → (j : ℕ) (k : Cell) → slice_get cs j ≡ Some k → HasValue w (n + j) k
  cells_valued w n [] xs ys i j k e = absurd (cc e)
  cells_valued w n (c ∷ cs) xs ys i zero k e =
      let r = cell_value w n c cs xs ys i in
      subst (λ m. HasValue w m k) (let z : n ≡ n + 0 = omega arith in z) (subst (HasValue w n) (let z : c ≡ k = cc e in z) r.0)
  cells_valued w n (c ∷ cs) xs ys i (suc j) k e =
      let r = (cell_value w n c cs xs ys i).1 in
      subst (λ m. HasValue w m k) (let z : suc n + j ≡ n + suc j = omega arith in z) (cells_valued w (suc n) cs r.0 r.1 r.2 j k e)

  -- the places of the cells of the block that was touched last
  pub block_valued : (w : World) (x : Data) (l : List Touched) (c : Touched) (n : ℕ) (cs : List Cell) → Lk w x → x.shadows.touched ≡ l ++ c ∷ [] → c.shadows ≡ on.cell_shadows f n cs → (j : ℕ) (k : Cell) → slice_get cs j ≡ Some k → HasValue w (n + j) k
  block_valued w x l c n cs h e g =
      let r = last_cells w w.keys l c x.plain.blocks x.plain.blocks (subst (λ z. Blocks w w.keys z x.plain.blocks x.plain.blocks) e h.blocks) in
      cells_valued w n cs r.0 r.1 (subst (λ z. Cells w z r.0 r.1) g r.2)
