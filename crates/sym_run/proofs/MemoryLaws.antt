-- What a run's memory holds, and what a load and a store do to it.
use Rattle.std.proofs.Common.{◌≡◌, ℕ, zero, suc, ◌<◌, ◌≤◌, inl, inr, ℤ, pos, negsuc, ◌≤ℤ◌, nat_abs, Bool, true, false, nat_eq, List, [], ◌∷◌, ◌++◌, length, length-append, map, Option, Some, None, IsSome, IfSome, refl, sym, ap, ap₂, ◌∙◌, subst, arith, get_or, slice_get, if◌then◌else◌}
use Rattle.std.proofs.Math.ListN.{set}
use Rattle.std.specs.Ordering.{int_eq}
use Rattle.std.proofs.lemmas.Bool.Decides.{Decides-int_eq, eqb_tells}
use Rattle.std.proofs.lemmas.Option.{same_Some}
use Rattle.std.proofs.lemmas.List.{map-set, length-map}
use Rattle.cc_laws.proofs.Members.{in_left, not_same, is_same}
use Rattle.checked_memory.specs.declared.values.Cell.{Cell}
use Rattle.checked_memory.specs.declared.values.Value.{Value}
use Rattle.checked_memory.specs.declared.values.Value.TheVariants.{Int, Null, Made, Block}
use Rattle.checked_memory.specs.Contents.{Contents, TouchedBlock, cells_at, at_offset, cell_at, blocks_with, with_cell}
use Rattle.cc_model.specs.Plain as plain
use Rattle.cc_model.specs.Plain.{or_none, rank, with_block}
use Rattle.cc_model.specs.Traced as traced
use Rattle.cc_model.specs.Traced.{Shadow, none, Touched, touched_shadows, set_touched, spot_of, Traced}
use Rattle.cc_model.specs.Canonical.{Named}
use Rattle.sym_run.specs.declared.symbols.Symbol.{Symbol}
use Rattle.sym_run.specs.declared.objects.First.{First}
use Rattle.sym_run.specs.declared.objects.Objects.{Objects}
use Rattle.sym_run.specs.Beside.{IsCell, IsValue, value_of, shadow_by, shadow_if, traced_of}
use Rattle.sym_run.specs.Remembers.{Every, cell_value, cell_shadow, name_of, names_in, cells_in, touched_seen, IsPointed, Suits, IsKnown, Remembers}

-- ---- every one of a list

pub every_set : {A : Type 0} (P : A → Type 0) (l : List A) (k : ℕ) (x : A) → P x → Every P l → Every P (set l k x)
every_set P [] k x p h = tt
every_set P (y ∷ l) zero x p h = (p, h.1)
every_set P (y ∷ l) (suc k) x p h = (h.0, every_set P l k x p h.1)

pub every_push : {A : Type 0} (P : A → Type 0) (l : List A) (x : A) → Every P l → P x → Every P (l ++ x ∷ [])
every_push P [] x h p = (p, tt)
every_push P (y ∷ l) x h p = (h.0, every_push P l x h.1 p)

pub every_more : {A : Type 0} (P Q : A → Type 0) → ((x : A) → P x → Q x) → (l : List A) → Every P l → Every Q l
every_more P Q f [] h = tt
every_more P Q f (y ∷ l) h = (f y h.0, every_more P Q f l h.1)

pub every_at : {A : Type 0} (P : A → Type 0) (l : List A) (k : ℕ) (x : A) → Every P l → slice_get l k ≡ Some x → P x
every_at P [] k x h e = absurd (cc e)
every_at P (y ∷ l) zero x h e = subst P (same_Some y x e) h.0
every_at P (y ∷ l) (suc k) x h e = every_at P l k x h.1 e

-- ---- symbols are added, and blocks touched

get_front : {A : Type 0} (xs ys : List A) (k : ℕ) → k < length xs → slice_get (xs ++ ys) k ≡ slice_get xs k
get_front [] ys k h = absurd (omega arith)
get_front (x ∷ xs) ys zero h = refl
get_front (x ∷ xs) ys (suc k) h = get_front xs ys k (omega arith)

pub shadow_append : (symbols more : List Symbol) (n : ℕ) (v : plain.Value) → n ≤ length symbols → shadow_by (symbols ++ more) n v ≡ shadow_by symbols n v
shadow_append symbols more zero v h = refl
shadow_append symbols more (suc n) v h = ap (λ (o : Option Symbol). shadow_if v o) (get_front symbols more n (omega arith))

pub cell_append : (symbols more : List Symbol) (c : Cell) → IsCell symbols c → cell_shadow (symbols ++ more) c ≡ cell_shadow symbols c
cell_append symbols more c h = shadow_append symbols more c.shadow (value_of c.value) h.known

pub is_cell_append : (symbols more : List Symbol) (c : Cell) → IsCell symbols c → IsCell (symbols ++ more) c
is_cell_append symbols more c h = record { known = omega (arith, length-append symbols more, h.known); value = h.value }

pub known_append : (named : List Named) (touched : List ℕ) (symbols more : List Symbol) (c : Cell) → IsKnown named touched symbols c → IsKnown named touched (symbols ++ more) c
known_append named touched symbols more c h = record {
  cell = is_cell_append symbols more c h.cell;
  kind = subst (λ (s : Shadow). Suits s c.value) (sym (cell_append symbols more c h.cell)) h.kind;
  pointer = subst (λ (s : Shadow). IsPointed named touched s c.value) (sym (cell_append symbols more c h.cell)) h.pointer;
}

pointed_touched : (named : List Named) (touched more : List ℕ) (s : Shadow) (v : Value) → IsPointed named touched s v → IsPointed named (touched ++ more) s v
pointed_touched named touched more s (Int z) h = tt
pointed_touched named touched more s Null h = tt
pointed_touched named touched more s (Made n i) h = tt
pointed_touched named touched more s (Block a i) (inl h) = inl (in_left (nat_abs a) touched more h)
pointed_touched named touched more s (Block a i) (inr h) = inr h

pub known_touched : (named : List Named) (touched more : List ℕ) (symbols : List Symbol) (c : Cell) → IsKnown named touched symbols c → IsKnown named (touched ++ more) symbols c
known_touched named touched more symbols c h = record { cell = h.cell; kind = h.kind; pointer = pointed_touched named touched more (cell_shadow symbols c) c.value h.pointer }

module _ (named : List Named) (touched : List ℕ) (symbols more : List Symbol) where
  cells_append : (cs : List Cell) → Every (IsKnown named touched symbols) cs → map (cell_shadow (symbols ++ more)) cs ≡ map (cell_shadow symbols) cs
  cells_append [] h = refl
  cells_append (c ∷ cs) h = ap₂ (λ (s : Shadow) (l : List Shadow). s ∷ l) (cell_append symbols more c h.0.cell) (cells_append cs h.1)

  made_append : (made : List (List Cell)) → Every (Every (IsKnown named touched symbols)) made → map (map (cell_shadow (symbols ++ more))) made ≡ map (map (cell_shadow symbols)) made
  made_append [] h = refl
  made_append (cs ∷ made) h = ap₂ (λ (s : List Shadow) (l : List (List Shadow)). s ∷ l) (cells_append cs h.0) (made_append made h.1)

  seen_append : (fs : List First) (bs : List TouchedBlock) → Every (λ b. Every (IsKnown named touched symbols) b.cells) bs → touched_seen (symbols ++ more) fs bs ≡ touched_seen symbols fs bs
  seen_append [] bs h = refl
  seen_append (f ∷ fs) [] h = refl
  seen_append (f ∷ fs) (b ∷ bs) h = ap₂ (λ (s : List Shadow) (l : List Touched). (let t : Touched = record { first = f.place.0; type = f.ty.0; shadows = s } in t) ∷ l) (cells_append b.cells h.0) (seen_append fs bs h.1)

  every_append : (cs : List Cell) → Every (IsKnown named touched symbols) cs → Every (IsKnown named touched (symbols ++ more)) cs
  every_append cs h = every_more (IsKnown named touched symbols) (IsKnown named touched (symbols ++ more)) (λ c k. known_append named touched symbols more c k) cs h

-- what is remembered stays so when symbols are added
pub remembers_append : (start : plain.Data) (named : List Named) (symbols more : List Symbol) (o : Objects) (d : traced.Data) → Remembers start named symbols o d → Remembers start named (symbols ++ more) o d
remembers_append start named symbols more o d r = record {
  made = r.made;
  blocks = r.blocks;
  touched = r.touched;
  stream = r.stream;
  base = r.base;
  count = r.count;
  made_shadows = r.made_shadows ∙ sym (made_append named (names_in o) symbols more o.memory.made r.made_cells);
  touched_shadows = r.touched_shadows ∙ sym (seen_append named (names_in o) symbols more o.firsts o.memory.touched r.touched_cells);
  places = r.places;
  firsts = r.firsts;
  addresses = r.addresses;
  made_cells = every_more (Every (IsKnown named (names_in o) symbols)) (Every (IsKnown named (names_in o) (symbols ++ more))) (λ cs h. every_append named (names_in o) symbols more cs h) o.memory.made r.made_cells;
  touched_cells = every_more (λ (b : TouchedBlock). Every (IsKnown named (names_in o) symbols) b.cells) (λ (b : TouchedBlock). Every (IsKnown named (names_in o) (symbols ++ more)) b.cells) (λ b h. every_append named (names_in o) symbols more b.cells h) o.memory.touched r.touched_cells;
}

-- ---- addresses as names

abbrev pub Addressed : List TouchedBlock → Type 0
Addressed bs = Every (λ b. pos 0 ≤ℤ b.address) bs

pub abs_back : (z : ℤ) → pos 0 ≤ℤ z → z ≡ pos (nat_abs z)
abs_back (pos n) h = refl
abs_back (negsuc n) h = absurd (omega (arith, h))

pub same_name : (z a : ℤ) → pos 0 ≤ℤ z → pos 0 ≤ℤ a → nat_eq (nat_abs a) (nat_abs z) ≡ int_eq z a
same_name z a p q = pick (int_eq z a) refl
  where
    pick : (t : Bool) → int_eq z a ≡ t → nat_eq (nat_abs a) (nat_abs z) ≡ int_eq z a
    pick true e = is_same (nat_abs a) (nat_abs z) (ap nat_abs (sym ((Decides-int_eq z a).0 e))) ∙ sym e
    pick false e = not_same (nat_abs a) (nat_abs z) (λ f. (let g : true ≡ false = sym ((Decides-int_eq z a).1 (abs_back z p ∙ ap pos (sym f) ∙ sym (abs_back a q))) ∙ e in absurd (cc g))) ∙ sym e

-- ---- the cell at an offset

cell_read : {A : Type 0} (f : Cell → A) (cs : List Cell) (i : ℕ) (c : Cell) (z : A) → slice_get cs i ≡ Some c → or_none z (slice_get (map f cs) i) ≡ f c
unfolding or_none
cell_read f [] i c z e = absurd (cc e)
cell_read f (x ∷ cs) zero c z e = ap f (same_Some x c e)
cell_read f (x ∷ cs) (suc i) c z e = cell_read f cs i c z e

made_read : {A : Type 0} (f : Cell → A) (made : List (List Cell)) (n i : ℕ) (c : Cell) (z : A) → at_offset i (slice_get made n) ≡ Some c → or_none z (slice_get (or_none [] (slice_get (map (map f) made) n)) i) ≡ f c
unfolding or_none
made_read f [] n i c z e = absurd (cc e)
made_read f (cs ∷ made) zero i c z e = cell_read f cs i c z e
made_read f (cs ∷ made) (suc n) i c z e = made_read f made n i c z e

made_known : (P : Cell → Type 0) (made : List (List Cell)) (n i : ℕ) (c : Cell) → Every (Every P) made → at_offset i (slice_get made n) ≡ Some c → P c
made_known P [] n i c h e = absurd (cc e)
made_known P (cs ∷ made) zero i c h e = every_at P cs i c h.0 e
made_known P (cs ∷ made) (suc n) i c h e = made_known P made n i c h.1 e

block_known : (P : Cell → Type 0) (bs : List TouchedBlock) (a : ℤ) (i : ℕ) (c : Cell) → Every (λ b. Every P b.cells) bs → at_offset i (cells_at a bs) ≡ Some c → P c
block_known P [] a i c h e = absurd (cc e)
block_known P (b ∷ bs) a i c h e = pick (int_eq b.address a) e (block_known P bs a i c h.1)
  where
    pick : (t : Bool) → at_offset i (if t then Some b.cells else cells_at a bs) ≡ Some c → (at_offset i (cells_at a bs) ≡ Some c → P c) → P c
    pick true f k = every_at P b.cells i c h.0 f
    pick false f k = k f

-- a touched block's cell, as a value
block_read : (bs : List TouchedBlock) (start : List plain.Value) (a : ℤ) (i : ℕ) (c : Cell) → pos 0 ≤ℤ a → Addressed bs → at_offset i (cells_at a bs) ≡ Some c → or_none plain.null (slice_get (cells_in (nat_abs a) start bs) i) ≡ cell_value c
block_read [] start a i c p q e = absurd (cc e)
block_read (b ∷ bs) start a i c p q e = pick (int_eq b.address a) refl e (block_read bs start a i c p q.1)
  where
    pick : (t : Bool) → int_eq b.address a ≡ t → at_offset i (if t then Some b.cells else cells_at a bs) ≡ Some c
        → (at_offset i (cells_at a bs) ≡ Some c → or_none plain.null (slice_get (cells_in (nat_abs a) start bs) i) ≡ cell_value c)
        → or_none plain.null (slice_get (cells_in (nat_abs a) start (b ∷ bs)) i) ≡ cell_value c
    pick true g f k = ap (λ (t : Bool). or_none plain.null (slice_get (if t then map cell_value b.cells else cells_in (nat_abs a) start bs) i)) (same_name b.address a q.0 p ∙ g) ∙ cell_read cell_value b.cells i c plain.null f
    pick false g f k = ap (λ (t : Bool). or_none plain.null (slice_get (if t then map cell_value b.cells else cells_in (nat_abs a) start bs) i)) (same_name b.address a q.0 p ∙ g) ∙ k f

-- and what stands beside it
block_shadow : (symbols : List Symbol) (fs : List First) (bs : List TouchedBlock) (a : ℤ) (i : ℕ) (c : Cell) → pos 0 ≤ℤ a → Addressed bs → length fs ≡ length bs → at_offset i (cells_at a bs) ≡ Some c
    → or_none none (slice_get (touched_shadows (slice_get (touched_seen symbols fs bs) (rank (nat_abs a) (map name_of bs)))) i) ≡ cell_shadow symbols c
unfolding touched_shadows rank
block_shadow symbols fs [] a i c p q l e = absurd (cc e)
block_shadow symbols [] (b ∷ bs) a i c p q l e = absurd (omega (arith, l))
block_shadow symbols (f ∷ fs) (b ∷ bs) a i c p q l e = pick (int_eq b.address a) refl e (block_shadow symbols fs bs a i c p q.1 (omega (arith, l)))
  where
    pick : (t : Bool) → int_eq b.address a ≡ t → at_offset i (if t then Some b.cells else cells_at a bs) ≡ Some c
        → (at_offset i (cells_at a bs) ≡ Some c → or_none none (slice_get (touched_shadows (slice_get (touched_seen symbols fs bs) (rank (nat_abs a) (map name_of bs)))) i) ≡ cell_shadow symbols c)
        → or_none none (slice_get (touched_shadows (slice_get (touched_seen symbols (f ∷ fs) (b ∷ bs)) (if nat_eq (nat_abs a) (name_of b) then 0 else suc (rank (nat_abs a) (map name_of bs))))) i) ≡ cell_shadow symbols c
    pick true g h k = ap (λ (t : Bool). or_none none (slice_get (touched_shadows (slice_get (touched_seen symbols (f ∷ fs) (b ∷ bs)) (if t then 0 else suc (rank (nat_abs a) (map name_of bs))))) i)) (same_name b.address a q.0 p ∙ g)
        ∙ cell_read (cell_shadow symbols) b.cells i c none h
    pick false g h k = ap (λ (t : Bool). or_none none (slice_get (touched_shadows (slice_get (touched_seen symbols (f ∷ fs) (b ∷ bs)) (if t then 0 else suc (rank (nat_abs a) (map name_of bs))))) i)) (same_name b.address a q.0 p ∙ g)
        ∙ k h

-- ---- loads

module _ (start : plain.Data) (named : List Named) (symbols : List Symbol) (o : Objects) (d : traced.Data) (r : Remembers start named symbols o d) where
  loaded_value : (v : Value) (c : Cell) → IsValue v → cell_at v o.memory ≡ Some c → plain.load (value_of v) d.plain ≡ cell_value c
  unfolding plain.load plain.cells_of
  loaded_value (Int z) c p e = absurd (cc e)
  loaded_value Null c p e = absurd (cc e)
  loaded_value (Made n i) c p e = ap (λ (m : List (List plain.Value)). or_none plain.null (slice_get (or_none [] (slice_get m n)) i)) r.made ∙ made_read cell_value o.memory.made n i c plain.null e
  loaded_value (Block a i) c p e = ap (λ (m : List plain.Value). or_none plain.null (slice_get m i)) (r.blocks (nat_abs a)) ∙ block_read o.memory.touched (start.blocks (nat_abs a)) a i c p r.addresses e

  loaded_shadow : (v : Value) (c : Cell) → IsValue v → cell_at v o.memory ≡ Some c → traced.shadow_at (spot_of (value_of v) (d.plain).touched) d.shadows ≡ cell_shadow symbols c
  unfolding traced.shadow_at spot_of
  loaded_shadow (Int z) c p e = absurd (cc e)
  loaded_shadow Null c p e = absurd (cc e)
  loaded_shadow (Made n i) c p e = ap (λ (m : List (List Shadow)). or_none none (slice_get (or_none [] (slice_get m n)) i)) r.made_shadows ∙ made_read (cell_shadow symbols) o.memory.made n i c none e
  loaded_shadow (Block a i) c p e =
      ap₂ (λ (l : List Touched) (m : List ℕ). or_none none (slice_get (touched_shadows (slice_get l (rank (nat_abs a) m))) i)) r.touched_shadows r.touched
      ∙ block_shadow symbols o.firsts o.memory.touched a i c p r.addresses r.firsts e

  loaded_known : (v : Value) (c : Cell) → cell_at v o.memory ≡ Some c → IsKnown named (names_in o) symbols c
  loaded_known (Int z) c e = absurd (cc e)
  loaded_known Null c e = absurd (cc e)
  loaded_known (Made n i) c e = made_known (IsKnown named (names_in o) symbols) o.memory.made n i c r.made_cells e
  loaded_known (Block a i) c e = block_known (IsKnown named (names_in o) symbols) o.memory.touched a i c r.touched_cells e

  pub loaded : (p c : Cell) → IsCell symbols p → cell_at p.value o.memory ≡ Some c → (traced_of symbols c ≡ traced.load (traced_of symbols p) d) × IsKnown named (names_in o) symbols c
  unfolding traced.load
  loaded p c k e = (
    sym (ap₂ (λ (v : plain.Value) (s : Shadow). (let t : Traced = record { plain = v; shadow = s } in t)) (loaded_value p.value c k.value e) (loaded_shadow p.value c k.value e)),
    loaded_known p.value c e,
  )

-- ---- stores

made_stored : {A : Type 0} (f : Cell → A) (made : List (List Cell)) (n i : ℕ) (c : Cell) → set (map (map f) made) n (set (or_none [] (slice_get (map (map f) made) n)) i (f c)) ≡ map (map f) (set made n (set (get_or made n []) i c))
unfolding or_none
made_stored {A = A} f [] n i c = refl
made_stored {A = A} f (cs ∷ made) zero i c = ap (λ (l : List A). l ∷ map (map f) made) (sym (map-set f cs i c))
made_stored {A = A} f (cs ∷ made) (suc n) i c = ap (λ (l : List (List A)). map f cs ∷ l) (made_stored f made n i c)

every_got : {A : Type 0} (P : A → Type 0) (l : List (List A)) (n : ℕ) → Every (Every P) l → Every P (get_or l n [])
every_got P [] n h = tt
every_got P (cs ∷ l) zero h = h.0
every_got P (cs ∷ l) (suc n) h = every_got P l n h.1

pub same_numbers : (x y : ℕ) → nat_eq x y ≡ true → x ≡ y
same_numbers x y e = elim (eqb_tells x y) [ inl q ↦ q.1 | inr q ↦ (let f : true ≡ false = sym e ∙ q.0 in absurd (cc f)) ]

with_same : (n x i : ℕ) (v : plain.Value) (f g : ℕ → List plain.Value) → ((y : ℕ) → f y ≡ g y) → with_block n (set (f n) i v) f x ≡ with_block n (set (g n) i v) g x
unfolding with_block
with_same n x i v f g h = ap₂ (λ (k l : List plain.Value). if nat_eq x n then set k i v else l) (h n) (h x)

block_stored : (bs : List TouchedBlock) (s : ℕ → List plain.Value) (a : ℤ) (i x : ℕ) (c w : Cell) → pos 0 ≤ℤ a → Addressed bs → at_offset i (cells_at a bs) ≡ Some w
    → with_block (nat_abs a) (set (cells_in (nat_abs a) (s (nat_abs a)) bs) i (cell_value c)) (λ y. cells_in y (s y) bs) x ≡ cells_in x (s x) (blocks_with a i c bs)
unfolding with_block
block_stored [] s a i x c w p q e = absurd (cc e)
block_stored (b ∷ bs) s a i x c w p q e = pick (int_eq b.address a) refl e (block_stored bs s a i x c w p q.1)
  where
    here : (u v t : Bool) → u ≡ v → t ≡ true → (r k : List plain.Value) → (if u then set (if t then map cell_value b.cells else k) i (cell_value c) else (if v then map cell_value b.cells else r)) ≡ (if v then map cell_value (set b.cells i c) else r)
    here true true true e f r k = sym (map-set cell_value b.cells i c)
    here true true false e f r k = absurd (cc f)
    here true false t e f r k = absurd (cc e)
    here false true t e f r k = absurd (cc e)
    here false false t e f r k = refl

    past : (u v t : Bool) → t ≡ false → (u ≡ true → v ≡ true → ⊥) → (r k m : List plain.Value) → (if u then set k i (cell_value c) else r) ≡ m
        → (if u then set (if t then map cell_value b.cells else k) i (cell_value c) else (if v then map cell_value b.cells else r)) ≡ (if v then map cell_value b.cells else m)
    past true true t f d r k m g = absurd (d refl refl)
    past true false true f d r k m g = absurd (cc f)
    past true false false f d r k m g = g
    past false true t f d r k m g = refl
    past false false t f d r k m g = g

    one : nat_eq x (nat_abs a) ≡ true → nat_eq x (name_of b) ≡ true → b.address ≡ a
    one e f = abs_back b.address q.0 ∙ ap pos (sym (same_numbers x (name_of b) f) ∙ same_numbers x (nat_abs a) e) ∙ sym (abs_back a p)

    pick : (t : Bool) → int_eq b.address a ≡ t → at_offset i (if t then Some b.cells else cells_at a bs) ≡ Some w
        → (at_offset i (cells_at a bs) ≡ Some w → (if nat_eq x (nat_abs a) then set (cells_in (nat_abs a) (s (nat_abs a)) bs) i (cell_value c) else cells_in x (s x) bs) ≡ cells_in x (s x) (blocks_with a i c bs))
        → (if nat_eq x (nat_abs a) then set (if nat_eq (nat_abs a) (name_of b) then map cell_value b.cells else cells_in (nat_abs a) (s (nat_abs a)) bs) i (cell_value c) else (if nat_eq x (name_of b) then map cell_value b.cells else cells_in x (s x) bs))
        ≡ cells_in x (s x) (if t then (let z : TouchedBlock = record { address = b.address; cells = set b.cells i c } in z) ∷ bs else b ∷ blocks_with a i c bs)
    pick true g f k = here (nat_eq x (nat_abs a)) (nat_eq x (name_of b)) (nat_eq (nat_abs a) (name_of b)) (ap (λ (z : ℤ). nat_eq x (nat_abs z)) (sym ((Decides-int_eq b.address a).0 g))) (same_name b.address a q.0 p ∙ g) _ _
    pick false g f k = past (nat_eq x (nat_abs a)) (nat_eq x (name_of b)) (nat_eq (nat_abs a) (name_of b)) (same_name b.address a q.0 p ∙ g) (λ u v. (let h : true ≡ false = sym ((Decides-int_eq b.address a).1 (one u v)) ∙ g in absurd (cc h))) _ _ _ (k f)

touched_stored : (symbols : List Symbol) (fs : List First) (bs : List TouchedBlock) (a : ℤ) (i : ℕ) (c : Cell) → pos 0 ≤ℤ a → Addressed bs → length fs ≡ length bs
    → set_touched (touched_seen symbols fs bs) (rank (nat_abs a) (map name_of bs)) i (cell_shadow symbols c) ≡ touched_seen symbols fs (blocks_with a i c bs)
unfolding set_touched rank
touched_stored symbols [] [] a i c p q l = refl
touched_stored symbols [] (b ∷ bs) a i c p q l = absurd (omega (arith, l))
touched_stored symbols (f ∷ fs) [] a i c p q l = refl
touched_stored symbols (f ∷ fs) (b ∷ bs) a i c p q l = pick (int_eq b.address a) refl (touched_stored symbols fs bs a i c p q.1 (omega (arith, l)))
  where
    pick : (t : Bool) → int_eq b.address a ≡ t → set_touched (touched_seen symbols fs bs) (rank (nat_abs a) (map name_of bs)) i (cell_shadow symbols c) ≡ touched_seen symbols fs (blocks_with a i c bs)
        → set_touched (touched_seen symbols (f ∷ fs) (b ∷ bs)) (if nat_eq (nat_abs a) (name_of b) then 0 else suc (rank (nat_abs a) (map name_of bs))) i (cell_shadow symbols c)
        ≡ touched_seen symbols (f ∷ fs) (if t then (let z : TouchedBlock = record { address = b.address; cells = set b.cells i c } in z) ∷ bs else b ∷ blocks_with a i c bs)
    pick true g k = ap (λ (t : Bool). set_touched (touched_seen symbols (f ∷ fs) (b ∷ bs)) (if t then 0 else suc (rank (nat_abs a) (map name_of bs))) i (cell_shadow symbols c)) (same_name b.address a q.0 p ∙ g)
        ∙ ap (λ (s : List Shadow). (let t : Touched = record { first = f.place.0; type = f.ty.0; shadows = s } in t) ∷ touched_seen symbols fs bs) (sym (map-set (cell_shadow symbols) b.cells i c))
    pick false g k = ap (λ (t : Bool). set_touched (touched_seen symbols (f ∷ fs) (b ∷ bs)) (if t then 0 else suc (rank (nat_abs a) (map name_of bs))) i (cell_shadow symbols c)) (same_name b.address a q.0 p ∙ g)
        ∙ ap (λ (l : List Touched). (let t : Touched = record { first = f.place.0; type = f.ty.0; shadows = map (cell_shadow symbols) b.cells } in t) ∷ l) k

-- a write keeps the blocks' addresses
kept_names : (a : ℤ) (i : ℕ) (c : Cell) (bs : List TouchedBlock) → map name_of (blocks_with a i c bs) ≡ map name_of bs
kept_names a i c [] = refl
kept_names a i c (b ∷ bs) = pick (int_eq b.address a) (kept_names a i c bs)
  where
    pick : (t : Bool) → map name_of (blocks_with a i c bs) ≡ map name_of bs → map name_of (if t then (let z : TouchedBlock = record { address = b.address; cells = set b.cells i c } in z) ∷ bs else b ∷ blocks_with a i c bs) ≡ map name_of (b ∷ bs)
    pick true k = refl
    pick false k = ap (λ (l : List ℕ). name_of b ∷ l) k

kept_length : (a : ℤ) (i : ℕ) (c : Cell) (bs : List TouchedBlock) → length (blocks_with a i c bs) ≡ length bs
kept_length a i c bs = sym (length-map (blocks_with a i c bs) name_of) ∙ ap length (kept_names a i c bs) ∙ length-map bs name_of

kept_addresses : (a : ℤ) (i : ℕ) (c : Cell) (bs : List TouchedBlock) → Addressed bs → Addressed (blocks_with a i c bs)
kept_addresses a i c [] h = tt
kept_addresses a i c (b ∷ bs) h = pick (int_eq b.address a) (kept_addresses a i c bs h.1)
  where
    pick : (t : Bool) → Addressed (blocks_with a i c bs) → Addressed (if t then (let z : TouchedBlock = record { address = b.address; cells = set b.cells i c } in z) ∷ bs else b ∷ blocks_with a i c bs)
    pick true k = (h.0, h.1)
    pick false k = (h.0, k)

kept_cells : (P : Cell → Type 0) (a : ℤ) (i : ℕ) (c : Cell) (bs : List TouchedBlock) → P c → Every (λ b. Every P b.cells) bs → Every (λ b. Every P b.cells) (blocks_with a i c bs)
kept_cells P a i c [] p h = tt
kept_cells P a i c (b ∷ bs) p h = pick (int_eq b.address a) (kept_cells P a i c bs p h.1)
  where
    pick : (t : Bool) → Every (λ b. Every P b.cells) (blocks_with a i c bs) → Every (λ b. Every P b.cells) (if t then (let z : TouchedBlock = record { address = b.address; cells = set b.cells i c } in z) ∷ bs else b ∷ blocks_with a i c bs)
    pick true k = (every_set P b.cells i c p h.0, h.1)
    pick false k = (h.0, k)

pub names_kept : (v : Value) (c : Cell) (m : Contents) → map name_of (with_cell v c m).touched ≡ map name_of m.touched
names_kept (Int z) c m = refl
names_kept Null c m = refl
names_kept (Made n i) c m = refl
names_kept (Block a i) c m = kept_names a i c m.touched

-- the state of the code with another memory
abbrev pub with_memory : Objects → Contents → Objects
with_memory o m = record { memory = m; firsts = o.firsts; places = o.places; taken = o.taken }

module _ (start : plain.Data) (named : List Named) (symbols : List Symbol) (o : Objects) (d : traced.Data) (r : Remembers start named symbols o d) (c : Cell) (known : IsKnown named (names_in o) symbols c) where
  pub stored : (v : Value) (k : ℕ) (w : Cell) → IsValue v → cell_at v o.memory ≡ Some w
      → Remembers start named symbols (with_memory o (with_cell v c o.memory)) (traced.store (traced_of symbols (record { value = v; shadow = k })) (traced_of symbols c) d)
  unfolding traced.store plain.store plain.cells_of plain.with_cells traced.with_shadow spot_of
  stored (Int z) k w p e = absurd (cc e)
  stored Null k w p e = absurd (cc e)
  stored (Made n i) k w p e = record {
    made = ap (λ (m : List (List plain.Value)). set m n (set (or_none [] (slice_get m n)) i (cell_value c))) r.made ∙ made_stored cell_value o.memory.made n i c;
    blocks = r.blocks;
    touched = r.touched;
    stream = r.stream;
    base = r.base;
    count = r.count;
    made_shadows = ap (λ (m : List (List Shadow)). set m n (set (or_none [] (slice_get m n)) i (cell_shadow symbols c))) r.made_shadows ∙ made_stored (cell_shadow symbols) o.memory.made n i c;
    touched_shadows = r.touched_shadows;
    places = r.places;
    firsts = r.firsts;
    addresses = r.addresses;
    made_cells = every_set (Every (IsKnown named (names_in o) symbols)) o.memory.made n (set (get_or o.memory.made n []) i c) (every_set (IsKnown named (names_in o) symbols) (get_or o.memory.made n []) i c known (every_got (IsKnown named (names_in o) symbols) o.memory.made n r.made_cells)) r.made_cells;
    touched_cells = r.touched_cells;
  }
  stored (Block a i) k w p e =
      let names : map name_of (blocks_with a i c o.memory.touched) ≡ names_in o = kept_names a i c o.memory.touched in record {
        made = r.made;
        blocks = λ x. with_same (nat_abs a) x i (cell_value c) (d.plain).blocks (λ y. cells_in y (start.blocks y) o.memory.touched) r.blocks ∙ block_stored o.memory.touched start.blocks a i x c w p r.addresses e;
        touched = r.touched ∙ sym names;
        stream = r.stream;
        base = r.base;
        count = r.count;
        made_shadows = r.made_shadows;
        touched_shadows = ap₂ (λ (l : List Touched) (m : List ℕ). set_touched l (rank (nat_abs a) m) i (cell_shadow symbols c)) r.touched_shadows r.touched ∙ touched_stored symbols o.firsts o.memory.touched a i c p r.addresses r.firsts;
        places = r.places;
        firsts = r.firsts ∙ sym (kept_length a i c o.memory.touched);
        addresses = kept_addresses a i c o.memory.touched r.addresses;
        made_cells = subst (λ (m : List ℕ). Every (Every (IsKnown named m symbols)) o.memory.made) (sym names) r.made_cells;
        touched_cells = subst (λ (m : List ℕ). Every (λ (b : TouchedBlock). Every (IsKnown named m symbols) b.cells) (blocks_with a i c o.memory.touched)) (sym names) (kept_cells (IsKnown named (names_in o) symbols) a i c o.memory.touched known r.touched_cells);
      }

-- ---- a cell, or none

pub if_some : {A : Type 0} (r : Option A) (P : A → Type 0) → ((x : A) → r ≡ Some x → P x) → IfSome r P
if_some None P f = tt
if_some (Some x) P f = f x refl

pub some_of : {A : Type 0} (r : Option A) → IsSome r → (x : A) × (r ≡ Some x)
some_of None h = absurd (cc h)
some_of (Some x) h = (x, refl)
