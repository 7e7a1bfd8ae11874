-- The cells that a built input has, laid one after the other.
use Rattle.std.proofs.Common.{◌≡◌, ◌≢◌, ℕ, zero, suc, ◌+◌, ◌<◌, ◌≤◌, inl, inr, ℤ, pos, true, false, List, [], ◌∷◌, ◌++◌, length, slice_get, Option, Some, None, if◌then◌else◌, refl, sym, ap, ◌∙◌, subst, subst₂, arith, append_assoc, length-append}
use Rattle.std.proofs.lemmas.Bool.Decides.{nat_tests}
use Rattle.std.proofs.lemmas.List.{append-nil}
use Rattle.cc_base.specs.Limits.{Limits}
use Rattle.cc_base.specs.Places.{Placed}
use Rattle.cc_model.specs.Core.{Cell, int_cell, ptr_cell}
use Rattle.cc_model.specs.Canonical.{Named, Within, NamesOld, AreCells}
use Rattle.cc_model.specs.CheckedProgram.{cell_of}
use Rattle.cc_model.specs.Plain.{names_new, target}
use Rattle.input_map.specs.Builds.{cell_types}
use Rattle.input_map.specs.Laying.{Spot, Plan, spots, behind, Blocks, Points, Holds, Keeps, Names, Passes, Entry}
use Rattle.input_map.proofs.Lists.{some_same, cells_of, cells_of_spots, cells_of_append, length_spots, passed, get_back}
use Rattle.input_map.proofs.Shapes.{IsPlan, Fits, Shape, every_get, shape_keeps, shape_names, shape_first, here, grows}

-- ---- what each cell that was passed holds

module _ (p : Plan) where
  abbrev pub HeldAll : Blocks → List Spot → List ℤ → Type 0
  HeldAll block [] [] = Unit {0}
  HeldAll block [] (z ∷ zs) = ⊥
  HeldAll block (s ∷ l) [] = ⊥
  HeldAll block (s ∷ l) (z ∷ zs) = Holds p block s.cell s.place z × HeldAll block l zs

  pub held_length : (block : Blocks) (l : List Spot) (zs : List ℤ) → HeldAll block l zs → length l ≡ length zs
  held_length block [] [] h = refl
  held_length block [] (z ∷ zs) h = absurd h
  held_length block (s ∷ l) [] h = absurd h
  held_length block (s ∷ l) (z ∷ zs) h = ap suc (held_length block l zs h.1)

  pub held_push : (block : Blocks) (l : List Spot) (zs : List ℤ) (s : Spot) (z : ℤ) → HeldAll block l zs → Holds p block s.cell s.place z → HeldAll block (l ++ s ∷ []) (zs ++ z ∷ [])
  held_push block [] [] s z h k = (k, tt)
  held_push block [] (y ∷ zs) s z h k = absurd h
  held_push block (x ∷ l) [] s z h k = absurd h
  held_push block (x ∷ l) (y ∷ zs) s z h k = (h.0, held_push block l zs s z h.1 k)

  pub held_get : (block : Blocks) (l : List Spot) (zs : List ℤ) (i : ℕ) (s : Spot) → HeldAll block l zs → slice_get l i ≡ Some s → (z : ℤ) × (slice_get zs i ≡ Some z) × Holds p block s.cell s.place z
  held_get block [] zs i s h e = absurd (cc e)
  held_get block (x ∷ l) [] i s h e = absurd h
  held_get block (x ∷ l) (z ∷ zs) zero s h e = (z, refl, subst (λ (y : Spot). Holds p block y.cell y.place z) (some_same x s e) h.0)
  held_get block (x ∷ l) (z ∷ zs) (suc i) s h e = held_get block l zs i s h.1 e

  abbrev MoreOf : Blocks → Blocks → Type 0
  MoreOf block new = (c a : ℕ) → block c ≡ Some a → new c ≡ Some a

  holds_grows : (block new : Blocks) → MoreOf block new → (c : Cell) (o : Option ℕ) (z : ℤ) → Holds p block c o z → Holds p new c o z
  holds_grows block new g int_cell None z h = h
  holds_grows block new g int_cell (Some id) z h = h
  holds_grows block new g (ptr_cell t) None z h = h
  holds_grows block new g (ptr_cell t) (Some id) z (inl h) = inl h
  holds_grows block new g (ptr_cell t) (Some id) z (inr (c, a, e, f)) = inr (c, a, g (p.class id) a e, f)

  pub held_grows : (block new : Blocks) → MoreOf block new → (l : List Spot) (zs : List ℤ) → HeldAll block l zs → HeldAll new l zs
  held_grows block new g [] [] h = tt
  held_grows block new g [] (z ∷ zs) h = absurd h
  held_grows block new g (s ∷ l) [] h = absurd h
  held_grows block new g (s ∷ l) (z ∷ zs) h = (holds_grows block new g s.cell s.place z h.0, held_grows block new g l zs h.1)

-- ---- the cells are those of an input

pub at_zero : (t next : ℕ) → names_new (ptr_cell t) (pos 0) (suc next) ≡ false
unfolding names_new
at_zero t next = grind (arith, nat_tests)

pub at_old : (t a next : ℕ) → a < next → names_new (ptr_cell t) (pos a) next ≡ false
unfolding names_new
at_old t a next h = grind (arith, nat_tests)

pub at_new : (t next : ℕ) → names_new (ptr_cell t) (pos next) next ≡ true
unfolding names_new
at_new t next = grind (arith, nat_tests)

pub at_int : (z : ℤ) (next : ℕ) → names_new int_cell z next ≡ false
unfolding names_new
at_int z next = refl

pub target_is : (t : ℕ) → target (ptr_cell t) ≡ t
unfolding target
target_is t = refl

module _ (p : Plan) (params : List Cell) (b : Limits) (places : List Placed) (n : ℕ) where
  -- the cells of `done` have been passed and hold zs, those of `due` come next
  pub record Laid (done due : List Spot) (zs : List ℤ) (block : Blocks) : Type 0 where
    pub named : List Named
    pub shape : Shape p params b places n (done ++ due) named block
    pub held : HeldAll p block done zs
    pub cells : (us : List ℤ) → AreCells p.layouts b (cells_of due) named (suc (length (done ++ due))) us → AreCells p.layouts b params [] (suc (length params)) (zs ++ us)
    pub types : (us : List ℤ) → cell_types p.layouts params (suc (length params)) (zs ++ us) ≡ cells_of done ++ cell_types p.layouts (cells_of due) (suc (length (done ++ due))) us

  module _ (h : IsPlan p params b places n) (sizes : (t : ℕ) (id : ℕ) (e : Entry places n id) → cell_of e.entry.holds ≡ ptr_cell t → 1 ≤ length (p.layouts t)) where
    ptr_same : (t u : ℕ) → ptr_cell t ≡ ptr_cell u → t ≡ u
    ptr_same t u e = cc

    module _ (all : List Spot) (named : List Named) (block new : Blocks) (g : Shape p params b places n all named block) where
      -- a cell that names no block
      abbrev IsOld : Cell → ℤ → Type 0
      IsOld int_cell z = Within b z
      IsOld (ptr_cell t) z = NamesOld named t z × (names_new (ptr_cell t) z (suc (length all)) ≡ false)

      old_null : (t : ℕ) (z : ℤ) → z ≡ pos 0 → IsOld (ptr_cell t) z
      old_null t z e = (inl e, ap (λ y. names_new (ptr_cell t) y (suc (length all))) e ∙ at_zero t (length all))

      old_block : (k t id a : ℕ) (z : ℤ) → Fits p params b places n block k (ptr_cell t) (Some id) → block (p.class id) ≡ Some a → z ≡ pos a → IsOld (ptr_cell t) z
      old_block k t id a z f e y =
          let o = g.blocks (p.class id) a e in
          let same : o.type ≡ t = ptr_same o.type t (sym (o.of_type id f.0 refl) ∙ f.1) in
          let low : a < suc (length all) = (let m = o.high in omega (arith, m)) in
          (inr (record { address = a; type = o.type }, o.is_named, y, same), ap (λ x. names_new (ptr_cell t) x (suc (length all))) y ∙ at_old t a (suc (length all)) low)

      old_kind : ((c : ℕ) → new c ≡ block c) → (k : ℕ) (c : Cell) (o : Option ℕ) (z : ℤ) → Fits p params b places n block k c o → Holds p new c o z → IsOld c z
      old_kind same k int_cell None z f y = subst (Within b) (sym y) h.base_within
      old_kind same k int_cell (Some id) z f y = subst (Within b) (sym y) (h.within id)
      old_kind same k (ptr_cell t) None z f y = old_null t z y
      old_kind same k (ptr_cell t) (Some id) z f (inl y) = old_null t z y.1
      old_kind same k (ptr_cell t) (Some id) z f (inr (c, a, e, y)) = old_block k t id a z f (sym (same (p.class id)) ∙ e) y

      old_cells : (c : Cell) (due : List Cell) (z : ℤ) (us : List ℤ) → IsOld c z → AreCells p.layouts b due named (suc (length all)) us → AreCells p.layouts b (c ∷ due) named (suc (length all)) (z ∷ us)
      old_cells int_cell due z us o a = (o, a)
      old_cells (ptr_cell t) due z us o a = inl (o.0, a)

      old_new : (c : Cell) (z : ℤ) → IsOld c z → names_new c z (suc (length all)) ≡ false
      old_new int_cell z o = at_int z (suc (length all))
      old_new (ptr_cell t) z o = o.1

      pub pass_old : ((c : ℕ) → new c ≡ block c) → (k : ℕ) (c : Cell) (o : Option ℕ) (due : List Cell) (z : ℤ) → Fits p params b places n block k c o → Holds p new c o z
          → ((us : List ℤ) → AreCells p.layouts b due named (suc (length all)) us → AreCells p.layouts b (c ∷ due) named (suc (length all)) (z ∷ us))
          × ((us : List ℤ) → cell_types p.layouts (c ∷ due) (suc (length all)) (z ∷ us) ≡ c ∷ cell_types p.layouts due (suc (length all)) us)
      pass_old same k c o due z f y = let i = old_kind same k c o z f y in (
        (λ us a. old_cells c due z us i a),
        (λ us. ap (λ t. c ∷ (if t then cell_types p.layouts (due ++ p.layouts (target c)) (suc (length all) + length (p.layouts (target c))) us else cell_types p.layouts due (suc (length all)) us)) (old_new c z i)),
      )

    abbrev size : List Spot → ℕ
    size all = suc (length all)

    -- a cell is passed, and then these are due
    go : (done rest due : List Spot) (s : Spot) (zs : List ℤ) (z : ℤ) (block new : Blocks) (l : Laid done (s ∷ rest) zs block) (all : List Spot) (named : List Named) (cs : List Cell) → (done ++ s ∷ []) ++ due ≡ all → cs ≡ cells_of due
        → Shape p params b places n all named new → HeldAll p new (done ++ s ∷ []) (zs ++ z ∷ [])
        → ((us : List ℤ) → AreCells p.layouts b cs named (size all) us → AreCells p.layouts b (s.cell ∷ cells_of rest) l.named (size (done ++ s ∷ rest)) (z ∷ us))
        → ((us : List ℤ) → cell_types p.layouts (s.cell ∷ cells_of rest) (size (done ++ s ∷ rest)) (z ∷ us) ≡ s.cell ∷ cell_types p.layouts cs (size all) us)
        → Laid (done ++ s ∷ []) due (zs ++ z ∷ []) new
    go done rest due s zs z block new l all named cs e f shape held c t = record {
      named = named;
      shape = subst (λ x. Shape p params b places n x named new) (sym e) shape;
      held = held;
      cells = λ us a. subst (AreCells p.layouts b params [] (suc (length params))) (sym (append_assoc zs (z ∷ []) us))
          (l.cells (z ∷ us) (c us (subst₂ (λ (x : List Cell) (y : List Spot). AreCells p.layouts b x named (size y) us) (sym f) e a)));
      types = λ us. ap (cell_types p.layouts params (suc (length params))) (append_assoc zs (z ∷ []) us) ∙ l.types (z ∷ us) ∙ ap (λ x. cells_of done ++ x) (t us)
          ∙ sym (append_assoc (cells_of done) (s.cell ∷ []) (cell_types p.layouts cs (size all) us))
          ∙ ap (λ x. x ++ cell_types p.layouts cs (size all) us) (sym (cells_of_append done (s ∷ [])))
          ∙ ap (λ x. cells_of (done ++ s ∷ []) ++ cell_types p.layouts x (size all) us) f
          ∙ ap (λ y. cells_of (done ++ s ∷ []) ++ cell_types p.layouts (cells_of due) (size y) us) (sym e);
    }

    here_fits : (done rest : List Spot) (s : Spot) (named : List Named) (block : Blocks) → Shape p params b places n (done ++ s ∷ rest) named block → Fits p params b places n block (0 + (length done + 0)) s.cell s.place
    here_fits done rest s named block g = every_get p params b places n block 0 (done ++ s ∷ rest) (length done + 0) s g.fits (get_back done (s ∷ rest) 0)

    step_keeps : (done rest more : List Spot) (s : Spot) (zs : List ℤ) (z : ℤ) (block new : Blocks) → Laid done (s ∷ rest) zs block → Holds p new s.cell s.place z → Keeps block more new
        → Laid (done ++ s ∷ []) (rest ++ more) (zs ++ z ∷ []) new
    step_keeps done rest more s zs z block new l y k =
        let e : rest ++ more ≡ rest = ap (λ m. rest ++ m) k.no_cells ∙ append-nil rest in
        let r = pass_old (done ++ s ∷ rest) l.named block new l.shape k.same (0 + (length done + 0)) s.cell s.place (cells_of rest) z (here_fits done rest s l.named block l.shape) y in
        go done rest (rest ++ more) s zs z block new l (done ++ s ∷ rest) l.named (cells_of rest) (append_assoc done (s ∷ []) (rest ++ more) ∙ ap (λ m. done ++ s ∷ m) e) (ap cells_of (sym e))
        (shape_keeps p params b places n h (done ++ s ∷ rest) l.named block new k.same l.shape)
        (held_push p new done zs s z (held_grows p block new (λ c a f. k.same c ∙ f) done zs l.held) y) r.0 r.1

    -- the value of a pointer that names a block
    is_next : (new : Blocks) (id next : ℕ) (z : ℤ) → p.class id ≢ 0 → new (p.class id) ≡ Some next → Points new (p.class id) z → z ≡ pos next
    is_next new id next z c e (inl y) = absurd (c y.0)
    is_next new id next z c e (inr (d, a, f, y)) = y ∙ ap pos (some_same a next (sym f ∙ e))

    new_cells : (c : Cell) (t : ℕ) (due : List Cell) (named : List Named) (next : ℕ) (z : ℤ) → c ≡ ptr_cell t → z ≡ pos next → (us : List ℤ)
        → AreCells p.layouts b (due ++ p.layouts t) (record { address = next; type = t } ∷ named) (next + length (p.layouts t)) us → AreCells p.layouts b (c ∷ due) named next (z ∷ us)
    new_cells c t due named next z e y us a = subst (λ x. AreCells p.layouts b (x ∷ due) named next (z ∷ us)) (sym e) (inr (y, a))

    new_types : (c : Cell) (t : ℕ) (due : List Cell) (next : ℕ) (z : ℤ) → c ≡ ptr_cell t → z ≡ pos next → (us : List ℤ)
        → cell_types p.layouts (c ∷ due) next (z ∷ us) ≡ c ∷ cell_types p.layouts (due ++ p.layouts t) (next + length (p.layouts t)) us
    new_types c t due next z e y us =
        let is : names_new c z next ≡ true = ap (λ x. names_new x z next) e ∙ ap (λ x. names_new (ptr_cell t) x next) y ∙ at_new t next in
        ap (λ x. c ∷ (if x then cell_types p.layouts (due ++ p.layouts (target c)) (next + length (p.layouts (target c))) us else cell_types p.layouts due next us)) is
        ∙ ap (λ x. c ∷ cell_types p.layouts (due ++ p.layouts x) (next + length (p.layouts x)) us) (ap target e ∙ target_is t)

    longer : (all more : List Spot) (t : ℕ) → length more ≡ length (p.layouts t) → size all + length (p.layouts t) ≡ size (all ++ more)
    longer all more t e = let l = length-append all more in omega (arith, l, e)

    step_names : (done rest more : List Spot) (s : Spot) (zs : List ℤ) (z : ℤ) (block new : Blocks) → Laid done (s ∷ rest) zs block → Holds p new s.cell s.place z → Names p (size (done ++ s ∷ rest)) block s more new
        → Laid (done ++ s ∷ []) (rest ++ more) (zs ++ z ∷ []) new
    step_names done rest more s zs z block new l y k =
        let all : List Spot = done ++ s ∷ rest in
        let f : Fits p params b places n block (0 + (length done + 0)) (ptr_cell k.type) (Some k.id) = subst₂ (Fits p params b places n block (0 + (length done + 0))) k.cell k.place (here_fits done rest s l.named block l.shape) in
        let g = shape_names p params b places n h all l.named block new l.shape k.type k.id f.0 f.1 k.not_null k.is_new k.named (sizes k.type k.id f.0 f.1) in
        let i : new (p.class k.id) ≡ Some (size all) = here p params b places n h all l.named block new l.shape k.type k.id f.0 f.1 k.not_null k.is_new k.named in
        let m : MoreOf p block new = grows p params b places n h all l.named block new l.shape k.type k.id f.0 f.1 k.not_null k.is_new k.named in
        let is : z ≡ pos (size all) = is_next new k.id (size all) z k.not_null i (subst₂ (λ (c : Cell) (o : Option ℕ). Holds p new c o z) k.cell k.place y) in
        let long : size all + length (p.layouts k.type) ≡ size (all ++ more) = longer all more k.type (ap length k.cells ∙ length_spots (behind p (p.owner (p.class k.id))) 0 (p.layouts k.type)) in
        let kinds : cells_of rest ++ p.layouts k.type ≡ cells_of (rest ++ more) =
        ap (λ x. cells_of rest ++ x) (sym (cells_of_spots (behind p (p.owner (p.class k.id))) 0 (p.layouts k.type)) ∙ ap cells_of (sym k.cells)) ∙ sym (cells_of_append rest more) in
        go done rest (rest ++ more) s zs z block new l (all ++ more) (record { address = size all; type = k.type } ∷ l.named) (cells_of rest ++ p.layouts k.type) (passed done rest more s) kinds
        (subst (λ x. Shape p params b places n (all ++ x) (record { address = size all; type = k.type } ∷ l.named) new) (sym k.cells) g)
        (held_push p new done zs s z (held_grows p block new m done zs l.held) y)
        (λ us a. new_cells s.cell k.type (cells_of rest) l.named (size all) z k.cell is us
        (subst (λ x. AreCells p.layouts b (cells_of rest ++ p.layouts k.type) (record { address = size all; type = k.type } ∷ l.named) x us) (sym long) a))
        (λ us. new_types s.cell k.type (cells_of rest) (size all) z k.cell is us ∙ ap (λ x. s.cell ∷ cell_types p.layouts (cells_of rest ++ p.layouts k.type) x us) long)

    pub step : (done rest more : List Spot) (s : Spot) (zs : List ℤ) (z : ℤ) (block new : Blocks) → Laid done (s ∷ rest) zs block → Passes p (size (done ++ s ∷ rest)) block s z more new
        → Laid (done ++ s ∷ []) (rest ++ more) (zs ++ z ∷ []) new
    step done rest more s zs z block new l q = elim q.change [
      | inl k ↦ step_keeps done rest more s zs z block new l q.holds k
      | inr k ↦ step_names done rest more s zs z block new l q.holds k
    ]

    -- before the first cell
    pub laid_first : (block : Blocks) → ((c : ℕ) → block c ≡ None) → Laid [] (spots (p.found 0) 0 params) [] block
    laid_first block none =
        let k : cells_of (spots (p.found 0) 0 params) ≡ params = cells_of_spots (p.found 0) 0 params in
        let m : length (spots (p.found 0) 0 params) ≡ length params = length_spots (p.found 0) 0 params in record {
          named = [];
          shape = shape_first p params b places n h block none;
          held = tt;
          cells = λ us a. subst₂ (λ (x : List Cell) (y : ℕ). AreCells p.layouts b x [] (suc y) us) k m a;
          types = λ us. ap (λ x. cell_types p.layouts x (suc (length params)) us) (sym k) ∙ ap (λ y. cell_types p.layouts (cells_of (spots (p.found 0) 0 params)) (suc y) us) (sym m);
        }
