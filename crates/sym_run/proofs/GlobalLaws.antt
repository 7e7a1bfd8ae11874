-- The cells of the globals, item by item, declarator by declarator and cell by cell.
use Rattle.std.proofs.Common.{◌≡◌, ℕ, zero, suc, ◌+◌, ◌<◌, ◌≤◌, List, [], ◌∷◌, ◌++◌, length, map, flat_map, drop, get_or, drop-cons, add-one, Option, Some, None, slice_get, refl, sym, ap, ap₂, subst, ◌∙◌, arith, append_assoc, append-nil}
use Rattle.std.proofs.lemmas.List.{drop-drop}
use Rattle.std.proofs.lemmas.Option.{same_Some}
use Rattle.cc_base.specs.declared.cells.CellTy.{CellTy}
use Rattle.cc_base.specs.declared.cells.TyId.{TyId}
use Rattle.checked_memory.specs.declared.values.Cell.{Cell}
use Rattle.checked_memory.specs.declared.values.Value.{Value}
use Rattle.cc_model.specs.declared.checked.Checked.{Checked}
use Rattle.cc_model.specs.declared.trees.GlobalPart.{GlobalPart}
use Rattle.cc_model.specs.declared.trees.GlobalStart.{GlobalStart}
use Rattle.cc_model.specs.declared.trees.Item.{Item}
use Rattle.cc_model.specs.CheckedProgram.{cell_of, cells_at, start_of, starts_of, global_parts}
use Rattle.cc_model.specs.Core as core
use Rattle.cc_model.specs.Core.{Start}
use Rattle.sym_run.specs.Beside.{IsValue}
use Rattle.sym_run.specs.Remembers.{Every}
use Rattle.sym_run.specs.Starting.{value_starting, cell_starting, cells_starting}
use Rattle.sym_run.proofs.MemoryLaws.{every_push}
use Rattle.sym_run.proofs.PointerLaws.{drop_past}

-- ---- lists

item_at : {A : Type 0} (l : List A) (i : ℕ) (x : A) → slice_get l i ≡ Some x → drop i l ≡ x ∷ drop (i + 1) l
item_at [] i x h = absurd (cc h)
item_at {A = A} (y ∷ l) zero x h = ap (λ (a : A). a ∷ l) (same_Some y x h)
item_at (y ∷ l) (suc i) x h = item_at l i x h ∙ ap (λ (n : ℕ). x ∷ drop n (y ∷ l)) (let e : suc (i + 1) ≡ suc i + 1 = omega arith in e)

item_in : {A : Type 0} (l : List A) (i : ℕ) (x : A) → i < length l → x ≡ get_or l i x → drop i l ≡ x ∷ drop (i + 1) l
item_in {A = A} l i x h e = drop-cons l i x h ∙ ap (λ (y : A). y ∷ drop (suc i) l) (sym e) ∙ ap (λ (n : ℕ). x ∷ drop n l) (sym (add-one i))

past_end : {A : Type 0} (l : List A) (i : ℕ) → None ≡ slice_get l i → length l ≤ i
past_end [] i e = omega arith
past_end (x ∷ l) zero e = absurd (cc e)
past_end (x ∷ l) (suc i) e = let h = past_end l i e in omega (arith, h)

cells_both : (a b : List Start) → cells_starting (a ++ b) ≡ cells_starting a ++ cells_starting b
cells_both [] b = refl
cells_both (s ∷ a) b = ap (λ (l : List Cell). cell_starting s ∷ l) (cells_both a b)

-- ---- the cells of a global

module _ (c : Checked) (start : Option GlobalStart) where
  abbrev pub part_cells : List CellTy → List Cell
  part_cells ts = cells_starting (map (start_of c start) (map cell_of ts))

  pub part_step : (types : List CellTy) (i : ℕ) (ty : CellTy) (v : Value) (cs cs' r : List Cell) → slice_get types i ≡ Some ty → v ≡ value_starting (start_of c start (cell_of ty)) → cs' ≡ cs ++ record { value = v; shadow = 0 } ∷ []
      → cs ++ part_cells (drop i types) ≡ r → cs' ++ part_cells (drop (i + 1) types) ≡ r
  part_step types i ty v cs cs' r there is pushed h =
      ap (λ (l : List Cell). l ++ part_cells (drop (i + 1) types)) pushed
      ∙ append_assoc cs ((let x : Cell = record { value = v; shadow = 0 } in x) ∷ []) (part_cells (drop (i + 1) types))
      ∙ ap (λ (y : Value). cs ++ (let x : Cell = record { value = y; shadow = 0 } in x) ∷ part_cells (drop (i + 1) types)) is
      ∙ sym (ap (λ (a : List CellTy). cs ++ part_cells a) (item_at types i ty there)) ∙ h

  pub part_done : (types : List CellTy) (i : ℕ) (cs r : List Cell) → length types ≤ i → cs ++ part_cells (drop i types) ≡ r → cs ≡ r
  part_done types i cs r l h = sym (append-nil cs) ∙ sym (ap (λ (a : List CellTy). cs ++ part_cells a) (drop_past types i l)) ∙ h

pub values_step : (cs cs' : List Cell) (v : Value) → cs' ≡ cs ++ record { value = v; shadow = 0 } ∷ [] → IsValue v → Every (λ c. IsValue c.value) cs → Every (λ c. IsValue c.value) cs'
values_step cs cs' v pushed w h = subst (λ (l : List Cell). Every (λ c. IsValue c.value) l) (sym pushed) (every_push (λ (c : Cell). IsValue c.value) cs (record { value = v; shadow = 0 }) h w)

-- ---- the cells of globals

module _ (c : Checked) where
  starts_none : (l : List GlobalPart) → starts_of c l [] ≡ []
  starts_none [] = refl
  starts_none (p ∷ l) = refl

  starts_both : (l m : List GlobalPart) (ids : List TyId) → starts_of c (l ++ m) ids ≡ starts_of c l ids ++ starts_of c m (drop (length l) ids)
  starts_both [] m ids = refl
  starts_both (p ∷ l) m [] = sym (starts_none m)
  starts_both (p ∷ l) m (i ∷ ids) = ap (λ (k : List Start). map (start_of c p.start) (cells_at c i.0) ++ k) (starts_both l m ids) ∙ sym (append_assoc (map (start_of c p.start) (cells_at c i.0)) (starts_of c l ids) (starts_of c m (drop (length l) ids)))

  abbrev pub cells_of : List GlobalPart → List TyId → List Cell
  cells_of l ids = cells_starting (starts_of c l ids)

  pub global_step : (parts : List GlobalPart) (types : List TyId) (i : ℕ) (p : GlobalPart) (ty : TyId) (layout : List CellTy) (cs cs' r : List Cell) → i < length parts → p ≡ get_or parts i p → Some ty ≡ slice_get types i → map cell_of layout ≡ cells_at c ty.0
      → cs' ≡ cs ++ cells_starting (map (start_of c p.start) (map cell_of layout)) → cs ++ cells_of (drop i parts) (drop i types) ≡ r → cs' ++ cells_of (drop (i + 1) parts) (drop (i + 1) types) ≡ r
  global_step parts types i p ty layout cs cs' r below here there is added h =
      let rest : List Start = starts_of c (drop (i + 1) parts) (drop (i + 1) types) in
      let own : List Start = map (start_of c p.start) (cells_at c ty.0) in
      ap (λ (l : List Cell). l ++ cells_starting rest) (added ∙ ap (λ (l : List core.Cell). cs ++ cells_starting (map (start_of c p.start) l)) is)
      ∙ append_assoc cs (cells_starting own) (cells_starting rest)
      ∙ ap (λ (l : List Cell). cs ++ l) (sym (cells_both own rest))
      ∙ sym (ap₂ (λ (a : List GlobalPart) (b : List TyId). cs ++ cells_of a b) (item_in parts i p below here) (item_at types i ty (sym there))) ∙ h

  pub global_past : (parts : List GlobalPart) (types : List TyId) (i : ℕ) (cs r : List Cell) → None ≡ slice_get types i → cs ++ cells_of (drop i parts) (drop i types) ≡ r → cs ++ cells_of (drop (i + 1) parts) (drop (i + 1) types) ≡ r
  global_past parts types i cs r none h =
      let l = past_end types i none in
      ap (λ (b : List TyId). cs ++ cells_of (drop (i + 1) parts) b) (drop_past types (i + 1) (omega (arith, l)))
      ∙ ap (λ (k : List Start). cs ++ cells_starting k) (starts_none (drop (i + 1) parts) ∙ sym (starts_none (drop i parts)))
      ∙ sym (ap (λ (b : List TyId). cs ++ cells_of (drop i parts) b) (drop_past types i l)) ∙ h

  -- ---- the cells of items

  abbrev pub parts_in : List Item → List GlobalPart
  parts_in l = flat_map (global_parts c) l

  pub item_step : (items : List Item) (ids : List TyId) (i : ℕ) (x : Item) (first next : ℕ) (cs cs' r : List Cell) → i < length items → x ≡ get_or items i x → cs' ≡ cs ++ cells_of (global_parts c x) (drop first ids) → next ≡ first + length (global_parts c x)
      → cs ++ cells_of (parts_in (drop i items)) (drop first ids) ≡ r → cs' ++ cells_of (parts_in (drop (i + 1) items)) (drop next ids) ≡ r
  item_step items ids i x first next cs cs' r below here added is h =
      let own : List Start = starts_of c (global_parts c x) (drop first ids) in
      let rest : List GlobalPart = parts_in (drop (i + 1) items) in
      ap₂ (λ (l : List Cell) (b : List TyId). l ++ cells_of rest b) added (ap (λ (n : ℕ). drop n ids) is ∙ sym (drop-drop (length (global_parts c x)) first ids))
      ∙ append_assoc cs (cells_starting own) (cells_of rest (drop (length (global_parts c x)) (drop first ids)))
      ∙ ap (λ (l : List Cell). cs ++ l) (sym (cells_both own (starts_of c rest (drop (length (global_parts c x)) (drop first ids)))))
      ∙ ap (λ (l : List Start). cs ++ cells_starting l) (sym (starts_both (global_parts c x) rest (drop first ids)))
      ∙ sym (ap (λ (a : List Item). cs ++ cells_of (parts_in a) (drop first ids)) (item_in items i x below here)) ∙ h

-- ---- the same cells under another name

pub moved : (cs cs' : List Cell) → cs ≡ cs' → Every (λ c. IsValue c.value) cs → Every (λ c. IsValue c.value) cs'
moved cs cs' e h = subst (λ (l : List Cell). Every (λ c. IsValue c.value) l) e h

pub moved_cells : (cs cs' rest r : List Cell) → cs ≡ cs' → cs ++ rest ≡ r → cs' ++ rest ≡ r
moved_cells cs cs' rest r e h = subst (λ (l : List Cell). l ++ rest ≡ r) e h
