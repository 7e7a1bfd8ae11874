-- In a checked program each type that a pointer cell points to has a cell.
use Rattle.std.proofs.Common.{◌≡◌, ℕ, zero, suc, ◌<◌, ◌≤◌, inl, inr, Bool, true, false, true≢false, nat_eq, List, [], ◌∷◌, map, length, slice_get, unwrap_or, option_map, Option, Some, None, refl, sym, ap, ◌∙◌, subst, arith, if◌then◌else◌}
use Rattle.cc_base.specs.Paths.{In}
use Rattle.cc_base.specs.declared.cells.CellTy.{CellTy}
use Rattle.cc_base.specs.declared.cells.CellTy.TheVariants as cell
use Rattle.cc_model.specs.declared.tokens.Token.{Token}
use Rattle.cc_model.specs.declared.checked.Ty.{Ty}
use Rattle.cc_model.specs.declared.checked.Sig.{Sig}
use Rattle.cc_model.specs.declared.checked.Target.{Target}
use Rattle.cc_model.specs.declared.checked.Target.TheVariants as target
use Rattle.cc_base.specs.declared.cells.TyId.{TyId}
use Rattle.cc_model.specs.declared.checked.Checked.{Checked}
use Rattle.cc_model.specs.declared.typing.CType.{CType}
use Rattle.cc_model.specs.declared.typing.File.{File}
use Rattle.cc_model.specs.declared.typing.Function.{Function}
use Rattle.cc_model.specs.declared.typing.Note.{Note}
use Rattle.cc_model.specs.declared.typing.Note.TheVariants.{Fault as fault, Means as means, Typed as typed, Null as null, Declares as declares}
use Rattle.cc_model.specs.declared.trees.Param.{Param}
use Rattle.cc_model.specs.declared.trees.Func as source_func
use Rattle.cc_model.specs.declared.trees.Item.{Item}
use Rattle.cc_model.specs.Core.{Cell, int_cell, ptr_cell}
use Rattle.cc_model.specs.Resolve.{first_cell, param_of}
use Rattle.cc_model.specs.Types.{void_type, is_pointer, is_array, TypeCell, number_cell, pointer_cell}
use Rattle.cc_model.specs.Scopes.{Text, tags_of, nothing_before, file_of}
use Rattle.cc_model.specs.Faults.{part_of, notes_in, faults_among}
use Rattle.cc_model.specs.Spots.{kind_at}
use Rattle.cc_model.specs.Reads.{Reads}
use Rattle.cc_model.specs.Runs.{params_of, params_of_func}
use Rattle.cc_model.specs.Graphs.{PointsToCells}
use Rattle.cc_model.specs.CheckedProgram.{stands_for_null, type_noted, type_at, declared_types, expression_tokens, expression_types, Denotes, Mentioned, cells_after, layout_of, AreCells, IsChecked, cell_of, cells_at, layout_at, slot_layout, facts_in, name_at, body_in, func_if, funcs_from, core_of}
use Rattle.cc_laws.proofs.Members.{from_map}
use Rattle.cc_laws.proofs.StructCells.{Every, every_in, IsTyped, PointsWell, AllPoint, cells_point, structs_point, AllBegin, HasCell, pointed_has}
use Rattle.cc_laws.proofs.NamedTypes.{Found, IsKnown, IsFunction, IsFile, structs_number, nothing_is, file_is}
use Rattle.cc_laws.proofs.NotedTypes.{AllNotes}
use Rattle.cc_laws.proofs.NotedBodies.{all_said}
use Rattle.cc_laws.proofs.FirstFields.{items_have, both_empty, all_begin}

-- ---- types that are mentioned

module _ (n : ℕ) where
  known_if : (b : Bool) (s t : CType) → IsKnown n s → IsKnown n t → IsKnown n (if b then s else t)
  known_if true s t h k = h
  known_if false s t h k = k

  noted_known : (l : List Note) (t : ℕ) → AllNotes n l → IsKnown n (type_noted l t)
  noted_known [] t h = inr refl
  noted_known (typed at s ∷ l) t h = known_if (nat_eq at t) s (type_noted l t) h.0 (noted_known l t h.1)
  noted_known (fault w at ∷ l) t h = noted_known l t h.1
  noted_known (means at a ∷ l) t h = noted_known l t h.1
  noted_known (null at ∷ l) t h = noted_known l t h.1
  noted_known (declares at s ∷ l) t h = noted_known l t h.1

  type_known : (l : List Note) (t : ℕ) → AllNotes n l → IsKnown n (type_at l t)
  type_known l t h = known_if (stands_for_null l t) void_type (type_noted l t) (inr refl) (noted_known l t h)

  declared_known : (l : List Note) (t : CType) → AllNotes n l → In t (declared_types l) → IsKnown n t
  declared_known [] t h i = absurd i
  declared_known (declares at s ∷ l) t h (inl e) = subst (IsKnown n) (sym e) h.0
  declared_known (declares at s ∷ l) t h (inr i) = declared_known l t h.1 i
  declared_known (typed at s ∷ l) t h i = declared_known l t h.1 i
  declared_known (fault w at ∷ l) t h i = declared_known l t h.1 i
  declared_known (means at a ∷ l) t h i = declared_known l t h.1 i
  declared_known (null at ∷ l) t h i = declared_known l t h.1 i

  not_of_void : (f : CType → Bool) (t : CType) → f void_type ≡ false → f t ≡ true → t ≡ void_type → ⊥
  not_of_void f t e i j = true≢false (sym i ∙ ap f j ∙ e)

  pub mentioned_known : (text : ℕ → Text) (items : List Item) (notes : List Note) (functions : List Function) {t : CType} → AllNotes n notes → Every (IsFunction n) functions
      → Mentioned notes (map (type_at notes) (expression_tokens items)) functions t → IsKnown n t
  mentioned_known text items notes functions h k Mentioned.void = inr refl
  mentioned_known text items notes functions h k (Mentioned.expression t i) = let r = from_map (type_at notes) t (expression_tokens items) i in subst (IsKnown n) (sym r.2) (type_known notes r.0 h)
  mentioned_known text items notes functions h k (Mentioned.declaration t i) = declared_known notes t h i
  mentioned_known text items notes functions h k (Mentioned.result f t i e) = subst (Found (IsKnown n)) e (every_in (IsFunction n) functions f i k).result
  mentioned_known text items notes functions h k (Mentioned.param f t i j) = inl (every_in (IsTyped n) f.params (Some t) j (every_in (IsFunction n) functions f i k).params)
  mentioned_known text items notes functions h k (Mentioned.pointed s m e) = elim (mentioned_known text items notes functions h k m) [ inl b ↦ inl b | inr i ↦ absurd (not_of_void is_pointer s refl e i) ]
  mentioned_known text items notes functions h k (Mentioned.element s m e) = elim (mentioned_known text items notes functions h k m) [ inl b ↦ inl b | inr i ↦ absurd (not_of_void is_array s refl e i) ]

  layout_points : (file : File) (t : CType) → IsFile n file → IsKnown n t → AllPoint n (layout_of file t)
  layout_points file t h (inl b) = cells_point n (cells_after [] file.structs) t (structs_point n [] file.structs tt h.structs) b
  layout_points file t h (inr e) = subst (λ s. AllPoint n (layout_of file s)) (sym e) tt

-- ---- cells by their numbers

target_in : Cell → ℕ
target_in int_cell = 0
target_in (ptr_cell t) = t

is_ptr : Cell → Bool
is_ptr int_cell = false
is_ptr (ptr_cell t) = true

no_int : (t : ℕ) → ptr_cell t ≡ int_cell → ⊥
unfolding is_ptr
no_int t e = true≢false (ap is_ptr e)

same_target : (t m : ℕ) → ptr_cell t ≡ ptr_cell m → m ≡ t
unfolding target_in
same_target t m e = sym (ap target_in e)

-- a pointer cell among cells of types is one to a type
pointed_type : (n : ℕ) (tys : List Ty) (t : ℕ) (cs : List CellTy) (ds : List TypeCell) → AreCells tys cs ds → AllPoint n ds → In (ptr_cell t) (map cell_of cs)
    → (u : CType) × Denotes tys t u × PointsWell n (pointer_cell u)
pointed_type n tys t [] ds h k i = absurd i
pointed_type n tys t (c ∷ cs) [] h k i = absurd h
pointed_type n tys t (c ∷ cs) (d ∷ ds) h k (inr i) = pointed_type n tys t cs ds h.1 k.1 i
pointed_type n tys t (cell.Int ∷ cs) (d ∷ ds) h k (inl e) = absurd (no_int t e)
pointed_type n tys t (cell.Ptr m ∷ cs) (number_cell ∷ ds) h k (inl e) = absurd h.0
pointed_type n tys t (cell.Ptr m ∷ cs) (pointer_cell u ∷ ds) h k (inl e) = (u, subst (λ j. Denotes tys j u) (same_target t m.0 e) h.0, k.0)

as_many : (tys : List Ty) (cs : List CellTy) (ds : List TypeCell) → AreCells tys cs ds → HasCell ds → 1 ≤ length (map cell_of cs)
as_many tys [] [] h k = k
as_many tys [] (d ∷ ds) h k = absurd h
as_many tys (c ∷ cs) [] h k = absurd h
as_many tys (c ∷ cs) (d ∷ ds) h k = omega arith

is_there : (x : Cell) (l : List (List CellTy)) (s : ℕ) → In x (map cell_of (unwrap_or (slice_get l s) [])) → s < length l
is_there x [] s i = absurd i
is_there x (a ∷ l) zero i = omega arith
is_there x (a ∷ l) (suc s) i = omega (arith, is_there x l s i)

-- ---- parameters: a pointer cell of one is among the cells of a type

first_in : (t : ℕ) (cs : List Cell) → ptr_cell t ≡ first_cell cs → In (ptr_cell t) cs
first_in t [] e = absurd (no_int t e)
first_in t (c ∷ cs) e = inl e

module _ (c : Checked) where
  unwrapped : (o : Option TyId) → (k : ℕ) × (unwrap_or (option_map (λ i. layout_at c i.0) o) (layout_at c 0) ≡ layout_at c k)
  unwrapped None = (0, refl)
  unwrapped (Some i) = (i.0, refl)

  slot_is : (o : Option Sig) (w : Option Target) → (k : ℕ) × (slot_layout c o w ≡ layout_at c k)
  slot_is None w = (0, refl)
  slot_is (Some s) None = (0, refl)
  slot_is (Some s) (Some (target.Local m)) = unwrapped (slice_get s.slots m)
  slot_is (Some s) (Some (target.Global m)) = (0, refl)
  slot_is (Some s) (Some (target.Func m)) = (0, refl)
  slot_is (Some s) (Some (target.Field m)) = (0, refl)

  abbrev AmongCells : ℕ → Type 0
  AmongCells t = (k : ℕ) × In (ptr_cell t) (cells_at c k)

  param_among : (j t : ℕ) (l : List Param) → In (ptr_cell t) (map (param_of (facts_in c j)) l) → AmongCells t
  param_among j t l i = let p = from_map (param_of (facts_in c j)) (ptr_cell t) l i in let s = slot_is (slice_get c.funcs j) (name_at c (p.0).name) in
      (s.0, first_in t (cells_at c s.0) (p.2 ∙ ap (λ a. first_cell a.cells) s.1))

  body_among : (j t : ℕ) (o : Option source_func.Func) → In (ptr_cell t) (func_if c j o).params → AmongCells t
  body_among j t None i = absurd i
  body_among j t (Some f) i = param_among j t f.params i

  func_among : (j t : ℕ) (l : List Sig) (m : ℕ) → In (ptr_cell t) (params_of_func (slice_get (funcs_from c j l) m)) → AmongCells t
  func_among j t [] m i = absurd i
  func_among j t (s ∷ l) zero i = body_among j t (body_in c j (c.program).items) i
  func_among j t (s ∷ l) (suc m) i = func_among (suc j) t l m i

  -- ---- of a checked program

  module _ (text : ℕ → Text) (tokens : List Token) (entry : Text) (fits : ℕ → ℕ → Bool) (ok : IsChecked text tokens entry c) (read : Reads fits tokens c.program) where
    abbrev items : List Item
    items = (c.program).items

    abbrev file : File
    file = file_of text items

    abbrev number : ℕ
    number = length (tags_of text items)

    begins : AllBegin 0 file.structs
    begins = all_begin text file number refl (part_of text file) nothing_before items (omega arith) (nothing_is number) (items_have (kind_at tokens) fits read.items)
        (both_empty (faults_among (notes_in text items)) _ ok.well_typed)

    known : (t : CType) → Mentioned (notes_in text items) (expression_types text items) file.functions t → IsKnown number t
    known t m = mentioned_known number text items (notes_in text items) file.functions (all_said text items) (file_is text items).functions m

    target_has : (t : ℕ) (u : CType) → Denotes c.tys t u → PointsWell number (pointer_cell u) → 1 ≤ length (cells_at c t)
    target_has t u d p = let l = ok.layout t u d in
        subst (λ o. 1 ≤ length (map cell_of (unwrap_or o []))) (sym (l.1).0) (as_many c.tys l.0 (layout_of file u) (l.1).1
        (pointed_has file.structs u begins (subst (λ m. PointsWell m (pointer_cell u)) (sym (structs_number text (tags_of text items) nothing_before items)) p)))

    cell_has : (t s : ℕ) → In (ptr_cell t) (cells_at c s) → 1 ≤ length (cells_at c t)
    cell_has t s i = let own = ok.types.only s (subst (λ m. s < m) ok.layouts (is_there (ptr_cell t) c.layouts s i)) in let l = ok.layout s own.0 (own.1).0 in
        let u = pointed_type number c.tys t l.0 (layout_of file own.0) (l.1).1 (layout_points number file own.0 (file_is text items) (known own.0 (own.1).1)) (subst (λ o. In (ptr_cell t) (map cell_of (unwrap_or o []))) (l.1).0 i) in
        target_has t u.0 u.1 u.2

    pub points_to_cells : PointsToCells (core_of c).layouts (params_of (core_of c))
    points_to_cells t (inl i) = let a = func_among 0 t c.funcs c.entry i in cell_has t a.0 a.1
    points_to_cells t (inr h) = cell_has t h.0 h.1
