-- Two checked programs of the same trees differ by the numbers of types alone.
use Rattle.std.proofs.Common.{◌≡◌, ℕ, zero, suc, ◌+◌, ◌<◌, ◌≤◌, ◌⊎◌, inl, inr, List, [], ◌∷◌, ◌++◌, map, flat_map, length, take, Option, Some, None, slice_get, unwrap_or, option_map, option_and_then, position, nat_eq, refl, sym, ap, ap₂, subst, ◌∙◌, arith, length-append, if◌then◌else◌}
use Rattle.std.proofs.lemmas.List.{length-map}
use Rattle.std.proofs.lemmas.Option.{slice_get-map, slice_get_past}
use Rattle.cc_base.specs.declared.cells.TyId.{TyId}
use Rattle.cc_base.specs.declared.cells.CellTy.{CellTy}
use Rattle.cc_base.specs.declared.cells.CellTy.TheVariants as cell
use Rattle.cc_model.specs.declared.tokens.Token.{Token}
use Rattle.cc_model.specs.declared.checked.Ty.{Ty}
use Rattle.cc_model.specs.declared.checked.Ty.TheVariants as ty
use Rattle.cc_model.specs.declared.checked.Target.{Target}
use Rattle.cc_model.specs.declared.checked.Target.TheVariants as target
use Rattle.cc_model.specs.declared.checked.Sig.{Sig}
use Rattle.cc_model.specs.declared.checked.Checked.{Checked}
use Rattle.cc_model.specs.declared.typing.Function.{Function}
use Rattle.cc_model.specs.declared.trees.Func as source_func
use Rattle.cc_model.specs.declared.trees.StartValue.{StartValue}
use Rattle.cc_model.specs.declared.trees.StartValue.TheVariants as start_value
use Rattle.cc_model.specs.declared.trees.GlobalStart.{GlobalStart}
use Rattle.cc_model.specs.declared.trees.GlobalPart.{GlobalPart}
use Rattle.cc_model.specs.declared.trees.Item.{Item}
use Rattle.cc_model.specs.declared.trees.Item.TheVariants as item
use Rattle.cc_model.specs.Core.{Cell, int_cell, ptr_cell}
use Rattle.cc_model.specs.Resolve.{first_cell}
use Rattle.cc_model.specs.Scopes.{Text, file_of}
use Rattle.cc_model.specs.Types.{TypeCell, number_cell, pointer_cell}
use Rattle.cc_model.specs.Faults.{notes_in}
use Rattle.cc_model.specs.CheckedProgram.{expression_tokens, expression_types, Denotes, AllDenote, layout_of, AreCells, IsSig, AreSigs, IsChecked, cell_of, flat, target_id, array_length, element_id, is_void_ty, cells_at, layout_at, name_at, expression_type, cells_of_all, slot_layout, result_cell, sig_named, facts_in, is_func, body_in, func_if, funcs_from, started, start_of, starts_of, global_parts, core_of}
use Rattle.source_laws.specs.Renumbering.{renumber_cell, renumber_layout, renumber_func, Renumbers}
use Rattle.source_laws.specs.Settled.{Due, func_dues, IsPointer, IsArray, HasSlot, IsPaid, ArePaid, IsSettled}
use Rattle.source_laws.proofs.TypeNumbers.{renumber_entry, same_ids, number_of, moved, past, one_to_one, entry_same}
use Rattle.source_laws.proofs.SameBodies.{SameFacts, func_same}
use Rattle.cc_laws.proofs.StructCells.{Every}

same_some : {X : Type 0} (x y : X) → Some x ≡ Some y → x ≡ y
same_some x y h = cc h

within : (m n : ℕ) → (n < m) ⊎ (m ≤ n)
within m n = grind arith

-- of the trees of c
module _ (text : ℕ → Text) (tokens : List Token) (entry : Text) (c e : Checked) (ok : IsChecked text tokens entry c) (fine : IsChecked text tokens entry (record e { program = c.program })) where
  abbrev d : Checked
  d = record e { program = c.program }

  pub r : ℕ → ℕ
  r n = number_of (notes_in text (c.program).items) (expression_types text (c.program).items) (file_of text (c.program).items).functions c.tys d.tys ok.types fine.types n

  r_moved : (n : ℕ) (t : _) → Denotes c.tys n t → Denotes d.tys (r n) t
  unfolding r
  r_moved = moved (notes_in text (c.program).items) (expression_types text (c.program).items) (file_of text (c.program).items).functions c.tys d.tys ok.types fine.types

  r_past : (n : ℕ) → length c.tys ≤ n → length d.tys ≤ r n
  unfolding r
  r_past = past (notes_in text (c.program).items) (expression_types text (c.program).items) (file_of text (c.program).items).functions c.tys d.tys ok.types fine.types

  r_one : (m n : ℕ) → r m ≡ r n → m ≡ n
  unfolding r
  r_one = one_to_one (notes_in text (c.program).items) (expression_types text (c.program).items) (file_of text (c.program).items).functions c.tys d.tys ok.types fine.types

  abbrev id : TyId → TyId
  id i = record { 0 = r i.0 }

  abbrev again : Ty → Ty
  again y = renumber_entry c.tys d.tys r y

  r_entry : (n : ℕ) → slice_get d.tys (r n) ≡ option_map again (slice_get c.tys n)
  unfolding r
  r_entry = entry_same (notes_in text (c.program).items) (expression_types text (c.program).items) (file_of text (c.program).items).functions c.tys d.tys ok.types fine.types

  ids_same : (is js : List TyId) (ts : List _) → AllDenote c.tys is ts → AllDenote d.tys js ts → js ≡ map id is
  ids_same = same_ids c.tys d.tys r r_moved (fine.types).once

  -- ---- cells

  abbrev recell : List Cell → List Cell
  recell cs = map (renumber_cell r) cs

  cells_same : (cs ds : List CellTy) (ts : List TypeCell) → AreCells c.tys cs ts → AreCells d.tys ds ts → map cell_of ds ≡ recell (map cell_of cs)
  cells_same [] [] [] h k = refl
  cells_same (cell.Int ∷ cs) (cell.Int ∷ ds) (t ∷ ts) h k = ap (λ l. int_cell ∷ l) (cells_same cs ds ts h.1 k.1)
  cells_same (cell.Ptr m ∷ cs) (cell.Ptr o ∷ ds) (pointer_cell t ∷ ts) h k = ap₂ (λ n l. ptr_cell n ∷ l) ((fine.types).once o.0 (r m.0) t k.0 (r_moved m.0 t h.0)) (cells_same cs ds ts h.1 k.1)
  cells_same (cell.Ptr m ∷ cs) (cell.Ptr o ∷ ds) (number_cell ∷ ts) h k = absurd h.0
  cells_same (cell.Int ∷ cs) (cell.Ptr o ∷ ds) (number_cell ∷ ts) h k = absurd k.0
  cells_same (cell.Int ∷ cs) (cell.Ptr o ∷ ds) (pointer_cell t ∷ ts) h k = absurd h.0
  cells_same (cell.Ptr m ∷ cs) (cell.Int ∷ ds) (number_cell ∷ ts) h k = absurd h.0
  cells_same (cell.Ptr m ∷ cs) (cell.Int ∷ ds) (pointer_cell t ∷ ts) h k = absurd k.0
  cells_same [] [] (t ∷ ts) h k = absurd h
  cells_same [] (x ∷ ds) [] h k = absurd k
  cells_same [] (x ∷ ds) (t ∷ ts) h k = absurd h
  cells_same (y ∷ cs) ds [] h k = absurd h
  cells_same (y ∷ cs) [] (t ∷ ts) h k = absurd k

  laid_by : (n : ℕ) → (n < length c.tys) ⊎ (length c.tys ≤ n) → cells_at d (r n) ≡ recell (cells_at c n)
  laid_by n (inl h) =
      let t = (ok.types).only n h in
      let k = ok.layout n t.0 (t.1).0 in
      let m = fine.layout (r n) t.0 (r_moved n t.0 (t.1).0) in
      ap (λ o. map cell_of (unwrap_or o [])) (m.1).0 ∙ cells_same k.0 m.0 (layout_of (file_of text (c.program).items) t.0) (k.1).1 (m.1).1
      ∙ sym (ap (λ o. recell (map cell_of (unwrap_or o []))) (k.1).0)
  laid_by n (inr h) =
      ap (λ o. map cell_of (unwrap_or o [])) (slice_get_past d.layouts (r n) (subst (λ m. m ≤ r n) (sym fine.layouts) (r_past n h)))
      ∙ sym (ap (λ o. recell (map cell_of (unwrap_or o []))) (slice_get_past c.layouts n (subst (λ m. m ≤ n) (sym ok.layouts) h)))

  laid : (n : ℕ) → cells_at d (r n) ≡ recell (cells_at c n)
  laid n = laid_by n (within (length c.tys) n)

  layout_same : (n : ℕ) → layout_at d (r n) ≡ renumber_layout r (layout_at c n)
  layout_same n = ap (λ l. record { type = r n; cells = l }) (laid n)

  -- ---- names

  names_by : (t : ℕ) → (t < length tokens) ⊎ (length tokens ≤ t) → slice_get d.names t ≡ slice_get c.names t
  names_by t (inl h) = fine.name t h ∙ sym (ok.name t h)
  names_by t (inr h) = slice_get_past d.names t (subst (λ m. m ≤ t) (sym fine.names) h) ∙ sym (slice_get_past c.names t (subst (λ m. m ≤ t) (sym ok.names) h))

  names_same : (t : ℕ) → name_at d t ≡ name_at c t
  names_same t = ap flat (names_by t (within (length tokens) t))

  -- ---- types of expressions

  expressions_same : d.expr_tys ≡ map id c.expr_tys
  expressions_same = ids_same c.expr_tys d.expr_tys (expression_types text (c.program).items) ok.expressions fine.expressions

  entry_by : (o : Option TyId) → option_and_then (λ i. slice_get d.tys i.0) (option_map id o) ≡ option_map again (option_and_then (λ i. slice_get c.tys i.0) o)
  entry_by None = refl
  entry_by (Some i) = r_entry i.0

  type_by : (o : Option ℕ) (n : ℕ) → option_and_then (λ k. option_and_then (λ i. slice_get d.tys i.0) (slice_get d.expr_tys (k + n))) o
      ≡ option_map again (option_and_then (λ k. option_and_then (λ i. slice_get c.tys i.0) (slice_get c.expr_tys (k + n))) o)
  type_by None n = refl
  type_by (Some k) n = ap (option_and_then (λ i. slice_get d.tys i.0)) (ap (λ l. slice_get l (k + n)) expressions_same ∙ slice_get-map id c.expr_tys (k + n)) ∙ entry_by (slice_get c.expr_tys (k + n))

  abbrev places : List ℕ
  places = expression_tokens (c.program).items

  type_same : (t n : ℕ) → expression_type d places t n ≡ option_map again (expression_type c places t n)
  type_same t n = type_by (position (nat_eq t) places) n

  void_same : (o : Option Ty) → is_void_ty (option_map again o) ≡ is_void_ty o
  void_same None = refl
  void_same (Some ty.Int) = refl
  void_same (Some ty.Void) = refl
  void_same (Some (ty.Struct k)) = refl
  void_same (Some (ty.Ptr m)) = refl
  void_same (Some (ty.Array m n)) = refl

  length_same : (o : Option Ty) → array_length (option_map again o) ≡ array_length o
  length_same None = refl
  length_same (Some ty.Int) = refl
  length_same (Some ty.Void) = refl
  length_same (Some (ty.Struct k)) = refl
  length_same (Some (ty.Ptr m)) = refl
  length_same (Some (ty.Array m n)) = refl

  target_same : (o : Option Ty) → IsPointer o → target_id (option_map again o) ≡ r (target_id o)
  target_same None h = absurd h
  target_same (Some ty.Int) h = absurd h
  target_same (Some ty.Void) h = absurd h
  target_same (Some (ty.Struct k)) h = absurd h
  target_same (Some (ty.Ptr m)) h = refl
  target_same (Some (ty.Array m n)) h = absurd h

  element_same : (o : Option Ty) → IsArray o → element_id (option_map again o) ≡ r (element_id o)
  element_same None h = absurd h
  element_same (Some ty.Int) h = absurd h
  element_same (Some ty.Void) h = absurd h
  element_same (Some (ty.Struct k)) h = absurd h
  element_same (Some (ty.Ptr m)) h = absurd h
  element_same (Some (ty.Array m n)) h = refl

  -- ---- functions by their types

  abbrev resign : Sig → Sig
  resign s = record { params = map id s.params; result = id s.result; slots = map id s.slots }

  head_same : (i j : TyId) (l m : List TyId) → i ∷ l ≡ j ∷ m → i ≡ j
  head_same i j l m h = cc h

  sig_same : (f : Function) (s u : Sig) → IsSig text (c.program).items c.tys f s → IsSig text (c.program).items d.tys f u → u ≡ resign s
  sig_same f s u h k = ap₂ (λ a b. record { params = a; result = b; slots = u.slots }) (ids_same s.params u.params _ h.params k.params)
      (head_same u.result (id s.result) [] [] (ids_same (s.result ∷ []) (u.result ∷ []) _ h.result k.result))
      ∙ ap (λ a. record { params = map id s.params; result = id s.result; slots = a }) (ids_same s.slots u.slots _ h.slots k.slots)

  sigs_same : (fs : List Function) (ss us : List Sig) → AreSigs text (c.program).items c.tys fs ss → AreSigs text (c.program).items d.tys fs us → us ≡ map resign ss
  sigs_same [] [] [] h k = refl
  sigs_same (f ∷ fs) (s ∷ ss) (u ∷ us) h k = ap₂ (λ a b. a ∷ b) (sig_same f s u h.0 k.0) (sigs_same fs ss us h.1 k.1)
  sigs_same [] [] (u ∷ us) h k = absurd k
  sigs_same [] (s ∷ ss) us h k = absurd h
  sigs_same (f ∷ fs) [] us h k = absurd h
  sigs_same (f ∷ fs) (s ∷ ss) [] h k = absurd k

  funcs_same : d.funcs ≡ map resign c.funcs
  funcs_same = sigs_same (file_of text (c.program).items).functions c.funcs d.funcs ok.funcs fine.funcs

  func_at : (n : ℕ) → slice_get d.funcs n ≡ option_map resign (slice_get c.funcs n)
  func_at n = ap (λ l. slice_get l n) funcs_same ∙ slice_get-map resign c.funcs n

  first_same : (cs : List Cell) → first_cell (recell cs) ≡ renumber_cell r (first_cell cs)
  first_same [] = refl
  first_same (x ∷ cs) = refl

  result_by : (o : Option Sig) → result_cell d (option_map resign o) ≡ renumber_cell r (result_cell c o)
  result_by None = refl
  result_by (Some s) = ap first_cell (laid (s.result).0) ∙ first_same (cells_at c (s.result).0)

  result_same : (o : Option Target) → result_cell d (sig_named d o) ≡ renumber_cell r (result_cell c (sig_named c o))
  result_same None = refl
  result_same (Some (target.Func n)) = ap (result_cell d) (func_at n) ∙ result_by (slice_get c.funcs n)
  result_same (Some (target.Local n)) = refl
  result_same (Some (target.Global n)) = refl
  result_same (Some (target.Field n)) = refl

  slot_at : (l : List TyId) (n : ℕ) → n < length l → unwrap_or (option_map (λ i. layout_at d i.0) (slice_get (map id l) n)) (layout_at d 0)
      ≡ renumber_layout r (unwrap_or (option_map (λ i. layout_at c i.0) (slice_get l n)) (layout_at c 0))
  slot_at [] n h = absurd (omega (arith, h))
  slot_at (i ∷ l) zero h = layout_same i.0
  slot_at (i ∷ l) (suc n) h = slot_at l n (omega (arith, h))

  slot_same : (o : Option Sig) (w : Option Target) → HasSlot o w → slot_layout d (option_map resign o) w ≡ renumber_layout r (slot_layout c o w)
  slot_same (Some s) (Some (target.Local n)) h = slot_at s.slots n h
  slot_same (Some s) (Some (target.Global n)) h = absurd h
  slot_same (Some s) (Some (target.Func n)) h = absurd h
  slot_same (Some s) (Some (target.Field n)) h = absurd h
  slot_same (Some s) None h = absurd h
  slot_same None w h = absurd h

  -- ---- globals

  globals_same : d.globals ≡ map id c.globals
  globals_same = ids_same c.globals d.globals _ ok.globals fine.globals

  many_same : (n : ℕ) (l : List TyId) → length (cells_of_all d (take n (map id l))) ≡ length (cells_of_all c (take n l))
  many_same zero l = refl
  many_same (suc n) [] = refl
  many_same (suc n) (i ∷ l) = length-append (cells_at d (r i.0)) (cells_of_all d (take n (map id l)))
      ∙ ap₂ (λ a b. a + b) (ap length (laid i.0) ∙ length-map (cells_at c i.0) (renumber_cell r)) (many_same n l)
      ∙ sym (length-append (cells_at c i.0) (cells_of_all c (take n l)))

  started_same : (s : StartValue) (x : Cell) → started d s (renumber_cell r x) ≡ started c s x
  started_same (start_value.Number t z) int_cell = refl
  started_same (start_value.Number t z) (ptr_cell n) = refl
  started_same (start_value.Negative m t z) int_cell = refl
  started_same (start_value.Negative m t z) (ptr_cell n) = refl
  started_same (start_value.Null t) x = refl

  start_same : (o : Option GlobalStart) (x : Cell) → start_of d o (renumber_cell r x) ≡ start_of c o x
  start_same None int_cell = refl
  start_same None (ptr_cell n) = refl
  start_same (Some s) x = started_same s.value x

  cells_start : (o : Option GlobalStart) (cs : List Cell) → map (start_of d o) (recell cs) ≡ map (start_of c o) cs
  cells_start o [] = refl
  cells_start o (x ∷ cs) = ap₂ (λ a b. a ∷ b) (start_same o x) (cells_start o cs)

  starts_same : (ps : List GlobalPart) (l : List TyId) → starts_of d ps (map id l) ≡ starts_of c ps l
  starts_same [] l = refl
  starts_same (p ∷ ps) [] = refl
  starts_same (p ∷ ps) (i ∷ l) = ap₂ (λ a b. a ++ b) (ap (map (start_of d p.start)) (laid i.0) ∙ cells_start p.start (cells_at c i.0)) (starts_same ps l)

  parts_same : (l : List Item) → flat_map (global_parts d) l ≡ flat_map (global_parts c) l
  parts_same [] = refl
  parts_same (item.Func f ∷ l) = parts_same l
  parts_same (item.Alias a b ∷ l) = parts_same l
  parts_same (item.Struct a ∷ l) = parts_same l
  parts_same (item.Globals a b ∷ l) = ap (λ m. b ++ m) (parts_same l)
  parts_same (item.Prototype a b x ∷ l) = parts_same l

  -- ---- what is told of tokens

  facts_same : (k : ℕ) → SameFacts r (IsPaid c k) (facts_in c k) (facts_in d k)
  facts_same k = record {
    names = names_same;
    global_cells = λ n. ap (λ l. length (cells_of_all d (take n l))) globals_same ∙ many_same n c.globals;
    is_null = λ t. ap is_void_ty (type_same t 0) ∙ void_same (expression_type c places t 0);
    lengths = λ t. ap array_length (type_same t 1) ∙ length_same (expression_type c places t 1);
    results = λ t. ap (λ o. result_cell d (sig_named d o)) (names_same t) ∙ result_same (name_at c t);
    made = λ t h. ap (layout_at d) (ap target_id (type_same t 0) ∙ target_same (expression_type c places t 0) h) ∙ layout_same (target_id (expression_type c places t 0));
    widths = λ t h. ap (λ n. length (cells_at d n)) (ap element_id (type_same t 1) ∙ element_same (expression_type c places t 1) h)
        ∙ ap length (laid (element_id (expression_type c places t 1))) ∙ length-map (cells_at c (element_id (expression_type c places t 1))) (renumber_cell r);
    declared = λ t h. ap₂ (λ o w. slot_layout d o w) (func_at k) (names_same t) ∙ slot_same (slice_get c.funcs k) (name_at c t) h;
  }

  -- ---- functions

  body_same : (n : ℕ) (l : List Item) → body_in d n l ≡ body_in c n l
  body_same n [] = refl
  body_same n (item.Func f ∷ l) = ap₂ (λ o b. if is_func d n o then Some f else b) (names_same f.name) (body_same n l)
  body_same n (item.Alias a b ∷ l) = body_same n l
  body_same n (item.Struct a ∷ l) = body_same n l
  body_same n (item.Globals a b ∷ l) = body_same n l
  body_same n (item.Prototype a b x ∷ l) = body_same n l

  paid : (k : ℕ) (l : List Due) → ArePaid c k l → Every (IsPaid c k) l
  paid k [] h = tt
  paid k (x ∷ l) h = (h.0, paid k l h.1)

  module _ (settled : IsSettled c) where
    func_by : (n : ℕ) (o : Option source_func.Func) → body_in c n (c.program).items ≡ o → func_if d n o ≡ renumber_func r (func_if c n o)
    func_by n None h = refl
    func_by n (Some f) h = func_same r (IsPaid c n) (facts_in c n) (facts_in d n) (facts_same n) f (paid n (func_dues f) (settled n f h))

    all_same : (n : ℕ) (l : List Sig) → funcs_from d n (map resign l) ≡ map (renumber_func r) (funcs_from c n l)
    all_same n [] = refl
    all_same n (s ∷ l) = ap₂ (λ a b. a ∷ b) (ap (func_if d n) (body_same n (c.program).items) ∙ func_by n (body_in c n (c.program).items) refl) (all_same (suc n) l)

    pub renumbered : Renumbers r (core_of c) (core_of d)
    renumbered = record {
      one_to_one = r_one;
      layouts = laid;
      funcs = ap (funcs_from d 0) funcs_same ∙ all_same 0 c.funcs;
      line = λ t. ap (λ l. unwrap_or (slice_get l t) 0) (fine.lines ∙ sym ok.lines);
      globals = ap₂ (starts_of d) (parts_same (c.program).items) globals_same ∙ starts_same (flat_map (global_parts c) (c.program).items) c.globals;
      entry = same_some d.entry c.entry (sym fine.tested ∙ ok.tested);
    }
