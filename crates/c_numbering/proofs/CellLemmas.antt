-- The cells of types, in a table that grows.
use Rattle.std.proofs.Common.{◌≡◌, ◌≢◌, ◌∙◌, sym, ap, refl, subst, arith, ℕ, zero, suc, ◌+◌, ◌-◌, ◌<◌, ◌≤◌, ◌⊎◌, inl, inr, List, [], ◌∷◌, ◌++◌, length, take, drop, get_or, replicate, slice_get, unwrap_or, Some, None, Result, Ok, Err, IfOk}
use Rattle.std.specs.List.{flat_map}
use Rattle.std.proofs.lemmas.List.{append-nil, append_assoc, length-append, take_more, replicate_more, flat_map_more}
use Rattle.cc_base.specs.declared.cells.CellTy.{CellTy}
use Rattle.cc_base.specs.declared.cells.CellTy.TheVariants as cell
use Rattle.cc_base.specs.declared.cells.TyId.{TyId}
use Rattle.cc_model.specs.declared.checked.Ty.{Ty}
use Rattle.cc_model.specs.declared.checked.Ty.TheVariants as ty
use Rattle.cc_model.specs.declared.typing.BaseType.{BaseType}
use Rattle.cc_model.specs.declared.typing.BaseType.TheVariants.{Int as int_base, Void as void_base, Struct as struct_base}
use Rattle.cc_model.specs.declared.typing.CType.{CType}
use Rattle.cc_model.specs.declared.typing.Member.{Member}
use Rattle.cc_model.specs.Types.{TypeCell, number_cell, pointer_cell, cells_in}
use Rattle.cc_model.specs.CheckedProgram.{Denotes, IsCell, AreCells, cells_if, struct_cells, cells_after}
use Rattle.c_numbering.specs.Table.{plain, array_of, base_ty, Asked, pointed, element, Continues, RefersBelow, Numbered}
use Rattle.c_numbering.specs.Layouts.{times, AllCells, TypeLaid, FieldsLaid, StructsLaid, entry_cells, entries_cells, AreLayouts, LaidOut}
use Rattle.c_numbering.proofs.DenotesLemmas.{below_push, drop_here, in_left, in_right, get_append, get_last, Says, says_at, Denotes-within, Denotes-continue, continues_from, continues_same}

-- ---- cells in a longer table

IsCell-continue : (old new : List Ty) (c : CellTy) (d : TypeCell) → Continues old new → IsCell old c d → IsCell new c d
IsCell-continue old new cell.Int number_cell k h = tt
IsCell-continue old new (cell.Ptr m) (pointer_cell t) k h = Denotes-continue old new m.0 t k h
IsCell-continue old new cell.Int (pointer_cell t) k h = absurd h
IsCell-continue old new (cell.Ptr m) number_cell k h = absurd h

pub AreCells-continue : (old new : List Ty) (cs : List CellTy) (ds : List TypeCell) → Continues old new → AreCells old cs ds → AreCells new cs ds
AreCells-continue old new [] [] k h = tt
AreCells-continue old new (c ∷ cs) (d ∷ ds) k h = (IsCell-continue old new c d k h.0, AreCells-continue old new cs ds k h.1)
AreCells-continue old new [] (d ∷ ds) k h = absurd h
AreCells-continue old new (c ∷ cs) [] k h = absurd h

pub AllCells-continue : (old new : List Ty) (ls : List (List CellTy)) (ms : List (List TypeCell)) → Continues old new → AllCells old ls ms → AllCells new ls ms
AllCells-continue old new [] [] k h = tt
AllCells-continue old new (l ∷ ls) (m ∷ ms) k h = (AreCells-continue old new l m k h.0, AllCells-continue old new ls ms k h.1)
AllCells-continue old new [] (m ∷ ms) k h = absurd h
AllCells-continue old new (l ∷ ls) [] k h = absurd h

-- ---- cells behind one another

AreCells-append : (tys : List Ty) (xs ys : List CellTy) (cs ds : List TypeCell) → AreCells tys xs cs → AreCells tys ys ds → AreCells tys (xs ++ ys) (cs ++ ds)
AreCells-append tys [] ys [] ds h k = k
AreCells-append tys (x ∷ xs) ys (c ∷ cs) ds h k = (h.0, AreCells-append tys xs ys cs ds h.1 k)
AreCells-append tys [] ys (c ∷ cs) ds h k = absurd h
AreCells-append tys (x ∷ xs) ys [] ds h k = absurd h

AllCells-push : (tys : List Ty) (ls : List (List CellTy)) (ms : List (List TypeCell)) (l : List CellTy) (m : List TypeCell) → AllCells tys ls ms → AreCells tys l m → AllCells tys (ls ++ l ∷ []) (ms ++ m ∷ [])
AllCells-push tys [] [] l m h k = (k, tt)
AllCells-push tys (x ∷ ls) (y ∷ ms) l m h k = (h.0, AllCells-push tys ls ms l m h.1 k)
AllCells-push tys [] (y ∷ ms) l m h k = absurd h
AllCells-push tys (x ∷ ls) [] l m h k = absurd h

AreCells-times : (tys : List Ty) (n : ℕ) (cs : List CellTy) (ds : List TypeCell) → AreCells tys cs ds → AreCells tys (times n cs) (times n ds)
AreCells-times tys zero cs ds h = tt
AreCells-times tys (suc n) cs ds h = AreCells-append tys cs (times n cs) ds (times n ds) h (AreCells-times tys n cs ds h)

AllCells-at : (tys : List Ty) (ls : List (List CellTy)) (ms : List (List TypeCell)) (k : ℕ) → AllCells tys ls ms → AreCells tys (unwrap_or (slice_get ls k) []) (unwrap_or (slice_get ms k) [])
AllCells-at tys [] [] k h = tt
AllCells-at tys (l ∷ ls) (m ∷ ms) zero h = h.0
AllCells-at tys (l ∷ ls) (m ∷ ms) (suc k) h = AllCells-at tys ls ms k h.1
AllCells-at tys [] (m ∷ ms) k h = absurd h
AllCells-at tys (l ∷ ls) [] k h = absurd h

pub times_more : (n : ℕ) (l all more : List CellTy) → more ≡ l → times n l ++ more ≡ times (n + 1) l
times_more n l all more e = ap (λ x. times n l ++ x) e ∙ flat_map_one n l
  where
    flat_map_one : (n : ℕ) (l : List CellTy) → times n l ++ l ≡ times (n + 1) l
    flat_map_one n l = flat_map_more (λ (c : List CellTy). c) [] (replicate n l) l ∙ ap (flat_map (λ (c : List CellTy). c)) (replicate_more n l)

-- ---- the cells of a type

base_laid : (tys : List Ty) (structs : List (List CellTy)) (models : List (List TypeCell)) (b : BaseType) → AllCells tys structs models → AreCells tys (entry_cells structs [] (base_ty b)) (cells_in models (plain b 0))
base_laid tys structs models int_base h = (tt, tt)
base_laid tys structs models void_base h = tt
base_laid tys structs models (struct_base k) h = AllCells-at tys structs models k h

pub laid_base : (structs : List (List CellTy)) (tys : List Ty) (cells : List CellTy) (b : BaseType) (stars : ℕ) → stars ≡ 0 → cells ≡ entry_cells structs [] (base_ty b) → TypeLaid structs tys tys cells (plain b stars)
laid_base structs tys cells b stars z e = record {
  kept = continues_same tys;
  cells_of = λ models h. subst (λ s. AreCells tys cells (cells_in models (plain b s))) (sym z) (subst (λ c. AreCells tys c (cells_in models (plain b 0))) (sym e) (base_laid tys structs models b h));
  among = λ asked w a. a;
}

asked_less : (b : BaseType) (stars : ℕ) (asked : List CType) → Asked asked (plain b (suc stars)) → Asked asked (plain b stars)
asked_less b stars asked w = (w.0, (w.1.0, pointed (plain b (suc stars)) w.1.1 refl))

laid_to : (structs : List (List CellTy)) (old new : List Ty) (m : TyId) (b : BaseType) (stars : ℕ) → Numbered old new m.0 (plain b stars) → TypeLaid structs old new (cell.Ptr m ∷ []) (plain b (suc stars))
laid_to structs old new m b stars k = record {
  kept = k.kept;
  cells_of = λ models h. (k.denotes, tt);
  among = λ asked w a. k.among asked (asked_less b stars asked w) a;
}

pub laid_pointer : (structs : List (List CellTy)) (old new : List Ty) (m : TyId) (cells : List CellTy) (b : BaseType) (stars : ℕ) → stars ≢ 0 → cells ≡ cell.Ptr m ∷ [] → Numbered old new m.0 (plain b (stars - 1)) → TypeLaid structs old new cells (plain b stars)
laid_pointer structs old new m cells b stars p e k =
    let s : suc (stars - 1) ≡ stars = omega arith in
    subst (λ j. TypeLaid structs old new cells (plain b j)) s (subst (λ c. TypeLaid structs old new c (plain b (suc (stars - 1)))) (sym e) (laid_to structs old new m b (stars - 1) k))

laid_array : (structs : List (List CellTy)) (old new : List Ty) (cells : List CellTy) (n : ℕ) (e : CType) → TypeLaid structs old new cells e → TypeLaid structs old new (times n cells) (array_of n e)
laid_array structs old new cells n e h = record {
  kept = h.kept;
  cells_of = λ models a. AreCells-times new n cells (cells_in models e) (h.cells_of models a);
  among = λ asked w a. h.among asked (w.0, (w.1.0, element (array_of n e) w.1.1 refl)) a;
}

pub laid_more : (structs : List (List CellTy)) (old new : List Ty) (cells all next : List CellTy) (b : BaseType) (stars : ℕ) (l seen : List ℕ) (k : ℕ) → seen ≡ l → 0 < k → k ≤ length l → all ≡ cells → next ≡ times (get_or seen (k - 1) 0) all
    → TypeLaid structs old new cells (record { base = b; stars = stars; lengths = drop k l }) → TypeLaid structs old new next (record { base = b; stars = stars; lengths = drop (k - 1) l })
laid_more structs old new cells all next b stars l seen k e p h a n w =
    subst (λ z. TypeLaid structs old new next (record { base = b; stars = stars; lengths = z })) (sym (drop_here l k p h))
    (subst (λ c. TypeLaid structs old new c (record { base = b; stars = stars; lengths = get_or l (k - 1) 0 ∷ drop k l })) (sym (n ∙ ap (λ (z : List ℕ). times (get_or z (k - 1) 0) all) e ∙ ap (times (get_or l (k - 1) 0)) a))
    (laid_array structs old new cells (get_or l (k - 1) 0) (record { base = b; stars = stars; lengths = drop k l }) w))

pub base_if : {E : Type 0} (r : Result (List CellTy) E) (structs : List (List CellTy)) (tys : List Ty) (b : BaseType) (stars : ℕ) → stars ≡ 0 → IfOk r (λ l. l ≡ entry_cells structs [] (base_ty b)) → IfOk r (λ l. TypeLaid structs tys tys l (plain b stars))
base_if (Err x) structs tys b stars z h = tt
base_if (Ok l) structs tys b stars z h = laid_base structs tys l b stars z h

pub pointer_if : {E : Type 0} (r : Result (List CellTy) E) (structs : List (List CellTy)) (old new : List Ty) (m : TyId) (b : BaseType) (stars : ℕ) → stars ≢ 0 → Numbered old new m.0 (plain b (stars - 1)) → IfOk r (λ l. l ≡ cell.Ptr m ∷ []) → IfOk r (λ l. TypeLaid structs old new l (plain b stars))
pointer_if (Err x) structs old new m b stars p k h = tt
pointer_if (Ok l) structs old new m b stars p k h = laid_pointer structs old new m l b stars p h k

-- ---- the cells of fields

flat_more : {X Y : Type 0} (f : X → List Y) (k l : List X) → flat_map f (k ++ l) ≡ flat_map f k ++ flat_map f l
flat_more f [] l = refl
flat_more f (x ∷ k) l = ap (λ z. f x ++ z) (flat_more f k l) ∙ sym (append_assoc (f x) (flat_map f k) (flat_map f l))

pub fields_none : (structs : List (List CellTy)) (tys : List Ty) (cells : List CellTy) → FieldsLaid structs tys tys cells cells []
fields_none structs tys cells = record {
  kept = continues_same tys;
  cells_of = λ models first h k. subst (AreCells tys cells) (sym (append-nil first)) k;
  among = λ asked w a. a;
}

pub field_unknown : (structs : List (List CellTy)) (tys : List Ty) (cells : List CellTy) (f : Member) → f.ty ≡ None → FieldsLaid structs tys tys cells cells (f ∷ [])
field_unknown structs tys cells f e = record {
  kept = continues_same tys;
  cells_of = λ models first h k. subst (AreCells tys cells) (sym (ap (λ z. first ++ (cells_if models z ++ [])) e ∙ append-nil first)) k;
  among = λ asked w a. a;
}

pub field_laid : (structs : List (List CellTy)) (old new : List Ty) (before more after : List CellTy) (f : Member) (t : CType) → f.ty ≡ Some t → TypeLaid structs old new more t → after ≡ before ++ more → FieldsLaid structs old new before after (f ∷ [])
field_laid structs old new before more after f t e w p = record {
  kept = w.kept;
  cells_of = λ models first h k.
      subst (λ c. AreCells new c (first ++ struct_cells models (f ∷ []))) (sym p)
      (subst (λ z. AreCells new (before ++ more) (first ++ z)) (sym (append-nil (cells_if models f.ty) ∙ ap (cells_if models) e))
      (AreCells-append new before more first (cells_in models t) (AreCells-continue old new before first w.kept k) (w.cells_of models h)));
  among = λ asked g a. w.among asked (g f t (inl refl) e) a;
}

pub fields_more : (structs : List (List CellTy)) (old new newer : List Ty) (before cells after : List CellTy) (fields more : List Member) → FieldsLaid structs old new before cells fields → FieldsLaid structs new newer cells after more → FieldsLaid structs old newer before after (fields ++ more)
fields_more structs old new newer before cells after fields more v w = record {
  kept = continues_from old new newer v.kept w.kept;
  cells_of = λ models first h k.
      subst (AreCells newer after) (append_assoc first (struct_cells models fields) (struct_cells models more) ∙ ap (λ z. first ++ z) (sym (flat_more (λ (f : Member). cells_if models f.ty) fields more)))
      (w.cells_of models (first ++ struct_cells models fields) (AllCells-continue old new structs models v.kept h) (v.cells_of models first h k));
  among = λ asked g a. w.among asked (λ f t i e. g f t (in_right f fields more i) e) (v.among asked (λ f t i e. g f t (in_left f fields more i) e) a);
}

pub fields_step : (structs : List (List CellTy)) (old new newer : List Ty) (cells after : List CellTy) (fields : List Member) (i : ℕ) (f : Member) → i < length fields → f ≡ get_or fields i f → FieldsLaid structs old new [] cells (take i fields) → FieldsLaid structs new newer cells after (f ∷ [])
    → FieldsLaid structs old newer [] after (take (i + 1) fields)
fields_step structs old new newer cells after fields i f h e v w =
    subst (FieldsLaid structs old newer [] after) (sym (take_more fields i f h ∙ ap (λ x. take i fields ++ x ∷ []) (sym e))) (fields_more structs old new newer [] cells after (take i fields) (f ∷ []) v w)

-- ---- the cells of structs

after_more : (first : List (List TypeCell)) (ss : List (List Member)) (s : List Member) → cells_after first (ss ++ s ∷ []) ≡ cells_after first ss ++ struct_cells (cells_after first ss) s ∷ []
after_more first [] s = refl
after_more first (x ∷ ss) s = after_more (first ++ struct_cells first x ∷ []) ss s

pub structs_none : (tys : List Ty) → StructsLaid tys tys [] []
structs_none tys = record { kept = continues_same tys; cells_of = tt; among = λ asked w a. a }

pub structs_more : (old new newer : List Ty) (layouts : List (List CellTy)) (l : List CellTy) (structs : List (List Member)) (s : List Member) → StructsLaid old new layouts structs → FieldsLaid layouts new newer [] l s → StructsLaid old newer (layouts ++ l ∷ []) (structs ++ s ∷ [])
structs_more old new newer layouts l structs s v w = record {
  kept = continues_from old new newer v.kept w.kept;
  cells_of = subst (AllCells newer (layouts ++ l ∷ [])) (sym (after_more [] structs s))
      (AllCells-push newer layouts (cells_after [] structs) l (struct_cells (cells_after [] structs) s) (AllCells-continue new newer layouts (cells_after [] structs) w.kept v.cells_of) (w.cells_of (cells_after [] structs) [] v.cells_of tt));
  among = λ asked g a. w.among asked (λ f t i e. g s f t (in_right s structs (s ∷ []) (inl refl)) i e) (v.among asked (λ r f t j i e. g r f t (in_left r structs (s ∷ []) j) i e) a);
}

pub structs_step : (old new newer : List Ty) (layouts seen after : List (List CellTy)) (l : List CellTy) (structs : List (List Member)) (i : ℕ) (s t : List Member) → i < length structs → s ≡ get_or structs i s → t ≡ s → seen ≡ layouts → after ≡ layouts ++ l ∷ []
    → StructsLaid old new layouts (take i structs) → FieldsLaid seen new newer [] l t → StructsLaid old newer after (take (i + 1) structs)
structs_step old new newer layouts seen after l structs i s t h e q p a v w =
    subst (λ z. StructsLaid old newer z (take (i + 1) structs)) (sym a)
    (subst (StructsLaid old newer (layouts ++ l ∷ [])) (sym (take_more structs i s h ∙ ap (λ x. take i structs ++ x ∷ []) (sym e)))
    (structs_more old new newer layouts l (take i structs) s v (subst (λ z. FieldsLaid z new newer [] l s) p (subst (FieldsLaid seen new newer [] l) q w))))

-- ---- the cells of entries

length_entries : (structs before : List (List CellTy)) (l : List Ty) → length (entries_cells structs before l) ≡ length before + length l
length_entries structs before [] = omega arith
length_entries structs before (y ∷ l) = length_entries structs (before ++ entry_cells structs before y ∷ []) l ∙ omega (arith, length-append before (entry_cells structs before y ∷ []))

module _ (tys : List Ty) (structs : List (List CellTy)) (models : List (List TypeCell)) (all : AllCells tys structs models) (earlier : (n : ℕ) (y : Ty) → slice_get tys n ≡ Some y → RefersBelow n y) where
  abbrev pub Fits : List (List CellTy) → ℕ → CType → Type 0
  Fits ls n t = (cells : List CellTy) × ((slice_get ls n ≡ Some cells) × AreCells tys cells (cells_in models t))

  fits_entry : (before : List (List CellTy)) (n : ℕ) (y : Ty) (t : CType) → RefersBelow n y → ((m : ℕ) (u : CType) → m < n → Denotes tys m u → Fits before m u) → Says tys y t → AreCells tys (entry_cells structs before y) (cells_in models t)
  fits_entry before n ty.Int t r h s = subst (λ u. AreCells tys (cell.Int ∷ []) (cells_in models u)) (sym s) (tt, tt)
  fits_entry before n ty.Void t r h s = subst (λ u. AreCells tys [] (cells_in models u)) (sym s) tt
  fits_entry before n (ty.Struct k) t r h s = subst (λ u. AreCells tys (unwrap_or (slice_get structs k) []) (cells_in models u)) (sym s) (AllCells-at tys structs models k all)
  fits_entry before n (ty.Ptr m) t r h s = subst (λ u. AreCells tys (cell.Ptr m ∷ []) (cells_in models u)) (sym s.2) (s.3, tt)
  fits_entry before n (ty.Array m size) t r h s =
      let f = h m.0 s.0 r s.2 in
      subst (λ u. AreCells tys (times size (unwrap_or (slice_get before m.0) [])) (cells_in models u)) (sym s.1)
      (subst (λ c. AreCells tys (times size (unwrap_or c [])) (cells_in models (array_of size s.0))) (sym f.1.0) (AreCells-times tys size f.0 (cells_in models s.0) f.1.1))

  fits_next : (before : List (List CellTy)) (done l : List Ty) (y : Ty) → tys ≡ done ++ y ∷ l → length before ≡ length done → ((m : ℕ) (u : CType) → m < length done → Denotes tys m u → Fits before m u)
      → (m : ℕ) (u : CType) → (m < length done) ⊎ (m ≡ length done) → Denotes tys m u → Fits (before ++ entry_cells structs before y ∷ []) m u
  fits_next before done l y e k h m u (inl p) d = let f = h m u p d in (f.0, (get_append before (entry_cells structs before y ∷ []) m f.0 f.1.0, f.1.1))
  fits_next before done l y e k h m u (inr p) d =
      let g : slice_get tys m ≡ Some y = ap (slice_get tys) p ∙ ap (λ z. slice_get z (length done)) e ∙ at_seam done y l in (
        entry_cells structs before y,
        (
          ap (slice_get (before ++ entry_cells structs before y ∷ [])) (p ∙ sym k) ∙ get_last before (entry_cells structs before y),
          fits_entry before m y u (earlier m y g) (λ i v q c. h i v (subst (λ z. i < z) p q) c) (says_at tys m y u g d),
        ),
      )
    where
      at_seam : (xs : List Ty) (y : Ty) (l : List Ty) → slice_get (xs ++ y ∷ l) (length xs) ≡ Some y
      at_seam [] y l = refl
      at_seam (x ∷ xs) y l = at_seam xs y l

  fits_from : (before : List (List CellTy)) (done l : List Ty) → tys ≡ done ++ l → length before ≡ length done → ((m : ℕ) (u : CType) → m < length done → Denotes tys m u → Fits before m u) → (m : ℕ) (u : CType) → m < length tys → Denotes tys m u → Fits (entries_cells structs before l) m u
  fits_from before done [] e k h m u p d = h m u (subst (λ z. m < length z) (e ∙ append-nil done) p) d
  fits_from before done (y ∷ l) e k h m u p d =
      fits_from (before ++ entry_cells structs before y ∷ []) (done ++ y ∷ []) l (e ∙ sym (append_assoc done (y ∷ []) l)) (omega (arith, length-append before (entry_cells structs before y ∷ []), length-append done (y ∷ []), k))
      (λ i v q c. fits_next before done l y e k h i v (below_push done y i q) c) m u p d

  pub entries_fit : AreLayouts tys (entries_cells structs [] tys) models
  entries_fit n t d = fits_from [] [] tys refl refl (λ m u p c. absurd (omega arith)) n t (Denotes-within tys n t d) d

pub laid_out : (structs : List (List Member)) (old new tys : List Ty) (cells seen layouts : List (List CellTy)) → StructsLaid old new cells structs → seen ≡ cells → tys ≡ new → layouts ≡ entries_cells seen [] tys → LaidOut structs old new layouts
laid_out structs old new tys cells seen layouts v s t e =
    let same : layouts ≡ entries_cells cells [] new = e ∙ (λ j. entries_cells (s j) [] (t j)) in
    record {
      kept = v.kept;
      among = v.among;
      each = ap length same ∙ length_entries cells [] new ∙ omega arith;
      cells_of = λ asked a. subst (λ l. AreLayouts new l (cells_after [] structs)) (sym same) (entries_fit new cells (cells_after [] structs) v.cells_of a.earlier);
    }

pub laid_out_if : {E : Type 0} (r : Result (List (List CellTy)) E) (structs : List (List Member)) (old new tys : List Ty) (cells seen : List (List CellTy)) → StructsLaid old new cells structs → seen ≡ cells → tys ≡ new → IfOk r (λ ls. ls ≡ entries_cells seen [] tys) → IfOk r (λ ls. LaidOut structs old new ls)
laid_out_if (Err x) structs old new tys cells seen v s t h = tt
laid_out_if (Ok ls) structs old new tys cells seen v s t h = laid_out structs old new tys cells seen ls v s t h
