-- The inputs of a renumbered program are those of the program, and so is the memory with which a run begins.
use Rattle.std.proofs.Common.{◌≡◌, ℕ, zero, suc, ◌+◌, ℤ, pos, negsuc, Bool, true, false, inl, inr, List, [], ◌∷◌, ◌++◌, map, length, Option, Some, None, slice_get, option_map, nat_eq, refl, sym, ap, ap₂, subst, ◌∙◌, if◌then◌else◌}
use Rattle.std.proofs.lemmas.List.{length-map, map-append}
use Rattle.std.proofs.lemmas.Option.{slice_get-map}
use Rattle.cc_base.specs.Limits.{Limits, base_of}
use Rattle.cc_model.specs.Core.{Cell, int_cell, ptr_cell, Layout, Func, Program}
use Rattle.cc_model.specs.Canonical.{Named, NamesOld, AreCells, base_cell}
use Rattle.cc_model.specs.Plain as base
use Rattle.cc_model.specs.Plain.{Value, Scan, Data}
use Rattle.cc_model.specs.Runs.{params_of, params_of_func}
use Rattle.cc_laws.proofs.Members.{in_map, from_map}
use Rattle.source_laws.specs.Renumbering.{renumber_cell, renumber_func, Renumbers}

module _ (r : ℕ → ℕ) where
  abbrev pub cells : List Cell → List Cell
  cells cs = map (renumber_cell r) cs

  abbrev pub renumber_named : Named → Named
  renumber_named k = record { address = k.address; type = r k.type }

  module _ (one : (m n : ℕ) → r m ≡ r n → m ≡ n) (layouts other : ℕ → List Cell) (laid : (t : ℕ) → other (r t) ≡ cells (layouts t)) where
    -- ---- inputs

    old_to : (named : List Named) (t : ℕ) (z : ℤ) → NamesOld named t z → NamesOld (map renumber_named named) (r t) z
    old_to named t z (inl e) = inl e
    old_to named t z (inr h) = inr (renumber_named h.0, in_map renumber_named h.0 named h.1, h.2, ap r h.3)

    old_from : (named : List Named) (t : ℕ) (z : ℤ) → NamesOld (map renumber_named named) (r t) z → NamesOld named t z
    old_from named t z (inl e) = inl e
    old_from named t z (inr h) = let k = from_map renumber_named h.0 named h.1 in
        inr (k.0, k.1, h.2 ∙ ap (λ j. pos j.address) k.2, one (k.0).type t (sym (ap (λ j. j.type) k.2) ∙ h.3))

    module _ (b : Limits) where
      -- what is due behind a new block
      behind : (t : ℕ) (due : List Cell) (named : List Named) (next : ℕ) (zs : List ℤ)
          → AreCells other b (cells (due ++ layouts t)) (map renumber_named (record { address = next; type = t } ∷ named)) (next + length (layouts t)) zs
          ≡ AreCells other b (cells due ++ other (r t)) (record { address = next; type = r t } ∷ map renumber_named named) (next + length (other (r t))) zs
      behind t due named next zs = ap₂ (λ l n. AreCells other b l (record { address = next; type = r t } ∷ map renumber_named named) (next + n) zs)
          (map-append (renumber_cell r) due (layouts t) ∙ ap (λ l. cells due ++ l) (sym (laid t))) (sym (ap length (laid t) ∙ length-map (layouts t) (renumber_cell r)))

      pub cells_to : (zs : List ℤ) (due : List Cell) (named : List Named) (next : ℕ) → AreCells layouts b due named next zs → AreCells other b (cells due) (map renumber_named named) next zs
      cells_to [] [] named next h = h
      cells_to [] (c ∷ due) named next h = h
      cells_to (z ∷ zs) [] named next h = h
      cells_to (z ∷ zs) (int_cell ∷ due) named next h = (h.0, cells_to zs due named next h.1)
      cells_to (z ∷ zs) (ptr_cell t ∷ due) named next (inl h) = inl (old_to named t z h.0, cells_to zs due named next h.1)
      cells_to (z ∷ zs) (ptr_cell t ∷ due) named next (inr h) = inr (
        h.0,
        subst (λ x. x) (behind t due named next zs)
            (cells_to zs (due ++ layouts t) (record { address = next; type = t } ∷ named) (next + length (layouts t)) h.1),
      )

      pub cells_from : (zs : List ℤ) (due : List Cell) (named : List Named) (next : ℕ) → AreCells other b (cells due) (map renumber_named named) next zs → AreCells layouts b due named next zs
      cells_from [] [] named next h = h
      cells_from [] (c ∷ due) named next h = h
      cells_from (z ∷ zs) [] named next h = h
      cells_from (z ∷ zs) (int_cell ∷ due) named next h = (h.0, cells_from zs due named next h.1)
      cells_from (z ∷ zs) (ptr_cell t ∷ due) named next (inl h) = inl (old_from named t z h.0, cells_from zs due named next h.1)
      cells_from (z ∷ zs) (ptr_cell t ∷ due) named next (inr h) = inr (
        h.0,
        cells_from zs (due ++ layouts t) (record { address = next; type = t } ∷ named) (next + length (layouts t))
            (subst (λ x. x) (sym (behind t due named next zs)) h.1),
      )

    -- ---- the memory

    abbrev recell : Layout → Layout
    recell t = record { type = t.type; cells = cells t.cells }

    abbrev again : Scan → Scan
    again s = record { values = s.values; found = map recell s.found }

    value_same : (c : Cell) (z : ℤ) → base.value_at (renumber_cell r c) z ≡ base.value_at c z
    unfolding base.value_at
    value_same int_cell z = refl
    value_same (ptr_cell t) (pos zero) = refl
    value_same (ptr_cell t) (pos (suc n)) = refl
    value_same (ptr_cell t) (negsuc n) = refl

    with_value : Value → Scan → Scan
    with_value v s = record { values = v ∷ s.values; found = s.found }

    if_scan : (e : Bool) (s t s' t' : Scan) → s ≡ again s' → t ≡ again t' → (if e then s else t) ≡ again (if e then s' else t')
    if_scan true s t s' t' h k = h
    if_scan false s t s' t' h k = k

    new_same : (zs : List ℤ) (t : ℕ) (due : List Cell) (next : ℕ) (n : Scan) → base.scan other zs (cells (due ++ layouts t)) (next + length (layouts t)) ≡ n
        → base.scan other zs (cells due ++ other (r t)) (next + length (other (r t))) ≡ n
    new_same zs t due next n e = ap₂ (λ l n. base.scan other zs l (next + n)) (ap (λ l. cells due ++ l) (laid t) ∙ sym (map-append (renumber_cell r) due (layouts t))) (ap length (laid t) ∙ length-map (layouts t) (renumber_cell r)) ∙ e

    pub scan_same : (zs : List ℤ) (due : List Cell) (next : ℕ) → base.scan other zs (cells due) next ≡ again (base.scan layouts zs due next)
    unfolding base.scan base.names_new base.target
    scan_same [] due next = refl
    scan_same (z ∷ zs) [] next = refl
    scan_same (z ∷ zs) (int_cell ∷ due) next = ap₂ (λ v s. record { values = v ∷ s.values; found = s.found }) (value_same int_cell z) (scan_same zs due next)
    scan_same (negsuc n ∷ zs) (ptr_cell t ∷ due) next = ap₂ (λ v s. record { values = v ∷ s.values; found = s.found }) (value_same (ptr_cell t) (negsuc n)) (scan_same zs due next)
    scan_same (pos n ∷ zs) (ptr_cell t ∷ due) next = if_scan (nat_eq n next) _ _ _ _
        (ap₂ (λ v s. record { values = v ∷ s.values; found = record { type = next; cells = other (r t) } ∷ s.found }) (value_same (ptr_cell t) (pos n)) (new_same zs t due next _ (scan_same zs (due ++ layouts t) (next + length (layouts t))))
        ∙ ap (λ l. record {
          values = base.value_at (ptr_cell t) (pos n) ∷ (base.scan layouts zs (due ++ layouts t) (next + length (layouts t))).values;
          found = record { type = next; cells = l } ∷ map recell (base.scan layouts zs (due ++ layouts t) (next + length (layouts t))).found;
        }) (laid t))
        (ap₂ (λ v s. record { values = v ∷ s.values; found = s.found }) (value_same (ptr_cell t) (pos n)) (scan_same zs due next))

    blocks_same : (l : List Layout) (vs : List Value) → base.blocks_of (map recell l) vs ≡ base.blocks_of l vs
    unfolding base.blocks_of
    blocks_same [] vs = refl
    blocks_same (t ∷ ts) vs = ap (λ n. record { name = t.type; cells = base.front n vs } ∷ base.blocks_of (map recell ts) (base.back n vs)) (length-map t.cells (renumber_cell r))
        ∙ ap (λ l. record { name = t.type; cells = base.front (length t.cells) vs } ∷ l) (blocks_same ts (base.back (length t.cells) vs))

    pub data_same : (params : List Cell) (globals : List Value) (zs stream : List ℤ) (start : ℤ) → base.data_of other (cells params) globals zs stream start ≡ base.data_of layouts params globals zs stream start
    unfolding base.data_of
    data_same params globals zs stream start = let s = base.scan layouts zs params (suc (length params)) in
        ap₂ (λ n s. record {
          blocks = λ a. base.block_cells a (base.blocks_of s.found (base.back n s.values));
          made = globals ∷ map (λ v. v ∷ []) (base.front n s.values);
          touched = [];
          stream = stream;
          base = start;
          count = 0;
        }) (length-map params (renumber_cell r)) (ap (λ n. base.scan other zs (cells params) (suc n)) (length-map params (renumber_cell r)) ∙ scan_same zs params (suc (length params)))
        ∙ ap (λ l. record {
          blocks = λ a. base.block_cells a l;
          made = globals ∷ map (λ v. v ∷ []) (base.front (length params) s.values);
          touched = [];
          stream = stream;
          base = start;
          count = 0;
        }) (blocks_same s.found (base.back (length params) s.values))

  -- ---- the parameters

  pub base_same : (b : Limits) (cs : List Cell) → map (base_cell b) (cells cs) ≡ map (base_cell b) cs
  base_same b [] = refl
  base_same b (int_cell ∷ cs) = ap (λ l. base_of b ∷ l) (base_same b cs)
  base_same b (ptr_cell t ∷ cs) = ap (λ l. pos 0 ∷ l) (base_same b cs)

  func_params : (o : Option Func) → params_of_func (option_map (renumber_func r) o) ≡ cells (params_of_func o)
  func_params None = refl
  func_params (Some f) = refl

  pub params_same : (p q : Program) → Renumbers r p q → params_of q ≡ cells (params_of p)
  params_same p q h = ap₂ (λ l n. params_of_func (slice_get l n)) h.funcs h.entry ∙ ap params_of_func (slice_get-map (renumber_func r) p.funcs p.entry) ∙ func_params (slice_get p.funcs p.entry)
