-- A canonical input is laid out: its blocks have the values, addresses and types that its cells give them.
use Rattle.std.proofs.Common.{◌≡◌, ℕ, zero, suc, ◌+◌, ◌-◌, ◌<◌, ◌≤◌, ℤ, pos, true, false, inl, inr, List, [], ◌∷◌, ◌++◌, length, map, drop, Some, slice_get, refl, sym, ap, ap₂, subst, subst₂, ◌∙◌, arith, if◌then◌else◌, append_assoc, length-drop}
use Rattle.std.proofs.lemmas.List.{drop-drop}
use Rattle.cc_base.specs.declared.inputs.Input.{Input}
use Rattle.cc_base.specs.Limits.{Limits, base_of}
use Rattle.cc_base.specs.Paths.{In, Pairwise}
use Rattle.cc_model.specs.Core.{Cell, int_cell, ptr_cell, Program}
use Rattle.cc_model.specs.Canonical.{Named, Within, NamesOld, AreCells, IsCanonical}
use Rattle.cc_model.specs.Graphs.{contents, from_address, named_by, block_at, graph_of, cells_named, value_of, PointsToCells}
use Rattle.cc_model.specs.Plain.{Value, value_at, names_new, data_of}
use Rattle.cc_model.specs.Runs.{IsInput, params_of, begin_of, value_of_start}
use Rattle.cc_laws.proofs.Members.{not_same, is_same, suc_sum}
use Rattle.cc_laws.proofs.Scanned.{value_of_content, all_cells, Running, running, at_next, params_split, same_memory}
use Rattle.cc_laws.proofs.Listed.{new_at, number_new, named_old, named_new, fresh, Before, Sized, sized_more, more_one, before_more, from_next, have_cells, addresses_ascend}
use Rattle.sym_run.specs.Blocks.{values_from, named_in, IsLaidOut}

-- ---- cells by their types

module _ (b : Limits) (F : List Named) where
  -- what a cell of a type may hold, where F are the blocks
  abbrev pub Allowed : Cell → ℤ → Type 0
  Allowed int_cell z = Within b z
  Allowed (ptr_cell t) z = NamesOld F t z

  -- so do the first cells of a list, which are of these types
  abbrev pub AllAllowed : List Cell → List ℤ → Type 0
  AllAllowed [] zs = Unit {0}
  AllAllowed (c ∷ cs) (z ∷ zs) = Allowed c z × AllAllowed cs zs
  AllAllowed (c ∷ cs) [] = ⊥

  -- the cells of the first types are apart from those of the later ones
  pub allowed_split : (A B : List Cell) (zs : List ℤ) → AllAllowed (A ++ B) zs → AllAllowed A zs × AllAllowed B (drop (length A) zs)
  allowed_split [] B zs p = (tt, p)
  allowed_split (c ∷ A) B [] p = absurd p
  allowed_split (c ∷ A) B (z ∷ zs) p = let r = allowed_split A B zs p.1 in ((p.0, r.0), r.1)

  pub as_long : (cs : List Cell) (zs : List ℤ) → AllAllowed cs zs → length cs ≤ length zs
  as_long [] zs p = omega arith
  as_long (c ∷ cs) [] p = absurd p
  as_long (c ∷ cs) (z ∷ zs) p = let l = as_long cs zs p.1 in omega (arith, l)

  pub allowed_at : (cs : List Cell) (zs : List ℤ) (n : ℕ) (c : Cell) (z : ℤ) → AllAllowed cs zs → slice_get cs n ≡ Some c → slice_get zs n ≡ Some z → Allowed c z
  allowed_at [] zs n c z p e f = absurd (cc e)
  allowed_at (d ∷ cs) [] n c z p e f = absurd p
  allowed_at (d ∷ cs) (y ∷ zs) zero c z p e f = let g : d ≡ c = cc e in let i : y ≡ z = cc f in subst₂ Allowed g i p.0
  allowed_at (d ∷ cs) (y ∷ zs) (suc n) c z p e f = allowed_at cs zs n c z p.1 e f

pub get_dropped : (n : ℕ) (zs : List ℤ) (c : ℕ) → slice_get (drop n zs) c ≡ slice_get zs (n + c)
get_dropped zero zs c = let e : c ≡ 0 + c = omega arith in ap (slice_get zs) e
get_dropped (suc n) [] c = refl
get_dropped (suc n) (z ∷ zs) c = get_dropped n zs c ∙ ap (slice_get (z ∷ zs)) (sym (suc_sum n c))

pub dropped_at : (n : ℕ) (zs : List ℤ) → 1 ≤ n → from_address n zs ≡ drop (n - 1) zs
unfolding from_address
dropped_at zero zs one = absurd (omega (arith, one))
dropped_at (suc n) zs one = let e : n ≡ suc n - 1 = omega arith in ap (λ m. drop m zs) e

pub values_of_contents : (cs : List Cell) (zs : List ℤ) → map value_of (contents cs zs) ≡ values_from cs zs
unfolding contents
values_of_contents [] zs = refl
values_of_contents (c ∷ cs) [] = refl
values_of_contents (c ∷ cs) (z ∷ zs) = ap (λ v. v ∷ map value_of (contents cs zs)) (sym (value_of_content c z)) ∙ ap (λ vs. value_at c z ∷ vs) (values_of_contents cs zs)

pub length-values_from : (cs : List Cell) (zs : List ℤ) → length cs ≤ length zs → length (values_from cs zs) ≡ length cs
length-values_from [] zs l = refl
length-values_from (c ∷ cs) [] l = absurd (omega (arith, l))
length-values_from (c ∷ cs) (z ∷ zs) l = ap suc (length-values_from cs zs (omega (arith, l)))

-- the value of one cell
pub slice_get-values_from : (cs : List Cell) (zs : List ℤ) (n : ℕ) (c : Cell) (z : ℤ) → slice_get cs n ≡ Some c → slice_get zs n ≡ Some z → slice_get (values_from cs zs) n ≡ Some (value_at c z)
slice_get-values_from [] zs n c z e f = absurd (cc e)
slice_get-values_from (d ∷ cs) [] n c z e f = absurd (cc f)
slice_get-values_from (d ∷ cs) (y ∷ zs) zero c z e f = let g : d ≡ c = cc e in let i : y ≡ z = cc f in ap Some (ap₂ value_at g i)
slice_get-values_from (d ∷ cs) (y ∷ zs) (suc n) c z e f = slice_get-values_from cs zs n c z e f

-- ---- blocks whose addresses ascend

pub one_named : (ks : List Named) → Pairwise (λ j k. j.address < k.address) ks → (j k : Named) → In j ks → In k ks → j.address ≡ k.address → j ≡ k
one_named [] p j k x y e = absurd x
one_named (m ∷ ks) p j k (inl x) (inl y) e = x ∙ sym y
one_named (m ∷ ks) p j k (inl x) (inr y) e = let l = p.0 k y in let f = ap (λ n. n.address) x in absurd (omega (arith, l, f, e))
one_named (m ∷ ks) p j k (inr x) (inl y) e = let l = p.0 j x in let f = ap (λ n. n.address) y in absurd (omega (arith, l, f, e))
one_named (m ∷ ks) p j k (inr x) (inr y) e = one_named ks p.1 j k x y e

module _ (layouts : ℕ → List Cell) where
  pub found_at : (zs : List ℤ) (ks : List Named) → Pairwise (λ j k. j.address < k.address) ks → (k : Named) → In k ks → cells_named k.address (map (block_at layouts zs) ks) ≡ contents (layouts k.type) (from_address k.address zs)
  unfolding cells_named block_at
  found_at zs [] p k i = absurd i
  found_at zs (j ∷ ks) p k (inl e) =
      ap (λ t. if t then contents (layouts j.type) (from_address j.address zs) else cells_named k.address (map (block_at layouts zs) ks)) (is_same k.address j.address (ap (λ m. m.address) e))
      ∙ ap (λ m. contents (layouts m.type) (from_address m.address zs)) (sym e)
  found_at zs (j ∷ ks) p k (inr i) = let l = p.0 k i in
      ap (λ t. if t then contents (layouts j.type) (from_address j.address zs) else cells_named k.address (map (block_at layouts zs) ks)) (not_same k.address j.address (λ e. omega (arith, l, e)))
      ∙ found_at zs ks p.1 k i

-- ---- the cells of the parameters and blocks, in order

module _ (layouts : ℕ → List Cell) (b : Limits) (deep : (s t : ℕ) → In (ptr_cell t) (layouts s) → 1 ≤ length (layouts t)) (F : List Named) where
  abbrev Inside : List Named → Type 0
  Inside ks = (k : Named) → In k ks → In k F

  old_not_new : (named : List Named) (next t : ℕ) (z : ℤ) → 1 ≤ next → Before layouts b named next → NamesOld named t z → names_new (ptr_cell t) z next ≡ false
  old_not_new named next t z one old (inl e) = subst (λ y. names_new (ptr_cell t) y next ≡ false) (sym e) (new_at t 0 next ∙ not_same 0 next (λ f. omega (arith, f, one)))
  old_not_new named next t z one old (inr o) = let l = (old o.0 o.1).1 in
      subst (λ y. names_new (ptr_cell t) y next ≡ false) (sym o.2) (new_at t (o.0).address next ∙ not_same (o.0).address next (λ f. omega (arith, f, l)))

  next_new : (next t : ℕ) (z : ℤ) → z ≡ pos next → names_new (ptr_cell t) z next ≡ true
  next_new next t z e = subst (λ y. names_new (ptr_cell t) y next ≡ true) (sym e) (new_at t next next ∙ is_same next next refl)

  old_inside : (named : List Named) (t : ℕ) (z : ℤ) → Inside named → NamesOld named t z → NamesOld F t z
  old_inside named t z i (inl e) = inl e
  old_inside named t z i (inr o) = inr (o.0, i o.0 o.1, o.2, o.3)

  both_inside : (k : Named) (named ks : List Named) → Inside named → Inside (k ∷ ks) → Inside (k ∷ named)
  both_inside k named ks i j m (inl e) = j m (inl e)
  both_inside k named ks i j m (inr e) = i m e

  abbrev Below : List ℤ → Type 0
  Below zs = (due : List Cell) (named : List Named) (next : ℕ) → Sized layouts b due → 1 ≤ next → Before layouts b named next → Inside named → Inside (named_by layouts due next zs)
      → AreCells layouts b due named next zs → AllAllowed b F (due ++ all_cells layouts (named_by layouts due next zs)) zs

  -- a cell that names no new block, and the cells behind it
  behind_old : (zs : List ℤ) → Below zs → (c : Cell) (due : List Cell) (named : List Named) (next : ℕ) (z : ℤ) → Sized layouts b (c ∷ due) → 1 ≤ next → Before layouts b named next → Inside named
      → names_new c z next ≡ false → Inside (named_by layouts (c ∷ due) next (z ∷ zs)) → Allowed b F c z → AreCells layouts b due named next zs
      → AllAllowed b F (c ∷ due ++ all_cells layouts (named_by layouts (c ∷ due) next (z ∷ zs))) (z ∷ zs)
  behind_old zs below c due named next z s one old i n j a h = let e = named_old layouts b c due next z zs n in
      subst (λ ks. AllAllowed b F (c ∷ due ++ all_cells layouts ks) (z ∷ zs)) (sym e) (a, below due named next (λ t q. s t (inr q)) one old i (subst Inside e j) h)

  -- a cell that names the next block, and the cells behind it
  behind_new : (zs : List ℤ) → Below zs → (t : ℕ) (due : List Cell) (named : List Named) (next : ℕ) (z : ℤ) → Sized layouts b (ptr_cell t ∷ due) → 1 ≤ next → Before layouts b named next → Inside named
      → z ≡ pos next → Inside (fresh layouts b next t ∷ named_by layouts (due ++ layouts t) (next + length (layouts t)) zs)
      → AreCells layouts b (due ++ layouts t) (fresh layouts b next t ∷ named) (next + length (layouts t)) zs
      → AllAllowed b F (ptr_cell t ∷ due ++ all_cells layouts (fresh layouts b next t ∷ named_by layouts (due ++ layouts t) (next + length (layouts t)) zs)) (z ∷ zs)
  behind_new zs below t due named next z s one old i e j h = let ks = named_by layouts (due ++ layouts t) (next + length (layouts t)) zs in (
    inr (fresh layouts b next t, j (fresh layouts b next t) (inl refl), e, refl),
    subst (λ cs. AllAllowed b F cs zs) (append_assoc due (layouts t) (all_cells layouts ks))
        (below (due ++ layouts t) (fresh layouts b next t ∷ named) (next + length (layouts t)) (sized_more layouts b deep due t (λ u q. s u (inr q))) (more_one layouts b next (length (layouts t)) one)
        (before_more layouts b named next t one (s t (inl refl)) old) (both_inside (fresh layouts b next t) named ks i j) (λ k q. j k (inr q)) h),
  )

  by_cell : (zs : List ℤ) → Below zs → (c : Cell) (due : List Cell) (named : List Named) (next : ℕ) (z : ℤ) → Sized layouts b (c ∷ due) → 1 ≤ next → Before layouts b named next → Inside named
      → Inside (named_by layouts (c ∷ due) next (z ∷ zs)) → AreCells layouts b (c ∷ due) named next (z ∷ zs) → AllAllowed b F (c ∷ due ++ all_cells layouts (named_by layouts (c ∷ due) next (z ∷ zs))) (z ∷ zs)
  by_cell zs below int_cell due named next z s one old i j h = behind_old zs below int_cell due named next z s one old i (number_new z next) j h.0 h.1
  by_cell zs below (ptr_cell t) due named next z s one old i j (inl h) = behind_old zs below (ptr_cell t) due named next z s one old i (old_not_new named next t z one old h.0) j (old_inside named t z i h.0) h.1
  by_cell zs below (ptr_cell t) due named next z s one old i j (inr h) = let e = named_new layouts b t due next z zs (next_new next t z h.0) in
      subst (λ ks. AllAllowed b F (ptr_cell t ∷ due ++ all_cells layouts ks) (z ∷ zs)) (sym e) (behind_new zs below t due named next z s one old i h.0 (subst Inside e j) h.1)

  pub all_allowed : (zs : List ℤ) → Below zs
  unfolding named_by
  all_allowed [] [] named next s one old i j h = tt
  all_allowed [] (c ∷ due) named next s one old i j h = absurd h
  all_allowed (z ∷ zs) [] named next s one old i j h = absurd h
  all_allowed (z ∷ zs) (c ∷ due) named next s one old i j h = by_cell zs (all_allowed zs) c due named next z s one old i j h

  -- each block's cells are those at its address
  pub blocks_allowed : (zs : List ℤ) (n : ℕ) (ks : List Named) → Running layouts (suc n) ks → AllAllowed b F (all_cells layouts ks) (drop n zs)
      → (k : Named) → In k ks → AllAllowed b F (layouts k.type) (from_address k.address zs)
  blocks_allowed zs n [] r p k i = absurd i
  blocks_allowed zs n (j ∷ ks) r p k (inl e) = subst (λ m. AllAllowed b F (layouts m.type) (from_address m.address zs)) (sym e)
      (subst (AllAllowed b F (layouts j.type)) (at_next n zs ∙ ap (λ m. from_address m zs) (sym r.0)) (allowed_split b F (layouts j.type) (all_cells layouts ks) (drop n zs) p).0)
  blocks_allowed zs n (j ∷ ks) r p k (inr i) = blocks_allowed zs (n + length (layouts j.type)) ks (subst (λ m. Running layouts m ks) (suc_sum n (length (layouts j.type))) r.1)
      (subst (AllAllowed b F (all_cells layouts ks)) (drop-drop (length (layouts j.type)) n zs) (allowed_split b F (layouts j.type) (all_cells layouts ks) (drop n zs) p).1) k i

-- ---- a canonical input

module _ (layouts : ℕ → List Cell) (b : Limits) (params : List Cell) (points : PointsToCells layouts params) (h : Input) (ok : IsCanonical layouts b params h) where
  abbrev named : List Named
  named = named_in layouts params h

  deep : (s t : ℕ) → In (ptr_cell t) (layouts s) → 1 ≤ length (layouts t)
  deep s t i = points t (inr (s, i))

  its_run : Running layouts (suc (length params)) named
  its_run = running layouts params (suc (length params)) h.cells

  ascend : Pairwise (λ j k. j.address < k.address) named
  ascend = addresses_ascend layouts params points b h ok

  has_cells : (k : Named) → In k named → 1 ≤ length (layouts k.type)
  has_cells = have_cells layouts params points b h ok

  begins : (k : Named) → In k named → length params < k.address
  begins k i = let l = from_next layouts b (suc (length params)) named its_run k i in omega (arith, l)

  address : (k : Named) → In k named → 1 ≤ k.address
  address k i = let l = begins k i in omega (arith, l)

  its_cells : AllAllowed b named (params ++ all_cells layouts named) h.cells
  its_cells = all_allowed layouts b deep named h.cells params [] (suc (length params)) (λ t i. points t (inl i)) (omega arith) (λ k i. absurd i) (λ k i. absurd i) (λ k i. i) ok.0

  its_parts : AllAllowed b named params h.cells × AllAllowed b named (all_cells layouts named) (drop (length params) h.cells)
  its_parts = allowed_split b named params (all_cells layouts named) h.cells its_cells

  block_allowed : (k : Named) → In k named → AllAllowed b named (layouts k.type) (drop (k.address - 1) h.cells)
  block_allowed k i = subst (AllAllowed b named (layouts k.type)) (dropped_at k.address h.cells (address k i)) (blocks_allowed layouts b deep named h.cells (length params) named its_run its_parts.1 k i)

  ends : (k : Named) → In k named → k.address - 1 + length (layouts k.type) ≤ length h.cells
  ends k i =
      let l = as_long b named (layouts k.type) (drop (k.address - 1) h.cells) (block_allowed k i) in
      let d = length-drop (k.address - 1) h.cells in
      let c = has_cells k i in omega (arith, l, d, c)

  block_cell : (k : Named) → In k named → (n : ℕ) (c : Cell) (z : ℤ) → slice_get (layouts k.type) n ≡ Some c → slice_get h.cells (k.address - 1 + n) ≡ Some z → Allowed b named c z
  block_cell k i n c z e f = allowed_at b named (layouts k.type) (drop (k.address - 1) h.cells) n c z (block_allowed k i) e (get_dropped (k.address - 1) h.cells n ∙ f)

  param_cell : (n : ℕ) (c : Cell) (z : ℤ) → slice_get params n ≡ Some c → slice_get h.cells n ≡ Some z → Allowed b named c z
  param_cell n c z e f = allowed_at b named params h.cells n c z its_parts.0 e f

  module _ (globals : List Value) (base : ℤ) where
    its_values : (k : Named) → In k named → (data_of layouts params globals h.cells h.stream base).blocks k.address ≡ values_from (layouts k.type) (drop (k.address - 1) h.cells)
    unfolding graph_of
    its_values k i = ap (λ d. d.blocks k.address) (same_memory layouts params globals base h)
        ∙ ap (map value_of) (found_at layouts h.cells named ascend k i)
        ∙ values_of_contents (layouts k.type) (from_address k.address h.cells)
        ∙ ap (values_from (layouts k.type)) (dropped_at k.address h.cells (address k i))

    its_params : (data_of layouts params globals h.cells h.stream base).made ≡ globals ∷ map (λ v. v ∷ []) (values_from params h.cells)
    unfolding graph_of
    its_params = ap (λ d. d.made) (same_memory layouts params globals base h)
        ∙ ap (λ l. globals ∷ l) (sym (params_split layouts (contents params h.cells)) ∙ ap (map (λ v. v ∷ [])) (values_of_contents params h.cells))

    pub laid_out : IsLaidOut layouts b params globals base h
    laid_out = record {
      block_values = its_values;
      param_values = its_params;
      params_end = as_long b named params h.cells its_parts.0;
      block_begins = begins;
      block_address = address;
      block_has_cells = has_cells;
      block_ends = ends;
      pointers_named = λ k i c u z e f. block_cell k i c (ptr_cell u) z e f;
      param_pointers_named = λ c u z e f. param_cell c (ptr_cell u) z e f;
      numbers_within = λ k i c z e f. block_cell k i c int_cell z e f;
      param_numbers_within = λ c z e f. param_cell c int_cell z e f;
      stream_within = ok.1;
      one_type = one_named named ascend;
    }

-- ---- an input of a program

module _ (p : Program) (b : Limits) (points : PointsToCells p.layouts (params_of p)) (h : Input) (ok : IsInput p b h) where
  pub input_laid_out : IsLaidOut p.layouts b (params_of p) (map value_of_start p.globals) (base_of b) h
  input_laid_out = laid_out p.layouts b (params_of p) points h ok (map value_of_start p.globals) (base_of b)

  -- the memory that its run begins with
  pub begin_data : (begin_of p b h).data_now ≡ data_of p.layouts (params_of p) (map value_of_start p.globals) h.cells h.stream (base_of b)
  unfolding begin_of
  begin_data = refl
