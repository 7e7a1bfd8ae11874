-- The memory of an input is that of its graph.
use Rattle.std.proofs.Common.{◌≡◌, ℕ, zero, suc, ◌+◌, ℤ, pos, negsuc, Bool, true, false, List, [], ◌∷◌, ◌++◌, length, map, drop, refl, sym, ap, ap₂, ◌∙◌, subst, nat_eq, if◌then◌else◌, append_assoc}
use Rattle.std.proofs.Math.Path.{fun_ext}
use Rattle.std.proofs.lemmas.List.{drop-drop}
use Rattle.cc_laws.proofs.Members.{suc_sum}
use Rattle.cc_base.specs.declared.inputs.Input.{Input}
use Rattle.cc_base.specs.Limits.{Limits, base_of}
use Rattle.cc_model.specs.Core.{Cell, int_cell, ptr_cell, Layout, Program}
use Rattle.cc_model.specs.Canonical.{Named}
use Rattle.cc_model.specs.Plain as base
use Rattle.cc_model.specs.Plain.{plain, Value, Data, Scan, scan, value_at, names_new, target, front, back, blocks_of, block_cells, data_of}
use Rattle.cc_model.specs.Runs.{params_of, path_at, end_at, run_of, begin_of, run, fixed_of, path_of, end_of}
use Rattle.cc_model.specs.Graphs.{Content, Graph, content_of, contents, from_address, named_by, block_at, graph_of, value_of, cells_named, begin_on, run_on, path_on, end_on}

pub value_of_content : (c : Cell) (z : ℤ) → value_at c z ≡ value_of (content_of c z)
unfolding value_at value_of content_of
value_of_content int_cell z = refl
value_of_content (ptr_cell t) (pos zero) = refl
value_of_content (ptr_cell t) (pos (suc n)) = refl
value_of_content (ptr_cell t) (negsuc n) = refl

pub front_of : (A B : List Cell) (zs : List ℤ) → front (length A) (map value_of (contents (A ++ B) zs)) ≡ map value_of (contents A zs)
unfolding front contents
front_of [] B zs = refl
front_of (c ∷ A) B [] = refl
front_of (c ∷ A) B (z ∷ zs) = ap (λ l. value_of (content_of c z) ∷ l) (front_of A B zs)

contents_end : (A : List Cell) → contents A [] ≡ []
unfolding contents
contents_end [] = refl
contents_end (c ∷ A) = refl

pub back_of : (A B : List Cell) (zs : List ℤ) → back (length A) (map value_of (contents (A ++ B) zs)) ≡ map value_of (contents B (drop (length A) zs))
unfolding back contents
back_of [] B zs = refl
back_of (c ∷ A) B [] = sym (ap (map value_of) (contents_end B))
back_of (c ∷ A) B (z ∷ zs) = back_of A B zs

pub at_next : (n : ℕ) (zs : List ℤ) → drop n zs ≡ from_address (suc n) zs
unfolding from_address
at_next n zs = refl

module _ (layouts : ℕ → List Cell) where
  -- the types of the blocks' cells, in order
  abbrev pub all_cells : List Named → List Cell
  all_cells [] = []
  all_cells (k ∷ ks) = layouts k.type ++ all_cells ks

  abbrev pub laid : Named → Layout
  laid k = record { type = k.address; cells = layouts k.type }

  -- each block begins where the one before it ends
  abbrev pub Running : ℕ → List Named → Type 0
  Running next [] = Unit {0}
  Running next (k ∷ ks) = (k.address ≡ next) × Running (next + length (layouts k.type)) ks

  running_if : (b : Bool) (next t : ℕ) (l m : List Named) → Running (next + length (layouts t)) l → Running next m → Running next (if b then record { address = next; type = t } ∷ l else m)
  running_if true next t l m h k = (refl, h)
  running_if false next t l m h k = k

  pub running : (due : List Cell) (next : ℕ) (zs : List ℤ) → Running next (named_by layouts due next zs)
  unfolding named_by
  running [] next zs = tt
  running (c ∷ due) next [] = tt
  running (c ∷ due) next (z ∷ zs) = running_if (names_new c z next) next (target c) _ _ (running (due ++ layouts (target c)) (next + length (layouts (target c))) zs) (running due next zs)

  pub record Scans (r : Scan) (due : List Cell) (ks : List Named) (zs : List ℤ) : Type 0 where
    pub values : r.values ≡ map value_of (contents (due ++ all_cells ks) zs)
    pub found : r.found ≡ map laid ks

  scans_if : (b : Bool) (c : Cell) (z : ℤ) (zs : List ℤ) (due : List Cell) (next t : ℕ) (r s : Scan) (l m : List Named) → Scans r (due ++ layouts t) l zs → Scans s due m zs
      → Scans (if b then record { values = value_at c z ∷ r.values; found = record { type = next; cells = layouts t } ∷ r.found } else record { values = value_at c z ∷ s.values; found = s.found })
      (c ∷ due) (if b then record { address = next; type = t } ∷ l else m) (z ∷ zs)
  unfolding contents
  scans_if true c z zs due next t r s l m h k = record {
    values = ap₂ (λ v vs. v ∷ vs) (value_of_content c z) (h.values ∙ ap (λ cs. map value_of (contents cs zs)) (append_assoc due (layouts t) (all_cells l)));
    found = ap (λ ts. record { type = next; cells = layouts t } ∷ ts) h.found;
  }
  scans_if false c z zs due next t r s l m h k = record { values = ap₂ (λ v vs. v ∷ vs) (value_of_content c z) k.values; found = k.found }

  pub scanned : (zs : List ℤ) (due : List Cell) (next : ℕ) → Scans (scan layouts zs due next) due (named_by layouts due next zs) zs
  unfolding scan named_by contents
  scanned [] [] next = record { values = refl; found = refl }
  scanned [] (c ∷ due) next = record { values = refl; found = refl }
  scanned (z ∷ zs) [] next = record { values = refl; found = refl }
  scanned (z ∷ zs) (c ∷ due) next = scans_if (names_new c z next) c z zs due next (target c) _ _ _ _ (scanned zs (due ++ layouts (target c)) (next + length (layouts (target c)))) (scanned zs due next)

  cells_if : (b : Bool) (u v : List Value) (l m : List Content) → u ≡ map value_of l → v ≡ map value_of m → (if b then u else v) ≡ map value_of (if b then l else m)
  cells_if true u v l m h k = h
  cells_if false u v l m h k = k

  -- the blocks, split off one after the other, are those at their addresses
  pub blocks_split : (zs : List ℤ) (a n : ℕ) (ks : List Named) → Running (suc n) ks → block_cells a (blocks_of (map laid ks) (map value_of (contents (all_cells ks) (drop n zs)))) ≡ map value_of (cells_named a (map (block_at layouts zs) ks))
  unfolding block_cells blocks_of cells_named block_at
  blocks_split zs a n [] h = refl
  blocks_split zs a n (k ∷ ks) h = cells_if (nat_eq a k.address) _ _ _ _
      (front_of (layouts k.type) (all_cells ks) (drop n zs) ∙ ap (λ l. map value_of (contents (layouts k.type) l)) (at_next n zs) ∙ ap (λ m. map value_of (contents (layouts k.type) (from_address m zs))) (sym h.0))
      (ap (λ vs. block_cells a (blocks_of (map laid ks) vs)) (back_of (layouts k.type) (all_cells ks) (drop n zs) ∙ ap (λ l. map value_of (contents (all_cells ks) l)) (drop-drop (length (layouts k.type)) n zs))
      ∙ blocks_split zs a (n + length (layouts k.type)) ks (subst (λ m. Running m ks) (suc_sum n (length (layouts k.type))) h.1))

  pub params_split : (vs : List Content) → map (λ v. v ∷ []) (map value_of vs) ≡ map (λ v. value_of v ∷ []) vs
  params_split [] = refl
  params_split (v ∷ vs) = ap (λ l. (value_of v ∷ []) ∷ l) (params_split vs)

  module _ (params : List Cell) (globals : List Value) (base : ℤ) (h : Input) where
    -- the memory that is laid out from a graph
    abbrev pub laid_out : Graph → Data
    laid_out g = record { blocks = λ a. map value_of (cells_named a g.blocks); made = globals ∷ map (λ v. value_of v ∷ []) g.params; touched = []; stream = g.stream; base = base; count = 0 }

    put_together : (f f' : ℕ → List Value) (m m' : List (List Value)) → f ≡ f' → m ≡ m' → ◌≡◌ {A = Data} (record { blocks = f; made = globals ∷ m; touched = []; stream = h.stream; base = base; count = 0 }) (record { blocks = f'; made = globals ∷ m'; touched = []; stream = h.stream; base = base; count = 0 })
    put_together f f' m m' i j = ap₂ (λ f m. record { blocks = f; made = globals ∷ m; touched = []; stream = h.stream; base = base; count = 0 }) i j

    abbrev found_in : List Named
    found_in = named_by layouts params (suc (length params)) h.cells

    abbrev read_in : Scan
    read_in = scan layouts h.cells params (suc (length params))

    read_scans : Scans read_in params found_in h.cells
    read_scans = scanned h.cells params (suc (length params))

    pub same_memory : data_of layouts params globals h.cells h.stream base ≡ laid_out (graph_of layouts params h)
    unfolding data_of graph_of
    same_memory = put_together _ _ _ _
        (fun_ext (λ a. ap (λ t. block_cells a (blocks_of t (back (length params) read_in.values))) read_scans.found
        ∙ ap (λ vs. block_cells a (blocks_of (map laid found_in) vs)) (ap (back (length params)) read_scans.values ∙ back_of params (all_cells found_in) h.cells)
        ∙ blocks_split h.cells a (length params) found_in (running params (suc (length params)) h.cells)))
        (ap (λ vs. map (λ v. v ∷ []) (front (length params) vs)) read_scans.values ∙ ap (map (λ v. v ∷ [])) (front_of params (all_cells found_in) h.cells) ∙ params_split (contents params h.cells))

module _ (p : Program) (b : Limits) (h : Input) where
  abbrev graph : Graph
  graph = graph_of p.layouts (params_of p) h

  pub same_begin : begin_on p b graph ≡ begin_of p b h
  unfolding begin_on begin_of
  same_begin = ap (λ d. record { locals = base.locals_at; data_now = d }) (sym (same_memory p.layouts (params_of p) _ (base_of b) h))

  pub same_path : path_on p b graph ≡ path_at p b h
  unfolding path_on run_on path_at run_of
  same_path = ap (λ c. path_of plain (run plain (fixed_of p b) b.steps b.depth c).log) same_begin

  pub same_end : end_on p b graph ≡ end_at p b h
  unfolding end_on run_on end_at run_of
  same_end = ap (λ c. end_of (run plain (fixed_of p b) b.steps b.depth c).result) same_begin
