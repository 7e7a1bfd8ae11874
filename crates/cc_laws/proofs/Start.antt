-- Where the runs of inputs begin.
use Rattle.std.proofs.Common.{◌≡◌, ℕ, zero, suc, ◌+◌, ◌<◌, ◌≤◌, ℤ, pos, ◌+ℤ◌, true, inl, inr, List, [], ◌∷◌, length, map, drop, Option, IsSome, Some, unwrap_or, option_and_then, refl, sym, ap, ◌∙◌, subst, arith, slice_get, nat_eq, if◌then◌else◌}
use Rattle.std.proofs.lemmas.Int.{ints}
use Rattle.cc_base.specs.declared.inputs.Input.{Input}
use Rattle.cc_base.specs.Holds.{value_of_form, or_zero, total}
use Rattle.cc_base.specs.Limits.{Limits, base_of}
use Rattle.cc_base.specs.Paths.{In, Pairwise}
use Rattle.cc_base.specs.Places.{Placed, arg, ParentsFirst, ParentBelow, cell_at, at_place, value_within, value_there}
use Rattle.cc_model.specs.Core.{Cell, int_cell, ptr_cell, Program, Start, start_number, start_null}
use Rattle.cc_model.specs.Canonical.{Named}
use Rattle.cc_model.specs.Plain as base
use Rattle.cc_model.specs.Plain.{Value, num, null, at, block, made}
use Rattle.cc_model.specs.Runs.{IsInput, params_of, begin_of, value_of_start}
use Rattle.cc_model.specs.Graphs.{Graph, content_of, contents, from_address, block_at, graph_of, PointsToCells, value_of, begin_on}
use Rattle.cc_model.specs.FormOperations.{Forms, Laws, places_of_form}
use Rattle.cc_model.specs.Traced.{Shadow, form, place, arg_places, cell_shadows, cell_ty}
use Rattle.cc_model.specs.Conditions.{start_shadow, traced_begin}
use Rattle.cc_laws.proofs.Members.{not_same, is_same}
use Rattle.cc_laws.proofs.Renaming.{names_of, there, has_in, only_one}
use Rattle.cc_laws.proofs.Scanned.{params_split, same_begin}
use Rattle.cc_laws.proofs.Listed.{Holds, HoldAll, blocks_in, have_address, params_hold, blocks_hold, addresses_ascend, is_graph, block_in, name_at, cells_at}
use Rattle.cc_laws.proofs.Lockstep.{Typed, Points, IsCell, AreCells, World, Lock, LocAt, Fits, CellsAt, MadeAt, Known, spot_made}

-- ---- one input

type_in : ℕ → List Named → ℕ
type_in n [] = 0
type_in n (k ∷ ks) = if nat_eq n k.address then k.type else type_in n ks

type_found : (ks : List Named) → Pairwise (λ j k. j.address < k.address) ks → (k : Named) → In k ks → type_in k.address ks ≡ k.type
unfolding type_in
type_found [] p k i = absurd i
type_found (j ∷ ks) p k (inl e) = ap (λ t. if t then j.type else type_in k.address ks) (is_same k.address j.address (ap (λ m. m.address) e)) ∙ ap (λ m. m.type) (sym e)
type_found (j ∷ ks) p k (inr i) = let l = p.0 k i in
    ap (λ t. if t then j.type else type_in k.address ks) (not_same k.address j.address (λ e. omega (arith, l, e))) ∙ type_found ks p.1 k i

first_there : (n : ℕ) (zs : List ℤ) (z : ℤ) (ys : List ℤ) → z ∷ ys ≡ drop n zs → (slice_get zs n ≡ Some z) × (ys ≡ drop (suc n) zs)
first_there zero [] z ys e = absurd (cc e)
first_there (suc n) [] z ys e = absurd (cc e)
first_there zero (y ∷ zs) z ys e = (cc e, cc e)
first_there (suc n) (y ∷ zs) z ys e = first_there n zs z ys e

cell_there : (zs : List ℤ) (n : ℕ) → cell_at zs (pos (suc n)) ≡ slice_get zs n
unfolding cell_at
cell_there zs n = refl

value_number : (z : ℤ) → value_of (content_of int_cell z) ≡ num z
unfolding value_of content_of
value_number z = refl

value_null : (t : ℕ) → value_of (content_of (ptr_cell t) (pos 0)) ≡ null
unfolding value_of content_of
value_null t = refl

value_pointer : (t n : ℕ) → value_of (content_of (ptr_cell t) (pos (suc n))) ≡ at (block (suc n)) 0
unfolding value_of content_of
value_pointer t n = refl

module _ (layouts : ℕ → List Cell) (b : Limits) (ks : List Named) (up : Pairwise (λ j k. j.address < k.address) ks) (zs : List ℤ) where
  abbrev type : ℕ → ℕ
  type n = type_in n ks

  abbrev named : ℕ → Type 0
  named n = (k : Named) × In k ks × (k.address ≡ n)

  points_old : (t : ℕ) (o : Option ℤ) (z : ℤ) (k : Named) (n : ℕ) → n ≡ k.address → 1 ≤ n → o ≡ Some z → In k ks → z ≡ pos k.address → k.type ≡ t → Points type named t o (value_of (content_of (ptr_cell t) z))
  points_old t o z k zero e one f i y q = absurd (omega (arith, one))
  points_old t o z k (suc n) e one f i y q = let w : z ≡ pos (suc n) = y ∙ ap pos (sym e) in
      inr (n, f ∙ ap Some w, ap (λ x. value_of (content_of (ptr_cell t) x)) w ∙ value_pointer t n, ap type e ∙ type_found ks up k i ∙ q, (k, i, sym e))

  is_cell : (c : Cell) (o : Option ℤ) (z : ℤ) → o ≡ Some z → Holds layouts b ks c z → IsCell type named c o (value_of (content_of c z))
  is_cell int_cell o z f p = (z, f, value_number z)
  is_cell (ptr_cell t) o z f (inl e) = inl (f ∙ ap Some e, ap (λ x. value_of (content_of (ptr_cell t) x)) e ∙ value_null t)
  is_cell (ptr_cell t) o z f (inr p) = points_old t o z p.0 (p.0).address refl p.4 f p.1 p.2 p.3

  are_cells : (cs : List Cell) (n : ℕ) (ys : List ℤ) → ys ≡ drop n zs → HoldAll layouts b ks cs ys → AreCells type named zs (suc n) cs (map value_of (contents cs ys))
  unfolding contents
  are_cells [] n ys e p = tt
  are_cells (c ∷ cs) n (z ∷ ys) e p = let f = first_there n zs z ys e in (is_cell c (cell_at zs (pos (suc n))) z (cell_there zs n ∙ f.0) p.0, are_cells cs (suc n) ys f.1 p.1)
  are_cells (c ∷ cs) n [] e p = absurd p

  are_cells_from : (cs : List Cell) (n : ℕ) → 1 ≤ n → HoldAll layouts b ks cs (from_address n zs) → AreCells type named zs n cs (map value_of (contents cs (from_address n zs)))
  unfolding from_address
  are_cells_from cs zero one p = absurd (omega (arith, one))
  are_cells_from cs (suc n) one p = are_cells cs n (drop n zs) refl p

module _ (p : Program) (b : Limits) (points : PointsToCells p.layouts (params_of p)) where
  abbrev pub globals_of : List Value
  globals_of = map value_of_start p.globals

  module _ (h : Input) (ok : IsInput p b h) where
    abbrev ks : List Named
    ks = blocks_in p.layouts (params_of p) points b h ok

    abbrev up : Pairwise (λ j k. j.address < k.address) ks
    up = addresses_ascend p.layouts (params_of p) points b h ok

    abbrev its_graph : Graph
    its_graph = graph_of p.layouts (params_of p) h

    abbrev start : base.Data
    start = (begin_on p b its_graph).data_now

    -- the cells of a block
    block_values : (k : Named) → In k ks → start.blocks k.address ≡ map value_of (contents (p.layouts k.type) (from_address k.address h.cells))
    unfolding begin_on
    block_values k i =
        let j = block_in p.layouts (params_of p) points b h ok k i in
        let n = name_at p.layouts (params_of p) points b h ok k in
        let m = there k.address its_graph.blocks (subst (λ a. base.has a (names_of its_graph.blocks) ≡ true) n (has_in (block_at p.layouts h.cells k) its_graph.blocks j)) in
        let e = only_one its_graph.blocks (is_graph p.layouts (params_of p) points b h ok).names m.0 (block_at p.layouts h.cells k) m.1 j (m.2 ∙ sym n) in
        ap (map value_of) (m.3 ∙ ap (λ x. x.cells) e ∙ cells_at p.layouts (params_of p) points b h ok k)

    block_typed : (n : ℕ) → named p.layouts b ks up h.cells n → AreCells (type p.layouts b ks up h.cells) (named p.layouts b ks up h.cells) h.cells n (p.layouts (type p.layouts b ks up h.cells n)) (start.blocks n)
    block_typed n m = subst (λ a. AreCells (type p.layouts b ks up h.cells) (named p.layouts b ks up h.cells) h.cells a (p.layouts (type p.layouts b ks up h.cells a)) (start.blocks a)) m.2
        (subst (λ t. AreCells (type p.layouts b ks up h.cells) (named p.layouts b ks up h.cells) h.cells (m.0).address (p.layouts t) (start.blocks (m.0).address)) (sym (type_found ks up m.0 m.1))
        (subst (AreCells (type p.layouts b ks up h.cells) (named p.layouts b ks up h.cells) h.cells (m.0).address (p.layouts (m.0).type)) (sym (block_values m.0 m.1))
        (are_cells_from p.layouts b ks up h.cells (p.layouts (m.0).type) (m.0).address (have_address p.layouts (params_of p) points b h ok m.0 m.1) (blocks_hold p.layouts (params_of p) points b h ok m.0 m.1))))

    graph_typed : Typed p.layouts (params_of p) globals_of (base_of b) h start
    unfolding begin_on graph_of
    graph_typed = record {
      type = type p.layouts b ks up h.cells;
      named = named p.layouts b ks up h.cells;
      cells = block_typed;
      values = map value_of (contents (params_of p) h.cells);
      made = ap (λ l. globals_of ∷ l) (sym (params_split p.layouts (contents (params_of p) h.cells)));
      arguments = are_cells p.layouts b ks up h.cells (params_of p) 0 h.cells refl (params_hold p.layouts (params_of p) points b h ok);
      touched = refl;
      stream = refl;
      base_value = refl;
      count = refl;
    }

    -- an input within the rule has typed cells
    pub typed_at : Typed p.layouts (params_of p) globals_of (base_of b) h (begin_of p b h).data_now
    typed_at = subst (λ s. Typed p.layouts (params_of p) globals_of (base_of b) h s.data_now) (same_begin p b h) graph_typed

-- ---- two inputs

arg_at : (cs : List Cell) (i n : ℕ) (q : Placed) → slice_get (arg_places i cs) n ≡ Some q → q.place ≡ arg (i + n)
unfolding arg_places
arg_at [] i n q e = absurd (cc e)
arg_at (c ∷ cs) i zero q e = let f : (record { place = arg i; holds = cell_ty c }) ≡ q = cc e in sym (ap (λ x. x.place) f) ∙ ap arg (omega arith)
arg_at (c ∷ cs) i (suc n) q e = arg_at cs (suc i) n q e ∙ ap arg (omega arith)

arg_there : (cs : List Cell) (i n : ℕ) → n < length cs → (q : Placed) × (slice_get (arg_places i cs) n ≡ Some q)
unfolding arg_places
arg_there [] i n l = absurd (omega (arith, l))
arg_there (c ∷ cs) i zero l = (record { place = arg i; holds = cell_ty c }, refl)
arg_there (c ∷ cs) i (suc n) l = arg_there cs (suc i) n (omega (arith, l))

arg_count : (cs : List Cell) (i : ℕ) → length (arg_places i cs) ≡ length cs
unfolding arg_places
arg_count [] i = refl
arg_count (c ∷ cs) i = ap suc (arg_count cs (suc i))

pub first_parents : (cs : List Cell) → ParentsFirst (arg_places 0 cs)
first_parents cs = record { below = λ n q e. subst (ParentBelow n) (sym (arg_at cs 0 n q e)) tt }

value_arg : (cs : List Cell) (j : Input) (b : ℤ) (n : ℕ) → n < length cs → at_place (arg_places 0 cs) j b n ≡ cell_at j.cells (pos (suc n))
unfolding at_place value_within value_there
value_arg cs j b n l = let q = arg_there cs 0 n l in
    ap (λ o. option_and_then (λ x. value_there (value_within n (arg_places 0 cs) j b) j b x.place) o) q.1
    ∙ ap (value_there (value_within n (arg_places 0 cs) j b) j b) (arg_at cs 0 n q.0 q.1 ∙ ap arg (omega arith)) ∙ sym (cell_there j.cells n)

module _ (f : Forms) (laws : Laws f) (p : Program) (b : Limits) (points : PointsToCells p.layouts (params_of p)) (u h : Input) (ok : IsInput p b u) (ok' : IsInput p b h) where
  abbrev pub tu : Typed p.layouts (params_of p) (globals_of p b points) (base_of b) u (begin_of p b u).data_now
  tu = typed_at p b points u ok

  abbrev pub th : Typed p.layouts (params_of p) (globals_of p b points) (base_of b) h (begin_of p b h).data_now
  th = typed_at p b points h ok'

  -- no block is touched, and the places are those of the parameters' cells
  abbrev pub first_world : World
  first_world = record { keys = []; places = arg_places 0 (params_of p); parents = first_parents (params_of p) }

  abbrev FitsAt : Shadow → Value → Value → Type 0
  FitsAt = Fits p.layouts (params_of p) (globals_of p b points) (base_of b) u h (begin_of p b u).data_now (begin_of p b h).data_now tu th first_world

  abbrev CellsFit : List Shadow → List Value → List Value → Type 0
  CellsFit = CellsAt p.layouts (params_of p) (globals_of p b points) (base_of b) u h (begin_of p b u).data_now (begin_of p b h).data_now tu th first_world

  abbrev MadeFit : List (List Shadow) → List (List Value) → List (List Value) → Type 0
  MadeFit = MadeAt p.layouts (params_of p) (globals_of p b points) (base_of b) u h (begin_of p b u).data_now (begin_of p b h).data_now tu th first_world

  number_value : (z : ℤ) (e : ℕ → ℤ) → num z ≡ num (value_of_form e (f.number z))
  unfolding value_of_form total
  number_value z e = ap num (let i : z ≡ z +ℤ pos 0 = omega (arith, ints) in i ∙ ap (value_of_form e) (sym (laws.number z)))

  no_places : (z : ℤ) (n : ℕ) → In n (places_of_form (f.number z)) → ⊥
  no_places z n i = subst (λ a. In n (places_of_form a)) (laws.number z) i

  global_fits : (s : Start) → FitsAt (start_shadow f s) (value_of_start s) (value_of_start s)
  unfolding start_shadow
  global_fits (start_number z) = record { here = number_value z _; there = number_value z _; known = λ n i. absurd (no_places z n i) }
  global_fits start_null = inl (refl, refl)

  globals_fit : (l : List Start) → CellsFit (map (start_shadow f) l) (map value_of_start l) (map value_of_start l)
  globals_fit [] = tt
  globals_fit (s ∷ l) = (global_fits s, globals_fit l)

  of_value : (n : ℕ) (z : ℤ) (e : ℕ → Option ℤ) → e n ≡ Some z → num z ≡ num (value_of_form (or_zero e) (f.of n))
  of_value n z e i = ap num (sym (laws.of n (or_zero e) ∙ ap (λ o. unwrap_or o (pos 0)) i))

  some_is : (z : ℤ) (o : Option ℤ) → o ≡ Some z → IsSome o
  some_is z o i = subst IsSome (sym i) refl

  head_of : (s t : Shadow) (l m : List Shadow) → s ∷ l ≡ t ∷ m → s ≡ t
  head_of s t l m e = cc e

  one_place : (k n : ℕ) → In k (n ∷ []) → k ≡ n
  one_place k n (inl e) = e
  one_place k n (inr i) = absurd i

  abbrev KnownAt : ℕ → Type 0
  KnownAt = Known p.layouts (params_of p) (globals_of p b points) (base_of b) u h (begin_of p b u).data_now (begin_of p b h).data_now tu th first_world

  known_arg : (k n : ℕ) → k ≡ n → n < length (arg_places 0 (params_of p)) → (x y : ℤ) → at_place (arg_places 0 (params_of p)) u (base_of b) n ≡ Some x → at_place (arg_places 0 (params_of p)) h (base_of b) n ≡ Some y → KnownAt k
  known_arg k n e l x y i j = subst KnownAt (sym e) (record { below = l; here = some_is x _ i; there = some_is y _ j })

  -- a parameter's cell
  arg_fits : (n : ℕ) → n < length (params_of p) → (c : Cell) (cs : List Cell) (s : Shadow) (x y : Value) → cell_shadows f n (c ∷ cs) ≡ s ∷ cell_shadows f (suc n) cs
      → IsCell tu.type tu.named c (cell_at u.cells (pos (suc n))) x → IsCell th.type th.named c (cell_at h.cells (pos (suc n))) y → FitsAt s x y
  unfolding cell_shadows
  arg_fits n l int_cell cs s x y e i j =
      let a : at_place (arg_places 0 (params_of p)) u (base_of b) n ≡ Some i.0 = value_arg (params_of p) u (base_of b) n l ∙ i.1 in
      let c : at_place (arg_places 0 (params_of p)) h (base_of b) n ≡ Some j.0 = value_arg (params_of p) h (base_of b) n l ∙ j.1 in
      let m : n < length (arg_places 0 (params_of p)) = subst (λ k. n < k) (sym (arg_count (params_of p) 0)) l in
      subst (λ t. FitsAt t x y) (head_of (form (f.of n)) s _ _ e) (record {
        here = i.2 ∙ of_value n i.0 (at_place (arg_places 0 (params_of p)) u (base_of b)) a;
        there = j.2 ∙ of_value n j.0 (at_place (arg_places 0 (params_of p)) h (base_of b)) c;
        known = λ k q. known_arg k n (one_place k n (subst (In k) (laws.of_places n) q)) m i.0 j.0 a c;
      })
  arg_fits n l (ptr_cell t) cs s x y e i j =
      let m : n < length (arg_places 0 (params_of p)) = subst (λ k. n < k) (sym (arg_count (params_of p) 0)) l in
      subst (λ t. FitsAt t x y) (head_of (place n t) s _ _ e) (record {
        below = m;
        here = subst (λ o. Points tu.type tu.named t o x) (sym (value_arg (params_of p) u (base_of b) n l)) i;
        there = subst (λ o. Points th.type th.named t o y) (sym (value_arg (params_of p) h (base_of b) n l)) j;
      })

  args_fit : (cs : List Cell) (n : ℕ) → n + length cs ≡ length (params_of p) → (xs ys : List Value)
      → AreCells tu.type tu.named u.cells (suc n) cs xs → AreCells th.type th.named h.cells (suc n) cs ys → MadeFit (map (λ s. s ∷ []) (cell_shadows f n cs)) (map (λ v. v ∷ []) xs) (map (λ v. v ∷ []) ys)
  unfolding cell_shadows
  args_fit [] n l [] [] i j = tt
  args_fit (int_cell ∷ cs) n l (x ∷ xs) (y ∷ ys) i j = ((arg_fits n (omega (arith, l)) int_cell cs (form (f.of n)) x y refl i.0 j.0, tt), args_fit cs (suc n) (omega (arith, l)) xs ys i.1 j.1)
  args_fit (ptr_cell t ∷ cs) n l (x ∷ xs) (y ∷ ys) i j = ((arg_fits n (omega (arith, l)) (ptr_cell t) cs (place n t) x y refl i.0 j.0, tt), args_fit cs (suc n) (omega (arith, l)) xs ys i.1 j.1)
  args_fit [] n l (x ∷ xs) ys i j = absurd i
  args_fit [] n l [] (y ∷ ys) i j = absurd j
  args_fit (c ∷ cs) n l [] ys i j = absurd i
  args_fit (c ∷ cs) n l (x ∷ xs) [] i j = absurd j

  abbrev start_shadows : List (List Shadow)
  start_shadows = map (start_shadow f) p.globals ∷ map (λ s. s ∷ []) (cell_shadows f 0 (params_of p))

  made_fits : MadeFit start_shadows (globals_of p b points ∷ map (λ v. v ∷ []) tu.values) (globals_of p b points ∷ map (λ v. v ∷ []) th.values)
  made_fits = (globals_fit p.globals, args_fit (params_of p) 0 (omega arith) tu.values th.values tu.arguments th.arguments)

  -- the runs of two inputs begin in lockstep
  pub start_lock : Lock p.layouts (params_of p) (globals_of p b points) (base_of b) u h (begin_of p b u).data_now (begin_of p b h).data_now tu th first_world (traced_begin f p b u).data_now (traced_begin f p b h).data_now
  unfolding traced_begin
  start_lock = record {
    shadows = refl;
    places = refl;
    touched_g = tu.touched;
    touched_h = th.touched;
    distinct_g = tt;
    distinct_h = tt;
    firsts = λ k i. absurd i;
    blocks = tt;
    away_g = λ n i. refl;
    away_h = λ n i. refl;
    made = subst (λ m. MadeFit start_shadows m (begin_of p b h).data_now.made) (sym tu.made) (subst (MadeFit start_shadows (globals_of p b points ∷ map (λ v. v ∷ []) tu.values)) (sym th.made) made_fits);
    stream_g = tu.stream;
    stream_h = th.stream;
    base_g = tu.base_value;
    base_h = th.base_value;
    count = tu.count ∙ sym th.count;
  }

  pub start_locals : (n : ℕ) → LocAt p.layouts (params_of p) (globals_of p b points) (base_of b) u h (begin_of p b u).data_now (begin_of p b h).data_now tu th first_world ((traced_begin f p b u).locals n) ((traced_begin f p b h).locals n)
  unfolding traced_begin base.locals_at
  start_locals n = (refl, inr (spot_made (suc n) 0 refl refl), spot_made (suc n) 0 refl refl)
