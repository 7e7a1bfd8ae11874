-- Each graph is a renaming of the graph of a list of cells.
use Rattle.std.proofs.Common.{◌≡◌, ◌≢◌, ℕ, suc, ◌+◌, ◌<◌, ◌≤◌, ◌⊎◌, inl, inr, ℤ, pos, negsuc, List, [], ◌∷◌, ◌++◌, length, map, drop, refl, sym, ap, ap₂, ◌∙◌, subst, arith, nat_eq, if◌then◌else◌}
use Rattle.std.proofs.lemmas.Int.{ints}
use Rattle.std.proofs.lemmas.List.{drop-drop}
use Rattle.cc_base.specs.declared.inputs.Input.{Input}
use Rattle.cc_base.specs.Limits.{Limits}
use Rattle.cc_base.specs.Paths.{In, Pairwise}
use Rattle.cc_model.specs.Core.{Cell, ptr_cell}
use Rattle.cc_model.specs.Canonical.{Within, AllWithin, IsCanonical}
use Rattle.cc_model.specs.Graphs.{Content, number, nil, pointer, Block, Graph, FitAll, Leads, IsGraph, rename, rename_block, Renames, contents, from_address, block_at, graph_of, PointsToCells, IsListed}
use Rattle.cc_laws.proofs.Members.{in_left, in_right, in_map, from_map, not_same, is_same, suc_sum}
use Rattle.cc_laws.proofs.Renaming.{only_one}
use Rattle.cc_laws.proofs.Scanned.{all_cells, Running, running, at_next}
use Rattle.cc_laws.proofs.Listed.{addresses_ascend}
use Rattle.cc_laws.proofs.Laid.{Placed, named, Agrees, held, left, Laid, lay}

-- ---- bounds that hold all numbers of a graph

size : ℤ → ℕ
size (pos n) = n
size (negsuc n) = suc n

size_of : Content → ℕ
size_of (number z) = size z
size_of nil = 0
size_of (pointer a) = 0

sizes : List Content → ℕ
sizes [] = 0
sizes (v ∷ vs) = size_of v + sizes vs

block_sizes : List Block → ℕ
block_sizes [] = 0
block_sizes (k ∷ l) = sizes k.cells + block_sizes l

stream_sizes : List ℤ → ℕ
stream_sizes [] = 0
stream_sizes (z ∷ zs) = size z + stream_sizes zs

sizes_in : (z : ℤ) (vs : List Content) → In (number z) vs → size z ≤ sizes vs
unfolding sizes size_of
sizes_in z [] i = absurd i
sizes_in z (v ∷ vs) (inl e) = let f : size z ≡ size_of v = ap size_of e in omega (arith, f)
sizes_in z (v ∷ vs) (inr i) = let f = sizes_in z vs i in omega (arith, f)

block_sizes_in : (k : Block) (l : List Block) → In k l → sizes k.cells ≤ block_sizes l
unfolding block_sizes
block_sizes_in k [] i = absurd i
block_sizes_in k (j ∷ l) (inl e) = let f = ap (λ m. sizes m.cells) e in omega (arith, f)
block_sizes_in k (j ∷ l) (inr i) = let f = block_sizes_in k l i in omega (arith, f)

abbrev limits : ℕ → Limits
limits m = record { lo = negsuc m; hi = pos m; depth = 0; objects = 0; steps = 0 }

within_size : (z : ℤ) (m : ℕ) → size z ≤ m → Within (limits m) z
unfolding size
within_size (pos n) m h = (grind (arith, ints), grind (arith, ints))
within_size (negsuc n) m h = (grind (arith, ints), grind (arith, ints))

stream_within : (zs : List ℤ) (m : ℕ) → stream_sizes zs ≤ m → AllWithin (limits m) zs
unfolding stream_sizes
stream_within [] m h = tt
stream_within (z ∷ zs) m h = (within_size z m (omega (arith, h)), stream_within zs m (omega (arith, h)))

-- ---- lists of contents that are put together

pub fit_length : (g : Graph) (cs : List Cell) (vs : List Content) → FitAll g cs vs → length vs ≡ length cs
fit_length g [] [] h = refl
fit_length g (c ∷ cs) (v ∷ vs) h = ap suc (fit_length g cs vs h.1)
fit_length g [] (v ∷ vs) h = absurd h
fit_length g (c ∷ cs) [] h = absurd h

pub contents_split : (f : Content → Content) (A B : List Cell) (u v : List Content) (zs : List ℤ) → length u ≡ length A → contents (A ++ B) zs ≡ map f (u ++ v) → (contents A zs ≡ map f u) × (contents B (drop (length A) zs) ≡ map f v)
unfolding contents
contents_split f [] B [] v zs l e = (refl, e)
contents_split f (c ∷ A) B (x ∷ u) v [] l e = absurd (cc e)
contents_split f (c ∷ A) B (x ∷ u) v (z ∷ zs) l e = let r = contents_split f A B u v zs (omega (arith, l)) (cc e) in (ap₂ (λ a b. a ∷ b) (cc e) r.0, r.1)
contents_split f [] B (x ∷ u) v zs l e = absurd (omega (arith, l))
contents_split f (c ∷ A) B [] v zs l e = absurd (omega (arith, l))

-- ---- the address of each name

unfoldable address_of : List Placed → ℕ → ℕ
address_of [] a = 0
address_of (k ∷ ks) a = if nat_eq a (k.block).name then k.address else address_of ks a

agrees : (ks : List Placed) → Pairwise (λ j k. (j.block).name ≢ (k.block).name) ks → Agrees (address_of ks) ks
unfolding address_of
agrees [] p k i = absurd i
agrees (j ∷ ks) p k (inl e) = ap (λ t. if t then j.address else address_of ks (k.block).name) (is_same (k.block).name (j.block).name (ap (λ m. (m.block).name) e)) ∙ ap (λ m. m.address) (sym e)
agrees (j ∷ ks) p k (inr i) = ap (λ t. if t then j.address else address_of ks (k.block).name) (not_same (k.block).name (j.block).name (λ e. p.0 k i (sym e))) ∙ agrees ks p.1 k i

one_address : (ks : List Placed) → Pairwise (λ j k. j.address < k.address) (map named ks) → (i j : Placed) → In i ks → In j ks → i.address ≡ j.address → i ≡ j
one_address [] p i j a b e = absurd a
one_address (k ∷ ks) p i j (inl a) (inl b) e = a ∙ sym b
one_address (k ∷ ks) p i j (inl a) (inr b) e = let l = p.0 (named j) (in_map named j ks b) in let f = ap (λ m. m.address) a in absurd (omega (arith, l, f, e))
one_address (k ∷ ks) p i j (inr a) (inl b) e = let l = p.0 (named i) (in_map named i ks a) in let f = ap (λ m. m.address) b in absurd (omega (arith, l, f, e))
one_address (k ∷ ks) p i j (inr a) (inr b) e = one_address ks p.1 i j a b e

block_is : (j k : Block) → j.name ≡ k.name → j.type ≡ k.type → j.cells ≡ k.cells → j ≡ k
block_is j k a b c = ap₂ (λ n t. record { name = n; type = t; cells = j.cells }) a b ∙ ap (λ l. record { name = k.name; type = k.type; cells = l }) c

module _ (layouts : ℕ → List Cell) (params : List Cell) (g : Graph) (points : PointsToCells layouts params) (ok : IsGraph layouts params g) where
  abbrev most : ℕ
  most = sizes g.params + block_sizes g.blocks + stream_sizes g.stream

  abbrev b : Limits
  b = limits most

  abbrev deep : (s t : ℕ) → In (ptr_cell t) (layouts s) → 1 ≤ length (layouts t)
  deep s t i = points t (inr (s, i))

  block_within : (k : Block) → In k g.blocks → (z : ℤ) → In (number z) k.cells → Within b z
  block_within k i z j = within_size z most (let f = sizes_in z k.cells j in let h = block_sizes_in k g.blocks i in omega (arith, f, h))

  abbrev LaidOut : Type 0
  LaidOut = Laid layouts b g deep ok.blocks block_within ok.names params g.params [] (suc (length params))

  laid_out : LaidOut
  laid_out = lay layouts b g deep ok.blocks block_within ok.names (length g.params + left [] g.blocks) params g.params [] (suc (length params)) (omega arith) (record {
    fits = ok.params;
    numbers = λ z i. within_size z most (let f = sizes_in z g.params i in omega (arith, f));
    sized = λ t i. points t (inl i);
    one = omega arith;
    before = λ k i. absurd i;
    blocks = λ k i. absurd i;
  })

  module _ (q : LaidOut) where
    abbrev h : Input
    h = record { cells = q.zs; stream = g.stream }

    canonical : IsCanonical layouts b params h
    canonical = (q.cells, stream_within g.stream most (omega arith))

    abbrev r : ℕ → ℕ
    r = address_of q.ks

    agree : Agrees r q.ks
    agree = agrees q.ks q.apart

    both : (contents params q.zs ≡ map (rename r) g.params) × (contents (all_cells layouts (map named q.ks)) (drop (length params) q.zs) ≡ map (rename r) (held q.ks))
    both = contents_split (rename r) params (all_cells layouts (map named q.ks)) g.params (held q.ks) q.zs (fit_length g params g.params ok.params) (q.same r (λ k i. absurd i) agree)

    blocks_same : (n : ℕ) (ks : List Placed) → Running layouts (suc n) (map named ks) → ((k : Placed) → In k ks → In k.block g.blocks) → contents (all_cells layouts (map named ks)) (drop n q.zs) ≡ map (rename r) (held ks)
        → (k : Placed) → In k ks → contents (layouts (k.block).type) (from_address k.address q.zs) ≡ map (rename r) (k.block).cells
    blocks_same n [] run in_g e k i = absurd i
    blocks_same n (j ∷ ks) run in_g e k i = elim i [
      | inl f ↦ subst (λ m. contents (layouts (m.block).type) (from_address m.address q.zs) ≡ map (rename r) (m.block).cells) (sym f)
          (ap (contents (layouts (j.block).type)) (ap (λ m. from_address m q.zs) run.0 ∙ sym (at_next n q.zs)) ∙ (split j ks n e (in_g j (inl refl))).0)
      | inr f ↦ blocks_same (n + length (layouts (j.block).type)) ks (subst (λ m. Running layouts m (map named ks)) (suc_sum n (length (layouts (j.block).type))) run.1) (λ m x. in_g m (inr x))
          (ap (contents (all_cells layouts (map named ks))) (sym (drop-drop (length (layouts (j.block).type)) n q.zs)) ∙ (split j ks n e (in_g j (inl refl))).1) k f
    ]
      where
        split : (j : Placed) (ks : List Placed) (n : ℕ) → contents (layouts (j.block).type ++ all_cells layouts (map named ks)) (drop n q.zs) ≡ map (rename r) ((j.block).cells ++ held ks) → In j.block g.blocks
            → (contents (layouts (j.block).type) (drop n q.zs) ≡ map (rename r) (j.block).cells) × (contents (all_cells layouts (map named ks)) (drop (length (layouts (j.block).type)) (drop n q.zs)) ≡ map (rename r) (held ks))
        split j ks n e i = contents_split (rename r) (layouts (j.block).type) (all_cells layouts (map named ks)) (j.block).cells (held ks) (drop n q.zs) (fit_length g (layouts (j.block).type) (j.block).cells (ok.blocks j.block i)) e

    found_running : Running layouts (suc (length params)) (map named q.ks)
    found_running = subst (Running layouts (suc (length params))) q.found (running layouts params (suc (length params)) q.zs)

    cells_renamed : (k : Placed) → In k q.ks → contents (layouts (k.block).type) (from_address k.address q.zs) ≡ map (rename r) (k.block).cells
    cells_renamed = blocks_same (length params) q.ks found_running q.blocks both.1

    block_renamed : (k : Placed) → In k q.ks → block_at layouts q.zs (named k) ≡ rename_block r k.block
    unfolding block_at
    block_renamed k i = block_is _ _ (sym (agree k i)) refl (cells_renamed k i)

    -- ---- each block has an address

    in_held : (k : Placed) (ks : List Placed) (v : Content) → In k ks → In v (k.block).cells → In v (held ks)
    in_held k [] v i j = absurd i
    in_held k (m ∷ ks) v (inl e) j = in_left v (m.block).cells (held ks) (subst (λ x. In v (x.block).cells) e j)
    in_held k (m ∷ ks) v (inr i) j = in_right v (m.block).cells (held ks) (in_held k ks v i j)

    abbrev Found : ℕ → Type 0
    Found a = (k : Placed) × In k q.ks × ((k.block).name ≡ a)

    in_ks : (k : Placed) → In k [] ⊎ In k q.ks → In k q.ks
    in_ks k (inl i) = absurd i
    in_ks k (inr i) = i

    closed_at : (a : ℕ) → In (pointer a) (g.params ++ held q.ks) → Found a
    closed_at a i = let c = q.closed a i in (c.0, in_ks c.0 c.1, c.2)

    reached_at : (walk : List Block) (a : ℕ) → Leads g walk a → Found a
    reached_at [] a i = closed_at a (in_left (pointer a) g.params (held q.ks) i)
    reached_at (k ∷ walk) a i = let m = reached_at walk k.name i.2 in
        let e : (m.0).block ≡ k = only_one g.blocks ok.names (m.0).block k (q.blocks m.0 m.1) i.0 m.2 in
        closed_at a (in_right (pointer a) g.params (held q.ks) (in_held m.0 q.ks (pointer a) m.1 (subst (λ x. In (pointer a) x.cells) (sym e) i.1)))

    placed_of : (i : Block) → In i g.blocks → (k : Placed) × In k q.ks × (k.block ≡ i)
    placed_of i j = let w = ok.reached i j in let m = reached_at w.0 i.name w.1 in (m.0, m.1, only_one g.blocks ok.names (m.0).block i (q.blocks m.0 m.1) j m.2)

    its_blocks : (graph_of layouts params h).blocks ≡ map (block_at layouts q.zs) (map named q.ks)
    unfolding graph_of
    its_blocks = ap (map (block_at layouts q.zs)) q.found

    its_params : (graph_of layouts params h).params ≡ contents params q.zs
    unfolding graph_of
    its_params = refl

    its_stream : (graph_of layouts params h).stream ≡ g.stream
    unfolding graph_of
    its_stream = refl

    ascend : Pairwise (λ j k. j.address < k.address) (map named q.ks)
    ascend = subst (Pairwise (λ j k. j.address < k.address)) q.found (addresses_ascend layouts params points b h canonical)

    one_name : (i j : Block) → In i g.blocks → In j g.blocks → r i.name ≡ r j.name → i.name ≡ j.name
    one_name i j x y e = let k = placed_of i x in let m = placed_of j y in
        let f : (k.0).address ≡ (m.0).address = sym (agree k.0 k.1) ∙ ap (λ n. r n.name) k.2 ∙ e ∙ ap (λ n. r n.name) (sym m.2) ∙ agree m.0 m.1 in
        ap (λ n. n.name) (sym k.2) ∙ ap (λ n. (n.block).name) (one_address q.ks ascend k.0 m.0 k.1 m.1 f) ∙ ap (λ n. n.name) m.2

    renames : Renames g (graph_of layouts params h) r
    renames = record {
      one_to_one = one_name;
      params = its_params ∙ both.0;
      stream = its_stream;
      blocks = λ i x. let k = placed_of i x in subst (In (rename_block r i)) (sym its_blocks)
          (subst (λ y. In y (map (block_at layouts q.zs) (map named q.ks))) (block_renamed k.0 k.1 ∙ ap (rename_block r) k.2) (in_map (block_at layouts q.zs) (named k.0) (map named q.ks) (in_map named k.0 q.ks k.1)));
      no_more = λ j x. let m = from_map (block_at layouts q.zs) j (map named q.ks) (subst (In j) its_blocks x) in let k = from_map named m.0 q.ks m.1 in
          ((k.0).block, q.blocks k.0 k.1, m.2 ∙ ap (block_at layouts q.zs) k.2 ∙ block_renamed k.0 k.1);
    }

  pub listed : (h : Input) × IsListed layouts params h × (r : ℕ → ℕ) × Renames g (graph_of layouts params h) r
  listed = (h laid_out, (b, canonical laid_out), r laid_out, renames laid_out)
