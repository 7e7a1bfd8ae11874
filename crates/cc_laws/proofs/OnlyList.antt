-- No graph is a renaming of two lists of cells.
use Rattle.std.proofs.Common.{◌≡◌, ℕ, suc, ◌+◌, ◌≤◌, ◌⊎◌, inl, inr, ℤ, pos, List, [], ◌∷◌, ◌++◌, length, map, drop, refl, sym, ap, ap₂, ◌∙◌, subst, arith, length-append}
use Rattle.cc_base.specs.declared.inputs.Input.{Input}
use Rattle.cc_base.specs.Limits.{Limits}
use Rattle.cc_base.specs.Paths.{In}
use Rattle.cc_model.specs.Core.{Cell, int_cell, ptr_cell}
use Rattle.cc_model.specs.Canonical.{Named, AreCells, IsCanonical}
use Rattle.cc_model.specs.Graphs.{Content, number, nil, pointer, Block, Graph, Fits, FitAll, IsGraph, rename, rename_block, Renames, content_of, contents, from_address, named_by, block_at, graph_of, PointsToCells, IsListed}
use Rattle.cc_laws.proofs.Members.{from_map}
use Rattle.cc_laws.proofs.Listed.{Before, Sized, sized_more, before_more, more_one, fresh, rest_of, here_at, fit_append, content_number, content_null, content_pointer}
use Rattle.cc_laws.proofs.OneList.{fit_length}

number_is : (z x : ℤ) → number z ≡ number x → z ≡ x
number_is z x e = cc e

pointer_is : (a c : ℕ) → pointer a ≡ pointer c → a ≡ c
pointer_is a c e = cc e

pointer_nil : (a : ℕ) → pointer a ≡ nil → ⊥
pointer_nil a e = cc e

head_same : (v u : Content) (l m : List Content) → v ∷ l ≡ u ∷ m → v ≡ u
head_same v u l m e = cc e

tail_same : (v u : Content) (l m : List Content) → v ∷ l ≡ u ∷ m → l ≡ m
tail_same v u l m e = cc e

contents_join : (f : Content → Content) (A B : List Cell) (u v : List Content) (zs : List ℤ) → length u ≡ length A → contents A zs ≡ map f u → contents B (drop (length A) zs) ≡ map f v → contents (A ++ B) zs ≡ map f (u ++ v)
unfolding contents
contents_join f [] B [] v zs l e i = i
contents_join f (c ∷ A) B (x ∷ u) v [] l e i = absurd (cc e)
contents_join f (c ∷ A) B (x ∷ u) v (z ∷ zs) l e i = ap₂ (λ a b. a ∷ b) (head_same _ _ _ _ e) (contents_join f A B u v zs (omega (arith, l)) (tail_same _ _ _ _ e) i)
contents_join f [] B (x ∷ u) v zs l e i = absurd (omega (arith, l))
contents_join f (c ∷ A) B [] v zs l e i = absurd (omega (arith, l))

module _ (layouts : ℕ → List Cell) (b : Limits) where
  -- a cell that holds NULL, or points
  null_first : (t : ℕ) (due : List Cell) (named : List Named) (next : ℕ) (z : ℤ) (zs : List ℤ) → 1 ≤ next → Before layouts b named next → content_of (ptr_cell t) z ≡ nil
      → AreCells layouts b (ptr_cell t ∷ due) named next (z ∷ zs) → (z ≡ pos 0) × AreCells layouts b due named next zs
  null_first t due named next z zs one old e (inl (inl f, h)) = (f, h)
  null_first t due named next z zs one old e (inl (inr k, h)) = absurd (pointer_nil (k.0).address (sym (content_pointer t (k.0).address (old k.0 k.1).0) ∙ ap (content_of (ptr_cell t)) (sym k.2) ∙ e))
  null_first t due named next z zs one old e (inr h) = absurd (pointer_nil next (sym (content_pointer t next one) ∙ ap (content_of (ptr_cell t)) (sym h.0) ∙ e))

  abbrev Goes : ℕ → List Cell → List Named → ℕ → ℕ → List ℤ → Type 0
  Goes t due named next x zs = ((k : Named) × In k named × (k.address ≡ x) × AreCells layouts b due named next zs)
      ⊎ ((x ≡ next) × AreCells layouts b (due ++ layouts t) (fresh layouts b next t ∷ named) (next + length (layouts t)) zs)

  point_first : (t : ℕ) (due : List Cell) (named : List Named) (next x : ℕ) (z : ℤ) (zs : List ℤ) → 1 ≤ next → Before layouts b named next → content_of (ptr_cell t) z ≡ pointer x
      → AreCells layouts b (ptr_cell t ∷ due) named next (z ∷ zs) → (z ≡ pos x) × Goes t due named next x zs
  point_first t due named next x z zs one old e (inl (inl f, h)) = absurd (pointer_nil x (sym e ∙ ap (content_of (ptr_cell t)) f ∙ content_null t))
  point_first t due named next x z zs one old e (inl (inr k, h)) =
      let f : (k.0).address ≡ x = pointer_is (k.0).address x (sym (content_pointer t (k.0).address (old k.0 k.1).0) ∙ ap (content_of (ptr_cell t)) (sym k.2) ∙ e) in
      (k.2 ∙ ap pos f, inl (k.0, k.1, f, h))
  point_first t due named next x z zs one old e (inr h) =
      let f : next ≡ x = pointer_is next x (sym (content_pointer t next one) ∙ ap (content_of (ptr_cell t)) (sym h.0) ∙ e) in
      (h.0 ∙ ap pos f, inr (sym f, h.1))

module _ (layouts : ℕ → List Cell) (params : List Cell) (g : Graph) (points : PointsToCells layouts params) (ok : IsGraph layouts params g) where
  -- the cells of a renamed block stand at its address
  block_cells_at : (h : Input) (r : ℕ → ℕ) → Renames g (graph_of layouts params h) r → (k : Block) → In k g.blocks → contents (layouts k.type) (from_address (r k.name) h.cells) ≡ map (rename r) k.cells
  unfolding graph_of block_at
  block_cells_at h r by k i = let m = from_map (block_at layouts h.cells) (rename_block r k) (named_by layouts params (suc (length params)) h.cells) (by.blocks k i) in
      ap₂ (λ t a. contents (layouts t) (from_address a h.cells)) (ap (λ x. x.type) m.2) (ap (λ x. x.name) m.2) ∙ sym (ap (λ x. x.cells) m.2)

  module _ (h k : Input) (b c : Limits) (r s : ℕ → ℕ) (by : Renames g (graph_of layouts params h) r) (also : Renames g (graph_of layouts params k) s) where
    -- both lists up to a cell: the contents that are due are those of the graph, renamed each way, and so are the blocks so far
    record Both (zs ys : List ℤ) (due : List Cell) (vs : List Content) (named : List Named) (next n : ℕ) : Type 0 where
      at_h : zs ≡ drop n h.cells
      at_k : ys ≡ drop n k.cells
      place : next ≡ suc (n + length due)
      fits : FitAll g due vs
      same_h : contents due zs ≡ map (rename r) vs
      same_k : contents due ys ≡ map (rename s) vs
      known : (m : Named) → In m named → (j : Block) × In j g.blocks × (r j.name ≡ m.address) × (s j.name ≡ m.address)
      before : Before layouts b named next
      sized : Sized layouts b due
      one : 1 ≤ next

    abbrev Same : List ℤ → Type 0
    Same zs = (ys : List ℤ) (due : List Cell) (vs : List Content) (named : List Named) (next n : ℕ) → Both zs ys due vs named next n → AreCells layouts b due named next zs → AreCells layouts c due named next ys → zs ≡ ys

    both_rest : (x : Cell) (z y : ℤ) (v : Content) (zs ys : List ℤ) (due : List Cell) (vs : List Content) (named : List Named) (next n : ℕ) → Both (z ∷ zs) (y ∷ ys) (x ∷ due) (v ∷ vs) named next n → Both zs ys due vs named next (suc n)
    unfolding contents
    both_rest x z y v zs ys due vs named next n q = record {
      at_h = rest_of layouts b z zs h.cells n q.at_h;
      at_k = rest_of layouts b y ys k.cells n q.at_k;
      place = (let f = q.place in omega (arith, f));
      fits = q.fits.1;
      same_h = tail_same _ _ _ _ q.same_h;
      same_k = tail_same _ _ _ _ q.same_k;
      known = q.known;
      before = q.before;
      sized = λ t i. q.sized t (inr i);
      one = q.one;
    }

    first_h : (x : Cell) (z y : ℤ) (v : Content) (zs ys : List ℤ) (due : List Cell) (vs : List Content) (named : List Named) (next n : ℕ) → Both (z ∷ zs) (y ∷ ys) (x ∷ due) (v ∷ vs) named next n → (content_of x z ≡ rename r v) × (content_of x y ≡ rename s v)
    unfolding contents
    first_h x z y v zs ys due vs named next n q = (head_same _ _ _ _ q.same_h, head_same _ _ _ _ q.same_k)

    abbrev new_named : ℕ → Block → Named
    new_named next j = fresh layouts b next j.type

    -- after a new block, which has the same address in both
    both_new : (j : Block) (zs ys : List ℤ) (due : List Cell) (vs : List Content) (named : List Named) (next n : ℕ) → In j g.blocks → 1 ≤ length (layouts j.type) → r j.name ≡ next → s j.name ≡ next → Both zs ys due vs named next n
        → Both zs ys (due ++ layouts j.type) (vs ++ j.cells) (new_named next j ∷ named) (next + length (layouts j.type)) n
    both_new j zs ys due vs named next n i size e f q = record {
      at_h = q.at_h;
      at_k = q.at_k;
      place = (let f = q.place in omega (arith, f, length-append due (layouts j.type)));
      fits = fit_append g due (layouts j.type) vs j.cells q.fits (ok.blocks j i);
      same_h = contents_join (rename r) due (layouts j.type) vs j.cells zs (fit_length g due vs q.fits) q.same_h (here_at layouts due next j.type n zs h.cells q.at_h q.place ∙ ap (λ a. contents (layouts j.type) (from_address a h.cells)) (sym e) ∙ block_cells_at h r by j i);
      same_k = contents_join (rename s) due (layouts j.type) vs j.cells ys (fit_length g due vs q.fits) q.same_k (here_at layouts due next j.type n ys k.cells q.at_k q.place ∙ ap (λ a. contents (layouts j.type) (from_address a k.cells)) (sym f) ∙ block_cells_at k s also j i);
      known = λ m x. known_new m x;
      before = before_more layouts b named next j.type q.one size q.before;
      sized = sized_more layouts b (λ s t i. points t (inr (s, i))) due j.type q.sized;
      one = more_one layouts b next (length (layouts j.type)) q.one;
    }
      where
        known_new : (m : Named) → In m (new_named next j ∷ named) → (j : Block) × In j g.blocks × (r j.name ≡ m.address) × (s j.name ≡ m.address)
        known_new m (inl x) = (j, i, e ∙ sym (ap (λ y. y.address) x), f ∙ sym (ap (λ y. y.address) x))
        known_new m (inr x) = q.known m x

    cons_same : (z y : ℤ) (zs ys : List ℤ) → z ≡ y → zs ≡ ys → z ∷ zs ≡ y ∷ ys
    cons_same z y zs ys e f = ap₂ (λ a l. a ∷ l) e f

    -- a cell that points to a block
    point_same : (j : Block) (due : List Cell) (z y : ℤ) (zs ys : List ℤ) (vs : List Content) (named : List Named) (next n : ℕ) → Same zs → In j g.blocks → Both (z ∷ zs) (y ∷ ys) (ptr_cell j.type ∷ due) (pointer j.name ∷ vs) named next n
        → (z ≡ pos (r j.name)) × Goes layouts b j.type due named next (r j.name) zs → (y ≡ pos (s j.name)) × Goes layouts c j.type due named next (s j.name) ys → z ∷ zs ≡ y ∷ ys
    point_same j due z y zs ys vs named next n below i q (e, inl m) (f, inl l) =
        cons_same z y zs ys (e ∙ ap pos (sym (known_same m)) ∙ sym f) (below ys due vs named next (suc n) (both_rest (ptr_cell j.type) z y (pointer j.name) zs ys due vs named next n q) m.3 l.3)
      where
        known_same : ((m : Named) × In m named × (m.address ≡ r j.name) × AreCells layouts b due named next zs) → s j.name ≡ r j.name
        known_same m = let a = q.known m.0 m.1 in let d : (a.0).name ≡ j.name = by.one_to_one a.0 j a.1 i (a.2 ∙ m.2) in sym (ap s d) ∙ a.3 ∙ m.2
    point_same j due z y zs ys vs named next n below i q (e, inl m) (f, inr l) =
        let a = q.known m.0 m.1 in let d : (a.0).name ≡ j.name = by.one_to_one a.0 j a.1 i (a.2 ∙ m.2) in let x : s j.name ≡ (m.0).address = sym (ap s d) ∙ a.3 in
        let o = (q.before m.0 m.1).1 in let w = l.0 in absurd (omega (arith, x, o, w))
    point_same j due z y zs ys vs named next n below i q (e, inr m) (f, inl l) =
        let a = q.known l.0 l.1 in let d : (a.0).name ≡ j.name = also.one_to_one a.0 j a.1 i (a.3 ∙ l.2) in let x : r j.name ≡ (l.0).address = sym (ap r d) ∙ a.2 in
        let o = (q.before l.0 l.1).1 in let w = m.0 in absurd (omega (arith, x, o, w))
    point_same j due z y zs ys vs named next n below i q (e, inr m) (f, inr l) =
        cons_same z y zs ys (e ∙ ap pos (m.0 ∙ sym l.0) ∙ sym f)
        (below ys (due ++ layouts j.type) (vs ++ j.cells) (new_named next j ∷ named) (next + length (layouts j.type)) (suc n)
        (both_new j zs ys due vs named next (suc n) i (q.sized j.type (inl refl)) m.0 l.0 (both_rest (ptr_cell j.type) z y (pointer j.name) zs ys due vs named next n q)) m.1 l.1)

    first_same : (zs : List ℤ) → Same zs → (x : Cell) (due : List Cell) (v : Content) (vs : List Content) (z y : ℤ) (ys : List ℤ) (named : List Named) (next n : ℕ) → Fits g x v → Both (z ∷ zs) (y ∷ ys) (x ∷ due) (v ∷ vs) named next n
        → AreCells layouts b (x ∷ due) named next (z ∷ zs) → AreCells layouts c (x ∷ due) named next (y ∷ ys) → z ∷ zs ≡ y ∷ ys
    first_same zs below int_cell due (number x) vs z y ys named next n fit q i j = let f = first_h int_cell z y (number x) zs ys due vs named next n q in
        cons_same z y zs ys (number_is z x (sym (content_number z) ∙ f.0) ∙ sym (number_is y x (sym (content_number y) ∙ f.1))) (below ys due vs named next (suc n) (both_rest int_cell z y (number x) zs ys due vs named next n q) i.1 j.1)
    first_same zs below (ptr_cell t) due nil vs z y ys named next n fit q i j = let f = first_h (ptr_cell t) z y nil zs ys due vs named next n q in
        let u = null_first layouts b t due named next z zs q.one q.before f.0 i in let w = null_first layouts c t due named next y ys q.one q.before f.1 j in
        cons_same z y zs ys (u.0 ∙ sym w.0) (below ys due vs named next (suc n) (both_rest (ptr_cell t) z y nil zs ys due vs named next n q) u.1 w.1)
    first_same zs below (ptr_cell t) due (pointer a) vs z y ys named next n fit q i j =
        pick fit.0 t a fit.1 (sym fit.3) (sym fit.2) q i j
      where
        pick : (m : Block) (t a : ℕ) → In m g.blocks → t ≡ m.type → a ≡ m.name → Both (z ∷ zs) (y ∷ ys) (ptr_cell t ∷ due) (pointer a ∷ vs) named next n
            → AreCells layouts b (ptr_cell t ∷ due) named next (z ∷ zs) → AreCells layouts c (ptr_cell t ∷ due) named next (y ∷ ys) → z ∷ zs ≡ y ∷ ys
        pick m t a o d e q i j =
            let q1 = subst (λ t. Both (z ∷ zs) (y ∷ ys) (ptr_cell t ∷ due) (pointer m.name ∷ vs) named next n) d (subst (λ a. Both (z ∷ zs) (y ∷ ys) (ptr_cell t ∷ due) (pointer a ∷ vs) named next n) e q) in
            let f = first_h (ptr_cell m.type) z y (pointer m.name) zs ys due vs named next n q1 in
            point_same m due z y zs ys vs named next n below o q1
            (point_first layouts b m.type due named next (r m.name) z zs q1.one q1.before f.0 (subst (λ t. AreCells layouts b (ptr_cell t ∷ due) named next (z ∷ zs)) d i))
            (point_first layouts c m.type due named next (s m.name) y ys q1.one q1.before f.1 (subst (λ t. AreCells layouts c (ptr_cell t ∷ due) named next (y ∷ ys)) d j))
    first_same zs below int_cell due nil vs z y ys named next n fit q i j = absurd fit
    first_same zs below int_cell due (pointer a) vs z y ys named next n fit q i j = absurd fit
    first_same zs below (ptr_cell t) due (number x) vs z y ys named next n fit q i j = absurd fit

    same_cells : (zs : List ℤ) → Same zs
    same_cells [] [] due vs named next n q i j = refl
    same_cells (z ∷ zs) (y ∷ ys) (x ∷ due) (v ∷ vs) named next n q i j = first_same zs (same_cells zs) x due v vs z y ys named next n q.fits.0 q i j
    same_cells (z ∷ zs) (y ∷ ys) (x ∷ due) [] named next n q i j = absurd q.fits
    same_cells [] (y ∷ ys) (x ∷ due) vs named next n q i j = absurd i
    same_cells [] (y ∷ ys) [] vs named next n q i j = absurd j
    same_cells (z ∷ zs) [] (x ∷ due) vs named next n q i j = absurd j
    same_cells (z ∷ zs) [] [] vs named next n q i j = absurd i
    same_cells (z ∷ zs) (y ∷ ys) [] vs named next n q i j = absurd i

    pub only : IsCanonical layouts b params h → IsCanonical layouts c params k → h ≡ k
    unfolding graph_of
    only i j = ap₂ (λ l m. record { cells = l; stream = m })
        (same_cells h.cells k.cells params g.params [] (suc (length params)) 0 (record {
          at_h = refl;
          at_k = refl;
          place = omega arith;
          fits = ok.params;
          same_h = by.params;
          same_k = also.params;
          known = λ m x. absurd x;
          before = λ m x. absurd x;
          sized = λ t x. points t (inl x);
          one = omega arith;
        }) i.0 j.0)
        (by.stream ∙ sym also.stream)

  pub listed_once : (h k : Input) → IsListed layouts params h → IsListed layouts params k → (r s : ℕ → ℕ) → Renames g (graph_of layouts params h) r → Renames g (graph_of layouts params k) s → h ≡ k
  listed_once h k i j r s by also = only h k i.0 j.0 r s by also i.1 j.1
