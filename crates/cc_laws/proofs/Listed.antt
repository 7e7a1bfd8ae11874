-- What the rule of inputs says of their graphs.
use Rattle.std.proofs.Common.{◌≡◌, ◌≢◌, ℕ, zero, suc, ◌+◌, ◌<◌, ◌≤◌, ◌⊎◌, inl, inr, ℤ, pos, true, false, List, [], ◌∷◌, ◌++◌, length, map, drop, refl, sym, ap, ◌∙◌, subst, arith, nat_eq, if◌then◌else◌, append_assoc, length-append}
use Rattle.std.proofs.lemmas.List.{drop-drop}
use Rattle.cc_base.specs.declared.inputs.Input.{Input}
use Rattle.cc_base.specs.Limits.{Limits}
use Rattle.cc_base.specs.Paths.{In, Pairwise}
use Rattle.cc_model.specs.Core.{Cell, int_cell, ptr_cell}
use Rattle.cc_model.specs.Canonical.{Named, AreCells, IsCanonical}
use Rattle.cc_model.specs.Plain.{names_new, target}
use Rattle.cc_model.specs.Graphs.{Content, number, nil, pointer, Graph, Fits, FitAll, Leads, Reached, IsGraph, content_of, contents, from_address, named_by, block_at, graph_of, PointsToCells}
use Rattle.cc_laws.proofs.Members.{in_append, in_map, from_map, not_same, is_same, suc_sum}
use Rattle.cc_laws.proofs.Scanned.{all_cells, Running, running, at_next}

pub content_pointer : (t n : ℕ) → 1 ≤ n → content_of (ptr_cell t) (pos n) ≡ pointer n
unfolding content_of
content_pointer t zero h = absurd (omega (arith, h))
content_pointer t (suc n) h = refl

pub content_null : (t : ℕ) → content_of (ptr_cell t) (pos 0) ≡ nil
unfolding content_of
content_null t = refl

pub content_number : (z : ℤ) → content_of int_cell z ≡ number z
unfolding content_of
content_number z = refl

pub new_at : (t n next : ℕ) → names_new (ptr_cell t) (pos n) next ≡ nat_eq n next
unfolding names_new
new_at t n next = refl

pub number_new : (z : ℤ) (next : ℕ) → names_new int_cell z next ≡ false
unfolding names_new
number_new z next = refl

-- a block behind the cells that are due begins at the next address
pub here_at : (layouts : ℕ → List Cell) (due : List Cell) (next t n : ℕ) (zs whole : List ℤ) → zs ≡ drop n whole → next ≡ suc (n + length due) → contents (layouts t) (drop (length due) zs) ≡ contents (layouts t) (from_address next whole)
here_at layouts due next t n zs whole e f = ap (contents (layouts t)) (ap (drop (length due)) e ∙ drop-drop (length due) n whole ∙ at_next (n + length due) whole ∙ ap (λ a. from_address a whole) (sym f))

pub fit_append : (g : Graph) (cs ds : List Cell) (vs us : List Content) → FitAll g cs vs → FitAll g ds us → FitAll g (cs ++ ds) (vs ++ us)
fit_append g [] ds [] us h k = k
fit_append g (c ∷ cs) ds (v ∷ vs) us h k = (h.0, fit_append g cs ds vs us h.1 k)
fit_append g [] ds (v ∷ vs) us h k = absurd h
fit_append g (c ∷ cs) ds [] us h k = absurd h

module _ (layouts : ℕ → List Cell) (b : Limits) where
  abbrev pub fresh : ℕ → ℕ → Named
  fresh next t = record { address = next; type = t }

  pub named_old : (c : Cell) (due : List Cell) (next : ℕ) (z : ℤ) (zs : List ℤ) → names_new c z next ≡ false → named_by layouts (c ∷ due) next (z ∷ zs) ≡ named_by layouts due next zs
  unfolding named_by
  named_old c due next z zs e = ap (λ t. if t then fresh next (target c) ∷ named_by layouts (due ++ layouts (target c)) (next + length (layouts (target c))) zs else named_by layouts due next zs) e

  pub named_new : (t : ℕ) (due : List Cell) (next : ℕ) (z : ℤ) (zs : List ℤ) → names_new (ptr_cell t) z next ≡ true → named_by layouts (ptr_cell t ∷ due) next (z ∷ zs) ≡ fresh next t ∷ named_by layouts (due ++ layouts t) (next + length (layouts t)) zs
  unfolding named_by target
  named_new t due next z zs e = ap (λ s. if s then fresh next t ∷ named_by layouts (due ++ layouts t) (next + length (layouts t)) zs else named_by layouts due next zs) e

  -- each block that was named lies between the parameters and the next address
  abbrev pub Before : List Named → ℕ → Type 0
  Before named next = (k : Named) → In k named → (1 ≤ k.address) × (k.address < next)

  abbrev pub Sized : List Cell → Type 0
  Sized due = (t : ℕ) → In (ptr_cell t) due → 1 ≤ length (layouts t)

  pub more_one : (next n : ℕ) → 1 ≤ next → 1 ≤ next + n
  more_one next n h = omega (arith, h)

  pub before_more : (named : List Named) (next t : ℕ) → 1 ≤ next → 1 ≤ length (layouts t) → Before named next → Before (fresh next t ∷ named) (next + length (layouts t))
  before_more named next t one size old k (inl e) = let f = ap (λ m. m.address) e in (omega (arith, f, one), omega (arith, f, size))
  before_more named next t one size old k (inr i) = let o = old k i in (o.0, (let m = o.1 in omega (arith, m)))

  -- what holds of a list of cells by its cells: each is a number, NULL, an earlier block or the next one
  pub record Cases (P : List Cell → List Named → ℕ → List Named → List ℤ → Type 0) : Type 0 where
    pub at_end : (named : List Named) (next : ℕ) → P [] named next [] []
    pub a_number : (due : List Cell) (named : List Named) (next : ℕ) (ks : List Named) (zs : List ℤ) (z : ℤ) → P due named next ks zs → P (int_cell ∷ due) named next ks (z ∷ zs)
    pub a_null : (due : List Cell) (named : List Named) (next : ℕ) (ks : List Named) (zs : List ℤ) (t : ℕ) → P due named next ks zs → P (ptr_cell t ∷ due) named next ks (pos 0 ∷ zs)
    pub an_old : (due : List Cell) (named : List Named) (next : ℕ) (ks : List Named) (zs : List ℤ) (t : ℕ) (k : Named) → In k named → k.type ≡ t → 1 ≤ k.address → P due named next ks zs → P (ptr_cell t ∷ due) named next ks (pos k.address ∷ zs)
    pub a_new : (due : List Cell) (named : List Named) (next : ℕ) (ks : List Named) (zs : List ℤ) (t : ℕ) → 1 ≤ next → 1 ≤ length (layouts t)
        → P (due ++ layouts t) (fresh next t ∷ named) (next + length (layouts t)) ks zs → P (ptr_cell t ∷ due) named next (fresh next t ∷ ks) (pos next ∷ zs)

  module _ (deep : (s t : ℕ) → In (ptr_cell t) (layouts s) → 1 ≤ length (layouts t)) where
    pub sized_more : (due : List Cell) (t : ℕ) → Sized due → Sized (due ++ layouts t)
    sized_more due t s u i = elim (in_append (ptr_cell u) due (layouts t) i) [ inl j ↦ s u j | inr j ↦ deep t u j ]

    module _ (P : List Cell → List Named → ℕ → List Named → List ℤ → Type 0) (has : Cases P) where
      abbrev Below : List ℤ → Type 0
      Below zs = (due : List Cell) (named : List Named) (next : ℕ) → Sized due → 1 ≤ next → Before named next → AreCells layouts b due named next zs → P due named next (named_by layouts due next zs) zs

      by_cell : (zs : List ℤ) → Below zs → (c : Cell) (due : List Cell) (named : List Named) (next : ℕ) (z : ℤ) → Sized (c ∷ due) → 1 ≤ next → Before named next → AreCells layouts b (c ∷ due) named next (z ∷ zs) → P (c ∷ due) named next (named_by layouts (c ∷ due) next (z ∷ zs)) (z ∷ zs)
      by_cell zs below int_cell due named next z s one old h = subst (λ ks. P (int_cell ∷ due) named next ks (z ∷ zs)) (sym (named_old int_cell due next z zs (number_new z next)))
          (has.a_number due named next _ zs z (below due named next (λ t i. s t (inr i)) one old h.1))
      by_cell zs below (ptr_cell t) due named next z s one old (inl (inl e, h)) = subst (λ y. P (ptr_cell t ∷ due) named next (named_by layouts (ptr_cell t ∷ due) next (y ∷ zs)) (y ∷ zs)) (sym e)
          (subst (λ ks. P (ptr_cell t ∷ due) named next ks (pos 0 ∷ zs)) (sym (named_old (ptr_cell t) due next (pos 0) zs (new_at t 0 next ∙ not_same 0 next (λ f. omega (arith, f, one)))))
          (has.a_null due named next _ zs t (below due named next (λ t i. s t (inr i)) one old h)))
      by_cell zs below (ptr_cell t) due named next z s one old (inl (inr i, h)) = let o = old i.0 i.1 in
          subst (λ y. P (ptr_cell t ∷ due) named next (named_by layouts (ptr_cell t ∷ due) next (y ∷ zs)) (y ∷ zs)) (sym i.2)
          (subst (λ ks. P (ptr_cell t ∷ due) named next ks (pos (i.0).address ∷ zs)) (sym (named_old (ptr_cell t) due next (pos (i.0).address) zs (new_at t (i.0).address next ∙ not_same (i.0).address next (λ f. let m = o.1 in omega (arith, f, m)))))
          (has.an_old due named next _ zs t i.0 i.1 i.3 o.0 (below due named next (λ t i. s t (inr i)) one old h)))
      by_cell zs below (ptr_cell t) due named next z s one old (inr h) = let size = s t (inl refl) in
          subst (λ y. P (ptr_cell t ∷ due) named next (named_by layouts (ptr_cell t ∷ due) next (y ∷ zs)) (y ∷ zs)) (sym h.0)
          (subst (λ ks. P (ptr_cell t ∷ due) named next ks (pos next ∷ zs)) (sym (named_new t due next (pos next) zs (new_at t next next ∙ is_same next next refl)))
          (has.a_new due named next _ zs t one size (below (due ++ layouts t) (fresh next t ∷ named) (next + length (layouts t)) (sized_more due t (λ u i. s u (inr i))) (more_one next (length (layouts t)) one) (before_more named next t one size old) h.1)))

      pub by_cells : (zs : List ℤ) → Below zs
      unfolding named_by
      by_cells [] [] named next s one old h = has.at_end named next
      by_cells (z ∷ zs) (c ∷ due) named next s one old h = by_cell zs (by_cells zs) c due named next z s one old h
      by_cells [] (c ∷ due) named next s one old h = absurd h
      by_cells (z ∷ zs) [] named next s one old h = absurd h

  -- ---- each pointer cell holds NULL or the address of a block of its target type

  abbrev pub Holds : List Named → Cell → ℤ → Type 0
  Holds F int_cell z = Unit {0}
  Holds F (ptr_cell t) z = (z ≡ pos 0) ⊎ ((k : Named) × In k F × (z ≡ pos k.address) × (k.type ≡ t) × (1 ≤ k.address))

  -- so do the first cells of a list, which are of these types
  abbrev pub HoldAll : List Named → List Cell → List ℤ → Type 0
  HoldAll F [] zs = Unit {0}
  HoldAll F (c ∷ cs) (z ∷ zs) = Holds F c z × HoldAll F cs zs
  HoldAll F (c ∷ cs) [] = ⊥

  module _ (F : List Named) where
    -- the cells of the parameters and blocks, in order
    abbrev pub Held : List Cell → List Named → ℕ → List Named → List ℤ → Type 0
    Held due named next ks zs = ((k : Named) → In k named → In k F) → ((k : Named) → In k ks → In k F) → HoldAll F (due ++ all_cells layouts ks) zs

    in_both : (k : Named) (named ks : List Named) → ((m : Named) → In m named → In m F) → ((m : Named) → In m (k ∷ ks) → In m F) → (m : Named) → In m (k ∷ named) → In m F
    in_both k named ks i j m (inl e) = j m (inl e)
    in_both k named ks i j m (inr e) = i m e

    pub held_cases : Cases Held
    held_cases = record {
      at_end = λ named next i j. tt;
      a_number = λ due named next ks zs z h i j. (tt, h i j);
      a_null = λ due named next ks zs t h i j. (inl refl, h i j);
      an_old = λ due named next ks zs t k m e one h i j. (inr (k, i k m, refl, e, one), h i j);
      a_new = λ due named next ks zs t one size h i j. (
        inr (fresh next t, j (fresh next t) (inl refl), refl, refl, one),
        subst (λ cs. HoldAll F cs zs) (append_assoc due (layouts t) (all_cells layouts ks)) (h (in_both (fresh next t) named ks i j) (λ k m. j k (inr m))),
      );
    }

    -- the cells of the first types are apart from those of the later ones
    pub hold_split : (A B : List Cell) (zs : List ℤ) → HoldAll F (A ++ B) zs → HoldAll F A zs × HoldAll F B (drop (length A) zs)
    hold_split [] B zs h = (tt, h)
    hold_split (c ∷ A) B [] h = absurd h
    hold_split (c ∷ A) B (z ∷ zs) h = let r = hold_split A B zs h.1 in ((h.0, r.0), r.1)

    pub hold_blocks : (zs : List ℤ) (n : ℕ) (ks : List Named) → Running layouts (suc n) ks → HoldAll F (all_cells layouts ks) (drop n zs)
        → (k : Named) → In k ks → HoldAll F (layouts k.type) (from_address k.address zs)
    hold_blocks zs n [] r h k i = absurd i
    hold_blocks zs n (j ∷ ks) r h k (inl e) = subst (λ m. HoldAll F (layouts m.type) (from_address m.address zs)) (sym e)
        (subst (HoldAll F (layouts j.type)) (at_next n zs ∙ ap (λ m. from_address m zs) (sym r.0)) (hold_split (layouts j.type) (all_cells layouts ks) (drop n zs) h).0)
    hold_blocks zs n (j ∷ ks) r h k (inr i) = hold_blocks zs (n + length (layouts j.type)) ks (subst (λ m. Running layouts m ks) (suc_sum n (length (layouts j.type))) r.1)
        (subst (HoldAll F (all_cells layouts ks)) (drop-drop (length (layouts j.type)) n zs) (hold_split (layouts j.type) (all_cells layouts ks) (drop n zs) h).1) k i

  -- ---- the blocks' types have cells, and their addresses ascend

  abbrev pub HaveCells : List Named → Type 0
  HaveCells ks = (k : Named) → In k ks → 1 ≤ length (layouts k.type)

  sized_first : (next t : ℕ) (ks : List Named) → 1 ≤ length (layouts t) → HaveCells ks → HaveCells (fresh next t ∷ ks)
  sized_first next t ks size h k (inl e) = subst (λ m. 1 ≤ length (layouts m.type)) (sym e) size
  sized_first next t ks size h k (inr i) = h k i

  abbrev pub Have : List Cell → List Named → ℕ → List Named → List ℤ → Type 0
  Have due named next ks zs = HaveCells ks

  pub have_cases : Cases Have
  have_cases = record {
    at_end = λ named next k i. absurd i;
    a_number = λ due named next ks zs z h. h;
    a_null = λ due named next ks zs t h. h;
    an_old = λ due named next ks zs t k m e one h. h;
    a_new = λ due named next ks zs t one size h. sized_first next t ks size h;
  }

  pub from_next : (next : ℕ) (ks : List Named) → Running layouts next ks → (k : Named) → In k ks → next ≤ k.address
  from_next next [] r k i = absurd i
  from_next next (j ∷ ks) r k (inl e) = let f = ap (λ m. m.address) e in let g = r.0 in omega (arith, f, g)
  from_next next (j ∷ ks) r k (inr i) = let f = from_next (next + length (layouts j.type)) ks r.1 k i in omega (arith, f)

  pub ascending : (next : ℕ) (ks : List Named) → Running layouts next ks → HaveCells ks → Pairwise (λ j k. j.address < k.address) ks
  ascending next [] r h = tt
  ascending next (j ∷ ks) r h = (
    (λ k i. let f = from_next (next + length (layouts j.type)) ks r.1 k i in let g = r.0 in let l = h j (inl refl) in omega (arith, f, g, l)),
    ascending (next + length (layouts j.type)) ks r.1 (λ k i. h k (inr i)),
  )

  -- ---- each block is reached

  all_left : (A B : List Cell) (zs : List ℤ) (v : Content) → In v (contents (A ++ B) zs) → In v (contents A zs) ⊎ In v (contents B (drop (length A) zs))
  unfolding contents
  all_left [] B zs v i = inr i
  all_left (c ∷ A) B [] v i = inl i
  all_left (c ∷ A) B (z ∷ zs) v (inl e) = inl (inl e)
  all_left (c ∷ A) B (z ∷ zs) v (inr i) = elim (all_left A B zs v i) [ inl j ↦ inl (inr j) | inr j ↦ inr j ]

  pub rest_of : (z : ℤ) (zs whole : List ℤ) (n : ℕ) → z ∷ zs ≡ drop n whole → zs ≡ drop (suc n) whole
  rest_of z zs [] zero e = cc e
  rest_of z zs [] (suc n) e = cc e
  rest_of z zs (y ∷ whole) zero e = cc e
  rest_of z zs (y ∷ whole) (suc n) e = rest_of z zs whole n e

  module _ (whole : List ℤ) (R : ℕ → Type 0) where
    abbrev pub Lead : List Content → Type 0
    Lead vs = (a : ℕ) → In (pointer a) vs → R a

    -- where what is due leads to reached blocks, and each reached block does too, all blocks are reached
    abbrev pub Reaches : List Cell → List Named → ℕ → List Named → List ℤ → Type 0
    Reaches due named next ks zs = (n : ℕ) → zs ≡ drop n whole → next ≡ suc (n + length due) → Lead (contents due zs)
        → ((k : Named) → In k ks → R k.address → Lead (contents (layouts k.type) (from_address k.address whole))) → (k : Named) → In k ks → R k.address

    lead_rest : (c : Cell) (due : List Cell) (z : ℤ) (zs : List ℤ) → Lead (contents (c ∷ due) (z ∷ zs)) → Lead (contents due zs)
    unfolding contents
    lead_rest c due z zs l a i = l a (inr i)

    next_rest : (next n m : ℕ) → next ≡ suc (n + suc m) → next ≡ suc (suc n + m)
    next_rest next n m e = omega (arith, e)

    lead_first : (t next : ℕ) (due : List Cell) (zs : List ℤ) → 1 ≤ next → Lead (contents (ptr_cell t ∷ due) (pos next ∷ zs)) → R next
    unfolding contents
    lead_first t next due zs one l = l next (inl (sym (content_pointer t next one)))

    pub reach_cases : Cases Reaches
    reach_cases = record {
      at_end = λ named next n e f l m k i. absurd i;
      a_number = λ due named next ks zs z h n e f l m. h (suc n) (rest_of z zs whole n e) (next_rest next n (length due) f) (lead_rest int_cell due z zs l) m;
      a_null = λ due named next ks zs t h n e f l m. h (suc n) (rest_of (pos 0) zs whole n e) (next_rest next n (length due) f) (lead_rest (ptr_cell t) due (pos 0) zs l) m;
      an_old = λ due named next ks zs t k i y one h n e f l m. h (suc n) (rest_of (pos k.address) zs whole n e) (next_rest next n (length due) f) (lead_rest (ptr_cell t) due (pos k.address) zs l) m;
      a_new = λ due named next ks zs t one size h n e f l m k i. reach_new due named next ks zs t one h n e f l m k i;
    }
      where
        lead_new : (due : List Cell) (next t n : ℕ) (zs : List ℤ) → zs ≡ drop (suc n) whole → next ≡ suc (suc n + length due) → Lead (contents due zs) → Lead (contents (layouts t) (from_address next whole)) → Lead (contents (due ++ layouts t) zs)
        lead_new due next t n zs e f l m a i = elim (all_left due (layouts t) zs (pointer a) i) [ inl j ↦ l a j | inr j ↦ m a (subst (In (pointer a)) (here_at layouts due next t (suc n) zs whole e f) j) ]

        next_new : (due : List Cell) (next t n : ℕ) → next ≡ suc (suc n + length due) → next + length (layouts t) ≡ suc (suc n + length (due ++ layouts t))
        next_new due next t n f = omega (arith, f, length-append due (layouts t))

        reach_new : (due : List Cell) (named : List Named) (next : ℕ) (ks : List Named) (zs : List ℤ) (t : ℕ) → 1 ≤ next → Reaches (due ++ layouts t) (fresh next t ∷ named) (next + length (layouts t)) ks zs → Reaches (ptr_cell t ∷ due) named next (fresh next t ∷ ks) (pos next ∷ zs)
        reach_new due named next ks zs t one h n e f l m k (inl q) = subst (λ j. R j.address) (sym q) (lead_first t next due zs one l)
        reach_new due named next ks zs t one h n e f l m k (inr i) = let e1 = rest_of (pos next) zs whole n e in let f1 = next_rest next n (length due) f in
            h (suc n) e1 (next_new due next t n f1) (lead_new due next t n zs e1 f1 (lead_rest (ptr_cell t) due (pos next) zs l) (m (fresh next t) (inl refl) (lead_first t next due zs one l))) (λ j q. m j (inr q)) k i

module _ (layouts : ℕ → List Cell) (params : List Cell) (points : PointsToCells layouts params) (b : Limits) (h : Input) (ok : IsCanonical layouts b params h) where
  abbrev pub blocks_in : List Named
  blocks_in = named_by layouts params (suc (length params)) h.cells

  abbrev deep : (s t : ℕ) → In (ptr_cell t) (layouts s) → 1 ≤ length (layouts t)
  deep s t i = points t (inr (s, i))

  by_the_rule : (P : List Cell → List Named → ℕ → List Named → List ℤ → Type 0) → Cases layouts b P → P params [] (suc (length params)) blocks_in h.cells
  by_the_rule P has = by_cells layouts b deep P has h.cells params [] (suc (length params)) (λ t i. points t (inl i)) (omega arith) (λ k i. absurd i) ok.0

  pub have_cells : HaveCells layouts b blocks_in
  have_cells = by_the_rule (Have layouts b) (have_cases layouts b)

  pub addresses_ascend : Pairwise (λ j k. j.address < k.address) blocks_in
  addresses_ascend = ascending layouts b (suc (length params)) blocks_in (running layouts params (suc (length params)) h.cells) have_cells

  pub have_address : (k : Named) → In k blocks_in → 1 ≤ k.address
  have_address k i = let f = from_next layouts b (suc (length params)) blocks_in (running layouts params (suc (length params)) h.cells) k i in omega (arith, f)

  all_hold : HoldAll layouts b blocks_in (params ++ all_cells layouts blocks_in) h.cells
  all_hold = by_the_rule (Held layouts b blocks_in) (held_cases layouts b blocks_in) (λ k i. absurd i) (λ k i. i)

  pub params_hold : HoldAll layouts b blocks_in params h.cells
  params_hold = (hold_split layouts b blocks_in params (all_cells layouts blocks_in) h.cells all_hold).0

  pub blocks_hold : (k : Named) → In k blocks_in → HoldAll layouts b blocks_in (layouts k.type) (from_address k.address h.cells)
  blocks_hold = hold_blocks layouts b blocks_in h.cells (length params) blocks_in (running layouts params (suc (length params)) h.cells) (hold_split layouts b blocks_in params (all_cells layouts blocks_in) h.cells all_hold).1

  -- ---- its graph

  abbrev pub g : Graph
  g = graph_of layouts params h

  pub its_blocks : g.blocks ≡ map (block_at layouts h.cells) blocks_in
  unfolding graph_of
  its_blocks = refl

  its_params : g.params ≡ contents params h.cells
  unfolding graph_of
  its_params = refl

  pub block_in : (k : Named) → In k blocks_in → In (block_at layouts h.cells k) g.blocks
  block_in k i = subst (In (block_at layouts h.cells k)) (sym its_blocks) (in_map (block_at layouts h.cells) k blocks_in i)

  pub name_at : (k : Named) → (block_at layouts h.cells k).name ≡ k.address
  unfolding block_at
  name_at k = refl

  pub type_at : (k : Named) → (block_at layouts h.cells k).type ≡ k.type
  unfolding block_at
  type_at k = refl

  pub cells_at : (k : Named) → (block_at layouts h.cells k).cells ≡ contents (layouts k.type) (from_address k.address h.cells)
  unfolding block_at
  cells_at k = refl

  fits : (c : Cell) (z : ℤ) → Holds layouts b blocks_in c z → Fits g c (content_of c z)
  fits int_cell z p = subst (Fits g int_cell) (sym (content_number z)) tt
  fits (ptr_cell t) z (inl e) = subst (Fits g (ptr_cell t)) (sym (ap (content_of (ptr_cell t)) e ∙ content_null t)) tt
  fits (ptr_cell t) z (inr p) = subst (Fits g (ptr_cell t)) (sym (ap (content_of (ptr_cell t)) p.2 ∙ content_pointer t (p.0).address p.4))
      (block_at layouts h.cells p.0, block_in p.0 p.1, name_at p.0, type_at p.0 ∙ p.3)

  fit_all : (cs : List Cell) (zs : List ℤ) → HoldAll layouts b blocks_in cs zs → FitAll g cs (contents cs zs)
  unfolding contents
  fit_all [] zs p = tt
  fit_all (c ∷ cs) (z ∷ zs) p = (fits c z p.0, fit_all cs zs p.1)
  fit_all (c ∷ cs) [] p = absurd p

  names_differ : (ks : List Named) → Pairwise (λ j k. j.address < k.address) ks → Pairwise (λ j k. j.name ≢ k.name) (map (block_at layouts h.cells) ks)
  names_differ [] p = tt
  names_differ (k ∷ ks) p = (
    (λ j i e. let m = from_map (block_at layouts h.cells) j ks i in let f = p.0 m.0 m.1 in let q : k.address ≡ (m.0).address = sym (name_at k) ∙ e ∙ ap (λ x. x.name) m.2 ∙ name_at m.0 in omega (arith, f, q)),
    names_differ ks p.1,
  )

  leads_on : (k : Named) → In k blocks_in → Reached g k.address → (a : ℕ) → In (pointer a) (contents (layouts k.type) (from_address k.address h.cells)) → Reached g a
  leads_on k i r a j = (block_at layouts h.cells k ∷ r.0, (block_in k i, subst (In (pointer a)) (sym (cells_at k)) j, subst (Leads g r.0) (sym (name_at k)) r.1))

  all_reached : (k : Named) → In k blocks_in → Reached g k.address
  all_reached = by_the_rule (Reaches layouts b h.cells (Reached g)) (reach_cases layouts b h.cells (Reached g)) 0 refl (omega arith)
      (λ a i. ([], subst (In (pointer a)) (sym its_params) i)) leads_on

  pub is_graph : IsGraph layouts params g
  is_graph = record {
    params = subst (FitAll g params) (sym its_params) (fit_all params h.cells params_hold);
    blocks = λ j i. let m = from_map (block_at layouts h.cells) j blocks_in (subst (In j) its_blocks i) in
        subst (λ x. FitAll g (layouts x.type) x.cells) (sym m.2) (subst (λ t. FitAll g (layouts t) (block_at layouts h.cells m.0).cells) (sym (type_at m.0)) (subst (FitAll g (layouts (m.0).type)) (sym (cells_at m.0)) (fit_all (layouts (m.0).type) _ (blocks_hold m.0 m.1))));
    names = subst (Pairwise (λ j k. j.name ≢ k.name)) (sym its_blocks) (names_differ blocks_in addresses_ascend);
    reached = λ j i. let m = from_map (block_at layouts h.cells) j blocks_in (subst (In j) its_blocks i) in subst (Reached g) (sym (name_at m.0) ∙ ap (λ x. x.name) (sym m.2)) (all_reached m.0 m.1);
  }
