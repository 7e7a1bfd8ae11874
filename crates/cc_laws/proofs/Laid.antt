-- Each graph can be laid out as a list of cells.
use Rattle.std.proofs.Common.{◌≡◌, ◌≢◌, ℕ, zero, suc, ◌+◌, ◌<◌, ◌≤◌, ◌⊎◌, inl, inr, ℤ, pos, Bool, true, false, ◌||◌, List, [], ◌∷◌, ◌++◌, length, map, refl, sym, ap, ap₂, ◌∙◌, subst, arith, nat_eq, append_assoc, length-append}
use Rattle.std.proofs.lemmas.Bool.Decides.{eqb_tells}
use Rattle.cc_base.specs.Limits.{Limits}
use Rattle.cc_base.specs.Paths.{In, Pairwise}
use Rattle.cc_model.specs.Core.{Cell, int_cell, ptr_cell}
use Rattle.cc_model.specs.Canonical.{Named, AreCells, Within}
use Rattle.cc_model.specs.Plain.{names_new}
use Rattle.cc_model.specs.Graphs.{Content, number, nil, pointer, Block, Graph, Fits, FitAll, rename, content_of, contents, named_by}
use Rattle.cc_laws.proofs.Scanned.{all_cells}
use Rattle.cc_laws.proofs.Members.{in_append, in_map, not_same, is_same}
use Rattle.cc_laws.proofs.Ranks.{bool_cases}
use Rattle.cc_laws.proofs.Renaming.{only_one}
use Rattle.cc_laws.proofs.Listed.{Sized, sized_more, more_one, fit_append, named_old, named_new, number_new, new_at, content_number, content_null, content_pointer}

-- a block of a graph, and the address that it gets
pub record Placed : Type 0 where
  pub block : Block
  pub address : ℕ

abbrev pub named : Placed → Named
named k = record { address = k.address; type = (k.block).type }

abbrev pub Agrees : (ℕ → ℕ) → List Placed → Type 0
Agrees r ks = (k : Placed) → In k ks → r (k.block).name ≡ k.address

abbrev pub held : List Placed → List Content
held [] = []
held (k ∷ ks) = (k.block).cells ++ held ks

-- ---- how much is left to place

unfoldable pub is_placed : ℕ → List Placed → Bool
is_placed a [] = false
is_placed a (k ∷ ks) = nat_eq a (k.block).name || is_placed a ks

placed_at : (a : ℕ) (ks : List Placed) → is_placed a ks ≡ true → (k : Placed) × In k ks × ((k.block).name ≡ a)
unfolding is_placed
placed_at a [] h = absurd (cc h)
placed_at a (k ∷ ks) h = elim (eqb_tells a (k.block).name) [
  | inl q ↦ (k, inl refl, sym q.1)
  | inr q ↦ let r = placed_at a ks (sym (ap (λ t. t || is_placed a ks) q.0) ∙ h) in (r.0, inr r.1, r.2)
]

not_placed : (a : ℕ) (ks : List Placed) → is_placed a ks ≡ false → (k : Placed) → In k ks → (k.block).name ≢ a
unfolding is_placed
not_placed a [] h k i = absurd i
not_placed a (j ∷ ks) h k (inl e) = elim (eqb_tells a (j.block).name) [
  | inl q ↦ absurd (cc (h, ap (λ t. t || is_placed a ks) q.0))
  | inr q ↦ λ f. q.1 (sym f ∙ ap (λ m. (m.block).name) e)
]
not_placed a (j ∷ ks) h k (inr i) = elim (eqb_tells a (j.block).name) [
  | inl q ↦ absurd (cc (h, ap (λ t. t || is_placed a ks) q.0))
  | inr q ↦ not_placed a ks (sym (ap (λ t. t || is_placed a ks) q.0) ∙ h) k i
]

unfoldable pub unless : Bool → ℕ → ℕ
unless true n = 0
unless false n = n

unless_or : (s t : Bool) (n : ℕ) → unless (s || t) n ≤ unless t n
unfolding unless
unless_or true true n = omega arith
unless_or true false n = omega arith
unless_or false true n = omega arith
unless_or false false n = omega arith

unfoldable pub left : List Placed → List Block → ℕ
left ks [] = 0
left ks (b ∷ l) = unless (is_placed b.name ks) (length b.cells) + left ks l

left_more : (k : Placed) (ks : List Placed) (l : List Block) → left (k ∷ ks) l ≤ left ks l
unfolding left is_placed
left_more k ks [] = omega arith
left_more k ks (b ∷ l) = let f = left_more k ks l in let e = unless_or (nat_eq b.name (k.block).name) (is_placed b.name ks) (length b.cells) in omega (arith, f, e)

-- a block that is placed is left no more
left_less : (k : Placed) (ks : List Placed) (l : List Block) → In k.block l → is_placed (k.block).name ks ≡ false → left (k ∷ ks) l + length (k.block).cells ≤ left ks l
unfolding left is_placed unless
left_less k ks [] i h = absurd i
left_less k ks (b ∷ l) (inl e) h =
    let f = left_more k ks l in
    let n : length (k.block).cells ≡ length b.cells = ap (λ m. length m.cells) e in
    let s : unless (nat_eq b.name (k.block).name || is_placed b.name ks) (length b.cells) ≡ 0 = ap (λ t. unless (t || is_placed b.name ks) (length b.cells)) (is_same b.name (k.block).name (ap (λ m. m.name) (sym e))) in
    let t : unless (is_placed b.name ks) (length b.cells) ≡ length b.cells = ap (λ t. unless t (length b.cells)) (ap (λ m. is_placed m.name ks) (sym e) ∙ h) in
    omega (arith, f, n, s, t)
left_less k ks (b ∷ l) (inr i) h = let f = left_less k ks l i h in let e = unless_or (nat_eq b.name (k.block).name) (is_placed b.name ks) (length b.cells) in omega (arith, f, e)

-- ---- the list of cells

module _ (layouts : ℕ → List Cell) (b : Limits) (g : Graph) (deep : (s t : ℕ) → In (ptr_cell t) (layouts s) → 1 ≤ length (layouts t))
    (fit : (k : Block) → In k g.blocks → FitAll g (layouts k.type) k.cells) (within : (k : Block) → In k g.blocks → (z : ℤ) → In (number z) k.cells → Within b z)
    (names : Pairwise (λ j k. j.name ≢ k.name) g.blocks) where
  -- where the layout stands: the types and contents of the cells to come, the blocks so far, and the next address
  pub record Ready (due : List Cell) (vs : List Content) (placed : List Placed) (next : ℕ) : Type 0 where
    pub fits : FitAll g due vs
    pub numbers : (z : ℤ) → In (number z) vs → Within b z
    pub sized : Sized layouts b due
    pub one : 1 ≤ next
    pub before : (k : Placed) → In k placed → (1 ≤ k.address) × (k.address < next)
    pub blocks : (k : Placed) → In k placed → In k.block g.blocks

  -- what the layout gives: the cells, and the blocks that they name, in order of address
  pub record Laid (due : List Cell) (vs : List Content) (placed : List Placed) (next : ℕ) : Type 0 where
    pub zs : List ℤ
    pub ks : List Placed
    pub cells : AreCells layouts b due (map named placed) next zs
    pub found : named_by layouts due next zs ≡ map named ks
    pub same : (r : ℕ → ℕ) → Agrees r placed → Agrees r ks → contents (due ++ all_cells layouts (map named ks)) zs ≡ map (rename r) (vs ++ held ks)
    pub blocks : (k : Placed) → In k ks → In k.block g.blocks
    pub apart : Pairwise (λ j k. (j.block).name ≢ (k.block).name) ks
    pub new : (k : Placed) → In k ks → (j : Placed) → In j placed → (j.block).name ≢ (k.block).name
    pub closed : (a : ℕ) → In (pointer a) (vs ++ held ks) → (k : Placed) × (In k placed ⊎ In k ks) × ((k.block).name ≡ a)

  ready_rest : (c : Cell) (due : List Cell) (v : Content) (vs : List Content) (placed : List Placed) (next : ℕ) → Ready (c ∷ due) (v ∷ vs) placed next → Ready due vs placed next
  ready_rest c due v vs placed next q = record { fits = q.fits.1; numbers = λ z i. q.numbers z (inr i); sized = λ t i. q.sized t (inr i); one = q.one; before = q.before; blocks = q.blocks }

  lay_nothing : (placed : List Placed) (next : ℕ) → Laid [] [] placed next
  unfolding named_by contents
  lay_nothing placed next = record { zs = []; ks = []; cells = tt; found = refl; same = λ r i j. refl; blocks = λ k i. absurd i; apart = tt; new = λ k i. absurd i; closed = λ a i. absurd i }

  -- a cell that names no new block
  lay_old : (c : Cell) (due : List Cell) (v : Content) (vs : List Content) (placed : List Placed) (next : ℕ) (z : ℤ) → names_new c z next ≡ false
      → ((zs : List ℤ) → AreCells layouts b due (map named placed) next zs → AreCells layouts b (c ∷ due) (map named placed) next (z ∷ zs))
      → ((r : ℕ → ℕ) → Agrees r placed → content_of c z ≡ rename r v)
      → ((a : ℕ) → pointer a ≡ v → (k : Placed) × In k placed × ((k.block).name ≡ a))
      → Laid due vs placed next → Laid (c ∷ due) (v ∷ vs) placed next
  unfolding contents
  lay_old c due v vs placed next z old cell same closed q = record {
    zs = z ∷ q.zs;
    ks = q.ks;
    cells = cell q.zs q.cells;
    found = named_old layouts b c due next z q.zs old ∙ q.found;
    same = λ r i j. ap₂ (λ u us. u ∷ us) (same r i) (q.same r i j);
    blocks = q.blocks;
    apart = q.apart;
    new = q.new;
    closed = λ a i. close a i;
  }
    where
      close : (a : ℕ) → In (pointer a) (v ∷ (vs ++ held q.ks)) → (k : Placed) × (In k placed ⊎ In k q.ks) × ((k.block).name ≡ a)
      close a (inl e) = let m = closed a e in (m.0, inl m.1, m.2)
      close a (inr i) = q.closed a i

  abbrev placed_next : Block → ℕ → Placed
  placed_next k next = record { block = k; address = next }

  ready_new : (k : Block) (due : List Cell) (vs : List Content) (placed : List Placed) (next : ℕ) → In k g.blocks → Ready (ptr_cell k.type ∷ due) (pointer k.name ∷ vs) placed next
      → Ready (due ++ layouts k.type) (vs ++ k.cells) (placed_next k next ∷ placed) (next + length (layouts k.type))
  ready_new k due vs placed next i q = record {
    fits = fit_append g due (layouts k.type) vs k.cells q.fits.1 (fit k i);
    numbers = λ z j. elim (in_append (number z) vs k.cells j) [ inl m ↦ q.numbers z (inr m) | inr m ↦ within k i z m ];
    sized = sized_more layouts b deep due k.type (λ t j. q.sized t (inr j));
    one = more_one layouts b next (length (layouts k.type)) q.one;
    before = λ j m. before_new j m;
    blocks = λ j m. block_new j m;
  }
    where
      before_new : (j : Placed) → In j (placed_next k next ∷ placed) → (1 ≤ j.address) × (j.address < next + length (layouts k.type))
      before_new j (inl e) = let f = ap (λ m. m.address) e in let o = q.one in let s = q.sized k.type (inl refl) in (omega (arith, f, o), omega (arith, f, s))
      before_new j (inr m) = let o = q.before j m in let l = o.1 in (o.0, omega (arith, l))

      block_new : (j : Placed) → In j (placed_next k next ∷ placed) → In j.block g.blocks
      block_new j (inl e) = subst (λ m. In m.block g.blocks) (sym e) i
      block_new j (inr m) = q.blocks j m

  agrees_both : (k : Placed) (placed ks : List Placed) (r : ℕ → ℕ) → Agrees r placed → Agrees r (k ∷ ks) → (j : Placed) → In j (k ∷ placed) → r (j.block).name ≡ j.address
  agrees_both k placed ks r a m j (inl e) = m j (inl e)
  agrees_both k placed ks r a m j (inr n) = a j n

  -- a cell that names a new block
  lay_new : (k : Block) (due : List Cell) (vs : List Content) (placed : List Placed) (next : ℕ) → In k g.blocks → 1 ≤ next → is_placed k.name placed ≡ false
      → Laid (due ++ layouts k.type) (vs ++ k.cells) (placed_next k next ∷ placed) (next + length (layouts k.type)) → Laid (ptr_cell k.type ∷ due) (pointer k.name ∷ vs) placed next
  unfolding contents
  lay_new k due vs placed next i one out q = record {
    zs = pos next ∷ q.zs;
    ks = placed_next k next ∷ q.ks;
    cells = inr (refl, q.cells);
    found = named_new layouts b k.type due next (pos next) q.zs (new_at k.type next next ∙ is_same next next refl) ∙ ap (λ l. named (placed_next k next) ∷ l) q.found;
    same = λ r a m. same_new r a m;
    blocks = λ j m. block_new j m;
    apart = ((λ j m. q.new j m (placed_next k next) (inl refl)), q.apart);
    new = λ j m. is_new j m;
    closed = λ a m. close a m;
  }
    where
      same_new : (r : ℕ → ℕ) → Agrees r placed → Agrees r (placed_next k next ∷ q.ks)
          → contents ((ptr_cell k.type ∷ due) ++ all_cells layouts (map named (placed_next k next ∷ q.ks))) (pos next ∷ q.zs) ≡ map (rename r) ((pointer k.name ∷ vs) ++ held (placed_next k next ∷ q.ks))
      same_new r a m = ap₂ (λ u us. u ∷ us) (content_pointer k.type next one ∙ ap pointer (sym (m (placed_next k next) (inl refl))))
          (ap (λ cs. contents cs q.zs) (sym (append_assoc due (layouts k.type) (all_cells layouts (map named q.ks))))
          ∙ q.same r (agrees_both (placed_next k next) placed q.ks r a m) (λ j n. m j (inr n))
          ∙ ap (map (rename r)) (append_assoc vs k.cells (held q.ks)))

      block_new : (j : Placed) → In j (placed_next k next ∷ q.ks) → In j.block g.blocks
      block_new j (inl e) = subst (λ m. In m.block g.blocks) (sym e) i
      block_new j (inr m) = q.blocks j m

      is_new : (j : Placed) → In j (placed_next k next ∷ q.ks) → (m : Placed) → In m placed → (m.block).name ≢ (j.block).name
      is_new j (inl e) m n = λ f. not_placed k.name placed out m n (f ∙ ap (λ x. (x.block).name) e)
      is_new j (inr e) m n = q.new j e m (inr n)

      side : (j : Placed) → In j (placed_next k next ∷ placed) ⊎ In j q.ks → In j placed ⊎ In j (placed_next k next ∷ q.ks)
      side j (inl (inl e)) = inr (inl e)
      side j (inl (inr e)) = inl e
      side j (inr e) = inr (inr e)

      name_of : (a c : ℕ) → pointer a ≡ pointer c → a ≡ c
      name_of a c e = cc e

      close : (a : ℕ) → In (pointer a) ((pointer k.name ∷ vs) ++ (k.cells ++ held q.ks)) → (j : Placed) × (In j placed ⊎ In j (placed_next k next ∷ q.ks)) × ((j.block).name ≡ a)
      close a (inl e) = (placed_next k next, inr (inl refl), sym (name_of a k.name e))
      close a (inr m) = let c = q.closed a (subst (In (pointer a)) (sym (append_assoc vs k.cells (held q.ks))) m) in (c.0, side c.0 c.1, c.2)

  abbrev Lays : ℕ → Type 0
  Lays n = (due : List Cell) (vs : List Content) (placed : List Placed) (next : ℕ) → length vs + left placed g.blocks ≤ n → Ready due vs placed next → Laid due vs placed next

  pointer_name : (a c : ℕ) → pointer a ≡ pointer c → a ≡ c
  pointer_name a c e = cc e

  lay_block : (n : ℕ) → Lays n → (k : Block) (due : List Cell) (vs : List Content) (placed : List Placed) (next : ℕ) → In k g.blocks → suc (length vs) + left placed g.blocks ≤ suc n
      → Ready (ptr_cell k.type ∷ due) (pointer k.name ∷ vs) placed next → Laid (ptr_cell k.type ∷ due) (pointer k.name ∷ vs) placed next
  lay_block n below k due vs placed next i size q = elim (bool_cases (is_placed k.name placed)) [
    | inl h ↦ again (placed_at k.name placed h)
    | inr h ↦ lay_new k due vs placed next i q.one h (below (due ++ layouts k.type) (vs ++ k.cells) (placed_next k next ∷ placed) (next + length (layouts k.type))
        (let f = left_less (placed_next k next) placed g.blocks i h in omega (arith, size, f, length-append vs k.cells)) (ready_new k due vs placed next i q))
  ]
    where
      again : ((j : Placed) × In j placed × ((j.block).name ≡ k.name)) → Laid (ptr_cell k.type ∷ due) (pointer k.name ∷ vs) placed next
      again j = let o = q.before j.0 j.1 in
          let e : (j.0).block ≡ k = only_one g.blocks names (j.0).block k (q.blocks j.0 j.1) i j.2 in
          lay_old (ptr_cell k.type) due (pointer k.name) vs placed next (pos (j.0).address)
          (new_at k.type (j.0).address next ∙ not_same (j.0).address next (λ f. let l = o.1 in omega (arith, f, l)))
          (λ zs h. inl (inr (named j.0, in_map named j.0 placed j.1, refl, ap (λ m. m.type) e), h))
          (λ r a. content_pointer k.type (j.0).address o.0 ∙ ap pointer (sym (a j.0 j.1) ∙ ap r j.2))
          (λ a f. (j.0, j.1, j.2 ∙ pointer_name k.name a (sym f)))
          (below due vs placed next (omega (arith, size)) (ready_rest (ptr_cell k.type) due (pointer k.name) vs placed next q))

  lay_first : (n : ℕ) → Lays n → (c : Cell) (due : List Cell) (v : Content) (vs : List Content) (placed : List Placed) (next : ℕ) → suc (length vs) + left placed g.blocks ≤ suc n
      → Ready (c ∷ due) (v ∷ vs) placed next → Fits g c v → Laid (c ∷ due) (v ∷ vs) placed next
  lay_first n below int_cell due (number z) vs placed next size q f = lay_old int_cell due (number z) vs placed next z (number_new z next) (λ zs h. (q.numbers z (inl refl), h)) (λ r a. content_number z) (λ a e. absurd (cc e))
      (below due vs placed next (omega (arith, size)) (ready_rest int_cell due (number z) vs placed next q))
  lay_first n below (ptr_cell t) due nil vs placed next size q f = lay_old (ptr_cell t) due nil vs placed next (pos 0) (new_at t 0 next ∙ not_same 0 next (λ e. let o = q.one in omega (arith, e, o)))
      (λ zs h. inl (inl refl, h)) (λ r a. content_null t) (λ a e. absurd (cc e))
      (below due vs placed next (omega (arith, size)) (ready_rest (ptr_cell t) due nil vs placed next q))
  lay_first n below (ptr_cell t) due (pointer a) vs placed next size q f =
      subst (λ s. Laid (ptr_cell s ∷ due) (pointer a ∷ vs) placed next) f.3 (subst (λ c. Laid (ptr_cell (f.0).type ∷ due) (pointer c ∷ vs) placed next) f.2
      (lay_block n below f.0 due vs placed next f.1 size (subst (λ s. Ready (ptr_cell s ∷ due) (pointer (f.0).name ∷ vs) placed next) (sym f.3) (subst (λ c. Ready (ptr_cell t ∷ due) (pointer c ∷ vs) placed next) (sym f.2) q))))
  lay_first n below int_cell due nil vs placed next size q f = absurd f
  lay_first n below int_cell due (pointer a) vs placed next size q f = absurd f
  lay_first n below (ptr_cell t) due (number z) vs placed next size q f = absurd f

  too_long : (v : Content) (vs : List Content) (m : ℕ) → length (v ∷ vs) + m ≤ 0 → ⊥
  too_long v vs m h = omega (arith, h)

  pub lay : (n : ℕ) → Lays n
  lay n [] [] placed next size q = lay_nothing placed next
  lay zero (c ∷ due) (v ∷ vs) placed next size q = absurd (too_long v vs (left placed g.blocks) size)
  lay (suc n) (c ∷ due) (v ∷ vs) placed next size q = lay_first n (lay n) c due v vs placed next size q q.fits.0
  lay n [] (v ∷ vs) placed next size q = absurd q.fits
  lay n (c ∷ due) [] placed next size q = absurd q.fits
