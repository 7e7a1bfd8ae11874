-- The run on a renamed graph.
use Rattle.std.proofs.Common.{◌≡◌, ◌≢◌, ℕ, suc, ◌+◌, ◌<◌, Bool, true, false, ◌||◌, inl, inr, List, [], ◌∷◌, map, refl, sym, ap, ap₂, ◌∙◌, subst, arith, nat_eq, if◌then◌else◌}
use Rattle.std.proofs.lemmas.Bool.Decides.{eqb_tells}
use Rattle.cc_base.specs.Limits.{Limits}
use Rattle.cc_base.specs.Paths.{In, Pairwise}
use Rattle.cc_model.specs.Core.{Cell, int_cell, ptr_cell, Program, Start, start_number, start_null}
use Rattle.cc_model.specs.Plain.{plain, at, block, has, locals_at}
use Rattle.cc_model.specs.Runs.{fixed_of, path_of, value_of_start}
use Rattle.cc_model.specs.Graphs.{Content, number, nil, pointer, Block, Graph, Fits, FitAll, IsGraph, rename, rename_block, Renames, value_of, cells_named, begin_on, run_on, path_on, end_on}
use Rattle.cc_laws.proofs.Ranks.{bool_cases}
use Rattle.cc_laws.proofs.Renamed as of
use Rattle.cc_laws.proofs.Renamed.{Renamed, made_renamed, num_renamed, null_renamed, same_runs}

abbrev pub names_of : List Block → List ℕ
names_of [] = []
names_of (k ∷ l) = k.name ∷ names_of l

-- numbers that are the same exactly where others are
eq_same : (x y a b : ℕ) → (x ≡ y → a ≡ b) → (a ≡ b → x ≡ y) → nat_eq x y ≡ nat_eq a b
eq_same x y a b i j = elim (eqb_tells x y) [
  | inl q ↦ elim (eqb_tells a b) [ inl s ↦ q.0 ∙ sym s.0 | inr s ↦ absurd (s.1 (i q.1)) ]
  | inr q ↦ elim (eqb_tells a b) [ inl s ↦ absurd (q.1 (j s.1)) | inr s ↦ q.0 ∙ sym s.0 ]
]

-- a block of a name that is there
pub there : (a : ℕ) (l : List Block) → has a (names_of l) ≡ true → (k : Block) × In k l × (k.name ≡ a) × (cells_named a l ≡ k.cells)
unfolding has cells_named
there a [] h = absurd (cc h)
there a (k ∷ l) h = elim (eqb_tells a k.name) [
  | inl q ↦ (k, inl refl, sym q.1, ap (λ t. if t then k.cells else cells_named a l) q.0)
  | inr q ↦ let r = there a l (sym (ap (λ t. t || has a (names_of l)) q.0) ∙ h) in (r.0, inr r.1, r.2, ap (λ t. if t then k.cells else cells_named a l) q.0 ∙ r.3)
]

pub not_there : (a : ℕ) (l : List Block) → has a (names_of l) ≡ false → cells_named a l ≡ []
unfolding has cells_named
not_there a [] h = refl
not_there a (k ∷ l) h = elim (eqb_tells a k.name) [
  | inl q ↦ absurd (cc (h, ap (λ t. t || has a (names_of l)) q.0))
  | inr q ↦ ap (λ t. if t then k.cells else cells_named a l) q.0 ∙ not_there a l (sym (ap (λ t. t || has a (names_of l)) q.0) ∙ h)
]

or_true : (b : Bool) → b || true ≡ true
or_true true = refl
or_true false = refl

pub has_in : (k : Block) (l : List Block) → In k l → has k.name (names_of l) ≡ true
unfolding has
has_in k [] i = absurd i
has_in k (j ∷ l) (inl e) = elim (eqb_tells k.name j.name) [ inl q ↦ ap (λ t. t || has k.name (names_of l)) q.0 | inr q ↦ absurd (q.1 (ap (λ m. m.name) e)) ]
has_in k (j ∷ l) (inr i) = ap (λ t. nat_eq k.name j.name || t) (has_in k l i) ∙ or_true _

-- blocks of one name are one
pub only_one : (l : List Block) → Pairwise (λ j k. j.name ≢ k.name) l → (i j : Block) → In i l → In j l → i.name ≡ j.name → i ≡ j
only_one [] d i j a b e = absurd a
only_one (k ∷ l) d i j (inl a) (inl b) e = a ∙ sym b
only_one (k ∷ l) d i j (inl a) (inr b) e = absurd (d.0 j b (sym (ap (λ m. m.name) a) ∙ e))
only_one (k ∷ l) d i j (inr a) (inl b) e = absurd (d.0 i a (sym (ap (λ m. m.name) b) ∙ sym e))
only_one (k ∷ l) d i j (inr a) (inr b) e = only_one l d.1 i j a b e

-- ---- a renaming of all names that agrees with r on those of the blocks

top : (ℕ → ℕ) → List Block → ℕ
top r [] = 0
top r (k ∷ l) = suc (r k.name) + top r l

below_top : (r : ℕ → ℕ) (l : List Block) (k : Block) → In k l → r k.name < top r l
unfolding top
below_top r [] k i = absurd i
below_top r (j ∷ l) k (inl e) = let f = ap (λ m. r m.name) e in omega (arith, f)
below_top r (j ∷ l) k (inr i) = let f = below_top r l k i in omega (arith, f)

extend_if : Bool → ℕ → ℕ → ℕ
extend_if true n m = n
extend_if false n m = m

extended : (ℕ → ℕ) → List Block → ℕ → ℕ
extended r l a = extend_if (has a (names_of l)) (r a) (a + top r l)

extended_in : (r : ℕ → ℕ) (l : List Block) (a : ℕ) → has a (names_of l) ≡ true → extended r l a ≡ r a
unfolding extended extend_if
extended_in r l a h = ap (λ t. extend_if t (r a) (a + top r l)) h

extended_out : (r : ℕ → ℕ) (l : List Block) (a : ℕ) → has a (names_of l) ≡ false → extended r l a ≡ a + top r l
unfolding extended extend_if
extended_out r l a h = ap (λ t. extend_if t (r a) (a + top r l)) h

below_named : (r : ℕ → ℕ) (l : List Block) (a : ℕ) → has a (names_of l) ≡ true → r a < top r l
below_named r l a h = let k = there a l h in subst (λ n. r n < top r l) k.2 (below_top r l k.0 k.1)

module _ (r : ℕ → ℕ) (l : List Block) (one : (i j : Block) → In i l → In j l → r i.name ≡ r j.name → i.name ≡ j.name) where
  extended_one_to_one : (a b : ℕ) → extended r l a ≡ extended r l b → a ≡ b
  extended_one_to_one a b e = elim (bool_cases (has a (names_of l))) [
    | inl s ↦ elim (bool_cases (has b (names_of l))) [
      | inl t ↦ let i = there a l s in let j = there b l t in
          sym i.2 ∙ one i.0 j.0 i.1 j.1 (ap r i.2 ∙ sym (extended_in r l a s) ∙ e ∙ extended_in r l b t ∙ sym (ap r j.2)) ∙ j.2
      | inr t ↦ let i = below_named r l a s in let f = extended_in r l a s in let g = extended_out r l b t in absurd (omega (arith, i, e, f, g))
    ]
    | inr s ↦ elim (bool_cases (has b (names_of l))) [
      | inl t ↦ let i = below_named r l b t in let f = extended_out r l a s in let g = extended_in r l b t in absurd (omega (arith, i, e, f, g))
      | inr t ↦ let f = extended_out r l a s in let g = extended_out r l b t in omega (arith, e, f, g)
    ]
  ]

  extended_same : (a b : ℕ) → nat_eq (extended r l a) (extended r l b) ≡ nat_eq a b
  extended_same a b = eq_same (extended r l a) (extended r l b) a b (extended_one_to_one a b) (λ e. ap (extended r l) e)

module _ (layouts : ℕ → List Cell) (types : List Cell) (g k : Graph) (r : ℕ → ℕ) (ok : IsGraph layouts types g) (by : Renames g k r) where
  abbrev on : ℕ → ℕ
  on = extended r g.blocks

  abbrev same : (a b : ℕ) → nat_eq (on a) (on b) ≡ nat_eq a b
  same = extended_same r g.blocks by.one_to_one

  -- a content that fits has the value of its renamed one
  content_renamed : (c : Cell) (v : Content) → Fits g c v → value_of (rename r v) ≡ of.rename on same (value_of v)
  unfolding value_of of.rename
  content_renamed int_cell (number z) f = refl
  content_renamed (ptr_cell t) nil f = refl
  content_renamed (ptr_cell t) (pointer a) f = ap (λ n. at (block n) 0) (sym (extended_in r g.blocks a (subst (λ n. has n (names_of g.blocks) ≡ true) f.2 (has_in f.0 g.blocks f.1))))
  content_renamed int_cell nil f = absurd f
  content_renamed int_cell (pointer a) f = absurd f
  content_renamed (ptr_cell t) (number z) f = absurd f

  contents_renamed : (cs : List Cell) (vs : List Content) → FitAll g cs vs → map value_of (map (rename r) vs) ≡ map (of.rename on same) (map value_of vs)
  contents_renamed [] [] f = refl
  contents_renamed (c ∷ cs) (v ∷ vs) f = ap₂ (λ u us. u ∷ us) (content_renamed c v f.0) (contents_renamed cs vs f.1)
  contents_renamed [] (v ∷ vs) f = absurd f
  contents_renamed (c ∷ cs) [] f = absurd f

  params_renamed : (cs : List Cell) (vs : List Content) → FitAll g cs vs → map (λ v. value_of v ∷ []) (map (rename r) vs) ≡ map (map (of.rename on same)) (map (λ v. value_of v ∷ []) vs)
  params_renamed [] [] f = refl
  params_renamed (c ∷ cs) (v ∷ vs) f = ap₂ (λ u us. (u ∷ []) ∷ us) (content_renamed c v f.0) (params_renamed cs vs f.1)
  params_renamed [] (v ∷ vs) f = absurd f
  params_renamed (c ∷ cs) [] f = absurd f

  start_renamed : (s : Start) → value_of_start s ≡ of.rename on same (value_of_start s)
  start_renamed (start_number z) = sym (num_renamed on same z)
  start_renamed start_null = sym (null_renamed on same)

  globals_renamed : (l : List Start) → map value_of_start l ≡ map (of.rename on same) (map value_of_start l)
  globals_renamed [] = refl
  globals_renamed (s ∷ l) = ap₂ (λ u us. u ∷ us) (start_renamed s) (globals_renamed l)

  -- the cells under a name are those under its new name
  named_renamed : (a : ℕ) → map value_of (cells_named (on a) k.blocks) ≡ map (of.rename on same) (map value_of (cells_named a g.blocks))
  named_renamed a = elim (bool_cases (has a (names_of g.blocks))) [
    | inl h ↦ here (there a g.blocks h) h
    | inr h ↦ ap (map value_of) (not_there (on a) k.blocks (away h)) ∙ sym (ap (λ l. map (of.rename on same) (map value_of l)) (not_there a g.blocks h))
  ]
    where
      away : has a (names_of g.blocks) ≡ false → has (on a) (names_of k.blocks) ≡ false
      away h = elim (bool_cases (has (on a) (names_of k.blocks))) [
        | inr t ↦ t
        | inl t ↦ let j = there (on a) k.blocks t in let i = by.no_more j.0 j.1 in let f = below_top r g.blocks i.0 i.1 in let e = extended_out r g.blocks a h in
            let n : r (i.0).name ≡ on a = sym (ap (λ m. m.name) i.2) ∙ j.2 in absurd (omega (arith, f, e, n))
      ]

      here : ((i : Block) × In i g.blocks × (i.name ≡ a) × (cells_named a g.blocks ≡ i.cells)) → has a (names_of g.blocks) ≡ true → map value_of (cells_named (on a) k.blocks) ≡ map (of.rename on same) (map value_of (cells_named a g.blocks))
      here i h = let e : on a ≡ r (i.0).name = extended_in r g.blocks a h ∙ sym (ap r i.2) in
          let t = there (on a) k.blocks (subst (λ n. has n (names_of k.blocks) ≡ true) (sym e) (has_in (rename_block r i.0) k.blocks (by.blocks i.0 i.1))) in
          let j = by.no_more t.0 t.1 in
          let q : j.0 ≡ i.0 = only_one g.blocks ok.names j.0 i.0 j.1 i.1 (by.one_to_one j.0 i.0 j.1 i.1 (sym (ap (λ m. m.name) j.2) ∙ t.2 ∙ e)) in
          ap (map value_of) (t.3 ∙ ap (λ m. m.cells) j.2 ∙ ap (λ m. map (rename r) m.cells) q)
          ∙ contents_renamed (layouts (i.0).type) (i.0).cells (ok.blocks i.0 i.1)
          ∙ sym (ap (λ l. map (of.rename on same) (map value_of l)) i.3)

  module _ (p : Program) (b : Limits) where
    start : Renamed on same (begin_on p b g).data_now (begin_on p b k).data_now
    unfolding begin_on
    start = record {
      blocks = named_renamed;
      made = ap₂ (λ u us. u ∷ us) (globals_renamed p.globals) (ap (map (λ v. value_of v ∷ [])) by.params ∙ params_renamed types g.params ok.params);
      touched = refl;
      stream = by.stream;
      base = refl;
      count = refl;
    }

    locals : (n : ℕ) → of.rename on same ((begin_on p b g).locals n) ≡ (begin_on p b k).locals n
    unfolding begin_on locals_at
    locals n = made_renamed on same (suc n) 0

    pub path_renamed : path_on p b k ≡ path_on p b g
    unfolding path_on run_on
    path_renamed = sym (ap (path_of plain) (same_runs on same (fixed_of p b) b.steps b.depth (begin_on p b g) (begin_on p b k) locals start).0)

    pub end_renamed : end_on p b k ≡ end_on p b g
    unfolding end_on run_on
    end_renamed = sym (same_runs on same (fixed_of p b) b.steps b.depth (begin_on p b g) (begin_on p b k) locals start).1
