-- What a search has written at its end.
use Rattle.std.proofs.Common.{◌≡◌, ℕ, ◌+◌, ◌↔◌, ◌||◌, inl, inr, false, List, [], map, Option, sym, ap, ◌∙◌, subst, arith}
use Rattle.cc_base.specs.declared.inputs.Test.{Test}
use Rattle.cc_base.specs.Paths.{Path, In}
use Rattle.cc_model.specs.Tested.{Term}
use Rattle.cc_model.specs.Listing.{Counts, WasRun}
use Rattle.cc_model.specs.Report.{item_lines, term_lines, has_fault}
use Rattle.cc_outside.specs.Told.{appended, WritesPart}
use Rattle.cc_outside.proofs.ToldLemmas.{appended-appended, WritesPart-first, WritesPart-after}
use Rattle.std.proofs.lemmas.List.{length-map}
use Rattle.search_dfs.specs.declared.search.Summary.{Summary}
use Rattle.search_dfs.specs.declared.tally.Tally.{Tally}
use Rattle.search_dfs.specs.Explored.{Explored, ExploredSome, Counted, HasNumbers, listing_of}
use Rattle.search_dfs.specs.Laws.{Laws}
use Rattle.search_dfs.proofs.Missing.{misses_no_more, all_paths, nothing_left}
use Rattle.search_base.specs.Terms.{seen_term, InOrder}
use Rattle.search_base.specs.Readable.{IsNarrow}
use Rattle.search_dfs.specs.Output.{out}
use Rattle.search_base.specs.Setting.{Setting, layer_of}
use Rattle.search_dfs.specs.Whole.{Listed_whole, Listed_part}

-- ---- the whole

module _ (p : Setting) (after : Option Path) (limit : ℕ) (t0 t1 : Tally) (old mid new : Option (List ℕ)) (f0 f1 : ℕ)
    (none : (t0.terms).items ≡ []) (zero : t0 ≡ record { paths = 0; runs = 0; spent = 0; steps = 0; strays = 0; unrun = 0; fault = false; terms = t0.terms }) where
  abbrev found : List Term
  found = map seen_term (t1.terms).items

  abbrev Whole : Type 0
  Whole = Listed_whole p after limit (out old f0 t0) (out mid f1 t1)

  from_none : (x : ℕ) (a b c : ℕ) → x ≡ b → b ≡ a + c → a ≡ 0 → x ≡ c
  from_none x a b c e f g = omega (arith, e, f, g)

  abbrev counts : ℕ → ℕ → ℕ → ℕ → ℕ → Counts
  counts t s n r u = record { terms = t; spent = s; steps = n; strays = r; unrun = u }

  same_counts : (a b : Counts) → a.terms ≡ b.terms → a.spent ≡ b.spent → a.steps ≡ b.steps → a.strays ≡ b.strays → a.unrun ≡ b.unrun → a ≡ b
  same_counts a b e f g h i =
      ap (λ x. counts x a.spent a.steps a.strays a.unrun) e ∙ ap (λ x. counts b.terms x a.steps a.strays a.unrun) f ∙ ap (λ x. counts b.terms b.spent x a.strays a.unrun) g
      ∙ ap (λ x. counts b.terms b.spent b.steps x a.unrun) h ∙ ap (λ x. counts b.terms b.spent b.steps b.strays x) i

  all_terms : (l : Whole) (e : Term) → In e found ↔ ((t : Test) × WasRun t l.items × In e ((layer_of p).terms t.input))
  all_terms l e = let k = ((l.wrote).tally).terms e in (
    (λ i. elim (k.0 i) [ inl j ↦ absurd (subst (λ m. In e (map seen_term m)) none j) | inr j ↦ j ]),
    (λ j. k.1 (inr j)),
  )

  ordered : Whole → InOrder (t1.terms).items
  ordered l = ((l.wrote).tally).order (subst InOrder (sym none) tt)

  pub explored : (s : Summary) → Laws (layer_of p) → Whole → new ≡ appended mid (term_lines found) → Counted t1 s → HasNumbers s → ((e : Term) → In e found → IsNarrow e) → Explored p after limit old new s
  explored s laws l w c n small =
      let k = (l.wrote).tally in
      let licensed = l.licensed p.limits found (ordered l) (all_terms l) in record {
        items = l.items;
        terms = found;
        written = w ∙ ap (λ o. appended o (term_lines found)) (l.wrote).bytes ∙ appended-appended old (item_lines l.items) (term_lines found);
        sound = l.sound;
        licensed = licensed;
        covered = l.covered;
        misses_no_more = misses_no_more p laws limit after (listing_of p l.items found) l.sound licensed l.covered;
        enumerates = all_paths p laws limit after (listing_of p l.items found) l.sound licensed l.covered;
        complete = nothing_left p laws limit after (listing_of p l.items found) l.sound licensed l.covered;
        few = (l.wrote).few;
        narrow = small;
        numbers = n;
        sums = record {
          paths = from_none s.paths t0.paths t1.paths _ c.paths k.paths (ap (λ (t : Tally). t.paths) zero);
          runs = from_none s.runs t0.runs t1.runs _ c.runs k.runs (ap (λ (t : Tally). t.runs) zero);
          counts = same_counts _ _ (c.terms ∙ sym (length-map (t1.terms).items seen_term))
              (from_none s.spent t0.spent t1.spent _ c.spent k.spent (ap (λ (t : Tally). t.spent) zero))
              (from_none s.steps t0.steps t1.steps _ c.steps k.steps (ap (λ (t : Tally). t.steps) zero))
              (from_none s.strays t0.strays t1.strays _ c.strays k.strays (ap (λ (t : Tally). t.strays) zero))
              (from_none s.unrun t0.unrun t1.unrun _ c.unrun k.unrun (ap (λ (t : Tally). t.unrun) zero));
          fault = c.fault ∙ k.fault ∙ ap (λ b. b || has_fault l.items) (ap (λ (t : Tally). t.fault) zero);
        };
      }

  pub explored_part : Whole → WritesPart mid new (term_lines found) → ExploredSome p after old new
  explored_part l w = record {
    items = l.items;
    terms = found;
    written = WritesPart-after old mid new (item_lines l.items) (term_lines found) (l.wrote).bytes w;
    sound = l.sound;
  }

  pub listed_part : Listed_part p after limit (out old f0 t0) (out mid f1 t1) → ExploredSome p after old mid
  listed_part l = record {
    items = l.items;
    terms = [];
    written = WritesPart-first old mid (item_lines l.items) (term_lines []) l.wrote;
    sound = l.sound;
  }
