-- What a walk sums up at its end.
use Rattle.std.proofs.Common.{◌≡◌, ℕ, zero, suc, ◌+◌, ◌*◌, Bool, true, false, inl, inr, List, [], ◌∷◌, length, map, Option, Some, slice_get, count_by, cond, refl, sym, ap, ◌∙◌, subst, arith}
use Rattle.std.proofs.lemmas.List.Recursion.{is_count_by}
use Rattle.cc_base.specs.declared.inputs.Test.{Test}
use Rattle.cc_base.specs.Paths.{In, Pairwise}
use Rattle.cc_model.specs.Listing.{Item, WasRun}
use Rattle.cc_model.specs.Report.{term_lines}
use Rattle.cc_model.specs.Tested.{Term}
use Rattle.cc_outside.specs.Told.{appended, WritesPart}
use Rattle.search_walks.specs.declared.log.Log.{Log}
use Rattle.search_walks.specs.declared.log.WalkSummary.{WalkSummary}
use Rattle.search_base.specs.declared.terms.FoundTerm.{FoundTerm}
use Rattle.search_walks.specs.Counted.{Took}
use Rattle.search_walks.specs.Distance.{entry}
use Rattle.search_walks.specs.Logged.{Logged, Finished, FinishedSome}
use Rattle.search_walks.specs.Output.{AreTaken, HasNumbers, decision_count}
use Rattle.search_base.specs.Readable.{IsNarrow}
use Rattle.search_base.specs.Setting.{Setting}
use Rattle.search_walks.specs.Deciding.{Takes}
use Rattle.search_base.specs.Terms.{seen_term}
use Rattle.search_walks.proofs.ItemLaws.{whole_part}

-- ---- the outcome of an entry

abbrev site_at : ℕ → ℕ
site_at zero = 0
site_at (suc zero) = 0
site_at (suc (suc a)) = suc (site_at a)

abbrev side_at : ℕ → Bool
side_at zero = false
side_at (suc zero) = true
side_at (suc (suc a)) = side_at a

entry_next : (n : ℕ) (side : Bool) → entry (suc n) side ≡ suc (suc (entry n side))
entry_next n false = omega arith
entry_next n true = omega arith

entry_at : (a : ℕ) → entry (site_at a) (side_at a) ≡ a
entry_at zero = refl
entry_at (suc zero) = refl
entry_at (suc (suc a)) = entry_next (site_at a) (side_at a) ∙ ap (λ n. suc (suc n)) (entry_at a)

abbrev outcome : ℕ → Bool → ℕ × Bool
outcome n side = (n, side)

entry_one : (n m : ℕ) (side other : Bool) → entry n side ≡ entry m other → ◌≡◌ {A = ℕ × Bool} (outcome n side) (outcome m other)
entry_one n m false false e = let f : n ≡ m = omega (arith, e) in ap (λ z. outcome z false) f
entry_one n m false true e = absurd (omega (arith, e))
entry_one n m true false e = absurd (omega (arith, e))
entry_one n m true true e = let f : n ≡ m = omega (arith, e) in ap (λ z. outcome z true) f

-- ---- the outcomes of the entries that are true, the first of which has the number a

abbrev places : ℕ → List Bool → List (ℕ × Bool)
places a [] = []
places a (true ∷ l) = outcome (site_at a) (side_at a) ∷ places (suc a) l
places a (false ∷ l) = places (suc a) l

place_to : (l : List Bool) (a n : ℕ) (side : Bool) → In (outcome n side) (places a l) → (k : ℕ) × (slice_get l k ≡ Some true) × (entry n side ≡ a + k)
place_to [] a n side i = absurd i
place_to (true ∷ l) a n side (inl e) = let f : entry n side ≡ entry (site_at a) (side_at a) = ap (λ (q : ℕ × Bool). entry q.0 q.1) e in let g = entry_at a in (0, refl, omega (arith, f, g))
place_to (true ∷ l) a n side (inr i) = let r = place_to l (suc a) n side i in let f = r.2 in (suc r.0, r.1, omega (arith, f))
place_to (false ∷ l) a n side i = let r = place_to l (suc a) n side i in let f = r.2 in (suc r.0, r.1, omega (arith, f))

place_back : (l : List Bool) (a k n : ℕ) (side : Bool) → slice_get l k ≡ Some true → entry n side ≡ a + k → In (outcome n side) (places a l)
place_back [] a k n side e f = absurd (cc e)
place_back (true ∷ l) a zero n side e f = let g = entry_at a in inl (entry_one n (site_at a) side (side_at a) (omega (arith, f, g)))
place_back (false ∷ l) a zero n side e f = absurd (cc e)
place_back (true ∷ l) a (suc k) n side e f = inr (place_back l (suc a) k n side e (omega (arith, f)))
place_back (false ∷ l) a (suc k) n side e f = place_back l (suc a) k n side e (omega (arith, f))

places_once : (l : List Bool) (a : ℕ) → Pairwise (λ x y. x ≡ y → ⊥) (places a l)
places_once [] a = tt
places_once (true ∷ l) a = (later, places_once l (suc a))
  where
    later : (y : ℕ × Bool) → In y (places (suc a) l) → ◌≡◌ {A = ℕ × Bool} (outcome (site_at a) (side_at a)) y → ⊥
    later (n, side) i e = let r = place_to l (suc a) n side i in let f = r.2 in let g : entry (site_at a) (side_at a) ≡ entry n side = ap (λ (q : ℕ × Bool). entry q.0 q.1) e in let h = entry_at a in omega (arith, f, g, h)
places_once (false ∷ l) a = places_once l (suc a)

abbrev trues : List Bool → ℕ
trues [] = 0
trues (true ∷ l) = suc (trues l)
trues (false ∷ l) = trues l

trues_count : (l : List Bool) → trues l ≡ count_by (λ b. b) l
trues_count l = is_count_by trues (λ b. b) refl step l
  where
    step : (b : Bool) (m : List Bool) → trues (b ∷ m) ≡ cond b (1 + trues m) (trues m)
    step true m = omega arith
    step false m = refl

places_long : (l : List Bool) (a : ℕ) → length (places a l) ≡ trues l
places_long [] a = refl
places_long (true ∷ l) a = ap suc (places_long l (suc a))
places_long (false ∷ l) a = places_long l (suc a)

-- ---- the whole

module _ (s : Setting) (items : List Item) (log : Log) (h : Logged s items log) where
  all_taken : AreTaken s items (places 0 (log.covered).items)
  all_taken = record { once = places_once (log.covered).items 0; all = λ n side. (to n side, back n side) }
    where
      zero_more : (a b : ℕ) → a ≡ 0 + b → b ≡ a
      zero_more a b e = omega (arith, e)

      more_zero : (a : ℕ) → a ≡ 0 + a
      more_zero a = omega arith

      same_takes : (t : Test) (n : ℕ) (side : Bool) → Took s t.input (entry n side) → Takes s t.input n side
      same_takes t n side k = subst (λ (q : ℕ × Bool). Takes s t.input q.0 q.1) (sym (entry_one n k.site side k.side k.number)) k.takes

      to : (n : ℕ) (side : Bool) → In (outcome n side) (places 0 (log.covered).items) → (t : Test) × WasRun t items × Takes s t.input n side
      to n side i =
          let r = place_to (log.covered).items 0 n side i in
          let f = (h.covered (entry n side)).0 (subst (λ z. slice_get (log.covered).items z ≡ Some true) (zero_more (entry n side) r.0 r.2) r.1) in
          (f.0, f.1, same_takes f.0 n side f.2)

      back : (n : ℕ) (side : Bool) → (t : Test) × WasRun t items × Takes s t.input n side → In (outcome n side) (places 0 (log.covered).items)
      back n side (t, w, k) = place_back (log.covered).items 0 (entry n side) n side ((h.covered (entry n side)).1 (t, w, record { site = n; side = side; number = refl; takes = k })) (more_zero (entry n side))

  pub finished : (old new : Option (List ℕ)) (w : WalkSummary) (l : List FoundTerm) (marks : List Bool) → l ≡ (log.terms).items → new ≡ appended old (term_lines (map seen_term l)) → w.runs ≡ log.made → marks ≡ (log.covered).items → w.covered ≡ count_by (λ b. b) marks →
      w.outcomes ≡ 2 * decision_count s.checked.sites → w.fault ≡ log.fault → ((e : Term) → In e (map seen_term (log.terms).items) → IsNarrow e) → HasNumbers w → Finished s items old new w
  finished old new w l marks e written runs f covered outcomes fault narrow numbers = record {
    terms = map seen_term (log.terms).items;
    written = written ∙ ap (λ m. appended old (term_lines (map seen_term m))) e;
    are_terms = record { ascend = h.order; all = h.terms };
    sums = record {
      runs = runs ∙ h.made;
      taken = places 0 (log.covered).items;
      are_taken = all_taken;
      covered = covered ∙ ap (λ m. count_by (λ b. b) m) f ∙ sym (trues_count (log.covered).items) ∙ sym (places_long (log.covered).items 0);
      outcomes = outcomes;
      fault = fault ∙ h.fault;
    };
    narrow = narrow;
    numbers = numbers;
  }

pub finished_some : (old new : Option (List ℕ)) (terms : List FoundTerm) → WritesPart old new (term_lines (map seen_term terms)) → FinishedSome old new
finished_some old new terms w = record { terms = map seen_term terms; written = w }

pub finished_terms : (old new : Option (List ℕ)) (terms : List FoundTerm) → new ≡ appended old (term_lines (map seen_term terms)) → FinishedSome old new
finished_terms old new terms e = finished_some old new terms (whole_part old new (term_lines (map seen_term terms)) e)
