-- The terms that are found.
use Rattle.std.proofs.Common.{◌≡◌, ℕ, ◌+◌, ◌⊎◌, ◌↔◌, ◌||◌, Bool, true, false, inl, inr, [], ◌∷◌, map, refl, ap, ◌∙◌, subst, arith}
use Rattle.cc_base.specs.declared.inputs.Test.{Test}
use Rattle.cc_base.specs.Paths.{In, Path}
use Rattle.cc_base.specs.declared.inputs.Input.{Input}
use Rattle.cc_model.specs.Listing.{Item, test_item, past_item, stray_item, spent_item, unrun_item, WasRun, at_steps}
use Rattle.cc_model.specs.Report.{is_fault}
use Rattle.cc_model.specs.Tested.{Term}
use Rattle.sym_run.specs.declared.trace.Trace.{Trace}
use Rattle.search_base.specs.Setting.{Setting, layer_of}
use Rattle.search_base.specs.Terms.{found_at, seen_term, InOrder}
use Rattle.search_dfs.specs.declared.tally.Tally.{Tally}
use Rattle.search_dfs.specs.Output.{Tallied}
use Rattle.search_dfs.specs.Setting.{TraceOf}

-- ---- the counts of one item

or_nothing : (a : Bool) → a ≡ a || false
or_nothing true = refl
or_nothing false = refl

module _ (p : Setting) (t : Test) (old new : Tally) (all : (x : Term) → In x (map seen_term (new.terms).items) ↔ (In x (map seen_term (old.terms).items) ⊎ In x ((layer_of p).terms t.input))) (order : InOrder (old.terms).items → InOrder (new.terms).items) where
  abbrev Only : Item → Type 0
  Only y = (u : Test) → WasRun u (y ∷ []) → u ≡ t

  terms_of : (y : Item) → WasRun t (y ∷ []) → Only y → (x : Term) → In x (map seen_term (new.terms).items) ↔ (In x (map seen_term (old.terms).items) ⊎ ((u : Test) × WasRun u (y ∷ []) × In x ((layer_of p).terms u.input)))
  terms_of y was only x = (
    (λ i. elim ((all x).0 i) [ inl j ↦ inl j | inr j ↦ inr (t, was, j) ]),
    (λ i. elim i [ inl j ↦ (all x).1 (inl j) | inr j ↦ (all x).1 (inr (subst (λ u. In x ((layer_of p).terms (u.input))) (only j.0 j.1) j.2)) ]),
  )

  only_test : Only (test_item t)
  only_test u (inl (inl (inl e))) = cc e
  only_test u (inl (inl (inr i))) = absurd i
  only_test u (inl (inr (inl e))) = absurd (cc e)
  only_test u (inl (inr (inr i))) = absurd i
  only_test u (inr (q, inl e)) = absurd (cc e)
  only_test u (inr (q, inr i)) = absurd i

  only_past : Only (past_item t)
  only_past u (inl (inl (inl e))) = absurd (cc e)
  only_past u (inl (inl (inr i))) = absurd i
  only_past u (inl (inr (inl e))) = cc e
  only_past u (inl (inr (inr i))) = absurd i
  only_past u (inr (q, inl e)) = absurd (cc e)
  only_past u (inr (q, inr i)) = absurd i

  only_stray : (q : Path) → Only (stray_item t q)
  only_stray q u (inl (inl (inl e))) = absurd (cc e)
  only_stray q u (inl (inl (inr i))) = absurd i
  only_stray q u (inl (inr (inl e))) = absurd (cc e)
  only_stray q u (inl (inr (inr i))) = absurd i
  only_stray q u (inr (r, inl e)) = cc e
  only_stray q u (inr (r, inr i)) = absurd i

  pub test_counted : new.paths ≡ old.paths + 1 → new.runs ≡ old.runs + 1 → new.spent ≡ old.spent → new.steps ≡ old.steps + at_steps t.end → new.strays ≡ old.strays → new.unrun ≡ old.unrun
      → new.fault ≡ old.fault || is_fault t.end → Tallied p (test_item t ∷ []) old new
  test_counted a b c d e f g = record {
    paths = omega (arith, a);
    runs = omega (arith, b);
    spent = omega (arith, c);
    steps = omega (arith, d);
    strays = omega (arith, e);
    unrun = omega (arith, f);
    fault = g ∙ ap (λ z. old.fault || z) (or_nothing (is_fault t.end));
    terms = terms_of (test_item t) (inl (inl (inl refl))) only_test;
    order = order;
  }

  pub past_counted : new.paths ≡ old.paths → new.runs ≡ old.runs + 1 → new.spent ≡ old.spent → new.steps ≡ old.steps → new.strays ≡ old.strays → new.unrun ≡ old.unrun
      → new.fault ≡ old.fault → Tallied p (past_item t ∷ []) old new
  past_counted a b c d e f g = record {
    paths = omega (arith, a);
    runs = omega (arith, b);
    spent = omega (arith, c);
    steps = omega (arith, d);
    strays = omega (arith, e);
    unrun = omega (arith, f);
    fault = g ∙ or_nothing old.fault;
    terms = terms_of (past_item t) (inl (inr (inl refl))) only_past;
    order = order;
  }

  pub stray_counted : (q : Path) → new.paths ≡ old.paths → new.runs ≡ old.runs + 1 → new.spent ≡ old.spent → new.steps ≡ old.steps → new.strays ≡ old.strays + 1 → new.unrun ≡ old.unrun
      → new.fault ≡ old.fault || is_fault t.end → Tallied p (stray_item t q ∷ []) old new
  stray_counted q a b c d e f g = record {
    paths = omega (arith, a);
    runs = omega (arith, b);
    spent = omega (arith, c);
    steps = omega (arith, d);
    strays = omega (arith, e);
    unrun = omega (arith, f);
    fault = g ∙ ap (λ z. old.fault || z) (or_nothing (is_fault t.end));
    terms = terms_of (stray_item t q) (inr (q, inl refl)) (only_stray q);
    order = order;
  }

-- no run was listed
module _ (p : Setting) (old : Tally) where
  pub spent_counted : (q : Path) → Tallied p (spent_item q ∷ []) old (record old { spent = old.spent + 1 })
  spent_counted q = record {
    paths = omega arith;
    runs = omega arith;
    spent = omega arith;
    steps = omega arith;
    strays = omega arith;
    unrun = omega arith;
    fault = or_nothing old.fault;
    terms = λ x. ((λ i. inl i), (λ i. elim i [ inl j ↦ j | inr j ↦ absurd (none j.0 j.1) ]));
    order = λ h. h;
  }
    where
      none : (u : Test) → WasRun u (spent_item q ∷ []) → ⊥
      none u (inl (inl (inl e))) = cc e
      none u (inl (inl (inr i))) = i
      none u (inl (inr (inl e))) = cc e
      none u (inl (inr (inr i))) = i
      none u (inr (r, inl e)) = cc e
      none u (inr (r, inr i)) = i

  pub unrun_counted : (h : Input) (q : Path) → Tallied p (unrun_item h q ∷ []) old (record old { unrun = old.unrun + 1 })
  unrun_counted h q = record {
    paths = omega arith;
    runs = omega arith;
    spent = omega arith;
    steps = omega arith;
    strays = omega arith;
    unrun = omega arith;
    fault = or_nothing old.fault;
    terms = λ x. ((λ i. inl i), (λ i. elim i [ inl j ↦ j | inr j ↦ absurd (none j.0 j.1) ]));
    order = λ h. h;
  }
    where
      none : (u : Test) → WasRun u (unrun_item h q ∷ []) → ⊥
      none u (inl (inl (inl e))) = cc e
      none u (inl (inl (inr i))) = i
      none u (inl (inr (inl e))) = cc e
      none u (inl (inr (inr i))) = i
      none u (inr (r, inl e)) = cc e
      none u (inr (r, inr i)) = i

-- the terms of a run are those of its trace
pub run_terms : (s : Setting) (n : ℕ) (t : Trace) (q : Path) → TraceOf s n t q → map (found_at s.checked) t.terms ≡ (layer_of s).terms t.input
unfolding layer_of
run_terms s n t q tr = (tr.trace).terms
