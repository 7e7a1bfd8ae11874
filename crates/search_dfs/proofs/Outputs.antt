-- What several items write and count.
use Rattle.std.proofs.Common.{◌≡◌, ℕ, ◌+◌, ◌⊎◌, ◌↔◌, ◌||◌, Bool, true, false, inl, inr, List, [], ◌∷◌, ◌++◌, Option, None, Some, refl, sym, ap, ◌∙◌, subst, arith, append_assoc}
use Rattle.cc_base.specs.declared.inputs.Test.{Test}
use Rattle.cc_base.specs.Paths.{In}
use Rattle.cc_model.specs.Tested.{Term}
use Rattle.cc_model.specs.Listing.{Item, test_item, past_item, stray_item, spent_item, unrun_item, WasRun, count_by}
use Rattle.cc_model.specs.Report.{item_line, item_lines, is_fault, has_fault}
use Rattle.cc_outside.specs.Told.{appended}
use Rattle.search_base.specs.Setting.{Setting, layer_of}
use Rattle.search_dfs.specs.Output.{Items, Out, Wrote, WroteSome}
use Rattle.search_base.proofs.PathLaws.{in_left, in_right, in_either, append_nil}

appended_more : (old : Option (List ℕ)) (a b : List ℕ) → appended (appended old a) b ≡ appended old (a ++ b)
appended_more None a b = refl
appended_more (Some bytes) a b = ap (λ w. Some w) (append_assoc bytes a b)

appended_none : (old : Option (List ℕ)) → old ≡ appended old []
appended_none None = refl
appended_none (Some bytes) = ap (λ w. Some w) (sym (append_nil bytes))

lines_append : (e f : Items) → item_lines (e ++ f) ≡ item_lines e ++ item_lines f
lines_append [] f = refl
lines_append (x ∷ e) f = ap (λ m. item_line x ++ m) (lines_append e f) ∙ sym (append_assoc (item_line x) (item_lines e) (item_lines f))

count_append : (g : Item → ℕ) (e f : Items) → count_by g (e ++ f) ≡ count_by g e + count_by g f
count_append g [] f = omega arith
count_append g (x ∷ e) f = let r = count_append g e f in omega (arith, r)

or_assoc : (a b c : Bool) → (a || b) || c ≡ a || (b || c)
or_assoc true b c = refl
or_assoc false b c = refl

or_false : (a : Bool) → a ≡ a || false
or_false true = refl
or_false false = refl

fault_append : (e f : Items) → has_fault (e ++ f) ≡ has_fault e || has_fault f
fault_append [] f = refl
fault_append (test_item t ∷ e) f = ap (λ b. is_fault t.end || b) (fault_append e f) ∙ sym (or_assoc (is_fault t.end) (has_fault e) (has_fault f))
fault_append (past_item t ∷ e) f = fault_append e f
fault_append (stray_item t p ∷ e) f = ap (λ b. is_fault t.end || b) (fault_append e f) ∙ sym (or_assoc (is_fault t.end) (has_fault e) (has_fault f))
fault_append (spent_item p ∷ e) f = fault_append e f
fault_append (unrun_item i p ∷ e) f = fault_append e f

ran_left : (t : Test) (e f : Items) → WasRun t e → WasRun t (e ++ f)
ran_left t e f (inl (inl i)) = inl (inl (in_left _ e f i))
ran_left t e f (inl (inr i)) = inl (inr (in_left _ e f i))
ran_left t e f (inr (q, i)) = inr (q, in_left _ e f i)

ran_right : (t : Test) (e f : Items) → WasRun t f → WasRun t (e ++ f)
ran_right t e f (inl (inl i)) = inl (inl (in_right _ e f i))
ran_right t e f (inl (inr i)) = inl (inr (in_right _ e f i))
ran_right t e f (inr (q, i)) = inr (q, in_right _ e f i)

ran_either : (t : Test) (e f : Items) → WasRun t (e ++ f) → WasRun t e ⊎ WasRun t f
ran_either t e f (inl (inl i)) = elim (in_either _ e f i) [ inl j ↦ inl (inl (inl j)) | inr j ↦ inr (inl (inl j)) ]
ran_either t e f (inl (inr i)) = elim (in_either _ e f i) [ inl j ↦ inl (inl (inr j)) | inr j ↦ inr (inl (inr j)) ]
ran_either t e f (inr (q, i)) = elim (in_either _ e f i) [ inl j ↦ inl (inr (q, j)) | inr j ↦ inr (inr (q, j)) ]

no_run : (t : Test) → WasRun t [] → ⊥
no_run t (inl (inl i)) = i
no_run t (inl (inr i)) = i
no_run t (inr (q, i)) = i

added : (g : Item → ℕ) (e f : Items) (a b c : ℕ) → b ≡ a + count_by g e → c ≡ b + count_by g f → c ≡ a + count_by g (e ++ f)
added g e f a b c h k = let r = count_append g e f in omega (arith, r, h, k)

module _ (p : Setting) where
  pub wrote_none : (old now : Out) → now ≡ old → Wrote p [] old now
  wrote_none old now e = subst (Wrote p [] old) (sym e) (record {
    bytes = appended_none old.bytes;
    faults = omega arith;
    tally = record {
      paths = omega arith;
      runs = omega arith;
      spent = omega arith;
      steps = omega arith;
      strays = omega arith;
      unrun = omega arith;
      fault = or_false (old.tally).fault;
      terms = λ x. ((λ i. inl i), (λ i. elim i [ inl j ↦ j | inr j ↦ absurd (no_run j.0 j.1) ]));
      order = λ h. h;
    };
    few = λ x i. absurd i;
  })

  pub some_none : (old now : Out) → now ≡ old → WroteSome p [] old now
  some_none old now e = record { part = []; first = ([], refl); written = ap (λ (o : Out). o.bytes) e ∙ appended_none old.bytes }

  -- the terms of both
  abbrev Found : Items → Term → Type 0
  Found e x = (t : Test) × WasRun t e × In x ((layer_of p).terms t.input)

  found_either : (e f : Items) (x : Term) → Found (e ++ f) x → Found e x ⊎ Found f x
  found_either e f x (t, w, i) = elim (ran_either t e f w) [ inl v ↦ inl (t, v, i) | inr v ↦ inr (t, v, i) ]

  both_terms : (A B C : Type 0) (e f : Items) (x : Term) → B ↔ (A ⊎ Found e x) → C ↔ (B ⊎ Found f x) → C ↔ (A ⊎ Found (e ++ f) x)
  both_terms A B C e f x h k = (to, back)
    where
      found : Found (e ++ f) x → C
      found w = elim (found_either e f x w) [ inl v ↦ k.1 (inl (h.1 (inr v))) | inr v ↦ k.1 (inr v) ]

      first : A ⊎ Found e x → A ⊎ Found (e ++ f) x
      first (inl a) = inl a
      first (inr (t, v, i)) = inr (t, ran_left t e f v, i)

      either : B ⊎ Found f x → A ⊎ Found (e ++ f) x
      either (inl b) = first (h.0 b)
      either (inr (t, v, i)) = inr (t, ran_right t e f v, i)

      to : C → A ⊎ Found (e ++ f) x
      to c = either (k.0 c)

      back : A ⊎ Found (e ++ f) x → C
      back (inl a) = k.1 (inl (h.1 (inl a)))
      back (inr w) = found w

  pub wrote_more : (e f : Items) (was mid now : Out) → Wrote p e was mid → Wrote p f mid now → Wrote p (e ++ f) was now
  wrote_more e f was mid now h k = record {
    bytes = k.bytes ∙ ap (λ b. appended b (item_lines f)) h.bytes ∙ appended_more was.bytes (item_lines e) (item_lines f) ∙ ap (appended was.bytes) (sym (lines_append e f));
    faults = let a = h.faults in let b = k.faults in omega (arith, a, b);
    tally = let a = h.tally in let b = k.tally in record {
      paths = added _ e f _ _ _ a.paths b.paths;
      runs = added _ e f _ _ _ a.runs b.runs;
      spent = added _ e f _ _ _ a.spent b.spent;
      steps = added _ e f _ _ _ a.steps b.steps;
      strays = added _ e f _ _ _ a.strays b.strays;
      unrun = added _ e f _ _ _ a.unrun b.unrun;
      fault = b.fault ∙ ap (λ c. c || has_fault f) a.fault ∙ or_assoc (was.tally).fault (has_fault e) (has_fault f) ∙ ap (λ c. (was.tally).fault || c) (sym (fault_append e f));
      terms = λ x. both_terms _ _ _ e f x (a.terms x) (b.terms x);
      order = λ o. b.order (a.order o);
    };
    few = λ x i. elim (in_either x e f i) [ inl j ↦ h.few x j | inr j ↦ k.few x j ];
  }

  pub some_more : (e f : Items) (was mid now : Out) → Wrote p e was mid → WroteSome p f mid now → WroteSome p (e ++ f) was now
  some_more e f was mid now h k = record {
    part = item_lines e ++ k.part;
    first = let r = k.first in (r.0, lines_append e f ∙ ap (λ l. item_lines e ++ l) r.1 ∙ sym (append_assoc (item_lines e) k.part r.0));
    written = k.written ∙ ap (λ b. appended b k.part) h.bytes ∙ appended_more was.bytes (item_lines e) k.part;
  }
