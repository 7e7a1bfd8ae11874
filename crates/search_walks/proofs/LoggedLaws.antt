-- What a log holds, item by item.
use Rattle.std.proofs.Common.{◌≡◌, ℕ, Bool, true, false, ◌<◌, ◌||◌, inl, inr, List, [], ◌∷◌, ◌++◌, length, map, Option, All, append-nil, append_assoc, refl, sym, ap, ◌∙◌, subst, arith}
use Rattle.cc_base.specs.declared.inputs.Input.{Input}
use Rattle.cc_base.specs.declared.inputs.Test.{Test}
use Rattle.cc_base.specs.Limits.{InRange}
use Rattle.cc_base.specs.Outcomes.{HasByte}
use Rattle.cc_base.specs.Paths.{Path, In}
use Rattle.cc_model.specs.CheckedProgram.{core_of}
use Rattle.cc_model.specs.Listing.{Item, spent_item, WasRun, is_run}
use Rattle.cc_model.specs.Report.{item_line, item_lines, term_lines, is_fault, has_fault}
use Rattle.cc_model.specs.Runs.{params_of}
use Rattle.cc_model.specs.Tested.{Real}
use Rattle.cc_outside.specs.Told.{appended, WritesPart}
use Rattle.cc_outside.proofs.ToldLemmas.{appended-appended, WritesPart-none, WritesPart-first, WritesPart-after}
use Rattle.input_map.proofs.BaseInputs.{base_is_input}
use Rattle.search_walks.specs.declared.log.Log.{Log}
use Rattle.search_walks.specs.declared.log.Tried.{Tried}
use Rattle.search_walks.specs.declared.log.WalkSummary.{WalkSummary}
use Rattle.search_walks.specs.declared.runs.Made.{Made}
use Rattle.search_walks.specs.Counted.{Nothing, Counted, Took}
use Rattle.search_walks.specs.Logged.{Logged, Finished, FinishedSome, Walked, WalkedSome, Along}
use Rattle.search_base.specs.Readable.{CanBeRead}
use Rattle.search_base.specs.Setting.{within_of, Setting, layer_of, base_of}
use Rattle.search_walks.specs.Output.{Begins, WalkedWhole, WalkedPart}
use Rattle.search_walks.specs.Steps.{Followed, nothing_came, one_came, Started, TriedSome, nothing_yet, some_of_spent, some_of_run, base_item}
use Rattle.search_base.specs.Terms.{seen_term, InOrder}
use Rattle.search_walks.specs.Walks.{Candidate, Gives, IsItemOf, IsSpent, prediction, test_of}
use Rattle.search_walks.proofs.ItemLaws.{lines_more, part_more, whole_part, count_append, or_false, fault_append, ran_left, ran_right, ran_either, no_run, spent_no_run, IsOfRun, test_run, item_run, real_more, few_more, took_below}

module _ (s : Setting) where
  logged_none : (l : Log) → Nothing (length s.checked.sites) l → Logged s [] l
  logged_none l n = record {
    made = n.made;
    fault = n.fault;
    terms = λ x. ((λ i. absurd (subst (λ q. In x (map seen_term q)) n.terms i)), (λ w. absurd (no_run w.0 w.1)));
    order = subst InOrder (sym n.terms) tt;
    size = n.size;
    covered = λ a. ((λ e. absurd (n.covered a e)), (λ w. absurd (no_run w.0 w.1)));
    real = λ t w. absurd (no_run t w);
    few = λ x i. absurd i;
  }

  -- one more run
  module _ (items : List Item) (x : Item) (i : Input) (l m : Log) (b : Bool) (r : IsOfRun x (test_of s i)) (can : CanBeRead x) (w : within_of s i) (h : Logged s items l) (c : Counted s i (((layer_of s).runs).end i) l m b) where
    logged_more : Logged s (items ++ x ∷ []) m
    logged_more = record {
      made = let e = c.made in let f = h.made in let k = count_append is_run items (x ∷ []) in let o = r.one in omega (arith, e, f, k, o);
      fault = c.fault ∙ ap (λ v. v || is_fault (((layer_of s).runs).end i)) h.fault ∙ ap (λ v. has_fault items || v) (sym r.fault) ∙ sym (fault_append items (x ∷ []));
      terms = λ y. (
        (λ j. elim ((c.terms y).0 j) [
          | inl k ↦ let f = (h.terms y).0 k in (f.0, ran_left f.0 items (x ∷ []) f.1, f.2)
          | inr k ↦ (test_of s i, ran_right (test_of s i) items (x ∷ []) r.ran, k)
        ]),
        (λ f. elim (ran_either f.0 items (x ∷ []) f.1) [
          | inl v ↦ (c.terms y).1 (inl ((h.terms y).1 (f.0, v, f.2)))
          | inr v ↦ (c.terms y).1 (inr (subst (λ u. In y ((layer_of s).terms u.input)) (r.only f.0 v) f.2))
        ]),
      );
      order = c.order h.order;
      size = (c.covered).size ∙ h.size;
      covered = λ a. (
        (λ j. elim (((c.covered).each a).0 j) [
          | inl k ↦ let f = (h.covered a).0 k in (f.0, ran_left f.0 items (x ∷ []) f.1, f.2)
          | inr k ↦ (test_of s i, ran_right (test_of s i) items (x ∷ []) r.ran, k.0)
        ]),
        (λ f. elim (ran_either f.0 items (x ∷ []) f.1) [
          | inl v ↦ ((c.covered).each a).1 (inl ((h.covered a).1 (f.0, v, f.2)))
          | inr v ↦ let k = subst (λ u. Took s u.input a) (r.only f.0 v) f.2 in ((c.covered).each a).1 (inr (k, subst (λ z. a < z) (sym h.size) (took_below s i a k)))
        ]),
      );
      real = real_more s items x i r w h.real;
      few = few_more items x h.few can;
    }

  pub logged_first : (old new : Option (List ℕ)) (l m : Log) (r : Made) → Nothing (length s.checked.sites) l → Started s old new l m r → Logged s (base_item s ∷ []) m
  logged_first old new l m r n k = logged_more [] (base_item s) (base_of s) l m k.is_new (test_run (test_of s (base_of s))) k.few (subst (within_of s) k.input (k.run).within) (logged_none l n) k.counted

  pub logged_run : (items : List Item) (i : Input) (p : Path) (old new : Option (List ℕ)) (l m : Log) (t : Tried) → Logged s items l → (f : Followed s i p old new l m t) → Logged s (items ++ f.item ∷ []) m
  logged_run items i p old new l m t h f = logged_more items f.item i l m t.is_new (item_run s i p f.item f.is_item) f.few (subst (within_of s) f.input (f.run).within) h f.counted

  spent_real : (items : List Item) (p : Path) → ((t : Test) → WasRun t items → Real ((layer_of s).runs) t) → (t : Test) → WasRun t (items ++ spent_item p ∷ []) → Real ((layer_of s).runs) t
  spent_real items p h t k = elim (ran_either t items (spent_item p ∷ []) k) [ inl v ↦ h t v | inr v ↦ absurd (spent_no_run t p v) ]

  pub logged_spent : (items : List Item) (p : Path) (l : Log) → All HasByte p → Logged s items l → Logged s (items ++ spent_item p ∷ []) l
  logged_spent items p l b h = record {
    made = let f = h.made in let k = count_append is_run items (spent_item p ∷ []) in omega (arith, f, k);
    fault = h.fault ∙ or_false (has_fault items) ∙ sym (fault_append items (spent_item p ∷ []));
    terms = λ y. (
      (λ j. let f = (h.terms y).0 j in (f.0, ran_left f.0 items (spent_item p ∷ []) f.1, f.2)),
      (λ f. elim (ran_either f.0 items (spent_item p ∷ []) f.1) [ inl v ↦ (h.terms y).1 (f.0, v, f.2) | inr v ↦ absurd (spent_no_run f.0 p v) ]),
    );
    order = h.order;
    size = h.size;
    covered = λ a. (
      (λ j. let f = (h.covered a).0 j in (f.0, ran_left f.0 items (spent_item p ∷ []) f.1, f.2)),
      (λ f. elim (ran_either f.0 items (spent_item p ∷ []) f.1) [ inl v ↦ (h.covered a).1 (f.0, v, f.2) | inr v ↦ absurd (spent_no_run f.0 p v) ]),
    );
    real = spent_real items p h.real;
    few = few_more items (spent_item p) h.few b;
  }

  base_within : InRange s.limits → within_of s (base_of s)
  unfolding layer_of
  base_within range = base_is_input s.limits range.numbers (core_of s.checked).layouts (params_of (core_of s.checked))

  -- the base input's run is real
  pub real_base : InRange s.limits → (t : Test) → WasRun t (base_item s ∷ []) → Real ((layer_of s).runs) t
  real_base range = real_more s [] (base_item s) (base_of s) (test_run (test_of s (base_of s))) (base_within range) (λ t w. absurd (no_run t w))

  -- ---- along a walk; From is the walk from its start, Here and There are what may still come before and after a step
  pub along_first : (From : Bool → List Item → Type 0) (old new : Option (List ℕ)) (l m : Log) (r : Made) → Nothing (length s.checked.sites) l → Started s old new l m r → Along s From From old new m
  along_first From old new l m r n k = record {
    items = base_item s ∷ [];
    written = k.written ∙ ap (appended old) (sym (append-nil (item_line (base_item s))));
    logged = logged_first old new l m r n k;
    on = λ cuts rest h. (rest, refl, h);
  }

  module _ (From Here There : Bool → List Item → Type 0) (old : Option (List ℕ)) where
    pub along_none : (new : Option (List ℕ)) (l : Log) → Along s From Here old new l → ((cuts : Bool) (rest : List Item) → There cuts rest → Here cuts rest) → Along s From There old new l
    along_none new l a f = record { items = a.items; written = a.written; logged = a.logged; on = λ cuts rest h. a.on cuts rest (f cuts rest h) }

    pub along_spent : (mid new : Option (List ℕ)) (l : Log) (p : Path) → All HasByte p → Along s From Here old mid l → new ≡ appended mid (item_line (spent_item p)) →
        ((cuts : Bool) (rest : List Item) → There cuts rest → Here cuts (spent_item p ∷ rest)) → Along s From There old new l
    along_spent mid new l p b a w f = record {
      items = a.items ++ spent_item p ∷ [];
      written = lines_more old mid new a.items (spent_item p) a.written w;
      logged = logged_spent a.items p l b a.logged;
      on = λ cuts rest h. subst (Begins s (From cuts)) (sym (append_assoc a.items (spent_item p ∷ []) rest)) (a.on cuts (spent_item p ∷ rest) (f cuts rest h));
    }

    pub along_run : (i : Input) (p : Path) (mid new : Option (List ℕ)) (l m : Log) (t : Tried) → Along s From Here old mid l → (f : Followed s i p mid new l m t) →
        ((cuts : Bool) (rest : List Item) → There cuts rest → Here cuts (f.item ∷ rest)) → Along s From There old new m
    along_run i p mid new l m t a k f = record {
      items = a.items ++ k.item ∷ [];
      written = lines_more old mid new a.items k.item a.written k.written;
      logged = logged_run a.items i p mid new l m t a.logged k;
      on = λ cuts rest h. subst (Begins s (From cuts)) (sym (append_assoc a.items (k.item ∷ []) rest)) (a.on cuts (k.item ∷ rest) (f cuts rest h));
    }

  module _ (From Here : Bool → List Item → Type 0) (old : Option (List ℕ)) where
    -- the walk ends here
    pub along_end : (new : Option (List ℕ)) (l : Log) → Along s From Here old new l → ((cuts : Bool) → Here cuts []) → (cuts : Bool) → Walked s (From cuts) old new l
    along_end new l a h cuts = record {
      items = a.items;
      written = a.written;
      walked = subst (Begins s (From cuts)) (append-nil a.items) (a.on cuts [] (h cuts));
      logged = a.logged;
    }

    -- the walk is cut off here
    pub along_cut : (mid new : Option (List ℕ)) (l : Log) → Along s From Here old mid l → new ≡ mid → Here true [] → WalkedSome s (From true) old new
    along_cut mid new l a e h = record {
      items = a.items;
      written = whole_part old new (item_lines a.items) (e ∙ a.written);
      walked = subst (Begins s (From true)) (append-nil a.items) (a.on true [] h);
      real = (a.logged).real;
    }

    -- the walk is cut off in what comes of a candidate
    pub along_some : (u : Input) (c : Candidate) (mid new : Option (List ℕ)) (l : Log) → Along s From Here old mid l → TriedSome s u c mid new → Here true [] →
        (IsSpent s u (prediction s u c) → Here true (spent_item (prediction s u c) ∷ [])) →
        ((i : Input) (x : Item) → Gives s u (prediction s u c) i → IsItemOf s i (prediction s u c) x → Here true (x ∷ [])) → WalkedSome s (From true) old new
    along_some u c mid new l a (nothing_yet e) h hs hr = along_cut mid new l a e h
    along_some u c mid new l a (some_of_spent k w) h hs hr = record {
      items = a.items ++ spent_item (prediction s u c) ∷ [];
      written = part_more old mid new a.items (spent_item (prediction s u c)) a.written w;
      walked = a.on true (spent_item (prediction s u c) ∷ []) (hs k);
      real = spent_real a.items (prediction s u c) (a.logged).real;
    }
    along_some u c mid new l a (some_of_run i g (nothing_came e)) h hs hr = along_cut mid new l a e h
    along_some u c mid new l a (some_of_run i g (one_came x k w)) h hs hr = record {
      items = a.items ++ x ∷ [];
      written = part_more old mid new a.items x a.written w;
      walked = a.on true (x ∷ []) (hr i x g k);
      real = real_more s a.items x i (item_run s i (prediction s u c) x k) g.within (a.logged).real;
    }

  -- ---- a walk as a whole; W is the walk, which may be cut off or not
  module _ (W : Bool → List Item → Type 0) (old : Option (List ℕ)) where
    -- the base run was not listed whole
    pub cut_at_first : InRange s.limits → (new : Option (List ℕ)) → WritesPart old new (item_line (base_item s)) → W true [] → WalkedSome s (W true) old new
    cut_at_first range new w h = record {
      items = base_item s ∷ [];
      written = subst (WritesPart old new) (sym (append-nil (item_line (base_item s)))) w;
      walked = ([], refl, h);
      real = real_base range;
    }

    pub whole : (mid new : Option (List ℕ)) (l : Log) (w : WalkSummary) → ((cuts : Bool) → Walked s (W cuts) old mid l) → ((items : List Item) → Logged s items l → Finished s items mid new w) → WalkedWhole s (W false) old new w
    whole mid new l w hw hf = let k = hw false in let f = hf k.items k.logged in record {
      items = k.items;
      terms = f.terms;
      written = f.written ∙ ap (λ o. appended o (term_lines f.terms)) k.written ∙ appended-appended old (item_lines k.items) (term_lines f.terms);
      walked = k.walked;
      real = (k.logged).real;
      are_terms = f.are_terms;
      sums = f.sums;
      few = (k.logged).few;
      narrow = f.narrow;
      numbers = f.numbers;
    }

    -- cut off in the walk, in its terms, and before it
    pub part_of_walk : (new : Option (List ℕ)) → WalkedSome s (W true) old new → WalkedPart s (W true) old new
    part_of_walk new k = record {
      items = k.items;
      terms = [];
      written = WritesPart-first old new (item_lines k.items) [] k.written;
      walked = k.walked;
      real = k.real;
    }

    pub part_of_terms : (mid new : Option (List ℕ)) (l : Log) → ((cuts : Bool) → Walked s (W cuts) old mid l) → FinishedSome mid new → WalkedPart s (W true) old new
    part_of_terms mid new l hw f = let k = hw true in record {
      items = k.items;
      terms = f.terms;
      written = WritesPart-after old mid new (item_lines k.items) (term_lines f.terms) k.written f.written;
      walked = k.walked;
      real = (k.logged).real;
    }

    pub part_of_none : InRange s.limits → (new : Option (List ℕ)) → new ≡ old → W true [] → WalkedPart s (W true) old new
    part_of_none range new e h = part_of_walk new (cut_at_first range new (WritesPart-none old new (item_line (base_item s)) e) h)
