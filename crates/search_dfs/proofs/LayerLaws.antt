-- The tested function with its traced runs keeps the laws of the search.
use Rattle.std.proofs.Common.{◌≡◌, ◌≢◌, ℕ, zero, suc, ◌-◌, ◌<◌, ◌≤◌, ℤ, ◌⊎◌, inl, inr, List, [], ◌∷◌, length, take, Option, Some, refl, sym, ap, ◌∙◌, subst, arith, slice_get, if◌then◌else◌}
use Rattle.std.proofs.lemmas.Bool.Decides.{eqb_tells}
use Rattle.cc_base.specs.declared.inputs.Input.{Input}
use Rattle.cc_base.specs.declared.outcomes.Outcome.{Outcome}
use Rattle.cc_base.specs.Holds.{Meets}
use Rattle.cc_base.specs.Limits.{Limits}
use Rattle.cc_base.specs.Paths.{Path, In, next, BeginsWith, GoesOnFrom}
use Rattle.cc_model.specs.Canonical.{base_input_of}
use Rattle.cc_model.specs.Core.{Program}
use Rattle.cc_model.specs.Meaning.{Entry}
use Rattle.cc_model.specs.Runs.{IsInput, params_of, path_of, path_at}
use Rattle.cc_model.specs.FormOperations.{Forms}
use Rattle.cc_model.specs.Traced.{Choice, Asked, asks_nothing, one_of, term, Event, traced}
use Rattle.cc_model.specs.Conditions.{without, taken, alternatives, outcomes_of, condition, condition_at, last_atoms, alternatives_at, clean, terms, events_of, values_at, layer}
use Rattle.cc_model.specs.Exact.{Exact, Exhausts, Told}
use Rattle.cc_model.specs.Tested.{Layer, Term, Offers}
use Rattle.search_dfs.specs.Laws.{Laws}
use Rattle.search_base.proofs.PathLaws.{append_nil, length_next, begins_next, in_either}
use Rattle.cc_model.specs.Answers.{HasNoInput}
use Rattle.sym_expr.proofs.AtomLaws.{Meets-append, Meets-front, Meets-back}
use Rattle.flip_solve.proofs.Members.{some_same, got_in}
use Rattle.flip_solve.proofs.Prefixes.{take_begins, next_at, at_next, outcome_tells, outcomes, chosen, last_there, parted, none_at_term}
use Rattle.flip_solve.proofs.Refuted.{InRange, some_input}

-- ---- choices

without_other : (own o : Outcome) (cs : List Choice) → In o (outcomes (without own cs)) → o ≢ own
unfolding without
without_other own o [] i = absurd i
without_other own o (c ∷ cs) i = elim (outcome_tells c.outcome own) [
  | inl q ↦ without_other own o cs (subst (λ b. In o (outcomes (if b then without own cs else c ∷ without own cs))) q.0 i)
  | inr q ↦ kept (subst (λ b. In o (outcomes (if b then without own cs else c ∷ without own cs))) q.0 i) q.1 (without_other own o cs)
]
  where
    kept : In o (outcomes (c ∷ without own cs)) → c.outcome ≢ own → (In o (outcomes (without own cs)) → o ≢ own) → o ≢ own
    kept (inl e) n rest = λ f. n (sym e ∙ f)
    kept (inr j) n rest = rest j

alternative_other : (e : Event) (o : Outcome) → In o (outcomes (alternatives e)) → o ≢ e.outcome
unfolding alternatives
alternative_other e o i = by e.asked i
  where
    by : (s : Asked) → In o (outcomes (elim s [ one_of cs ↦ without e.outcome cs | _ ↦ [] ])) → o ≢ e.outcome
    by (one_of cs) j = without_other e.outcome o cs j
    by asks_nothing j = absurd j
    by (term k) j = absurd j

outcome_in : (c : Choice) (cs : List Choice) → In c cs → In c.outcome (outcomes cs)
outcome_in c [] i = absurd i
outcome_in c (d ∷ cs) (inl e) = inl (ap (λ x. x.outcome) e)
outcome_in c (d ∷ cs) (inr i) = inr (outcome_in c cs i)

-- ---- events

abbrev Log : Type 0
Log = List (Entry Event)

event_there : (l : Log) (k : ℕ) (o : Outcome) → In o (outcomes (alternatives_at k l)) → (a : Entry Event) × (slice_get l k ≡ Some a) × In o (outcomes (alternatives a.event))
unfolding alternatives_at
event_there [] zero o i = absurd i
event_there [] (suc k) o i = absurd i
event_there (a ∷ l) zero o i = (a, refl, i)
event_there (a ∷ l) (suc k) o i = event_there l k o i

alternatives_there : (l : Log) (k : ℕ) (a : Entry Event) → slice_get l k ≡ Some a → alternatives_at k l ≡ alternatives a.event
unfolding alternatives_at
alternatives_there [] k a e = absurd (cc e)
alternatives_there (x ∷ l) zero a e = ap (λ y. alternatives y.event) (some_same x a e)
alternatives_there (x ∷ l) (suc k) a e = alternatives_there l k a e

abbrev with_term : (ℕ → ℕ) → (ℕ → ℕ) → Entry Event → Asked → List Term → List Term
with_term line column x s rest = elim s [ term k ↦ record { line = line x.token; col = column x.token; kind = k } ∷ rest | _ ↦ rest ]

clean_all : (line column : ℕ → ℕ) (l : Log) → terms line column l ≡ [] → clean l ≡ length l
unfolding clean terms
clean_all line column [] e = refl
clean_all line column (x ∷ l) e = by (x.event).asked e (clean_all line column l)
  where
    by : (s : Asked) → with_term line column x s (terms line column l) ≡ [] → (terms line column l ≡ [] → clean l ≡ length l)
        → (elim s [ term k ↦ 0 | _ ↦ suc (clean l) ]) ≡ suc (length l)
    by (term k) f rest = absurd (cc f)
    by (one_of cs) f rest = ap suc (rest f)
    by asks_nothing f rest = ap suc (rest f)

module _ (lo hi : ℤ) (v : ℕ → Option ℤ) where
  -- the integers of which the outcomes that come speak are within lo..hi
  abbrev pub EventInRange : Event → Type 0
  EventInRange e = (c : Choice) → In c (outcomes_of e) → Meets v c.atoms → InRange lo hi v c.atoms

  range_condition : (l : Log) → ((a : Entry Event) → In a l → EventInRange a.event) → (k : ℕ) → Meets v (condition k l) → InRange lo hi v (condition k l)
  unfolding condition
  range_condition l h zero m a i = absurd i
  range_condition [] h (suc k) m a i = absurd i
  range_condition (x ∷ l) h (suc k) m a i = elim (in_either a (taken x.event) (condition k l) i) [
    | inl j ↦ h x (inl refl) (record { outcome = (x.event).outcome; atoms = taken x.event }) (inl refl) (Meets-front v (taken x.event) (condition k l) m) a j
    | inr j ↦ range_condition l (λ y n. h y (inr n)) k (Meets-back v (taken x.event) (condition k l) m) a j
  ]

module _ (f : Forms) (p : Program) (b : Limits) (column : ℕ → ℕ) (budget : ℕ) where
  abbrev E : Input → Log
  E u = events_of f p b u

  abbrev y : Layer
  y = layer f p b column budget

  -- what is known of runs
  pub record RunLaws : Type 0 where
    pub base_in : IsInput p b (base_input_of b (params_of p))
    pub no_path_begins : (g h : Input) → GoesOnFrom (path_at p b h) (path_at p b g) → ⊥
    pub path : (h : Input) → path_of (traced f p.layouts) (E h) ≡ path_at p b h
    pub exact : (u : Input) (k : ℕ) → IsInput p b u → k ≤ clean (E u) → Exact f p b u k
    pub exhausts : (u : Input) (k : ℕ) → IsInput p b u → k < clean (E u) → Exhausts f p b u k
    pub in_range : (u h : Input) → IsInput p b u → IsInput p b h → (a : Entry Event) → In a (E u) → EventInRange b.lo b.hi (values_at f p b u h) a.event

  path_there : (l : Log) (k : ℕ) (a : Entry Event) (o : Outcome) → slice_get l k ≡ Some a → slice_get (path_of (traced f p.layouts) l) k ≡ Some o → (a.event).outcome ≡ o
  path_there [] k a o e g = absurd (cc e)
  path_there (x ∷ l) zero a o e g = ap (λ (z : Entry Event). (z.event).outcome) (sym (some_same x a e)) ∙ some_same _ o g
  path_there (x ∷ l) (suc k) a o e g = path_there l k a o e g

  length_path : (l : Log) → length (path_of (traced f p.layouts) l) ≡ length l
  length_path [] = refl
  length_path (x ∷ l) = ap suc (length_path l)

  module _ (w : RunLaws) where
    own_there : (u : Input) (k : ℕ) (a : Entry Event) (o : Outcome) → slice_get (E u) k ≡ Some a → slice_get (path_at p b u) k ≡ Some o → (a.event).outcome ≡ o
    own_there u k a o e g = path_there (E u) k a o e (ap (λ l. slice_get l k) (w.path u) ∙ g)

    no_prefix : (u h : Input) → BeginsWith (path_at p b h) (path_at p b u) → path_at p b h ≡ path_at p b u
    no_prefix u h ([], e) = e ∙ append_nil (path_at p b u)
    no_prefix u h (o ∷ r, e) = absurd (w.no_path_begins u h (o, r, e))

    not_own : (u : Input) (q : Path) (o own : Outcome) → Offers y u q o → BeginsWith (path_at p b u) (next q own) → o ≢ own
    not_own u q o own off bg = let r = event_there (E u) (length q) o off.1 in
        subst (λ x. o ≢ x) (own_there u (length q) r.0 own r.1 (next_at (path_at p b u) q own bg)) (alternative_other (r.0).event o r.2)

    -- an event that offers an alternative up to the first term comes before it
    before_term : (u : Input) (q : Path) (o : Outcome) → Offers y u q o → length q ≤ clean (E u) → length q < clean (E u)
    before_term u q o off le = elim (eqb_tells (length q) (clean (E u))) [
      | inr n ↦ let m = n.1 in omega (arith, le, m)
      | inl e ↦ let r = event_there (E u) (length q) o off.1 in absurd (subst (λ l. In o (outcomes l)) (none_at_term (E u) r.0 (subst (λ k. slice_get (E u) k ≡ Some r.0) e.1 r.1)) r.2)
    ]

    same_first : (u h : Input) (q : Path) → BeginsWith (path_at p b u) q → BeginsWith (path_at p b h) q → take (length q) (path_at p b h) ≡ take (length q) (path_at p b u)
    same_first u h q bu bh = take_begins (path_at p b h) q bh ∙ sym (take_begins (path_at p b u) q bu)

    exhausts : (u h : Input) (q : Path) (own : Outcome) → IsInput p b u → IsInput p b h → length q < clean (E u) → BeginsWith (path_at p b u) (next q own) → BeginsWith (path_at p b h) q →
        (o : Outcome) × BeginsWith (path_at p b h) (next q o) × ((o ≡ own) ⊎ In o (y.others u (length q)))
    exhausts u h q own wu wh lt bu bh =
        let told = (w.exhausts u (length q) wu lt).told h wh (same_first u h q (begins_next _ _ _ bu) bh) in
        let c = told.no_other in
        (told.outcome, at_next (path_at p b h) q told.outcome (take_begins (path_at p b h) q bh) told.of_h, by told.here told.at_k told.outcome c.0 c.1 c.2)
      where
        by : (a : Entry Event) → slice_get (E u) (length q) ≡ Some a → (o : Outcome) (c : Choice) → In c (outcomes_of a.event) → c.outcome ≡ o → (o ≡ own) ⊎ In o (y.others u (length q))
        by a at_k o c (inl e) g = inl (sym g ∙ ap (λ (z : Choice). z.outcome) e ∙ own_there u (length q) a own at_k (next_at (path_at p b u) q own bu))
        by a at_k o c (inr i) g = inr (subst (λ z. In z (y.others u (length q))) g (subst (λ l. In c.outcome (outcomes l)) (sym (alternatives_there (E u) (length q) a at_k)) (outcome_in c (alternatives a.event) i)))

    module _ (u h : Input) (q : Path) (o : Outcome) (wu : IsInput p b u) (wh : IsInput p b h) (off : Offers y u q o) (le : length q ≤ clean (E u)) where
      abbrev v : ℕ → Option ℤ
      v = values_at f p b u h

      begins_here : BeginsWith (path_at p b u) q
      begins_here = begins_next _ _ _ (off.0).1

      -- the alternative's choice there
      abbrev Alternative : Entry Event → Type 0
      Alternative a = (c : Choice) × In c (outcomes_of a.event) × (c.outcome ≡ o) × (c.atoms ≡ last_atoms (next q o) (E u))

      alternative : (a : Entry Event) → slice_get (E u) (length q) ≡ Some a → Alternative a
      alternative a e =
          let i : In o (outcomes (alternatives a.event)) = subst (λ l. In o (outcomes l)) (alternatives_there (E u) (length q) a e) off.1 in
          let c = chosen o (alternatives a.event) i in
          (c.0, inr c.1, c.2, c.3 ∙ sym (last_there (E u) q o a e))

      told_of : take (length q) (path_at p b h) ≡ take (length q) (path_at p b u) → Told f p b u h (length q)
      told_of s = (w.exhausts u (length q) wu (before_term u q o off le)).told h wh s

      turns : Meets v (condition_at (next q o) (E u)) → BeginsWith (path_at p b h) (next q o)
      turns m =
          let m2 = subst (Meets v) (parted (E u) q o) m in
          let s = ((w.exact u (length q) wu le).exactly h wh).1 (Meets-front v (condition (length q) (E u)) (last_atoms (next q o) (E u)) m2) in
          let t = told_of s in
          let c = alternative t.here t.at_k in
          let e : o ≡ t.outcome = sym c.2 ∙ (t.exactly c.0 c.1).1 (subst (Meets v) (sym c.3) (Meets-back v (condition (length q) (E u)) (last_atoms (next q o) (E u)) m2)) in
          at_next (path_at p b h) q o (s ∙ take_begins (path_at p b u) q begins_here) (t.of_h ∙ ap Some (sym e))

      never_true : HasNoInput b.lo b.hi budget (condition (length (next q o) - 1) (E u)) (last_atoms (next q o) (E u)) → BeginsWith (path_at p b h) (next q o) → ⊥
      never_true refuted bh =
          let n : length (next q o) - 1 ≡ length q = let k = length_next q o in omega (arith, k) in
          let s = same_first u h q begins_here (begins_next _ _ _ bh) in
          let t = told_of s in
          let c = alternative t.here t.at_k in
          let e : t.outcome ≡ o = some_same t.outcome o (sym t.of_h ∙ next_at (path_at p b h) q o bh) in
          let ma = (t.exactly c.0 c.1).0 (c.2 ∙ sym e) in
          let mc = ((w.exact u (length q) wu le).exactly h wh).0 s in
          let events = w.in_range u h wu wh in
          let here : In t.here (E u) = got_in (E u) (length q) t.here t.at_k in
          let rc = range_condition b.lo b.hi v (E u) events (length q) mc in
          let ra = events t.here here c.0 c.1 ma in
          some_input b.lo b.hi budget v (condition (length q) (E u)) (last_atoms (next q o) (E u))
          (Meets-append v (condition (length q) (E u)) (last_atoms (next q o) (E u)) mc (subst (Meets v) c.3 ma))
          (λ a i. elim (in_either a (condition (length q) (E u)) (last_atoms (next q o) (E u)) i) [ inl j ↦ rc a j | inr j ↦ ra a (subst (In a) (sym c.3) j) ])
          (subst (λ k. HasNoInput b.lo b.hi budget (condition k (E u)) (last_atoms (next q o) (E u))) n refuted)

    pub layer_laws : Laws y
    layer_laws = record {
      base_within = w.base_in;
      no_prefix = λ u h wu wh bg. no_prefix u h bg;
      not_own = λ u q o own wu off bg. not_own u q o own off bg;
      exhausts = exhausts;
      turns = λ u i q o wu wi off le m. turns u i q o wu wi off le m;
      never_true = λ u h q o wu wh off le refuted bg. never_true u h q o wu wh off le refuted bg;
      clean_whole = λ u wu e. clean_all p.line column (E u) e ∙ sym (length_path (E u)) ∙ ap length (w.path u);
    }
