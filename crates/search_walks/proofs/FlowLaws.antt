-- The flow of a code, backwards, one instruction after another.
use Rattle.std.proofs.Common.{◌≡◌, ◌<◌, ◌⊎◌, ◌↔◌, inl, inr, ℕ, suc, Bool, true, false, List, length, get_or, Option, Some, None, slice_get, refl, sym, ◌∙◌, subst, ap, arith}
use Rattle.std.proofs.lemmas.Bool.{cases_lt}
use Rattle.std.proofs.lemmas.Option.{slice_get_within, slice_get-get_or}
use Rattle.cc_model.specs.declared.checked.Checked.{Checked}
use Rattle.cc_model.specs.declared.checked.SiteId.{SiteId}
use Rattle.tac_lower.specs.declared.instr.Instr.{Instr}
use Rattle.tac_lower.specs.declared.instr.Instr.TheVariants as instr
use Rattle.tac_lower.specs.declared.tac.Tac.{Tac}
use Rattle.tac_lower.specs.Flow.{way, decided, site_in, last_first, IsBehind, GoesTo, LeadsTo, OutcomeLeadsTo, AreSuccessors}
use Rattle.cc_base.specs.Paths.{In}
use Rattle.search_walks.specs.Distance.{entry, IsDecisionSite, DecidesAt, IsPlain}
use Rattle.search_walks.specs.Rows.{Has, Grows, IsOne, IsAny}
use Rattle.search_walks.specs.Backwards.{decision_in, Comes, Edge, DecisionAt, IsDecision, Arrives, FlowUpTo}
use Rattle.search_walks.proofs.RowLaws.{grows_by, grows_none, from_contains, to_contains}

-- ---- an outcome

module _ (t : Tac) (at s : ℕ) (side : Bool) (old : List (List ℕ)) (r : Option ℕ) (leads : (x : ℕ) → (r ≡ Some x) ↔ OutcomeLeadsTo t at side x) where
  pub one_comes : (new : List (List ℕ)) (to n : ℕ) → length old ≡ length t.code → r ≡ Some to → n ≡ entry s side → Grows old new (IsOne old to n) → Grows old new (Comes t at s side)
  one_comes new to n h e f g = grows_by (IsOne old to n) (Comes t at s side) old new (λ p m x. comes p m x) (λ p m x. one p m x) g
    where
      comes : (p m : ℕ) → IsOne old to n p m → Comes t at s side p m
      comes p m x = record { leads = (leads p).0 (e ∙ ap Some (sym x.same_place)); number = x.same_number ∙ f }

      one : (p m : ℕ) → Comes t at s side p m → IsOne old to n p m
      one p m x = record { there = subst (λ k. p < k) (sym h) x.leads.place.0; same_place = cc ((leads p).1 x.leads, e); same_number = x.number ∙ sym f }

  pub none_comes : r ≡ None → Grows old old (Comes t at s side)
  none_comes e = grows_none (Comes t at s side) old (λ p m x. absurd (cc ((leads p).1 x.leads, e)))

-- ---- an instruction

pub decision_decides : (c : Checked) (t : Tac) (at : ℕ) (i : Instr) (s : SiteId) → slice_get t.code at ≡ Some i → decision_in i ≡ Some s → DecisionAt c t at s
decision_decides c t at i s e f = let r = by i f in record { decides = (i, r.0, e, r.1, s, r.2, refl) }
  where
    by : (i : Instr) → decision_in i ≡ Some s → (n : ℕ) × (decided i ≡ Some n) × (site_in i ≡ Some s)
    by (instr.Compare x o n a b) f = (n, refl, f)
    by (instr.Truth x n a) f = (n, refl, f)
    by _ f = absurd (cc f)

pub no_decision : (c : Checked) (t : Tac) (at : ℕ) (i : Instr) → slice_get t.code at ≡ Some i → decision_in i ≡ None → IsPlain c t at
no_decision c t at i e f = (i, e, by i f)
  where
    by : (i : Instr) → decision_in i ≡ None → decided i ≡ None
    by (instr.Compare x o n a b) f = absurd (cc f)
    by (instr.Truth x n a) f = absurd (cc f)
    by _ f = refl

module _ (c : Checked) (t : Tac) (at : ℕ) where
  not_both : (s : ℕ) → DecidesAt c t at s → IsPlain c t at → ⊥
  not_both s d p = absurd (cc (d.2, d.3, p.1, p.2))

  one_site : (s r : ℕ) → DecidesAt c t at s → DecidesAt c t at r → r ≡ s
  one_site s r d e = let i : e.0 ≡ d.0 = cc (d.2, e.2) in cc (i, d.5, d.6, e.5, e.6)

  same_or_before : (k : ℕ) → k < suc at → (k < at) ⊎ (k ≡ at)
  same_or_before k h = elim (cases_lt k at) [ inl i ↦ inl i | inr i ↦ inr (omega arith) ]

  module _ (s : SiteId) (d : DecisionAt c t at s) (b o e : List (List ℕ)) (f : FlowUpTo c t at b o e) where
    edges_stay : (a k : ℕ) → Has b a k ↔ ((k < suc at) × Edge c t a k)
    edges_stay a k = ((λ h. let r = (f.edges a k).0 h in (omega arith, r.1)), λ (h, x). by x (same_or_before k h))
      where
        by : Edge c t a k → (k < at) ⊎ (k ≡ at) → Has b a k
        by x (inl i) = (f.edges a k).1 (i, x)
        by x (inr i) = absurd (not_both s.0 d.decides (subst (IsPlain c t) i x.plain))

    -- its site is no decision's
    pub passes_over : (IsDecisionSite c s.0 → ⊥) → FlowUpTo c t (suc at) b o e
    passes_over n = record {
      before_places = f.before_places;
      outcomes_places = f.outcomes_places;
      decisions_places = f.decisions_places;
      edges = edges_stay;
      arrives = λ a k. ((λ h. let r = (f.arrives a k).0 h in (r.0, omega (arith, r.1))), λ (x, h). by x (same_or_before x.from h));
      decides = λ r a. ((λ h. let q = (f.decides r a).0 h in (omega (arith, q.0), q.1)), λ (h, x). by_decision x (same_or_before a h));
    }
      where
        by : {a k : ℕ} → (x : Arrives c t a k) → (x.from < at) ⊎ (x.from ≡ at) → Has o a k
        by {a = a} {k = k} x (inl i) = (f.arrives a k).1 (x, i)
        by x (inr i) = absurd (n (subst (IsDecisionSite c) (one_site s.0 x.site d.decides (subst (λ m. DecidesAt c t m x.site) i x.decision.decides)) x.decision.is_site))

        by_decision : {r a : ℕ} → IsDecision c t r a → (a < at) ⊎ (a ≡ at) → Has e r a
        by_decision {r = r} {a = a} x (inl i) = (f.decides r a).1 (i, x)
        by_decision {r = r} x (inr i) = absurd (n (subst (IsDecisionSite c) (one_site s.0 r d.decides (subst (λ m. DecidesAt c t m r) i x.decides)) x.is_site))

    pub one_more_decision : (e_new o_mid o_new : List (List ℕ)) → IsDecisionSite c s.0 → Grows e e_new (IsOne e s.0 at) → Grows o o_mid (Comes t at s.0 false) →
        Grows o_mid o_new (Comes t at s.0 true) → FlowUpTo c t (suc at) b o_new e_new
    one_more_decision e_new o_mid o_new w g h j = record {
      before_places = f.before_places;
      outcomes_places = j.places ∙ h.places ∙ f.outcomes_places;
      decisions_places = g.places ∙ f.decisions_places;
      edges = edges_stay;
      arrives = λ a k. (arrived a k, λ (x, h). came a k x (same_or_before x.from h));
      decides = λ r a. (was r a, λ (h, x). by_decision r a x (same_or_before a h));
    }
      where
        own : IsDecision c t s.0 at
        own = record { is_site = w; decides = d.decides }

        arrived : (a k : ℕ) → Has o_new a k → (x : Arrives c t a k) × (x.from < suc at)
        arrived a k x = elim ((j.each a k).0 x) [
          | inl y ↦ elim ((h.each a k).0 y) [
            | inl z ↦ let r = (f.arrives a k).0 z in (r.0, omega (arith, r.1))
            | inr z ↦ (record { from = at; site = s.0; side = false; decision = own; comes = z }, omega arith)
          ]
          | inr y ↦ (record { from = at; site = s.0; side = true; decision = own; comes = y }, omega arith)
        ]

        side_came : (a k : ℕ) (side : Bool) → Comes t at s.0 side a k → Has o_new a k
        side_came a k false x = (j.each a k).1 (inl ((h.each a k).1 (inr x)))
        side_came a k true x = (j.each a k).1 (inr x)

        came : (a k : ℕ) (x : Arrives c t a k) → (x.from < at) ⊎ (x.from ≡ at) → Has o_new a k
        came a k x (inl i) = (j.each a k).1 (inl ((h.each a k).1 (inl ((f.arrives a k).1 (x, i)))))
        came a k x (inr i) = side_came a k x.side
            (subst (λ m. Comes t at m x.side a k) (one_site s.0 x.site d.decides (subst (λ m. DecidesAt c t m x.site) i x.decision.decides)) (subst (λ m. Comes t m x.site x.side a k) i x.comes))

        was : (r a : ℕ) → Has e_new r a → (a < suc at) × IsDecision c t r a
        was r a x = elim ((g.each r a).0 x) [
          | inl y ↦ let q = (f.decides r a).0 y in (omega (arith, q.0), q.1)
          | inr y ↦ (omega (arith, y.same_number), subst (λ m. IsDecision c t m a) (sym y.same_place) (subst (IsDecision c t s.0) (sym y.same_number) own))
        ]

        by_decision : (r a : ℕ) → IsDecision c t r a → (a < at) ⊎ (a ≡ at) → Has e_new r a
        by_decision r a x (inl i) = (g.each r a).1 (inl ((f.decides r a).1 (i, x)))
        by_decision r a x (inr i) = (g.each r a).1 (inr (record { there = subst (λ m. r < m) (sym f.decisions_places) (slice_get_within c.sites r x.is_site.0 x.is_site.1); same_place = one_site s.0 r d.decides (subst (λ m. DecidesAt c t m r) i x.decides); same_number = i }))

  -- an instruction without a decision
  more_edges : (b b_new o e : List (List ℕ)) (l : List ℕ) → IsPlain c t at → ((a : ℕ) → a < length t.code → In a l → LeadsTo t at a) → ((a : ℕ) → LeadsTo t at a → In a l) →
      FlowUpTo c t at b o e → Grows b b_new (IsAny b at l) → FlowUpTo c t (suc at) b_new o e
  more_edges b b_new o e l p leads comes f g = record {
    before_places = g.places ∙ f.before_places;
    outcomes_places = f.outcomes_places;
    decisions_places = f.decisions_places;
    edges = λ a k. (edge a k, λ (i, x). has a k x (same_or_before k i));
    arrives = λ a k. ((λ h. let r = (f.arrives a k).0 h in (r.0, omega (arith, r.1))), λ (x, h). by a k x (same_or_before x.from h));
    decides = λ r a. ((λ h. let q = (f.decides r a).0 h in (omega (arith, q.0), q.1)), λ (h, x). by_decision r a x (same_or_before a h));
  }
    where
      edge : (a k : ℕ) → Has b_new a k → (k < suc at) × Edge c t a k
      edge a k x = elim ((g.each a k).0 x) [
        | inl y ↦ let q = (f.edges a k).0 y in (omega (arith, q.0), q.1)
        | inr y ↦ (omega (arith, y.same_number), record { plain = subst (IsPlain c t) (sym y.same_number) p; leads = subst (λ m. LeadsTo t m a) (sym y.same_number) (leads a (subst (λ m. a < m) f.before_places y.there) y.is_in) })
      ]

      has : (a k : ℕ) → Edge c t a k → (k < at) ⊎ (k ≡ at) → Has b_new a k
      has a k x (inl i) = (g.each a k).1 (inl ((f.edges a k).1 (i, x)))
      has a k x (inr i) = (g.each a k).1 (inr (record { there = subst (λ m. a < m) (sym f.before_places) x.leads.place.0; is_in = comes a (subst (λ m. LeadsTo t m a) i x.leads); same_number = i }))

      by : (a k : ℕ) (x : Arrives c t a k) → (x.from < at) ⊎ (x.from ≡ at) → Has o a k
      by a k x (inl i) = (f.arrives a k).1 (x, i)
      by a k x (inr i) = absurd (not_both x.site (subst (λ m. DecidesAt c t m x.site) i x.decision.decides) p)

      by_decision : (r a : ℕ) → IsDecision c t r a → (a < at) ⊎ (a ≡ at) → Has e r a
      by_decision r a x (inl i) = (f.decides r a).1 (i, x)
      by_decision r a x (inr i) = absurd (not_both r (subst (λ m. DecidesAt c t m r) i x.decides) p)

  -- one whose successors are known
  pub more_successors : (b b_new o e : List (List ℕ)) (l : List ℕ) → IsPlain c t at → AreSuccessors t at l → FlowUpTo c t at b o e → Grows b b_new (IsAny b at l) → FlowUpTo c t (suc at) b_new o e
  more_successors b b_new o e l p h f g = more_edges b b_new o e l p (λ a i j. (h.1 a).0 (to_contains l a j)) (λ a x. from_contains l a ((h.1 a).1 x)) f g

  -- a return, which leads to behind the calls of its function
  pub more_returns : (b b_new o e : List (List ℕ)) (l : List ℕ) (i : Instr) (n : ℕ) → slice_get t.code at ≡ Some i → i ≡ instr.Return n → length t.code < 4294967296 → ((a : ℕ) → In a l ↔ IsBehind t (last_first at t.funcs) a) →
      IsPlain c t at → FlowUpTo c t at b o e → Grows b b_new (IsAny b at l) → FlowUpTo c t (suc at) b_new o e
  more_returns b b_new o e l i n is r s h p f g = more_edges b b_new o e l p leads comes f g
    where
      leads : (a : ℕ) → a < length t.code → In a l → LeadsTo t at a
      leads a w j = record { instruction = instr.Return n; is = is ∙ ap Some r; place = (w, omega (arith, w, s)); goes = (h a).0 j }

      comes : (a : ℕ) → LeadsTo t at a → In a l
      comes a x = let same : x.instruction ≡ instr.Return n = cc (x.is, is, r) in (h a).1 (subst (λ j. GoesTo t at (way j) a) same x.goes)

pub no_flow : (c : Checked) (t : Tac) (b o e : List (List ℕ)) → length b ≡ length t.code → length o ≡ length t.code → length e ≡ length c.sites →
    ((p n : ℕ) → Has b p n → ⊥) → ((p n : ℕ) → Has o p n → ⊥) → ((p n : ℕ) → Has e p n → ⊥) → FlowUpTo c t 0 b o e
no_flow c t b o e x y z f g h = record {
  before_places = x;
  outcomes_places = y;
  decisions_places = z;
  edges = λ a k. ((λ i. absurd (f a k i)), λ (i, j). absurd (omega (arith, i)));
  arrives = λ a k. ((λ i. absurd (g a k i)), λ (i, j). absurd (omega (arith, j)));
  decides = λ a k. ((λ i. absurd (h a k i)), λ (i, j). absurd (omega (arith, i)));
}

pub flow_at : (c : Checked) (t : Tac) (k m : ℕ) (b o e : List (List ℕ)) → k ≡ m → FlowUpTo c t k b o e → FlowUpTo c t m b o e
flow_at c t k m b o e i f = subst (λ n. FlowUpTo c t n b o e) i f

pub is_at : {X : Type 0} → (l m : List X) (i : ℕ) (d : X) → l ≡ m → i < length l → slice_get m i ≡ Some (get_or l i d)
is_at l m i d e h = subst (λ k. slice_get k i ≡ Some (get_or l i d)) e (slice_get-get_or l i d h)
