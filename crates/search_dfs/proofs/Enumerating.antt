-- A listing that is Sound, Licensed and Covered and has no term enumerates: the central induction, on the prefixes of a path.
use Rattle.std.proofs.Common.{◌≡◌, ℕ, ◌<◌, ◌≤◌, ◌⊎◌, inl, inr, List, [], ◌∷◌, ◌++◌, length, Option, refl, sym, ap, ◌∙◌, subst, arith}
use Rattle.cc_base.specs.declared.outcomes.Outcome.{Outcome}
use Rattle.cc_base.specs.Paths.{Path, In, Pairwise, Before, next, BeginsWith}
use Rattle.cc_model.specs.Tested.{Layer, Offers, Term}
use Rattle.search_dfs.specs.Laws.{Laws}
use Rattle.cc_model.specs.Listing.{Item, test_item, past_item, stray_item, spent_item, unrun_item, key, Listing, count_by, is_stray, is_spent, is_unrun, tests, Listed, Above, Enumerates, EnumeratesBut, Sound, Licensed, Settled, Covered, WasRun, IsComplete, Counts}
use Rattle.cc_base.specs.declared.inputs.Input.{Input}
use Rattle.cc_base.specs.declared.inputs.Test.{Test}
use Rattle.cc_model.specs.Tested.{Real}
use Rattle.search_base.proofs.PathLaws.{begins_nil, begins_next, begins_or_is, begins_one, length_begins, length_next, next_append, append_nil, append_same, before_irr, before_trans, above_under, below_under, not_nil}

module _ (y : Layer) (laws : Laws y) where
  -- ---- the tests of a listing

  pub in_tests : (t : Test) (l : List Item) → In t (tests l) → In (test_item t) l
  in_tests t [] i = absurd i
  in_tests t (test_item u ∷ l) (inl e) = inl (ap (λ v. test_item v) e)
  in_tests t (test_item u ∷ l) (inr i) = inr (in_tests t l i)
  in_tests t (past_item u ∷ l) i = inr (in_tests t l i)
  in_tests t (stray_item u p ∷ l) i = inr (in_tests t l i)
  in_tests t (spent_item p ∷ l) i = inr (in_tests t l i)
  in_tests t (unrun_item u p ∷ l) i = inr (in_tests t l i)

  pub tests_in : (t : Test) (l : List Item) → In (test_item t) l → In t (tests l)
  tests_in t [] i = absurd i
  tests_in t (test_item u ∷ l) (inl e) = inl (cc e)
  tests_in t (test_item u ∷ l) (inr i) = inr (tests_in t l i)
  tests_in t (past_item u ∷ l) (inl e) = absurd (cc e)
  tests_in t (past_item u ∷ l) (inr i) = tests_in t l i
  tests_in t (stray_item u p ∷ l) (inl e) = absurd (cc e)
  tests_in t (stray_item u p ∷ l) (inr i) = tests_in t l i
  tests_in t (spent_item p ∷ l) (inl e) = absurd (cc e)
  tests_in t (spent_item p ∷ l) (inr i) = tests_in t l i
  tests_in t (unrun_item u p ∷ l) (inl e) = absurd (cc e)
  tests_in t (unrun_item u p ∷ l) (inr i) = tests_in t l i

  abbrev pub Ascending : List Item → Type 0
  Ascending l = Pairwise (λ x z. Before (key x) (key z)) l

  pub tests_ascend : (l : List Item) → Ascending l → Pairwise (λ t u. Before t.path u.path) (tests l)
  tests_ascend [] h = tt
  tests_ascend (test_item u ∷ l) h = (λ t i. h.0 (test_item t) (in_tests t l i), tests_ascend l h.1)
  tests_ascend (past_item u ∷ l) h = tests_ascend l h.1
  tests_ascend (stray_item u p ∷ l) h = tests_ascend l h.1
  tests_ascend (spent_item p ∷ l) h = tests_ascend l h.1
  tests_ascend (unrun_item u p ∷ l) h = tests_ascend l h.1

  -- ---- counts that are zero

  pub count_none : (f : Item → ℕ) (x : Item) (l : List Item) → In x l → count_by f l ≡ 0 → f x ≡ 0
  count_none f x [] i h = absurd i
  count_none f x (z ∷ l) (inl e) h = ap f e ∙ (omega (arith, h))
  count_none f x (z ∷ l) (inr i) h = count_none f x l i (omega (arith, h))

  pub count_zero : (f : Item → ℕ) (l : List Item) → ((x : Item) → In x l → f x ≡ 0) → count_by f l ≡ 0
  count_zero f [] h = refl
  count_zero f (x ∷ l) h = let a = h x (inl refl) in let b = count_zero f l (λ z i. h z (inr i)) in omega (arith, a, b)

  module _ (after : Option Path) (limit : ℕ) (l : Listing) (s : Sound after (y.runs) l.items) (c : Licensed after y limit l) (v : Covered after y l.items) (clean : l.terms ≡ []) where
    -- a listed run has no term
    pub run_clean : (t : Test) → WasRun t l.items → y.terms t.input ≡ []
    run_clean t r = none (y.terms t.input) (λ e i. (c.terms e).1 (t, r, i))
      where
        none : (m : List Term) → ((e : Term) → In e m → In e l.terms) → m ≡ []
        none [] h = refl
        none (e ∷ m) h = absurd (subst (λ k. In e k) clean (h e (inl refl)))

    pub listed_real : (t : Test) → Listed t l.items → Real (y.runs) t
    listed_real t i = s.real t (inl i)

    pub clean_to : (t : Test) → Listed t l.items → y.clean t.input ≡ length t.path
    clean_to t i = let r = listed_real t i in laws.clean_whole t.input r.within (run_clean t (inl i)) ∙ ap length (sym r.path)

    -- the end of a prefix of a listed path
    shorter : (t : Test) (q : Path) (o : Outcome) → BeginsWith t.path (next q o) → length q < length t.path
    shorter t q o b = let k = length_begins _ _ b in let e = length_next q o in omega (arith, k, e)

    pub no_stray : (t : Test) (p : Path) → In (stray_item t p) l.items → ⊥
    no_stray t p i =
        let k = c.stray t p i in
        let cause = k.1 in
        let src = cause.3 in
        let d = clean_to src.0 src.1 in
        let r = listed_real src.0 src.1 in
        let own = (cause.4).0 in
        let b = length_begins _ _ own.1 in
        let e = length_next cause.0 own.0 in
        let e2 = length_next cause.0 cause.1 in
        let f = ap length cause.2 in
        let g = ap y.clean src.2 in
        let j = ap length r.path in
        let m = ap (λ w. length ((y.runs).path w)) src.2 in
        let kk = k.2 in
        omega (arith, kk, d, b, e, e2, f, g, j, m)

    abbrev NoneSpent : Path → Type 0
    NoneSpent h = (p : Path) → In (spent_item p) l.items → BeginsWith h p → ⊥

    abbrev BelowUnrun : Path → Type 0
    BelowUnrun h = (w : Path) → ((i : Input) × In (unrun_item i w) l.items) → Before h w

    module _ (h : Input) (wh : (y.runs).IsWithin h) (above : Above after ((y.runs).path h)) (ns : NoneSpent ((y.runs).path h)) (bu : BelowUnrun ((y.runs).path h)) where
      abbrev Found : Type 0
      Found = (t : Test) × Listed t l.items × (t.path ≡ (y.runs).path h)

      -- an alternative that h takes was not left out
      settled : (u : Input) (q : Path) (o : Outcome) → (y.runs).IsWithin u → Offers y u q o → length q ≤ y.clean u → BeginsWith ((y.runs).path h) (next q o) →
          Settled after y l.items u (next q o) → (t : Test) × Listed t l.items × BeginsWith t.path (next q o)
      settled u q o wu off le b (inl e) = absurd (laws.never_true u h q o wu wh off le e b)
      settled u q o wu off le b (inr (inl (inl i))) = absurd (ns (next q o) i b)
      settled u q o wu off le b (inr (inl (inr (inl i)))) = absurd (no_stray i.0 (next q o) i.1)
      settled u q o wu off le b (inr (inl (inr (inr i)))) = absurd (not_before (next q o) (bu (next q o) i) b)
        where
          not_before : (w : Path) → Before ((y.runs).path h) w → BeginsWith ((y.runs).path h) w → ⊥
          not_before w k j = before_irr _ (above_under _ _ _ k j)
      settled u q o wu off le b (inr (inr (inl i))) = (i.1, i.2, i.3)
      settled u q o wu off le b (inr (inr (inr (inl i)))) = absurd (before_irr _ (before_trans _ _ _ (bu i.1 (i.0, i.2)) (above_under _ _ _ i.3 b)))
      settled u q o wu off le b (inr (inr (inr (inr i)))) = absurd (before_irr _ (before_trans _ _ _ (above i.0 i.1) (below_under _ _ _ i.2 i.3 b)))

      longer : (t : Test) (q : Path) (o : Outcome) (r : Path) → (y.runs).path h ≡ q ++ (o ∷ r) → Listed t l.items → t.path ≡ q → ⊥
      longer t q o r e i f =
          let k = listed_real t i in
          let g : q ≡ (y.runs).path t.input = sym f ∙ k.path in
          let b : BeginsWith ((y.runs).path h) ((y.runs).path t.input) = subst (λ w. BeginsWith ((y.runs).path h) w) g (o ∷ r, e) in
          let j = laws.no_prefix t.input h k.within wh b in
          not_nil o r (sym (append_same q [] (o ∷ r) (append_nil q ∙ g ∙ sym j ∙ e)))

      -- from a prefix of h's path to one outcome more
      step : (q : Path) (o : Outcome) (r : Path) → (y.runs).path h ≡ q ++ (o ∷ r) → (t : Test) → Listed t l.items → BeginsWith t.path q →
          (u : Test) × Listed u l.items × BeginsWith u.path (next q o)
      step q o r e t i b = elim (begins_or_is t.path q b) [
        | inl f ↦ absurd (longer t q o r e i f)
        | inr k ↦ covered (v t q k.0 i k.1)
      ]
        where
          bh : BeginsWith ((y.runs).path h) (next q o)
          bh = (r, e ∙ sym (next_append q o r))

          taken : (u : Test) (own : Outcome) → Listed u l.items → BeginsWith u.path (next q own) → ((o : Outcome) → Offers y u.input q o → Settled after y l.items u.input (next q o)) →
              (o ≡ own) ⊎ In o (y.others u.input (length q)) → (w : Test) × Listed w l.items × BeginsWith w.path (next q o)
          taken u own j k all (inl f) = (u, j, subst (λ a. BeginsWith u.path (next q a)) (sym f) k)
          taken u own j k all (inr f) =
              let real = listed_real u j in
              let off : Offers y u.input q o = ((own, subst (λ w. BeginsWith w (next q own)) real.path k), f) in
              let le : length q ≤ y.clean u.input = let d = clean_to u j in let e = shorter u q own k in omega (arith, d, e) in
              settled u.input q o real.within off le bh (all o off)

          from : (u : Test) (own : Outcome) → Listed u l.items → BeginsWith u.path (next q own) → ((o : Outcome) → Offers y u.input q o → Settled after y l.items u.input (next q o)) →
              (w : Test) × Listed w l.items × BeginsWith w.path (next q o)
          from u own j k all =
              let real = listed_real u j in
              let lt : length q < y.clean u.input = let d = clean_to u j in let e = shorter u q own k in omega (arith, d, e) in
              let x = laws.exhausts u.input h q own real.within wh lt (subst (λ w. BeginsWith w (next q own)) real.path k) (begins_next _ _ _ bh) in
              let f : x.0 ≡ o = begins_one _ _ _ _ x.1 bh in
              taken u own j k all (subst (λ a. (a ≡ own) ⊎ In a (y.others u.input (length q))) f x.2)

          covered : ((u : Test) × Listed u l.items × BeginsWith u.path q × ((o : Outcome) → Offers y u.input q o → Settled after y l.items u.input (next q o))) →
              (w : Test) × Listed w l.items × BeginsWith w.path (next q o)
          covered (u, j, b', all) = elim (begins_or_is u.path q b') [
            | inl f ↦ absurd (longer u q o r e j f)
            | inr k ↦ from u k.0 j k.1 all
          ]

      -- the listed path that a prefix of h's path belongs to
      down : (r : Path) (q : Path) (t : Test) → (y.runs).path h ≡ q ++ r → Listed t l.items → BeginsWith t.path q → Found
      down [] q t e i b =
          let r = listed_real t i in
          let e2 : (y.runs).path h ≡ q = e ∙ append_nil q in
          (t, i, r.path ∙ laws.no_prefix h t.input wh r.within (subst (λ w. BeginsWith w ((y.runs).path h)) r.path (subst (λ w. BeginsWith t.path w) (sym e2) b)))
      down (o ∷ r) q t e i b = let n = step q o r e t i b in down r (next q o) n.0 (e ∙ sym (next_append q o r)) n.1 n.2

      found : Found
      found = let b = (c.begun).base_listed in down ((y.runs).path h) [] b.0 refl b.1 (begins_nil _)

      pub in_the_tests : (t : Test) × In t (tests l.items) × (t.path ≡ (y.runs).path h)
      in_the_tests = let f = found in elim f.1 [
        | inl i ↦ (f.0, tests_in f.0 l.items i, f.2)
        | inr i ↦ let n = s.pasts_not_above f.0 i in absurd (n.2 (subst (λ w. Before n.0 w) (sym f.2) (above n.0 n.1)))
      ]

    -- no run strays, and the tests enumerate but for what is spent and what was left unrun
    pub no_strays : count_by (is_stray) l.items ≡ 0
    no_strays = count_zero (is_stray) l.items not_one
      where
        not_one : (x : Item) → In x l.items → is_stray x ≡ 0
        not_one (test_item t) i = refl
        not_one (past_item t) i = refl
        not_one (stray_item t p) i = absurd (no_stray t p i)
        not_one (spent_item p) i = refl
        not_one (unrun_item u p) i = refl

    pub enumerates_but : EnumeratesBut after (y.runs) (tests l.items) (λ p. In (spent_item p) l.items) (λ w. (i : Input) × In (unrun_item i w) l.items)
    enumerates_but = record {
      ascending = tests_ascend l.items s.ascending;
      above = λ t i. s.tests_above t (in_tests t l.items i);
      real = λ t i. s.real t (inl (inl (in_tests t l.items i)));
      all = λ h w a ns bu. in_the_tests h w a ns bu;
    }

  one_not_zero : (n : ℕ) → n ≡ 1 → n ≡ 0 → ⊥
  one_not_zero n a b = omega arith

  list_empty : {A : Type 0} → (m : List A) → length m ≡ 0 → m ≡ []
  list_empty [] h = refl
  list_empty (a ∷ m) h = absurd (omega (arith, h))

  -- where the five counts are zero the tests enumerate
  pub enumerates : (after : Option Path) (limit : ℕ) (l : Listing) → Sound after (y.runs) l.items → Licensed after y limit l → Covered after y l.items → IsComplete l → Enumerates after (y.runs) (tests l.items)
  enumerates after limit l s c v n =
      let b = enumerates_but after limit l s c v (list_empty l.terms (ap (λ (c : Counts). c.terms) n)) in
      record {
        ascending = b.ascending;
        above = b.above;
        real = b.real;
        all = λ h w a. b.all h w a
            (λ p i k. one_not_zero 1 refl (count_none (is_spent) (spent_item p) l.items i (ap (λ (c : Counts). c.spent) n)))
            (λ p i. absurd (one_not_zero 1 refl (count_none (is_unrun) (unrun_item i.0 p) l.items i.1 (ap (λ (c : Counts). c.unrun) n))));
      }
