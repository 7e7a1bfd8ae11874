-- How many runs there are, which searches are complete, and lists that enumerate the same inputs.
use Rattle.std.proofs.Common.{◌≡◌, ◌≢◌, ℕ, zero, suc, ◌+◌, ◌<◌, ◌≤◌, ◌↔◌, inl, inr, List, [], ◌∷◌, ◌++◌, length, map, Option, Some, None, refl, sym, ap, ap₂, ◌∙◌, subst, arith, nat_eq, if◌then◌else◌}
use Rattle.std.proofs.lemmas.Bool.Decides.{eqb_tells}
use Rattle.cc_base.specs.declared.outcomes.Outcome.{Outcome}
use Rattle.cc_base.specs.Outcomes.{byte_of}
use Rattle.cc_base.specs.Paths.{Path, In, Pairwise, Before, next, BeginsWith, in_common}
use Rattle.cc_model.specs.Tested.{Tested, Layer, spent, Offers, Term}
use Rattle.search_dfs.specs.Laws.{Laws}
use Rattle.cc_model.specs.Listing.{Item, test_item, past_item, stray_item, spent_item, unrun_item, key, Listing, count_by, is_stray, is_spent, is_unrun, is_at_steps, at_steps, tests, Listed, Enumerates, Sound, Licensed, Covered, is_run, IsComplete, Counts}
use Rattle.cc_base.specs.declared.inputs.Input.{Input}
use Rattle.cc_base.specs.declared.inputs.Test.{Test}
use Rattle.search_base.proofs.PathLaws.{pairwise_map, length_begins, length_next, before_irr, before_trans, above_under, byte_tells, begins_nil}
use Rattle.search_dfs.proofs.Enumerating.{count_zero, no_strays, in_tests, tests_ascend, run_clean, Ascending}

-- ---- lists of different things

abbrev pub Different : {A : Type 0} → List A → Type 0
Different l = Pairwise (λ x z. x ≢ z) l

without : {A : Type 0} → (x : A) (m : List A) → In x m → (k : List A) × (length m ≡ suc (length k)) × ((z : A) → In z m → z ≢ x → In z k)
without x [] i = absurd i
without x (y ∷ m) (inl e) = (m, refl, λ z j n. elim j [ inl f ↦ absurd (n (f ∙ sym e)) | inr k ↦ k ])
without x (y ∷ m) (inr i) = let r = without x m i in (y ∷ r.0, ap suc r.1, λ z j n. elim j [ inl f ↦ inl f | inr k ↦ inr (r.2 z k n) ])

-- different things of a list are no more than the list has
pub no_more : {A : Type 0} → (l m : List A) → Different l → ((x : A) → In x l → In x m) → length l ≤ length m
no_more [] m d h = omega arith
no_more (x ∷ l) m d h =
    let r = without x m (h x (inl refl)) in
    let k = no_more l r.0 d.1 (λ z i. r.2 z (h z (inr i)) (λ e. d.0 z i (sym e))) in
    let e = r.1 in
    omega (arith, k, e)

below_n : ℕ → List ℕ
below_n zero = []
below_n (suc n) = n ∷ below_n n

in_below : (n k : ℕ) → k < n → In k (below_n n)
unfolding below_n
in_below zero k h = absurd (omega (arith, h))
in_below (suc n) k h = elim (eqb_tells k n) [ inl q ↦ inl q.1 | inr q ↦ inr (in_below n k (let ne = q.1 in omega (arith, h, ne))) ]

length_below : (n : ℕ) → length (below_n n) ≡ n
unfolding below_n
length_below zero = refl
length_below (suc n) = ap suc (length_below n)

pub few_below : (l : List ℕ) (n : ℕ) → Different l → ((x : ℕ) → In x l → x < n) → length l ≤ n
few_below l n d h = let k = no_more l (below_n n) d (λ x i. in_below n x (h x i)) in let e = length_below n in omega (arith, k, e)

pub different : (l : List Path) → Pairwise Before l → Different l
different l h = pairwise_map Before _ l (λ x z k e. before_irr z (subst (λ w. Before w z) e k)) h

-- a path that does not begin with a prefix of a has less in common with a
common_less : (w r p : Path) → (BeginsWith p w → ⊥) → in_common (w ++ r) p < length w
unfolding in_common
common_less [] r p n = absurd (n (begins_nil p))
common_less (o ∷ w) r [] n = omega arith
common_less (o ∷ w) r (b ∷ p) n = elim (eqb_tells (byte_of o) (byte_of b)) [
  | inl q ↦ let e : o ≡ b = byte_tells o b q.1 in
      let k = common_less w r p (λ h. n (h.0, ap₂ (λ x m. x ∷ m) (sym e) h.1)) in
      let i : (if nat_eq (byte_of o) (byte_of b) then suc (in_common (w ++ r) p) else 0) ≡ suc (in_common (w ++ r) p) = ap (λ t. if t then suc (in_common (w ++ r) p) else 0) q.0 in
      omega (arith, k, i)
  | inr q ↦ let i : (if nat_eq (byte_of o) (byte_of b) then suc (in_common (w ++ r) p) else 0) ≡ 0 = ap (λ t. if t then suc (in_common (w ++ r) p) else 0) q.0 in omega (arith, i)
]

common_most : (a p : Path) → in_common a p ≤ length a
unfolding in_common
common_most [] p = omega arith
common_most (o ∷ a) [] = omega arith
common_most (o ∷ a) (b ∷ p) = let k = common_most a p in elim (eqb_tells (byte_of o) (byte_of b)) [
  | inl q ↦ let i : (if nat_eq (byte_of o) (byte_of b) then suc (in_common a p) else 0) ≡ suc (in_common a p) = ap (λ t. if t then suc (in_common a p) else 0) q.0 in omega (arith, k, i)
  | inr q ↦ let i : (if nat_eq (byte_of o) (byte_of b) then suc (in_common a p) else 0) ≡ 0 = ap (λ t. if t then suc (in_common a p) else 0) q.0 in omega (arith, i)
]

-- ---- ascending lists with the same members

in_first : (x z : Path) (l m : List Path) → Pairwise Before (x ∷ l) → Pairwise Before (z ∷ m) → In x (z ∷ m) → In z (x ∷ l) → x ≡ z
in_first x z l m h k (inl e) j = e
in_first x z l m h k (inr i) (inl e) = sym e
in_first x z l m h k (inr i) (inr j) = absurd (before_irr x (before_trans x z x (h.0 z j) (k.0 x i)))

pub same_members : (l m : List Path) → Pairwise Before l → Pairwise Before m → ((x : Path) → In x l → In x m) → ((x : Path) → In x m → In x l) → l ≡ m
same_members [] [] h k f g = refl
same_members [] (z ∷ m) h k f g = absurd (g z (inl refl))
same_members (x ∷ l) [] h k f g = absurd (f x (inl refl))
same_members (x ∷ l) (z ∷ m) h k f g =
    let e = in_first x z l m h k (f x (inl refl)) (g z (inl refl)) in
    ap₂ (λ v w. v ∷ w) e (same_members l m h.1 k.1 (λ w i. left w i e (f w (inr i))) (λ w i. right w i e (g w (inr i))))
  where
    left : (w : Path) → In w l → x ≡ z → In w (z ∷ m) → In w m
    left w i e (inr j) = j
    left w i e (inl f) = absurd (before_irr w (subst (λ v. Before v w) (e ∙ sym f) (h.0 w i)))

    right : (w : Path) → In w m → x ≡ z → In w (x ∷ l) → In w l
    right w i e (inr j) = j
    right w i e (inl f) = absurd (before_irr w (subst (λ v. Before v w) (sym e ∙ sym f) (k.0 w i)))

abbrev pub paths : List Test → List Path
paths [] = []
paths (t ∷ l) = t.path ∷ paths l

path_in : (t : Test) (l : List Test) → In t l → In t.path (paths l)
path_in t [] i = absurd i
path_in t (u ∷ l) (inl e) = inl (ap (λ (v : Test). v.path) e)
path_in t (u ∷ l) (inr i) = inr (path_in t l i)

in_paths : (p : Path) (l : List Test) → In p (paths l) → (t : Test) × In t l × (p ≡ t.path)
in_paths p [] i = absurd i
in_paths p (u ∷ l) (inl e) = (u, inl refl, e)
in_paths p (u ∷ l) (inr i) = let r = in_paths p l i in (r.0, inr r.1, r.2)

paths_ascend : (l : List Test) → Pairwise (λ t u. Before t.path u.path) l → Pairwise Before (paths l)
paths_ascend [] h = tt
paths_ascend (t ∷ l) h = (λ p i. let r = in_paths p l i in subst (λ w. Before t.path w) (sym r.2) (h.0 r.0 r.1), paths_ascend l h.1)

-- a list of tests has the paths of its tests
pub paths_map : (l : List Test) → map (λ (t : Test). t.path) l ≡ paths l
paths_map [] = refl
paths_map (t ∷ l) = ap (λ r. t.path ∷ r) (paths_map l)

module _ (y : Tested) where
  -- two lists that enumerate the same inputs have the same paths
  pub same_paths : (after : Option Path) (l m : List Test) → Enumerates after y l → Enumerates after y m → paths l ≡ paths m
  same_paths after l m h k = same_members (paths l) (paths m) (paths_ascend l h.ascending) (paths_ascend m k.ascending) (goes l m h k) (goes m l k h)
    where
      goes : (l m : List Test) → Enumerates after y l → Enumerates after y m → (p : Path) → In p (paths l) → In p (paths m)
      goes l m h k p i =
          let r = in_paths p l i in
          let real = h.real r.0 r.1 in
          let f = k.all (r.0).input real.within (λ a e. subst (λ w. Before a w) real.path (h.above r.0 r.1 a e)) in
          subst (λ w. In w (paths m)) (f.2 ∙ sym real.path ∙ sym r.2) (path_in f.0 m f.1)

  -- where a list enumerates all inputs, its tests above a path enumerate those above it
  pub those_above : (a : Path) (l m : List Test) → Enumerates None y l → Pairwise (λ t u. Before t.path u.path) m →
      ((t : Test) → In t m ↔ In t l × Before a t.path) → Enumerates (Some a) y m
  those_above a l m h k f = record {
    ascending = k;
    above = λ t i b e. let g : a ≡ b = cc e in subst (λ w. Before w t.path) g ((f t).0 i).1;
    real = λ t i. h.real t ((f t).0 i).0;
    all = λ i w ab. let r = h.all i w (λ b e. absurd (cc e)) in (r.0, (f r.0).1 (r.1, subst (λ w. Before a w) (sym r.2) (ab a refl)), r.2);
  }

module _ (y : Layer) (laws : Laws y) where
  -- ---- runs and paths

  abbrev pub pasts : List Item → List Test
  pasts [] = []
  pasts (test_item t ∷ l) = pasts l
  pasts (past_item t ∷ l) = t ∷ pasts l
  pasts (stray_item t p ∷ l) = pasts l
  pasts (spent_item p ∷ l) = pasts l
  pasts (unrun_item i p ∷ l) = pasts l

  abbrev pub listed : List Item → List Test
  listed [] = []
  listed (test_item t ∷ l) = t ∷ listed l
  listed (past_item t ∷ l) = t ∷ listed l
  listed (stray_item t p ∷ l) = listed l
  listed (spent_item p ∷ l) = listed l
  listed (unrun_item i p ∷ l) = listed l

  in_pasts : (t : Test) (l : List Item) → In t (pasts l) → In (past_item t) l
  in_pasts t [] i = absurd i
  in_pasts t (test_item u ∷ l) i = inr (in_pasts t l i)
  in_pasts t (past_item u ∷ l) (inl e) = inl (ap (λ v. past_item v) e)
  in_pasts t (past_item u ∷ l) (inr i) = inr (in_pasts t l i)
  in_pasts t (stray_item u p ∷ l) i = inr (in_pasts t l i)
  in_pasts t (spent_item p ∷ l) i = inr (in_pasts t l i)
  in_pasts t (unrun_item u p ∷ l) i = inr (in_pasts t l i)

  in_listed : (t : Test) (l : List Item) → In t (listed l) → Listed t l
  in_listed t [] i = absurd i
  in_listed t (test_item u ∷ l) (inl e) = inl (inl (ap (λ v. test_item v) e))
  in_listed t (test_item u ∷ l) (inr i) = elim (in_listed t l i) [ inl j ↦ inl (inr j) | inr j ↦ inr (inr j) ]
  in_listed t (past_item u ∷ l) (inl e) = inr (inl (ap (λ v. past_item v) e))
  in_listed t (past_item u ∷ l) (inr i) = elim (in_listed t l i) [ inl j ↦ inl (inr j) | inr j ↦ inr (inr j) ]
  in_listed t (stray_item u p ∷ l) i = elim (in_listed t l i) [ inl j ↦ inl (inr j) | inr j ↦ inr (inr j) ]
  in_listed t (spent_item p ∷ l) i = elim (in_listed t l i) [ inl j ↦ inl (inr j) | inr j ↦ inr (inr j) ]
  in_listed t (unrun_item u p ∷ l) i = elim (in_listed t l i) [ inl j ↦ inl (inr j) | inr j ↦ inr (inr j) ]

  -- each run has its line
  run_lines : (l : List Item) → count_by is_run l ≡ length (listed l) + count_by (is_stray) l
  run_lines [] = omega arith
  run_lines (test_item t ∷ l) = let r = run_lines l in omega (arith, r)
  run_lines (past_item t ∷ l) = let r = run_lines l in omega (arith, r)
  run_lines (stray_item t p ∷ l) = let r = run_lines l in omega (arith, r)
  run_lines (spent_item p ∷ l) = let r = run_lines l in omega (arith, r)
  run_lines (unrun_item i p ∷ l) = let r = run_lines l in omega (arith, r)

  two_kinds : (l : List Item) → length (listed l) ≡ length (tests l) + length (pasts l)
  two_kinds [] = omega arith
  two_kinds (test_item t ∷ l) = let r = two_kinds l in omega (arith, r)
  two_kinds (past_item t ∷ l) = let r = two_kinds l in omega (arith, r)
  two_kinds (stray_item t p ∷ l) = two_kinds l
  two_kinds (spent_item p ∷ l) = two_kinds l
  two_kinds (unrun_item i p ∷ l) = two_kinds l

  length_paths : (l : List Test) → length (paths l) ≡ length l
  length_paths [] = refl
  length_paths (t ∷ l) = ap suc (length_paths l)

  listed_key : (t : Test) (l : List Item) (P : Path → Type 0) → ((x : Item) → In x l → P (key x)) → Listed t l → P t.path
  listed_key t l P f (inl i) = f _ i
  listed_key t l P f (inr i) = f _ i

  listed_ascend : (l : List Item) → Ascending y laws l → Pairwise Before (paths (listed l))
  listed_ascend [] h = tt
  listed_ascend (test_item t ∷ l) h = (λ p i. let r = in_paths p (listed l) i in subst (λ w. Before t.path w) (sym r.2) (listed_key r.0 l (λ w. Before t.path w) h.0 (in_listed r.0 l r.1)), listed_ascend l h.1)
  listed_ascend (past_item t ∷ l) h = (λ p i. let r = in_paths p (listed l) i in subst (λ w. Before t.path w) (sym r.2) (listed_key r.0 l (λ w. Before t.path w) h.0 (in_listed r.0 l r.1)), listed_ascend l h.1)
  listed_ascend (stray_item t p ∷ l) h = listed_ascend l h.1
  listed_ascend (spent_item p ∷ l) h = listed_ascend l h.1
  listed_ascend (unrun_item i p ∷ l) h = listed_ascend l h.1

  -- the list holds each path within bounds that P holds of
  abbrev pub HasPaths : (Path → Type 0) → List Path → Type 0
  HasPaths P ps = (h : Input) → (y.runs).IsWithin h → P ((y.runs).path h) → In ((y.runs).path h) ps

  module _ (after : Option Path) (limit : ℕ) (l : Listing) (s : Sound after (y.runs) l.items) (c : Licensed after y limit l) (v : Covered after y l.items) (clean : l.terms ≡ []) where
    runs_are : count_by is_run l.items ≡ length (listed l.items)
    runs_are = let a = run_lines l.items in let b = no_strays y laws after limit l s c v clean in omega (arith, a, b)

    -- the test and past items have as many different paths as there are runs
    pub run_paths : (count_by is_run l.items ≡ length (paths (listed l.items))) × Different (paths (listed l.items))
    run_paths = let a = length_paths (listed l.items) in let b = runs_are in (omega (arith, a, b), different _ (listed_ascend l.items s.ascending))

    listed_within : (ps : List Path) → HasPaths (λ p. Unit {0}) ps → (p : Path) → In p (paths (listed l.items)) → In p ps
    listed_within ps h p i =
        let r = in_paths p _ i in
        let real = s.real r.0 (inl (in_listed r.0 l.items r.1)) in
        subst (λ w. In w ps) (sym real.path ∙ sym r.2) (h (r.0).input real.within tt)

    pub at_most_paths : (ps : List Path) → HasPaths (λ p. Unit {0}) ps → count_by is_run l.items ≤ length ps
    at_most_paths ps h = let k = no_more _ ps run_paths.1 (listed_within ps h) in let e = run_paths.0 in omega (arith, k, e)

    -- an input that was not run would take a path of its own
    unrun_begins : (i : Input) (w : Path) → In (unrun_item i w) l.items → BeginsWith ((y.runs).path i) w
    unrun_begins i w k =
        let cause = ((c.unrun i w k).0).1 in
        let src = cause.3 in
        let real = s.real src.0 (inl src.1) in
        let off = cause.4 in
        let u = ((c.unrun i w k).0).0 in
        let wu : (y.runs).IsWithin u = subst (λ x. (y.runs).IsWithin x) src.2 real.within in
        let cl : y.terms u ≡ [] = subst (λ x. y.terms x ≡ []) src.2 (run_clean y laws after limit l s c v clean src.0 (inl src.1)) in
        let a = laws.clean_whole u wu cl in
        let b = length_begins _ _ (off.0).1 in
        let d = length_next cause.0 (off.0).0 in
        subst (λ x. BeginsWith ((y.runs).path i) x) (sym cause.2)
        (laws.turns u i cause.0 cause.1 wu (s.unrun_within i w k) off (omega (arith, a, b, d)) (subst (λ x. y.Meets u x i) cause.2 cause.5))

    new_path : (i : Input) (w : Path) → In (unrun_item i w) l.items → (p : Path) → In p (paths (listed l.items)) → (y.runs).path i ≢ p
    new_path i w k p j e =
        let r = in_paths p _ j in
        s.closed r.0 w (in_listed r.0 l.items r.1) (inr (inr (i, k))) (subst (λ x. BeginsWith x w) (e ∙ r.2) (unrun_begins i w k))

    -- with room for each path, nothing is left unrun
    pub none_unrun : (ps : List Path) → HasPaths (λ p. Unit {0}) ps → length ps ≤ limit → (i : Input) (w : Path) → In (unrun_item i w) l.items → ⊥
    none_unrun ps h le i w k =
        let d : Different ((y.runs).path i ∷ paths (listed l.items)) = (new_path i w k, run_paths.1) in
        let n = no_more ((y.runs).path i ∷ paths (listed l.items)) ps d (λ p j. elim j [ inl e ↦ subst (λ x. In x ps) (sym e) (h i (s.unrun_within i w k) tt) | inr j' ↦ listed_within ps h p j' ]) in
        let e = run_paths.0 in
        let f = (c.unrun i w k).1 in
        omega (arith, n, e, f, le)

    module _ (a : Path) (ea : after ≡ Some a) where
      commons : List Test → List ℕ
      commons [] = []
      commons (t ∷ m) = in_common a t.path ∷ commons m

      in_commons : (n : ℕ) (m : List Test) → In n (commons m) → (t : Test) × In t m × (n ≡ in_common a t.path)
      unfolding commons
      in_commons n [] i = absurd i
      in_commons n (t ∷ m) (inl e) = (t, inl refl, e)
      in_commons n (t ∷ m) (inr i) = let r = in_commons n m i in (r.0, inr r.1, r.2)

      length_commons : (m : List Test) → length (commons m) ≡ length m
      unfolding commons
      length_commons [] = refl
      length_commons (t ∷ m) = ap suc (length_commons m)

      tail_lists : (x : Item) (k : List Item) → ((z : Item) → In z (x ∷ k) → In z l.items) → (z : Item) → In z k → In z l.items
      tail_lists x k h z i = h z (inr i)

      two_pasts : (t u : Test) → In (past_item t) l.items → In (past_item u) l.items → Before t.path u.path → in_common a t.path ≢ in_common a u.path
      two_pasts t u i j b e = let f : past_item t ≡ past_item u = s.pasts_part t u a i j ea e in let g : t ≡ u = cc f in before_irr u.path (subst (λ (w : Test). Before w.path u.path) g b)

      commons_differ : (k : List Item) → Ascending y laws k → ((x : Item) → In x k → In x l.items) → Different (commons (pasts k))
      unfolding commons
      commons_differ [] h f = tt
      commons_differ (test_item t ∷ k) h f = commons_differ k h.1 (tail_lists _ k f)
      commons_differ (stray_item t p ∷ k) h f = commons_differ k h.1 (tail_lists _ k f)
      commons_differ (spent_item p ∷ k) h f = commons_differ k h.1 (tail_lists _ k f)
      commons_differ (unrun_item i p ∷ k) h f = commons_differ k h.1 (tail_lists _ k f)
      commons_differ (past_item t ∷ k) h f = (
        λ n i e. let r = in_commons n (pasts k) i in
            let j = in_pasts r.0 k r.1 in
            two_pasts t r.0 (f _ (inl refl)) (f _ (inr j)) (h.0 _ j) (e ∙ r.2),
        commons_differ k h.1 (tail_lists _ k f),
      )

      pasts_below : (n : ℕ) → ((t : Test) → In (past_item t) l.items → in_common a t.path < n) → length (pasts l.items) ≤ n
      pasts_below n h =
          let k = few_below (commons (pasts l.items)) n (commons_differ l.items s.ascending (λ x i. i))
          (λ m i. let r = in_commons m (pasts l.items) i in subst (λ x. x < n) (sym r.2) (h r.0 (in_pasts r.0 l.items r.1))) in
          let e = length_commons (pasts l.items) in
          omega (arith, k, e)

      runs_split : count_by is_run l.items ≡ length (paths (tests l.items)) + length (pasts l.items)
      runs_split = let e = runs_are in let f = two_kinds l.items in let g = length_paths (tests l.items) in omega (arith, e, f, g)

      test_paths_in : (ps : List Path) → HasPaths (λ p. Before a p) ps → (p : Path) → In p (paths (tests l.items)) → In p ps
      test_paths_in ps h p i =
          let r = in_paths p _ i in
          let j = in_tests y laws r.0 l.items r.1 in
          let real = s.real r.0 (inl (inl j)) in
          subst (λ x. In x ps) (sym real.path ∙ sym r.2) (h (r.0).input real.within (subst (λ x. Before a x) real.path (s.tests_above r.0 j a ea)))

      tests_differ : Different (paths (tests l.items))
      tests_differ = different _ (paths_ascend (tests l.items) (tests_ascend y laws l.items s.ascending))

      pub none_unrun_after : (ps : List Path) → HasPaths (λ p. Before a p) ps → length ps + length a + 1 ≤ limit → (i : Input) (w : Path) → In (unrun_item i w) l.items → ⊥
      none_unrun_after ps h le i w k = elim (s.reached w (inr (inr (i, k))) a ea) [
        | inl b ↦ above b
        | inr b ↦ prefix b
      ]
        where
          full : count_by is_run l.items ≡ limit
          full = (c.unrun i w k).1

          above : Before a w → ⊥
          above b =
              let ab : Before a ((y.runs).path i) = above_under a w ((y.runs).path i) b (unrun_begins i w k) in
              let new : (p : Path) → In p (paths (tests l.items)) → (y.runs).path i ≢ p = λ p j e.
              let r = in_paths p _ j in
              s.closed r.0 w (inl (in_tests y laws r.0 l.items r.1)) (inr (inr (i, k))) (subst (λ x. BeginsWith x w) (e ∙ r.2) (unrun_begins i w k)) in
              let d : Different ((y.runs).path i ∷ paths (tests l.items)) = (new, tests_differ) in
              let n = no_more ((y.runs).path i ∷ paths (tests l.items)) ps d
              (λ p j. elim j [ inl e ↦ subst (λ x. In x ps) (sym e) (h i (s.unrun_within i w k) ab) | inr j' ↦ test_paths_in ps h p j' ]) in
              let m = pasts_below (suc (length a)) (λ t j. let q = common_most a t.path in omega (arith, q)) in
              let e = runs_split in
              let f = full in
              omega (arith, n, m, e, f, le)

          prefix : BeginsWith a w → ⊥
          prefix b =
              let n = no_more (paths (tests l.items)) ps tests_differ (test_paths_in ps h) in
              let m = pasts_below (length w) (λ t j. subst (λ x. in_common x t.path < length w) (sym b.1)
              (common_less w b.0 t.path (s.closed t w (inr j) (inr (inr (i, k)))))) in
              let q = length_begins a w b in
              let e = runs_split in
              let f = full in
              omega (arith, n, m, q, e, f, le)

  -- ---- completeness

  abbrev counts : (terms spent steps strays unrun : ℕ) → Counts
  counts a b c d e = record { terms = a; spent = b; steps = c; strays = d; unrun = e }

  pub record Easy : Type 0 where
    pub no_term : (h : Input) → (y.runs).IsWithin h → y.terms h ≡ []
    pub no_steps : (h : Input) → (y.runs).IsWithin h → at_steps ((y.runs).end h) ≡ 0
    pub no_spent : (u : Input) (q : Path) (o : Outcome) → (y.runs).IsWithin u → Offers y u q o → y.Answers u (next q o) spent → ⊥

  module _ (after : Option Path) (limit : ℕ) (l : Listing) (s : Sound after (y.runs) l.items) (c : Licensed after y limit l) (v : Covered after y l.items) (easy : Easy) where
    no_terms : l.terms ≡ []
    no_terms = none l.terms (λ e i. i)
      where
        none : (m : List Term) → ((e : Term) → In e m → In e l.terms) → m ≡ []
        none [] h = refl
        none (e ∷ m) h =
            let r = (c.terms e).0 (h e (inl refl)) in
            let real = s.real r.0 r.1 in
            absurd (subst (λ k. In e k) (easy.no_term (r.0).input real.within) r.2)

    no_spent_item : (p : Path) → In (spent_item p) l.items → ⊥
    no_spent_item p i =
        let r = c.spent p i in
        let src = r.4 in
        let real = s.real src.0 (inl src.1) in
        let wu : (y.runs).IsWithin r.0 = subst (λ x. (y.runs).IsWithin x) src.2 real.within in
        easy.no_spent r.0 r.1 r.2 wu r.5 (subst (λ x. y.Answers r.0 x spent) r.3 r.6)

    steps_none : (x : Item) → In x l.items → is_at_steps x ≡ 0
    steps_none (test_item t) i = let real = s.real t (inl (inl i)) in ap (at_steps) real.end ∙ easy.no_steps t.input real.within
    steps_none (past_item t) i = refl
    steps_none (stray_item t p) i = refl
    steps_none (spent_item p) i = refl
    steps_none (unrun_item i' p) i = refl

    spent_none : (x : Item) → In x l.items → is_spent x ≡ 0
    spent_none (test_item t) i = refl
    spent_none (past_item t) i = refl
    spent_none (stray_item t p) i = refl
    spent_none (spent_item p) i = absurd (no_spent_item p i)
    spent_none (unrun_item i' p) i = refl

    unrun_none : ((i : Input) (w : Path) → In (unrun_item i w) l.items → ⊥) → (x : Item) → In x l.items → is_unrun x ≡ 0
    unrun_none n (test_item t) i = refl
    unrun_none n (past_item t) i = refl
    unrun_none n (stray_item t p) i = refl
    unrun_none n (spent_item p) i = refl
    unrun_none n (unrun_item i' p) i = absurd (n i' p i)

    no_count : ((i : Input) (w : Path) → In (unrun_item i w) l.items → ⊥) → IsComplete l
    no_count n = all_zero _ _ _ _ _
        (ap length no_terms)
        (count_zero y laws is_spent l.items spent_none)
        (count_zero y laws is_at_steps l.items steps_none)
        (no_strays y laws after limit l s c v no_terms)
        (count_zero y laws is_unrun l.items (unrun_none n))
      where
        all_zero : (a b c d e : ℕ) → a ≡ 0 → b ≡ 0 → c ≡ 0 → d ≡ 0 → e ≡ 0 → counts a b c d e ≡ counts 0 0 0 0 0
        all_zero a b c d e f g h j k = cc (f, g, h, j, k)

    -- a search with enough runs is complete, without and with a path after which to go on
    pub complete : (ps : List Path) → HasPaths (λ p. Unit {0}) ps → length ps ≤ limit → IsComplete l
    complete ps h le = no_count (none_unrun after limit l s c v no_terms ps h le)

    pub complete_after : (a : Path) → after ≡ Some a → (ps : List Path) → HasPaths (λ p. Before a p) ps → length ps + length a + 1 ≤ limit → IsComplete l
    complete_after a ea ps h le = no_count (none_unrun_after after limit l s c v no_terms a ea ps h le)

    -- the runs are the Test and Past items
    pub runs_listed : count_by is_run l.items ≡ length (tests l.items) + length (pasts l.items)
    runs_listed = let a = runs_are after limit l s c v no_terms in let b = two_kinds l.items in omega (arith, a, b)
