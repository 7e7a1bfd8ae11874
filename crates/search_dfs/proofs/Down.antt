-- Going into the last run.
use Rattle.std.proofs.Common.{◌≡◌, ◌≢◌, ℕ, suc, ◌+◌, ◌-◌, ◌*◌, ◌<◌, ◌≤◌, Bool, true, ◌↔◌, inl, inr, List, [], ◌∷◌, ◌++◌, length, Option, Some, None, refl, sym, ap, ap₂, ◌∙◌, subst, arith, length-append, get_or, IsSome}
use Rattle.std.proofs.Math.Nat.{mul-le-mul_left}
use Rattle.std.proofs.lemmas.Bool.Decides.{eqb_tells}
use Rattle.std.proofs.Common.{if◌then◌else◌}
use Rattle.std.specs.Option.{option_to_list}
use Rattle.cc_base.specs.declared.outcomes.Outcome.{Outcome}
use Rattle.cc_base.specs.Paths.{Path}
use Rattle.cc_model.specs.Listing.{Item, test_item, past_item, Above, NotAbove}
use Rattle.search_dfs.specs.Search.{State, test_of}
use Rattle.search_base.specs.Setting.{Setting, layer_of}
use Rattle.search_dfs.specs.declared.open.Pending.{Pending}
use Rattle.search_dfs.specs.declared.open.Open.{Open}
use Rattle.search_dfs.specs.Setting.{ChoicesOf, own_at}
use Rattle.search_dfs.specs.Stack.{last_first, left_at, path_of_run, Level, Levels, Rest, Under}
use Rattle.search_dfs.specs.Turns.{levels_of, runs_of, Fits_open, Ready, UnderOf, Went, WentSome, weight, cost}
use Rattle.search_dfs.specs.Output.{Items, Out, Wrote, WroteSome}
use Rattle.path_tree.specs.Branches.{Branches}
use Rattle.search_dfs.proofs.Outputs.{wrote_none, some_none}
use Rattle.search_dfs.proofs.Loop.{ended_test, ended_past, pushed, cut_off}
use Rattle.search_dfs.specs.Search.{cut_below}

-- ---- the last of a list

last_snoc : (l : List Pending) (x d : Pending) → get_or (l ++ (x ∷ [])) (length l) d ≡ x
last_snoc [] x d = refl
last_snoc (a ∷ l) x d = last_snoc l x d

-- a list that is not empty has a last one
data Ends (l : List Pending) : Type 0 where
  ends : (k : List Pending) (x : Pending) → l ≡ k ++ (x ∷ []) → Ends l

ends_of : (a : Pending) (l : List Pending) → Ends (a ∷ l)
ends_of a [] = ends [] a refl
ends_of a (b ∷ l) = elim (ends_of b l) [ ends k x e ↦ ends (a ∷ k) x (ap (λ m. a ∷ m) e) ]

pub snoc_first : (k : List Pending) (x : Pending) → last_first (k ++ (x ∷ [])) ≡ x ∷ last_first k
snoc_first [] x = refl
snoc_first (a ∷ k) x = ap (λ m. m ++ (a ∷ [])) (snoc_first k x)

cons_head : (a b : Pending) (l m : List Pending) → a ∷ l ≡ b ∷ m → a ≡ b
cons_head a b l m e = cc e

cons_tail : (a b : Pending) (l m : List Pending) → a ∷ l ≡ b ∷ m → l ≡ m
cons_tail a b l m e = cc e

pub last_is : (l : List Pending) (r d : Pending) (rs : List Pending) → last_first l ≡ r ∷ rs → get_or l (length l - 1) d ≡ r
last_is [] r d rs e = absurd (cc e)
last_is (a ∷ l) r d rs e = elim (ends_of a l) [ ends k x f ↦ at k x f ]
  where
    at : (k : List Pending) (x : Pending) → (a ∷ l) ≡ k ++ (x ∷ []) → get_or (a ∷ l) (length (a ∷ l) - 1) d ≡ r
    at k x f =
        let n : length (a ∷ l) ≡ length k + 1 = ap length f ∙ length-append k (x ∷ []) in
        let i : length (a ∷ l) - 1 ≡ length k = omega (arith, n) in
        let g : x ≡ r = cons_head x r (last_first k) rs (sym (snoc_first k x) ∙ ap last_first (sym f) ∙ e) in
        ap₂ (λ m j. get_or m j d) f i ∙ last_snoc k x d ∙ g

pub popped : (l k : List Pending) (x : Option Pending) (r : Pending) (rs : List Pending) → l ≡ k ++ option_to_list x → (IsSome x ↔ (0 < length l)) → last_first l ≡ r ∷ rs → last_first k ≡ rs
popped l k (Some z) r rs e n f = cons_tail z r (last_first k) rs (sym (snoc_first k z) ∙ ap last_first (sym e) ∙ f)
popped [] k None r rs e n f = absurd (cc f)
popped (a ∷ l) k None r rs e n f = absurd (not_some (n.1 (omega arith)))
  where
    not_some : IsSome {T = Pending} None → ⊥
    not_some h = cc h

-- a new level costs less than an outcome of the level above it
pub heavier : (os : List Outcome) (ls : List (List Outcome)) → length os ≤ 29 → weight (os ∷ ls) ≤ weight ls + 29 * cost (1024 - length ls) + 1
unfolding weight
heavier os ls h = let k = mul-le-mul_left (cost (1024 - length ls)) h in omega (arith, k)

module _ (p : Setting) (after : Option Path) (limit : ℕ) where
  -- the last run, as the code reads it
  pub top_is : (b : Open) (r run : Pending) (rs : List Pending) (n : ℕ) → Ready p b r rs → n ≡ length b.runs → run ≡ get_or b.runs (n - 1) run → run ≡ r
  top_is b r run rs n d e f = f ∙ ap (λ k. get_or b.runs (k - 1) run) e ∙ last_is b.runs r run rs d.runs

  under_of : (cuts : Bool) (ls : List (List Outcome)) (r : Pending) (rs ks : List Pending) (s t : State) (a : Items) → ks ≡ r ∷ rs →
      Under p after limit cuts ls r rs s a t → UnderOf p after limit cuts ls ks s a t
  under_of cuts ls r rs ks s t a e h = subst (λ w. UnderOf p after limit cuts ls w s a t) (sym e) h

  left_depth : (b : Open) (r : Pending) (rs : List Pending) → Ready p b r rs → left_at b.depth (r ∷ rs) ≡ left_at (length (levels_of b)) (r ∷ rs)
  left_depth b r rs d = ap (λ k. left_at k (r ∷ rs)) d.depth

  rest_cut : (b : Open) (r : Pending) (rs : List Pending) (s : State) → Ready p b r rs → Rest p after limit true (levels_of b) (left_at (length (levels_of b)) (r ∷ rs)) s [] s
  rest_cut b r rs s d = cut_off p after limit true (levels_of b) (left_at (length (levels_of b)) (r ∷ rs)) s refl (subst (λ w. Levels p (levels_of b) w) (left_depth b r rs d) d.levels)

  -- nothing was written, and the search was refused
  pub refused : (b : Open) (r : Pending) (rs : List Pending) (old now : Out) → Ready p b r rs → now ≡ old → WentSome p after limit b old now
  refused b r rs old now d e = record {
    items = [];
    wrote = some_none p old now e;
    ahead = λ s. under_of true (levels_of b) r rs (runs_of b) s s [] d.runs
        ([], [], s, refl, cut_below _ _ s refl, rest_cut b r rs s d);
  }

  -- the run ends here: its line is refused
  pub refused_test : (b : Open) (r : Pending) (rs : List Pending) (old now : Out) → Ready p b r rs → b.depth ≡ length (path_of_run r) → Above after (path_of_run r) →
      WroteSome p (test_item (test_of (layer_of p) (r.trace).input) ∷ []) old now → WentSome p after limit b old now
  refused_test b r rs old now d e ab h = record {
    items = test_item (test_of (layer_of p) (r.trace).input) ∷ [];
    wrote = h;
    ahead = λ s. under_of true (levels_of b) r rs (runs_of b) s s _ d.runs
        (ended_test p after limit true (levels_of b) r rs s s [] (sym d.depth ∙ e) (d.trace).path (subst (λ w. Above after w) (d.trace).path ab) (rest_cut b r rs s d));
  }

  pub refused_past : (b : Open) (r : Pending) (rs : List Pending) (old now : Out) → Ready p b r rs → b.depth ≡ length (path_of_run r) → NotAbove after (path_of_run r) →
      WroteSome p (past_item (test_of (layer_of p) (r.trace).input) ∷ []) old now → WentSome p after limit b old now
  refused_past b r rs old now d e ab h = record {
    items = past_item (test_of (layer_of p) (r.trace).input) ∷ [];
    wrote = h;
    ahead = λ s. under_of true (levels_of b) r rs (runs_of b) s s _ d.runs
        (ended_past p after limit true (levels_of b) r rs s s [] (sym d.depth ∙ e) (d.trace).path (subst (λ w. NotAbove after w) (d.trace).path ab) (rest_cut b r rs s d));
  }

  -- the run ends here
  abbrev pub Stays : Open → Open → Pending → List Pending → Type 0
  Stays b c r rs = (c.tree ≡ b.tree) × (c.depth ≡ b.depth) × (c.made ≡ b.made) × (c.stopped ≡ b.stopped) × (runs_of c ≡ left_at b.depth (r ∷ rs))

  stays_fits : (b c : Open) (r : Pending) (rs : List Pending) → Ready p b r rs → Stays b c r rs → Fits_open p c
  stays_fits b c r rs d k = record {
    most = ap (λ (t : Branches). t.most) k.0 ∙ d.most;
    depth = k.1 ∙ d.depth ∙ ap (λ (t : Branches). length t.levels) (sym k.0);
    levels = subst (λ w. Levels p (levels_of c) w) (sym k.4) (subst (λ (t : Branches). Levels p t.levels (left_at b.depth (r ∷ rs))) (sym k.0) d.levels);
  }

  stays_ahead : (b c : Open) (r : Pending) (rs : List Pending) (x : Item) → Ready p b r rs → Stays b c r rs →
      ((cuts : Bool) (s t : State) (a : Items) → Rest p after limit cuts (levels_of b) (left_at (length (levels_of b)) (r ∷ rs)) s a t → Under p after limit cuts (levels_of b) r rs s (x ∷ a) t) →
      (cuts : Bool) (s t : State) (a : Items) → Rest p after limit cuts (levels_of c) (runs_of c) s a t → UnderOf p after limit cuts (levels_of b) (runs_of b) s (x ∷ a) t
  stays_ahead b c r rs x d k f cuts s t a h =
      let h2 = subst (λ w. Rest p after limit cuts (levels_of c) w s a t) (k.4 ∙ left_depth b r rs d) h in
      let h3 : Rest p after limit cuts (levels_of b) (left_at (length (levels_of b)) (r ∷ rs)) s a t = subst (λ (v : Branches). Rest p after limit cuts v.levels (left_at (length (levels_of b)) (r ∷ rs)) s a t) k.0 h2 in
      under_of cuts (levels_of b) r rs (runs_of b) s t (x ∷ a) d.runs (f cuts s t a h3)

  stays_less : (b c : Open) (r : Pending) (rs : List Pending) → Stays b c r rs → weight (levels_of c) ≤ weight (levels_of b) + 29 * cost (1024 - length (levels_of b)) + 1
  stays_less b c r rs k = let e : weight (levels_of c) ≡ weight (levels_of b) = ap (λ (t : Branches). weight t.levels) k.0 in omega (arith, e)

  pub went_test : (b c : Open) (r : Pending) (rs : List Pending) (old now : Out) → Ready p b r rs → Stays b c r rs → b.depth ≡ length (path_of_run r) → Above after (path_of_run r) →
      Wrote p (test_item (test_of (layer_of p) (r.trace).input) ∷ []) old now → Went p after limit b c old now
  went_test b c r rs old now d k e ab w = record {
    items = test_item (test_of (layer_of p) (r.trace).input) ∷ [];
    wrote = w;
    fits = stays_fits b c r rs d k;
    made = k.2;
    stopped = k.3;
    less = stays_less b c r rs k;
    ahead = stays_ahead b c r rs _ d k (λ cuts s t a h. ended_test p after limit cuts (levels_of b) r rs s t a (sym d.depth ∙ e) (d.trace).path (subst (λ w. Above after w) (d.trace).path ab) h);
  }

  pub went_past : (b c : Open) (r : Pending) (rs : List Pending) (old now : Out) → Ready p b r rs → Stays b c r rs → b.depth ≡ length (path_of_run r) → NotAbove after (path_of_run r) →
      Wrote p (past_item (test_of (layer_of p) (r.trace).input) ∷ []) old now → Went p after limit b c old now
  went_past b c r rs old now d k e ab w = record {
    items = past_item (test_of (layer_of p) (r.trace).input) ∷ [];
    wrote = w;
    fits = stays_fits b c r rs d k;
    made = k.2;
    stopped = k.3;
    less = stays_less b c r rs k;
    ahead = stays_ahead b c r rs _ d k (λ cuts s t a h. ended_past p after limit cuts (levels_of b) r rs s t a (sym d.depth ∙ e) (d.trace).path (subst (λ w. NotAbove after w) (d.trace).path ab) h);
  }

  -- the run goes on
  pub went_on : (b c : Open) (r : Pending) (rs : List Pending) (os : List Outcome) (old now : Out) → Ready p b r rs → (b.depth ≢ length (path_of_run r)) → ChoicesOf p (r.trace).input b.depth os →
      levels_of c ≡ os ∷ levels_of b → (c.tree).most ≡ (b.tree).most → c.depth ≡ b.depth + 1 → c.runs ≡ b.runs → c.made ≡ b.made → c.stopped ≡ b.stopped → now ≡ old → Went p after limit b c old now
  went_on b c r rs os old now d n ch e mo f g i j w =
      let sh = d.short in
      let dd = d.depth in
      let lt : length (levels_of b) < length (path_of_run r) = omega (arith, sh, n, dd) in
      let ch2 : ChoicesOf p (r.trace).input (length (levels_of b)) os = subst (λ k. ChoicesOf p (r.trace).input k os) dd ch in
      let fr = d.from in
      let rc : runs_of c ≡ r ∷ rs = ap (λ (v : List Pending). last_first v) g ∙ d.runs in
      let lv : Level p r (length (levels_of b)) os = record {
        trace = d.trace;
        event = lt;
        from = omega (arith, fr, dd);
        open_ones = λ o h. elim ((ch2.all o).0 h) [ inl q ↦ inl (q ∙ ap (own_at (length (levels_of b))) (sym (d.trace).path)) | inr q ↦ inr q ];
      } in
      record {
        items = [];
        wrote = wrote_none p old now w;
        fits = record {
          most = mo ∙ d.most;
          depth = f ∙ (let m : length (levels_of c) ≡ suc (length (levels_of b)) = ap length e in omega (arith, m, dd));
          levels = subst (λ v. Levels p v (runs_of c)) (sym e) (subst (λ v. Levels p (os ∷ levels_of b) v) (sym rc)
              (lv, subst (λ v. Levels p (levels_of b) v) (left_depth b r rs d) d.levels));
        };
        made = i;
        stopped = j;
        less = subst (λ v. weight v ≤ weight (levels_of b) + 29 * cost (1024 - length (levels_of b)) + 1) (sym e) (heavier os (levels_of b) ch.few);
        ahead = λ cuts s t a h. under_of cuts (levels_of b) r rs (runs_of b) s t a d.runs
            (pushed p after limit cuts os (levels_of b) r rs s t a d.trace lt ch2 (subst (λ v. Rest p after limit cuts v (r ∷ rs) s a t) e (subst (λ v. Rest p after limit cuts (levels_of c) v s a t) rc h)));
      }

pub left_same : (k : ℕ) (r : Pending) (rs : List Pending) → r.from ≡ k → left_at k (r ∷ rs) ≡ rs
left_same k r rs h = elim (eqb_tells r.from k) [
  | inl q ↦ ap (λ b. if b then rs else r ∷ rs) q.0
  | inr q ↦ absurd (q.1 h)
]

pub left_more : (k : ℕ) (r : Pending) (rs : List Pending) → (r.from ≢ k) → left_at k (r ∷ rs) ≡ r ∷ rs
left_more k r rs h = elim (eqb_tells r.from k) [
  | inl q ↦ absurd (h q.1)
  | inr q ↦ ap (λ b. if b then rs else r ∷ rs) q.0
]

module _ (p : Setting) where
  pub left_pop : (b : Open) (r : Pending) (rs ks : List Pending) (x : Option Pending) → Ready p b r rs → r.from ≡ b.depth →
      b.runs ≡ ks ++ option_to_list x → (IsSome x ↔ (0 < length b.runs)) → last_first ks ≡ left_at b.depth (r ∷ rs)
  left_pop b r rs ks x d e f n = popped b.runs ks x r rs f n d.runs ∙ sym (left_same b.depth r rs e)

  pub left_stay : (b : Open) (r : Pending) (rs : List Pending) → Ready p b r rs → (r.from ≢ b.depth) → runs_of b ≡ left_at b.depth (r ∷ rs)
  left_stay b r rs d n = d.runs ∙ sym (left_more b.depth r rs n)
