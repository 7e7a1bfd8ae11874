-- Each turn of the loop is one rule of the search.
use Rattle.std.proofs.Common.{take, ◌≡◌, ℕ, zero, suc, ◌<◌, ◌≤◌, Bool, true, ◌⊎◌, ◌↔◌, inl, inr, List, [], ◌∷◌, ◌++◌, length, Option, None, refl, sym, ap, ap₂, ◌∙◌, subst, arith, append_assoc, if◌then◌else◌}
use Rattle.std.proofs.lemmas.Bool.Decides.{eqb_tells}
use Rattle.cc_base.specs.declared.outcomes.Outcome.{Outcome}
use Rattle.cc_base.specs.Paths.{Path, In, next, BeginsWith}
use Rattle.cc_model.specs.Listing.{Item, test_item, past_item, Above, NotAbove}
use Rattle.search_dfs.specs.Search.{State, test_of, below, via, Asked, Turns, leaf_test, leaf_past, inner, cut, none, each, mine, gone}
use Rattle.search_base.specs.Setting.{Setting, layer_of, others_of, path_of}
use Rattle.search_dfs.specs.declared.open.Pending.{Pending}
use Rattle.search_dfs.specs.Setting.{TraceOf, ChoicesOf, own_at}
use Rattle.search_dfs.specs.Stack.{left_at, path_of_run, Level, Levels, Does, Rest, Under}
use Rattle.search_base.proofs.FirstLaws.{begins_first, first_whole}

-- ---- prefixes

pub first_own : (k : ℕ) (l : Path) → k < length l → take (suc k) l ≡ next (take k l) (own_at k l)
first_own k [] h = absurd (omega (arith, h))
first_own zero (o ∷ l) h = refl
first_own (suc k) (o ∷ l) h = ap (λ m. o ∷ m) (first_own k l (omega (arith, h)))

pub length_first : (k : ℕ) (l : Path) → k ≤ length l → length (take k l) ≡ k
length_first zero l h = refl
length_first (suc k) [] h = absurd (omega (arith, h))
length_first (suc k) (o ∷ l) h = ap suc (length_first k l (omega (arith, h)))

pub first_begins : (l q : Path) → BeginsWith l q → take (length q) l ≡ q
first_begins l [] h = refl
first_begins [] (o ∷ q) h = cc h.1
first_begins (a ∷ l) (o ∷ q) h = let e : a ≡ o = cc h.1 in let f : l ≡ q ++ h.0 = cc h.1 in ap₂ (λ x m. x ∷ m) e (first_begins l q (h.0, f))

left_other : (k : ℕ) (r : Pending) (rs : List Pending) → r.from < k → left_at k (r ∷ rs) ≡ r ∷ rs
left_other k r rs h = elim (eqb_tells r.from k) [
  | inl q ↦ absurd (let e = q.1 in omega (arith, e, h))
  | inr q ↦ ap (λ b. if b then rs else r ∷ rs) q.0
]

left_same : (k : ℕ) (r : Pending) (rs : List Pending) → r.from ≡ k → left_at k (r ∷ rs) ≡ rs
left_same k r rs h = elim (eqb_tells r.from k) [
  | inl q ↦ ap (λ b. if b then rs else r ∷ rs) q.0
  | inr q ↦ absurd (q.1 h)
]

module _ (p : Setting) (after : Option Path) (limit : ℕ) (cuts : Bool) where
  abbrev I : Type 0
  I = List Item

  -- a level with nothing unsettled
  pub released : (ls : List (List Outcome)) (r : Pending) (rs : List Pending) (s t : State) (a : I) →
      Rest p after limit cuts ls (left_at (length ls) (r ∷ rs)) s a t → Rest p after limit cuts ([] ∷ ls) (r ∷ rs) s a t
  released ls r rs s t a h = ([], a, s, refl, none _ _ _ s, h)

  -- an outcome of the deepest level that is settled at once
  pub one : (o : Outcome) (os : List Outcome) (ls : List (List Outcome)) (r : Pending) (rs : List Pending) (s m t : State) (e a : I) →
      Does p after limit cuts (via (take (length ls) (path_of_run r)) (r.trace).input (own_at (length ls) (path_of_run r)) o) s e m →
      Rest p after limit cuts (os ∷ ls) (r ∷ rs) m a t → Rest p after limit cuts ((o ∷ os) ∷ ls) (r ∷ rs) s (e ++ a) t
  one o os ls r rs s m t e a d h = (e ++ h.0, h.1, h.2, ap (λ l. e ++ l) h.3 ∙ sym (append_assoc e h.0 h.1), each _ _ _ o os s m h.2 e h.0 d h.4, h.5)

  -- the run's own outcome
  pub own : (o : Outcome) (os : List Outcome) (ls : List (List Outcome)) (r : Pending) (rs : List Pending) (s t : State) (a : I) →
      Level p r (length ls) (o ∷ os) → o ≡ own_at (length ls) (path_of_run r) →
      Under p after limit cuts (os ∷ ls) r rs s a t → Rest p after limit cuts ((o ∷ os) ∷ ls) (r ∷ rs) s a t
  own o os ls r rs s t a v e (b, c, m, f, d, h) =
      let le = v.from in
      let lo : r.from < length (os ∷ ls) = omega (arith, le) in
      let h2 : Rest p after limit cuts (os ∷ ls) (r ∷ rs) m c t = subst (λ w. Rest p after limit cuts (os ∷ ls) w m c t) (left_other (length (os ∷ ls)) r rs lo) h in
      let fo : take (length (os ∷ ls)) (path_of_run r) ≡ next (take (length ls) (path_of_run r)) (own_at (length ls) (path_of_run r)) = first_own (length ls) (path_of_run r) v.event in
      let d2 = subst (λ w. Does p after limit cuts (below w (r.trace).input) s b m) fo d in
      let d3 = subst (λ w. Does p after limit cuts (via (take (length ls) (path_of_run r)) (r.trace).input (own_at (length ls) (path_of_run r)) w) s b m) (sym e) (mine _ _ _ s m b d2) in
      subst (λ w. Rest p after limit cuts ((o ∷ os) ∷ ls) (r ∷ rs) s w t) (sym f) (one o os ls r rs s m t b c d3 h2)

  -- a new run that keeps its prediction
  pub entered : (o : Outcome) (os : List Outcome) (ls : List (List Outcome)) (v r : Pending) (rs : List Pending) (s t : State) (a : I) →
      length ls ≤ length (path_of_run r) → v.from ≡ length (os ∷ ls) →
      BeginsWith (path_of_run v) (next (take (length ls) (path_of_run r)) o) → path_of_run v ≡ path_of p (v.trace).input →
      Asked (layer_of p) after limit cuts (take (length ls) (path_of_run r)) (r.trace).input (own_at (length ls) (path_of_run r)) o s →
      Turns (layer_of p) after limit cuts (take (length ls) (path_of_run r)) (r.trace).input o (v.trace).input → s.made < limit →
      Under p after limit cuts (os ∷ ls) v (r ∷ rs) (record { made = suc s.made; unrun = None }) a t → Rest p after limit cuts ((o ∷ os) ∷ ls) (r ∷ rs) s a t
  entered o os ls v r rs s t a le fr b ep k c lt (b', c', m, f, d, h) =
      let q : Path = take (length ls) (path_of_run r) in
      let h2 = subst (λ w. Rest p after limit cuts (os ∷ ls) w m c' t) (left_same (length (os ∷ ls)) v (r ∷ rs) fr) h in
      let n : length (next q o) ≡ length (os ∷ ls) = length_step q o (length ls) (length_first (length ls) (path_of_run r) le) in
      let fo : take (length (os ∷ ls)) (path_of_run v) ≡ next q o = ap (λ w. take w (path_of_run v)) (sym n) ∙ first_begins (path_of_run v) (next q o) b in
      let d2 = subst (λ w. Does p after limit cuts (below w (v.trace).input) (record { made = suc s.made; unrun = None }) b' m) fo d in
      let b2 = subst (λ w. BeginsWith w (next q o)) ep b in
      subst (λ w. Rest p after limit cuts ((o ∷ os) ∷ ls) (r ∷ rs) s w t) (sym f)
      (one o os ls r rs s m t b' c' (gone q (r.trace).input (own_at (length ls) (path_of_run r)) o s m b' (v.trace).input k c lt b2 d2) h2)
    where
      length_step : (q : Path) (o : Outcome) (n : ℕ) → length q ≡ n → length (next q o) ≡ suc n
      length_step [] o n e = omega (arith, e)
      length_step (x ∷ q) o zero e = absurd (omega (arith, e))
      length_step (x ∷ q) o (suc n) e = ap suc (length_step q o n (omega (arith, e)))

  -- a run whose path ends here
  pub ended_test : (ls : List (List Outcome)) (r : Pending) (rs : List Pending) (s t : State) (a : I) →
      length ls ≡ length (path_of_run r) → path_of_run r ≡ path_of p (r.trace).input → Above after (path_of p (r.trace).input) →
      Rest p after limit cuts ls (left_at (length ls) (r ∷ rs)) s a t → Under p after limit cuts ls r rs s (test_item (test_of (layer_of p) (r.trace).input) ∷ a) t
  ended_test ls r rs s t a e f ab h = (test_item (test_of (layer_of p) (r.trace).input) ∷ [], a, s, refl, leaf_test _ _ s (sym f ∙ first_whole (length ls) (path_of_run r) e) ab, h)

  pub ended_past : (ls : List (List Outcome)) (r : Pending) (rs : List Pending) (s t : State) (a : I) →
      length ls ≡ length (path_of_run r) → path_of_run r ≡ path_of p (r.trace).input → NotAbove after (path_of p (r.trace).input) →
      Rest p after limit cuts ls (left_at (length ls) (r ∷ rs)) s a t → Under p after limit cuts ls r rs s (past_item (test_of (layer_of p) (r.trace).input) ∷ a) t
  ended_past ls r rs s t a e f ab h = (past_item (test_of (layer_of p) (r.trace).input) ∷ [], a, s, refl, leaf_past _ _ s (sym f ∙ first_whole (length ls) (path_of_run r) e) ab, h)

  -- a run that goes on: its outcomes here become the deepest level
  pub pushed : (os : List Outcome) (ls : List (List Outcome)) (r : Pending) (rs : List Pending) (s t : State) (a : I) →
      TraceOf p r.from r.trace r.path → length ls < length (path_of_run r) → ChoicesOf p (r.trace).input (length ls) os →
      Rest p after limit cuts (os ∷ ls) (r ∷ rs) s a t → Under p after limit cuts ls r rs s a t
  pushed os ls r rs s t a tr lt ch (b, c, m, f, d, h) =
      let l : Path = path_of_run r in
      let ln : length (take (length ls) l) ≡ length ls = length_first (length ls) l (omega (arith, lt)) in
      let bg : BeginsWith (path_of p (r.trace).input) (next (take (length ls) l) (own_at (length ls) l)) =
      subst (λ w. BeginsWith w (next (take (length ls) l) (own_at (length ls) l))) tr.path
      (subst (λ w. BeginsWith l w) (first_own (length ls) l lt) (begins_first (suc (length ls)) l)) in
      let all2 : (o : Outcome) → In o os ↔ ((o ≡ own_at (length ls) l) ⊎ In o (others_of p (r.trace).input (length (take (length ls) l)))) =
      subst (λ w. (o : Outcome) → In o os ↔ ((o ≡ own_at (length ls) l) ⊎ In o (others_of p (r.trace).input w))) (sym ln)
      (subst (λ w. (o : Outcome) → In o os ↔ ((o ≡ own_at (length ls) w) ⊎ In o (others_of p (r.trace).input (length ls)))) (sym tr.path) ch.all) in
      (b, c, m, f, inner _ _ s m b (own_at (length ls) l) os bg ch.ascend all2 d, h)

  -- where cuts are allowed nothing more need come
  pub cut_off : (ls : List (List Outcome)) (rs : List Pending) (s : State) → cuts ≡ true → Levels p ls rs → Rest p after limit cuts ls rs s [] s
  cut_off [] rs s e v = (refl, refl)
  cut_off (os ∷ ls) [] s e v = absurd v
  cut_off (os ∷ ls) (r ∷ rs) s e v = ([], [], s, refl, cut _ _ _ os s e, cut_off ls (left_at (length ls) (r ∷ rs)) s e v.1)
