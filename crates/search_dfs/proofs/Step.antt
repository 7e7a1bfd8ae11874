-- One outcome is tried.
use Rattle.std.proofs.Common.{take, ◌≡◌, ◌≢◌, ℕ, zero, suc, ◌+◌, ◌-◌, ◌*◌, ◌<◌, ◌≤◌, Bool, true, false, inl, inr, List, [], ◌∷◌, ◌++◌, length, Option, Some, None, refl, sym, ap, ◌∙◌, subst, arith, length-append, if◌then◌else◌}
use Rattle.std.proofs.lemmas.Bool.Decides.{eqb_tells}
use Rattle.cc_base.specs.declared.outcomes.Outcome.{Outcome}
use Rattle.cc_base.specs.Paths.{Path, In, next, BeginsWith}
use Rattle.cc_model.specs.Tested.{Offers, never, spent, turned}
use Rattle.cc_model.specs.Listing.{stray_item, spent_item, unrun_item, PassedOver, Reached}
use Rattle.search_dfs.specs.Search.{State, test_of, via, Asked, Turns, stopped, passed, never_one, spent_one, unrun_one, stray_one}
use Rattle.search_base.specs.Setting.{Setting, layer_of, others_of, path_of, within_of, meets_of}
use Rattle.cc_base.specs.declared.inputs.Input.{Input}
use Rattle.search_dfs.specs.declared.open.Pending.{Pending}
use Rattle.search_dfs.specs.declared.open.Open.{Open}
use Rattle.search_dfs.specs.Setting.{TraceOf, own_at}
use Rattle.search_dfs.specs.Stack.{last_first, left_at, path_of_run, Levels, Does, Rest}
use Rattle.search_dfs.specs.Turns.{levels_of, runs_of, Ready, Taken, Matches, Stopped_at, UnderOf, Went, WentSome, Turn, TurnSome, weight, cost}
use Rattle.search_dfs.specs.Output.{Items, Out, Wrote, WroteSome}
use Rattle.path_tree.specs.Branches.{Branches}
use Rattle.search_dfs.proofs.Outputs.{some_none}
use Rattle.search_base.proofs.FirstLaws.{begins_first}
use Rattle.search_dfs.proofs.Loop.{one, own, entered, cut_off, first_own, length_first}
use Rattle.search_dfs.specs.Setting.{Answered}
use Rattle.flip_solve.specs.declared.flipping.Turned.{Turned}

cost_some : (n : ℕ) → 0 < cost n
unfolding cost
cost_some zero = omega arith
cost_some (suc n) = omega arith

pub lighter : (o : Outcome) (os : List Outcome) (ls : List (List Outcome)) → weight (os ∷ ls) < weight ((o ∷ os) ∷ ls)
unfolding weight
lighter o os ls = let k = cost_some (1024 - length ls) in omega (arith, k)

cost_step : (n : ℕ) → n < 1024 → cost (1024 - n) ≡ 2 + 30 * cost (1024 - suc n)
unfolding cost
cost_step n h = let e : 1024 - n ≡ suc (1024 - suc n) = omega arith in ap cost e

-- an outcome pays for the level below it
pub pays : (o : Outcome) (os : List Outcome) (ls : List (List Outcome)) (w : ℕ) → length ls < 1024 →
    w ≤ weight (os ∷ ls) + 29 * cost (1024 - length (os ∷ ls)) + 1 → w < weight ((o ∷ os) ∷ ls)
unfolding weight
pays o os ls w lt h = let e = cost_step (length ls) lt in omega (arith, e, h)

left_more : (k : ℕ) (r : Pending) (rs : List Pending) → r.from < k → left_at k (r ∷ rs) ≡ r ∷ rs
left_more k r rs h = elim (eqb_tells r.from k) [
  | inl q ↦ absurd (let e = q.1 in omega (arith, e, h))
  | inr q ↦ ap (λ b. if b then rs else r ∷ rs) q.0
]

not_stopped : (b : Bool) (w : Option Path) → b ≡ false → Stopped_at b w → w ≡ None
not_stopped true w e h = absurd (cc e)
not_stopped false w e h = h

is_stopped : (b : Bool) (w : Option Path) → b ≡ true → Stopped_at b w → (v : Path) × (w ≡ Some v)
is_stopped true w e h = h
is_stopped false w e h = absurd (cc e)

module _ (p : Setting) (after : Option Path) (limit : ℕ) where
  module _ (b : Open) (o : Outcome) (os : List Outcome) (ls : List (List Outcome)) (r : Pending) (rs : List Pending) (T : Taken p b o os ls r rs) where
    abbrev pub u : Input
    u = (r.trace).input

    abbrev pub q : Path
    q = take (length ls) (path_of_run r)

    abbrev pub mine : Outcome
    mine = own_at (length ls) (path_of_run r)

    all_levels : Levels p ((o ∷ os) ∷ ls) (r ∷ rs)
    all_levels = (T.level, T.levels)

    rest_levels : Levels p (os ∷ ls) (r ∷ rs)
    rest_levels = (record { trace = (T.level).trace; event = (T.level).event; from = (T.level).from; open_ones = λ x i. (T.level).open_ones x (inr i) }, T.levels)

    -- a refusal before anything was written
    pub refused_turn : (was now : Out) → now ≡ was → TurnSome p after limit ((o ∷ os) ∷ ls) (r ∷ rs) b was now
    refused_turn was now e = record {
      items = [];
      wrote = some_none p was now e;
      ahead = λ s m. (s, cut_off p after limit true ((o ∷ os) ∷ ls) (r ∷ rs) s refl all_levels);
    }

    abbrev pub Same : Open → Type 0
    Same c = (c.tree ≡ b.tree) × (c.depth ≡ b.depth) × (c.runs ≡ b.runs)

    same_levels : (c : Open) → Same c → levels_of c ≡ os ∷ ls
    same_levels c k = ap (λ (t : Branches). t.levels) k.0 ∙ T.now

    same_runs : (c : Open) → Same c → runs_of c ≡ r ∷ rs
    same_runs c k = ap (λ (v : List Pending). last_first v) k.2 ∙ T.runs

    -- the outcome is settled by these items at once
    abbrev pub Settles : Open → Items → Type 0
    Settles c e = (s : State) → Matches b s → (m : State) × Matches c m × ((cuts : Bool) → Does p after limit cuts (via q u mine o) s e m)

    pub settled : (c : Open) (e : Items) (was now : Out) → Same c → Wrote p e was now → Settles c e → Turn p after limit ((o ∷ os) ∷ ls) (r ∷ rs) b c was now
    settled c e was now k w f = record {
      items = e;
      wrote = w;
      fits = record {
        most = ap (λ (t : Branches). t.most) k.0 ∙ T.most;
        depth = k.1 ∙ T.depth ∙ ap length (sym (same_levels c k));
        levels = subst (λ v. Levels p v (runs_of c)) (sym (same_levels c k)) (subst (λ v. Levels p (os ∷ ls) v) (sym (same_runs c k)) rest_levels);
      };
      less = subst (λ v. weight v < weight ((o ∷ os) ∷ ls)) (sym (same_levels c k)) (lighter o os ls);
      ahead = λ s m. let g = f s m in (
        g.0,
        g.1,
        λ cuts t a h.
            one p after limit cuts o os ls r rs s g.0 t e a (g.2 cuts)
            (subst (λ v. Rest p after limit cuts v (r ∷ rs) g.0 a t) (same_levels c k) (subst (λ v. Rest p after limit cuts (levels_of c) v g.0 a t) (same_runs c k) h)),
      );
    }

    -- its line is refused
    pub settled_some : (c : Open) (e : Items) (was now : Out) → WroteSome p e was now → Settles c e → TurnSome p after limit ((o ∷ os) ∷ ls) (r ∷ rs) b was now
    settled_some c e was now w f = record {
      items = e;
      wrote = w;
      ahead = λ s m. let g = f s m in (
        g.0,
        subst (λ v. Rest p after limit true ((o ∷ os) ∷ ls) (r ∷ rs) s v g.0) (nil_append e)
            (one p after limit true o os ls r rs s g.0 g.0 e [] (g.2 true) (cut_off p after limit true (os ∷ ls) (r ∷ rs) g.0 refl rest_levels)),
      );
    }
      where
        nil_append : (l : Items) → l ++ [] ≡ l
        nil_append [] = refl
        nil_append (c ∷ l) = ap (λ m. c ∷ m) (nil_append l)

    -- ---- what settles it

    pub offered : (o ≢ mine) → Offers (layer_of p) u q o
    offered n =
        let lv = T.level in
        let ln : length q ≡ length ls = length_first (length ls) (path_of_run r) (let e = lv.event in omega (arith, e)) in (
          (mine, subst (λ w. BeginsWith w (next q mine)) (lv.trace).path (subst (λ w. BeginsWith (path_of_run r) w) (first_own (length ls) (path_of_run r) lv.event) (begins_first (suc (length ls)) (path_of_run r)))),
          subst (λ k. In o (others_of p u k)) (sym ln) (elim (lv.open_ones o (inl refl)) [ inl e ↦ absurd (n e) | inr i ↦ i ]),
        )

    asked : (s : State) → (o ≢ mine) → b.stopped ≡ false → Reached after (next q o) → Matches b s → Asked (layer_of p) after limit false q u mine o s
    asked s n st re m = record { other = n; going = not_stopped b.stopped s.unrun st m.unrun; reached = re; offers = offered n }

    asked_any : (cuts : Bool) (s : State) → Asked (layer_of p) after limit false q u mine o s → Asked (layer_of p) after limit cuts q u mine o s
    asked_any cuts s k = record { other = k.other; going = k.going; reached = k.reached; offers = k.offers }

    turns_any : (cuts : Bool) (i : Input) → (layer_of p).Answers u (next q o) turned × within_of p i × meets_of p u (next q o) i → Turns (layer_of p) after limit cuts q u o i
    turns_any cuts i k = record { answer = k.0; within = k.1; meets = k.2 }

    pub by_stop : (o ≢ mine) → b.stopped ≡ true → Settles b []
    by_stop n st s m = let v = is_stopped b.stopped s.unrun st m.unrun in (s, m, λ cuts. stopped _ _ _ o s v.0 n v.1)

    pub by_pass : (o ≢ mine) → PassedOver after (next q o) → Settles b []
    by_pass n ps s m = (s, m, λ cuts. passed _ _ _ o s n ps)

    module _ (n : o ≢ mine) (st : b.stopped ≡ false) (re : Reached after (next q o)) where
      pub by_never : (layer_of p).Answers u (next q o) never → Settles b []
      by_never e s m = (s, m, λ cuts. never_one _ _ _ o s (asked_any cuts s (asked s n st re m)) e)

      pub by_spent : (layer_of p).Answers u (next q o) spent → Settles b (spent_item (next q o) ∷ [])
      by_spent e s m = (s, m, λ cuts. spent_one _ _ _ o s (asked_any cuts s (asked s n st re m)) e)

      module _ (i : Input) (tu : (layer_of p).Answers u (next q o) turned × within_of p i × meets_of p u (next q o) i) where
        pub by_unrun : (c : Open) → b.made ≡ limit → c.made ≡ b.made → c.stopped ≡ true → Settles c (unrun_item i (next q o) ∷ [])
        by_unrun c full cm cs s m = (
          record { made = s.made; unrun = Some (next q o) },
          record { made = cm ∙ m.made; unrun = subst (λ t. Stopped_at t (Some (next q o))) (sym cs) (next q o, refl) },
          λ cuts. unrun_one _ _ _ o s i (asked_any cuts s (asked s n st re m)) (turns_any cuts i tu) (sym m.made ∙ full),
        )

        pub by_stray : (c : Open) → b.made < limit → c.made ≡ b.made + 1 → c.stopped ≡ b.stopped → (BeginsWith (path_of p i) (next q o) → ⊥) → Settles c (stray_item (test_of (layer_of p) i) (next q o) ∷ [])
        by_stray c lt cm cs nb s m = let mm = m.made in (
          record { made = suc s.made; unrun = None },
          record { made = omega (arith, cm, mm); unrun = subst (λ t. Stopped_at t None) (sym (cs ∙ st)) refl },
          λ cuts. stray_one _ _ _ o s i (asked_any cuts s (asked s n st re m)) (turns_any cuts i tu) (omega (arith, lt, mm)) nb,
        )

        -- the new run keeps its prediction, and is gone into
        module _ (b2 : Open) (v : Pending) (vi : (v.trace).input ≡ i) (fr : v.from ≡ suc (length ls)) (vt : TraceOf p v.from v.trace v.path) (bg : BeginsWith (path_of_run v) (next q o))
            (lt : b.made < limit) (bt : b2.tree ≡ b.tree) (bd : b2.depth ≡ b.depth) (bm : b2.made ≡ b.made + 1) (bs : b2.stopped ≡ b.stopped) (br : runs_of b2 ≡ v ∷ r ∷ rs) where
          levels2 : levels_of b2 ≡ os ∷ ls
          levels2 = ap (λ (t : Branches). t.levels) bt ∙ T.now

          left2 : left_at b2.depth (v ∷ r ∷ rs) ≡ r ∷ rs
          left2 = elim (eqb_tells v.from b2.depth) [
            | inl k ↦ ap (λ t. if t then r ∷ rs else v ∷ r ∷ rs) k.0
            | inr k ↦ absurd (k.1 (fr ∙ sym T.depth ∙ sym bd))
          ]

          pub ready_gone : Ready p b2 v (r ∷ rs)
          ready_gone =
              let td = T.depth in
              let lb : length (next q o) ≤ length (path_of_run v) = length_le (path_of_run v) (next q o) bg in
              let ln : length (next q o) ≡ suc (length ls) = length-append q (o ∷ []) ∙ (let k = length_first (length ls) (path_of_run r) (let e = (T.level).event in omega (arith, e)) in omega (arith, k)) in
              record {
                runs = br;
                trace = vt;
                from = omega (arith, fr, td, bd);
                short = omega (arith, td, bd, lb, ln);
                most = ap (λ (t : Branches). t.most) bt ∙ T.most;
                depth = bd ∙ T.depth ∙ ap length (sym levels2);
                levels = subst (λ w. Levels p w (left_at b2.depth (v ∷ r ∷ rs))) (sym levels2) (subst (λ w. Levels p (os ∷ ls) w) (sym left2) rest_levels);
              }
            where
              length_le : (x w : Path) → BeginsWith x w → length w ≤ length x
              length_le x w h = let e : length x ≡ length w + length h.0 = ap length h.1 ∙ length-append w h.0 in omega (arith, e)

          ahead2 : (cuts : Bool) (s t : State) (a : Items) → Matches b s → UnderOf p after limit cuts (levels_of b2) (runs_of b2) (record { made = suc s.made; unrun = None }) a t → Rest p after limit cuts ((o ∷ os) ∷ ls) (r ∷ rs) s a t
          ahead2 cuts s t a m h =
              let h2 : UnderOf p after limit cuts (os ∷ ls) (v ∷ r ∷ rs) (record { made = suc s.made; unrun = None }) a t =
              subst (λ w. UnderOf p after limit cuts w (v ∷ r ∷ rs) (record { made = suc s.made; unrun = None }) a t) levels2
              (subst (λ w. UnderOf p after limit cuts (levels_of b2) w (record { made = suc s.made; unrun = None }) a t) br h) in
              let ev = (T.level).event in
              let mm = m.made in
              entered p after limit cuts o os ls v r rs s t a (omega (arith, ev)) fr bg vt.path (asked_any cuts s (asked s n st re m))
              (turns_any cuts (v.trace).input (subst (λ j. (layer_of p).Answers u (next q o) turned × within_of p j × meets_of p u (next q o) j) (sym vi) tu)) (omega (arith, lt, mm)) h2

          pub turn_gone : (c : Open) (was now : Out) → Went p after limit b2 c was now → Turn p after limit ((o ∷ os) ∷ ls) (r ∷ rs) b c was now
          turn_gone c was now w = record {
            items = w.items;
            wrote = w.wrote;
            fits = w.fits;
            less = pays o os ls _ (let a = (T.level).event in let d = ((T.level).trace).short in let g = ((T.level).trace).few in omega (arith, a, d, g)) (subst (λ x. weight (levels_of c) ≤ weight x + 29 * cost (1024 - length x) + 1) levels2 w.less);
            ahead = λ s m. let mm = m.made in let wm = w.made in (
              record { made = suc s.made; unrun = None },
              record { made = omega (arith, wm, bm, mm); unrun = subst (λ t. Stopped_at t None) (sym (w.stopped ∙ bs ∙ st)) refl },
              λ cuts t a h. ahead2 cuts s t (w.items ++ a) m (w.ahead cuts (record { made = suc s.made; unrun = None }) t a h),
            );
          }

          pub some_gone : (was now : Out) → WentSome p after limit b2 was now → TurnSome p after limit ((o ∷ os) ∷ ls) (r ∷ rs) b was now
          some_gone was now w = record {
            items = w.items;
            wrote = w.wrote;
            ahead = λ s m. (record { made = suc s.made; unrun = None }, ahead2 true s _ w.items m (w.ahead (record { made = suc s.made; unrun = None })));
          }

    -- ---- the run's own outcome

    left_mine : left_at b.depth (r ∷ rs) ≡ r ∷ rs
    left_mine = let f = (T.level).from in let d = T.depth in left_more b.depth r rs (omega (arith, f, d))

    pub ready_mine : Ready p b r rs
    ready_mine =
        let f = (T.level).from in
        let d = T.depth in
        let e = (T.level).event in
        record {
          runs = T.runs;
          trace = (T.level).trace;
          from = omega (arith, f, d);
          short = omega (arith, e, d);
          most = T.most;
          depth = T.depth ∙ ap length (sym T.now);
          levels = subst (λ w. Levels p w (left_at b.depth (r ∷ rs))) (sym T.now) (subst (λ w. Levels p (os ∷ ls) w) (sym left_mine) rest_levels);
        }

    ahead_mine : o ≡ mine → (cuts : Bool) (s t : State) (a : Items) → UnderOf p after limit cuts (levels_of b) (runs_of b) s a t → Rest p after limit cuts ((o ∷ os) ∷ ls) (r ∷ rs) s a t
    ahead_mine e cuts s t a h = own p after limit cuts o os ls r rs s t a T.level e
        (subst (λ w. UnderOf p after limit cuts w (r ∷ rs) s a t) T.now (subst (λ w. UnderOf p after limit cuts (levels_of b) w s a t) T.runs h))

    pub turn_mine : o ≡ mine → (c : Open) (was now : Out) → Went p after limit b c was now → Turn p after limit ((o ∷ os) ∷ ls) (r ∷ rs) b c was now
    turn_mine e c was now w = record {
      items = w.items;
      wrote = w.wrote;
      fits = w.fits;
      less = pays o os ls _ (let a = (T.level).event in let d = ((T.level).trace).short in let g = ((T.level).trace).few in omega (arith, a, d, g)) (subst (λ x. weight (levels_of c) ≤ weight x + 29 * cost (1024 - length x) + 1) T.now w.less);
      ahead = λ s m. (
        s,
        record { made = w.made ∙ m.made; unrun = subst (λ t. Stopped_at t s.unrun) (sym w.stopped) m.unrun },
        λ cuts t a h. ahead_mine e cuts s t (w.items ++ a) (w.ahead cuts s t a h),
      );
    }

    pub some_mine : o ≡ mine → (was now : Out) → WentSome p after limit b was now → TurnSome p after limit ((o ∷ os) ∷ ls) (r ∷ rs) b was now
    some_mine e was now w = record {
      items = w.items;
      wrote = w.wrote;
      ahead = λ s m. (s, ahead_mine e true s s w.items (w.ahead s));
    }

module _ (p : Setting) (b : Open) (o : Outcome) (os : List Outcome) (ls : List (List Outcome)) (r : Pending) (rs : List Pending) (T : Taken p b o os ls r rs) where
  pub depth_is : b.depth - 1 ≡ length ls
  depth_is = let d = T.depth in omega (arith, d)

  pub entered_before : r.from ≤ b.depth - 1
  entered_before = let d = depth_is in let f = (T.level).from in omega (arith, d, f)

  pub in_prefix : b.depth - 1 < length (path_of_run r)
  in_prefix = let d = depth_is in let e = (T.level).event in omega (arith, d, e)

  pub own_is : own_at (b.depth - 1) (path_of_run r) ≡ own_at (length ls) (path_of_run r)
  own_is = ap (λ k. own_at k (path_of_run r)) depth_is

  pub prefix_is : next (take (b.depth - 1) (path_of_run r)) o ≡ next (take (length ls) (path_of_run r)) o
  prefix_is = ap (λ k. next (take k (path_of_run r)) o) depth_is

  pub offered_at : (o ≢ own_at (length ls) (path_of_run r)) → In o (others_of p (r.trace).input (b.depth - 1))
  offered_at n = subst (λ k. In o (others_of p (r.trace).input k)) (sym depth_is) (elim ((T.level).open_ones o (inl refl)) [ inl e ↦ absurd (n e) | inr i ↦ i ])

  -- what a solve answers, by the run's path
  pub answered : (a : Turned) → Answered p (r.trace).input (next (take (b.depth - 1) (path_of p (r.trace).input)) o) a → Answered p (r.trace).input (next (take (length ls) (path_of_run r)) o) a
  answered a h = subst (λ k. Answered p (r.trace).input (next (take k (path_of_run r)) o) a) depth_is (subst (λ l. Answered p (r.trace).input (next (take (b.depth - 1) l) o) a) (sym ((T.level).trace).path) h)
