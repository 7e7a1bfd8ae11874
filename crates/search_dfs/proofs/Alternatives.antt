-- One turn: a level is released, or the least open outcome is taken off it and tried.
use Rattle.std.proofs.Common.{◌≡◌, ◌≢◌, ℕ, suc, ◌-◌, ◌<◌, true, ◌↔◌, inl, inr, List, [], ◌∷◌, ◌++◌, length, Option, IsSome, refl, sym, ap, ◌∙◌, subst, arith, get_or, if◌then◌else◌}
use Rattle.std.proofs.lemmas.Bool.Decides.{eqb_tells}
use Rattle.std.specs.Option.{option_to_list}
use Rattle.cc_base.specs.declared.outcomes.Outcome.{Outcome}
use Rattle.cc_base.specs.Paths.{Path}
use Rattle.search_dfs.specs.Search.{State}
use Rattle.search_base.specs.Setting.{Setting}
use Rattle.search_dfs.specs.declared.open.Pending.{Pending}
use Rattle.search_dfs.specs.declared.open.Open.{Open}
use Rattle.path_tree.specs.Branches.{NoneOpen}
use Rattle.search_dfs.specs.Stack.{last_first, left_at, Level, Levels, Rest}
use Rattle.search_dfs.specs.Turns.{levels_of, runs_of, Fits_open, Taken, Matches, Stopped_at, Turn, TurnSome, weight}
use Rattle.search_dfs.specs.Output.{Out}
use Rattle.search_dfs.proofs.Outputs.{wrote_none}
use Rattle.search_dfs.proofs.Loop.{released}
use Rattle.search_dfs.proofs.Down.{last_is, popped}

pub open_level : (ks : List (List Outcome)) (n : ℕ) → n ≡ length ks → 0 < n → NoneOpen ks → (ls : List (List Outcome)) × (ks ≡ [] ∷ ls)
open_level ks n e h (inl f) = let g = ap length f in absurd (omega (arith, e, h, g))
open_level ks n e h (inr f) = f

lighter_none : (ls : List (List Outcome)) → weight ls < weight ([] ∷ ls)
unfolding weight
lighter_none ls = omega arith

pub runs_some : (p : Setting) (os : List Outcome) (ls : List (List Outcome)) (ks : List Pending) → Levels p (os ∷ ls) ks →
    (r : Pending) × (rs : List Pending) × (ks ≡ r ∷ rs) × Level p r (length ls) os × Levels p ls (left_at (length ls) (r ∷ rs))
runs_some p os ls [] h = absurd h
runs_some p os ls (r ∷ rs) h = (r, rs, refl, h.0, h.1)

-- how the runs stand once the last level is gone
pub left_after : (v ks : List Pending) (x : Option Pending) (r run : Pending) (rs : List Pending) (n k : ℕ) → last_first v ≡ r ∷ rs → n ≡ length v → run ≡ get_or v (n - 1) run → run.from ≡ k →
    v ≡ ks ++ option_to_list x → (IsSome x ↔ (0 < length v)) → last_first ks ≡ left_at k (r ∷ rs)
left_after v ks x r run rs n k e ln g f d s =
    let i : run ≡ r = g ∙ ap (λ m. get_or v (m - 1) run) ln ∙ last_is v r run rs e in
    popped v ks x r rs d s e
    ∙ sym (elim (eqb_tells r.from k) [ inl q ↦ ap (λ b. if b then rs else r ∷ rs) q.0 | inr q ↦ absurd (q.1 (ap (λ (t : Pending). t.from) (sym i) ∙ f)) ])

pub left_before : (v : List Pending) (r run : Pending) (rs : List Pending) (n k : ℕ) → last_first v ≡ r ∷ rs → n ≡ length v → run ≡ get_or v (n - 1) run → (run.from ≢ k) → last_first v ≡ left_at k (r ∷ rs)
left_before v r run rs n k e ln g f =
    let i : run ≡ r = g ∙ ap (λ m. get_or v (m - 1) run) ln ∙ last_is v r run rs e in
    e ∙ sym (elim (eqb_tells r.from k) [ inl q ↦ absurd (f (ap (λ (t : Pending). t.from) i ∙ q.1)) | inr q ↦ ap (λ b. if b then rs else r ∷ rs) q.0 ])

module _ (p : Setting) (after : Option Path) (limit : ℕ) where
  pub released_turn : (b c : Open) (ls : List (List Outcome)) (r : Pending) (rs : List Pending) (was : Out) → Fits_open p b → levels_of b ≡ [] ∷ ls → runs_of b ≡ r ∷ rs →
      levels_of c ≡ ls → (c.tree).most ≡ (b.tree).most → c.depth ≡ b.depth - 1 → runs_of c ≡ left_at (b.depth - 1) (r ∷ rs) → c.made ≡ b.made → c.stopped ≡ b.stopped → Turn p after limit (levels_of b) (runs_of b) b c was was
  released_turn b c ls r rs was fit lb rb lc mo dc rc mc sc =
      let n : b.depth - 1 ≡ length ls = let d = fit.depth in let e : length (levels_of b) ≡ suc (length ls) = ap length lb in omega (arith, d, e) in
      let rc2 : runs_of c ≡ left_at (length ls) (r ∷ rs) = rc ∙ ap (λ k. left_at k (r ∷ rs)) n in
      let lv : Levels p ([] ∷ ls) (r ∷ rs) = subst (λ w. Levels p w (r ∷ rs)) lb (subst (λ w. Levels p (levels_of b) w) rb fit.levels) in
      record {
        items = [];
        wrote = wrote_none p was was refl;
        fits = record {
          most = mo ∙ fit.most;
          depth = dc ∙ n ∙ ap length (sym lc);
          levels = subst (λ w. Levels p w (runs_of c)) (sym lc) (subst (λ w. Levels p ls w) (sym rc2) lv.1);
        };
        less = subst (λ w. weight (levels_of c) < weight w) (sym lb) (subst (λ w. weight w < weight ([] ∷ ls)) (sym lc) (lighter_none ls));
        ahead = λ s m. (
          s,
          record { made = mc ∙ m.made; unrun = subst (λ t. Stopped_at t s.unrun) (sym sc) m.unrun },
          λ cuts t a h. subst (λ w. Rest p after limit cuts w (runs_of b) s a t) (sym lb) (subst (λ w. Rest p after limit cuts ([] ∷ ls) w s a t) (sym rb)
              (released p after limit cuts ls r rs s t a (subst (λ w. Rest p after limit cuts w (left_at (length ls) (r ∷ rs)) s a t) lc (subst (λ w. Rest p after limit cuts (levels_of c) w s a t) rc2 h)))),
        );
      }

  -- an outcome is taken off
  pub taken_of : (b c : Open) (o : Outcome) (os : List Outcome) (ls : List (List Outcome)) (r : Pending) (rs : List Pending) → Fits_open p b → levels_of b ≡ (o ∷ os) ∷ ls → levels_of c ≡ os ∷ ls → (c.tree).most ≡ (b.tree).most →
      runs_of b ≡ r ∷ rs → c.runs ≡ b.runs → c.depth ≡ b.depth → Taken p c o os ls r rs
  taken_of b c o os ls r rs fit lb lc mo rb rc dc =
      let lv : Levels p ((o ∷ os) ∷ ls) (r ∷ rs) = subst (λ w. Levels p w (r ∷ rs)) lb (subst (λ w. Levels p (levels_of b) w) rb fit.levels) in
      record { runs = ap (λ (v : List Pending). last_first v) rc ∙ rb; now = lc; most = mo ∙ fit.most; depth = dc ∙ fit.depth ∙ ap length lb; level = lv.0; levels = lv.1 }

  moved : (b c : Open) (s : State) → c.made ≡ b.made → c.stopped ≡ b.stopped → Matches b s → Matches c s
  moved b c s e f m = record { made = e ∙ m.made; unrun = subst (λ t. Stopped_at t s.unrun) (sym f) m.unrun }

  pub tried : (b c d : Open) (ks ls : List (List Outcome)) (js rs : List Pending) (was now : Out) → ks ≡ ls → js ≡ rs → c.made ≡ b.made → c.stopped ≡ b.stopped →
      Turn p after limit ls rs c d was now → Turn p after limit ks js b d was now
  tried b c d ks ls js rs was now e f g h t = record {
    items = t.items;
    wrote = t.wrote;
    fits = t.fits;
    less = subst (λ w. weight (levels_of d) < weight w) (sym e) t.less;
    ahead = λ s m. let k = t.ahead s (moved b c s g h m) in (
      k.0,
      k.1,
      λ cuts u a i.
          subst (λ w. Rest p after limit cuts w js s (t.items ++ a) u) (sym e) (subst (λ w. Rest p after limit cuts ls w s (t.items ++ a) u) (sym f) (k.2 cuts u a i)),
    );
  }

  pub tried_some : (b c : Open) (ks ls : List (List Outcome)) (js rs : List Pending) (was now : Out) → ks ≡ ls → js ≡ rs → c.made ≡ b.made → c.stopped ≡ b.stopped →
      TurnSome p after limit ls rs c was now → TurnSome p after limit ks js b was now
  tried_some b c ks ls js rs was now e f g h t = record {
    items = t.items;
    wrote = t.wrote;
    ahead = λ s m. let k = t.ahead s (moved b c s g h m) in (
      k.0,
      subst (λ w. Rest p after limit true w js s t.items k.0) (sym e) (subst (λ w. Rest p after limit true ls w s t.items k.0) (sym f) k.1),
    );
  }
