-- The loop as a whole.
use Rattle.std.proofs.Common.{◌≡◌, ℕ, ◌≤◌, Bool, true, false, List, [], ◌∷◌, ◌++◌, length, Option, None, refl, sym, ap, ◌∙◌, subst, arith, append_assoc}
use Rattle.cc_base.specs.declared.outcomes.Outcome.{Outcome}
use Rattle.cc_base.specs.Paths.{Path}
use Rattle.search_dfs.specs.Laws.{Laws}
use Rattle.search_dfs.specs.Search.{State, below, start, cut_below}
use Rattle.search_dfs.proofs.Searched.{search_sound}
use Rattle.search_dfs.proofs.Whole.{search_licensed, search_covered}
use Rattle.search_base.specs.Setting.{Setting, layer_of, base_of}
use Rattle.search_dfs.specs.declared.open.Pending.{Pending}
use Rattle.search_dfs.specs.declared.open.Open.{Open}
use Rattle.search_dfs.proofs.Outputs.{wrote_more, some_more, some_none}
use Rattle.search_dfs.specs.Stack.{Does, Rest, Under, left_at, Levels}
use Rattle.search_dfs.specs.Turns.{levels_of, runs_of, Begins, Ready, UnderOf, Went, WentSome, Turn, TurnSome, Stopped_at}
use Rattle.search_dfs.specs.Output.{Items, Out}
use Rattle.search_dfs.specs.Whole.{Listed_whole, Listed_part, Running}

module _ (p : Setting) (laws : Laws (layer_of p)) (after : Option Path) (limit : ℕ) where
  abbrev I : Type 0
  I = Items

  nil_append : {A : Type 0} → (l : List A) → l ++ [] ≡ l
  nil_append [] = refl
  nil_append (x ∷ l) = ap (λ m. x ∷ m) (nil_append l)

  -- a turn
  pub turned : (b c : Open) (was mid now : Out) → Running p after limit b was mid → Turn p after limit (levels_of b) (runs_of b) b c mid now → Running p after limit c was now
  turned b c was mid now r t = let g = t.ahead r.state r.matches in record {
    items = r.items ++ t.items;
    wrote = wrote_more p r.items t.items was mid now r.wrote t.wrote;
    fits = t.fits;
    state = g.0;
    matches = g.1;
    ahead = λ cuts s a h. subst (λ l. Does p after limit cuts (below [] (base_of p)) start l s) (sym (append_assoc r.items t.items a))
        (r.ahead cuts s (t.items ++ a) (g.2 cuts s a h));
  }

  -- a refusal
  pub broken : (b : Open) (was mid now : Out) → Running p after limit b was mid → TurnSome p after limit (levels_of b) (runs_of b) b mid now → Listed_part p after limit was now
  broken b was mid now r t = let g = t.ahead r.state r.matches in record {
    items = r.items ++ t.items;
    wrote = some_more p r.items t.items was mid now r.wrote t.wrote;
    sound = search_sound (layer_of p) laws after limit true _ (g.0, r.ahead true g.0 t.items g.1);
  }

  rest_none : (cuts : Bool) (ls : List (List Outcome)) (rs : List Pending) (s : State) → length ls ≡ 0 → Rest p after limit cuts ls rs s [] s
  rest_none cuts [] rs s e = (refl, refl)
  rest_none cuts (os ∷ ls) rs s e = absurd (omega (arith, e))

  -- the end
  pub done : (b : Open) (was now : Out) → 1 ≤ limit → Running p after limit b was now → b.depth ≡ 0 → Listed_whole p after limit was now
  done b was now le r e =
      let z : (cuts : Bool) → Does p after limit cuts (below [] (base_of p)) start r.items r.state = λ cuts.
      subst (λ l. Does p after limit cuts (below [] (base_of p)) start l r.state) (nil_append r.items)
      (r.ahead cuts r.state [] (rest_none cuts (levels_of b) (runs_of b) r.state (sym (r.fits).depth ∙ e))) in
      record {
        items = r.items;
        wrote = r.wrote;
        sound = search_sound (layer_of p) laws after limit false r.items (r.state, z false);
        licensed = λ b es up all. search_licensed (layer_of p) laws after limit b r.items es (r.state, z false) le (up, all);
        covered = search_covered (layer_of p) laws after limit r.items (r.state, z false);
      }

  pub begins_ready : (b : Open) (v : Pending) → Begins p b v → Ready p b v []
  begins_ready b v g =
      let d = g.depth in
      let f = g.from in
      record {
        runs = g.runs;
        trace = g.trace;
        from = omega (arith, f, d);
        short = omega (arith, d);
        most = g.most;
        depth = g.depth ∙ ap length (sym g.none);
        levels = subst (λ ls. Levels p ls (left_at b.depth (v ∷ []))) (sym g.none) tt;
      }

  from_under : (b : Open) (v : Pending) → Begins p b v → (cuts : Bool) (s t : State) (a : I) → UnderOf p after limit cuts (levels_of b) (runs_of b) s a t → Does p after limit cuts (below [] (base_of p)) s a t
  from_under b v g cuts s t a h =
      let h2 : Under p after limit cuts [] v [] s a t = subst (λ ls. UnderOf p after limit cuts ls (v ∷ []) s a t) g.none (subst (λ rs. UnderOf p after limit cuts (levels_of b) rs s a t) g.runs h) in
      end_of h2
    where
      end_of : Under p after limit cuts [] v [] s a t → Does p after limit cuts (below [] (base_of p)) s a t
      end_of (x, y, m, e, d, n) =
          let f : a ≡ x = e ∙ ap (λ l. x ++ l) n.0 ∙ nil_append x in
          subst (λ i. Does p after limit cuts (below [] i) s a t) g.base
          (subst (λ w. Does p after limit cuts (below [] (v.trace).input) s a w) (sym n.1)
          (subst (λ w. Does p after limit cuts (below [] (v.trace).input) s w m) (sym f) d))

  pub begun : (b c : Open) (v : Pending) (was now : Out) → Begins p b v → Went p after limit b c was now → Running p after limit c was now
  begun b c v was now g w = record {
    items = w.items;
    wrote = w.wrote;
    fits = w.fits;
    state = record { made = 1; unrun = None };
    matches = record { made = w.made ∙ g.made; unrun = subst (λ t. Stopped_at t None) (sym (w.stopped ∙ g.stopped)) refl };
    ahead = λ cuts t a h. from_under b v g cuts (record { made = 1; unrun = None }) t (w.items ++ a) (w.ahead cuts (record { made = 1; unrun = None }) t a h);
  }

  pub begun_some : (b : Open) (v : Pending) (was now : Out) → Begins p b v → WentSome p after limit b was now → Listed_part p after limit was now
  begun_some b v was now g w = record {
    items = w.items;
    wrote = w.wrote;
    sound = search_sound (layer_of p) laws after limit true w.items (_, from_under b v g true (record { made = 1; unrun = None }) _ w.items (w.ahead (record { made = 1; unrun = None })));
  }

  -- a refusal before anything was written
  pub nothing_yet : (was now : Out) → now ≡ was → Listed_part p after limit was now
  nothing_yet was now e = record {
    items = [];
    wrote = some_none p was now e;
    sound = search_sound (layer_of p) laws after limit true [] (record { made = 1; unrun = None }, cut_below [] (base_of p) (record { made = 1; unrun = None }) refl);
  }
