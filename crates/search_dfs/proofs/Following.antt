-- What comes of an alternative that is solved for, and of going into a run.
use Rattle.std.proofs.Common.{take, ◌≡◌, ◌≢◌, inl, ℕ, suc, ◌+◌, ◌<◌, ◌≤◌, true, List, [], ◌∷◌, ◌++◌, length, Option, refl, sym, ap, ap₂, ◌∙◌, subst, arith}
use Rattle.cc_base.specs.declared.ends.End.{End}
use Rattle.cc_base.specs.declared.inputs.Input.{Input}
use Rattle.cc_base.specs.declared.inputs.Test.{Test}
use Rattle.cc_base.specs.declared.outcomes.Outcome.{Outcome}
use Rattle.cc_base.specs.Paths.{Path, In, Ascend, next, BeginsWith}
use Rattle.cc_model.specs.Tested.{never, spent, turned}
use Rattle.cc_model.specs.Listing.{Item, test_item, past_item, stray_item, spent_item, unrun_item, Reached}
use Rattle.search_dfs.specs.declared.open.Open.{Open}
use Rattle.search_dfs.specs.declared.open.Pending.{Pending}
use Rattle.search_dfs.specs.Search.{test_of}
use Rattle.search_base.specs.Setting.{Setting, layer_of, path_of, within_of, meets_of}
use Rattle.search_dfs.specs.Setting.{TraceOf, ChoicesOf, own_at}
use Rattle.search_dfs.specs.Output.{Out, Wrote, WroteSome}
use Rattle.search_dfs.specs.Stack.{last_first, path_of_run}
use Rattle.search_dfs.specs.Turns.{levels_of, runs_of, Ready, Solving, Turned_to, Ends, as_test, as_past, Ended, EndedSome, test_at, Went, WentSome, Turn, TurnSome}
use Rattle.search_dfs.proofs.Outputs.{wrote_none}
use Rattle.search_dfs.proofs.Down.{Stays, went_test, went_past, refused_test, refused_past, snoc_first}
use Rattle.search_dfs.proofs.Step.{settled, settled_some, refused_turn, by_never, by_spent, by_unrun, by_stray, ready_gone, turn_gone, some_gone}

pub runs_there : (l : List Pending) (r : Pending) (rs : List Pending) → last_first l ≡ r ∷ rs → 0 < length l
runs_there [] r rs e = absurd (cc e)
runs_there (a ∷ l) r rs e = omega arith

pub test_is : (p : Setting) (r : Pending) → TraceOf p r.from r.trace r.path → test_at r ≡ test_of (layer_of p) (r.trace).input
test_is p r tr = let f : Path → End → Test = λ q e. record { path = q; end = e; input = (r.trace).input } in ap₂ f tr.path tr.end

module _ (p : Setting) (after : Option Path) (limit : ℕ) where
  pub went_ended : (b c : Open) (r : Pending) (rs : List Pending) (old now : Out) → Ready p b r rs → Stays p after limit b c r rs → b.depth ≡ length (path_of_run r) → Ended p after (test_at r) old now → Went p after limit b c old now
  went_ended b c r rs old now d k e n = by n.item n.ends n.wrote
    where
      by : (x : Item) → Ends after (test_at r) x → Wrote p (x ∷ []) old now → Went p after limit b c old now
      by _ (as_test ab) w = went_test p after limit b c r rs old now d k e ab (subst (λ t. Wrote p (test_item t ∷ []) old now) (test_is p r d.trace) w)
      by _ (as_past ab) w = went_past p after limit b c r rs old now d k e ab (subst (λ t. Wrote p (past_item t ∷ []) old now) (test_is p r d.trace) w)

  pub refused_ended : (b : Open) (r : Pending) (rs : List Pending) (old now : Out) → Ready p b r rs → b.depth ≡ length (path_of_run r) → EndedSome p after (test_at r) old now → WentSome p after limit b old now
  refused_ended b r rs old now d e n = by n.item n.ends n.wrote
    where
      by : (x : Item) → Ends after (test_at r) x → WroteSome p (x ∷ []) old now → WentSome p after limit b old now
      by _ (as_test ab) w = refused_test p after limit b r rs old now d e ab (subst (λ t. WroteSome p (test_item t ∷ []) old now) (test_is p r d.trace) w)
      by _ (as_past ab) w = refused_past p after limit b r rs old now d e ab (subst (λ t. WroteSome p (past_item t ∷ []) old now) (test_is p r d.trace) w)

  module _ (b : Open) (o : Outcome) (w : Path) (os : List Outcome) (ls : List (List Outcome)) (r : Pending) (rs : List Pending) (S : Solving p after b o w os ls r rs) where
    abbrev u : Input
    u = (r.trace).input

    abbrev q : Path
    q = take (length ls) (path_of_run r)

    abbrev Turns_to : Open → Out → Out → Type 0
    Turns_to c was now = Turn p after limit ((o ∷ os) ∷ ls) (r ∷ rs) b c was now

    abbrev Some_of : Out → Out → Type 0
    Some_of was now = TurnSome p after limit ((o ∷ os) ∷ ls) (r ∷ rs) b was now

    re : Reached after (next q o)
    re = subst (Reached after) S.prefix S.reached

    pub none_turn : (was now : Out) → now ≡ was → Some_of was now
    none_turn was now e = refused_turn p after limit b o os ls r rs S.taken was now e

    pub never_turn : (was : Out) → (layer_of p).Answers u (next q o) never → Turns_to b was was
    never_turn was h = settled p after limit b o os ls r rs S.taken b [] was was (refl, refl, refl) (wrote_none p was was refl)
        (by_never p after limit b o os ls r rs S.taken S.other S.going re h)

    pub spent_turn : (was now : Out) → (layer_of p).Answers u (next q o) spent → Wrote p (spent_item w ∷ []) was now → Turns_to b was now
    spent_turn was now h k = settled p after limit b o os ls r rs S.taken b (spent_item (next q o) ∷ []) was now (refl, refl, refl) (subst (λ v. Wrote p (spent_item v ∷ []) was now) S.prefix k)
        (by_spent p after limit b o os ls r rs S.taken S.other S.going re h)

    pub spent_some : (was now : Out) → (layer_of p).Answers u (next q o) spent → WroteSome p (spent_item w ∷ []) was now → Some_of was now
    spent_some was now h k = settled_some p after limit b o os ls r rs S.taken b (spent_item (next q o) ∷ []) was now (subst (λ v. WroteSome p (spent_item v ∷ []) was now) S.prefix k)
        (by_spent p after limit b o os ls r rs S.taken S.other S.going re h)

    module _ (i : Input) (M : Turned_to p u w i) where
      tu : (layer_of p).Answers u (next q o) turned × within_of p i × meets_of p u (next q o) i
      tu = (subst (λ v. (layer_of p).Answers u v turned) S.prefix M.0, M.1, subst (λ v. meets_of p u v i) S.prefix M.2)

      pub unrun_turn : (c : Open) (was now : Out) → c.tree ≡ b.tree → c.depth ≡ b.depth → c.runs ≡ b.runs → c.made ≡ b.made → c.stopped ≡ true → b.made ≡ limit → Wrote p (unrun_item i w ∷ []) was now → Turns_to c was now
      unrun_turn c was now ct cd cr cm cs full k = settled p after limit b o os ls r rs S.taken c (unrun_item i (next q o) ∷ []) was now (ct, cd, cr) (subst (λ v. Wrote p (unrun_item i v ∷ []) was now) S.prefix k)
          (by_unrun p after limit b o os ls r rs S.taken S.other S.going re i tu c full cm cs)

      pub unrun_some : (was now : Out) → b.made ≡ limit → WroteSome p (unrun_item i w ∷ []) was now → Some_of was now
      unrun_some was now full k =
          let c : Open = record b { stopped = true } in
          settled_some p after limit b o os ls r rs S.taken c (unrun_item i (next q o) ∷ []) was now (subst (λ v. WroteSome p (unrun_item i v ∷ []) was now) S.prefix k)
          (by_unrun p after limit b o os ls r rs S.taken S.other S.going re i tu c full refl refl)

      -- a new run on the input
      module _ (v : Pending) (vt : TraceOf p v.from v.trace v.path) (vi : (v.trace).input ≡ i) (lt : b.made < limit) where
        stray_is : stray_item (test_at v) w ≡ stray_item (test_of (layer_of p) i) (next q o)
        stray_is = ap₂ (λ t x. stray_item t x) (test_is p v vt ∙ ap (test_of (layer_of p)) vi) S.prefix

        left : (BeginsWith v.path w → ⊥) → BeginsWith (path_of p i) (next q o) → ⊥
        left n h = n (subst (BeginsWith v.path) (sym S.prefix) (subst (λ x. BeginsWith x (next q o)) (sym (vt.path ∙ ap (path_of p) vi)) h))

        pub stray_turn : (c : Open) (was now : Out) → c.tree ≡ b.tree → c.depth ≡ b.depth → c.runs ≡ b.runs → c.made ≡ b.made + 1 → c.stopped ≡ b.stopped → (BeginsWith v.path w → ⊥) → Wrote p (stray_item (test_at v) w ∷ []) was now → Turns_to c was now
        stray_turn c was now ct cd cr cm cs n k = settled p after limit b o os ls r rs S.taken c _ was now (ct, cd, cr) (subst (λ x. Wrote p (x ∷ []) was now) stray_is k)
            (by_stray p after limit b o os ls r rs S.taken S.other S.going re i tu c lt cm cs (left n))

        pub stray_some : (was now : Out) → (BeginsWith v.path w → ⊥) → WroteSome p (stray_item (test_at v) w ∷ []) was now → Some_of was now
        stray_some was now n k =
            let c : Open = record b { made = b.made + 1 } in
            settled_some p after limit b o os ls r rs S.taken c _ was now (subst (λ x. WroteSome p (x ∷ []) was now) stray_is k)
            (by_stray p after limit b o os ls r rs S.taken S.other S.going re i tu c lt refl refl (left n))

        module _ (fr : v.from ≡ b.depth) (bg : BeginsWith v.path w) (b2 : Open) (bt : b2.tree ≡ b.tree) (bd : b2.depth ≡ b.depth) (bm : b2.made ≡ b.made + 1) (bs : b2.stopped ≡ b.stopped) (br : b2.runs ≡ b.runs ++ (v ∷ [])) where
          from2 : v.from ≡ suc (length ls)
          from2 = fr ∙ (S.taken).depth

          begins2 : BeginsWith (path_of_run v) (next q o)
          begins2 = subst (BeginsWith v.path) S.prefix bg

          runs2 : runs_of b2 ≡ v ∷ r ∷ rs
          runs2 = ap last_first br ∙ snoc_first b.runs v ∙ ap (λ l. v ∷ l) (S.taken).runs

          pub gone_ready : Ready p b2 v (r ∷ rs)
          gone_ready = ready_gone p after limit b o os ls r rs S.taken S.other S.going re i tu b2 v vi from2 vt begins2 lt bt bd bm bs runs2

          pub gone_turn : (c : Open) (was now : Out) → Went p after limit b2 c was now → Turns_to c was now
          gone_turn c was now k = turn_gone p after limit b o os ls r rs S.taken S.other S.going re i tu b2 v vi from2 vt begins2 lt bt bd bm bs runs2 c was now k

          pub gone_some : (was now : Out) → WentSome p after limit b2 was now → Some_of was now
          gone_some was now k = some_gone p after limit b o os ls r rs S.taken S.other S.going re i tu b2 v vi from2 vt begins2 lt bt bd bm bs runs2 was now k

some_in : (o : Outcome) (l : List Outcome) → In o l → 1 ≤ length l
some_in o [] i = absurd i
some_in o (x ∷ l) i = omega arith

-- a level of an event's outcomes can be pushed
module _ (p : Setting) (b : Open) (r : Pending) (rs : List Pending) (d : Ready p b r rs) (os v : List Outcome) (h : ChoicesOf p (r.trace).input b.depth os) (e : v ≡ os) where
  pub push_some : 1 ≤ length v
  push_some = subst (λ l. 1 ≤ length l) (sym e) (some_in (own_at b.depth (path_of p (r.trace).input)) os ((h.all _).1 (inl refl)))

  pub push_few : length v ≤ 29
  push_few = subst (λ l. length l ≤ 29) (sym e) h.few

  pub push_ascending : Ascend v
  push_ascending = subst Ascend (sym e) h.ascend

  pub push_room : b.depth ≢ length (path_of_run r) → length (levels_of b) < (b.tree).most
  push_room n = let a = d.depth in let s = d.short in let t = (d.trace).short in let m = d.most in omega (arith, n, a, s, t, m)
