use Rattle.std.proofs.Common.{◌≡◌, ◌≤◌, inl, inr, length, refl, arith, rules}
use Rattle.search_walks.specs.Branching.{FromBase}
use Rattle.search_base.specs.Setting.{base_of}
use Rattle.search_walks.specs.Task.{setting_of}
use Rattle.search_walks.specs.Walks.{candidates, branch_cut_off}
use Rattle.search_base.proofs.OnLaws.{on_err}
use Rattle.search_walks.proofs.LoggedLaws.{cut_at_first}
use Rattle.search_walks.proofs.OfferLaws.{few_events, gathered, empty_list}
use Rattle.search_walks.proofs.BranchLaws.{came_first, first_cut, walk_whole}
use Rattle.search_walks.proofs.branching.branch_walk.Goals as goal

pub begin-requires-clause-room : goal.begin-requires-clause-room
begin-requires-clause-room g c =
    let h = c.requires.nothing.made in
    omega (arith, h)

pub begin-requires-clause-size : goal.begin-requires-clause-size
begin-requires-clause-size g c =
    c.requires.nothing.size

pub returns-in_err-current-clause-err : goal.returns-in_err-current-clause-err
returns-in_err-current-clause-err g c =
    let s = setting_of (c.args.task).now in
    let limit = ((c.args.task).now).limit in
    on_err _ (cut_at_first s (FromBase s limit (c.args.words).now) _ c.lo-lowest.ensures.in_range _ c.in_err-current.ensures.err (branch_cut_off (base_of s) (candidates s (base_of s)) (c.args.words).now 1 refl))

pub candidates-requires : goal.candidates-requires
candidates-requires g c =
    let s = setting_of (c.args.task).now in
    few_events s c.in_ok-current.current (c.in_ok-current.ensures.ok).run _ c.as_slice.ensures

pub returns-in_err-open-clause-err : goal.returns-in_err-open-clause-err
returns-in_err-open-clause-err g c =
    let s = setting_of (c.args.task).now in
    let limit = ((c.args.task).now).limit in
    on_err _ (first_cut s limit (c.args.words).now _ _ _ _ c.in_ok-current.current c.requires.nothing c.in_ok-current.ensures.ok)

pub draws-init : goal.draws-init
draws-init g c =
    let s = setting_of (c.args.task).now in
    let limit = ((c.args.task).now).limit in
    let st = c.in_ok-current.ensures.ok in
    let k = gathered s c.in_ok-current.current st.run (c.in_ok-open.open).items _ c.in_ok-open.ensures c.as_slice.ensures in
    let m = (st.counted).made in
    let n = c.requires.nothing.made in
    let h = c.requires.runs in
    record {
      offering = k.0;
      within = omega (arith, m, n, h);
      came = came_first s limit (c.args.words).now _ _ _ _ c.in_ok-current.current (c.in_ok-open.open).items c.requires.nothing st k.1;
      falls = c.in_ok-current.ensures.never_falls;
    }

pub step-requires-clause-size : goal.step-requires-clause-size
step-requires-clause-size g c =
    (c.draws.invariant.came).logged.size

pub draws-preserved : goal.draws-preserved
draws-preserved g c =
    let f = c.draws.invariant.falls in
    let h = c.in_ok-step.ensures.never_falls in
    record {
      offering = c.in_ok-step.ensures.offering;
      within = c.in_ok-step.ensures.within;
      came = c.in_ok-step.ensures.came _ _ c.draws.invariant.came;
      falls = omega (arith, f, h);
    }

pub draws-smaller : goal.draws-smaller
draws-smaller g c =
    c.in_ok-step.ensures.falls

pub returns-in_err-step-clause-err : goal.returns-in_err-step-clause-err
returns-in_err-step-clause-err g c =
    on_err _ (c.in_err-step.ensures.err _ _ c.draws.invariant.came)

pub returns-then-is_empty-clause-ok : goal.returns-then-is_empty-clause-ok
returns-then-is_empty-clause-ok g c =
    let s = setting_of (c.args.task).now in
    let limit = ((c.args.task).now).limit in
    let h : length (c.draws.walk.open).items ≡ 0 = search rules in
    walk_whole s limit (c.args.words).now _ _ c.draws.walk.current (c.draws.walk.open).items _ _ c.draws.invariant.came (inr (empty_list (c.draws.walk.open).items h)) c.draws.invariant.within

pub returns-clause-ok : goal.returns-clause-ok
returns-clause-ok g c =
    let s = setting_of (c.args.task).now in
    let limit = ((c.args.task).now).limit in
    let h : limit ≤ c.draws.log.made = search rules in
    walk_whole s limit (c.args.words).now _ _ c.draws.walk.current (c.draws.walk.open).items _ _ c.draws.invariant.came (inl h) c.draws.invariant.within
