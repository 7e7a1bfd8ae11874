use Rattle.std.proofs.Common.{◌≡◌, ◌-◌, ◌⊎◌, refl, arith, rules}
use Rattle.search_walks.specs.Passing.{FromStart}
use Rattle.search_base.specs.Setting.{base_of}
use Rattle.search_walks.specs.Task.{setting_of}
use Rattle.search_walks.specs.Walks.{pass_cut_off}
use Rattle.search_base.proofs.OnLaws.{on_err}
use Rattle.search_walks.proofs.LoggedLaws.{cut_at_first}
use Rattle.search_walks.proofs.PassLaws.{passes_first, passes_next, passes_end, last_of}
use Rattle.search_walks.proofs.passing.uniform_walk.Goals as goal

pub begin-requires-clause-room : goal.begin-requires-clause-room
begin-requires-clause-room g c =
    let h = c.requires.nothing.made in
    omega (arith, h)

pub begin-requires-clause-size : goal.begin-requires-clause-size
begin-requires-clause-size g c =
    c.requires.nothing.size

pub returns-in_err-base-clause-err : goal.returns-in_err-base-clause-err
returns-in_err-base-clause-err g c =
    let s = setting_of (c.args.task).now in
    let limit = ((c.args.task).now).limit in
    on_err _ (cut_at_first s (FromStart s limit (c.args.words).now) _ c.lo-lowest.ensures.in_range _ c.in_err-base.ensures.err (pass_cut_off (base_of s) 0 (limit - 1) (c.args.words).now 1 refl))

pub passes-init : goal.passes-init
passes-init g c =
    let s = setting_of (c.args.task).now in
    let limit = ((c.args.task).now).limit in
    let st = c.in_ok-base.ensures.ok in
    let m = (st.counted).made in
    let n = c.requires.nothing.made in
    let h = c.requires.runs in
    record {
      within = omega (arith, m, n, h);
      came = passes_first s limit (c.args.words).now _ _ _ _ c.in_ok-base.base c.requires.nothing st;
      falls = c.in_ok-base.ensures.never_falls;
    }

pub pass-requires-clause-base : goal.pass-requires-clause-base
pass-requires-clause-base g c =
    (c.in_ok-base.ensures.ok).run

pub pass-requires-clause-size : goal.pass-requires-clause-size
pass-requires-clause-size g c =
    (c.passes.invariant.came).logged.size

pub returns-in_err-pass-clause-err : goal.returns-in_err-pass-clause-err
returns-in_err-pass-clause-err g c =
    on_err _ (c.in_err-pass.ensures.err _ _ _ c.passes.invariant.came)

pub passes-preserved : goal.passes-preserved
passes-preserved g c =
    let s = setting_of (c.args.task).now in
    let limit = ((c.args.task).now).limit in
    let f = c.passes.invariant.falls in
    let h = c.in_ok-pass.ensures.never_falls in
    let more = c.is_last.ensures.more c.if-is_last.false in
    let a = more.0 in
    let b = more.1 in
    let w = c.in_ok-pass.ensures.within in
    record {
      within = w;
      came = passes_next s limit (c.args.words).now _ c.passes.left (c.passes.left - 1) _ _ _ c.in_ok-base.base (c.in_ok-pass.ensures.passed _ _ _ c.passes.invariant.came) (omega (arith, b, w)) (omega (arith, a)) (c.in_ok-base.ensures.ok).input;
      falls = omega (arith, f, h);
    }

pub returns-then-is_last-clause-ok : goal.returns-then-is_last-clause-ok
returns-then-is_last-clause-ok g c =
    let s = setting_of (c.args.task).now in
    let limit = ((c.args.task).now).limit in
    let e : (c.passes.left ≡ 0) ⊎ (c.pass.new.log.made ≡ limit) = search rules in
    passes_end s limit (c.args.words).now _ c.passes.left _ _ _ (c.in_ok-pass.ensures.passed _ _ _ c.passes.invariant.came) c.in_ok-pass.ensures.within (last_of _ _ _ e)
