use Rattle.std.proofs.Common.{rules, ◌≡◌, true, false, subst}
use Rattle.cc_base.specs.Paths.{BeginsWith}
use Rattle.cc_outside.specs.Told.{WritesPart}
use Rattle.search_walks.specs.Task.{setting_of}
use Rattle.search_base.proofs.OnLaws.{on_err}
use Rattle.search_walks.proofs.FollowLaws.{followed, some_came, all_came}
use Rattle.search_walks.proofs.log.Log.follow.Goals as goal

pub returns-in_err-write_line-clause-err : goal.returns-in_err-write_line-clause-err
returns-in_err-write_line-clause-err g c = on_err _ (some_came (setting_of (c.args.task).now) _ _ _ _ _ _ c.in_ok-run.ensures.input c.in_ok-line.ensures (subst (WritesPart _ _) c.deref.ensures.value c.in_err-write_line.ensures.part))

pub returns-in_err-is_new-clause-err : goal.returns-in_err-is_new-clause-err
returns-in_err-is_new-clause-err g c = on_err _ (all_came (setting_of (c.args.task).now) _ _ _ _ _ _ _ c.in_ok-run.ensures.input c.in_ok-line.ensures c.deref.ensures.value c.in_ok-write_line.ensures.ok)

pub returns-clause-ok : goal.returns-clause-ok
returns-clause-ok g c =
    let f1 : c.begins-kept.result ≡ true → BeginsWith c.in_ok-run.run'.path (c.args.prefix).now = search rules in
    let f2 : c.begins-kept.result ≡ false → BeginsWith c.in_ok-run.run'.path (c.args.prefix).now → ⊥ = search rules in
    followed (setting_of (c.args.task).now) c.in_ok-run.run' c.in_ok-run.ensures.run (c.args.input).now (c.args.prefix).now (c.in_ok-line.line).items _ c.begins-kept.result c.in_ok-is_new.is_new _ _ _ _
    c.in_ok-run.ensures.input c.in_ok-line.ensures f1 f2 c.deref.ensures.value c.in_ok-write_line.ensures.ok c.in_ok-is_new.ensures
