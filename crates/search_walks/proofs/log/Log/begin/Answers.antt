use Rattle.std.proofs.Common.{refl, ◌∙◌}
use Rattle.search_walks.specs.Task.{setting_of}
use Rattle.search_walks.proofs.MadeLaws.{input_within}
use Rattle.search_base.proofs.OnLaws.{on_err}
use Rattle.search_walks.proofs.FollowLaws.{base_there, started, started_part, started_all, started_none}
use Rattle.search_walks.proofs.log.Log.begin.Goals as goal

pub made_on-requires-clause-within : goal.made_on-requires-clause-within
made_on-requires-clause-within g c = input_within (setting_of (c.args.task).now) _ c.in_ok-base.ensures.input

pub made_on-requires-clause-few : goal.made_on-requires-clause-few
made_on-requires-clause-few g c = c.in_ok-base.ensures.few

pub test_line-requires : goal.test_line-requires
test_line-requires g c = c.in_ok-made.ensures.run.bytes

pub returns-in_err-base-clause-err : goal.returns-in_err-base-clause-err
returns-in_err-base-clause-err g c = on_err _ (started_none _ _ _ refl)

pub returns-in_err-made-clause-err : goal.returns-in_err-made-clause-err
returns-in_err-made-clause-err g c = on_err _ (started_none _ _ _ refl)

pub returns-in_err-line-clause-err : goal.returns-in_err-line-clause-err
returns-in_err-line-clause-err g c = on_err _ (started_none _ _ _ refl)

pub returns-in_err-write_line-clause-err : goal.returns-in_err-write_line-clause-err
returns-in_err-write_line-clause-err g c = on_err _ (started_part (setting_of (c.args.task).now) c.in_ok-made.made _ _ _ _ c.in_ok-made.ensures.run (c.in_ok-made.ensures.input ∙ base_there (setting_of (c.args.task).now) _ c.in_ok-base.ensures.base) c.in_ok-line.ensures c.deref.ensures.value c.in_err-write_line.ensures.part)

pub returns-in_err-_is_new-clause-err : goal.returns-in_err-_is_new-clause-err
returns-in_err-_is_new-clause-err g c = on_err _ (started_all (setting_of (c.args.task).now) c.in_ok-made.made _ _ _ _ c.in_ok-made.ensures.run (c.in_ok-made.ensures.input ∙ base_there (setting_of (c.args.task).now) _ c.in_ok-base.ensures.base) c.in_ok-line.ensures c.deref.ensures.value c.in_ok-write_line.ensures.ok)

pub returns-clause-ok : goal.returns-clause-ok
returns-clause-ok g c = started (setting_of (c.args.task).now) c.in_ok-made.made _ _ c.in_ok-_is_new._is_new _ _ _ _ c.in_ok-made.ensures.run (c.in_ok-made.ensures.input ∙ base_there (setting_of (c.args.task).now) _ c.in_ok-base.ensures.base) c.in_ok-line.ensures c.deref.ensures.value c.in_ok-write_line.ensures.ok c.in_ok-_is_new.ensures
