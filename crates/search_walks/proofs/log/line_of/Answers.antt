use Rattle.search_walks.specs.Task.{setting_of}
use Rattle.search_walks.proofs.FollowLaws.{test_is, stray_is}
use Rattle.search_walks.proofs.log.line_of.Goals as goal

pub test_line-requires : goal.test_line-requires
test_line-requires c = c.requires.run.bytes

pub returns-then-kept : goal.returns-then-kept
returns-then-kept c = test_is (setting_of (c.args.task).now) (c.args.run).now c.requires.run _ _ (c.requires.yes c.if-kept.true) c.in_ok-line.ensures

pub returns : goal.returns
returns c = stray_is (setting_of (c.args.task).now) (c.args.run).now c.requires.run _ _ c.requires.prefix (c.requires.no c.if-kept.false) c.in_ok-line-2.ensures
