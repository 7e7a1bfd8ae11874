use Rattle.std.proofs.Common.{subst}
use Rattle.cc_model.specs.Listing.{test_item, past_item, Above, NotAbove}
use Rattle.search_dfs.specs.Output.{out}
use Rattle.search_dfs.specs.Task.{setting_of, after_of}
use Rattle.search_dfs.specs.Turns.{EndedSome, as_test, as_past, test_at}
use Rattle.search_base.proofs.OnLaws.{on_err}
use Rattle.search_dfs.proofs.listed.list_run.Goals as goal

pub returns-in_err-list_test-clause-err : goal.returns-in_err-list_test-clause-err
returns-in_err-list_test-clause-err g c =
    let h : EndedSome (setting_of (c.args.task).now) (after_of (c.args.task).now) (test_at (c.args.run).now) (out (g.K.Sink.written (c.args.sink).now) (g.K.Sink.faults (c.args.sink).now) (c.args.tally).now) (out (g.K.Sink.written c.list_test.new.sink) (g.K.Sink.faults c.list_test.new.sink) c.list_test.new.tally) = record { item = test_item (test_at (c.args.run).now); ends = as_test (subst (Above (after_of (c.args.task).now)) c.as_slice.ensures (c.is_above.ensures.above c.if-is_above.true)); wrote = c.in_err-list_test.ensures.err } in
    on_err _ h

pub returns-then-is_above-clause-ok : goal.returns-then-is_above-clause-ok
returns-then-is_above-clause-ok g c = record { item = test_item (test_at (c.args.run).now); ends = as_test (subst (Above (after_of (c.args.task).now)) c.as_slice.ensures (c.is_above.ensures.above c.if-is_above.true)); wrote = c.in_ok-list_test.ensures.ok }

pub returns-in_err-list_past-clause-err : goal.returns-in_err-list_past-clause-err
returns-in_err-list_past-clause-err g c =
    let h : EndedSome (setting_of (c.args.task).now) (after_of (c.args.task).now) (test_at (c.args.run).now) (out (g.K.Sink.written (c.args.sink).now) (g.K.Sink.faults (c.args.sink).now) (c.args.tally).now) (out (g.K.Sink.written c.list_past.new.sink) (g.K.Sink.faults c.list_past.new.sink) c.list_past.new.tally) = record { item = past_item (test_at (c.args.run).now); ends = as_past (subst (NotAbove (after_of (c.args.task).now)) c.as_slice.ensures (c.is_above.ensures.not_above c.if-is_above.false)); wrote = c.in_err-list_past.ensures.err } in
    on_err _ h

pub returns-clause-ok : goal.returns-clause-ok
returns-clause-ok g c = record { item = past_item (test_at (c.args.run).now); ends = as_past (subst (NotAbove (after_of (c.args.task).now)) c.as_slice.ensures (c.is_above.ensures.not_above c.if-is_above.false)); wrote = c.in_ok-list_past.ensures.ok }
