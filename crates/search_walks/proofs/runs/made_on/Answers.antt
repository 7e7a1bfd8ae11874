use Rattle.search_walks.specs.Task.{setting_of}
use Rattle.search_walks.proofs.MadeLaws.{within_input, made_run}
use Rattle.search_walks.proofs.runs.made_on.Goals as goal

pub run-requires-clause-compiles : goal.run-requires-clause-compiles
run-requires-clause-compiles c = c.requires.known.compiles

pub run-requires-clause-points : goal.run-requires-clause-points
run-requires-clause-points c = c.requires.known.points

pub run-requires-clause-input : goal.run-requires-clause-input
run-requires-clause-input c = within_input (setting_of (c.args.task).now) (c.args.input).now c.requires.within

pub returns-clause-run : goal.returns-clause-run
returns-clause-run c = made_run (setting_of (c.args.task).now) (c.args.input).now c.in_ok-trace.trace c.in_ok-path.path c.in_ok-trace.ensures.trace c.in_ok-trace.ensures.plain (c.in_ok-path.ensures.path _ _ _ c.in_ok-trace.ensures.trace) c.in_ok-path.ensures.outcomes c.in_ok-trace.ensures.end_of_run
    c.in_ok-trace.ensures.few c.in_ok-trace.ensures.bytes c.requires.within c.in_ok-trace.ensures.short c.depth-depth.ensures.in_range c.requires.few c.line_fits.ensures

pub returns-clause-input : goal.returns-clause-input
returns-clause-input c = (c.in_ok-trace.ensures.trace).input
