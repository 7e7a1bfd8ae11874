use Rattle.sym_run.specs.Stands.{setting}
use Rattle.sym_run.proofs.TraceLaws.{recorded_few, trace_short, trace_is, no_offer, few_is, plain_is, end_is, bytes_are, places_are, names_are}
use Rattle.sym_run.proofs.whole_run.run.Goals as goal

pub trace_of-requires : goal.trace_of-requires
trace_of-requires c = recorded_few _ c.finish.new.self c.in_ok-end.end c.in_ok-end.ensures c.requires.compiles c.depth-depth.ensures.in_range

pub returns-clause-trace : goal.returns-clause-trace
returns-clause-trace c = trace_is _ c.finish.new.self c.in_ok-end.end c.in_ok-end.ensures c.in_ok-input.input c.trace_of.result c.trace_of.ensures c.in_ok-input.ensures

pub returns-clause-short : goal.returns-clause-short
returns-clause-short c = trace_short _ c.finish.new.self c.in_ok-end.end c.in_ok-end.ensures c.in_ok-input.input c.trace_of.result c.trace_of.ensures c.requires.compiles

pub returns-clause-no_offer : goal.returns-clause-no_offer
returns-clause-no_offer c = no_offer c.args.checked.now c.args.bounds.now c.args.input.now c.trace_of.result (trace_is _ c.finish.new.self c.in_ok-end.end c.in_ok-end.ensures c.in_ok-input.input c.trace_of.result c.trace_of.ensures c.in_ok-input.ensures)

pub returns-clause-few : goal.returns-clause-few
returns-clause-few c = few_is (setting c.args.checked.now c.args.tac.now c.args.bounds.now c.args.input.now) c.requires.compiles c.depth-depth.ensures.in_range c.trace_of.result (trace_is _ c.finish.new.self c.in_ok-end.end c.in_ok-end.ensures c.in_ok-input.input c.trace_of.result c.trace_of.ensures c.in_ok-input.ensures)

pub returns-clause-plain : goal.returns-clause-plain
returns-clause-plain c = plain_is c.args.checked.now c.args.bounds.now c.args.input.now c.trace_of.result (trace_is _ c.finish.new.self c.in_ok-end.end c.in_ok-end.ensures c.in_ok-input.input c.trace_of.result c.trace_of.ensures c.in_ok-input.ensures)

pub returns-clause-end_of_run : goal.returns-clause-end_of_run
returns-clause-end_of_run c = end_is c.args.checked.now c.args.bounds.now c.args.input.now c.trace_of.result (trace_is _ c.finish.new.self c.in_ok-end.end c.in_ok-end.ensures c.in_ok-input.input c.trace_of.result c.trace_of.ensures c.in_ok-input.ensures)

pub returns-clause-bytes : goal.returns-clause-bytes
returns-clause-bytes c = bytes_are (setting c.args.checked.now c.args.tac.now c.args.bounds.now c.args.input.now) c.requires.compiles c.depth-depth.ensures.in_range c.trace_of.result (trace_is _ c.finish.new.self c.in_ok-end.end c.in_ok-end.ensures c.in_ok-input.input c.trace_of.result c.trace_of.ensures c.in_ok-input.ensures)

pub returns-clause-places : goal.returns-clause-places
returns-clause-places c = places_are (setting c.args.checked.now c.args.tac.now c.args.bounds.now c.args.input.now) c.requires.compiles c.trace_of.result (trace_is _ c.finish.new.self c.in_ok-end.end c.in_ok-end.ensures c.in_ok-input.input c.trace_of.result c.trace_of.ensures c.in_ok-input.ensures)

pub returns-clause-names : goal.returns-clause-names
returns-clause-names c = names_are (setting c.args.checked.now c.args.tac.now c.args.bounds.now c.args.input.now) c.requires.compiles c.trace_of.result (trace_is _ c.finish.new.self c.in_ok-end.end c.in_ok-end.ensures c.in_ok-input.input c.trace_of.result c.trace_of.ensures c.in_ok-input.ensures)
