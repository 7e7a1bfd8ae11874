use Rattle.concolic_cli.specs.Tasks.{asks_trace, trace_task}
use Rattle.concolic_cli.proofs.Calls.{done_for, refused_as}
use Rattle.concolic_cli.proofs.performing.trace_one.Goals as goal

pub returns-in-Ok-clause-performed : goal.returns-in-Ok-clause-performed
returns-in-Ok-clause-performed g c =
    let f = c.word-file.ensures in let e = c.word-entry.ensures in let m = c.word-map.ensures in
    done_for _ _ _ _ (trace_task _ c.args.trace.now) (cc (f, e, m)) (asks_trace c.args.trace.now c.requires) c.in-Ok.ensures.ends

pub returns-in-Err-clause-performed : goal.returns-in-Err-clause-performed
returns-in-Err-clause-performed g c =
    let f = c.word-file.ensures in let e = c.word-entry.ensures in let m = c.word-map.ensures in
    refused_as _ _ c.in-Err.refusal _ (trace_task _ c.args.trace.now) (cc (f, e, m)) (asks_trace c.args.trace.now c.requires) c.in-Err.ensures.ends c.naming.result c.naming.ensures.why c.naming.ensures.names
