use Rattle.concolic_cli.specs.Tasks.{asks_walk, walk_task}
use Rattle.concolic_cli.proofs.Calls.{done_for, refused_as}
use Rattle.concolic_cli.proofs.performing.walk.Goals as goal

pub returns-in-Ok-clause-performed : goal.returns-in-Ok-clause-performed
returns-in-Ok-clause-performed g c =
    let f = c.word-file.ensures in let e = c.word-entry.ensures in
    done_for _ _ _ _ (walk_task _ c.args.run.now) (cc (f, e)) (asks_walk c.args.run.now c.requires.accepted c.requires.walk) c.in-Ok.ensures.ends

pub returns-in-Err-clause-performed : goal.returns-in-Err-clause-performed
returns-in-Err-clause-performed g c =
    let f = c.word-file.ensures in let e = c.word-entry.ensures in
    refused_as _ _ c.in-Err.refusal _ (walk_task _ c.args.run.now) (cc (f, e)) (asks_walk c.args.run.now c.requires.accepted c.requires.walk) c.in-Err.ensures.ends c.naming.result c.naming.ensures.why c.naming.ensures.names
