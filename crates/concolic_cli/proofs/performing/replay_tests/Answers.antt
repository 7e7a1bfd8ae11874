use Rattle.std.proofs.Common.{refl}
use Rattle.concolic_cli.specs.Tasks.{asks_replay, replay_task}
use Rattle.concolic_cli.proofs.Calls.{done_for, refused_for}
use Rattle.concolic_cli.proofs.performing.replay_tests.Goals as goal

pub returns-in-Ok-clause-performed : goal.returns-in-Ok-clause-performed
returns-in-Ok-clause-performed g c =
    let f = c.word-file.ensures in let e = c.word-entry.ensures in let t = c.word-tests.ensures in
    done_for _ _ _ _ (replay_task _ c.args.replay.now) (cc (f, e, t)) (asks_replay c.args.replay.now c.requires) c.in-Ok.ensures.ends

pub returns-in-Err-clause-performed : goal.returns-in-Err-clause-performed
returns-in-Err-clause-performed g c =
    let f = c.word-file.ensures in let e = c.word-entry.ensures in let t = c.word-tests.ensures in
    refused_for _ _ c.in-Err.refusal _ (replay_task _ c.args.replay.now) (cc (f, e, t)) (asks_replay c.args.replay.now c.requires) c.in-Err.ensures.ends _ refl
