use Rattle.std.proofs.Common.{sym, subst}
use Rattle.concolic_cli.specs.Tasks.{IsPathOf, asks_list, list_task}
use Rattle.concolic_cli.proofs.Calls.{done_for, refused_as}
use Rattle.concolic_cli.proofs.performing.list.Goals as goal

pub list_tests-requires-clause-after : goal.list_tests-requires-clause-after
list_tests-requires-clause-after g c = let a = c.requires.after in (a.0, subst (λ w. IsPathOf w a.0) (sym c.word_if-after.ensures) a.1)

pub returns-in-Ok-clause-performed : goal.returns-in-Ok-clause-performed
returns-in-Ok-clause-performed g c =
    let f = c.word-file.ensures in let e = c.word-entry.ensures in let a = c.requires.after in
    done_for _ _ _ _ (list_task _ c.args.run.now a.0) (cc (f, e)) (asks_list c.args.run.now a.0 c.requires.accepted c.requires.dfs a.1) (c.in-Ok.ensures.ends a.0 (subst (λ w. IsPathOf w a.0) (sym c.word_if-after.ensures) a.1))

pub returns-in-Err-clause-performed : goal.returns-in-Err-clause-performed
returns-in-Err-clause-performed g c =
    let f = c.word-file.ensures in let e = c.word-entry.ensures in let a = c.requires.after in
    refused_as _ _ c.in-Err.refusal _ (list_task _ c.args.run.now a.0) (cc (f, e)) (asks_list c.args.run.now a.0 c.requires.accepted c.requires.dfs a.1) (c.in-Err.ensures.ends a.0 (subst (λ w. IsPathOf w a.0) (sym c.word_if-after.ensures) a.1)) c.naming.result c.naming.ensures.why c.naming.ensures.names
