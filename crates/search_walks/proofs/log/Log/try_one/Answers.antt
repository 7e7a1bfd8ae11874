use Rattle.std.proofs.Common.{take, refl, ap, ◌∙◌}
use Rattle.cc_base.specs.Paths.{Path, next}
use Rattle.flip_solve.specs.declared.flipping.Turned.TheVariants as turn
use Rattle.flip_solve.proofs.Bared.{whole_trace}
use Rattle.search_walks.specs.Steps.{nothing_yet}
use Rattle.search_walks.specs.Task.{setting_of}
use Rattle.search_walks.proofs.MadeLaws.{within_input}
use Rattle.search_base.proofs.OnLaws.{on_err}
use Rattle.search_walks.proofs.TriedLaws.{came, came_few, is_offered, prefix_bytes, tried_never, tried_spent, spent_some, tried_run, run_some}
use Rattle.search_walks.proofs.log.Log.try_one.Goals as goal

pub turn-requires-clause-input : goal.turn-requires-clause-input
turn-requires-clause-input g c = within_input (setting_of (c.args.task).now) _ c.requires.run.within

pub turn-requires-clause-trace : goal.turn-requires-clause-trace
turn-requires-clause-trace g c = whole_trace _ _ _ _ _ c.requires.run.is_trace

pub turn-requires-clause-lawful : goal.turn-requires-clause-lawful
turn-requires-clause-lawful g c = c.a_run_is_lawful.ensures _ _ _ c.requires.known.points (within_input (setting_of (c.args.task).now) _ c.requires.run.within)

pub turn-requires-clause-offered : goal.turn-requires-clause-offered
turn-requires-clause-offered g c = is_offered (setting_of (c.args.task).now) ((c.args.run).now).trace ((c.args.run).now).path c.requires.run c.args.event c.args.outcome c.requires.there c.requires.offered

pub returns-in_err-prefix-clause-err : goal.returns-in_err-prefix-clause-err
returns-in_err-prefix-clause-err g c = on_err _ (nothing_yet refl)

pub returns-in_err-turned-clause-err : goal.returns-in_err-turned-clause-err
returns-in_err-turned-clause-err g c = on_err _ (nothing_yet refl)

pub returns-in-Never-clause-ok : goal.returns-in-Never-clause-ok
returns-in-Never-clause-ok g c = let k = c.in_ok-prefix.ensures ∙ ap (λ (l : Path). next (take c.args.event l) c.args.outcome) c.as_slice.ensures in
    tried_never (setting_of (c.args.task).now) ((c.args.run).now).trace ((c.args.run).now).path c.requires.run c.args.event c.args.outcome c.in_ok-prefix.prefix k _ _ _ _ (came (setting_of (c.args.task).now) ((c.args.run).now).trace ((c.args.run).now).path c.requires.run c.args.event c.args.outcome turn.Never _ c.in-Never.is c.in_ok-turned.ensures.answer c.in_ok-turned.ensures.turned) refl refl

pub spent_line-requires : goal.spent_line-requires
spent_line-requires g c = let k = c.in_ok-prefix.ensures ∙ ap (λ (l : Path). next (take c.args.event l) c.args.outcome) c.as_slice.ensures in
    prefix_bytes (setting_of (c.args.task).now) ((c.args.run).now).trace ((c.args.run).now).path c.requires.run c.args.event c.args.outcome c.requires.there c.requires.offered c.in_ok-prefix.prefix k

pub returns-in_err-line-in-Spent-clause-err : goal.returns-in_err-line-in-Spent-clause-err
returns-in_err-line-in-Spent-clause-err g c = on_err _ (nothing_yet refl)

pub returns-in_err-write_line-in-Spent-clause-err : goal.returns-in_err-write_line-in-Spent-clause-err
returns-in_err-write_line-in-Spent-clause-err g c = let k = c.in_ok-prefix.ensures ∙ ap (λ (l : Path). next (take c.args.event l) c.args.outcome) c.as_slice.ensures in
    on_err _ (spent_some (setting_of (c.args.task).now) ((c.args.run).now).trace ((c.args.run).now).path c.requires.run c.args.event c.args.outcome c.in_ok-prefix.prefix k _ _ _ _ (came (setting_of (c.args.task).now) ((c.args.run).now).trace ((c.args.run).now).path c.requires.run c.args.event c.args.outcome turn.Spent _ c.in-Spent.is c.in_ok-turned.ensures.answer c.in_ok-turned.ensures.turned) c.in_ok-line-in-Spent.ensures c.deref.ensures.value c.in_err-write_line-in-Spent.ensures.part)

pub returns-in-Spent-clause-ok : goal.returns-in-Spent-clause-ok
returns-in-Spent-clause-ok g c = let k = c.in_ok-prefix.ensures ∙ ap (λ (l : Path). next (take c.args.event l) c.args.outcome) c.as_slice.ensures in
    tried_spent (setting_of (c.args.task).now) ((c.args.run).now).trace ((c.args.run).now).path c.requires.run c.args.event c.args.outcome c.in_ok-prefix.prefix k _ _ _ _ _ _ (came (setting_of (c.args.task).now) ((c.args.run).now).trace ((c.args.run).now).path c.requires.run c.args.event c.args.outcome turn.Spent _ c.in-Spent.is c.in_ok-turned.ensures.answer c.in_ok-turned.ensures.turned) (prefix_bytes (setting_of (c.args.task).now) ((c.args.run).now).trace ((c.args.run).now).path c.requires.run c.args.event c.args.outcome c.requires.there c.requires.offered c.in_ok-prefix.prefix k) c.in_ok-line-in-Spent.ensures c.deref.ensures.value c.in_ok-write_line-in-Spent.ensures.ok refl

pub follow-requires-clause-within : goal.follow-requires-clause-within
follow-requires-clause-within g c = (came (setting_of (c.args.task).now) ((c.args.run).now).trace ((c.args.run).now).path c.requires.run c.args.event c.args.outcome (turn.Turned c.in-Turned.input) _ c.in-Turned.is c.in_ok-turned.ensures.answer c.in_ok-turned.ensures.turned).within

pub follow-requires-clause-few : goal.follow-requires-clause-few
follow-requires-clause-few g c = came_few (setting_of (c.args.task).now) ((c.args.run).now).trace ((c.args.run).now).path c.requires.run c.args.event c.args.outcome c.in-Turned.input _ c.in-Turned.is c.in_ok-turned.ensures.turned

pub follow-requires-clause-prefix : goal.follow-requires-clause-prefix
follow-requires-clause-prefix g c = let k = c.in_ok-prefix.ensures ∙ ap (λ (l : Path). next (take c.args.event l) c.args.outcome) c.as_slice.ensures in
    prefix_bytes (setting_of (c.args.task).now) ((c.args.run).now).trace ((c.args.run).now).path c.requires.run c.args.event c.args.outcome c.requires.there c.requires.offered c.in_ok-prefix.prefix k

pub returns-in_err-follow-in-Turned-clause-err : goal.returns-in_err-follow-in-Turned-clause-err
returns-in_err-follow-in-Turned-clause-err g c = let k = c.in_ok-prefix.ensures ∙ ap (λ (l : Path). next (take c.args.event l) c.args.outcome) c.as_slice.ensures in
    on_err _ (run_some (setting_of (c.args.task).now) ((c.args.run).now).trace ((c.args.run).now).path c.requires.run c.args.event c.args.outcome c.in_ok-prefix.prefix k _ _ _ (came (setting_of (c.args.task).now) ((c.args.run).now).trace ((c.args.run).now).path c.requires.run c.args.event c.args.outcome (turn.Turned c.in-Turned.input) _ c.in-Turned.is c.in_ok-turned.ensures.answer c.in_ok-turned.ensures.turned) c.in_err-follow-in-Turned.ensures.err)

pub returns-clause-ok : goal.returns-clause-ok
returns-clause-ok g c = let k = c.in_ok-prefix.ensures ∙ ap (λ (l : Path). next (take c.args.event l) c.args.outcome) c.as_slice.ensures in
    tried_run (setting_of (c.args.task).now) ((c.args.run).now).trace ((c.args.run).now).path c.requires.run c.args.event c.args.outcome c.in_ok-prefix.prefix k _ _ _ _ _ _ (came (setting_of (c.args.task).now) ((c.args.run).now).trace ((c.args.run).now).path c.requires.run c.args.event c.args.outcome (turn.Turned c.in-Turned.input) _ c.in-Turned.is c.in_ok-turned.ensures.answer c.in_ok-turned.ensures.turned) c.in_ok-follow-in-Turned.ensures.ok
