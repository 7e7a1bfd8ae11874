use Rattle.std.proofs.Common.{length, get_or, ap, ◌∙◌, arith}
use Rattle.search_dfs.specs.Task.{setting_of}
use Rattle.search_dfs.proofs.Choices.{events_long, event_few, event_choices}
use Rattle.search_dfs.proofs.runs.choices_of.Goals as goal

pub bounds-as_slice-k : goal.bounds-as_slice-k
bounds-as_slice-k c =
    let n = events_long (setting_of (c.args.task).now) ((c.args.run).now).from ((c.args.run).now).trace ((c.args.run).now).path c.requires.trace in
    let m = ap length c.as_slice.ensures in
    let h = c.requires.event in
    omega (arith, n, m, h)

pub all_outcomes-requires : goal.all_outcomes-requires
all_outcomes-requires c = event_few (setting_of (c.args.task).now) ((c.args.run).now).from ((c.args.run).now).trace ((c.args.run).now).path c.requires.trace c.args.k c.index-as_slice-k.result c.requires.entered c.requires.event
    (c.index-as_slice-k.is ∙ ap (λ l. get_or l c.args.k c.index-as_slice-k.result) c.as_slice.ensures)

pub returns : goal.returns
returns c = event_choices (setting_of (c.args.task).now) ((c.args.run).now).from ((c.args.run).now).trace ((c.args.run).now).path c.requires.trace c.args.k c.index-as_slice-k.result c.in_ok-all.all c.requires.entered c.requires.event
    (c.index-as_slice-k.is ∙ ap (λ l. get_or l c.args.k c.index-as_slice-k.result) c.as_slice.ensures) c.in_ok-all.ensures.ascend c.in_ok-all.ensures.all c.in_ok-all.ensures.few
