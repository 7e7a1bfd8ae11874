use Rattle.std.proofs.Common.{map, ap, ◌∙◌, subst}
use Rattle.cc_base.specs.Paths.{In}
use Rattle.cc_model.specs.Report.{term_lines}
use Rattle.cc_model.specs.Tested.{Term as Found}
use Rattle.cc_outside.specs.Told.{appended, WritesPart}
use Rattle.search_base.specs.Terms.{seen_term}
use Rattle.search_base.specs.Readable.{IsNarrow}
use Rattle.search_dfs.specs.Task.{setting_of, after_of}
use Rattle.search_base.proofs.OnLaws.{on_err}
use Rattle.search_dfs.proofs.Ending.{explored, explored_part, listed_part}
use Rattle.search_dfs.proofs.search.explore.Goals as goal

pub returns-in_err-search_all-clause-some : goal.returns-in_err-search_all-clause-some
returns-in_err-search_all-clause-some g c = on_err _ (listed_part (setting_of (c.args.task).now) (after_of (c.args.task).now) ((c.args.task).now).limit c.new-tally.result c.search_all.new.tally (g.K.Sink.written (c.args.out).now) (g.K.Sink.written c.search_all.new.sink) (g.K.Sink.written c.search_all.new.sink) (g.K.Sink.faults (c.args.out).now) (g.K.Sink.faults c.search_all.new.sink) c.new-tally.ensures.none c.new-tally.ensures.zero c.in_err-search_all.ensures.err)

pub returns-in_err-write_terms-clause-some : goal.returns-in_err-write_terms-clause-some
returns-in_err-write_terms-clause-some g c = on_err _ (explored_part (setting_of (c.args.task).now) (after_of (c.args.task).now) ((c.args.task).now).limit c.new-tally.result c.search_all.new.tally (g.K.Sink.written (c.args.out).now) (g.K.Sink.written c.search_all.new.sink) (g.K.Sink.written c.write_terms.new.sink) (g.K.Sink.faults (c.args.out).now) (g.K.Sink.faults c.search_all.new.sink) c.new-tally.ensures.none c.new-tally.ensures.zero c.in_ok-search_all.ensures.ok
    (subst (λ l. WritesPart (g.K.Sink.written c.search_all.new.sink) (g.K.Sink.written c.write_terms.new.sink) (term_lines (map seen_term l))) c.as_slice.ensures.value c.in_err-write_terms.ensures.part))

pub returns-clause-explored : goal.returns-clause-explored
returns-clause-explored g c = explored (setting_of (c.args.task).now) (after_of (c.args.task).now) ((c.args.task).now).limit c.new-tally.result c.search_all.new.tally (g.K.Sink.written (c.args.out).now) (g.K.Sink.written c.search_all.new.sink) (g.K.Sink.written c.write_terms.new.sink) (g.K.Sink.faults (c.args.out).now) (g.K.Sink.faults c.search_all.new.sink) c.new-tally.ensures.none c.new-tally.ensures.zero c.summed.result c.laws_hold.ensures c.in_ok-search_all.ensures.ok
    (c.in_ok-write_terms.ensures.ok ∙ ap (λ l. appended (g.K.Sink.written c.search_all.new.sink) (term_lines (map seen_term l))) c.as_slice.ensures.value) c.summed.ensures.counted c.summed.ensures.numbers (subst (λ l. (e : Found) → In e (map seen_term l) → IsNarrow e) c.as_slice-2.ensures.value c.narrow.ensures)
