use Rattle.std.proofs.Common.{[], ◌∷◌, ◌∙◌}
use Rattle.cc_model.specs.Listing.{stray_item}
use Rattle.search_dfs.specs.Task.{setting_of}
use Rattle.search_dfs.specs.Turns.{test_at}
use Rattle.search_base.proofs.OnLaws.{on_err, ok_map}
use Rattle.search_dfs.proofs.Lined.{line_wrote, nothing_some}
use Rattle.search_dfs.proofs.listed.list_stray.Goals as goal

pub returns-in_err-line-clause-err : goal.returns-in_err-line-clause-err
returns-in_err-line-clause-err g c = on_err _ (nothing_some (stray_item (test_at (c.args.run).now) (c.args.prefix).now ∷ []) _)

pub returns-in_err-count_stray-clause-err : goal.returns-in_err-count_stray-clause-err
returns-in_err-count_stray-clause-err g c = on_err _ (nothing_some (stray_item (test_at (c.args.run).now) (c.args.prefix).now ∷ []) _)

pub returns-clause-ok : goal.returns-clause-ok
returns-clause-ok g c = ok_map _ c.write_line.ensures.ok (λ w. line_wrote (setting_of (c.args.task).now) (stray_item (test_at (c.args.run).now) (c.args.prefix).now) c.deref.result.now (c.deref.ensures.value ∙ c.in_ok-line.ensures) _ _ _ _ _ _ (record { cells = c.requires.trace.few_cells; bytes = c.requires.trace.bytes; line = c.line_fits.ensures }, c.requires.prefix) w c.write_line.ensures.never_falls (c.in_ok-count_stray.ensures (c.args.prefix).now))
