use Rattle.std.proofs.Common.{[], ◌∷◌, ◌∙◌}
use Rattle.cc_model.specs.Listing.{spent_item}
use Rattle.search_dfs.specs.Task.{setting_of}
use Rattle.search_base.proofs.OnLaws.{on_err, ok_map}
use Rattle.search_dfs.proofs.Lined.{line_wrote, nothing_some}
use Rattle.search_dfs.proofs.listed.list_spent.Goals as goal

pub returns-in_err-line-clause-err : goal.returns-in_err-line-clause-err
returns-in_err-line-clause-err g c = on_err _ (nothing_some (spent_item (c.args.prefix).now ∷ []) _)

pub returns-in_err-count_spent-clause-err : goal.returns-in_err-count_spent-clause-err
returns-in_err-count_spent-clause-err g c = on_err _ (nothing_some (spent_item (c.args.prefix).now ∷ []) _)

pub returns-clause-ok : goal.returns-clause-ok
returns-clause-ok g c = ok_map _ c.write_line.ensures.ok (λ w. line_wrote (setting_of (c.args.task).now) (spent_item (c.args.prefix).now) c.deref.result.now (c.deref.ensures.value ∙ c.in_ok-line.ensures) _ _ _ _ _ _ c.requires w c.write_line.ensures.never_falls (c.in_ok-count_spent.ensures (setting_of (c.args.task).now) (c.args.prefix).now))
