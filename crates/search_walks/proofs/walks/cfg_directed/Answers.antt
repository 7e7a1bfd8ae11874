use Rattle.std.proofs.Common.{◌∷◌, [], refl}
use Rattle.search_walks.specs.Course.{FromBase}
use Rattle.search_base.specs.Setting.{base_of}
use Rattle.search_walks.specs.Task.{setting_of}
use Rattle.search_walks.specs.Walks.{candidates, directed_cut_off}
use Rattle.search_base.proofs.OnLaws.{on_err, if_ok, err_map}
use Rattle.search_walks.proofs.LoggedLaws.{whole, part_of_walk, part_of_terms, part_of_none}
use Rattle.search_walks.proofs.walks.cfg_directed.Goals as goal

pub returns-in_err-log-clause-part : goal.returns-in_err-log-clause-part
returns-in_err-log-clause-part g c =
    let s = setting_of (c.args.task).now in
    on_err _ (part_of_none s (FromBase s ((c.args.task).now).limit (((c.args.task).now).tac).now) _ c.lo-lowest.ensures.in_range _ refl (directed_cut_off (base_of s) (candidates s (base_of s)) (base_of s ∷ []) 1 refl))

pub returns-in_err-directed_walk-clause-part : goal.returns-in_err-directed_walk-clause-part
returns-in_err-directed_walk-clause-part g c =
    let s = setting_of (c.args.task).now in
    on_err _ (part_of_walk s (FromBase s ((c.args.task).now).limit (((c.args.task).now).tac).now) _ _ c.in_err-directed_walk.ensures.err)

pub returns-clause-walked : goal.returns-clause-walked
returns-clause-walked g c =
    let s = setting_of (c.args.task).now in
    if_ok _ c.finish.ensures.ok (λ w h. whole s (FromBase s ((c.args.task).now).limit (((c.args.task).now).tac).now) _ _ _ _ w c.in_ok-directed_walk.ensures.ok h)

pub returns-clause-part : goal.returns-clause-part
returns-clause-part g c =
    let s = setting_of (c.args.task).now in
    err_map _ c.finish.ensures.err (λ h. part_of_terms s (FromBase s ((c.args.task).now).limit (((c.args.task).now).tac).now) _ _ _ _ c.in_ok-directed_walk.ensures.ok h)
