use Rattle.std.proofs.Common.{refl}
use Rattle.search_walks.specs.Branching.{FromBase}
use Rattle.search_walks.specs.Draws.{seeded}
use Rattle.search_base.specs.Setting.{base_of}
use Rattle.search_walks.specs.Task.{setting_of}
use Rattle.search_walks.specs.Walks.{branch_cut_off, candidates}
use Rattle.search_walks.proofs.LoggedLaws.{part_of_none, part_of_walk}
use Rattle.search_base.proofs.OnLaws.{on_err}
use Rattle.search_walks.proofs.BranchLaws.{walked_from, whole_from}
use Rattle.search_walks.proofs.WholeLaws.{whole_on, part_on}
use Rattle.search_walks.proofs.walks.random_branch.Goals as goal

pub returns-in_err-log-clause-part : goal.returns-in_err-log-clause-part
returns-in_err-log-clause-part g c =
    let s = setting_of (c.args.task).now in
    on_err _ (part_of_none s (FromBase s ((c.args.task).now).limit (seeded c.args.seed)) _ c.lo-lowest.ensures.in_range _ refl (branch_cut_off (base_of s) (candidates s (base_of s)) (seeded c.args.seed) 1 refl))

pub returns-in_err-branch_walk-clause-part : goal.returns-in_err-branch_walk-clause-part
returns-in_err-branch_walk-clause-part g c =
    let s = setting_of (c.args.task).now in
    on_err _ (part_of_walk s (FromBase s ((c.args.task).now).limit (seeded c.args.seed)) _ _ (walked_from s ((c.args.task).now).limit _ _ c.seed_from_u64-words.ensures _ _ c.in_err-branch_walk.ensures.err))

pub returns-clause-walked : goal.returns-clause-walked
returns-clause-walked g c =
    let s = setting_of (c.args.task).now in
    whole_on s (FromBase s ((c.args.task).now).limit (seeded c.args.seed)) _ _ _ _ _ (λ cuts. whole_from s ((c.args.task).now).limit _ _ c.seed_from_u64-words.ensures cuts _ _ _ (c.in_ok-branch_walk.ensures.ok cuts)) c.finish.ensures.ok

pub returns-clause-part : goal.returns-clause-part
returns-clause-part g c =
    let s = setting_of (c.args.task).now in
    part_on s (FromBase s ((c.args.task).now).limit (seeded c.args.seed)) _ _ _ _ _ (λ cuts. whole_from s ((c.args.task).now).limit _ _ c.seed_from_u64-words.ensures cuts _ _ _ (c.in_ok-branch_walk.ensures.ok cuts)) c.finish.ensures.err
