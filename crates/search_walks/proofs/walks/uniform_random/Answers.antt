use Rattle.std.proofs.Common.{refl, ◌-◌}
use Rattle.search_walks.specs.Passing.{FromStart}
use Rattle.search_walks.specs.Draws.{seeded}
use Rattle.search_base.specs.Setting.{base_of}
use Rattle.search_walks.specs.Task.{setting_of}
use Rattle.search_walks.specs.Walks.{pass_cut_off}
use Rattle.search_walks.proofs.LoggedLaws.{part_of_none, part_of_walk}
use Rattle.search_base.proofs.OnLaws.{on_err}
use Rattle.search_walks.proofs.PassLaws.{passed_from, passes_from}
use Rattle.search_walks.proofs.WholeLaws.{whole_on, part_on}
use Rattle.search_walks.proofs.walks.uniform_random.Goals as goal

pub returns-in_err-log-clause-part : goal.returns-in_err-log-clause-part
returns-in_err-log-clause-part g c =
    let s = setting_of (c.args.task).now in
    on_err _ (part_of_none s (FromStart s ((c.args.task).now).limit (seeded c.args.seed)) _ c.lo-lowest.ensures.in_range _ refl (pass_cut_off (base_of s) 0 (((c.args.task).now).limit - 1) (seeded c.args.seed) 1 refl))

pub returns-in_err-uniform_walk-clause-part : goal.returns-in_err-uniform_walk-clause-part
returns-in_err-uniform_walk-clause-part g c =
    let s = setting_of (c.args.task).now in
    on_err _ (part_of_walk s (FromStart s ((c.args.task).now).limit (seeded c.args.seed)) _ _ (passed_from s ((c.args.task).now).limit _ _ c.seed_from_u64-words.ensures _ _ c.in_err-uniform_walk.ensures.err))

pub returns-clause-walked : goal.returns-clause-walked
returns-clause-walked g c =
    let s = setting_of (c.args.task).now in
    whole_on s (FromStart s ((c.args.task).now).limit (seeded c.args.seed)) _ _ _ _ _ (λ cuts. passes_from s ((c.args.task).now).limit _ _ c.seed_from_u64-words.ensures cuts _ _ _ (c.in_ok-uniform_walk.ensures.ok cuts)) c.finish.ensures.ok

pub returns-clause-part : goal.returns-clause-part
returns-clause-part g c =
    let s = setting_of (c.args.task).now in
    part_on s (FromStart s ((c.args.task).now).limit (seeded c.args.seed)) _ _ _ _ _ (λ cuts. passes_from s ((c.args.task).now).limit _ _ c.seed_from_u64-words.ensures cuts _ _ _ (c.in_ok-uniform_walk.ensures.ok cuts)) c.finish.ensures.err
