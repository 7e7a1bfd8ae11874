use Rattle.std.proofs.Common.{ap₂, ◌∙◌, ◌-◌, get_or}
use Rattle.search_dfs.proofs.Down.{last_is}
use Rattle.search_dfs.proofs.runs.last_run.Goals as goal

pub returns : goal.returns
returns c = λ r rs e. c.index-as_slice-last.is ∙ ap₂ (λ l n. get_or l (n - 1) c.index-as_slice-last.result) c.as_slice.ensures c.len-last.ensures ∙ last_is c.args.runs.now r c.index-as_slice-last.result rs e
