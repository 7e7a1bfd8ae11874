use Rattle.std.proofs.Common.{sym, ap, ap₂, ◌∙◌, ◌-◌, get_or}
use Rattle.search_dfs.specs.declared.open.Pending.{Pending}
use Rattle.search_dfs.proofs.Choices.{left_last, popped_last}
use Rattle.search_dfs.proofs.runs.leave.Goals as goal

pub returns-then-as_slice-last : goal.returns-then-as_slice-last
returns-then-as_slice-last c = λ r rs e. popped_last c.args.runs.now c.index-as_slice-last.result r rs c.args.depth
    (c.index-as_slice-last.is ∙ ap₂ (λ l n. get_or l (n - 1) c.index-as_slice-last.result) c.as_slice.ensures c.len-last.ensures) e
    c.pop-run.new.self c.pop-run.result c.requires c.pop-run.ensures (ap (λ (z : Pending). z.from) c.index-as_slice-last.is ∙ c.if-as_slice-last.true)

pub returns-else-as_slice-last : goal.returns-else-as_slice-last
returns-else-as_slice-last c = λ r rs e. left_last c.args.runs.now c.index-as_slice-last.result r rs c.args.depth
    (c.index-as_slice-last.is ∙ ap₂ (λ l n. get_or l (n - 1) c.index-as_slice-last.result) c.as_slice.ensures c.len-last.ensures) e (λ k. c.if-as_slice-last.false (sym (ap (λ (z : Pending). z.from) c.index-as_slice-last.is) ∙ k))
