use Rattle.std.proofs.Common.{ap, ◌∙◌, slice_index_or}
use Rattle.cc_base.specs.declared.outcomes.Outcome.TheVariants.{Zero}
use Rattle.search_dfs.proofs.Choices.{own_index}
use Rattle.search_dfs.proofs.runs.own_outcome.Goals as goal

pub returns : goal.returns
returns c = ap (λ l. slice_index_or l c.args.k Zero) c.as_slice.ensures ∙ own_index ((c.args.run).now).path c.args.k
