use Rattle.std.proofs.Common.{ap, ◌∙◌, unwrap_or}
use Rattle.tac_lower.specs.Tables.{facts_of}
use Rattle.tac_lower.proofs.known.Known.first_cell.Goals as goal

pub returns-in-Some : goal.returns-in-Some
unfolding facts_of
returns-in-Some c = ap (λ o. unwrap_or o c.args.self.now.tables.now.all_cells) c.in-Some.ensures.value ∙ c.args.self.now.right.cells c.args.number

pub returns-in-None : goal.returns-in-None
unfolding facts_of
returns-in-None c = ap (λ o. unwrap_or o c.args.self.now.tables.now.all_cells) c.in-None.ensures.value ∙ c.args.self.now.right.cells c.args.number
