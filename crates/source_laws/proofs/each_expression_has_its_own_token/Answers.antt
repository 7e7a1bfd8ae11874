use Rattle.source_laws.proofs.SpansItems.{tokens_once}
use Rattle.source_laws.proofs.each_expression_has_its_own_token.Goals as goal

pub returns : goal.returns
returns c = tokens_once
