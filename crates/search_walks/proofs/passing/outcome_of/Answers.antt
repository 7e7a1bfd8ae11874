use Rattle.search_walks.proofs.DrawLaws.{got_or}
use Rattle.search_walks.proofs.passing.outcome_of.Goals as goal

pub returns : goal.returns
returns c =
    got_or _ _ _ c.requires
