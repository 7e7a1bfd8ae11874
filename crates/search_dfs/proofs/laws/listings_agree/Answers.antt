use Rattle.std.proofs.Common.{sym, ◌∙◌}
use Rattle.cc_model.specs.Tested.{tested}
use Rattle.search_dfs.proofs.Counting.{paths_map, same_paths, those_above}
use Rattle.search_dfs.proofs.laws.listings_agree.Goals as goal

pub returns-clause-agree : goal.returns-clause-agree
returns-clause-agree c = λ p b after l m h k. paths_map l ∙ same_paths (tested p b) after l m h k ∙ sym (paths_map m)

pub returns-clause-resumed : goal.returns-clause-resumed
returns-clause-resumed c = λ p b a l m h k f. those_above (tested p b) a l m h k f
