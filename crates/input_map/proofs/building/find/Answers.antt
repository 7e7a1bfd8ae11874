use Rattle.std.proofs.Common.{ap, ◌∙◌, arith}
use Rattle.std.specs.Ordering.{nat_cmp}
use Rattle.std.specs.BTreeMap.{get}
use Rattle.input_map.proofs.Indexed.{found_is}
use Rattle.input_map.proofs.building.find.Goals as goal

pub returns : goal.returns
returns c = c.at_key.ensures ∙ ap (get nat_cmp c.args.found.now) c.key.ensures ∙ found_is c.args.found.now c.args.block c.args.cell (omega arith)
