use Rattle.sym_run.proofs.NumberLaws.{product_is}
use Rattle.sym_run.proofs.numbers.product.Goals as goal

pub returns : goal.returns
returns c = product_is c.args.x c.args.y c.requires.left c.requires.right
