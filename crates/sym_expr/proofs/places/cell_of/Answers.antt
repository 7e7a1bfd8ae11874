use Rattle.std.proofs.Common.{◌∙◌, arith}
use Rattle.std.proofs.lemmas.Int.{ints}
use Rattle.sym_expr.proofs.PlaceSteps.{cell_low, cell_high, cell_in}
use Rattle.sym_expr.proofs.places.cell_of.Goals as goal

pub returns-then-address-lt1 : goal.returns-then-address-lt1
returns-then-address-lt1 c = cell_low c.args.cells.now c.args.address (omega (arith, ints))

pub returns-then-address-cells : goal.returns-then-address-cells
returns-then-address-cells c = cell_high c.args.cells.now c.args.address (omega (arith, ints))

pub returns : goal.returns
returns c = c.number_at.ensures ∙ cell_in c.args.cells.now c.args.address c.index_of.result (omega (arith, ints, c.index_of.ensures))
