use Rattle.sym_run.proofs.GlobalLaws.{item_step}
use Rattle.sym_run.proofs.globals.global_cells.Goals as goal

pub loop-item-preserved : goal.loop-item-preserved
loop-item-preserved c = record {
  cells = item_step c.args.checked.now c.as_slice-item-items.result.now c.args.checked.now.globals c.loop-item.item-index c.item-item.result c.loop-item.next c.in_ok-next.next c.loop-item.cells c.add_item.new.cells _ c.loop-item-test.true c.item-item.is c.in_ok-next.ensures.cells c.in_ok-next.ensures.next c.loop-item.invariant.cells;
  values = c.in_ok-next.ensures.values c.loop-item.invariant.values;
}
