use Rattle.std.proofs.Common.{◌≡◌, ◌++◌, ◌+◌, ◌∙◌, drop, sym}
use Rattle.sym_run.proofs.GlobalLaws.{global_step, global_past, moved, moved_cells}
use Rattle.sym_run.proofs.globals.add_globals.Goals as goal
use Rattle.sym_run.proofs.globals.add_globals.Goals.{in-Some+in_ok-add_global, in_default}

pub loop-number-preserved : goal.loop-number-preserved
loop-number-preserved c = elim c.match-type_at.branch [
  | in-Some+in_ok-add_global w ↦ record {
    cells = global_step c.args.checked.now c.args.parts.now c.args.types.now c.loop-number.number c.index-parts-number.result w.in-Some.ty w.layout.result.now c.loop-number.cells c.match-type_at.cells _ c.loop-number-test.true c.index-parts-number.is w.in-Some.ensures w.layout.ensures
        (w.cells-is ∙ w.in_ok-add_global.ensures.cells c.args.checked.now) c.loop-number.invariant.cells;
    values = λ h. moved w.add_global.new.cells c.match-type_at.cells (sym w.cells-is) (w.in_ok-add_global.ensures.values (c.loop-number.invariant.values h));
  }
  | in_default w ↦ record {
    cells = moved_cells c.loop-number.cells c.match-type_at.cells _ _ (sym w.cells-is) (global_past c.args.checked.now c.args.parts.now c.args.types.now c.loop-number.number c.loop-number.cells _ w.in_default.ensures c.loop-number.invariant.cells);
    values = λ h. moved c.loop-number.cells c.match-type_at.cells (sym w.cells-is) (c.loop-number.invariant.values h);
  }
]
