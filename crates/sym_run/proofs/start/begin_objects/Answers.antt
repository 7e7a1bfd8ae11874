use Rattle.sym_run.proofs.StartLaws.{laid_is}
use Rattle.sym_run.proofs.start.begin_objects.Goals as goal

pub returns : goal.returns
returns c = laid_is c.args.fixed.now.checked.now c.args.fixed.now.input.now c.args.symbols.now c.arg_cells.new.symbols c.in_ok-types.types c.as_slice.result.now c.as_slice-numbers.result.now c.in_ok-globals.globals c.as_slice-2.result.now c.in_ok-args.args c.as_slice-3.result.now c.in_ok-memory.memory c.new.result c.new-places.result c.arg_cells.new.places
    c.requires c.as_slice.ensures c.as_slice-numbers.ensures c.as_slice-2.ensures c.as_slice-3.ensures c.in_ok-globals.ensures.cells c.in_ok-globals.ensures.values c.in_ok-types.ensures
    c.in_ok-args.ensures.cells c.new-places.ensures c.in_ok-args.ensures.places c.in_ok-args.ensures.symbols c.in_ok-args.ensures.enough c.in_ok-memory.ensures c.new.ensures
