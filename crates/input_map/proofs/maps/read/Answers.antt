use Rattle.std.proofs.Common.{map}
use Rattle.cc_model.specs.CheckedProgram.{cell_of, core_of}
use Rattle.input_map.proofs.Answered.{whole}
use Rattle.input_map.proofs.maps.read.Goals as goal

pub returns : goal.returns
returns c = whole (core_of c.args.checked.now) c.args.bounds.now c.args.text.now (c.in_ok-numbers.numbers).cells (c.in_ok-numbers.numbers).stream c.as_slice.result.now c.as_slice-2.result.now c.in_ok-numbers_read.numbers_read
    (map cell_of c.in_ok-params.params) c.in_ok-numbers.ensures.read c.as_slice.ensures c.as_slice-2.ensures c.in_ok-numbers_read.ensures.read c.in_ok-params.ensures c.in_ok-check_cells.ensures c.in_ok-numbers_read.ensures.judged
