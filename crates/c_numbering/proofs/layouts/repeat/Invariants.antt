use Rattle.std.proofs.Common.{◌≡◌}
use Rattle.c_numbering.specs.Layouts.{times}
use Rattle.c_numbering.proofs.layouts.repeat.Given as goal

abbrev pub invariant-loop-time : goal.invariant-loop-time
invariant-loop-time l = l.all ≡ times l._time l.fn.cells
