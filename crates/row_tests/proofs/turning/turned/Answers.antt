-- Nothing is missing in the trace of a run.
use Rattle.flip_solve.proofs.Bared.{whole_trace}
use Rattle.row_tests.proofs.turning.turned.Goals as goal

pub turn-requires-clause-trace : goal.turn-requires-clause-trace
turn-requires-clause-trace c = whole_trace _ _ _ _ _ c.requires.trace
