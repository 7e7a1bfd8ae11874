use Rattle.cc_base.specs.Limits.{base_of}
use Rattle.flip_solve.specs.Choosing.{AreNumbers}
use Rattle.flip_solve.proofs.numbers.numbers.Given as goal

abbrev pub invariant-loop-id : goal.invariant-loop-id
invariant-loop-id l = AreNumbers l.places l.id l.input (base_of l.bounds) l.solved l.numbers
