use Rattle.cc_model.specs.CheckedProgram.{core_of}
use Rattle.concolic_cli.specs.Replaying.{AreReal}
use Rattle.concolic_cli.proofs.replaying.first_difference.Given as goal

abbrev pub invariant-loop-place : goal.invariant-loop-place
invariant-loop-place l = AreReal (core_of l.compiled.checked) l.bounds l.tests l.place
