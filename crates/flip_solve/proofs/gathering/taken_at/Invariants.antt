use Rattle.std.proofs.Common.{◌≡◌, take}
use Rattle.sym_expr.specs.AtomsSeen.{atoms_of}
use Rattle.flip_solve.specs.Choosing.{taken_of}
use Rattle.flip_solve.proofs.gathering.taken_at.Given as goal

abbrev pub invariant-loop-event : goal.invariant-loop-event
invariant-loop-event l = atoms_of l.atoms ≡ taken_of (take l.event-index l.events)
