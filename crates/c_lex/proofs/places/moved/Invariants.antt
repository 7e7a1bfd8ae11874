use Rattle.std.proofs.Common.{◌≡◌, ◌+◌}
use Rattle.c_lex.specs.Positions.{IsPlace}
use Rattle.c_lex.proofs.places.moved.Given as goal

abbrev pub invariant-loop : goal.invariant-loop
invariant-loop l = IsPlace l.source l.moved × (l.moved.at ≡ l.fn.place.at + l.counter)
