-- The stream has taken the piece up to `written`.
use Rattle.std.proofs.Common.{◌≤◌, length, take}
use Rattle.std.specs.Io.KnownBytes.{Appends}
use Rattle.cc_outside.proofs.real_sink.write_piece.Given as goal

abbrev pub invariant-loop : goal.invariant-loop
invariant-loop g l =
    record { within : l.written ≤ length l.piece; taken : Appends (g.W.Write.contents l.initial.writer) (g.W.Write.contents l.writer) (take l.written l.piece) }
