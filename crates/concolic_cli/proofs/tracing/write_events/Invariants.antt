use Rattle.std.proofs.Common.{◌+◌, ◌≤◌, drop}
use Rattle.concolic_cli.specs.TraceText.{recorded_lines}
use Rattle.concolic_cli.proofs.TraceLines.{SoFar}
use Rattle.concolic_cli.proofs.tracing.write_events.Given as goal

-- the lines so far are written, and the faults did not fall
abbrev pub invariant-loop-at : goal.invariant-loop-at
invariant-loop-at g l = record {
  so_far : SoFar (g.K.Sink.written l.fn.out) (g.K.Sink.written l.out) (recorded_lines l.checked 1 l.events) (recorded_lines l.checked (l.at + 1) (drop l.at l.events));
  falls : g.K.Sink.faults l.fn.out ≤ g.K.Sink.faults l.out;
}
