use Rattle.std.proofs.Common.{◌≡◌, ◌<◌, ◌^◌, drop}
use Rattle.linear_solver.specs.Chains.{mixed}
use Rattle.linear_solver.proofs.tidy.bucket_of.Given as goal

abbrev pub invariant-loop-t : goal.invariant-loop-t
invariant-loop-t l = record {
  bound : l.number < 2 ^ 32;
  same : mixed l.number (drop l.t-index l.terms) ≡ mixed 0 l.terms;
}
