use Rattle.std.proofs.Common.{◌≡◌, map, drop}
use Rattle.cc_model.specs.Traced as traced
use Rattle.sym_run.specs.Pointers.{blank}
use Rattle.sym_run.proofs.pointer_events.is_first.Given as goal

abbrev pub invariant-loop-first : goal.invariant-loop-first
invariant-loop-first l = traced.is_first l.place.0 (map blank (drop l.first-index l.firsts)) ≡ traced.is_first l.place.0 (map blank l.firsts)
