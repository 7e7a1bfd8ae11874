use Rattle.std.proofs.Common.{◌≡◌, ◌++◌, map, drop}
use Rattle.cc_model.specs.Traced as traced
use Rattle.sym_run.specs.Asks.{choices_of}
use Rattle.sym_run.specs.Pointers.{blank}
use Rattle.sym_run.proofs.pointer_events.add_letters.Given as goal

abbrev pub invariant-loop-rank : goal.invariant-loop-rank
invariant-loop-rank l = choices_of l.choices ++ traced.letters l.pointer.place.0 l.pointer.ty.0 l.rank (map blank (drop l.rank l.firsts)) ≡ choices_of l.initial.choices ++ traced.letters l.pointer.place.0 l.pointer.ty.0 0 (map blank l.firsts)
