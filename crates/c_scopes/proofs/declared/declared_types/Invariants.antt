use Rattle.std.proofs.Common.{◌≡◌, ◌++◌, drop}
use Rattle.cc_model.specs.CheckedProgram.{declared_types}
use Rattle.c_scopes.proofs.declared.declared_types.Given as goal

abbrev pub invariant-loop-note : goal.invariant-loop-note
invariant-loop-note l = l.types ++ declared_types (drop l.note-index l.notes) ≡ declared_types l.fn.notes
