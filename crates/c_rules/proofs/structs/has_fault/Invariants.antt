use Rattle.std.proofs.Common.{◌≡◌, ℕ, drop}
use Rattle.cc_model.specs.declared.typing.File.{File}
use Rattle.cc_model.specs.Scopes.{Text}
use Rattle.cc_model.specs.Faults as faults
use Rattle.c_rules.proofs.structs.has_fault.Given as goal

abbrev pub invariant-loop-note : goal.invariant-loop-note
invariant-loop-note l = (text : ℕ → Text) (file : File) → faults.has_fault text file (drop l.note-index l.notes) ≡ faults.has_fault text file l.fn.notes
