use Rattle.std.proofs.Common.{◌≡◌, ℕ, ◌<◌, List, length, slice_get, Some}
use Rattle.cc_model.specs.declared.typing.Note.{Note}
use Rattle.cc_model.specs.CheckedProgram.{meant}
use Rattle.c_scopes.specs.Noted.{Tells}
use Rattle.c_scopes.proofs.noted.names.Given as goal

abbrev pub invariant-loop-t : goal.invariant-loop-t
invariant-loop-t l = record {
  count : length l.names ≡ l.t;
  names : (notes : List Note) → Tells 0 notes l.table → (i : ℕ) → i < l.t → slice_get l.names i ≡ Some (meant notes i);
}
