use Rattle.std.proofs.Common.{◌≡◌, ◌++◌, drop, map}
use Rattle.cc_model.specs.CheckedProgram as checked
use Rattle.c_scopes.specs.Noted.{Tells}
use Rattle.c_types.proofs.resolved.types_at.Given as goal

abbrev pub invariant-loop-token : goal.invariant-loop-token
invariant-loop-token l = record {
  told : Tells 0 l.notes l.said;
  types : l.types ++ map (checked.type_at l.notes) (drop l.token-index l.tokens) ≡ map (checked.type_at l.fn.notes) l.fn.tokens;
}
