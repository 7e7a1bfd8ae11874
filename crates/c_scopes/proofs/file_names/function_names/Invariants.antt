use Rattle.std.proofs.Common.{◌≡◌, ◌++◌, drop, map}
use Rattle.cc_model.specs.declared.typing.Function.{Function}
use Rattle.c_scopes.proofs.file_names.function_names.Given as goal

abbrev pub invariant-loop-function : goal.invariant-loop-function
invariant-loop-function l = l.names ++ map (λ (f : Function). f.name) (drop l.function-index l.functions) ≡ map (λ (f : Function). f.name) l.fn.functions
