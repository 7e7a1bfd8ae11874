use Rattle.std.proofs.Common.{◌≡◌, ◌++◌, drop, map}
use Rattle.c_scopes.specs.FileNames.{is_whole}
use Rattle.c_scopes.proofs.file_names.whole_functions.Given as goal

abbrev pub invariant-loop-function : goal.invariant-loop-function
invariant-loop-function l = l.whole ++ map is_whole (drop l.function-index l.functions) ≡ map is_whole l.fn.functions
