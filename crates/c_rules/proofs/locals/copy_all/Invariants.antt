use Rattle.std.proofs.Common.{◌≡◌, ◌++◌, drop}
use Rattle.c_rules.proofs.locals.copy_all.Given as goal

abbrev pub invariant-loop-ty : goal.invariant-loop-ty
invariant-loop-ty l = l.copies ++ drop l.ty-index l.types ≡ l.fn.types
