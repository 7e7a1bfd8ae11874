use Rattle.std.proofs.Common.{take, map}
use Rattle.cc_model.specs.declared.typing.Variable.{Variable}
use Rattle.cc_model.specs.CheckedProgram.{known}
use Rattle.c_numbering.specs.Table.{AllNumbered}
use Rattle.c_numbering.proofs.sigs.global_numbers.Given as goal

abbrev pub invariant-loop-global : goal.invariant-loop-global
invariant-loop-global l = AllNumbered l.fn.table l.table l.numbers (known (map (λ (v : Variable). v.ty) (take l.global-index l.globals)))
