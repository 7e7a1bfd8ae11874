-- Why pointer atoms have no classes.
use Rattle.std.specs.Prelude.{List}
use Rattle.cc_base.specs.Forms.{Atom}
use Rattle.cc_base.specs.Classes.{FirstContradiction}
use Rattle.pointer_solver.specs.declared.PointerFault.{PointerFault}
use Rattle.pointer_solver.specs.declared.PointerFault.TheVariants.{Unsat, NoMemory}

-- Unsat holds the index of the first disequality that is contradicted
abbrev pub IsFault : List Atom → PointerFault → Type 0
IsFault l (Unsat k) = FirstContradiction l k
IsFault l NoMemory = Unit {0}
