-- The parts of an event's choices.
use Rattle.std.specs.Prelude.{ℕ, List, length, Option, Some, None}
use Rattle.cc_base.specs.Forms.{Atom}
use Rattle.sym_expr.specs.declared.atoms.Atom.{Atom as Held}
use Rattle.sym_expr.specs.AtomsSeen.{atoms_of}

-- the atoms that were found, and else these
abbrev pub atoms_or : Option (List Held) → List Atom → List Atom
atoms_or None l = l
atoms_or (Some a) l = atoms_of a

-- the number that was found, and else the length
abbrev pub or_length : {A : Type 0} → Option ℕ → List A → Option ℕ
or_length None l = Some (length l)
or_length (Some n) l = Some n
