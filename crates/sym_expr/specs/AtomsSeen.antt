-- Atoms as plain data.
use Rattle.std.specs.Prelude.{List, map}
use Rattle.cc_base.specs.Forms.{Side, nothing, at, Atom as PlainAtom, at_most_zero, is_zero, not_zero, same, differ}
use Rattle.sym_expr.specs.declared.atoms.PtrTerm.{PtrTerm}
use Rattle.sym_expr.specs.declared.atoms.PtrTerm.TheVariants.{Null, At}
use Rattle.sym_expr.specs.declared.atoms.Atom.{Atom}
use Rattle.sym_expr.specs.declared.atoms.Atom.TheVariants.{Le, Eq, Ne, Same, Differ}

-- a side as plain data
abbrev pub side_of : PtrTerm → Side
side_of Null = nothing
side_of (At p) = at p.0

-- an atom as plain data
abbrev pub atom_of : Atom → PlainAtom
atom_of (Le g) = at_most_zero g
atom_of (Eq g) = is_zero g
atom_of (Ne g) = not_zero g
atom_of (Same a b) = same (side_of a) (side_of b)
atom_of (Differ a b) = differ (side_of a) (side_of b)

-- a list of atoms
abbrev pub atoms_of : List Atom → List PlainAtom
atoms_of l = map atom_of l
