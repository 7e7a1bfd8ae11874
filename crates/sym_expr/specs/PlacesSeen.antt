-- Places as plain data.
use Rattle.std.specs.Prelude.{List, map}
use Rattle.cc_base.specs.declared.cells.CellTy.{CellTy}
use Rattle.cc_base.specs.Places.{Place as PlainPlace, Placed, arg, field, stream}
use Rattle.sym_expr.specs.declared.places.Place.{Place}
use Rattle.sym_expr.specs.declared.places.Place.TheVariants.{Arg, Field, Stream}

-- a place as plain data
abbrev pub place_of : Place → PlainPlace
place_of (Arg i) = arg i
place_of (Field parent c) = field parent.0 c
place_of (Stream i) = stream i

-- a place with what stands there
abbrev pub placed_of : Place → CellTy → Placed
placed_of p ty = record { place = place_of p; holds = ty }

-- the same, of a pair
abbrev pub entry_of : Place × CellTy → Placed
entry_of e = placed_of e.0 e.1

-- a list of pairs
abbrev pub entries_of : List (Place × CellTy) → List Placed
entries_of l = map entry_of l
