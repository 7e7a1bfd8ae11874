-- Terms as plain data.
use Rattle.std.specs.Prelude.{List, map}
use Rattle.cc_base.specs.declared.forms.Multiple.{Multiple}
use Rattle.sym_expr.specs.declared.forms.FormTerm.{FormTerm}

-- a term as plain data
abbrev pub multiple_of : FormTerm → Multiple
multiple_of t = record { place = t.place.0; coefficient = t.coefficient }

-- a list of terms
abbrev pub multiples_of : List FormTerm → List Multiple
multiples_of l = map multiple_of l
