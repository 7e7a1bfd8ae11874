-- What pointers ask, by the places that stand beside them.
use Rattle.std.specs.Prelude.{Bool, true, false, Option, Some, None, []}
use Rattle.cc_model.specs.Core as core
use Rattle.cc_model.specs.Core.{Cmp}
use Rattle.cc_model.specs.Traced.{Shadow, form, place, none, Touched}
use Rattle.sym_run.specs.declared.objects.First.{First}

-- a place with the type to which it points
abbrev pub place_in : Shadow → Option First
place_in (form g) = None
place_in (place p t) = Some (record { place = record { 0 = p }; ty = record { 0 = t } })
place_in none = None

-- no form
abbrev pub HasNoForm : Shadow → Type 0
HasNoForm (form g) = ⊥
HasNoForm (place p t) = Unit {0}
HasNoForm none = Unit {0}

-- the comparison asks whether pointers differ
abbrev pub is_ne : Cmp → Bool
is_ne core.ne = true
is_ne core.eq = false
is_ne core.lt = false
is_ne core.gt = false
is_ne core.le = false
is_ne core.ge = false

-- a touched block without its cells
abbrev pub blank : First → Touched
blank f = record { first = f.place.0; type = f.ty.0; shadows = [] }
