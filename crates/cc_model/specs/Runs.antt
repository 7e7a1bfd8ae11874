-- Runs of a program on its inputs: their paths and ends, and the tests that are real.
use Rattle.std.specs.Prelude.{ℕ, suc, List, [], ◌∷◌, Option, Some, None, map, slice_get}
use Rattle.cc_base.specs.declared.outcomes.Outcome.{Outcome}
use Rattle.cc_base.specs.declared.ends.End.{End}
use Rattle.cc_base.specs.declared.ends.End.TheVariants.{Return}
use Rattle.cc_base.specs.declared.inputs.Input.{Input}
use Rattle.cc_base.specs.Limits.{Limits, base_of}
use Rattle.cc_base.specs.Paths.{Path}
use Rattle.cc_model.specs.Core.{Program, Cell, Func, Start, start_number, start_null}
use Rattle.cc_model.specs.Domain.{Domain}
use Rattle.cc_model.specs.Meaning.{Entry, State, Result, ok, over, Ran, Fixed, main}
use Rattle.cc_model.specs.Plain.{plain, Value, num, null, Data, data_of, locals_at}
use Rattle.cc_model.specs.Canonical.{IsCanonical}

-- where a run begins
pub record Begin (V D : Type 0) : Type 0 where
  pub locals : ℕ → V
  pub data_now : D

abbrev pub end_of : {S A : Type 0} → Result S A → End
end_of (ok a s) = Return
end_of (over e s) = e

module _ (d : Domain) where
  -- the outcomes of the events, in order
  abbrev pub path_of : List (Entry d.E) → Path
  path_of [] = []
  path_of (a ∷ l) = d.outcome a.event ∷ path_of l

  unfoldable pub run : Fixed → ℕ → ℕ → Begin d.V d.D → Ran d.E (State d.V d.D) (Unit {0})
  run x steps events b = main d x (record { steps = steps; events = events; locals = b.locals; data_now = b.data_now })

-- ---- of a program, within bounds, on an input

abbrev pub params_of_func : Option Func → List Cell
params_of_func None = []
params_of_func (Some f) = f.params

-- the cells of the tested function's parameters
abbrev pub params_of : Program → List Cell
params_of p = params_of_func (slice_get p.funcs p.entry)

abbrev pub value_of_start : Start → Value
value_of_start (start_number z) = num z
value_of_start start_null = null

abbrev pub fixed_of : Program → Limits → Fixed
fixed_of p b = record { objects = b.objects; fuel = suc b.steps; program = p }

-- the parameters hold the argument cells, the input's blocks are objects, the globals have their start values
unfoldable pub begin_of : Program → Limits → Input → Begin Value Data
begin_of p b h = record { locals = locals_at; data_now = data_of p.layouts (params_of p) (map value_of_start p.globals) h.cells h.stream (base_of b) }

-- the run of the tested function on the input
unfoldable pub run_of : Program → Limits → Input → Ran Outcome (State Value Data) (Unit {0})
run_of p b h = run plain (fixed_of p b) b.steps b.depth (begin_of p b h)

unfoldable pub path_at : Program → Limits → Input → Path
path_at p b h = path_of plain (run_of p b h).log

unfoldable pub end_at : Program → Limits → Input → End
end_at p b h = end_of (run_of p b h).result

-- the input is one of the tested function's, within the bounds
abbrev pub IsInput : Program → Limits → Input → Type 0
IsInput p b h = IsCanonical p.layouts b (params_of p) h
