-- What is listed of a run, and why a list ends early.
use Rattle.std.specs.Prelude.{ℕ}
use Rattle.cc_base.specs.declared.inputs.Test.{Test}
use Rattle.cc_base.specs.Paths.{Path}
use Rattle.cc_outside.specs.Faults.{Rose}
use Rattle.sym_run.specs.declared.trace.Trace.{Trace}
use Rattle.search_base.specs.declared.fault.SearchFault.{SearchFault}
use Rattle.search_base.specs.declared.fault.SearchFault.TheVariants as fault

-- the test of a run
abbrev pub listed : Trace → Path → Test
listed t p = record { path = p; end = t.end; input = t.input }

-- the sink's faults rose where it is the sink
abbrev pub SinkCause : ℕ → ℕ → SearchFault → Type 0
SinkCause old new fault.Sink = Rose old new
SinkCause old new fault.NoMemory = Unit {0}
