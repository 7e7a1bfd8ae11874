-- Code that does what a program does. It is this project's own.
use Rattle.std.specs.Prelude.{ℕ, pos, Bool, false, List}
use Rattle.cc_base.specs.declared.inputs.Input.{Input}
use Rattle.cc_base.specs.Limits.{Limits}
use Rattle.cc_model.specs.Core.{Program}
use Rattle.cc_model.specs.Meaning.{State}
use Rattle.cc_model.specs.Plain.{Value, num, int_eq, plain}
use Rattle.cc_model.specs.Runs.{Begin, fixed_of, begin_of, run_of}
use Rattle.cc_model.specs.FormOperations.{Forms}
use Rattle.cc_model.specs.Traced.{Traced, traced}
use Rattle.cc_model.specs.Conditions.{traced_begin, traced_run}
use Rattle.cc_model.specs.Instructions.{Instruction, CodeRuns}

-- the number 0
unfoldable pub is_zero : Value → Bool
is_zero (num z) = int_eq z (pos 0)
is_zero _ = false

unfoldable pub is_traced_zero : Traced → Bool
is_traced_zero v = is_zero v.plain

-- before a run of so many steps and events
abbrev pub before_run : {V D : Type 0} → Limits → Begin V D → State V D
before_run b s = record { steps = b.steps; events = b.depth; locals = s.locals; data_now = s.data_now }

-- within all bounds and on all inputs the run of the code is the run of the program, with equal events, sites, end and steps; and so is its
-- traced run, with equal atoms, alternatives and terms. The code of a function begins where `first` says.
pub record Compiles (p : Program) (code : List Instruction) (first : ℕ → ℕ) : Type 0 where
  pub as_run : (b : Limits) (h : Input) → CodeRuns plain (fixed_of p b) is_zero first code (before_run b (begin_of p b h)) (run_of p b h)
  pub as_traced : (f : Forms) (b : Limits) (h : Input) → CodeRuns (traced f p.layouts) (fixed_of p b) is_traced_zero first code (before_run b (traced_begin f p b h)) (traced_run f p b h)
