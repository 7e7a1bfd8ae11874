-- The paths and ends of a program's runs on its inputs.
use Rattle.std.proofs.Common.{◌≡◌}
use Rattle.cc_base.specs.declared.inputs.Input.{Input}
use Rattle.cc_base.specs.Limits.{Limits}
use Rattle.cc_base.specs.Paths.{GoesOnFrom}
use Rattle.cc_model.specs.Core.{Program}
use Rattle.cc_model.specs.Plain.{plain}
use Rattle.cc_model.specs.Runs.{path_at, end_at, run_of, begin_of, fixed_of}
use Rattle.cc_laws.proofs.Control.{no_prefix, one_end}

pub no_prefix_at : (p : Program) (b : Limits) (g h : Input) → GoesOnFrom (path_at p b h) (path_at p b g) → ⊥
unfolding path_at run_of
no_prefix_at p b g h i = no_prefix plain (fixed_of p b) b.steps b.depth (begin_of p b g) (begin_of p b h) i

pub one_end_at : (p : Program) (b : Limits) (g h : Input) → path_at p b g ≡ path_at p b h → end_at p b g ≡ end_at p b h
unfolding path_at end_at run_of
one_end_at p b g h i = one_end plain (fixed_of p b) b.steps b.depth (begin_of p b g) (begin_of p b h) i
