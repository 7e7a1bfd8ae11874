-- The trace's own input is the one that was run.
use Rattle.std.proofs.Common.{subst, sym}
use Rattle.cc_model.specs.CheckedProgram.{core_of}
use Rattle.cc_model.specs.Runs.{IsInput}
use Rattle.sym_run.specs.Traces.{IsTrace}
use Rattle.row_tests.proofs.turning.check_row.Goals as goal

pub turned-requires-clause-input : goal.turned-requires-clause-input
turned-requires-clause-input g c = subst (IsInput (core_of c.args.compiled.now.checked) c.args.bounds.now) (sym c.in_ok-trace.ensures.trace.input) c.in_ok-input.ensures

pub turned-requires-clause-trace : goal.turned-requires-clause-trace
turned-requires-clause-trace g c =
    let e = c.in_ok-trace.ensures.trace in subst (λ h. IsTrace c.args.compiled.now.checked c.args.bounds.now h c.in_ok-trace.trace) (sym e.input) e
