-- A checked program points to cells, and its run is that of the traced meaning.
use Rattle.std.proofs.Common.{ℕ, ◌^◌, ◌<◌, subst, unwrap_or, slice_get}
use Rattle.cc_model.specs.Reads.{shallow}
use Rattle.cc_model.specs.Source.{text_at}
use Rattle.concolic_cli.proofs.Reports.{run_is}
use Rattle.concolic_cli.proofs.prepared.run_on.Goals as goal

pub run-requires-clause-points : goal.run-requires-clause-points
run-requires-clause-points c =
    let r = c.requires.read in c.a_checked_program_points_to_cells.ensures (text_at r.bytes r.tokens) r.tokens r.entry c.args.checked.now shallow (r.reads).right (r.reads).read

pub returns-clause-run : goal.returns-clause-run
returns-clause-run c = let t = c.in_ok-trace.ensures in run_is c.args.checked.now c.args.bounds.now c.args.input.now c.in_ok-trace.trace c.requires.input t.trace t.short t.plain t.end_of_run t.bytes c.line_fits.ensures (subst (λ l. (k : ℕ) → unwrap_or (slice_get l k) 0 < 2 ^ 64) c.as_slice.ensures c.narrow_lines.ensures)
