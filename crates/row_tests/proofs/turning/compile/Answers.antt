-- A checked program points to cells.
use Rattle.std.proofs.Common.{subst, sym, ◌∙◌}
use Rattle.cc_model.specs.Reads.{Accepts, shallow}
use Rattle.cc_model.specs.Source.{text_at}
use Rattle.row_tests.proofs.turning.compile.Goals as goal

pub lower-requires : goal.lower-requires
lower-requires c = (text_at c.args.source.now c.deref-2.result.now, c.deref-2.result.now, _, (c.in_ok-checked.ensures.checked).1)

pub returns-clause-points : goal.returns-clause-points
returns-clause-points c =
    let e = c.in_ok-checked.ensures.checked in
    let read = subst (λ u. Accepts u c.in_ok-program.program) (c.deref.ensures.value ∙ sym c.deref-2.ensures.value) c.in_ok-program.ensures.found in
    c.a_checked_program_points_to_cells.ensures _ _ _ c.in_ok-checked.checked shallow e.1 (subst (Accepts c.deref-2.result.now) (sym e.0) read)
