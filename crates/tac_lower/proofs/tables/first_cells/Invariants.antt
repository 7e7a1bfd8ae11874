-- The first cells of the globals so far are there.
use Rattle.tac_lower.specs.Marking.{AreFirst}
use Rattle.tac_lower.proofs.tables.first_cells.Given as goal

abbrev pub invariant-loop-ty : goal.invariant-loop-ty
invariant-loop-ty l = AreFirst l.checked l.ty-index l.each l.all
