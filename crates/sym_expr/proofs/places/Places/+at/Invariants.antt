use Rattle.sym_expr.proofs.places.Places.+at.Given as goal

abbrev pub decreases-at : goal.decreases-at
decreases-at l = l.id.0
