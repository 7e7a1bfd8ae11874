use Rattle.std.proofs.Common.{◌≡◌, ◌++◌, ◌∷◌, map, drop}
use Rattle.cc_base.specs.Forms.{at, nothing, differ}
use Rattle.cc_model.specs.Traced as traced
use Rattle.sym_expr.specs.AtomsSeen.{atom_of}
use Rattle.sym_run.specs.Pointers.{blank}
use Rattle.sym_run.proofs.pointer_events.differs.Given as goal

abbrev pub invariant-loop-first : goal.invariant-loop-first
invariant-loop-first l = map atom_of l.atoms ++ traced.differs l.pointer.place.0 l.pointer.ty.0 (map blank (drop l.first-index l.firsts)) ≡ differ (at l.pointer.place.0) nothing ∷ traced.differs l.pointer.place.0 l.pointer.ty.0 (map blank l.firsts)
