use Rattle.std.proofs.Common.{◌≡◌, ◌++◌, List, map, drop, sym, ap, ◌∙◌, subst, ◌+◌, ◌∷◌}
use Rattle.std.proofs.lemmas.List.{map_push}
use Rattle.cc_base.specs.Forms.{Atom as PlainAtom, at, nothing, differ}
use Rattle.cc_model.specs.Traced as traced
use Rattle.sym_expr.specs.declared.atoms.Atom.{Atom}
use Rattle.sym_expr.specs.AtomsSeen.{atom_of}
use Rattle.sym_run.specs.Pointers.{blank}
use Rattle.sym_run.proofs.PointerLaws.{atom_here, atom_past, atoms_done}
use Rattle.sym_run.proofs.pointer_events.differs.Goals as goal
use Rattle.sym_run.proofs.pointer_events.differs.Goals.{then-pointer-first+in_ok-push-2, else-pointer-first}

pub loop-first-preserved : goal.loop-first-preserved
loop-first-preserved c =
    elim c.if-pointer-first.branch [
      | then-pointer-first+in_ok-push-2 w ↦
          let more = ap (map atom_of) (w.atoms-is ∙ w.in_ok-push-2.ensures.ok) ∙ map_push atom_of c.loop-first.atoms _ in
          subst (λ (l : List PlainAtom). l ++ traced.differs c.args.pointer.place.0 c.args.pointer.ty.0 (map blank (drop (c.loop-first.first-index + 1) c.args.firsts.now)) ≡ differ (at c.args.pointer.place.0) nothing ∷ traced.differs c.args.pointer.place.0 c.args.pointer.ty.0 (map blank c.args.firsts.now)) (sym more)
          (atom_here _ _ _ _ _ _ _ c.loop-first-test.true w.if-pointer-first.true c.loop-first.invariant)
      | else-pointer-first w ↦
          subst (λ (l : List Atom). map atom_of l ++ traced.differs c.args.pointer.place.0 c.args.pointer.ty.0 (map blank (drop (c.loop-first.first-index + 1) c.args.firsts.now)) ≡ differ (at c.args.pointer.place.0) nothing ∷ traced.differs c.args.pointer.place.0 c.args.pointer.ty.0 (map blank c.args.firsts.now)) (sym w.atoms-is)
          (atom_past _ _ _ _ _ _ _ c.loop-first-test.true w.if-pointer-first.false c.loop-first.invariant)
    ]

pub returns : goal.returns
returns c = atoms_done _ _ _ _ c.args.pointer _ _ c.loop-first-test.false c.loop-first.invariant
