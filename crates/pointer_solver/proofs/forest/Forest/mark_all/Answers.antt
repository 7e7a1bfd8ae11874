use Rattle.std.proofs.Common.{◌∙◌, sym, ap, List, take}
use Rattle.cc_base.specs.Forms.{Atom}
use Rattle.sym_expr.specs.AtomsSeen.{atom_of, atoms_of}
use Rattle.pointer_solver.specs.Marks.{marked_by, marked_all}
use Rattle.pointer_solver.proofs.AtomSteps.{taken_more}
use Rattle.pointer_solver.proofs.Marked.{marked_all-push}
use Rattle.pointer_solver.proofs.forest.Forest.mark_all.Goals as goal

pub loop-atom-preserved : goal.loop-atom-preserved
loop-atom-preserved c =
    let i = c.loop-atom.atom-index in let x = c.atom-item.result in let atoms = c.args.atoms.now in
    record {
      forest = c.mark_sides.ensures.forest;
      len = c.mark_sides.ensures.len ∙ c.loop-atom.invariant.len;
      size = c.mark_sides.auto.classes ∙ c.loop-atom.invariant.size;
      marked = λ root t. let s = c.loop-atom.invariant.marked root t in let u = c.mark_sides.ensures.marked root s.0 in (
        u.0,
        u.1 ∙ ap (marked_by root (atom_of x)) s.1 ∙ sym (marked_all-push root (atoms_of (take i atoms)) (atom_of x) c.args.classes.now)
            ∙ ap (λ (l : List Atom). marked_all root l c.args.classes.now) (sym (taken_more atoms i x c.loop-atom-test.true c.atom-item.is)),
      );
    }
