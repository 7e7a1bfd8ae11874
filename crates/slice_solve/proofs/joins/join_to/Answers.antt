use Rattle.std.proofs.Common.{sym, ap, refl, arith, pos, [], ◌∷◌, length, get_or, length-append, append-nil}
use Rattle.sym_expr.specs.declared.atoms.Atom.{Atom}
use Rattle.sym_expr.specs.declared.atoms.Atom.TheVariants.{Same}
use Rattle.sym_expr.specs.declared.atoms.PtrTerm.TheVariants.{At}
use Rattle.sym_expr.specs.declared.forms.FormTerm.{FormTerm}
use Rattle.sym_expr.specs.AtomsSeen.{side_of, atoms_of}
use Rattle.slice_solve.specs.Joins.{joined_to}
use Rattle.slice_solve.proofs.Steps.{to_more}
use Rattle.slice_solve.proofs.joins.join_to.Goals as goal

pub loop-term-init : goal.loop-term-init
unfolding joined_to
loop-term-init c = record { joined = sym (append-nil (atoms_of c.args.joins.now.items)); len = omega arith }

pub loop-term-preserved : goal.loop-term-preserved
loop-term-preserved c =
    let d : FormTerm = record { coefficient = pos 0; place = record { 0 = 0 } } in
    let x : Atom = Same c.args.side (At (get_or c.args.terms.now c.loop-term.term-index d).place) in
    record {
      joined = to_more (side_of c.args.side) c.args.joins.now.items c.loop-term.joins.items c.push.new.self.items x c.args.terms.now c.loop-term.term-index d c.loop-term-test.true c.in_ok-push.ensures.items refl c.loop-term.invariant.joined;
      len = omega (arith, ap length c.in_ok-push.ensures.items, length-append c.loop-term.joins.items (x ∷ []), c.loop-term.invariant.len);
    }
