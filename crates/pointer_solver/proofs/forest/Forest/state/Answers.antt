use Rattle.std.proofs.Common.{sym, ap, subst, refl, arith, ◌++◌, ◌∷◌, []}
use Rattle.cc_base.specs.Forms.{Atom}
use Rattle.sym_expr.specs.AtomsSeen.{side_of, atom_of}
use Rattle.pointer_solver.specs.Forest.{Agrees, node}
use Rattle.pointer_solver.proofs.Solved.{Agrees-same, Solves-other}
use Rattle.pointer_solver.proofs.AtomSteps.{joined_nodes, not_same}
use Rattle.pointer_solver.proofs.forest.Forest.state.Goals as goal

pub returns-in-Same-clause-solved : goal.returns-in-Same-clause-solved
returns-in-Same-clause-solved c = λ l s.
    let a = side_of c.in-Same.a in let b = side_of c.in-Same.b in
    let w = c.join.ensures.joined s.0 s.1 in (
      w.0,
      w.1,
      subst (λ (x : Atom). Agrees w.0 (l ++ x ∷ [])) (sym (ap atom_of c.in-Same.is))
          (Agrees-same l a b s.0 w.0 s.2 (joined_nodes s.0 w.0 c.node_of.result c.node_of-in-Same.result (node a) (node b) w.2 c.node_of.ensures c.node_of-in-Same.ensures)),
    )

pub returns-in_default : goal.returns-in_default
returns-in_default c = record {
  forest = c.requires.forest;
  len = refl;
  bound = λ m h k d j. let q = h k d j in omega (arith, q);
  solved = λ l s. Solves-other c.args.self.now.parents.items l (atom_of c.args.atom.now) (not_same c.args.atom.now c.in_default.not-Same) s;
}
