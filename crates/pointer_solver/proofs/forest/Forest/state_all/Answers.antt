use Rattle.std.proofs.Common.{◌∙◌, sym, subst, take, List}
use Rattle.std.proofs.lemmas.List.{take_all}
use Rattle.cc_base.specs.Forms.{Atom as PlainAtom}
use Rattle.sym_expr.specs.declared.atoms.Atom.{Atom}
use Rattle.sym_expr.specs.AtomsSeen.{atoms_of}
use Rattle.pointer_solver.specs.Forest.{Solves}
use Rattle.pointer_solver.proofs.AtomSteps.{taken_more}
use Rattle.pointer_solver.proofs.forest.Forest.state_all.Goals as goal

pub loop-atom-preserved : goal.loop-atom-preserved
loop-atom-preserved c =
    let i = c.loop-atom.atom-index in
    record {
      forest = c.state.ensures.forest;
      len = c.state.ensures.len ∙ c.loop-atom.invariant.len;
      bound = c.state.ensures.bound i c.loop-atom.invariant.bound;
      solved = subst (λ (l : List PlainAtom). Solves c.state.new.self.parents.items l) (sym (taken_more c.args.atoms.now i c.atom-item.result c.loop-atom-test.true c.atom-item.is))
          (c.state.ensures.solved (atoms_of (take i c.args.atoms.now)) c.loop-atom.invariant.solved);
    }

pub returns-clause-solved : goal.returns-clause-solved
returns-clause-solved c = subst (λ (l : List Atom). Solves c.loop-atom.self.parents.items (atoms_of l)) (take_all c.loop-atom.atom-index c.args.atoms.now c.loop-atom-test.false) c.loop-atom.invariant.solved
