use Rattle.std.proofs.Common.{◌∙◌, sym, ap, subst, length, Vec, Global, []}
use Rattle.sym_expr.specs.TermsSeen.{multiples_of}
use Rattle.linear_solver.specs.declared.atoms.LinearAtom.{LinearAtom}
use Rattle.slice_solve.specs.Joins.{met}
use Rattle.slice_solve.specs.Linear.{AreLinear}
use Rattle.slice_solve.proofs.Steps.{below_at}
use Rattle.slice_solve.proofs.LinearSteps.{none_linear, met_yes, met_no}
use Rattle.slice_solve.proofs.slice.met_of.Goals.{then-is_met+in_ok-linear_of+in_ok-push, else-is_met}
use Rattle.slice_solve.proofs.slice.met_of.Goals as goal

pub loop-atom-init : goal.loop-atom-init
unfolding met
loop-atom-init c = subst (AreLinear []) (sym c.new-out.ensures.items) none_linear

pub is_met-requires : goal.is_met-requires
is_met-requires c = below_at (length c.args.classes.now) c.args.condition.now c.loop-atom.atom-index c.atom-item.result (multiples_of c.terms_of.result.now) c.loop-atom-test.true c.atom-item.is c.terms_of.ensures.terms c.requires

pub loop-atom-preserved : goal.loop-atom-preserved
loop-atom-preserved c =
    let k = c.args.classes.now in let l = c.args.condition.now in let i = c.loop-atom.atom-index in let a = c.atom-item.result in
    let p = multiples_of c.terms_of.result.now in let b = c.is_met.result in
    elim c.if-is_met.branch [
      | then-is_met+in_ok-linear_of+in_ok-push w ↦ met_yes k l i a c.loop-atom.out.items c.if-is_met.out.items _ b p c.loop-atom-test.true c.atom-item.is c.is_met.ensures c.terms_of.ensures.terms w.if-is_met.true
          (ap (λ (v : Vec LinearAtom Global). v.items) w.out-is ∙ w.in_ok-push.ensures.items) w.in_ok-linear_of.ensures c.loop-atom.invariant
      | else-is_met w ↦ met_no k l i a c.loop-atom.out.items c.if-is_met.out.items b p c.loop-atom-test.true c.atom-item.is c.is_met.ensures c.terms_of.ensures.terms w.if-is_met.false
          (ap (λ (v : Vec LinearAtom Global). v.items) w.out-is) c.loop-atom.invariant
    ]
