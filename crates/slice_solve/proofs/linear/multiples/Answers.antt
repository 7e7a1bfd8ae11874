use Rattle.std.proofs.Common.{sym, subst, ◌^◌, pos}
use Rattle.sym_expr.specs.declared.forms.FormTerm.{FormTerm}
use Rattle.linear_solver.specs.Answers.{Below}
use Rattle.slice_solve.proofs.LinearSteps.{one_multiple, made_multiples}
use Rattle.slice_solve.proofs.linear.multiples.Goals as goal

pub loop-term-init : goal.loop-term-init
loop-term-init c = record { made = c.new-out.ensures.items; fits = subst (Below (2 ^ 32)) (sym c.new-out.ensures.items) tt }

pub loop-term-preserved : goal.loop-term-preserved
loop-term-preserved c =
    let d : FormTerm = record { coefficient = pos 0; place = record { 0 = 0 } } in
    record {
      made = made_multiples c.args.terms.now c.loop-term.term-index d c.loop-term.out.items c.push.new.self.items c.multiple.result c.loop-term-test.true c.multiple.ensures.value c.in_ok-push.ensures.items c.loop-term.invariant.made;
      fits = one_multiple (2 ^ 32) c.loop-term.out.items c.push.new.self.items c.multiple.result c.multiple.ensures.fits c.in_ok-push.ensures.items c.loop-term.invariant.fits;
    }
