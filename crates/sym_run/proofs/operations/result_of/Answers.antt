use Rattle.std.proofs.Common.{◌≡◌, sym, subst}
use Rattle.cc_base.specs.Forms.{Form}
use Rattle.cc_model.specs.Traced.{Formed, or_wide, depends, product_of, result_of}
use Rattle.cc_laws.specs.LinearForms.{linear, if_narrow}
use Rattle.sym_expr.specs.Sums.{sum_of, difference_of}
use Rattle.sym_run.specs.declared.numbers.Operation.{Operation}
use Rattle.sym_run.specs.declared.numbers.Operation.TheVariants.{Add, Sub, Mul}
use Rattle.sym_run.specs.Numbers.{op_of}
use Rattle.sym_run.proofs.operations.result_of.Goals as goal

added : (o : Operation) (a b : Form) (r : Formed) → o ≡ Add → r ≡ or_wide (if_narrow (sum_of a b)) → r ≡ result_of linear (op_of o) a b
unfolding result_of
added o a b r e p = subst (λ (x : Operation). r ≡ result_of linear (op_of x) a b) (sym e) p

less : (o : Operation) (a b : Form) (r : Formed) → o ≡ Sub → r ≡ or_wide (if_narrow (difference_of a b)) → r ≡ result_of linear (op_of o) a b
unfolding result_of
less o a b r e p = subst (λ (x : Operation). r ≡ result_of linear (op_of x) a b) (sym e) p

times : (o : Operation) (a b : Form) (r : Formed) → o ≡ Mul → r ≡ product_of linear (depends a) (depends b) a b → r ≡ result_of linear (op_of o) a b
unfolding result_of
times o a b r e p = subst (λ (x : Operation). r ≡ result_of linear (op_of x) a b) (sym e) p

pub returns-in-Add : goal.returns-in-Add
returns-in-Add c = added c.args.operation c.args.a.now c.args.b.now _ c.in-Add.is (c.or_wide.ensures _ c.add.ensures.form)

pub returns-in-Sub : goal.returns-in-Sub
returns-in-Sub c = less c.args.operation c.args.a.now c.args.b.now _ c.in-Sub.is (c.or_wide-in-Sub.ensures _ c.sub.ensures.form)

pub returns-in-Mul : goal.returns-in-Mul
returns-in-Mul c = times c.args.operation c.args.a.now c.args.b.now _ c.in-Mul.is c.product_of.ensures
