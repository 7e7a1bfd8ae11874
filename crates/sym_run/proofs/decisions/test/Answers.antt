use Rattle.std.proofs.Common.{◌∙◌, sym, ap}
use Rattle.cc_model.specs.Plain as plain
use Rattle.sym_run.proofs.DecisionLaws.{two_ok, is_a_number, is_a_pointer, number_decided, pointer_decided}
use Rattle.sym_run.proofs.decisions.test.Goals as goal

pub returns-then-is_number : goal.returns-then-is_number
returns-then-is_number c = two_ok c.test_number.result c.test_number.ensures.outcome c.test_number.ensures.asked (λ r p q named touched d f known.
    number_decided f c.args.symbols.now c.args.a d r named touched known (is_a_number c.args.a.value (sym c.is_number.ensures ∙ c.if-is_number.true)) p q)

pub returns : goal.returns
returns c = λ named touched d f known.
    pointer_decided f c.args.symbols.now c.args.a d (record { outcome = c.decision_of-outcome.result; asked = c.in_ok-asked.asked }) named touched known
    (is_a_pointer c.args.a.value (sym c.is_number.ensures ∙ c.if-is_number.false)) (c.decision_of-outcome.ensures ∙ ap plain.decision_of c.truth_of.ensures) c.in_ok-asked.ensures
