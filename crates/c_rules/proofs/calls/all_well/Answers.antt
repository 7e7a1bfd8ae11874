use Rattle.std.proofs.Common.{◌∙◌, sym, refl}
use Rattle.cc_model.specs.Typing.{all_well}
use Rattle.c_rules.proofs.ArgumentLemmas.{ill_here, well_here, all_done}
use Rattle.c_rules.proofs.calls.all_well.Goals as goal

pub loop-arg-init : goal.loop-arg-init
loop-arg-init c = refl

pub returns-then-not-is_well : goal.returns-then-not-is_well
returns-then-not-is_well c = ill_here c.args.args.now c.loop-arg.arg-index c.arg-item.result (all_well c.args.args.now) c.loop-arg-test.true c.arg-item.is (sym c.is_well.ensures ∙ c.if-not-is_well.true) c.loop-arg.invariant

pub loop-arg-preserved : goal.loop-arg-preserved
loop-arg-preserved c = well_here c.args.args.now c.loop-arg.arg-index c.arg-item.result (all_well c.args.args.now) c.loop-arg-test.true c.arg-item.is (sym c.is_well.ensures ∙ c.if-not-is_well.false) c.loop-arg.invariant

pub returns : goal.returns
returns c = all_done c.args.args.now c.loop-arg.arg-index (all_well c.args.args.now) c.loop-arg-test.false c.loop-arg.invariant
