use Rattle.std.proofs.Common.{sym, subst, add-one, arith}
use Rattle.input_map.specs.Laying.{plan_by, Stands}
use Rattle.input_map.proofs.Filled.{stands_next, stands_end}
use Rattle.input_map.proofs.building.Laying.fill.Goals as goal

pub loop-number-init : goal.loop-number-init
loop-number-init c = λ first s. s

pub loop-number-preserved : goal.loop-number-preserved
loop-number-preserved c = λ first s.
    subst (λ n. Stands (plan_by c.args.checked.now c.args.values.now c.args.bounds.now c.args.index.now) first n c.pass.new.self) (sym (add-one c.loop-number.number))
    (stands_next (plan_by c.args.checked.now c.args.values.now c.args.bounds.now c.args.index.now) first c.loop-number.number c.loop-number.self
    (c.loop-number.invariant first s) c.pass.new.self c.in-Some.due (sym c.in-Some.ensures) c.in_ok-pass.ensures)

pub returns-in_default : goal.returns-in_default
returns-in_default c = λ first s. stands_end (plan_by c.args.checked.now c.args.values.now c.args.bounds.now c.args.index.now) first c.loop-number.number c.loop-number.self
    (c.loop-number.invariant first s) (sym c.in_default.ensures) (omega arith)
