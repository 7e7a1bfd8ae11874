use Rattle.std.proofs.Common.{sym, ◌∙◌, rules, arith, FitsSigned, w64}
use Rattle.std.proofs.lemmas.Int.{to_z-of_z, to_z_pos}
use Rattle.input_map.specs.Laying.{plan_by}
use Rattle.input_map.proofs.Filled.{no_place, null_value, old_value, new_value}
use Rattle.input_map.proofs.building.Laying.pointer.Goals as goal

pub returns-in_default : goal.returns-in_default
returns-in_default c = λ b. no_place (plan_by c.args.checked.now c.args.values.now b c.args.index.now) (c.args.ty).0 c.args.place c.args.self.now c.in_default.is

pub returns-then-class-eq0 : goal.returns-then-class-eq0
returns-then-class-eq0 c = λ b. null_value (plan_by c.args.checked.now c.args.values.now b c.args.index.now) (c.args.ty).0
    c.in-Some.id c.class_at-class.result c.args.place c.in-Some.is c.class_at-class.ensures c.args.self.now c.if-class-eq0.true

pub returns-in-Some-pointer_to : goal.returns-in-Some-pointer_to
returns-in-Some-pointer_to c = λ b. let fits : FitsSigned w64 c.in-Some-pointer_to.known = search rules in
    old_value (plan_by c.args.checked.now c.args.values.now b c.args.index.now) (c.args.ty).0 c.in-Some.id c.class_at-class.result c.args.place c.in-Some.is c.class_at-class.ensures
    _ c.in-Some-pointer_to.known c.args.self.now (to_z-of_z w64 c.in-Some-pointer_to.known fits) c.if-class-eq0.false (sym c.pointer_to.ensures ∙ c.in-Some-pointer_to.is)

pub returns : goal.returns
returns c = λ b. new_value (plan_by c.args.checked.now c.args.values.now b c.args.index.now) (c.args.ty).0 c.in-Some.id c.class_at-class.result c.args.place c.in-Some.is c.class_at-class.ensures
    _ c.in_ok-next.next c.args.self.now c.name.new.self (to_z_pos w64 c.in_ok-next.next (let h = c.in_ok-next.ensures.few in omega (arith, h))) c.if-class-eq0.false
    (sym c.pointer_to.ensures ∙ c.in_default-pointer_to.is) c.in_ok-next.ensures.address c.in_ok-next.ensures.cells c.in_ok-next.ensures.due c.in_ok-next.ensures.blocks
