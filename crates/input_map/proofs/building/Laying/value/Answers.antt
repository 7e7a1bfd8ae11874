use Rattle.std.proofs.Common.{ℤ, Result, Ok, Err, IfOk, rules, FitsSigned, w32, w64, ◌∙◌}
use Rattle.std.proofs.lemmas.Int.{to_z-of_z}
use Rattle.cc_base.specs.declared.memory.NoMemory.{NoMemory}
use Rattle.input_map.specs.Laying.{plan_by}
use Rattle.input_map.proofs.Filled.{int_value, pointer_value}
use Rattle.input_map.proofs.building.Laying.value.Goals as goal

so : (r : Result ℤ NoMemory) (P Q : ℤ → Type 0) → ((z : ℤ) → P z → Q z) → IfOk r P → IfOk r Q
so (Ok z) P Q f h = f z h
so (Err e) P Q f h = tt

pub returns-in-Int : goal.returns-in-Int
returns-in-Int c =
    let fits : FitsSigned w64 c.from.result = search rules in
    let few : FitsSigned w32 c.number_in.result = search rules in
    int_value (plan_by c.args.checked.now c.args.values.now c.args.bounds.now c.args.index.now) c.args.due _ c.args.self.now c.in-Int.is
    (to_z-of_z w64 c.from.result fits ∙ c.from.ensures ∙ to_z-of_z w32 c.number_in.result few
    ∙ c.number_in.ensures)

pub returns-in-Ptr : goal.returns-in-Ptr
returns-in-Ptr c = so c.pointer.result _ _ (λ z h. pointer_value (plan_by c.args.checked.now c.args.values.now c.args.bounds.now c.args.index.now) c.args.due c.in-Ptr.ty z
    c.args.self.now c.pointer.new.self c.in-Ptr.is (h c.args.bounds.now)) c.pointer.ensures
