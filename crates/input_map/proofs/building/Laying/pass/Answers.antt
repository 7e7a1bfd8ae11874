use Rattle.std.proofs.Common.{refl, rules, FitsSigned, w64}
use Rattle.std.proofs.lemmas.Int.{to_z-of_z}
use Rattle.input_map.specs.Laying.{plan_by, spot_of}
use Rattle.input_map.proofs.Filled.{a_pass}
use Rattle.input_map.proofs.building.Laying.pass.Goals as goal

pub returns : goal.returns
returns c = let fits : FitsSigned w64 c.in_ok-value.value = search rules in
    a_pass (plan_by c.args.checked.now c.args.values.now c.args.bounds.now c.args.index.now) (spot_of c.args.due) c.in_ok-value.value _
    c.args.self.now c.value.new.self _ c.in_ok-value.ensures (to_z-of_z w64 c.in_ok-value.value fits) refl refl c.in_ok-push.ensures.ok
