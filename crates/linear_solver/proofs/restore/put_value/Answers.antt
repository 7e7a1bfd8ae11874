use Rattle.std.proofs.Common.{◌∙◌, ap, arith, ℕ, ℤ, set, ◌<◌, length}
use Rattle.std.proofs.lemmas.Int.{to_z-of_z}
use mir.Syntax.{w32}
use Rattle.cc_base.specs.Witness.{changed}
use Rattle.linear_solver.specs.Seen.{at_places}
use Rattle.linear_solver.proofs.Restoring.{at_set}
use Rattle.linear_solver.proofs.restore.put_value.Goals as goal

pub returns : goal.returns
returns c =
    let m = c.make_room.new.values.items in
    let r = c.in_ok-make_room.ensures.room in
    let lt : c.args.place < length m = omega (arith, r, c.make_room.new.values.ok.0) in
    ap (λ (z : ℤ). at_places (set m c.args.place z)) (to_z-of_z w32 c.args.value c.ranges.value) ∙ at_set m c.args.place c.args.value lt
    ∙ ap (λ (v : ℕ → ℤ). changed v c.args.place c.args.value) c.in_ok-make_room.ensures.same
