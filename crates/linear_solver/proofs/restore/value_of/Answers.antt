use Rattle.std.proofs.Common.{◌∙◌, refl, rules, SFits}
use Rattle.std.proofs.lemmas.Int.{to_z-of_z}
use mir.Syntax.{w128}
use Rattle.linear_solver.specs.Seen.{seen_all, at_places}
use Rattle.linear_solver.specs.Trail.{room_from, no_room}
use Rattle.linear_solver.proofs.Loops.{narrow_at}
use Rattle.linear_solver.proofs.Evaluation.{room_start, room_more, room_end, room_value}
use Rattle.linear_solver.proofs.restore.value_of.Goals as goal

pub loop-i-init : goal.loop-i-init
loop-i-init c = room_start (at_places c.args.values.now) c.args.place (seen_all c.args.list.now) _ refl refl

pub with_room-room-requires : goal.with_room-room-requires
with_room-room-requires c = narrow_at c.args.list.now c.loop-i.i-index c.i-item.result c.requires c.loop-i-test.true c.i-item.is

pub loop-i-preserved : goal.loop-i-preserved
loop-i-preserved c = room_more (at_places c.args.values.now) c.args.place c.loop-i.room c.with_room-room.result c.args.list.now c.loop-i.i-index c.i-item.result
    (room_from (at_places c.args.values.now) c.args.place no_room (seen_all c.args.list.now)) c.loop-i-test.true c.i-item.is c.with_room-room.ensures c.loop-i.invariant

pub returns : goal.returns
returns c =
    let f : SFits w128 c.first.result = search rules in
    to_z-of_z w128 c.first.result f ∙ c.first.ensures
    ∙ room_value (at_places c.args.values.now) c.args.place (seen_all c.args.list.now) c.loop-i.room
    (room_end (at_places c.args.values.now) c.args.place c.loop-i.room (room_from (at_places c.args.values.now) c.args.place no_room (seen_all c.args.list.now)) c.args.list.now c.loop-i.i-index c.loop-i-test.false c.loop-i.invariant)
