use Rattle.std.proofs.Common.{◌≡◌, Some, slice_get, subst}
use Rattle.cc_model.specs.CheckedProgram.{core_of}
use Rattle.replay.specs.Replays.{Replays, HasBytes}
use Rattle.concolic_cli.proofs.ReplayLaws.{at_place, real_next}
use Rattle.concolic_cli.proofs.replaying.first_difference.Goals as goal
use Rattle.concolic_cli.proofs.replaying.first_difference.Goals.{After-index-tests-place}

here : (c : After-index-tests-place) → slice_get c.args.tests.now c.loop-place.place ≡ Some c.index-tests-place.result
here c = at_place (core_of c.args.compiled.now.checked) c.args.bounds.now c.args.tests.now c.loop-place.place c.index-tests-place.result _ c.loop-place-test.true c.index-tests-place.is

pub replay_test-requires-clause-input : goal.replay_test-requires-clause-input
replay_test-requires-clause-input c = c.requires.within c.loop-place.place c.index-tests-place.result (here c)

pub returns-in-Differs : goal.returns-in-Differs
returns-in-Differs c =
    let w = (goal.at.returns-in-Differs c).After-index-tests-place in
    let d = subst (Replays (core_of c.args.compiled.now.checked) c.args.bounds.now c.index-tests-place.result) c.in-Differs.is c.in_ok-replay_test.ensures.told in
    let b = subst HasBytes c.in-Differs.is c.in_ok-replay_test.ensures.bytes in
    record { test = c.index-tests-place.result; here = here w; before = c.loop-place.invariant; differs = d.0; path = d.1; end = d.2; bytes = b }

pub loop-place-preserved : goal.loop-place-preserved
loop-place-preserved c =
    let w = (goal.at.loop-place-preserved c).After-index-tests-place in
    real_next (core_of c.args.compiled.now.checked) c.args.bounds.now c.args.tests.now c.loop-place.place c.index-tests-place.result c.loop-place.invariant (here w)
    (subst (Replays (core_of c.args.compiled.now.checked) c.args.bounds.now c.index-tests-place.result) c.in-Same.is c.in_ok-replay_test.ensures.told)
