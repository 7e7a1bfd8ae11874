use Rattle.std.proofs.Common.{◌<◌, ◌≤◌, length, arith}
use Rattle.search_walks.proofs.StepLaws.{given_now, given_before, gives_past}
use Rattle.search_walks.proofs.distance.give.Goals as goal
use Rattle.search_walks.proofs.distance.give.Goals.{else-outcome-len-via-then-outcome-len+else-is_none, else-outcome-len-via-else-outcome-len}

pub returns-in_ok-push : goal.returns-in_ok-push
returns-in_ok-push c =
    let h : c.args.outcome < length c.args.distances.now.items = omega arith in
    given_now _ _ _ _ c.index.result.now _ h c.index.ensures c.if-is_none.ensures c.in_ok-push.ensures.items

pub returns-else-outcome-len : goal.returns-else-outcome-len
returns-else-outcome-len c = elim c.else-outcome-len.branch [
  | else-outcome-len-via-then-outcome-len+else-is_none w ↦
      let h : c.args.outcome < length c.args.distances.now.items = omega arith in
      given_before _ _ _ _ w.index.result.now h w.index.ensures w.if-is_none.ensures
  | else-outcome-len-via-else-outcome-len w ↦ let h : length c.args.distances.now.items ≤ c.args.outcome = omega arith in gives_past _ _ _ _ h
]
