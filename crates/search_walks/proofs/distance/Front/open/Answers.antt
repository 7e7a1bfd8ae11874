use Rattle.std.proofs.Common.{◌<◌, ◌≤◌, length, arith}
use Rattle.search_walks.proofs.StepLaws.{opened_now, opened_before, opens_past}
use Rattle.search_walks.proofs.distance.Front.open.Goals as goal
use Rattle.search_walks.proofs.distance.Front.open.Goals.{else-at-len-via-then-at-len+else-not-index, else-at-len-via-else-at-len}

pub returns-in_ok-push : goal.returns-in_ok-push
returns-in_ok-push c =
    let h : c.args.at < length c.args.self.now.passed.items = omega arith in
    opened_now _ _ _ c.index.result.now _ h c.index.ensures c.if-not-index.true c.in_ok-push.ensures.items

pub returns-else-at-len : goal.returns-else-at-len
returns-else-at-len c = elim c.else-at-len.branch [
  | else-at-len-via-then-at-len+else-not-index w ↦
      let h : c.args.at < length c.args.self.now.passed.items = omega arith in
      opened_before _ _ _ w.index.result.now h w.index.ensures w.if-not-index.false
  | else-at-len-via-else-at-len w ↦ let h : length c.args.self.now.passed.items ≤ c.args.at = omega arith in opens_past _ _ _ h
]
