use Rattle.std.proofs.Common.{◌<◌, length, arith}
use Rattle.search_walks.proofs.RowLaws.{grown}
use Rattle.search_walks.proofs.rows.Rows.add.Goals as goal

pub returns-in_ok-push : goal.returns-in_ok-push
returns-in_ok-push c =
    let h : c.args.place < length c.args.self.now.rows.items = omega arith in
    grown _ _ _ _ _ h c.index_mut.ensures.value c.in_ok-push.ensures.ok
