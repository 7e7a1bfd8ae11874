use Rattle.std.proofs.Common.{◌≡◌, suc, ◌+◌, sym, ◌∙◌, arith}
use Rattle.search_walks.proofs.ReturnLaws.{call_behind}
use Rattle.search_walks.proofs.returns.add_behind.Goals as goal

pub returns-in_ok-add : goal.returns-in_ok-add
returns-in_ok-add c =
    let e : c.args.at + 1 ≡ suc c.args.at = omega arith in
    call_behind c.args.tac.now c.args.at c.args.instruction c.requires.is _ _ _ _ _ (sym c.called.ensures ∙ c.in-Some.is) c.first_in.ensures e c.requires.places c.in_ok-add.ensures
