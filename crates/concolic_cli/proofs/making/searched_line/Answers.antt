use Rattle.concolic_cli.proofs.Written.{is_last_line, if_ok_map}
use Rattle.concolic_cli.proofs.making.searched_line.Goals as goal

pub returns-in-Ok : goal.returns-in-Ok
returns-in-Ok c =
    if_ok_map c.last_line.result _ _
    (λ line h. is_last_line c.args.compiled.now.checked c.args.bounds.now c.args.runs 20000 _ _ c.in-Ok.summary line.items c.in-Ok.ensures.explored h)
    c.last_line.ensures
