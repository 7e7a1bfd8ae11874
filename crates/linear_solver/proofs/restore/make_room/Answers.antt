use Rattle.std.proofs.Common.{◌∙◌, ap, arith, ℤ, pos, ◌-◌, ◌++◌, List, replicate, vec_len}
use Rattle.std.proofs.lemmas.List.{take_all}
use Rattle.linear_solver.proofs.Evaluation.{at_grown}
use Rattle.linear_solver.proofs.restore.make_room.Goals as goal

pub returns-then-len-clause-same : goal.returns-then-len-clause-same
returns-then-len-clause-same c =
    let m = c.args.values.now in let t = c.if-len.true in
    at_grown m.items c.resize.new.self.items (c.args.len - vec_len m)
    (c.in_ok-resize.ensures.items ∙ ap (λ (l : List ℤ). l ++ replicate (c.args.len - vec_len m) (pos 0)) (take_all c.args.len m.items (omega (arith, t, m.ok.0, c.len.ensures))))

pub returns-then-len-clause-room : goal.returns-then-len-clause-room
returns-then-len-clause-room c = let e = c.in_ok-resize.ensures.len in omega (arith, e)
