use Rattle.std.proofs.Common.{ap, length}
use Rattle.linear_solver.proofs.Chains.{chained_none}
use Rattle.linear_solver.proofs.tidy.no_kept.Goals as goal

pub returns-clause-chained : goal.returns-clause-chained
returns-clause-chained c =
    chained_none c.args.count (length c.new.result.items) _ c.in_ok-vec.field-0.items c.new-2.result.items c.requires (ap length c.new.ensures.items) (c.in_ok-vec.ensures.items_if_clones_equal (λ y h. h)) c.new-2.ensures.items
