use Rattle.std.proofs.Common.{◌≡◌, suc, ◌+◌, arith, subst}
use Rattle.search_walks.specs.Layers.{Starts}
use Rattle.search_walks.proofs.StepLaws.{starts_empty}
use Rattle.search_walks.proofs.distance.Start.new.Goals as goal

pub loop-outcome-init : goal.loop-outcome-init
loop-outcome-init c = starts_empty _ _ _ _ c.new.ensures.items c.new-2.ensures.items

pub loop-outcome-preserved : goal.loop-outcome-preserved
loop-outcome-preserved c =
    let e : suc c.loop-outcome.outcome ≡ c.loop-outcome.outcome + 1 = omega arith in
    subst (λ k. Starts c.args.checked.now c.args.covered.now k c.add.new.self.distances.items c.add.new.self.next.items) e c.in_ok-add.ensures
