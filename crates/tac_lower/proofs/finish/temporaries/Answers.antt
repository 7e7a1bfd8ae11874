use Rattle.std.proofs.Common.{◌-◌, ◌<◌, ◌≤◌, length, get_or, arith}
use Rattle.std.proofs.lemmas.Grind.{common_steps}
use Rattle.tac_lower.specs.declared.instr.Instr.TheVariants.{Step}
use Rattle.tac_lower.specs.Finished.{named}
use Rattle.tac_lower.proofs.Wholes.{as_got, one_below}
use Rattle.tac_lower.proofs.finish.temporaries.Goals as goal

pub loop-left-preserved : goal.loop-left-preserved
loop-left-preserved c =
    let test = c.loop-left-test.true in
    let w = c.loop-left.invariant.within in
    let lt : c.loop-left.left - 1 < length c.args.code.now = omega (arith, test, w) in
    let m = c.max-top.ensures in
    let n = c.named.ensures in
    let above : c.loop-left.top ≤ c.max-top.result = grind (arith, common_steps, m) in
    let this : c.named.result ≤ c.max-top.result = grind (arith, common_steps, m) in
    let here : named (get_or c.args.code.now (c.loop-left.left - 1) Step) ≤ c.max-top.result = omega (arith, this, n) in
    record {
      within = omega (arith, w);
      below = one_below c.args.code.now (get_or c.args.code.now (c.loop-left.left - 1) Step) c.loop-left.left (c.loop-left.left - 1) c.loop-left.top c.max-top.result (omega (arith, test)) w
          (as_got c.args.code.now (c.loop-left.left - 1) Step lt) c.loop-left.invariant.below above here;
    }
