use Rattle.std.proofs.Common.{◌-◌, arith}
use Rattle.tac_lower.specs.Tables.{facts_of}
use Rattle.tac_lower.proofs.Emitting.{on_ok}
use Rattle.tac_lower.proofs.Simples.{none_declared, one_declared}
use Rattle.tac_lower.proofs.known.Known.declarators.Goals as goal

pub loop-left-init : goal.loop-left-init
loop-left-init c = record { within = omega arith; written = none_declared c.args.self.now.checked.now (facts_of c.args.self.now.checked.now c.args.self.now.function) c.args.parts.now _ }

pub loop-left-preserved : goal.loop-left-preserved
loop-left-preserved c = record {
  within = (let h = c.loop-left.invariant.within in omega (arith, h));
  written = (let h = c.loop-left-test.true in one_declared c.args.self.now.checked.now (facts_of c.args.self.now.checked.now c.args.self.now.function) c.args.parts.now c.index-parts-left.result c.loop-left.left (c.loop-left.left - 1) _ _ _ (omega (arith, h)) c.loop-left.invariant.within c.index-parts-left.is c.loop-left.invariant.written c.in_ok-declared.ensures);
}
