use Rattle.std.proofs.Common.{sym, subst}
use Rattle.std.proofs.lemmas.Result.{IfOk-weaker}
use Rattle.tac_lower.specs.Flow.{AreThose, AreSuccessors}
use Rattle.tac_lower.specs.Edges.{Reached}
use Rattle.tac_lower.proofs.EdgeLaws.{leads}
use Rattle.tac_lower.proofs.tac.Tac.successors.Goals as goal

pub returns-in-Some : goal.returns-in-Some
returns-in-Some c = IfOk-weaker c.follow.result (AreThose (Reached c.args.self.now c.args.at c.way_of.result)) (AreSuccessors c.args.self.now c.args.at)
    (λ l a. leads c.args.self.now c.args.at c.in-Some.instruction.now l (sym c.in-Some.ensures.value) (subst (λ w. AreThose (Reached c.args.self.now c.args.at w) l) c.way_of.ensures a)) c.follow.ensures
