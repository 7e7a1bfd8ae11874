use Rattle.std.proofs.Common.{◌≡◌, ◌+◌, ◌∙◌, sym, ap, subst, IfOk}
use Rattle.std.proofs.lemmas.Result.{IfOk-weaker}
use Rattle.tac_lower.specs.declared.flow.Way.TheVariants as ways
use Rattle.tac_lower.specs.Flow.{AreThose, last_first}
use Rattle.tac_lower.specs.Edges.{two_of, Behind, Reached}
use Rattle.tac_lower.proofs.EdgeLaws.{follows_beside, follows_back}
use Rattle.tac_lower.proofs.tac.Tac.follow.Goals as goal

pub returns-in-Beside : goal.returns-in-Beside
returns-in-Beside c = subst (λ w. IfOk c.two.result (λ l. AreThose (Reached c.args.self.now c.args.at w) l)) (sym c.in-Beside.is)
    (IfOk-weaker c.two.result (λ l. l ≡ two_of c.args.self.now (c.args.at + 1) c.in-Beside.to) (AreThose (Reached c.args.self.now c.args.at (ways.Beside c.in-Beside.to)))
    (λ l e. follows_beside c.args.self.now c.args.at c.in-Beside.to l e) c.two.ensures)

pub returns-in-Back : goal.returns-in-Back
returns-in-Back c = subst (λ w. IfOk c.behind.result (λ l. AreThose (Reached c.args.self.now c.args.at w) l)) (sym c.in-Back.is)
    (IfOk-weaker c.behind.result (AreThose (Behind c.args.self.now c.last_first.result)) (AreThose (Reached c.args.self.now c.args.at ways.Back))
    (λ l a. follows_back c.args.self.now c.args.at c.last_first.result l (c.last_first.ensures ∙ ap (λ fs. last_first c.args.at fs) c.as_slice.ensures) a) c.behind.ensures)
