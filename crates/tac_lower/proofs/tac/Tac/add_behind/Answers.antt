use Rattle.std.proofs.Common.{◌+◌, sym, ◌∙◌, subst, add-one}
use Rattle.tac_lower.specs.Flow.{IsPlace}
use Rattle.tac_lower.proofs.EdgeLaws.{adds_behind, skips_behind, unplaced}
use Rattle.tac_lower.proofs.tac.Tac.add_behind.Goals as goal

pub returns-in_ok-push : goal.returns-in_ok-push
returns-in_ok-push c = adds_behind c.args.self.now c.args.first c.args.at c.in-Some.next c.args.places.now c.push.new.self (c.calls.ensures.0 c.if-calls.true) (sym c.place_at.ensures ∙ c.in-Some.is) c.in_ok-push.ensures.ok

pub returns-in_default : goal.returns-in_default
returns-in_default c = skips_behind c.args.self.now c.args.first c.args.at c.args.places.now (λ k p. unplaced c.args.self.now (c.args.at + 1) (sym c.place_at.ensures ∙ c.in_default.is) (subst (IsPlace c.args.self.now) (sym (add-one c.args.at)) p))

pub returns-else-calls : goal.returns-else-calls
returns-else-calls c = skips_behind c.args.self.now c.args.first c.args.at c.args.places.now (λ k p. let t = c.calls.ensures.1 k in let f = c.if-calls.false in cc (t, f))
