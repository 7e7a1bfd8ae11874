use Rattle.std.proofs.Common.{◌≡◌, Bool, false, true, refl}
use Rattle.std.proofs.lemmas.Bool.{false≢true}
use Rattle.cc_base.specs.declared.outcomes.Outcome.{Outcome}
use Rattle.cc_base.specs.declared.outcomes.Outcome.TheVariants as of
use Rattle.search_walks.specs.Deciding.{side_of}
use Rattle.search_walks.proofs.NearLaws.{offer_none, offer_other, offer_is}
use Rattle.search_walks.proofs.directed.distance_of.Goals as goal

no_side : (o : Outcome) → (o ≡ of.False → ⊥) → (o ≡ of.True → ⊥) → (b : Bool) → o ≡ side_of b → ⊥
no_side o f t false e = f e
no_side o f t true e = t e

pub returns-then-not-is_decision : goal.returns-then-not-is_decision
returns-then-not-is_decision c = offer_none _ _ _ (λ i. false≢true (c.if-not-is_decision.ensures.1 i))

pub returns-in-False : goal.returns-in-False
returns-in-False c = offer_is _ _ _ false _ _ (c.if-not-is_decision.ensures.0 refl) c.in-False.is c.token_at-token.ensures c.distance_at_token.ensures

pub returns-in-True : goal.returns-in-True
returns-in-True c = offer_is _ _ _ true _ _ (c.if-not-is_decision.ensures.0 refl) c.in-True.is c.token_at-token.ensures c.distance_at_token-in-True.ensures

pub returns-in_default : goal.returns-in_default
returns-in_default c = offer_other _ _ _ (no_side c.args.candidate.outcome c.in_default.not-False c.in_default.not-True)
