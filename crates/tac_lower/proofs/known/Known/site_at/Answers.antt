use Rattle.std.proofs.Common.{ap, ◌∙◌}
use Rattle.tac_lower.specs.Seen.{site_token}
use Rattle.tac_lower.specs.Tables.{site_in}
use Rattle.tac_lower.proofs.known.Known.site_at.Goals as goal

pub returns-in-Some : goal.returns-in-Some
returns-in-Some c = λ h.
    ap (λ i. site_token c.args.self.now.checked.now c.args.kind i) (c.site_for.ensures ∙ ap (λ o. site_in c.args.kind o) c.in-Some.ensures.value)
    ∙ c.args.self.now.right.sites c.args.kind c.args.t h

pub returns-in-None : goal.returns-in-None
returns-in-None c = λ h.
    ap (λ o. site_token c.args.self.now.checked.now c.args.kind (site_in c.args.kind o)) c.in-None.ensures.value
    ∙ c.args.self.now.right.sites c.args.kind c.args.t h
