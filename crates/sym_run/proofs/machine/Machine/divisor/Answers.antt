use Rattle.cc_model.specs.declared.checked.SiteKind.TheVariants as site
use Rattle.tac_lower.specs.Seen.{site_token}
use Rattle.sym_run.specs.Stands.{Setting, setting}
use Rattle.sym_run.proofs.PointerLaws.{if_ok}
use Rattle.sym_run.proofs.NumberActs.{divisor_did}
use Rattle.sym_run.proofs.machine.Machine.divisor.Goals as goal

pub returns : goal.returns
returns c =
    let w : Setting = setting c.args.fixed.now.checked.now c.args.fixed.now.tac.now c.args.fixed.now.bounds.now c.args.fixed.now.input.now in
    if_ok c.settle.result c.settle.ensures (λ e r. divisor_did w c.args.self.now c.settle.new.self c.args.self.now.symbols (site_token c.args.fixed.now.checked.now site.Divisor c.args.site) 0 c.args.a c.args.b
    c.in_ok-left.left c.in_ok-right.right c.in_ok-right.right c.divide_check-decided.result.outcome c.divide_check-decided.result.asked e
    c.in_ok-left.ensures.there c.in_ok-right.ensures.there c.divide_check-decided.ensures.outcome c.divide_check-decided.ensures.asked r)
