use Rattle.cc_model.specs.declared.checked.SiteKind.TheVariants as site
use Rattle.tac_lower.specs.Seen.{site_token}
use Rattle.sym_run.specs.Stands.{Setting, setting}
use Rattle.sym_run.proofs.PointerLaws.{if_ok}
use Rattle.sym_run.proofs.NumberActs.{negate_did}
use Rattle.sym_run.proofs.machine.Machine.opposite.Goals as goal

pub returns : goal.returns
returns c =
    let w : Setting = setting c.args.fixed.now.checked.now c.args.fixed.now.tac.now c.args.fixed.now.bounds.now c.args.fixed.now.input.now in
    if_ok c.settle.result c.settle.ensures (λ e r. negate_did w c.args.self.now c.settle.new.self c.negate.new.symbols (site_token c.args.fixed.now.checked.now site.Fit c.args.site) c.args.dst c.args.a 0
    c.in_ok-cell.cell c.in_ok-cell.cell c.in_ok-acted.acted.cell c.in_ok-acted.acted.outcome c.in_ok-acted.acted.asked e
    c.in_ok-cell.ensures.there c.in_ok-acted.ensures.kept c.in_ok-acted.ensures.outcome c.in_ok-acted.ensures.asked c.in_ok-acted.ensures.value c.in_ok-acted.ensures.known r)
