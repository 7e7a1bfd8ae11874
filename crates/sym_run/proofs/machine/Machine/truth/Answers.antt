use Rattle.cc_model.specs.declared.checked.SiteKind.TheVariants as site
use Rattle.tac_lower.specs.Seen.{site_token}
use Rattle.sym_run.specs.Stands.{Setting, setting}
use Rattle.sym_run.proofs.PointerLaws.{if_ok}
use Rattle.sym_run.proofs.NumberActs.{test_did}
use Rattle.sym_run.proofs.machine.Machine.truth.Goals as goal

pub returns : goal.returns
returns c =
    let w : Setting = setting c.args.fixed.now.checked.now c.args.fixed.now.tac.now c.args.fixed.now.bounds.now c.args.fixed.now.input.now in
    if_ok c.decide.result c.decide.ensures (λ e r. test_did w c.args.self.now c.decide.new.self (site_token c.args.fixed.now.checked.now site.Decision c.args.site) c.args.dst c.args.a 0
    c.in_ok-cell.cell c.in_ok-cell.cell c.in_ok-decided.decided e
    c.in_ok-cell.ensures.there c.in_ok-decided.ensures r)
