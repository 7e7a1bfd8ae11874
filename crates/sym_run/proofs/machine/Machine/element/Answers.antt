use Rattle.cc_model.specs.declared.checked.SiteKind.TheVariants as site
use Rattle.tac_lower.specs.Seen.{site_token}
use Rattle.sym_run.specs.Stands.{Setting, setting}
use Rattle.sym_run.proofs.PointerLaws.{if_ok}
use Rattle.sym_run.proofs.NumberActs.{index_did}
use Rattle.sym_run.proofs.machine.Machine.element.Goals as goal

pub returns : goal.returns
returns c =
    let w : Setting = setting c.args.fixed.now.checked.now c.args.fixed.now.tac.now c.args.fixed.now.bounds.now c.args.fixed.now.input.now in
    if_ok c.settle.result c.settle.ensures (λ e r. index_did w c.args.self.now c.settle.new.self c.args.self.now.symbols (site_token c.args.fixed.now.checked.now site.Index c.args.site) c.args.dst c.args.pointer c.args.i
    c.in_ok-base.base c.in_ok-number.number c.in_ok-acted.acted.cell c.in_ok-acted.acted.outcome c.in_ok-acted.acted.asked e c.args.length c.args.width
    c.in_ok-base.ensures.there c.in_ok-number.ensures.there (c.is_inside.ensures c.if-not-is_inside.false) c.in_ok-acted.ensures.outcome c.in_ok-acted.ensures.asked c.in_ok-acted.ensures.value c.in_ok-acted.ensures.known r)
