use Rattle.cc_model.specs.declared.checked.SiteKind.TheVariants as site
use Rattle.tac_lower.specs.Seen.{site_token}
use Rattle.sym_run.specs.Numbers.{op_of}
use Rattle.sym_run.specs.Stands.{Setting, setting}
use Rattle.sym_run.proofs.PointerLaws.{if_ok}
use Rattle.sym_run.proofs.NumberActs.{arith_did}
use Rattle.sym_run.proofs.machine.Machine.arith.Goals as goal

pub returns : goal.returns
returns c =
    let w : Setting = setting c.args.fixed.now.checked.now c.args.fixed.now.tac.now c.args.fixed.now.bounds.now c.args.fixed.now.input.now in
    if_ok c.settle.result c.settle.ensures (λ e r. arith_did w c.args.self.now c.settle.new.self c.arithmetic.new.symbols (site_token c.args.fixed.now.checked.now site.Fit c.args.site) c.args.dst c.args.a c.args.b
    c.in_ok-left.left c.in_ok-right.right c.in_ok-acted.acted.cell c.in_ok-acted.acted.outcome c.in_ok-acted.acted.asked e (op_of c.args.operation)
    c.in_ok-left.ensures.there c.in_ok-right.ensures.there c.in_ok-acted.ensures.kept c.in_ok-acted.ensures.outcome c.in_ok-acted.ensures.asked c.in_ok-acted.ensures.value c.in_ok-acted.ensures.known r)
