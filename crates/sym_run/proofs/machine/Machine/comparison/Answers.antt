use Rattle.cc_model.specs.declared.checked.SiteKind.TheVariants as site
use Rattle.tac_lower.specs.Seen.{site_token, comparison as seen_comparison}
use Rattle.sym_run.specs.Numbers.{cmp_of}
use Rattle.sym_run.specs.Stands.{Setting, setting}
use Rattle.sym_run.proofs.PointerLaws.{if_ok}
use Rattle.sym_run.proofs.NumberActs.{compare_did}
use Rattle.sym_run.proofs.machine.Machine.comparison.Goals as goal

pub returns : goal.returns
returns c =
    let w : Setting = setting c.args.fixed.now.checked.now c.args.fixed.now.tac.now c.args.fixed.now.bounds.now c.args.fixed.now.input.now in
    if_ok c.decide.result c.decide.ensures (λ e r. compare_did w c.args.self.now c.decide.new.self (site_token c.args.fixed.now.checked.now site.Decision c.args.site) c.args.dst c.args.a c.args.b
    c.in_ok-left.left c.in_ok-right.right c.in_ok-decided.decided e (seen_comparison c.args.comparison) (cmp_of c.comparison_of-comparison.result)
    c.in_ok-left.ensures.there c.in_ok-right.ensures.there c.comparison_of-comparison.ensures c.in_ok-decided.ensures r)
