use Rattle.sym_run.specs.Stands.{Setting, setting}
use Rattle.sym_run.proofs.CallLaws.{stepped_by}
use Rattle.sym_run.proofs.PointerLaws.{if_ok}
use Rattle.sym_run.proofs.machine.Machine.step.Goals as goal

pub returns-in-Some : goal.returns-in-Some
returns-in-Some c =
    let w : Setting = setting c.args.fixed.now.checked.now c.args.fixed.now.tac.now c.args.fixed.now.bounds.now c.args.fixed.now.input.now in
    if_ok c.act.result c.act.ensures (λ e r. stepped_by w c.args.self.now c.act.new.self c.in-Some.instruction e c.in-Some.ensures r)
