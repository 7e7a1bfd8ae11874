use Rattle.std.proofs.Common.{suc, refl}
use Rattle.sym_run.specs.declared.machine.Frame.{Frame}
use Rattle.sym_run.specs.Stands.{Setting, setting}
use Rattle.sym_run.proofs.ObjectLaws.{on_ok}
use Rattle.sym_run.proofs.PassLaws.{entered_by}
use Rattle.sym_run.proofs.machine.Machine.enter.Goals as goal

pub returns : goal.returns
returns c =
    let w : Setting = setting c.args.fixed.now.checked.now c.args.fixed.now.tac.now c.args.fixed.now.bounds.now c.args.fixed.now.input.now in
    let caller : Frame = record { dst = c.args.dst; back = suc c.args.self.now.pc; temps = c.args.self.now.temps; slots = c.args.self.now.slots } in
    on_ok c.wait.result c.wait.ensures (λ q. entered_by w c.args.self.now c.wait.new.self c.args.dst c.args.function c.in_ok-code.code c.in_ok-temps.temps c.in_ok-slots.slots caller c.in_ok-code.ensures c.in_ok-temps.ensures c.in_ok-slots.ensures refl q)
