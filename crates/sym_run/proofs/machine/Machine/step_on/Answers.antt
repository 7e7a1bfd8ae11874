use Rattle.std.proofs.Common.{◌≡◌, suc, ◌-◌, arith}
use Rattle.sym_run.proofs.InstructionLaws.{step_done, step_over}
use Rattle.sym_run.proofs.machine.Machine.step_on.Goals as goal

pub returns-then-self-eq0 : goal.returns-then-self-eq0
returns-then-self-eq0 c = λ w. step_over w c.args.self.now c.args.self.now c.if-self-eq0.true

pub returns : goal.returns
returns c = λ w.
    let e : c.args.self.now.steps ≡ suc (c.args.self.now.steps - 1) = omega arith in
    step_done w c.args.self.now c.advance.new.self (c.args.self.now.steps - 1) e c.in_ok-advance.ensures
