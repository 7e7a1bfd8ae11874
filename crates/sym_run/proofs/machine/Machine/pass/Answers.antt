use Rattle.std.proofs.Common.{◌≡◌, suc, ◌-◌, refl, arith}
use Rattle.sym_run.proofs.PassLaws.{passed_one}
use Rattle.sym_run.proofs.machine.Machine.pass.Goals as goal

pub returns-then-self-eq0 : goal.returns-then-self-eq0
returns-then-self-eq0 c = λ w. (refl, c.if-self-eq0.true)

pub returns : goal.returns
returns c = λ w.
    let e : c.args.self.now.steps ≡ suc (c.args.self.now.steps - 1) = omega arith in
    passed_one w c.args.self.now c.bind.new.self c.args.slot (c.args.self.now.steps - 1) c.args.cell c.in_ok-pointer.pointer c.args.ty c.make.new.self c.store.new.self e
    c.in_ok-pointer.ensures.made c.in_ok-pointer.ensures.names c.in_ok-store.ensures.stored c.in_ok-store.ensures.names c.in_ok-bind.ensures
