use Rattle.std.proofs.Common.{refl, arith}
use Rattle.sym_run.proofs.NumberActs.{offset_did}
use Rattle.sym_run.proofs.machine.Machine.offset.Goals as goal

pub returns : goal.returns
returns c = λ w. offset_did w c.args.self.now c.give.new.self c.args.dst c.args.pointer c.args.by c.in_ok-base.base (record { value = c.in_ok-value.value; shadow = 0 })
    c.in_ok-base.ensures.there (c.is_inside.ensures c.if-not-is_inside.false) refl c.in_ok-value.ensures.value (record { known = omega arith; value = c.in_ok-value.ensures.known (c.in_ok-base.ensures.known).value }) c.in_ok-give.ensures
