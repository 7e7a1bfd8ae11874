use Rattle.std.proofs.Common.{sym}
use Rattle.sym_run.proofs.PassLaws.{none_past, passed_none, passed_step, passed_end, passed_types, passed_over}
use Rattle.sym_run.proofs.machine.Machine.pass_all.Goals as goal

pub loop-slot-init : goal.loop-slot-init
loop-slot-init c = λ w. passed_none w c.args.self.now c.args.cells.now c.args.types.now

pub returns-in_default : goal.returns-in_default
returns-in_default c = λ w. passed_end w c.args.self.now c.args.cells.now c.args.types.now c.loop-slot.self c.loop-slot.slot (c.loop-slot.invariant w) (none_past c.args.cells.now c.loop-slot.slot (sym c.in_default.ensures))

pub returns-in_default-type_at : goal.returns-in_default-type_at
returns-in_default-type_at c = λ w. passed_types w c.args.self.now c.args.cells.now c.args.types.now c.loop-slot.self c.loop-slot.slot (c.loop-slot.invariant w) (none_past c.args.types.now c.loop-slot.slot (sym c.in_default-type_at.ensures))

pub returns-then-not-done : goal.returns-then-not-done
returns-then-not-done c = λ w. passed_over w c.args.self.now c.args.cells.now c.args.types.now c.loop-slot.self c.pass.new.self c.loop-slot.slot c.in-Some.cell c.in-Some-type_at.ty (sym c.in-Some.ensures) (sym c.in-Some-type_at.ensures) (c.loop-slot.invariant w)
    c.in_ok-done.done (c.in_ok-done.ensures w) c.if-not-done.true

pub loop-slot-preserved : goal.loop-slot-preserved
loop-slot-preserved c = λ w. passed_step w c.args.self.now c.args.cells.now c.args.types.now c.loop-slot.self c.pass.new.self c.loop-slot.slot c.in-Some.cell c.in-Some-type_at.ty (sym c.in-Some.ensures) (sym c.in-Some-type_at.ensures) (c.loop-slot.invariant w)
    c.in_ok-done.done (c.in_ok-done.ensures w) c.if-not-done.false

pub returns : goal.returns
returns c = λ w. passed_end w c.args.self.now c.args.cells.now c.args.types.now c.loop-slot.self c.loop-slot.slot (c.loop-slot.invariant w) c.loop-slot-test.false
