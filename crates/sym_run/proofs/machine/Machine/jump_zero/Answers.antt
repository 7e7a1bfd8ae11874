use Rattle.std.proofs.Common.{refl, sym, ◌∙◌}
use Rattle.sym_run.proofs.InstructionLaws.{jump_zero_done, jump_zero_past}
use Rattle.sym_run.proofs.machine.Machine.jump_zero.Goals as goal

pub returns-then-is_zero : goal.returns-then-is_zero
returns-then-is_zero c = λ w. jump_zero_done w c.args.self.now (record c.args.self.now { pc = c.args.to }) c.args.tested c.args.to c.in_ok-number.number c.in_ok-number.ensures.there (sym c.is_zero.ensures ∙ c.if-is_zero.true) refl

pub returns : goal.returns
returns c = λ w. jump_zero_past w c.args.self.now c.advance.new.self c.args.tested c.args.to c.in_ok-number.number c.in_ok-number.ensures.there (sym c.is_zero.ensures ∙ c.if-is_zero.false) c.in_ok-advance.ensures
