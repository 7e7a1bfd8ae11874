use Rattle.std.proofs.Common.{sym, ◌∙◌}
use Rattle.sym_run.proofs.InstructionLaws.{unless_over, unless_past}
use Rattle.sym_run.proofs.machine.Machine.unless.Goals as goal

pub returns-then-is_zero : goal.returns-then-is_zero
returns-then-is_zero c = λ w. unless_over w c.args.self.now c.args.self.now c.args.tested c.in_ok-cell.cell c.in_ok-cell.ensures.there (sym c.is_zero.ensures ∙ c.if-is_zero.true)

pub returns : goal.returns
returns c = λ w. unless_past w c.args.self.now c.advance.new.self c.args.tested c.in_ok-cell.cell c.in_ok-cell.ensures.there (sym c.is_zero.ensures ∙ c.if-is_zero.false) c.in_ok-advance.ensures
