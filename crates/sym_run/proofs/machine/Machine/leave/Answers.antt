use Rattle.std.proofs.Common.{refl}
use Rattle.sym_run.proofs.CallLaws.{leave_over, leave_did}
use Rattle.sym_run.proofs.machine.Machine.leave.Goals as goal

pub returns-in-None : goal.returns-in-None
returns-in-None c = λ w. leave_over w c.args.self.now (record c.args.self.now { stack = c.pop.new.self }) c.args.source c.in-None.ensures.0 refl refl

pub returns-in_ok-resume-in-Some : goal.returns-in_ok-resume-in-Some
returns-in_ok-resume-in-Some c = λ w. leave_did w c.args.self.now c.resume.new.self c.args.source c.in_ok-cell.cell c.in-Some.frame c.pop.new.self c.in_ok-cell.ensures.there c.in-Some.ensures c.in_ok-resume-in-Some.ensures
