use Rattle.linear_solver.specs.Atoms.{seen_form}
use Rattle.linear_solver.specs.Seen.{seen_all}
use Rattle.linear_solver.proofs.FirstList.{wrote_none, wrote_one, wrote_two}
use Rattle.linear_solver.proofs.elimination.write_atom.Goals as goal

pub returns-in-NotZero : goal.returns-in-NotZero
returns-in-NotZero c = wrote_none c.args.a.now.sign (seen_form c.args.a.now) (seen_all c.args.out.now.items) c.in-NotZero.is

pub returns-in_ok-push-in-AtMostZero : goal.returns-in_ok-push-in-AtMostZero
returns-in_ok-push-in-AtMostZero c = wrote_one c.args.a.now.sign (seen_form c.args.a.now) c.args.out.now.items c.push.new.self.items c.in_ok-at_most_of-in-AtMostZero.field-0 c.in-AtMostZero.is c.in_ok-push-in-AtMostZero.ensures.items c.in_ok-at_most_of-in-AtMostZero.ensures

pub returns-in_ok-push-in-Zero-2 : goal.returns-in_ok-push-in-Zero-2
returns-in_ok-push-in-Zero-2 c = wrote_two c.args.a.now.sign (seen_form c.args.a.now) c.args.out.now.items c.push-in-Zero.new.self.items c.push-in-Zero-2.new.self.items c.in_ok-at_most_of-in-Zero.field-0 c.in_ok-at_least_of-in-Zero.field-0 c.in-Zero.is c.in_ok-push-in-Zero.ensures.items c.in_ok-push-in-Zero-2.ensures.items c.in_ok-at_most_of-in-Zero.ensures c.in_ok-at_least_of-in-Zero.ensures
