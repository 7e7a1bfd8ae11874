use Rattle.std.proofs.Common.{arith}
use Rattle.std.proofs.lemmas.List.{nil_from_length}
use Rattle.cc_base.specs.Pass.{tidy}
use Rattle.linear_solver.specs.Seen.{seen_all}
use Rattle.linear_solver.proofs.TidySteps.{tidy_start, tidy_step, tidy_end, safe_front, shorter}
use Rattle.linear_solver.proofs.tidy.tidy_of.Goals as goal

pub kept-init : goal.kept-init
kept-init c = record { chained = c.in_ok-out.ensures.chained; safe = c.requires; same = tidy_start (seen_all c.args.list.items) c.in_ok-out.out.list.items c.in_ok-out.ensures.list }

pub normalise-requires : goal.normalise-requires
normalise-requires c = ((safe_front c.kept.rest.items c.pop.new.self.items c.in-Some.next c.in-Some.ensures.items c.kept.invariant.safe).1).terms

pub kept-smaller : goal.kept-smaller
kept-smaller c = shorter c.kept.rest.items c.pop.new.self.items c.in-Some.next c.in-Some.ensures.items

pub kept-preserved : goal.kept-preserved
kept-preserved c = record {
  chained = c.in_ok-keep.ensures.chained;
  safe = (safe_front c.kept.rest.items c.pop.new.self.items c.in-Some.next c.in-Some.ensures.items c.kept.invariant.safe).0;
  same = tidy_step c.kept.rest.items c.pop.new.self.items c.in-Some.next c.normalise.new.i c.kept.out.list.items c.keep.new.all.list.items (tidy (seen_all c.args.list.items)) c.in-Some.ensures.items c.normalise.ensures c.in_ok-keep.ensures.list c.kept.invariant.same;
}

pub returns : goal.returns
returns c = tidy_end c.kept.rest.items c.kept.out.list.items (tidy (seen_all c.args.list.items)) (let w = c.in_default.ensures.cases.0 in nil_from_length c.kept.rest.items (omega (arith, w, c.kept.rest.ok.0))) c.kept.invariant.same
