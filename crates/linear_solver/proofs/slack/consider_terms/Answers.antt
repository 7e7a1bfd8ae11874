use Rattle.std.proofs.Common.{refl, pos}
use Rattle.cc_base.specs.Pass.{best_in}
use Rattle.cc_base.specs.declared.forms.Multiple.{Multiple}
use Rattle.linear_solver.specs.Seen.{seen_all}
use Rattle.linear_solver.proofs.Ranking.{terms_more, terms_end}
use Rattle.linear_solver.proofs.slack.consider_terms.Goals as goal

pub loop-t-init : goal.loop-t-init
loop-t-init c = record { known = c.requires.known; same = refl }

pub consider-requires-clause-known : goal.consider-requires-clause-known
consider-requires-clause-known c = c.loop-t.invariant.known

pub loop-t-preserved : goal.loop-t-preserved
loop-t-preserved c =
    let d : Multiple = record { place = 0; coefficient = pos 0 } in
    record {
      known = c.in_ok-consider.ensures.known;
      same = terms_more (seen_all c.args.list.now) c.loop-t.best.rank.place c.consider.new.best.rank.place c.args.terms.now c.loop-t.t-index d (best_in (seen_all c.args.list.now) c.args.best.now.rank.place c.args.terms.now) c.loop-t-test.true c.in_ok-consider.ensures.place c.loop-t.invariant.same;
    }

pub returns-clause-known : goal.returns-clause-known
returns-clause-known c = c.loop-t.invariant.known

pub returns-clause-place : goal.returns-clause-place
returns-clause-place c = terms_end (seen_all c.args.list.now) c.loop-t.best.rank.place c.args.terms.now c.loop-t.t-index (best_in (seen_all c.args.list.now) c.args.best.now.rank.place c.args.terms.now) c.loop-t-test.false c.loop-t.invariant.same
