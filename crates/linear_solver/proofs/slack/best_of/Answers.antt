use Rattle.std.proofs.Common.{◌∙◌, ap, ℕ, ◌+◌, List, drop}
use Rattle.cc_base.specs.Pass.{best, best_in}
use Rattle.cc_base.specs.declared.forms.Multiple.{Multiple}
use Rattle.linear_solver.specs.Seen.{seen, seen_all}
use Rattle.linear_solver.proofs.Loops.{seen_drop, seen_end}
use Rattle.linear_solver.proofs.Ranking.{known_none, start_place, list_more, list_end}
use Rattle.linear_solver.proofs.slack.best_of.Goals as goal

pub loop-i-init : goal.loop-i-init
loop-i-init c =
    let L = seen_all c.args.list.now in
    record {
      known = known_none L (record { rank = c.rank_of.result; seen = c.new.result }) c.args.first c.rank_of.ensures c.new.ensures.items;
      same = ap (λ (x : ℕ). best L x L) (start_place L c.rank_of.result c.args.first c.rank_of.ensures);
    }

pub consider_terms-requires-clause-known : goal.consider_terms-requires-clause-known
consider_terms-requires-clause-known c = c.loop-i.invariant.known

pub loop-i-preserved : goal.loop-i-preserved
loop-i-preserved c =
    let L = seen_all c.args.list.now in
    record {
      known = c.in_ok-consider_terms.ensures.known;
      same = list_more L c.loop-i.best.rank.place c.consider_terms.new.best.rank.place (seen_all (drop c.loop-i.i-index c.args.list.now)) (seen_all (drop (c.loop-i.i-index + 1) c.args.list.now)) (seen c.i-item.result) (best L c.args.first L)
          (seen_drop c.args.list.now c.loop-i.i-index c.i-item.result c.loop-i-test.true c.i-item.is)
          (c.in_ok-consider_terms.ensures.place ∙ ap (λ (m : List Multiple). best_in L c.loop-i.best.rank.place m) c.deref.ensures.value) c.loop-i.invariant.same;
    }

pub returns : goal.returns
returns c =
    let L = seen_all c.args.list.now in
    list_end L c.loop-i.best.rank.place (seen_all (drop c.loop-i.i-index c.args.list.now)) (best L c.args.first L) (seen_end c.args.list.now c.loop-i.i-index c.loop-i-test.false) c.loop-i.invariant.same
