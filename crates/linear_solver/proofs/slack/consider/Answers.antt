use Rattle.std.proofs.Common.{◌≡◌, ◌∙◌, sym, ap, subst, ℕ, true, false, List, All}
use Rattle.std.proofs.lemmas.List.Elements.{All-push, All-weaker}
use Rattle.cc_base.specs.Groups.{contains}
use Rattle.cc_base.specs.Pass.{better}
use Rattle.linear_solver.specs.Seen.{seen_all}
use Rattle.linear_solver.specs.Ranks.{before}
use Rattle.linear_solver.proofs.Members.{all_member}
use Rattle.linear_solver.proofs.Ranking.{seen_place, taken_place, left_place, left_better, taken_rank, taken_better, taken_self}
use Rattle.linear_solver.proofs.slack.consider.Goals as goal

pub returns-then-is_in-clause-place : goal.returns-then-is_in-clause-place
returns-then-is_in-clause-place c =
    let L = seen_all c.args.list.now in
    let e : contains c.args.best.now.seen.items c.args.place ≡ true = sym (c.is_in.ensures ∙ ap (λ (l : List ℕ). contains l c.args.place) c.deref.ensures.value) ∙ c.if-is_in.true in
    seen_place L c.args.best.now c.args.place c.requires.known (all_member (λ y. better L y c.args.best.now.rank.place ≡ false) c.args.best.now.seen.items c.args.place c.requires.known.none_better e)

pub returns-then-is_before-clause-known : goal.returns-then-is_before-clause-known
returns-then-is_before-clause-known c =
    let L = seen_all c.args.list.now in let b = c.args.best.now in let q = c.rank_of-rank.result in
    let t : before q b.rank ≡ true = sym c.is_before.ensures ∙ c.if-is_before.true in
    record {
      rank_is = taken_rank L b c.args.place q c.requires.known c.rank_of-rank.ensures;
      none_better = subst (λ (m : List ℕ). All (λ y. better L y q.place ≡ false) m) (sym c.in_ok-push.ensures.items)
          (All-push (λ y. better L y q.place ≡ false) b.seen.items c.args.place
          (All-weaker (λ y. better L y b.rank.place ≡ false) (λ y. better L y q.place ≡ false) (λ z f. taken_better L b c.args.place q c.requires.known c.rank_of-rank.ensures t z f) b.seen.items c.requires.known.none_better)
          (taken_self L b c.args.place q c.requires.known c.rank_of-rank.ensures));
    }

pub returns-then-is_before-clause-place : goal.returns-then-is_before-clause-place
returns-then-is_before-clause-place c = taken_place (seen_all c.args.list.now) c.args.best.now c.args.place c.rank_of-rank.result c.requires.known c.rank_of-rank.ensures (sym c.is_before.ensures ∙ c.if-is_before.true)

pub returns-else-is_before-clause-known : goal.returns-else-is_before-clause-known
returns-else-is_before-clause-known c =
    let L = seen_all c.args.list.now in let b = c.args.best.now in let q = c.rank_of-rank.result in
    record {
      rank_is = c.requires.known.rank_is;
      none_better = subst (λ (m : List ℕ). All (λ y. better L y b.rank.place ≡ false) m) (sym c.in_ok-push.ensures.items)
          (All-push (λ y. better L y b.rank.place ≡ false) b.seen.items c.args.place c.requires.known.none_better
          (left_better L b c.args.place q c.requires.known c.rank_of-rank.ensures (sym c.is_before.ensures ∙ c.if-is_before.false)));
    }

pub returns-else-is_before-clause-place : goal.returns-else-is_before-clause-place
returns-else-is_before-clause-place c = left_place (seen_all c.args.list.now) c.args.best.now c.args.place c.rank_of-rank.result c.requires.known c.rank_of-rank.ensures (sym c.is_before.ensures ∙ c.if-is_before.false)
