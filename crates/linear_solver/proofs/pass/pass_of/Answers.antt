use Rattle.std.proofs.Common.{◌≡◌, ◌∙◌, sym, ap, ap₂, subst, refl, rules, arith, ◌+◌, ◌-◌, ℕ, List, [], ◌∷◌, ◌++◌, length, map, append_assoc, append-nil}
use Rattle.std.proofs.lemmas.List.{length-map}
use Rattle.linear_solver.specs.declared.inequalities.Inequality.{Inequality}
use Rattle.cc_base.specs.Inequality as plain
use Rattle.cc_base.specs.Pass.{ended, going, pairs, eliminate, ready, turns}
use Rattle.linear_solver.specs.Seen.{seen, seen_turn, seen_turns, seen_all, seen_ready, counted}
use Rattle.linear_solver.proofs.Counting.{counted_within, counted_costing, counted_over, turns_ended, turns_going, turns_none, pass_start, pass_over, trail_ended, trail_going, trail_none}
use Rattle.cc_base.specs.Witness.{Turn}
use Rattle.linear_solver.specs.Trail.{trail_of}
use Rattle.linear_solver.specs.declared.pass.Step.{Step}
use Rattle.linear_solver.specs.Ordered.{SafeAll, NarrowAll}
use Rattle.linear_solver.proofs.Pairing.{safe_eliminate, narrow_going}
use Rattle.linear_solver.proofs.pass.pass_of.Goals as goal

lengths : (n : ℕ) (l : List Inequality) → n ≡ length l → n ≡ length (seen_all l)
unfolding seen_all
lengths n l e = e ∙ sym (length-map l seen)

none_yet : (t : List Step) (w : List Turn) → t ≡ [] → seen_turns t ++ w ≡ w
unfolding seen_turns
none_yet t w e = ap (λ (l : List Step). seen_turns l ++ w) e

one_more : (t u : List Step) (s : Step) (w : List Turn) → u ≡ t ++ (s ∷ []) → seen_turns u ++ w ≡ seen_turns t ++ (seen_turn s ∷ w)
unfolding seen_turns
one_more t u s w e = ap (λ (l : List Step). seen_turns l ++ w) e ∙ ap (λ (l : List Turn). l ++ w) (map_append t (s ∷ [])) ∙ append_assoc (seen_turns t) (seen_turn s ∷ []) w
  where
    map_append : (a b : List Step) → map seen_turn (a ++ b) ≡ map seen_turn a ++ map seen_turn b
    map_append [] b = refl
    map_append (y ∷ a) b = ap (λ (l : List Turn). seen_turn y ∷ l) (map_append a b)

pub returns-in-Ended-clause-turns : goal.returns-in-Ended-clause-turns
returns-in-Ended-clause-turns c =
    let r : ended c.in-Ended.end ≡ ready (seen_all c.turns.rest.items) = sym (ap seen_ready c.in-Ended.is) ∙ c.in_ok-end.ensures in
    sym (append-nil (seen_turns c.turns.trail.items)) ∙ ap (λ (l : List Turn). seen_turns c.turns.trail.items ++ l) (sym (trail_ended c.args.mode c.turns.left (seen_all c.turns.rest.items) c.in-Ended.end c.turns-test.true r)) ∙ c.turns.invariant.trail

pub returns-clause-turns : goal.returns-clause-turns
returns-clause-turns c =
    sym (append-nil (seen_turns c.turns.trail.items)) ∙ ap (λ (l : List Turn). seen_turns c.turns.trail.items ++ l) (sym (trail_none c.args.mode c.turns.left (seen_all c.turns.rest.items) (omega arith))) ∙ c.turns.invariant.trail

pub returns-then-len-budget-clause-count : goal.returns-then-len-budget-clause-count
returns-then-len-budget-clause-count c =
    let e : c.len.result ≡ length c.args.list.items = search rules in
    sym (pass_over c.args.mode c.args.n c.len.result (seen_all c.args.list.items) c.args.spent c.args.budget (lengths c.len.result c.args.list.items e) (omega arith))

pub turns-init : goal.turns-init
turns-init c =
    let e : c.len-2.result ≡ length c.args.list.items = search rules in
    let f : c.len-2.result ≡ c.len.result = search rules in
    record {
      within = omega arith;
      safe = c.requires.safe;
      same = pass_start c.args.mode c.args.n c.len-2.result (seen_all c.args.list.items) c.args.spent c.args.budget (lengths c.len-2.result c.args.list.items e);
      trail = none_yet c.new-trail.result.items _ c.new-trail.ensures.items;
    }

pub returns-in-Ended-clause-count : goal.returns-in-Ended-clause-count
returns-in-Ended-clause-count c =
    let r : ended c.in-Ended.end ≡ ready (seen_all c.turns.rest.items) = sym (ap seen_ready c.in-Ended.is) ∙ c.in_ok-end.ensures in
    sym (counted_within c.turns.used c.args.budget c.in-Ended.end c.turns.invariant.within)
    ∙ sym (ap (counted c.turns.used c.args.budget) (turns_ended c.args.mode c.turns.left (seen_all c.turns.rest.items) c.in-Ended.end c.turns-test.true r))
    ∙ c.turns.invariant.same

pub returns-then-count-budget-clause-count : goal.returns-then-count-budget-clause-count
returns-then-count-budget-clause-count c =
    let k = seen_all c.in-Going.going.items in let x = c.in-Going.place in
    let r : going x k ≡ ready (seen_all c.turns.rest.items) = sym (ap seen_ready c.in-Going.is) ∙ c.in_ok-end.ensures in
    let p : c.pairs_of-count.result ≡ pairs x k = c.pairs_of-count.ensures ∙ ap (λ (l : List Inequality). pairs x (seen_all l)) c.deref.ensures.value in
    sym (counted_over c.turns.used c.args.budget (pairs x k) (turns c.args.mode (c.turns.left - 1) (eliminate c.args.mode x k)) (omega arith))
    ∙ sym (ap (counted c.turns.used c.args.budget) (turns_going c.args.mode c.turns.left (seen_all c.turns.rest.items) x k c.turns-test.true r))
    ∙ c.turns.invariant.same

pub turns-preserved : goal.turns-preserved
turns-preserved c =
    let k = seen_all c.in-Going.going.items in let x = c.in-Going.place in
    let r : going x k ≡ ready (seen_all c.turns.rest.items) = sym (ap seen_ready c.in-Going.is) ∙ c.in_ok-end.ensures in
    let p : c.pairs_of-count.result ≡ pairs x k = c.pairs_of-count.ensures ∙ ap (λ (l : List Inequality). pairs x (seen_all l)) c.deref.ensures.value in
    let e : seen_all c.in_ok-rest-in-Going.rest.items ≡ eliminate c.args.mode x k = c.in_ok-rest-in-Going.ensures ∙ ap (λ (l : List Inequality). eliminate c.args.mode x (seen_all l)) c.deref-in-Going.ensures.value in
    record {
      within = omega arith;
      safe = subst (λ (l : List plain.Inequality). SafeAll l) (sym e) (safe_eliminate c.args.mode x k (narrow_going (seen_all c.turns.rest.items) x k c.turns.invariant.safe r));
      same = ap₂ (λ (i : ℕ) (l : List plain.Inequality). counted (c.turns.used + i) c.args.budget (turns c.args.mode (c.turns.left - 1) l)) p e
          ∙ sym (counted_costing c.turns.used c.args.budget (pairs x k) (turns c.args.mode (c.turns.left - 1) (eliminate c.args.mode x k)))
          ∙ sym (ap (counted c.turns.used c.args.budget) (turns_going c.args.mode c.turns.left (seen_all c.turns.rest.items) x k c.turns-test.true r))
          ∙ c.turns.invariant.same;
      trail = one_more c.turns.trail.items _ (record { place = x; list = c.in-Going.going }) (trail_of c.args.mode (c.turns.left - 1) (seen_all c.in_ok-rest-in-Going.rest.items)) c.in_ok-push-in-Going.ensures.items
          ∙ ap (λ (l : List plain.Inequality). seen_turns c.turns.trail.items ++ (seen_turn (record { place = x; list = c.in-Going.going }) ∷ trail_of c.args.mode (c.turns.left - 1) l)) e
          ∙ ap (λ (l : List Turn). seen_turns c.turns.trail.items ++ l) (sym (trail_going c.args.mode c.turns.left (seen_all c.turns.rest.items) x k c.turns-test.true r))
          ∙ c.turns.invariant.trail;
    }

pub returns-clause-count : goal.returns-clause-count
returns-clause-count c =
    sym (counted_within c.turns.used c.args.budget _ c.turns.invariant.within)
    ∙ sym (ap (counted c.turns.used c.args.budget) (turns_none c.args.mode c.turns.left (seen_all c.turns.rest.items) (omega arith)))
    ∙ c.turns.invariant.same

pub pairs_of-count-requires : goal.pairs_of-count-requires
pairs_of-count-requires c =
    let k = seen_all c.in-Going.going.items in let x = c.in-Going.place in
    let r : going x k ≡ ready (seen_all c.turns.rest.items) = sym (ap seen_ready c.in-Going.is) ∙ c.in_ok-end.ensures in
    subst (λ (l : List Inequality). NarrowAll (seen_all l)) (sym c.deref.ensures.value) (narrow_going (seen_all c.turns.rest.items) x k c.turns.invariant.safe r)

pub eliminate_of-requires : goal.eliminate_of-requires
eliminate_of-requires c =
    let k = seen_all c.in-Going.going.items in let x = c.in-Going.place in
    let r : going x k ≡ ready (seen_all c.turns.rest.items) = sym (ap seen_ready c.in-Going.is) ∙ c.in_ok-end.ensures in
    subst (λ (l : List Inequality). NarrowAll (seen_all l)) (sym c.deref-in-Going.ensures.value) (narrow_going (seen_all c.turns.rest.items) x k c.turns.invariant.safe r)
