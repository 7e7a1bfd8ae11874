use Rattle.std.proofs.Common.{◌≡◌, ◌∙◌, sym, ap, subst, rules, arith, ℕ, ℤ, pos, negsuc, ◌-◌, ◌≤ℤ◌, List, drop, SFits}
use Rattle.std.proofs.lemmas.Int.{to_z-of_z}
use mir.Syntax.{w128, w32}
use Rattle.linear_solver.specs.declared.inequalities.Inequality.{Inequality}
use Rattle.cc_base.specs.Pass.{lowers, uppers}
use Rattle.cc_base.specs.Witness.{value_for, unwound, origin, changed}
use Rattle.linear_solver.specs.Ordered.{NarrowAll}
use Rattle.linear_solver.specs.Seen.{seen_all, seen_turns, at_places}
use Rattle.linear_solver.proofs.Evaluation.{sound_at}
use Rattle.linear_solver.proofs.Restoring.{at_none, turns_drop, turns_end, restored_is}
use Rattle.linear_solver.proofs.Bounding.{value_fits}
use Rattle.linear_solver.proofs.restore.restore.Goals as goal

pub turns-init : goal.turns-init
turns-init c = record {
  within = omega arith;
  same = at_none c.new-values.result.items c.new-values.ensures.items ∙ turns_end c.args.trail.now origin;
}

pub value_of-value-requires : goal.value_of-value-requires
value_of-value-requires c =
    let s = c.index-trail-left.result in
    subst (λ (l : List Inequality). NarrowAll (seen_all l)) (sym c.deref.ensures.value) (sound_at c.args.trail.now (c.turns.left - 1) s (omega arith) c.index-trail-left.is c.requires.sound)

pub narrow-requires-clause-low : goal.narrow-requires-clause-low
narrow-requires-clause-low c =
    let s = c.index-trail-left.result in let z = c.value_of-value.result in
    let w : SFits w128 z = search rules in
    let is : z ≡ value_for (at_places c.turns.values.items) s.place (lowers s.place (seen_all s.list.items)) (uppers s.place (seen_all s.list.items)) =
    c.value_of-value.ensures
    ∙ ap (λ (v : List ℤ). value_for (at_places v) s.place (lowers s.place (seen_all c.deref.result.now)) (uppers s.place (seen_all c.deref.result.now))) c.deref-in-turns.ensures.value
    ∙ ap (λ (m : List Inequality). value_for (at_places c.turns.values.items) s.place (lowers s.place (seen_all m)) (uppers s.place (seen_all m))) c.deref.ensures.value in
    let f = value_fits c.args.trail.now c.turns.left s (at_places c.turns.values.items) z c.turns-test.true c.turns.invariant.within c.index-trail-left.is c.requires.fitting c.turns.invariant.same is in
    subst (λ (y : ℤ). negsuc 2147483647 ≤ℤ y) (sym (to_z-of_z w128 z w)) f.0

pub narrow-requires-clause-high : goal.narrow-requires-clause-high
narrow-requires-clause-high c =
    let s = c.index-trail-left.result in let z = c.value_of-value.result in
    let w : SFits w128 z = search rules in
    let is : z ≡ value_for (at_places c.turns.values.items) s.place (lowers s.place (seen_all s.list.items)) (uppers s.place (seen_all s.list.items)) =
    c.value_of-value.ensures
    ∙ ap (λ (v : List ℤ). value_for (at_places v) s.place (lowers s.place (seen_all c.deref.result.now)) (uppers s.place (seen_all c.deref.result.now))) c.deref-in-turns.ensures.value
    ∙ ap (λ (m : List Inequality). value_for (at_places c.turns.values.items) s.place (lowers s.place (seen_all m)) (uppers s.place (seen_all m))) c.deref.ensures.value in
    let f = value_fits c.args.trail.now c.turns.left s (at_places c.turns.values.items) z c.turns-test.true c.turns.invariant.within c.index-trail-left.is c.requires.fitting c.turns.invariant.same is in
    subst (λ (y : ℤ). y ≤ℤ pos 2147483647) (sym (to_z-of_z w128 z w)) f.1

pub turns-preserved : goal.turns-preserved
turns-preserved c =
    let s = c.index-trail-left.result in let z = c.value_of-value.result in
    let w : SFits w128 z = search rules in
    let is : z ≡ value_for (at_places c.turns.values.items) s.place (lowers s.place (seen_all s.list.items)) (uppers s.place (seen_all s.list.items)) =
    c.value_of-value.ensures
    ∙ ap (λ (v : List ℤ). value_for (at_places v) s.place (lowers s.place (seen_all c.deref.result.now)) (uppers s.place (seen_all c.deref.result.now))) c.deref-in-turns.ensures.value
    ∙ ap (λ (m : List Inequality). value_for (at_places c.turns.values.items) s.place (lowers s.place (seen_all m)) (uppers s.place (seen_all m))) c.deref.ensures.value in
    record {
      within = omega arith;
      same = c.in_ok-put_value.ensures ∙ ap (changed (at_places c.turns.values.items) s.place) (let g : SFits w32 c.narrow.result = search rules in to_z-of_z w32 c.narrow.result g ∙ c.narrow.ensures ∙ to_z-of_z w128 z w)
          ∙ restored_is (at_places c.turns.values.items) (unwound (seen_turns (drop c.turns.left c.args.trail.now)) origin) s z c.turns.invariant.same is
          ∙ sym (turns_drop c.args.trail.now c.turns.left s c.turns-test.true c.turns.invariant.within c.index-trail-left.is origin);
    }

pub returns : goal.returns
returns c = c.turns.invariant.same ∙ ap (λ (j : ℕ). unwound (seen_turns (drop j c.args.trail.now)) origin) (let e : c.turns.left ≡ 0 = omega arith in e)
