use Rattle.std.proofs.Common.{◌∙◌, sym, ap, refl, inl, inr, Bool, List, false, get_or}
use Rattle.std.proofs.lemmas.List.{with_items_is}
use Rattle.linear_solver.proofs.Spanning.{only_at, holds_member, unmarked}
use Rattle.linear_solver.proofs.Writing.{fit_at}
use Rattle.linear_solver.proofs.one_place.marks_of.Goals as goal

pub loop-a-init : goal.loop-a-init
loop-a-init c = λ k h m. absurd (unmarked _ k (sym (ap (λ (b : List Bool). get_or b k false) (c.in_ok-marks.ensures.items_if_clones_equal (λ y h. h))) ∙ h))

pub mark-requires-clause-fit : goal.mark-requires-clause-fit
mark-requires-clause-fit c = fit_at c.args.atoms.now c.loop-a.a-index c.a-item.result c.requires.fit c.loop-a-test.true c.a-item.is

pub mark-requires-clause-only : goal.mark-requires-clause-only
mark-requires-clause-only c = only_at c.args.place c.args.atoms.now c.loop-a.a-index c.a-item.result c.requires.only c.loop-a-test.true c.a-item.is

pub loop-a-preserved : goal.loop-a-preserved
loop-a-preserved c = λ k h m.
    let w = with_items_is c.loop-a.marks c.mark.new.marks (c.mark.auto.marks ∙ c.deref_mut.ensures.len ∙ refl) in
    elim (c.mark.ensures.marks k (sym (ap (λ (b : List Bool). get_or b k false) w) ∙ h)) [
      | inl i ↦ c.loop-a.invariant k (sym (ap (λ (b : List Bool). get_or b k false) c.deref_mut.ensures.value) ∙ i) m
      | inr e ↦ e (holds_member _ c.args.atoms.now c.loop-a.a-index c.a-item.result m c.loop-a-test.true c.a-item.is)
    ]
