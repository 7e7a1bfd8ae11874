use Rattle.std.proofs.Common.{◌≡◌, ◌∙◌, sym, ap, subst, ◌+◌, List}
use Rattle.cc_base.specs.Inequality as plain
use Rattle.cc_base.specs.Pass.{pass}
use Rattle.cc_base.specs.declared.passes.Mode.TheVariants.{Dark}
use Rattle.cc_base.specs.declared.passes.PassEnd.{PassEnd}
use Rattle.cc_base.specs.declared.passes.PassEnd.TheVariants.{Open, Empty, Full}
use Rattle.cc_base.specs.Witness.{unwound, origin, Turn}
use Rattle.linear_solver.specs.declared.pass.Counted.{Counted}
use Rattle.linear_solver.specs.declared.pass.Step.{Step}
use Rattle.linear_solver.specs.Bounded.{Fitting}
use Rattle.linear_solver.specs.Ordered.{SafeAll}
use Rattle.linear_solver.specs.Seen.{seen_all, seen_turns, seen_counted, counted, done, Leaves, at_places}
use Rattle.linear_solver.specs.Trail.{trail_of, Sound}
use Rattle.linear_solver.proofs.Bounding.{fitting_pass}
use Rattle.linear_solver.proofs.Choosing.{counted_done_is, dark_over, dark_full, dark_other, dark_meets}
use Rattle.linear_solver.proofs.Counting.{sound_trail}
use Rattle.linear_solver.proofs.choice.dark_choice.Goals as goal

pub pass_of-requires-clause-safe : goal.pass_of-requires-clause-safe
pass_of-requires-clause-safe c = subst (λ (l : List plain.Inequality). SafeAll l) (sym c.in_ok-copy_all.ensures) c.requires.safe

pub returns-in-Over-clause-count : goal.returns-in-Over-clause-count
returns-in-Over-clause-count c =
    let copy = ap (λ (l : List plain.Inequality). counted c.args.used c.args.budget (pass Dark c.args.n l)) c.in_ok-copy_all.ensures in
    dark_over c.args.used c.args.budget (pass Dark c.args.n (seen_all c.args.list.now)) (sym (ap seen_counted c.in-Over.is) ∙ c.in_ok-pass_of.ensures.count ∙ copy)

pub restore-requires-clause-sound : goal.restore-requires-clause-sound
restore-requires-clause-sound c =
    let lead : seen_turns c.in-Done.trail.items ≡ trail_of Dark (c.args.n + 1) (seen_all c.in_ok-copy_all.field-0.items) =
    subst (λ (r : Counted). Leaves r (trail_of Dark (c.args.n + 1) (seen_all c.in_ok-copy_all.field-0.items))) c.in-Done.is c.in_ok-pass_of.ensures.turns in
    subst (λ (l : List Step). Sound (seen_turns l)) (sym c.deref.ensures.value)
    (subst (λ (l : List Turn). Sound l) (sym lead) (sound_trail Dark (c.args.n + 1) (seen_all c.in_ok-copy_all.field-0.items) (subst (λ (l : List plain.Inequality). SafeAll l) (sym c.in_ok-copy_all.ensures) c.requires.safe)))

pub restore-requires-clause-fitting : goal.restore-requires-clause-fitting
restore-requires-clause-fitting c =
    let copy = ap (λ (l : List plain.Inequality). counted c.args.used c.args.budget (pass Dark c.args.n l)) c.in_ok-copy_all.ensures in
    let lead : seen_turns c.in-Done.trail.items ≡ trail_of Dark (c.args.n + 1) (seen_all c.in_ok-copy_all.field-0.items) =
    subst (λ (r : Counted). Leaves r (trail_of Dark (c.args.n + 1) (seen_all c.in_ok-copy_all.field-0.items))) c.in-Done.is c.in_ok-pass_of.ensures.turns in
    let full = counted_done_is c.args.used c.args.budget (pass Dark c.args.n (seen_all c.args.list.now)) Full c.in-Done.spent
    (sym (ap (λ (e : PassEnd). done e c.in-Done.spent) c.in-Full.is) ∙ sym (ap seen_counted c.in-Done.is) ∙ c.in_ok-pass_of.ensures.count ∙ copy) in
    subst (λ (l : List Step). Fitting (seen_turns l)) (sym c.deref.ensures.value)
    (subst (λ (l : List Turn). Fitting l) (sym (lead ∙ ap (λ (l : List plain.Inequality). trail_of Dark (c.args.n + 1) l) c.in_ok-copy_all.ensures))
    (fitting_pass c.args.n (seen_all c.args.list.now) c.requires.bounded full.2))

pub returns-in_ok-values-in-Full-clause-count : goal.returns-in_ok-values-in-Full-clause-count
returns-in_ok-values-in-Full-clause-count c =
    let copy = ap (λ (l : List plain.Inequality). counted c.args.used c.args.budget (pass Dark c.args.n l)) c.in_ok-copy_all.ensures in
    dark_full c.args.used c.args.budget c.in-Done.spent (pass Dark c.args.n (seen_all c.args.list.now))
    (sym (ap (λ (e : PassEnd). done e c.in-Done.spent) c.in-Full.is) ∙ sym (ap seen_counted c.in-Done.is) ∙ c.in_ok-pass_of.ensures.count ∙ copy)

pub returns-in_ok-values-in-Full-clause-values : goal.returns-in_ok-values-in-Full-clause-values
returns-in_ok-values-in-Full-clause-values c =
    let copy = ap (λ (l : List plain.Inequality). counted c.args.used c.args.budget (pass Dark c.args.n l)) c.in_ok-copy_all.ensures in
    let lead : seen_turns c.in-Done.trail.items ≡ trail_of Dark (c.args.n + 1) (seen_all c.in_ok-copy_all.field-0.items) =
    subst (λ (r : Counted). Leaves r (trail_of Dark (c.args.n + 1) (seen_all c.in_ok-copy_all.field-0.items))) c.in-Done.is c.in_ok-pass_of.ensures.turns in
    let v = at_places c.in_ok-values-in-Full.values.items in (
      dark_meets c.args.used c.args.budget c.in-Done.spent c.args.n (seen_all c.args.list.now) v
          (sym (ap (λ (e : PassEnd). done e c.in-Done.spent) c.in-Full.is) ∙ sym (ap seen_counted c.in-Done.is) ∙ c.in_ok-pass_of.ensures.count ∙ copy)
          (c.in_ok-values-in-Full.ensures ∙ ap (λ (l : List Step). unwound (seen_turns l) origin) c.deref.ensures.value ∙ ap (λ (l : List Turn). unwound l origin) lead
          ∙ ap (λ (l : List plain.Inequality). unwound (trail_of Dark (c.args.n + 1) l) origin) c.in_ok-copy_all.ensures),
      tt,
    )

pub returns-in-Empty-clause-count : goal.returns-in-Empty-clause-count
returns-in-Empty-clause-count c =
    let copy = ap (λ (l : List plain.Inequality). counted c.args.used c.args.budget (pass Dark c.args.n l)) c.in_ok-copy_all.ensures in
    dark_other c.args.used c.args.budget c.in-Done.spent Empty (pass Dark c.args.n (seen_all c.args.list.now))
    (sym (ap (λ (e : PassEnd). done e c.in-Done.spent) c.in-Empty.is) ∙ sym (ap seen_counted c.in-Done.is) ∙ c.in_ok-pass_of.ensures.count ∙ copy) (λ x. cc x)

pub returns-in-Open-clause-count : goal.returns-in-Open-clause-count
returns-in-Open-clause-count c =
    let copy = ap (λ (l : List plain.Inequality). counted c.args.used c.args.budget (pass Dark c.args.n l)) c.in_ok-copy_all.ensures in
    dark_other c.args.used c.args.budget c.in-Done.spent Open (pass Dark c.args.n (seen_all c.args.list.now))
    (sym (ap (λ (e : PassEnd). done e c.in-Done.spent) c.in-Open.is) ∙ sym (ap seen_counted c.in-Done.is) ∙ c.in_ok-pass_of.ensures.count ∙ copy) (λ x. cc x)
