use Rattle.std.proofs.Common.{◌≡◌, ◌∙◌, sym, ap, ap₂, subst, arith, ℕ, ℤ, pos, negsuc, ◌≤ℤ◌, List, length, SFits}
use Rattle.std.proofs.lemmas.Int.{to_z-of_z, ints}
use mir.Syntax.{w32}
use Rattle.cc_base.specs.Groups.{places_in}
use Rattle.cc_base.specs.Inequality as plain
use Rattle.cc_base.specs.Need.{first_list, tried, disequalities}
use Rattle.cc_base.specs.Pass.{pass}
use Rattle.cc_base.specs.declared.passes.Mode.TheVariants.{Real}
use Rattle.cc_base.specs.declared.passes.PassEnd.{PassEnd}
use Rattle.cc_base.specs.declared.passes.PassEnd.TheVariants.{Open, Full}
use Rattle.linear_solver.specs.Atoms.{seen_atoms}
use Rattle.linear_solver.specs.Bounded.{BoundedWith}
use Rattle.linear_solver.specs.Counts.{seen_tried, tried_count, FoundMeets}
use Rattle.linear_solver.specs.Ordered.{SafeAll}
use Rattle.linear_solver.specs.Seen.{seen_all, seen_counted, counted, done}
use Rattle.linear_solver.proofs.Bounding.{first_bounded}
use Rattle.linear_solver.proofs.Choosing.{elimination_over, elimination_empty, elimination_more, done_within}
use Rattle.linear_solver.proofs.FirstList.{safe_first}
use Rattle.linear_solver.proofs.elimination.elimination_of.Goals as goal

least : (z : ℤ) → SFits w32 z → negsuc 2147483647 ≤ℤ z
least z f = let s = f.sfits in omega (arith, ints, s)

greatest : (z : ℤ) → SFits w32 z → z ≤ℤ pos 2147483647
greatest z f = let s = f.sfits in omega (arith, ints, s)

pub pass_of-requires-clause-safe : goal.pass_of-requires-clause-safe
pass_of-requires-clause-safe c =
    let fe : seen_all c.in_ok-first.first.items ≡ (first_list c.args.lo c.args.hi (seen_atoms c.args.atoms.now)) = c.in_ok-first.ensures ∙ ap₂ (λ (a b : ℤ). first_list a b (seen_atoms c.args.atoms.now)) (to_z-of_z w32 c.args.lo c.ranges.lo) (to_z-of_z w32 c.args.hi c.ranges.hi) in
    subst (λ (l : List plain.Inequality). SafeAll l) (sym (c.in_ok-copy_all.ensures ∙ ap seen_all c.deref.ensures.value ∙ fe)) (safe_first c.args.lo c.args.hi (seen_atoms c.args.atoms.now) c.requires.fit)

pub returns-in-Over-clause-count : goal.returns-in-Over-clause-count
returns-in-Over-clause-count c =
    let fe : seen_all c.in_ok-first.first.items ≡ (first_list c.args.lo c.args.hi (seen_atoms c.args.atoms.now)) = c.in_ok-first.ensures ∙ ap₂ (λ (a b : ℤ). first_list a b (seen_atoms c.args.atoms.now)) (to_z-of_z w32 c.args.lo c.ranges.lo) (to_z-of_z w32 c.args.hi c.ranges.hi) in
    let co : seen_all c.in_ok-copy_all.field-0.items ≡ (first_list c.args.lo c.args.hi (seen_atoms c.args.atoms.now)) = c.in_ok-copy_all.ensures ∙ ap seen_all c.deref.ensures.value ∙ fe in
    let pe = ap₂ (λ (n : ℕ) (l : List plain.Inequality). counted 0 c.args.budget (pass Real n l)) (ap length c.requires.places) co in
    elimination_over 0 c.args.budget c.args.lo c.args.hi (seen_atoms c.args.atoms.now) (sym (ap seen_counted c.in-Over.is) ∙ c.in_ok-pass_of.ensures.count ∙ pe)

pub returns-in-Empty-clause-count : goal.returns-in-Empty-clause-count
returns-in-Empty-clause-count c =
    let fe : seen_all c.in_ok-first.first.items ≡ (first_list c.args.lo c.args.hi (seen_atoms c.args.atoms.now)) = c.in_ok-first.ensures ∙ ap₂ (λ (a b : ℤ). first_list a b (seen_atoms c.args.atoms.now)) (to_z-of_z w32 c.args.lo c.ranges.lo) (to_z-of_z w32 c.args.hi c.ranges.hi) in
    let co : seen_all c.in_ok-copy_all.field-0.items ≡ (first_list c.args.lo c.args.hi (seen_atoms c.args.atoms.now)) = c.in_ok-copy_all.ensures ∙ ap seen_all c.deref.ensures.value ∙ fe in
    let pe = ap₂ (λ (n : ℕ) (l : List plain.Inequality). counted 0 c.args.budget (pass Real n l)) (ap length c.requires.places) co in
    elimination_empty 0 c.args.budget c.in-Done.spent c.args.lo c.args.hi (seen_atoms c.args.atoms.now) (sym (ap (λ (e : PassEnd). done e c.in-Done.spent) c.in-Empty.is) ∙ sym (ap seen_counted c.in-Done.is) ∙ c.in_ok-pass_of.ensures.count ∙ pe)

pub tried_of-requires-clause-within : goal.tried_of-requires-clause-within
tried_of-requires-clause-within c =
    let fe : seen_all c.in_ok-first.first.items ≡ (first_list c.args.lo c.args.hi (seen_atoms c.args.atoms.now)) = c.in_ok-first.ensures ∙ ap₂ (λ (a b : ℤ). first_list a b (seen_atoms c.args.atoms.now)) (to_z-of_z w32 c.args.lo c.ranges.lo) (to_z-of_z w32 c.args.hi c.ranges.hi) in
    let co : seen_all c.in_ok-copy_all.field-0.items ≡ (first_list c.args.lo c.args.hi (seen_atoms c.args.atoms.now)) = c.in_ok-copy_all.ensures ∙ ap seen_all c.deref.ensures.value ∙ fe in
    let pe = ap₂ (λ (n : ℕ) (l : List plain.Inequality). counted 0 c.args.budget (pass Real n l)) (ap length c.requires.places) co in
    done_within 0 c.args.budget c.in-Done.spent Full (pass Real (length (places_in (seen_atoms c.args.atoms.now))) (first_list c.args.lo c.args.hi (seen_atoms c.args.atoms.now))) (sym (ap (λ (e : PassEnd). done e c.in-Done.spent) c.in-Full.is) ∙ sym (ap seen_counted c.in-Done.is) ∙ c.in_ok-pass_of.ensures.count ∙ pe)

pub tried_of-requires-clause-safe : goal.tried_of-requires-clause-safe
tried_of-requires-clause-safe c =
    let fe : seen_all c.in_ok-first.first.items ≡ (first_list c.args.lo c.args.hi (seen_atoms c.args.atoms.now)) = c.in_ok-first.ensures ∙ ap₂ (λ (a b : ℤ). first_list a b (seen_atoms c.args.atoms.now)) (to_z-of_z w32 c.args.lo c.ranges.lo) (to_z-of_z w32 c.args.hi c.ranges.hi) in
    subst (λ (l : List plain.Inequality). SafeAll l) (sym (ap seen_all c.deref-in-Full.ensures.value ∙ fe)) (safe_first c.args.lo c.args.hi (seen_atoms c.args.atoms.now) c.requires.fit)

pub returns-in-Full-clause-count : goal.returns-in-Full-clause-count
returns-in-Full-clause-count c =
    let fe : seen_all c.in_ok-first.first.items ≡ (first_list c.args.lo c.args.hi (seen_atoms c.args.atoms.now)) = c.in_ok-first.ensures ∙ ap₂ (λ (a b : ℤ). first_list a b (seen_atoms c.args.atoms.now)) (to_z-of_z w32 c.args.lo c.ranges.lo) (to_z-of_z w32 c.args.hi c.ranges.hi) in
    let co : seen_all c.in_ok-copy_all.field-0.items ≡ (first_list c.args.lo c.args.hi (seen_atoms c.args.atoms.now)) = c.in_ok-copy_all.ensures ∙ ap seen_all c.deref.ensures.value ∙ fe in
    let pe = ap₂ (λ (n : ℕ) (l : List plain.Inequality). counted 0 c.args.budget (pass Real n l)) (ap length c.requires.places) co in
    elimination_more 0 c.args.budget c.in-Done.spent c.args.lo c.args.hi (seen_atoms c.args.atoms.now) Full (seen_tried c.in_ok-choices-in-Full.choices) (sym (ap (λ (e : PassEnd). done e c.in-Done.spent) c.in-Full.is) ∙ sym (ap seen_counted c.in-Done.is) ∙ c.in_ok-pass_of.ensures.count ∙ pe) (λ x. cc x)
    (c.in_ok-choices-in-Full.ensures.count ∙ ap₂ (λ (n : ℕ) (l : List plain.Inequality). tried_count c.in-Done.spent c.args.budget (tried n l (disequalities (seen_atoms c.args.atoms.now)))) (ap length c.requires.places) (ap seen_all c.deref-in-Full.ensures.value ∙ fe))

pub returns-in-Full-clause-values : goal.returns-in-Full-clause-values
returns-in-Full-clause-values c =
    let fe : seen_all c.in_ok-first.first.items ≡ (first_list c.args.lo c.args.hi (seen_atoms c.args.atoms.now)) = c.in_ok-first.ensures ∙ ap₂ (λ (a b : ℤ). first_list a b (seen_atoms c.args.atoms.now)) (to_z-of_z w32 c.args.lo c.ranges.lo) (to_z-of_z w32 c.args.hi c.ranges.hi) in
    subst (λ (l : List plain.Inequality). FoundMeets c.in_ok-choices-in-Full.choices l (disequalities (seen_atoms c.args.atoms.now))) (ap seen_all c.deref-in-Full.ensures.value ∙ fe) c.in_ok-choices-in-Full.ensures.values

pub tried_of-requires-in-Open-clause-within : goal.tried_of-requires-in-Open-clause-within
tried_of-requires-in-Open-clause-within c =
    let fe : seen_all c.in_ok-first.first.items ≡ (first_list c.args.lo c.args.hi (seen_atoms c.args.atoms.now)) = c.in_ok-first.ensures ∙ ap₂ (λ (a b : ℤ). first_list a b (seen_atoms c.args.atoms.now)) (to_z-of_z w32 c.args.lo c.ranges.lo) (to_z-of_z w32 c.args.hi c.ranges.hi) in
    let co : seen_all c.in_ok-copy_all.field-0.items ≡ (first_list c.args.lo c.args.hi (seen_atoms c.args.atoms.now)) = c.in_ok-copy_all.ensures ∙ ap seen_all c.deref.ensures.value ∙ fe in
    let pe = ap₂ (λ (n : ℕ) (l : List plain.Inequality). counted 0 c.args.budget (pass Real n l)) (ap length c.requires.places) co in
    done_within 0 c.args.budget c.in-Done.spent Open (pass Real (length (places_in (seen_atoms c.args.atoms.now))) (first_list c.args.lo c.args.hi (seen_atoms c.args.atoms.now))) (sym (ap (λ (e : PassEnd). done e c.in-Done.spent) c.in-Open.is) ∙ sym (ap seen_counted c.in-Done.is) ∙ c.in_ok-pass_of.ensures.count ∙ pe)

pub tried_of-requires-in-Open-clause-safe : goal.tried_of-requires-in-Open-clause-safe
tried_of-requires-in-Open-clause-safe c =
    let fe : seen_all c.in_ok-first.first.items ≡ (first_list c.args.lo c.args.hi (seen_atoms c.args.atoms.now)) = c.in_ok-first.ensures ∙ ap₂ (λ (a b : ℤ). first_list a b (seen_atoms c.args.atoms.now)) (to_z-of_z w32 c.args.lo c.ranges.lo) (to_z-of_z w32 c.args.hi c.ranges.hi) in
    subst (λ (l : List plain.Inequality). SafeAll l) (sym (ap seen_all c.deref-in-Open.ensures.value ∙ fe)) (safe_first c.args.lo c.args.hi (seen_atoms c.args.atoms.now) c.requires.fit)

pub returns-clause-count : goal.returns-clause-count
returns-clause-count c =
    let fe : seen_all c.in_ok-first.first.items ≡ (first_list c.args.lo c.args.hi (seen_atoms c.args.atoms.now)) = c.in_ok-first.ensures ∙ ap₂ (λ (a b : ℤ). first_list a b (seen_atoms c.args.atoms.now)) (to_z-of_z w32 c.args.lo c.ranges.lo) (to_z-of_z w32 c.args.hi c.ranges.hi) in
    let co : seen_all c.in_ok-copy_all.field-0.items ≡ (first_list c.args.lo c.args.hi (seen_atoms c.args.atoms.now)) = c.in_ok-copy_all.ensures ∙ ap seen_all c.deref.ensures.value ∙ fe in
    let pe = ap₂ (λ (n : ℕ) (l : List plain.Inequality). counted 0 c.args.budget (pass Real n l)) (ap length c.requires.places) co in
    elimination_more 0 c.args.budget c.in-Done.spent c.args.lo c.args.hi (seen_atoms c.args.atoms.now) Open (seen_tried c.in_ok-choices-in-Open.choices) (sym (ap (λ (e : PassEnd). done e c.in-Done.spent) c.in-Open.is) ∙ sym (ap seen_counted c.in-Done.is) ∙ c.in_ok-pass_of.ensures.count ∙ pe) (λ x. cc x)
    (c.in_ok-choices-in-Open.ensures.count ∙ ap₂ (λ (n : ℕ) (l : List plain.Inequality). tried_count c.in-Done.spent c.args.budget (tried n l (disequalities (seen_atoms c.args.atoms.now)))) (ap length c.requires.places) (ap seen_all c.deref-in-Open.ensures.value ∙ fe))

pub returns-clause-values : goal.returns-clause-values
returns-clause-values c =
    let fe : seen_all c.in_ok-first.first.items ≡ (first_list c.args.lo c.args.hi (seen_atoms c.args.atoms.now)) = c.in_ok-first.ensures ∙ ap₂ (λ (a b : ℤ). first_list a b (seen_atoms c.args.atoms.now)) (to_z-of_z w32 c.args.lo c.ranges.lo) (to_z-of_z w32 c.args.hi c.ranges.hi) in
    subst (λ (l : List plain.Inequality). FoundMeets c.in_ok-choices-in-Open.choices l (disequalities (seen_atoms c.args.atoms.now))) (ap seen_all c.deref-in-Open.ensures.value ∙ fe) c.in_ok-choices-in-Open.ensures.values

pub tried_of-requires-clause-bounded : goal.tried_of-requires-clause-bounded
tried_of-requires-clause-bounded c =
    let fe : seen_all c.in_ok-first.first.items ≡ (first_list c.args.lo c.args.hi (seen_atoms c.args.atoms.now)) = c.in_ok-first.ensures ∙ ap₂ (λ (a b : ℤ). first_list a b (seen_atoms c.args.atoms.now)) (to_z-of_z w32 c.args.lo c.ranges.lo) (to_z-of_z w32 c.args.hi c.ranges.hi) in
    subst (λ (l : List plain.Inequality). BoundedWith (seen_atoms c.args.atoms.now) l) (sym (ap seen_all c.deref-in-Full.ensures.value ∙ fe)) (first_bounded c.args.lo c.args.hi (seen_atoms c.args.atoms.now) (least c.args.lo c.ranges.lo) (greatest c.args.hi c.ranges.hi))

pub tried_of-requires-in-Open-clause-bounded : goal.tried_of-requires-in-Open-clause-bounded
tried_of-requires-in-Open-clause-bounded c =
    let fe : seen_all c.in_ok-first.first.items ≡ (first_list c.args.lo c.args.hi (seen_atoms c.args.atoms.now)) = c.in_ok-first.ensures ∙ ap₂ (λ (a b : ℤ). first_list a b (seen_atoms c.args.atoms.now)) (to_z-of_z w32 c.args.lo c.ranges.lo) (to_z-of_z w32 c.args.hi c.ranges.hi) in
    subst (λ (l : List plain.Inequality). BoundedWith (seen_atoms c.args.atoms.now) l) (sym (ap seen_all c.deref-in-Open.ensures.value ∙ fe)) (first_bounded c.args.lo c.args.hi (seen_atoms c.args.atoms.now) (least c.args.lo c.ranges.lo) (greatest c.args.hi c.ranges.hi))
