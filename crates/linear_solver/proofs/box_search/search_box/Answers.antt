use Rattle.std.proofs.Common.{◌≡◌, ◌∙◌, sym, ap, subst, arith, ℕ, ℤ, List, inl, inr, to_z, of_z}
use Rattle.std.proofs.lemmas.Int.{to_z-of_z}
use Rattle.std.proofs.lemmas.Bool.{cases_lt}
use mir.Syntax.{w32}
use Rattle.cc_base.specs.Groups.{HoldAll}
use Rattle.linear_solver.specs.Atoms.{seen_atoms}
use Rattle.linear_solver.specs.Box.{decoded}
use Rattle.linear_solver.specs.Seen.{at_places}
use Rattle.linear_solver.proofs.box_search.search_box.Goals as goal

pub returns-then-hold_all : goal.returns-then-hold_all
returns-then-hold_all c = (
  (c.loop-k.k, c.loop-k-test.true, c.in_ok-values.ensures ∙ ap (λ (z : ℤ). decoded z c.args.width c.loop-k.k c.args.places.now) (to_z-of_z w32 c.args.lo c.ranges.lo)),
  subst (λ (l : List ℤ). HoldAll (at_places l) (seen_atoms c.args.atoms.now)) c.deref.ensures.value (c.hold_all.ensures.0 c.if-hold_all.true),
)

pub loop-k-preserved : goal.loop-k-preserved
loop-k-preserved c = λ j h m. elim (cases_lt j c.loop-k.k) [
  | inl l ↦ c.loop-k.invariant j l m
  | inr l ↦
      let e : j ≡ c.loop-k.k = omega (arith, h, l) in
      let v = subst (λ (i : ℕ). HoldAll (decoded (to_z w32 (of_z w32 c.args.lo)) c.args.width i c.args.places.now) (seen_atoms c.args.atoms.now)) e m in
      let t = c.hold_all.ensures.1 (subst (λ (l : List ℤ). HoldAll (at_places l) (seen_atoms c.args.atoms.now)) (sym c.deref.ensures.value) (subst (λ (w : ℕ → ℤ). HoldAll w (seen_atoms c.args.atoms.now)) (sym c.in_ok-values.ensures) v)) in
      let f = c.if-hold_all.false in cc (t, f)
]

pub returns : goal.returns
returns c = λ k h m. c.loop-k.invariant k (let g = c.loop-k-test.false in omega (arith, g, h)) (subst (λ (z : ℤ). HoldAll (decoded z c.args.width k c.args.places.now) (seen_atoms c.args.atoms.now)) (sym (to_z-of_z w32 c.args.lo c.ranges.lo)) m)
