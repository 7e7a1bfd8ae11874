use Rattle.std.proofs.Common.{◌≡◌, ◌∙◌, sym, ap, ap₂, subst, arith, ℕ, ℤ, pos, ◌+ℤ◌, ◌≤ℤ◌, ◌≤◌, ◌<◌, ◌^◌, List, Option, length, SFits, to_z, of_z}
use Rattle.std.proofs.lemmas.Int.{to_z-of_z, ints}
use mir.Syntax.{w32}
use Rattle.cc_base.specs.Groups.{HoldAll, Between, places_in}
use Rattle.cc_base.specs.Need.{width}
use Rattle.linear_solver.specs.Atoms.{seen_atoms}
use Rattle.linear_solver.specs.Box.{decoded, Searched}
use Rattle.linear_solver.specs.Seen.{at_places}
use Rattle.linear_solver.proofs.Settling.{need_box, values_box, refuted_box, box_power, width_positive, width_fits}
use Rattle.linear_solver.proofs.group.settle_box.Goals as goal

top : (z : ℤ) → SFits w32 z → z ≤ℤ pos 2147483647
top z f = let s = f.sfits in omega (arith, ints, s)

pub power-count-requires-clause-positive : goal.power-count-requires-clause-positive
power-count-requires-clause-positive c = subst (λ (n : ℕ). 0 < n) (sym c.width_of-width.ensures) (width_positive _ _)

pub power-count-requires-clause-within : goal.power-count-requires-clause-within
power-count-requires-clause-within c =
    let A = seen_atoms c.args.atoms.now in
    let w : c.width_of-width.result ≡ width c.args.lo c.args.hi = c.width_of-width.ensures ∙ ap₂ width (to_z-of_z w32 c.args.lo c.ranges.lo) (to_z-of_z w32 c.args.hi c.ranges.hi) in
    subst (λ (n : ℕ). n ≤ c.args.budget) (sym (ap₂ (λ (a b : ℕ). a ^ b) w (ap length c.requires.places))) (box_power c.args.lo c.args.hi c.args.budget A c.requires.within)

pub search_box-requires-clause-positive : goal.search_box-requires-clause-positive
search_box-requires-clause-positive c = subst (λ (n : ℕ). 0 < n) (sym c.width_of-width.ensures) (width_positive _ _)

pub search_box-requires-clause-fits : goal.search_box-requires-clause-fits
search_box-requires-clause-fits c =
    let w : c.width_of-width.result ≡ width c.args.lo c.args.hi = c.width_of-width.ensures ∙ ap₂ width (to_z-of_z w32 c.args.lo c.ranges.lo) (to_z-of_z w32 c.args.hi c.ranges.hi) in
    subst (λ (z : ℤ). (z +ℤ pos c.width_of-width.result) ≤ℤ pos 2147483648) (sym (to_z-of_z w32 c.args.lo c.ranges.lo))
    (subst (λ (n : ℕ). (c.args.lo +ℤ pos n) ≤ℤ pos 2147483648) (sym w) (width_fits c.args.lo c.args.hi c.requires.order (top c.args.hi c.ranges.hi)))

several : (p q : List ℕ) → p ≡ q → 2 ≤ length p → 2 ≤ length q
several p q e h = subst (λ (l : List ℕ). 2 ≤ length l) e h

pub returns-in-Some : goal.returns-in-Some
returns-in-Some c =
    let A = seen_atoms c.args.atoms.now in let lo = to_z-of_z w32 c.args.lo c.ranges.lo in
    let w : c.width_of-width.result ≡ width c.args.lo c.args.hi = c.width_of-width.ensures ∙ ap₂ width lo (to_z-of_z w32 c.args.hi c.ranges.hi) in
    let s = subst (λ (r : Option _). Searched (to_z w32 (of_z w32 c.args.lo)) c.width_of-width.result c.power-count.result c.args.places.now A r) c.in-Some.is c.in_ok-values.ensures in
    let k = s.0 in let v = at_places c.in-Some.values.items in
    let e : v ≡ decoded c.args.lo (width c.args.lo c.args.hi) k.0 c.args.places.now = k.2 ∙ ap₂ (λ (a : ℤ) (b : ℕ). decoded a b k.0 c.args.places.now) lo w in (
      need_box c.args.lo c.args.hi c.args.budget A (several c.args.places.now (places_in A) c.requires.places c.requires.several) c.requires.within,
      subst (λ (p : List ℕ). Between c.args.lo c.args.hi v p) c.requires.places (values_box c.args.lo c.args.hi k.0 v c.args.places.now c.requires.order e),
      s.1,
    )

pub returns-in-None : goal.returns-in-None
returns-in-None c =
    let A = seen_atoms c.args.atoms.now in let lo = to_z-of_z w32 c.args.lo c.ranges.lo in
    let w : c.width_of-width.result ≡ width c.args.lo c.args.hi = c.width_of-width.ensures ∙ ap₂ width lo (to_z-of_z w32 c.args.hi c.ranges.hi) in
    let s = subst (λ (r : Option _). Searched (to_z w32 (of_z w32 c.args.lo)) c.width_of-width.result c.power-count.result c.args.places.now A r) c.in-None.is c.in_ok-values.ensures in
    refuted_box c.args.lo c.args.hi c.args.budget c.power-count.result A (several c.args.places.now (places_in A) c.requires.places c.requires.several) c.requires.within
    (c.power-count.ensures ∙ ap₂ (λ (a b : ℕ). a ^ b) w (ap length c.requires.places))
    (λ k h m. s k h (subst (λ (v : ℕ → ℤ). HoldAll v A) (sym (ap₂ (λ (a : ℤ) (b : ℕ). decoded a b k c.args.places.now) lo w ∙ ap (decoded c.args.lo (width c.args.lo c.args.hi) k) c.requires.places)) m))
