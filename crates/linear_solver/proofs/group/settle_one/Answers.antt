use Rattle.std.proofs.Common.{sym, subst, arith, ℤ, ◌≤ℤ◌, Option, to_z, of_z}
use Rattle.std.proofs.lemmas.Int.{to_z-of_z}
use mir.Syntax.{w32}
use Rattle.linear_solver.specs.Atoms.{seen_atoms}
use Rattle.linear_solver.specs.Seen.{at_places}
use Rattle.linear_solver.specs.Spans.{FoundAt}
use Rattle.linear_solver.proofs.Settling.{need_one, only_one, values_one, refuted_one}
use Rattle.linear_solver.proofs.FirstList.{atoms_length}
use Rattle.linear_solver.proofs.group.settle_one.Goals as goal

pub returns-then-atoms-budget : goal.returns-then-atoms-budget
returns-then-atoms-budget c =
    let e = need_one c.args.lo c.args.hi c.args.place (seen_atoms c.args.atoms.now) c.requires.places in let l = atoms_length c.args.atoms.now in let h = c.if-atoms-budget.true in omega (arith, e, l, h)

pub search_place-requires-clause-only : goal.search_place-requires-clause-only
search_place-requires-clause-only c = only_one c.args.place (seen_atoms c.args.atoms.now) c.requires.places

pub returns-in-Some : goal.returns-in-Some
returns-in-Some c =
    let A = seen_atoms c.args.atoms.now in
    let f = subst (λ (r : Option _). FoundAt (to_z w32 (of_z w32 c.args.lo)) (to_z w32 (of_z w32 c.args.hi)) c.args.place A r) c.in-Some.is c.in_ok-values.ensures in
    let e = need_one c.args.lo c.args.hi c.args.place A c.requires.places in let l = atoms_length c.args.atoms.now in let h = c.if-atoms-budget.false in
    let lo = to_z-of_z w32 c.args.lo c.ranges.lo in let hi = to_z-of_z w32 c.args.hi c.ranges.hi in (
      omega (arith, e, l, h),
      values_one c.args.lo c.args.hi (at_places c.in-Some.values.items) c.args.place A c.requires.places (subst (λ (z : ℤ). z ≤ℤ at_places c.in-Some.values.items c.args.place) lo f.0) (subst (λ (z : ℤ). at_places c.in-Some.values.items c.args.place ≤ℤ z) hi f.1),
      f.2,
    )

pub returns-in-None : goal.returns-in-None
returns-in-None c =
    let A = seen_atoms c.args.atoms.now in
    let f = subst (λ (r : Option _). FoundAt (to_z w32 (of_z w32 c.args.lo)) (to_z w32 (of_z w32 c.args.hi)) c.args.place A r) c.in-None.is c.in_ok-values.ensures in
    let l = atoms_length c.args.atoms.now in let h = c.if-atoms-budget.false in
    let lo = to_z-of_z w32 c.args.lo c.ranges.lo in let hi = to_z-of_z w32 c.args.hi c.ranges.hi in
    refuted_one c.args.lo c.args.hi c.args.budget c.args.place A c.requires.places (omega (arith, l, h)) (λ z a b m. f z (subst (λ (y : ℤ). y ≤ℤ z) (sym lo) a) (subst (λ (y : ℤ). z ≤ℤ y) (sym hi) b) m)
