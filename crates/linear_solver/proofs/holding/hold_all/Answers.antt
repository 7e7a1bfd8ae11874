use Rattle.std.proofs.Common.{◌≡◌, sym, subst, refl, ℕ, ℤ, ◌+◌, ◌<◌, ◌≤◌, ◌↔◌, List, drop, length, get_or}
use Rattle.cc_base.specs.Groups.{Atom, Holds, HoldAll}
use Rattle.linear_solver.specs.declared.atoms.LinearAtom.{LinearAtom}
use Rattle.linear_solver.specs.Atoms.{seen_atom, seen_atoms}
use Rattle.linear_solver.specs.Seen.{at_places}
use Rattle.linear_solver.proofs.Writing.{fit_at, atoms_drop, atoms_end}
use Rattle.linear_solver.proofs.holding.hold_all.Goals as goal

split : (v : ℕ → ℤ) (l : List LinearAtom) (k : ℕ) (a : LinearAtom) → k < length l → a ≡ get_or l k a → HoldAll v (seen_atoms (drop k l)) ↔ (Holds v (seen_atom a) × HoldAll v (seen_atoms (drop (k + 1) l)))
split v l k a h e = let q = atoms_drop l k a h e in
    ((λ m. subst (λ (t : List Atom). HoldAll v t) q m), (λ m. subst (λ (t : List Atom). HoldAll v t) (sym q) m))

none : (v : ℕ → ℤ) (l : List LinearAtom) (k : ℕ) → length l ≤ k → HoldAll v (seen_atoms (drop k l))
none v l k h = subst (λ (t : List Atom). HoldAll v t) (sym (atoms_end l k h)) tt

pub loop-a-init : goal.loop-a-init
loop-a-init c = ((λ h. h), (λ h. h))

pub holds_at-requires : goal.holds_at-requires
holds_at-requires c = fit_at c.args.atoms.now c.loop-a.a-index c.a-item.result c.requires c.loop-a-test.true c.a-item.is

pub returns-then-not-holds_at : goal.returns-then-not-holds_at
returns-then-not-holds_at c =
    let v = at_places c.args.values.now in (
      (λ e. absurd (cc e)),
      (λ m.
          let s = (split v c.args.atoms.now c.loop-a.a-index c.a-item.result c.loop-a-test.true c.a-item.is).0 (c.loop-a.invariant.0 m) in
          let t = c.holds_at.ensures.1 s.0 in let f = c.if-not-holds_at.true in absurd (cc (t, f))),
    )

pub loop-a-preserved : goal.loop-a-preserved
loop-a-preserved c =
    let v = at_places c.args.values.now in
    let s = split v c.args.atoms.now c.loop-a.a-index c.a-item.result c.loop-a-test.true c.a-item.is in
    let h = c.holds_at.ensures.0 c.if-not-holds_at.false in
    ((λ m. (s.0 (c.loop-a.invariant.0 m)).1), (λ m. c.loop-a.invariant.1 (s.1 (h, m))))

pub returns : goal.returns
returns c = ((λ e. c.loop-a.invariant.1 (none (at_places c.args.values.now) c.args.atoms.now c.loop-a.a-index c.loop-a-test.false)), (λ m. refl))
