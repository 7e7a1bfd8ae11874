use Rattle.std.proofs.Common.{◌≡◌, ◌∙◌, sym, ap, ap₂, subst, arith, ℕ, ℤ, pos, ◌+ℤ◌, ◌≤ℤ◌, ◌≤◌, ◌<◌, ◌+◌, ◌*◌, ◌^◌, length, vec_len, SFits, inl, inr}
use Rattle.std.proofs.lemmas.Int.{to_z-of_z, ints}
use Rattle.std.proofs.lemmas.Bool.{cases_lt}
use mir.Syntax.{w32}
use Rattle.cc_base.specs.Need.{width}
use Rattle.linear_solver.specs.Atoms.{seen_atoms}
use Rattle.linear_solver.proofs.FirstList.{atoms_length}
use Rattle.linear_solver.proofs.Settling.{box_is, width_positive, width_small}
use Rattle.linear_solver.proofs.group.settle.Goals as goal

top : (z : ℤ) → SFits w32 z → z ≤ℤ pos 2147483647
top z f = let s = f.sfits in omega (arith, ints, s)

bottom : (z : ℤ) → SFits w32 z → pos 0 ≤ℤ (z +ℤ pos 2147483648)
bottom z f = let s = f.sfits in omega (arith, ints, s)

pub is_within-requires-clause-positive : goal.is_within-requires-clause-positive
is_within-requires-clause-positive c = subst (λ (n : ℕ). 0 < n) (sym c.width_of.ensures) (width_positive _ _)

pub is_within-requires-clause-width : goal.is_within-requires-clause-width
is_within-requires-clause-width c =
    let w : c.width_of.result ≡ width c.args.lo c.args.hi = c.width_of.ensures ∙ ap₂ width (to_z-of_z w32 c.args.lo c.ranges.lo) (to_z-of_z w32 c.args.hi c.ranges.hi) in
    subst (λ (n : ℕ). n ≤ 2 ^ 32) (sym w) (width_small c.args.lo c.args.hi c.requires.order (bottom c.args.lo c.ranges.lo) (top c.args.hi c.ranges.hi))

pub settle_box-requires-clause-within : goal.settle_box-requires-clause-within
settle_box-requires-clause-within c =
    let A = seen_atoms c.args.atoms.now in let n = atoms_length c.args.atoms.now in let l = c.in_ok-places.places.ok.0 in
    let e = box_is _ _ A (length c.args.atoms.now + 1) c.width_of.result c.len-2.result (omega (arith, n)) c.width_of.ensures (c.len-2.ensures ∙ (let q : vec_len c.in_ok-places.places ≡ length c.in_ok-places.places.items = omega (arith, l) in q) ∙ ap length c.in_ok-places.ensures) in
    subst (λ (m : ℕ). m ≤ c.args.budget) e (c.is_within.ensures.0 c.if-is_within.true)

pub settle_by_elimination-requires-clause-beyond : goal.settle_by_elimination-requires-clause-beyond
settle_by_elimination-requires-clause-beyond c =
    let A = seen_atoms c.args.atoms.now in let n = atoms_length c.args.atoms.now in let l = c.in_ok-places.places.ok.0 in
    let e = box_is _ _ A (length c.args.atoms.now + 1) c.width_of.result c.len-2.result (omega (arith, n)) c.width_of.ensures (c.len-2.ensures ∙ (let q : vec_len c.in_ok-places.places ≡ length c.in_ok-places.places.items = omega (arith, l) in q) ∙ ap length c.in_ok-places.ensures) in
    subst (λ (m : ℕ). c.args.budget < m) e (elim (cases_lt c.args.budget ((length c.args.atoms.now + 1) * c.width_of.result ^ c.len-2.result)) [
      | inl h ↦ h
      | inr h ↦ absurd (let t = c.is_within.ensures.1 h in let f = c.if-is_within.false in cc (t, f))
    ])
