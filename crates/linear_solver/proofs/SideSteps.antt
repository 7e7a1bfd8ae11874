-- The steps of the walk that counts sides.
use Rattle.std.proofs.Common.{◌≡◌, ◌∙◌, sym, ap, subst, refl, arith, ℕ, zero, suc, ◌+◌, ◌<◌, ◌≤◌, List, length, drop, get_or, ℤ, pos, negsuc, unsigned_abs, ◌<ℤ◌, ◌≤ℤ◌}
use Rattle.std.proofs.lemmas.Int.{ints}
use Rattle.cc_base.specs.Inequality.{coefficient}
use Rattle.linear_solver.specs.declared.inequalities.Inequality.{Inequality}
use Rattle.linear_solver.specs.declared.slack.Side.{Side}
use Rattle.linear_solver.specs.declared.slack.Side.TheVariants.{Neither, Lower, Upper}
use Rattle.linear_solver.specs.declared.slack.Sides.{Sides}
use Rattle.linear_solver.specs.Seen.{seen_all}
use Rattle.linear_solver.specs.Sides.{side, side_step, sides_from}
use Rattle.linear_solver.proofs.Loops.{seen_drop, seen_end}

pub side_none : (z : ℤ) → z ≡ pos 0 → Neither ≡ side z
unfolding side
side_none (pos zero) e = refl
side_none (pos (suc n)) e = absurd (cc e)
side_none (negsuc n) e = absurd (cc e)

pub side_lower : (z : ℤ) (n : ℕ) → z <ℤ pos 0 → n ≡ unsigned_abs z → Lower n ≡ side z
unfolding side
side_lower (pos n) m h e = absurd (omega (arith, ints, h))
side_lower (negsuc n) m h e = ap Lower e

pub side_upper : (z : ℤ) (n : ℕ) → (z ≡ pos 0 → ⊥) → pos 0 ≤ℤ z → n ≡ unsigned_abs z → Upper n ≡ side z
unfolding side
side_upper (pos zero) m n h e = absurd (n refl)
side_upper (pos (suc k)) m n h e = ap Upper e
side_upper (negsuc k) m n h e = absurd (omega (arith, ints, h))

pub sides_more : (x : ℕ) (s t : Sides) (l : List Inequality) (k : ℕ) (i : Inequality) (w : Sides) → k < length l → i ≡ get_or l k i → t ≡ side_step (side (coefficient x i.terms.items)) s →
    sides_from x s (seen_all (drop k l)) ≡ w → sides_from x t (seen_all (drop (k + 1) l)) ≡ w
unfolding sides_from
sides_more x s t l k i w h e f g =
    ap (λ (y : Sides). sides_from x y (seen_all (drop (k + 1) l))) f ∙ sym (ap (sides_from x s) (seen_drop l k i h e)) ∙ g

pub sides_end : (x : ℕ) (s w : Sides) (l : List Inequality) (k : ℕ) → length l ≤ k → sides_from x s (seen_all (drop k l)) ≡ w → s ≡ w
unfolding sides_from
sides_end x s w l k h g = sym (ap (sides_from x s) (seen_end l k h)) ∙ g

step_lowers : (c : Side) (s : Sides) (k : ℕ) → s.lowers ≤ k → (side_step c s).lowers ≤ k + 1
step_lowers Neither s k h = omega arith
step_lowers (Lower a) s k h = omega arith
step_lowers (Upper a) s k h = omega arith

step_uppers : (c : Side) (s : Sides) (k : ℕ) → s.uppers ≤ k → (side_step c s).uppers ≤ k + 1
step_uppers Neither s k h = omega arith
step_uppers (Lower a) s k h = omega arith
step_uppers (Upper a) s k h = omega arith

pub lowers_within : (c : Side) (s t : Sides) (k : ℕ) → t ≡ side_step c s → s.lowers ≤ k → t.lowers ≤ k + 1
lowers_within c s t k e h = subst (λ (y : Sides). y.lowers ≤ k + 1) (sym e) (step_lowers c s k h)

pub uppers_within : (c : Side) (s t : Sides) (k : ℕ) → t ≡ side_step c s → s.uppers ≤ k → t.uppers ≤ k + 1
uppers_within c s t k e h = subst (λ (y : Sides). y.uppers ≤ k + 1) (sym e) (step_uppers c s k h)
