use Rattle.std.proofs.Common.{◌≡◌, ◌∙◌, ap, arith, ℕ, ◌*◌, ◌^◌}
use native.Mathlib.Nat.{mul-le-mul}
use borrow.Author.Tests.{leb-true, le-leb}
use Rattle.linear_solver.proofs.Powers.{power_none, power_more, beyond_power}
use Rattle.linear_solver.proofs.box_search.is_within.Goals as goal

pub loop-init : goal.loop-init
loop-init c = record { same = power_none c.args.count c.args.width; small = let h = c.ranges.count.fits in omega (arith, h) }

pub returns-then-work-budget : goal.returns-then-work-budget
returns-then-work-budget c = ((λ e. absurd (cc e)), (λ m. absurd (beyond_power c.args.count c.args.width c.loop.counter c.args.n c.args.budget c.loop.work c.requires.positive (omega arith) c.loop.invariant.same c.if-work-budget.true m)))

pub loop-preserved : goal.loop-preserved
loop-preserved c = record {
  same = ap (λ (x : ℕ). x * c.args.width) c.loop.invariant.same ∙ power_more c.args.count c.args.width c.loop.counter;
  small = let p = mul-le-mul c.if-work-budget.false c.requires.width in let b = c.ranges.budget.fits in omega (arith, p, b);
}

pub returns : goal.returns
returns c =
    let e : c.loop.counter ≡ c.args.n = omega arith in
    let s : c.loop.work ≡ c.args.count * c.args.width ^ c.args.n = c.loop.invariant.same ∙ ap (λ (j : ℕ). c.args.count * c.args.width ^ j) e in
    ((λ t. let h = leb-true c.loop.work c.args.budget t in omega (arith, s, h)), (λ m. le-leb c.loop.work c.args.budget (omega (arith, s, m))))
