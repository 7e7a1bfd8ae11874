use Rattle.std.proofs.Common.{◌≡◌, ◌∙◌, ap, arith, ℕ, ◌+◌, ◌*◌, ◌^◌, ◌<◌, ◌≤◌}
use Rattle.linear_solver.proofs.Powers.{power_none, power_more, grows}
use Rattle.linear_solver.proofs.box_search.power.Goals as goal

pub loop-init : goal.loop-init
loop-init c = power_none 1 c.args.width

next : (w k n b v : ℕ) → 0 < w → k < n → w ^ n ≤ b → v ≡ 1 * w ^ k → v * w ≤ b
next w k n b v h l m e =
    let g = grows w (k + 1) n h (let i : k + 1 ≤ n = omega arith in i) in let p = ap (λ (x : ℕ). x * w) e ∙ power_more 1 w k in
    let q : 1 * w ^ (k + 1) ≡ w ^ (k + 1) = omega arith in omega (arith, g, p, q, m)

pub overflow_mul-work : goal.overflow_mul-work
overflow_mul-work c = let h = next c.args.width c.loop.counter c.args.n c.args.budget c.loop.work c.requires.positive c.loop-test.true c.requires.within c.loop.invariant in let b = c.ranges.budget.fits in record { fits = omega (arith, h, b) }

pub loop-preserved : goal.loop-preserved
loop-preserved c = ap (λ (x : ℕ). x * c.args.width) c.loop.invariant ∙ power_more 1 c.args.width c.loop.counter

pub returns : goal.returns
returns c = let e : c.loop.counter ≡ c.args.n = omega arith in let q : 1 * c.args.width ^ c.loop.counter ≡ c.args.width ^ c.loop.counter = omega arith in c.loop.invariant ∙ q ∙ ap (λ (j : ℕ). c.args.width ^ j) e
