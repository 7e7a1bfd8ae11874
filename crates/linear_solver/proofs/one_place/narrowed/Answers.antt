use Rattle.std.proofs.Common.{◌≡◌, ◌∙◌, sym, ap, ap₂, subst, rules, arith, ℕ, ℤ, pos, neg_ℤ, ◌-ℤ◌, ◌<ℤ◌, ◌≤ℤ◌, ◌≤◌, ◌^◌, unsigned_abs, SFits, FitsSigned, to_z, of_z}
use Rattle.std.proofs.lemmas.Int.{to_z-of_z, ints}
use mir.Syntax.{w128}
use Rattle.cc_base.specs.Inequality.{floor}
use Rattle.linear_solver.proofs.Pairing.{floor_less}
use Rattle.linear_solver.proofs.Spanning.{narrow_up, narrow_down, narrow_none}
use Rattle.linear_solver.proofs.one_place.narrowed.Goals as goal

fits_neg : (k : ℤ) → unsigned_abs k ≤ 2 ^ 80 → FitsSigned w128 (pos 0 -ℤ k)
fits_neg k h = omega (arith, ints, h)

neg_is : (z : ℤ) → pos 0 -ℤ z ≡ neg_ℤ z
neg_is z = omega (arith, ints)

negative : (k : ℤ) → SFits w128 k → unsigned_abs k ≤ 2 ^ 80 → to_z w128 (of_z w128 (pos 0 -ℤ to_z w128 (of_z w128 k))) ≡ neg_ℤ k
negative k f h = ap (λ (z : ℤ). to_z w128 (of_z w128 (pos 0 -ℤ z))) (to_z-of_z w128 k f) ∙ to_z-of_z w128 (pos 0 -ℤ k) (fits_neg k h) ∙ neg_is k

abs_neg : (c : ℤ) → unsigned_abs (neg_ℤ c) ≡ unsigned_abs c
abs_neg c = omega (arith, ints)

wider : (c : ℤ) → unsigned_abs c ≤ 2 ^ 44 → unsigned_abs c ≤ 2 ^ 80
wider c h = omega (arith, h)

small : (r k : ℤ) (a : ℕ) → r ≡ floor (neg_ℤ k) a → unsigned_abs k ≤ 2 ^ 80 → unsigned_abs r ≤ 2 ^ 80
small r k a e h = let l = floor_less (neg_ℤ k) a in let n = abs_neg k in subst (λ (y : ℤ). unsigned_abs y ≤ 2 ^ 80) (sym e) (omega (arith, l, n, h))

positive : (c : ℤ) → SFits w128 c → pos 0 <ℤ to_z w128 (of_z w128 c) → pos 0 <ℤ c
positive c f h = subst (λ (z : ℤ). pos 0 <ℤ z) (to_z-of_z w128 c f) h

below : (c : ℤ) → SFits w128 c → to_z w128 (of_z w128 c) <ℤ pos 0 → c <ℤ pos 0
below c f h = subst (λ (z : ℤ). z <ℤ pos 0) (to_z-of_z w128 c f) h

nothing : (c : ℤ) → SFits w128 c → to_z w128 (of_z w128 c) ≤ℤ pos 0 → pos 0 ≤ℤ to_z w128 (of_z w128 c) → c ≡ pos 0
nothing c f h i = sym (to_z-of_z w128 c f) ∙ (omega (arith, ints, h, i))

pub returns-then-c-gt0 : goal.returns-then-c-gt0
returns-then-c-gt0 c =
    let g : SFits w128 c.floor_of.result = search rules in
    let e : c.floor_of.result ≡ floor (neg_ℤ c.args.k) (unsigned_abs c.args.c) = c.floor_of.ensures ∙ ap₂ floor (negative c.args.k c.ranges.k c.requires.constant) (ap unsigned_abs (to_z-of_z w128 c.args.c c.ranges.c)) in
    let h : pos 0 <ℤ to_z w128 (of_z w128 c.args.c) = omega (arith, ints, c.if-c-gt0.true) in
    narrow_up c.args.span c.ended_at.result c.args.c c.args.k (to_z w128 (of_z w128 c.floor_of.result)) (positive c.args.c c.ranges.c h) (to_z-of_z w128 c.floor_of.result g ∙ e) c.ended_at.ensures

pub overflow_sub-floor_of : goal.overflow_sub-floor_of
overflow_sub-floor_of c =
    let g : SFits w128 c.floor_of-then-c-lt0.result = search rules in
    let e : c.floor_of-then-c-lt0.result ≡ floor (neg_ℤ c.args.k) (unsigned_abs c.args.c) = c.floor_of-then-c-lt0.ensures ∙ ap₂ floor (negative c.args.k c.ranges.k c.requires.constant) (ap unsigned_abs (negative c.args.c c.ranges.c (wider c.args.c c.requires.coefficient)) ∙ abs_neg c.args.c) in
    subst (λ (z : ℤ). SFits w128 (pos 0 -ℤ z)) (sym (to_z-of_z w128 c.floor_of-then-c-lt0.result g)) (fits_neg c.floor_of-then-c-lt0.result (small c.floor_of-then-c-lt0.result c.args.k (unsigned_abs c.args.c) e c.requires.constant))

pub returns-then-c-lt0 : goal.returns-then-c-lt0
returns-then-c-lt0 c =
    let g : SFits w128 c.floor_of-then-c-lt0.result = search rules in
    let e : c.floor_of-then-c-lt0.result ≡ floor (neg_ℤ c.args.k) (unsigned_abs c.args.c) = c.floor_of-then-c-lt0.ensures ∙ ap₂ floor (negative c.args.k c.ranges.k c.requires.constant) (ap unsigned_abs (negative c.args.c c.ranges.c (wider c.args.c c.requires.coefficient)) ∙ abs_neg c.args.c) in
    let h : to_z w128 (of_z w128 c.args.c) <ℤ pos 0 = omega (arith, ints, c.if-c-lt0.true) in
    narrow_down c.args.span c.begun_at.result c.args.c c.args.k _ (below c.args.c c.ranges.c h)
    (negative c.floor_of-then-c-lt0.result g (small c.floor_of-then-c-lt0.result c.args.k (unsigned_abs c.args.c) e c.requires.constant) ∙ ap neg_ℤ e) c.begun_at.ensures

pub returns-then-k-gt0 : goal.returns-then-k-gt0
returns-then-k-gt0 c =
    let h : to_z w128 (of_z w128 c.args.c) ≤ℤ pos 0 = omega (arith, ints, c.if-c-gt0.false) in
    let i : pos 0 ≤ℤ to_z w128 (of_z w128 c.args.c) = omega (arith, ints, c.if-c-lt0.false) in
    let j : pos 0 <ℤ to_z w128 (of_z w128 c.args.k) = omega (arith, ints, c.if-k-gt0.true) in
    narrow_none c.args.span c.begun_at-then-k-gt0.result c.ended_at-then-k-gt0.result c.args.c c.args.k (nothing c.args.c c.ranges.c h i) (positive c.args.k c.ranges.k j)
    c.begun_at-then-k-gt0.ensures.low c.begun_at-then-k-gt0.ensures.high c.ended_at-then-k-gt0.ensures.low c.ended_at-then-k-gt0.ensures.high
