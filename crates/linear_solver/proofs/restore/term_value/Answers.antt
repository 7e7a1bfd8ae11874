use Rattle.std.proofs.Common.{◌≡◌, ◌∙◌, sym, ap, ap₂, subst, rules, SFits, FitsSigned, ℤ, pos, ◌*ℤ◌, ◌≤◌, ◌^◌, unsigned_abs, to_z, of_z, arith}
use Rattle.std.proofs.lemmas.Int.{to_z-of_z, ints}
use mir.Syntax.{w32, w128}
use Rattle.linear_solver.specs.Seen.{at_places}
use Rattle.linear_solver.proofs.Evaluation.{changed_same, changed_other, zero_term, term_bound, fits_term, value_small}
use Rattle.linear_solver.proofs.restore.term_value.Goals as goal

wide : (z : ℤ) → SFits w32 z → SFits w128 z
wide z f = let s = value_small z f in (let g : FitsSigned w128 z = omega (arith, ints, s) in g)

unwrapped : (k z : ℤ) → SFits w128 k → SFits w32 z → unsigned_abs k ≤ 2 ^ 44 → to_z w128 (of_z w128 (to_z w128 (of_z w128 k) *ℤ to_z w128 (of_z w128 (to_z w32 (of_z w32 z))))) ≡ k *ℤ z
unwrapped k z f g h =
    ap (λ (y : ℤ). to_z w128 (of_z w128 y)) (ap₂ (λ (a b : ℤ). a *ℤ b) (to_z-of_z w128 k f) (ap (λ (y : ℤ). to_z w128 (of_z w128 y)) (to_z-of_z w32 z g) ∙ to_z-of_z w128 z (wide z g)))
    ∙ to_z-of_z w128 (k *ℤ z) (fits_term (k *ℤ z) (term_bound k z h (value_small z g)))

pub returns-then-t-place-clause-value : goal.returns-then-t-place-clause-value
returns-then-t-place-clause-value c = zero_term c.args.t.coefficient _ (changed_same (at_places c.args.values.now) c.args.place c.args.t.place (pos 0) c.if-t-place.true)

pub returns-else-t-place-clause-value : goal.returns-else-t-place-clause-value
returns-else-t-place-clause-value c =
    let f : SFits w128 c.args.t.coefficient = search rules in let g : SFits w32 c.value_at.result = search rules in
    unwrapped c.args.t.coefficient c.value_at.result f g c.requires
    ∙ ap (λ (z : ℤ). c.args.t.coefficient *ℤ z) (c.value_at.ensures ∙ sym (changed_other (at_places c.args.values.now) c.args.place c.args.t.place (pos 0) c.if-t-place.false))

pub returns-else-t-place-clause-bound : goal.returns-else-t-place-clause-bound
returns-else-t-place-clause-bound c =
    let f : SFits w128 c.args.t.coefficient = search rules in let g : SFits w32 c.value_at.result = search rules in
    subst (λ (z : ℤ). unsigned_abs z ≤ 2 ^ 75) (sym (unwrapped c.args.t.coefficient c.value_at.result f g c.requires)) (term_bound c.args.t.coefficient c.value_at.result c.requires (value_small c.value_at.result g))
