use Rattle.std.proofs.Common.{◌≡◌, ◌∙◌, sym, ap, ap₂, subst, rules, arith, ℕ, ℤ, pos, negsuc, ◌+ℤ◌, ◌≤ℤ◌, ◌≤◌, ◌<◌, ◌^◌, unsigned_abs, SFits, FitsSigned, to_z, of_z}
use Rattle.std.proofs.lemmas.Int.{to_z-of_z, to_z_pos, ints}
use mir.Syntax.{w128}
use Rattle.cc_base.specs.Inequality.{coefficient}
use Rattle.linear_solver.specs.Atoms.{seen_form}
use Rattle.linear_solver.proofs.Ranking.{coefficient_bound}
use Rattle.linear_solver.proofs.Spanning.{excluded_by}
use Rattle.linear_solver.proofs.Writing.{wider}
use Rattle.linear_solver.proofs.one_place.excluded.Goals as goal

pub is_root-requires-clause-coefficient : goal.is_root-requires-clause-coefficient
is_root-requires-clause-coefficient c =
    let f : SFits w128 c.coefficient_of-c.result = search rules in
    let e = to_z-of_z w128 c.coefficient_of-c.result f ∙ c.coefficient_of-c.ensures ∙ ap (coefficient c.args.place) c.deref.ensures.value in
    subst (λ (z : ℤ). unsigned_abs z ≤ 2 ^ 44) (sym e) (coefficient_bound (2 ^ 44) 0 c.args.place c.args.a.now.terms.items c.requires.fit.ordered (wider c.args.a.now.terms.items c.requires.fit.terms))

number_is : (l : ℤ) (n : ℕ) → SFits w128 l → n < 2 ^ 64 → negsuc 2147483647 ≤ℤ l → l ≤ℤ pos 2147483647 → to_z w128 (of_z w128 (to_z w128 (of_z w128 l) +ℤ to_z w128 n)) ≡ l +ℤ pos n
number_is l n f h a b =
    ap (λ (z : ℤ). to_z w128 (of_z w128 z)) (ap₂ (λ (x y : ℤ). x +ℤ y) (to_z-of_z w128 l f) (to_z_pos w128 n (omega (arith, h))))
    ∙ to_z-of_z w128 (l +ℤ pos n) (let s : FitsSigned w128 (l +ℤ pos n) = omega (arith, ints, h, a, b) in s)

pub returns-then-is_root : goal.returns-then-is_root
returns-then-is_root c =
    let f : SFits w128 c.coefficient_of-c.result = search rules in let g : SFits w128 c.args.a.now.constant = search rules in
    let d = c.in_ok-far-in-NotZero.ensures in let l = c.requires.len in (
      d,
      λ m. excluded_by c.args.place c.args.a.now.sign (seen_form c.args.a.now) (c.args.low +ℤ pos c.in_ok-far-in-NotZero.far) _ _ _ c.requires.only c.in-NotZero.is
          (to_z-of_z w128 c.coefficient_of-c.result f ∙ c.coefficient_of-c.ensures ∙ ap (coefficient c.args.place) c.deref.ensures.value)
          (number_is c.args.low c.in_ok-far-in-NotZero.far c.ranges.low (omega (arith, d, l)) c.requires.low_least c.requires.low_most)
          (to_z-of_z w128 c.args.a.now.constant g) (c.is_root.ensures.0 c.if-is_root.true) m,
    )
