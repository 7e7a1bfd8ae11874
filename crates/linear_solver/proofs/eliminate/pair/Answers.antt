use Rattle.std.proofs.Common.{◌≡◌, ◌∙◌, ap₂, rules, arith, ℕ, ℤ, pos, ◌+ℤ◌, ◌-ℤ◌, ◌*ℤ◌, ◌^◌, ◌≤◌, List, SFits, to_z, of_z}
use Rattle.std.proofs.lemmas.Int.{to_z-of_z, to_z_pos}
use mir.Syntax.{w128}
use Rattle.cc_base.specs.declared.forms.Multiple.{Multiple}
use Rattle.cc_base.specs.Inequality.{merge, scaled}
use Rattle.cc_base.specs.Pass.{dark_part}
use Rattle.linear_solver.specs.Seen.{seen}
use Rattle.linear_solver.proofs.Pairing.{pair_is}
use Rattle.linear_solver.proofs.eliminate.pair.Goals as goal

wide_factor : (a : ℕ) → a ≤ 2 ^ 44 → to_z w128 a ≡ pos a
wide_factor a h = to_z_pos w128 a (omega (arith, h))

pub returns : goal.returns
returns c =
    let f : SFits w128 c.pair_most.result = search rules in
    let fl : SFits w128 c.args.lower.now.most = search rules in
    let fu : SFits w128 c.args.upper.now.most = search rules in
    let A = wide_factor c.args.a c.requires.lower_factor in let C = wide_factor c.args.c c.requires.upper_factor in
    pair_is c.args.mode c.args.place (seen c.args.lower.now) (seen c.args.upper.now) c.args.a c.args.c c.in_ok-merge_of.field-0.items (to_z w128 (of_z w128 c.pair_most.result))
    c.requires.below c.requires.above
    (c.in_ok-merge_of.ensures ∙ ap₂ (λ (x y : List Multiple). merge (scaled (to_z w128 c.args.c) x) (scaled (to_z w128 c.args.a) y)) c.deref.ensures.value c.deref-2.ensures.value
    ∙ ap₂ (λ (x y : ℤ). merge (scaled x c.args.lower.now.terms.items) (scaled y c.args.upper.now.terms.items)) C A)
    (to_z-of_z w128 c.pair_most.result f ∙ c.pair_most.ensures
    ∙ ap₂ (λ (x y : ℤ). ((pos c.args.c *ℤ x) +ℤ (pos c.args.a *ℤ y)) -ℤ pos (dark_part c.args.mode c.args.a c.args.c)) (to_z-of_z w128 c.args.lower.now.most fl) (to_z-of_z w128 c.args.upper.now.most fu))
