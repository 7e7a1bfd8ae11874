use Rattle.std.proofs.Common.{◌≡◌, ◌∙◌, sym, ap, subst, arith, List, [], ◌∷◌, ◌++◌, ◌^◌}
use Rattle.cc_base.specs.Inequality as plain
use Rattle.cc_base.specs.Inequality.{coefficient}
use Rattle.cc_base.specs.declared.forms.Multiple.{Multiple}
use Rattle.cc_base.specs.Pass.{all_paired, lowers, uppers}
use Rattle.linear_solver.specs.declared.slack.Side.TheVariants.{Neither, Lower}
use Rattle.linear_solver.specs.Ordered.{Ordered}
use Rattle.linear_solver.specs.Seen.{seen, seen_all}
use Rattle.linear_solver.specs.Sides.{side}
use Rattle.linear_solver.proofs.Ranking.{coefficient_bound, below_bound, upper_side, lower_side, neither_side}
use Rattle.linear_solver.proofs.Pairing.{its_pairs, no_pairs, nothing_added}
use Rattle.linear_solver.proofs.eliminate.add_pairs.Goals as goal

pub side_of-requires : goal.side_of-requires
side_of-requires c = subst (λ (y : List Multiple). Ordered 0 y) (sym c.deref.ensures.value) c.requires.one.ordered

pub pair_with-requires-clause-factor : goal.pair_with-requires-clause-factor
pair_with-requires-clause-factor c =
    let z = coefficient c.args.place c.args.i.now.terms.items in
    let e : Lower c.in-Lower.a ≡ side z = c.in-Lower.ensures ∙ ap (λ (l : List Multiple). side (coefficient c.args.place l)) c.deref.ensures.value in
    let s = lower_side z c.in-Lower.a e in let s0 = s.0 in
    let b = below_bound z (2 ^ 44) (coefficient_bound (2 ^ 44) 0 c.args.place c.args.i.now.terms.items c.requires.one.ordered c.requires.one.terms) in
    omega (arith, s0, b)

pub pair_with-requires-clause-below : goal.pair_with-requires-clause-below
pair_with-requires-clause-below c =
    let z = coefficient c.args.place c.args.i.now.terms.items in
    let e : Lower c.in-Lower.a ≡ side z = c.in-Lower.ensures ∙ ap (λ (l : List Multiple). side (coefficient c.args.place l)) c.deref.ensures.value in
    (lower_side z c.in-Lower.a e).0

pub returns-in_ok-pair_with-in-Lower : goal.returns-in_ok-pair_with-in-Lower
returns-in_ok-pair_with-in-Lower c =
    let z = coefficient c.args.place c.args.i.now.terms.items in
    let e : Lower c.in-Lower.a ≡ side z = c.in-Lower.ensures ∙ ap (λ (l : List Multiple). side (coefficient c.args.place l)) c.deref.ensures.value in
    let s = lower_side z c.in-Lower.a e in let s0 = s.0 in let s1 = s.1 in
    c.in_ok-pair_with-in-Lower.ensures ∙ ap (λ (m : List plain.Inequality). seen_all c.args.out.now.items ++ m) (its_pairs c.args.mode c.args.place (seen c.args.i.now) (uppers c.args.place (seen_all c.args.list.now)) (omega (arith, s0, s1)))

pub returns-in-Neither : goal.returns-in-Neither
returns-in-Neither c =
    let z = coefficient c.args.place c.args.i.now.terms.items in
    let e : Neither ≡ side z = c.in-Neither.ensures ∙ ap (λ (l : List Multiple). side (coefficient c.args.place l)) c.deref.ensures.value in
    nothing_added (seen_all c.args.out.now.items) (all_paired c.args.mode c.args.place (lowers c.args.place (seen c.args.i.now ∷ [])) (uppers c.args.place (seen_all c.args.list.now)))
    (no_pairs c.args.mode c.args.place (seen c.args.i.now) (uppers c.args.place (seen_all c.args.list.now)) (neither_side z e).0)

pub returns-in-Upper : goal.returns-in-Upper
returns-in-Upper c =
    let z = coefficient c.args.place c.args.i.now.terms.items in
    let e = c.in-Upper.ensures ∙ ap (λ (l : List Multiple). side (coefficient c.args.place l)) c.deref.ensures.value in
    nothing_added (seen_all c.args.out.now.items) (all_paired c.args.mode c.args.place (lowers c.args.place (seen c.args.i.now ∷ [])) (uppers c.args.place (seen_all c.args.list.now)))
    (no_pairs c.args.mode c.args.place (seen c.args.i.now) (uppers c.args.place (seen_all c.args.list.now)) (upper_side z _ e).2)
