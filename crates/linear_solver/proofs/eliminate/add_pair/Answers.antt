use Rattle.std.proofs.Common.{◌≡◌, ◌∙◌, sym, ap, subst, arith, List, [], ◌∷◌, ◌++◌, ◌^◌}
use Rattle.cc_base.specs.Inequality as plain
use Rattle.cc_base.specs.Inequality.{coefficient}
use Rattle.cc_base.specs.declared.forms.Multiple.{Multiple}
use Rattle.cc_base.specs.Pass.{paired_with, uppers}
use Rattle.linear_solver.specs.declared.slack.Side.TheVariants.{Neither, Upper}
use Rattle.linear_solver.specs.Ordered.{Ordered}
use Rattle.linear_solver.specs.Seen.{seen, seen_all}
use Rattle.linear_solver.specs.Sides.{side}
use Rattle.linear_solver.proofs.Loops.{seen_push}
use Rattle.linear_solver.proofs.Ranking.{coefficient_bound, above_bound, upper_side, lower_side, neither_side}
use Rattle.linear_solver.proofs.Pairing.{one_pair, no_pair, nothing_added}
use Rattle.linear_solver.proofs.eliminate.add_pair.Goals as goal

pub side_of-requires : goal.side_of-requires
side_of-requires c = subst (λ (y : List Multiple). Ordered 0 y) (sym c.deref.ensures.value) c.requires.other.ordered

pub pair-requires-clause-upper_factor : goal.pair-requires-clause-upper_factor
pair-requires-clause-upper_factor c =
    let z = coefficient c.args.place c.args.other.now.terms.items in
    let e : Upper c.in-Upper.c ≡ side z = c.in-Upper.ensures ∙ ap (λ (l : List Multiple). side (coefficient c.args.place l)) c.deref.ensures.value in
    let s = upper_side z c.in-Upper.c e in let s0 = s.0 in
    let b = above_bound z (2 ^ 44) (coefficient_bound (2 ^ 44) 0 c.args.place c.args.other.now.terms.items c.requires.other.ordered c.requires.other.terms) in
    omega (arith, s0, b)

pub pair-requires-clause-above : goal.pair-requires-clause-above
pair-requires-clause-above c =
    let z = coefficient c.args.place c.args.other.now.terms.items in
    let e : Upper c.in-Upper.c ≡ side z = c.in-Upper.ensures ∙ ap (λ (l : List Multiple). side (coefficient c.args.place l)) c.deref.ensures.value in
    (upper_side z c.in-Upper.c e).0

pub returns-in_ok-push-in-Upper : goal.returns-in_ok-push-in-Upper
returns-in_ok-push-in-Upper c =
    let z = coefficient c.args.place c.args.other.now.terms.items in
    let e : Upper c.in-Upper.c ≡ side z = c.in-Upper.ensures ∙ ap (λ (l : List Multiple). side (coefficient c.args.place l)) c.deref.ensures.value in
    let s = upper_side z c.in-Upper.c e in let s0 = s.0 in let s1 = s.1 in
    ap seen_all c.in_ok-push-in-Upper.ensures.items ∙ seen_push c.args.out.now.items c.in_ok-pair-in-Upper.field-0
    ∙ ap (λ (y : plain.Inequality). seen_all c.args.out.now.items ++ (y ∷ [])) c.in_ok-pair-in-Upper.ensures
    ∙ ap (λ (m : List plain.Inequality). seen_all c.args.out.now.items ++ m) (one_pair c.args.mode c.args.place (seen c.args.lower.now) (seen c.args.other.now) (omega (arith, s0, s1)))

pub returns-in-Neither : goal.returns-in-Neither
returns-in-Neither c =
    let z = coefficient c.args.place c.args.other.now.terms.items in
    let e : Neither ≡ side z = c.in-Neither.ensures ∙ ap (λ (l : List Multiple). side (coefficient c.args.place l)) c.deref.ensures.value in
    nothing_added (seen_all c.args.out.now.items) (paired_with c.args.mode c.args.place (seen c.args.lower.now) (uppers c.args.place (seen c.args.other.now ∷ [])))
    (no_pair c.args.mode c.args.place (seen c.args.lower.now) (seen c.args.other.now) (neither_side z e).1)

pub returns-in-Lower : goal.returns-in-Lower
returns-in-Lower c =
    let z = coefficient c.args.place c.args.other.now.terms.items in
    let e = c.in-Lower.ensures ∙ ap (λ (l : List Multiple). side (coefficient c.args.place l)) c.deref.ensures.value in
    nothing_added (seen_all c.args.out.now.items) (paired_with c.args.mode c.args.place (seen c.args.lower.now) (uppers c.args.place (seen c.args.other.now ∷ [])))
    (no_pair c.args.mode c.args.place (seen c.args.lower.now) (seen c.args.other.now) (lower_side z _ e).2)
