use Rattle.std.proofs.Common.{◌≡◌, ◌∙◌, sym, ap, subst, arith, List, [], ◌∷◌, ◌++◌}
use Rattle.cc_base.specs.Inequality as plain
use Rattle.cc_base.specs.Inequality.{coefficient}
use Rattle.cc_base.specs.declared.forms.Multiple.{Multiple}
use Rattle.cc_base.specs.Pass.{others}
use Rattle.linear_solver.specs.declared.slack.Side.TheVariants.{Neither}
use Rattle.linear_solver.specs.Ordered.{Ordered}
use Rattle.linear_solver.specs.Seen.{seen, seen_all}
use Rattle.linear_solver.specs.Sides.{side}
use Rattle.linear_solver.proofs.Loops.{seen_push}
use Rattle.linear_solver.proofs.Ranking.{upper_side, lower_side, neither_side}
use Rattle.linear_solver.proofs.Pairing.{one_other, lower_no_other, upper_no_other, nothing_added}
use Rattle.linear_solver.proofs.eliminate.add_other.Goals as goal

pub side_of-requires : goal.side_of-requires
side_of-requires c = subst (λ (y : List Multiple). Ordered 0 y) (sym c.deref.ensures.value) c.requires.ordered

pub returns-in_ok-push-in-Neither : goal.returns-in_ok-push-in-Neither
returns-in_ok-push-in-Neither c =
    let z = coefficient c.args.place c.args.i.now.terms.items in
    let e : Neither ≡ side z = c.in-Neither.ensures ∙ ap (λ (l : List Multiple). side (coefficient c.args.place l)) c.deref.ensures.value in
    let s = neither_side z e in
    ap seen_all c.in_ok-push-in-Neither.ensures.items ∙ seen_push c.args.out.now.items c.in_ok-copy_of-in-Neither.field-0
    ∙ ap (λ (y : plain.Inequality). seen_all c.args.out.now.items ++ (y ∷ [])) c.in_ok-copy_of-in-Neither.ensures
    ∙ ap (λ (m : List plain.Inequality). seen_all c.args.out.now.items ++ m) (one_other c.args.place (seen c.args.i.now) s.0 s.1)

pub returns-in-Lower : goal.returns-in-Lower
returns-in-Lower c =
    let z = coefficient c.args.place c.args.i.now.terms.items in
    let e = c.in-Lower.ensures ∙ ap (λ (l : List Multiple). side (coefficient c.args.place l)) c.deref.ensures.value in
    let s = lower_side z _ e in let s0 = s.0 in let s1 = s.1 in
    nothing_added (seen_all c.args.out.now.items) (others c.args.place (seen c.args.i.now ∷ [])) (lower_no_other c.args.place (seen c.args.i.now) (omega (arith, s0, s1)))

pub returns-in-Upper : goal.returns-in-Upper
returns-in-Upper c =
    let z = coefficient c.args.place c.args.i.now.terms.items in
    let e = c.in-Upper.ensures ∙ ap (λ (l : List Multiple). side (coefficient c.args.place l)) c.deref.ensures.value in
    let s = upper_side z _ e in let s0 = s.0 in let s1 = s.1 in
    nothing_added (seen_all c.args.out.now.items) (others c.args.place (seen c.args.i.now ∷ [])) (upper_no_other c.args.place (seen c.args.i.now) (omega (arith, s0, s1)))
