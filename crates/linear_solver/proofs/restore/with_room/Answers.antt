use Rattle.std.proofs.Common.{◌≡◌, ◌∙◌, sym, ap, subst, rules, arith, ℤ, ◌^◌, List, Option, neg_ℤ, SFits}
use mir.Syntax.{w128}
use Rattle.std.proofs.lemmas.Int.{to_z-of_z}
use Rattle.cc_base.specs.Inequality.{coefficient, floor}
use Rattle.cc_base.specs.declared.forms.Multiple.{Multiple}
use Rattle.cc_base.specs.Witness.{left}
use Rattle.linear_solver.specs.declared.restore.Room.{Room}
use Rattle.linear_solver.specs.declared.slack.Side.{Side}
use Rattle.linear_solver.specs.declared.slack.Side.TheVariants.{Neither, Lower, Upper}
use Rattle.linear_solver.specs.Ordered.{Ordered}
use Rattle.linear_solver.specs.Seen.{seen, at_places}
use Rattle.linear_solver.specs.Sides.{side}
use Rattle.linear_solver.specs.Trail.{room_step, with_low, with_high}
use Rattle.linear_solver.proofs.Ranking.{coefficient_bound, below_bound, above_bound, upper_side, lower_side}
use Rattle.linear_solver.proofs.restore.with_room.Goals as goal

pub side_of-requires : goal.side_of-requires
side_of-requires c = subst (λ (y : List Multiple). Ordered 0 y) (sym c.deref.ensures.value) c.requires.ordered

pub least_by-requires-clause-factor : goal.least_by-requires-clause-factor
least_by-requires-clause-factor c =
    let z = coefficient c.args.place c.args.i.now.terms.items in
    let e : Lower c.in-Lower.a ≡ side z = c.in-Lower.ensures ∙ ap (λ (l : List Multiple). side (coefficient c.args.place l)) c.deref.ensures.value in
    let s = lower_side z c.in-Lower.a e in let s0 = s.0 in
    let b = below_bound z (2 ^ 44) (coefficient_bound (2 ^ 44) 0 c.args.place c.args.i.now.terms.items c.requires.ordered c.requires.terms) in
    omega (arith, s0, b)

pub least_by-requires-clause-positive : goal.least_by-requires-clause-positive
least_by-requires-clause-positive c =
    let z = coefficient c.args.place c.args.i.now.terms.items in
    let e : Lower c.in-Lower.a ≡ side z = c.in-Lower.ensures ∙ ap (λ (l : List Multiple). side (coefficient c.args.place l)) c.deref.ensures.value in
    (lower_side z c.in-Lower.a e).1

pub most_by-requires-clause-factor : goal.most_by-requires-clause-factor
most_by-requires-clause-factor c =
    let z = coefficient c.args.place c.args.i.now.terms.items in
    let e : Upper c.in-Upper.c ≡ side z = c.in-Upper.ensures ∙ ap (λ (l : List Multiple). side (coefficient c.args.place l)) c.deref.ensures.value in
    let s = upper_side z c.in-Upper.c e in let s0 = s.0 in
    let b = above_bound z (2 ^ 44) (coefficient_bound (2 ^ 44) 0 c.args.place c.args.i.now.terms.items c.requires.ordered c.requires.terms) in
    omega (arith, s0, b)

pub most_by-requires-clause-positive : goal.most_by-requires-clause-positive
most_by-requires-clause-positive c =
    let z = coefficient c.args.place c.args.i.now.terms.items in
    let e : Upper c.in-Upper.c ≡ side z = c.in-Upper.ensures ∙ ap (λ (l : List Multiple). side (coefficient c.args.place l)) c.deref.ensures.value in
    (upper_side z c.in-Upper.c e).1

pub returns-in-Neither : goal.returns-in-Neither
returns-in-Neither c =
    let z = coefficient c.args.place c.args.i.now.terms.items in
    let e : Neither ≡ side z = c.in-Neither.ensures ∙ ap (λ (l : List Multiple). side (coefficient c.args.place l)) c.deref.ensures.value in
    ap (λ (s : Side). room_step s (left (at_places c.args.values.now) c.args.place (seen c.args.i.now)) c.args.room) e

pub returns-in-Lower : goal.returns-in-Lower
returns-in-Lower c =
    let z = coefficient c.args.place c.args.i.now.terms.items in
    let e : Lower c.in-Lower.a ≡ side z = c.in-Lower.ensures ∙ ap (λ (l : List Multiple). side (coefficient c.args.place l)) c.deref.ensures.value in
    let l = left (at_places c.args.values.now) c.args.place (seen c.args.i.now) in
    ap (λ (o : Option ℤ). let r : Room = record { low = o; high = c.args.room.high } in r)
    (c.raised.ensures ∙ ap (λ (y : ℤ). with_low c.args.room.low y) (let f : SFits w128 c.least_by.result = search rules in let g : SFits w128 c.left_of.result = search rules in
    to_z-of_z w128 c.least_by.result f ∙ c.least_by.ensures ∙ ap (λ (y : ℤ). neg_ℤ (floor y c.in-Lower.a)) (to_z-of_z w128 c.left_of.result g ∙ c.left_of.ensures.value)))
    ∙ ap (λ (s : Side). room_step s l c.args.room) e

pub returns-in-Upper : goal.returns-in-Upper
returns-in-Upper c =
    let z = coefficient c.args.place c.args.i.now.terms.items in
    let e : Upper c.in-Upper.c ≡ side z = c.in-Upper.ensures ∙ ap (λ (l : List Multiple). side (coefficient c.args.place l)) c.deref.ensures.value in
    let l = left (at_places c.args.values.now) c.args.place (seen c.args.i.now) in
    ap (λ (o : Option ℤ). let r : Room = record { low = c.args.room.low; high = o } in r)
    (c.lowered.ensures ∙ ap (λ (y : ℤ). with_high c.args.room.high y) (let f : SFits w128 c.most_by.result = search rules in let g : SFits w128 c.left_of-in-Upper.result = search rules in
    to_z-of_z w128 c.most_by.result f ∙ c.most_by.ensures ∙ ap (λ (y : ℤ). floor y c.in-Upper.c) (to_z-of_z w128 c.left_of-in-Upper.result g ∙ c.left_of-in-Upper.ensures.value)))
    ∙ ap (λ (s : Side). room_step s l c.args.room) e
