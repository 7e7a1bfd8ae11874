use Rattle.std.proofs.Common.{◌≡◌, ◌∙◌, sym, ap, to_z, of_z, ℤ, pos, ◌++◌, [], ◌∷◌, get_or, append-nil}
use Rattle.std.proofs.lemmas.Int.{to_z-of_z}
use mir.Syntax.{w128}
use Rattle.cc_base.specs.Inequality.{scaled, scaled_term}
use Rattle.cc_base.specs.declared.forms.Multiple.{Multiple}
use Rattle.linear_solver.proofs.MergeSteps.{push_scaled, pushed_all}
use Rattle.linear_solver.proofs.merging.push_multiples.Goals as goal

pub loop-t-init : goal.loop-t-init
unfolding scaled
loop-t-init c = sym (append-nil c.args.out.now.items)

pub loop-t-preserved : goal.loop-t-preserved
loop-t-preserved c =
    let d : Multiple = record { place = 0; coefficient = pos 0 } in
    let e : c.multiple.result ≡ scaled_term (to_z w128 (of_z w128 c.args.c)) (get_or c.args.p.now c.loop-t.t-index d) = c.multiple.ensures in
    c.in_ok-push.ensures.items ∙ ap (λ (t : Multiple). c.loop-t.out.items ++ (t ∷ [])) e
    ∙ push_scaled c.args.out.now.items c.loop-t.out.items (to_z w128 (of_z w128 c.args.c)) c.args.p.now c.loop-t.t-index d c.loop-t-test.true c.loop-t.invariant

pub returns : goal.returns
returns c =
    pushed_all c.args.out.now.items c.loop-t.out.items (to_z w128 (of_z w128 c.args.c)) c.args.p.now c.loop-t.t-index c.loop-t-test.false c.loop-t.invariant
    ∙ ap (λ (z : ℤ). c.args.out.now.items ++ scaled z c.args.p.now) (to_z-of_z w128 c.args.c c.ranges.c)
