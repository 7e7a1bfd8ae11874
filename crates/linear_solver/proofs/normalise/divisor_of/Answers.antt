use Rattle.std.proofs.Common.{◌∙◌, ap, refl, SFits, rules, unsigned_abs, ℕ, pos, ◌+◌, drop, slice_index_or}
use Rattle.std.proofs.lemmas.Int.{to_z-of_z}
use mir.Syntax.{w128}
use Rattle.cc_base.specs.Inequality.{divisor, divisor_from, gcd}
use Rattle.cc_base.specs.declared.forms.Multiple.{Multiple}
use Rattle.linear_solver.proofs.Steps.{divisor_step, divisor_end}
use Rattle.linear_solver.proofs.normalise.divisor_of.Goals as goal

pub loop-t-init : goal.loop-t-init
unfolding divisor
loop-t-init c = refl

pub loop-t-preserved : goal.loop-t-preserved
loop-t-preserved c =
    let d : Multiple = record { place = 0; coefficient = pos 0 } in
    let x = slice_index_or c.args.terms.now c.loop-t.t-index d in
    let fx : SFits w128 x.coefficient = search rules in
    let e = c.gcd_of-g.ensures ∙ ap (gcd c.loop-t.g) (c.unsigned_abs.ensures.value ∙ ap unsigned_abs (to_z-of_z w128 x.coefficient fx)) in
    ap (λ (n : ℕ). divisor_from n (drop (c.loop-t.t-index + 1) c.args.terms.now)) e ∙ divisor_step c.loop-t.g c.args.terms.now c.loop-t.t-index d c.loop-t-test.true ∙ c.loop-t.invariant

pub returns : goal.returns
returns c = divisor_end c.loop-t.g c.args.terms.now c.loop-t.t-index c.loop-t-test.false c.loop-t.invariant
