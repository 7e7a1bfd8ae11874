use Rattle.std.proofs.Common.{◌∙◌, sym, refl, arith, pos}
use Rattle.cc_base.specs.Pass.{same_terms}
use Rattle.cc_base.specs.declared.forms.Multiple.{Multiple}
use Rattle.linear_solver.proofs.TidySteps.{same_next, same_fails, same_ends, lengths_differ}
use Rattle.linear_solver.proofs.tidy.has_same_terms.Goals as goal

pub returns-then-p-q : goal.returns-then-p-q
returns-then-p-q c = lengths_differ c.args.p.now c.args.q.now c.if-p-q.true

pub loop-k-init : goal.loop-k-init
loop-k-init c = refl

pub returns-then-not-same_numbers : goal.returns-then-not-same_numbers
returns-then-not-same_numbers c =
    let d : Multiple = record { place = 0; coefficient = pos 0 } in
    same_fails c.args.p.now c.args.q.now c.loop-k.k d (same_terms c.args.p.now c.args.q.now) c.loop-k-test.true (omega (arith, c.if-p-q.false)) (sym c.if-not-same_numbers.true ∙ c.same_numbers.ensures) c.loop-k.invariant

pub loop-k-preserved : goal.loop-k-preserved
loop-k-preserved c =
    let d : Multiple = record { place = 0; coefficient = pos 0 } in
    same_next c.args.p.now c.args.q.now c.loop-k.k d (same_terms c.args.p.now c.args.q.now) c.loop-k-test.true (omega (arith, c.if-p-q.false)) (sym c.if-not-same_numbers.false ∙ c.same_numbers.ensures) c.loop-k.invariant

pub returns : goal.returns
returns c = same_ends c.args.p.now c.args.q.now c.loop-k.k (same_terms c.args.p.now c.args.q.now) c.loop-k-test.false c.if-p-q.false c.loop-k.invariant
