use Rattle.std.proofs.Common.{ap, ℕ, ◌%◌, pos}
use Rattle.cc_base.specs.declared.forms.Multiple.{Multiple}
use Rattle.linear_solver.specs.Chains.{mixed, bucket}
use Rattle.linear_solver.proofs.Chains.{mixed_more, mixed_end}
use Rattle.linear_solver.proofs.tidy.bucket_of.Goals as goal

pub loop-t-preserved : goal.loop-t-preserved
loop-t-preserved c =
    let d : Multiple = record { place = 0; coefficient = pos 0 } in
    record {
      bound = c.mix_term-number.ensures.bound;
      same = mixed_more c.loop-t.number c.args.terms.now c.loop-t.t-index d c.mix_term-number.result (mixed 0 c.args.terms.now) c.loop-t-test.true c.mix_term-number.ensures.value c.loop-t.invariant.same;
    }

pub returns-clause-value : goal.returns-clause-value
unfolding bucket
returns-clause-value c = ap (λ (h : ℕ). h % c.args.count) (mixed_end c.loop-t.number c.args.terms.now c.loop-t.t-index (mixed 0 c.args.terms.now) c.loop-t-test.false c.loop-t.invariant.same)
