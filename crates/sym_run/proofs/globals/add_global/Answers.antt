use Rattle.std.proofs.Common.{◌≡◌, true, rules}
use Rattle.std.proofs.lemmas.Option.{slice_get-get_or}
use Rattle.sym_run.proofs.GlobalLaws.{part_step, part_done, values_step}
use Rattle.sym_run.proofs.globals.add_global.Goals as goal

pub loop-ty-preserved : goal.loop-ty-preserved
loop-ty-preserved c =
    let word : c.is_value.result ≡ true = search rules in
    record {
      cells = λ k. part_step k c.args.start c.args.types.now c.loop-ty.ty-index _ c.start_value-value.result c.loop-ty.cells c.push.new.self _ (slice_get-get_or c.args.types.now c.loop-ty.ty-index _ c.loop-ty-test.true) (c.start_value-value.ensures k) c.in_ok-push.ensures.ok (c.loop-ty.invariant.cells k);
      values = λ h. values_step c.loop-ty.cells c.push.new.self c.start_value-value.result c.in_ok-push.ensures.ok (c.is_value.ensures word) (c.loop-ty.invariant.values h);
    }

pub returns-clause-cells : goal.returns-clause-cells
returns-clause-cells c = λ k. part_done k c.args.start c.args.types.now c.loop-ty.ty-index c.loop-ty.cells _ c.loop-ty-test.false (c.loop-ty.invariant.cells k)
