use Rattle.std.specs.Fmt.{decimal, signed_decimal}
use Rattle.replay.proofs.BoundsLaws.{bounds_values, bounds_numbers, numbers_there, if_bounds}
use Rattle.replay.proofs.bounds.bounds_of.Goals as goal

pub returns-in_err-values-clause-only : goal.returns-in_err-values-clause-only
returns-in_err-values-clause-only c b h =
    absurd (c.in_err-values.ensures.only (signed_decimal b.lo) (signed_decimal b.hi) (decimal b.depth) (decimal b.objects) (decimal b.steps) (bounds_values c.args.line.now b h))

pub returns-clause-read : goal.returns-clause-read
returns-clause-read c =
    let v = c.in_ok-values.values in
    if_bounds c.args.line.now v.lo.now v.hi.now v.depth.now v.objects.now v.steps.now c.bounds_in.result c.in_ok-values.ensures.read c.bounds_in.ensures.read

pub returns-clause-only : goal.returns-clause-only
returns-clause-only c b h =
    let v = c.in_ok-values.values in
    c.bounds_in.ensures.only b (numbers_there v.lo.now v.hi.now v.depth.now v.objects.now v.steps.now (signed_decimal b.lo) (signed_decimal b.hi) (decimal b.depth) (decimal b.objects) (decimal b.steps) b
    (c.in_ok-values.ensures.only (signed_decimal b.lo) (signed_decimal b.hi) (decimal b.depth) (decimal b.objects) (decimal b.steps) (bounds_values c.args.line.now b h)) (bounds_numbers c.args.line.now b h))
