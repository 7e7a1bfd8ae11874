use Rattle.std.proofs.Common.{◌*◌, refl, get_or}
use Rattle.cc_model.specs.Types.{up_to_257, product}
use Rattle.c_scopes.proofs.ProductLemmas.{times_one, told_again, times_more, times_all}
use Rattle.c_scopes.proofs.types.product.Goals as goal

pub loop-length-init : goal.loop-length-init
loop-length-init c = (times_one (product c.args.lengths.now), refl)

pub loop-length-preserved : goal.loop-length-preserved
loop-length-preserved c = (
  times_more c.args.lengths.now c.loop-length.length-index c.loop-length.size c.times-size.result (up_to_257 (product c.args.lengths.now)) c.loop-length-test.true c.times-size.ensures c.loop-length.invariant.0,
  told_again (c.loop-length.size * get_or c.args.lengths.now c.loop-length.length-index 0) c.times-size.result c.times-size.ensures,
)

pub returns : goal.returns
returns c = times_all c.args.lengths.now c.loop-length.length-index c.loop-length.size (up_to_257 (product c.args.lengths.now)) c.loop-length-test.false c.loop-length.invariant.1 c.loop-length.invariant.0
