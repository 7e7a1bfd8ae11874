use Rattle.std.proofs.Common.{◌≡◌, ◌*◌, drop}
use Rattle.cc_model.specs.Types.{up_to_257, product}
use Rattle.c_scopes.proofs.types.product.Given as goal

abbrev pub invariant-loop-length : goal.invariant-loop-length
invariant-loop-length l = (up_to_257 (l.size * product (drop l.length-index l.lengths)) ≡ up_to_257 (product l.fn.lengths)) × (l.size ≡ up_to_257 l.size)
