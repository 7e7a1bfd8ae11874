use Rattle.std.proofs.Common.{sym}
use Rattle.flip_solve.proofs.numbers.number_at.Goals as goal

pub own_number-requires : goal.own_number-requires
own_number-requires c = λ z e. c.requires c.args.id.0 _ (sym c.in_ok-ty.ensures.value) c.in-Int.is z e
