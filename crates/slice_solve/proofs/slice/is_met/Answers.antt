use Rattle.std.proofs.Common.{sym, refl}
use Rattle.slice_solve.proofs.Steps.{first_is, first_none}
use Rattle.slice_solve.proofs.slice.is_met.Goals as goal

pub returns-in-Some : goal.returns-in-Some
returns-in-Some c = first_is c.args.classes.now c.args.terms.now c.in-Some.first.now _ (sym c.in-Some.ensures.value) refl

pub returns-in-None : goal.returns-in-None
returns-in-None c = first_none c.args.classes.now c.args.terms.now (sym c.in-None.ensures.value)
