use Rattle.c_numbering.proofs.SigLemmas.{adds_one}
use Rattle.c_numbering.proofs.sigs.add_known.Goals as goal

pub returns : goal.returns
returns c = adds_one c.args.table.now c.number_of.new.self c.args.numbers.now c.push.new.self c.in_ok-number.number c.args.ty.now c.in-Some.ty c.in-Some.is c.in_ok-number.ensures c.in_ok-push.ensures.ok
