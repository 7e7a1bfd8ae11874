use Rattle.c_numbering.proofs.SigLemmas.{sig_made}
use Rattle.c_numbering.proofs.sigs.sig.Goals as goal

pub returns : goal.returns
returns c = sig_made c.args.table.now c.known_numbers.new.table c.result_number.new.table c.numbers_of.new.self c.args.function.now c.args.slots.now c.as_slice.result.now c.in_ok-params.params c.in_ok-slots.slots c.in_ok-number.number
    c.as_slice.ensures c.in_ok-params.ensures c.in_ok-number.ensures c.in_ok-slots.ensures
