use Rattle.std.proofs.Common.{◌≡◌, subst, slice_get, Some}
use Rattle.cc_model.specs.declared.checked.Ty.{Ty}
use Rattle.c_numbering.specs.Table.{IsAdded}
use Rattle.c_numbering.proofs.TableLemmas.{numbered_base, pointer_more}
use Rattle.c_numbering.proofs.table.Table.number_of_plain.Goals as goal

pub loop-star-init : goal.loop-star-init
loop-star-init c = numbered_base c.args.self.now c.put.new.self (c.in_ok-number.number).0 c.args.base
    (subst (λ (y : Ty). IsAdded y c.args.self.now c.put.new.self) c.base_entry.ensures c.in_ok-number.ensures.added)
    (subst (λ (y : Ty). slice_get c.put.new.self (c.in_ok-number.number).0 ≡ Some y) c.base_entry.ensures c.in_ok-number.ensures.there)

pub loop-star-preserved : goal.loop-star-preserved
loop-star-preserved c = pointer_more c.args.self.now c.loop-star.self c.put-in-loop-star.new.self c.loop-star.number (c.in_ok-number-2.number).0 c.args.base c.loop-star._star
    c.loop-star.invariant c.in_ok-number-2.ensures.added c.in_ok-number-2.ensures.there
