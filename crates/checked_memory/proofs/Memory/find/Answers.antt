use Rattle.std.proofs.Common.{List, Option, slice_get, subst, sym, ap, ◌∙◌}
use Rattle.checked_memory.specs.declared.values.Cell.{Cell}
use Rattle.checked_memory.specs.declared.places.Object.{Object}
use Rattle.checked_memory.specs.Contents.{Contents, cell_at}
use Rattle.checked_memory.specs.Entries.{entries, IsPlace}
use Rattle.checked_memory.proofs.Writes.{object_read}
use Rattle.checked_memory.proofs.Memory.find.Goals as goal

pub returns : goal.returns
returns c =
    let place = subst (λ (os : List Object). IsPlace c.args.at (entries os) c.in_ok-place.place.object c.in_ok-place.place.cell) c.deref.ensures.value c.in_ok-place.ensures in
    c.cell_in.ensures ∙ ap (λ (cs : List Cell). slice_get cs c.in_ok-place.place.cell) c.as_slice.ensures.value
    ∙ sym (object_read _ _ _ _ _ _ c.index.result.now c.self.invariant place c.index.ensures)
    ∙ ap (λ (m : Contents). cell_at c.args.at m) c.self.view_is
