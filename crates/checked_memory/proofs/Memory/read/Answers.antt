use Rattle.std.proofs.Common.{List, subst, sym, ap, ◌∙◌, refl, arith}
use Rattle.std.proofs.lemmas.Option.{slice_get_read}
use Rattle.checked_memory.specs.declared.places.Object.{Object}
use Rattle.checked_memory.specs.Contents.{Contents, cell_at}
use Rattle.checked_memory.specs.Entries.{entries, IsPlace}
use Rattle.checked_memory.proofs.Writes.{object_read, object_inside}
use Rattle.checked_memory.proofs.Memory.read.Goals as goal

pub index-requires-2 : goal.index-requires-2
index-requires-2 c =
    let place = subst (λ (os : List Object). IsPlace c.args.at (entries os) c.place_of-place.result.object c.place_of-place.result.cell) c.deref.ensures.value c.place_of-place.ensures in
    let inside = object_inside _ _ _ _ _ _ c.index.result.now _ c.self.invariant place c.index.ensures c.self.view_is c.requires in
    omega (arith, inside, c.index.result.now.cells.ok.0)

pub returns : goal.returns
returns c =
    let place = subst (λ (os : List Object). IsPlace c.args.at (entries os) c.place_of-place.result.object c.place_of-place.result.cell) c.deref.ensures.value c.place_of-place.ensures in
    let inside = object_inside _ _ _ _ _ _ c.index.result.now _ c.self.invariant place c.index.ensures c.self.view_is c.requires in
    sym (ap (λ (m : Contents). cell_at c.args.at m) c.self.view_is) ∙ object_read _ _ _ _ _ _ c.index.result.now c.self.invariant place c.index.ensures ∙ slice_get_read _ _ _ _ refl inside c.index-2.ensures
