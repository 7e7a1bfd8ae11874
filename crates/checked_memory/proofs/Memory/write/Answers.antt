use Rattle.std.proofs.Common.{List, subst, ap, ◌∙◌, refl, arith}
use Rattle.checked_memory.specs.declared.places.Object.{Object}
use Rattle.checked_memory.specs.Contents.{Contents, with_cell}
use Rattle.checked_memory.specs.Entries.{entries, IsPlace}
use Rattle.checked_memory.proofs.Writes.{object_inside, object_written}
use Rattle.checked_memory.proofs.Cells.{written_here, written_other, written_addresses}
use Rattle.checked_memory.proofs.Memory.write.Goals as goal

pub index_mut-requires : goal.index_mut-requires
index_mut-requires c =
    let place = subst (λ (os : List Object). IsPlace c.args.at (entries os) c.place_of-place.result.object c.place_of-place.result.cell) c.deref.ensures.value c.place_of-place.ensures in
    let inside = object_inside _ _ _ _ _ _ c.index_mut-object.result.now _ c.self.invariant place c.index_mut-object.ensures.value c.self.view_is c.requires in
    omega (arith, inside, c.index_mut-object.result.now.cells.ok.0)

pub invariant_of-self : goal.invariant_of-self
invariant_of-self c =
    let place = subst (λ (os : List Object). IsPlace c.args.at (entries os) c.place_of-place.result.object c.place_of-place.result.cell) c.deref.ensures.value c.place_of-place.ensures in
    (object_written _ _ _ _ _ _ c.index_mut-object.result.now _ c.args.cell c.self.invariant place c.index_mut-object.ensures.value refl refl).0

whole : goal.returns-clause-whole
whole c =
    let place = subst (λ (os : List Object). IsPlace c.args.at (entries os) c.place_of-place.result.object c.place_of-place.result.cell) c.deref.ensures.value c.place_of-place.ensures in
    (object_written _ _ _ _ _ _ c.index_mut-object.result.now _ c.args.cell c.self.invariant place c.index_mut-object.ensures.value refl refl).1 ∙ ap (λ (m : Contents). with_cell c.args.at c.args.cell m) c.self.view_is

pub returns-clause-whole : goal.returns-clause-whole
returns-clause-whole c = whole c

pub returns-clause-here : goal.returns-clause-here
returns-clause-here c = written_here c.args.at c.args.cell c.args.self.now _ (whole c) c.requires

pub returns-clause-others : goal.returns-clause-others
returns-clause-others c = written_other c.args.at c.args.cell c.args.self.now _ (whole c)

pub returns-clause-addresses : goal.returns-clause-addresses
returns-clause-addresses c = written_addresses c.args.at c.args.cell c.args.self.now _ (whole c)
