use Rattle.std.proofs.Common.{◌≡◌, ℤ, List, Some, map, slice_get, subst, to_z, of_z, w64}
use Rattle.std.proofs.lemmas.Int.{to_z-of_z}
use Rattle.checked_memory.specs.declared.places.Object.{Object}
use Rattle.checked_memory.specs.Contents.{Contents, address_of}
use Rattle.checked_memory.specs.Entries.{entries, IsBlock}
use Rattle.checked_memory.proofs.Writes.{rank_is}
use Rattle.checked_memory.proofs.Memory.rank_of.Goals as goal

pub returns : goal.returns
returns c =
    let here = subst (λ (os : List Object). IsBlock (entries os) (to_z w64 (of_z w64 c.args.address)) c.in_ok-found.found.object c.in_ok-found.found.rank) c.deref.ensures.value c.in_ok-found.ensures in
    let found = subst (λ (a : ℤ). IsBlock (entries c.self.inside.objects.items) a c.in_ok-found.found.object c.in_ok-found.found.rank) (to_z-of_z w64 c.args.address c.ranges.address) here in
    subst (λ (m : Contents). slice_get (map address_of m.touched) c.in_ok-found.found.rank ≡ Some c.args.address) c.self.view_is (rank_is _ _ _ _ found)
