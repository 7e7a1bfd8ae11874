use Rattle.std.proofs.Common.{ℤ, IsSome, subst, sym, rules, SFits, w64}
use Rattle.std.proofs.lemmas.Int.{to_z-of_z}
use Rattle.checked_memory.specs.declared.values.Value.{Value}
use Rattle.checked_memory.specs.Contents.{cell_at, IsTouched}
use Rattle.checked_memory.specs.Entries.{entries, contents, touched_of}
use Rattle.checked_memory.proofs.Writes.{touched_at, not_none}
use Rattle.checked_memory.proofs.places.place_of.Goals as goal

pub unwrap-requires : goal.unwrap-requires
unwrap-requires c =
    let f : SFits w64 c.in-Block.address = search rules in
    let there = subst (λ (v : Value). IsSome (cell_at v (contents (entries c.args.objects.now)))) c.in-Block.is c.requires.there in
    let touched = touched_at c.in-Block.address c.in-Block.offset (touched_of (entries c.args.objects.now)) there in
    not_none _ _ _ c.block_at.ensures (subst (λ (a : ℤ). IsTouched a (touched_of (entries c.args.objects.now))) (sym (to_z-of_z w64 c.in-Block.address f)) touched)
