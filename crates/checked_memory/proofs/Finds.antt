-- Where no cell stands.
use Rattle.std.proofs.Common.{◌≡◌, ℕ, ◌+◌, ◌≤◌, ℤ, List, length, Option, Some, None, IsSome, refl, sym, subst, ap, arith, slice_get}
use Rattle.std.proofs.lemmas.Option.{slice_get_past}
use Rattle.checked_memory.specs.declared.values.Cell.{Cell}
use Rattle.checked_memory.specs.declared.places.Object.{Object}
use Rattle.checked_memory.specs.Contents.{TouchedBlock, IsTouched, cells_at, at_offset}
use Rattle.checked_memory.specs.Entries.{entries, made_of, touched_of}
use Rattle.checked_memory.proofs.Walks.{all_counts, as_many}
use Rattle.checked_memory.proofs.Writes.{touched_at}

pub none_made : (made : List (List Cell)) (n i : ℕ) → length made ≤ n → at_offset i (slice_get made n) ≡ None
none_made made n i h = ap (λ (o : Option (List Cell)). at_offset i o) (slice_get_past made n h)

pub none_touched : (a : ℤ) (i : ℕ) (bs : List TouchedBlock) → (IsTouched a bs → ⊥) → at_offset i (cells_at a bs) ≡ None
none_touched a i bs n = pick (at_offset i (cells_at a bs)) refl
  where
    pick : (o : Option Cell) → at_offset i (cells_at a bs) ≡ o → at_offset i (cells_at a bs) ≡ None
    pick None e = e
    pick (Some c) e = absurd (n (touched_at a i bs (subst (λ (o : Option Cell). IsSome o) (sym e) refl)))

pub count_made : (os : List Object) (t : ℕ) → t ≡ length (touched_of (entries os)) → length (made_of (entries os)) + t ≡ length os
count_made os t e = let c = all_counts (entries os) in omega (arith, c.0, c.1, as_many os, e)
