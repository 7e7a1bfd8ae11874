-- What a write leaves at each place, and that no address stands twice.
use Rattle.std.proofs.Common.{◌≡◌, ◌≢◌, ℕ, zero, suc, ◌<◌, inl, inr, ℤ, Bool, true, false, List, [], ◌∷◌, length, map, Some, IsSome, refl, sym, ap, ap₂, ◌∙◌, arith, get_or, slice_get, if◌then◌else◌}
use Rattle.std.proofs.Math.ListN.{set}
use Rattle.std.specs.Ordering.{int_eq}
use Rattle.std.proofs.lemmas.Bool.Decides.{Decides-int_eq}
use Rattle.cc_base.specs.Paths.{In, Pairwise}
use Rattle.checked_memory.specs.declared.values.Cell.{Cell}
use Rattle.checked_memory.specs.declared.values.Value.{Value}
use Rattle.checked_memory.specs.declared.values.Value.TheVariants.{Int, Null, Made, Block as InBlock}
use Rattle.checked_memory.specs.declared.places.Block.{Block}
use Rattle.checked_memory.specs.Contents.{Contents, TouchedBlock, IsTouched, address_of, cells_at, at_offset, cell_at, blocks_with, with_cell}
use Rattle.checked_memory.specs.Entries.{Entry, plain, block, touched_of, block_there}
use Rattle.checked_memory.proofs.Walks.{stands_there}

set_same : (cs : List Cell) (i : ℕ) (c : Cell) → IsSome (slice_get cs i) → slice_get (set cs i c) i ≡ Some c
set_same [] i c h = absurd (cc h)
set_same (x ∷ cs) zero c h = refl
set_same (x ∷ cs) (suc i) c h = set_same cs i c h

set_other : (cs : List Cell) (i k : ℕ) (c : Cell) → k ≢ i → slice_get (set cs i c) k ≡ slice_get cs k
set_other [] i k c d = refl
set_other (x ∷ cs) zero zero c d = absurd (d refl)
set_other (x ∷ cs) zero (suc k) c d = refl
set_other (x ∷ cs) (suc i) zero c d = refl
set_other (x ∷ cs) (suc i) (suc k) c d = set_other cs i k c (λ e. d (ap suc e))

here_made : (made : List (List Cell)) (n i : ℕ) (c : Cell) → IsSome (at_offset i (slice_get made n)) → at_offset i (slice_get (set made n (set (get_or made n []) i c)) n) ≡ Some c
here_made [] n i c h = absurd (cc h)
here_made (cs ∷ made) zero i c h = set_same cs i c h
here_made (cs ∷ made) (suc n) i c h = here_made made n i c h

other_made : (made : List (List Cell)) (n m i k : ℕ) (c : Cell) → ((m ≡ n) × (k ≡ i) → ⊥) → at_offset k (slice_get (set made n (set (get_or made n []) i c)) m) ≡ at_offset k (slice_get made m)
other_made [] n m i k c d = refl
other_made (cs ∷ made) zero zero i k c d = set_other cs i k c (λ e. d (refl, e))
other_made (cs ∷ made) zero (suc m) i k c d = refl
other_made (cs ∷ made) (suc n) zero i k c d = refl
other_made (cs ∷ made) (suc n) (suc m) i k c d = other_made made n m i k c (λ e. d (ap suc e.0, e.1))

here_block : (a : ℤ) (i : ℕ) (c : Cell) (bs : List TouchedBlock) → IsSome (at_offset i (cells_at a bs)) → at_offset i (cells_at a (blocks_with a i c bs)) ≡ Some c
here_block a i c [] h = absurd (cc h)
here_block a i c (b ∷ bs) h = pick (int_eq b.address a) refl h (λ k. here_block a i c bs k)
  where
    pick : (t : Bool) → int_eq b.address a ≡ t → IsSome (at_offset i (if t then Some b.cells else cells_at a bs)) → (IsSome (at_offset i (cells_at a bs)) → at_offset i (cells_at a (blocks_with a i c bs)) ≡ Some c) →
        at_offset i (cells_at a (if t then (let z : TouchedBlock = record { address = b.address; cells = set b.cells i c } in z) ∷ bs else b ∷ blocks_with a i c bs)) ≡ Some c
    pick true e s k = ap (λ (t : Bool). at_offset i (if t then Some (set b.cells i c) else cells_at a bs)) e ∙ set_same b.cells i c s
    pick false e s k = ap (λ (t : Bool). at_offset i (if t then Some b.cells else cells_at a (blocks_with a i c bs))) e ∙ k s

other_block : (a x : ℤ) (i k : ℕ) (c : Cell) (bs : List TouchedBlock) → ((x ≡ a) × (k ≡ i) → ⊥) → at_offset k (cells_at x (blocks_with a i c bs)) ≡ at_offset k (cells_at x bs)
other_block a x i k c [] d = refl
other_block a x i k c (b ∷ bs) d = pick (int_eq b.address a) refl (other_block a x i k c bs d)
  where
    hit : (u : Bool) → int_eq b.address x ≡ u → int_eq b.address a ≡ true → at_offset k (if u then Some (set b.cells i c) else cells_at x bs) ≡ at_offset k (if u then Some b.cells else cells_at x bs)
    hit true e f = set_other b.cells i k c (λ q. d (sym ((Decides-int_eq b.address x).0 e) ∙ (Decides-int_eq b.address a).0 f, q))
    hit false e f = refl

    miss : (u : Bool) → at_offset k (cells_at x (blocks_with a i c bs)) ≡ at_offset k (cells_at x bs) → at_offset k (if u then Some b.cells else cells_at x (blocks_with a i c bs)) ≡ at_offset k (if u then Some b.cells else cells_at x bs)
    miss true r = refl
    miss false r = r

    pick : (t : Bool) → int_eq b.address a ≡ t → at_offset k (cells_at x (blocks_with a i c bs)) ≡ at_offset k (cells_at x bs) →
        at_offset k (cells_at x (if t then (let z : TouchedBlock = record { address = b.address; cells = set b.cells i c } in z) ∷ bs else b ∷ blocks_with a i c bs)) ≡ at_offset k (cells_at x (b ∷ bs))
    pick true e r = hit (int_eq b.address x) refl e
    pick false e r = miss (int_eq b.address x) r

-- the written cell is there
pub written_here : (at : Value) (c : Cell) (m n : Contents) → n ≡ with_cell at c m → IsSome (cell_at at m) → cell_at at n ≡ Some c
written_here at c m n e h = ap (λ (x : Contents). cell_at at x) e ∙ here at h
  where
    here : (v : Value) → IsSome (cell_at v m) → cell_at v (with_cell v c m) ≡ Some c
    here (Made n i) s = here_made m.made n i c s
    here (InBlock a i) s = here_block a i c m.touched s
    here (Int n) s = absurd (cc s)
    here Null s = absurd (cc s)

-- all others stay
pub written_other : (at : Value) (c : Cell) (m n : Contents) → n ≡ with_cell at c m → (other : Value) → other ≢ at → cell_at other n ≡ cell_at other m
written_other at c m n e other d = ap (λ (x : Contents). cell_at other x) e ∙ same other at d
  where
    same : (v w : Value) → v ≢ w → cell_at v (with_cell w c m) ≡ cell_at v m
    same (Made n i) (Made k j) d = other_made m.made k n j i c (λ q. d (ap₂ (λ (x y : ℕ). Made x y) q.0 q.1))
    same (InBlock a i) (InBlock x j) d = other_block x a j i c m.touched (λ q. d (ap₂ (λ (y : ℤ) (z : ℕ). InBlock y z) q.0 q.1))
    same (Made n i) (InBlock x j) d = refl
    same (InBlock a i) (Made k j) d = refl
    same (Int n) w d = refl
    same Null w d = refl
    same (Made n i) (Int k) d = refl
    same (Made n i) Null d = refl
    same (InBlock a i) (Int k) d = refl
    same (InBlock a i) Null d = refl

same_addresses : (a : ℤ) (i : ℕ) (c : Cell) (bs : List TouchedBlock) → map address_of (blocks_with a i c bs) ≡ map address_of bs
same_addresses a i c [] = refl
same_addresses a i c (b ∷ bs) = pick (int_eq b.address a) (same_addresses a i c bs)
  where
    pick : (t : Bool) → map address_of (blocks_with a i c bs) ≡ map address_of bs → map address_of (if t then (let z : TouchedBlock = record { address = b.address; cells = set b.cells i c } in z) ∷ bs else b ∷ blocks_with a i c bs) ≡ map address_of (b ∷ bs)
    pick true r = refl
    pick false r = ap (λ (l : List ℤ). b.address ∷ l) r

-- and all addresses, in order
pub written_addresses : (at : Value) (c : Cell) (m n : Contents) → n ≡ with_cell at c m → map address_of n.touched ≡ map address_of m.touched
written_addresses at c m n e = ap (λ (x : Contents). map address_of x.touched) e ∙ same at
  where
    same : (v : Value) → map address_of (with_cell v c m).touched ≡ map address_of m.touched
    same (Made n i) = refl
    same (InBlock a i) = same_addresses a i c m.touched
    same (Int n) = refl
    same Null = refl

touched_in : (a : ℤ) (bs : List TouchedBlock) → In a (map address_of bs) → IsTouched a bs
touched_in a [] h = absurd h
touched_in a (b ∷ bs) (inl e) = inl (sym e)
touched_in a (b ∷ bs) (inr h) = inr (touched_in a bs h)

-- no address stands twice
pub addresses_apart : (es : List Entry) → ((i j : ℕ) (b c : Block) → i < j → j < length es → block_there es i ≡ Some b → block_there es j ≡ Some c → b.address ≢ c.address) → Pairwise (λ (a b : ℤ). a ≢ b) (map address_of (touched_of es))
addresses_apart [] h = tt
addresses_apart (plain cs ∷ es) h = addresses_apart es (λ i j b c p q r s. h (suc i) (suc j) b c (omega (arith, p)) (omega (arith, q)) r s)
addresses_apart (block x cs ∷ es) h = (
  λ a m e.
      let t = stands_there es a (touched_in a (touched_of es) m) in
      h zero (suc t.index) x t.there (omega arith) (omega (arith, t.inside)) refl t.stands (e ∙ sym t.same_address),
  addresses_apart es (λ i j b c p q r s. h (suc i) (suc j) b c (omega (arith, p)) (omega (arith, q)) r s),
)
