-- What reading, writing and adding an entry does to what the entries stand for.
use Rattle.std.proofs.Common.{◌≡◌, ◌≢◌, ℕ, zero, suc, ◌+◌, ◌-◌, ◌<◌, ◌≤◌, ◌⊎◌, inl, inr, ℤ, Bool, true, false, List, [], ◌∷◌, ◌++◌, length, length-append, map, take, Option, Some, None, IsSome, MatchOption, refl, sym, ap, ap₂, ◌∙◌, subst, arith, get_or, slice_get, if◌then◌else◌}
use Rattle.std.proofs.Math.ListN.{set}
use Rattle.std.specs.Ordering.{int_eq}
use Rattle.std.proofs.lemmas.Bool.{cases_lt}
use Rattle.std.proofs.lemmas.Bool.Decides.{Decides-int_eq}
use Rattle.std.proofs.lemmas.List.{append-nil, get_or_append_left, get_or_push, length_push, get_or-set_same, get_or-set_other, length-set, get_or-take, length-take-le, get_or-map, map-set, map_push}
use Rattle.checked_memory.specs.declared.values.Cell.{Cell}
use Rattle.checked_memory.specs.declared.values.Value.{Value}
use Rattle.checked_memory.specs.declared.values.Value.TheVariants.{Int, Null, Made, Block as InBlock}
use Rattle.checked_memory.specs.declared.places.Block.{Block}
use Rattle.checked_memory.specs.declared.places.Object.{Object}
use Rattle.checked_memory.specs.Contents.{Contents, TouchedBlock, IsTouched, address_of, cells_at, at_offset, cell_at, blocks_with, with_cell}
use Rattle.checked_memory.specs.Entries.{Entry, plain, block, entry_of, entries, made_of, touched_of, contents, block_of, cells_of, block_there, LinkedBy, Linked, IsLinked, IsBlock, IsPlace, Holds}
use Rattle.checked_memory.proofs.Walks.{nothing, touched_append, made_append, touched_there, stands_there, block_entry, all_counts, as_many}

-- a link sees only the blocks below
pub linked_same : (es fs : List Entry) (n : ℕ) (link : Option ℕ) → ((i : ℕ) → i < n → block_there fs i ≡ block_there es i) → Linked es n link → Linked fs n link
linked_same es fs zero link s h = h
linked_same es fs (suc n) link s h = at (block_there es n) refl h (λ l k. linked_same es fs n l (λ i p. s i (omega (arith, p))) k)
  where
    at : (x : Option Block) → block_there es n ≡ x → LinkedBy x n link (λ before. Linked es n before) → ((l : Option ℕ) → Linked es n l → Linked fs n l) → LinkedBy (block_there fs n) n link (λ before. Linked fs n before)
    at None e g k = subst (λ (y : Option Block). LinkedBy y n link (λ before. Linked fs n before)) (sym (s n (omega arith) ∙ e)) (k link g)
    at (Some b) e g k = subst (λ (y : Option Block). LinkedBy y n link (λ before. Linked fs n before)) (sym (s n (omega arith) ∙ e)) (g.0, k b.before g.1)

push_there : (es : List Entry) (e : Entry) (i : ℕ) → i < length es → block_there (es ++ e ∷ []) i ≡ block_there es i
push_there es e i h = ap block_of (get_or_append_left es (e ∷ []) nothing i h)

push_last : (es : List Entry) (e : Entry) → block_there (es ++ e ∷ []) (length es) ≡ block_of e
push_last es e = ap block_of (get_or_push es e nothing (length es) refl)

push_linked : (es : List Entry) (e : Entry) (link : Option ℕ) → LinkedBy (block_of e) (length es) link (λ before. Linked (es ++ e ∷ []) (length es) before) → IsLinked (es ++ e ∷ []) link
push_linked es e link h =
    let wide : length (es ++ e ∷ []) ≡ suc (length es) = omega (arith, length_push es e) in
    subst (λ (n : ℕ). Linked (es ++ e ∷ []) n link) (sym wide) (subst (λ (y : Option Block). LinkedBy y (length es) link (λ before. Linked (es ++ e ∷ []) (length es) before)) (sym (push_last es e)) h)

-- a made object more
pub holds_made : (es : List Entry) (latest : Option ℕ) (touched : ℕ) (cs : List Cell) → Holds es latest touched → Holds (es ++ plain cs ∷ []) latest touched
holds_made es latest touched cs h =
    let e : Entry = plain cs in
    let count : length (touched_of (es ++ e ∷ [])) ≡ length (touched_of es) + 0 = ap length (touched_append es (e ∷ [])) ∙ length-append _ _ in
    record {
      linked = push_linked es e latest (linked_same es (es ++ e ∷ []) (length es) latest (λ i p. push_there es e i p) h.linked);
      counted = omega (arith, count, h.counted);
      few = h.few;
      apart = λ i j b c p q r s. at i j b c p q r s;
    }
  where
    at : (i j : ℕ) (b c : Block) → i < j → j < length (es ++ plain cs ∷ []) → block_there (es ++ plain cs ∷ []) i ≡ Some b → block_there (es ++ plain cs ∷ []) j ≡ Some c → b.address ≢ c.address
    at i j b c p q r s =
        elim (cases_lt j (length es)) [
          | inl u ↦ h.apart i j b c p u (sym (push_there es (plain cs) i (omega (arith, p, u))) ∙ r) (sym (push_there es (plain cs) j u) ∙ s)
          | inr u ↦
              let k : j ≡ length es = omega (arith, u, q, length_push es (plain cs)) in
              absurd (cc (push_last es (plain cs), ap (λ (y : ℕ). block_there (es ++ plain cs ∷ []) y) k, s))
        ]

-- a touched block more
pub holds_touched : (es : List Entry) (latest : Option ℕ) (touched : ℕ) (b : Block) (cs : List Cell) → Holds es latest touched → touched < 26 → b.before ≡ latest → (IsTouched b.address (touched_of es) → ⊥) →
    Holds (es ++ block b cs ∷ []) (Some (length es)) (touched + 1)
holds_touched es latest touched b cs h few before fresh =
    let e : Entry = block b cs in
    let count : length (touched_of (es ++ e ∷ [])) ≡ length (touched_of es) + 1 = ap length (touched_append es (e ∷ [])) ∙ length-append _ _ in
    let linked : Linked es (length es) b.before = subst (λ (l : Option ℕ). Linked es (length es) l) (sym before) h.linked in
    record {
      linked = push_linked es e (Some (length es)) (refl, linked_same es (es ++ e ∷ []) (length es) b.before (λ i p. push_there es e i p) linked);
      counted = omega (arith, count, h.counted);
      few = omega (arith, few);
      apart = λ i j x y p q r s. at i j x y p q r s;
    }
  where
    at : (i j : ℕ) (x y : Block) → i < j → j < length (es ++ block b cs ∷ []) → block_there (es ++ block b cs ∷ []) i ≡ Some x → block_there (es ++ block b cs ∷ []) j ≡ Some y → x.address ≢ y.address
    at i j x y p q r s =
        elim (cases_lt j (length es)) [
          | inl u ↦ h.apart i j x y p u (sym (push_there es (block b cs) i (omega (arith, p, u))) ∙ r) (sym (push_there es (block b cs) j u) ∙ s)
          | inr u ↦
              let k : j ≡ length es = omega (arith, u, q, length_push es (block b cs)) in
              let last : y ≡ b = cc (push_last es (block b cs), ap (λ (z : ℕ). block_there (es ++ block b cs ∷ []) z) k, s) in
              let there : IsTouched x.address (touched_of es) = touched_there es i x (sym (push_there es (block b cs) i (omega (arith, p, k))) ∙ r) in
              λ same. fresh (subst (λ (a : ℤ). IsTouched a (touched_of es)) (same ∙ ap (λ (z : Block). z.address) last) there)
        ]

-- what a made object more stands for
pub contents_made : (es : List Entry) (cs : List Cell) → contents (es ++ plain cs ∷ []) ≡ record { made = made_of es ++ cs ∷ []; touched = touched_of es }
contents_made es cs = ap₂ (λ (m : List (List Cell)) (t : List TouchedBlock). (let r : Contents = record { made = m; touched = t } in r)) (made_append es (plain cs ∷ [])) (touched_append es (plain cs ∷ []) ∙ append-nil _)

-- what a touched block more stands for
pub contents_touched : (es : List Entry) (b : Block) (cs : List Cell) → contents (es ++ block b cs ∷ []) ≡ record { made = made_of es; touched = touched_of es ++ record { address = b.address; cells = cs } ∷ [] }
contents_touched es b cs = ap₂ (λ (m : List (List Cell)) (t : List TouchedBlock). (let r : Contents = record { made = m; touched = t } in r)) (made_append es (block b cs ∷ []) ∙ append-nil _) (touched_append es (block b cs ∷ []))

-- a write that keeps an entry's block keeps all blocks
set_there : (es : List Entry) (k : ℕ) (e : Entry) → k < length es → block_of e ≡ block_there es k → (i : ℕ) → block_there (set es k e) i ≡ block_there es i
set_there es k e h s i =
    elim (cases_lt i k) [
      | inl u ↦ ap block_of (get_or-set_other es k i e nothing (let n : i ≢ k = omega (arith, u) in n))
      | inr u ↦ elim (cases_lt k i) [
        | inl v ↦ ap block_of (get_or-set_other es k i e nothing (let n : i ≢ k = omega (arith, v) in n))
        | inr v ↦
            let same : i ≡ k = omega (arith, u, v) in
            ap (λ (j : ℕ). block_there (set es k e) j) same ∙ ap block_of (get_or-set_same es k e nothing h) ∙ s ∙ ap (λ (j : ℕ). block_there es j) (sym same)
      ]
    ]

touched_set : (es : List Entry) (k : ℕ) (e : Entry) → k < length es → block_of e ≡ block_there es k → length (touched_of (set es k e)) ≡ length (touched_of es)
touched_set [] k e h s = absurd (omega (arith, h))
touched_set (plain cs ∷ es) zero (plain ds) h s = refl
touched_set (plain cs ∷ es) zero (block b ds) h s = absurd (cc s)
touched_set (block b cs ∷ es) zero (plain ds) h s = absurd (cc s)
touched_set (block b cs ∷ es) zero (block x ds) h s = refl
touched_set (plain cs ∷ es) (suc k) e h s = touched_set es k e (omega (arith, h)) s
touched_set (block b cs ∷ es) (suc k) e h s =
    let rest = touched_set es k e (omega (arith, h)) s in
    omega (arith, rest)

pub holds_set : (es : List Entry) (latest : Option ℕ) (touched k : ℕ) (e : Entry) → Holds es latest touched → k < length es → block_of e ≡ block_there es k → Holds (set es k e) latest touched
holds_set es latest touched k e h b s =
    let wide = length-set es k e in
    let same = set_there es k e b s in
    let count = touched_set es k e b s in
    record {
      linked = subst (λ (n : ℕ). Linked (set es k e) n latest) (sym wide) (linked_same es (set es k e) (length es) latest (λ i p. same i) h.linked);
      counted = omega (arith, count, h.counted);
      few = h.few;
      apart = λ i j x y p q r t. h.apart i j x y p (omega (arith, q, wide)) (sym (same i) ∙ r) (sym (same j) ∙ t);
    }

-- the cells of a made object, by its number
pub made_get : (es : List Entry) (k : ℕ) → k < length es → block_there es k ≡ None → slice_get (made_of es) (length (made_of (take k es))) ≡ Some (cells_of (get_or es k nothing))
made_get [] k h s = absurd (omega (arith, h))
made_get (plain cs ∷ es) zero h s = refl
made_get (block b cs ∷ es) zero h s = absurd (cc s)
made_get (plain cs ∷ es) (suc k) h s = made_get es k (omega (arith, h)) s
made_get (block b cs ∷ es) (suc k) h s = made_get es k (omega (arith, h)) s

made_found : (es : List Entry) (k : ℕ) → k < length es → block_there es k ≡ None → get_or (made_of es) (length (made_of (take k es))) [] ≡ cells_of (get_or es k nothing)
made_found [] k h s = absurd (omega (arith, h))
made_found (plain cs ∷ es) zero h s = refl
made_found (block b cs ∷ es) zero h s = absurd (cc s)
made_found (plain cs ∷ es) (suc k) h s = made_found es k (omega (arith, h)) s
made_found (block b cs ∷ es) (suc k) h s = made_found es k (omega (arith, h)) s

made_set : (es : List Entry) (k : ℕ) (ds : List Cell) → k < length es → block_there es k ≡ None → (made_of (set es k (plain ds)) ≡ set (made_of es) (length (made_of (take k es))) ds) × (touched_of (set es k (plain ds)) ≡ touched_of es)
made_set [] k ds h s = absurd (omega (arith, h))
made_set (plain cs ∷ es) zero ds h s = (refl, refl)
made_set (block b cs ∷ es) zero ds h s = absurd (cc s)
made_set (plain cs ∷ es) (suc k) ds h s =
    let r = made_set es k ds (omega (arith, h)) s in
    (ap (λ (m : List (List Cell)). cs ∷ m) r.0, r.1)
made_set (block b cs ∷ es) (suc k) ds h s =
    let r = made_set es k ds (omega (arith, h)) s in
    (r.0, ap (λ (t : List TouchedBlock). (let x : TouchedBlock = record { address = b.address; cells = cs } in x) ∷ t) r.1)

same_address : (x y : ℤ) → x ≡ y → int_eq x y ≡ true
same_address x y e = (Decides-int_eq x y).1 e

other_address : (x y : ℤ) → x ≢ y → int_eq x y ≡ false
other_address x y n = of (int_eq x y) refl
  where
    of : (t : Bool) → int_eq x y ≡ t → int_eq x y ≡ false
    of true e = absurd (n ((Decides-int_eq x y).0 e))
    of false e = e

-- the cells of a touched block, by its address
pub block_get : (es : List Entry) (k : ℕ) (b : Block) (a : ℤ) → k < length es → block_there es k ≡ Some b → b.address ≡ a → (IsTouched a (touched_of (take k es)) → ⊥) → cells_at a (touched_of es) ≡ Some (cells_of (get_or es k nothing))
block_get [] k b a h s e n = absurd (omega (arith, h))
block_get (plain cs ∷ es) zero b a h s e n = absurd (cc s)
block_get (block x cs ∷ es) zero b a h s e n =
    let same : x ≡ b = cc s in
    ap (λ (t : Bool). if t then Some cs else cells_at a (touched_of es)) (same_address x.address a (ap (λ (y : Block). y.address) same ∙ e))
block_get (plain cs ∷ es) (suc k) b a h s e n = block_get es k b a (omega (arith, h)) s e n
block_get (block x cs ∷ es) (suc k) b a h s e n =
    ap (λ (t : Bool). if t then Some cs else cells_at a (touched_of es)) (other_address x.address a (λ q. n (inl q))) ∙ block_get es k b a (omega (arith, h)) s e (λ q. n (inr q))

block_set : (es : List Entry) (k : ℕ) (b : Block) (a : ℤ) (i : ℕ) (c : Cell) → k < length es → block_there es k ≡ Some b → b.address ≡ a → (IsTouched a (touched_of (take k es)) → ⊥) →
    (touched_of (set es k (block b (set (cells_of (get_or es k nothing)) i c))) ≡ blocks_with a i c (touched_of es)) × (made_of (set es k (block b (set (cells_of (get_or es k nothing)) i c))) ≡ made_of es)
block_set [] k b a i c h s e n = absurd (omega (arith, h))
block_set (plain cs ∷ es) zero b a i c h s e n = absurd (cc s)
block_set (block x cs ∷ es) zero b a i c h s e n =
    let same : x ≡ b = cc s in (
      ap (λ (y : Block). (let z : TouchedBlock = record { address = y.address; cells = set cs i c } in z) ∷ touched_of es) (sym same)
          ∙ sym (ap (λ (t : Bool). if t then (let z : TouchedBlock = record { address = x.address; cells = set cs i c } in z) ∷ touched_of es else (let z : TouchedBlock = record { address = x.address; cells = cs } in z) ∷ blocks_with a i c (touched_of es)) (same_address x.address a (ap (λ (y : Block). y.address) same ∙ e))),
      refl,
    )
block_set (plain cs ∷ es) (suc k) b a i c h s e n =
    let r = block_set es k b a i c (omega (arith, h)) s e n in
    (r.0, ap (λ (m : List (List Cell)). cs ∷ m) r.1)
block_set (block x cs ∷ es) (suc k) b a i c h s e n =
    let r = block_set es k b a i c (omega (arith, h)) s e (λ q. n (inr q)) in (
      ap (λ (t : List TouchedBlock). (let z : TouchedBlock = record { address = x.address; cells = cs } in z) ∷ t) r.0
          ∙ sym (ap (λ (t : Bool). if t then (let z : TouchedBlock = record { address = x.address; cells = set cs i c } in z) ∷ touched_of es else (let z : TouchedBlock = record { address = x.address; cells = cs } in z) ∷ blocks_with a i c (touched_of es)) (other_address x.address a (λ q. n (inl q)))),
      r.1,
    )

-- no block below one has its address
fresh_below : (es : List Entry) (latest : Option ℕ) (touched k : ℕ) (b : Block) (a : ℤ) → Holds es latest touched → k < length es → block_there es k ≡ Some b → b.address ≡ a → IsTouched a (touched_of (take k es)) → ⊥
fresh_below es latest touched k b a h p s e m =
    let t = stands_there (take k es) a m in
    let low : t.index < k = omega (arith, t.inside, length-take-le k es (let q : k ≤ length es = omega (arith, p) in q)) in
    let there : block_there es t.index ≡ Some t.there = sym (ap block_of (get_or-take k es t.index nothing low)) ∙ t.stands in
    h.apart t.index k t.there b low p there s (t.same_address ∙ sym e)

-- the address of a touched block, by its rank
pub rank_get : (es : List Entry) (k : ℕ) (b : Block) → k < length es → block_there es k ≡ Some b → slice_get (map address_of (touched_of es)) (length (touched_of (take k es))) ≡ Some b.address
rank_get [] k b h s = absurd (omega (arith, h))
rank_get (plain cs ∷ es) zero b h s = absurd (cc s)
rank_get (block x cs ∷ es) zero b h s = let same : x ≡ b = cc s in ap (λ (y : Block). Some y.address) same
rank_get (plain cs ∷ es) (suc k) b h s = rank_get es k b (omega (arith, h)) s
rank_get (block x cs ∷ es) (suc k) b h s = rank_get es k b (omega (arith, h)) s

pub rank_is : (es : List Entry) (a : ℤ) (k r : ℕ) → IsBlock es a k r → slice_get (map address_of (touched_of es)) r ≡ Some a
rank_is es a k r b = ap (λ (n : ℕ). slice_get (map address_of (touched_of es)) n) b.ranked ∙ rank_get es k b.there b.inside b.stands ∙ ap (λ (z : ℤ). Some z) b.same_address

-- a place is in an entry
pub place_inside : (es : List Entry) (at : Value) (k j : ℕ) → IsPlace at es k j → k < length es
place_inside es (Made n i) k j p = p.1.inside
place_inside es (InBlock a i) k j p = p.2.inside
place_inside es (Int n) k j p = absurd p
place_inside es Null k j p = absurd p

-- the cell at a place
pub place_read : (es : List Entry) (latest : Option ℕ) (touched : ℕ) (at : Value) (k j : ℕ) → Holds es latest touched → IsPlace at es k j → cell_at at (contents es) ≡ slice_get (cells_of (get_or es k nothing)) j
place_read es latest touched (Made n i) k j h p =
    ap₂ (λ (x y : ℕ). at_offset x (slice_get (made_of es) y)) (sym p.0) p.1.numbered ∙ ap (λ (o : Option (List Cell)). at_offset j o) (made_get es k p.1.inside p.1.stands)
place_read es latest touched (InBlock a i) k j h p =
    let b = p.2 in
    ap (λ (x : ℕ). at_offset x (cells_at a (touched_of es))) (sym p.0) ∙ ap (λ (o : Option (List Cell)). at_offset j o) (block_get es k b.there a b.inside b.stands b.same_address (fresh_below es latest touched k b.there a h b.inside b.stands b.same_address))
place_read es latest touched (Int n) k j h p = absurd p
place_read es latest touched Null k j h p = absurd p

-- a cell written at a place
pub place_write : (es : List Entry) (latest : Option ℕ) (touched : ℕ) (at : Value) (k j : ℕ) (c : Cell) → Holds es latest touched → IsPlace at es k j →
    contents (set es k (entry_of (block_there es k) (set (cells_of (get_or es k nothing)) j c))) ≡ with_cell at c (contents es)
place_write es latest touched (Made n i) k j c h p =
    let ds : List Cell = set (cells_of (get_or es k nothing)) j c in
    let r = made_set es k ds p.1.inside p.1.stands in
    let same : set (get_or (made_of es) n []) i c ≡ ds = ap₂ (λ (x : List Cell) (y : ℕ). set x y c) (ap (λ (y : ℕ). get_or (made_of es) y []) p.1.numbered ∙ made_found es k p.1.inside p.1.stands) (sym p.0) in
    let here : made_of (set es k (plain ds)) ≡ set (made_of es) n (set (get_or (made_of es) n []) i c) = r.0 ∙ ap₂ (λ (x : ℕ) (y : List Cell). set (made_of es) x y) (sym p.1.numbered) (sym same) in
    ap (λ (x : Option Block). contents (set es k (entry_of x ds))) p.1.stands ∙ ap₂ (λ (m : List (List Cell)) (t : List TouchedBlock). (let z : Contents = record { made = m; touched = t } in z)) here r.1
place_write es latest touched (InBlock a i) k j c h p =
    let b = p.2 in
    let ds : List Cell = set (cells_of (get_or es k nothing)) j c in
    let r = block_set es k b.there a j c b.inside b.stands b.same_address (fresh_below es latest touched k b.there a h b.inside b.stands b.same_address) in
    ap (λ (x : Option Block). contents (set es k (entry_of x ds))) b.stands ∙ ap₂ (λ (m : List (List Cell)) (t : List TouchedBlock). (let z : Contents = record { made = m; touched = t } in z)) r.1 (r.0 ∙ ap (λ (x : ℕ). blocks_with a x c (touched_of es)) p.0)
place_write es latest touched (Int n) k j c h p = absurd p
place_write es latest touched Null k j c h p = absurd p

-- where a pointer into a block points to a cell, the block is touched
pub touched_at : (a : ℤ) (i : ℕ) (bs : List TouchedBlock) → IsSome (at_offset i (cells_at a bs)) → IsTouched a bs
touched_at a i [] h = absurd (cc h)
touched_at a i (b ∷ bs) h = pick (int_eq b.address a) (Decides-int_eq b.address a).0 h (λ k. touched_at a i bs k)
  where
    pick : (t : Bool) → (t ≡ true → b.address ≡ a) → IsSome (at_offset i (if t then Some b.cells else cells_at a bs)) → (IsSome (at_offset i (cells_at a bs)) → IsTouched a bs) → (b.address ≡ a) ⊎ IsTouched a bs
    pick true e s k = inl (e refl)
    pick false e s k = inr (k s)

-- an answer that stands for a fact that holds is there
pub not_none : {A : Type 0} (r : Option A) (P : Type 0) (Q : A → Type 0) → MatchOption r (P → ⊥) Q → P → IsSome r
not_none None P Q h p = absurd (h p)
not_none (Some x) P Q h p = refl

cells_entry : (x : Option Block) (cs : List Cell) → cells_of (entry_of x cs) ≡ cs
cells_entry None cs = refl
cells_entry (Some b) cs = refl

-- the entry of an object
entry_at : (os : List Object) (k : ℕ) (o : Object) → k < length os → o ≡ get_or os k o → get_or (entries os) k nothing ≡ entry_of o.block o.cells.items
entry_at os k o h e = get_or-map (λ (x : Object). entry_of x.block x.cells.items) os k o nothing h ∙ ap (λ (x : Object). entry_of x.block x.cells.items) (sym e)

pub object_cells : (os : List Object) (k : ℕ) (o : Object) → k < length os → o ≡ get_or os k o → cells_of (get_or (entries os) k nothing) ≡ o.cells.items
object_cells os k o h e = ap cells_of (entry_at os k o h e) ∙ cells_entry _ _

pub object_is : (os : List Object) (k : ℕ) (o : Object) → k < length os → o ≡ get_or os k o → block_there (entries os) k ≡ o.block
object_is os k o h e = ap block_of (entry_at os k o h e) ∙ block_entry _ _

-- the entries with another object
pub entries_set : (os : List Object) (k : ℕ) (o : Object) → entries (set os k o) ≡ set (entries os) k (entry_of o.block o.cells.items)
entries_set os k o = map-set (λ (x : Object). entry_of x.block x.cells.items) os k o

-- the entries with one object more
pub entries_push : (os : List Object) (o : Object) → entries (os ++ o ∷ []) ≡ entries os ++ entry_of o.block o.cells.items ∷ []
entries_push os o = map_push (λ (x : Object). entry_of x.block x.cells.items) os o

some_inside : {A : Type 0} (xs : List A) (i : ℕ) → IsSome (slice_get xs i) → i < length xs
some_inside [] i h = absurd (cc h)
some_inside (x ∷ xs) zero h = omega arith
some_inside (x ∷ xs) (suc i) h = omega (arith, some_inside xs i h)

-- a place is in an object
pub place_within : (os : List Object) (at : Value) (k j : ℕ) → IsPlace at (entries os) k j → k < length os
place_within os at k j p = omega (arith, place_inside (entries os) at k j p, as_many os)

-- the cell at a place of an object
pub object_read : (os : List Object) (latest : Option ℕ) (touched : ℕ) (at : Value) (k j : ℕ) (o : Object) → Holds (entries os) latest touched → IsPlace at (entries os) k j → o ≡ get_or os k o → cell_at at (contents (entries os)) ≡ slice_get o.cells.items j
object_read os latest touched at k j o h p e =
    place_read (entries os) latest touched at k j h p ∙ ap (λ (cs : List Cell). slice_get cs j) (object_cells os k o (place_within os at k j p) e)

-- which is one of its cells
pub object_inside : (os : List Object) (latest : Option ℕ) (touched : ℕ) (at : Value) (k j : ℕ) (o : Object) (m : Contents) → Holds (entries os) latest touched → IsPlace at (entries os) k j → o ≡ get_or os k o → contents (entries os) ≡ m → IsSome (cell_at at m) → j < length o.cells.items
object_inside os latest touched at k j o m h p e v s =
    some_inside o.cells.items j (subst (λ (x : Option Cell). IsSome x) (sym (ap (λ (x : Contents). cell_at at x) v) ∙ object_read os latest touched at k j o h p e) s)

-- the objects with another cell in one
pub object_written : (os : List Object) (latest : Option ℕ) (touched : ℕ) (at : Value) (k j : ℕ) (o p : Object) (c : Cell) → Holds (entries os) latest touched → IsPlace at (entries os) k j → o ≡ get_or os k o →
    p.block ≡ o.block → p.cells.items ≡ set o.cells.items j c → Holds (entries (set os k p)) latest touched × (contents (entries (set os k p)) ≡ with_cell at c (contents (entries os)))
object_written os latest touched at k j o p c h q e pb pc =
    let es : List Entry = entries os in
    let inside = place_within os at k j q in
    let entry : entry_of p.block p.cells.items ≡ entry_of (block_there es k) (set (cells_of (get_or es k nothing)) j c) =
    ap₂ (λ (x : Option Block) (y : List Cell). entry_of x y) (pb ∙ sym (object_is os k o inside e)) (pc ∙ ap (λ (y : List Cell). set y j c) (sym (object_cells os k o inside e))) in
    let all : entries (set os k p) ≡ set es k (entry_of (block_there es k) (set (cells_of (get_or es k nothing)) j c)) = entries_set os k p ∙ ap (λ (y : Entry). set es k y) entry in (
      subst (λ (l : List Entry). Holds l latest touched) (sym all) (holds_set es latest touched k _ h (place_inside es at k j q) (block_entry _ _)),
      ap contents all ∙ place_write es latest touched at k j c h q,
    )

-- the objects with a made one more
pub object_made : (os ps : List Object) (o : Object) (cs : List Cell) (latest : Option ℕ) (touched : ℕ) → ps ≡ os ++ o ∷ [] → o.block ≡ None → o.cells.items ≡ cs → Holds (entries os) latest touched →
    Holds (entries ps) latest touched × (contents (entries ps) ≡ record { made = made_of (entries os) ++ cs ∷ []; touched = touched_of (entries os) })
object_made os ps o cs latest touched e ob oc h =
    let all : entries ps ≡ entries os ++ plain cs ∷ [] = ap entries e ∙ entries_push os o ∙ ap₂ (λ (x : Option Block) (y : List Cell). entries os ++ entry_of x y ∷ []) ob oc in
    (subst (λ (l : List Entry). Holds l latest touched) (sym all) (holds_made (entries os) latest touched cs h), ap contents all ∙ contents_made (entries os) cs)

-- the objects with a touched block more
pub object_touched : (os ps : List Object) (o : Object) (b : Block) (a : ℤ) (cs : List Cell) (latest : Option ℕ) (touched n : ℕ) (m : Contents) → ps ≡ os ++ o ∷ [] → o.block ≡ Some b → o.cells.items ≡ cs → Holds (entries os) latest touched →
    contents (entries os) ≡ m → length m.touched < 26 → b.before ≡ latest → b.address ≡ a → (IsTouched a m.touched → ⊥) → n ≡ length os →
    Holds (entries ps) (Some n) (touched + 1) × (contents (entries ps) ≡ record { made = m.made; touched = m.touched ++ record { address = a; cells = cs } ∷ [] })
object_touched os ps o b a cs latest touched n m e ob oc h v few before same fresh w =
    let all : entries ps ≡ entries os ++ block b cs ∷ [] = ap entries e ∙ entries_push os o ∙ ap₂ (λ (x : Option Block) (y : List Cell). entries os ++ entry_of x y ∷ []) ob oc in
    let count : length (touched_of (entries os)) ≡ length m.touched = ap (λ (x : Contents). length x.touched) v in
    let less : touched < 26 = omega (arith, count, few, h.counted) in
    let new : IsTouched b.address (touched_of (entries os)) → ⊥ = subst (λ (x : Contents). IsTouched b.address x.touched → ⊥) (sym v) (subst (λ (z : ℤ). IsTouched z m.touched → ⊥) (sym same) fresh) in
    let last : length (entries os) ≡ n = as_many os ∙ sym w in (
      subst (λ (l : List Entry). Holds l (Some n) (touched + 1)) (sym all) (subst (λ (i : ℕ). Holds (entries os ++ block b cs ∷ []) (Some i) (touched + 1)) last (holds_touched (entries os) latest touched b cs h less before new)),
      ap contents all ∙ contents_touched (entries os) b cs ∙ ap (λ (x : Contents). (let r : Contents = record { made = x.made; touched = x.touched ++ record { address = b.address; cells = cs } ∷ [] } in r)) v
          ∙ ap (λ (z : ℤ). (let r : Contents = record { made = m.made; touched = m.touched ++ record { address = z; cells = cs } ∷ [] } in r)) same,
    )

-- the number of the next made object
pub next_number : (os : List Object) (latest : Option ℕ) (touched n : ℕ) (m : Contents) → Holds (entries os) latest touched → contents (entries os) ≡ m → n ≡ length os → (touched ≤ n) × (n - touched ≡ length m.made)
next_number os latest touched n m h v w =
    let c = all_counts (entries os) in
    let many = as_many os in
    let made : length (made_of (entries os)) ≡ length m.made = ap (λ (x : Contents). length x.made) v in
    (omega (arith, c.0, c.1, many, w, h.counted), omega (arith, c.0, c.1, many, w, h.counted, made))
