-- Numbers have no fault exactly where they are an input's.
use Rattle.std.proofs.Common.{◌≡◌, ℕ, suc, ◌+◌, ◌≤◌, inl, inr, ◌&&◌, ◌||◌, not, Bool, true, false, ℤ, pos, negsuc, ◌≤ℤ◌, int_lt, nat_eq, List, [], ◌∷◌, ◌++◌, length, Option, Some, None, if◌then◌else◌, refl, sym, ap, ◌∙◌, subst, arith}
use Rattle.std.proofs.lemmas.Bool.{and_parts, or_cases, and_from}
use Rattle.std.proofs.lemmas.Bool.Decides.{nat_tests}
use Rattle.std.proofs.lemmas.Int.{ints}
use Rattle.std.proofs.lemmas.List.{append-nil}
use Rattle.cc_base.specs.declared.inputs.Input.{Input}
use Rattle.cc_base.specs.Limits.{Limits}
use Rattle.cc_base.specs.Paths.{In}
use Rattle.cc_model.specs.Core.{Cell, int_cell, ptr_cell}
use Rattle.cc_model.specs.Canonical.{Named, Within, AllWithin, NamesOld, AreCells, IsCanonical}
use Rattle.input_map.specs.declared.faults.MapFault.{MapFault}
use Rattle.input_map.specs.declared.faults.MapFault.TheVariants.{NotCanonical, OutOfBounds, StreamOutOfBounds}
use Rattle.input_map.specs.CellFaults.{is_within, is_named, is_old, is_next, cells_fault, stream_fault, sooner, input_fault}

-- ---- the tests

not_true : (b : Bool) → not b ≡ true → b ≡ false
not_true true h = cc h
not_true false h = refl

not_from : (b : Bool) → b ≡ false → not b ≡ true
not_from true h = cc h
not_from false h = refl

low : (y z : ℤ) → int_lt z y ≡ false → y ≤ℤ z
low y z h = grind (arith, ints)

high : (y z : ℤ) → y ≤ℤ z → int_lt z y ≡ false
high y z h = grind (arith, ints)

pub within_tells : (b : Limits) (z : ℤ) → is_within b z ≡ true → Within b z
within_tells b z h = let p = and_parts (not (int_lt z b.lo)) (not (int_lt b.hi z)) h in
    (low b.lo z (not_true (int_lt z b.lo) p.0), low z b.hi (not_true (int_lt b.hi z) p.1))

pub within_from : (b : Limits) (z : ℤ) → Within b z → is_within b z ≡ true
within_from b z h = and_from (not (int_lt z b.lo)) (not (int_lt b.hi z)) (not_from (int_lt z b.lo) (high b.lo z h.0)) (not_from (int_lt b.hi z) (high z b.hi h.1))

same : (a b : ℕ) → nat_eq a b ≡ true → a ≡ b
same a b e = grind (arith, nat_tests)

is_same : (a b : ℕ) → a ≡ b → nat_eq a b ≡ true
is_same a b e = grind (arith, nat_tests)

named_tells : (named : List Named) (t a : ℕ) → is_named named t a ≡ true → (k : Named) × In k named × (pos a ≡ pos k.address) × (k.type ≡ t)
named_tells [] t a h = absurd (cc h)
named_tells (k ∷ named) t a h = elim (or_cases (nat_eq a k.address && nat_eq t k.type) (is_named named t a) h) [
  | inl e ↦ (let p = and_parts (nat_eq a k.address) (nat_eq t k.type) e in (k, inl refl, ap (λ n. pos n) (same a k.address p.0), sym (same t k.type p.1)))
  | inr e ↦ (let r = named_tells named t a e in (r.0, inr r.1, r.2, r.3))
]

or_true : (a b : Bool) → a ≡ true → a || b ≡ true
or_true true b h = refl
or_true false b h = absurd (cc h)

or_right : (a b : Bool) → b ≡ true → a || b ≡ true
or_right true b h = refl
or_right false b h = h

named_from : (named : List Named) (t a : ℕ) (k : Named) → In k named → a ≡ k.address → k.type ≡ t → is_named named t a ≡ true
named_from [] t a k i e f = absurd i
named_from (j ∷ named) t a k (inl d) e f = or_true (nat_eq a j.address && nat_eq t j.type) (is_named named t a)
    (and_from (nat_eq a j.address) (nat_eq t j.type) (is_same a j.address (e ∙ ap (λ m. m.address) d)) (is_same t j.type (sym f ∙ ap (λ m. m.type) d)))
named_from (j ∷ named) t a k (inr i) e f = or_right (nat_eq a j.address && nat_eq t j.type) (is_named named t a) (named_from named t a k i e f)

old_tells : (named : List Named) (t : ℕ) (z : ℤ) → is_old named t z ≡ true → NamesOld named t z
old_tells named t (negsuc n) h = absurd (cc h)
old_tells named t (pos a) h = elim (or_cases (nat_eq a 0) (is_named named t a) h) [
  | inl e ↦ inl (ap (λ n. pos n) (same a 0 e))
  | inr e ↦ inr (named_tells named t a e)
]

pos_same : (m n : ℕ) → pos m ≡ pos n → m ≡ n
pos_same m n e = cc

old_from : (named : List Named) (t : ℕ) (z : ℤ) → NamesOld named t z → is_old named t z ≡ true
old_from named t (pos a) (inl e) = or_true (nat_eq a 0) (is_named named t a) (is_same a 0 (pos_same a 0 e))
old_from named t (pos a) (inr (k, i, e, f)) = or_right (nat_eq a 0) (is_named named t a) (named_from named t a k i (pos_same a k.address e) f)
old_from named t (negsuc n) (inl e) = absurd (cc e)
old_from named t (negsuc n) (inr (k, i, e, f)) = absurd (cc e)

next_tells : (next : ℕ) (z : ℤ) → is_next next z ≡ true → z ≡ pos next
next_tells next (pos a) h = ap (λ n. pos n) (same a next h)
next_tells next (negsuc n) h = absurd (cc h)

next_from : (next : ℕ) (z : ℤ) → z ≡ pos next → is_next next z ≡ true
next_from next (pos a) e = is_same a next (pos_same a next e)
next_from next (negsuc n) e = absurd (cc e)

module _ (layouts : ℕ → List Cell) (b : Limits) where
  abbrev fresh : ℕ → ℕ → Named
  fresh next t = record { address = next; type = t }

  -- ---- no fault: the cells are an input's

  number_fine : (due : List Cell) (named : List Named) (next at : ℕ) (z : ℤ) (zs : List ℤ) → (cells_fault layouts b due named next (suc at) zs ≡ None → AreCells layouts b due named next zs)
      → (w : Bool) → is_within b z ≡ w → (if w then cells_fault layouts b due named next (suc at) zs else Some (OutOfBounds (pos at))) ≡ None → AreCells layouts b (int_cell ∷ due) named next (z ∷ zs)
  number_fine due named next at z zs h true e f = (within_tells b z e, h f)
  number_fine due named next at z zs h false e f = absurd (cc f)

  new_fine : (due : List Cell) (named : List Named) (next at t : ℕ) (z : ℤ) (zs : List ℤ)
      → (cells_fault layouts b (due ++ layouts t) (fresh next t ∷ named) (next + length (layouts t)) (suc at) zs ≡ None → AreCells layouts b (due ++ layouts t) (fresh next t ∷ named) (next + length (layouts t)) zs)
      → (w : Bool) → is_next next z ≡ w
      → (if w then cells_fault layouts b (due ++ layouts t) (fresh next t ∷ named) (next + length (layouts t)) (suc at) zs else Some (NotCanonical (pos at))) ≡ None
      → AreCells layouts b (ptr_cell t ∷ due) named next (z ∷ zs)
  new_fine due named next at t z zs h true e f = inr (next_tells next z e, h f)
  new_fine due named next at t z zs h false e f = absurd (cc f)

  pointer_fine : (due : List Cell) (named : List Named) (next at t : ℕ) (z : ℤ) (zs : List ℤ) → (cells_fault layouts b due named next (suc at) zs ≡ None → AreCells layouts b due named next zs)
      → (cells_fault layouts b (due ++ layouts t) (fresh next t ∷ named) (next + length (layouts t)) (suc at) zs ≡ None → AreCells layouts b (due ++ layouts t) (fresh next t ∷ named) (next + length (layouts t)) zs)
      → (w : Bool) → is_old named t z ≡ w
      → (if w then cells_fault layouts b due named next (suc at) zs
      else (if is_next next z then cells_fault layouts b (due ++ layouts t) (fresh next t ∷ named) (next + length (layouts t)) (suc at) zs else Some (NotCanonical (pos at)))) ≡ None
      → AreCells layouts b (ptr_cell t ∷ due) named next (z ∷ zs)
  pointer_fine due named next at t z zs h k true e f = inl (old_tells named t z e, h f)
  pointer_fine due named next at t z zs h k false e f = new_fine due named next at t z zs k (is_next next z) refl f

  pub cells_fine : (zs : List ℤ) (due : List Cell) (named : List Named) (next at : ℕ) → cells_fault layouts b due named next at zs ≡ None → AreCells layouts b due named next zs
  unfolding cells_fault
  cells_fine [] [] named next at e = tt
  cells_fine [] (c ∷ due) named next at e = absurd (cc e)
  cells_fine (z ∷ zs) [] named next at e = absurd (cc e)
  cells_fine (z ∷ zs) (int_cell ∷ due) named next at e = number_fine due named next at z zs (cells_fine zs due named next (suc at)) (is_within b z) refl e
  cells_fine (z ∷ zs) (ptr_cell t ∷ due) named next at e = pointer_fine due named next at t z zs (cells_fine zs due named next (suc at))
      (cells_fine zs (due ++ layouts t) (fresh next t ∷ named) (next + length (layouts t)) (suc at)) (is_old named t z) refl e

  -- ---- an input's cells have no fault

  abbrev Among : List Named → List Named → Type 0
  Among named other = (k : Named) → In k named → In k other

  among_first : (j : Named) (named other : List Named) → Among named other → Among (j ∷ named) (j ∷ other)
  among_first j named other h k (inl e) = inl e
  among_first j named other h k (inr i) = inr (h k i)

  old_among : (named other : List Named) (t : ℕ) (z : ℤ) → Among named other → NamesOld named t z → NamesOld other t z
  old_among named other t z h (inl e) = inl e
  old_among named other t z h (inr (k, i, e, f)) = inr (k, h k i, e, f)

  -- more blocks may have been named
  more_named : (zs : List ℤ) (due : List Cell) (named other : List Named) (next : ℕ) → Among named other → AreCells layouts b due named next zs → AreCells layouts b due other next zs
  more_named [] [] named other next h k = tt
  more_named [] (c ∷ due) named other next h k = absurd k
  more_named (z ∷ zs) [] named other next h k = absurd k
  more_named (z ∷ zs) (int_cell ∷ due) named other next h k = (k.0, more_named zs due named other next h k.1)
  more_named (z ∷ zs) (ptr_cell t ∷ due) named other next h (inl k) = inl (old_among named other t z h k.0, more_named zs due named other next h k.1)
  more_named (z ∷ zs) (ptr_cell t ∷ due) named other next h (inr k) = inr (
    k.0,
    more_named zs (due ++ layouts t) (fresh next t ∷ named) (fresh next t ∷ other) (next + length (layouts t)) (among_first (fresh next t) named other h) k.1,
  )

  -- each block that was named lies before the next address
  abbrev pub Placed : List Named → ℕ → Type 0
  Placed named next = (k : Named) → In k named → k.address + length (layouts k.type) ≤ next

  placed_more : (named : List Named) (next t : ℕ) → Placed named next → Placed (fresh next t ∷ named) (next + length (layouts t))
  placed_more named next t h k (inl e) = let f = ap (λ m. m.address) e in let g = ap (λ m. length (layouts m.type)) e in omega (arith, f, g)
  placed_more named next t h k (inr i) = let p = h k i in omega (arith, p)

  no_cells : (cs : List Cell) → length cs ≡ 0 → cs ≡ []
  no_cells [] e = refl
  no_cells (c ∷ cs) e = absurd (omega (arith, e))

  self_named : (named : List Named) (k j : Named) → k ≡ j → In k named → Among (j ∷ named) named
  self_named named k j e i m (inl f) = subst (λ x. In x named) (e ∙ sym f) i
  self_named named k j e i m (inr f) = f

  same_block : (k : Named) (next t : ℕ) → k.address ≡ next → k.type ≡ t → k ≡ fresh next t
  same_block k next t e f = ap (λ a. fresh a k.type) e ∙ ap (λ u. fresh next u) f

  -- an old block at the next address has no cells, and naming it anew changes nothing
  again : (due : List Cell) (named : List Named) (next t : ℕ) (zs : List ℤ) (k : Named) → Placed named next → In k named → k.address ≡ next → k.type ≡ t
      → AreCells layouts b (due ++ layouts t) (fresh next t ∷ named) (next + length (layouts t)) zs → AreCells layouts b due named next zs
  again due named next t zs k p i e f h =
      let l : length (layouts k.type) ≡ 0 = (let q = p k i in omega (arith, q, e)) in
      let n : layouts t ≡ [] = no_cells (layouts t) (ap (λ u. length (layouts u)) (sym f) ∙ l) in
      let g : AreCells layouts b (due ++ []) (fresh next t ∷ named) (next + 0) zs = subst (λ cs. AreCells layouts b (due ++ cs) (fresh next t ∷ named) (next + length cs) zs) n h in
      let z : next + 0 ≡ next = omega arith in
      more_named zs due (fresh next t ∷ named) named next (self_named named k (fresh next t) (same_block k next t e f) i)
      (subst (λ m. AreCells layouts b due (fresh next t ∷ named) m zs) z (subst (λ cs. AreCells layouts b cs (fresh next t ∷ named) (next + 0) zs) (append-nil due) g))

  -- the rest where the cell names what is old
  rest_old : (due : List Cell) (named : List Named) (next t : ℕ) (z : ℤ) (zs : List ℤ) → 1 ≤ next → Placed named next → NamesOld named t z → AreCells layouts b (ptr_cell t ∷ due) named next (z ∷ zs) → AreCells layouts b due named next zs
  rest_old due named next t z zs one p o (inl h) = h.1
  rest_old due named next t z zs one p (inl e) (inr h) = absurd (let f : 0 ≡ next = pos_same 0 next (sym e ∙ h.0) in omega (arith, f, one))
  rest_old due named next t z zs one p (inr (k, i, e, f)) (inr h) = again due named next t zs k p i (pos_same k.address next (sym e ∙ h.0)) f h.1

  rest_new : (due : List Cell) (named : List Named) (next t : ℕ) (z : ℤ) (zs : List ℤ) → is_old named t z ≡ false → AreCells layouts b (ptr_cell t ∷ due) named next (z ∷ zs)
      → (z ≡ pos next) × AreCells layouts b (due ++ layouts t) (fresh next t ∷ named) (next + length (layouts t)) zs
  rest_new due named next t z zs e (inl h) = absurd (let f = old_from named t z h.0 in cc)
  rest_new due named next t z zs e (inr h) = h

  abbrev All : List ℤ → Type 0
  All zs = (due : List Cell) (named : List Named) (next at : ℕ) → 1 ≤ next → Placed named next → AreCells layouts b due named next zs → cells_fault layouts b due named next at zs ≡ None

  pointer_none : (zs : List ℤ) → All zs → (due : List Cell) (named : List Named) (next at t : ℕ) (z : ℤ) → 1 ≤ next → Placed named next → AreCells layouts b (ptr_cell t ∷ due) named next (z ∷ zs) → (w : Bool) → is_old named t z ≡ w
      → (if w then cells_fault layouts b due named next (suc at) zs
      else (if is_next next z then cells_fault layouts b (due ++ layouts t) (fresh next t ∷ named) (next + length (layouts t)) (suc at) zs else Some (NotCanonical (pos at)))) ≡ None
  pointer_none zs all due named next at t z one p h true e = all due named next (suc at) one p (rest_old due named next t z zs one p (old_tells named t z e) h)
  pointer_none zs all due named next at t z one p h false e = let r = rest_new due named next t z zs e h in
      ap (λ w. if w then cells_fault layouts b (due ++ layouts t) (fresh next t ∷ named) (next + length (layouts t)) (suc at) zs else Some (NotCanonical (pos at))) (next_from next z r.0)
      ∙ all (due ++ layouts t) (fresh next t ∷ named) (next + length (layouts t)) (suc at) (omega (arith, one)) (placed_more named next t p) r.1

  cells_none : (zs : List ℤ) → All zs
  unfolding cells_fault
  cells_none [] [] named next at one p h = refl
  cells_none [] (c ∷ due) named next at one p h = absurd h
  cells_none (z ∷ zs) [] named next at one p h = absurd h
  cells_none (z ∷ zs) (int_cell ∷ due) named next at one p h = ap (λ w. if w then cells_fault layouts b due named next (suc at) zs else Some (OutOfBounds (pos at))) (within_from b z h.0)
      ∙ cells_none zs due named next (suc at) one p h.1
  cells_none (z ∷ zs) (ptr_cell t ∷ due) named next at one p h = pointer_none zs (cells_none zs) due named next at t z one p h (is_old named t z) refl

-- ---- the stream

stream_step : (b : Limits) (z : ℤ) (zs : List ℤ) (i : ℕ) → (stream_fault b (suc i) zs ≡ None → AllWithin b zs) → (w : Bool) → is_within b z ≡ w
    → (if w then stream_fault b (suc i) zs else Some (StreamOutOfBounds i)) ≡ None → AllWithin b (z ∷ zs)
stream_step b z zs i h true e f = (within_tells b z e, h f)
stream_step b z zs i h false e f = absurd (cc f)

stream_fine : (b : Limits) (zs : List ℤ) (i : ℕ) → stream_fault b i zs ≡ None → AllWithin b zs
unfolding stream_fault
stream_fine b [] i e = tt
stream_fine b (z ∷ zs) i e = stream_step b z zs i (stream_fine b zs (suc i)) (is_within b z) refl e

stream_none : (b : Limits) (zs : List ℤ) (i : ℕ) → AllWithin b zs → stream_fault b i zs ≡ None
unfolding stream_fault
stream_none b [] i h = refl
stream_none b (z ∷ zs) i h = ap (λ w. if w then stream_fault b (suc i) zs else Some (StreamOutOfBounds i)) (within_from b z h.0) ∙ stream_none b zs (suc i) h.1

-- ---- an input

neither : (f g : Option MapFault) → sooner f g ≡ None → (f ≡ None) × (g ≡ None)
neither None g e = (refl, e)
neither (Some f) g e = absurd (cc e)

pub canonical : (layouts : ℕ → List Cell) (b : Limits) (params : List Cell) (h : Input) → input_fault layouts b params h ≡ None → IsCanonical layouts b params h
canonical layouts b params h e = let n = neither (cells_fault layouts b params [] (suc (length params)) 1 h.cells) (stream_fault b 1 h.stream) e in
    (cells_fine layouts b h.cells params [] (suc (length params)) 1 n.0, stream_fine b h.stream 1 n.1)

pub no_fault : (layouts : ℕ → List Cell) (b : Limits) (params : List Cell) (h : Input) → IsCanonical layouts b params h → input_fault layouts b params h ≡ None
no_fault layouts b params h c = ap (λ f. sooner f (stream_fault b 1 h.stream)) (cells_none layouts b h.cells params [] (suc (length params)) 1 (omega arith) (λ k i. absurd i) c.0)
    ∙ stream_none b h.stream 1 c.1
