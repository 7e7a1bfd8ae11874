-- The checker of cells stands where the rule of inputs does.
use Rattle.std.proofs.Common.{get_or, drop-cons, add-one, FitsSigned, w64, unsigned_abs, ◌≡◌, ◌≢◌, ℕ, zero, suc, ◌+◌, ◌<◌, ◌≤◌, inl, inr, ◌&&◌, ◌||◌, min, Bool, true, false, ℤ, pos, negsuc, nat_eq, List, [], ◌∷◌, ◌++◌, length, map, drop, slice_get, Option, Some, None, if◌then◌else◌, refl, sym, ap, ◌∙◌, subst, arith, append_assoc, length-append, length-drop}
use Rattle.std.proofs.lemmas.List.{append-nil, drop-append-le, drop_all}
use Rattle.std.proofs.lemmas.Bool.{cases_eq}
use Rattle.std.proofs.lemmas.Bool.Decides.{nat_tests}
use Rattle.std.proofs.lemmas.Option.{slice_get_within}
use Rattle.std.specs.Ordering.{nat_cmp}
use Rattle.std.specs.BTreeSet.{contains}
use Rattle.cc_base.specs.declared.cells.TyId.{TyId}
use Rattle.cc_base.specs.declared.cells.CellTy.{CellTy}
use Rattle.cc_base.specs.declared.cells.CellTy.TheVariants as cell
use Rattle.cc_base.specs.Limits.{Limits}
use Rattle.cc_model.specs.Core.{Cell, int_cell, ptr_cell}
use Rattle.cc_model.specs.Canonical.{Named}
use Rattle.cc_model.specs.CheckedProgram.{cell_of}
use Rattle.input_map.specs.declared.faults.MapFault.{MapFault}
use Rattle.input_map.specs.declared.faults.MapFault.TheVariants.{NotCanonical, Short, Long, OutOfBounds}
use Rattle.input_map.specs.declared.checking.Standing.{Standing}
use Rattle.input_map.specs.CellFaults.{is_within, is_named, is_old, is_next, cells_fault}
use Rattle.input_map.specs.Standing.{key, has_old, Stands, Follows, Names}

-- ---- lists

some_same : {A : Type 0} (x y : A) → Some x ≡ Some y → x ≡ y
some_same x y e = cc

head : (l : List CellTy) (i : ℕ) (c : CellTy) → slice_get l i ≡ Some c → drop i (map cell_of l) ≡ cell_of c ∷ drop (suc i) (map cell_of l)
head [] i c e = absurd (cc e)
head (x ∷ l) zero c e = ap (λ y. cell_of y ∷ map cell_of l) (some_same x c e)
head (x ∷ l) (suc i) c e = head l i c e

none_past : (l : List CellTy) (i : ℕ) → slice_get l i ≡ None → length l ≤ i
none_past [] i e = omega arith
none_past (x ∷ l) zero e = absurd (cc e)
none_past (x ∷ l) (suc i) e = let h = none_past l i e in omega (arith, h)

map_length : (l : List CellTy) → length (map cell_of l) ≡ length l
map_length [] = refl
map_length (x ∷ l) = ap (λ n. suc n) (map_length l)

map_append : (l m : List CellTy) → map cell_of (l ++ m) ≡ map cell_of l ++ map cell_of m
map_append [] m = refl
map_append (x ∷ l) m = ap (λ t. cell_of x ∷ t) (map_append l m)

empty : (l : List Cell) → length l ≡ 0 → l ≡ []
empty [] e = refl
empty (x ∷ l) e = absurd (omega (arith, e))

-- ---- keys

key_same : (a t c u : ℕ) → t < 4294967296 → u < 4294967296 → nat_eq (key a t) (key c u) ≡ nat_eq c a && nat_eq u t
key_same a t c u h k = by_parts (nat_eq c a) (nat_eq u t) refl refl
  where
    same : (m n : ℕ) → nat_eq m n ≡ true → m ≡ n
    same m n e = grind (arith, nat_tests)

    other : (m n : ℕ) → nat_eq m n ≡ false → m ≢ n
    other m n e f = grind (arith, nat_tests)

    is : (m n : ℕ) → m ≡ n → nat_eq m n ≡ true
    is m n e = grind (arith, nat_tests)

    not : (m n : ℕ) → m ≢ n → nat_eq m n ≡ false
    not m n e = grind (arith, nat_tests)

    by_parts : (p q : Bool) → nat_eq c a ≡ p → nat_eq u t ≡ q → nat_eq (key a t) (key c u) ≡ p && q
    by_parts true true e f = let x = same c a e in let y = same u t f in is (key a t) (key c u) (omega (arith, x, y))
    by_parts true false e f = let y = other u t f in not (key a t) (key c u) (λ g. y (omega (arith, g, h, k)))
    by_parts false q e f = let x = other c a e in not (key a t) (key c u) (λ g. x (omega (arith, g, h, k)))

-- ---- where it stands

module _ (most at : ℕ) (s : Standing) (due : List Cell) (named : List Named) (next : ℕ) (h : Stands most at s due named next) where
  pub old_same : (t : ℕ) (z : ℤ) → t < 4294967296 → has_old s.named t z ≡ is_old named t z
  old_same t (pos a) k = ap (λ b. nat_eq a 0 || b) (h.keys a t k)
  old_same t (negsuc n) k = refl

  pub next_same : (a : ℕ) → a < 9223372036854775808 → nat_eq a s.next ≡ nat_eq a next
  next_same a k = let e = h.counted in elim (cases_eq a next) [
    | inl f ↦ (let g : a ≡ s.next = omega (arith, e, f, k) in grind (arith, nat_tests))
    | inr f ↦ (let g : a ≢ s.next = λ d. f (omega (arith, e, d, k)) in grind (arith, nat_tests))
  ]

  -- a cell is passed
  pub taking : (c : CellTy) → slice_get s.types at ≡ Some c → (rest : List Cell) × (due ≡ cell_of c ∷ rest) × Stands most (suc at) s rest named next
  taking c e =
      let within = slice_get_within s.types at c e in
      let is : due ≡ cell_of c ∷ (drop (suc at) (map cell_of s.types) ++ h.rest) = h.due_is ∙ ap (λ l. l ++ h.rest) (head s.types at c e) in
      let n = h.next_is in let l = ap (λ m. length m) is in (
        drop (suc at) (map cell_of s.types) ++ h.rest,
        is,
        record {
          rest = h.rest;
          due_is = refl;
          covered = h.covered;
          reached = omega (arith, within);
          next_is = omega (arith, n, l);
          counted = h.counted;
          keys = h.keys;
        },
      )

  -- no cell is left
  pub at_end : slice_get s.types at ≡ None → at < most → due ≡ []
  at_end e k =
      let p = none_past s.types at e in
      let d = length-drop at (map cell_of s.types) in
      let m = map_length s.types in
      let none : h.rest ≡ [] = elim h.covered [ inl r ↦ r | inr r ↦ absurd (omega (arith, r, p, k)) ] in
      let i : due ≡ drop at (map cell_of s.types) = h.due_is ∙ ap (λ r. drop at (map cell_of s.types) ++ r) none ∙ append-nil (drop at (map cell_of s.types)) in
      let l = ap (λ x. length x) i in
      empty due (omega (arith, p, d, m, l))

  -- a block is named
  module _ (t : ℕ) (types : List CellTy) (r : Standing) (small : t < 4294967296) (g : Names most next t types s r) where
    more_keys : (a u : ℕ) → u < 4294967296 → contains nat_cmp r.named (key a u) ≡ is_named (record { address = next; type = t } ∷ named) u a
    more_keys a u k = g.keys (key a u) ∙ ap (λ b. b || contains nat_cmp s.named (key a u)) (key_same next t a u small k)
        ∙ ap (λ b. (nat_eq a next && nat_eq u t) || b) (h.keys a u k)

    abbrev After : Type 0
    After = Stands most at r (due ++ map cell_of types) (record { address = next; type = t } ∷ named) (next + length (map cell_of types))

    more_next : next + length (map cell_of types) ≡ suc (at + length (due ++ map cell_of types))
    more_next = let n = h.next_is in let l = length-append due (map cell_of types) in omega (arith, n, l)

    more_counted : r.next ≡ min (next + length (map cell_of types)) 18446744073709551615
    more_counted = let n = h.counted in let l = map_length types in let m = g.counted in omega (arith, n, l, m)

    with_types : length s.types < most → r.types ≡ s.types ++ types → After
    with_types k e =
        let none : h.rest ≡ [] = elim h.covered [ inl x ↦ x | inr x ↦ absurd (omega (arith, x, k)) ] in
        let m = map_length s.types in let reached = h.reached in
        let within : at ≤ length (map cell_of s.types) = omega (arith, m, reached) in
        let whole : drop at (map cell_of r.types) ≡ drop at (map cell_of s.types) ++ map cell_of types
        = ap (λ l. drop at (map cell_of l)) e ∙ ap (drop at) (map_append s.types types) ∙ drop-append-le at (map cell_of s.types) (map cell_of types) within in
        let longer = ap (λ x. length x) e ∙ length-append s.types types in
        record {
          rest = [];
          due_is = ap (λ l. l ++ map cell_of types) (h.due_is ∙ ap (λ l. drop at (map cell_of s.types) ++ l) none ∙ append-nil (drop at (map cell_of s.types)))
              ∙ sym whole ∙ sym (append-nil (drop at (map cell_of r.types)));
          covered = inl refl;
          reached = omega (arith, reached, longer);
          next_is = more_next;
          counted = more_counted;
          keys = more_keys;
        }

    without_types : most ≤ length s.types → r.types ≡ s.types → After
    without_types k e =
        let l = ap (λ x. length x) e in let reached = h.reached in
        record {
          rest = h.rest ++ map cell_of types;
          due_is = ap (λ l. l ++ map cell_of types) h.due_is ∙ append_assoc (drop at (map cell_of s.types)) h.rest (map cell_of types)
              ∙ ap (λ x. drop at (map cell_of x) ++ (h.rest ++ map cell_of types)) (sym e);
          covered = inr (omega (arith, k, l));
          reached = omega (arith, reached, l);
          next_is = more_next;
          counted = more_counted;
          keys = more_keys;
        }

    pub naming : After
    naming = elim g.types [ inl p ↦ with_types p.0 p.1 | inr p ↦ without_types p.0 p.1 ]

-- ---- steps

module _ (layouts : ℕ → List Cell) (b : Limits) (most at : ℕ) (s : Standing) (z : ℤ) (zs : List ℤ) (o : Option MapFault) (f : Follows layouts b most at s (z ∷ zs) o) where
  abbrev from_due : List Cell → Option MapFault
  from_due due = cells_fault layouts b due f.named f.next (suc at) (z ∷ zs)

  number_step : (due : List Cell) (named : List Named) (next : ℕ) → cells_fault layouts b (int_cell ∷ due) named next (suc at) (z ∷ zs)
      ≡ (if is_within b z then cells_fault layouts b due named next (suc (suc at)) zs else Some (OutOfBounds (pos (suc at))))
  unfolding cells_fault
  number_step due named next = refl

  pointer_step : (t : ℕ) (due : List Cell) (named : List Named) (next : ℕ) → cells_fault layouts b (ptr_cell t ∷ due) named next (suc at) (z ∷ zs)
      ≡ (if is_old named t z then cells_fault layouts b due named next (suc (suc at)) zs
      else (if is_next next z then cells_fault layouts b (due ++ layouts t) (record { address = next; type = t } ∷ named) (next + length (layouts t)) (suc (suc at)) zs
      else Some (NotCanonical (pos (suc at)))))
  unfolding cells_fault
  pointer_step t due named next = refl

  end_step : (named : List Named) (next : ℕ) → cells_fault layouts b [] named next (suc at) (z ∷ zs) ≡ Some (Long (pos (suc at)))
  unfolding cells_fault
  end_step named next = refl

  pub long : slice_get s.types at ≡ None → at < most → o ≡ Some (Long (pos (suc at)))
  long e k = sym f.fault ∙ ap from_due (at_end most at s f.due f.named f.next f.stands e k) ∙ end_step f.named f.next

  pub number_in : slice_get s.types at ≡ Some cell.Int → is_within b z ≡ true → Follows layouts b most (suc at) s zs o
  number_in e w = let t = taking most at s f.due f.named f.next f.stands cell.Int e in record {
    due = t.0;
    named = f.named;
    next = f.next;
    stands = t.2;
    fault = sym (ap from_due t.1 ∙ number_step t.0 f.named f.next ∙ ap (λ y. if y then cells_fault layouts b t.0 f.named f.next (suc (suc at)) zs else Some (OutOfBounds (pos (suc at)))) w) ∙ f.fault;
  }

  pub number_out : slice_get s.types at ≡ Some cell.Int → is_within b z ≡ false → o ≡ Some (OutOfBounds (pos (suc at)))
  number_out e w = let t = taking most at s f.due f.named f.next f.stands cell.Int e in
      sym f.fault ∙ ap from_due t.1 ∙ number_step t.0 f.named f.next ∙ ap (λ y. if y then cells_fault layouts b t.0 f.named f.next (suc (suc at)) zs else Some (OutOfBounds (pos (suc at)))) w

  module _ (ty : TyId) (small : ty.0 < 4294967296) (e : slice_get s.types at ≡ Some (cell.Ptr ty)) where
    abbrev next_or : List Cell → Bool → Option MapFault
    next_or due y = if y then cells_fault layouts b (due ++ layouts ty.0) (record { address = f.next; type = ty.0 } ∷ f.named) (f.next + length (layouts ty.0)) (suc (suc at)) zs
        else Some (NotCanonical (pos (suc at)))

    abbrev old_or : List Cell → Bool → Option MapFault
    old_or due y = if y then cells_fault layouts b due f.named f.next (suc (suc at)) zs else next_or due (is_next f.next z)

    is_old_now : (y : Bool) → has_old s.named ty.0 z ≡ y → is_old f.named ty.0 z ≡ y
    is_old_now y g = sym (old_same most at s f.due f.named f.next f.stands ty.0 z small) ∙ g

    reads : (y : Bool) (rest : List Cell) → f.due ≡ ptr_cell ty.0 ∷ rest → has_old s.named ty.0 z ≡ y → old_or rest y ≡ o
    reads y rest d g = sym (ap from_due d ∙ pointer_step ty.0 rest f.named f.next ∙ ap (old_or rest) (is_old_now y g)) ∙ f.fault

    pub old_block : has_old s.named ty.0 z ≡ true → Follows layouts b most (suc at) s zs o
    old_block g = let t = taking most at s f.due f.named f.next f.stands (cell.Ptr ty) e in record {
      due = t.0;
      named = f.named;
      next = f.next;
      stands = t.2;
      fault = reads true t.0 t.1 g;
    }

    pub no_block : has_old s.named ty.0 z ≡ false → is_next f.next z ≡ false → o ≡ Some (NotCanonical (pos (suc at)))
    no_block g n = let t = taking most at s f.due f.named f.next f.stands (cell.Ptr ty) e in
        sym (reads false t.0 t.1 g) ∙ ap (next_or t.0) n

    pub new_block : has_old s.named ty.0 z ≡ false → is_next f.next z ≡ true → (types : List CellTy) (r : Standing) → map cell_of types ≡ layouts ty.0 → Names most f.next ty.0 types s r
        → Follows layouts b most (suc at) r zs o
    new_block g n types r l names = let t = taking most at s f.due f.named f.next f.stands (cell.Ptr ty) e in record {
      due = t.0 ++ layouts ty.0;
      named = record { address = f.next; type = ty.0 } ∷ f.named;
      next = f.next + length (layouts ty.0);
      stands = subst (λ cs. Stands most (suc at) r (t.0 ++ cs) (record { address = f.next; type = ty.0 } ∷ f.named) (f.next + length cs)) l
          (naming most (suc at) s t.0 f.named f.next t.2 ty.0 types r small names);
      fault = sym (ap (next_or t.0) n) ∙ reads false t.0 t.1 g;
    }

    -- the next address, as the checker counts it
    pub next_now : (a : ℕ) → z ≡ pos a → a < 9223372036854775808 → (y : Bool) → nat_eq a s.next ≡ y → is_next f.next z ≡ y
    next_now a d k y g = ap (is_next f.next) d ∙ sym (next_same most at s f.due f.named f.next f.stands a k) ∙ g

-- ---- the beginning and the end

pub beginning : (layouts : ℕ → List Cell) (b : Limits) (most : ℕ) (s : Standing) (params : List CellTy) (zs : List ℤ) → s.types ≡ params → s.next ≡ length params + 1 → s.next < 18446744073709551616
    → ((q : ℕ) → contains nat_cmp s.named q ≡ false) → Follows layouts b most 0 s zs (cells_fault layouts b (map cell_of params) [] (suc (length (map cell_of params))) 1 zs)
beginning layouts b most s params zs e f h k = let m = map_length params in record {
  due = map cell_of params;
  named = [];
  next = suc (length (map cell_of params));
  stands = record {
    rest = [];
    due_is = ap (map cell_of) (sym e) ∙ sym (append-nil (map cell_of s.types));
    covered = inl refl;
    reached = omega arith;
    next_is = omega arith;
    counted = omega (arith, f, h, m);
    keys = λ a t small. k (key a t);
  };
  fault = refl;
}

module _ (layouts : ℕ → List Cell) (b : Limits) (most : ℕ) (s : Standing) (o : Option MapFault) (low : most < 9223372036854775808) (f : Follows layouts b most most s [] o) where
  short_step : (c : Cell) (due : List Cell) (named : List Named) (next : ℕ) → cells_fault layouts b (c ∷ due) named next (suc most) [] ≡ Some Short
  unfolding cells_fault
  short_step c due named next = refl

  full_step : (named : List Named) (next : ℕ) → cells_fault layouts b [] named next (suc most) [] ≡ None
  unfolding cells_fault
  full_step named next = refl

  short_due : (due : List Cell) → 1 ≤ length due → cells_fault layouts b due f.named f.next (suc most) [] ≡ Some Short
  short_due [] h = absurd (omega (arith, h))
  short_due (c ∷ due) h = short_step c due f.named f.next

  pub short : most + 1 < s.next → o ≡ Some Short
  short h = let n = (f.stands).next_is in let c = (f.stands).counted in sym f.fault ∙ short_due f.due (omega (arith, n, c, h))

  pub full : s.next ≤ most + 1 → o ≡ None
  full h = let n = (f.stands).next_is in let c = (f.stands).counted in
      sym f.fault ∙ ap (λ due. cells_fault layouts b due f.named f.next (suc most) []) (empty f.due (omega (arith, n, c, h, low))) ∙ full_step f.named f.next

-- ---- as the checker's tests tell it, of a number y that is z

module _ (layouts : ℕ → List Cell) (b : Limits) (most at : ℕ) (s : Standing) (z : ℤ) (zs : List ℤ) (o : Option MapFault) (ty : TyId) (small : ty.0 < 4294967296) (y : ℤ) (is : y ≡ z) (fits : FitsSigned w64 z)
    (e : slice_get s.types at ≡ Some (cell.Ptr ty)) (f : Follows layouts b most at s (z ∷ zs) o) where
  next_of : (x : ℤ) → FitsSigned w64 x → is_next s.next x ≡ is_next f.next x
  next_of (pos a) h = let k = h.sfits in next_same most at s f.due f.named f.next f.stands a k
  next_of (negsuc n) h = refl

  address_of : (x : ℤ) → is_next f.next x ≡ true → unsigned_abs x ≡ f.next
  address_of (pos a) h = grind (arith, nat_tests)
  address_of (negsuc n) h = absurd (cc h)

  old_as : (t : Bool) → t ≡ has_old s.named ty.0 y → has_old s.named ty.0 z ≡ t
  old_as t h = ap (has_old s.named ty.0) (sym is) ∙ sym h

  next_as : (t : Bool) → t ≡ is_next s.next y → is_next f.next z ≡ t
  next_as t h = sym (next_of z fits) ∙ ap (is_next s.next) (sym is) ∙ sym h

  pub is_old_block : true ≡ has_old s.named ty.0 y → Follows layouts b most (suc at) s zs o
  is_old_block h = old_block layouts b most at s z zs o f ty small e (old_as true h)

  pub is_no_block : false ≡ has_old s.named ty.0 y → false ≡ is_next s.next y → o ≡ Some (NotCanonical (pos (suc at)))
  is_no_block h k = no_block layouts b most at s z zs o f ty small e (old_as false h) (next_as false k)

  pub is_new_block : false ≡ has_old s.named ty.0 y → true ≡ is_next s.next y → (types : List CellTy) (r : Standing) → map cell_of types ≡ layouts ty.0 → Names most (unsigned_abs y) ty.0 types s r
      → Follows layouts b most (suc at) r zs o
  is_new_block h k types r l names = let n = next_as true k in
      new_block layouts b most at s z zs o f ty small e (old_as false h) n types r l
      (subst (λ a. Names most a ty.0 types s r) (ap unsigned_abs is ∙ address_of z n) names)

-- ---- in the list of all numbers

module _ (layouts : ℕ → List Cell) (b : Limits) (most at : ℕ) (s : Standing) (cells : List ℤ) (o : Option MapFault) (f : Follows layouts b most at s (drop at cells) o) where
  pub cut_at : (y d : ℤ) → at < length cells → y ≡ get_or cells at d → Follows layouts b most at s (y ∷ drop (at + 1) cells) o
  cut_at y d h e = subst (λ zs. Follows layouts b most at s zs o) (drop-cons cells at d h ∙ ap (λ x. x ∷ drop (suc at) cells) (sym e) ∙ ap (λ n. y ∷ drop n cells) (sym (add-one at))) f

  pub at_last : at ≡ most → length cells ≡ most → Follows layouts b most most s [] o
  at_last e h = subst (λ zs. Follows layouts b most most s zs o) (drop_all most cells (omega (arith, h)))
      (subst (λ n. Follows layouts b most n s (drop n cells) o) e f)
