-- What an access comes to, by the block that it touches or reaches.
use Rattle.std.proofs.Common.{◌≡◌, ℕ, zero, suc, ◌-◌, ◌<◌, ◌≤◌, ◌⊎◌, inl, inr, ℤ, pos, negsuc, ◌≤ℤ◌, nat_abs, nat_eq, nat_lt, Bool, true, false, ◌||◌, List, [], ◌∷◌, ◌++◌, length, length-append, map, drop, Option, Some, None, Result, Ok, Err, IfOk, OnOk, unwrap_or, slice_get, refl, sym, ap, ap₂, ◌∙◌, subst, arith, if◌then◌else◌}
use Rattle.std.specs.Option.{option_map}
use Rattle.std.proofs.lemmas.Bool.{ltb_from_iff}
use Rattle.std.proofs.lemmas.Int.{ints}
use Rattle.std.proofs.lemmas.Option.{same_Some, slice_get-map}
use Rattle.cc_base.specs.declared.cells.CellTy.{CellTy}
use Rattle.cc_base.specs.declared.cells.CellTy.TheVariants as cell
use Rattle.cc_base.specs.declared.inputs.Input.{Input}
use Rattle.cc_base.specs.declared.outcomes.Outcome.{Outcome}
use Rattle.cc_base.specs.declared.outcomes.Outcome.TheVariants.{Zero, Plain, Object}
use Rattle.cc_base.specs.Limits.{Limits}
use Rattle.cc_base.specs.Paths.{In}
use Rattle.cc_laws.proofs.Members.{is_same, not_same, in_right}
use Rattle.cc_laws.specs.LinearForms.{linear}
use Rattle.checked_memory.specs.declared.values.Cell.{Cell}
use Rattle.checked_memory.specs.declared.values.Value.{Value}
use Rattle.checked_memory.specs.declared.values.Value.TheVariants.{Int, Null, Made, Block}
use Rattle.checked_memory.specs.Contents.{TouchedBlock, IsTouched, address_of}
use Rattle.cc_model.specs.CheckedProgram.{cell_of}
use Rattle.cc_model.specs.Core as core
use Rattle.cc_model.specs.Domain.{act_access, Acted}
use Rattle.cc_model.specs.Canonical.{Named}
use Rattle.cc_model.specs.Plain as plain
use Rattle.cc_model.specs.Traced as traced
use Rattle.cc_model.specs.Traced.{Shadow, Touched, Traced, Data, Event, Shadows}
use Rattle.sym_run.specs.declared.asked.Asked.{Asked}
use Rattle.sym_run.specs.declared.symbols.Symbol.{Symbol}
use Rattle.sym_run.specs.declared.objects.First.{First}
use Rattle.sym_run.specs.declared.objects.Objects.{Objects}
use Rattle.sym_run.specs.Accesses.{MayHold, with_touched}
use Rattle.sym_run.specs.Asks.{asked_of}
use Rattle.sym_run.specs.Beside.{IsValue, value_of, traced_of}
use Rattle.sym_run.specs.Blocks.{values_from, named_in, IsLaidOut}
use Rattle.sym_run.specs.Follows.{HasBlocks, accessed, Reaches, Follows}
use Rattle.sym_run.specs.Numbers.{Grows}
use Rattle.sym_run.specs.Pointers.{place_in, blank}
use Rattle.sym_run.specs.Remembers.{Suits, IsPointed, IsNew, IsKnown, name_of, names_in, touched_seen, cell_shadow, Remembers}
use Rattle.sym_run.proofs.BlockLaws.{get_dropped}
use Rattle.sym_run.proofs.MemoryLaws.{Addressed, abs_back, cell_append, remembers_append, known_append, known_touched}
use Rattle.sym_run.proofs.PointerLaws.{access_blank}

-- ---- names of touched blocks

pub found_in : (bs : List TouchedBlock) (a : ℤ) (r : ℕ) → slice_get (map address_of bs) r ≡ Some a → In (nat_abs a) (map name_of bs)
found_in [] a r e = absurd (cc e)
found_in (b ∷ bs) a zero e = inl (ap nat_abs (sym (same_Some b.address a e)))
found_in (b ∷ bs) a (suc r) e = inr (found_in bs a r e)

pub not_in : (bs : List TouchedBlock) (a : ℤ) → Addressed bs → pos 0 ≤ℤ a → (IsTouched a bs → ⊥) → In (nat_abs a) (map name_of bs) → ⊥
not_in [] a p q n i = i
not_in (b ∷ bs) a p q n (inl e) = n (inl (abs_back b.address p.0 ∙ ap pos (sym e) ∙ sym (abs_back a q)))
not_in (b ∷ bs) a p q n (inr i) = not_in bs a p.1 q (λ t. n (inr t)) i

has_in : (n : ℕ) (l : List ℕ) → In n l → plain.has n l ≡ true
unfolding plain.has
has_in n [] i = absurd i
has_in n (m ∷ l) (inl e) = ap (λ (b : Bool). b || plain.has n l) (is_same n m e)
has_in n (m ∷ l) (inr i) = pick (nat_eq n m) (has_in n l i)
  where
    pick : (b : Bool) → plain.has n l ≡ true → (b || plain.has n l) ≡ true
    pick true h = refl
    pick false h = h

has_not : (n : ℕ) (l : List ℕ) → (In n l → ⊥) → plain.has n l ≡ false
unfolding plain.has
has_not n [] h = refl
has_not n (m ∷ l) h = ap (λ (b : Bool). b || plain.has n l) (not_same n m (λ e. h (inl e))) ∙ has_not n l (λ i. h (inr i))

rank_in : (n : ℕ) (l : List ℕ) → In n l → plain.rank n l < length l
unfolding plain.rank
rank_in n [] i = absurd i
rank_in n (m ∷ l) (inl e) = pick (nat_eq n m) (is_same n m e)
  where
    pick : (b : Bool) → b ≡ true → (if b then 0 else suc (plain.rank n l)) < suc (length l)
    pick true h = omega arith
    pick false h = absurd (cc h)
rank_in n (m ∷ l) (inr i) = pick (nat_eq n m) (rank_in n l i)
  where
    pick : (b : Bool) → plain.rank n l < length l → (if b then 0 else suc (plain.rank n l)) < suc (length l)
    pick true h = omega arith
    pick false h = omega (arith, h)

rank_not : (n : ℕ) (l : List ℕ) → (In n l → ⊥) → plain.rank n l ≡ length l
unfolding plain.rank
rank_not n [] h = refl
rank_not n (m ∷ l) h = ap (λ (b : Bool). if b then 0 else suc (plain.rank n l)) (not_same n m (λ e. h (inl e))) ∙ ap suc (rank_not n l (λ i. h (inr i)))

touch_in : (n : ℕ) (l : List ℕ) → In n l → plain.touch n l ≡ l
unfolding plain.touch
touch_in n l i = ap (λ (b : Bool). if b then l else l ++ n ∷ []) (has_in n l i)

touch_not : (n : ℕ) (l : List ℕ) → (In n l → ⊥) → plain.touch n l ≡ l ++ n ∷ []
unfolding plain.touch
touch_not n l i = ap (λ (b : Bool). if b then l else l ++ n ∷ []) (has_not n l i)

-- ---- shadows of touched blocks

is_below : (m n : ℕ) → m < n → nat_lt m n ≡ true
is_below m n h = sym (ltb_from_iff (λ e. h, λ l. refl))

not_below : (m n : ℕ) → n ≤ m → nat_lt m n ≡ false
not_below m n h = sym (ltb_from_iff (λ e. absurd (cc e), λ l. absurd (omega (arith, h, l))))

module _ (f : ℕ → List core.Cell) where
  by_old : (k : ℕ) (s : Shadow) (h : Shadows) → k < length h.touched → traced.touch_by linear f (Object k) s h ≡ h
  unfolding traced.touch_by
  by_old k (traced.form g) h l = refl
  by_old k traced.none h l = refl
  by_old k (traced.place p t) h l = ap (λ (b : Bool). if b then h else traced.touch linear f p t h) (is_below k (length h.touched) l)

  by_new : (k p t : ℕ) (h : Shadows) → length h.touched ≤ k → traced.touch_by linear f (Object k) (traced.place p t) h ≡ traced.touch linear f p t h
  unfolding traced.touch_by
  by_new k p t h l = ap (λ (b : Bool). if b then h else traced.touch linear f p t h) (not_below k (length h.touched) l)

  -- the data after an access to a block, by its name and what stands beside the pointer
  abbrev pub after_access : ℕ → Shadow → Data → Data
  after_access n s d = record { plain = record d.plain { touched = plain.touch n (d.plain).touched }; shadows = traced.touch_by linear f (Object (plain.rank n (d.plain).touched)) s d.shadows }

seen_length : (symbols : List Symbol) (fs : List First) (bs : List TouchedBlock) → length fs ≡ length bs → length (touched_seen symbols fs bs) ≡ length (map name_of bs)
seen_length symbols [] [] l = refl
seen_length symbols [] (b ∷ bs) l = absurd (omega (arith, l))
seen_length symbols (f ∷ fs) [] l = absurd (omega (arith, l))
seen_length symbols (f ∷ fs) (b ∷ bs) l = ap suc (seen_length symbols fs bs (omega (arith, l)))

module _ (f : ℕ → List core.Cell) (start : plain.Data) (named : List Named) (symbols : List Symbol) (o : Objects) (d : Data) (r : Remembers start named symbols o d) (n : ℕ) (s : Shadow) where
  count_seen : length (d.shadows).touched ≡ length (d.plain).touched
  count_seen = ap length r.touched_shadows ∙ seen_length symbols o.firsts (o.memory).touched r.firsts ∙ sym (ap length r.touched)

  -- a touched block changes nothing
  pub after_old : In n (names_in o) → d ≡ after_access f n s d
  after_old i =
      let inside : In n (d.plain).touched = subst (λ (l : List ℕ). In n l) (sym r.touched) i in
      let low = rank_in n (d.plain).touched inside in
      let below : plain.rank n (d.plain).touched < length (d.shadows).touched = subst (λ (m : ℕ). plain.rank n (d.plain).touched < m) (sym count_seen) low in
      sym (ap₂ (λ (l : List ℕ) (h : Shadows). (let e : Data = record { plain = record d.plain { touched = l }; shadows = h } in e)) (touch_in n (d.plain).touched inside) (by_old f (plain.rank n (d.plain).touched) s d.shadows below))

  -- another one is touched by the pointer's place
  pub after_new : (k : First) → s ≡ traced.place k.place.0 k.ty.0 → (In n (names_in o) → ⊥) → with_touched f n k d ≡ after_access f n s d
  after_new k e i =
      let outside : In n (d.plain).touched → ⊥ = λ j. i (subst (λ (l : List ℕ). In n l) r.touched j) in
      let high : plain.rank n (d.plain).touched ≡ length (d.plain).touched = rank_not n (d.plain).touched outside in
      let past : length (d.shadows).touched ≤ plain.rank n (d.plain).touched = omega (arith, high, count_seen) in
      sym (ap₂ (λ (l : List ℕ) (h : Shadows). (let e : Data = record { plain = record d.plain { touched = l }; shadows = h } in e)) (touch_not n (d.plain).touched outside)
      (ap (λ (x : Shadow). traced.touch_by linear f (Object (plain.rank n (d.plain).touched)) x d.shadows) e ∙ by_new f (plain.rank n (d.plain).touched) k.place.0 k.ty.0 d.shadows past))

-- ---- the traced event

abbrev pub block_event : (ℕ → List core.Cell) → Shadow → ℕ → ℕ → Data → Acted Traced Data Event
block_event f s n i d = record {
  event = record { outcome = Object (plain.rank n (d.plain).touched); asked = traced.access_asked s (d.shadows).touched; places = (d.shadows).places };
  value = record { plain = plain.at (plain.block n) i; shadow = traced.reached_shadow (Object (plain.rank n (d.plain).touched)) s ((after_access f n s d).shadows).touched };
  after = after_access f n s d;
}

block_access : (f : ℕ → List core.Cell) (s : Shadow) (n i : ℕ) (d : Data) → traced.act linear f (act_access (record { plain = plain.at (plain.block n) i; shadow = s })) d ≡ block_event f s n i d
unfolding traced.act traced.asked_of traced.plain_of traced.after_shadows traced.value_shadow plain.act plain.access_in plain.acted
block_access f s n i d = refl

pub block_accessed : (f : ℕ → List core.Cell) (symbols : List Symbol) (at : Cell) (a : ℤ) (i : ℕ) (d : Data) → at.value ≡ Block a i → accessed f symbols at d ≡ block_event f (cell_shadow symbols at) (nat_abs a) i d
block_accessed f symbols at a i d is =
    ap (λ (v : Value). traced.act linear f (act_access (record { plain = value_of v; shadow = cell_shadow symbols at })) d) is ∙ block_access f (cell_shadow symbols at) (nat_abs a) i d

-- NULL, which is no object, and an object that the run made
abbrev pub still : Value → Outcome
still (Made n i) = Plain
still (Int z) = Zero
still Null = Zero
still (Block a i) = Zero

abbrev pub NoBlock : Value → Type 0
NoBlock (Block a i) = ⊥
NoBlock (Int z) = Unit {0}
NoBlock Null = Unit {0}
NoBlock (Made n i) = Unit {0}

abbrev pub still_event : Shadow → Value → Data → Acted Traced Data Event
still_event s v d = record {
  event = record { outcome = still v; asked = traced.access_asked s (d.shadows).touched; places = (d.shadows).places };
  value = record { plain = value_of v; shadow = s };
  after = d;
}

still_access : (f : ℕ → List core.Cell) (s : Shadow) (v : Value) (d : Data) → NoBlock v → traced.act linear f (act_access (record { plain = value_of v; shadow = s })) d ≡ still_event s v d
unfolding traced.act traced.asked_of traced.plain_of traced.after_shadows traced.value_shadow traced.touch_by traced.reached_shadow plain.act plain.access_in plain.acted
still_access f s (Int z) d h = refl
still_access f s Null d h = refl
still_access f s (Made n i) d h = refl
still_access f s (Block a i) d h = absurd h

-- ---- what stands beside a reached pointer

suits_first : (b : Option Touched) (s : Shadow) (v : Value) → Suits s v → Suits (traced.first_of b s) v
unfolding traced.first_of
suits_first None (traced.form g) v h = h
suits_first None (traced.place p t) v h = h
suits_first None traced.none v h = h
suits_first (Some b) (traced.form g) v h = h
suits_first (Some b) (traced.place p t) v h = h
suits_first (Some b) traced.none v h = h

suits_reached : (k : ℕ) (s : Shadow) (l : List Touched) (v : Value) → Suits s v → Suits (traced.reached_shadow (Object k) s l) v
unfolding traced.reached_shadow
suits_reached k s l v h = suits_first (slice_get l k) s v h

pub reaches_by : (f : ℕ → List core.Cell) (start : plain.Data) (named : List Named) (symbols mid new : List Symbol) (o p : Objects) (d e : Data) (at cell : Cell) (a : ℤ) (i k : ℕ)
    → at.value ≡ Block a i → IsKnown named (names_in o) symbols at → k ≡ plain.rank (nat_abs a) (d.plain).touched
    → e ≡ after_access f (nat_abs a) (cell_shadow symbols at) d → Remembers start named mid p e → Grows symbols mid → Grows mid new → In (nat_abs a) (names_in p)
    → traced_of new cell ≡ record { plain = value_of at.value; shadow = traced.reached_shadow (Object k) (cell_shadow mid at) (e.shadows).touched }
    → cell.value ≡ at.value → (at.shadow ≤ length mid → cell.shadow ≤ length new)
    → Reaches start named new p cell (accessed f symbols at d)
reaches_by f start named symbols mid new o p d e at cell a i k is known rank same after first more inside value kept shadow =
    let n : ℕ = nat_abs a in
    let s : Shadow = cell_shadow symbols at in
    let beside : cell_shadow mid at ≡ s = subst (λ (l : List Symbol). cell_shadow l at ≡ s) (sym first.1) (cell_append symbols first.0 at known.cell) in
    let seen : cell_shadow new cell ≡ traced.reached_shadow (Object k) (cell_shadow mid at) (e.shadows).touched = ap (λ (t : Traced). t.shadow) value in
    let low : at.shadow ≤ length mid = omega (arith, known.cell.known, ap length first.1, length-append symbols first.0) in
    let its : traced_of new cell ≡ (block_event f s n i d).value = value
    ∙ ap (λ (v : Value). (let t : Traced = record { plain = value_of v; shadow = traced.reached_shadow (Object k) (cell_shadow mid at) (e.shadows).touched } in t)) is
    ∙ ap₂ (λ (m : ℕ) (x : Shadow). (let t : Traced = record { plain = plain.at (plain.block n) i; shadow = traced.reached_shadow (Object m) x (e.shadows).touched } in t)) rank beside
    ∙ ap (λ (x : Data). (let t : Traced = record { plain = plain.at (plain.block n) i; shadow = traced.reached_shadow (Object (plain.rank n (d.plain).touched)) s (x.shadows).touched } in t)) same in
    subst (λ (w : Acted Traced Data Event). Reaches start named new p cell w) (sym (block_accessed f symbols at a i d is)) (record {
      value = its;
      after = subst (λ (x : Data). Remembers start named new p x) same (subst (λ (l : List Symbol). Remembers start named l p e) (sym more.1) (remembers_append start named mid more.0 p e after));
      known = record {
        cell = record { known = shadow low; value = subst (λ (v : Value). IsValue v) (sym kept) known.cell.value };
        kind = subst (λ (v : Value). Suits (cell_shadow new cell) v) (sym kept) (subst (λ (x : Shadow). Suits x at.value) (sym seen)
            (suits_reached k (cell_shadow mid at) (e.shadows).touched at.value (subst (λ (x : Shadow). Suits x at.value) (sym beside) known.kind)));
        pointer = subst (λ (v : Value). IsPointed named (names_in p) (cell_shadow new cell) v) (sym (kept ∙ is)) (inl inside);
      };
    })

module _ (f : ℕ → List core.Cell) (start : plain.Data) (named : List Named) (symbols mid new : List Symbol) (o p : Objects) (d : Data) (r : Remembers start named symbols o d) (at cell : Cell) (a : ℤ) (i k : ℕ) (is : at.value ≡ Block a i) (known : IsKnown named (names_in o) symbols at)
    (rank : k ≡ plain.rank (nat_abs a) (names_in o)) (more : Grows mid new)
    (value : (e : Data) → Remembers start named mid p e → traced_of new cell ≡ record { plain = value_of at.value; shadow = traced.reached_shadow (Object k) (cell_shadow mid at) (e.shadows).touched }) (kept : cell.value ≡ at.value) (shadow : at.shadow ≤ length mid → cell.shadow ≤ length new) where
  its_rank : k ≡ plain.rank (nat_abs a) (d.plain).touched
  its_rank = rank ∙ ap (plain.rank (nat_abs a)) (sym r.touched)

  -- a block that was touched
  pub enters_old : In (nat_abs a) (names_in o) → Remembers start named mid p d → Grows symbols mid → In (nat_abs a) (names_in p) → Reaches start named new p cell (accessed f symbols at d)
  enters_old inside after first there =
      reaches_by f start named symbols mid new o p d d at cell a i k is known its_rank (after_old f start named symbols o d r (nat_abs a) (cell_shadow symbols at) inside) after first more there (value d after) kept shadow

  -- another one
  pub enters_new : (IsTouched a (o.memory).touched → ⊥)
      → ((q : First) → Some q ≡ place_in (cell_shadow symbols at) → pos 0 ≤ℤ a → In (record { address = nat_abs a; type = q.ty.0 }) named → Remembers start named mid p (with_touched f (nat_abs a) q d))
      → names_in p ≡ names_in o ++ nat_abs a ∷ [] → Grows symbols mid → Reaches start named new p cell (accessed f symbols at d)
  enters_new untouched touched names first = by_pointer (subst (λ (v : Value). IsPointed named (names_in o) (cell_shadow symbols at) v) is known.pointer)
    where
      low : pos 0 ≤ℤ a
      low = subst (λ (v : Value). IsValue v) is known.cell.value

      outside : In (nat_abs a) (names_in o) → ⊥
      outside = not_in (o.memory).touched a r.addresses low untouched

      there : In (nat_abs a) (names_in p)
      there = subst (λ (l : List ℕ). In (nat_abs a) l) (sym names) (in_right (nat_abs a) (names_in o) (nat_abs a ∷ []) (inl refl))

      by_place : (q : First) → cell_shadow symbols at ≡ traced.place q.place.0 q.ty.0 → Remembers start named mid p (with_touched f (nat_abs a) q d) → Reaches start named new p cell (accessed f symbols at d)
      by_place q beside after = reaches_by f start named symbols mid new o p d (with_touched f (nat_abs a) q d) at cell a i k is known its_rank
          (after_new f start named symbols o d r (nat_abs a) (cell_shadow symbols at) q beside outside) after first more there (value (with_touched f (nat_abs a) q d) after) kept shadow

      by_pointer : In (nat_abs a) (names_in o) ⊎ IsNew named (cell_shadow symbols at) (nat_abs a) i → Reaches start named new p cell (accessed f symbols at d)
      by_pointer (inl j) = absurd (outside j)
      by_pointer (inr x) = let q : First = record { place = record { 0 = x.by }; ty = record { 0 = x.type } } in by_place q x.beside (touched q (sym (ap place_in x.beside)) low x.listed)

-- ---- the whole event

pub asked_is : (start : plain.Data) (named : List Named) (symbols : List Symbol) (o : Objects) (d : Data) → Remembers start named symbols o d → (x : traced.Asked) (s : Shadow) (fs : List First) → x ≡ traced.access_asked s (map blank fs) → fs ≡ o.firsts → x ≡ traced.access_asked s (d.shadows).touched
asked_is start named symbols o d r x s fs e same =
    e ∙ ap (λ (l : List First). traced.access_asked s (map blank l)) same ∙ access_blank symbols s o.firsts (o.memory).touched r.firsts ∙ ap (λ (l : List Touched). traced.access_asked s l) (sym r.touched_shadows)

pub enters : (f : ℕ → List core.Cell) (start : plain.Data) (named : List Named) (symbols new : List Symbol) (o p : Objects) (d : Data) (at cell : Cell) (a : ℤ) (i k : ℕ) (x : Asked)
    → Remembers start named symbols o d → at.value ≡ Block a i → asked_of x ≡ traced.access_asked (cell_shadow symbols at) (d.shadows).touched → k ≡ plain.rank (nat_abs a) (names_in o)
    → Reaches start named new p cell (accessed f symbols at d) → Follows start named new p (record { outcome = Object k; asked = x; cell = cell }) (accessed f symbols at d)
enters f start named symbols new o p d at cell a i k x r is asks rank reaches =
    let it : block_event f (cell_shadow symbols at) (nat_abs a) i d ≡ accessed f symbols at d = sym (block_accessed f symbols at a i d is) in record {
      outcome = ap Object (rank ∙ ap (plain.rank (nat_abs a)) (sym r.touched)) ∙ ap (λ (w : Acted Traced Data Event). (w.event).outcome) it;
      asked = asks ∙ ap (λ (w : Acted Traced Data Event). (w.event).asked) it;
      reaches = reaches;
    }

pub stays : (f : ℕ → List core.Cell) (start : plain.Data) (named : List Named) (symbols : List Symbol) (o : Objects) (d : Data) (at : Cell) (v : Value) (t : Outcome) (x : Asked)
    → Remembers start named symbols o d → IsKnown named (names_in o) symbols at → at.value ≡ v → NoBlock v → t ≡ still v → asked_of x ≡ traced.access_asked (cell_shadow symbols at) (d.shadows).touched
    → Follows start named symbols o (record { outcome = t; asked = x; cell = at }) (accessed f symbols at d)
stays f start named symbols o d at v t x r known is other same asks =
    let it : accessed f symbols at d ≡ still_event (cell_shadow symbols at) v d =
    ap (λ (u : Value). traced.act linear f (act_access (record { plain = value_of u; shadow = cell_shadow symbols at })) d) is ∙ still_access f (cell_shadow symbols at) v d other in
    subst (λ (w : Acted Traced Data Event). Follows start named symbols o (record { outcome = t; asked = x; cell = at }) w) (sym it) (record {
      outcome = same;
      asked = asks;
      reaches = record {
        value = ap (λ (u : Value). (let y : Traced = record { plain = value_of u; shadow = cell_shadow symbols at } in y)) is;
        after = r;
        known = known;
      };
    })

-- ---- a block that is taken in

module _ (tys : List (List CellTy)) (h : Input) (f : ℕ → List core.Cell) (named : List Named) (start : plain.Data) (b : HasBlocks tys h f named start) where
  pub new_touched : (S : List Symbol) (o : Objects) (d : Data) (p k : First) (a z : ℤ) (layout : List CellTy) (numbers : List ℤ) (s : Shadow)
      → Some p ≡ place_in s → Some k ≡ place_in s → layout ≡ unwrap_or (slice_get tys p.ty.0) [] → numbers ≡ drop (nat_abs a - 1) h.cells → z ≡ a → pos 0 ≤ℤ a → In (record { address = nat_abs a; type = k.ty.0 }) named
      → (f p.ty.0 ≡ map cell_of layout → pos 0 ≤ℤ z → start.blocks (nat_abs z) ≡ values_from (map cell_of layout) numbers
      → ((i : ℕ) (c : CellTy) (y : ℤ) → slice_get layout i ≡ Some c → slice_get numbers i ≡ Some y → MayHold named c y) → Remembers start named S o (with_touched f (nat_abs z) p d))
      → Remembers start named S o (with_touched f (nat_abs a) k d)
  new_touched S o d p k a z layout numbers s at_p at_k layed counted same low listed touched =
      let one : p ≡ k = same_Some p k (at_p ∙ sym at_k) in
      let it : Named = record { address = nat_abs a; type = p.ty.0 } in
      let inside : In it named = subst (λ (q : First). In (record { address = nat_abs a; type = q.ty.0 }) named) (sym one) listed in
      let types : f p.ty.0 ≡ map cell_of layout = b.types p.ty.0 ∙ ap (map cell_of) (sym layed) in
      let values : start.blocks (nat_abs a) ≡ values_from (map cell_of layout) numbers = b.values it inside ∙ ap₂ values_from types (sym counted) in
      let cells : (i : ℕ) (c : CellTy) (y : ℤ) → slice_get layout i ≡ Some c → slice_get numbers i ≡ Some y → MayHold named c y =
      λ i c y u v. b.cells it inside i c y (ap (λ (l : List core.Cell). slice_get l i) types ∙ slice_get-map cell_of layout i ∙ ap (option_map cell_of) u) (ap (λ (l : List ℤ). slice_get l i) (sym counted) ∙ v) in
      let whole : Remembers start named S o (with_touched f (nat_abs z) p d) =
      touched types (subst (λ (y : ℤ). pos 0 ≤ℤ y) (sym same) low) (subst (λ (y : ℤ). start.blocks (nat_abs y) ≡ values_from (map cell_of layout) numbers) (sym same) values) cells in
      subst (λ (q : First). Remembers start named S o (with_touched f (nat_abs a) q d)) one (subst (λ (y : ℤ). Remembers start named S o (with_touched f (nat_abs y) p d)) same whole)

-- ---- a canonical input's blocks

within_words : (b : Limits) (z : ℤ) → negsuc 2147483647 ≤ℤ b.lo → b.hi ≤ℤ pos 2147483647 → b.lo ≤ℤ z → z ≤ℤ b.hi → (negsuc 2147483647 ≤ℤ z) × (z ≤ℤ pos 2147483647)
within_words b z l m p q = (omega (arith, ints), omega (arith, ints))

pub has_blocks : (tys : List (List CellTy)) (f : ℕ → List core.Cell) (b : Limits) (params : List core.Cell) (globals : List plain.Value) (base : ℤ) (h : Input)
    → ((t : ℕ) → f t ≡ map cell_of (unwrap_or (slice_get tys t) [])) → negsuc 2147483647 ≤ℤ b.lo → b.hi ≤ℤ pos 2147483647 → IsLaidOut f b params globals base h
    → HasBlocks tys h f (named_in f params h) (plain.data_of f params globals h.cells h.stream base)
has_blocks tys f b params globals base h types low high laid = record {
  types = types;
  values = laid.block_values;
  cells = by_type;
}
  where
    by_type : (k : Named) → In k (named_in f params h) → (i : ℕ) (c : CellTy) (z : ℤ) → slice_get (f k.type) i ≡ Some (cell_of c) → slice_get (drop (k.address - 1) h.cells) i ≡ Some z → MayHold (named_in f params h) c z
    by_type k j i cell.Int z e q = let w = laid.numbers_within k j i z e (sym (get_dropped (k.address - 1) h.cells i) ∙ q) in within_words b z low high w.0 w.1
    by_type k j i (cell.Ptr t) z e q = laid.pointers_named k j i t.0 z e (sym (get_dropped (k.address - 1) h.cells i) ∙ q)

-- what is known of a cell stays when symbols are added and blocks touched
pub known_kept : (named : List Named) (touched now more : List ℕ) (symbols new : List Symbol) (c : Cell) → now ≡ touched ++ more → Grows symbols new → IsKnown named touched symbols c → IsKnown named now new c
known_kept named touched now more symbols new c names grown known =
    subst (λ (l : List ℕ). IsKnown named l new c) (sym names) (subst (λ (l : List Symbol). IsKnown named (touched ++ more) l c) (sym grown.1) (known_append named (touched ++ more) symbols grown.0 c (known_touched named touched more symbols c known)))

-- ---- results

pub both_ok : {A E G : Type 0} {P Q R : A → Type 0} (r : Result A E) → IfOk r P → IfOk r Q → OnOk r G → ((x : A) → P x → Q x → G → R x) → IfOk r R
both_ok (Ok x) p q g f = f x p q g
both_ok (Err e) p q g f = tt
