-- A run beside its own input: what its operations keep and take.
use Rattle.std.proofs.Common.{◌≡◌, ◌≢◌, ◌+◌, inl, inr, ℕ, zero, suc, ℤ, Bool, true, false, List, [], ◌∷◌, ◌++◌, length, Option, IsSome, Some, slice_get, nat_lt, if◌then◌else◌, append-nil, append_assoc, refl, sym, ap, subst, ◌∙◌, arith}
use Rattle.std.specs.Option.{option_and_then}
use Rattle.cc_base.specs.declared.cells.CellTy.TheVariants as cell
use Rattle.cc_base.specs.declared.inputs.Input.{Input}
use Rattle.cc_base.specs.declared.outcomes.Outcome.{Outcome}
use Rattle.cc_base.specs.declared.outcomes.Outcome.TheVariants.{Zero, High, Low, Plain, False, True, Object}
use Rattle.cc_base.specs.Forms as asked
use Rattle.cc_base.specs.Forms.{Atom, nothing, differ}
use Rattle.cc_base.specs.Holds.{Meets}
use Rattle.cc_base.specs.Paths.{In}
use Rattle.cc_base.specs.Places.{Placed, stream, ParentsFirst, at_place, value_there}
use Rattle.cc_model.specs.declared.checked.SiteKind.{SiteKind}
use Rattle.cc_model.specs.declared.terms.TermKind.{TermKind}
use Rattle.cc_model.specs.Conditions.{last_state, taken, alternatives, outcomes_of, atoms_of}
use Rattle.cc_model.specs.Core.{Cell, int_cell, ptr_cell, Layout}
use Rattle.cc_model.specs.Domain.{Act, act_arith, act_divisor, act_negate, act_compare, act_test, act_access, act_index, Acted}
use Rattle.cc_model.specs.FormOperations.{Forms, Laws}
use Rattle.cc_model.specs.Meaning.{Entry, State, Result, ok, over, Fixed}
use Rattle.cc_model.specs.Runs.{Begin, run}
use Rattle.cc_model.specs.Plain as base
use Rattle.cc_model.specs.Plain.{Value, num, null, at, block, made, number_of, rank}
use Rattle.cc_model.specs.Traced as on
use Rattle.cc_model.specs.Traced.{Traced, Data, Shadow, form, place, none, Spot, in_made, in_touched, nowhere, spot_of, Touched, Shadows, Choice, Asked, asks_nothing, one_of, term, Event, Formed, plain_number, formed, termed, cell_ty, traced}
use Rattle.sym_expr.proofs.PlaceLaws.{at_place-is, ParentsFirst-push}
use Rattle.cc_laws.proofs.Exact.{outcome_tells}
use Rattle.cc_laws.proofs.Numbers.{Each, Some_of}
use Rattle.cc_laws.proofs.Ranks.{bool_cases}
use Rattle.cc_laws.proofs.Related.{SameAct, Gives}
use Rattle.cc_laws.proofs.Lockstep.{Typed, World, le_same, le_trans, Lock, ValueAt, LocAt, PlaceAt, later_value, later_location, Fair, Part, at_term, apart, number_fits, number_at, null_at, address_at, offset_at, global_at, load_at, store_at, make_at, take_at, act_at}
use Rattle.cc_laws.proofs.Lockstep as lock
use Rattle.sym_run.specs.Placing.{IsPointerTo, NameAtoms}
use Rattle.sym_run.proofs.KeptLaws.{OfAll}
use Rattle.sym_run.proofs.KeptLaws as kept
use Rattle.sym_run.proofs.PlacedLaws.{Good, NameAsked, IsPlaced, load_good, store_grown, take_grown, make_grown, make_good, act_named, act_grown, act_good, number_good, nil_good, offset_good, taken_named, others_named}
use Rattle.run_laws.proofs.GoesLaws.{OfAct, GivesIt, Going, Ends, Any, main_runs}
use Rattle.run_laws.proofs.PastLaws.{get_front, in_back, pointer_later, FirstAt, PointsAt, ValuedAt, Past, past_atoms, past_same, past_stream, past_touch}
use Rattle.run_laws.proofs.AccessLaws.{access_end, in_differs, is_first_at, rank_most, points_block, block_value, touched_count, first_reached, HasValue, block_valued}
use Rattle.run_laws.proofs.EventLaws.{atoms_in, atoms_append, Facts, facts_later, facts_append}

-- ---- what an event takes

told_atoms : (value : ℕ → Option ℤ) (cs : List Choice) (o : Outcome) → Each value cs o → Some_of cs o → Meets value (atoms_of o cs)
unfolding atoms_of
told_atoms value [] o e s = absurd s
told_atoms value (c ∷ cs) o e s = elim (outcome_tells c.outcome o) [
  | inl q ↦ subst (λ t. Meets value (if t then c.atoms else atoms_of o cs)) (sym q.0) ((e.0).0 q.1)
  | inr q ↦ subst (λ t. Meets value (if t then c.atoms else atoms_of o cs)) (sym q.0) (told_atoms value cs o e.1 (rest q.1 s))
]
  where
    rest : c.outcome ≢ o → Some_of (c ∷ cs) o → Some_of cs o
    rest n (inl i) = absurd (n i)
    rest n (inr i) = i

taken_nothing : (e : Event) (k : TermKind) → e.asked ≡ term k → taken e ≡ []
unfolding taken
taken_nothing e k q = ap (λ z. elim z [ one_of ds ↦ atoms_of e.outcome ds | _ ↦ [] ]) q

each_in : (P : Choice → Type 0) (cs : List Choice) → kept.Each P cs → (c : Choice) → In c cs → P c
each_in P [] h c i = absurd i
each_in P (x ∷ cs) h c (inl e) = subst P (sym e) h.0
each_in P (x ∷ cs) h c (inr i) = each_in P cs h.1 c i

event_names : (e : Event) → NameAsked e.places e.asked → NameAtoms e.places (taken e)
event_names e h = taken_named e.places e.outcome e.asked e.places h

event_choices : (e : Event) → NameAsked e.places e.asked → (c : Choice) → In c (outcomes_of e) → NameAtoms e.places c.atoms
event_choices e h c (inl q) = subst (λ (x : Choice). NameAtoms e.places x.atoms) (sym q) (event_names e h)
event_choices e h c (inr i) = each_in (λ x. NameAtoms e.places x.atoms) (alternatives e) (others_named e.places e.outcome e.asked e.places h) c i

-- ---- what stays

good_later : (l m : List Placed) (s : Shadow) → Good l s → Good (l ++ m) s
good_later l m (form g) h = λ p i. (let n = h p i in (n.0, get_front l m p _ n.1))
good_later l m (place p t) h = pointer_later l m p t h
good_later l m none h = tt

set_first : (bs : List Touched) (r c : ℕ) (v : Shadow) (q t : ℕ) → FirstAt q t bs → FirstAt q t (on.set_touched bs r c v)
unfolding on.set_touched
set_first [] r c v q t h = h
set_first (b ∷ bs) zero c v q t (inl h) = inl h
set_first (b ∷ bs) zero c v q t (inr h) = inr h
set_first (b ∷ bs) (suc r) c v q t (inl h) = inl h
set_first (b ∷ bs) (suc r) c v q t (inr h) = inr (set_first bs r c v q t h)

first_set : (bs : List Touched) (r c : ℕ) (v : Shadow) (q t : ℕ) → FirstAt q t (on.set_touched bs r c v) → FirstAt q t bs
unfolding on.set_touched
first_set [] r c v q t h = h
first_set (b ∷ bs) zero c v q t (inl h) = inl h
first_set (b ∷ bs) zero c v q t (inr h) = inr h
first_set (b ∷ bs) (suc r) c v q t (inl h) = inl h
first_set (b ∷ bs) (suc r) c v q t (inr h) = inr (first_set bs r c v q t h)

store_count : (p v : Value) (d : base.Data) → (base.store p v d).count ≡ d.count
unfolding base.store base.with_cells
store_count (num z) v d = refl
store_count null v d = refl
store_count (at (block a) c) v d = refl
store_count (at (made n) c) v d = refl

access_count : (v : Value) (d : base.Data) → (base.access_in v d).after.count ≡ d.count
unfolding base.access_in base.acted
access_count (num z) d = refl
access_count null d = refl
access_count (at (block a) c) d = refl
access_count (at (made n) c) d = refl

-- a world with the atoms that were taken
pub record Now : Type 0 where
  pub world : World
  pub atoms : List Atom

module _ (f : Forms) (laws : Laws f) (layout : ℕ → List Cell) (params : List Cell) (globals : List Value) (b : ℤ) (u : Input) (d : base.Data) (ty : Typed layout params globals b u d) where
  abbrev pub Lk : World → Data → Type 0
  Lk w x = Lock layout params globals b u u d d ty ty w x x

  abbrev At : World → ℕ → ℕ → Value → Type 0
  At w p t v = PlaceAt layout params globals b u u d d ty ty w p t v v

  abbrev Val : World → Traced → Type 0
  Val w v = ValueAt layout params globals b u u d d ty ty w v v

  abbrev Loc : World → Traced → Type 0
  Loc w v = LocAt layout params globals b u u d d ty ty w v v

  abbrev PastAt : Shadows → ℕ → List Atom → Type 0
  PastAt s n c = Past params layout u b ty.type ty.named s.places s.touched n c

  abbrev pub PastOf : Data → List Atom → Type 0
  PastOf x c = PastAt x.shadows x.plain.count c

  abbrev Placed_at : Shadows → Type 0
  Placed_at s = IsPlaced params layout f laws s

  -- ---- a block that is touched

  pub cell_valued : (w : World) (n : ℕ) (k : Cell) → HasValue f laws layout params globals b u d ty w n k → ValuedAt params layout u b ty.type ty.named w.places n (cell_ty k)
  unfolding cell_ty
  cell_valued w n int_cell h = h
  cell_valued w n (ptr_cell t) h = h

  touched_past : (w : World) (x : Data) (now : base.Data) (p t : ℕ) (c : List Atom) → Lk w (record { plain = now; shadows = on.touch f layout p t x.shadows }) → PointsAt x.shadows.places p t → ((s : ℕ) → FirstAt p s x.shadows.touched → ⊥)
      → In (differ (asked.at p) nothing) c → ((r : ℕ) → FirstAt r t x.shadows.touched → In (differ (asked.at p) (asked.at r)) c) → PastOf x c → PastAt (on.touch f layout p t x.shadows) x.plain.count c
  unfolding on.touch
  touched_past w x now p t c l pt fresh due ne k =
      let s : Shadows = x.shadows in
      let n : Touched = record { first = p; type = t; shadows = on.cell_shadows f (length s.places) (layout t) } in
      past_touch params layout u b ty.type ty.named s.places s.touched x.plain.count c p t n refl refl (subst ParentsFirst (sym l.places) w.parents) pt fresh due ne
      (λ j k e. subst (λ z. ValuedAt params layout u b ty.type ty.named z (length s.places + j) (cell_ty k)) (sym l.places)
      (cell_valued w (length s.places + j) k (block_valued f laws layout params globals b u d ty w _ s.touched n (length s.places) (layout t) l refl refl j k e)))
      k

  -- ---- an access through a place

  next_atoms : (x : Data) (p t r : ℕ) → on.is_first p x.shadows.touched ≡ false → r ≡ length x.shadows.touched
      → taken (record { outcome = Object r; asked = on.access_asked (place p t) x.shadows.touched; places = x.shadows.places }) ≡ differ (asked.at p) nothing ∷ on.differs p t x.shadows.touched
  unfolding taken on.access_asked
  next_atoms x p t r e i =
      ap (λ z. elim (if z then asks_nothing else one_of (on.access_choices p t x.shadows.touched)) [ one_of ds ↦ atoms_of (Object r) ds | _ ↦ [] ]) e
      ∙ ap (λ m. atoms_of (Object m) (on.access_choices p t x.shadows.touched)) i ∙ access_end p t x.shadows.touched

  abbrev accessed : Value → Shadow → Data → Acted Traced Data Event
  accessed v s x = on.act f layout (act_access (record { plain = v; shadow = s })) x

  block_past : (w w' : World) (x : Data) (p t n : ℕ) (c : List Atom) → At w p t (at (block (suc n)) 0) → Lk w x → IsPointerTo x.shadows.places p t → Lk w' (accessed (at (block (suc n)) 0) (place p t) x).after
      → Meets (at_place x.shadows.places u b) (taken (accessed (at (block (suc n)) 0) (place p t) x).event) → NameAtoms x.shadows.places (taken (accessed (at (block (suc n)) 0) (place p t) x).event)
      → PastOf x c → PastOf (accessed (at (block (suc n)) 0) (place p t) x).after (c ++ taken (accessed (at (block (suc n)) 0) (place p t) x).event)
  unfolding on.act on.asked_of on.after_shadows on.touch_by on.plain_of base.act base.access_in base.acted
  block_past w w' x p t n c h l i l' m g k = by_test (nat_lt r (length s.touched)) refl l'
    where
      s : Shadows
      s = x.shadows

      r : ℕ
      r = rank (suc n) x.plain.touched

      e : Event
      e = record { outcome = Object r; asked = on.access_asked (place p t) s.touched; places = s.places }

      now : base.Data
      now = record x.plain { touched = base.touch (suc n) x.plain.touched }

      more : PastOf x (c ++ taken e)
      more = past_atoms params layout u b ty.type ty.named s.places s.touched x.plain.count c (taken e) m g k

      fresh : nat_lt r (length s.touched) ≡ false → (z : ℕ) → FirstAt p z s.touched → ⊥
      fresh q z a = let y = first_reached f laws layout params globals b u d ty w x p t z n _ l h refl a in absurd (grind arith)

      last : nat_lt r (length s.touched) ≡ false → r ≡ length s.touched
      last q = let y = rank_most (suc n) x.plain.touched in let z = touched_count f laws layout params globals b u d ty w x l in grind arith

      not_first : nat_lt r (length s.touched) ≡ false → on.is_first p s.touched ≡ false
      not_first q = elim (bool_cases (on.is_first p s.touched)) [
        | inl a ↦ let y = is_first_at p s.touched a in absurd (fresh q y.0 y.1)
        | inr a ↦ a
      ]

      by_test : (q : Bool) → nat_lt r (length s.touched) ≡ q → Lk w' (record { plain = now; shadows = if q then s else on.touch f layout p t s }) → PastAt (if q then s else on.touch f layout p t s) x.plain.count (c ++ taken e)
      by_test true q z = more
      by_test false q z =
          let y = next_atoms x p t r (not_first q) (last q) in
          touched_past w' x now p t (c ++ taken e) z i (fresh q)
          (subst (λ a. In (differ (asked.at p) nothing) (c ++ a)) (sym y) (in_back _ c _ (inl refl)))
          (λ q' a. subst (λ z. In (differ (asked.at p) (asked.at q')) (c ++ z)) (sym y) (in_back _ c _ (inr (in_differs p t q' s.touched a))))
          more

  null_past : (x : Data) (p t : ℕ) (c : List Atom) → Meets (at_place x.shadows.places u b) (taken (accessed null (place p t) x).event) → NameAtoms x.shadows.places (taken (accessed null (place p t) x).event)
      → PastOf x c → PastOf (accessed null (place p t) x).after (c ++ taken (accessed null (place p t) x).event)
  unfolding on.act on.asked_of on.after_shadows on.touch_by on.plain_of base.act base.access_in base.acted
  null_past x p t c m g k = past_atoms params layout u b ty.type ty.named x.shadows.places x.shadows.touched x.plain.count c _ m g k

  abbrev Onward : World → Value → Shadow → Data → List Atom → Type 0
  Onward w' v s x c = Lk w' (accessed v s x).after → Meets (at_place x.shadows.places u b) (taken (accessed v s x).event) → NameAtoms x.shadows.places (taken (accessed v s x).event) → PastOf x c → PastOf (accessed v s x).after (c ++ taken (accessed v s x).event)

  place_past : (w w' : World) (x : Data) (p t : ℕ) (v : Value) (c : List Atom) → At w p t v → Lk w x → IsPointerTo x.shadows.places p t → Onward w' v (place p t) x c
  place_past w w' x p t v c h l i = elim h.here [
    | inl z ↦ subst (λ y. Onward w' y (place p t) x c) (sym z.1) (λ l' m g k. null_past x p t c m g k)
    | inr z ↦ subst (λ y. Onward w' y (place p t) x c) (sym z.2) (block_past w w' x p t z.0 c (subst (At w p t) z.2 h) l i)
  ]

  -- ---- an access through a pointer without place

  touch_form : (o : Outcome) (a : _) (s : Shadows) → on.touch_by f layout o (form a) s ≡ s
  unfolding on.touch_by
  touch_form (Object n) a s = refl
  touch_form Zero a s = refl
  touch_form High a s = refl
  touch_form Low a s = refl
  touch_form Plain a s = refl
  touch_form False a s = refl
  touch_form True a s = refl

  touch_none : (o : Outcome) (s : Shadows) → on.touch_by f layout o none s ≡ s
  unfolding on.touch_by
  touch_none (Object n) s = refl
  touch_none Zero s = refl
  touch_none High s = refl
  touch_none Low s = refl
  touch_none Plain s = refl
  touch_none False s = refl
  touch_none True s = refl

  quiet_past : (w' : World) (x : Data) (s : Shadow) (v : Value) (c : List Atom) → on.touch_by f layout (base.access_in v x.plain).event s x.shadows ≡ x.shadows → Onward w' v s x c
  unfolding on.act on.asked_of on.after_shadows on.plain_of base.act
  quiet_past w' x s v c e l' m g k =
      subst (λ z. PastAt z (base.access_in v x.plain).after.count (c ++ taken (accessed v s x).event)) (sym e)
      (subst (λ n. PastAt x.shadows n (c ++ taken (accessed v s x).event)) (sym (access_count v x.plain)) (past_atoms params layout u b ty.type ty.named x.shadows.places x.shadows.touched x.plain.count c _ m g k))

  access_past : (w w' : World) (x : Data) (s : Shadow) (v : Value) (c : List Atom) → Val w (record { plain = v; shadow = s }) → Lk w x → Good x.shadows.places s → Onward w' v s x c
  access_past w w' x (place p t) v c h l i = place_past w w' x p t v c h.1 l i
  access_past w w' x (form a) v c h l i = quiet_past w' x (form a) v c (touch_form _ a x.shadows)
  access_past w w' x none v c h l i = quiet_past w' x none v c (touch_none _ x.shadows)

  -- ---- each operation

  abbrev acted : Act Traced → Data → Acted Traced Data Event
  acted a x = on.act f layout a x

  act_past : (w w' : World) (a : Act Traced) (x : Data) (c : List Atom) → OfAct (Val w) (Loc w) a → Lk w x → OfAll (λ v. Good x.shadows.places v.shadow) a → Lk w' (acted a x).after
      → Meets (at_place x.shadows.places u b) (taken (acted a x).event) → NameAtoms x.shadows.places (taken (acted a x).event) → PastOf x c → PastOf (acted a x).after (c ++ taken (acted a x).event)
  unfolding on.act on.after_shadows on.plain_of base.act base.acted
  act_past w w' (act_access v) x c h l i l' m g k = access_past w w' x v.shadow v.plain c h l i l' m g k
  act_past w w' _ x c h l i l' m g k = past_atoms params layout u b ty.type ty.named x.shadows.places x.shadows.touched x.plain.count c _ m g k

  -- ---- what an event is worth, and what it gives

  fair_meets : (o : Outcome) (q : Asked) (l : List Placed) → Fair layout params globals b u u d d ty ty f laws l q o → Meets (at_place l u b) (taken (record { outcome = o; asked = q; places = l }))
  unfolding taken
  fair_meets o asks_nothing l h = tt
  fair_meets o (one_of cs) l h = told_atoms (at_place l u b) cs o h.0 h.1
  fair_meets o (term k) l h = absurd h

  -- at a term a run goes on with the number
  term_fits : (w : World) (q : Formed) (z : ℤ) (k : TermKind) → on.fit_asked f q ≡ term k → Val w (record { plain = num z; shadow = on.shadow_of f q (num z) })
  unfolding on.fit_asked on.shadow_of number_of
  term_fits w plain_number z k e = (refl, number_fits layout params globals b u u d d ty ty f laws w z)
  term_fits w (formed g) z k e = absurd (cc e)
  term_fits w (termed j) z k e = (refl, number_fits layout params globals b u u d d ty ty f laws w z)

  no_term : (s : Shadow) (bs : List Touched) (k : TermKind) → on.access_asked s bs ≡ term k → ⊥
  unfolding on.access_asked
  no_term (form a) bs k e = cc e
  no_term none bs k e = cc e
  no_term (place p t) bs k e = either (on.is_first p bs) e
    where
      either : (c : Bool) → (if c then asks_nothing else one_of (on.access_choices p t bs)) ≡ term k → ⊥
      either true i = cc i
      either false i = cc i

  abbrev GivesAt : World → Act Traced → Data → Type 0
  GivesAt w a x = Gives (ValueAt layout params globals b u u d d ty ty w) (LocAt layout params globals b u u d d ty ty w) a ((acted a x).event).outcome (acted a x).value (acted a x).value

  at_term_gives : (w : World) (a : Act Traced) (x : Data) (k : TermKind) → OfAct (Val w) (Loc w) a → Lk w x → on.asked_of f a x ≡ term k → GivesAt w a x × Lk w (acted a x).after
  unfolding on.act on.asked_of on.after_shadows on.value_shadow on.plain_of on.offset base.act base.acted
  at_term_gives w (act_arith o p q) x k h l e = (term_fits w _ _ k e, l)
  at_term_gives w (act_negate p) x k h l e = (term_fits w _ _ k e, l)
  at_term_gives w (act_index p i n c) x k h l e = (offset_at layout params globals b u u d d ty ty w p p _ h.0, l)
  at_term_gives w (act_access v) x k h l e = absurd (no_term v.shadow x.shadows.touched k e)
  at_term_gives w (act_divisor p q) x k h l e = (tt, l)
  at_term_gives w (act_compare o p q) x k h l e = (tt, l)
  at_term_gives w (act_test p) x k h l e = (tt, l)

  -- ---- worlds with the atoms taken

  abbrev pub Value_now : Now → Traced → Type 0
  Value_now w v = Val w.world v × Good (w.world).places v.shadow

  abbrev pub Location_now : Now → Traced → Type 0
  Location_now w v = Loc w.world v × Good (w.world).places v.shadow

  pub record Held (w : Now) (x : Data) : Type 0 where
    pub locked : Lk w.world x
    pub placed : Placed_at x.shadows
    pub past : PastOf x w.atoms

  pub record Gone (w : Now) (l : List (Entry Event)) (v : Now) : Type 0 where
    pub later : lock.Le w.world v.world
    pub atoms : v.atoms ≡ w.atoms ++ atoms_in l
    pub facts : Facts params layout u b ty.type ty.named w.atoms l (v.world).places

  gone_nowhere : (w v : Now) → lock.Le w.world v.world → v.atoms ≡ w.atoms → Gone w [] v
  gone_nowhere w v le e = record { later = le; atoms = e ∙ sym (append-nil w.atoms); facts = tt }

  gone_none : (w : Now) → Gone w [] w
  gone_none w = gone_nowhere w w (le_same w.world) refl

  gone_on : (w v y : Now) (l m : List (Entry Event)) → Gone w l v → Gone v m y → Gone w (l ++ m) y
  gone_on w v y l m h g = record {
    later = le_trans w.world v.world y.world h.later g.later;
    atoms = g.atoms ∙ ap (λ z. z ++ atoms_in m) h.atoms ∙ append_assoc w.atoms (atoms_in l) (atoms_in m) ∙ ap (λ z. w.atoms ++ z) (sym (atoms_append l m));
    facts = facts_append params layout u b ty.type ty.named w.atoms l m (y.world).places
        (facts_later params layout u b ty.type ty.named w.atoms l (v.world).places (y.world).places ((g.later).1, (g.later).3) h.facts)
        (subst (λ z. Facts params layout u b ty.type ty.named z m (y.world).places) h.atoms g.facts);
  }

  good_on : (w v : World) (s : Shadow) → lock.Le w v → Good w.places s → Good v.places s
  good_on w v s le h = subst (λ l. Good l s) (sym le.3) (good_later w.places le.1 s h)

  value_on : (w v : Now) (l : List (Entry Event)) (a : Traced) → Gone w l v → Value_now w a → Value_now v a
  value_on w v l a g h = (later_value layout params globals b u u d d ty ty w.world v.world a a g.later h.0, good_on w.world v.world a.shadow g.later h.1)

  location_on : (w v : Now) (l : List (Entry Event)) (a : Traced) → Gone w l v → Location_now w a → Location_now v a
  location_on w v l a g h = (later_location layout params globals b u u d d ty ty w.world v.world a a g.later h.0, good_on w.world v.world a.shadow g.later h.1)

  -- ---- an event

  good_all : (w : Now) (l : List Placed) (a : Act Traced) → l ≡ (w.world).places → OfAct (Value_now w) (Location_now w) a → OfAll (λ v. Good l v.shadow) a
  good_all w l a e h = subst (λ m. OfAll (λ v. Good m v.shadow) a) (sym e) (all_of a h)
    where
      all_of : (a : Act Traced) → OfAct (Value_now w) (Location_now w) a → OfAll (λ v. Good (w.world).places v.shadow) a
      all_of (act_arith o p q) h = ((h.0).1, (h.1).1)
      all_of (act_divisor p q) h = ((h.0).1, (h.1).1)
      all_of (act_negate p) h = h.1
      all_of (act_compare o p q) h = ((h.0).1, (h.1).1)
      all_of (act_test p) h = h.1
      all_of (act_access p) h = h.1
      all_of (act_index p i n c) h = ((h.0).1, (h.1).1)

  values_all : (w : Now) (a : Act Traced) → OfAct (Value_now w) (Location_now w) a → OfAct (Val w.world) (Loc w.world) a
  values_all w (act_arith o p q) h = ((h.0).0, (h.1).0)
  values_all w (act_divisor p q) h = ((h.0).0, (h.1).0)
  values_all w (act_negate p) h = h.0
  values_all w (act_compare o p q) h = ((h.0).0, (h.1).0)
  values_all w (act_test p) h = h.0
  values_all w (act_access p) h = h.0
  values_all w (act_index p i n c) h = ((h.0).0, (h.1).0)

  same_all : (w : World) (a : Act Traced) → OfAct (Val w) (Loc w) a → SameAct (ValueAt layout params globals b u u d d ty ty w) (LocAt layout params globals b u u d d ty ty w) a a
  same_all w (act_arith o p q) h = (refl, h.0, h.1)
  same_all w (act_divisor p q) h = (h.0, h.1)
  same_all w (act_negate p) h = h
  same_all w (act_compare o p q) h = (refl, h.0, h.1)
  same_all w (act_test p) h = h
  same_all w (act_access p) h = h
  same_all w (act_index p i n c) h = (h.0, h.1, refl, refl)

  given_now : (w : Now) (a : Act Traced) (o : Outcome) (v : Traced) → Gives (ValueAt layout params globals b u u d d ty ty w.world) (LocAt layout params globals b u u d d ty ty w.world) a o v v → Good (w.world).places v.shadow → GivesIt (Value_now w) (Location_now w) a o v
  given_now w (act_arith o p q) t v h g = (h, g)
  given_now w (act_negate p) t v h g = (h, g)
  given_now w (act_access p) t v h g = λ n. (h n, g)
  given_now w (act_index p i n c) t v h g = (h, g)
  given_now w (act_divisor p q) t v h g = tt
  given_now w (act_compare o p q) t v h g = tt
  given_now w (act_test p) t v h g = tt

  event_places : (a : Act Traced) (x : Data) → ((acted a x).event).places ≡ x.shadows.places
  unfolding on.act
  event_places a x = refl

  abbrev After : Now → SiteKind → ℕ → Act Traced → Data → Type 0
  After w k t a x = (v : Now) × Gone w (record { kind = k; token = t; event = (acted a x).event } ∷ []) v
      × GivesIt (Value_now v) (Location_now v) a ((acted a x).event).outcome (acted a x).value × Held v (acted a x).after

  finished : (w : Now) (k : SiteKind) (t : ℕ) (a : Act Traced) (x : Data) → OfAct (Value_now w) (Location_now w) a → Held w x → (v : World) → lock.Le w.world v
      → Meets (at_place x.shadows.places u b) (taken (acted a x).event) → GivesAt v a x → Lk v (acted a x).after → After w k t a x
  finished w k t a x h g v le m gives l =
      let e = (acted a x).event in
      let good = good_all w x.shadows.places a (g.locked).places h in
      let names = act_named params layout f laws a x good g.placed in
      let same = event_places a x in
      let now : Now = record { world = v; atoms = w.atoms ++ taken e } in (
        now,
        record {
          later = le;
          atoms = ap (λ z. w.atoms ++ z) (sym (append-nil (taken e)));
          facts = (
            record {
              blocks = x.shadows.touched;
              count = x.plain.count;
              past = subst (λ z. Past params layout u b ty.type ty.named z x.shadows.touched x.plain.count w.atoms) (sym same) g.past;
              choices = event_choices e names.named;
            },
            (le.1, le.3 ∙ ap (λ z. z ++ le.1) (sym (same ∙ (g.locked).places))),
            tt,
          );
        },
        given_now now a e.outcome (acted a x).value gives (subst (λ z. Good z ((acted a x).value).shadow) l.places (act_good params layout f laws a x good g.placed)),
        record {
          locked = l;
          placed = (act_grown params layout f laws a x good g.placed).placed;
          past = act_past w.world v a x w.atoms (values_all w a h) g.locked good l m (subst (λ z. NameAtoms z (taken e)) same (event_names e names.named)) g.past;
        },
      )

  asked_is : (a : Act Traced) (x : Data) → ((acted a x).event).asked ≡ on.asked_of f a x
  unfolding on.act
  asked_is a x = refl

  meets_nothing : (l : List Placed) (m : List Atom) → m ≡ [] → Meets (at_place l u b) m
  meets_nothing l m e = subst (Meets (at_place l u b)) (sym e) tt

  act_goes : (w : Now) (k : SiteKind) (t : ℕ) (a : Act Traced) (x : Data) → OfAct (Value_now w) (Location_now w) a → Held w x → After w k t a x
  act_goes w k t a x h g = elim (act_at layout params globals b u u d d ty ty f laws w.world a a x x (same_all w.world a (values_all w a h)) g.locked) [
    | inl r ↦ finished w k t a x h g r.0 r.1 (subst (λ z. Meets (at_place z u b) (taken (acted a x).event)) (event_places a x) (fair_meets ((acted a x).event).outcome ((acted a x).event).asked ((acted a x).event).places (r.3).fair)) r.4 r.5
    | inr r ↦ parted r
  ]
    where
      parted : Part layout params globals b u u d d ty ty f laws (acted a x).event (acted a x).event → After w k t a x
      parted (at_term j q i e) = let y = at_term_gives w.world a x j (values_all w a h) g.locked (sym (asked_is a x) ∙ q) in
          finished w k t a x h g w.world (le_same w.world) (meets_nothing x.shadows.places (taken (acted a x).event) (taken_nothing (acted a x).event j q)) y.0 y.1
      parted (apart i e c n y ne) = absurd (ne refl)

  -- ---- the other operations

  write_past : (q : Spot) (v : Shadow) (s : Shadows) (n : ℕ) (c : List Atom) → PastAt s n c → PastAt (on.with_shadow q v s) n c
  unfolding on.with_shadow
  write_past (in_made m e) v s n c k = k
  write_past (in_touched r e) v s n c k = past_same params layout u b ty.type ty.named s.places s.touched (on.set_touched s.touched r e v) n c (set_first s.touched r e v) (first_set s.touched r e v) k
  write_past nowhere v s n c k = k

  store_past : (p v : Traced) (x : Data) (c : List Atom) → PastOf x c → PastOf (on.store p v x) c
  unfolding on.store
  store_past p v x c k = subst (λ n. PastAt (on.with_shadow (spot_of p.plain x.plain.touched) v.shadow x.shadows) n c) (sym (store_count p.plain v.plain x.plain)) (write_past (spot_of p.plain x.plain.touched) v.shadow x.shadows x.plain.count c k)

  make_past : (t : Layout) (x : Data) (c : List Atom) → PastOf x c → PastOf (on.make f t x).after c
  unfolding on.make base.make
  make_past t x c k = k

  get_last : (l : List Placed) (p : Placed) → slice_get (l ++ p ∷ []) (length l) ≡ Some p
  get_last [] p = refl
  get_last (q ∷ l) p = get_last l p

  stream_valued : (l : List Placed) (n : ℕ) → ParentsFirst (l ++ record { place = stream n; holds = cell.Int } ∷ []) → IsSome (at_place (l ++ record { place = stream n; holds = cell.Int } ∷ []) u b (length l))
  unfolding value_there
  stream_valued l n h =
      let m : List Placed = l ++ record { place = stream n; holds = cell.Int } ∷ [] in
      subst IsSome (sym (at_place-is m u b (length l) h ∙ ap (option_and_then (λ p. value_there (at_place m u b) u b p.place)) (get_last l (record { place = stream n; holds = cell.Int })))) refl

  take_past : (p : Traced) (x : Data) (c : List Atom) → PastOf x c → PastOf (on.take f p x) c
  unfolding on.take base.take
  take_past p x c k =
      let l : List Placed = x.shadows.places in
      let h = ParentsFirst-push l (record { place = stream x.plain.count; holds = cell.Int }) k.parents tt in
      let s : Shadows = record x.shadows { places = l ++ record { place = stream x.plain.count; holds = cell.Int } ∷ [] } in
      subst (λ n. PastAt (on.with_shadow (spot_of p.plain x.plain.touched) (form (f.of (length l))) s) n c) (sym (store_count p.plain _ (record x.plain { count = suc x.plain.count })))
      (write_past (spot_of p.plain x.plain.touched) (form (f.of (length l))) s (suc x.plain.count) c
      (past_stream params layout u b ty.type ty.named l x.shadows.touched x.plain.count c h (stream_valued l x.plain.count h) k))

  number_now : (w : Now) (z : ℤ) → Value_now w (on.number f z)
  number_now w z = (number_at layout params globals b u u d d ty ty f laws w.world z, number_good params layout f laws (w.world).places z)

  nil_now : (w : Now) → Value_now w on.nil
  nil_now w = (null_at layout params globals b u u d d ty ty w.world, nil_good params layout f laws (w.world).places)

  offset_now : (w : Now) (a : Traced) (n : ℕ) → Location_now w a → Location_now w (on.offset a n)
  offset_now w a n h = (offset_at layout params globals b u u d d ty ty w.world a a n h.0, offset_good params layout f laws (w.world).places a n)

  global_now : (w : Now) (n : ℕ) → Location_now w (record { plain = at (made 0) n; shadow = none })
  global_now w n = (global_at layout params globals b u u d d ty ty f laws w.world n, tt)

  load_now : (w : Now) (p : Traced) (x : Data) → Location_now w p → Held w x → Value_now w (on.load p x)
  load_now w p x h g = (
    load_at layout params globals b u u d d ty ty w.world p p x x h.0 g.locked,
    subst (λ l. Good l (on.load p x).shadow) (g.locked).places (load_good params layout f laws p x g.placed),
  )

  store_now : (w : Now) (p a : Traced) (x : Data) → Location_now w p → Value_now w a → Held w x → (v : Now) × Gone w [] v × Held v (on.store p a x)
  store_now w p a x h i g = (
    w,
    gone_none w,
    record {
      locked = store_at layout params globals b u u d d ty ty w.world p a p a x x h.0 i.0 g.locked;
      placed = (store_grown params layout f laws p a x (subst (λ l. Good l a.shadow) (sym (g.locked).places) i.1) g.placed).placed;
      past = store_past p a x w.atoms g.past;
    },
  )

  make_now : (w : Now) (t : Layout) (x : Data) → Held w x → (v : Now) × Gone w [] v × Location_now v (on.make f t x).value × Held v (on.make f t x).after
  make_now w t x g =
      let m = make_at layout params globals b u u d d ty ty f laws w.world t x x g.locked in (
        w,
        gone_none w,
        (m.0, make_good params layout f laws t x (w.world).places),
        record { locked = m.1; placed = (make_grown params layout f laws t x g.placed).placed; past = make_past t x w.atoms g.past },
      )

  take_now : (w : Now) (p : Traced) (x : Data) → Location_now w p → Held w x → (v : Now) × Gone w [] v × Held v (on.take f p x)
  take_now w p x h g =
      let m = take_at layout params globals b u u d d ty ty f laws w.world p p x x h.0 g.locked in
      let v : Now = record { world = m.0; atoms = w.atoms } in (
        v,
        gone_nowhere w v m.1 refl,
        record { locked = m.2; placed = (take_grown params layout f laws p x g.placed).placed; past = take_past p x w.atoms g.past },
      )

  abbrev own_run : Going (traced f layout)
  own_run = record {
    W = Now;
    Goes = Gone;
    goes_none = gone_none;
    goes_on = gone_on;
    Value = Value_now;
    Location = Location_now;
    later_value = value_on;
    later_location = location_on;
    Has = Held;
    number = number_now;
    nil = nil_now;
    address = λ w a h. (address_at layout params globals b u u d d ty ty f laws w.world a a h.0, h.1);
    offset = offset_now;
    global = global_now;
    load = load_now;
    store = store_now;
    make = make_now;
    take = take_now;
    act = act_goes;
  }

  -- ---- a whole run

  held_last : (v : Now) (r : Result (State Traced Data) (Unit {0})) → Ends (traced f layout) own_run v (Any (traced f layout) own_run) r → Held v (last_state r).data_now
  held_last v (ok a s) h = (h.1).data_now
  held_last v (over e s) h = h.data_now

  -- where the run of the entry leads from a world
  pub run_leads : (x : Fixed) (steps events : ℕ) (start : Begin Traced Data) (w : Now) → ((n : ℕ) → Location_now w (start.locals n)) → Held w start.data_now
      → (v : Now) × Gone w (run (traced f layout) x steps events start).log v × Held v (last_state (run (traced f layout) x steps events start).result).data_now
  unfolding run
  run_leads x steps events start w h g =
      let s : State Traced Data = record { steps = steps; events = events; locals = start.locals; data_now = start.data_now } in
      let r = main_runs (traced f layout) own_run x w w ([], gone_none w) s (record { locals = h; data_now = g }) in
      (r.0, r.1, held_last r.0 _ r.2)
