-- The places of a traced run only grow: those of each event stand first among those of the whole run.
use Rattle.std.proofs.Common.{◌≡◌, ℕ, Bool, true, false, List, [], ◌∷◌, ◌++◌, inl, inr, length, nat_lt, if◌then◌else◌, refl, sym, ap, ap₂, ◌∙◌, subst, append-nil, append_assoc}
use Rattle.cc_base.specs.declared.outcomes.Outcome.{Outcome}
use Rattle.cc_base.specs.declared.outcomes.Outcome.TheVariants.{Zero, High, Low, Plain, False, True, Object}
use Rattle.cc_base.specs.Places.{Placed}
use Rattle.cc_model.specs.Core.{Cell, Layout}
use Rattle.cc_model.specs.Domain.{Act, act_arith, act_divisor, act_negate, act_compare, act_test, act_access, act_index}
use Rattle.cc_model.specs.FormOperations.{Forms}
use Rattle.cc_model.specs.Traced as on
use Rattle.cc_model.specs.Traced.{Traced, Data, Event, Shadow, form, place, none, Shadows, Spot, in_made, in_touched, nowhere, traced}
use Rattle.cc_model.specs.Meaning.{Entry, State, Result, ok, over, Fixed}
use Rattle.cc_model.specs.Runs.{Begin, run}
use Rattle.cc_model.specs.Conditions.{last_state}
use Rattle.cc_laws.proofs.Related.{SameAct, Gives, Related, SameLogs, PartLogs, SameResult, SameRan, Void, same_main}

-- the list goes on from another
abbrev pub GoesOn : List Placed → List Placed → Type 0
GoesOn w w' = (q : List Placed) × (w' ≡ w ++ q)

goes_same : (w : List Placed) → GoesOn w w
goes_same w = ([], sym (append-nil w))

goes_on : (w w' w'' : List Placed) → GoesOn w w' → GoesOn w' w'' → GoesOn w w''
goes_on w w' w'' i j = (i.0 ++ j.0, j.1 ∙ ap (λ l. l ++ j.0) i.1 ∙ append_assoc w i.0 j.0)

module _ (f : Forms) (layout : ℕ → List Cell) where
  abbrev Is : Traced → Traced → Type 0
  Is v u = v ≡ u

  acts_same : (a b : Act Traced) → SameAct Is Is a b → a ≡ b
  acts_same (act_arith o a b) (act_arith p c e) h = ap₂ (λ q m. act_arith q m b) h.0 h.1 ∙ ap (act_arith p c) h.2
  acts_same (act_divisor a b) (act_divisor c e) h = ap₂ act_divisor h.0 h.1
  acts_same (act_negate a) (act_negate c) h = ap act_negate h
  acts_same (act_compare o a b) (act_compare p c e) h = ap₂ (λ q m. act_compare q m b) h.0 h.1 ∙ ap (act_compare p c) h.2
  acts_same (act_test a) (act_test c) h = ap act_test h
  acts_same (act_access a) (act_access c) h = ap act_access h
  acts_same (act_index p i n c) (act_index q j m e) h = ap₂ (λ s t. act_index s t n c) h.0 h.1 ∙ ap₂ (act_index q j) h.2 h.3
  acts_same _ _ h = absurd h

  given : (a : Act Traced) (o : Outcome) (v u : Traced) → v ≡ u → Gives Is Is a o v u
  given (act_arith o a b) t v u e = e
  given (act_negate a) t v u e = e
  given (act_access a) t v u e = λ z. e
  given (act_index p i n k) t v u e = e
  given (act_divisor a b) t v u e = tt
  given (act_compare o a b) t v u e = tt
  given (act_test a) t v u e = tt

  touch_if : (c : Bool) (p t : ℕ) (s : Shadows) → GoesOn s.places (if c then s else on.touch f layout p t s).places
  unfolding on.touch
  touch_if true p t s = goes_same s.places
  touch_if false p t s = (on.field_places p 0 (layout t), refl)

  touch_grows : (o : Outcome) (v : Shadow) (s : Shadows) → GoesOn s.places (on.touch_by f layout o v s).places
  unfolding on.touch_by
  touch_grows (Object n) (place p t) s = touch_if (nat_lt n (length s.touched)) p t s
  touch_grows (Object n) (form g) s = goes_same s.places
  touch_grows (Object n) none s = goes_same s.places
  touch_grows Zero v s = goes_same s.places
  touch_grows High v s = goes_same s.places
  touch_grows Low v s = goes_same s.places
  touch_grows Plain v s = goes_same s.places
  touch_grows False v s = goes_same s.places
  touch_grows True v s = goes_same s.places

  after_grows : (a : Act Traced) (o : Outcome) (s : Shadows) → GoesOn s.places (on.after_shadows f layout a o s).places
  unfolding on.after_shadows
  after_grows (act_access a) o s = touch_grows o a.shadow s
  after_grows (act_arith p a b) o s = goes_same s.places
  after_grows (act_divisor a b) o s = goes_same s.places
  after_grows (act_negate a) o s = goes_same s.places
  after_grows (act_compare p a b) o s = goes_same s.places
  after_grows (act_test a) o s = goes_same s.places
  after_grows (act_index p i n w) o s = goes_same s.places

  act_grows : (a : Act Traced) (x : Data) → GoesOn x.shadows.places ((on.act f layout a x).after).shadows.places × (((on.act f layout a x).event).places ≡ x.shadows.places)
  unfolding on.act
  act_grows a x = (after_grows a _ x.shadows, refl)

  with_shadow_places : (p : Spot) (v : Shadow) (s : Shadows) → (on.with_shadow p v s).places ≡ s.places
  unfolding on.with_shadow
  with_shadow_places (in_made n c) v s = refl
  with_shadow_places (in_touched r c) v s = refl
  with_shadow_places nowhere v s = refl

  store_places : (p v : Traced) (x : Data) → (on.store p v x).shadows.places ≡ x.shadows.places
  unfolding on.store
  store_places p v x = with_shadow_places _ v.shadow x.shadows

  make_places : (t : Layout) (x : Data) → ((on.make f t x).after).shadows.places ≡ x.shadows.places
  unfolding on.make
  make_places t x = refl

  take_grows : (p : Traced) (x : Data) → GoesOn x.shadows.places (on.take f p x).shadows.places
  unfolding on.take
  take_grows p x = (_, with_shadow_places _ _ _)

  -- an event's places stand first
  abbrev pub Stands : List Placed → Event → Event → Type 0
  Stands w e e' = (e ≡ e') × GoesOn e.places w

  abbrev In_state : List Placed → Data → Data → Type 0
  In_state w x y = (x ≡ y) × (x.shadows.places ≡ w)

  grown_act : (w : List Placed) (a b : Act Traced) (x y : Data) → SameAct Is Is a b → In_state w x y
      → (w' : List Placed) × GoesOn w w' × (((on.act f layout a x).event).outcome ≡ ((on.act f layout b y).event).outcome) × Stands w' (on.act f layout a x).event (on.act f layout b y).event
      × Gives Is Is a ((on.act f layout a x).event).outcome (on.act f layout a x).value (on.act f layout b y).value × In_state w' (on.act f layout a x).after (on.act f layout b y).after
  grown_act w a b x y h k =
      let e = ap₂ (on.act f layout) (acts_same a b h) k.0 in
      let g = act_grows a x in
      let le : GoesOn w ((on.act f layout a x).after).shadows.places = subst (λ z. GoesOn z ((on.act f layout a x).after).shadows.places) k.1 g.0 in (
        ((on.act f layout a x).after).shadows.places,
        le,
        ap (λ z. (z.event).outcome) e,
        (ap (λ z. z.event) e, subst (λ z. GoesOn z ((on.act f layout a x).after).shadows.places) (sym g.1) g.0),
        given a _ _ _ (ap (λ z. z.value) e),
        (ap (λ z. z.after) e, refl),
      )

  abbrev grown : Related (traced f layout) (traced f layout)
  grown = record {
    W = List Placed;
    Le = GoesOn;
    le_refl = goes_same;
    le_trans = goes_on;
    RV = λ w. Is;
    RL = λ w. Is;
    later_value = λ w w' v u le k. k;
    later_location = λ w w' v u le k. k;
    RD = In_state;
    Ev = Stands;
    Part = λ w a b. ⊥;
    later_event = λ w w' a b le k. (k.0, goes_on a.places w w' k.1 le);
    number = λ w z. refl;
    nil = λ w. refl;
    address = λ w v u k. k;
    offset = λ w v u n k. ap (λ z. on.offset z n) k;
    global = λ w n. refl;
    load = λ w p q x y h k. ap₂ on.load h k.0;
    store = λ w p v q u x y h i k. (ap₂ (λ s t. on.store s v t) h k.0 ∙ ap (λ z. on.store q z y) i, store_places p v x ∙ k.1);
    make = λ w t x y k. (ap (λ z. (on.make f t z).value) k.0, (ap (λ z. (on.make f t z).after) k.0, make_places t x ∙ k.1));
    take = λ w p q x y h k. ((on.take f p x).shadows.places, subst (λ z. GoesOn z (on.take f p x).shadows.places) k.1 (take_grows p x), (ap₂ (on.take f) h k.0, refl));
    act = λ w a b x y h k. inl (grown_act w a b x y h k);
  }

  -- each event's places stand first in the list
  abbrev pub AllStand : List Placed → List (Entry Event) → Type 0
  AllStand w [] = Unit {0}
  AllStand w (a ∷ l) = GoesOn (a.event).places w × AllStand w l

  all_stand : (w : List Placed) (l m : List (Entry Event)) → SameLogs (traced f layout) (traced f layout) grown w l m → AllStand w l
  all_stand w [] [] h = tt
  all_stand w (a ∷ l) (b ∷ m) h = (((h.0).known).1, all_stand w l m h.1)
  all_stand w [] (b ∷ m) h = absurd h
  all_stand w (a ∷ l) [] h = absurd h

  no_part : (w : List Placed) (l m : List (Entry Event)) → PartLogs (traced f layout) (traced f layout) grown w l m → ⊥
  no_part w (a ∷ l) (b ∷ m) (inl h) = no_part w l m h.1
  no_part w (a ∷ l) (b ∷ m) (inr h) = h.2
  no_part w [] [] h = h
  no_part w [] (b ∷ m) h = h
  no_part w (a ∷ l) [] h = h

  last_places : (w : List Placed) (p q : Result (State Traced Data) (Unit {0})) → SameResult (traced f layout) (traced f layout) grown w (Void (traced f layout) (traced f layout) grown) p q → (last_state p).data_now.shadows.places ≡ w
  last_places w (ok a s) (ok b t) h = ((h.1).data_now).1
  last_places w (over e s) (over g t) h = ((h.1).data_now).1
  last_places w (ok a s) (over g t) h = absurd h
  last_places w (over e s) (ok b t) h = absurd h

  module _ (x : Fixed) (steps events : ℕ) (b : Begin Traced Data) where
    both : SameRan (traced f layout) (traced f layout) grown (b.data_now).shadows.places (Void (traced f layout) (traced f layout) grown) (run (traced f layout) x steps events b) (run (traced f layout) x steps events b)
    unfolding run
    both = same_main (traced f layout) (traced f layout) grown x (b.data_now).shadows.places (b.data_now).shadows.places (goes_same (b.data_now).shadows.places) (record { steps = steps; events = events; locals = b.locals; data_now = b.data_now }) (record { steps = steps; events = events; locals = b.locals; data_now = b.data_now }) (record { steps = refl; events = refl; locals = λ n. refl; data_now = (refl, refl) })

    pub places_stand : AllStand (last_state (run (traced f layout) x steps events b).result).data_now.shadows.places (run (traced f layout) x steps events b).log
    places_stand = elim both [
      | inl h ↦ subst (λ w. AllStand w (run (traced f layout) x steps events b).log) (sym (last_places h.0 (run (traced f layout) x steps events b).result (run (traced f layout) x steps events b).result h.3)) (all_stand h.0 _ _ h.2)
      | inr h ↦ absurd (no_part h.0 _ _ h.2)
    ]
