-- The condition of a traced run tells which inputs run the same way, up to its first term.
use Rattle.std.proofs.Common.{◌≡◌, ◌≢◌, ℕ, zero, suc, ◌<◌, ◌≤◌, ℤ, true, false, ◌⊎◌, ◌↔◌, inl, inr, List, [], ◌∷◌, ◌++◌, length, map, take, Option, Some, option_map, refl, sym, ap, ap₂, ◌∙◌, subst, arith, slice_get, if◌then◌else◌}
use Rattle.std.proofs.lemmas.Bool.Decides.{eqb_tells}
use Rattle.cc_base.specs.declared.inputs.Input.{Input}
use Rattle.cc_base.specs.declared.outcomes.Outcome.{Outcome}
use Rattle.cc_base.specs.declared.outcomes.Outcome.TheVariants.{Zero, High, Low, Plain, False, True, Object}
use Rattle.cc_base.specs.Forms.{Atom}
use Rattle.cc_base.specs.Holds.{Meets}
use Rattle.cc_base.specs.Limits.{Limits, base_of}
use Rattle.cc_base.specs.Outcomes.{byte_of}
use Rattle.cc_base.specs.Paths.{In}
use Rattle.cc_base.specs.Places.{Placed, ParentsFirst, at_place}
use Rattle.cc_model.specs.declared.terms.TermKind.{TermKind}
use Rattle.cc_model.specs.Core.{Program}
use Rattle.cc_model.specs.Graphs.{PointsToCells}
use Rattle.cc_model.specs.Meaning.{Entry}
use Rattle.cc_model.specs.Runs.{IsInput, params_of, begin_of, fixed_of, path_of, path_at, run}
use Rattle.cc_model.specs.FormOperations.{Forms, Laws}
use Rattle.cc_model.specs.Traced.{Choice, Asked, asks_nothing, one_of, term, Event, traced}
use Rattle.cc_model.specs.Conditions.{same_outcome, atoms_of, without, taken, alternatives, outcomes_of, condition, clean, traced_begin, traced_run, events_of, places_of, values_at}
use Rattle.cc_model.specs.Exact.{SameFirst, Exact, Exhausts, Alike}
use Rattle.sym_expr.proofs.PlaceLaws.{at_place-append}
use Rattle.sym_expr.proofs.AtomLaws.{Holds-same, Meets-append, Meets-front, Meets-back}
use Rattle.cc_laws.proofs.Related.{Related, SameLogs, PartLogs, SameRan, Void, same_main}
use Rattle.cc_laws.proofs.Numbers.{Each, Some_of}
use Rattle.cc_laws.proofs.Numbers as number
use Rattle.cc_laws.proofs.Erased.{erased_at}
use Rattle.cc_laws.proofs.Grown.{GoesOn, AllStand, places_stand}
use Rattle.cc_laws.proofs.Lockstep.{World, le_same, lockstep, Ev, Part, at_term, apart, Fair, Choosing, AtomsBelow, ChoicesBelow, AskedBelow}
use Rattle.cc_laws.proofs.Start.{globals_of, tu, th, first_world, start_lock, start_locals}

-- ---- outcomes by their bytes

byte_inj : (o p : Outcome) → byte_of o ≡ byte_of p → o ≡ p
byte_inj Zero Zero e = refl
byte_inj Zero High e = absurd (omega (arith, e))
byte_inj Zero Low e = absurd (omega (arith, e))
byte_inj Zero Plain e = absurd (omega (arith, e))
byte_inj Zero False e = absurd (omega (arith, e))
byte_inj Zero True e = absurd (omega (arith, e))
byte_inj Zero (Object k) e = absurd (omega (arith, e))
byte_inj High Zero e = absurd (omega (arith, e))
byte_inj High High e = refl
byte_inj High Low e = absurd (omega (arith, e))
byte_inj High Plain e = absurd (omega (arith, e))
byte_inj High False e = absurd (omega (arith, e))
byte_inj High True e = absurd (omega (arith, e))
byte_inj High (Object k) e = absurd (omega (arith, e))
byte_inj Low Zero e = absurd (omega (arith, e))
byte_inj Low High e = absurd (omega (arith, e))
byte_inj Low Low e = refl
byte_inj Low Plain e = absurd (omega (arith, e))
byte_inj Low False e = absurd (omega (arith, e))
byte_inj Low True e = absurd (omega (arith, e))
byte_inj Low (Object k) e = absurd (omega (arith, e))
byte_inj Plain Zero e = absurd (omega (arith, e))
byte_inj Plain High e = absurd (omega (arith, e))
byte_inj Plain Low e = absurd (omega (arith, e))
byte_inj Plain Plain e = refl
byte_inj Plain False e = absurd (omega (arith, e))
byte_inj Plain True e = absurd (omega (arith, e))
byte_inj Plain (Object k) e = absurd (omega (arith, e))
byte_inj False Zero e = absurd (omega (arith, e))
byte_inj False High e = absurd (omega (arith, e))
byte_inj False Low e = absurd (omega (arith, e))
byte_inj False Plain e = absurd (omega (arith, e))
byte_inj False False e = refl
byte_inj False True e = absurd (omega (arith, e))
byte_inj False (Object k) e = absurd (omega (arith, e))
byte_inj True Zero e = absurd (omega (arith, e))
byte_inj True High e = absurd (omega (arith, e))
byte_inj True Low e = absurd (omega (arith, e))
byte_inj True Plain e = absurd (omega (arith, e))
byte_inj True False e = absurd (omega (arith, e))
byte_inj True True e = refl
byte_inj True (Object k) e = absurd (omega (arith, e))
byte_inj (Object n) Zero e = absurd (omega (arith, e))
byte_inj (Object n) High e = absurd (omega (arith, e))
byte_inj (Object n) Low e = absurd (omega (arith, e))
byte_inj (Object n) Plain e = absurd (omega (arith, e))
byte_inj (Object n) False e = absurd (omega (arith, e))
byte_inj (Object n) True e = absurd (omega (arith, e))
byte_inj (Object n) (Object k) e = ap Object (omega (arith, e))

pub outcome_tells : (o p : Outcome) → ((same_outcome o p ≡ true) × (o ≡ p)) ⊎ ((same_outcome o p ≡ false) × (o ≢ p))
unfolding same_outcome
outcome_tells o p = elim (eqb_tells (byte_of o) (byte_of p)) [
  | inl q ↦ inl (q.0, byte_inj o p q.1)
  | inr q ↦ inr (q.0, λ e. q.1 (ap byte_of e))
]

-- ---- values at more places

-- atoms of the first places hold alike where more places come
more_holds : (l q : List Placed) (i : Input) (b : ℤ) → ParentsFirst l → (m : List Atom) → AtomsBelow (length l) m → Meets (at_place (l ++ q) i b) m ↔ Meets (at_place l i b) m
more_holds l q i b h [] k = ((λ m. m), (λ m. m))
more_holds l q i b h (a ∷ m) k = let r = more_holds l q i b h m k.1 in (
  (λ m. (Holds-same (at_place (l ++ q) i b) (at_place l i b) a (λ p n. at_place-append l q i b p h (k.0 p n)) m.0, r.0 m.1)),
  (λ m. (Holds-same (at_place l i b) (at_place (l ++ q) i b) a (λ p n. sym (at_place-append l q i b p h (k.0 p n))) m.0, r.1 m.1)),
)

more_each : (l q : List Placed) (i : Input) (b : ℤ) → ParentsFirst l → (cs : List Choice) (o : Outcome) → ChoicesBelow (length l) cs → Each (at_place l i b) cs o → Each (at_place (l ++ q) i b) cs o
more_each l q i b h [] o k e = tt
more_each l q i b h (c ∷ cs) o k e = let r = more_holds l q i b h c.atoms k.0 in (((λ z. r.1 ((e.0).0 z)), (λ m. (e.0).1 (r.0 m))), more_each l q i b h cs o k.1 e.1)

-- ---- two logs, event by event

abbrev pub outs : List (Entry Event) → List Outcome
outs l = map (λ a. (a.event).outcome) l

-- up to the first term each event has its own outcome among its choices
abbrev pub OwnAmong : Asked → Outcome → Type 0
OwnAmong asks_nothing o = Unit {0}
OwnAmong (one_of cs) o = Some_of cs o
OwnAmong (term k) o = ⊥

abbrev pub Own : List (Entry Event) → Type 0
Own [] = Unit {0}
Own (a ∷ l) = ((k : TermKind) × ((a.event).asked ≡ term k)) ⊎ (OwnAmong (a.event).asked (a.event).outcome × Own l)

module _ (value : ℕ → Option ℤ) where
  -- what is asked tells the outcome, where it asks something
  abbrev pub TellsIf : Asked → Outcome → Type 0
  TellsIf asks_nothing o = Unit {0}
  TellsIf (one_of cs) o = number.Told value cs o
  TellsIf (term k) o = ⊥

  abbrev pub Tells : Asked → Outcome → Type 0
  Tells (one_of cs) o = number.Told value cs o
  Tells _ o = ⊥

  -- the events up to which the runs go together, and one at which they part
  pub record Together (a b : Event) : Type 0 where
    pub outcome : a.outcome ≡ b.outcome
    pub asked : a.asked ≡ b.asked
    pub tells : TellsIf a.asked b.outcome

  pub data Parts (a b : Event) : Type 0 where
    by_term : (k : TermKind) → a.asked ≡ term k → a.asked ≡ b.asked → Parts a b
    by_choice : a.asked ≡ b.asked → Tells a.asked b.outcome → a.outcome ≢ b.outcome → Parts a b

  abbrev pub Walk : List (Entry Event) → List (Entry Event) → Type 0
  Walk [] [] = Unit {0}
  Walk (a ∷ l) (b ∷ m) = (a.kind ≡ b.kind) × (a.token ≡ b.token) × ((Together a.event b.event × Walk l m) ⊎ Parts a.event b.event)
  Walk _ _ = ⊥

  own_holds : (cs : List Choice) (o o' : Outcome) → Each value cs o' → Some_of cs o → Meets value (atoms_of o cs) ↔ (o ≡ o')
  unfolding atoms_of
  own_holds [] o o' i j = absurd j
  own_holds (c ∷ cs) o o' i j = elim (outcome_tells c.outcome o) [
    | inl q ↦ subst (λ b. Meets value (if b then c.atoms else atoms_of o cs) ↔ (o ≡ o')) (sym q.0) ((λ m. sym q.1 ∙ (i.0).1 m), (λ e. (i.0).0 (q.1 ∙ e)))
    | inr q ↦ subst (λ b. Meets value (if b then c.atoms else atoms_of o cs) ↔ (o ≡ o')) (sym q.0) (own_holds cs o o' i.1 (rest q.1 j))
  ]
    where
      rest : c.outcome ≢ o → Some_of (c ∷ cs) o → Some_of cs o
      rest n (inl e) = absurd (n e)
      rest n (inr k) = k

  -- the atoms taken at an event hold exactly where the other outcome is its own
  taken_meets : (e : Event) (s : Asked) (o : Outcome) → e.asked ≡ s → OwnAmong s e.outcome → Tells s o → Meets value (taken e) ↔ (e.outcome ≡ o)
  unfolding taken
  taken_meets e (one_of cs) o q i t = subst (λ z. Meets value (elim z [ one_of ds ↦ atoms_of e.outcome ds | _ ↦ [] ]) ↔ (e.outcome ≡ o)) (sym q) (own_holds cs e.outcome o t.0 i)
  taken_meets e asks_nothing o q i t = absurd t
  taken_meets e (term k) o q i t = absurd t

  -- and at one where the outcomes are one they hold
  taken_together : (e : Event) (s : Asked) (o : Outcome) → e.asked ≡ s → OwnAmong s e.outcome → TellsIf s o → e.outcome ≡ o → Meets value (taken e)
  unfolding taken
  taken_together e asks_nothing o q i t h = subst (λ z. Meets value (elim z [ one_of ds ↦ atoms_of e.outcome ds | _ ↦ [] ])) (sym q) tt
  taken_together e (one_of cs) o q i t h = (taken_meets e (one_of cs) o q i t).1 h
  taken_together e (term k) o q i t h = absurd t

  same_head : {A : Type 0} → (o p : A) (l m : List A) → o ∷ l ≡ p ∷ m → o ≡ p
  same_head o p l m e = cc e

  same_tail : {A : Type 0} → (o p : A) (l m : List A) → o ∷ l ≡ p ∷ m → l ≡ m
  same_tail o p l m e = cc e

  -- the first of several clean events belongs to no term
  clean_first : (s : Asked) (n k : ℕ) → suc k ≤ (elim s [ term t ↦ 0 | _ ↦ suc n ]) → ((t : TermKind) → s ≡ term t → ⊥) × (k ≤ n)
  clean_first asks_nothing n k i = ((λ t e. absurd (cc e)), omega (arith, i))
  clean_first (one_of cs) n k i = ((λ t e. absurd (cc e)), omega (arith, i))
  clean_first (term t) n k i = absurd (omega (arith, i))

  own_first : (a : Entry Event) (l : List (Entry Event)) → ((t : TermKind) → (a.event).asked ≡ term t → ⊥) → Own (a ∷ l) → OwnAmong (a.event).asked (a.event).outcome × Own l
  own_first a l n (inl j) = absurd (n j.0 j.1)
  own_first a l n (inr j) = j

  both_meet : (l m : List Atom) → Meets value (l ++ m) ↔ Meets value l × Meets value m
  both_meet l m = ((λ h. (Meets-front value l m h, Meets-back value l m h)), (λ h. Meets-append value l m h.0 h.1))

  pub exact_walk : (l m : List (Entry Event)) → Walk l m → Own l → (k : ℕ) → k ≤ clean l → (take k (outs m) ≡ take k (outs l)) ↔ Meets value (condition k l)
  unfolding condition clean
  exact_walk l m s i zero h = ((λ e. tt), (λ e. refl))
  exact_walk [] [] s i (suc k) h = absurd (omega (arith, h))
  exact_walk [] (b ∷ m) s i (suc k) h = absurd s
  exact_walk (a ∷ l) [] s i (suc k) h = absurd s
  exact_walk (a ∷ l) (b ∷ m) s i (suc k) h = first s.2 (λ w j e. exact_walk l m w j k e)
    where
      c : ((t : TermKind) → (a.event).asked ≡ term t → ⊥) × (k ≤ clean l)
      c = clean_first (a.event).asked (clean l) k h

      own : OwnAmong (a.event).asked (a.event).outcome × Own l
      own = own_first a l c.0 i

      first : (Together a.event b.event × Walk l m) ⊎ Parts a.event b.event → (Walk l m → Own l → k ≤ clean l → (take k (outs m) ≡ take k (outs l)) ↔ Meets value (condition k l)) → (take (suc k) (outs (b ∷ m)) ≡ take (suc k) (outs (a ∷ l))) ↔ Meets value (taken a.event ++ condition k l)
      first (inl t) rest = let r = rest t.1 own.1 c.1 in (
        (λ e. (both_meet (taken a.event) (condition k l)).1 (taken_together a.event (a.event).asked (b.event).outcome refl own.0 (t.0).tells (t.0).outcome, r.0 (same_tail _ _ _ _ e))),
        (λ j. ap₂ (λ o p. o ∷ p) (sym (t.0).outcome) (r.1 ((both_meet (taken a.event) (condition k l)).0 j).1)),
      )
      first (inr (by_term t q q')) rest = absurd (c.0 t q)
      first (inr (by_choice q t n)) rest = (
        (λ e. absurd (n (sym (same_head _ _ _ _ e)))),
        (λ j. absurd (n ((taken_meets a.event (a.event).asked (b.event).outcome refl own.0 t).0 ((both_meet (taken a.event) (condition k l)).0 j).0))),
      )

  -- ---- the event after a common prefix

  in_without : (o : Outcome) (cs : List Choice) (c : Choice) → In c (without o cs) → In c cs
  unfolding without
  in_without o [] c i = i
  in_without o (d ∷ cs) c i = elim (outcome_tells d.outcome o) [
    | inl q ↦ inr (in_without o cs c (subst (λ b. In c (if b then without o cs else d ∷ without o cs)) q.0 i))
    | inr q ↦ kept (subst (λ b. In c (if b then without o cs else d ∷ without o cs)) q.0 i) (λ j. in_without o cs c j)
  ]
    where
      kept : In c (d ∷ without o cs) → (In c (without o cs) → In c cs) → In c (d ∷ cs)
      kept (inl e) rest = inl e
      kept (inr j) rest = inr (rest j)

  each_in : (cs : List Choice) (o : Outcome) → Each value cs o → (c : Choice) → In c cs → (c.outcome ≡ o) ↔ Meets value c.atoms
  each_in [] o e c i = absurd i
  each_in (d ∷ cs) o e c (inl q) = subst (λ z. (z.outcome ≡ o) ↔ Meets value z.atoms) (sym q) e.0
  each_in (d ∷ cs) o e c (inr i) = each_in cs o e.1 c i

  some_without : (o o' : Outcome) (cs : List Choice) → Some_of cs o' → o ≢ o' → (c : Choice) × In c (without o cs) × (c.outcome ≡ o')
  unfolding without
  some_without o o' [] i n = absurd i
  some_without o o' (d ∷ cs) i n = elim (outcome_tells d.outcome o) [
    | inl q ↦ subst (λ b. (c : Choice) × In c (if b then without o cs else d ∷ without o cs) × (c.outcome ≡ o')) (sym q.0) (some_without o o' cs (later q.1 i) n)
    | inr q ↦ subst (λ b. (c : Choice) × In c (if b then without o cs else d ∷ without o cs) × (c.outcome ≡ o')) (sym q.0) (here i (λ j. some_without o o' cs j n))
  ]
    where
      later : d.outcome ≡ o → Some_of (d ∷ cs) o' → Some_of cs o'
      later e (inl j) = absurd (n (sym e ∙ j))
      later e (inr j) = j

      here : Some_of (d ∷ cs) o' → (Some_of cs o' → (c : Choice) × In c (without o cs) × (c.outcome ≡ o')) → (c : Choice) × In c (d ∷ without o cs) × (c.outcome ≡ o')
      here (inl j) rest = (d, inl refl, j)
      here (inr j) rest = let r = rest j in (r.0, inr r.1, r.2)

  -- what its outcomes tell of the other outcome
  abbrev pub Next : Event → Outcome → Type 0
  Next e o = ((c : Choice) → In c (outcomes_of e) → (c.outcome ≡ o) ↔ Meets value c.atoms) × ((c : Choice) × In c (outcomes_of e) × (c.outcome ≡ o))

  own_choice : (e : Event) (o : Outcome) → (e.outcome ≡ o) ↔ Meets value (taken e) → (c : Choice) → c ≡ (let d : Choice = record { outcome = e.outcome; atoms = taken e } in d) → (c.outcome ≡ o) ↔ Meets value c.atoms
  own_choice e o h c q = subst (λ z. (z.outcome ≡ o) ↔ Meets value z.atoms) (sym q) h

  alternatives_are : (e : Event) (s : Asked) → e.asked ≡ s → alternatives e ≡ elim s [ one_of cs ↦ without e.outcome cs | _ ↦ [] ]
  unfolding alternatives
  alternatives_are e s q = ap (λ z. elim z [ one_of cs ↦ without e.outcome cs | _ ↦ [] ]) q

  next_one : (e : Event) (cs : List Choice) (o : Outcome) → e.asked ≡ one_of cs → Some_of cs e.outcome → number.Told value cs o → Next e o
  next_one e cs o q i t = let own = taken_meets e (one_of cs) o q i t in let alt = alternatives_are e (one_of cs) q in (
    (λ c. each own alt c),
    elim (outcome_tells e.outcome o) [
      | inl r ↦ (record { outcome = e.outcome; atoms = taken e }, inl refl, r.1)
      | inr r ↦ let w = some_without e.outcome o cs t.1 r.1 in (w.0, inr (subst (In w.0) (sym alt) w.1), w.2)
    ],
  )
    where
      each : Meets value (taken e) ↔ (e.outcome ≡ o) → alternatives e ≡ without e.outcome cs → (c : Choice) → In c (outcomes_of e) → (c.outcome ≡ o) ↔ Meets value c.atoms
      each own alt c (inl r) = own_choice e o (own.1, own.0) c r
      each own alt c (inr r) = each_in cs o t.0 c (in_without e.outcome cs c (subst (In c) alt r))

  next_nothing : (e : Event) (o : Outcome) → e.asked ≡ asks_nothing → e.outcome ≡ o → Next e o
  unfolding taken
  next_nothing e o q h = let alt = alternatives_are e asks_nothing q in ((λ c. each alt c), (record { outcome = e.outcome; atoms = taken e }, inl refl, h))
    where
      each : alternatives e ≡ [] → (c : Choice) → In c (outcomes_of e) → (c.outcome ≡ o) ↔ Meets value c.atoms
      each alt c (inl r) = own_choice e o ((λ _. subst (λ z. Meets value (elim z [ one_of ds ↦ atoms_of e.outcome ds | _ ↦ [] ])) (sym q) tt), (λ _. h)) c r
      each alt c (inr r) = absurd (subst (In c) alt r)

  next_together : (e : Event) (s : Asked) (o : Outcome) → e.asked ≡ s → OwnAmong s e.outcome → TellsIf s o → e.outcome ≡ o → Next e o
  next_together e asks_nothing o q i t h = next_nothing e o q h
  next_together e (one_of cs) o q i t h = next_one e cs o q i t
  next_together e (term k) o q i t h = absurd t

  next_parted : (e : Event) (s : Asked) (o : Outcome) → e.asked ≡ s → OwnAmong s e.outcome → Tells s o → Next e o
  next_parted e (one_of cs) o q i t = next_one e cs o q i t
  next_parted e asks_nothing o q i t = absurd t
  next_parted e (term k) o q i t = absurd t

  pub next_walk : (l m : List (Entry Event)) → Walk l m → Own l → (k : ℕ) → k < clean l → take k (outs m) ≡ take k (outs l)
      → (a : Entry Event) × (o : Outcome) × (slice_get l k ≡ Some a) × (slice_get (outs m) k ≡ Some o) × Next a.event o
  unfolding clean
  next_walk [] [] s i k h e = absurd (omega (arith, h))
  next_walk [] (b ∷ m) s i k h e = absurd s
  next_walk (a ∷ l) [] s i k h e = absurd s
  next_walk (a ∷ l) (b ∷ m) s i zero h e = let c = clean_first (a.event).asked (clean l) 0 h in let own = own_first a l c.0 i in (
    a,
    (b.event).outcome,
    refl,
    refl,
    elim s.2 [
      | inl t ↦ next_together a.event (a.event).asked (b.event).outcome refl own.0 (t.0).tells (t.0).outcome
      | inr t ↦ parted c.0 own.0 t
    ],
  )
    where
      parted : ((t : TermKind) → (a.event).asked ≡ term t → ⊥) → OwnAmong (a.event).asked (a.event).outcome → Parts a.event b.event → Next a.event (b.event).outcome
      parted n own (by_term t q q') = absurd (n t q)
      parted n own (by_choice q t ne) = next_parted a.event (a.event).asked (b.event).outcome refl own t
  next_walk (a ∷ l) (b ∷ m) s i (suc k) h e = let c = clean_first (a.event).asked (clean l) (suc k) h in let own = own_first a l c.0 i in elim s.2 [
    | inl t ↦ let r = next_walk l m t.1 own.1 k c.1 (same_tail _ _ _ _ e) in (r.0, r.1, r.2, r.3, r.4)
    | inr t ↦ absurd (parted c.0 t)
  ]
    where
      parted : ((t : TermKind) → (a.event).asked ≡ term t → ⊥) → Parts a.event b.event → ⊥
      parted n (by_term t q q') = n t q
      parted n (by_choice q t ne) = ne (sym (same_head _ _ _ _ e))

  same_taken : (a b : Event) → a.asked ≡ b.asked → a.outcome ≡ b.outcome → taken a ≡ taken b
  unfolding taken
  same_taken a b q o = ap₂ (λ s t. elim s [ one_of cs ↦ atoms_of t cs | _ ↦ [] ]) q o

  parts_asked : (a b : Event) → Parts a b → a.asked ≡ b.asked
  parts_asked a b (by_term t q q') = q'
  parts_asked a b (by_choice q t n) = q

  abbrev AsksNext : ℕ → List (Entry Event) → List (Entry Event) → Type 0
  AsksNext k l m = option_map (λ a. (a.event).asked) (slice_get l k) ≡ option_map (λ a. (a.event).asked) (slice_get m k)

  -- an event of no term counts
  clean_more : (s : Asked) (n k : ℕ) → ((t : TermKind) → s ≡ term t → ⊥) → k ≤ n → suc k ≤ (elim s [ term t ↦ 0 | _ ↦ suc n ])
  clean_more asks_nothing n k i h = omega (arith, h)
  clean_more (one_of cs) n k i h = omega (arith, h)
  clean_more (term t) n k i h = absurd (i t refl)

  pub alike_walk : (l m : List (Entry Event)) → Walk l m → (k : ℕ) → k ≤ clean l → take k (outs m) ≡ take k (outs l) → (k ≤ clean m) × (condition k l ≡ condition k m) × AsksNext k l m
  unfolding condition clean
  alike_walk [] [] s zero h e = (omega arith, refl, refl)
  alike_walk (a ∷ l) (b ∷ m) s zero h e = (omega arith, refl, ap Some (elim s.2 [ inl t ↦ (t.0).asked | inr t ↦ parts_asked a.event b.event t ]))
  alike_walk [] [] s (suc k) h e = absurd (omega (arith, h))
  alike_walk [] (b ∷ m) s k h e = absurd s
  alike_walk (a ∷ l) [] s k h e = absurd s
  alike_walk (a ∷ l) (b ∷ m) s (suc k) h e = let c = clean_first (a.event).asked (clean l) k h in elim s.2 [
    | inl t ↦ let r = alike_walk l m t.1 k c.1 (same_tail _ _ _ _ e) in (clean_more (b.event).asked (clean m) k (λ z q. c.0 z ((t.0).asked ∙ q)) r.0, ap₂ (λ x y. x ++ y) (same_taken a.event b.event (t.0).asked (t.0).outcome) r.1, r.2)
    | inr t ↦ absurd (parted c.0 t)
  ]
    where
      parted : ((t : TermKind) → (a.event).asked ≡ term t → ⊥) → Parts a.event b.event → ⊥
      parted n (by_term t q q') = n t q
      parted n (by_choice q t ne) = ne (sym (same_head _ _ _ _ e))

-- ---- whole runs

module _ (f : Forms) (laws : Laws f) (p : Program) (b : Limits) (points : PointsToCells p.layouts (params_of p)) where
  outs_path : (l : List (Entry Event)) → outs l ≡ path_of (traced f p.layouts) l
  outs_path [] = refl
  outs_path (a ∷ l) = ap (λ m. (a.event).outcome ∷ m) (outs_path l)

  path_is : (h : Input) → outs (events_of f p b h) ≡ path_at p b h
  path_is h = outs_path (events_of f p b h) ∙ (erased_at f p b h).1

  module _ (u h : Input) (ok : IsInput p b u) (ok' : IsInput p b h) where
    abbrev L : Related (traced f p.layouts) (traced f p.layouts)
    L = lockstep p.layouts (params_of p) (globals_of p b points) (base_of b) u h (begin_of p b u).data_now (begin_of p b h).data_now (tu f laws p b points u h ok ok') (th f laws p b points u h ok ok') f laws

    runs : SameRan (traced f p.layouts) (traced f p.layouts) L (first_world f laws p b points u h ok ok') (Void (traced f p.layouts) (traced f p.layouts) L) (traced_run f p b u) (traced_run f p b h)
    unfolding traced_run run
    runs = same_main (traced f p.layouts) (traced f p.layouts) L (fixed_of p b) (first_world f laws p b points u h ok ok') (first_world f laws p b points u h ok ok') (le_same (first_world f laws p b points u h ok ok'))
        (record { steps = b.steps; events = b.depth; locals = (traced_begin f p b u).locals; data_now = (traced_begin f p b u).data_now })
        (record { steps = b.steps; events = b.depth; locals = (traced_begin f p b h).locals; data_now = (traced_begin f p b h).data_now })
        (record { steps = refl; events = refl; locals = start_locals f laws p b points u h ok ok'; data_now = start_lock f laws p b points u h ok ok' })

    -- the values of the places of u's run
    abbrev P : List Placed
    P = places_of f p b u

    abbrev val : ℕ → Option ℤ
    val = values_at f p b u h

    abbrev Ev_at : Event → Event → Type 0
    Ev_at = Ev p.layouts (params_of p) (globals_of p b points) (base_of b) u h (begin_of p b u).data_now (begin_of p b h).data_now (tu f laws p b points u h ok ok') (th f laws p b points u h ok ok') f laws

    abbrev Part_at : Event → Event → Type 0
    Part_at = Part p.layouts (params_of p) (globals_of p b points) (base_of b) u h (begin_of p b u).data_now (begin_of p b h).data_now (tu f laws p b points u h ok ok') (th f laws p b points u h ok ok') f laws

    told_more : (l : List Placed) (cs : List Choice) (o : Outcome) → GoesOn l P → ParentsFirst l → ChoicesBelow (length l) cs → number.Told (at_place l h (base_of b)) cs o → number.Told val cs o
    told_more l cs o g i k t = (subst (λ z. Each (at_place z h (base_of b)) cs o) (sym g.1) (more_each l g.0 h (base_of b) i cs o k t.0), t.1)

    together_at : (a c : Event) → a.outcome ≡ c.outcome → Ev_at a c → GoesOn a.places P → Together val a c
    together_at a c o e g = record { outcome = o; asked = e.asked; tells = tells a.asked e.below e.fair }
      where
        tells : (s : Asked) → AskedBelow (length a.places) s → Fair p.layouts (params_of p) (globals_of p b points) (base_of b) u h (begin_of p b u).data_now (begin_of p b h).data_now (tu f laws p b points u h ok ok') (th f laws p b points u h ok ok') f laws a.places s c.outcome → TellsIf val s c.outcome
        tells asks_nothing k t = tt
        tells (one_of cs) k t = told_more a.places cs c.outcome g e.parents k t
        tells (term k) i t = absurd t

    parts_at : (a c : Event) → Part_at a c → GoesOn a.places P → Parts val a c
    parts_at a c (at_term k q q' r) g = by_term k q q'
    parts_at a c (apart q r i k t n) g = by_choice q (tells a.asked k t) n
      where
        tells : (s : Asked) → AskedBelow (length a.places) s → Choosing p.layouts (params_of p) (globals_of p b points) (base_of b) u h (begin_of p b u).data_now (begin_of p b h).data_now (tu f laws p b points u h ok ok') (th f laws p b points u h ok ok') f laws a.places s c.outcome → Tells val s c.outcome
        tells (one_of cs) k t = told_more a.places cs c.outcome g i k t
        tells asks_nothing k t = absurd t
        tells (term k) i t = absurd t

    walk_same : (v : World) (l m : List (Entry Event)) → SameLogs (traced f p.layouts) (traced f p.layouts) L v l m → AllStand f p.layouts P l → Walk val l m
    walk_same v [] [] s g = tt
    walk_same v (a ∷ l) (c ∷ m) s g = ((s.0).kind, (s.0).token, inl (together_at a.event c.event (s.0).outcome (s.0).known g.0, walk_same v l m s.1 g.1))
    walk_same v [] (c ∷ m) s g = absurd s
    walk_same v (a ∷ l) [] s g = absurd s

    walk_part : (v : World) (l m : List (Entry Event)) → PartLogs (traced f p.layouts) (traced f p.layouts) L v l m → AllStand f p.layouts P l → Walk val l m
    walk_part v (a ∷ l) (c ∷ m) (inl s) g = ((s.0).kind, (s.0).token, inl (together_at a.event c.event (s.0).outcome (s.0).known g.0, walk_part v l m s.1 g.1))
    walk_part v (a ∷ l) (c ∷ m) (inr s) g = (s.0, s.1, inr (parts_at a.event c.event s.2 g.0))
    walk_part v [] [] s g = absurd s
    walk_part v [] (c ∷ m) s g = absurd s
    walk_part v (a ∷ l) [] s g = absurd s

    stand : AllStand f p.layouts P (events_of f p b u)
    unfolding events_of places_of traced_run
    stand = places_stand f p.layouts (fixed_of p b) b.steps b.depth (traced_begin f p b u)

    walks : Walk val (events_of f p b u) (events_of f p b h)
    unfolding events_of
    walks = elim runs [
      | inl s ↦ walk_same s.0 _ _ s.2 stand
      | inr s ↦ walk_part s.0 _ _ s.2 stand
    ]

  -- the own outcome of each clean event is among its choices
  module _ (u : Input) (ok : IsInput p b u) where
    abbrev Fair_at : List Placed → Asked → Outcome → Type 0
    Fair_at = Fair p.layouts (params_of p) (globals_of p b points) (base_of b) u u (begin_of p b u).data_now (begin_of p b u).data_now (tu f laws p b points u u ok ok) (th f laws p b points u u ok ok) f laws

    among : (l : List Placed) (s : Asked) (o o' : Outcome) → o ≡ o' → Fair_at l s o' → OwnAmong s o
    among l asks_nothing o o' e t = tt
    among l (one_of cs) o o' e t = subst (Some_of cs) (sym e) t.1
    among l (term k) o o' e t = absurd t

    own_same : (v : World) (l m : List (Entry Event)) → SameLogs (traced f p.layouts) (traced f p.layouts) (L u u ok ok) v l m → Own l
    own_same v [] [] s = tt
    own_same v (a ∷ l) (c ∷ m) s = inr (among (a.event).places (a.event).asked (a.event).outcome (c.event).outcome (s.0).outcome ((s.0).known).fair, own_same v l m s.1)
    own_same v [] (c ∷ m) s = absurd s
    own_same v (a ∷ l) [] s = absurd s

    list_head : (a c : Entry Event) (l m : List (Entry Event)) → a ∷ l ≡ c ∷ m → a ≡ c
    list_head a c l m e = cc e

    list_tail : (a c : Entry Event) (l m : List (Entry Event)) → a ∷ l ≡ c ∷ m → l ≡ m
    list_tail a c l m e = cc e

    -- a run parts from itself at a term alone
    own_parts : (a c : Entry Event) (l : List (Entry Event)) → a ≡ c → Part_at u u ok ok a.event c.event → Own (a ∷ l)
    own_parts a c l e (at_term k q q' r) = inl (k, q)
    own_parts a c l e (apart q r i k t n) = absurd (n (ap (λ z. (z.event).outcome) e))

    own_part : (v : World) (l m : List (Entry Event)) → l ≡ m → PartLogs (traced f p.layouts) (traced f p.layouts) (L u u ok ok) v l m → Own l
    own_part v (a ∷ l) (c ∷ m) e (inl s) = inr (among (a.event).places (a.event).asked (a.event).outcome (c.event).outcome (s.0).outcome ((s.0).known).fair, own_part v l m (list_tail _ _ _ _ e) s.1)
    own_part v (a ∷ l) (c ∷ m) e (inr s) = own_parts a c l (list_head _ _ _ _ e) s.2
    own_part v [] [] e s = absurd s
    own_part v [] (c ∷ m) e s = absurd s
    own_part v (a ∷ l) [] e s = absurd s

    own_log : Own (events_of f p b u)
    unfolding events_of
    own_log = elim (runs u u ok ok) [
      | inl s ↦ own_same s.0 _ _ s.2
      | inr s ↦ own_part s.0 _ _ refl s.2
    ]

    to_outs : (h : Input) (k : ℕ) → take k (path_at p b h) ≡ take k (path_at p b u) → take k (outs (events_of f p b h)) ≡ take k (outs (events_of f p b u))
    to_outs h k e = ap (take k) (path_is h) ∙ e ∙ sym (ap (take k) (path_is u))

    from_outs : (h : Input) (k : ℕ) → take k (outs (events_of f p b h)) ≡ take k (outs (events_of f p b u)) → take k (path_at p b h) ≡ take k (path_at p b u)
    from_outs h k e = sym (ap (take k) (path_is h)) ∙ e ∙ ap (take k) (path_is u)

    -- the conditions of the clean events are exact
    pub exact_at : (k : ℕ) → k ≤ clean (events_of f p b u) → Exact f p b u k
    exact_at k c = record { exactly = λ h ok'. let r = exact_walk (values_at f p b u h) (events_of f p b u) (events_of f p b h) (walks u h ok ok') own_log k c in ((λ e. r.0 (to_outs h k e)), (λ m. from_outs h k (r.1 m))) }

    -- and the outcomes of each clean event exhaust those of the inputs that come there
    pub exhausts_at : (k : ℕ) → k < clean (events_of f p b u) → Exhausts f p b u k
    exhausts_at k c = record {
      told = λ h ok' e. let r = next_walk (values_at f p b u h) (events_of f p b u) (events_of f p b h) (walks u h ok ok') own_log k c (to_outs h k e) in record {
        here = r.0;
        at_k = r.2;
        outcome = r.1;
        of_h = ap (λ l. slice_get l k) (sym (path_is h)) ∙ r.3;
        exactly = (r.4).0;
        no_other = (r.4).1;
      };
    }

    -- inputs with the same first outcomes have one condition, and what they ask next is the same
    pub alike_at : (h : Input) → IsInput p b h → (k : ℕ) → k ≤ clean (events_of f p b u) → SameFirst f p b k h u → Alike f p b u h k
    alike_at h ok' k c e = let r = alike_walk (values_at f p b u h) (events_of f p b u) (events_of f p b h) (walks u h ok ok') k c (to_outs h k e) in record { clean_too = r.0; conditions = r.1; next = r.2 }
