-- What a journal is after one more event.
use Rattle.std.proofs.Common.{◌≡◌, refl, sym, ap, ap₂, subst, ◌∙◌, ℕ, suc, Bool, true, false, List, [], ◌∷◌, ◌++◌, length, Option, Some, None, if◌then◌else◌}
use Rattle.std.specs.Option.{is_some, option_map}
use Rattle.std.specs.List.{slice_get, remove}
use Rattle.cc_base.specs.declared.outcomes.Outcome.{Outcome}
use Rattle.cc_base.specs.Forms.{Atom}
use Rattle.cc_model.specs.declared.checked.Checked.{Checked}
use Rattle.cc_model.specs.declared.checked.SiteId.{SiteId}
use Rattle.cc_model.specs.declared.terms.TermKind.{TermKind}
use Rattle.cc_model.specs.Conditions.{same_outcome, taken, alternatives, atoms_of as atoms_among, without}
use Rattle.cc_model.specs.Meaning.{Entry}
use Rattle.cc_model.specs.Traced as traced
use Rattle.cc_model.specs.Traced.{asks_nothing, one_of, term}
use Rattle.sym_expr.specs.declared.atoms.Atom.{Atom as Held}
use Rattle.sym_expr.specs.AtomsSeen.{atoms_of}
use Rattle.sym_run.specs.declared.asked.Asked.{Asked}
use Rattle.sym_run.specs.declared.asked.Asked.TheVariants.{Nothing, OneOf, Term as OfTerm}
use Rattle.sym_run.specs.declared.trace.Choice.{Choice}
use Rattle.sym_run.specs.declared.trace.Event.{Event}
use Rattle.sym_run.specs.declared.trace.Term.{Term}
use Rattle.sym_run.specs.declared.journal.Journal.{Journal}
use Rattle.sym_run.specs.declared.journal.Parted.{Parted}
use Rattle.sym_run.specs.Asks.{asked_of, choice_of, choices_of}
use Rattle.sym_run.specs.Journals.{atoms_or, or_length}
use Rattle.sym_run.specs.Stands.{IsSite, IsEvent, AreEvents, term_in, or_rest, of_terms, IsTerm, AreTerms, first_term, IsJournal}

-- ---- the parts of choices

pub skip_atoms : (o : Outcome) (c : traced.Choice) (rest : List traced.Choice) → same_outcome c.outcome o ≡ false → atoms_among o rest ≡ atoms_among o (c ∷ rest)
unfolding atoms_among
skip_atoms o c rest e = sym (ap (λ (b : Bool). if b then c.atoms else atoms_among o rest) e)

pub skip_others : (o : Outcome) (l : List Choice) (c : Choice) (rest : List traced.Choice) → same_outcome c.outcome o ≡ false → choices_of (l ++ c ∷ []) ++ without o rest ≡ choices_of l ++ without o (choice_of c ∷ rest)
unfolding without
skip_others o [] c rest e = sym (ap (λ (b : Bool). if b then without o rest else choice_of c ∷ without o rest) e)
skip_others o (x ∷ l) c rest e = ap (λ (m : List traced.Choice). choice_of x ∷ m) (skip_others o l c rest e)

pub take_atoms : (o : Outcome) (c : traced.Choice) (rest : List traced.Choice) → same_outcome c.outcome o ≡ true → c.atoms ≡ atoms_among o (c ∷ rest)
unfolding atoms_among
take_atoms o c rest e = sym (ap (λ (b : Bool). if b then c.atoms else atoms_among o rest) e)

pub take_others : (o : Outcome) (c : traced.Choice) (rest : List traced.Choice) → same_outcome c.outcome o ≡ true → without o rest ≡ without o (c ∷ rest)
unfolding without
take_others o c rest e = sym (ap (λ (b : Bool). if b then without o rest else c ∷ without o rest) e)

pub taken_first : (t : Option (List Held)) (o : Outcome) (c : Choice) (rest : List traced.Choice) → is_some t ≡ false → same_outcome c.outcome o ≡ true → atoms_of c.atoms ≡ atoms_or t (atoms_among o (choice_of c ∷ rest))
taken_first None o c rest n e = take_atoms o (choice_of c) rest e
taken_first (Some a) o c rest n e = absurd (cc n)

pub taken_kept : (t : Option (List Held)) (l m : List Atom) → is_some t ≡ true → atoms_or t l ≡ atoms_or t m
taken_kept None l m n = absurd (cc n)
taken_kept (Some a) l m n = refl

pub taken_same : (t : Option (List Held)) (l m : List Atom) → l ≡ m → atoms_or t l ≡ atoms_or t m
taken_same t l m e = ap (atoms_or t) e

-- ---- one more event

module _ (c : Checked) where
  events_push : (l : List (Entry traced.Event)) (es : List Event) (a : Entry traced.Event) (e : Event) → AreEvents c l es → IsEvent c a e → AreEvents c (l ++ a ∷ []) (es ++ e ∷ [])
  events_push [] [] a e h i = (i, tt)
  events_push [] (f ∷ es) a e h i = absurd h
  events_push (b ∷ l) [] a e h i = absurd h
  events_push (b ∷ l) (f ∷ es) a e h i = (h.0, events_push l es a e h.1 i)

  terms_push : (l : List (Entry traced.Event)) (ts : List Term) (a : Entry traced.Event) (t : Term) → AreTerms c l ts → IsTerm c a t → AreTerms c (l ++ a ∷ []) (ts ++ t ∷ [])
  terms_push [] [] a t h i = (i, tt)
  terms_push [] (u ∷ ts) a t h i = absurd h
  terms_push (b ∷ l) [] a t h i = absurd h
  terms_push (b ∷ l) (u ∷ ts) a t h i = (h.0, terms_push l ts a t h.1 i)

  same_length : (l : List (Entry traced.Event)) (es : List Event) → AreEvents c l es → length es ≡ length l
  same_length [] [] h = refl
  same_length [] (f ∷ es) h = absurd h
  same_length (b ∷ l) [] h = absurd h
  same_length (b ∷ l) (f ∷ es) h = ap (λ (n : ℕ). suc n) (same_length l es h.1)

-- an event without a term
of_terms_skip : (l : List (Entry traced.Event)) (a : Entry traced.Event) → term_in (a.event).asked ≡ None → of_terms (l ++ a ∷ []) ≡ of_terms l
of_terms_skip [] a e = ap (λ (k : Option TermKind). or_rest k (a ∷ []) []) e
of_terms_skip (b ∷ l) a e = ap (λ (m : List (Entry traced.Event)). or_rest (term_in (b.event).asked) (b ∷ m) m) (of_terms_skip l a e)

first_skip : (l : List (Entry traced.Event)) (a : Entry traced.Event) → term_in (a.event).asked ≡ None → first_term (l ++ a ∷ []) ≡ first_term l
first_skip [] a e = ap (λ (k : Option TermKind). or_rest k (Some 0) None) e
first_skip (b ∷ l) a e = ap (λ (n : Option ℕ). or_rest (term_in (b.event).asked) (Some 0) (option_map suc n)) (first_skip l a e)

-- an event of a term
of_terms_more : (l : List (Entry traced.Event)) (a : Entry traced.Event) (k : TermKind) → term_in (a.event).asked ≡ Some k → of_terms (l ++ a ∷ []) ≡ of_terms l ++ a ∷ []
of_terms_more [] a k e = ap (λ (k : Option TermKind). or_rest k (a ∷ []) []) e
of_terms_more (b ∷ l) a k e = pick (of_terms_more l a k e) (term_in (b.event).asked)
  where
    pick : of_terms (l ++ a ∷ []) ≡ of_terms l ++ a ∷ [] → (o : Option TermKind) → or_rest o (b ∷ of_terms (l ++ a ∷ [])) (of_terms (l ++ a ∷ [])) ≡ or_rest o (b ∷ of_terms l) (of_terms l) ++ a ∷ []
    pick h None = h
    pick h (Some t) = ap (λ (m : List (Entry traced.Event)). b ∷ m) h

suc_length : {A B : Type 0} (o : Option ℕ) (l : List A) (m : List B) → length m ≡ suc (length l) → option_map suc (or_length o l) ≡ or_length (option_map suc o) m
suc_length None l m e = ap (λ (n : ℕ). (let o : Option ℕ = Some n in o)) (sym e)
suc_length (Some n) l m e = refl

first_more : (l : List (Entry traced.Event)) (a : Entry traced.Event) (k : TermKind) → term_in (a.event).asked ≡ Some k → first_term (l ++ a ∷ []) ≡ or_length (first_term l) l
first_more [] a k e = ap (λ (k : Option TermKind). or_rest k (Some 0) None) e
first_more (b ∷ l) a k e = pick (first_more l a k e) (term_in (b.event).asked)
  where
    pick : first_term (l ++ a ∷ []) ≡ or_length (first_term l) l → (o : Option TermKind) → or_rest o (Some 0) (option_map suc (first_term (l ++ a ∷ []))) ≡ or_length (or_rest o (Some 0) (option_map suc (first_term l))) (b ∷ l)
    pick h None = ap (option_map suc) h ∙ suc_length (first_term l) l (b ∷ l) refl
    pick h (Some t) = refl

same_length_or : {A B : Type 0} (o : Option ℕ) (l : List A) (m : List B) → length l ≡ length m → or_length o l ≡ or_length o m
same_length_or None l m e = ap (λ (n : ℕ). (let o : Option ℕ = Some n in o)) e
same_length_or (Some n) l m e = refl

module _ (c : Checked) (l : List (Entry traced.Event)) (a : Entry traced.Event) (j : Journal) (e : Event) where
  pub without_term : term_in (a.event).asked ≡ None → IsEvent c a e → IsJournal c l j → IsJournal c (l ++ a ∷ []) (record j { events = j.events ++ e ∷ [] })
  without_term n h i = record {
    events = events_push c l j.events a e i.events h;
    terms = subst (λ (m : List (Entry traced.Event)). AreTerms c m j.terms) (sym (of_terms_skip l a n)) i.terms;
    clean = i.clean ∙ sym (first_skip l a n);
  }

  pub with_term : (t : Term) → IsTerm c a t → IsEvent c a e → IsJournal c l j
      → IsJournal c (l ++ a ∷ []) (record { events = j.events ++ e ∷ []; terms = j.terms ++ t ∷ []; clean = or_length j.clean j.events })
  with_term t k h i = record {
    events = events_push c l j.events a e i.events h;
    terms = subst (λ (m : List (Entry traced.Event)). AreTerms c m (j.terms ++ t ∷ [])) (sym (of_terms_more l a t.kind k.kind)) (terms_push c (of_terms l) j.terms a t i.terms k);
    clean = ap (λ (o : Option ℕ). or_length o j.events) i.clean ∙ same_length_or (first_term l) j.events l (same_length c l j.events i.events) ∙ sym (first_more l a t.kind k.kind);
  }

-- ---- what an event asks, by what was parted

taken_by : traced.Asked → Outcome → List Atom
taken_by x o = taken (record { outcome = o; asked = x; places = [] })

nothing_taken : (a : traced.Event) → a.asked ≡ asks_nothing → taken a ≡ []
unfolding taken
nothing_taken a e = ap (λ (x : traced.Asked). taken (record { outcome = a.outcome; asked = x; places = a.places })) e

nothing_else : (a : traced.Event) → a.asked ≡ asks_nothing → alternatives a ≡ []
unfolding alternatives
nothing_else a e = ap (λ (x : traced.Asked). alternatives (record { outcome = a.outcome; asked = x; places = a.places })) e

term_taken : (a : traced.Event) (k : TermKind) → a.asked ≡ term k → taken a ≡ []
unfolding taken
term_taken a k e = ap (λ (x : traced.Asked). taken (record { outcome = a.outcome; asked = x; places = a.places })) e

term_else : (a : traced.Event) (k : TermKind) → a.asked ≡ term k → alternatives a ≡ []
unfolding alternatives
term_else a k e = ap (λ (x : traced.Asked). alternatives (record { outcome = a.outcome; asked = x; places = a.places })) e

one_taken : (a : traced.Event) (o : Outcome) (l : List traced.Choice) → a.outcome ≡ o → a.asked ≡ one_of l → taken a ≡ atoms_among o l
unfolding taken
one_taken a o l p e = ap₂ (λ (x : traced.Asked) (q : Outcome). taken (record { outcome = q; asked = x; places = a.places })) e p

one_else : (a : traced.Event) (o : Outcome) (l : List traced.Choice) → a.outcome ≡ o → a.asked ≡ one_of l → alternatives a ≡ without o l
unfolding alternatives
one_else a o l p e = ap₂ (λ (x : traced.Asked) (q : Outcome). alternatives (record { outcome = q; asked = x; places = a.places })) e p

-- the event that was made of parts
pub record Made (site : SiteId) (o : Outcome) (taken : Option (List Held)) (others : List Choice) (places : ℕ) (e : Event) : Type 0 where
  pub site_is : e.site ≡ site
  pub outcome : (e.taken).outcome ≡ o
  pub atoms : atoms_of (e.taken).atoms ≡ atoms_or taken []
  pub others_are : e.others ≡ others
  pub places_are : e.places ≡ places

module _ (c : Checked) (l : List (Entry traced.Event)) (a : Entry traced.Event) (j : Journal) (e : Event) (site : SiteId) (o : Outcome) (places : ℕ) where
  event_is : (t : Option (List Held)) (others : List Choice) → IsSite c site a.kind a.token → (a.event).outcome ≡ o → length (a.event).places ≡ places
      → Made site o t others places e → atoms_or t [] ≡ taken a.event → choices_of others ≡ alternatives a.event → IsEvent c a e
  event_is t others s p q m x y = record {
    site = subst (λ (i : SiteId). IsSite c i a.kind a.token) (sym m.site_is) s;
    outcome = m.outcome ∙ sym p;
    atoms = m.atoms ∙ x;
    others = ap choices_of m.others_are ∙ y;
    places = m.places_are ∙ sym q;
  }

  pub nothing_added : IsSite c site a.kind a.token → (a.event).outcome ≡ o → (a.event).asked ≡ asks_nothing → length (a.event).places ≡ places
      → Made site o None [] places e → IsJournal c l j → IsJournal c (l ++ a ∷ []) (record j { events = j.events ++ e ∷ [] })
  nothing_added s p x q m i = without_term c l a j e (ap term_in x) (event_is None [] s p q m (sym (nothing_taken a.event x)) (sym (nothing_else a.event x))) i

  pub one_added : (t : Option (List Held)) (others cs : List Choice) → IsSite c site a.kind a.token → (a.event).outcome ≡ o → (a.event).asked ≡ one_of (choices_of cs) → length (a.event).places ≡ places
      → Made site o t others places e → atoms_or t [] ≡ atoms_among o (choices_of cs) → choices_of others ≡ without o (choices_of cs) → IsJournal c l j → IsJournal c (l ++ a ∷ []) (record j { events = j.events ++ e ∷ [] })
  one_added t others cs s p x q m y z i = without_term c l a j e (ap term_in x) (event_is t others s p q m (y ∙ sym (one_taken a.event o (choices_of cs) p x)) (z ∙ sym (one_else a.event o (choices_of cs) p x))) i

  pub term_added : (k : TermKind) → IsSite c site a.kind a.token → (a.event).outcome ≡ o → (a.event).asked ≡ term k → length (a.event).places ≡ places
      → Made site o None [] places e → IsJournal c l j → IsJournal c (l ++ a ∷ []) (record { events = j.events ++ e ∷ []; terms = j.terms ++ record { site = site; kind = k } ∷ []; clean = or_length j.clean j.events })
  term_added k s p x q m i = with_term c l a j e (record { site = site; kind = k }) (record { site = s; kind = ap term_in x }) (event_is None [] s p q m (sym (term_taken a.event k x)) (sym (term_else a.event k x))) i

module _ (c : Checked) (l : List (Entry traced.Event)) (a : Entry traced.Event) (j new self : Journal) (e : Event) (site : SiteId) (o : Outcome) (places : ℕ) (x : Asked) (p : Parted) where
  pushed : Journal → Journal
  pushed k = record k { events = k.events ++ e ∷ [] }

  abbrev pub Added : Type 0
  Added = IsSite c site a.kind a.token → (a.event).outcome ≡ o → (a.event).asked ≡ asked_of x → length (a.event).places ≡ places → IsJournal c l j → IsJournal c (l ++ a ∷ []) new

  pub add_nothing : x ≡ Nothing → (let q : Parted = record { taken = None; others = [] } in p ≡ q) → self ≡ j → (let k : Journal = record self { events = self.events ++ e ∷ [] } in new ≡ k) → Made site o p.taken p.others places e → Added
  unfolding pushed
  add_nothing n q r f m s y z t i =
      subst (λ (k : Journal). IsJournal c (l ++ a ∷ []) k) (sym (f ∙ ap pushed r))
      (nothing_added c l a j e site o places s y (z ∙ ap asked_of n) t (subst (λ (k : Parted). Made site o k.taken k.others places e) q m) i)

  pub add_one : (cs : List Choice) → x ≡ OneOf cs → self ≡ j → (let k : Journal = record self { events = self.events ++ e ∷ [] } in new ≡ k) → Made site o p.taken p.others places e
      → atoms_or p.taken [] ≡ atoms_among o (choices_of cs) → choices_of p.others ≡ without o (choices_of cs) → Added
  unfolding pushed
  add_one cs n r f m b d s y z t i =
      subst (λ (k : Journal). IsJournal c (l ++ a ∷ []) k) (sym (f ∙ ap pushed r))
      (one_added c l a j e site o places p.taken p.others cs s y (z ∙ ap asked_of n) t m b d i)

  pub add_term : (k : TermKind) → x ≡ OfTerm k → (let q : Parted = record { taken = None; others = [] } in p ≡ q)
      → (let n : Journal = record j { terms = j.terms ++ record { site = site; kind = k } ∷ []; clean = or_length j.clean j.events } in self ≡ n)
      → (let k : Journal = record self { events = self.events ++ e ∷ [] } in new ≡ k) → Made site o p.taken p.others places e → Added
  unfolding pushed
  add_term k n q r f m s y z t i =
      subst (λ (k : Journal). IsJournal c (l ++ a ∷ []) k) (sym (f ∙ ap pushed r))
      (term_added c l a j e site o places k s y (z ∙ ap asked_of n) t (subst (λ (k : Parted). Made site o k.taken k.others places e) q m) i)

same_some : {A : Type 0} (x y : A) → (let o : Option A = Some x in o) ≡ Some y → x ≡ y
same_some x y e = cc

pub front_removed : {A : Type 0} (l new : List A) (x : A) → slice_get l 0 ≡ Some x → new ≡ remove l 0 → x ∷ new ≡ l
front_removed [] new x e f = absurd (cc e)
front_removed {A = A} (y ∷ l) new x e f = ap₂ (λ (a : A) (m : List A). a ∷ m) (sym (same_some y x e)) f
