-- What a listing speaks of doesn't hang on what stands at the places.
use Rattle.std.proofs.Common.{◌≡◌, ℕ, zero, suc, ℤ, List, [], ◌∷◌, ◌++◌, map, Option, Some, None, slice_get, option_map, option_and_then, refl, sym, ap, ap₂, subst, ◌∙◌}
use Rattle.std.proofs.lemmas.Option.{slice_get-map}
use Rattle.cc_base.specs.declared.inputs.Input.{Input}
use Rattle.cc_base.specs.declared.outcomes.Outcome.{Outcome}
use Rattle.cc_base.specs.Forms.{Atom}
use Rattle.cc_base.specs.Holds.{Meets}
use Rattle.cc_base.specs.Limits.{Limits, base_of}
use Rattle.cc_base.specs.Paths.{Path}
use Rattle.cc_base.specs.Places.{Place, arg, field, stream, Placed, cell_behind, value_there, value_within, at_place}
use Rattle.cc_model.specs.declared.checked.SiteKind.{SiteKind}
use Rattle.cc_model.specs.Core.{Program}
use Rattle.cc_model.specs.Meaning.{Entry}
use Rattle.cc_model.specs.Answers.{Answers}
use Rattle.cc_model.specs.Tested.{Answer}
use Rattle.cc_model.specs.FormOperations.{Forms}
use Rattle.cc_model.specs.Traced.{Asked, asks_nothing, one_of, term, Event}
use Rattle.cc_model.specs.Conditions.{atoms_of, taken, alternatives, condition, condition_at, last_atoms, alternatives_at, clean, terms, events_of, places_of, values_at, layer}
use Rattle.sym_expr.proofs.AtomLaws.{Holds-same}
use Rattle.source_laws.specs.Renumbering.{renumber_placed, renumber_event, renumber_entry, Renumbers}
use Rattle.source_laws.specs.SameProgram.{SameLayer, SameProgram}
use Rattle.source_laws.proofs.SameRuns.{input_to, input_from, base_input_same, run_same, path_same, end_same, events_same, places_same}

module _ (r : ℕ → ℕ) where
  abbrev Log : Type 0
  Log = List (Entry Event)

  abbrev again : Log → Log
  again l = map (renumber_entry r) l

  taken_same : (e : Event) → taken (renumber_event r e) ≡ taken e
  unfolding taken
  taken_same e = refl

  alternatives_same : (e : Event) → alternatives (renumber_event r e) ≡ alternatives e
  unfolding alternatives
  alternatives_same e = refl

  condition_same : (k : ℕ) (l : Log) → condition k (again l) ≡ condition k l
  unfolding condition
  condition_same zero l = refl
  condition_same (suc k) [] = refl
  condition_same (suc k) (a ∷ l) = ap₂ (λ x y. x ++ y) (taken_same a.event) (condition_same k l)

  at_same : (w : Path) (l : Log) → condition_at w (again l) ≡ condition_at w l
  unfolding condition_at
  at_same [] l = refl
  at_same (o ∷ []) [] = refl
  at_same (o ∷ (o' ∷ w)) [] = refl
  at_same (o ∷ []) (a ∷ l) = ap (atoms_of o) (alternatives_same a.event)
  at_same (o ∷ (o' ∷ w)) (a ∷ l) = ap₂ (λ x y. x ++ y) (taken_same a.event) (at_same (o' ∷ w) l)

  last_same : (w : Path) (l : Log) → last_atoms w (again l) ≡ last_atoms w l
  unfolding last_atoms
  last_same [] l = refl
  last_same (o ∷ []) [] = refl
  last_same (o ∷ (o' ∷ w)) [] = refl
  last_same (o ∷ []) (a ∷ l) = ap (atoms_of o) (alternatives_same a.event)
  last_same (o ∷ (o' ∷ w)) (a ∷ l) = last_same (o' ∷ w) l

  others_same : (k : ℕ) (l : Log) → alternatives_at k (again l) ≡ alternatives_at k l
  unfolding alternatives_at
  others_same zero [] = refl
  others_same (suc k) [] = refl
  others_same zero (a ∷ l) = alternatives_same a.event
  others_same (suc k) (a ∷ l) = others_same k l

  clean_at : (i : SiteKind) (t : ℕ) (o : Outcome) (e : Asked) (ps : List Placed) (l : Log) → clean (again l) ≡ clean l
      → clean (again (record { kind = i; token = t; event = record { outcome = o; asked = e; places = ps } } ∷ l)) ≡ clean (record { kind = i; token = t; event = record { outcome = o; asked = e; places = ps } } ∷ l)
  unfolding clean
  clean_at i t o asks_nothing ps l k = ap suc k
  clean_at i t o (one_of cs) ps l k = ap suc k
  clean_at i t o (term c) ps l k = refl

  clean_same : (l : Log) → clean (again l) ≡ clean l
  clean_same [] = refl
  clean_same (a ∷ l) = clean_at a.kind a.token (a.event).outcome (a.event).asked (a.event).places l (clean_same l)

  module _ (line other column : ℕ → ℕ) (same : (t : ℕ) → other t ≡ line t) where
    terms_at : (i : SiteKind) (t : ℕ) (o : Outcome) (e : Asked) (ps : List Placed) (l : Log) → terms other column (again l) ≡ terms line column l
        → terms other column (again (record { kind = i; token = t; event = record { outcome = o; asked = e; places = ps } } ∷ l)) ≡ terms line column (record { kind = i; token = t; event = record { outcome = o; asked = e; places = ps } } ∷ l)
    unfolding terms
    terms_at i t o asks_nothing ps l k = k
    terms_at i t o (one_of cs) ps l k = k
    terms_at i t o (term c) ps l k = ap₂ (λ n m. record { line = n; col = column t; kind = c } ∷ m) (same t) k

    terms_same : (l : Log) → terms other column (again l) ≡ terms line column l
    unfolding terms
    terms_same [] = refl
    terms_same (a ∷ l) = terms_at a.kind a.token (a.event).outcome (a.event).asked (a.event).places l (terms_same l)

  -- ---- the values of places

  module _ (i : Input) (base : ℤ) where
    there_same : (f g : ℕ → Option ℤ) (p : Place) → ((n : ℕ) → f n ≡ g n) → value_there f i base p ≡ value_there g i base p
    unfolding value_there
    there_same f g (arg k) h = refl
    there_same f g (field q c) h = ap (option_and_then (λ a. cell_behind i.cells a c)) (h q)
    there_same f g (stream k) h = refl

    found_same : (f g : ℕ → Option ℤ) (o : Option Placed) → ((n : ℕ) → f n ≡ g n)
        → option_and_then (λ p. value_there f i base p.place) (option_map (renumber_placed r) o) ≡ option_and_then (λ p. value_there g i base p.place) o
    found_same f g None h = refl
    found_same f g (Some p) h = there_same f g p.place h

    within_same : (n : ℕ) (ps : List Placed) (id : ℕ) → value_within n (map (renumber_placed r) ps) i base id ≡ value_within n ps i base id
    unfolding value_within
    within_same zero ps id = refl
    within_same (suc n) ps id = ap (option_and_then (λ p. value_there (value_within n (map (renumber_placed r) ps) i base) i base p.place)) (slice_get-map (renumber_placed r) ps id)
        ∙ found_same (value_within n (map (renumber_placed r) ps) i base) (value_within n ps i base) (slice_get ps id) (within_same n ps)

    place_same : (ps : List Placed) (id : ℕ) → at_place (map (renumber_placed r) ps) i base id ≡ at_place ps i base id
    unfolding at_place
    place_same ps id = within_same (suc id) ps id

  meets_same : (f g : ℕ → Option ℤ) (l : List Atom) → ((n : ℕ) → f n ≡ g n) → Meets f l → Meets g l
  meets_same f g [] h k = tt
  meets_same f g (a ∷ l) h k = (Holds-same f g a (λ p i. h p) k.0, meets_same f g l h k.1)

  -- ---- the programs

  module _ (p q : Program) (h : Renumbers r p q) where
    module _ (f : Forms) (b : Limits) where
      valued : (u k : Input) (n : ℕ) → values_at f q b u k n ≡ values_at f p b u k n
      valued u k n = ap (λ l. at_place l k (base_of b) n) (places_same r p q h f b u) ∙ place_same k (base_of b) (places_of f p b u) n

      conditions : (u : Input) (k : ℕ) → condition k (events_of f p b u) ≡ condition k (events_of f q b u)
      conditions u k = sym (ap (condition k) (events_same r p q h f b u) ∙ condition_same k (events_of f p b u))

      lasts : (u : Input) (w : Path) → last_atoms w (events_of f p b u) ≡ last_atoms w (events_of f q b u)
      lasts u w = sym (ap (last_atoms w) (events_same r p q h f b u) ∙ last_same w (events_of f p b u))

      conditions_at : (u : Input) (w : Path) → condition_at w (events_of f p b u) ≡ condition_at w (events_of f q b u)
      conditions_at u w = sym (ap (condition_at w) (events_same r p q h f b u) ∙ at_same w (events_of f p b u))

      meets_to : (u : Input) (w : Path) (k : Input) → Meets (values_at f p b u k) (condition_at w (events_of f p b u)) → Meets (values_at f q b u k) (condition_at w (events_of f q b u))
      meets_to u w k m = subst (Meets (values_at f q b u k)) (conditions_at u w) (meets_same (values_at f p b u k) (values_at f q b u k) (condition_at w (events_of f p b u)) (λ n. sym (valued u k n)) m)

      meets_from : (u : Input) (w : Path) (k : Input) → Meets (values_at f q b u k) (condition_at w (events_of f q b u)) → Meets (values_at f p b u k) (condition_at w (events_of f p b u))
      meets_from u w k m = meets_same (values_at f q b u k) (values_at f p b u k) (condition_at w (events_of f p b u)) (valued u k) (subst (Meets (values_at f q b u k)) (sym (conditions_at u w)) m)

      module _ (column : ℕ → ℕ) (budget : ℕ) where
        answers_same : (u : Input) (w : Path) (a : Answer) → (layer f p b column budget).Answers u w a ≡ (layer f q b column budget).Answers u w a
        answers_same u w a = ap₂ (λ c l. Answers b.lo b.hi budget c l a) (conditions u _) (lasts u w)

        layer_same : SameLayer (layer f p b column budget) (layer f q b column budget)
        layer_same = record {
          runs = record { base = base_input_same r p q h b; within = λ i. (input_to r p q h b i, input_from r p q h b i); path = path_same r p q h b; end = end_same r p q h b };
          others = λ u k. ap (map (λ c. c.outcome)) (sym (ap (alternatives_at k) (events_same r p q h f b u) ∙ others_same k (events_of f p b u)));
          meets = λ u w k. (meets_to u w k, meets_from u w k);
          answers = λ u w a. (subst (λ x. x) (answers_same u w a), subst (λ x. x) (sym (answers_same u w a)));
          clean = λ u. sym (ap clean (events_same r p q h f b u) ∙ clean_same (events_of f p b u));
          terms = λ u. sym (ap (terms q.line column) (events_same r p q h f b u) ∙ terms_same p.line q.line column h.line (events_of f p b u));
        }

    pub same_program : SameProgram p q
    same_program = record {
      inputs = λ b i. (input_to r p q h b i, input_from r p q h b i);
      runs = run_same r p q h;
      paths = path_same r p q h;
      ends = end_same r p q h;
      numbers = r;
      events = events_same r p q h;
      places = places_same r p q h;
      conditions = conditions;
      last = lasts;
      layers = layer_same;
    }
