-- Traced runs of a program, and the conditions that they collect. All of it is this project's own.
use Rattle.std.specs.Prelude.{ℕ, zero, suc, ◌-◌, length, Bool, List, [], ◌∷◌, ◌++◌, map, Option, nat_eq, if◌then◌else◌, ℤ}
use Rattle.cc_base.specs.declared.outcomes.Outcome.{Outcome}
use Rattle.cc_base.specs.declared.inputs.Input.{Input}
use Rattle.cc_base.specs.Forms.{Atom}
use Rattle.cc_base.specs.Limits.{Limits, base_of}
use Rattle.cc_base.specs.Outcomes.{byte_of}
use Rattle.cc_base.specs.Paths.{Path}
use Rattle.cc_base.specs.Places.{Placed, at_place}
use Rattle.cc_base.specs.Holds.{Meets}
use Rattle.cc_model.specs.Core.{Program, Start, start_number, start_null}
use Rattle.cc_model.specs.Meaning.{Entry, State, Result, ok, over, Ran}
use Rattle.cc_model.specs.Plain.{locals_at}
use Rattle.cc_model.specs.Runs.{Begin, run, fixed_of, params_of, begin_of}
use Rattle.cc_model.specs.Tested.{Term, Answer, Layer, tested}
use Rattle.cc_model.specs.Answers.{Answers}
use Rattle.cc_model.specs.FormOperations.{Forms}
use Rattle.cc_model.specs.Traced.{Traced, Data, Shadow, form, none, Choice, Event, one_of, term, cell_shadows, arg_places, traced}

-- ---- what an event asks

unfoldable pub same_outcome : Outcome → Outcome → Bool
same_outcome o p = nat_eq (byte_of o) (byte_of p)

-- the atoms of an outcome among the choices
unfoldable pub atoms_of : Outcome → List Choice → List Atom
atoms_of o [] = []
atoms_of o (c ∷ cs) = if same_outcome c.outcome o then c.atoms else atoms_of o cs

-- the choices but for an outcome's own
unfoldable pub without : Outcome → List Choice → List Choice
without o [] = []
without o (c ∷ cs) = if same_outcome c.outcome o then without o cs else c ∷ without o cs

-- the atoms that are taken at an event
unfoldable pub taken : Event → List Atom
taken e = elim e.asked [ one_of cs ↦ atoms_of e.outcome cs | _ ↦ [] ]

-- its alternatives, ascending
unfoldable pub alternatives : Event → List Choice
alternatives e = elim e.asked [ one_of cs ↦ without e.outcome cs | _ ↦ [] ]

-- its own outcome with the atoms taken, and its alternatives
abbrev pub outcomes_of : Event → List Choice
outcomes_of e = record { outcome = e.outcome; atoms = taken e } ∷ alternatives e

-- ---- what a run asks

-- the atoms taken at the first k events
unfoldable pub condition : ℕ → List (Entry Event) → List Atom
condition zero l = []
condition (suc k) [] = []
condition (suc k) (a ∷ l) = taken a.event ++ condition k l

-- the condition of a prefix whose last outcome is an alternative: the atoms taken before it, and those of the alternative
unfoldable pub condition_at : Path → List (Entry Event) → List Atom
condition_at [] l = []
condition_at (o ∷ p) [] = []
condition_at (o ∷ []) (a ∷ l) = atoms_of o (alternatives a.event)
condition_at (o ∷ (o' ∷ p)) (a ∷ l) = taken a.event ++ condition_at (o' ∷ p) l

-- the atoms of the last outcome of a prefix, among the alternatives of its event
unfoldable pub last_atoms : Path → List (Entry Event) → List Atom
last_atoms [] l = []
last_atoms (o ∷ p) [] = []
last_atoms (o ∷ []) (a ∷ l) = atoms_of o (alternatives a.event)
last_atoms (o ∷ (o' ∷ p)) (a ∷ l) = last_atoms (o' ∷ p) l

-- the alternatives of the event with this number, from 0
unfoldable pub alternatives_at : ℕ → List (Entry Event) → List Choice
alternatives_at k [] = []
alternatives_at zero (a ∷ l) = alternatives a.event
alternatives_at (suc k) (a ∷ l) = alternatives_at k l

-- the events before the first one of a term
unfoldable pub clean : List (Entry Event) → ℕ
clean [] = 0
clean (a ∷ l) = elim (a.event).asked [ term k ↦ 0 | _ ↦ suc (clean l) ]

-- the terms that occur, each by the line and the column of its site's token; a quotient occurs with its divisor event, which
-- has the token of its fit site
unfoldable pub terms : (ℕ → ℕ) → (ℕ → ℕ) → List (Entry Event) → List Term
terms line column [] = []
terms line column (a ∷ l) = elim (a.event).asked [ term k ↦ record { line = line a.token; col = column a.token; kind = k } ∷ terms line column l | _ ↦ terms line column l ]

-- an event without what it asks
abbrev pub bare : Entry Event → Entry Outcome
bare a = record { kind = a.kind; token = a.token; event = (a.event).outcome }

-- the steps that a run leaves
abbrev pub steps_left : {V D A : Type 0} → Result (State V D) A → ℕ
steps_left (ok a s) = s.steps
steps_left (over e s) = s.steps

-- ---- of a program, within bounds, on an input

unfoldable pub start_shadow : Forms → Start → Shadow
start_shadow f (start_number z) = form (f.number z)
start_shadow f start_null = none

abbrev pub last_state : {S A : Type 0} → Result S A → S
last_state (ok a s) = s
last_state (over e s) = s

module _ (f : Forms) (p : Program) (b : Limits) where
  -- as the plain run begins; the parameters' cells have their places
  unfoldable pub traced_begin : Input → Begin Traced Data
  traced_begin h = record {
    locals = λ n. record { plain = locals_at n; shadow = none };
    data_now = record {
      plain = (begin_of p b h).data_now;
      shadows = record {
        made = map (start_shadow f) p.globals ∷ map (λ s. s ∷ []) (cell_shadows f 0 (params_of p));
        touched = [];
        places = arg_places 0 (params_of p);
      };
    };
  }

  unfoldable pub traced_run : Input → Ran Event (State Traced Data) (Unit {0})
  traced_run h = run (traced f p.layouts) (fixed_of p b) b.steps b.depth (traced_begin h)

  unfoldable pub events_of : Input → List (Entry Event)
  events_of h = (traced_run h).log

  -- all places of the run
  unfoldable pub places_of : Input → List Placed
  places_of h = (last_state (traced_run h).result).data_now.shadows.places

  -- the values of the places of u's run at h
  abbrev pub values_at : Input → Input → ℕ → Option ℤ
  values_at u h = at_place (places_of u) h (base_of b)

  -- h meets the condition of u at its first k events
  abbrev pub MeetsFirst : Input → ℕ → Input → Type 0
  MeetsFirst u k h = Meets (values_at u h) (condition k (events_of u))

  -- h meets the condition of u at this prefix
  abbrev pub MeetsAt : Input → Path → Input → Type 0
  MeetsAt u q h = Meets (values_at u h) (condition_at q (events_of u))

  -- what comes of solving the condition of u at a prefix whose last outcome is an alternative, under a budget
  abbrev pub AnswersAt : ℕ → Input → Path → Answer → Type 0
  AnswersAt budget u q a =
      Answers b.lo b.hi budget (condition (length q - 1) (events_of u)) (last_atoms q (events_of u)) a

  -- the tested function with what its traced runs tell; the terms' columns are given, and the budget of a solve
  abbrev pub layer : (ℕ → ℕ) → ℕ → Layer
  layer column budget = record {
    runs = tested p b;
    others = λ u k. map (λ c. c.outcome) (alternatives_at k (events_of u));
    Meets = λ u q h. MeetsAt u q h;
    Answers = AnswersAt budget;
    clean = λ u. clean (events_of u);
    terms = λ u. terms p.line column (events_of u);
  }
