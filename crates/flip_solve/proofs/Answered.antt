-- What turning an event promises, from what comes of solving what is asked there.
use Rattle.std.proofs.Common.{◌≡◌, ℕ, zero, suc, arith, get_or, [], ◌<◌, ◌≤◌, ◌≤ℤ◌, List, ◌∷◌, ◌++◌, length, take, Some, Result, Ok, Err, IfOk, refl, sym, ap, ◌∙◌, subst, slice_get}
use Rattle.cc_base.specs.declared.inputs.Input.{Input}
use Rattle.cc_base.specs.declared.outcomes.Outcome.{Outcome}
use Rattle.cc_base.specs.declared.memory.NoMemory.{NoMemory}
use Rattle.cc_base.specs.Forms.{Atom}
use Rattle.cc_base.specs.Holds.{Meets}
use Rattle.cc_base.specs.Limits.{Limits, base_of}
use Rattle.cc_base.specs.Paths.{In}
use Rattle.cc_base.specs.Places.{Placed, at_place}
use Rattle.cc_model.specs.declared.checked.Checked.{Checked}
use Rattle.cc_model.specs.Answers.{Answers}
use Rattle.cc_model.specs.CheckedProgram.{core_of}
use Rattle.cc_model.specs.Conditions.{alternatives, atoms_of, condition, last_atoms, clean, events_of, places_of, AnswersAt, MeetsAt}
use Rattle.cc_model.specs.Core.{Program}
use Rattle.cc_model.specs.Exact.{Exact, Exhausts}
use Rattle.cc_model.specs.Graphs.{PointsToCells}
use Rattle.cc_model.specs.Meaning.{Entry}
use Rattle.cc_model.specs.Runs.{IsInput, params_of, path_of, path_at}
use Rattle.cc_model.specs.Traced.{Event, traced}
use Rattle.cc_laws.specs.LinearForms.{linear}
use Rattle.sym_expr.specs.declared.atoms.Atom.{Atom as WrittenAtom}
use Rattle.sym_expr.specs.AtomsSeen.{atoms_of as written_atoms}
use Rattle.sym_run.specs.declared.trace.Event.{Event as Written}
use Rattle.sym_run.specs.declared.trace.Trace.{Trace}
use Rattle.sym_run.specs.Asks.{choices_of}
use Rattle.sym_run.specs.Stands.{IsEvent}
use Rattle.sym_run.specs.Traces.{IsTrace, others_at}
use Rattle.flip_solve.specs.Needed.{IsTraceFrom}
use Rattle.flip_solve.specs.Choosing.{taken_of, IsAskedOf}
use Rattle.flip_solve.specs.declared.flipping.Turned.{Turned}
use Rattle.flip_solve.specs.declared.flipping.Turned.TheVariants as came
use Rattle.run_laws.specs.Lawful.{Lawful}
use Rattle.flip_solve.specs.Settling.{answer_of, Settles}
use Rattle.flip_solve.specs.Turning.{turned_at, IsTurnedIf, HasNoneIf, Keeps, KeepsIf}
use Rattle.flip_solve.proofs.Refuted.{some_input}
use Rattle.flip_solve.proofs.Prefixes.{outcomes, last_is, condition_is, before_is, turns, meets_then}
use Rattle.flip_solve.proofs.Members.{some_same, got_below}
use Rattle.flip_solve.proofs.Bared.{taken_whole, later_whole}
use Rattle.flip_solve.proofs.Gathered.{event_there, taken_is, offered_there, within_at, asked_of}
use Rattle.flip_solve.proofs.Settled.{in_range}

module _ (p : Program) (b : Limits) (u : Input) (order : b.lo ≤ℤ b.hi) (points : PointsToCells p.layouts (params_of p)) (is : IsInput p b u) (lawful : Lawful p b u)
    (path : path_of (traced linear p.layouts) (events_of linear p b u) ≡ path_at p b u)
    (k : ℕ) (a : Entry Event) (at_k : slice_get (events_of linear p b u) k ≡ Some a) (n : ℕ) (count : n ≡ length (a.event).places) (o : Outcome) (offered : In o (outcomes (alternatives a.event))) (budget : ℕ) where
  abbrev c : List Atom
  c = condition k (events_of linear p b u)

  abbrev d : List Atom
  d = atoms_of o (alternatives a.event)

  abbrev all : List Placed
  all = places_of linear p b u

  abbrev Came : Turned → Type 0
  Came r = Settles p b budget all n c d u r

  pub answer : (r : Turned) → Came r → AnswersAt linear p b budget u (turned_at p b u k o) (answer_of r)
  answer r s = subst (λ (m : List Atom). Answers b.lo b.hi budget m (last_atoms (turned_at p b u k o) (events_of linear p b u)) (answer_of r)) (sym (before_is linear p b u k o a at_k offered path))
      (subst (λ (m : List Atom). Answers b.lo b.hi budget c m (answer_of r)) (sym (last_is linear p b u k o a at_k offered path)) s.answer)

  -- meeting the atoms is meeting the condition of the prefix
  at_prefix : (h : Input) → Meets (at_place all h (base_of b)) (c ++ d) → MeetsAt linear p b u (turned_at p b u k o) h
  at_prefix h m = subst (Meets (at_place all h (base_of b))) (sym (condition_is linear p b u k o a at_k offered path)) m

  from_prefix : (h : Input) → MeetsAt linear p b u (turned_at p b u k o) h → Meets (at_place all h (base_of b)) (c ++ d)
  from_prefix h m = subst (Meets (at_place all h (base_of b))) (condition_is linear p b u k o a at_k offered path) m

  pub keeps_it : (r : Turned) → Came r → KeepsIf p b u k o n r
  keeps_it (came.Turned i) s = subst (λ (m : List Atom). Keeps p b all n c m u i) (sym (last_is linear p b u k o a at_k offered path)) (s.settled).keeps
  keeps_it came.Never s = tt
  keeps_it came.Spent s = tt

  module _ (exact : k ≤ clean (events_of linear p b u) → Exact linear p b u k) (exhausts : k < clean (events_of linear p b u) → Exhausts linear p b u k) where
    pub turned : (r : Turned) → Came r → IsTurnedIf p b u k o r
    turned (came.Turned i) s = record {
      input = (s.settled).input;
      few = (s.settled).few;
      meets = at_prefix i (s.settled).meets;
      begins = λ le. turns linear p b u k o a at_k offered path exact exhausts le i (s.settled).input (s.settled).meets;
    }
    turned came.Never s = tt
    turned came.Spent s = tt

    none_meets : Came came.Never → (h : Input) → IsInput p b h → Meets (at_place all h (base_of b)) (c ++ d) → ⊥
    none_meets s h ih m = some_input b.lo b.hi budget (at_place all h (base_of b)) c d m
        (in_range b all n h (c ++ d) ((asked_of p b u order points is lawful k a at_k n count o offered).asked).names (within_at p b u order points is lawful h ih) m)
        s.answer

    pub never : (r : Turned) → Came r → HasNoneIf p b u k o r
    never (came.Turned i) s = tt
    never came.Never s = record {
      meets_none = λ h ih m. none_meets s h ih (from_prefix h m);
      begins_none = λ le h ih bg. none_meets s h ih (meets_then linear p b u k o a at_k offered path exact exhausts le h ih bg);
    }
    never came.Spent s = tt

-- ---- of a trace

pub if_ok : {A E : Type 0} → (r : Result A E) (P Q : A → Type 0) → ((a : A) → P a → Q a) → IfOk r P → IfOk r Q
if_ok (Ok a) P Q f h = f a h
if_ok (Err e) P Q f h = tt

module _ (ck : Checked) (b : Limits) (t : Trace) (k : ℕ) (o : Outcome) (budget : ℕ) (order : b.lo ≤ℤ b.hi)
    (points : PointsToCells (core_of ck).layouts (params_of (core_of ck))) (is : IsInput (core_of ck) b t.input) (trace : IsTraceFrom k ck b t.input t)
    (lawful : Lawful (core_of ck) b t.input)
    (e : Written) (get : slice_get t.events k ≡ Some e) (off : In o (others_at e))
    (taken : List WrittenAtom) (other : List WrittenAtom) (is_taken : written_atoms taken ≡ taken_of (take k t.events)) (is_other : written_atoms other ≡ atoms_of o (choices_of e.others)) where
  abbrev q : Program
  q = core_of ck

  abbrev log : List (Entry Event)
  log = events_of linear q b t.input

  run : IsTrace ck b t.input trace.whole
  run = trace.of_run

  places : t.places ≡ places_of linear q b t.input
  places = ap (λ (x : Trace). x.places) trace.rest ∙ run.places

  there : (x : Entry Event) × (slice_get log k ≡ Some x) × IsEvent ck x e
  there = event_there ck log (trace.whole).events k e run.events (sym (later_whole ck b t.input t k trace k (omega arith)) ∙ get)

  at : slice_get log k ≡ Some there.0
  at = there.1

  offers : In o (outcomes (alternatives (there.0).event))
  offers = offered_there ck there.0 e o there.2 off

  taken_same : written_atoms taken ≡ condition k log
  taken_same = is_taken ∙ taken_whole ck b t.input t k trace k ∙ taken_is ck log (trace.whole).events k run.events

  other_same : written_atoms other ≡ atoms_of o (alternatives (there.0).event)
  other_same = is_other ∙ ap (atoms_of o) (there.2).others

  pub asked_there : IsAskedOf q b t.places e.places (written_atoms taken) (written_atoms other) t.input
  asked_there = subst (λ (l : List Placed). IsAskedOf q b l e.places (written_atoms taken) (written_atoms other) t.input) (sym places)
      (subst (λ (m : List Atom). IsAskedOf q b (places_of linear q b t.input) e.places m (written_atoms other) t.input) (sym taken_same)
      (subst (λ (m : List Atom). IsAskedOf q b (places_of linear q b t.input) e.places (condition k log) m t.input) (sym other_same)
      (asked_of q b t.input order points is lawful k there.0 at e.places (there.2).places o offers)))

  abbrev CameThere : Turned → Type 0
  CameThere r = Settles q b budget t.places e.places (written_atoms taken) (written_atoms other) t.input r

  settled : (r : Turned) → CameThere r → Settles q b budget (places_of linear q b t.input) e.places (condition k log) (atoms_of o (alternatives (there.0).event)) t.input r
  settled r s = subst (λ (l : List Placed). Settles q b budget l e.places (condition k log) (atoms_of o (alternatives (there.0).event)) t.input r) places
      (subst (λ (m : List Atom). Settles q b budget t.places e.places m (atoms_of o (alternatives (there.0).event)) t.input r) taken_same
      (subst (λ (m : List Atom). Settles q b budget t.places e.places (written_atoms taken) m t.input r) other_same s))

  module _ (path : path_of (traced linear q.layouts) log ≡ path_at q b t.input) (r : Result Turned NoMemory) (came : IfOk r CameThere) where
    pub answer_there : IfOk r (λ a. AnswersAt linear q b budget t.input (turned_at q b t.input k o) (answer_of a))
    answer_there = if_ok r CameThere _ (λ a s. answer q b t.input order points is lawful path k there.0 at e.places (there.2).places o offers budget a (settled a s)) came

    pub keeps_there : IfOk r (λ a. (x : Written) → slice_get t.events k ≡ Some x → KeepsIf q b t.input k o x.places a)
    keeps_there = if_ok r CameThere _ (λ a s x g. subst (λ (y : Written). KeepsIf q b t.input k o y.places a) (some_same e x (sym get ∙ g))
        (keeps_it q b t.input order points is lawful path k there.0 at e.places (there.2).places o offers budget a (settled a s))) came

    module _ (exact : k ≤ clean log → Exact linear q b t.input k) (exhausts : k < clean log → Exhausts linear q b t.input k) where
      pub turned_there : IfOk r (λ a. IsTurnedIf q b t.input k o a)
      turned_there = if_ok r CameThere _ (λ a s. turned q b t.input order points is lawful path k there.0 at e.places (there.2).places o offers budget exact exhausts a (settled a s)) came

      pub never_there : IfOk r (λ a. HasNoneIf q b t.input k o a)
      never_there = if_ok r CameThere _ (λ a s. never q b t.input order points is lawful path k there.0 at e.places (there.2).places o offers budget exact exhausts a (settled a s)) came

-- the element at an index
pub got_at : (l : List Written) (k : ℕ) (x : Written) → k < length l → x ≡ get_or l k x → slice_get l k ≡ Some x
got_at l k x h e = get_there l k x h ∙ ap Some (sym e)
  where
    get_there : (l : List Written) (k : ℕ) (x : Written) → k < length l → slice_get l k ≡ Some (get_or l k x)
    get_there [] k x h = absurd (omega (arith, h))
    get_there (y ∷ l) zero x h = refl
    get_there (y ∷ l) (suc k) x h = get_there l k x (omega (arith, h))

pub offered_at : (l : List Written) (k : ℕ) (x : Written) (o : Outcome) → slice_get l k ≡ Some x → ((e : Written) × (slice_get l k ≡ Some e) × In o (others_at e)) → In o (others_at x)
offered_at l k x o g w = subst (λ (y : Written). In o (others_at y)) (some_same w.0 x (sym w.1 ∙ g)) w.2

pub offered_below : (l : List Written) (k : ℕ) (o : Outcome) → ((e : Written) × (slice_get l k ≡ Some e) × In o (others_at e)) → k < length l
offered_below l k o w = got_below l k w.0 w.1
