-- What turning an event of a run comes to. All of it is this project's own.
use Rattle.std.specs.Prelude.{ℕ, suc, ◌^◌, ◌<◌, ◌≤◌, ◌≡◌, ◌⊎◌, ◌↔◌, pos, List, ◌++◌, length, take, Some, slice_get}
use Rattle.cc_base.specs.declared.inputs.Input.{Input}
use Rattle.cc_base.specs.declared.outcomes.Outcome.{Outcome}
use Rattle.cc_base.specs.Classes.{Forced, Mentions}
use Rattle.cc_base.specs.Forms.{Atom, nothing, at}
use Rattle.cc_base.specs.Holds.{places_of_atom}
use Rattle.cc_base.specs.Limits.{Limits, base_of}
use Rattle.cc_base.specs.Paths.{Path, In, next, BeginsWith}
use Rattle.cc_base.specs.Places.{Placed, stream, at_place}
use Rattle.cc_base.specs.Slice.{slice_of}
use Rattle.cc_model.specs.Canonical.{base_cell}
use Rattle.cc_model.specs.Conditions.{clean, condition, last_atoms, events_of, places_of, MeetsAt}
use Rattle.cc_model.specs.Core.{Cell, Program}
use Rattle.cc_model.specs.Runs.{IsInput, params_of, path_at}
use Rattle.cc_laws.specs.LinearForms.{linear}
use Rattle.sym_run.specs.Placing.{IsNumberAt, IsPointerAt}
use Rattle.flip_solve.specs.declared.flipping.Turned.{Turned}
use Rattle.flip_solve.specs.declared.flipping.Turned.TheVariants as came
use Rattle.input_map.specs.Builds.{cell_types, StandsIn, stream_length}

-- the first k outcomes of u's run, and then o
abbrev pub turned_at : Program → Limits → Input → ℕ → Outcome → Path
turned_at p b u k o = next (take k (path_at p b u)) o

-- an input that takes the outcome o at event k of u's run
pub record IsTurned (p : Program) (b : Limits) (u : Input) (k : ℕ) (o : Outcome) (i : Input) : Type 0 where
  pub input : IsInput p b i
  pub few : length i.cells < 10 ^ 18
  -- it meets the atoms that were taken before the event, and those of the outcome
  pub meets : MeetsAt linear p b u (turned_at p b u k o) i
  -- where no event of a term comes before, its run begins with the outcomes before the event and with o
  pub begins : k ≤ clean (events_of linear p b u) → BeginsWith (path_at p b i) (turned_at p b u k o)

-- no input takes it
pub record HasNone (p : Program) (b : Limits) (u : Input) (k : ℕ) (o : Outcome) : Type 0 where
  pub meets_none : (h : Input) → IsInput p b h → MeetsAt linear p b u (turned_at p b u k o) h → ⊥
  pub begins_none : k ≤ clean (events_of linear p b u) → (h : Input) → IsInput p b h → BeginsWith (path_at p b h) (turned_at p b u k o) → ⊥

-- an atom of the list names the place
abbrev pub Names : List Atom → ℕ → Type 0
Names l id = (a : Atom) × In a l × In id (places_of_atom a)

-- what the input i keeps of u's at the first n places of u's run, where c are the atoms taken before the event and d those of
-- the outcome
pub record Keeps (p : Program) (b : Limits) (all : List Placed) (n : ℕ) (c d : List Atom) (u i : Input) : Type 0 where
  -- an integer that no atom of the slice names is u's
  pub unnamed : (x : ℕ) → IsNumberAt (take n all) x → (Names (slice_of c d) x → ⊥) → at_place all i (base_of b) x ≡ at_place all u (base_of b) x
  -- two pointers that atoms mention are the same exactly where the equalities among the atoms force it
  pub equal : (x y : ℕ) → IsPointerAt (take n all) x → IsPointerAt (take n all) y → Mentions (c ++ d) x → Mentions (c ++ d) y
      → (at_place all i (base_of b) x ≡ at_place all i (base_of b) y) ↔ Forced (c ++ d) (at x) (at y)
  -- a pointer is NULL exactly where they force it, or no atom mentions it
  pub null : (x : ℕ) → IsPointerAt (take n all) x → (at_place all i (base_of b) x ≡ Some (pos 0)) ↔ (Forced (c ++ d) (at x) nothing ⊎ (Mentions (c ++ d) x → ⊥))
  -- a cell that is none of these places holds the base value, or NULL
  pub others : (k : ℕ) (ty : Cell) → slice_get (cell_types p.layouts (params_of p) (suc (length (params_of p))) i.cells) k ≡ Some ty
      → ((x : ℕ) (e : Placed) → slice_get (take n all) x ≡ Some e → StandsIn all i (base_of b) k e.place → ⊥) → slice_get i.cells k ≡ Some (base_cell b ty)
  -- the stream ends with its last number among these places, and a number that is none of them is the base value
  pub ends : length i.stream ≡ stream_length (take n all)
  pub other_numbers : (k : ℕ) → k < length i.stream → ((x : ℕ) (e : Placed) → slice_get (take n all) x ≡ Some e → e.place ≡ stream k → ⊥) → slice_get i.stream k ≡ Some (base_of b)

-- ---- the answers of `turn`

abbrev pub IsTurnedIf : Program → Limits → Input → ℕ → Outcome → Turned → Type 0
IsTurnedIf p b u k o (came.Turned i) = IsTurned p b u k o i
IsTurnedIf p b u k o came.Never = Unit {0}
IsTurnedIf p b u k o came.Spent = Unit {0}

abbrev pub HasNoneIf : Program → Limits → Input → ℕ → Outcome → Turned → Type 0
HasNoneIf p b u k o (came.Turned i) = Unit {0}
HasNoneIf p b u k o came.Never = HasNone p b u k o
HasNoneIf p b u k o came.Spent = Unit {0}

-- the places that stood before an event are the first n
abbrev pub KeepsIf : Program → Limits → Input → ℕ → Outcome → ℕ → Turned → Type 0
KeepsIf p b u k o n (came.Turned i) = Keeps p b (places_of linear p b u) n (condition k (events_of linear p b u)) (last_atoms (turned_at p b u k o) (events_of linear p b u)) u i
KeepsIf p b u k o n came.Never = Unit {0}
KeepsIf p b u k o n came.Spent = Unit {0}
