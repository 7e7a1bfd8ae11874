-- What a listing may have missed, and what it takes to miss nothing. This project's own.
use Rattle.std.specs.Prelude.{ℕ, ◌+◌, ◌≤◌, ◌≡◌, List, [], length, Option, Some, None}
use Rattle.cc_base.specs.declared.ends.End.TheVariants.{Steps}
use Rattle.cc_base.specs.declared.inputs.Input.{Input}
use Rattle.cc_base.specs.declared.outcomes.Outcome.{Outcome}
use Rattle.cc_base.specs.Forms.{Atom}
use Rattle.cc_base.specs.Groups.{groups}
use Rattle.cc_base.specs.Limits.{Limits}
use Rattle.cc_base.specs.Need.{need}
use Rattle.cc_base.specs.Paths.{Path, In, next}
use Rattle.cc_base.specs.Slice.{slice_of}
use Rattle.cc_model.specs.declared.checked.Site.{Site}
use Rattle.cc_model.specs.declared.terms.TermKind.{TermKind}
use Rattle.cc_model.specs.Core.{Program}
use Rattle.cc_model.specs.Meaning.{Entry}
use Rattle.cc_model.specs.Runs.{IsInput, path_at, end_at}
use Rattle.cc_model.specs.Traced.{Event, term}
use Rattle.cc_model.specs.Conditions.{condition, last_atoms, events_of, layer}
use Rattle.cc_model.specs.Tested.{tested, Layer, Offers}
use Rattle.cc_model.specs.Listing.{Listing, spent_item, unrun_item, count_by, is_stray, run_count, tests, Above, EnumeratesBut}
use Rattle.cc_laws.specs.LinearForms.{linear}
use Rattle.search_base.specs.Setting.{column_in}

-- the list holds the path of each input within the bounds, or of each whose path is above `after`
abbrev pub HoldsPaths : Program → Limits → Option Path → List Path → Type 0
HoldsPaths p b after paths = (h : Input) → IsInput p b h → Above after (path_at p b h) → In (path_at p b h) paths

-- the program as its traced runs tell of it, with the columns of its sites and the budget of a solve
abbrev pub searched : List Site → Program → Limits → ℕ → Layer
searched sites p b budget = layer linear p b (column_in sites) budget

-- the slice of an alternative's condition, in the run on u
abbrev pub slice_at : Program → Limits → Input → Path → Outcome → List Atom
slice_at p b u q o = slice_of (condition (length q) (events_of linear p b u)) (last_atoms (next q o) (events_of linear p b u))

-- No input within the bounds has a run that concretises or ends as `steps`, and the budget is enough for each group of the
-- slice of each alternative that such an input offers.
pub record IsEasy (p : Program) (b : Limits) (budget : ℕ) : Type 0 where
  pub no_term : (h : Input) → IsInput p b h → (a : Entry Event) → In a (events_of linear p b h) → (k : TermKind) → (a.event).asked ≡ term k → ⊥
  pub no_steps : (h : Input) → IsInput p b h → end_at p b h ≡ Steps → ⊥
  pub enough : (u : Input) (q : Path) (o : Outcome) → IsInput p b u → Offers (searched [] p b budget) u q o →
      (g : List Atom) → In g (groups (slice_at p b u q o)) → need b.lo b.hi g ≤ budget

-- how many runs a listing above a path may make on inputs whose path isn't above it
abbrev pub room : Option Path → ℕ
room None = 0
room (Some a) = length a + 1

-- No run left its prediction; the tests are the paths of every input but for those under a spent prefix, and those that are not
-- below the unrun one; and no more runs were made than there are paths.
pub record MissesNoMore (p : Program) (b : Limits) (after : Option Path) (l : Listing) : Type 0 where
  pub no_stray : count_by is_stray l.items ≡ 0
  pub enumerates_but : EnumeratesBut after (tested p b) (tests l.items) (λ q. In (spent_item q) l.items) (λ q. (i : Input) × In (unrun_item i q) l.items)
  pub few : (paths : List Path) → HoldsPaths p b None paths → run_count l ≤ length paths
