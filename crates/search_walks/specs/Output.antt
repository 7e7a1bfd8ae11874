-- What a walk as a whole owes.
use Rattle.std.specs.Prelude.{ℕ, ◌+◌, ◌*◌, ◌<◌, ◌≡◌, ◌↔◌, ◌^◌, Bool, List, [], ◌∷◌, ◌++◌, length, codes, Option}
use Rattle.std.specs.Fmt.{decimal}
use Rattle.cc_base.specs.declared.inputs.Test.{Test}
use Rattle.cc_base.specs.Paths.{In, Pairwise}
use Rattle.cc_model.specs.declared.checked.Site.{Site}
use Rattle.cc_model.specs.declared.checked.SiteKind.{SiteKind}
use Rattle.cc_model.specs.declared.checked.SiteKind.TheVariants.{Decision, Fit, Divisor, Index, Access}
use Rattle.cc_model.specs.Listing.{Item, test_item, WasRun, count_by, is_run}
use Rattle.cc_model.specs.Report.{newline, item_lines, term_lines, has_fault}
use Rattle.cc_model.specs.Tested.{Term, Real}
use Rattle.cc_outside.specs.Told.{appended, WritesPart}
use Rattle.search_walks.specs.declared.runs.Made.{Made}
use Rattle.search_walks.specs.declared.log.WalkSummary.{WalkSummary}
use Rattle.search_base.specs.Lines.{listed}
use Rattle.search_base.specs.Readable.{CanBeRead, IsNarrow}
use Rattle.search_base.specs.Setting.{Setting, layer_of}
use Rattle.search_base.specs.Terms.{Comes}
use Rattle.search_walks.specs.Deciding.{Takes}

-- the test of a run that was made
abbrev pub test_at : Made → Test
test_at r = listed r.trace r.path

abbrev pub one_for : SiteKind → ℕ
one_for Decision = 1
one_for Fit = 0
one_for Divisor = 0
one_for Index = 0
one_for Access = 0

abbrev pub decision_count : List Site → ℕ
decision_count [] = 0
decision_count (x ∷ l) = one_for x.kind + decision_count l

-- the outcomes of decisions that listed runs took, each once
pub record AreTaken (s : Setting) (items : List Item) (l : List (ℕ × Bool)) : Type 0 where
  pub once : Pairwise (λ a b. a ≡ b → ⊥) l
  pub all : (n : ℕ) (side : Bool) → In (n, side) l ↔ ((t : Test) × WasRun t items × Takes s t.input n side)

-- the terms of the listed runs, in order, each once
pub record AreTerms (s : Setting) (items : List Item) (terms : List Term) : Type 0 where
  pub ascend : Pairwise Comes terms
  pub all : (e : Term) → In e terms ↔ ((t : Test) × WasRun t items × In e ((layer_of s).terms t.input))

-- the numbers of the last line
pub record Sums (s : Setting) (items : List Item) (w : WalkSummary) : Type 0 where
  pub runs : w.runs ≡ count_by is_run items
  pub taken : List (ℕ × Bool)
  pub are_taken : AreTaken s items taken
  pub covered : w.covered ≡ length taken
  pub outcomes : w.outcomes ≡ 2 * decision_count s.checked.sites
  pub fault : w.fault ≡ has_fault items

-- they have 64 bits
pub record HasNumbers (w : WalkSummary) : Type 0 where
  pub runs : w.runs < 2 ^ 64
  pub covered : w.covered < 2 ^ 64
  pub outcomes : w.outcomes < 2 ^ 64

-- ended runs=R covered=C of M
abbrev pub ended_line : WalkSummary → List ℕ
ended_line w = codes "ended runs=" ++ decimal w.runs ++ codes " covered=" ++ decimal w.covered ++ codes " of " ++ decimal w.outcomes ++ newline

-- the items of a whole walk: the test of the base run, and those behind it
abbrev pub Begins : Setting → (List Item → Type 0) → List Item → Type 0
Begins s Walk items = (l : List Item) × (items ≡ test_item (record { path = ((layer_of s).runs).path ((layer_of s).runs).base; end = ((layer_of s).runs).end ((layer_of s).runs).base; input = ((layer_of s).runs).base }) ∷ l) × Walk l

-- what was written are the lines of the walk's items, each of whose tests is real, and then those of their terms; each line can be
-- read again
pub record WalkedWhole (s : Setting) (Walk : List Item → Type 0) (old new : Option (List ℕ)) (w : WalkSummary) : Type 0 where
  pub items : List Item
  pub terms : List Term
  pub written : new ≡ appended old (item_lines items ++ term_lines terms)
  pub walked : Begins s Walk items
  pub real : (t : Test) → WasRun t items → Real ((layer_of s).runs) t
  pub are_terms : AreTerms s items terms
  pub sums : Sums s items w
  pub few : (x : Item) → In x items → CanBeRead x
  pub narrow : (e : Term) → In e terms → IsNarrow e
  pub numbers : HasNumbers w

-- what was written is a first part of such lines, of a walk that is cut off
pub record WalkedPart (s : Setting) (Walk : List Item → Type 0) (old new : Option (List ℕ)) : Type 0 where
  pub items : List Item
  pub terms : List Term
  pub written : WritesPart old new (item_lines items ++ term_lines terms)
  pub walked : Begins s Walk items
  pub real : (t : Test) → WasRun t items → Real ((layer_of s).runs) t
