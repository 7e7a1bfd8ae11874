-- What comes of the tests of a file, while they are replayed.
use Rattle.std.specs.Prelude.{ℕ, ◌≡◌, ◌<◌, ◌⊎◌, List, length, Option, Some, None, slice_get, All}
use Rattle.cc_base.specs.declared.inputs.Test.{Test}
use Rattle.cc_base.specs.Limits.{Limits}
use Rattle.cc_base.specs.Outcomes.{HasByte}
use Rattle.cc_model.specs.Core.{Program}
use Rattle.cc_model.specs.Runs.{IsInput, path_at, end_at}
use Rattle.cc_model.specs.Tested.{Real, tested}
use Rattle.cc_outside.specs.Faults.{Rose}
use Rattle.cc_outside.specs.Told.{appended, WritesPart}
use Rattle.replay.specs.declared.tests_file.Tests.{Tests}
use Rattle.concolic_cli.specs.Session.{LinesRefused}
use Rattle.replay.specs.ReplayText.{Written}
use Rattle.concolic_cli.specs.declared.refusal.Refusal.{Refusal}
use Rattle.concolic_cli.specs.declared.refusal.Refusal.TheVariants as refusal
use Rattle.concolic_cli.specs.declared.replaying.Difference.{Difference}

-- the first tests are real, so many
abbrev pub AreReal : Program → Limits → List Test → ℕ → Type 0
AreReal p b tests n = (k : ℕ) (t : Test) → k < n → slice_get tests k ≡ Some t → Real (tested p b) t

-- this test is the first that isn't real, and its input's run takes this path to this end
pub record IsFirstDifference (p : Program) (b : Limits) (tests : List Test) (d : Difference) : Type 0 where
  pub test : Test
  pub here : slice_get tests d.place ≡ Some test
  pub before : AreReal p b tests d.place
  pub differs : Real (tested p b) test → ⊥
  pub path : d.path ≡ path_at p b test.input
  pub end : d.end ≡ end_at p b test.input
  pub bytes : All HasByte d.path

-- all tests are real, or this is the first that isn't
abbrev pub DiffersFirst : Program → Limits → List Test → Option Difference → Type 0
DiffersFirst p b tests None = AreReal p b tests (length tests)
DiffersFirst p b tests (Some d) = IsFirstDifference p b tests d

-- the inputs are within the bounds
abbrev pub AreWithin : Program → Limits → List Test → Type 0
AreWithin p b tests = (k : ℕ) (t : Test) → slice_get tests k ≡ Some t → IsInput p b t.input

-- the cause of a refusal of the text of a tests file
abbrev pub TextRefused : Program → List ℕ → Refusal → Type 0
TextRefused p file (refusal.Tests line) = LinesRefused p file line
TextRefused p file refusal.NoMemory = Unit {0}
TextRefused p file (refusal.BadWord n) = ⊥
TextRefused p file (refusal.File w f) = ⊥
TextRefused p file (refusal.Source line wrong) = ⊥
TextRefused p file refusal.NoEntry = ⊥
TextRefused p file (refusal.Map f) = ⊥
TextRefused p file refusal.OutputFailed = ⊥

-- the line for the tests was written, with this status
pub record WroteReplay (p : Program) (t : Tests) (old new : Option (List ℕ)) (status : ℕ) : Type 0 where
  pub text : List ℕ
  pub tells : Written p t.bounds (length t.tests) t.tests t.lines text status
  pub written : new ≡ appended old text

-- a first part of it was written
pub record WroteReplayPart (p : Program) (t : Tests) (old new : Option (List ℕ)) : Type 0 where
  pub text : List ℕ
  pub status : ℕ
  pub tells : Written p t.bounds (length t.tests) t.tests t.lines text status
  pub written : WritesPart old new text

-- the cause of a refusal of the output: its faults rose and a first part of the line stands; or want of memory, and that or nothing
-- stands
abbrev pub ReplayCause : Program → Tests → (old new : Option (List ℕ)) → (faults_old faults_new : ℕ) → Refusal → Type 0
ReplayCause p t old new a b refusal.OutputFailed = Rose a b × WroteReplayPart p t old new
ReplayCause p t old new a b refusal.NoMemory = (new ≡ old) ⊎ WroteReplayPart p t old new
ReplayCause p t old new a b (refusal.BadWord n) = ⊥
ReplayCause p t old new a b (refusal.File w f) = ⊥
ReplayCause p t old new a b (refusal.Source line wrong) = ⊥
ReplayCause p t old new a b refusal.NoEntry = ⊥
ReplayCause p t old new a b (refusal.Map f) = ⊥
ReplayCause p t old new a b (refusal.Tests line) = ⊥
