-- What comes of solving what is asked at an event.
use Rattle.std.specs.Prelude.{ℕ, ◌^◌, ◌<◌, List, ◌++◌, length}
use Rattle.cc_base.specs.declared.inputs.Input.{Input}
use Rattle.cc_base.specs.Forms.{Atom}
use Rattle.cc_base.specs.Holds.{Meets}
use Rattle.cc_base.specs.Limits.{Limits, base_of}
use Rattle.cc_base.specs.Places.{Placed, at_place}
use Rattle.cc_model.specs.Answers.{Answers}
use Rattle.cc_model.specs.Core.{Program}
use Rattle.cc_model.specs.Runs.{IsInput}
use Rattle.cc_model.specs.Tested.{Answer, never, spent, turned}
use Rattle.flip_solve.specs.declared.flipping.Turned.{Turned}
use Rattle.flip_solve.specs.declared.flipping.Turned.TheVariants as came
use Rattle.flip_solve.specs.Turning.{Keeps}

abbrev pub answer_of : Turned → Answer
answer_of (came.Turned i) = turned
answer_of came.Never = never
answer_of came.Spent = spent

-- an input that meets the atoms c and d, and keeps what it can of u at the first n places
pub record IsSettled (p : Program) (b : Limits) (all : List Placed) (n : ℕ) (c d : List Atom) (u i : Input) : Type 0 where
  pub input : IsInput p b i
  pub few : length i.cells < 10 ^ 18
  pub meets : Meets (at_place all i (base_of b)) (c ++ d)
  pub keeps : Keeps p b all n c d u i

abbrev pub SettledIf : Program → Limits → List Placed → ℕ → List Atom → List Atom → Input → Turned → Type 0
SettledIf p b all n c d u (came.Turned i) = IsSettled p b all n c d u i
SettledIf p b all n c d u came.Never = Unit {0}
SettledIf p b all n c d u came.Spent = Unit {0}

-- the answer that is due, with such an input where there is one
pub record Settles (p : Program) (b : Limits) (budget : ℕ) (all : List Placed) (n : ℕ) (c d : List Atom) (u : Input) (a : Turned) : Type 0 where
  pub answer : Answers b.lo b.hi budget c d (answer_of a)
  pub settled : SettledIf p b all n c d u a
