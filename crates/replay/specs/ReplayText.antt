-- What is written of a replay, and its status. The lines and the statuses are this project's own.
use Rattle.std.specs.Prelude.{ℕ, List, [], ◌∷◌, ◌++◌, codes}
use Rattle.std.specs.Fmt.{decimal}
use Rattle.cc_base.specs.declared.ends.End.{End}
use Rattle.cc_base.specs.declared.inputs.Test.{Test}
use Rattle.cc_base.specs.Ends.{end_text}
use Rattle.cc_base.specs.Limits.{Limits}
use Rattle.cc_base.specs.Paths.{Path, path_text}
use Rattle.cc_model.specs.Core.{Program}
use Rattle.cc_model.specs.Report.{newline}
use Rattle.cc_model.specs.Runs.{path_at, end_at}
use Rattle.cc_model.specs.Tested.{Real, tested}

-- replayed T
abbrev pub replayed_line : ℕ → List ℕ
replayed_line n = codes "replayed " ++ decimal n ++ newline

-- differs LINE PATH END actual PATH END
abbrev pub differs_line : ℕ → Test → Path → End → List ℕ
differs_line n t path e = codes "differs " ++ decimal n ++ codes " " ++ path_text t.path ++ codes " " ++ end_text t.end ++ codes " actual " ++ path_text path ++ codes " " ++ end_text e ++ newline

module _ (p : Program) (b : Limits) (total : ℕ) where
  -- of the tests that are left, in the lines with these numbers, where there are `total` in all: that all are real, with status 0, or
  -- the first that isn't, with the path and the end of its run and status 8
  pub data Written : List Test → List ℕ → List ℕ → ℕ → Type 0 where
    all_real : Written [] [] (replayed_line total) 0
    one_real : (t : Test) (tests : List Test) (n : ℕ) (lines text : List ℕ) (status : ℕ) → Real (tested p b) t → Written tests lines text status →
        Written (t ∷ tests) (n ∷ lines) text status
    one_differs : (t : Test) (tests : List Test) (n : ℕ) (lines : List ℕ) → (Real (tested p b) t → ⊥) →
        Written (t ∷ tests) (n ∷ lines) (differs_line n t (path_at p b t.input) (end_at p b t.input)) 8
