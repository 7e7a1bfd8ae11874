-- The texts of inputs and tests. They are this project's own.
use Rattle.std.specs.Prelude.{ℕ, ℤ, List, [], ◌∷◌, ◌++◌, codes}
use Rattle.std.specs.Fmt.{signed_decimal}
use Rattle.cc_base.specs.declared.inputs.Input.{Input}
use Rattle.cc_base.specs.declared.inputs.Test.{Test}
use Rattle.cc_base.specs.Paths.{path_text}
use Rattle.cc_base.specs.Ends.{end_text}

-- numbers with commas between them
abbrev pub numbers_text : List ℤ → List ℕ
numbers_text [] = []
numbers_text (z ∷ []) = signed_decimal z
numbers_text (z ∷ y ∷ l) = signed_decimal z ++ codes "," ++ numbers_text (y ∷ l)

-- the cells, ~ where there are none
abbrev pub cells_text : List ℤ → List ℕ
cells_text [] = codes "~"
cells_text (z ∷ l) = numbers_text (z ∷ l)

-- behind a / the numbers of the stream, where there are any
abbrev pub stream_text : List ℤ → List ℕ
stream_text [] = []
stream_text (z ∷ l) = codes "/" ++ numbers_text (z ∷ l)

-- an input as it is written
abbrev pub map_text : Input → List ℕ
map_text i = cells_text i.cells ++ stream_text i.stream

-- a test as it is written: its path, its end and its input
abbrev pub test_text : Test → List ℕ
test_text t = path_text t.path ++ codes " " ++ end_text t.end ++ codes " " ++ map_text t.input
