-- Named files.
use Rattle.std.specs.Prelude.{ℕ, List, Option, find}
use Rattle.std.specs.Option.{option_map}
use Rattle.std.specs.Str.{bytes_eq}

-- a file: the bytes of its name, and its own; this project's own
pub record NamedFile : Type 0 where
  pub name : List ℕ
  pub bytes : List ℕ

-- files held together; this project's own
abbrev pub Held : Type 0
Held = List NamedFile

-- the bytes of the first file of that name, if there is one; this project's own
abbrev pub file_of : List ℕ → Held → Option (List ℕ)
file_of name held = option_map (λ file. file.bytes) (find (λ file. bytes_eq file.name name) held)
