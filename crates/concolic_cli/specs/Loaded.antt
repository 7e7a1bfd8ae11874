-- The bytes of files, as they are read. The limits are this project's own.
use Rattle.std.specs.Prelude.{ℕ, ◌≡◌, ◌<◌, ◌≤◌, List, length, Option, Some, None}
use Rattle.cc_outside.specs.Held.{Held, file_of}

-- how many bytes a source and a tests file may have
abbrev pub source_limit : ℕ
source_limit = 1048576

abbrev pub tests_limit : ℕ
tests_limit = 16777216

-- the bytes are the file's, as far as the files tell, and no more than it may have
pub record ReadWithin (limit : ℕ) (held : Option Held) (file bytes : List ℕ) : Type 0 where
  pub told : (h : Held) → held ≡ Some h → file_of file h ≡ Some bytes
  pub short : length bytes ≤ limit

abbrev pub ReadAs : Option Held → (file bytes : List ℕ) → Type 0
ReadAs held file bytes = ReadWithin source_limit held file bytes

abbrev pub ReadTests : Option Held → (file bytes : List ℕ) → Type 0
ReadTests held file bytes = ReadWithin tests_limit held file bytes

-- why a file isn't read: there is none of this name, it has too many bytes, or the files failed
abbrev pub IsMissing : Option Held → List ℕ → Type 0
IsMissing held file = (h : Held) → held ≡ Some h → file_of file h ≡ None

abbrev pub IsTooLong : ℕ → Option Held → List ℕ → Type 0
IsTooLong limit held file = (h : Held) → held ≡ Some h → (bytes : List ℕ) × (file_of file h ≡ Some bytes) × (limit < length bytes)
