-- What a piece written to a stream does to the bytes that the stream is known to hold.
use Rattle.std.specs.Prelude.{ℕ, List, Option}
use Rattle.std.specs.Io.KnownBytes.{Appends}
use Rattle.cc_outside.specs.Prefix.{IsFirstPart}

-- known bytes grow by a first part of the piece; this project's own
abbrev pub AppendsPart : Option (List ℕ) → Option (List ℕ) → List ℕ → Type 0
AppendsPart old new piece = (part : List ℕ) × IsFirstPart part piece × Appends old new part
