-- What notes say of a token, as a table has it.
use Rattle.std.specs.Prelude.{◌≡◌, ℕ, suc, false, nat_eq, List, [], ◌∷◌, slice_get, unwrap_or, Option, Some, None, if◌then◌else◌}
use Rattle.cc_model.specs.declared.typing.Note.{Note}
use Rattle.cc_model.specs.declared.typing.Note.TheVariants.{Typed}
use Rattle.cc_model.specs.declared.typing.CType.{CType}
use Rattle.cc_model.specs.Types.{void_type}
use Rattle.cc_model.specs.CheckedProgram.{meant, stands_for_null}
use Rattle.c_scopes.specs.declared.noted.Said.{Said}

-- of a token that no note speaks of
abbrev pub nothing : Said
nothing = record { name = None; ty = None; null = false }

abbrev pub entry : List Said → ℕ → Said
entry table t = unwrap_or (slice_get table t) nothing

-- the index of the first note with the type of a token, where the first note has this index
abbrev pub typed_from : ℕ → List Note → ℕ → Option ℕ
typed_from k [] t = None
typed_from k (Typed at type ∷ l) t = if nat_eq at t then Some k else typed_from (suc k) l t
typed_from k (_ ∷ l) t = typed_from (suc k) l t

abbrev pub said : ℕ → List Note → ℕ → Said
said k notes t = record { name = meant notes t; ty = typed_from k notes t; null = stands_for_null notes t }

-- the table has what the notes say, where the first one has this index
abbrev pub Tells : ℕ → List Note → List Said → Type 0
Tells k notes table = (t : ℕ) → entry table t ≡ said k notes t

abbrev pub type_told : Option Note → CType
type_told (Some (Typed at type)) = type
type_told _ = void_type

abbrev pub type_of : List Note → ℕ → CType
type_of notes k = type_told (slice_get notes k)
