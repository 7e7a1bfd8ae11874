-- What is kept of a file, so that a name is found without a walk.
use Rattle.std.specs.Prelude.{ℕ, ◌+◌, Bool, ◌&&◌, List, [], ◌∷◌, map, is_some}
use Rattle.cc_model.specs.declared.typing.Function.{Function}
use Rattle.cc_model.specs.declared.typing.Member.{Member}
use Rattle.cc_model.specs.Types.{up_to_257}
use Rattle.cc_model.specs.Scopes.{Text, field_size}
use Rattle.cc_model.specs.Faults.{all_known}

-- all types of a declaration are known
abbrev pub is_whole : Function → Bool
is_whole f = is_some f.result && all_known f.params

-- the names of a struct's fields
abbrev pub member_names : List Member → List Text
member_names fields = map (λ (f : Member). f.name) fields

-- the offsets of fields, in cells, behind earlier ones of this size
abbrev pub offsets_in : List ℕ → ℕ → List Member → List ℕ
offsets_in sizes size [] = []
offsets_in sizes size (f ∷ l) = size ∷ offsets_in sizes (up_to_257 (size + field_size sizes f)) l
