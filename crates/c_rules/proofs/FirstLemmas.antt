-- What is kept of a file's functions and structs, at one of them.
use Rattle.std.proofs.Common.{◌≡◌, ◌∙◌, sym, ap, refl, subst, ℕ, zero, suc, ◌<◌, Bool, false, List, [], ◌∷◌, map, length, slice_get, unwrap_or, Option, Some, None, is_some, IfSome}
use Rattle.std.specs.Prelude.{position, find, bytes_eq}
use Rattle.cc_model.specs.declared.typing.Member.{Member}
use Rattle.cc_model.specs.Scopes.{Text, field_in}
use Rattle.c_names.proofs.IndexLemmas.{position_map, position_within, any_position}
use Rattle.c_scopes.specs.FileNames.{member_names}

-- what a list tells of an element of another
pub told_of : {X : Type 0} (f : X → Bool) (xs : List X) (all : List Bool) (n : ℕ) (x : X) → all ≡ map f xs → slice_get xs n ≡ Some x → unwrap_or (slice_get all n) false ≡ f x
told_of f xs all n x e h = ap (λ z. unwrap_or (slice_get z n) false) e ∙ at f xs n x h
  where
    at : {X : Type 0} (f : X → Bool) (xs : List X) (n : ℕ) (x : X) → slice_get xs n ≡ Some x → unwrap_or (slice_get (map f xs) n) false ≡ f x
    at f [] n x h = cc
    at f (y ∷ xs) zero x h = cc
    at f (y ∷ xs) (suc n) x h = at f xs n x h

abbrev place_in : Text → Option (List Text) → Option ℕ
place_in name None = None
place_in name (Some names) = position (bytes_eq name) names

-- the place of a name among those of a struct's fields
pub place_found : (name : Text) (structs : List (List Member)) (n : ℕ) → place_in name (slice_get (map member_names structs) n) ≡ field_in name (unwrap_or (slice_get structs n) [])
place_found name [] n = refl
place_found name (s ∷ l) zero = position_map (bytes_eq name) (λ (f : Member). f.name) s
place_found name (s ∷ l) (suc n) = place_found name l n

pub place_some : (name : Text) (structs : List (List Member)) (all : List (List Text)) (n : ℕ) (names : List Text) (r : Option ℕ) → all ≡ map member_names structs → slice_get all n ≡ Some names → r ≡ position (bytes_eq name) names
    → r ≡ field_in name (unwrap_or (slice_get structs n) [])
place_some name structs all n names r e h i = i ∙ sym (ap (place_in name) h) ∙ ap (λ z. place_in name (slice_get z n)) e ∙ place_found name structs n

pub place_none : (name : Text) (structs : List (List Member)) (all : List (List Text)) (n : ℕ) → all ≡ map member_names structs → slice_get all n ≡ None → None ≡ field_in name (unwrap_or (slice_get structs n) [])
place_none name structs all n e h = sym (ap (place_in name) h) ∙ ap (λ z. place_in name (slice_get z n)) e ∙ place_found name structs n

pub place_within : (name : Text) (fields : List Member) (r : Option ℕ) → r ≡ field_in name fields → IfSome r (λ k. k < length fields)
place_within name fields r e = subst (λ z. IfSome z (λ k. k < length fields)) (sym e) (position_within (λ (f : Member). bytes_eq name f.name) fields)

pub has_field : (name seen : Text) (fields : List Member) (b : Bool) → seen ≡ name → b ≡ is_some (find (λ (m : Member). bytes_eq seen m.name) fields) → b ≡ is_some (field_in name fields)
has_field name seen fields b e h = h ∙ sym (any_position (λ (m : Member). bytes_eq seen m.name) fields) ∙ ap (λ z. is_some (field_in z fields)) e
