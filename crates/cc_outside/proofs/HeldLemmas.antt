-- What holds of the files by name once one is put.
use Rattle.std.proofs.Common.{◌≡◌, ◌≢◌, ℕ, ◌<◌, ◌≤◌, Bool, true, false, not, cond, nat_lt, List, [], ◌∷◌, ◌++◌, length, get_or, set, Option, None, Some, find, position, refl, sym, ap, ◌∙◌, zero, suc, arith}
use Rattle.std.specs.List.{position_or_len, slice_get}
use Rattle.std.specs.Option.{option_map, option_or}
use Rattle.std.specs.Str.{bytes_eq}
use Rattle.std.proofs.lemmas.List.Folds.{find-set, find_past, find-append, find_at}
use Rattle.std.proofs.lemmas.List.Sums.{prefix_len_stops}
use Rattle.std.proofs.lemmas.Slice.Eq.{bytes_eq-Decides}
use Rattle.std.proofs.lemmas.Bool.Decides.{nat_tests}
use Rattle.cc_outside.specs.Held.{NamedFile, Held, file_of}

-- whether a file has that name
abbrev has_name : List ℕ → NamedFile → Bool
has_name name file = bytes_eq file.name name

has_name-own : (file : NamedFile) → has_name file.name file ≡ true
has_name-own file = (bytes_eq-Decides file.name file.name).1 refl

false_from_not : (b : Bool) → (b ≡ true → ⊥) → b ≡ false
false_from_not true h = absurd (h refl)
false_from_not false h = refl

has_name-other : (file : NamedFile) (name other : List ℕ) → has_name name file ≡ true → other ≢ name → has_name other file ≡ false
has_name-other file name other own apart =
    false_from_not _ (λ e. apart (sym ((bytes_eq-Decides file.name other).0 e) ∙ (bytes_eq-Decides file.name name).0 own))

cond_some : (b : Bool) (n i : ℕ) → cond b (Some n) None ≡ Some i → (b ≡ true) × (i ≡ n)
cond_some true n i e = (refl, cc)
cond_some false n i e = cc

cond_none : (b : Bool) (n : ℕ) → cond b (Some n) None ≡ None → b ≡ false
cond_none true n e = cc
cond_none false n e = refl

not_false : (b : Bool) → not b ≡ false → b ≡ true
not_false true e = refl
not_false false e = cc

-- the first place is one of the list, and there the test passes
first_place : (p : NamedFile → Bool) (xs : Held) (i : ℕ) (d : NamedFile) → position p xs ≡ Some i → (i ≡ position_or_len p xs) × (i < length xs) × (p (get_or xs i d) ≡ true)
first_place p xs i d e =
    let w = cond_some (nat_lt (position_or_len p xs) (length xs)) (position_or_len p xs) i e in
    let lt : position_or_len p xs < length xs = grind (arith, nat_tests) in
    let at : p (get_or xs (position_or_len p xs) d) ≡ true = not_false _ (prefix_len_stops (λ x. not (p x)) xs d lt) in
    (w.1, omega arith, rw w.1 at)

slice_get-past : (xs : Held) (i : ℕ) → length xs ≤ i → slice_get xs i ≡ None
slice_get-past [] i past = refl
slice_get-past (x ∷ xs) zero past = absurd (omega arith)
slice_get-past (x ∷ xs) (suc i) past = slice_get-past xs i (omega arith)

-- where there is no first place, the test finds nothing
nothing_found : (p : NamedFile → Bool) (xs : Held) → position p xs ≡ None → find p xs ≡ None
nothing_found p xs e =
    let none = cond_none (nat_lt (position_or_len p xs) (length xs)) (position_or_len p xs) e in
    let past : length xs ≤ position_or_len p xs = grind (arith, nat_tests) in
    find_at p xs ∙ slice_get-past xs _ past

-- a file put in place of the first of its name is the one of its name
pub file_of-set : (held : Held) (i : ℕ) (file : NamedFile) → position (has_name file.name) held ≡ Some i → file_of file.name (set held i file) ≡ Some file.bytes
file_of-set held i file e =
    let w = first_place (has_name file.name) held i file e in
    ap (option_map (λ f. f.bytes)) (find-set (has_name file.name) held i file w.0 w.1 (has_name-own file))

-- and files of other names stay
pub file_of-set_other : (held : Held) (i : ℕ) (file : NamedFile) (other : List ℕ) → position (has_name file.name) held ≡ Some i → other ≢ file.name → file_of other (set held i file) ≡ file_of other held
file_of-set_other held i file other e apart =
    let w = first_place (has_name file.name) held i file e in
    ap (option_map (λ f. f.bytes)) (find_past (has_name other) held i file file (has_name-other (get_or held i file) file.name other w.2 apart) (has_name-other file file.name other (has_name-own file) apart))

-- a file put after files of other names is the one of its name
pub file_of-push : (held : Held) (file : NamedFile) → position (has_name file.name) held ≡ None → file_of file.name (held ++ file ∷ []) ≡ Some file.bytes
file_of-push held file e =
    ap (option_map (λ f. f.bytes)) (find-append (has_name file.name) held (file ∷ []) ∙ ap (λ o. option_or o (find (has_name file.name) (file ∷ []))) (nothing_found _ held e) ∙ ap (λ b. cond b (Some file) None) (has_name-own file))

or_none : (o : Option NamedFile) → option_or o None ≡ o
or_none None = refl
or_none (Some file) = refl

-- and files of other names stay
pub file_of-push_other : (held : Held) (file : NamedFile) (other : List ℕ) → other ≢ file.name → file_of other (held ++ file ∷ []) ≡ file_of other held
file_of-push_other held file other apart =
    ap (option_map (λ f. f.bytes)) (find-append (has_name other) held (file ∷ []) ∙ ap (λ b. option_or (find (has_name other) held) (cond b (Some file) None)) (has_name-other file file.name other (has_name-own file) apart) ∙ or_none _)
