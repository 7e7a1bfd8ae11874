-- The size of fields from an index on, where one above 256 is told as 257.
use Rattle.std.proofs.Common.{◌≡◌, ◌∙◌, sym, ap, refl, arith, ℕ, zero, suc, ◌+◌, ◌<◌, ◌≤◌, List, [], ◌∷◌, ◌++◌, map, take, drop, length, get_or, slice_get, unwrap_or, OnOk, Result, Ok, Err}
use Rattle.std.proofs.lemmas.List.{drop_all}
use Rattle.cc_model.specs.declared.typing.Member.{Member}
use Rattle.cc_model.specs.Types.{up_to_257}
use Rattle.cc_model.specs.Scopes.{field_size, fields_size}
use Rattle.c_scopes.specs.FileNames.{offsets_in}
use Rattle.c_scopes.proofs.ListLemmas.{from_item}

pub none_before : (sizes : List ℕ) (l : List Member) → up_to_257 (0 + fields_size sizes l) ≡ fields_size sizes l
none_before sizes [] = refl
none_before sizes (f ∷ l) = omega arith

sums : (size part s next r : ℕ) → next ≡ up_to_257 (size + part) → up_to_257 (size + up_to_257 (part + s)) ≡ r → up_to_257 (next + s) ≡ r
sums size part s next r e i = omega arith

pub one_more : (sizes : List ℕ) (l : List Member) (k : ℕ) (m : Member) (size part next r : ℕ) → k < length l → m ≡ get_or l k m → part ≡ field_size sizes m → next ≡ up_to_257 (size + part)
    → up_to_257 (size + fields_size sizes (drop k l)) ≡ r → up_to_257 (next + fields_size sizes (drop (k + 1) l)) ≡ r
one_more sizes l k m size part next r h e p f i =
    sums size (field_size sizes m) (fields_size sizes (drop (k + 1) l)) next r (f ∙ ap (λ x. up_to_257 (size + x)) p)
    (sym (ap (λ (d : List Member). up_to_257 (size + fields_size sizes d)) (from_item l k m h e)) ∙ i)

pub at_most_257 : (size next : ℕ) → next ≡ up_to_257 size → next ≤ 257
at_most_257 size next e = omega arith

none_left : (size r : ℕ) → size ≤ 257 → up_to_257 (size + 0) ≡ r → size ≡ r
none_left size r h i = omega arith

pub all_summed : (sizes : List ℕ) (l : List Member) (k size r : ℕ) → length l ≤ k → size ≤ 257 → up_to_257 (size + fields_size sizes (drop k l)) ≡ r → size ≡ r
all_summed sizes l k size r h s i = none_left size r s (sym (ap (λ (d : List Member). up_to_257 (size + fields_size sizes d)) (drop_all k l h)) ∙ i)

-- one more field at the end
pub sized_more : (sizes : List ℕ) (l : List Member) (m : Member) → up_to_257 (fields_size sizes l + field_size sizes m) ≡ fields_size sizes (l ++ m ∷ [])
sized_more sizes [] m = omega arith
sized_more sizes (f ∷ l) m = more (field_size sizes f) (fields_size sizes l) (field_size sizes m) (fields_size sizes (l ++ m ∷ [])) (sized_more sizes l m)
  where
    more : (size s part r : ℕ) → up_to_257 (s + part) ≡ r → up_to_257 (up_to_257 (size + s) + part) ≡ up_to_257 (size + r)
    more size s part r i = omega arith

-- the offset of a field is the size of those before it
offset_behind : (sizes : List ℕ) (l : List Member) (size k : ℕ) → size ≤ 257 → k < length l → unwrap_or (slice_get (offsets_in sizes size l) k) 0 ≡ up_to_257 (size + fields_size sizes (take k l))
offset_behind sizes [] size k s h = absurd (omega arith)
offset_behind sizes (f ∷ l) size zero s h = omega arith
offset_behind sizes (f ∷ l) size (suc k) s h =
    offset_behind sizes l (up_to_257 (size + field_size sizes f)) k (omega arith) (omega arith)
    ∙ sums size (field_size sizes f) (fields_size sizes (take k l)) (up_to_257 (size + field_size sizes f)) (up_to_257 (size + fields_size sizes (take (suc k) (f ∷ l)))) refl refl

pub offset_is : (sizes : List ℕ) (structs : List (List Member)) (n k : ℕ) → k < length (unwrap_or (slice_get structs n) [])
    → unwrap_or (slice_get (unwrap_or (slice_get (map (offsets_in sizes 0) structs) n) []) k) 0 ≡ fields_size sizes (take k (unwrap_or (slice_get structs n) []))
offset_is sizes [] n k h = absurd (omega arith)
offset_is sizes (s ∷ l) zero k h = offset_behind sizes s 0 k (omega arith) h ∙ none_before sizes (take k s)
offset_is sizes (s ∷ l) (suc n) k h = offset_is sizes l n k h

-- where it is put there, the size is that of all
pub sized_behind : {E : Type 0} (o : Result (Unit {0}) E) (sizes seen : List ℕ) (earlier after : List Member) (m : Member) (size next : ℕ) → seen ≡ sizes → size ≡ fields_size sizes earlier → next ≡ up_to_257 (size + field_size seen m)
    → OnOk o (after ≡ earlier ++ m ∷ []) → OnOk o (next ≡ fields_size sizes after)
sized_behind (Err x) sizes seen earlier after m size next d e f h = tt
sized_behind (Ok x) sizes seen earlier after m size next d e f h =
    f ∙ ap (λ z. up_to_257 (size + field_size z m)) d ∙ ap (λ n. up_to_257 (n + field_size sizes m)) e ∙ sized_more sizes earlier m ∙ ap (fields_size sizes) (sym h)
