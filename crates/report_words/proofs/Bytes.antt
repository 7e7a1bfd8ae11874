-- Paths and their texts.
use Rattle.std.proofs.Common.{◌≡◌, ◌≢◌, ◌∙◌, sym, ap, ap₂, refl, subst, ℕ, zero, suc, ◌+◌, ◌<◌, ◌≤◌, ◌⊎◌, inl, inr, List, [], ◌∷◌, ◌++◌, All, map, take, length, Option, Some, None, slice_index_or, codes, arith}
use Rattle.cc_base.specs.declared.outcomes.Outcome.{Outcome}
use Rattle.cc_base.specs.declared.outcomes.Outcome.TheVariants.{Zero, High, Low, Plain, False, True, Object}
use Rattle.cc_base.specs.Outcomes.{byte_of, HasByte}
use Rattle.cc_base.specs.Paths.{Path, path_text}
use Rattle.report_words.specs.Words.{AreBytes, IsPath}

pub byte_tells : (a b : Outcome) → byte_of a ≡ byte_of b → a ≡ b
byte_tells Zero Zero h = refl
byte_tells High High h = refl
byte_tells Low Low h = refl
byte_tells Plain Plain h = refl
byte_tells False False h = refl
byte_tells True True h = refl
byte_tells (Object n) (Object m) h = ap Object (omega arith)
byte_tells _ _ h = absurd (omega (arith, h))

all_more : {A : Type 0} (P : A → Type 0) (x : A) (l : List A) → P x → All P l → All P (x ∷ l)
all_more P x l h k zero d lt = h
all_more P x l h k (suc i) d lt = k i d (omega (arith, lt))

pub all_first : {A : Type 0} (P : A → Type 0) (x : A) (l : List A) → All P (x ∷ l) → P x
all_first P x l h = h 0 x (omega arith)

pub all_later : {A : Type 0} (P : A → Type 0) (x : A) (l : List A) → All P (x ∷ l) → All P l
all_later P x l h = λ i d lt. h (suc i) d (omega (arith, lt))

pub all_append : {A : Type 0} (P : A → Type 0) (l k : List A) → All P l → All P k → All P (l ++ k)
all_append P [] k h g = g
all_append P (x ∷ l) k h g = all_more P x (l ++ k) (all_first P x l h) (all_append P l k (all_later P x l h) g)

pub all_one : {A : Type 0} (P : A → Type 0) (x : A) → P x → All P (x ∷ [])
all_one P x h = all_more P x [] h (λ i d lt. absurd (omega (arith, lt)))

pub no_bytes : AreBytes [] []
no_bytes = record { text = refl; has = λ i d lt. absurd (omega (arith, lt)) }

-- ---- the first n bytes were read

-- what was read is the path of the first n bytes
abbrev pub ReadUpTo : List ℕ → ℕ → Path → Type 0
ReadUpTo bytes n path = AreBytes (take n bytes) path

take_one : (i d : ℕ) (l : List ℕ) → i < length l → take (i + 1) l ≡ take i l ++ slice_index_or l i d ∷ []
take_one i d [] lt = absurd (omega (arith, lt))
take_one zero d (x ∷ l) lt = refl
take_one (suc i) d (x ∷ l) lt = let n : suc i + 1 ≡ suc (i + 1) = omega arith in
    ap (λ k. take k (x ∷ l)) n ∙ ap (λ (t : List ℕ). x ∷ t) (take_one i d l (omega (arith, lt)))

map_more : (p : Path) (o : Outcome) → map byte_of (p ++ o ∷ []) ≡ map byte_of p ++ byte_of o ∷ []
map_more [] o = refl
map_more (x ∷ p) o = ap (λ (t : List ℕ). byte_of x ∷ t) (map_more p o)

pub reads_more : (bytes : List ℕ) (i d : ℕ) (path : Path) (o : Outcome) → i < length bytes → ReadUpTo bytes i path → HasByte o → byte_of o ≡ slice_index_or bytes i d → ReadUpTo bytes (i + 1) (path ++ o ∷ [])
reads_more bytes i d path o lt r h e = record {
  text = take_one i d bytes lt ∙ ap₂ (λ (l : List ℕ) (b : ℕ). l ++ b ∷ []) r.text (sym e) ∙ sym (map_more path o);
  has = all_append HasByte path (o ∷ []) r.has (all_one HasByte o h);
}

-- a byte that is no outcome's
pub no_path : (bytes : List ℕ) (i d : ℕ) (p : Path) → i < length bytes → ((o : Outcome) → HasByte o → byte_of o ≢ slice_index_or bytes i d) → AreBytes bytes p → ⊥
no_path [] i d p lt none h = omega (arith, lt)
no_path (x ∷ bytes) i d [] lt none h = let t = h.text in absurd (cc t)
no_path (x ∷ bytes) zero d (o ∷ p) lt none h = let t = h.text in none o (all_first HasByte o p h.has) (cc t)
no_path (x ∷ bytes) (suc i) d (o ∷ p) lt none h = let t = h.text in no_path bytes i d p (omega (arith, lt)) none (record { text = cc t; has = all_later HasByte o p h.has })

pub bytes_tell : (p q : Path) → map byte_of p ≡ map byte_of q → p ≡ q
bytes_tell [] [] h = refl
bytes_tell [] (b ∷ q) h = absurd (cc h)
bytes_tell (a ∷ p) [] h = absurd (cc h)
bytes_tell (a ∷ p) (b ∷ q) h =
    let e : byte_of a ≡ byte_of b = cc h in
    let f : map byte_of p ≡ map byte_of q = cc h in
    ap₂ (λ (x : Outcome) (l : Path). x ∷ l) (byte_tells a b e) (bytes_tell p q f)

take_all : (n : ℕ) (l : List ℕ) → length l ≤ n → take n l ≡ l
take_all zero [] h = refl
take_all (suc n) [] h = refl
take_all zero (x ∷ l) h = absurd (omega (arith, h))
take_all (suc n) (x ∷ l) h = ap (λ (t : List ℕ). x ∷ t) (take_all n l (omega (arith, h)))

pub read_all : (bytes : List ℕ) (n : ℕ) (path : Path) → length bytes ≤ n → ReadUpTo bytes n path → AreBytes bytes path
read_all bytes n path h r = record { text = sym (take_all n bytes h) ∙ r.text; has = r.has }

pub one_path : (bytes : List ℕ) (p q : Path) → AreBytes bytes p → AreBytes bytes q → p ≡ q
one_path bytes p q h k = bytes_tell p q (sym h.text ∙ k.text)

-- ---- words

no_tilde : (o : Outcome) → HasByte o → byte_of o ≡ 126 → ⊥
no_tilde Zero h e = omega (arith, e)
no_tilde High h e = omega (arith, e)
no_tilde Low h e = omega (arith, e)
no_tilde Plain h e = omega (arith, e)
no_tilde False h e = omega (arith, e)
no_tilde True h e = omega (arith, e)
no_tilde (Object n) h e = omega (arith, h, e)

-- ~ is the empty path, and that alone
pub tilde : (word : List ℕ) → word ≡ codes "~" → IsPath word []
tilde word e = record { text = e; has = λ i d lt. absurd (omega (arith, lt)) }

pub tilde_only : (word : List ℕ) (p : Path) → word ≡ codes "~" → IsPath word p → p ≡ []
tilde_only word [] e h = refl
tilde_only word (o ∷ p) e h = let t = h.text in absurd (no_tilde o (all_first HasByte o p h.has) (cc (t, e)))

-- no word is no path
pub no_word : (word : List ℕ) (p : Path) → length word ≡ 0 → IsPath word p → ⊥
no_word [] [] e h = let t = h.text in cc t
no_word [] (o ∷ p) e h = let t = h.text in cc t
no_word (x ∷ word) p e h = omega (arith, e)

-- another word is a path by its bytes
pub by_bytes : (word : List ℕ) (p : Path) → (length word ≡ 0 → ⊥) → AreBytes word p → IsPath word p
by_bytes [] p n h = absurd (n refl)
by_bytes (x ∷ word) [] n h = let t = h.text in absurd (cc t)
by_bytes (x ∷ word) (o ∷ p) n h = record { text = h.text; has = h.has }

pub bytes_of : (word : List ℕ) (p : Path) → (word ≡ codes "~" → ⊥) → IsPath word p → AreBytes word p
bytes_of word [] n h = absurd (n h.text)
bytes_of word (o ∷ p) n h = record { text = h.text; has = h.has }
