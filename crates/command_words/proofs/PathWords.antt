-- Words that are texts of paths, and where they stand.
use Rattle.std.proofs.Common.{◌≡◌, ◌∙◌, sym, ap, ap₂, refl, subst, ℕ, zero, suc, ◌+◌, ◌<◌, ◌⊎◌, inl, inr, Bool, true, false, List, [], ◌∷◌, All, map, length, Some, slice_get, slice_index_or, drop, ◌↔◌, codes, arith, if◌then◌else◌}
use Rattle.std.specs.Prelude.{bytes_eq}
use Rattle.cc_base.specs.declared.outcomes.Outcome.{Outcome}
use Rattle.cc_base.specs.declared.outcomes.Outcome.TheVariants.{Zero, High, Low, Plain, False, True, Object}
use Rattle.cc_base.specs.Outcomes.{byte_of, HasByte}
use Rattle.cc_base.specs.Paths.{Path}
use Rattle.command_words.specs.declared.values.Takes.TheVariants.{PathText}
use Rattle.command_words.specs.Words.{IsPath, IsFine, behind, place_behind}
use Rattle.command_words.proofs.NamedWords.{Words}

-- ---- bytes

pub byte_tells : (a b : Outcome) → byte_of a ≡ byte_of b → a ≡ b
byte_tells Zero Zero h = refl
byte_tells High High h = refl
byte_tells Low Low h = refl
byte_tells Plain Plain h = refl
byte_tells False False h = refl
byte_tells True True h = refl
byte_tells (Object n) (Object m) h = ap Object (omega arith)
byte_tells _ _ h = absurd (omega (arith, h))

pub bytes_tell : (p q : Path) → map byte_of p ≡ map byte_of q → p ≡ q
bytes_tell [] [] h = refl
bytes_tell [] (b ∷ q) h = absurd (cc h)
bytes_tell (a ∷ p) [] h = absurd (cc h)
bytes_tell (a ∷ p) (b ∷ q) h =
    let e : byte_of a ≡ byte_of b = cc h in
    let f : map byte_of p ≡ map byte_of q = cc h in
    ap₂ (λ (x : Outcome) (l : Path). x ∷ l) (byte_tells a b e) (bytes_tell p q f)

pub all_more : {A : Type 0} (P : A → Type 0) (x : A) (l : List A) → P x → All P l → All P (x ∷ l)
all_more P x l h k zero d lt = h
all_more P x l h k (suc i) d lt = k i d (omega (arith, lt))

pub all_first : {A : Type 0} (P : A → Type 0) (x : A) (l : List A) → All P (x ∷ l) → P x
all_first P x l h = h 0 x (omega arith)

pub all_later : {A : Type 0} (P : A → Type 0) (x : A) (l : List A) → All P (x ∷ l) → All P l
all_later P x l h = λ i d lt. h (suc i) d (omega (arith, lt))

-- the bytes are those of a path's outcomes
abbrev pub AreBytes : List ℕ → Type 0
AreBytes bytes = (p : Path) × All HasByte p × (bytes ≡ map byte_of p)

-- the byte is that of an outcome
abbrev pub IsByte : ℕ → Type 0
IsByte b = (o : Outcome) × HasByte o × (byte_of o ≡ b)

pub no_bytes : AreBytes []
no_bytes = ([], (λ i d lt. absurd (omega (arith, lt))), refl)

pub more_bytes : (b : ℕ) (rest : List ℕ) → IsByte b → AreBytes rest → AreBytes (b ∷ rest)
more_bytes b rest o p = (o.0 ∷ p.0, all_more HasByte o.0 p.0 o.1 p.1, ap₂ (λ (x : ℕ) (l : List ℕ). x ∷ l) (sym o.2) p.2)

pub first_byte : (b : ℕ) (rest : List ℕ) → AreBytes (b ∷ rest) → IsByte b
first_byte b rest ([], a, e) = absurd (cc e)
first_byte b rest (o ∷ p, a, e) = (o, all_first HasByte o p a, cc e)

pub later_bytes : (b : ℕ) (rest : List ℕ) → AreBytes (b ∷ rest) → AreBytes rest
later_bytes b rest ([], a, e) = absurd (cc e)
later_bytes b rest (o ∷ p, a, e) = (p, all_later HasByte o p a, cc e)

-- one byte further on
drop_here : (i : ℕ) (l : List ℕ) (d : ℕ) → i < length l → drop i l ≡ slice_index_or l i d ∷ drop (i + 1) l
drop_here i [] d lt = absurd (omega (arith, lt))
drop_here zero (a ∷ l) d lt = refl
drop_here (suc i) (a ∷ l) d lt = let e : suc i + 1 ≡ suc (i + 1) = omega arith in drop_here i l d (omega (arith, lt)) ∙ ap (λ n. slice_index_or l i d ∷ drop n (a ∷ l)) (sym e)

pub refuted : (i : ℕ) (l : List ℕ) (d : ℕ) → i < length l → (AreBytes l → AreBytes (drop i l)) → (IsByte (slice_index_or l i d) → ⊥) → AreBytes l → ⊥
refuted i l d lt rest none all = none (first_byte (slice_index_or l i d) (drop (i + 1) l) (subst AreBytes (drop_here i l d lt) (rest all)))

pub one_further : (i : ℕ) (l : List ℕ) (d : ℕ) → i < length l → AreBytes (drop i l) ↔ AreBytes l → IsByte (slice_index_or l i d) → AreBytes (drop (i + 1) l) ↔ AreBytes l
one_further i l d lt both here = (
  λ p. both.0 (subst AreBytes (sym (drop_here i l d lt)) (more_bytes (slice_index_or l i d) (drop (i + 1) l) here p)),
  λ p. later_bytes (slice_index_or l i d) (drop (i + 1) l) (subst AreBytes (drop_here i l d lt) (both.1 p)),
)

-- ---- words

-- ~ is no outcome's byte
no_tilde : (o : Outcome) → HasByte o → byte_of o ≡ 126 → ⊥
no_tilde Zero h e = omega (arith, e)
no_tilde High h e = omega (arith, e)
no_tilde Low h e = omega (arith, e)
no_tilde Plain h e = omega (arith, e)
no_tilde False h e = omega (arith, e)
no_tilde True h e = omega (arith, e)
no_tilde (Object n) h e = omega (arith, h, e)

pub empty_path : (word : List ℕ) → word ≡ codes "~" → (p : Path) × IsPath word p
empty_path word e = ([], record { text = e; bytes = λ i d lt. absurd (omega (arith, lt)) })

pub some_path : (word : List ℕ) → (word ≡ [] → ⊥) → AreBytes word → (p : Path) × IsPath word p
some_path word n ([], a, e) = absurd (n e)
some_path word n (o ∷ p, a, e) = (o ∷ p, record { text = e; bytes = a })

-- a path's text is ~ or one or more bytes of outcomes
pub path_bytes : (word : List ℕ) (p : Path) → IsPath word p → (word ≡ codes "~") ⊎ ((word ≡ [] → ⊥) × AreBytes word)
path_bytes word [] h = inl h.text
path_bytes word (o ∷ p) h = inr ((λ e. let t = h.text in absurd (cc (t, e))), (o ∷ p, h.bytes, h.text))

-- a word is the text of one path
pub one_path : (word : List ℕ) (p q : Path) → IsPath word p → IsPath word q → p ≡ q
one_path word [] [] g h = refl
one_path word [] (b ∷ q) g h = let t = sym g.text ∙ h.text in let e : byte_of b ≡ 126 = cc t in absurd (no_tilde b (all_first HasByte b q h.bytes) e)
one_path word (a ∷ p) [] g h = let t = sym g.text ∙ h.text in let e : byte_of a ≡ 126 = cc t in absurd (no_tilde a (all_first HasByte a p g.bytes) e)
one_path word (a ∷ p) (b ∷ q) g h = bytes_tell (a ∷ p) (b ∷ q) (sym g.text ∙ h.text)

-- ---- where a word stands

-- the word whose place is found stands behind the name, and at its place
pub found_behind : (name : List ℕ) (n m : ℕ) (words : Words) → place_behind name n words ≡ Some m → (w : List ℕ) × (rest : Words) × (behind name words ≡ w ∷ rest) × (k : ℕ) × (m ≡ n + suc k) × (slice_get words k ≡ Some w)
found_behind name n m [] e = absurd (cc e)
found_behind name n m (u ∷ []) e = absurd (cc e)
found_behind name n m (u ∷ v ∷ words) e = by_test (bytes_eq u name) e (found_behind name (n + 2) m words)
  where
    by_test : (b : Bool) → (if b then Some (n + 2) else place_behind name (n + 2) words) ≡ Some m
        → (place_behind name (n + 2) words ≡ Some m → (w : List ℕ) × (rest : Words) × (behind name words ≡ w ∷ rest) × (k : ℕ) × (m ≡ n + 2 + suc k) × (slice_get words k ≡ Some w))
        → (w : List ℕ) × (rest : Words) × ((if b then v ∷ behind name words else behind name words) ≡ w ∷ rest) × (k : ℕ) × (m ≡ n + suc k) × (slice_get (u ∷ v ∷ words) k ≡ Some w)
    by_test true f later = let g : n + 2 ≡ m = cc f in (v, behind name words, refl, 1, omega (arith, g), refl)
    by_test false f later = let r = later f in let g = r.4 in (r.0, r.1, r.2, suc (suc r.3), omega (arith, g), r.5)

pub place_later : (name : List ℕ) (n : ℕ) {words l rest : Words} {w v : List ℕ} → words ≡ w ∷ l → l ≡ v ∷ rest → bytes_eq w name ≡ false → place_behind name n words ≡ place_behind name (n + 2) rest
place_later name n {words} {l} {rest} {w} {v} e f t =
    let whole : words ≡ w ∷ v ∷ rest = cc (e, f) in
    ap (λ (ws : Words). place_behind name n ws) whole ∙ ap (λ b. if b then Some (n + 2) else place_behind name (n + 2) rest) t

-- a fine word behind the name is a path
pub fine_path : (words : Words) (w : List ℕ) (rest : Words) → words ≡ w ∷ rest → IsFine PathText words → (p : Path) × IsPath w p
fine_path words w rest e (inl none) = absurd (cc (e, none))
fine_path words w rest e (inr h) = let same : h.0 ≡ w = cc (e, h.1) in subst (λ u. (p : Path) × IsPath u p) same h.2
