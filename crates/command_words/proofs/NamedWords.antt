-- Words in pairs of a name and another word, and what stands behind a name.
use Rattle.std.proofs.Common.{◌≡◌, ◌∙◌, sym, ap, refl, subst, ℕ, zero, suc, ◌+◌, ◌*◌, ◌≤◌, inl, inr, Bool, true, false, List, [], ◌∷◌, ◌++◌, take, length, Option, Some, None, IsSome, arith, if◌then◌else◌}
use Rattle.std.specs.Prelude.{bytes_eq, IfNone}
use Rattle.std.proofs.lemmas.Slice.Eq.{bytes_eq-Decides}
use Rattle.command_words.specs.declared.values.Takes.{Takes}
use Rattle.command_words.specs.Words.{Row, takes_of, AreNamed, behind, IsFine}

abbrev pub Words : Type 0
Words = List (List ℕ)

-- words with none behind them
pub append_nil : (l : Words) → l ++ [] ≡ l
append_nil [] = refl
append_nil (x ∷ l) = ap (λ (m : Words). x ∷ m) (append_nil l)

pub length_take : (n : ℕ) (words : Words) → n ≤ length words → length (take n words) ≡ n
length_take zero words h = refl
length_take (suc n) [] h = absurd (omega (arith, h))
length_take (suc n) (w ∷ words) h = ap suc (length_take n words (omega (arith, h)))

pub same_name : (a b : List ℕ) → bytes_eq a b ≡ true → a ≡ b
same_name a b e = (bytes_eq-Decides a b).0 e

pub itself : (a : List ℕ) → bytes_eq a a ≡ true
itself a = (bytes_eq-Decides a a).1 refl

-- ---- pairs behind pairs

pub named_both : (options : List Row) (good rest : Words) → AreNamed options good → AreNamed options rest → AreNamed options (good ++ rest)
named_both options [] rest h k = k
named_both options (w ∷ []) rest h k = absurd h
named_both options (w ∷ v ∷ good) rest h k = (h.0, named_both options good rest h.1 k)

pub named_after : (options : List Row) (good rest : Words) → AreNamed options good → AreNamed options (good ++ rest) → AreNamed options rest
named_after options [] rest h k = k
named_after options (w ∷ []) rest h k = absurd h
named_after options (w ∷ v ∷ good) rest h k = named_after options good rest h.1 k.1

pub behind_both : (options : List Row) (name : List ℕ) (good rest : Words) → AreNamed options good → behind name (good ++ rest) ≡ behind name good ++ behind name rest
behind_both options name [] rest h = refl
behind_both options name (w ∷ []) rest h = absurd h
behind_both options name (w ∷ v ∷ good) rest h = by_test (bytes_eq w name) (behind_both options name good rest h.1)
  where
    by_test : (b : Bool) → behind name (good ++ rest) ≡ behind name good ++ behind name rest
        → (if b then v ∷ behind name (good ++ rest) else behind name (good ++ rest)) ≡ (if b then v ∷ behind name good else behind name good) ++ behind name rest
    by_test true e = ap (λ (l : Words). v ∷ l) e
    by_test false e = e

pub behind_own : (w v : List ℕ) (rest : Words) → behind w (w ∷ v ∷ rest) ≡ v ∷ behind w rest
behind_own w v rest = ap (λ b. if b then v ∷ behind w rest else behind w rest) (itself w)

pub behind_other : (name w v : List ℕ) (rest : Words) → bytes_eq w name ≡ false → behind name (w ∷ v ∷ rest) ≡ behind name rest
behind_other name w v rest e = ap (λ b. if b then v ∷ behind name rest else behind name rest) e

-- ---- tables

-- what holds of each row holds of the row that is found
abbrev pub Every : (Row → Type 0) → List Row → Type 0
Every P [] = Unit
Every P (row ∷ rows) = P row × Every P rows

pub found : (P : Row → Type 0) (options : List Row) → Every P options → (name : List ℕ) (takes : Takes) → takes_of options name ≡ Some takes → P (name, takes)
found P [] all name takes e = absurd (cc e)
found P (row ∷ rows) all name takes e = by_test (bytes_eq name row.0) refl (λ h. found P rows all.1 name takes h) e
  where
    by_test : (b : Bool) → bytes_eq name row.0 ≡ b → (takes_of rows name ≡ Some takes → P (name, takes)) → (if b then Some row.1 else takes_of rows name) ≡ Some takes → P (name, takes)
    by_test true t later e =
        let n : row.0 ≡ name = sym (same_name name row.0 t) in
        let r : row.1 ≡ takes = cc e in
        subst (λ s. P (name, s)) r (subst (λ m. P (m, row.1)) n all.0)
    by_test false t later e = later e

-- a name that no option has doesn't stand
pub absent : (options : List Row) (name : List ℕ) → takes_of options name ≡ None → (words : Words) → AreNamed options words → behind name words ≡ []
absent options name none [] h = refl
absent options name none (w ∷ []) h = absurd h
absent options name none (w ∷ v ∷ rest) h = by_test (bytes_eq w name) refl (absent options name none rest h.1)
  where
    by_test : (b : Bool) → bytes_eq w name ≡ b → behind name rest ≡ [] → (if b then v ∷ behind name rest else behind name rest) ≡ []
    by_test true e k = absurd (some_not_none (subst (λ m. IsSome (takes_of options m)) (same_name w name e) h.0) none)
      where
        some_not_none : IsSome (takes_of options name) → takes_of options name ≡ None → ⊥
        some_not_none some e = cc (some, e)
    by_test false e k = k

-- ---- how many words there are

abbrev total : List Row → Words → ℕ
total [] words = 0
total (row ∷ rows) words = length (behind row.0 words) + total rows words

pair_adds : (rows : List Row) (w v : List ℕ) (rest : Words) → total rows rest ≤ total rows (w ∷ v ∷ rest)
pair_adds [] w v rest = omega arith
pair_adds (row ∷ rows) w v rest = by_test (bytes_eq w row.0) (pair_adds rows w v rest)
  where
    by_test : (b : Bool) → total rows rest ≤ total rows (w ∷ v ∷ rest)
        → length (behind row.0 rest) + total rows rest ≤ length (if b then v ∷ behind row.0 rest else behind row.0 rest) + total rows (w ∷ v ∷ rest)
    by_test true h = omega arith
    by_test false h = omega arith

pair_counts : (rows : List Row) (w v : List ℕ) (rest : Words) → IsSome (takes_of rows w) → suc (total rows rest) ≤ total rows (w ∷ v ∷ rest)
pair_counts [] w v rest h = absurd (cc h)
pair_counts (row ∷ rows) w v rest h = by_test (bytes_eq w row.0) (λ k. pair_counts rows w v rest k) h
  where
    by_test : (b : Bool) → (IsSome (takes_of rows w) → suc (total rows rest) ≤ total rows (w ∷ v ∷ rest)) → IsSome (if b then Some row.1 else takes_of rows w)
        → suc (length (behind row.0 rest) + total rows rest) ≤ length (if b then v ∷ behind row.0 rest else behind row.0 rest) + total rows (w ∷ v ∷ rest)
    by_test true later k = let p = pair_adds rows w v rest in omega arith
    by_test false later k = let p = later k in omega arith

pub named_count : (rows : List Row) (words : Words) → AreNamed rows words → length words ≤ 2 * total rows words
named_count rows [] h = omega arith
named_count rows (w ∷ []) h = absurd h
named_count rows (w ∷ v ∷ rest) h =
    let p = pair_counts rows w v rest h.0 in
    let q = named_count rows rest h.1 in
    omega arith

pub at_most_once : (takes : Takes) (words : Words) → IsFine takes words → length words ≤ 1
at_most_once takes words (inl e) = rw e (omega arith)
at_most_once takes words (inr p) = rw p.1 (omega arith)

-- ---- as the code reads

pub behind_here : (name : List ℕ) {words l rest : Words} {w v : List ℕ} → words ≡ w ∷ l → l ≡ v ∷ rest → bytes_eq w name ≡ true → (more : Words) × (behind name words ≡ v ∷ more)
behind_here name {words} {l} {rest} {w} {v} e f t =
    let whole : words ≡ w ∷ v ∷ rest = cc (e, f) in
    (behind name rest, ap (λ (ws : Words). behind name ws) whole ∙ ap (λ b. if b then v ∷ behind name rest else behind name rest) t)

pub behind_later : (name : List ℕ) {words l rest : Words} {w v : List ℕ} → words ≡ w ∷ l → l ≡ v ∷ rest → bytes_eq w name ≡ false → behind name words ≡ behind name rest
behind_later name {words} {l} {rest} {w} {v} e f t =
    let whole : words ≡ w ∷ v ∷ rest = cc (e, f) in
    ap (λ (ws : Words). behind name ws) whole ∙ behind_other name w v rest t

pub behind_nothing : (name : List ℕ) {words l : Words} {w : List ℕ} → words ≡ w ∷ l → l ≡ [] → behind name words ≡ []
behind_nothing name {words} {l} {w} e f =
    let whole : words ≡ w ∷ [] = cc (e, f) in
    ap (λ (ws : Words). behind name ws) whole

pub if_none : {A : Type 0} (o : Option A) (P : Type 0) → P → IfNone o P
if_none None P p = p
if_none (Some x) P p = tt
