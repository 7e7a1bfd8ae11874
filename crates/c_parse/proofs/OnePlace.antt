-- Tokens have at most one fault, at one place, and none where they are accepted.
use Rattle.std.proofs.Common.{◌≡◌, inl, inr, ℕ, zero, suc, ◌≤◌, ◌<◌, Bool, true, false, List, [], ◌∷◌, ◌++◌, take, drop, length, nat_eq, nat_lt, if◌then◌else◌, Result, Ok, Err, refl, sym, ap, subst, arith, lt-ltb}
use Rattle.std.specs.Result.{IfErr, IsErr, IsErrAnd}
use Rattle.std.proofs.lemmas.Bool.Decides.{nat_tests}
use Rattle.std.proofs.lemmas.List.{take-append-drop}
use Rattle.cc_model.specs.declared.tokens.Token.{Token}
use Rattle.cc_model.specs.declared.trees.Program.{Program}
use Rattle.cc_model.specs.Spots.{start, kind_at, shallow}
use Rattle.cc_model.specs.Reads.{Reads, Accepts}
use Rattle.c_expressions.specs.declared.fault.ParseFault.{ParseFault}
use Rattle.c_expressions.specs.declared.fault.ParseFault.TheVariants.{Syntax, TooDeep, NoMemory}
use Rattle.c_parse.specs.Places.{unbounded, shallow_before, first_deep, shallow_at, Begins, Ceases, IsSyntax, IsDeep, IsFault, Placed, GivesFault}
use Rattle.c_parse.specs.DescentItems as it
use Rattle.c_expressions.specs.Shown.{ShowsFault}
use Rattle.c_parse.proofs.ExactPlaces.{placed}
use Rattle.c_parse.proofs.FirmItems.{items_firm}

-- ---- fewer tokens, and other levels that fit

reads_wide : (fits other : ℕ → ℕ → Bool) (tokens : List Token) (p : Program) → ((i d : ℕ) → fits i d ≡ true → other i d ≡ true) → Reads fits tokens p → Reads other tokens p
reads_wide fits other tokens p f r = record { end = r.end; items = (items_firm r.items).moved (kind_at tokens) other (λ i _ _. (refl, f i)); all = r.all }

split : (k j : ℕ) (l more : List Token) → k ≤ j → (rest : List Token) × (take j l ++ more ≡ take k l ++ rest)
split zero j l more h = (take j l ++ more, refl)
split (suc k) zero l more h = absurd (omega arith)
split (suc k) (suc j) [] more h = (more, refl)
split (suc k) (suc j) (x ∷ l) more h = let s = split k j l more (omega arith) in (s.0, ap (λ l. x ∷ l) s.1)

begins : (fits other : ℕ → ℕ → Bool) (tokens : List Token) (k j : ℕ) → k ≤ j → ((i d : ℕ) → fits i d ≡ true → other i d ≡ true) → Begins fits tokens j → Begins other tokens k
begins fits other tokens k j h f b = let s = split k j tokens b.0 h in
    (s.0, b.1, subst (λ text. Reads other text b.1) s.1 (reads_wide fits other (take j tokens ++ b.0) b.1 f b.2))

accepted_begins : (other : ℕ → ℕ → Bool) (tokens : List Token) (p : Program) (k : ℕ) → ((i d : ℕ) → shallow i d ≡ true → other i d ≡ true) → Accepts tokens p → Begins other tokens k
accepted_begins other tokens p k f a = (drop k tokens, p, subst (λ text. Reads other text p) (sym (take-append-drop k tokens)) (reads_wide shallow other tokens p f a))

-- ---- the levels

before_at : (k j i d : ℕ) → j < k → shallow_before k i d ≡ true → shallow_at j i d ≡ true
before_at k j i d h e = go (nat_eq i j) refl
  where
    go : (b : Bool) → nat_eq i j ≡ b → (if b then shallow i d else true) ≡ true
    go true q = let l : nat_lt i k ≡ true = lt-ltb i k (grind (arith, nat_tests)) in rw l at e
    go false q = refl

deep_at : (k j i d : ℕ) → j < k → first_deep k i d ≡ true → shallow_at j i d ≡ true
deep_at k j i d h e = go (nat_eq i j) refl
  where
    go : (b : Bool) → nat_eq i j ≡ b → (if b then shallow i d else true) ≡ true
    go true q = let l : nat_lt i k ≡ true = lt-ltb i k (grind (arith, nat_tests)) in rw l at e
    go false q = refl

at_wide : (k i d : ℕ) → shallow i d ≡ true → shallow_at k i d ≡ true
at_wide k i d e = go (nat_eq i k)
  where
    go : (b : Bool) → (if b then shallow i d else true) ≡ true
    go true = e
    go false = refl

-- ---- no two places

-- the tokens before k cease to begin a program nowhere before k
not_ceases : (fits : ℕ → ℕ → Bool) (tokens : List Token) (j k : ℕ) → j < k → k ≤ length tokens → Begins fits tokens k → Ceases tokens j → ⊥
not_ceases fits tokens j k h l b (inl c) = c.1 (begins fits unbounded tokens (suc j) k (omega arith) (λ i d e. refl) b)
not_ceases fits tokens j k h l b (inr c) = absurd (omega (arith, c.0))

ceases_within : (tokens : List Token) (k : ℕ) → Ceases tokens k → k ≤ length tokens
ceases_within tokens k (inl c) = omega (arith, c.0)
ceases_within tokens k (inr c) = omega (arith, c.0)

-- of two numbers one is less, or they are equal
same_number : (j k : ℕ) → (j < k → ⊥) → (k < j → ⊥) → j ≡ k
same_number j k f g = go (nat_lt j k) (nat_lt k j) refl refl
  where
    go : (a b : Bool) → nat_lt j k ≡ a → nat_lt k j ≡ b → j ≡ k
    go true b e q = absurd (f (grind (arith, nat_tests)))
    go false true e q = absurd (g (grind (arith, nat_tests)))
    go false false e q = grind (arith, nat_tests)

or_less : (j k : ℕ) → (j < k → ⊥) → (k < suc j → ⊥) → ⊥
or_less j k f g = go (nat_lt j k) refl
  where
    go : (a : Bool) → nat_lt j k ≡ a → ⊥
    go true e = f (grind (arith, nat_tests))
    go false e = g (grind (arith, nat_tests))

two_syntax : (tokens : List Token) (j k : ℕ) → IsSyntax tokens j → IsSyntax tokens k → j < k → ⊥
two_syntax tokens j k h i l = not_ceases (shallow_before k) tokens j k l (ceases_within tokens k i.1) i.0 h.1

two_deep : (tokens : List Token) (j k : ℕ) → IsDeep tokens j → IsDeep tokens k → j < k → ⊥
two_deep tokens j k h i l = h.2 (begins (first_deep k) (shallow_at j) tokens (suc j) (suc k) (omega arith) (λ n d e. deep_at k j n d l e) i.1)

not_both : (tokens : List Token) (j k : ℕ) → IsSyntax tokens j → IsDeep tokens k → ⊥
not_both tokens j k h i = or_less k j before behind
  where
    before : k < j → ⊥
    before l = i.2 (begins (shallow_before j) (shallow_at k) tokens (suc k) j (omega (arith, l)) (λ n d e. before_at j k n d l e) h.0)

    behind : j < suc k → ⊥
    behind l = not_ceases (first_deep k) tokens j (suc k) l (omega (arith, i.0)) i.1 h.1

accepted_not : (tokens : List Token) (p : Program) (f : ParseFault) → Accepts tokens p → IsFault tokens f → ⊥
accepted_not tokens p (Syntax k) a h = go h.1
  where
    go : Ceases tokens k → ⊥
    go (inl c) = c.1 (accepted_begins unbounded tokens p (suc k) (λ i d e. refl) a)
    go (inr c) = c.1 p (reads_wide shallow unbounded tokens p (λ i d e. refl) a)
accepted_not tokens p (TooDeep k) a h = h.2 (accepted_begins (shallow_at k) tokens p (suc k) (λ i d e. at_wide k i d e) a)
accepted_not tokens p NoMemory a h = absurd h

one_fault : (tokens : List Token) (f g : ParseFault) → IsFault tokens f → IsFault tokens g → f ≡ g
one_fault tokens (Syntax j) (Syntax k) h i = ap Syntax (same_number j k (two_syntax tokens j k h i) (two_syntax tokens k j i h))
one_fault tokens (TooDeep j) (TooDeep k) h i = ap TooDeep (same_number j k (two_deep tokens j k h i) (two_deep tokens k j i h))
one_fault tokens (Syntax j) (TooDeep k) h i = absurd (not_both tokens j k h i)
one_fault tokens (TooDeep j) (Syntax k) h i = absurd (not_both tokens k j i h)
one_fault tokens NoMemory g h i = absurd h
one_fault tokens (Syntax j) NoMemory h i = absurd i
one_fault tokens (TooDeep j) NoMemory h i = absurd i

-- the fault that tokens have is the one that is given
pub given_fault : (tokens : List Token) (p : Program) (f : ParseFault) → Accepts tokens p → IsFault tokens f → GivesFault (Ok p) f
given_fault tokens p f a h = accepted_not tokens p f a h

pub only_fault : (tokens : List Token) (g f : ParseFault) → Placed tokens g → IsFault tokens f → GivesFault (Err g) f
only_fault tokens g f (inl e) h = inl e
only_fault tokens g f (inr i) h = inr (one_fault tokens g f i h)

-- ---- where the parser ends with a fault

pub exit_placed : (tokens : List Token) (r : Result Program ParseFault) (f : ParseFault) → (IsErr r × IsErrAnd r (λ x. x ≡ f)) → ShowsFault (λ n. it.items (kind_at tokens) shallow n) start f →
    IfErr r (λ f. Placed tokens f)
exit_placed tokens (Ok x) f h k = tt
exit_placed tokens (Err x) f h k = subst (λ x. Placed tokens x) (sym h.1) (placed tokens f k)

pub exit_exact : (tokens : List Token) (r : Result Program ParseFault) (f : ParseFault) → (IsErr r × IsErrAnd r (λ x. x ≡ f)) → ShowsFault (λ n. it.items (kind_at tokens) shallow n) start f →
    (g : ParseFault) → IsFault tokens g → GivesFault r g
exit_exact tokens (Ok x) f h k g i = absurd h.1
exit_exact tokens (Err x) f h k g i = only_fault tokens x g (subst (λ x. Placed tokens x) (sym h.1) (placed tokens f k)) i
