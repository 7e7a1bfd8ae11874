-- What is read of the bytes of a path, one after the other.
use Rattle.std.proofs.Common.{◌≡◌, ◌≢◌, ◌∙◌, sym, ap, refl, subst, ℕ, zero, suc, ◌+◌, ◌<◌, ◌≤◌, List, [], ◌∷◌, ◌++◌, All, map, take, length, Option, Some, None, slice_index_or, arith}
use Rattle.cc_base.specs.declared.outcomes.Outcome.{Outcome}
use Rattle.cc_base.specs.Outcomes.{byte_of, HasByte}
use Rattle.cc_base.specs.Paths.{Path}
use Rattle.concolic_cli.specs.Tasks.{IsPathOf}
use Rattle.command_words.specs.Words.{IsPath}
use Rattle.command_words.proofs.PathWords.{byte_tells, all_first, all_later}

-- the first n outcomes of the bytes were read
abbrev pub Reads : List ℕ → ℕ → Path → Type 0
Reads bytes n path = (p : Path) → All HasByte p → bytes ≡ map byte_of p → path ≡ take n p

-- the outcome at a byte
pub record At (bytes : List ℕ) (p : Path) (i d : ℕ) : Type 0 where
  pub outcome : Outcome
  pub has : HasByte outcome
  pub byte : byte_of outcome ≡ slice_index_or bytes i d
  pub taken : take (i + 1) p ≡ take i p ++ outcome ∷ []

at : (bytes : List ℕ) (p : Path) (i d : ℕ) → i < length bytes → All HasByte p → bytes ≡ map byte_of p → At bytes p i d
at [] p i d lt a e = absurd (omega (arith, lt))
at (x ∷ bytes) [] i d lt a e = absurd (cc e)
at (x ∷ bytes) (o ∷ p) zero d lt a e = record { outcome = o; has = all_first HasByte o p a; byte = cc e; taken = refl }
at (x ∷ bytes) (o ∷ p) (suc i) d lt a e =
    let r = at bytes p i d (omega (arith, lt)) (all_later HasByte o p a) (cc e) in
    let n : suc i + 1 ≡ suc (i + 1) = omega arith in
    record { outcome = r.outcome; has = r.has; byte = r.byte; taken = ap (λ k. take k (o ∷ p)) n ∙ ap (λ (l : Path). o ∷ l) r.taken }

pub reads_more : (bytes : List ℕ) (i d : ℕ) (path : Path) (o : Outcome) → i < length bytes → Reads bytes i path → byte_of o ≡ slice_index_or bytes i d → Reads bytes (i + 1) (path ++ o ∷ [])
reads_more bytes i d path o lt r e = λ p a f.
    let t = at bytes p i d lt a f in
    let same : o ≡ t.outcome = byte_tells o t.outcome (e ∙ sym t.byte) in
    ap (λ (l : Path). l ++ o ∷ []) (r p a f) ∙ ap (λ x. take i p ++ x ∷ []) same ∙ sym t.taken

pub reads_none : (bytes : List ℕ) (i d : ℕ) (path : Path) → i < length bytes → ((o : Outcome) → HasByte o → byte_of o ≢ slice_index_or bytes i d) → Reads bytes (i + 1) path
reads_none bytes i d path lt none = λ p a f. let t = at bytes p i d lt a f in absurd (none t.outcome t.has t.byte)

take_all : (n : ℕ) (bytes : List ℕ) (p : Path) → bytes ≡ map byte_of p → length bytes ≤ n → take n p ≡ p
take_all zero [] [] e h = refl
take_all (suc n) [] [] e h = refl
take_all n [] (o ∷ p) e h = absurd (cc e)
take_all n (x ∷ bytes) [] e h = absurd (cc e)
take_all zero (x ∷ bytes) (o ∷ p) e h = absurd (omega (arith, h))
take_all (suc n) (x ∷ bytes) (o ∷ p) e h = ap (λ (l : Path). o ∷ l) (take_all n bytes p (cc e) (omega (arith, h)))

pub reads_all : (bytes : List ℕ) (n : ℕ) (path : Path) → length bytes ≤ n → Reads bytes n path → (p : Path) → All HasByte p → bytes ≡ map byte_of p → path ≡ p
reads_all bytes n path h r p a e = r p a e ∙ take_all n bytes p e h

-- the path of a word, where there is a word
pub some_path_of : (w : List ℕ) (r : Path) (o : Option (List ℕ)) → o ≡ Some w → ((q : Path) → IsPath w q → r ≡ q) → (p : Option Path) → IsPathOf o p → Some r ≡ p
some_path_of w r None e h p i = absurd (cc e)
some_path_of w r (Some v) e h None i = absurd i
some_path_of w r (Some v) e h (Some q) i = let same : v ≡ w = cc e in ap Some (h q (subst (λ u. IsPath u q) same i))

pub no_path_of : (o : Option (List ℕ)) → o ≡ None → (p : Option Path) → IsPathOf o p → p ≡ None
no_path_of None e None i = refl
no_path_of None e (Some q) i = absurd i
no_path_of (Some v) e p i = absurd (cc e)
