-- A loop over a table: one more row, and none left. In a table whose texts grow no longer, the first sign that fits is the longest.
use Rattle.std.proofs.Common.{◌≡◌, ℕ, ◌+◌, ◌<◌, ◌≤◌, Bool, true, false, cond, ◌&&◌, List, [], ◌∷◌, drop, length, Option, Some, None, slice_index_or, Bor, sym, ap, subst, refl, ◌∙◌, arith}
use Rattle.std.specs.Prelude.{nat_lt, nat_le, IfSome, option_map}
use Rattle.std.specs.List.{find, list_all}
use Rattle.std.proofs.lemmas.List.{at_drop_more, at_drop_all}
use Rattle.std.proofs.lemmas.Bool.Decides.{nat_tests}
use Rattle.cc_model.specs.declared.tokens.Punct.{Punct}
use Rattle.cc_model.specs.Lexical.{begins, longest, longer, signs}
use Rattle.c_lex.specs.Tables.{seen, seen_row, sized}

find_more : {A : Type 0} (p : List ℕ × A → Bool) (table : List (Bor (List ℕ) × A)) (i : ℕ) (d : Bor (List ℕ) × A) (b : Bool) → i < length table → b ≡ p (seen_row (slice_index_or table i d)) →
    find p (seen (drop i table)) ≡ cond b (Some (seen_row (slice_index_or table i d))) (find p (seen (drop (i + 1) table)))
find_more p table i d b h e =
    at_drop_more (λ t. find p (seen t)) table i d h ∙ ap (λ x. cond x (Some (seen_row (slice_index_or table i d))) (find p (seen (drop (i + 1) table)))) (sym e)

-- the row passes
pub find_found : {A : Type 0} (p : List ℕ × A → Bool) (table : List (Bor (List ℕ) × A)) (i : ℕ) (d : Bor (List ℕ) × A) (b : Bool) → i < length table → b ≡ p (seen_row (slice_index_or table i d)) → b ≡ true →
    find p (seen (drop i table)) ≡ find p (seen table) → Some (seen_row (slice_index_or table i d)) ≡ find p (seen table)
find_found p table i d b h e t k =
    sym (ap (λ x. cond x (Some (seen_row (slice_index_or table i d))) (find p (seen (drop (i + 1) table)))) t) ∙ sym (find_more p table i d b h e) ∙ k

-- the row fails
pub find_passed : {A : Type 0} (p : List ℕ × A → Bool) (table : List (Bor (List ℕ) × A)) (i : ℕ) (d : Bor (List ℕ) × A) (b : Bool) → i < length table → b ≡ p (seen_row (slice_index_or table i d)) → b ≡ false →
    find p (seen (drop i table)) ≡ find p (seen table) → find p (seen (drop (i + 1) table)) ≡ find p (seen table)
find_passed p table i d b h e t k =
    sym (ap (λ x. cond x (Some (seen_row (slice_index_or table i d))) (find p (seen (drop (i + 1) table)))) t) ∙ sym (find_more p table i d b h e) ∙ k

-- no row is left
pub find_all : {A : Type 0} (p : List ℕ × A → Bool) (table : List (Bor (List ℕ) × A)) (i : ℕ) → length table ≤ i → find p (seen (drop i table)) ≡ find p (seen table) → None ≡ find p (seen table)
find_all p table i h k = sym (at_drop_all (λ t. find p (seen t)) table i h) ∙ k

Signs : Type 0
Signs = List (List ℕ × Punct)

-- no text of the table is longer than n
abbrev at_most : ℕ → List (List ℕ × Punct) → Bool
at_most n table = list_all (λ s. nat_le (length s.0) n) table

abbrev descend : List (List ℕ × Punct) → Bool
descend [] = true
descend (s ∷ table) = at_most (length s.0) table && descend table

both : (a b : Bool) → (a && b) ≡ true → (a ≡ true) × (b ≡ true)
both true b e = (refl, e)
both false b e = absurd (cc)

if_longer : (s : List ℕ × Punct) (o : Option (List ℕ × Punct)) (n : ℕ) → length s.0 ≤ n → IfSome o (λ t. length t.0 ≤ n) → length (longer s o).0 ≤ n
unfolding longer
if_longer s None n h k = h
if_longer s (Some t) n h k = by_test (nat_lt (length s.0) (length t.0))
  where
    by_test : (b : Bool) → length (cond b t s).0 ≤ n
    by_test true = k
    by_test false = h

bounded : (table : List (List ℕ × Punct)) (bytes : List ℕ) (n : ℕ) → at_most n table ≡ true → IfSome (longest table bytes) (λ s. length s.0 ≤ n)
unfolding longest
bounded [] bytes n h = tt
bounded (s ∷ table) bytes n h =
    let parts = both (nat_le (length s.0) n) (at_most n table) h in
    by_test parts.0 (bounded table bytes n parts.1) (begins bytes s.0)
  where
    by_test : nat_le (length s.0) n ≡ true → IfSome (longest table bytes) (λ s. length s.0 ≤ n) → (b : Bool) → IfSome (cond b (Some (longer s (longest table bytes))) (longest table bytes)) (λ s. length s.0 ≤ n)
    by_test l rest true = if_longer s (longest table bytes) n (grind (arith, nat_tests)) rest
    by_test l rest false = rest

stays : (s : List ℕ × Punct) (o : Option (List ℕ × Punct)) → IfSome o (λ t. length t.0 ≤ length s.0) → longer s o ≡ s
unfolding longer
stays s None k = refl
stays s (Some t) k =
    let e : nat_lt (length s.0) (length t.0) ≡ false = grind (arith, nat_tests) in
    ap (λ b. cond b t s) e

pub longest_is_first : (table : List (List ℕ × Punct)) (bytes : List ℕ) → descend table ≡ true → longest table bytes ≡ find (λ s. begins bytes s.0) table
unfolding longest
longest_is_first [] bytes h = refl
longest_is_first (s ∷ table) bytes h =
    let parts = both (at_most (length s.0) table) (descend table) h in
    ap (λ t. cond (begins bytes s.0) (Some t) (longest table bytes)) (stays s (longest table bytes) (bounded table bytes (length s.0) parts.0))
    ∙ ap (λ o. cond (begins bytes s.0) (Some s) o) (longest_is_first table bytes parts.1)

pub first_sign : (bytes : List ℕ) → longest signs bytes ≡ find (λ s. begins bytes s.0) signs
unfolding signs
first_sign bytes = longest_is_first signs bytes refl

positive : (p : List ℕ × Punct → Bool) (table : List (List ℕ × Punct)) → list_all (λ s. nat_lt 0 (length s.0)) table ≡ true → IfSome (option_map sized (find p table)) (λ s. 0 < s.1)
positive p [] h = tt
positive p (s ∷ table) h =
    let parts = both (nat_lt 0 (length s.0)) (list_all (λ t. nat_lt 0 (length t.0)) table) h in
    by_test parts.0 (positive p table parts.1) (p s)
  where
    by_test : nat_lt 0 (length s.0) ≡ true → IfSome (option_map sized (find p table)) (λ t. 0 < t.1) → (b : Bool) → IfSome (option_map sized (cond b (Some s) (find p table))) (λ t. 0 < t.1)
    by_test l rest true = grind (arith, nat_tests)
    by_test l rest false = rest

-- no sign is empty
pub sign_some : (bytes : List ℕ) → IfSome (option_map sized (longest signs bytes)) (λ s. 0 < s.1)
unfolding signs
sign_some bytes =
    let IsSome : Option (List ℕ × Punct) → Type 0 = λ o. IfSome (option_map sized o) (λ s. 0 < s.1) in
    subst IsSome (sym (first_sign bytes)) (positive (λ s. begins bytes s.0) signs refl)

pub some_both : (o : Option (Punct × ℕ)) (n : ℕ) → IfSome o (λ s. 0 < s.1) → IfSome o (λ s. s.1 ≤ n) → IfSome o (λ s. (0 < s.1) × (s.1 ≤ n))
some_both None n h k = tt
some_both (Some s) n h k = (h, k)
