-- The places of names in a list, and a map that holds the first of each.
use native.Mathlib.Omega.{arith}
use Rattle.std.proofs.Common.{◌≡◌, ◌∙◌, sym, ap, refl, subst, ℕ, zero, suc, ◌+◌, ◌<◌, Bool, true, false, cond, List, [], ◌∷◌, ◌++◌, map, length, slice_get, Option, Some, None, IfSome, is_some, if◌then◌else◌}
use Rattle.std.specs.Prelude.{position, find, bytes_eq, nat_lt}
use Rattle.std.specs.List.{position_from, position_or_len}
use Rattle.std.specs.Map.{lookup}
use Rattle.std.specs.Option.{option_and_then, option_copied}
use Rattle.std.proofs.lemmas.Iterator.Adapters.{position_from-zero}
use Rattle.std.proofs.lemmas.Slice.Eq.{bytes_eq-Decides}
use Rattle.indexmap.specs.IndexMap.{insert_entry}
use Rattle.cc_model.specs.Scopes.{or_else, has_tag, tag_in}

plus_none : (i : ℕ) → i ≡ i + 0
plus_none i = omega arith

none_plus : (n : ℕ) → 0 + n ≡ n
none_plus n = omega arith

plus_one : (i n : ℕ) → i + 1 + n ≡ i + suc n
plus_one i n = omega arith

or_none : {A : Type 0} (a : Option A) → a ≡ or_else a None
or_none None = refl
or_none (Some x) = refl

module _ {X : Type 0} (p : X → Bool) where
  from_append : (xs ys : List X) (i : ℕ) → position_from p i (xs ++ ys) ≡ or_else (position_from p i xs) (position_from p (i + length xs) ys)
  from_append [] ys i = ap (λ n. position_from p n ys) (plus_none i)
  from_append (x ∷ xs) ys i = by (p x) (from_append xs ys (i + 1) ∙ ap (λ n. or_else (position_from p (i + 1) xs) (position_from p n ys)) (plus_one i (length xs)))
    where
      by : (b : Bool) → position_from p (i + 1) (xs ++ ys) ≡ or_else (position_from p (i + 1) xs) (position_from p (i + suc (length xs)) ys)
          → cond b (Some i) (position_from p (i + 1) (xs ++ ys)) ≡ or_else (cond b (Some i) (position_from p (i + 1) xs)) (position_from p (i + suc (length xs)) ys)
      by true h = refl
      by false h = h

  from_zero : (xs : List X) → position p xs ≡ position_from p 0 xs
  from_zero xs = position_from-zero p xs

  pub position_push : (xs : List X) (x : X) → position p (xs ++ x ∷ []) ≡ or_else (position p xs) (if p x then Some (length xs) else None)
  position_push xs x = from_zero (xs ++ x ∷ []) ∙ from_append xs (x ∷ []) 0 ∙ ap (λ n. or_else (position_from p 0 xs) (position_from p n (x ∷ []))) (none_plus (length xs)) ∙ ap (λ z. or_else z (if p x then Some (length xs) else None)) (sym (from_zero xs))

  pub position_within : (xs : List X) → IfSome (position p xs) (λ n. n < length xs)
  position_within xs = by (nat_lt (position_or_len p xs) (length xs)) refl
    where
      by : (b : Bool) → nat_lt (position_or_len p xs) (length xs) ≡ b → IfSome (cond b (Some (position_or_len p xs)) None) (λ n. n < length xs)
      by true e = grind (arith, e)
      by false e = tt

  any_from : (xs : List X) (i : ℕ) → is_some (position_from p i xs) ≡ is_some (find p xs)
  any_from [] i = refl
  any_from (x ∷ xs) i = by (p x) (any_from xs (i + 1))
    where
      by : (b : Bool) → is_some (position_from p (i + 1) xs) ≡ is_some (find p xs) → is_some (cond b (Some i) (position_from p (i + 1) xs)) ≡ is_some (cond b (Some x) (find p xs))
      by true h = refl
      by false h = h

  pub any_position : (xs : List X) → is_some (position p xs) ≡ is_some (find p xs)
  any_position xs = ap is_some (from_zero xs) ∙ any_from xs 0

  find_from : (xs : List X) (i : ℕ) (g : ℕ → Option X) → ((n : ℕ) → g (i + n) ≡ slice_get xs n) → option_and_then g (position_from p i xs) ≡ find p xs
  find_from [] i g h = refl
  find_from (x ∷ xs) i g h = by (p x) (ap g (plus_none i) ∙ h zero) (find_from xs (i + 1) g (λ n. ap g (plus_one i n) ∙ h (suc n)))
    where
      by : (b : Bool) → g i ≡ Some x → option_and_then g (position_from p (i + 1) xs) ≡ find p xs → option_and_then g (cond b (Some i) (position_from p (i + 1) xs)) ≡ cond b (Some x) (find p xs)
      by true e h = e
      by false e h = h

  pub find_position : (xs : List X) → option_and_then (slice_get xs) (position p xs) ≡ find p xs
  find_position xs = ap (option_and_then (slice_get xs)) (from_zero xs) ∙ find_from xs 0 (slice_get xs) (λ n. ap (slice_get xs) (none_plus n))

module _ {X Y : Type 0} (p : Y → Bool) (f : X → Y) where
  from_map : (xs : List X) (i : ℕ) → position_from p i (map f xs) ≡ position_from (λ x. p (f x)) i xs
  from_map [] i = refl
  from_map (x ∷ xs) i = ap (cond (p (f x)) (Some i)) (from_map xs (i + 1))

  pub position_map : (xs : List X) → position p (map f xs) ≡ position (λ x. p (f x)) xs
  position_map xs = from_zero p (map f xs) ∙ from_map xs 0 ∙ sym (from_zero (λ x. p (f x)) xs)

  -- what is found by its name's place
  pub found_at : (xs : List X) (names : List Y) → names ≡ map f xs → (n : Option ℕ) → n ≡ position p names → option_and_then (slice_get xs) n ≡ find (λ x. p (f x)) xs
  found_at xs names e n h = ap (option_and_then (slice_get xs)) (h ∙ ap (position p) e ∙ position_map xs) ∙ find_position (λ x. p (f x)) xs

module _ {K : Type 0} (of : K → List ℕ) where
  abbrev place : List (K × ℕ) → List ℕ → Option ℕ
  place es q = lookup (λ k. bytes_eq q (of k)) es

  pub place_insert : (eq : K → K → Bool) (es : List (K × ℕ)) (k : K) (v : ℕ) → lookup (eq k) es ≡ None → (q : List ℕ)
      → place (insert_entry eq es k v) q ≡ or_else (place es q) (if bytes_eq q (of k) then Some v else None)
  place_insert eq [] k v h q = refl
  place_insert eq (e ∷ es) k v h q = by (eq k e.0) h (λ j. place_insert eq es k v j q)
    where
      rest : (b : Bool) → place (insert_entry eq es k v) q ≡ or_else (place es q) (if bytes_eq q (of k) then Some v else None)
          → cond b (Some e.1) (place (insert_entry eq es k v) q) ≡ or_else (cond b (Some e.1) (place es q)) (if bytes_eq q (of k) then Some v else None)
      rest true h = refl
      rest false h = h

      by : (b : Bool) → cond b (Some e.1) (lookup (eq k) es) ≡ None
          → (lookup (eq k) es ≡ None → place (insert_entry eq es k v) q ≡ or_else (place es q) (if bytes_eq q (of k) then Some v else None))
          → place (if b then (e.0, v) ∷ es else e ∷ insert_entry eq es k v) q ≡ or_else (cond (bytes_eq q (of e.0)) (Some e.1) (place es q)) (if bytes_eq q (of k) then Some v else None)
      by true h r = cc
      by false h r = rest (bytes_eq q (of e.0)) (r h)

  pub place_there : (es : List (K × ℕ)) (name : List ℕ) (v : ℕ) → is_some (place es name) ≡ true → (q : List ℕ)
      → place es q ≡ or_else (place es q) (if bytes_eq q name then Some v else None)
  place_there es name v h q = by (bytes_eq q name) refl
    where
      some : (a : Option ℕ) → is_some a ≡ true → a ≡ or_else a (Some v)
      some None e = cc
      some (Some x) e = refl

      by : (b : Bool) → bytes_eq q name ≡ b → place es q ≡ or_else (place es q) (if b then Some v else None)
      by true e = some (place es q) (subst (λ z. is_some (place es z) ≡ true) (sym ((bytes_eq-Decides q name).0 e)) h)
      by false e = or_none (place es q)

  lookup_same : (t u : K → Bool) → ((j : K) → t j ≡ u j) → (es : List (K × ℕ)) → lookup t es ≡ lookup u es
  lookup_same t u h [] = refl
  lookup_same t u h (e ∷ es) = ap (λ b. cond b (Some e.1) (lookup t es)) (h e.0) ∙ ap (cond (u e.0) (Some e.1)) (lookup_same t u h es)

  none_of : (a : Option ℕ) → is_some a ≡ false → a ≡ None
  none_of None e = refl
  none_of (Some x) e = cc

  pub place_put : (eq : K → K → Bool) (es new : List (K × ℕ)) (k : K) (name : List ℕ) (v : ℕ) (r : Option ℕ) (b : Bool) → ((j : K) → eq k j ≡ bytes_eq (of k) (of j)) → of k ≡ name
      → new ≡ insert_entry eq es k v → r ≡ place es name → b ≡ is_some r → b ≡ false → (q : List ℕ) → place new q ≡ or_else (place es q) (if bytes_eq q name then Some v else None)
  place_put eq es new k name v r b same e n h i f q =
      let empty : lookup (eq k) es ≡ None = lookup_same (eq k) (λ j. bytes_eq (of k) (of j)) same es ∙ ap (place es) e ∙ sym h ∙ none_of r (sym i ∙ f) in
      ap (λ l. place l q) n ∙ place_insert eq es k v empty q ∙ ap (λ z. or_else (place es q) (if bytes_eq q z then Some v else None)) e

-- one more at the end, of which the tests say what they say of its name
pub tested_added : {X : Type 0} (p : List ℕ → X → Bool) (xs new : List X) (x : X) (name : List ℕ) (n : ℕ) (g g' : List ℕ → Option ℕ) → new ≡ xs ++ x ∷ [] → ((q : List ℕ) → p q x ≡ bytes_eq q name) → n ≡ length xs
    → ((q : List ℕ) → g q ≡ position (p q) xs) → ((q : List ℕ) → g' q ≡ or_else (g q) (if bytes_eq q name then Some n else None)) → (q : List ℕ) → g' q ≡ position (p q) new
tested_added p xs new x name n g g' e t h i j q =
    j q ∙ ap (λ m. or_else (g q) (if bytes_eq q name then Some m else None)) h ∙ ap (λ a. or_else a (if bytes_eq q name then Some (length xs) else None)) (i q)
    ∙ ap (λ b. or_else (position (p q) xs) (if b then Some (length xs) else None)) (sym (t q)) ∙ sym (position_push (p q) xs x) ∙ ap (position (p q)) (sym e)

pub place_added : (names new : List (List ℕ)) (text name : List ℕ) (n : ℕ) (g g' : List ℕ → Option ℕ) → new ≡ names ++ text ∷ [] → text ≡ name → n ≡ length names
    → ((q : List ℕ) → g q ≡ position (bytes_eq q) names) → ((q : List ℕ) → g' q ≡ or_else (g q) (if bytes_eq q name then Some n else None)) → (q : List ℕ) → g' q ≡ position (bytes_eq q) new
place_added names new text name n g g' e t h i j = tested_added bytes_eq names new text name n g g' e (λ q. ap (bytes_eq q) t) h i j

pub tag_added : (tags new : List (Option (List ℕ))) (text name : List ℕ) (n : ℕ) (g g' : List ℕ → Option ℕ) → new ≡ tags ++ Some text ∷ [] → text ≡ name → n ≡ length tags
    → ((q : List ℕ) → g q ≡ tag_in q tags) → ((q : List ℕ) → g' q ≡ or_else (g q) (if bytes_eq q name then Some n else None)) → (q : List ℕ) → g' q ≡ tag_in q new
tag_added tags new text name n g g' e t h i j = tested_added has_tag tags new (Some text) name n g g' e (λ q. ap (bytes_eq q) t) h i j

pub none_added : (tags new : List (Option (List ℕ))) → new ≡ tags ++ None ∷ [] → (q : List ℕ) → tag_in q tags ≡ tag_in q new
none_added tags new e q = or_none (tag_in q tags) ∙ sym (position_push (has_tag q) tags None) ∙ ap (λ z. tag_in q z) (sym e)
