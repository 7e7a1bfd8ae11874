-- What the deepest level keeps once an outcome is settled, and what is left to push.
use Rattle.std.proofs.Common.{◌≡◌, ℕ, zero, suc, ◌-◌, ◌<◌, ◌≤◌, Bool, true, false, List, [], ◌∷◌, length, length-drop, drop, get_or, arith, inl, inr, ap, ◌∙◌, subst, nat_eq, if◌then◌else◌}
use Rattle.cc_base.specs.declared.outcomes.Outcome.{Outcome}
use Rattle.cc_base.specs.Outcomes.{byte_of}
use Rattle.cc_base.specs.Paths.{In, Ascend}
use Rattle.path_tree.specs.Branches.{Below, without, settled, Branches, IsOpen, IsSomeOpen, HasRoom, Takes}

-- how many outcomes the deepest level has
abbrev pub open_below : List (List Outcome) → ℕ
open_below [] = 0
open_below (os ∷ rest) = length os

-- no more outcomes are left
pub without_short : (o : Outcome) (os : List Outcome) → length (without o os) ≤ length os
without_short o [] = omega arith
without_short o (p ∷ os) = pick (nat_eq (byte_of p) (byte_of o)) (without_short o os)
  where
    pick : (b : Bool) → length (without o os) ≤ length os → length (if b then os else p ∷ without o os) ≤ length (p ∷ os)
    pick true h = omega arith
    pick false h = omega (arith, h)

-- those that are left were there
pub without_in : (o : Outcome) (os : List Outcome) (q : Outcome) → In q (without o os) → In q os
without_in o [] q h = h
without_in o (p ∷ os) q h = pick (nat_eq (byte_of p) (byte_of o)) h (λ m. without_in o os q m)
  where
    pick : (b : Bool) → In q (if b then os else p ∷ without o os) → (In q (without o os) → In q os) → In q (p ∷ os)
    pick true m k = inr m
    pick false (inl e) k = inl e
    pick false (inr m) k = inr (k m)

-- the least goes before what is left
pub settled_room : (old mid new : Branches) (o r : Outcome) → Takes r old mid → new ≡ record { most = mid.most; levels = settled o mid.levels } → HasRoom r new.levels
settled_room old mid new o r (os, rest, shape, after, few, below) e =
    let levels : new.levels ≡ without o os ∷ rest = ap (λ (b : Branches). b.levels) e ∙ ap (λ (b : Branches). settled o b.levels) after in
    let short = without_short o os in
    let less : length (without o os) < 29 = omega (arith, short, few) in
    (without o os, rest, levels, less, λ q m. below q (without_in o os q m))

-- an outcome of an ascending list is below those behind it
pub below_rest : (xs : List Outcome) (i : ℕ) (d : Outcome) → Ascend xs → i < length xs → Below (get_or xs i d) (drop (suc i) xs)
below_rest [] i d h b = absurd (omega (arith, b))
below_rest (x ∷ xs) zero d h b = h.0
below_rest (x ∷ xs) (suc i) d h b = below_rest xs i d h.1 (omega (arith, b))

-- what is left to push goes before what is pushed
pub left_room : (xs : List Outcome) (n : ℕ) (d : Outcome) (rest ls : List (List Outcome)) → Ascend xs → 0 < n → n ≤ length xs → length xs ≤ 29 → ls ≡ drop n xs ∷ rest → HasRoom (get_or xs (n - 1) d) ls
left_room xs n d rest ls h p b few e =
    let next : suc (n - 1) ≡ n = omega arith in
    let inside : n - 1 < length xs = omega arith in
    let short : length (drop n xs) < 29 = omega (arith, length-drop n xs) in
    (drop n xs, rest, e, short, subst (λ (k : ℕ). Below (get_or xs (n - 1) d) (drop k xs)) next (below_rest xs (n - 1) d h inside))

-- where an outcome is open, a least one is
pub open_some : (o : Outcome) (ls : List (List Outcome)) → IsOpen o ls → IsSomeOpen ls
open_some o ls ([], rest, e, m) = absurd m
open_some o ls (p ∷ os, rest, e, m) = (p, os, rest, e)
