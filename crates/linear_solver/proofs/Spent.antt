-- Spent is exact: the counter of Elimination against Need.
use Rattle.std.proofs.Common.{◌≡◌, ◌∙◌, ap, arith, ℕ, suc, ◌<◌, ◌≤◌, ◌+◌, ℤ, Bool, false, ◌⊎◌, inl, inr, nat_lt, List, length, if◌then◌else◌}
use Rattle.std.proofs.lemmas.Bool.{cases_lt}
use Rattle.cc_base.specs.Groups.{Atom, places_in}
use Rattle.cc_base.specs.Need.{Tried, found, closed, open_choice, after, elimination, box, with_elimination, need_at, need}
use Rattle.linear_solver.specs.Counts.{beyond, within, tried_count, cost_of}

-- Elimination decides within the budget
abbrev pub Decided : ℕ → Tried → Type 0
Decided b (found c) = c ≤ b
Decided b (closed c) = c ≤ b
Decided b (open_choice c) = ⊥

pub within_or : (b x : ℕ) (t : Tried) → with_elimination x t ≤ b → (x ≤ b) ⊎ Decided b t
unfolding with_elimination
within_or b x (found c) h = elim (cases_lt b x) [ inl k ↦ inr (omega arith) | inr k ↦ inl k ]
within_or b x (closed c) h = elim (cases_lt b x) [ inl k ↦ inr (omega arith) | inr k ↦ inl k ]
within_or b x (open_choice c) h = inl h

pub beyond_when : (b x : ℕ) (t : Tried) → b < x → (Decided b t → ⊥) → b < with_elimination x t
unfolding with_elimination
beyond_when b x (found c) h n = elim (cases_lt b c) [ inl k ↦ omega arith | inr k ↦ absurd (n k) ]
beyond_when b x (closed c) h n = elim (cases_lt b c) [ inl k ↦ omega arith | inr k ↦ absurd (n k) ]
beyond_when b x (open_choice c) h n = h

not_beyond : (b : ℕ) (t : Tried) → Decided b t → tried_count 0 b t ≡ within (after 0 t)
unfolding tried_count cost_of
not_beyond b (found c) h = let e : nat_lt b (0 + c) ≡ false = grind arith in ap (λ (d : Bool). if d then beyond else within (after 0 (found c))) e
not_beyond b (closed c) h = let e : nat_lt b (0 + c) ≡ false = grind arith in ap (λ (d : Bool). if d then beyond else within (after 0 (closed c))) e
not_beyond b (open_choice c) h = absurd h

-- where the counter passed the budget, Elimination does not decide within it
pub beyond_decides : (b : ℕ) (t : Tried) → beyond ≡ tried_count 0 b t → Decided b t → ⊥
beyond_decides b t e d = let f : beyond ≡ within (after 0 t) = e ∙ not_beyond b t d in cc f

-- nor where it ended without deciding
pub open_decides : (b u : ℕ) (t : Tried) → within (open_choice u) ≡ tried_count 0 b t → Decided b t → ⊥
unfolding after
open_decides b u (found c) e d = let f : within (open_choice u) ≡ within (found (0 + c)) = e ∙ not_beyond b (found c) d in cc f
open_decides b u (closed c) e d = let f : within (open_choice u) ≡ within (closed (0 + c)) = e ∙ not_beyond b (closed c) d in cc f
open_decides b u (open_choice c) e d = d

-- a group of two places or more: beyond the budget exactly where the box and Elimination are
pub group_beyond : (n b : ℕ) (lo hi : ℤ) (l : List Atom) → length (places_in l) ≡ suc (suc n) → b < box lo hi l → (Decided b (elimination lo hi l) → ⊥) → b < need lo hi l
unfolding need need_at
group_beyond n b lo hi l e h d = let f : need_at (length (places_in l)) lo hi l ≡ with_elimination (box lo hi l) (elimination lo hi l) = ap (λ (k : ℕ). need_at k lo hi l) e in
    let g = beyond_when b (box lo hi l) (elimination lo hi l) h d in omega (arith, f, g)
