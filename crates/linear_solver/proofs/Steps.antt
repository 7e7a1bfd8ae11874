-- The steps of the loops.
use Rattle.std.proofs.Common.{length-append, length-drop, length-take, zero, All}
use Rattle.std.proofs.lemmas.List.{length-map}
use lib.ListN.{drop_of_length-le}
use Rattle.cc_base.specs.Inequality.{Inequality, divided_by}
use Rattle.linear_solver.proofs.Integers.{gcd_below}
use Rattle.std.proofs.Common.{◌≡◌, ◌∙◌, sym, ap, refl, arith, unsigned_abs, ℤ, ℕ, suc, ◌<◌, ◌≤◌, ◌+◌, List, [], ◌∷◌, ◌++◌, length, map, take, drop, drop-cons, set, get_or, add-one}
use Rattle.std.proofs.lemmas.List.Edits.{map_over_more}
use Rattle.cc_base.specs.Inequality.{gcd, divisor, divisor_from, divided, floor}
use Rattle.cc_base.specs.declared.forms.Multiple.{Multiple}

drop_past : (l : List Multiple) (i : ℕ) → length l ≤ i → drop i l ≡ []
drop_past l i h = drop_of_length-le l h

pub divisor_step : (g : ℕ) (l : List Multiple) (i : ℕ) (d : Multiple) → i < length l → divisor_from (gcd g (unsigned_abs (get_or l i d).coefficient)) (drop (i + 1) l) ≡ divisor_from g (drop i l)
unfolding divisor_from
divisor_step g l i d h = rw (add-one) (sym (ap (divisor_from g) (drop-cons l i d h)))

pub divisor_end : (g : ℕ) (l : List Multiple) (i : ℕ) → length l ≤ i → divisor_from g (drop i l) ≡ divisor l → g ≡ divisor l
unfolding divisor_from
divisor_end g l i h e = sym (ap (divisor_from g) (drop_past l i h)) ∙ e

other_default : (l : List Multiple) (i : ℕ) (d e : Multiple) → i < length l → get_or l i d ≡ get_or l i e
other_default [] i d e h = absurd (omega arith)
other_default (t ∷ l) zero d e h = refl
other_default (t ∷ l) (suc i) d e h = other_default l i d e (omega arith)

pub divide_step : (g : ℕ) (xs ys : List Multiple) (i : ℕ) (d : Multiple) (k : ℤ) → i < length xs → ys ≡ map (divided g) (take i xs) ++ drop i xs → k ≡ floor (get_or ys i d).coefficient g →
    set ys i (record { place = (get_or ys i d).place; coefficient = k }) ≡ map (divided g) (take (i + 1) xs) ++ drop (i + 1) xs
unfolding divided
divide_step g xs ys i d k h e f =
    ap (λ (n : ℤ). set ys i (record { place = (get_or ys i d).place; coefficient = n })) f ∙ map_over_more (divided g) xs ys i (get_or ys i d) h e (other_default ys i d (get_or ys i d) (omega (arith, ap length e, length-append (map (divided g) (take i xs)) (drop i xs), length-map (take i xs) (divided g), length-take i xs, length-drop i xs)))

pub divided_is : (g : ℕ) (i : Inequality) → 0 < g → divided_by g i ≡ (let r : Inequality = record { terms = map (divided g) i.terms; most = floor i.most g } in r)
unfolding divided_by
divided_is zero i h = absurd (omega arith)
divided_is (suc g) i h = refl

pub not_divided : (g : ℕ) (i : Inequality) → g ≤ 0 → divided_by g i ≡ i
unfolding divided_by
not_divided zero i h = refl
not_divided (suc g) i h = absurd (omega arith)

divisor_from_below : (n g : ℕ) (l : List Multiple) → 1 < n → g < n → All (λ t. unsigned_abs t.coefficient < n) l → divisor_from g l < n
unfolding divisor_from
divisor_from_below n g [] o h a = h
divisor_from_below n g (t ∷ l) o h a = divisor_from_below n (gcd g (unsigned_abs t.coefficient)) l o (gcd_below n g (unsigned_abs t.coefficient) o h (a 0 t (omega arith))) (λ k d m. a (suc k) d (omega arith))

pub divisor_below : (n : ℕ) (l : List Multiple) → 1 < n → All (λ t. unsigned_abs t.coefficient < n) l → divisor l < n
unfolding divisor
divisor_below n l o a = divisor_from_below n 0 l o (omega arith) a
