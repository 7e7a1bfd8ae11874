-- The value of the digits so far, up to the greatest number and above it.
use Rattle.std.proofs.Common.{◌≡◌, ℕ, ◌+◌, ◌-◌, ◌*◌, ◌<◌, ◌≤◌, List, [], take, length, get_or, arith, Bool, true, false, cond, ◌&&◌, Some, None, pos, ap, sym, refl, ◌∙◌, to_z, w32}
use Rattle.std.proofs.lemmas.List.Sums.{fold_more}
use Rattle.std.specs.Prelude.{nat_le}
use Rattle.std.proofs.lemmas.Int.{ints}
use Rattle.std.proofs.lemmas.Bool.Decides.{nat_tests}
use Rattle.cc_model.specs.Lexical.{value_of, is_number, is_decimal}

-- value is that of the digits as long as that is at most the greatest number, and then something above
pub record Capped (value : ℕ) (digits : List ℕ) : Type 0 where
  pub exact : value ≤ 2147483647 → value ≡ value_of digits
  pub above : 2147483647 < value → 2147483647 < value_of digits

value_more : (digits : List ℕ) (i d : ℕ) → i < length digits → value_of (take (i + 1) digits) ≡ 10 * value_of (take i digits) + (get_or digits i d - 48)
unfolding value_of
value_more digits i d h = fold_more (λ value digit. 10 * value + (digit - 48)) 0 digits i d h

pub capped_step : (value : ℕ) (digits : List ℕ) (i d : ℕ) → i < length digits → value ≤ 2147483647 → Capped value (take i digits) → Capped (10 * value + (get_or digits i d - 48)) (take (i + 1) digits)
capped_step value digits i d h l c =
    let e = value_more digits i d h in
    let same : value ≡ value_of (take i digits) = c.exact l in
    record { exact = λ k. omega arith; above = λ k. omega arith }

pub capped_over : (value : ℕ) (digits : List ℕ) (i d : ℕ) → i < length digits → 2147483647 < value → Capped value (take i digits) → Capped value (take (i + 1) digits)
capped_over value digits i d h l c =
    let e = value_more digits i d h in
    let over : 2147483647 < value_of (take i digits) = c.above l in
    record { exact = λ k. absurd (omega arith); above = λ k. omega arith }

small : (n r : ℕ) → r ≤ 2147483647 → (2147483647 < n → 2147483647 < r) → nat_le n 2147483647 ≡ true
small n r l above = grind (arith, nat_tests)

great : (n r : ℕ) → 2147483647 < r → (n ≤ 2147483647 → r ≡ n) → nat_le n 2147483647 ≡ false
great n r l exact = grind (arith, nat_tests)

signed : (r : ℕ) → r ≤ 2147483647 → to_z w32 r ≡ pos r
signed r l = grind (arith, ints)

chosen : (n : ℕ) (a b c : Bool) → a ≡ b → (cond (a && c) (Some (pos n)) None) ≡ cond (b && c) (Some (pos n)) None
chosen n a b c e = ap (λ x. cond (x && c) (Some (pos n)) None) e

tested : (n : ℕ) (a b : Bool) → a ≡ b → (cond a (Some (pos n)) None) ≡ cond b (Some (pos n)) None
tested n a b e = ap (λ x. cond x (Some (pos n)) None) e

pub small_number : (text : List ℕ) (r : ℕ) → is_decimal text ≡ true → r ≤ 2147483647 → (value_of text ≤ 2147483647 → r ≡ value_of text) → (2147483647 < value_of text → 2147483647 < r) →
    Some (to_z w32 r) ≡ cond (is_number text) (Some (pos (value_of text))) None
unfolding is_number
small_number text r d l exact above =
    let t = small (value_of text) r l above in
    let n : value_of text ≤ 2147483647 = grind (arith, nat_tests) in
    ap Some (signed r l) ∙ ap (λ x. Some (pos x)) (exact n) ∙ sym (chosen (value_of text) _ true _ d ∙ tested (value_of text) _ true t)

pub great_number : (text : List ℕ) (r : ℕ) → is_decimal text ≡ true → 2147483647 < r → (value_of text ≤ 2147483647 → r ≡ value_of text) →
    None ≡ cond (is_number text) (Some (pos (value_of text))) None
unfolding is_number
great_number text r d l exact = sym (chosen (value_of text) _ true _ d ∙ tested (value_of text) _ false (great (value_of text) r l exact))

pub no_number : (text : List ℕ) → is_decimal text ≡ false → None ≡ cond (is_number text) (Some (pos (value_of text))) None
unfolding is_number
no_number text d = sym (chosen (value_of text) _ false _ d)

pub capped_none : Capped 0 []
unfolding value_of
capped_none = record { exact = λ _. refl; above = λ h. absurd (omega arith) }
