-- What a byte is tells the byte.
use Rattle.std.proofs.Common.{◌≡◌, ◌≢◌, ℕ, ◌+◌, ◌-◌, ◌<◌, ◌≤◌, ◌⊎◌, inl, inr, Bool, true, false, refl, ap, arith, nat_eq, nat_lt, if◌then◌else◌}
use Rattle.std.proofs.lemmas.Bool.Decides.{nat_tests}
use Rattle.input_map.specs.declared.reading.Mark.{Mark}
use Rattle.input_map.specs.declared.reading.Mark.TheVariants.{Tilde, Comma, Slash, Minus, Digit, Other}
use Rattle.input_map.specs.Reading.{mark_of}

abbrev pub IsMark : Mark → ℕ → Type 0
IsMark Tilde b = b ≡ 126
IsMark Comma b = b ≡ 44
IsMark Slash b = b ≡ 47
IsMark Minus b = b ≡ 45
IsMark (Digit d) b = (d < 10) × (b ≡ 48 + d)
IsMark Other b = (b ≢ 126) × (b ≢ 44) × (b ≢ 47) × (b ≢ 45) × ((b < 48) ⊎ (57 < b))

pick : (P : Mark → Type 0) (t : Bool) (m k : Mark) → (t ≡ true → P m) → (t ≡ false → P k) → P (if t then m else k)
pick P true m k f g = f refl
pick P false m k f g = g refl

same : (a b : ℕ) → nat_eq a b ≡ true → a ≡ b
same a b e = grind (arith, nat_tests)

other : (a b : ℕ) → nat_eq a b ≡ false → a ≢ b
other a b e f = grind (arith, nat_tests)

less : (a b : ℕ) → nat_lt a b ≡ true → a < b
less a b e = grind (arith, nat_tests)

most : (a b : ℕ) → nat_lt a b ≡ false → b ≤ a
most a b e = grind (arith, nat_tests)

digit_of : (b : ℕ) → 48 ≤ b → b ≤ 57 → (b - 48 < 10) × (b ≡ 48 + (b - 48))
digit_of b h k = (omega (arith, h, k), omega (arith, h, k))

pub marked : (b : ℕ) → IsMark (mark_of b) b
unfolding mark_of
marked b = pick (λ m. IsMark m b) (nat_eq b 126) _ _ (same b 126) (λ e.
    pick (λ m. IsMark m b) (nat_eq b 44) _ _ (same b 44) (λ f.
    pick (λ m. IsMark m b) (nat_eq b 47) _ _ (same b 47) (λ g.
    pick (λ m. IsMark m b) (nat_eq b 45) _ _ (same b 45) (λ h.
    pick (λ m. IsMark m b) (nat_lt b 48) _ _ (λ i. (other b 126 e, other b 44 f, other b 47 g, other b 45 h, inl (less b 48 i))) (λ i.
    pick (λ m. IsMark m b) (nat_lt 57 b) _ _ (λ j. (other b 126 e, other b 44 f, other b 47 g, other b 45 h, inr (less 57 b j))) (λ j. digit_of b (most b 48 i) (most 57 b j)))))))

only_digit : (m : Mark) (d : ℕ) → d < 10 → IsMark m (48 + d) → m ≡ Digit d
only_digit Tilde d h i = absurd (omega (arith, h, i))
only_digit Comma d h i = absurd (omega (arith, h, i))
only_digit Slash d h i = absurd (omega (arith, h, i))
only_digit Minus d h i = absurd (omega (arith, h, i))
only_digit (Digit e) d h i = let k = i.1 in let f : e ≡ d = omega (arith, k) in ap (λ n. Digit n) f
only_digit Other d h (a, b, c, e, inl f) = absurd (omega (arith, f))
only_digit Other d h (a, b, c, e, inr f) = absurd (omega (arith, f, h))

pub mark_of_digit : (d : ℕ) → d < 10 → mark_of (48 + d) ≡ Digit d
mark_of_digit d h = only_digit (mark_of (48 + d)) d h (marked (48 + d))

pub mark_of_tilde : mark_of 126 ≡ Tilde
unfolding mark_of
mark_of_tilde = refl

pub mark_of_comma : mark_of 44 ≡ Comma
unfolding mark_of
mark_of_comma = refl

pub mark_of_slash : mark_of 47 ≡ Slash
unfolding mark_of
mark_of_slash = refl

pub mark_of_minus : mark_of 45 ≡ Minus
unfolding mark_of
mark_of_minus = refl
