-- Numbers of 32 bits and their operations.
use Rattle.std.proofs.Common.{◌≡◌, ◌∙◌, refl, ap₂, arith, ◌^◌, ◌≤◌, ℤ, pos, negsuc, ◌*ℤ◌, int_rem, int_lt, unsigned_abs, Bool, true, false, if◌then◌else◌, to_z, of_z, SFits}
use Rattle.std.proofs.lemmas.Int.{ints, to_z-of_z, fits_signed_from_abs, fits_signed_mul}
use mir.Syntax.{w64}
use lib.Signed.{mag, mag_rem}
use Rattle.cc_base.specs.declared.outcomes.Outcome.TheVariants.{High, Low, Plain}
use Rattle.cc_model.specs.Core as core
use Rattle.cc_model.specs.Core.{Op}
use Rattle.cc_model.specs.Plain.{apply, fitting, fit_of}
use Rattle.sym_run.specs.Numbers.{IsWord}

pub word_bound : (z : ℤ) → IsWord z → unsigned_abs z ≤ 2 ^ 31
word_bound z w = let l = w.0 in let h = w.1 in omega (arith, ints, l, h)

pub word_fits : (z : ℤ) → IsWord z → SFits w64 z
word_fits z w = fits_signed_from_abs w64 z (let b = word_bound z w in omega (arith, b))

product_fits : (x y : ℤ) → IsWord x → IsWord y → SFits w64 (x *ℤ y)
product_fits x y v w = fits_signed_mul w64 x y (2 ^ 31) (2 ^ 31) (word_bound x v) (word_bound y w) (omega arith)

pub product_is : (x y : ℤ) → IsWord x → IsWord y → to_z w64 (of_z w64 (to_z w64 (of_z w64 x) *ℤ to_z w64 (of_z w64 y))) ≡ x *ℤ y
product_is x y v w =
    ap₂ (λ (m n : ℤ). to_z w64 (of_z w64 (m *ℤ n))) (to_z-of_z w64 x (word_fits x v)) (to_z-of_z w64 y (word_fits y w))
    ∙ to_z-of_z w64 (x *ℤ y) (product_fits x y v w)

-- ---- what fits is a number of 32 bits

word_from : (z : ℤ) → int_lt (pos 2147483647) z ≡ false → int_lt z (negsuc 2147483647) ≡ false → IsWord z
word_from z p q = (grind (arith, ints), grind (arith, ints))

plain_if : (b c : Bool) (z : ℤ) → (b ≡ false → c ≡ false → IsWord z) → (if b then High else (if c then Low else Plain)) ≡ Plain → IsWord z
plain_if true c z f e = absurd (cc e)
plain_if false true z f e = absurd (cc e)
plain_if false false z f e = f refl refl

pub fit_plain : (z : ℤ) → fit_of z ≡ Plain → IsWord z
unfolding fit_of
fit_plain z e = plain_if (int_lt (pos 2147483647) z) (int_lt z (negsuc 2147483647)) z (word_from z) e

mag_word : (z : ℤ) → mag z ≤ 2147483647 → IsWord z
mag_word (pos n) h = (omega (arith, ints, h), omega (arith, ints, h))
mag_word (negsuc n) h = (omega (arith, ints, h), omega (arith, ints, h))

word_mag : (z : ℤ) → IsWord z → mag z ≤ 2147483647
word_mag (pos n) w = let h = w.1 in omega (arith, ints, h)
word_mag (negsuc n) w = let h = w.0 in omega (arith, ints, h)

rem_word : (x y : ℤ) → IsWord x → IsWord (int_rem x y)
rem_word x y w = mag_word (int_rem x y) (let m = mag_rem x y in let h = word_mag x w in omega (arith, m, h))

-- the result of an operation that fits
pub fitted_word : (o : Op) (x y : ℤ) → IsWord x → fit_of (fitting o x y) ≡ Plain → IsWord (apply o x y)
unfolding apply fitting
fitted_word core.add x y w e = fit_plain _ e
fitted_word core.sub x y w e = fit_plain _ e
fitted_word core.mul x y w e = fit_plain _ e
fitted_word core.quot x y w e = fit_plain _ e
fitted_word core.rem x y w e = rem_word x y w
