-- Numbers and their texts.
use Rattle.std.proofs.Common.{◌≡◌, ◌∙◌, sym, ap, subst, ℕ, suc, ◌+◌, ◌^◌, ◌<◌, ◌≤◌, ℤ, pos, negsuc, ◌≤ℤ◌, List, ◌∷◌, arith, Result, Option, Some}
use Rattle.std.specs.Result.{result_ok}
use Rattle.std.specs.Fmt.{decimal, signed_decimal}
use Rattle.std.specs.Str.{IsUtf8}
use Rattle.std.specs.Str.Parse.{ParsesSigned, ParsesUnsigned}
use Rattle.std.proofs.lemmas.Fmt.{parse-decimal, parse-signed_decimal, IsAscii-decimal, IsAscii-signed}
use Rattle.std.proofs.lemmas.Int.{ints}
use Rattle.std.proofs.lemmas.Str.{IsUtf8-from_ascii}
use mir.Syntax.{w32}
use lib.Signed.{mag}
use Rattle.report_words.specs.Words.{IsNumber, IsSigned}

pub read_number : {E : Type 0} (word : List ℕ) (n : ℕ) (r : Result ℕ E) (o : Option ℕ) → ParsesUnsigned 64 10 word r → o ≡ result_ok r → IsNumber word n → o ≡ Some n
read_number word n r o h was is = was ∙ ap result_ok (parse-decimal 64 n word r is.fits is.fits is.text h)

pub utf8_number : (word : List ℕ) (n : ℕ) → IsNumber word n → IsUtf8 word
utf8_number word n is = subst (λ w. IsUtf8 w) (sym is.text) (IsUtf8-from_ascii (decimal n) (IsAscii-decimal n is.fits))

-- a number of 32 bits
mag_signed : (z : ℤ) → negsuc 2147483647 ≤ℤ z → z ≤ℤ pos 2147483647 → mag z < 2 ^ 31
mag_signed (pos n) l h = omega (arith, ints, h)
mag_signed (negsuc n) l h = omega (arith, ints, l)

pub signed_mag : (word : List ℕ) (z : ℤ) → IsSigned word z → mag z < 2 ^ 31
signed_mag word z is = mag_signed z is.at_least is.at_most

pub read_signed : {E : Type 0} (word : List ℕ) (z : ℤ) (r : Result ℤ E) (o : Option ℤ) → ParsesSigned w32 10 word r → o ≡ result_ok r → IsSigned word z → o ≡ Some z
read_signed word z r o h was is =
    let m = signed_mag word z is in
    was ∙ ap result_ok (parse-signed_decimal w32 z word r (record { sfits = m }) (omega (arith, m)) is.text h)

pub utf8_signed : (word : List ℕ) (z : ℤ) → IsSigned word z → IsUtf8 word
utf8_signed word z is = let m = signed_mag word z is in subst (λ w. IsUtf8 w) (sym is.text) (IsUtf8-from_ascii (signed_decimal z) (IsAscii-signed z (omega (arith, m))))
