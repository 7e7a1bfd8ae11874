-- A word is a number in a range exactly where it is read as one in it whose text it is.
use Rattle.std.proofs.Common.{◌≡◌, ℕ, ◌^◌, ◌<◌, ℤ, pos, negsuc, ◌≤ℤ◌, List, arith, sym, ◌∙◌, ap, Result, Option, Some}
use Rattle.std.specs.Result.{result_ok}
use Rattle.std.specs.Fmt.{decimal, signed_decimal}
use Rattle.std.specs.Str.Parse.{ParsesSigned, ParsesUnsigned}
use Rattle.std.proofs.lemmas.Fmt.{parse-decimal, parse-signed_decimal, decimal_injective, signed_decimal_injective}
use Rattle.std.proofs.lemmas.Int.{ints}
use mir.Syntax.{w32}
use mir.Val.{SFits}
use lib.Signed.{mag}
use Rattle.command_words.specs.Words.{IsNumber, IsWide}

-- a number between numbers of 32 bits
pub mag_between : (low high z : ℤ) → mag low < 2 ^ 31 → mag high < 2 ^ 31 → low ≤ℤ z → z ≤ℤ high → mag z < 2 ^ 31
mag_between low (pos n) (pos z) a b l h = omega (arith, ints, b, h)
mag_between low (negsuc n) (pos z) a b l h = absurd (omega (arith, ints, h))
mag_between (pos n) high (negsuc z) a b l h = absurd (omega (arith, ints, l))
mag_between (negsuc n) high (negsuc z) a b l h = omega (arith, ints, a, l)

-- the word of a number in the range is read as the number
pub read_number : {E : Type 0} (word : List ℕ) (low high z : ℤ) (r : Result ℤ E) (o : Option ℤ) → ParsesSigned w32 10 word r → o ≡ result_ok r
    → SFits w32 low → SFits w32 high → IsNumber word low high z → o ≡ Some z
read_number word low high z r o h was a b is =
    let m : mag z < 2 ^ 31 = mag_between low high z a.sfits b.sfits is.at_least is.at_most in
    was ∙ ap result_ok (parse-signed_decimal w32 z word r (record { sfits = m }) (omega (arith, m)) is.text h)

-- numbers of 32 bits with one text are one
pub text_once : (y z : ℤ) → mag y < 2 ^ 31 → mag z < 2 ^ 31 → signed_decimal y ≡ signed_decimal z → y ≡ z
text_once y z a b e = signed_decimal_injective y z (omega (arith, a)) (omega (arith, b)) e

pub one_number : (word : List ℕ) (low high y z : ℤ) → mag low < 2 ^ 31 → mag high < 2 ^ 31 → IsNumber word low high y → IsNumber word low high z → y ≡ z
one_number word low high y z a b p q =
    text_once y z (mag_between low high y a b p.at_least p.at_most) (mag_between low high z a b q.at_least q.at_most) (sym p.text ∙ q.text)

-- the word of a number of 64 bits is read as the number
pub read_wide : {E : Type 0} (word : List ℕ) (n : ℕ) (r : Result ℕ E) (o : Option ℕ) → ParsesUnsigned 64 10 word r → o ≡ result_ok r → IsWide word n → o ≡ Some n
read_wide word n r o h was is = was ∙ ap result_ok (parse-decimal 64 n word r is.fits is.fits is.text h)

pub wide_once : (m n : ℕ) → m < 2 ^ 64 → n < 2 ^ 64 → decimal m ≡ decimal n → m ≡ n
wide_once m n a b e = decimal_injective m n a b e
