-- One more number of a text of numbers.
use Rattle.std.proofs.Common.{◌≡◌, ℕ, zero, suc, ◌+◌, ◌<◌, ℤ, List, [], ◌∷◌, ◌++◌, length, take, get_or, codes, refl, sym, ap, ◌∙◌, arith, append_assoc}
use Rattle.std.proofs.lemmas.List.{take_more}
use Rattle.std.specs.Fmt.{signed_decimal}
use Rattle.cc_base.specs.Inputs.{numbers_text}
use Rattle.input_map.specs.Commas.{comma_before}

behind_one : (y : ℤ) (zs : List ℤ) (z : ℤ) → numbers_text ((y ∷ zs) ++ z ∷ []) ≡ (numbers_text (y ∷ zs) ++ codes ",") ++ signed_decimal z
behind_one y [] z = refl
behind_one y (x ∷ zs) z = ap (λ t. (signed_decimal y ++ codes ",") ++ t) (behind_one x zs z)
    ∙ sym (append_assoc (signed_decimal y ++ codes ",") (numbers_text (x ∷ zs) ++ codes ",") (signed_decimal z))
    ∙ ap (λ t. t ++ signed_decimal z) (sym (append_assoc (signed_decimal y ++ codes ",") (numbers_text (x ∷ zs)) (codes ",")))

behind : (l : List ℤ) (i : ℕ) (z : ℤ) → i < length l → numbers_text (take i l ++ z ∷ []) ≡ (numbers_text (take i l) ++ comma_before i) ++ signed_decimal z
behind l zero z h = refl
behind [] (suc i) z h = absurd (omega (arith, h))
behind (y ∷ l) (suc i) z h = behind_one y (take i l) z

-- with one more number of the list
pub one_more : (old now before : List ℕ) (l : List ℤ) (i : ℕ) (z d : ℤ) → i < length l → z ≡ get_or l i d → before ≡ old ++ numbers_text (take i l)
    → now ≡ (before ++ comma_before i) ++ signed_decimal z → now ≡ old ++ numbers_text (take (i + 1) l)
one_more old now before l i z d h e f g = g ∙ ap (λ t. (t ++ comma_before i) ++ signed_decimal z) f
    ∙ ap (λ t. t ++ signed_decimal z) (append_assoc old (numbers_text (take i l)) (comma_before i))
    ∙ append_assoc old (numbers_text (take i l) ++ comma_before i) (signed_decimal z)
    ∙ ap (λ t. old ++ t) (sym (ap numbers_text (take_more l i d h ∙ ap (λ y. take i l ++ y ∷ []) (sym e)) ∙ behind l i z h))
