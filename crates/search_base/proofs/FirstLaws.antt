-- Two paths compared from the front.
use Rattle.std.proofs.Common.{take, ◌≡◌, ℕ, zero, suc, ◌+◌, ◌<◌, [], ◌∷◌, ◌++◌, length, refl, sym, ap, ap₂, ◌∙◌, subst, arith, get_or}
use Rattle.cc_base.specs.declared.outcomes.Outcome.{Outcome}
use Rattle.cc_base.specs.Paths.{Path, BeginsWith}
use Rattle.search_base.proofs.PathLaws.{length_begins}

pub begins_first : (k : ℕ) (l : Path) → BeginsWith l (take k l)
begins_first zero l = (l, refl)
begins_first (suc k) [] = ([], refl)
begins_first (suc k) (o ∷ l) = let h = begins_first k l in (h.0, ap (λ m. o ∷ m) h.1)

pub first_whole : (k : ℕ) (l : Path) → k ≡ length l → l ≡ take k l
first_whole zero [] h = refl
first_whole zero (o ∷ l) h = absurd (omega (arith, h))
first_whole (suc k) [] h = refl
first_whole (suc k) (o ∷ l) h = ap (λ m. o ∷ m) (first_whole k l (omega (arith, h)))

first_more : (i : ℕ) (l : Path) (o : Outcome) → i < length l → o ≡ get_or l i o → take (suc i) l ≡ take i l ++ (o ∷ [])
first_more i [] o h e = absurd (omega (arith, h))
first_more zero (a ∷ l) o h e = ap (λ x. x ∷ []) (sym e)
first_more (suc i) (a ∷ l) o h e = ap (λ m. a ∷ m) (first_more i l o (omega (arith, h)) e)

pub first_both : (i : ℕ) (a b : Path) (x z : Outcome) → i < length a → i < length b → x ≡ get_or a i x → z ≡ get_or b i z → x ≡ z → take i a ≡ take i b → take (i + 1) a ≡ take (i + 1) b
first_both i a b x z h k e f g m =
    let s : i + 1 ≡ suc i = omega arith in
    let r : take (suc i) a ≡ take (suc i) b = first_more i a x h e ∙ ap₂ (λ l o. l ++ (o ∷ [])) m g ∙ sym (first_more i b z k f) in
    ap (λ n. take n a) s ∙ r ∙ sym (ap (λ n. take n b) s)

pub part_at : (i : ℕ) (a b : Path) (x z : Outcome) → i < length b → x ≡ get_or a i x → z ≡ get_or b i z → (x ≡ z → ⊥) → BeginsWith a b → ⊥
part_at i a b x z h e f n w = n (e ∙ ap (λ l. get_or l i x) w.1 ∙ at i b w.0 h x z f)
  where
    at : (i : ℕ) (b r : Path) → i < length b → (x z : Outcome) → z ≡ get_or b i z → get_or (b ++ r) i x ≡ z
    at i [] r h x z f = absurd (omega (arith, h))
    at zero (c ∷ b) r h x z f = sym f
    at (suc i) (c ∷ b) r h x z f = at i b r (omega (arith, h)) x z f

pub too_short : (a b : Path) → length a < length b → BeginsWith a b → ⊥
too_short a b h w = let k = length_begins a b w in omega (arith, h, k)

pub all_same : (n : ℕ) (a b : Path) → n ≡ length b → take n a ≡ take n b → BeginsWith a b
all_same n a b e m = subst (λ w. BeginsWith a w) (m ∙ sym (first_whole n b e)) (begins_first n a)

-- an element that is there, whatever stands for those that aren't
pub any_default : (l : Path) (i : ℕ) (d e : Outcome) → i < length l → get_or l i d ≡ get_or l i e
any_default [] i d e h = absurd (omega (arith, h))
any_default (x ∷ l) zero d e h = refl
any_default (x ∷ l) (suc i) d e h = any_default l i d e (omega (arith, h))
