-- Two paths compared from the front.
use Rattle.std.proofs.Common.{take, ◌≡◌, ℕ, zero, suc, ◌+◌, ◌<◌, ◌≤◌, ◌⊎◌, inl, inr, [], ◌∷◌, length, Some, sym, ap, subst, arith, get_or}
use Rattle.cc_base.specs.declared.outcomes.Outcome.{Outcome}
use Rattle.cc_base.specs.Outcomes.{byte_of}
use Rattle.cc_base.specs.Paths.{Path, Before, BeginsWith}
use Rattle.search_base.proofs.PathLaws.{before_irr, before_trans, before_longer, compare_paths, begins_self, byte_tells, order_of}
use Rattle.search_base.proofs.FirstLaws.{first_both, all_same}

heads : (x z : Outcome) (a b : Path) → x ∷ a ≡ z ∷ b → x ≡ z
heads x z a b e = cc e

tails : (x z : Outcome) (a b : Path) → x ∷ a ≡ z ∷ b → a ≡ b
tails x z a b e = cc e

-- a ends where b goes on
pub ends_first : (i : ℕ) (a b : Path) → length a ≤ i → i < length b → take i a ≡ take i b → Before a b
ends_first i a [] h k e = absurd (omega (arith, k))
ends_first i [] (z ∷ b) h k e = tt
ends_first zero (x ∷ a) (z ∷ b) h k e = absurd (omega (arith, h))
ends_first (suc i) (x ∷ a) (z ∷ b) h k e = inr (heads x z _ _ e, ends_first i a b (omega (arith, h)) (omega (arith, k)) (tails x z _ _ e))

-- they differ at i
pub differ_at : (i : ℕ) (a b : Path) (x z : Outcome) → i < length a → i < length b → x ≡ get_or a i x → z ≡ get_or b i z → take i a ≡ take i b → byte_of x < byte_of z → Before a b
differ_at i [] b x z h k e f g l = absurd (omega (arith, h))
differ_at i (c ∷ a) [] x z h k e f g l = absurd (omega (arith, k))
differ_at zero (c ∷ a) (d ∷ b) x z h k e f g l = inl (let p = ap byte_of e in let q = ap byte_of f in omega (arith, p, q, l))
differ_at (suc i) (c ∷ a) (d ∷ b) x z h k e f g l = inr (heads c d _ _ g, differ_at i a b x z (omega (arith, h)) (omega (arith, k)) e f (tails c d _ _ g) l)

pub not_both : (a b : Path) → Before b a → Before a b → ⊥
not_both a b h k = before_irr a (before_trans a b a k h)

-- a begins with b
pub not_before : (n : ℕ) (a b : Path) → n ≡ length b → take n a ≡ take n b → Before a b → ⊥
not_before n a b e g h = let w = all_same n a b e g in before_irr a (subst (λ m. Before a m) (sym w.1) (before_longer a b w.0 h))

pub same_so_far : (i : ℕ) (a b : Path) (x z : Outcome) → i < length a → i < length b → x ≡ get_or a i x → z ≡ get_or b i z → (byte_of x < byte_of z → ⊥) → (byte_of z < byte_of x → ⊥) → take i a ≡ take i b → take (i + 1) a ≡ take (i + 1) b
same_so_far i a b x z h k e f n m g = first_both i a b x z h k e f (elim (order_of (byte_of x) (byte_of z)) [ inl l ↦ absurd (n l) | inr (inl l) ↦ byte_tells x z l | inr (inr l) ↦ absurd (m l) ]) g

-- neither below nor a prefix is above
pub reached_not : (p a : Path) → (Before p a → ⊥) → (b : Path) → Some a ≡ Some b → Before b p ⊎ BeginsWith b p
reached_not p a n b e = elim (compare_paths p b) [
  | inl h ↦ absurd (n (subst (Before p) (sym (same_path a b e)) h))
  | inr (inl h) ↦ inr (subst (BeginsWith b) (sym h) (begins_self b))
  | inr (inr h) ↦ inl h
]
  where
    same_path : (a b : Path) → Some a ≡ Some b → a ≡ b
    same_path a b e = cc e
