-- Two outcomes are the same or not.
use Rattle.std.proofs.Common.{◌≡◌, ◌≢◌, ℕ, zero, suc, ◌⊎◌, inl, inr, refl, sym, ap, ◌∙◌}
use Rattle.cc_base.specs.declared.outcomes.Outcome.{Outcome}
use Rattle.cc_base.specs.declared.outcomes.Outcome.TheVariants.{Zero, High, Low, Plain, False, True, Object}
use native.Mathlib.Decide.{ℕ_discrete}

code : Outcome → ℕ
code Zero = 0
code High = 1
code Low = 2
code Plain = 3
code False = 4
code True = 5
code (Object n) = suc (suc (suc (suc (suc (suc n)))))

decode : ℕ → Outcome
decode zero = Zero
decode (suc zero) = High
decode (suc (suc zero)) = Low
decode (suc (suc (suc zero))) = Plain
decode (suc (suc (suc (suc zero)))) = False
decode (suc (suc (suc (suc (suc zero))))) = True
decode (suc (suc (suc (suc (suc (suc n)))))) = Object n

decodes : (o : Outcome) → decode (code o) ≡ o
unfolding code decode
decodes Zero = refl
decodes High = refl
decodes Low = refl
decodes Plain = refl
decodes False = refl
decodes True = refl
decodes (Object n) = refl

pub same_or_not : (o p : Outcome) → (o ≡ p) ⊎ (o ≢ p)
same_or_not o p = elim (ℕ_discrete (code o) (code p)) [
  | yes e ↦ inl (sym (decodes o) ∙ ap decode e ∙ decodes p)
  | no n ↦ inr (λ e. n (ap code e))
]
