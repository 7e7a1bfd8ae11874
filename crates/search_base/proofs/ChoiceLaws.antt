-- The outcomes of an event.
use Rattle.std.proofs.Common.{◌≡◌, ℕ, zero, suc, ◌<◌, ◌⊎◌, ◌↔◌, inl, inr, List, [], ◌∷◌, Some, slice_get, sym, subst, arith, insert}
use Rattle.cc_base.specs.declared.outcomes.Outcome.{Outcome}
use Rattle.cc_base.specs.Outcomes.{byte_of}
use Rattle.cc_base.specs.Paths.{In, Ascend}
use Rattle.search_base.specs.Inserting.{IsPlace}
use Rattle.search_base.proofs.InsertLaws.{ascends, in_inserted}
use Rattle.search_base.proofs.PathLaws.{order_of, byte_tells}

-- ---- the own outcome among the others

module _ (os : List Outcome) (own : Outcome) (n : ℕ) (place : IsPlace (λ x. byte_of x < byte_of own) os n) where
  got : (l : List Outcome) (k : ℕ) (a : Outcome) → slice_get l k ≡ Some a → In a l
  got [] k a e = absurd (cc e)
  got (x ∷ l) zero a e = inl (cc e)
  got (x ∷ l) (suc k) a e = inr (got l k a e)

  pub choices_ascend : Ascend os → (In own os → ⊥) → Ascend (insert os n own)
  choices_ascend h other = ascends Outcome (λ o p. byte_of o < byte_of p) own (λ x z g k. omega (arith, g, k)) os n h place.before above
    where
      above : (x : Outcome) → slice_get os n ≡ Some x → byte_of own < byte_of x
      above x e = by (order_of (byte_of own) (byte_of x))
        where
          by : (byte_of own < byte_of x) ⊎ ((byte_of own ≡ byte_of x) ⊎ (byte_of x < byte_of own)) → byte_of own < byte_of x
          by (inl k) = k
          by (inr (inl k)) = absurd (other (subst (λ z. In z os) (sym (byte_tells own x k)) (got os n x e)))
          by (inr (inr k)) = absurd (place.next x e k)

  pub choices_all : (o : Outcome) → In o (insert os n own) ↔ ((o ≡ own) ⊎ In o os)
  choices_all o = (
    (λ i. elim ((in_inserted os n own o).0 i) [ inl j ↦ inr j | inr e ↦ inl e ]),
    (λ i. elim i [ inl e ↦ (in_inserted os n own o).1 (inr e) | inr j ↦ (in_inserted os n own o).1 (inl j) ]),
  )
