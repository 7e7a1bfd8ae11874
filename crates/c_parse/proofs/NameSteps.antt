-- Parameters get their names one by one.
use Rattle.std.proofs.Common.{◌≡◌, ℕ, suc, ◌≤◌, ◌<◌, ◌⊎◌, inl, inr, List, [], ◌∷◌, ◌++◌, drop, drop-cons, get_or, length, slice_get, Some, None, ap, ◌∙◌, arith}
use Rattle.std.proofs.lemmas.List.{append-nil}
use Rattle.std.proofs.lemmas.Option.{slice_get_within, get_or_from_slice_get, slice_get_cases}
use Rattle.std.proofs.Math.ListN.{drop_of_length-le}
use Rattle.cc_model.specs.declared.trees.Param.{Param}
use Rattle.cc_model.specs.declared.trees.ProtoParam.{ProtoParam}
use Rattle.c_parse.specs.DescentItems.{add_named, with_names}
use Rattle.c_parse.proofs.ItemSteps.{joined, joined_on, joined_none}

drop_at : (l : List ProtoParam) (i : ℕ) (p : ProtoParam) → slice_get l i ≡ Some p → drop i l ≡ p ∷ drop (suc i) l
drop_at l i p e = drop-cons l i p (slice_get_within l i p e) ∙ ap (λ x. x ∷ drop (suc i) l) (get_or_from_slice_get l i p p e)

drop_end : (l : List ProtoParam) (i : ℕ) → slice_get l i ≡ None → drop i l ≡ []
drop_end l i e = go (slice_get_cases l i).1
  where
    go : ((x : ProtoParam) × (i < length l) × (slice_get l i ≡ Some x) × (get_or l i x ≡ x)) ⊎ ((length l ≤ i) × (slice_get l i ≡ None)) → drop i l ≡ []
    go (inl h) = absurd (cc (h.2, e))
    go (inr h) = drop_of_length-le l h.0

pub named_step : (l : List ProtoParam) (i : ℕ) (p : ProtoParam) (q : List Param) (n : ℕ) → slice_get l i ≡ Some p → p.name ≡ Some n →
    joined q (with_names (drop i l)) ≡ joined (q ++ record { ty = p.ty; name = n } ∷ []) (with_names (drop (suc i) l))
unfolding with_names
named_step l i p q n e h = ap (λ x. joined q (with_names x)) (drop_at l i p e) ∙ (ap (λ o. joined q (add_named p.ty o (with_names (drop (suc i) l)))) h ∙ joined_on q p.ty n (with_names (drop (suc i) l)))

pub named_none : (l : List ProtoParam) (i : ℕ) (p : ProtoParam) (q : List Param) → slice_get l i ≡ Some p → p.name ≡ None → joined q (with_names (drop i l)) ≡ None
unfolding with_names
named_none l i p q e h = ap (λ x. joined q (with_names x)) (drop_at l i p e) ∙ (ap (λ o. joined q (add_named p.ty o (with_names (drop (suc i) l)))) h ∙ joined_none q p.ty (with_names (drop (suc i) l)))

pub named_end : (l : List ProtoParam) (i : ℕ) (q : List Param) → slice_get l i ≡ None → joined q (with_names (drop i l)) ≡ Some q
unfolding with_names
named_end l i q e = ap (λ x. joined q (with_names x)) (drop_end l i e) ∙ ap (λ x. Some x) (append-nil q)

pub never_past : (l : List ProtoParam) (i : ℕ) → i < length l → slice_get l i ≡ None → ⊥
never_past l i h e = go (slice_get_cases l i).1
  where
    go : ((x : ProtoParam) × (i < length l) × (slice_get l i ≡ Some x) × (get_or l i x ≡ x)) ⊎ ((length l ≤ i) × (slice_get l i ≡ None)) → ⊥
    go (inl k) = absurd (cc (k.2, e))
    go (inr k) = absurd (omega (arith, k.0, h))

pub named_past : (l : List ProtoParam) (i : ℕ) (q : List Param) → length l ≤ i → joined q (with_names (drop i l)) ≡ Some q
unfolding with_names
named_past l i q h = ap (λ x. joined q (with_names x)) (drop_of_length-le l h) ∙ ap (λ x. Some x) (append-nil q)
