-- What follows of a lawful run: its input meets what each of its events takes, and blocks of one type stand at different addresses.
use Rattle.std.proofs.Common.{◌≡◌, ◌≢◌, ℕ, ℤ, Option, zero, suc, inl, inr, List, [], ◌∷◌, ◌++◌, Some, slice_get, append-nil, append_assoc, sym, ap, subst, ◌∙◌}
use Rattle.std.proofs.lemmas.Option.{same_Some}
use Rattle.cc_base.specs.declared.inputs.Input.{Input}
use Rattle.cc_base.specs.Forms.{Atom}
use Rattle.cc_base.specs.Holds.{Holds, Meets, or_zero}
use Rattle.cc_base.specs.Limits.{Limits}
use Rattle.cc_base.specs.Paths.{In}
use Rattle.cc_base.specs.Places.{Placed}
use Rattle.cc_model.specs.Conditions.{taken, condition, events_of, places_of, values_at}
use Rattle.cc_model.specs.Core.{Program}
use Rattle.cc_model.specs.Meaning.{Entry}
use Rattle.cc_model.specs.Traced.{Event}
use Rattle.sym_expr.proofs.AtomLaws.{Meets-back}
use Rattle.cc_laws.specs.LinearForms.{linear}
use Rattle.run_laws.specs.Lawful.{Lawful, HasCell}

-- the condition of one event more
next_condition : (l : List (Entry Event)) (k : ℕ) (a : Entry Event) → slice_get l k ≡ Some a → condition (suc k) l ≡ condition k l ++ taken a.event
unfolding condition
next_condition [] k a e = absurd (cc e)
next_condition (x ∷ l) zero a e = append-nil (taken x.event) ∙ ap (λ (z : Entry Event). taken z.event) (same_Some x a e)
next_condition (x ∷ l) (suc k) a e = ap (λ m. taken x.event ++ m) (next_condition l k a e) ∙ sym (append_assoc (taken x.event) (condition k l) (taken a.event))

holds_in : (value : ℕ → Option ℤ) (m : List Atom) (a : Atom) → Meets value m → In a m → Holds value a
holds_in value [] a h i = absurd i
holds_in value (x ∷ m) a h (inl e) = subst (Holds value) (sym e) h.0
holds_in value (x ∷ m) a h (inr i) = holds_in value m a h.1 i

module _ (p : Program) (b : Limits) (u : Input) (law : Lawful p b u) where
  pub taken_holds : (k : ℕ) (a : Entry Event) → slice_get (events_of linear p b u) k ≡ Some a → Meets (values_at linear p b u u) (taken a.event)
  taken_holds k a e = Meets-back (values_at linear p b u u) (condition k (events_of linear p b u)) (taken a.event) (subst (Meets (values_at linear p b u u)) (next_condition (events_of linear p b u) k a e) (law.own (suc k)))

  pub blocks_differ : (k : ℕ) (a : Entry Event) → slice_get (events_of linear p b u) k ≡ Some a → (q r : ℕ) (w x : Placed) → HasCell p b u (a.event).places q → HasCell p b u (a.event).places r → q ≢ r
      → slice_get (places_of linear p b u) q ≡ Some w → slice_get (places_of linear p b u) r ≡ Some x → w.holds ≡ x.holds → or_zero (values_at linear p b u u) q ≢ or_zero (values_at linear p b u u) r
  blocks_differ k a e q r w x hq hr ne gq gr same = elim (law.apart k a e q r w x hq hr ne gq gr same) [
    | inl i ↦ (holds_in (values_at linear p b u u) _ _ (law.own k) i).compares
    | inr i ↦ λ z. (holds_in (values_at linear p b u u) _ _ (law.own k) i).compares (sym z)
  ]
