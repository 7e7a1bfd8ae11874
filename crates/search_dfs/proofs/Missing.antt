-- What a listing may have missed, from the laws of the search.
use Rattle.std.proofs.Common.{◌≡◌, ℕ, ◌+◌, ◌-◌, ◌≤◌, ℤ, inl, inr, List, [], ◌∷◌, length, Option, Some, None, refl, sym, subst, ◌∙◌, arith}
use Rattle.cc_base.specs.declared.ends.End.{End}
use Rattle.cc_base.specs.declared.ends.End.TheVariants.{Return, Assume, Cut, Objects, Steps, Fault}
use Rattle.cc_base.specs.declared.inputs.Input.{Input}
use Rattle.cc_base.specs.declared.outcomes.Outcome.{Outcome}
use Rattle.cc_base.specs.Forms.{Atom}
use Rattle.cc_base.specs.Groups.{groups}
use Rattle.cc_base.specs.Limits.{Limits}
use Rattle.cc_base.specs.Need.{need}
use Rattle.cc_base.specs.Paths.{Path, In, Before, next}
use Rattle.cc_base.specs.Slice.{slice_of}
use Rattle.cc_base.specs.Solve.{SomeBeyond}
use Rattle.cc_model.specs.declared.checked.Checked.{Checked}
use Rattle.cc_model.specs.declared.terms.TermKind.{TermKind}
use Rattle.cc_model.specs.CheckedProgram.{core_of}
use Rattle.cc_model.specs.Conditions.{condition, last_atoms, terms, events_of}
use Rattle.cc_model.specs.Listing.{Listing, at_steps, tests, Sound, Licensed, Covered, IsComplete, Enumerates}
use Rattle.cc_model.specs.Meaning.{Entry}
use Rattle.cc_model.specs.Runs.{IsInput, path_at, end_at}
use Rattle.cc_model.specs.Tested.{Layer, Term, Offers, tested}
use Rattle.cc_model.specs.Traced.{Asked, asks_nothing, one_of, term, Event}
use Rattle.cc_laws.specs.LinearForms.{linear}
use Rattle.search_base.specs.Setting.{Setting, layer_of}
use Rattle.search_base.proofs.PathLaws.{length_next}
use Rattle.search_dfs.specs.Laws.{Laws}
use Rattle.search_dfs.specs.Missed.{HoldsPaths, IsEasy, MissesNoMore, room, searched}
use Rattle.search_dfs.proofs.Counting as count
use Rattle.search_dfs.proofs.Enumerating as enumerating

-- ---- an easy program

terms_step : (q : Asked) (f : TermKind → Term) (l : List Term) → ((k : TermKind) → q ≡ term k → ⊥) → elim q [ term k ↦ f k ∷ l | _ ↦ l ] ≡ l
terms_step asks_nothing f l h = refl
terms_step (one_of cs) f l h = refl
terms_step (term k) f l h = absurd (h k refl)

no_terms : (line column : ℕ → ℕ) (l : List (Entry Event)) → ((a : Entry Event) → In a l → (k : TermKind) → (a.event).asked ≡ term k → ⊥) → terms line column l ≡ []
unfolding terms
no_terms line column [] h = refl
no_terms line column (a ∷ l) h =
    terms_step (a.event).asked (λ k. record { line = line a.token; col = column a.token; kind = k }) (terms line column l) (h a (inl refl)) ∙ no_terms line column l (λ b i. h b (inr i))

not_steps : (e : End) → (e ≡ Steps → ⊥) → at_steps e ≡ 0
not_steps Return h = refl
not_steps Assume h = refl
not_steps Cut h = refl
not_steps Objects h = refl
not_steps Steps h = absurd (h refl)
not_steps (Fault k l) h = refl

none_beyond : (lo hi : ℤ) (budget : ℕ) (gs : List (List Atom)) → ((g : List Atom) → In g gs → need lo hi g ≤ budget) → SomeBeyond lo hi budget gs → ⊥
none_beyond lo hi budget [] h b = b
none_beyond lo hi budget (g ∷ gs) h (inl b) = let k = h g (inl refl) in omega (arith, k, b)
none_beyond lo hi budget (g ∷ gs) h (inr b) = none_beyond lo hi budget gs (λ k i. h k (inr i)) b

module _ (c : Checked) (b : Limits) (budget : ℕ) where
  abbrev y : Layer
  y = searched c.sites (core_of c) b budget

  beyond : (e : IsEasy (core_of c) b budget) (u : Input) (q : Path) (o : Outcome) (n : ℕ) → n ≡ length q → IsInput (core_of c) b u → Offers y u q o →
      SomeBeyond b.lo b.hi budget (groups (slice_of (condition n (events_of linear (core_of c) b u)) (last_atoms (next q o) (events_of linear (core_of c) b u)))) → ⊥
  beyond e u q o n same wu off h =
      none_beyond b.lo b.hi budget _ (e.enough u q o wu off)
      (subst (λ k. SomeBeyond b.lo b.hi budget (groups (slice_of (condition k (events_of linear (core_of c) b u)) (last_atoms (next q o) (events_of linear (core_of c) b u))))) same h)

  module _ (laws : Laws y) where
    easy : IsEasy (core_of c) b budget → count.Easy y laws
    easy e = record {
      no_term = λ h w. no_terms (core_of c).line _ (events_of linear (core_of c) b h) (e.no_term h w);
      no_steps = λ h w. not_steps (end_at (core_of c) b h) (e.no_steps h w);
      no_spent = λ u q o wu off s. beyond e u q o (length (next q o) - 1) (let k = length_next q o in omega (arith, k)) wu off s.1;
    }

    module _ (runs : ℕ) (after : Option Path) (l : Listing) (s : Sound after (tested (core_of c) b) l.items) (d : Licensed after y runs l) (v : Covered after y l.items) where
      some_same : (a x : Path) → Some a ≡ Some x → a ≡ x
      some_same a x e = cc e

      completes : (w : Option Path) → after ≡ w → IsEasy (core_of c) b budget → (paths : List Path) → HoldsPaths (core_of c) b w paths → length paths + room w ≤ runs → IsComplete l
      completes None same e paths h few =
          count.complete y laws after runs l s d v (easy e) paths (λ i w t. h i w (λ a f. absurd (cc f))) (omega (arith, few))
      completes (Some a) same e paths h few =
          count.complete_after y laws after runs l s d v (easy e) a same paths (λ i w above. h i w (λ x f. subst (λ p. Before p (path_at (core_of c) b i)) (some_same a x f) above)) (omega (arith, few))

      misses : l.terms ≡ [] → MissesNoMore (core_of c) b after l
      misses none = record {
        no_stray = enumerating.no_strays y laws after runs l s d v none;
        enumerates_but = enumerating.enumerates_but y laws after runs l s d v none;
        few = λ paths h. count.at_most_paths y laws after runs l s d v none paths (λ i w t. h i w (λ a f. absurd (cc f)));
      }

-- with the layer as the search has it
module _ (p : Setting) (laws : Laws (layer_of p)) (runs : ℕ) (after : Option Path) (l : Listing)
    (s : Sound after ((layer_of p).runs) l.items) (d : Licensed after (layer_of p) runs l) (v : Covered after (layer_of p) l.items) where
  pub misses_no_more : l.terms ≡ [] → MissesNoMore (core_of p.checked) p.limits after l
  unfolding layer_of
  misses_no_more = misses p.checked p.limits p.budget laws runs after l s d v

  pub all_paths : IsComplete l → Enumerates after (tested (core_of p.checked) p.limits) (tests l.items)
  unfolding layer_of
  all_paths = enumerating.enumerates (layer_of p) laws after runs l s d v

  pub nothing_left : IsEasy (core_of p.checked) p.limits p.budget → (paths : List Path) → HoldsPaths (core_of p.checked) p.limits after paths →
      length paths + room after ≤ runs → IsComplete l
  unfolding layer_of
  nothing_left e paths h few = completes p.checked p.limits p.budget laws runs after l s d v after refl e paths h few
