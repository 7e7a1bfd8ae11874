-- What comes of an alternative of a run.
use Rattle.std.proofs.Common.{◌≡◌, ℕ, zero, suc, ◌<◌, ◌^◌, List, [], ◌∷◌, length, take, Option, Some, None, All, slice_get, refl, sym, ap, ◌∙◌, subst, arith}
use Rattle.std.proofs.lemmas.List.Elements.{All-nil, All-cons, All-append, All-take}
use Rattle.cc_base.specs.declared.inputs.Input.{Input}
use Rattle.cc_base.specs.declared.outcomes.Outcome.{Outcome}
use Rattle.cc_base.specs.Outcomes.{HasByte}
use Rattle.cc_base.specs.Paths.{Path, In, next}
use Rattle.cc_laws.specs.LinearForms.{linear}
use Rattle.cc_model.specs.CheckedProgram.{core_of}
use Rattle.cc_model.specs.Conditions.{AnswersAt}
use Rattle.cc_model.specs.Listing.{spent_item}
use Rattle.cc_model.specs.Report.{item_line}
use Rattle.cc_outside.specs.Told.{appended, WritesPart}
use Rattle.flip_solve.specs.declared.flipping.Turned.{Turned}
use Rattle.flip_solve.specs.declared.flipping.Turned.TheVariants as turn
use Rattle.flip_solve.specs.Settling.{answer_of}
use Rattle.flip_solve.specs.Turning.{turned_at, IsTurnedIf}
use Rattle.sym_run.specs.declared.trace.Event.{Event}
use Rattle.sym_run.specs.declared.trace.Trace.{Trace}
use Rattle.sym_run.specs.Traces.{outcome_at, others_at}
use Rattle.search_walks.specs.declared.log.Log.{Log}
use Rattle.search_walks.specs.declared.log.Tried.{Tried}
use Rattle.search_walks.specs.Made.{RunOf}
use Rattle.std.proofs.lemmas.List.{length-map}
use Rattle.search_base.specs.Setting.{Setting, layer_of}
use Rattle.search_walks.specs.Steps.{Followed, FollowedSome, TriedOne, no_input, past_budget, was_run, TriedSome, some_of_spent, some_of_run}
use Rattle.search_walks.specs.Walks.{Gives, IsNever, IsSpent, prediction}

-- what a solve answered, in the words of the walks
abbrev pub Came : Setting → Input → Path → Turned → Type 0
Came s u q turn.Never = IsNever s u q
Came s u q turn.Spent = IsSpent s u q
Came s u q (turn.Turned i) = Gives s u q i

came_at : (s : Setting) (u : Input) (k : ℕ) (o : Outcome) (v : Turned) → AnswersAt linear (core_of s.checked) s.limits s.budget u (turned_at (core_of s.checked) s.limits u k o) (answer_of v)
    → IsTurnedIf (core_of s.checked) s.limits u k o v → Came s u (prediction s u (k, o)) v
unfolding layer_of
came_at s u k o turn.Never h g = h
came_at s u k o turn.Spent h g = h
came_at s u k o (turn.Turned i) h g = record { answer = h; within = g.input; meets = g.meets }

some_at : (l : List Event) (k : ℕ) → k < length l → (e : Event) × (slice_get l k ≡ Some e)
some_at [] k h = absurd (omega (arith, h))
some_at (x ∷ l) zero h = (x, refl)
some_at (x ∷ l) (suc k) h = some_at l k (omega (arith, h))

module _ (s : Setting) (t : Trace) (p : Path) (run : RunOf s t p) (k : ℕ) (o : Outcome) where
  pub came : (v w : Turned) → w ≡ v → AnswersAt linear (core_of s.checked) s.limits s.budget t.input (turned_at (core_of s.checked) s.limits t.input k o) (answer_of w)
      → IsTurnedIf (core_of s.checked) s.limits t.input k o w → Came s t.input (prediction s t.input (k, o)) v
  came v w e h g = subst (Came s t.input (prediction s t.input (k, o))) e (came_at s t.input k o w h g)

  pub came_few : (i : Input) (w : Turned) → w ≡ turn.Turned i → IsTurnedIf (core_of s.checked) s.limits t.input k o w → length i.cells < 10 ^ 18
  came_few i w e g = (subst (IsTurnedIf (core_of s.checked) s.limits t.input k o) e g).few

  pub is_prediction : (w : Path) → w ≡ next (take k p) o → w ≡ prediction s t.input (k, o)
  is_prediction w e = e ∙ ap (λ (q : Path). next (take k q) o) run.path

  module _ (h : k < length p) (i : In o ((layer_of s).others t.input k)) where
    pub is_offered : (e : Event) × (slice_get t.events k ≡ Some e) × In o (others_at e)
    is_offered = let m = length-map t.events outcome_at in let n = ap length run.outcomes in let e = some_at t.events k (omega (arith, h, m, n)) in
        (e.0, e.1, subst (In o) (sym (run.others k e.0 e.1)) i)

    pub prefix_bytes : (w : Path) → w ≡ next (take k p) o → All HasByte w
    prefix_bytes w f = let e = is_offered in
        subst (All HasByte) (sym f) (All-append HasByte (take k p) (o ∷ []) (All-take HasByte k p run.bytes) (All-cons HasByte o [] ((run.few k e.0 e.1).bytes o e.2) (All-nil HasByte)))

  module _ (w : Path) (e : w ≡ next (take k p) o) (old new : Option (List ℕ)) where
    pub tried_never : (l m : Log) → IsNever s t.input (prediction s t.input (k, o)) → new ≡ old → m ≡ l → TriedOne s t.input (k, o) old new l m None
    tried_never l m n f g = no_input n f g

    pub tried_spent : (bytes wrote : List ℕ) (l m : Log) → IsSpent s t.input (prediction s t.input (k, o)) → All HasByte w → bytes ≡ item_line (spent_item w) → wrote ≡ bytes → new ≡ appended old wrote → m ≡ l → TriedOne s t.input (k, o) old new l m None
    tried_spent bytes wrote l m n b f g v q = past_budget n (subst (All HasByte) (is_prediction w e) b) (v ∙ ap (appended old) (g ∙ f ∙ ap (λ z. item_line (spent_item z)) (is_prediction w e))) q

    pub spent_some : (bytes wrote : List ℕ) → IsSpent s t.input (prediction s t.input (k, o)) → bytes ≡ item_line (spent_item w) → wrote ≡ bytes → WritesPart old new wrote → TriedSome s t.input (k, o) old new
    spent_some bytes wrote n f g v = some_of_spent n (subst (WritesPart old new) (g ∙ f ∙ ap (λ z. item_line (spent_item z)) (is_prediction w e)) v)

    pub tried_run : (i : Input) (l m : Log) (x : Tried) → Gives s t.input (prediction s t.input (k, o)) i → Followed s i w old new l m x → TriedOne s t.input (k, o) old new l m (Some x)
    tried_run i l m x g f = was_run i x g (subst (λ z. Followed s i z old new l m x) (is_prediction w e) f)

    pub run_some : (i : Input) → Gives s t.input (prediction s t.input (k, o)) i → FollowedSome s i w old new → TriedSome s t.input (k, o) old new
    run_some i g f = some_of_run i g (subst (λ z. FollowedSome s i z old new) (is_prediction w e) f)
