-- What is drawn at an event of a run.
use Rattle.std.proofs.Common.{◌≡◌, ℕ, zero, suc, ◌<◌, ◌≤◌, ◌⊎◌, ◌↔◌, inl, inr, List, [], ◌∷◌, Some, None, length, map, get_or, slice_get, refl, sym, ap, ◌∙◌, subst, arith}
use Rattle.cc_base.specs.declared.outcomes.Outcome.{Outcome}
use Rattle.cc_base.specs.Paths.{In, Ascend}
use Rattle.rand_pcg.specs.Lcg.{Lcg}
use Rattle.sym_run.specs.declared.trace.Choice.{Choice}
use Rattle.sym_run.specs.declared.trace.Event.{Event}
use Rattle.sym_run.specs.Traces.{outcome_at, others_at}
use Rattle.search_walks.specs.declared.runs.Made.{Made}
use Rattle.search_walks.specs.Draws.{draw, after_draw}
use Rattle.search_walks.specs.Made.{RunOf}
use Rattle.search_walks.specs.Passing.{DrawnAt, no_draw, own_drawn, other_drawn}
use Rattle.search_base.specs.Setting.{Setting, layer_of}
use Rattle.search_walks.specs.Walks.{AreOutcomes}
use Rattle.search_walks.proofs.OfferLaws.{in_at, length_map}

pub some_in : {A : Type 0} → (x : A) → (l : List A) → In x l → 1 ≤ length l
some_in x [] h = absurd h
some_in x (a ∷ l) h = omega arith

pub got_or : {A : Type 0} → (d : A) → (n : ℕ) → (l : List A) → n < length l → slice_get l n ≡ Some (get_or l n d)
got_or d n [] h = absurd (omega (arith, h))
got_or d zero (a ∷ l) h = refl
got_or d (suc n) (a ∷ l) h = got_or d n l (omega (arith, h))

pub events_below : (s : Setting) → (r : Made) → RunOf s r.trace r.path → (k : ℕ) → k < length r.path → k < length (r.trace).events
events_below s r run k below =
    let a = ap length run.outcomes ∙ length_map (r.trace).events in
    omega (arith, below, a)

seen_outcome : (k : ℕ) → (es : List Event) → (e : Event) → slice_get es k ≡ Some e → slice_get (map outcome_at es) k ≡ Some (outcome_at e)
seen_outcome k [] e h = absurd (cc h)
seen_outcome zero (x ∷ es) e h = let f : x ≡ e = cc h in ap (λ y. Some (outcome_at y)) f
seen_outcome (suc k) (x ∷ es) e h = seen_outcome k es e h

no_map : (l : List Choice) → map (λ c. c.outcome) l ≡ [] → l ≡ []
no_map [] h = refl
no_map (x ∷ l) h = absurd (cc h)

module _ (s : Setting) (r : Made) (run : RunOf s r.trace r.path) (k : ℕ) (e : Event) (at : slice_get (r.trace).events k ≡ Some e) where
  outcomes_are : (os : List Outcome) → Ascend os → ((o : Outcome) → In o os ↔ ((o ≡ outcome_at e) ⊎ In o (others_at e))) → AreOutcomes s (r.trace).input k (outcome_at e) os
  outcomes_are os ascend all = record {
    is_own = subst (λ p. slice_get p k ≡ Some (outcome_at e)) (sym run.outcomes ∙ run.path) (seen_outcome k (r.trace).events e at);
    ascend = ascend;
    all = λ o. subst (λ l. In o os ↔ ((o ≡ outcome_at e) ⊎ In o l)) (run.others k e at) (all o);
  }

  pub drawn_none : (g h : Lcg) → e.others ≡ [] → h ≡ g → DrawnAt s (r.trace).input k g h None
  drawn_none g h f w = no_draw (sym (run.others k e at) ∙ ap (λ (cs : List Choice). map (λ c. c.outcome) cs) f) w

  module _ (g h : Lcg) (os : List Outcome) (ascend : Ascend os) (all : (o : Outcome) → In o os ↔ ((o ≡ outcome_at e) ⊎ In o (others_at e))) (n m : ℕ) (o : Outcome) (drawn : n ≡ draw m g) (many : m ≡ length os) (is : slice_get os n ≡ Some o) (word : h ≡ after_draw g) where
    got : slice_get os (draw (length os) g) ≡ Some o
    got = ap (λ x. slice_get os (draw x g)) (sym many) ∙ (ap (slice_get os) (sym drawn) ∙ is)

    pub drawn_own : (e.others ≡ [] → ⊥) → o ≡ outcome_at e → DrawnAt s (r.trace).input k g h None
    drawn_own some f = own_drawn (outcome_at e) os (λ x. some (no_map e.others (run.others k e at ∙ x))) (outcomes_are os ascend all) (got ∙ ap Some f) word

    pub drawn_other : (o ≡ outcome_at e → ⊥) → DrawnAt s (r.trace).input k g h (Some o)
    drawn_other other = other_drawn (outcome_at e) o os (outcomes_are os ascend all) got other (by ((all o).0 (in_at o (draw (length os) g) os got))) word
      where
        by : (o ≡ outcome_at e) ⊎ In o (others_at e) → In o ((layer_of s).others (r.trace).input k)
        by (inl f) = absurd (other f)
        by (inr i) = subst (In o) (run.others k e at) i

-- what was drawn is an alternative
pub drawn_in : (s : Setting) → (r : Made) → (k : ℕ) → (g h : Lcg) → (o : Outcome) → DrawnAt s (r.trace).input k g h (Some o) → In o ((layer_of s).others (r.trace).input k)
drawn_in s r k g h o (other_drawn own same os are at other i word) = i

pub path_short : (s : Setting) → (r : Made) → RunOf s r.trace r.path → length r.path ≤ 1024
path_short s r run =
    let a = ap length run.outcomes ∙ length_map (r.trace).events in
    let b = run.short in
    omega (arith, a, b)
