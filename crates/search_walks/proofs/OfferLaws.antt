-- The alternatives that a run offers.
use Rattle.std.proofs.Common.{◌≡◌, ℕ, zero, suc, ◌+◌, ◌*◌, ◌<◌, ◌≤◌, ◌⊎◌, inl, inr, List, [], ◌∷◌, ◌++◌, length, map, take, drop, get_or, Some, slice_get, refl, sym, ap, ap₂, ◌∙◌, subst, arith, length-append}
use Rattle.cc_base.specs.declared.inputs.Input.{Input}
use Rattle.cc_base.specs.Paths.{In}
use Rattle.cc_model.specs.declared.checked.SiteId.{SiteId}
use Rattle.sym_run.specs.declared.trace.Choice.{Choice}
use Rattle.sym_run.specs.declared.trace.Event.{Event}
use Rattle.sym_run.specs.Traces.{OffersFew, outcome_at, others_at}
use Rattle.search_walks.specs.declared.candidates.Candidate.{Candidate}
use Rattle.search_walks.specs.declared.runs.Made.{Made}
use Rattle.search_walks.specs.Branching.{plain_of, IsOffered, Offering}
use Rattle.search_walks.specs.Made.{RunOf}
use Rattle.search_walks.specs.Offers.{offers_at, offers_from}
use Rattle.search_base.specs.Setting.{Setting, layer_of}
use Rattle.search_walks.specs.Walks.{Candidate as Plain, at_event, candidates_from, candidates, without}

-- ---- lists

in_either : {A : Type 0} → (x : A) → (l m : List A) → In x (l ++ m) → In x l ⊎ In x m
in_either x [] m h = inr h
in_either x (a ∷ l) m (inl e) = inl (inl e)
in_either x (a ∷ l) m (inr h) = by (in_either x l m h)
  where
    by : In x l ⊎ In x m → ((x ≡ a) ⊎ In x l) ⊎ In x m
    by (inl k) = inl (inr k)
    by (inr k) = inr k

in_drop : {A : Type 0} → (x : A) → (n : ℕ) → (l : List A) → In x (drop n l) → In x l
in_drop x zero l h = h
in_drop x (suc n) [] h = h
in_drop x (suc n) (a ∷ l) h = inr (in_drop x n l h)

in_take : {A : Type 0} → (x : A) → (n : ℕ) → (l : List A) → In x (take n l) → In x l
in_take x zero l h = absurd h
in_take x (suc n) [] h = h
in_take x (suc n) (a ∷ l) (inl e) = inl e
in_take x (suc n) (a ∷ l) (inr h) = inr (in_take x n l h)

pub in_without : {A : Type 0} → (x : A) → (n : ℕ) → (l : List A) → In x (without n l) → In x l
in_without x n l h = elim (in_either x (take n l) (drop (suc n) l) h) [ inl k ↦ in_take x n l k | inr k ↦ in_drop x (suc n) l k ]

pub in_at : {A : Type 0} → (x : A) → (n : ℕ) → (l : List A) → slice_get l n ≡ Some x → In x l
in_at x n [] e = absurd (cc e)
in_at x zero (a ∷ l) e = inl (cc e)
in_at x (suc n) (a ∷ l) e = inr (in_at x n l e)

pub got_at : {A : Type 0} → (x : A) → (n : ℕ) → (l : List A) → n < length l → x ≡ get_or l n x → slice_get l n ≡ Some x
got_at x n [] h e = absurd (omega (arith, h))
got_at x zero (a ∷ l) h e = ap Some (sym e)
got_at x (suc n) (a ∷ l) h e = got_at x n l (omega (arith, h)) e

pub seen_at : (c : Candidate) → (n : ℕ) → (l : List Candidate) → slice_get l n ≡ Some c → slice_get (map plain_of l) n ≡ Some (plain_of c)
seen_at c n [] e = absurd (cc e)
seen_at c zero (a ∷ l) e = let f : a ≡ c = cc e in ap (λ x. Some (plain_of x)) f
seen_at c (suc n) (a ∷ l) e = seen_at c n l e

seen_both : (l m : List Candidate) → map plain_of (l ++ m) ≡ map plain_of l ++ map plain_of m
seen_both [] m = refl
seen_both (a ∷ l) m = ap (λ x. plain_of a ∷ x) (seen_both l m)

seen_drop : (n : ℕ) → (l : List Candidate) → map plain_of (drop n l) ≡ drop n (map plain_of l)
seen_drop zero l = refl
seen_drop (suc n) [] = refl
seen_drop (suc n) (a ∷ l) = seen_drop n l

seen_take : (n : ℕ) → (l : List Candidate) → map plain_of (take n l) ≡ take n (map plain_of l)
seen_take zero l = refl
seen_take (suc n) [] = refl
seen_take (suc n) (a ∷ l) = ap (λ x. plain_of a ∷ x) (seen_take n l)

pub seen_without : (n : ℕ) → (l : List Candidate) → map plain_of (without n l) ≡ without n (map plain_of l)
seen_without n l = seen_both (take n l) (drop (suc n) l) ∙ ap₂ (λ a b. a ++ b) (seen_take n l) (seen_drop (suc n) l)

pub seen_length : (l : List Candidate) → length (map plain_of l) ≡ length l
seen_length [] = refl
seen_length (a ∷ l) = ap suc (seen_length l)

-- ---- the alternatives of events

seen_event : (s : Setting) → (k : ℕ) → (i : SiteId) → (os : List Choice) → map plain_of (offers_at k i os) ≡ at_event s k (map (λ c. c.outcome) os)
seen_event s k i [] = refl
seen_event s k i (o ∷ os) = ap (λ (l : List Plain). (k, o.outcome) ∷ l) (seen_event s k i os)

seen_offers : (s : Setting) → (u : Input) → (k : ℕ) → (es : List Event) → ((j : ℕ) (e : Event) → slice_get es j ≡ Some e → others_at e ≡ (layer_of s).others u (k + j)) →
    map plain_of (offers_from k es) ≡ candidates_from s u k (map outcome_at es)
seen_offers s u k [] h = refl
seen_offers s u k (e ∷ es) h =
    seen_both (offers_at k e.site e.others) (offers_from (suc k) es)
    ∙ ap₂ (λ a b. a ++ b) (seen_event s k e.site e.others ∙ ap (at_event s k) (h zero e refl ∙ ap ((layer_of s).others u) none)) (seen_offers s u (suc k) es (λ j x at. h (suc j) x at ∙ ap ((layer_of s).others u) (later j)))
  where
    none : k + zero ≡ k
    none = omega arith

    later : (j : ℕ) → k + suc j ≡ suc k + j
    later j = omega arith

-- the event that offers an alternative
record OfferedBy (k : ℕ) (es : List Event) (c : Candidate) : Type 0 where
  at : ℕ
  event : Event
  is : slice_get es at ≡ Some event
  number : c.event ≡ k + at
  offered : In c.outcome (others_at event)

of_event : (k : ℕ) → (i : SiteId) → (os : List Choice) → (c : Candidate) → In c (offers_at k i os) → (c.event ≡ k) × In c.outcome (map (λ x. x.outcome) os)
of_event k i [] c h = absurd h
of_event k i (o ∷ os) c (inl e) = (ap (λ x. x.event) e, inl (ap (λ x. x.outcome) e))
of_event k i (o ∷ os) c (inr h) = let w = of_event k i os c h in (w.0, inr w.1)

offered_by : (k : ℕ) → (es : List Event) → (c : Candidate) → In c (offers_from k es) → OfferedBy k es c
offered_by k [] c h = absurd h
offered_by k (e ∷ es) c h = by (in_either c (offers_at k e.site e.others) (offers_from (suc k) es) h) (offered_by (suc k) es c)
  where
    none : (n : ℕ) → n ≡ k → n ≡ k + zero
    none n f = omega (arith, f)

    later : (n j : ℕ) → n ≡ suc k + j → n ≡ k + suc j
    later n j f = omega (arith, f)

    by : In c (offers_at k e.site e.others) ⊎ In c (offers_from (suc k) es) → (In c (offers_from (suc k) es) → OfferedBy (suc k) es c) → OfferedBy k (e ∷ es) c
    by (inl i) rest = let w = of_event k e.site e.others c i in record { at = zero; event = e; is = refl; number = none c.event w.0; offered = w.1 }
    by (inr i) rest = let w = rest i in record { at = suc w.at; event = w.event; is = w.is; number = later c.event w.at w.number; offered = w.offered }

few_of_event : (k : ℕ) → (i : SiteId) → (os : List Choice) → length (offers_at k i os) ≡ length os
few_of_event k i [] = refl
few_of_event k i (o ∷ os) = ap suc (few_of_event k i os)

few_offers : (k : ℕ) → (es : List Event) → ((j : ℕ) (e : Event) → slice_get es j ≡ Some e → OffersFew e) → length (offers_from k es) ≤ 28 * length es
few_offers k [] h = omega arith
few_offers k (e ∷ es) h =
    let a = length-append (offers_at k e.site e.others) (offers_from (suc k) es) in
    let b = few_of_event k e.site e.others in
    let d = (h zero e refl).few in
    let r = few_offers (suc k) es (λ j x at. h (suc j) x at) in
    omega (arith, a, b, d, r)

pub length_map : (es : List Event) → length (map outcome_at es) ≡ length es
length_map [] = refl
length_map (e ∷ es) = ap suc (length_map es)

below_length : {A : Type 0} → (x : A) → (n : ℕ) → (l : List A) → slice_get l n ≡ Some x → n < length l
below_length x n [] e = absurd (cc e)
below_length x zero (a ∷ l) e = omega arith
below_length x (suc n) (a ∷ l) e = let h = below_length x n l e in omega (arith, h)

-- ---- those of a run

module _ (s : Setting) (r : Made) (run : RunOf s r.trace r.path) where
  pub few_events : (es : List Event) → es ≡ (r.trace).events → length es ≤ 1024
  few_events es e = let a = run.short in let b = ap length e in omega (arith, a, b)

  pub seen_run : map plain_of (offers_from 0 (r.trace).events) ≡ candidates s (r.trace).input
  seen_run = seen_offers s (r.trace).input 0 (r.trace).events (λ j e at. run.others j e at ∙ ap ((layer_of s).others (r.trace).input) (same j)) ∙ ap (candidates_from s (r.trace).input 0) (sym run.outcomes ∙ run.path)
    where
      same : (j : ℕ) → j ≡ 0 + j
      same j = omega arith

  pub offering : Offering s r (offers_from 0 (r.trace).events)
  offering = record {
    run = run;
    each = λ c i. of c (offered_by 0 (r.trace).events c i);
    few = let a = few_offers 0 (r.trace).events run.few in let b = run.short in omega (arith, a, b);
  }
    where
      of : (c : Candidate) → OfferedBy 0 (r.trace).events c → IsOffered s r c
      of c w =
          let n = w.number in
          let same : w.at ≡ c.event = omega (arith, n) in
          let a = below_length w.event w.at (r.trace).events w.is in
          let b = ap length run.outcomes ∙ length_map (r.trace).events in
          record {
            there = omega (arith, n, a, b);
            offered = subst (In c.outcome) (run.others w.at w.event w.is ∙ ap ((layer_of s).others (r.trace).input) same) w.offered;
          }

-- the alternatives of a run, as they were gathered
pub gathered : (s : Setting) → (r : Made) → RunOf s r.trace r.path → (untried : List Candidate) → (es : List Event) → untried ≡ offers_from 0 es → es ≡ (r.trace).events → Offering s r untried × (map plain_of untried ≡ candidates s (r.trace).input)
gathered s r run untried es e f =
    let same : untried ≡ offers_from 0 (r.trace).events = e ∙ ap (offers_from 0) f in
    (subst (Offering s r) (sym same) (offering s r run), ap (map plain_of) same ∙ seen_run s r run)

pub fewer_offering : (s : Setting) → (r : Made) → (untried rest : List Candidate) → (n : ℕ) → rest ≡ without n untried → length rest + 1 ≡ length untried → Offering s r untried → Offering s r rest
fewer_offering s r untried rest n e f o = record {
  run = o.run;
  each = λ c i. o.each c (in_without c n untried (subst (In c) e i));
  few = let h = o.few in omega (arith, f, h);
}

pub empty_list : {A : Type 0} → (l : List A) → length l ≡ 0 → l ≡ []
empty_list [] e = refl
empty_list (x ∷ l) e = absurd (omega (arith, e))
