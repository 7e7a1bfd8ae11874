-- What a directed walk knows of its alternatives and of what its runs took.
use Rattle.std.proofs.Common.{◌≡◌, ◌<◌, ◌≤◌, ◌⊎◌, inl, inr, ℕ, zero, suc, ◌+◌, ◌*◌, Bool, true, false, List, [], ◌∷◌, ◌++◌, length, map, take, drop, get_or, Option, Some, None, slice_get, refl, sym, ◌∙◌, subst, ap, ap₂, arith}
use Rattle.std.proofs.lemmas.List.{length-append}
use Rattle.std.proofs.lemmas.Option.{slice_get_within, slice_get-get_or}
use Rattle.cc_base.specs.declared.ends.End.{End}
use Rattle.cc_base.specs.declared.inputs.Input.{Input}
use Rattle.cc_base.specs.declared.outcomes.Outcome.{Outcome}
use Rattle.cc_base.specs.Paths.{Path, In}
use Rattle.cc_model.specs.declared.checked.Site.{Site}
use Rattle.cc_model.specs.declared.checked.SiteId.{SiteId}
use Rattle.cc_model.specs.declared.checked.SiteKind.TheVariants.{Decision}
use Rattle.cc_model.specs.CheckedProgram.{core_of}
use Rattle.cc_model.specs.Meaning.{Entry}
use Rattle.cc_model.specs.Runs.{run_of}
use Rattle.sym_run.specs.declared.trace.Choice.{Choice}
use Rattle.sym_run.specs.declared.trace.Event.{Event}
use Rattle.sym_run.specs.declared.trace.Trace.{Trace}
use Rattle.sym_run.specs.Traces.{OffersFew, outcome_at, others_at}
use Rattle.tac_lower.specs.declared.tac.Tac.{Tac}
use Rattle.search_walks.specs.declared.candidates.Candidate.{Candidate as Offer}
use Rattle.search_walks.specs.declared.log.Log.{Log}
use Rattle.search_walks.specs.declared.runs.Made.{Made}
use Rattle.search_walks.specs.Counted.{Counted, Nothing, Took}
use Rattle.search_walks.specs.Course.{plain, IsOffered, Covers}
use Rattle.search_walks.specs.Covering.{Marks}
use Rattle.search_walks.specs.Distance.{entry, IsDecisionSite, IsDistance, AreDistances}
use Rattle.search_walks.specs.Made.{RunOf}
use Rattle.search_walks.specs.Nearest.{IsAtOffer, IsAtPlace, IsFirst}
use Rattle.search_walks.specs.Offers.{offers_at, offers_from}
use Rattle.search_base.specs.Setting.{Setting, layer_of, base_of}
use Rattle.search_walks.specs.Deciding.{Takes}
use Rattle.search_walks.specs.Steps.{Started}
use Rattle.search_base.specs.Terms.{token_in}
use Rattle.search_walks.specs.Walks.{Candidate, candidates, candidates_from, at_event, without, IsCovered, IsNew, IsFar, IsNearest, HasNone}
use Rattle.search_base.proofs.PathLaws.{in_either}
use Rattle.search_walks.proofs.TakeLaws.{Beside, entry_of, token_is}

-- ---- lists

pub map_append : {A B : Type 0} → (f : A → B) (l m : List A) → map f (l ++ m) ≡ map f l ++ map f m
map_append f [] m = refl
map_append f (x ∷ l) m = ap (λ r. f x ∷ r) (map_append f l m)

pub length_map : {A B : Type 0} → (f : A → B) (l : List A) → length (map f l) ≡ length l
length_map f [] = refl
length_map f (x ∷ l) = ap (λ n. suc n) (length_map f l)

map_take : {A B : Type 0} → (f : A → B) (n : ℕ) (l : List A) → map f (take n l) ≡ take n (map f l)
map_take f zero l = refl
map_take f (suc n) [] = refl
map_take f (suc n) (x ∷ l) = ap (λ r. f x ∷ r) (map_take f n l)

map_drop : {A B : Type 0} → (f : A → B) (n : ℕ) (l : List A) → map f (drop n l) ≡ drop n (map f l)
map_drop f zero l = refl
map_drop f (suc n) [] = refl
map_drop f (suc n) (x ∷ l) = map_drop f n l

pub map_without : {A B : Type 0} → (f : A → B) (i : ℕ) (l : List A) → map f (without i l) ≡ without i (map f l)
map_without f i l = map_append f (take i l) (drop (suc i) l) ∙ ap₂ (λ a b. a ++ b) (map_take f i l) (map_drop f (suc i) l)

in_take : {A : Type 0} → (x : A) (n : ℕ) (l : List A) → In x (take n l) → In x l
in_take x zero l h = absurd h
in_take x (suc n) [] h = absurd h
in_take x (suc n) (y ∷ l) (inl h) = inl h
in_take x (suc n) (y ∷ l) (inr h) = inr (in_take x n l h)

in_drop : {A : Type 0} → (x : A) (n : ℕ) (l : List A) → In x (drop n l) → In x l
in_drop x zero l h = h
in_drop x (suc n) [] h = absurd h
in_drop x (suc n) (y ∷ l) h = inr (in_drop x n l h)

pub in_without : {A : Type 0} → (x : A) (i : ℕ) (l : List A) → In x (without i l) → In x l
in_without x i l h = elim (in_either x (take i l) (drop (suc i) l) h) [ inl a ↦ in_take x i l a | inr a ↦ in_drop x (suc i) l a ]

pub shorter : {A : Type 0} → (i : ℕ) (l : List A) → i < length l → suc (length (without i l)) ≡ length l
shorter i [] h = absurd (omega (arith, h))
shorter zero (x ∷ l) h = refl
shorter (suc i) (x ∷ l) h = ap (λ n. suc n) (shorter i l (omega (arith, h)))

pub in_at : {A : Type 0} → (l : List A) (i : ℕ) (x : A) → slice_get l i ≡ Some x → In x l
in_at [] i x e = absurd (cc e)
in_at (y ∷ l) zero x e = inl (cc e)
in_at (y ∷ l) (suc i) x e = inr (in_at l i x e)

pub get_map : {A B : Type 0} → (f : A → B) (l : List A) (i : ℕ) (x : A) → slice_get l i ≡ Some x → slice_get (map f l) i ≡ Some (f x)
get_map f [] i x e = absurd (cc e)
get_map f (y ∷ l) zero x e = let z : y ≡ x = cc e in ap (λ w. Some (f w)) z
get_map f (y ∷ l) (suc i) x e = get_map f l i x e

pub from_map : {A B : Type 0} → (f : A → B) (l : List A) (i : ℕ) (w : B) → slice_get (map f l) i ≡ Some w → (x : A) × (slice_get l i ≡ Some x) × (w ≡ f x)
from_map f [] i w e = absurd (cc e)
from_map f (y ∷ l) zero w e = (y, refl, cc e)
from_map f (y ∷ l) (suc i) w e = from_map f l i w e

-- ---- the alternatives of a run

plain_at : (s : Setting) (k : ℕ) (site : SiteId) (os : List Choice) → map plain (offers_at k site os) ≡ at_event s k (map (λ c. c.outcome) os)
plain_at s k site [] = refl
plain_at s k site (o ∷ os) = ap (λ (r : List Candidate). (k, o.outcome) ∷ r) (plain_at s k site os)

module _ (s : Setting) (u : Input) where
  plain_from : (k : ℕ) (es : List Event) → ((i : ℕ) (e : Event) → slice_get es i ≡ Some e → others_at e ≡ (layer_of s).others u (i + k)) → map plain (offers_from k es) ≡ candidates_from s u k (map outcome_at es)
  plain_from k [] h = refl
  plain_from k (e ∷ es) h = map_append plain (offers_at k e.site e.others) (offers_from (suc k) es)
      ∙ ap₂ (λ a b. a ++ b) (plain_at s k e.site e.others ∙ ap (at_event s k) (h 0 e refl ∙ ap (λ n. (layer_of s).others u n) (first k))) (plain_from (suc k) es (λ i x at. h (suc i) x at ∙ ap (λ n. (layer_of s).others u n) (more i k)))
    where
      first : (k : ℕ) → 0 + k ≡ k
      first k = omega arith

      more : (i k : ℕ) → suc i + k ≡ i + suc k
      more i k = omega arith

pub plain_offers : (s : Setting) (t : Trace) (p : Path) → RunOf s t p → map plain (offers_from 0 t.events) ≡ candidates s t.input
plain_offers s t p r = plain_from s t.input 0 t.events (λ i e at. r.others i e at ∙ ap (λ n. (layer_of s).others t.input n) (none_more i)) ∙ ap (candidates_from s t.input 0) (sym r.outcomes ∙ r.path)
  where
    none_more : (i : ℕ) → i ≡ i + 0
    none_more i = omega arith

offered_at : (k : ℕ) (site : SiteId) (os : List Choice) (x : Offer) → In x (offers_at k site os) → (x.event ≡ k) × (x.site ≡ site) × In x.outcome (map (λ c. c.outcome) os)
offered_at k site [] x h = absurd h
offered_at k site (o ∷ os) x (inl e) = (ap (λ (y : Offer). y.event) e, ap (λ (y : Offer). y.site) e, inl (ap (λ (y : Offer). y.outcome) e))
offered_at k site (o ∷ os) x (inr h) = let r = offered_at k site os x h in (r.0, r.1, inr r.2)

offered_from : (k : ℕ) (es : List Event) (x : Offer) → In x (offers_from k es) → (i : ℕ) × (x.event ≡ i + k) × (e : Event) × (slice_get es i ≡ Some e) × (x.site ≡ e.site) × In x.outcome (others_at e)
offered_from k [] x h = absurd h
offered_from k (e ∷ es) x h = by (in_either x (offers_at k e.site e.others) (offers_from (suc k) es) h) (λ g. offered_from (suc k) es x g)
  where
    by : In x (offers_at k e.site e.others) ⊎ In x (offers_from (suc k) es) → (In x (offers_from (suc k) es) → (i : ℕ) × (x.event ≡ i + suc k) × (y : Event) × (slice_get es i ≡ Some y) × (x.site ≡ y.site) × In x.outcome (others_at y)) →
        (i : ℕ) × (x.event ≡ i + k) × (y : Event) × (slice_get (e ∷ es) i ≡ Some y) × (x.site ≡ y.site) × In x.outcome (others_at y)
    by (inl a) rest = let r = offered_at k e.site e.others x a in (0, (let q = r.0 in omega (arith, q)), e, refl, r.1, r.2)
    by (inr a) rest = let r = rest a in (suc r.0, (let q = r.1 in omega (arith, q)), r.2, r.3, r.4, r.5)

pub are_offered : (es : List Event) (x : Offer) → In x (offers_from 0 es) → IsOffered es x
are_offered es x h = let r = offered_from 0 es x h in record { event = r.2; is = ap (slice_get es) (let q = r.1 in same x.event r.0 q) ∙ r.3; same_site = r.4; other = r.5 }
  where
    same : (a i : ℕ) → a ≡ i + 0 → a ≡ i
    same a i q = omega (arith, q)

few_at : (k : ℕ) (site : SiteId) (os : List Choice) → length (offers_at k site os) ≡ length os
few_at k site [] = refl
few_at k site (o ∷ os) = ap (λ n. suc n) (few_at k site os)

few_from : (k : ℕ) (es : List Event) → ((i : ℕ) (e : Event) → slice_get es i ≡ Some e → OffersFew e) → length (offers_from k es) ≤ 28 * length es
few_from k [] h = omega arith
few_from k (e ∷ es) h =
    let a = length-append (offers_at k e.site e.others) (offers_from (suc k) es) in
    let b = few_at k e.site e.others in
    let c = (h 0 e refl).few in
    let d = few_from (suc k) es (λ i x at. h (suc i) x at) in
    omega (arith, a, b, c, d)

pub few_offers : (s : Setting) (t : Trace) (p : Path) → RunOf s t p → length (offers_from 0 t.events) ≤ 28672
few_offers s t p r = let a = few_from 0 t.events r.few in let b = r.short in omega (arith, a, b)

-- ---- what the runs of inputs took

covers_marked : (s : Setting) (ran : List Input) (i : Input) (old new : List Bool) (b : Bool) → Marks old new (Took s i) b → Covers s ran old → Covers s (i ∷ ran) new
covers_marked s ran i old new b m c = record { each = λ n side v e. (to n side v e, back n side v e); all = m.size ∙ c.all }
  where
    took : (n : ℕ) (side : Bool) → Took s i (entry n side) → Takes s i n side
    took n side w = same n side w.site w.side w.number w.takes
      where
        side_is : (n k : ℕ) (a b : Bool) → entry n a ≡ entry k b → (n ≡ k) × (a ≡ b)
        side_is n k false false e = (omega (arith, e), refl)
        side_is n k true true e = (omega (arith, e), refl)
        side_is n k false true e = absurd (omega (arith, e))
        side_is n k true false e = absurd (omega (arith, e))

        same : (n : ℕ) (a : Bool) (k : ℕ) (b : Bool) → entry n a ≡ entry k b → Takes s i k b → Takes s i n a
        same n a k b e t = let q = side_is n k a b e in subst (λ x. Takes s i x a) (sym q.0) (subst (λ x. Takes s i k x) (sym q.1) t)

    to : (n : ℕ) (side v : Bool) → slice_get new (entry n side) ≡ Some v → v ≡ true → (u : Input) × In u (i ∷ ran) × Takes s u n side
    to n side v e f = elim ((m.each (entry n side)).0 (e ∙ ap Some f)) [
      | inl o ↦ (let r = (c.each n side true o).0 refl in (r.0, inr r.1, r.2))
      | inr q ↦ (i, inl refl, took n side q.0)
    ]

    -- it is covered now, whatever was before
    now : (n : ℕ) (side : Bool) → (entry n side < length old) → (u : Input) × In u (i ∷ ran) × Takes s u n side → slice_get new (entry n side) ≡ Some true
    now n side h (u, inl z, t) = (m.each (entry n side)).1 (inr (record { site = n; side = side; number = refl; takes = subst (λ x. Takes s x n side) z t }, h))
    now n side h (u, inr z, t) = by (get_or old (entry n side) true) refl
      where
        by : (w : Bool) → get_or old (entry n side) true ≡ w → slice_get new (entry n side) ≡ Some true
        by true g = (m.each (entry n side)).1 (inl (slice_get-get_or old (entry n side) true h ∙ ap Some g))
        by false g = absurd (no_false ((c.each n side false (slice_get-get_or old (entry n side) true h ∙ ap Some g)).1 (u, z, t)))
          where
            no_false : false ≡ true → ⊥
            no_false x = cc x

    back : (n : ℕ) (side v : Bool) → slice_get new (entry n side) ≡ Some v → (u : Input) × In u (i ∷ ran) × Takes s u n side → v ≡ true
    back n side v e t = let h = slice_get_within new (entry n side) v e in let z = m.size in let g = now n side (omega (arith, h, z)) t in cc (e, g)

module _ (s : Setting) (old new : Option (List ℕ)) (l m : Log) where
  pub covers_first : (r : Made) → Nothing (length s.checked.sites) l → Started s old new l m r → Covers s (base_of s ∷ []) (m.covered).items
  covers_first r n x = covers_marked s [] (base_of s) (l.covered).items (m.covered).items x.is_new (x.counted).covered
      (record { each = λ k side b e. ((λ f. absurd (n.covered (entry k side) (e ∙ ap Some f))), λ q. absurd (q.1)); all = n.size })

module _ (s : Setting) (ran : List Input) where
  pub covers_run : (i : Input) (end : End) (l m : Log) (b : Bool) → Counted s i end l m b → Covers s ran (l.covered).items → Covers s (i ∷ ran) (m.covered).items
  covers_run i end l m b x c = covers_marked s ran i (l.covered).items (m.covered).items b x.covered c

  module _ (limit : ℕ) (cuts : Bool) where
    pub is_covered : (covered : List Bool) → Covers s ran covered → IsCovered s ran covered
    is_covered covered c = record { each = c.each; all = c.all }

    pub is_new : (i : Input) (end : End) (l m : Log) (b : Bool) → Counted s i end l m b → Covers s ran (l.covered).items → b ≡ true → IsNew s i ran
    is_new i end l m b x c e = let r = (x.covered).one_new.0 e in let w = r.1 in
        (w.site, w.side, w.takes, λ q. no_false ((c.each w.site w.side false (sym (ap (slice_get (l.covered).items) w.number) ∙ r.2)).1 q))
      where
        no_false : false ≡ true → ⊥
        no_false z = cc z

    pub not_new : (i : Input) (end : End) (l m : Log) (b : Bool) → Counted s i end l m b → Covers s ran (l.covered).items → b ≡ false → IsNew s i ran → ⊥
    not_new i end l m b x c e (n, side, t, none) = by (get_or (l.covered).items (entry n side) true) refl
      where
        no_false : b ≡ true → ⊥
        no_false z = cc (e, z)

        site_below : Takes s i n side → n < length s.checked.sites
        site_below (k, a, d, g, o) = slice_get_within s.checked.sites n d.site d.is_site

        entry_below : (n k : ℕ) (side : Bool) → n < k → entry n side < 2 * k
        entry_below n k false h = omega (arith, h)
        entry_below n k true h = omega (arith, h)

        there : entry n side < length (l.covered).items
        there = let h = entry_below n (length s.checked.sites) side (site_below t) in let z = c.all in omega (arith, h, z)

        by : (w : Bool) → get_or (l.covered).items (entry n side) true ≡ w → ⊥
        by true g = none ((c.each n side true (slice_get-get_or (l.covered).items (entry n side) true there ∙ ap Some g)).0 refl)
        by false g = no_false ((x.covered).one_new.1 (entry n side, record { site = n; side = side; number = refl; takes = t }, slice_get-get_or (l.covered).items (entry n side) true there ∙ ap Some g))

    pub covers_old : (i : Input) (covered : List Bool) → Covers s ran covered → (IsNew s i ran → ⊥) → Covers s (i ∷ ran) covered
    covers_old i covered c n = record { each = λ k side b e. ((λ f. let r = (c.each k side b e).0 f in (r.0, inr r.1, r.2)), back k side b e); all = c.all }
      where
        back : (k : ℕ) (side b : Bool) → slice_get covered (entry k side) ≡ Some b → (u : Input) × In u (i ∷ ran) × Takes s u k side → b ≡ true
        back k side b e (u, inr z, t) = (c.each k side b e).1 (u, z, t)
        back k side true e (u, inl z, t) = refl
        back k side false e (u, inl z, t) = absurd (n (k, side, subst (λ x. Takes s x k side) z t, λ q. no_false ((c.each k side false e).1 q)))
          where
            no_false : false ≡ true → ⊥
            no_false x = cc x

-- ---- distances of alternatives

module _ (s : Setting) (t : Tac) (covered : List Bool) (v : List (Option ℕ)) (d : AreDistances s.checked t covered v) where
  entry_there : (n : ℕ) (side : Bool) → n < length s.checked.sites → entry n side < length v
  entry_there n side h = let z = d.all in let g = below side in omega (arith, g, z)
    where
      below : (side : Bool) → entry n side < 2 * length s.checked.sites
      below false = omega (arith, h)
      below true = omega (arith, h)

  -- the list holds what the distance is
  holds : (n : ℕ) (side : Bool) (k : ℕ) → n < length s.checked.sites → IsDistance s.checked t covered n side (Some k) → slice_get v (entry n side) ≡ Some (Some k)
  holds n side k h x = by (get_or v (entry n side) None) refl
    where
      there : slice_get v (entry n side) ≡ Some (get_or v (entry n side) None)
      there = slice_get-get_or v (entry n side) None (entry_there n side h)

      by : (o : Option ℕ) → get_or v (entry n side) None ≡ o → slice_get v (entry n side) ≡ Some (Some k)
      by None e = absurd (d.each n side None (there ∙ ap Some e) k x.0)
      by (Some j) e =
          let y = d.each n side (Some j) (there ∙ ap Some e) in
          let a = y.1 k x.0 in
          let b = x.1 j y.0 in
          let z : j ≡ k = omega (arith, a, b) in
          there ∙ ap Some (e ∙ ap Some z)

  module _ (r : Trace) (p : Path) (run : RunOf s r p) (limit : ℕ) (cuts : Bool) where
    pub to_far : (x : Offer) (k : ℕ) → IsOffered r.events x → IsAtOffer s.checked v x k → IsFar s t r.input covered (plain x) k
    to_far x k o a = by (entry_of s.checked (run_of (core_of s.checked) s.limits r.input).log r.events x.event o.event run.plain o.is)
      where
        by : (b : Entry Outcome) × (slice_get (run_of (core_of s.checked) s.limits r.input).log x.event ≡ Some b) × Beside s.checked b o.event → IsFar s t r.input covered (plain x) k
        by (b, e, h) =
            let w = (a.among).at in
            let i = w.is_site in
            let q = h.site in
            let number : (x.site).0 ≡ ((o.event).site).0 = ap (λ (y : SiteId). y.0) o.same_site in
            let own = subst (IsDecisionSite s.checked) number a.is_decision in
            record {
              site = (a.among).site;
              side = a.side;
              decides = record {
                entry = b;
                is_entry = e;
                site = i.0;
                is_site = i.1;
                same = sym (token_is s.checked.sites (a.among).site i.0 i.1) ∙ w.token_is ∙ ap (token_in s.checked.sites) number ∙ token_is s.checked.sites ((o.event).site).0 q.site q.listed ∙ q.token;
                kind = let z : q.site ≡ own.0 = cc (q.listed, own.1) in sym q.kind ∙ ap (λ (y : Site). y.kind) z ∙ own.2;
                site_kind = i.2;
              };
              outcome = a.outcome;
              distance = d.each (a.among).site a.side (Some k) w.distance;
            }

    pub from_far : (x : Offer) (k : ℕ) → IsOffered r.events x → IsFar s t r.input covered (plain x) k → IsAtOffer s.checked v x k
    from_far x k o f = by (entry_of s.checked (run_of (core_of s.checked) s.limits r.input).log r.events x.event o.event run.plain o.is)
      where
        by : (b : Entry Outcome) × (slice_get (run_of (core_of s.checked) s.limits r.input).log x.event ≡ Some b) × Beside s.checked b o.event → IsAtOffer s.checked v x k
        by (b, e, h) =
            let w = f.decides in
            let q = h.site in
            let same : w.entry ≡ b = cc (w.is_entry, e) in
            let number : (x.site).0 ≡ ((o.event).site).0 = ap (λ (y : SiteId). y.0) o.same_site in
            let kind : q.site.kind ≡ Decision = q.kind ∙ ap (λ (y : Entry Outcome). y.kind) (sym same) ∙ w.kind in
            record {
              side = f.side;
              is_decision = subst (IsDecisionSite s.checked) (sym number) (q.site, q.listed, kind);
              outcome = f.outcome;
              among = record {
                site = f.site;
                below = slice_get_within s.checked.sites f.site w.site w.is_site;
                at = record {
                  is_site = (w.site, w.is_site, w.site_kind);
                  token_is = token_is s.checked.sites f.site w.site w.is_site ∙ w.same ∙ ap (λ (y : Entry Outcome). y.token) same ∙ sym q.token ∙ sym (token_is s.checked.sites ((o.event).site).0 q.site q.listed) ∙ ap (token_in s.checked.sites) (sym number);
                  distance = holds f.site f.side k (slice_get_within s.checked.sites f.site w.site w.is_site) f.distance;
                };
              };
            }

    module _ (cs : List Offer) (offered : (x : Offer) → In x cs → IsOffered r.events x) (ran : List Input) (c : Covers s ran covered) where
      pub no_nearest : IsFirst (IsAtPlace s.checked v cs) None → HasNone s t r.input ran (map plain cs)
      no_nearest n = record {
        covered = covered;
        is_covered = is_covered s ran limit cuts covered c;
        none = λ i w e at f. let q = from_map plain cs i w at in
            n i e (record { offer = q.0; is = q.1; at = from_far q.0 e (offered q.0 (in_at cs i q.0 q.1)) (subst (λ y. IsFar s t r.input covered y e) q.2 f) });
      }

      pub a_nearest : (j : ℕ) (x : Offer) → slice_get cs j ≡ Some x → IsFirst (IsAtPlace s.checked v cs) (Some j) → IsNearest s t r.input ran (map plain cs) j (plain x)
      a_nearest j x at n = record {
        covered = covered;
        is_covered = is_covered s ran limit cuts covered c;
        is = get_map plain cs j x at;
        d = n.0;
        far = let m = n.1 in let z : m.offer ≡ x = cc (m.is, at) in to_far x n.0 (offered x (in_at cs j x at)) (subst (λ y. IsAtOffer s.checked v y n.0) z m.at);
        least = λ i w e here f. let q = from_map plain cs i w here in
            n.2 i e (record { offer = q.0; is = q.1; at = from_far q.0 e (offered q.0 (in_at cs i q.0 q.1)) (subst (λ y. IsFar s t r.input covered y e) q.2 f) });
      }
