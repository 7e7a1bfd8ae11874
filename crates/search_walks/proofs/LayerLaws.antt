-- Distances, layer by layer.
use Rattle.std.proofs.Common.{◌≡◌, ◌<◌, ◌≤◌, ◌⊎◌, inl, inr, ℕ, zero, suc, ◌+◌, ◌*◌, ◌/◌, ◌%◌, Bool, true, false, List, [], ◌∷◌, ◌++◌, length, Option, Some, None, slice_get, refl, sym, ◌∙◌, subst, ap, arith}
use Rattle.std.proofs.lemmas.Bool.{cases_lt, cases_eq}
use Rattle.std.proofs.lemmas.Option.{slice_get_within}
use Rattle.cc_base.specs.Paths.{In}
use Rattle.cc_model.specs.declared.checked.Checked.{Checked}
use Rattle.tac_lower.specs.declared.tac.Tac.{Tac}
use Rattle.tac_lower.specs.Flow.{OutcomeLeadsTo}
use Rattle.search_walks.specs.Distance.{entry, IsDecisionSite, DecidesAt, IsPlain, Flows, here, on, Walk, ends, goes, IsDistance, AreDistances}
use Rattle.search_walks.specs.Rows.{row}
use Rattle.search_walks.specs.Backwards.{Edge, IsDecision, Arrives, FlowUpTo}
use Rattle.search_walks.specs.Layers.{IsPassed, HasDistance, Opens, Gives, DecisionsOf, Near, Within, Done, Layer, Found, Passing, Starts}
use Rattle.search_base.proofs.PathLaws.{in_left}
use Rattle.search_walks.proofs.RowLaws.{in_push, in_last}

-- ---- entries

pub half_entry : (s : ℕ) (side : Bool) → entry s side / 2 ≡ s
half_entry s false = omega arith
half_entry s true = omega arith

pub split_entry : (o : ℕ) → (side : Bool) × (o ≡ entry (o / 2) side)
split_entry o = by (cases_eq (o % 2) 0)
  where
    by : (o % 2 ≡ 0) ⊎ (o % 2 ≡ 0 → ⊥) → (side : Bool) × (o ≡ entry (o / 2) side)
    by (inl e) = (false, omega arith)
    by (inr e) = (true, omega arith)

sides : (s r : ℕ) (a b : Bool) → entry s a ≡ entry r b → a ≡ b
sides s r false false e = refl
sides s r true true e = refl
sides s r false true e = absurd (omega (arith, e))
sides s r true false e = absurd (omega (arith, e))

sites_same : (s r : ℕ) (a b : Bool) → entry s a ≡ entry r b → s ≡ r
sites_same s r a b e = sym (half_entry s a) ∙ ap (λ n. n / 2) e ∙ half_entry r b

entry_within : (s n : ℕ) (side : Bool) → s < n → entry s side < 2 * n
entry_within s n false h = omega arith
entry_within s n true h = omega arith

-- ---- within a layer

module _ (c : Checked) (t : Tac) (covered : List Bool) where
  module _ (before outcomes decisions : List (List ℕ)) (f : FlowUpTo c t (length t.code) before outcomes decisions) where
    plain_within : (a : ℕ) → IsPlain c t a → a < length t.code
    plain_within a p = slice_get_within t.code a p.0 p.1

    decision_within : (a s : ℕ) → DecidesAt c t a s → a < length t.code
    decision_within a s d = slice_get_within t.code a d.0 d.2

    site_within : (s : ℕ) → IsDecisionSite c s → s < length c.sites
    site_within s d = slice_get_within c.sites s d.0 d.1

    -- one instruction is passed
    module _ (m : ℕ) (d : List (Option ℕ)) (p : List Bool) (o n rest : List ℕ) (a : ℕ) (l : Layer c t covered m d p (rest ++ a ∷ []) n)
        (d_new : List (Option ℕ)) (p_new : List Bool) (o_new n_new : List ℕ) (g : Gives (suc m) d n d_new n_new (λ x. In x (row outcomes a))) (h : Opens p rest p_new o_new (λ x. In x (row before a))) where
      near_a : Near c t covered m a
      near_a = l.near a (in_last rest a)

      near_before : (b : ℕ) → Edge c t a b → Near c t covered m b
      near_before b e = record { to = near_a.to; site = near_a.site; side = near_a.side; flows = on b a near_a.to e.plain e.leads near_a.flows; decides = near_a.decides; walk = near_a.walk }

      done_more : (x : ℕ) → Done c t covered d p x → Done c t covered d_new p_new x
      done_more x w = record {
        all_before = λ b e. h.kept b (w.all_before b e);
        all_outcomes = λ y e. let r = w.all_outcomes y e in record { distance = r.distance; is = g.kept y r.distance r.is };
      }

      done_a : Done c t covered d_new p_new a
      done_a = record {
        all_before = λ b e. h.all b ((f.edges a b).1 (plain_within b e.plain, e)).is_in (subst (λ k. b < k) (sym l.places) (plain_within b e.plain));
        all_outcomes = λ y e. g.all y ((f.arrives a y).1 (e, decision_within e.from e.site (e.decision).decides)).is_in
            (subst (λ k. k < length d) (sym (e.comes).number) (subst (λ k. entry e.site e.side < k) (sym l.sites) (entry_within e.site (length c.sites) e.side (site_within e.site (e.decision).is_site))));
      }

      closed : (x : ℕ) → IsPassed p_new x → In x o_new ⊎ Done c t covered d_new p_new x
      closed x i = elim (h.were x i) [
        | inl j ↦ elim (l.closed x j) [
          | inl k ↦ elim (in_push x a rest k) [ inl q ↦ inl (h.still x q) | inr q ↦ inr (subst (Done c t covered d_new p_new) (sym q) done_a) ]
          | inr k ↦ inr (done_more x k)
        ]
        | inr j ↦ inl j
      ]

      walk_new : (s : ℕ) (side : Bool) → In (entry s side) (row outcomes a) → Walk c t covered (suc m) s side
      walk_new s side i = let r = ((f.arrives a (entry s side)).0 (record { is_in = i })).0 in by r
        where
          by : Arrives c t a (entry s side) → Walk c t covered (suc m) s side
          by r = let e = sites_same s r.site side r.side (r.comes).number in let k = sides s r.site side r.side (r.comes).number in
              goes m s near_a.site side near_a.side (subst (IsDecisionSite c) (sym e) (r.decision).is_site)
              (record { at = r.from; decides = subst (DecidesAt c t r.from) (sym e) (r.decision).decides; start = a; leads = subst (λ b. OutcomeLeadsTo t r.from b a) (sym k) (r.comes).leads; to = near_a.to; flows = near_a.flows; next = near_a.decides })
              near_a.walk

      pub layer_more : Layer c t covered m d_new p_new o_new n_new
      layer_more = record {
        sites = g.size ∙ l.sites;
        places = h.size ∙ l.places;
        near = λ x i. elim (h.opened x i) [ inl j ↦ l.near x (in_left x rest (a ∷ []) j) | inr j ↦ near_before x ((f.edges a x).0 (record { is_in = j })).1 ];
        closed = closed;
        walks = λ s side k e. elim (g.given (entry s side) k e) [ inl j ↦ l.walks s side k j | inr j ↦ subst (λ q. Walk c t covered q s side) (sym j.1) (walk_new s side j.0) ];
        most = λ s side k e. elim (g.given (entry s side) k e) [ inl j ↦ l.most s side k j | inr j ↦ omega (arith, j.1) ];
        later = λ s side e. elim (g.given (entry s side) (suc m) e) [ inl j ↦ g.still (entry s side) (l.later s side j) | inr j ↦ j.2 ];
        comes = λ x i. elim (g.comes x i) [ inl j ↦ g.kept x (suc m) (l.comes x j) | inr j ↦ j.1 ];
        went = λ s side k at e q w. elim (g.given (entry s side) k e) [ inl j ↦ h.kept at (l.went s side k at j q w) | inr j ↦ absurd (omega (arith, j.1, q)) ];
        known = λ q s side w x. let r = l.known q s side w x in record { distance = r.distance; is = g.kept (entry s side) r.distance r.is; most = r.most };
      }

    -- a layer begins
    module _ (k : ℕ) (d : List (Option ℕ)) (p : List Bool) (n : List ℕ) (w : Found c t covered k d p n) (p_new : List Bool) (o_new : List ℕ) (h : Opens p [] p_new o_new (DecisionsOf decisions n)) where
      near_one : (a : ℕ) → DecisionsOf decisions n a → Near c t covered k a
      near_one a x = by ((f.decides (x.outcome / 2) a).0 x.has).1 (split_entry x.outcome)
        where
          by : IsDecision c t (x.outcome / 2) a → (side : Bool) × (x.outcome ≡ entry (x.outcome / 2) side) → Near c t covered k a
          by i (side, e) = record { to = a; site = x.outcome / 2; side = side; flows = here a; decides = i.decides; walk = w.walks (x.outcome / 2) side k (subst (λ y. slice_get d y ≡ Some (Some k)) e (w.comes x.outcome x.is_in)) }

      went_now : (s : ℕ) (side : Bool) (at : ℕ) → slice_get d (entry s side) ≡ Some (Some k) → IsDecision c t s at → IsPassed p_new at
      went_now s side at e i = h.all at
          (record { outcome = entry s side; is_in = w.later s side e; has = (f.decides (entry s side / 2) at).1 (decision_within at s i.decides, subst (λ y. IsDecision c t y at) (sym (half_entry s side)) i) })
          (subst (λ y. at < y) (sym w.places) (decision_within at s i.decides))

      pub layer_begins : Layer c t covered k d p_new o_new []
      layer_begins = record {
        sites = w.sites;
        places = h.size ∙ w.places;
        near = λ a i. elim (h.opened a i) [ inl j ↦ absurd j | inr j ↦ near_one a j ];
        closed = λ a i. elim (h.were a i) [
          | inl j ↦ inr (let r = w.closed a j in record { all_before = λ b e. h.kept b (r.all_before b e); all_outcomes = r.all_outcomes })
          | inr j ↦ inl j
        ];
        walks = w.walks;
        most = λ s side q e. let r = w.most s side q e in omega arith;
        later = λ s side e. let r = w.most s side (suc k) e in absurd (omega (arith, r));
        comes = λ o i. absurd i;
        went = λ s side q at e b i. went s side q at e (cases_lt q k) b i;
        known = w.known;
      }
        where
          went : (s : ℕ) (side : Bool) (q at : ℕ) → slice_get d (entry s side) ≡ Some (Some q) → (q < k) ⊎ (k ≤ q) → q ≤ k → IsDecision c t s at → IsPassed p_new at
          went s side q at e (inl b) _ i = h.kept at (w.went s side q at e b i)
          went s side q at e (inr b) a i = let z : q ≡ k = omega arith in went_now s side at (subst (λ y. slice_get d (entry s side) ≡ Some (Some y)) z e) i

  -- ---- a layer ends

  module _ (d : List (Option ℕ)) (p : List Bool) (closed : (a : ℕ) → IsPassed p a → Done c t covered d p a) where
    flows_back : (start to : ℕ) → Flows c t start to → IsPassed p to → IsPassed p start
    flows_back _ _ (here a) i = i
    flows_back _ _ (on at next to e q r) i = (closed next (flows_back next to r i)).all_before at (record { plain = e; leads = q })

    further : (n : ℕ) → ((s : ℕ) (side : Bool) (k at : ℕ) → slice_get d (entry s side) ≡ Some (Some k) → k ≤ n → IsDecision c t s at → IsPassed p at) →
        ((s : ℕ) (side : Bool) → Walk c t covered n s side → Within c t covered n d (entry s side)) →
        ((s : ℕ) (side : Bool) (k : ℕ) → slice_get d (entry s side) ≡ Some (Some k) → k ≤ suc n) →
        (s : ℕ) (side : Bool) → Walk c t covered (suc n) s side → Within c t covered (suc n) d (entry s side)
    further n went known most s side w = by (suc n) s side w refl
      where
        site_of : (q s : ℕ) (side : Bool) → Walk c t covered q s side → IsDecisionSite c s
        site_of _ _ _ (ends s side i u) = i
        site_of _ _ _ (goes q s later side outcome i x w) = i

        by : (q s : ℕ) (side : Bool) → Walk c t covered q s side → q ≡ suc n → Within c t covered (suc n) d (entry s side)
        by _ _ _ (ends s side i u) e = absurd (omega (arith, e))
        by _ _ _ (goes q s later side outcome i x w) e = record { distance = given.distance; is = given.is; most = most s side given.distance given.is }
          where
            walk : Walk c t covered n later outcome
            walk = let z : q ≡ n = omega (arith, e) in subst (λ y. Walk c t covered y later outcome) z w

            near : Within c t covered n d (entry later outcome)
            near = known later outcome walk

            to_passed : IsPassed p x.to
            to_passed = went later outcome near.distance x.to near.is near.most (record { is_site = site_of n later outcome walk; decides = x.next })

            given : HasDistance d (entry s side)
            given = (closed x.start (flows_back x.start x.to x.flows to_passed)).all_outcomes (entry s side)
                (record { from = x.at; site = s; side = side; decision = record { is_site = i; decides = x.decides }; comes = record { leads = x.leads; number = refl } })

  pub layer_ends : (k : ℕ) (d : List (Option ℕ)) (p : List Bool) (n : List ℕ) → Layer c t covered k d p [] n → Found c t covered (suc k) d p n
  layer_ends k d p n l = record {
    sites = l.sites;
    places = l.places;
    closed = closed;
    walks = l.walks;
    most = l.most;
    later = l.later;
    comes = l.comes;
    went = λ s side q at e h i. let b : q ≤ k = omega arith in l.went s side q at e b i;
    known = λ q s side h w. by q s side (cases_lt q (suc k)) h w;
  }
    where
      closed : (a : ℕ) → IsPassed p a → Done c t covered d p a
      closed a i = elim (l.closed a i) [ inl j ↦ absurd j | inr j ↦ j ]

      by : (q s : ℕ) (side : Bool) → (q < suc k) ⊎ (suc k ≤ q) → q ≤ suc k → Walk c t covered q s side → Within c t covered q d (entry s side)
      by q s side (inl a) h w = let b : q ≤ k = omega arith in l.known q s side b w
      by q s side (inr a) h w = let e : q ≡ suc k = omega arith in
          subst (λ y. Within c t covered y d (entry s side)) (sym e)
          (further d p closed k l.went (λ r b x. l.known k r b (omega arith) x) l.most s side (subst (λ y. Walk c t covered y s side) e w))

  -- nothing comes next
  module _ (k : ℕ) (d : List (Option ℕ)) (p : List Bool) (w : Found c t covered k d p []) where
    went_all : (s : ℕ) (side : Bool) (q at : ℕ) → slice_get d (entry s side) ≡ Some (Some q) → IsDecision c t s at → IsPassed p at
    went_all s side q at e i = by (cases_lt q k)
      where
        by : (q < k) ⊎ (k ≤ q) → IsPassed p at
        by (inl h) = w.went s side q at e h i
        by (inr h) = let r = w.most s side q e in let z : q ≡ k = omega arith in absurd (w.later s side (subst (λ y. slice_get d (entry s side) ≡ Some (Some y)) z e))

    known_more : (n : ℕ) → ((s : ℕ) (side : Bool) → Walk c t covered n s side → Within c t covered n d (entry s side)) → (s : ℕ) (side : Bool) → Walk c t covered (suc n) s side → Within c t covered (suc n) d (entry s side)
    known_more n known s side x = by (cases_lt k (suc n))
      where
        by : (k < suc n) ⊎ (suc n ≤ k) → Within c t covered (suc n) d (entry s side)
        by (inr h) = w.known (suc n) s side h x
        by (inl h) = further d p w.closed n (λ r b q at e g i. went_all r b q at e i) known (λ r b q e. let y = w.most r b q e in omega arith) s side x

    known_all : (n s : ℕ) (side : Bool) → Walk c t covered n s side → Within c t covered n d (entry s side)
    known_all zero s side x = w.known 0 s side (omega arith) x
    known_all (suc n) s side x = known_more n (λ r b z. known_all n r b z) s side x

    pub are_distances : AreDistances c t covered d
    are_distances = record { all = w.sites; each = λ s side v e. each s side v e }
      where
        each : (s : ℕ) (side : Bool) (v : Option ℕ) → slice_get d (entry s side) ≡ Some v → IsDistance c t covered s side v
        each s side None e = λ n x. let r = known_all n s side x in absurd (cc (r.is, e))
        each s side (Some q) e = (w.walks s side q e, λ n x. let r = known_all n s side x in let z : r.distance ≡ q = cc (r.is, e) in subst (λ y. y ≤ n) z r.most)

-- ---- the first outcomes

pub found_first : (c : Checked) (t : Tac) (covered : List Bool) (d : List (Option ℕ)) (p : List Bool) (n : List ℕ) → length covered ≡ 2 * length c.sites → Starts c covered (length covered) d n →
    ((a : ℕ) → IsPassed p a → ⊥) → length p ≡ length t.code → Found c t covered 0 d p n
found_first c t covered d p n h w none size = record {
  sites = w.size ∙ h;
  places = size;
  closed = λ a i. absurd (none a i);
  walks = λ s side q e. let r = w.given (entry s side) q e in subst (λ y. Walk c t covered y s side) (sym r.0) (ends s side (subst (IsDecisionSite c) (half_entry s side) (r.1).is_site) (r.1).is_not);
  most = λ s side q e. let r = w.given (entry s side) q e in omega (arith, r.0);
  later = λ s side e. w.later (entry s side) e;
  comes = w.comes;
  went = λ s side q at e i z. absurd (omega (arith, i));
  known = λ q s side i x. by q s side x (omega arith);
}
  where
    by : (q s : ℕ) (side : Bool) → Walk c t covered q s side → q ≡ 0 → Within c t covered q d (entry s side)
    by _ _ _ (ends s side i u) e = record { distance = 0; is = w.all (entry s side) (slice_get_within covered (entry s side) false u) (record { is_site = subst (IsDecisionSite c) (sym (half_entry s side)) i; is_not = u }); most = omega arith }
    by _ _ _ (goes q s later side outcome i x y) e = absurd (omega (arith, e))

-- ---- passing, whatever the code

module _ (before outcomes decisions : List (List ℕ)) (k : ℕ) (d : List (Option ℕ)) (p : List Bool) (o n : List ℕ) where
  pub passing_none : Passing before outcomes decisions k d p o n d p o n
  passing_none = record { layer = λ c t covered m e f l. l; fewer = refl }

  pub passing_more : (d1 : List (Option ℕ)) (p1 : List Bool) (o1 n1 rest : List ℕ) (a : ℕ) (r s : List ℕ) (d2 : List (Option ℕ)) (p2 : List Bool) (o2 n2 : List ℕ) →
      Passing before outcomes decisions k d p o n d1 p1 o1 n1 → o1 ≡ rest ++ a ∷ [] → r ≡ row outcomes a → s ≡ row before a →
      Gives k d1 n1 d2 n2 (λ x. In x r) → Opens p1 rest p2 o2 (λ x. In x s) → Passing before outcomes decisions k d p o n d2 p2 o2 n2
  passing_more d1 p1 o1 n1 rest a r s d2 p2 o2 n2 x e u v g h = record { layer = layer; fewer = g.fewer ∙ x.fewer }
    where
      layer : (c : Checked) (t : Tac) (covered : List Bool) (m : ℕ) → k ≡ suc m → FlowUpTo c t (length t.code) before outcomes decisions → Layer c t covered m d p o n → Layer c t covered m d2 p2 o2 n2
      layer c t covered m z f l = layer_more c t covered before outcomes decisions f m d1 p1 o1 n1 rest a (subst (λ y. Layer c t covered m d1 p1 y n1) e (x.layer c t covered m z f l)) d2 p2 o2 n2
          (subst (λ y. Gives (suc m) d1 n1 d2 n2 (λ w. In w y)) u (subst (λ y. Gives y d1 n1 d2 n2 (λ w. In w r)) z g)) (subst (λ y. Opens p1 rest p2 o2 (λ w. In w y)) v h)

-- ---- one layer

pub layer_over : (c : Checked) (t : Tac) (covered : List Bool) (before outcomes decisions : List (List ℕ)) → FlowUpTo c t (length t.code) before outcomes decisions →
    (k : ℕ) (d : List (Option ℕ)) (p : List Bool) (n : List ℕ) → Found c t covered k d p n → (p1 : List Bool) (o o1 none : List ℕ) (d2 : List (Option ℕ)) (p2 : List Bool) (o2 n2 : List ℕ) →
    o ≡ [] → none ≡ [] → o2 ≡ [] → Opens p o p1 o1 (DecisionsOf decisions n) → Passing before outcomes decisions (k + 1) d p1 o1 none d2 p2 o2 n2 → Found c t covered (k + 1) d2 p2 n2
layer_over c t covered before outcomes decisions f k d p n w p1 o o1 none d2 p2 o2 n2 e g h x y =
    subst (λ z. Found c t covered z d2 p2 n2) (sym m) (layer_ends c t covered k d2 p2 n2
    (subst (λ z. Layer c t covered k d2 p2 z n2) h (y.layer c t covered k m f (subst (λ z. Layer c t covered k d p1 o1 z) (sym g) (layer_begins c t covered before outcomes decisions f k d p n w p1 o1 (subst (λ z. Opens p z p1 o1 (DecisionsOf decisions n)) e x))))))
  where
    m : k + 1 ≡ suc k
    m = omega arith

-- the last one
pub all_found : (c : Checked) (t : Tac) (covered : List Bool) (k : ℕ) (d : List (Option ℕ)) (p : List Bool) (n : List ℕ) → n ≡ [] → Found c t covered k d p n → AreDistances c t covered d
all_found c t covered k d p n e w = are_distances c t covered k d p (subst (Found c t covered k d p) e w)
