-- Chains of nodes, and writes that leave them.
use Rattle.std.proofs.Common.{◌≡◌, ◌≢◌, ℕ, zero, suc, ◌+◌, ◌*◌, ◌<◌, ◌≤◌, ◌⊎◌, inl, inr, List, [], ◌∷◌, ◌++◌, length, length-append, map, Option, Some, None, refl, sym, ap, ap₂, ◌∙◌, subst, arith, get_or}
use Rattle.std.proofs.Math.ListN.{set}
use Rattle.std.proofs.lemmas.List.{get_or-set_same, get_or-set_other, length-set, length-map, get_or_append_left, length_push, get_or_push}
use Rattle.std.proofs.lemmas.Bool.Decides.{nat_tests}
use Rattle.cc_base.specs.declared.outcomes.Outcome.{Outcome}
use Rattle.path_tree.specs.declared.Node.{Node}
use Rattle.path_tree.specs.Branches.{unsettled}
use Rattle.path_tree.specs.Nodes.{blank, node_at, siblings, levels_up, Chain, Places, Up, spelled, same, times, times_up, used, WellFormed, Shows}

-- an index stands once at itself
pub same_self : (k : ℕ) → same k k ≡ 1
unfolding same
same_self k = grind (arith, nat_tests)

-- other indexes do not stand there
pub differ : (k i : ℕ) → i < k → same k i ≡ 0
unfolding same
differ k i h = grind (arith, nat_tests)

-- an index stands there or it is not that one
pub known : (k i : ℕ) → (same k i ≡ 0) ⊎ ((k ≡ i) × (same k i ≡ 1))
unfolding same
known k i = grind (arith, nat_tests)

-- an index that does not stand there is another
pub apart : (k i : ℕ) → same k i ≡ 0 → i ≢ k
apart k i h e = omega (arith, same_self k, h, ap (λ (x : ℕ). same k x) e)

pub at_same : (ns : List Node) (j : ℕ) (v : Node) → j < length ns → node_at (set ns j v) j ≡ v
at_same ns j v h = get_or-set_same ns j v blank h

pub at_other : (ns : List Node) (j k : ℕ) (v : Node) → k ≢ j → node_at (set ns j v) k ≡ node_at ns k
at_other ns j k v h = get_or-set_other ns j k v blank h

-- a write outside a chain leaves the chain
pub chain_kept : (ns : List Node) (j : ℕ) (v : Node) (link : Option ℕ) (is : List ℕ) → Chain ns link is → times j is ≡ 0 → Chain (set ns j v) link is
chain_kept ns j v link [] h e = h
chain_kept ns j v link (i ∷ is) h e =
    let other : i ≢ j = apart j i (omega (arith, e)) in
    let rest : times j is ≡ 0 = omega (arith, e) in
    let inside : i < length (set ns j v) = omega (arith, length-set ns j v, h.1) in
    (h.0, inside, subst (λ (n : Node). Chain (set ns j v) n.next_sibling is) (sym (at_other ns j i v other)) (chain_kept ns j v _ is h.2 rest))

-- and its outcomes
pub outcomes_kept : (ns : List Node) (j : ℕ) (v : Node) (is : List ℕ) → times j is ≡ 0 → map (λ i. (node_at (set ns j v) i).outcome) is ≡ map (λ i. (node_at ns i).outcome) is
outcomes_kept ns j v [] e = refl
outcomes_kept ns j v (i ∷ is) e =
    let other : i ≢ j = apart j i (omega (arith, e)) in
    let rest : times j is ≡ 0 = omega (arith, e) in
    ap₂ (λ (n : Node) (os : List Outcome). n.outcome ∷ os) (at_other ns j i v other) (outcomes_kept ns j v is rest)

-- a write outside the levels leaves the levels
pub up_kept : (ns : List Node) (j : ℕ) (v : Node) (link : Option ℕ) (ls : List Places) → Up ns link ls → times_up j ls ≡ 0 → Up (set ns j v) link ls
up_kept ns j v link [] h e = h
up_kept ns j v link (l ∷ ls) h e =
    let other : l.own ≢ j = apart j l.own (omega (arith, e)) in
    let here : times j l.outcomes ≡ 0 = omega (arith, e) in
    let above : times_up j ls ≡ 0 = omega (arith, e) in
    let inside : l.own < length (set ns j v) = omega (arith, length-set ns j v, h.1) in (
      h.0,
      inside,
      subst (λ (n : Node). Chain (set ns j v) n.first_child l.outcomes) (sym (at_other ns j l.own v other)) (chain_kept ns j v _ l.outcomes h.2 here),
      subst (λ (n : Node). Up (set ns j v) n.parent ls) (sym (at_other ns j l.own v other)) (up_kept ns j v _ ls h.3 above),
    )

pub spelled_kept : (ns : List Node) (j : ℕ) (v : Node) (ls : List Places) → times_up j ls ≡ 0 → spelled (set ns j v) ls ≡ spelled ns ls
spelled_kept ns j v [] e = refl
spelled_kept ns j v (l ∷ ls) e =
    let here : times j l.outcomes ≡ 0 = omega (arith, e) in
    let above : times_up j ls ≡ 0 = omega (arith, e) in
    ap₂ (λ (os : List Outcome) (rest : List (List Outcome)). os ∷ rest) (outcomes_kept ns j v l.outcomes here) (spelled_kept ns j v ls above)

-- what a walk along a chain reads
pub siblings_are : (n : ℕ) (ns : List Node) (link : Option ℕ) (is : List ℕ) → Chain ns link is → length is ≤ n → siblings n ns link ≡ map (λ i. (node_at ns i).outcome) is
siblings_are zero ns link [] h b = refl
siblings_are zero ns link (i ∷ is) h b = absurd (omega (arith, b))
siblings_are (suc n) ns link [] h b = ap (λ (l : Option ℕ). siblings (suc n) ns l) h
siblings_are (suc n) ns link (i ∷ is) h b =
    let few : length is ≤ n = omega (arith, b) in
    ap (λ (l : Option ℕ). siblings (suc n) ns l) h.0 ∙ ap (λ (os : List Outcome). (node_at ns i).outcome ∷ os) (siblings_are n ns _ is h.2 few)

-- what a walk up the levels reads
pub levels_are : (n : ℕ) (ns : List Node) (link : Option ℕ) (ls : List Places) → Up ns link ls → used ls ≤ n → used ls ≤ length ns → levels_up n ns link ≡ spelled ns ls
levels_are zero ns link [] h b c = refl
levels_are zero ns link (l ∷ ls) h b c = absurd (omega (arith, b))
levels_are (suc n) ns link [] h b c = ap (λ (l : Option ℕ). levels_up (suc n) ns l) h
levels_are (suc n) ns link (l ∷ ls) h b c =
    let few : length l.outcomes ≤ length ns = omega (arith, c) in
    let less : used ls ≤ n = omega (arith, b) in
    let fewer : used ls ≤ length ns = omega (arith, c) in
    ap (λ (k : Option ℕ). levels_up (suc n) ns k) h.0
    ∙ ap₂ (λ (os : List Outcome) (rest : List (List Outcome)). os ∷ rest) (siblings_are (length ns) ns _ l.outcomes h.2 few) (levels_are n ns _ ls h.3 less fewer)

-- the levels that nodes stand for are those that a walk reads
pub shown : (ns : List Node) (d f : Option ℕ) (m n k : ℕ) (ls : List (List Outcome)) → Shows ns d f m n k ls → levels_up (length ns) ns d ≡ ls
shown ns d f m n k ls s =
    let few : used s.standing ≤ length ns = omega (arith, s.whole) in
    levels_are (length ns) ns d s.standing s.chained few few ∙ s.spells

-- how many nodes levels use
pub used_is : (ns : List Node) (ls : List Places) → used ls ≡ length (spelled ns ls) + unsettled (spelled ns ls)
used_is ns [] = refl
used_is ns (l ∷ ls) = omega (arith, used_is ns ls, length-map l.outcomes (λ i. (node_at ns i).outcome))

pub unsettled_few : (ls : List (List Outcome)) → WellFormed ls → unsettled ls ≤ 29 * length ls
unsettled_few [] h = omega arith
unsettled_few (os ∷ ls) h = omega (arith, unsettled_few ls h.2, h.1)

-- a chain that goes on from an index
pub head_of : (ns : List Node) (link : Option ℕ) (is : List ℕ) (at : ℕ) → Chain ns link is → link ≡ Some at → (rest : List ℕ) × Chain ns link (at ∷ rest) × (is ≡ at ∷ rest)
head_of ns link [] at h e = absurd (cc (h, e))
head_of ns link (i ∷ is) at h e =
    let q : i ≡ at = cc (h.0, e) in
    (is, subst (λ (x : ℕ). Chain ns link (x ∷ is)) q h, ap (λ (x : ℕ). x ∷ is) q)

-- what is known of the deepest level and the levels above it
pub record Deepest (ns : List Node) (d : Option ℕ) (lv : ℕ) (spare : List ℕ) (ls : List (List Outcome)) : Type 0 where
  pub outcomes : List ℕ
  pub above : List Places
  pub chained : Up ns d (record { own = lv; outcomes = outcomes } ∷ above)
  pub apart_all : (j : ℕ) → same j lv + times j outcomes + times_up j above + times j spare ≤ 1
  pub whole : 1 + length outcomes + used above + length spare ≡ length ns
  pub spells : map (λ i. (node_at ns i).outcome) outcomes ∷ spelled ns above ≡ ls

pub deepest_of : (ns : List Node) (d : Option ℕ) (lv : ℕ) (spare : List ℕ) (ls : List (List Outcome)) (standing : List Places) → d ≡ Some lv → Up ns d standing → ((j : ℕ) → times_up j standing + times j spare ≤ 1)
    → used standing + length spare ≡ length ns → spelled ns standing ≡ ls → Deepest ns d lv spare ls
deepest_of ns d lv spare ls [] e h a w s = absurd (cc (h, e))
deepest_of ns d lv spare ls (l ∷ above) e h a w s =
    let q : l.own ≡ lv = cc (h.0, e) in
    subst (λ (x : ℕ). Deepest ns d x spare ls) q (record { outcomes = l.outcomes; above = above; chained = h; apart_all = a; whole = w; spells = s })

pub deepest : (ns : List Node) (d f : Option ℕ) (m n k : ℕ) (ls : List (List Outcome)) (lv : ℕ) → (s : Shows ns d f m n k ls) → d ≡ Some lv → Deepest ns d lv s.spare ls
deepest ns d f m n k ls lv s e = deepest_of ns d lv s.spare ls s.standing e s.chained s.apart s.whole s.spells

-- the nodes are one chain of free nodes
pub record Spare (ns : List Node) (link : Option ℕ) : Type 0 where
  pub spare : List ℕ
  pub chained : Chain ns link spare
  pub apart_all : (j : ℕ) → times j spare ≤ 1
  pub whole : length spare ≡ length ns

-- an index past the nodes stands in no chain
past : (ns : List Node) (link : Option ℕ) (is : List ℕ) (j : ℕ) → Chain ns link is → length ns ≤ j → times j is ≡ 0
past ns link [] j h b = refl
past ns link (i ∷ is) j h b = omega (arith, past ns _ is j h.2 b, differ j i (omega (arith, b, h.1)))

-- one node more leaves a chain
chain_wide : (ns ms : List Node) (link : Option ℕ) (is : List ℕ) → Chain ns link is → Chain (ns ++ ms) link is
chain_wide ns ms link [] h = h
chain_wide ns ms link (i ∷ is) h =
    (h.0, omega (arith, h.1, length-append ns ms), subst (λ (n : Node). Chain (ns ++ ms) n.next_sibling is) (sym (get_or_append_left ns ms blank i h.1)) (chain_wide ns ms _ is h.2))

pub spare_none : Spare [] None
spare_none = record { spare = []; chained = refl; apart_all = λ j. omega arith; whole = refl }

pub spare_more : (ns : List Node) (link : Option ℕ) (v : Node) (n : ℕ) → Spare ns link → v.next_sibling ≡ link → length ns ≡ n → Spare (ns ++ v ∷ []) (Some n)
spare_more ns link v n s e w =
    let wide : length (ns ++ v ∷ []) ≡ length ns + 1 = length_push ns v in
    let last : get_or (ns ++ v ∷ []) n blank ≡ v = get_or_push ns v blank n w in
    record {
      spare = n ∷ s.spare;
      chained = (refl, omega (arith, wide, w), subst (λ (l : Option ℕ). Chain (ns ++ v ∷ []) l s.spare) (sym (ap (λ (x : Node). x.next_sibling) last ∙ e)) (chain_wide ns (v ∷ []) link s.spare s.chained));
      apart_all = λ j. once j;
      whole = omega (arith, wide, s.whole);
    }
  where
    once : (j : ℕ) → same j n + times j s.spare ≤ 1
    once j = elim (known j n) [ inl q ↦ omega (arith, q, s.apart_all j) | inr q ↦ omega (arith, q.1, past ns link s.spare j s.chained (omega (arith, q.0, w))) ]

-- free nodes stand for no level
pub fresh : (ns : List Node) (f : Option ℕ) (m : ℕ) → Spare ns f → length ns ≡ 30 * m → m ≤ 1025 → Shows ns None f m 0 0 []
fresh ns f m s w b = record {
  standing = [];
  spare = s.spare;
  chained = refl;
  freed = s.chained;
  apart = λ j. omega (arith, s.apart_all j);
  whole = omega (arith, s.whole);
  spells = refl;
  fits = tt;
  room = w;
  deep = refl;
  within = omega arith;
  alive = refl;
  small = b;
}
