-- What each step of a tree leaves.
use Rattle.std.proofs.Common.{◌≡◌, ◌≢◌, ℕ, ◌+◌, ◌*◌, ◌-◌, ◌<◌, ◌≤◌, inr, List, [], ◌∷◌, length, map, Option, Some, None, IsSome, refl, sym, ap, ap₂, ◌∙◌, subst, arith, get_or}
use Rattle.std.proofs.Math.ListN.{set}
use Rattle.std.proofs.lemmas.List.{length-set, get_or_read}
use Rattle.cc_base.specs.declared.outcomes.Outcome.{Outcome}
use Rattle.path_tree.specs.declared.Node.{Node}
use Rattle.path_tree.specs.Branches.{Branches, unsettled, HasRoom, with_least, NoneOpen, IsLeast, EachAscends, Below}
use Rattle.path_tree.specs.Nodes.{blank, node_at, levels_up, Chain, Places, Up, spelled, same, times, times_up, used, WellFormed, Shows}
use Rattle.path_tree.proofs.Chains.{same_self, apart, at_same, at_other, chain_kept, outcomes_kept, up_kept, spelled_kept, shown, used_is, unsettled_few, head_of, deepest}

-- a free node is there where the levels leave one
pub free_some : (ns : List Node) (d f : Option ℕ) (m n k : ℕ) (ls : List (List Outcome)) → Shows ns d f m n k ls → length ls + unsettled ls < 30 * m → IsSome f
free_some ns d f m n k ls s h = some s.spare s.freed s.whole
  where
    few : used s.standing < length ns
    few = omega (arith, h, s.room, used_is ns s.standing, ap length s.spells, ap unsettled s.spells)

    some : (spare : List ℕ) → Chain ns f spare → used s.standing + length spare ≡ length ns → IsSome f
    some [] c w = absurd (omega (arith, few, w))
    some (i ∷ is) c w = subst (λ (x : Option ℕ). IsSome x) (sym c.0) refl

pub room_for_level : (ns : List Node) (d f : Option ℕ) (m n k : ℕ) (ls : List (List Outcome)) → Shows ns d f m n k ls → length ls < m → length ls + unsettled ls < 30 * m
room_for_level ns d f m n k ls s h = omega (arith, h, unsettled_few ls s.fits)

-- a level opened at a free node
pub opened : (ns : List Node) (d f : Option ℕ) (m n k : ℕ) (ls : List (List Outcome)) (at : ℕ) (r v : Node) → Shows ns d f m n k ls → f ≡ Some at → r ≡ node_at ns at → v.parent ≡ d → v.first_child ≡ None → length ls < m →
    Shows (set ns at v) (Some at) r.next_sibling m (n + 1) k ([] ∷ ls)
opened ns d f m n k ls at r v s e re vp vc lt =
    let p = head_of ns f s.spare at s.freed e in
    let apart_all : (j : ℕ) → times_up j s.standing + (same j at + times j p.0) ≤ 1 = λ j. subst (λ (l : List ℕ). times_up j s.standing + times j l ≤ 1) p.2 (s.apart j) in
    let whole : used s.standing + (1 + length p.0) ≡ length ns = omega (arith, s.whole, ap length p.2) in
    let here = apart_all at in
    let one = same_self at in
    let out : times_up at s.standing ≡ 0 = omega (arith, here, one) in
    let free : times at p.0 ≡ 0 = omega (arith, here, one) in
    let wide = length-set ns at v in
    let inside : at < length ns = (p.1).1 in
    let written = at_same ns at v inside in
    record {
      standing = record { own = at; outcomes = [] } ∷ s.standing;
      spare = p.0;
      chained = (
        refl,
        omega (arith, wide, inside),
        ap (λ (x : Node). x.first_child) written ∙ vc,
        subst (λ (l : Option ℕ). Up (set ns at v) l s.standing) (sym (ap (λ (x : Node). x.parent) written ∙ vp)) (up_kept ns at v d s.standing s.chained out),
      );
      freed = subst (λ (x : Node). Chain (set ns at v) x.next_sibling p.0) (sym re) (chain_kept ns at v _ p.0 (p.1).2 free);
      apart = λ j. omega (arith, apart_all j);
      whole = omega (arith, whole, wide);
      spells = ap (λ (l : List (List Outcome)). [] ∷ l) (spelled_kept ns at v s.standing out ∙ s.spells);
      fits = (tt, omega arith, s.fits);
      room = wide ∙ s.room;
      deep = omega (arith, s.deep);
      within = omega (arith, s.deep, lt);
      alive = omega (arith, s.alive);
      small = s.small;
    }

head_is : (A B : List Outcome) (l m : List (List Outcome)) → A ∷ l ≡ B ∷ m → A ≡ B
head_is A B l m e = cc e

tail_is : (A B : List Outcome) (l m : List (List Outcome)) → A ∷ l ≡ B ∷ m → l ≡ m
tail_is A B l m e = cc e

-- an outcome put first in the deepest level
pub added : (ns : List Node) (d f : Option ℕ) (m n k : ℕ) (ls : List (List Outcome)) (lv at : ℕ) (a b v c w : Node) (o : Outcome) → Shows ns d f m n k ls → d ≡ Some lv → f ≡ Some at → a ≡ node_at ns lv → b ≡ node_at ns at →
    v.outcome ≡ o → v.next_sibling ≡ a.first_child → c ≡ node_at (set ns at v) lv → w.first_child ≡ Some at → w.parent ≡ c.parent → HasRoom o ls →
    Shows (set (set ns at v) lv w) d b.next_sibling m n (k + 1) (with_least o ls)
added ns d f m n k ls lv at a b v c w o s ed ef ea eb vo vn ec wf wp (os, rest, shape, few, below) =
    let q = deepest ns d f m n k ls lv s ed in
    let p = head_of ns f s.spare at s.freed ef in
    let fs : List ℕ = p.0 in
    let is : List ℕ = q.outcomes in
    let up : List Places = q.above in
    let apart_all : (j : ℕ) → same j lv + times j is + times_up j up + (same j at + times j fs) ≤ 1 = λ j. subst (λ (l : List ℕ). same j lv + times j is + times_up j up + times j l ≤ 1) p.2 (q.apart_all j) in
    let whole : 1 + length is + used up + (1 + length fs) ≡ length ns = omega (arith, q.whole, ap length p.2) in
    let at_node = apart_all at in
    let at_level = apart_all lv in
    let one = same_self at in
    let two = same_self lv in
    let node_free : times at fs ≡ 0 = omega (arith, at_node, one) in
    let node_is : times at is ≡ 0 = omega (arith, at_node, one) in
    let node_up : times_up at up ≡ 0 = omega (arith, at_node, one) in
    let level_free : times lv fs ≡ 0 = omega (arith, at_level, two) in
    let level_is : times lv is ≡ 0 = omega (arith, at_level, two) in
    let level_up : times_up lv up ≡ 0 = omega (arith, at_level, two) in
    let other : lv ≢ at = apart at lv (omega (arith, at_node, one)) in
    let other' : at ≢ lv = apart lv at (omega (arith, at_level, two)) in
    let ns1 : List Node = set ns at v in
    let ns2 : List Node = set ns1 lv w in
    let wide1 : length ns1 ≡ length ns = length-set ns at v in
    let wide2 : length ns2 ≡ length ns1 = length-set ns1 lv w in
    let inside_at : at < length ns = (p.1).1 in
    let inside_lv : lv < length ns = (q.chained).1 in
    let read_lv : node_at ns2 lv ≡ w = at_same ns1 lv w (omega (arith, inside_lv, wide1)) in
    let read_at : node_at ns2 at ≡ v = at_other ns1 lv at w other' ∙ at_same ns at v inside_at in
    let old_lv : node_at ns1 lv ≡ node_at ns lv = at_other ns at lv v other in
    let first : v.next_sibling ≡ (node_at ns lv).first_child = vn ∙ ap (λ (x : Node). x.first_child) ea in
    let parent : (node_at ns2 lv).parent ≡ (node_at ns lv).parent = ap (λ (x : Node). x.parent) read_lv ∙ wp ∙ ap (λ (x : Node). x.parent) (ec ∙ old_lv) in
    let chain_is : Chain ns2 (node_at ns lv).first_child is = chain_kept ns1 lv w _ is (chain_kept ns at v _ is (q.chained).2 node_is) level_is in
    let spelt : map (λ i. (node_at ns i).outcome) is ∷ spelled ns up ≡ os ∷ rest = q.spells ∙ shape in
    let below_is : map (λ i. (node_at ns2 i).outcome) is ≡ os = outcomes_kept ns1 lv w is level_is ∙ outcomes_kept ns at v is node_is ∙ head_is _ _ _ _ spelt in
    let above_is : spelled ns2 up ≡ rest = spelled_kept ns1 lv w up level_up ∙ spelled_kept ns at v up node_up ∙ tail_is _ _ _ _ spelt in
    let fits : WellFormed (os ∷ rest) = subst (λ (l : List (List Outcome)). WellFormed l) shape s.fits in
    let deep : n ≡ length (os ∷ rest) = s.deep ∙ ap length shape in
    let alive : k ≡ unsettled (os ∷ rest) = s.alive ∙ ap unsettled shape in
    let made : Shows ns2 d b.next_sibling m n (k + 1) ((o ∷ os) ∷ rest) = record {
      standing = record { own = lv; outcomes = at ∷ is } ∷ up;
      spare = fs;
      chained = (
        ed,
        omega (arith, wide1, wide2, inside_lv),
        (
          ap (λ (x : Node). x.first_child) read_lv ∙ wf,
          omega (arith, wide1, wide2, inside_at),
          subst (λ (l : Option ℕ). Chain ns2 l is) (sym (ap (λ (x : Node). x.next_sibling) read_at ∙ first)) chain_is,
        ),
        subst (λ (l : Option ℕ). Up ns2 l up) (sym parent) (up_kept ns1 lv w _ up (up_kept ns at v _ up (q.chained).3 node_up) level_up),
      );
      freed = subst (λ (x : Node). Chain ns2 x.next_sibling fs) (sym eb) (chain_kept ns1 lv w _ fs (chain_kept ns at v _ fs (p.1).2 node_free) level_free);
      apart = λ j. omega (arith, apart_all j);
      whole = omega (arith, whole, wide1, wide2);
      spells = ap₂ (λ (x : List Outcome) (y : List (List Outcome)). x ∷ y) (ap₂ (λ (x : Outcome) (y : List Outcome). x ∷ y) (ap (λ (x : Node). x.outcome) read_at ∙ vo) below_is) above_is;
      fits = ((below, fits.0), omega (arith, few), fits.2);
      room = omega (arith, wide1, wide2, s.room);
      deep = omega (arith, deep);
      within = s.within;
      alive = omega (arith, alive);
      small = s.small;
    } in
    subst (λ (l : List (List Outcome)). Shows ns2 d b.next_sibling m n (k + 1) l) (sym (ap (λ (l : List (List Outcome)). with_least o l) shape)) made

-- the outcomes of a level that is not empty begin where its chain does
begins : (ns : List Node) (link : Option ℕ) (is : List ℕ) (o : Outcome) (os : List Outcome) → Chain ns link is → map (λ i. (node_at ns i).outcome) is ≡ o ∷ os → IsSome link
begins ns link [] o os h e = absurd (cc e)
begins ns link (i ∷ is) o os h e = subst (λ (x : Option ℕ). IsSome x) (sym h.0) refl

-- the least outcome taken off the deepest level
pub taken : (ns : List Node) (d f : Option ℕ) (m n k : ℕ) (ls : List (List Outcome)) (lv at : ℕ) (a b w c v : Node) (o : Outcome) (os : List Outcome) (rest : List (List Outcome)) → Shows ns d f m n k ls → d ≡ Some lv →
    a ≡ node_at ns lv → a.first_child ≡ Some at → b ≡ node_at ns at → w.first_child ≡ b.next_sibling → w.parent ≡ a.parent → c ≡ node_at (set ns lv w) at → v.next_sibling ≡ f → ls ≡ (o ∷ os) ∷ rest →
    Shows (set (set ns lv w) at v) d (Some at) m n (k - 1) (os ∷ rest) × (b.outcome ≡ o)
taken ns d f m n k ls lv at a b w c v o os rest s ed ea af eb wf wp ec vn shape =
    let q = deepest ns d f m n k ls lv s ed in
    let p = head_of ns (node_at ns lv).first_child q.outcomes at (q.chained).2 (sym (ap (λ (x : Node). x.first_child) ea) ∙ af) in
    let is : List ℕ = p.0 in
    let fs : List ℕ = s.spare in
    let up : List Places = q.above in
    let apart_all : (j : ℕ) → same j lv + (same j at + times j is) + times_up j up + times j fs ≤ 1 = λ j. subst (λ (l : List ℕ). same j lv + times j l + times_up j up + times j fs ≤ 1) p.2 (q.apart_all j) in
    let whole : 1 + (1 + length is) + used up + length fs ≡ length ns = omega (arith, q.whole, ap length p.2) in
    let at_node = apart_all at in
    let at_level = apart_all lv in
    let one = same_self at in
    let two = same_self lv in
    let node_free : times at fs ≡ 0 = omega (arith, at_node, one) in
    let node_is : times at is ≡ 0 = omega (arith, at_node, one) in
    let node_up : times_up at up ≡ 0 = omega (arith, at_node, one) in
    let level_free : times lv fs ≡ 0 = omega (arith, at_level, two) in
    let level_is : times lv is ≡ 0 = omega (arith, at_level, two) in
    let level_up : times_up lv up ≡ 0 = omega (arith, at_level, two) in
    let other : lv ≢ at = apart at lv (omega (arith, at_node, one)) in
    let ns1 : List Node = set ns lv w in
    let ns2 : List Node = set ns1 at v in
    let wide1 : length ns1 ≡ length ns = length-set ns lv w in
    let wide2 : length ns2 ≡ length ns1 = length-set ns1 at v in
    let inside_at : at < length ns = (p.1).1 in
    let inside_lv : lv < length ns = (q.chained).1 in
    let read_lv : node_at ns2 lv ≡ w = at_other ns1 at lv v other ∙ at_same ns lv w inside_lv in
    let read_at : node_at ns2 at ≡ v = at_same ns1 at v (omega (arith, inside_at, wide1)) in
    let next : w.first_child ≡ (node_at ns at).next_sibling = wf ∙ ap (λ (x : Node). x.next_sibling) eb in
    let parent : (node_at ns2 lv).parent ≡ (node_at ns lv).parent = ap (λ (x : Node). x.parent) read_lv ∙ wp ∙ ap (λ (x : Node). x.parent) ea in
    let chain_is : Chain ns2 (node_at ns at).next_sibling is = chain_kept ns1 at v _ is (chain_kept ns lv w _ is (p.1).2 level_is) node_is in
    let chain_free : Chain ns2 f fs = chain_kept ns1 at v f fs (chain_kept ns lv w f fs s.freed level_free) node_free in
    let spelt : ((node_at ns at).outcome ∷ map (λ i. (node_at ns i).outcome) is) ∷ spelled ns up ≡ (o ∷ os) ∷ rest = subst (λ (l : List ℕ). map (λ i. (node_at ns i).outcome) l ∷ spelled ns up ≡ ls) p.2 q.spells ∙ shape in
    let first_is : (node_at ns at).outcome ≡ o = cc spelt in
    let then_is : map (λ i. (node_at ns i).outcome) is ≡ os = cc spelt in
    let below_is : map (λ i. (node_at ns2 i).outcome) is ≡ os = outcomes_kept ns1 at v is node_is ∙ outcomes_kept ns lv w is level_is ∙ then_is in
    let above_is : spelled ns2 up ≡ rest = spelled_kept ns1 at v up node_up ∙ spelled_kept ns lv w up level_up ∙ tail_is _ _ _ _ spelt in
    let fits : WellFormed ((o ∷ os) ∷ rest) = subst (λ (l : List (List Outcome)). WellFormed l) shape s.fits in
    let few = fits.1 in
    let deep : n ≡ length ((o ∷ os) ∷ rest) = s.deep ∙ ap length shape in
    let alive : k ≡ unsettled ((o ∷ os) ∷ rest) = s.alive ∙ ap unsettled shape in (
      record {
        standing = record { own = lv; outcomes = is } ∷ up;
        spare = at ∷ fs;
        chained = (
          ed,
          omega (arith, wide1, wide2, inside_lv),
          subst (λ (l : Option ℕ). Chain ns2 l is) (sym (ap (λ (x : Node). x.first_child) read_lv ∙ next)) chain_is,
          subst (λ (l : Option ℕ). Up ns2 l up) (sym parent) (up_kept ns1 at v _ up (up_kept ns lv w _ up (q.chained).3 level_up) node_up),
        );
        freed = (refl, omega (arith, wide1, wide2, inside_at), subst (λ (l : Option ℕ). Chain ns2 l fs) (sym (ap (λ (x : Node). x.next_sibling) read_at ∙ vn)) chain_free);
        apart = λ j. omega (arith, apart_all j);
        whole = omega (arith, whole, wide1, wide2);
        spells = ap₂ (λ (x : List Outcome) (y : List (List Outcome)). x ∷ y) below_is above_is;
        fits = ((fits.0).1, omega (arith, few), fits.2);
        room = omega (arith, wide1, wide2, s.room);
        deep = omega (arith, deep);
        within = s.within;
        alive = omega (arith, alive);
        small = s.small;
      },
      ap (λ (x : Node). x.outcome) eb ∙ first_is,
    )

-- a level with nothing in it has no node below it
nothing : (ns : List Node) (is : List ℕ) → map (λ i. (node_at ns i).outcome) is ≡ [] → is ≡ []
nothing ns [] e = refl
nothing ns (i ∷ is) e = absurd (cc e)

-- the deepest level removed
pub removed : (ns : List Node) (d f : Option ℕ) (m n k : ℕ) (ls : List (List Outcome)) (lv : ℕ) (a v : Node) (rest : List (List Outcome)) → Shows ns d f m n k ls → d ≡ Some lv → a ≡ node_at ns lv → v.next_sibling ≡ f → ls ≡ [] ∷ rest →
    Shows (set ns lv v) a.parent (Some lv) m (n - 1) k rest
removed ns d f m n k ls lv a v rest s ed ea vn shape =
    let q = deepest ns d f m n k ls lv s ed in
    let fs : List ℕ = s.spare in
    let up : List Places = q.above in
    let spelt : map (λ i. (node_at ns i).outcome) q.outcomes ∷ spelled ns up ≡ [] ∷ rest = q.spells ∙ shape in
    let none : q.outcomes ≡ [] = nothing ns q.outcomes (head_is _ _ _ _ spelt) in
    let apart_all : (j : ℕ) → same j lv + 0 + times_up j up + times j fs ≤ 1 = λ j. subst (λ (l : List ℕ). same j lv + times j l + times_up j up + times j fs ≤ 1) none (q.apart_all j) in
    let whole : 1 + used up + length fs ≡ length ns = omega (arith, q.whole, ap length none) in
    let at_level = apart_all lv in
    let two = same_self lv in
    let level_free : times lv fs ≡ 0 = omega (arith, at_level, two) in
    let level_up : times_up lv up ≡ 0 = omega (arith, at_level, two) in
    let wide = length-set ns lv v in
    let inside : lv < length ns = (q.chained).1 in
    let written = at_same ns lv v inside in
    let deep : n ≡ length ([] ∷ rest) = s.deep ∙ ap length shape in
    let alive : k ≡ unsettled ([] ∷ rest) = s.alive ∙ ap unsettled shape in
    let fits : WellFormed ([] ∷ rest) = subst (λ (l : List (List Outcome)). WellFormed l) shape s.fits in
    record {
      standing = up;
      spare = lv ∷ fs;
      chained = subst (λ (x : Node). Up (set ns lv v) x.parent up) (sym ea) (up_kept ns lv v _ up (q.chained).3 level_up);
      freed = (refl, omega (arith, wide, inside), subst (λ (l : Option ℕ). Chain (set ns lv v) l fs) (sym (ap (λ (x : Node). x.next_sibling) written ∙ vn)) (chain_kept ns lv v f fs s.freed level_free));
      apart = λ j. omega (arith, apart_all j);
      whole = omega (arith, whole, wide);
      spells = spelled_kept ns lv v up level_up ∙ tail_is _ _ _ _ spelt;
      fits = fits.2;
      room = wide ∙ s.room;
      deep = omega (arith, deep);
      within = omega (arith, s.within);
      alive = omega (arith, alive);
      small = s.small;
    }

-- a free node is one of the nodes
pub free_inside : (ns : List Node) (d f : Option ℕ) (m n k : ℕ) (ls : List (List Outcome)) (at : ℕ) → Shows ns d f m n k ls → f ≡ Some at → at < length ns
free_inside ns d f m n k ls at s e = ((head_of ns f s.spare at s.freed e).1).1

-- and so is the deepest level
pub level_inside : (ns : List Node) (d f : Option ℕ) (m n k : ℕ) (ls : List (List Outcome)) (lv : ℕ) → Shows ns d f m n k ls → d ≡ Some lv → lv < length ns
level_inside ns d f m n k ls lv s e = ((deepest ns d f m n k ls lv s e).chained).1

-- and its least outcome
pub child_inside : (ns : List Node) (d f : Option ℕ) (m n k : ℕ) (ls : List (List Outcome)) (lv at : ℕ) (a : Node) → Shows ns d f m n k ls → d ≡ Some lv → a ≡ node_at ns lv → a.first_child ≡ Some at → at < length ns
child_inside ns d f m n k ls lv at a s e ea ef =
    let q = deepest ns d f m n k ls lv s e in
    ((head_of ns _ q.outcomes at (q.chained).2 (sym (ap (λ (x : Node). x.first_child) ea) ∙ ef)).1).1

-- a node that was read
pub read : (ns : List Node) (i : ℕ) (x : Node) → i < length ns → x ≡ get_or ns i x → x ≡ node_at ns i
read ns i x h e = get_or_read ns i x h e blank

-- where a level is there, so is the deepest
pub deepest_some : (ns : List Node) (d f : Option ℕ) (m n k : ℕ) (ls : List (List Outcome)) (os : List Outcome) (rest : List (List Outcome)) → Shows ns d f m n k ls → ls ≡ os ∷ rest → IsSome d
deepest_some ns d f m n k ls os rest s e = some s.standing s.chained s.spells
  where
    some : (st : List Places) → Up ns d st → spelled ns st ≡ ls → IsSome d
    some [] c w = absurd (cc (w, e))
    some (l ∷ st) c w = subst (λ (x : Option ℕ). IsSome x) (sym c.0) refl

-- where an outcome is open, the deepest level has a first
pub child_some : (ns : List Node) (d f : Option ℕ) (m n k : ℕ) (ls : List (List Outcome)) (lv : ℕ) (a : Node) (o : Outcome) (os : List Outcome) (rest : List (List Outcome)) → Shows ns d f m n k ls → d ≡ Some lv → a ≡ node_at ns lv → ls ≡ (o ∷ os) ∷ rest →
    IsSome a.first_child
child_some ns d f m n k ls lv a o os rest s e ea shape =
    let q = deepest ns d f m n k ls lv s e in
    subst (λ (x : Node). IsSome x.first_child) (sym ea) (begins ns _ q.outcomes o os (q.chained).2 (head_is _ _ _ _ (q.spells ∙ shape)))

-- what a walk reads of the nodes is what they stand for
pub closed : (ns : List Node) (d f : Option ℕ) (m n k : ℕ) (ls : List (List Outcome)) → Shows ns d f m n k ls → Shows ns d f m n k (levels_up (length ns) ns d)
closed ns d f m n k ls s = subst (λ (l : List (List Outcome)). Shows ns d f m n k l) (sym (shown ns d f m n k ls s)) s

-- no more are unsettled than nodes stand there
pub live_few : (ns : List Node) (d f : Option ℕ) (m n k : ℕ) (ls : List (List Outcome)) → Shows ns d f m n k ls → k ≤ 30 * m
live_few ns d f m n k ls s = omega (arith, s.alive, s.deep, s.within, unsettled_few ls s.fits)

-- each level ascends
pub all_ascend : (ls : List (List Outcome)) → WellFormed ls → EachAscends ls
all_ascend [] h = tt
all_ascend (os ∷ ls) h = (h.0, all_ascend ls h.2)

-- with no deepest level there is none
pub no_level : (ns : List Node) (f : Option ℕ) (m n k : ℕ) (ls : List (List Outcome)) → Shows ns None f m n k ls → ls ≡ []
no_level ns f m n k ls s = none s.standing s.chained s.spells
  where
    none : (st : List Places) → Up ns None st → spelled ns st ≡ ls → ls ≡ []
    none [] c w = sym w
    none (l ∷ st) c w = absurd (cc (c.0))

-- a deepest level with no child has nothing unsettled
pub none_open : (ns : List Node) (d f : Option ℕ) (m n k : ℕ) (ls : List (List Outcome)) (lv : ℕ) (a : Node) → Shows ns d f m n k ls → d ≡ Some lv → a ≡ node_at ns lv → a.first_child ≡ None → NoneOpen ls
none_open ns d f m n k ls lv a s e ea en =
    let q = deepest ns d f m n k ls lv s e in
    none q.outcomes (q.chained).2 q.spells
  where
    none : (is : List ℕ) → Chain ns (node_at ns lv).first_child is → map (λ i. (node_at ns i).outcome) is ∷ spelled ns (deepest ns d f m n k ls lv s e).above ≡ ls → NoneOpen ls
    none [] c w = inr (_, sym w)
    none (i ∷ is) c w = absurd (cc (c.0, sym (ap (λ (x : Node). x.first_child) ea) ∙ en))

-- the first child of the deepest level is its least outcome
pub least_open : (ns : List Node) (d f : Option ℕ) (m n k : ℕ) (ls : List (List Outcome)) (lv at : ℕ) (a b : Node) → Shows ns d f m n k ls → d ≡ Some lv → a ≡ node_at ns lv → a.first_child ≡ Some at → b ≡ node_at ns at → IsLeast b.outcome ls
least_open ns d f m n k ls lv at a b s e ea ef eb =
    let q = deepest ns d f m n k ls lv s e in
    let p = head_of ns _ q.outcomes at (q.chained).2 (sym (ap (λ (x : Node). x.first_child) ea) ∙ ef) in
    let rest : List (List Outcome) = spelled ns q.above in
    let os : List Outcome = map (λ i. (node_at ns i).outcome) p.0 in
    let spelt : ((node_at ns at).outcome ∷ os) ∷ rest ≡ ls = subst (λ (l : List ℕ). map (λ i. (node_at ns i).outcome) l ∷ rest ≡ ls) p.2 q.spells in
    let fits : WellFormed (((node_at ns at).outcome ∷ os) ∷ rest) = subst (λ (l : List (List Outcome)). WellFormed l) (sym spelt) s.fits in
    subst (λ (x : Node). IsLeast x.outcome ls) (sym eb) (os, rest, sym spelt, (fits.0).0)

-- what callers see of nodes that stand for levels
pub viewed : (ns : List Node) (d f : Option ℕ) (m n k : ℕ) (ls : List (List Outcome)) (b : Branches) → Shows ns d f m n k ls → b.most ≡ m → b.levels ≡ ls → (let r : Branches = record { most = m; levels = levels_up (length ns) ns d } in r) ≡ b
viewed ns d f m n k ls b s e h = ap₂ (λ (x : ℕ) (y : List (List Outcome)). (let r : Branches = record { most = x; levels = y } in r)) (sym e) (shown ns d f m n k ls s ∙ sym h)

-- a level that can take an outcome leaves a node free
pub room_for_outcome : (ns : List Node) (d f : Option ℕ) (m n k : ℕ) (ls : List (List Outcome)) (os : List Outcome) (rest : List (List Outcome)) → Shows ns d f m n k ls → ls ≡ os ∷ rest → length os < 29 → length ls + unsettled ls < 30 * m
room_for_outcome ns d f m n k ls os rest s shape few =
    let fits : WellFormed (os ∷ rest) = subst (λ (l : List (List Outcome)). WellFormed l) shape s.fits in
    let less = unsettled_few rest fits.2 in
    let all : unsettled ls ≡ length os + unsettled rest = ap unsettled shape in
    let deep : length ls ≡ 1 + length rest = omega (arith, ap length shape) in
    omega (arith, less, all, deep, few, s.deep, s.within)

-- a node that was read after a write
pub read_wide : (ns : List Node) (j : ℕ) (v : Node) (i : ℕ) (x : Node) → i < length ns → x ≡ get_or (set ns j v) i x → x ≡ node_at (set ns j v) i
read_wide ns j v i x h e = read (set ns j v) i x (omega (arith, h, length-set ns j v)) e

-- where an outcome is open, some are live
pub live_some : (ns : List Node) (d f : Option ℕ) (m n k : ℕ) (ls : List (List Outcome)) (o : Outcome) (os : List Outcome) (rest : List (List Outcome)) → Shows ns d f m n k ls → ls ≡ (o ∷ os) ∷ rest → 1 ≤ k
live_some ns d f m n k ls o os rest s shape =
    let all : unsettled ls ≡ length (o ∷ os) + unsettled rest = ap unsettled shape in
    omega (arith, all, s.alive)

-- the least outcome of the deepest level is below the others, which are at most 28
pub least_fits : (ns : List Node) (d f : Option ℕ) (m n k : ℕ) (ls : List (List Outcome)) (o : Outcome) (os : List Outcome) (rest : List (List Outcome)) → Shows ns d f m n k ls → ls ≡ (o ∷ os) ∷ rest → (length os < 29) × Below o os
least_fits ns d f m n k ls o os rest s shape =
    let fits : WellFormed ((o ∷ os) ∷ rest) = subst (λ (l : List (List Outcome)). WellFormed l) shape s.fits in
    let few = fits.1 in
    (omega (arith, few), (fits.0).0)
