-- A walk by random branches, step by step.
use Rattle.std.proofs.Common.{◌≡◌, ℕ, suc, ◌+◌, ◌-◌, ◌<◌, ◌≤◌, ◌⊎◌, inl, inr, Bool, true, List, [], Option, Some, None, length, map, get_or, slice_get, refl, sym, ap, ◌∙◌, subst, arith}
use Rattle.cc_base.specs.declared.inputs.Input.{Input}
use Rattle.cc_model.specs.Listing.{Item}
use Rattle.rand_pcg.specs.Lcg.{Lcg}
use Rattle.search_walks.specs.declared.candidates.Candidate.{Candidate}
use Rattle.search_walks.specs.declared.log.Log.{Log}
use Rattle.search_walks.specs.declared.log.Tried.{Tried}
use Rattle.search_walks.specs.declared.runs.Made.{Made}
use Rattle.search_walks.specs.Branching.{plain_of, FromBase, FromRun, CameTo, left_to_draw}
use Rattle.search_walks.specs.Counted.{Nothing}
use Rattle.search_walks.specs.Draws.{draw, after_draw}
use Rattle.search_walks.specs.Logged.{Walked, WalkedSome}
use Rattle.search_base.specs.Setting.{Setting, base_of}
use Rattle.search_walks.specs.Steps.{Started, TriedOne, TriedSome, no_input, past_budget, was_run}
use Rattle.search_walks.specs.Walks.{Branches, branch_full, branch_none_left, branch_cut_off, branch_never_one, branch_spent_one, branch_run_one, prediction, candidates, without}
use Rattle.search_walks.proofs.LoggedLaws.{along_first, along_none, along_spent, along_run, along_end, along_cut, along_some}
use Rattle.search_walks.proofs.OfferLaws.{got_at, seen_at, seen_length, seen_without}

-- one of the alternatives was drawn, and taken away
pub record Drew (untried rest : List Candidate) (c : Candidate) (g h : Lcg) : Type 0 where
  pub is : slice_get (map plain_of untried) (draw (length (map plain_of untried)) g) ≡ Some (plain_of c)
  pub rest_is : map plain_of rest ≡ without (draw (length (map plain_of untried)) g) (map plain_of untried)
  pub word : h ≡ after_draw g

pub drew : (untried rest : List Candidate) (c : Candidate) (g h : Lcg) (n : ℕ) → n ≡ draw (length untried) g → n < length untried → c ≡ get_or untried n c → rest ≡ without n untried → h ≡ after_draw g → Drew untried rest c g h
drew untried rest c g h n e below is r w =
    let d : draw (length (map plain_of untried)) g ≡ n = ap (λ m. draw m g) (seen_length untried) ∙ sym e in
    record {
      is = ap (slice_get (map plain_of untried)) d ∙ seen_at c n untried (got_at c n untried below is);
      rest_is = ap (map plain_of) r ∙ (seen_without n untried ∙ ap (λ m. without m (map plain_of untried)) (sym d));
      word = w;
    }

-- what is left to draw falls
pub falls_none : (limit m n a b : ℕ) → n ≡ m → a + 1 ≡ b → left_to_draw limit n a < left_to_draw limit m b
falls_none limit m n a b e f = subst (λ x. left_to_draw limit x a < left_to_draw limit m b) (sym e) (omega (arith, f))

pub falls_run : (limit m n a b : ℕ) → n ≡ suc m → m < limit → a ≤ 28672 → left_to_draw limit n a < left_to_draw limit m b
falls_run limit m n a b e h few =
    let f : limit - m ≡ suc (limit - n) = omega (arith, e, h) in
    omega (arith, f, few)

module _ (s : Setting) (limit : ℕ) where
  pub end_here : (u : Input) (untried : List Candidate) (g : Lcg) (made : ℕ) → (limit ≤ made) ⊎ (untried ≡ []) → made ≤ limit → (cuts : Bool) → FromRun s limit u untried g made cuts []
  end_here u untried g made (inl f) within cuts = let same : limit ≡ made = omega (arith, f, within) in subst (λ n. Branches s limit cuts u (map plain_of untried) g n []) same (branch_full u (map plain_of untried) g)
  end_here u untried g made (inr e) within cuts = subst (λ l. Branches s limit cuts u (map plain_of l) g made []) (sym e) (branch_none_left u g made)

  module _ (start : Lcg) (before : Option (List ℕ)) where
    pub came_first : (new : Option (List ℕ)) (l m : Log) (r : Made) (untried : List Candidate) → Nothing (length s.checked.sites) l → Started s before new l m r → map plain_of untried ≡ candidates s (r.trace).input → CameTo s limit start before r untried start m new
    came_first new l m r untried n st e =
        along_none s (FromBase s limit start) (FromBase s limit start) (FromRun s limit (r.trace).input untried start m.made) before new m (along_first s (FromBase s limit start) before new l m r n st) (λ cuts rest w. back cuts rest w)
      where
        one : m.made ≡ 1
        one = let a = (st.counted).made in let b = n.made in omega (arith, a, b)

        back : (cuts : Bool) (rest : List Item) → FromRun s limit (r.trace).input untried start m.made cuts rest → FromBase s limit start cuts rest
        back cuts rest w =
            subst (λ u. Branches s limit cuts u (candidates s u) start 1 rest) st.input
            (subst (λ cs. Branches s limit cuts (r.trace).input cs start 1 rest) e
            (subst (λ k. Branches s limit cuts (r.trace).input (map plain_of untried) start k rest) one w))

    -- the walk is cut off behind the base run
    pub first_cut : (new : Option (List ℕ)) (l m : Log) (r : Made) → Nothing (length s.checked.sites) l → Started s before new l m r → WalkedSome s (FromBase s limit start true) before new
    first_cut new l m r n st =
        along_cut s (FromBase s limit start) (FromBase s limit start) before new new m (along_first s (FromBase s limit start) before new l m r n st) refl
        (branch_cut_off (base_of s) (candidates s (base_of s)) start 1 refl)

    -- ---- a step
    module _ (r : Made) (untried rest : List Candidate) (c : Candidate) (g h : Lcg) (mid : Option (List ℕ)) (l : Log) (room : l.made < limit) (d : Drew untried rest c g h) (a : CameTo s limit start before r untried g l mid) where
      abbrev Here : Bool → List Item → Type 0
      Here = FromRun s limit (r.trace).input untried g l.made

      abbrev There : Bool → List Item → Type 0
      There = FromRun s limit (r.trace).input rest h l.made

      go_on : (cuts : Bool) (items : List Item) → There cuts items → Branches s limit cuts (r.trace).input (without (draw (length (map plain_of untried)) g) (map plain_of untried)) (after_draw g) l.made items
      go_on cuts items w = subst (λ k. Branches s limit cuts (r.trace).input (without (draw (length (map plain_of untried)) g) (map plain_of untried)) k l.made items) d.word
          (subst (λ cs. Branches s limit cuts (r.trace).input cs h l.made items) d.rest_is w)

      pub came_none : (new : Option (List ℕ)) (m : Log) → TriedOne s (r.trace).input (plain_of c) mid new l m None → CameTo s limit start before r rest h m new
      came_none new m (no_input n e f) =
          subst (λ k. CameTo s limit start before r rest h k new) (sym f) (subst (λ k. CameTo s limit start before r rest h l k) (sym e)
          (along_none s (FromBase s limit start) Here There before mid l a (λ cuts items w. branch_never_one (r.trace).input (map plain_of untried) g l.made items (plain_of c) room d.is n (go_on cuts items w))))
      came_none new m (past_budget n b e f) =
          subst (λ k. CameTo s limit start before r rest h k new) (sym f)
          (along_spent s (FromBase s limit start) Here There before mid new l (prediction s (r.trace).input (plain_of c)) b a e
          (λ cuts items w. branch_spent_one (r.trace).input (map plain_of untried) g l.made items (plain_of c) room d.is n (go_on cuts items w)))

      pub came_run : (new : Option (List ℕ)) (m : Log) (t : Tried) (next : List Candidate) → TriedOne s (r.trace).input (plain_of c) mid new l m (Some t) → map plain_of next ≡ candidates s ((t.run).trace).input → CameTo s limit start before t.run next h m new
      came_run new m t next (was_run i same gives f) e =
          along_run s (FromBase s limit start) Here (FromRun s limit ((t.run).trace).input next h m.made) before i (prediction s (r.trace).input (plain_of c)) mid new l m t a f
          (λ cuts items w. branch_run_one (r.trace).input (map plain_of untried) g l.made items (plain_of c) i f.item room d.is gives f.is_item (back cuts items w))
        where
          back : (cuts : Bool) (items : List Item) → FromRun s limit ((t.run).trace).input next h m.made cuts items → Branches s limit cuts i (candidates s i) (after_draw g) (suc l.made) items
          back cuts items w =
              subst (λ u. Branches s limit cuts u (candidates s u) (after_draw g) (suc l.made) items) f.input
              (subst (λ cs. Branches s limit cuts ((t.run).trace).input cs (after_draw g) (suc l.made) items) e
              (subst (λ k. Branches s limit cuts ((t.run).trace).input (map plain_of next) k (suc l.made) items) d.word
              (subst (λ k. Branches s limit cuts ((t.run).trace).input (map plain_of next) h k items) (f.counted).made w)))

      cut : Here true []
      cut = branch_cut_off (r.trace).input (map plain_of untried) g l.made refl

      pub came_some : (new : Option (List ℕ)) → TriedSome s (r.trace).input (plain_of c) mid new → WalkedSome s (FromBase s limit start true) before new
      came_some new t =
          along_some s (FromBase s limit start) Here before (r.trace).input (plain_of c) mid new l a t cut
          (λ n. branch_spent_one (r.trace).input (map plain_of untried) g l.made [] (plain_of c) room d.is n (branch_cut_off (r.trace).input (without (draw (length (map plain_of untried)) g) (map plain_of untried)) (after_draw g) l.made refl))
          (λ i x n k. branch_run_one (r.trace).input (map plain_of untried) g l.made [] (plain_of c) i x room d.is n k (branch_cut_off i (candidates s i) (after_draw g) (suc l.made) refl))

      pub came_cut : (new : Option (List ℕ)) (m : Log) (t : Tried) → TriedOne s (r.trace).input (plain_of c) mid new l m (Some t) → WalkedSome s (FromBase s limit start true) before new
      came_cut new m t (was_run i same gives f) =
          along_cut s (FromBase s limit start) (λ cuts items. Branches s limit cuts i (candidates s i) (after_draw g) (suc l.made) items) before new new m
          (along_run s (FromBase s limit start) Here (λ cuts items. Branches s limit cuts i (candidates s i) (after_draw g) (suc l.made) items) before i (prediction s (r.trace).input (plain_of c)) mid new l m t a f
          (λ cuts items w. branch_run_one (r.trace).input (map plain_of untried) g l.made items (plain_of c) i f.item room d.is gives f.is_item w))
          refl (branch_cut_off i (candidates s i) (after_draw g) (suc l.made) refl)

-- where the walk is whole
pub walk_whole : (s : Setting) (limit : ℕ) (start : Lcg) (before now : Option (List ℕ)) (r : Made) (untried : List Candidate) (g : Lcg) (log : Log) → CameTo s limit start before r untried g log now → (limit ≤ log.made) ⊎ (untried ≡ []) → log.made ≤ limit →
    (cuts : Bool) → Walked s (FromBase s limit start cuts) before now log
walk_whole s limit start before now r untried g log a e within = along_end s (FromBase s limit start) (FromRun s limit (r.trace).input untried g log.made) before now log a (end_here s limit (r.trace).input untried g log.made e within)

-- from a seed
pub walked_from : (s : Setting) (limit : ℕ) (g h : Lcg) → g ≡ h → (before now : Option (List ℕ)) → WalkedSome s (FromBase s limit g true) before now → WalkedSome s (FromBase s limit h true) before now
walked_from s limit g h e before now w = subst (λ x. WalkedSome s (FromBase s limit x true) before now) e w

pub whole_from : (s : Setting) (limit : ℕ) (g h : Lcg) → g ≡ h → (cuts : Bool) → (before now : Option (List ℕ)) → (log : Log) → Walked s (FromBase s limit g cuts) before now log → Walked s (FromBase s limit h cuts) before now log
whole_from s limit g h e cuts before now log w = subst (λ x. Walked s (FromBase s limit x cuts) before now log) e w

-- a step that ends the walk early, whatever its start
module _ (s : Setting) (limit : ℕ) (r : Made) (untried rest : List Candidate) (c : Candidate) (g h : Lcg) (mid new : Option (List ℕ)) (l : Log) (room : l.made < limit) (d : Drew untried rest c g h) where
  pub step_some : TriedSome s (r.trace).input (plain_of c) mid new → (start : Lcg) (before : Option (List ℕ)) → CameTo s limit start before r untried g l mid → WalkedSome s (FromBase s limit start true) before new
  step_some t start before a = came_some s limit start before r untried rest c g h mid l room d a new t

  pub step_cut : (m : Log) (t : Tried) → TriedOne s (r.trace).input (plain_of c) mid new l m (Some t) → (start : Lcg) (before : Option (List ℕ)) → CameTo s limit start before r untried g l mid → WalkedSome s (FromBase s limit start true) before new
  step_cut m t tried start before a = came_cut s limit start before r untried rest c g h mid l room d a new m t tried
