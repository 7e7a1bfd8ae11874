-- A walk by passes, step by step.
use Rattle.std.proofs.Common.{◌≡◌, ℕ, zero, suc, ◌+◌, ◌-◌, ◌<◌, ◌≤◌, ◌⊎◌, inl, inr, Bool, true, false, List, [], ◌∷◌, Option, Some, None, length, slice_get, take, refl, sym, ap, ◌∙◌, subst, arith, length-append}
use Rattle.cc_base.specs.declared.inputs.Input.{Input}
use Rattle.cc_base.specs.declared.outcomes.Outcome.{Outcome}
use Rattle.cc_base.specs.Paths.{Path}
use Rattle.cc_model.specs.Listing.{Item}
use Rattle.rand_pcg.specs.Lcg.{Lcg}
use Rattle.search_walks.specs.declared.log.Log.{Log}
use Rattle.search_walks.specs.declared.log.Tried.{Tried}
use Rattle.search_walks.specs.declared.runs.Made.{Made}
use Rattle.search_walks.specs.Counted.{Nothing}
use Rattle.search_walks.specs.Draws.{draw, after_draw}
use Rattle.search_walks.specs.Logged.{Walked, WalkedSome}
use Rattle.search_walks.specs.Made.{RunOf}
use Rattle.search_walks.specs.Passing.{StandsAt, left_to_pass, DrawnAt, no_draw, own_drawn, other_drawn, FromStart, FromEvent, PassesTo, Passed}
use Rattle.search_base.specs.Setting.{Setting, base_of, path_of}
use Rattle.search_walks.specs.Steps.{Started, TriedOne, TriedSome, no_input, past_budget, was_run}
use Rattle.search_walks.specs.Walks.{AreOutcomes, Keeps, Passes, pass_full, last_pass, pass_cut_off, next_pass, pass_no_draw, pass_own_one, pass_never_one, pass_spent_one, pass_kept_one, pass_left_one, IsItemOf, kept, left, Gives, prediction}
use Rattle.search_base.proofs.PathLaws.{length_begins}
use Rattle.search_walks.proofs.LoggedLaws.{along_first, along_none, along_spent, along_run, along_end, along_cut, along_some}

module _ (s : Setting) (limit : ℕ) (start : Lcg) (before : Option (List ℕ)) where
  pub passes_first : (new : Option (List ℕ)) (l m : Log) (r : Made) → Nothing (length s.checked.sites) l → Started s before new l m r → PassesTo s limit start before (limit - 1) (r.trace).input 0 start m new
  passes_first new l m r n st =
      along_none s (FromStart s limit start) (FromStart s limit start) (FromEvent s limit (limit - 1) (r.trace).input 0 start m.made) before new m (along_first s (FromStart s limit start) before new l m r n st)
      (λ cuts rest w. subst (λ u. Passes s limit cuts u 0 (limit - 1) start 1 rest) st.input (subst (λ k. Passes s limit cuts (r.trace).input 0 (limit - 1) start k rest) one w))
    where
      one : m.made ≡ 1
      one = let a = (st.counted).made in let b = n.made in omega (arith, a, b)

  -- ---- a step
  module _ (passes : ℕ) (u : Input) (k : ℕ) (g : Lcg) (mid : Option (List ℕ)) (l : Log) (a : PassesTo s limit start before passes u k g l mid) where
    abbrev Here : Bool → List Item → Type 0
    Here = FromEvent s limit passes u k g l.made

    -- cut off before it
    pub passes_cut : WalkedSome s (FromStart s limit start true) before mid
    passes_cut = along_cut s (FromStart s limit start) Here before mid mid l a refl (pass_cut_off u k passes g l.made refl)

    -- the walk is over: as many runs were made as may be
    module _ (room : l.made < limit) (h : Lcg) where
      -- no alternative was drawn
      pub passes_on : DrawnAt s u k g h None → k < length (path_of s u) → PassesTo s limit start before passes u (suc k) h l mid
      passes_on (no_draw e f) below =
          along_none s (FromStart s limit start) Here (FromEvent s limit passes u (suc k) h l.made) before mid l a
          (λ cuts items w. pass_no_draw u k passes g l.made items room below e (subst (λ x. Passes s limit cuts u (suc k) passes x l.made items) f w))
      passes_on (own_drawn own os n are at f) below =
          along_none s (FromStart s limit start) Here (FromEvent s limit passes u (suc k) h l.made) before mid l a
          (λ cuts items w. pass_own_one u k passes g l.made items own os room n are at (subst (λ x. Passes s limit cuts u (suc k) passes x l.made items) f w))

    module _ (room : l.made < limit) (h : Lcg) (own o : Outcome) (os : List Outcome) (are : AreOutcomes s u k own os) (at : slice_get os (draw (length os) g) ≡ Some o) (other : o ≡ own → ⊥) (word : h ≡ after_draw g) where
      goes_none : (new : Option (List ℕ)) (m : Log) → TriedOne s u (k, o) mid new l m None → PassesTo s limit start before passes u (suc k) h m new
      goes_none new m (no_input n e f) =
          subst (λ x. PassesTo s limit start before passes u (suc k) h x new) (sym f) (subst (λ x. PassesTo s limit start before passes u (suc k) h l x) (sym e)
          (along_none s (FromStart s limit start) Here (FromEvent s limit passes u (suc k) h l.made) before mid l a
          (λ cuts items w. pass_never_one u k passes g l.made items own o os room are at other n (subst (λ x. Passes s limit cuts u (suc k) passes x l.made items) word w))))
      goes_none new m (past_budget n b e f) =
          subst (λ x. PassesTo s limit start before passes u (suc k) h x new) (sym f)
          (along_spent s (FromStart s limit start) Here (FromEvent s limit passes u (suc k) h l.made) before mid new l (prediction s u (k, o)) b a e
          (λ cuts items w. pass_spent_one u k passes g l.made items own o os room are at other n (subst (λ x. Passes s limit cuts u (suc k) passes x l.made items) word w)))

      -- a run that keeps its prediction, and one that leaves it
      item_kept : (cuts : Bool) (items : List Item) (i : Input) (x : Item) → Gives s u (prediction s u (k, o)) i → Keeps s i (prediction s u (k, o)) → IsItemOf s i (prediction s u (k, o)) x → Passes s limit cuts i (suc k) passes (after_draw g) (suc l.made) items → Passes s limit cuts u k passes g l.made (x ∷ items)
      item_kept cuts items i x gives keeps (kept y) w = pass_kept_one u k passes g l.made items own o os i room are at other gives keeps w
      item_kept cuts items i x gives keeps (left y) w = absurd (y keeps)

      item_left : (cuts : Bool) (items : List Item) (i : Input) (x : Item) → Gives s u (prediction s u (k, o)) i → (Keeps s i (prediction s u (k, o)) → ⊥) → IsItemOf s i (prediction s u (k, o)) x → Passes s limit cuts i 0 passes (after_draw g) (suc l.made) items → Passes s limit cuts u k passes g l.made (x ∷ items)
      item_left cuts items i x gives leaves (kept y) w = absurd (leaves y)
      item_left cuts items i x gives leaves (left y) w = pass_left_one u k passes g l.made items own o os i room are at other gives leaves w

      item_cut : (i : Input) (x : Item) → Gives s u (prediction s u (k, o)) i → IsItemOf s i (prediction s u (k, o)) x → Here true (x ∷ [])
      item_cut i x gives (kept y) = pass_kept_one u k passes g l.made [] own o os i room are at other gives y (pass_cut_off i (suc k) passes (after_draw g) (suc l.made) refl)
      item_cut i x gives (left y) = pass_left_one u k passes g l.made [] own o os i room are at other gives y (pass_cut_off i 0 passes (after_draw g) (suc l.made) refl)

      goes_run : (new : Option (List ℕ)) (m : Log) (t : Tried) (n : ℕ) → TriedOne s u (k, o) mid new l m (Some t) → (t.kept ≡ true → n ≡ suc k) → (t.kept ≡ false → n ≡ 0) → PassesTo s limit start before passes ((t.run).trace).input n h m new
      goes_run new m t n (was_run i same gives f) stays leaves = by t.kept refl
        where
          moved : (cuts : Bool) (items : List Item) (j : ℕ) → n ≡ j → FromEvent s limit passes ((t.run).trace).input n h m.made cuts items → Passes s limit cuts i j passes (after_draw g) (suc l.made) items
          moved cuts items j e w =
              subst (λ x. Passes s limit cuts x j passes (after_draw g) (suc l.made) items) f.input
              (subst (λ x. Passes s limit cuts ((t.run).trace).input x passes (after_draw g) (suc l.made) items) e
              (subst (λ x. Passes s limit cuts ((t.run).trace).input n passes x (suc l.made) items) word
              (subst (λ x. Passes s limit cuts ((t.run).trace).input n passes h x items) (f.counted).made w)))

          along : ((cuts : Bool) (items : List Item) → FromEvent s limit passes ((t.run).trace).input n h m.made cuts items → Here cuts (f.item ∷ items)) → PassesTo s limit start before passes ((t.run).trace).input n h m new
          along back = along_run s (FromStart s limit start) Here (FromEvent s limit passes ((t.run).trace).input n h m.made) before i (prediction s u (k, o)) mid new l m t a f back

          by : (b : Bool) → t.kept ≡ b → PassesTo s limit start before passes ((t.run).trace).input n h m new
          by true e = along (λ cuts items w. item_kept cuts items i f.item gives (f.kept.0 e) f.is_item (moved cuts items (suc k) (stays e) w))
          by false e = along (λ cuts items w. item_left cuts items i f.item gives (λ keeps. differs (sym e ∙ f.kept.1 keeps)) f.is_item (moved cuts items 0 (leaves e) w))
            where
              differs : false ≡ true → ⊥
              differs d = cc d

      goes_some : (new : Option (List ℕ)) → TriedSome s u (k, o) mid new → WalkedSome s (FromStart s limit start true) before new
      goes_some new t =
          along_some s (FromStart s limit start) Here before u (k, o) mid new l a t (pass_cut_off u k passes g l.made refl)
          (λ n. pass_spent_one u k passes g l.made [] own o os room are at other n (pass_cut_off u (suc k) passes (after_draw g) l.made refl))
          (λ i x n d. item_cut i x n d)

    module _ (room : l.made < limit) (h : Lcg) (o : Outcome) where
      pub passes_none : (new : Option (List ℕ)) (m : Log) → DrawnAt s u k g h (Some o) → TriedOne s u (k, o) mid new l m None → PassesTo s limit start before passes u (suc k) h m new
      passes_none new m (other_drawn own same os are at other i word) t = goes_none room h own o os are at other word new m t

      pub passes_run : (new : Option (List ℕ)) (m : Log) (t : Tried) (n : ℕ) → DrawnAt s u k g h (Some o) → TriedOne s u (k, o) mid new l m (Some t) → (t.kept ≡ true → n ≡ suc k) → (t.kept ≡ false → n ≡ 0) → PassesTo s limit start before passes ((t.run).trace).input n h m new
      passes_run new m t n (other_drawn own same os are at other i word) tried stays leaves = goes_run room h own o os are at other word new m t n tried stays leaves

      pub passes_some : (new : Option (List ℕ)) → DrawnAt s u k g h (Some o) → TriedSome s u (k, o) mid new → WalkedSome s (FromStart s limit start true) before new
      passes_some new (other_drawn own same os are at other i word) t = goes_some room h own o os are at other word new t

  -- ---- the end of a pass
  -- the walk ends
  pub passes_end : (passes : ℕ) (g : Lcg) (log : Log) (now : Option (List ℕ)) → Passed s limit start before passes g log now → log.made ≤ limit → (passes ≡ 0) ⊎ (limit ≤ log.made) → (cuts : Bool) → Walked s (FromStart s limit start cuts) before now log
  passes_end passes g log now p within e = along_end s (FromStart s limit start) (FromEvent s limit passes p.input p.event g log.made) before now log p.came (by p.over e)
    where
      full : limit ≤ log.made → (cuts : Bool) → FromEvent s limit passes p.input p.event g log.made cuts []
      full f cuts = let same : limit ≡ log.made = omega (arith, f, within) in subst (λ n. Passes s limit cuts p.input p.event passes g n []) same (pass_full p.input p.event passes g)

      by : (limit ≤ log.made) ⊎ (p.event ≡ length (path_of s p.input)) → (passes ≡ 0) ⊎ (limit ≤ log.made) → (cuts : Bool) → FromEvent s limit passes p.input p.event g log.made cuts []
      by (inl f) d cuts = full f cuts
      by (inr f) (inr d) cuts = full d cuts
      by (inr f) (inl d) cuts = subst (λ n. Passes s limit cuts p.input n passes g log.made []) (sym f) (subst (λ n. Passes s limit cuts p.input (length (path_of s p.input)) n g log.made []) (sym d) (last_pass p.input g log.made))

  -- the next pass begins
  pub passes_next : (passes later : ℕ) (g : Lcg) (log : Log) (now : Option (List ℕ)) (r : Made) → Passed s limit start before passes g log now → log.made < limit → passes ≡ suc later → (r.trace).input ≡ base_of s → PassesTo s limit start before later (r.trace).input 0 g log now
  passes_next passes later g log now r p room e base =
      along_none s (FromStart s limit start) (FromEvent s limit passes p.input p.event g log.made) (FromEvent s limit later (r.trace).input 0 g log.made) before now log p.came (λ cuts items w. back p.over cuts items w)
    where
      back : (limit ≤ log.made) ⊎ (p.event ≡ length (path_of s p.input)) → (cuts : Bool) (items : List Item) → FromEvent s limit later (r.trace).input 0 g log.made cuts items → FromEvent s limit passes p.input p.event g log.made cuts items
      back (inl f) cuts items w = absurd (omega (arith, f, room))
      back (inr f) cuts items w =
          subst (λ n. Passes s limit cuts p.input n passes g log.made items) (sym f)
          (subst (λ n. Passes s limit cuts p.input (length (path_of s p.input)) n g log.made items) (sym e)
          (next_pass p.input later g log.made items room (subst (λ u. Passes s limit cuts u 0 later g log.made items) base w)))

-- from a seed
pub passed_from : (s : Setting) (limit : ℕ) (g h : Lcg) → g ≡ h → (before now : Option (List ℕ)) → WalkedSome s (FromStart s limit g true) before now → WalkedSome s (FromStart s limit h true) before now
passed_from s limit g h e before now w = subst (λ x. WalkedSome s (FromStart s limit x true) before now) e w

pub passes_from : (s : Setting) (limit : ℕ) (g h : Lcg) → g ≡ h → (cuts : Bool) → (before now : Option (List ℕ)) → (log : Log) → Walked s (FromStart s limit g cuts) before now log → Walked s (FromStart s limit h cuts) before now log
passes_from s limit g h e cuts before now log w = subst (λ x. Walked s (FromStart s limit x cuts) before now log) e w

-- ---- a step of a pass through a run; the run is the current one
module _ (s : Setting) (limit : ℕ) (cur r : Made) (same : r ≡ cur) (k : ℕ) (stands : StandsAt s cur k) (below : k < length cur.path) where
  pub run_there : RunOf s r.trace r.path
  run_there = subst (λ (x : Made). RunOf s x.trace x.path) (sym same) stands.run

  pub below_there : k < length r.path
  below_there = subst (λ (x : Made). k < length x.path) (sym same) below

  in_path : k < length (path_of s (cur.trace).input)
  in_path = subst (λ p. k < length p) (stands.run).path below

  module _ (g h : Lcg) (l : Log) (room : l.made < limit) where
    pub event_on : (n : ℕ) → n ≡ k + 1 → DrawnAt s (r.trace).input k g h None → (mid : Option (List ℕ)) (start : Lcg) (before : Option (List ℕ)) (passes : ℕ) → PassesTo s limit start before passes (cur.trace).input k g l mid → PassesTo s limit start before passes (cur.trace).input n h l mid
    event_on n e d mid start before passes a =
        subst (λ x. PassesTo s limit start before passes (cur.trace).input x h l mid) (more n e)
        (passes_on s limit start before passes (cur.trace).input k g mid l a room h (subst (λ (x : Made). DrawnAt s (x.trace).input k g h None) same d) in_path)
      where
        more : (n : ℕ) → n ≡ k + 1 → suc k ≡ n
        more n e = omega (arith, e)

    module _ (o : Outcome) (d : DrawnAt s (r.trace).input k g h (Some o)) where
      drawn_there : DrawnAt s (cur.trace).input k g h (Some o)
      drawn_there = subst (λ (x : Made). DrawnAt s (x.trace).input k g h (Some o)) same d

      pub event_none : (n : ℕ) → n ≡ k + 1 → (mid new : Option (List ℕ)) (m : Log) → TriedOne s (r.trace).input (k, o) mid new l m None → (start : Lcg) (before : Option (List ℕ)) (passes : ℕ) → PassesTo s limit start before passes (cur.trace).input k g l mid → PassesTo s limit start before passes (cur.trace).input n h m new
      event_none n e mid new m t start before passes a =
          subst (λ x. PassesTo s limit start before passes (cur.trace).input x h m new) (more n e)
          (passes_none s limit start before passes (cur.trace).input k g mid l a room h o new m drawn_there (subst (λ (x : Made). TriedOne s (x.trace).input (k, o) mid new l m None) same t))
        where
          more : (n : ℕ) → n ≡ k + 1 → suc k ≡ n
          more n e = omega (arith, e)

      pub event_run : (n : ℕ) (mid new : Option (List ℕ)) (m : Log) (t : Tried) → TriedOne s (r.trace).input (k, o) mid new l m (Some t) → (t.kept ≡ true → n ≡ k + 1) → (t.kept ≡ false → n ≡ 0) → (start : Lcg) (before : Option (List ℕ)) (passes : ℕ) →
          PassesTo s limit start before passes (cur.trace).input k g l mid → PassesTo s limit start before passes ((t.run).trace).input n h m new
      event_run n mid new m t tried stays leaves start before passes a =
          passes_run s limit start before passes (cur.trace).input k g mid l a room h o new m t n drawn_there (subst (λ (x : Made). TriedOne s (x.trace).input (k, o) mid new l m (Some t)) same tried) (λ e. more n (stays e)) leaves
        where
          more : (n : ℕ) → n ≡ k + 1 → n ≡ suc k
          more n e = omega (arith, e)

      pub event_some : (mid new : Option (List ℕ)) → TriedSome s (r.trace).input (k, o) mid new → (start : Lcg) (before : Option (List ℕ)) (passes : ℕ) → PassesTo s limit start before passes (cur.trace).input k g l mid → WalkedSome s (FromStart s limit start true) before new
      event_some mid new t start before passes a =
          passes_some s limit start before passes (cur.trace).input k g mid l a room h o new drawn_there (subst (λ (x : Made). TriedSome s (x.trace).input (k, o) mid new) same t)

  pub stands_next : (n : ℕ) → n ≡ k + 1 → StandsAt s cur n
  stands_next n e = record { run = stands.run; within = omega (arith, e, below) }

-- the run that an alternative gave: where the pass stands in it
pub stands_run : (s : Setting) (u : Input) (k n : ℕ) (o : Outcome) (p : Path) (old new : Option (List ℕ)) (l m : Log) (t : Tried) → p ≡ path_of s u → k < length p → TriedOne s u (k, o) old new l m (Some t) → (t.kept ≡ true → n ≡ k + 1) → (t.kept ≡ false → n ≡ 0) → StandsAt s t.run n
stands_run s u k n o p old new l m t path below (was_run i same gives f) stays leaves = record { run = f.run; within = by t.kept refl }
  where
    -- it goes on behind the alternative
    room : Keeps s i (prediction s u (k, o)) → k + 1 ≤ length (t.run).path
    room h =
        let a = length_begins (path_of s i) (prediction s u (k, o)) h in
        let b = length-append (take k (path_of s u)) (o ∷ []) in
        let d = ap length path in
        let e : length (take k (path_of s u)) ≡ k = taken k (path_of s u) (omega (arith, below, d)) in
        let w = ap length ((f.run).path ∙ ap (path_of s) f.input) in
        omega (arith, a, b, e, w)
      where
        taken : (k : ℕ) (l : Path) → k < length l → length (take k l) ≡ k
        taken zero l h = refl
        taken (suc k) [] h = absurd (omega (arith, h))
        taken (suc k) (x ∷ l) h = ap suc (taken k l (omega (arith, h)))

    by : (b : Bool) → t.kept ≡ b → n ≤ length (t.run).path
    by true e = let a = stays e in let b = room (f.kept.0 e) in omega (arith, a, b)
    by false e = let a = leaves e in omega (arith, a)

-- what is left to pass falls
pub falls_on : (limit m q k n events : ℕ) → q ≡ m → n ≡ k + 1 → k < events → left_to_pass limit q events n < left_to_pass limit m events k
falls_on limit m q k n events e f below = subst (λ x. left_to_pass limit x events n < left_to_pass limit m events k) (sym e) (omega (arith, f, below))

pub falls_back : (limit m q k n events others : ℕ) → q ≡ suc m → m < limit → others ≤ 1024 → left_to_pass limit q others n < left_to_pass limit m events k
falls_back limit m q k n events others e h few =
    let f : limit - m ≡ suc (limit - q) = omega (arith, e, h) in
    omega (arith, f, few)

-- a pass that is over
pub pass_over : (s : Setting) (limit : ℕ) (start : Lcg) (before : Option (List ℕ)) (passes : ℕ) (cur : Made) (k : ℕ) (g : Lcg) (log : Log) (now : Option (List ℕ)) → StandsAt s cur k → PassesTo s limit start before passes (cur.trace).input k g log now → (limit ≤ log.made) ⊎ (k ≡ length cur.path) → Passed s limit start before passes g log now
pass_over s limit start before passes cur k g log now stands a e = record { input = (cur.trace).input; event = k; came = a; over = by e }
  where
    by : (limit ≤ log.made) ⊎ (k ≡ length cur.path) → (limit ≤ log.made) ⊎ (k ≡ length (path_of s (cur.trace).input))
    by (inl f) = inl f
    by (inr f) = inr (f ∙ ap length (stands.run).path)

pub last_of : (passes made limit : ℕ) → (passes ≡ 0) ⊎ (made ≡ limit) → (passes ≡ 0) ⊎ (limit ≤ made)
last_of passes made limit (inl e) = inl e
last_of passes made limit (inr e) = inr (omega (arith, e))

-- the walk is cut off behind the base run
pub base_cut : (s : Setting) (limit : ℕ) (start : Lcg) (before new : Option (List ℕ)) (l m : Log) (r : Made) → Nothing (length s.checked.sites) l → Started s before new l m r → WalkedSome s (FromStart s limit start true) before new
base_cut s limit start before new l m r n st =
    along_cut s (FromStart s limit start) (FromStart s limit start) before new new m (along_first s (FromStart s limit start) before new l m r n st) refl
    (pass_cut_off (base_of s) 0 (limit - 1) start 1 refl)

-- cut off before an event, whatever the walk's start
pub event_cut : (s : Setting) (limit : ℕ) (u : Input) (k : ℕ) (g : Lcg) (mid : Option (List ℕ)) (l : Log) (start : Lcg) (before : Option (List ℕ)) (passes : ℕ) → PassesTo s limit start before passes u k g l mid → WalkedSome s (FromStart s limit start true) before mid
event_cut s limit u k g mid l start before passes a = passes_cut s limit start before passes u k g mid l a

-- what a pass was cut off in
pub pass_cut : (s : Setting) (limit : ℕ) (u v : Input) (k n : ℕ) (g h : Lcg) (l m : Log) (mid now new : Option (List ℕ)) →
    ((start : Lcg) (before : Option (List ℕ)) (passes : ℕ) → PassesTo s limit start before passes u k g l mid → PassesTo s limit start before passes v n h m now) →
    ((start : Lcg) (before : Option (List ℕ)) (passes : ℕ) → PassesTo s limit start before passes v n h m now → WalkedSome s (FromStart s limit start true) before new) →
    (start : Lcg) (before : Option (List ℕ)) (passes : ℕ) → PassesTo s limit start before passes u k g l mid → WalkedSome s (FromStart s limit start true) before new
pass_cut s limit u v k n g h l m mid now new came err start before passes a = err start before passes (came start before passes a)
