-- A directed walk, step by step.
use Rattle.std.proofs.Common.{◌≡◌, ◌<◌, ◌≤◌, ◌⊎◌, inl, inr, ℕ, suc, ◌+◌, ◌-◌, ◌*◌, Bool, true, false, List, [], ◌∷◌, length, get_or, map, Option, Some, None, Result, Ok, Err, OnErr, slice_get, refl, sym, ◌∙◌, subst, ap, arith}
use Rattle.std.proofs.lemmas.Option.{slice_get_within}
use Rattle.cc_base.specs.declared.inputs.Input.{Input}
use Rattle.cc_base.specs.Limits.{InRange}
use Rattle.cc_base.specs.Paths.{In}
use Rattle.cc_model.specs.declared.checked.Checked.{Checked}
use Rattle.cc_model.specs.Listing.{Item}
use Rattle.cc_model.specs.Report.{item_line}
use Rattle.cc_outside.specs.Told.{WritesPart}
use Rattle.sym_run.specs.Traces.{outcome_at}
use Rattle.tac_lower.specs.declared.tac.Tac.{Tac}
use Rattle.search_walks.specs.declared.candidates.Candidate.{Candidate as Offer}
use Rattle.search_walks.specs.declared.directed.Course.{Course}
use Rattle.search_walks.specs.declared.log.Log.{Log}
use Rattle.search_walks.specs.declared.log.Tried.{Tried}
use Rattle.search_walks.specs.declared.runs.Made.{Made}
use Rattle.search_walks.specs.Counted.{Nothing}
use Rattle.search_walks.specs.Course.{plain, IsOffered, Covers, Fresh, Ready, FromBase, FromCourse, Led}
use Rattle.search_walks.specs.Distance.{AreDistances}
use Rattle.search_walks.specs.Logged.{Along, Walked, WalkedSome}
use Rattle.search_walks.specs.Made.{RunOf}
use Rattle.search_walks.specs.Nearest.{IsAtPlace, IsFirst}
use Rattle.search_base.specs.Setting.{Setting, layer_of, base_of}
use Rattle.search_walks.specs.Steps.{Followed, Started, TriedOne, no_input, past_budget, was_run, TriedSome, base_item}
use Rattle.search_walks.specs.Walks.{Candidate, candidates, without, prediction, Gives, IsItemOf, IsNew, IsNearest, Directed, directed_full, directed_none_near, directed_cut_off, directed_never_one, directed_spent_one, directed_new_one, directed_old_one}
use Rattle.search_walks.proofs.CourseLaws.{length_map, map_without, in_at, in_without, shorter, plain_offers, are_offered, few_offers, covers_first, covers_run, covers_old, is_new, not_new, no_nearest, a_nearest}
use Rattle.search_walks.proofs.LoggedLaws.{along_first, along_none, along_spent, along_run, along_end, along_cut, along_some, cut_at_first}
use Rattle.search_walks.proofs.NewLaws.{new_or}
use Rattle.search_base.proofs.TermLaws.{there_is}

-- ---- what is left

module _ (s : Setting) (t : Tac) where
  pub ready_fresh : (m : Log) (r : Made) (a : Course) → RunOf s r.trace r.path → length (m.covered).items ≡ 2 * length s.checked.sites → Fresh s t m r a → Ready s m a
  ready_fresh m r a run z f = record {
    run = subst (λ (y : Made). RunOf s y.trace y.path) (sym f.run_is) run;
    offered = λ x h. subst (λ (y : Made). IsOffered (y.trace).events x) (sym f.run_is) (are_offered (r.trace).events x (subst (In x) f.open_is h));
    few = subst (λ os. length os ≤ 28672) (sym f.open_is) (few_offers s r.trace r.path run);
    size = z;
    far = (f.distances).all;
  }

module _ (s : Setting) (l : Log) (a : Course) (ready : Ready s l a) (j : ℕ) (x : Offer) (at : slice_get (a.open).items j ≡ Some x) where
  pub event_there : x.event < length (a.run).path
  event_there =
      let o = ready.offered x (in_at (a.open).items j x at) in
      let h = slice_get_within ((a.run).trace).events x.event o.event o.is in
      let n = ap length (ready.run).outcomes in
      let k = length_map outcome_at ((a.run).trace).events in
      omega (arith, h, n, k)

  pub is_other : In x.outcome ((layer_of s).others ((a.run).trace).input x.event)
  is_other = let o = ready.offered x (in_at (a.open).items j x at) in subst (In x.outcome) ((ready.run).others x.event o.event o.is) o.other

  module _ (m : Log) (b : Course) (one_less : (b.open).items ≡ without j (a.open).items) where
    pub ready_less : b.run ≡ a.run → (b.far).items ≡ (a.far).items → length (m.covered).items ≡ 2 * length s.checked.sites → Ready s m b
    ready_less same_run same_far z = record {
      run = subst (λ (y : Made). RunOf s y.trace y.path) (sym same_run) ready.run;
      offered = λ y h. subst (λ (w : Made). IsOffered (w.trace).events y) (sym same_run) (ready.offered y (in_without y j (a.open).items (subst (In y) one_less h)));
      few = let p = ap length one_less in let q = shorter j (a.open).items (slice_get_within (a.open).items j x at) in let r = ready.few in omega (arith, p, q, r);
      size = z;
      far = ap length same_far ∙ ready.far;
    }

-- the nearest place is one of the list's
pub place_there : (c : Checked) (v : List (Option ℕ)) (cs : List Offer) (j : ℕ) → IsFirst (IsAtPlace c v cs) (Some j) → j < length cs
place_there c v cs j h = let w = h.1 in slice_get_within cs j w.offer w.is

pub below_all : (c : Checked) (v : List (Option ℕ)) (cs ds : List Offer) (j : ℕ) → cs ≡ ds → IsFirst (IsAtPlace c v cs) (Some j) → j < length ds
below_all c v cs ds j e h = subst (λ y. j < length y) e (place_there c v cs j h)

pub found : (c : Checked) (v : List (Option ℕ)) (cs ds : List Offer) (j : ℕ) (x : Offer) → cs ≡ ds → IsFirst (IsAtPlace c v cs) (Some j) → x ≡ get_or ds j x → slice_get ds j ≡ Some x
found c v cs ds j x e h f = there_is ds j x (below_all c v cs ds j e h) f

pub less_few : (os ps : List Offer) (j : ℕ) (x : Offer) → ps ≡ without j os → slice_get os j ≡ Some x → length os ≤ 28672 → length ps ≤ 28672
less_few os ps j x e at h = let p = ap length e in let q = shorter j os (slice_get_within os j x at) in omega (arith, p, q, h)

-- the nearest place, whatever the lists are called
pub first_at : (c : Checked) (v w : List (Option ℕ)) (cs ds : List Offer) (o : Option ℕ) → v ≡ w → cs ≡ ds → IsFirst (IsAtPlace c v cs) o → IsFirst (IsAtPlace c w ds) o
first_at c v w cs ds o e f h = subst (λ y. IsFirst (IsAtPlace c y ds) o) e (subst (λ y. IsFirst (IsAtPlace c v y) o) f h)

module _ (s : Setting) (limit : ℕ) (t : Tac) where
  -- from a run with alternatives, inputs that were run, and a number of runs
  abbrev From : Input → List Candidate → List Input → ℕ → Bool → List Item → Type 0
  From u cs ran made cuts l = Directed s limit cuts t u cs ran made l

  from_same : (u v : Input) (cs ds : List Candidate) (ran : List Input) (k n : ℕ) → u ≡ v → cs ≡ ds → k ≡ n → (cuts : Bool) (l : List Item) → From v ds ran n cuts l → From u cs ran k cuts l
  from_same u v cs ds ran k n e f g cuts l d = subst (λ w. From w cs ran k cuts l) (sym e) (subst (λ w. From v w ran k cuts l) (sym f) (subst (λ w. From v ds ran w cuts l) (sym g) d))

  module _ (start : Option (List ℕ)) where
    -- ---- from the base run

    along_base : (new : Option (List ℕ)) (l m : Log) (r : Made) → Nothing (length s.checked.sites) l → Started s start new l m r → Along s (FromBase s limit t) (FromBase s limit t) start new m
    along_base new l m r n x = along_first s (FromBase s limit t) start new l m r n x

    pub cut_at_base : InRange s.limits → (new : Option (List ℕ)) → WritesPart start new (item_line (base_item s)) → WalkedSome s (FromBase s limit t true) start new
    cut_at_base range new w = cut_at_first s (FromBase s limit t) start range new w (directed_cut_off (base_of s) (candidates s (base_of s)) (base_of s ∷ []) 1 refl)

    pub cut_after_base : (mid new : Option (List ℕ)) (l m : Log) (r : Made) → Nothing (length s.checked.sites) l → Started s start mid l m r → new ≡ mid → WalkedSome s (FromBase s limit t true) start new
    cut_after_base mid new l m r n x e = along_cut s (FromBase s limit t) (FromBase s limit t) start mid new m (along_base mid l m r n x) e (directed_cut_off (base_of s) (candidates s (base_of s)) (base_of s ∷ []) 1 refl)

    pub led_first : (new : Option (List ℕ)) (l m : Log) (r : Made) (a : Course) → 1 ≤ limit → Nothing (length s.checked.sites) l → Started s start new l m r → Fresh s t m r a → Led s limit t start new m a
    led_first new l m r a h n x f = record {
      within = let p = one in omega (arith, p, h);
      ran = base_of s ∷ [];
      along = along_none s (FromBase s limit t) (FromBase s limit t) (FromCourse s limit t a (base_of s ∷ []) m.made) start new m (along_base new l m r n x)
          (λ cuts rest d. from_same (base_of s) ((a.run).trace).input (candidates s (base_of s)) (map plain (a.open).items) (base_of s ∷ []) 1 m.made (sym input) (sym choices) (sym one) cuts rest d);
      covers = covers_first s start new l m r n x;
      seen = (m.covered).items;
      seen_covers = covers_first s start new l m r n x;
      distances = f.distances;
    }
      where
        one : m.made ≡ 1
        one = (x.counted).made ∙ ap (λ k. suc k) n.made

        input : ((a.run).trace).input ≡ base_of s
        input = ap (λ (y : Made). (y.trace).input) f.run_is ∙ x.input

        choices : map plain (a.open).items ≡ candidates s (base_of s)
        choices = ap (map plain) f.open_is ∙ plain_offers s r.trace r.path x.run ∙ ap (candidates s) x.input

    -- ---- at a course

    module _ (a : Course) (l : Log) (mid : Option (List ℕ)) (ready : Ready s l a) (led : Led s limit t start mid l a) where
      abbrev input : Input
      input = ((a.run).trace).input

      abbrev choices : List Candidate
      choices = map plain (a.open).items

      pub full : limit ≤ l.made → (cuts : Bool) → Walked s (FromBase s limit t cuts) start mid l
      full h = along_end s (FromBase s limit t) (FromCourse s limit t a led.ran l.made) start mid l led.along
          (λ cuts. let z : limit ≡ l.made = let w = led.within in omega (arith, h, w) in subst (λ k. From input choices led.ran k cuts []) z (directed_full input choices led.ran))

      pub ends_here : IsFirst (IsAtPlace s.checked (a.far).items (a.open).items) None → (cuts : Bool) → Walked s (FromBase s limit t cuts) start mid l
      ends_here n = along_end s (FromBase s limit t) (FromCourse s limit t a led.ran l.made) start mid l led.along
          (λ cuts. directed_none_near input choices led.ran l.made (no_nearest s t led.seen (a.far).items led.distances (a.run).trace (a.run).path ready.run limit cuts (a.open).items ready.offered led.ran led.seen_covers n))

      pub cut_here : (new : Option (List ℕ)) → new ≡ mid → WalkedSome s (FromBase s limit t true) start new
      cut_here new e = along_cut s (FromBase s limit t) (FromCourse s limit t a led.ran l.made) start mid new l led.along e (directed_cut_off input choices led.ran l.made refl)

      module _ (room : l.made < limit) (j : ℕ) (x : Offer) (at : slice_get (a.open).items j ≡ Some x) (first : IsFirst (IsAtPlace s.checked (a.far).items (a.open).items) (Some j)) where
        near : (cuts : Bool) → IsNearest s t input led.ran choices j (plain x)
        near cuts = a_nearest s t led.seen (a.far).items led.distances (a.run).trace (a.run).path ready.run limit cuts (a.open).items ready.offered led.ran led.seen_covers j x at first

        pub cut_within : (new : Option (List ℕ)) → TriedSome s input (plain x) mid new → WalkedSome s (FromBase s limit t true) start new
        cut_within new w = along_some s (FromBase s limit t) (FromCourse s limit t a led.ran l.made) start input (plain x) mid new l led.along w
            (directed_cut_off input choices led.ran l.made refl)
            (λ h. directed_spent_one input choices led.ran l.made [] j (plain x) room (near true) h (directed_cut_off input (without j choices) led.ran l.made refl))
            (λ i y g k. one i y g k (new_or s i led.ran (l.covered).items led.covers limit true))
          where
            one : (i : Input) (y : Item) → Gives s input (prediction s input (plain x)) i → IsItemOf s i (prediction s input (plain x)) y → IsNew s i led.ran ⊎ (IsNew s i led.ran → ⊥) → From input choices led.ran l.made true (y ∷ [])
            one i y g k (inl w) = directed_new_one input choices led.ran l.made [] j (plain x) i y room (near true) g k w (directed_cut_off i (candidates s i) (i ∷ led.ran) (suc l.made) refl)
            one i y g k (inr w) = directed_old_one input choices led.ran l.made [] j (plain x) i y room (near true) g k w (directed_cut_off input (without j choices) (i ∷ led.ran) (suc l.made) refl)

        -- the course goes on without the candidate
        module _ (b : Course) (m : Log) (new : Option (List ℕ)) (same_run : b.run ≡ a.run) (same_far : (b.far).items ≡ (a.far).items) (one_less : (b.open).items ≡ without j (a.open).items) where
          input_is : ((b.run).trace).input ≡ input
          input_is = ap (λ (y : Made). (y.trace).input) same_run

          open_is : map plain (b.open).items ≡ without j choices
          open_is = ap (map plain) one_less ∙ map_without plain j (a.open).items

          led_as : (ran : List Input) (k : ℕ) → m.made ≡ k → (k ≤ limit) → Covers s ran (m.covered).items → Covers s ran led.seen → Along s (FromBase s limit t) (From input (without j choices) ran k) start new m → Led s limit t start new m b
          led_as ran k e h c d w = record {
            within = omega (arith, e, h);
            ran = ran;
            along = along_none s (FromBase s limit t) (From input (without j choices) ran k) (FromCourse s limit t b ran m.made) start new m w
                (λ cuts rest y. from_same input ((b.run).trace).input (without j choices) (map plain (b.open).items) ran k m.made (sym input_is) (sym open_is) (sym e) cuts rest y);
            covers = c;
            seen = led.seen;
            seen_covers = d;
            distances = subst (AreDistances s.checked t led.seen) (sym same_far) led.distances;
          }

          led_same : m ≡ l → Along s (FromBase s limit t) (From input (without j choices) led.ran l.made) start new l → Led s limit t start new m b
          led_same e w = led_as led.ran l.made (ap (λ (y : Log). y.made) e) led.within (subst (λ (y : Log). Covers s led.ran (y.covered).items) (sym e) led.covers) led.seen_covers
              (subst (λ (y : Log). Along s (FromBase s limit t) (From input (without j choices) led.ran l.made) start new y) (sym e) w)

          pub led_none : (o : Option Tried) → o ≡ None → TriedOne s input (plain x) mid new l m o → Led s limit t start new m b
          led_none None e (no_input h w z) = led_same z (along_none s (FromBase s limit t) (FromCourse s limit t a led.ran l.made) (From input (without j choices) led.ran l.made) start new l
              (subst (λ o. Along s (FromBase s limit t) (FromCourse s limit t a led.ran l.made) start o l) (sym w) led.along)
              (λ cuts rest d. directed_never_one input choices led.ran l.made rest j (plain x) room (near cuts) h d))
          led_none None e (past_budget h b w z) = led_same z (along_spent s (FromBase s limit t) (FromCourse s limit t a led.ran l.made) (From input (without j choices) led.ran l.made) start mid new l (prediction s input (plain x)) b led.along w
              (λ cuts rest d. directed_spent_one input choices led.ran l.made rest j (plain x) room (near cuts) h d))
          led_none (Some y) e w = absurd (no_some e)
            where
              no_some : Some y ≡ None → ⊥
              no_some f = cc f

          pub led_old : (y : Tried) → y.is_new ≡ false → TriedOne s input (plain x) mid new l m (Some y) → Led s limit t start new m b
          led_old y e w = by (Some y) refl w
            where
              from : (i : Input) (z : Tried) → z ≡ y → Gives s input (prediction s input (plain x)) i → (f : Followed s i (prediction s input (plain x)) mid new l m z) → Led s limit t start new m b
              from i z q g f = led_as (i ∷ led.ran) (suc l.made) (f.counted).made (let r = room in omega (arith, r))
                  (covers_run s led.ran i (((layer_of s).runs).end i) l m z.is_new f.counted led.covers)
                  (covers_old s led.ran limit true i led.seen led.seen_covers (none true))
                  (along_run s (FromBase s limit t) (FromCourse s limit t a led.ran l.made) (From input (without j choices) (i ∷ led.ran) (suc l.made)) start i (prediction s input (plain x)) mid new l m z led.along f
                  (λ cuts rest d. directed_old_one input choices led.ran l.made rest j (plain x) i f.item room (near cuts) g f.is_item (none cuts) d))
                where
                  none : (cuts : Bool) → IsNew s i led.ran → ⊥
                  none cuts = not_new s led.ran limit cuts i (((layer_of s).runs).end i) l m z.is_new f.counted led.covers (ap (λ (v : Tried). v.is_new) q ∙ e)

              by : (o : Option Tried) → o ≡ Some y → TriedOne s input (plain x) mid new l m o → Led s limit t start new m b
              by None q v = absurd (no_none q)
                where
                  no_none : None ≡ Some y → ⊥
                  no_none f = cc f
              by (Some z) q (was_run i z' g f) = from i z' (cc q) g f

        -- a run that took a new outcome
        module _ (m : Log) (new : Option (List ℕ)) (y : Tried) (fresh : y.is_new ≡ true) where
          along_new : (i : Input) (f : Followed s i (prediction s input (plain x)) mid new l m y) → Gives s input (prediction s input (plain x)) i → Along s (FromBase s limit t) (From i (candidates s i) (i ∷ led.ran) (suc l.made)) start new m
          along_new i f g = along_run s (FromBase s limit t) (FromCourse s limit t a led.ran l.made) (From i (candidates s i) (i ∷ led.ran) (suc l.made)) start i (prediction s input (plain x)) mid new l m y led.along f
              (λ cuts rest d. directed_new_one input choices led.ran l.made rest j (plain x) i f.item room (near cuts) g f.is_item (is_new s led.ran limit cuts i (((layer_of s).runs).end i) l m y.is_new f.counted led.covers fresh) d)

          -- what came, where the run was made
          record Came (i : Input) : Type 0 where
            pub gives : Gives s input (prediction s input (plain x)) i
            pub followed : Followed s i (prediction s input (plain x)) mid new l m y

          came : TriedOne s input (plain x) mid new l m (Some y) → (i : Input) × Came i
          came w = by (Some y) refl w
            where
              by : (o : Option Tried) → o ≡ Some y → TriedOne s input (plain x) mid new l m o → (i : Input) × Came i
              by None q v = absurd (no_none q)
                where
                  no_none : None ≡ Some y → ⊥
                  no_none f = cc f
              by (Some z) q (was_run i z' g f) = let e : z ≡ y = cc q in (i, record { gives = g; followed = subst (λ v. Followed s i (prediction s input (plain x)) mid new l m v) e f })

          pub cut_new : (last : Option (List ℕ)) → TriedOne s input (plain x) mid new l m (Some y) → last ≡ new → WalkedSome s (FromBase s limit t true) start last
          cut_new last w e = let r = came w in
              along_cut s (FromBase s limit t) (From r.0 (candidates s r.0) (r.0 ∷ led.ran) (suc l.made)) start new last m (along_new r.0 (r.1).followed (r.1).gives) e (directed_cut_off r.0 (candidates s r.0) (r.0 ∷ led.ran) (suc l.made) refl)

          pub led_new : (b : Course) → TriedOne s input (plain x) mid new l m (Some y) → Fresh s t m y.run b → Led s limit t start new m b
          led_new b w h = let r = came w in from r.0 (r.1).followed (r.1).gives
            where
              from : (i : Input) (f : Followed s i (prediction s input (plain x)) mid new l m y) → Gives s input (prediction s input (plain x)) i → Led s limit t start new m b
              from i f g = record {
                within = let e = (f.counted).made in omega (arith, e, room);
                ran = i ∷ led.ran;
                along = along_none s (FromBase s limit t) (From i (candidates s i) (i ∷ led.ran) (suc l.made)) (FromCourse s limit t b (i ∷ led.ran) m.made) start new m (along_new i f g)
                    (λ cuts rest d. from_same i ((b.run).trace).input (candidates s i) (map plain (b.open).items) (i ∷ led.ran) (suc l.made) m.made (sym input_is) (sym open_is) (sym (f.counted).made) cuts rest d);
                covers = covers_run s led.ran i (((layer_of s).runs).end i) l m y.is_new f.counted led.covers;
                seen = (m.covered).items;
                seen_covers = covers_run s led.ran i (((layer_of s).runs).end i) l m y.is_new f.counted led.covers;
                distances = h.distances;
              }
                where
                  input_is : ((b.run).trace).input ≡ i
                  input_is = ap (λ (z : Made). (z.trace).input) h.run_is ∙ f.input

                  open_is : map plain (b.open).items ≡ candidates s i
                  open_is = ap (map plain) h.open_is ∙ plain_offers s (y.run).trace (y.run).path f.run ∙ ap (candidates s) f.input

-- ---- what a run leaves, wherever it was led

module _ (s : Setting) (u : Input) (c : Candidate) (mid new : Option (List ℕ)) (l m : Log) where
  -- what is known of a run that was made
  pub record IsMade (y : Tried) : Type 0 where
    pub run : RunOf s (y.run).trace (y.run).path
    pub made : m.made ≡ suc l.made
    pub size : length (m.covered).items ≡ length (l.covered).items

  pub is_made : (y : Tried) → TriedOne s u c mid new l m (Some y) → IsMade y
  is_made y w = by (Some y) refl w
    where
      by : (o : Option Tried) → o ≡ Some y → TriedOne s u c mid new l m o → IsMade y
      by None q v = absurd (no_none q)
        where
          no_none : None ≡ Some y → ⊥
          no_none f = cc f
      by (Some z) q (was_run i z' g f) = let e : z ≡ y = cc q in subst IsMade e (record { run = f.run; made = (f.counted).made; size = ((f.counted).covered).size })

  pub same_log : (o : Option Tried) → o ≡ None → TriedOne s u c mid new l m o → m ≡ l
  same_log None e (no_input h w z) = z
  same_log None e (past_budget h b w z) = z
  same_log (Some y) e w = absurd (no_some e)
    where
      no_some : Some y ≡ None → ⊥
      no_some f = cc f

  pub tried_as : (o p : Option Tried) → o ≡ p → TriedOne s u c mid new l m o → TriedOne s u c mid new l m p
  tried_as o p e h = subst (TriedOne s u c mid new l m) e h

pub fewer_run : (limit k n p q : ℕ) → n ≡ suc k → k < limit → q ≤ 28672 → (limit - n) * 28673 + q < (limit - k) * 28673 + p
fewer_run limit k n p q e h f = omega (arith, e, h, f)

pub fewer_none : (limit k n : ℕ) (os ps : List Offer) (j : ℕ) (x : Offer) → n ≡ k → ps ≡ without j os → slice_get os j ≡ Some x → (limit - n) * 28673 + length ps < (limit - k) * 28673 + length os
fewer_none limit k n os ps j x e f at = let p = ap length f in let q = shorter j os (slice_get_within os j x at) in let r = ap (λ z. (limit - z) * 28673) e in omega (arith, p, q, r)

-- what is owed where a step is refused
pub on_led : {T E : Type 0} → (r : Result T E) (s : Setting) (limit : ℕ) (t : Tac) (mid new : Option (List ℕ)) (l : Log) (a : Course) → ((start : Option (List ℕ)) → Led s limit t start mid l a → WalkedSome s (FromBase s limit t true) start new) →
    OnErr r ((start : Option (List ℕ)) → Led s limit t start mid l a → WalkedSome s (FromBase s limit t true) start new)
on_led (Ok x) s limit t mid new l a f = tt
on_led (Err e) s limit t mid new l a f = f
