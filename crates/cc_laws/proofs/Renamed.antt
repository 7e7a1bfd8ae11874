-- Two runs whose blocks have other names have the same outcomes and the same end.
use Rattle.std.proofs.Common.{◌≡◌, ℕ, suc, ◌*◌, ℤ, pos, neg_ℤ, Bool, true, false, not, ◌&&◌, ◌||◌, inl, inr, List, [], ◌∷◌, ◌++◌, length, map, Option, Some, None, refl, sym, ap, ap₂, ◌∙◌, subst, slice_get, slice_set, nat_eq, if◌then◌else◌, option_map}
use Rattle.std.proofs.lemmas.Option.{slice_get-map}
use Rattle.std.proofs.lemmas.List.{map-append, length-map, map-set}
use Rattle.cc_base.specs.declared.outcomes.Outcome.{Outcome}
use Rattle.cc_base.specs.declared.outcomes.Outcome.TheVariants.{Zero, Plain, Object}
use Rattle.cc_model.specs.Core as tree
use Rattle.cc_model.specs.Core.{Cell, int_cell, ptr_cell, Layout, Op, Cmp}
use Rattle.cc_model.specs.Domain.{Act, act_arith, act_divisor, act_negate, act_compare, act_test, act_access, act_index, Acted}
use Rattle.cc_model.specs.Plain as base
use Rattle.cc_model.specs.Plain.{Value, num, null, at, Obj, block, made, Data, plain, or_none, has, rank, number_of, nat_of, compared, is_truth, decision_of}
use Rattle.cc_model.specs.Meaning.{Entry, State, Result, ok, over, Fixed}
use Rattle.cc_model.specs.Runs.{Begin, end_of, run}
use Rattle.cc_laws.proofs.Related.{SameAct, Gives, Related, SameEntry, SameLogs, PartLogs, SameResult, SameRan, Void, same_main}

module _ (r : ℕ → ℕ) (one : (a b : ℕ) → nat_eq (r a) (r b) ≡ nat_eq a b) where
  unfoldable pub rename : Value → Value
  rename (at (block a) c) = at (block (r a)) c
  rename (at (made n) c) = at (made n) c
  rename (num z) = num z
  rename null = null

  pub record Renamed (x y : Data) : Type 0 where
    pub blocks : (a : ℕ) → y.blocks (r a) ≡ map rename (x.blocks a)
    pub made : y.made ≡ map (map rename) x.made
    pub touched : y.touched ≡ map r x.touched
    pub stream : y.stream ≡ x.stream
    pub base : y.base ≡ x.base
    pub count : y.count ≡ x.count

  or_null : (o : Option Value) → or_none null (option_map rename o) ≡ rename (or_none null o)
  unfolding or_none rename
  or_null None = refl
  or_null (Some v) = refl

  or_cells : (o : Option (List Value)) → or_none [] (option_map (map rename) o) ≡ map rename (or_none [] o)
  unfolding or_none
  or_cells None = refl
  or_cells (Some v) = refl

  made_cells : (n : ℕ) (x y : Data) → Renamed x y → or_none [] (slice_get y.made n) ≡ map rename (or_none [] (slice_get x.made n))
  made_cells n x y k = ap (λ l. or_none [] (slice_get l n)) k.made ∙ ap (or_none []) (slice_get-map (map rename) x.made n) ∙ or_cells (slice_get x.made n)

  cell_of : (l : List Value) (c : ℕ) → or_none null (slice_get (map rename l) c) ≡ rename (or_none null (slice_get l c))
  cell_of l c = ap (or_none null) (slice_get-map rename l c) ∙ or_null (slice_get l c)

  load_renamed : (p : Value) (x y : Data) → Renamed x y → rename (base.load p x) ≡ base.load (rename p) y
  unfolding base.load base.cells_of rename
  load_renamed (at (block a) c) x y k = sym (ap (λ l. or_none null (slice_get l c)) (k.blocks a) ∙ cell_of (x.blocks a) c)
  load_renamed (at (made n) c) x y k = sym (ap (λ l. or_none null (slice_get l c)) (made_cells n x y k) ∙ cell_of (or_none [] (slice_get x.made n)) c)
  load_renamed (num z) x y k = refl
  load_renamed null x y k = refl

  if_map : (t : Bool) (l m : List Value) → map rename (if t then l else m) ≡ if t then map rename l else map rename m
  if_map true l m = refl
  if_map false l m = refl

  set_renamed : (l m : List Value) (c : ℕ) (v : Value) → m ≡ map rename l → slice_set m c (rename v) ≡ map rename (slice_set l c v)
  set_renamed l m c v e = ap (λ k. slice_set k c (rename v)) e ∙ sym (map-set rename l c v)

  store_renamed : (p v : Value) (x y : Data) → Renamed x y → Renamed (base.store p v x) (base.store (rename p) (rename v) y)
  unfolding base.store base.cells_of base.with_cells base.with_block rename
  store_renamed (at (block a) c) v x y k = record {
    made = k.made;
    touched = k.touched;
    stream = k.stream;
    base = k.base;
    count = k.count;
    blocks = λ b. ap (λ t. if t then slice_set (y.blocks (r a)) c (rename v) else y.blocks (r b)) (one b a)
        ∙ ap₂ (λ l m. if nat_eq b a then l else m) (set_renamed (x.blocks a) (y.blocks (r a)) c v (k.blocks a)) (k.blocks b) ∙ sym (if_map (nat_eq b a) (slice_set (x.blocks a) c v) (x.blocks b));
  }
  store_renamed (at (made n) c) v x y k = record {
    blocks = k.blocks;
    touched = k.touched;
    stream = k.stream;
    base = k.base;
    count = k.count;
    made = ap₂ (λ l m. slice_set l n m) k.made (set_renamed _ _ c v (made_cells n x y k)) ∙ sym (map-set (map rename) x.made n _);
  }
  store_renamed (num z) v x y k = k
  store_renamed null v x y k = k

  zero_renamed : (cs : List Cell) → map base.zero_cell cs ≡ map rename (map base.zero_cell cs)
  unfolding base.zero_cell rename
  zero_renamed [] = refl
  zero_renamed (int_cell ∷ cs) = ap (λ l. num (pos 0) ∷ l) (zero_renamed cs)
  zero_renamed (ptr_cell t ∷ cs) = ap (λ l. null ∷ l) (zero_renamed cs)

  make_renamed : (t : Layout) (x y : Data) → Renamed x y → (rename (base.make t x).value ≡ (base.make t y).value) × Renamed (base.make t x).after (base.make t y).after
  unfolding base.make rename
  make_renamed t x y k = (
    ap (λ n. at (made n) 0) (sym (ap length k.made ∙ length-map x.made (map rename))),
    record {
      blocks = k.blocks;
      touched = k.touched;
      stream = k.stream;
      base = k.base;
      count = k.count;
      made = ap₂ (λ a b. a ++ b ∷ []) k.made (zero_renamed t.cells) ∙ sym (map-append (map rename) x.made (map base.zero_cell t.cells ∷ []));
    },
  )

  counted : (x y : Data) → Renamed x y → Renamed (record x { count = suc x.count }) (record y { count = suc y.count })
  counted x y k = record { blocks = k.blocks; made = k.made; touched = k.touched; stream = k.stream; base = k.base; count = ap suc k.count }

  take_renamed : (p : Value) (x y : Data) → Renamed x y → Renamed (base.take p x) (base.take (rename p) y)
  unfolding base.take rename
  take_renamed p x y k = subst (λ z. Renamed (base.take p x) (base.store (rename p) (num z) (record y { count = suc y.count })))
      (sym (ap₂ (λ b l. or_none b (slice_get l y.count)) k.base k.stream ∙ ap (λ n. or_none x.base (slice_get x.stream n)) k.count))
      (store_renamed p (num (or_none x.base (slice_get x.stream x.count))) _ _ (counted x y k))

  offset_renamed : (p : Value) (n : ℕ) → rename (base.offset p n) ≡ base.offset (rename p) n
  unfolding base.offset rename
  offset_renamed (at (block a) c) n = refl
  offset_renamed (at (made m) c) n = refl
  offset_renamed (num z) n = refl
  offset_renamed null n = refl

  -- ---- events

  number_renamed : (v : Value) → number_of (rename v) ≡ number_of v
  unfolding number_of rename
  number_renamed (at (block a) c) = refl
  number_renamed (at (made n) c) = refl
  number_renamed (num z) = refl
  number_renamed null = refl

  truth_renamed : (v : Value) → is_truth v ≡ is_truth (rename v)
  unfolding is_truth rename
  truth_renamed (at (block a) c) = refl
  truth_renamed (at (made n) c) = refl
  truth_renamed (num z) = refl
  truth_renamed null = refl

  rank_renamed : (a : ℕ) (l : List ℕ) → rank a l ≡ rank (r a) (map r l)
  unfolding rank
  rank_renamed a [] = refl
  rank_renamed a (b ∷ l) = ap₂ (λ t n. if t then 0 else suc n) (sym (one a b)) (rank_renamed a l)

  has_renamed : (a : ℕ) (l : List ℕ) → has a l ≡ has (r a) (map r l)
  unfolding has
  has_renamed a [] = refl
  has_renamed a (b ∷ l) = ap₂ (λ s t. s || t) (sym (one a b)) (has_renamed a l)

  touch_renamed : (a : ℕ) (l : List ℕ) (t : Bool) → (if t then map r l else map r l ++ r a ∷ []) ≡ map r (if t then l else l ++ a ∷ [])
  touch_renamed a l true = refl
  touch_renamed a l false = sym (map-append r l (a ∷ []))

  same_renamed : (v u : Value) → base.same_ptr v u ≡ base.same_ptr (rename v) (rename u)
  unfolding base.same_ptr base.same_obj rename
  same_renamed (at (block a) c) (at (block b) e) = ap (λ t. t && nat_eq c e) (sym (one a b))
  same_renamed (at (block a) c) (at (made n) e) = refl
  same_renamed (at (made m) c) (at (block b) e) = refl
  same_renamed (at (made m) c) (at (made n) e) = refl
  same_renamed (at (block a) c) (num z) = refl
  same_renamed (at (made m) c) (num z) = refl
  same_renamed (at (block a) c) null = refl
  same_renamed (at (made m) c) null = refl
  same_renamed (num z) (at (block b) e) = refl
  same_renamed (num z) (at (made n) e) = refl
  same_renamed (num z) (num y) = refl
  same_renamed (num z) null = refl
  same_renamed null (at (block b) e) = refl
  same_renamed null (at (made n) e) = refl
  same_renamed null (num y) = refl
  same_renamed null null = refl

  ptr_renamed : (o : Cmp) (v u : Value) → base.compare_ptr o v u ≡ base.compare_ptr o (rename v) (rename u)
  unfolding base.compare_ptr
  ptr_renamed tree.ne v u = ap not (same_renamed v u)
  ptr_renamed tree.eq v u = same_renamed v u
  ptr_renamed tree.lt v u = same_renamed v u
  ptr_renamed tree.gt v u = same_renamed v u
  ptr_renamed tree.le v u = same_renamed v u
  ptr_renamed tree.ge v u = same_renamed v u

  -- where one of the two is no number, they are compared as pointers
  ptr_left : (o : Cmp) (n : Obj) (c : ℕ) (u : Value) → compared o (at n c) u ≡ base.compare_ptr o (at n c) u
  unfolding compared
  ptr_left o n c u = refl

  ptr_null : (o : Cmp) (u : Value) → compared o null u ≡ base.compare_ptr o null u
  unfolding compared
  ptr_null o u = refl

  ptr_right : (o : Cmp) (z : ℤ) (n : Obj) (c : ℕ) → compared o (num z) (at n c) ≡ base.compare_ptr o (num z) (at n c)
  unfolding compared
  ptr_right o z n c = refl

  pub num_renamed : (z : ℤ) → rename (num z) ≡ num z
  unfolding rename
  num_renamed z = refl

  compared_renamed : (o : Cmp) (v u : Value) → compared o v u ≡ compared o (rename v) (rename u)
  unfolding compared rename
  compared_renamed o (num z) (num y) = refl
  compared_renamed o (num z) null = refl
  compared_renamed o (num z) (at (block b) e) = ptr_right o z (block b) e ∙ ptr_renamed o (num z) (at (block b) e) ∙ sym (ptr_right o z (block (r b)) e)
  compared_renamed o (num z) (at (made n) e) = refl
  compared_renamed o null u = ptr_null o u ∙ ptr_renamed o null u ∙ sym (ptr_null o (rename u))
  compared_renamed o (at (block a) c) u = ptr_left o (block a) c u ∙ ptr_renamed o (at (block a) c) u ∙ sym (ptr_left o (block (r a)) c (rename u))
  compared_renamed o (at (made m) c) u = ptr_left o (made m) c u ∙ ptr_renamed o (at (made m) c) u ∙ sym (ptr_left o (made m) c (rename u))

  Out : Act Value → Acted Value Data Outcome → Acted Value Data Outcome → Type 0
  Out a p q = (p.event ≡ q.event) × Gives (λ v u. rename v ≡ u) (λ v u. rename v ≡ u) a p.event p.value q.value × Renamed p.after q.after

  access_renamed : (v : Value) (x y : Data) → Renamed x y → Out (act_access v) (base.access_in v x) (base.access_in (rename v) y)
  unfolding Out base.access_in base.acted base.touch rename
  access_renamed (at (block a) c) x y k = (
    ap Object (rank_renamed a x.touched ∙ ap (rank (r a)) (sym k.touched)),
    (λ z. refl),
    record {
      blocks = k.blocks;
      made = k.made;
      stream = k.stream;
      base = k.base;
      count = k.count;
      touched = ap₂ (λ t l. if t then l else l ++ r a ∷ []) (ap (has (r a)) k.touched ∙ sym (has_renamed a x.touched)) k.touched ∙ touch_renamed a x.touched (has a x.touched);
    },
  )
  access_renamed (at (made n) c) x y k = (refl, (λ z. refl), k)
  access_renamed (num z) x y k = (refl, (λ z. refl), k)
  access_renamed null x y k = (refl, (λ z. refl), k)

  act_renamed : (a : Act Value) (b : Act Value) (x y : Data) → SameAct (λ v u. rename v ≡ u) (λ v u. rename v ≡ u) a b → Renamed x y → Out a (base.act a x) (base.act b y)
  unfolding Out base.act base.acted
  act_renamed (act_arith o p q) (act_arith o' u v) x y i k =
      let e = number_renamed p in let n : number_of p ≡ number_of u = sym e ∙ ap number_of i.1 in let m : number_of q ≡ number_of v = sym (number_renamed q) ∙ ap number_of i.2 in (
        ap₂ (λ s t. base.fit_of (base.fitting o s t)) n m ∙ ap (λ z. base.fit_of (base.fitting z (number_of u) (number_of v))) i.0,
        num_renamed _ ∙ ap num (ap₂ (base.apply o) n m ∙ ap (λ z. base.apply z (number_of u) (number_of v)) i.0),
        k,
      )
  act_renamed (act_divisor p q) (act_divisor u v) x y i k = (ap (λ n. if base.int_eq n (pos 0) then Zero else Plain) (sym (number_renamed q) ∙ ap number_of i.1), tt, k)
  act_renamed (act_negate p) (act_negate u) x y i k = let n : number_of p ≡ number_of u = sym (number_renamed p) ∙ ap number_of i in
      (ap (λ z. base.fit_of (neg_ℤ z)) n, num_renamed _ ∙ ap (λ z. num (neg_ℤ z)) n, k)
  act_renamed (act_compare o p q) (act_compare o' u v) x y i k = (ap decision_of (compared_renamed o p q ∙ ap₂ (compared o) i.1 i.2 ∙ ap (λ z. compared z u v) i.0), tt, k)
  act_renamed (act_test p) (act_test u) x y i k = (ap decision_of (truth_renamed p ∙ ap is_truth i), tt, k)
  act_renamed (act_access p) (act_access u) x y i k = subst (λ z. Out (act_access p) (base.access_in p x) (base.access_in z y)) i (access_renamed p x y k)
  act_renamed (act_index p q n c) (act_index u v m e) x y i k = let z : number_of q ≡ number_of v = sym (number_renamed q) ∙ ap number_of i.1 in
      (ap₂ base.index_of z i.2, offset_renamed p _ ∙ ap₂ base.offset i.0 (ap₂ (λ s t. nat_of s * t) z i.3), k)
  act_renamed _ _ x y i k = absurd i

  out_of : (a : Act Value) (p q : Acted Value Data Outcome) → Out a p q → (w : Unit {0}) × Unit {0} × (p.event ≡ q.event) × Unit {0} × Gives (λ v u. rename v ≡ u) (λ v u. rename v ≡ u) a p.event p.value q.value × Renamed p.after q.after
  unfolding Out
  out_of a p q i = (tt, tt, i.0, tt, i.1, i.2)

  pub null_renamed : rename null ≡ null
  unfolding rename
  null_renamed = refl

  pub made_renamed : (n c : ℕ) → rename (at (made n) c) ≡ at (made n) c
  unfolding rename
  made_renamed n c = refl

  abbrev renaming : Related plain plain
  renaming = record {
    W = Unit {0};
    Le = λ w w'. Unit {0};
    le_refl = λ w. tt;
    le_trans = λ w w' w'' i j. tt;
    RV = λ w v u. rename v ≡ u;
    RL = λ w v u. rename v ≡ u;
    later_value = λ w w' v u i j. j;
    later_location = λ w w' v u i j. j;
    RD = λ w. Renamed;
    Ev = λ w v u. Unit {0};
    Part = λ w v u. ⊥;
    later_event = λ w w' a b le k. tt;
    number = λ w z. num_renamed z;
    nil = λ w. null_renamed;
    address = λ w v u i. i;
    offset = λ w v u n i. offset_renamed v n ∙ ap (λ t. base.offset t n) i;
    global = λ w n. made_renamed 0 n;
    load = λ w p q x y i k. load_renamed p x y k ∙ ap (λ t. base.load t y) i;
    store = λ w p v q u x y i j k. subst (λ t. Renamed (base.store p v x) (base.store t u y)) i (subst (λ t. Renamed (base.store p v x) (base.store (rename p) t y)) j (store_renamed p v x y k));
    make = λ w t x y k. make_renamed t x y k;
    take = λ w p q x y i k. (tt, tt, subst (λ t. Renamed (base.take p x) (base.take t y)) i (take_renamed p x y k));
    act = λ w a b x y i k. inl (out_of a _ _ (act_renamed a b x y i k));
  }

  -- ---- whole runs

  same_entry : (a b : Entry Outcome) → SameEntry plain plain renaming tt a b → a ≡ b
  same_entry a b i = ap₂ (λ k t. record { kind = k; token = t; event = a.event }) i.kind i.token ∙ ap (λ e. record { kind = b.kind; token = b.token; event = e }) i.outcome

  logs_same : (l m : List (Entry Outcome)) → SameLogs plain plain renaming tt l m → l ≡ m
  logs_same [] [] i = refl
  logs_same (a ∷ l) (b ∷ m) i = ap₂ (λ s t. s ∷ t) (same_entry a b i.0) (logs_same l m i.1)
  logs_same [] (b ∷ m) i = absurd i
  logs_same (a ∷ l) [] i = absurd i

  no_part : (l m : List (Entry Outcome)) → PartLogs plain plain renaming tt l m → ⊥
  no_part (a ∷ l) (b ∷ m) (inl i) = no_part l m i.1
  no_part (a ∷ l) (b ∷ m) (inr i) = i.2
  no_part [] [] i = i
  no_part [] (b ∷ m) i = i
  no_part (a ∷ l) [] i = i

  ends_same : (p q : Result (State Value Data) (Unit {0})) → SameResult plain plain renaming tt (Void plain plain renaming) p q → end_of p ≡ end_of q
  ends_same (ok a s) (ok b t) i = refl
  ends_same (over e s) (over g t) i = i.0
  ends_same (ok a s) (over g t) i = absurd i
  ends_same (over e s) (ok b t) i = absurd i

  module _ (x : Fixed) (steps events : ℕ) (b c : Begin Value Data) (locals : (n : ℕ) → rename (b.locals n) ≡ c.locals n) (start : Renamed b.data_now c.data_now) where
    both : SameRan plain plain renaming tt (Void plain plain renaming) (run plain x steps events b) (run plain x steps events c)
    unfolding run
    both = same_main plain plain renaming x tt tt tt (record { steps = steps; events = events; locals = b.locals; data_now = b.data_now }) (record { steps = steps; events = events; locals = c.locals; data_now = c.data_now }) (record { steps = refl; events = refl; locals = locals; data_now = start })

    pub same_runs : ((run plain x steps events b).log ≡ (run plain x steps events c).log) × (end_of (run plain x steps events b).result ≡ end_of (run plain x steps events c).result)
    same_runs = elim both [ inl i ↦ (logs_same _ _ i.2, ends_same (run plain x steps events b).result (run plain x steps events c).result i.3) | inr i ↦ absurd (no_part _ _ i.2) ]
