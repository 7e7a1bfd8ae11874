-- What each emitter adds, by what its parts add.
use Rattle.std.proofs.Common.{◌≡◌, ℕ, ℤ, suc, ◌+◌, ◌-◌, ◌<◌, ◌≤◌, pos, List, [], ◌∷◌, ◌++◌, length, Result, Ok, Err, OnOk, refl, sym, ap, ◌∙◌, arith, append_assoc, add-one, subst, map, drop, get_or}
use Rattle.std.proofs.Math.Seq.{drop-cons, drop-length}
use Rattle.cc_model.specs.declared.trees.Expr.{Expr}
use Rattle.cc_model.specs.Resolve.{Facts, resolve, value_of, vals_of}
use Rattle.std.proofs.lemmas.List.{append-nil}
use Rattle.cc_model.specs.CheckedProgram.{layout_at}
use Rattle.cc_model.specs.declared.checked.Checked.{Checked}
use Rattle.cc_model.specs.declared.checked.SiteId.{SiteId}
use Rattle.cc_model.specs.declared.checked.SiteKind.{SiteKind}
use Rattle.cc_model.specs.declared.checked.SiteKind.TheVariants.{Decision, Fit, Divisor, Index, Access}
use Rattle.cc_model.specs.Core as tree
use Rattle.cc_model.specs.Core.{Op, Cmp, Val, Cond, Loc, Vals, Layout}
use Rattle.cc_model.specs.Instructions.{Instruction, i_step, i_number, i_nil, i_arith, i_divisor, i_negate, i_compare, i_truth, i_slot, i_global, i_access, i_offset, i_index, i_load, i_malloc, i_jump, i_jump_zero, i_call}
use Rattle.tac_lower.specs.declared.instr.Instr.{Instr}
use Rattle.tac_lower.specs.declared.instr.Instr.TheVariants as instr
use Rattle.tac_lower.specs.declared.instr.Comparison.{Comparison}
use Rattle.tac_lower.specs.Seen.{seen_by, site_token, comparison}
use Rattle.tac_lower.specs.Lowering.{arith_code, sides_code, number_code, value_code, decision_code, cond_code, locate_code, values_code, count}
use Rattle.tac_lower.specs.Sizes.{op_size, value_size, decision_size, cond_size, locate_size, values_size}
use Rattle.tac_lower.specs.Adding.{Adds, HasSite, OpSited, Sited, CondSited, PlaceSited, AllSited}
use Rattle.tac_lower.specs.Emitted.{Room, AddsOperation, AddsSides, AddsValue, AddsDecision, AddsCond, AddsPlace, AddsValues, AddsNumber, AddsIndex}
use Rattle.tac_lower.proofs.Adding.{one, two, turned, longer}
use Rattle.tac_lower.proofs.Lengths.{value_length, decision_length, cond_length_is, locate_length, values_length}

pub on_ok : {A E : Type 0} {P Q : Type 0} (r : Result A E) → OnOk r P → (P → Q) → OnOk r Q
on_ok (Ok a) h f = f h
on_ok (Err e) h f = tt

-- a step before a piece
pub stepped : (c : Checked) (old mid new : List Instr) (s : ℕ) (G : Type 0) (k : ℕ → ℕ → List Instruction) → Adds c old mid s G k → new ≡ mid ++ instr.Step ∷ []
    → Adds c old new (suc s) G (λ total pc. i_step ∷ k total (suc pc))
stepped c old mid new s G k a e =
    turned c old new (1 + s) (suc s) (G × Unit {0}) G _ _ (two c old mid new s 1 G (Unit {0}) k _ a (one c mid new instr.Step (Unit {0}) e))
    (omega arith) (λ g. (g, tt)) (λ g total pc h. ap (λ p. i_step ∷ k total p) (add-one pc))

module _ (c : Checked) where
  -- ---- operations and jumps

  pub sides_done : (n y z : ℕ) (old mid new : List Instr) → mid ≡ old ++ instr.Jump y ∷ [] → new ≡ mid ++ instr.JumpZero n z ∷ [] → AddsSides c n y z old new
  unfolding AddsSides
  sides_done n y z old mid new e f =
      turned c old new 2 2 (Unit {0} × Unit {0}) (Unit {0}) _ _ (two c old mid new 1 1 (Unit {0}) (Unit {0}) _ _ (one c old mid (instr.Jump y) (Unit {0}) e) (one c mid new (instr.JumpZero n z) (Unit {0}) f))
      refl (λ g. (tt, tt)) (λ g total pc h. refl)

  -- a site is that of the token where there is one
  abbrev pub IsSite : SiteKind → ℕ → SiteId → Type 0
  IsSite kind t s = HasSite c kind t → site_token c kind s ≡ t

  abbrev pub IsNext : ℕ → ℕ → Type 0
  IsNext n m = n < 4294967295 → m ≡ suc n

  pub add_done : (t n m : ℕ) (s : SiteId) (old new : List Instr) → IsNext n m → IsSite Fit t s → new ≡ old ++ instr.Add s n n m ∷ [] → AddsOperation c t tree.add n old new
  unfolding AddsOperation
  add_done t n m s old new x y e = turned c old new 1 1 _ _ _ _ (one c old new (instr.Add s n n m) (HasSite c Fit t × (n < 4294967295)) e) refl (λ g. g)
      (λ g total pc h. ap (λ p. i_arith p tree.add n n m ∷ []) (y g.0) ∙ ap (λ p. i_arith t tree.add n n p ∷ []) (x g.1))

  pub sub_done : (t n m : ℕ) (s : SiteId) (old new : List Instr) → IsNext n m → IsSite Fit t s → new ≡ old ++ instr.Sub s n n m ∷ [] → AddsOperation c t tree.sub n old new
  unfolding AddsOperation
  sub_done t n m s old new x y e = turned c old new 1 1 _ _ _ _ (one c old new (instr.Sub s n n m) (HasSite c Fit t × (n < 4294967295)) e) refl (λ g. g)
      (λ g total pc h. ap (λ p. i_arith p tree.sub n n m ∷ []) (y g.0) ∙ ap (λ p. i_arith t tree.sub n n p ∷ []) (x g.1))

  pub mul_done : (t n m : ℕ) (s : SiteId) (old new : List Instr) → IsNext n m → IsSite Fit t s → new ≡ old ++ instr.Mul s n n m ∷ [] → AddsOperation c t tree.mul n old new
  unfolding AddsOperation
  mul_done t n m s old new x y e = turned c old new 1 1 _ _ _ _ (one c old new (instr.Mul s n n m) (HasSite c Fit t × (n < 4294967295)) e) refl (λ g. g)
      (λ g total pc h. ap (λ p. i_arith p tree.mul n n m ∷ []) (y g.0) ∙ ap (λ p. i_arith t tree.mul n n p ∷ []) (x g.1))

  abbrev Divided : ℕ → Op → ℕ → Type 0
  Divided t o n = (HasSite c Divisor t × HasSite c Fit t) × (n < 4294967295)

  pub quot_done : (t n m : ℕ) (s d : SiteId) (old mid new : List Instr) → IsNext n m → IsSite Fit t s → IsSite Divisor t d → mid ≡ old ++ instr.Quot s n n m ∷ [] → new ≡ mid ++ instr.Divisor d n m ∷ [] → AddsOperation c t tree.quot n old new
  unfolding AddsOperation
  quot_done t n m s d old mid new x y z e f =
      turned c old new 2 2 _ (Divided t tree.quot n) _ _ (two c old mid new 1 1 (Unit {0}) (Unit {0}) _ _ (one c old mid (instr.Quot s n n m) (Unit {0}) e) (one c mid new (instr.Divisor d n m) (Unit {0}) f)) refl (λ g. (tt, tt))
      (λ g total pc h. ap (λ p. i_divisor p n m ∷ i_arith (site_token c Fit s) tree.quot n n m ∷ []) (z g.0.0) ∙ ap (λ p. i_divisor t n m ∷ i_arith p tree.quot n n m ∷ []) (y g.0.1) ∙ ap (λ p. i_divisor t n p ∷ i_arith t tree.quot n n p ∷ []) (x g.1))

  pub rem_done : (t n m : ℕ) (s d : SiteId) (old mid new : List Instr) → IsNext n m → IsSite Fit t s → IsSite Divisor t d → mid ≡ old ++ instr.Rem s n n m ∷ [] → new ≡ mid ++ instr.Divisor d n m ∷ [] → AddsOperation c t tree.rem n old new
  unfolding AddsOperation
  rem_done t n m s d old mid new x y z e f =
      turned c old new 2 2 _ (Divided t tree.rem n) _ _ (two c old mid new 1 1 (Unit {0}) (Unit {0}) _ _ (one c old mid (instr.Rem s n n m) (Unit {0}) e) (one c mid new (instr.Divisor d n m) (Unit {0}) f)) refl (λ g. (tt, tt))
      (λ g total pc h. ap (λ p. i_divisor p n m ∷ i_arith (site_token c Fit s) tree.rem n n m ∷ []) (z g.0.0) ∙ ap (λ p. i_divisor t n m ∷ i_arith p tree.rem n n m ∷ []) (y g.0.1) ∙ ap (λ p. i_divisor t n p ∷ i_arith t tree.rem n n p ∷ []) (x g.1))

  pub index_done : (t n m k cells w width : ℕ) (s : SiteId) (old new : List Instr) → IsSite Index t s → k ≡ cells → (width < 4294967296 → w ≡ width) → new ≡ old ++ instr.Index s n n m k w ∷ [] → AddsIndex c t cells width n m old new
  unfolding AddsIndex
  index_done t n m k cells w width s old new x z y e = turned c old new 1 1 _ _ _ _ (one c old new (instr.Index s n n m k w) ((width < 4294967296) × HasSite c Index t) e) refl (λ g. g)
      (λ g total pc h. ap (λ p. i_index p n n m k w ∷ []) (x g.1) ∙ ap (λ p. i_index t n n m k p ∷ []) (y g.0) ∙ ap (λ p. i_index t n n m p width ∷ []) z)

  pub slot_done : (n s : ℕ) (old new : List Instr) → new ≡ old ++ instr.Slot n s ∷ [] → AddsPlace c (tree.local s) n old new
  unfolding AddsPlace
  slot_done n s old new e = one c old new (instr.Slot n s) _ e

  pub global_done : (n g : ℕ) (old new : List Instr) → new ≡ old ++ instr.Glob n g ∷ [] → AddsPlace c (tree.global g) n old new
  unfolding AddsPlace
  global_done n g old new e = one c old new (instr.Glob n g) _ e

  -- ---- values

  pub nil_done : (n : ℕ) (old new : List Instr) → new ≡ old ++ instr.Nil n ∷ [] → AddsValue c tree.nil n old new
  unfolding AddsValue
  nil_done n old new e = one c old new (instr.Nil n) _ e

  pub constant_done : (n : ℕ) (z : ℤ) (old new : List Instr) → new ≡ old ++ instr.Number n z ∷ [] → AddsValue c (tree.number z) n old new
  unfolding AddsValue
  constant_done n z old new e = one c old new (instr.Number n z) _ e

  pub arith_done : (t : ℕ) (o : Op) (a b : Val) (n m : ℕ) (old m1 m2 m3 new : List Instr) → IsNext n m
      → AddsOperation c t o n old m1 → AddsValue c b m m1 m2 → AddsValue c a n m2 m3 → new ≡ m3 ++ instr.Step ∷ [] → AddsValue c (tree.arith t o a b) n old new
  unfolding AddsValue AddsOperation
  arith_done t o a b n m old m1 m2 m3 new x p q r e =
      let l1 = longer c old m1 _ _ _ p in let l2 = longer c m1 m2 _ _ _ q in
      let w = two c old m2 m3 _ _ _ _ _ _ (two c old m1 m2 _ _ _ _ _ _ p q) r in
      turned c old new _ _ _ _ _ _ (stepped c old m3 new _ _ _ w e) (omega arith)
      (λ g. let small : n < 4294967295 = omega (arith, g.1, op_some o) in let f = x small in
      (((g.0.0, small), (g.0.2, omega (arith, g.1, l1, f))), (g.0.1, omega (arith, g.1, l1, l2))))
      (λ g total pc h. let small : n < 4294967295 = omega (arith, g.1, op_some o) in
      ap (λ z. i_step ∷ (value_code a (suc pc) n ++ (value_code b (suc pc + z) m ++ arith_code t o n))) (sym (value_length a (suc pc) n))
      ∙ ap (λ z. i_step ∷ (value_code a (suc pc) n ++ (value_code b (suc pc + length (value_code a (suc pc) n)) z ++ arith_code t o n))) (x small))
    where
      op_some : (o : Op) → 1 ≤ op_size o
      op_some tree.add = omega arith
      op_some tree.sub = omega arith
      op_some tree.mul = omega arith
      op_some tree.quot = omega arith
      op_some tree.rem = omega arith

  -- every value has an instruction
  value_some : (v : Val) → 1 ≤ value_size v
  value_some (tree.number z) = omega arith
  value_some tree.nil = omega arith
  value_some (tree.read l) = omega arith
  value_some (tree.arith t o a b) = omega arith
  value_some (tree.negate t a) = omega arith
  value_some (tree.truth (tree.compare t o a b)) = omega arith
  value_some (tree.truth (tree.test t a)) = omega arith
  value_some (tree.truth (tree.opposite k)) = omega arith
  value_some (tree.truth (tree.both a b)) = omega arith
  value_some (tree.truth (tree.either a b)) = omega arith
  value_some (tree.address l) = omega arith
  value_some (tree.call f args) = omega arith
  value_some (tree.malloc type) = omega arith

  count_few : (xs : Vals) → count xs ≤ values_size xs
  count_few tree.done = omega arith
  count_few (tree.more a rest) = let h = count_few rest in let i = value_some a in omega (arith, h, i)

  pub read_done : (l : Loc) (n : ℕ) (old m1 new : List Instr) → m1 ≡ old ++ instr.Load n n ∷ [] → AddsPlace c l n m1 new → AddsValue c (tree.read l) n old new
  unfolding AddsValue AddsPlace
  read_done l n old m1 new e p =
      let o = one c old m1 (instr.Load n n) (Unit {0}) e in let l1 = longer c old m1 _ _ _ o in
      turned c old new _ _ _ _ _ _ (two c old m1 new _ _ _ _ _ _ o p) refl (λ g. (tt, (g.0, omega (arith, g.1, l1)))) (λ g total pc h. refl)

  pub negate_done : (t : ℕ) (a : Val) (n : ℕ) (s : SiteId) (old m1 m2 new : List Instr) → IsSite Fit t s
      → m1 ≡ old ++ instr.Neg s n n ∷ [] → AddsValue c a n m1 m2 → new ≡ m2 ++ instr.Step ∷ [] → AddsValue c (tree.negate t a) n old new
  unfolding AddsValue
  negate_done t a n s old m1 m2 new y e p f =
      let o = one c old m1 (instr.Neg s n n) (Unit {0}) e in let l1 = longer c old m1 _ _ _ o in
      turned c old new _ _ _ _ _ _ (stepped c old m2 new _ _ _ (two c old m1 m2 _ _ _ _ _ _ o p) f) (omega arith)
      (λ g. (tt, (g.0.1, omega (arith, g.1, l1)))) (λ g total pc h. ap (λ z. i_step ∷ (value_code a (suc pc) n ++ i_negate z n n ∷ [])) (y g.0.0))

  pub address_done : (l : Loc) (n : ℕ) (old m1 new : List Instr) → AddsPlace c l n old m1 → new ≡ m1 ++ instr.Step ∷ [] → AddsValue c (tree.address l) n old new
  unfolding AddsValue AddsPlace
  address_done l n old m1 new p f =
      turned c old new _ _ _ _ _ _ (stepped c old m1 new _ _ _ p f) (omega arith) (λ g. (g.0, omega (arith, g.1))) (λ g total pc h. refl)

  pub malloc_done : (n i : ℕ) (type : Layout) (old m1 new : List Instr) → layout_at c i ≡ type
      → m1 ≡ old ++ instr.Malloc n (record { 0 = i }) ∷ [] → new ≡ m1 ++ instr.Step ∷ [] → AddsValue c (tree.malloc type) n old new
  unfolding AddsValue
  malloc_done n i type old m1 new y e f =
      turned c old new _ _ _ _ _ _ (stepped c old m1 new _ _ _ (one c old m1 (instr.Malloc n (record { 0 = i })) (Unit {0}) e) f) (omega arith)
      (λ g. tt) (λ g total pc h. ap (λ z. i_step ∷ i_malloc n z ∷ []) y)

  pub call_done : (f : ℕ) (xs : Vals) (n k : ℕ) (old m1 m2 new : List Instr) → (count xs < 4294967296 → k ≡ count xs)
      → m1 ≡ old ++ instr.Call n f n k ∷ [] → AddsValues c xs n m1 m2 → new ≡ m2 ++ instr.Step ∷ [] → AddsValue c (tree.call f xs) n old new
  unfolding AddsValue AddsValues
  call_done f xs n k old m1 m2 new y e p z =
      let o = one c old m1 (instr.Call n f n k) (Unit {0}) e in let l1 = longer c old m1 _ _ _ o in
      turned c old new _ _ _ _ _ _ (stepped c old m2 new _ _ _ (two c old m1 m2 _ _ _ _ _ _ o p) z) (omega arith)
      (λ g. (tt, (g.0, omega (arith, g.1, l1)))) (λ g total pc h. ap (λ z. i_step ∷ (values_code xs (suc pc) n ++ i_call n f n z ∷ [])) (y (omega (arith, g.1, count_few xs))))

  pub no_values : (n : ℕ) (old : List Instr) → AddsValues c tree.done n old old
  unfolding AddsValues
  no_values n old = record { added = []; is = sym (append-nil old); many = refl; reads = λ g total pc h. refl }

  pub more_values : (a : Val) (xs : Vals) (n m k : ℕ) (old m1 new : List Instr) → k ≡ suc n → (n < 4294967295 → m ≡ n)
      → AddsValues c xs k old m1 → AddsValue c a m m1 new → AddsValues c (tree.more a xs) n old new
  unfolding AddsValue AddsValues
  more_values a xs n m k old m1 new w x p q =
      let l1 = longer c old m1 _ _ _ p in
      turned c old new _ _ _ _ _ _ (two c old m1 new _ _ _ _ _ _ p q) refl
      (λ g. let small : n < 4294967295 = omega (arith, g.1, value_some a) in let f = x small in
      ((g.0.1, omega (arith, g.1, value_some a, w)), (g.0.0, omega (arith, g.1, l1, f))))
      (λ g total pc h. let small : n < 4294967295 = omega (arith, g.1, value_some a) in
      ap (λ z. value_code a pc z ++ values_code xs (pc + value_size a) k) (x small)
      ∙ ap (λ z. value_code a pc n ++ values_code xs (pc + z) k) (sym (value_length a pc n))
      ∙ ap (λ z. value_code a pc n ++ values_code xs (pc + length (value_code a pc n)) z) w)

  -- ---- truths

  pub comparison_done : (by : Comparison) (t : ℕ) (a b : Val) (n m : ℕ) (s : SiteId) (old m1 m2 m3 new : List Instr) → IsNext n m → IsSite Decision t s
      → m1 ≡ old ++ instr.Compare s by n n m ∷ [] → AddsValue c b m m1 m2 → AddsValue c a n m2 m3 → new ≡ m3 ++ instr.Step ∷ [] → AddsDecision c (tree.compare t (comparison by) a b) n old new
  unfolding AddsValue AddsDecision
  comparison_done by t a b n m s old m1 m2 m3 new x y e q r f =
      let p = one c old m1 (instr.Compare s by n n m) (Unit {0}) e in
      let l1 = longer c old m1 _ _ _ p in let l2 = longer c m1 m2 _ _ _ q in
      turned c old new _ _ _ _ _ _ (stepped c old m3 new _ _ _ (two c old m2 m3 _ _ _ _ _ _ (two c old m1 m2 _ _ _ _ _ _ p q) r) f) (omega arith)
      (λ g. let small : n < 4294967295 = omega (arith, g.1) in let k = x small in
      ((tt, (g.0.2, omega (arith, g.1, l1, k))), (g.0.1, omega (arith, g.1, l1, l2))))
      (λ g total pc h. let small : n < 4294967295 = omega (arith, g.1) in
      ap (λ z. i_step ∷ (value_code a (suc pc) n ++ (value_code b (suc pc + z) m ++ i_compare (site_token c Decision s) (comparison by) n n m ∷ []))) (sym (value_length a (suc pc) n))
      ∙ ap (λ z. i_step ∷ (value_code a (suc pc) n ++ (value_code b (suc pc + length (value_code a (suc pc) n)) m ++ i_compare z (comparison by) n n m ∷ []))) (y g.0.0)
      ∙ ap (λ z. i_step ∷ (value_code a (suc pc) n ++ (value_code b (suc pc + length (value_code a (suc pc) n)) z ++ i_compare t (comparison by) n n z ∷ []))) (x small))

  pub decision_value : (t : ℕ) (o : Cmp) (a b : Val) (n : ℕ) (old new : List Instr) → AddsDecision c (tree.compare t o a b) n old new → AddsValue c (tree.truth (tree.compare t o a b)) n old new
  unfolding AddsValue AddsDecision
  decision_value t o a b n old new p = p

  pub opposite_value : (k : Cond) (n : ℕ) (old new : List Instr) → AddsNumber c (tree.opposite k) n old new → AddsValue c (tree.truth (tree.opposite k)) n old new
  unfolding AddsValue AddsNumber
  opposite_value k n old new p = p

  pub both_value : (k l : Cond) (n : ℕ) (old new : List Instr) → AddsNumber c (tree.both k l) n old new → AddsValue c (tree.truth (tree.both k l)) n old new
  unfolding AddsValue AddsNumber
  both_value k l n old new p = p

  pub either_value : (k l : Cond) (n : ℕ) (old new : List Instr) → AddsNumber c (tree.either k l) n old new → AddsValue c (tree.truth (tree.either k l)) n old new
  unfolding AddsValue AddsNumber
  either_value k l n old new p = p

  abbrev pub IsHere : List Instr → ℕ → Type 0
  IsHere code h = length code < 4294967296 → h ≡ length code

  pub number_done : (k : Cond) (n end zero_at one_at : ℕ) (old m1 m2 m3 new : List Instr) → IsHere old end → m1 ≡ old ++ instr.Number n (pos 0) ∷ [] → IsHere m1 zero_at
      → m2 ≡ m1 ++ instr.Jump end ∷ [] → m3 ≡ m2 ++ instr.Number n (pos 1) ∷ [] → IsHere m3 one_at → AddsCond c k n one_at zero_at m3 new → AddsNumber c k n old new
  unfolding AddsCond AddsNumber
  number_done k n end zero_at one_at old m1 m2 m3 new x e y f g z p =
      let o1 = one c old m1 (instr.Number n (pos 0)) (Unit {0}) e in let o2 = one c m1 m2 (instr.Jump end) (Unit {0}) f in let o3 = one c m2 m3 (instr.Number n (pos 1)) (Unit {0}) g in
      let l1 = longer c old m1 _ _ _ o1 in let l2 = longer c m1 m2 _ _ _ o2 in let l3 = longer c m2 m3 _ _ _ o3 in let l4 = longer c m3 new _ _ _ p in
      turned c old new _ _ _ _ _ _ (two c old m3 new _ _ _ _ _ _ (two c old m2 m3 _ _ _ _ _ _ (two c old m1 m2 _ _ _ _ _ _ o1 o2) o3) p) refl
      (λ q. (((tt, tt), tt), (q.0, omega (arith, q.1, l1, l2, l3))))
      (λ q total pc h.
      let sx : end ≡ length old = x (omega (arith, q.1)) in let sy : zero_at ≡ length m1 = y (omega (arith, q.1, l1)) in let sz : one_at ≡ length m3 = z (omega (arith, q.1, l1, l2, l3)) in
      let cl = cond_length_is k pc n 0 0 in
      let at : ℕ = pc + length (cond_code k pc n 0 0) in
      let e1 : total - one_at ≡ at = omega (arith, h, l1, l2, l3, l4, sz, cl) in
      let e2 : total - zero_at ≡ suc (suc at) = omega (arith, h, l1, l2, l3, l4, sy, cl) in
      let e3 : total - end ≡ suc (suc (suc at)) = omega (arith, h, l1, l2, l3, l4, sx, cl) in
      ap (λ w. cond_code k pc n w (total - zero_at) ++ (i_number n (pos 1) ∷ i_jump (total - end) ∷ i_number n (pos 0) ∷ [])) e1
      ∙ ap (λ w. cond_code k pc n at w ++ (i_number n (pos 1) ∷ i_jump (total - end) ∷ i_number n (pos 0) ∷ [])) e2
      ∙ ap (λ w. cond_code k pc n at (suc (suc at)) ++ (i_number n (pos 1) ∷ i_jump w ∷ i_number n (pos 0) ∷ [])) e3)

  -- ---- conditions

  pub tested_done : (t : ℕ) (v : Val) (n y z : ℕ) (s : SiteId) (old m1 m2 new : List Instr) → IsSite Decision t s → AddsSides c n y z old m1
      → m2 ≡ m1 ++ instr.Truth s n n ∷ [] → AddsValue c v n m2 new → AddsCond c (tree.test t v) n y z old new
  unfolding AddsSides AddsValue AddsCond
  tested_done t v n y z s old m1 m2 new x p e q =
      let o = one c m1 m2 (instr.Truth s n n) (Unit {0}) e in let l1 = longer c old m1 _ _ _ p in let l2 = longer c m1 m2 _ _ _ o in
      turned c old new _ _ _ _ _ _ (two c old m2 new _ _ _ _ _ _ (two c old m1 m2 _ _ _ _ _ _ p o) q) (omega arith)
      (λ g. ((tt, tt), (g.0.1, omega (arith, g.1, l1, l2))))
      (λ g total pc h. sym (append_assoc (value_code v pc n) (i_truth (site_token c Decision s) n n ∷ []) (sides_code n (total - y) (total - z)))
      ∙ ap (λ w. (value_code v pc n ++ i_truth w n n ∷ []) ++ sides_code n (total - y) (total - z)) (x g.0.0))

  pub compare_done : (t : ℕ) (o : Cmp) (a b : Val) (n y z : ℕ) (old m1 new : List Instr) → AddsSides c n y z old m1 → AddsDecision c (tree.compare t o a b) n m1 new
      → AddsCond c (tree.compare t o a b) n y z old new
  unfolding AddsSides AddsDecision AddsCond
  compare_done t o a b n y z old m1 new p q =
      let l1 = longer c old m1 _ _ _ p in
      turned c old new _ _ _ _ _ _ (two c old m1 new _ _ _ _ _ _ p q) (omega arith) (λ g. (tt, (g.0, omega (arith, g.1, l1)))) (λ g total pc h. refl)

  pub opposite_done : (k : Cond) (n y z : ℕ) (old m1 new : List Instr) → AddsCond c k n z y old m1 → new ≡ m1 ++ instr.Step ∷ [] → AddsCond c (tree.opposite k) n y z old new
  unfolding AddsCond
  opposite_done k n y z old m1 new p e =
      turned c old new _ _ _ _ _ _ (stepped c old m1 new _ _ _ p e) (omega arith) (λ g. (g.0, omega (arith, g.1))) (λ g total pc h. refl)

  pub both_done : (a b : Cond) (n y z k : ℕ) (old m1 m2 new : List Instr) → AddsCond c b n y z old m1 → IsHere m1 k → AddsCond c a n k z m1 m2 → new ≡ m2 ++ instr.Step ∷ []
      → AddsCond c (tree.both a b) n y z old new
  unfolding AddsCond
  both_done a b n y z k old m1 m2 new p x q e =
      let l1 = longer c old m1 _ _ _ p in let l2 = longer c m1 m2 _ _ _ q in let w = stepped c old m2 new _ _ _ (two c old m1 m2 _ _ _ _ _ _ p q) e in let l3 = longer c old new _ _ _ w in
      turned c old new _ _ _ _ _ _ w (omega arith) (λ g. ((g.0.1, omega (arith, g.1)), (g.0.0, omega (arith, g.1, l1))))
      (λ g total pc h.
      let sx : k ≡ length m1 = x (omega (arith, g.1, l1)) in let cl = cond_length_is a (suc pc) n 0 0 in
      let at : ℕ = suc pc + length (cond_code a (suc pc) n 0 0) in
      let e1 : total - k ≡ at = omega (arith, h, l1, l3, sx, cl) in
      ap (λ u. i_step ∷ (cond_code a (suc pc) n u (total - z) ++ cond_code b (suc pc + cond_size a) n (total - y) (total - z))) e1
      ∙ ap (λ u. i_step ∷ (cond_code a (suc pc) n at (total - z) ++ cond_code b (suc pc + u) n (total - y) (total - z))) (sym cl))

  pub either_done : (a b : Cond) (n y z k : ℕ) (old m1 m2 new : List Instr) → AddsCond c b n y z old m1 → IsHere m1 k → AddsCond c a n y k m1 m2 → new ≡ m2 ++ instr.Step ∷ []
      → AddsCond c (tree.either a b) n y z old new
  unfolding AddsCond
  either_done a b n y z k old m1 m2 new p x q e =
      let l1 = longer c old m1 _ _ _ p in let l2 = longer c m1 m2 _ _ _ q in let w = stepped c old m2 new _ _ _ (two c old m1 m2 _ _ _ _ _ _ p q) e in let l3 = longer c old new _ _ _ w in
      turned c old new _ _ _ _ _ _ w (omega arith) (λ g. ((g.0.1, omega (arith, g.1)), (g.0.0, omega (arith, g.1, l1))))
      (λ g total pc h.
      let sx : k ≡ length m1 = x (omega (arith, g.1, l1)) in let cl = cond_length_is a (suc pc) n 0 0 in
      let at : ℕ = suc pc + length (cond_code a (suc pc) n 0 0) in
      let e1 : total - k ≡ at = omega (arith, h, l1, l3, sx, cl) in
      ap (λ u. i_step ∷ (cond_code a (suc pc) n (total - y) u ++ cond_code b (suc pc + cond_size a) n (total - y) (total - z))) e1
      ∙ ap (λ u. i_step ∷ (cond_code a (suc pc) n (total - y) at ++ cond_code b (suc pc + u) n (total - y) (total - z))) (sym cl))

  -- ---- places

  pub deref_done : (t : ℕ) (a : Val) (n : ℕ) (s : SiteId) (old m1 m2 new : List Instr) → IsSite Access t s
      → m1 ≡ old ++ instr.Access s n n ∷ [] → AddsValue c a n m1 m2 → new ≡ m2 ++ instr.Step ∷ [] → AddsPlace c (tree.deref t a) n old new
  unfolding AddsValue AddsPlace
  deref_done t a n s old m1 m2 new y e p f =
      let o = one c old m1 (instr.Access s n n) (Unit {0}) e in let l1 = longer c old m1 _ _ _ o in
      turned c old new _ _ _ _ _ _ (stepped c old m2 new _ _ _ (two c old m1 m2 _ _ _ _ _ _ o p) f) (omega arith)
      (λ g. (tt, (g.0.1, omega (arith, g.1, l1)))) (λ g total pc h. ap (λ z. i_step ∷ (value_code a (suc pc) n ++ i_access z n n ∷ [])) (y g.0.0))

  pub arrow_done : (t : ℕ) (a : Val) (n k : ℕ) (s : SiteId) (old m1 m2 m3 new : List Instr) → IsSite Access t s
      → m1 ≡ old ++ instr.Offset n n k ∷ [] → m2 ≡ m1 ++ instr.Access s n n ∷ [] → AddsValue c a n m2 m3 → new ≡ m3 ++ instr.Step ∷ [] → AddsPlace c (tree.arrow t a k) n old new
  unfolding AddsValue AddsPlace
  arrow_done t a n k s old m1 m2 m3 new y d e p f =
      let o = one c old m1 (instr.Offset n n k) (Unit {0}) d in let q = one c m1 m2 (instr.Access s n n) (Unit {0}) e in let l1 = longer c old m1 _ _ _ o in let l2 = longer c m1 m2 _ _ _ q in
      turned c old new _ _ _ _ _ _ (stepped c old m3 new _ _ _ (two c old m2 m3 _ _ _ _ _ _ (two c old m1 m2 _ _ _ _ _ _ o q) p) f) (omega arith)
      (λ g. ((tt, tt), (g.0.1, omega (arith, g.1, l1, l2)))) (λ g total pc h. ap (λ z. i_step ∷ (value_code a (suc pc) n ++ (i_access z n n ∷ i_offset n n k ∷ []))) (y g.0.0))

  pub dot_done : (l : Loc) (n k : ℕ) (old m1 m2 new : List Instr) → m1 ≡ old ++ instr.Offset n n k ∷ [] → AddsPlace c l n m1 m2 → new ≡ m2 ++ instr.Step ∷ [] → AddsPlace c (tree.dot l k) n old new
  unfolding AddsPlace
  dot_done l n k old m1 m2 new e p f =
      let o = one c old m1 (instr.Offset n n k) (Unit {0}) e in let l1 = longer c old m1 _ _ _ o in
      turned c old new _ _ _ _ _ _ (stepped c old m2 new _ _ _ (two c old m1 m2 _ _ _ _ _ _ o p) f) (omega arith) (λ g. (tt, (g.0, omega (arith, g.1, l1)))) (λ g total pc h. refl)

  pub element_done : (t : ℕ) (l : Loc) (i : Val) (cells width n m : ℕ) (old m1 m2 m3 new : List Instr) → IsNext n m
      → AddsIndex c t cells width n m old m1 → AddsValue c i m m1 m2 → AddsPlace c l n m2 m3 → new ≡ m3 ++ instr.Step ∷ [] → AddsPlace c (tree.index t l i cells width) n old new
  unfolding AddsValue AddsPlace AddsIndex
  element_done t l i cells width n m old m1 m2 m3 new x p q r f =
      let l1 = longer c old m1 _ _ _ p in let l2 = longer c m1 m2 _ _ _ q in
      turned c old new _ _ _ _ _ _ (stepped c old m3 new _ _ _ (two c old m2 m3 _ _ _ _ _ _ (two c old m1 m2 _ _ _ _ _ _ p q) r) f) (omega arith)
      (λ g. let small : n < 4294967295 = omega (arith, g.1) in let k = x small in
      (((g.0.0, g.0.1), (g.0.3, omega (arith, g.1, l1, k))), (g.0.2, omega (arith, g.1, l1, l2))))
      (λ g total pc h. let small : n < 4294967295 = omega (arith, g.1) in
      ap (λ z. i_step ∷ (locate_code l (suc pc) n ++ (value_code i (suc pc + z) m ++ i_index t n n m cells width ∷ []))) (sym (locate_length l (suc pc) n))
      ∙ ap (λ z. i_step ∷ (locate_code l (suc pc) n ++ (value_code i (suc pc + length (locate_code l (suc pc) n)) z ++ i_index t n n z cells width ∷ []))) (x small))

  -- ---- the same of what is equal

  pub value_as : {v w : Val} → (n : ℕ) (old new : List Instr) → v ≡ w → AddsValue c v n old new → AddsValue c w n old new
  value_as n old new e p = subst (λ (x : Val). AddsValue c x n old new) e p

  pub cond_as : {k l : Cond} → (n y z : ℕ) (old new : List Instr) → k ≡ l → AddsCond c k n y z old new → AddsCond c l n y z old new
  cond_as n y z old new e p = subst (λ (x : Cond). AddsCond c x n y z old new) e p

  pub place_as : {l m : Loc} → (n : ℕ) (old new : List Instr) → l ≡ m → AddsPlace c l n old new → AddsPlace c m n old new
  place_as n old new e p = subst (λ (x : Loc). AddsPlace c x n old new) e p

  -- ---- arguments, from the last on

  module _ (facts : Facts) where
    abbrev From : List Expr → ℕ → Vals
    From args left = vals_of (map (resolve facts) (drop left args))

    pub none_yet : (args : List Expr) (n : ℕ) (old : List Instr) → AddsValues c (From args (length args)) n old old
    none_yet args n old = subst (λ (l : List Expr). AddsValues c (vals_of (map (resolve facts) l)) n old old) (sym (drop-length args)) (no_values n old)

    pub one_more : (args : List Expr) (e : Expr) (left k n m : ℕ) (old m1 new : List Instr) → left ≡ suc k → left ≤ length args → e ≡ get_or args k e → (n + k < 4294967296 → m ≡ n + k)
        → AddsValues c (From args left) (n + left) old m1 → AddsValue c (value_of facts e) m m1 new → AddsValues c (From args k) (n + k) old new
    one_more args e left k n m old m1 new i h g x p q =
        let within : k < length args = omega (arith, i, h) in
        let d : e ∷ drop left args ≡ drop k args = ap (λ z. z ∷ drop left args) g ∙ ap (λ z. get_or args k e ∷ drop z args) i ∙ sym (drop-cons args k e within) in
        let f : n + left ≡ suc (n + k) = omega (arith, i) in
        subst (λ (l : List Expr). AddsValues c (vals_of (map (resolve facts) l)) (n + k) old new) d
        (more_values (value_of facts e) (From args left) (n + k) m (n + left) old m1 new f (λ z. x (omega (arith, z))) p q)

    count_args : (args : List Expr) → count (vals_of (map (resolve facts) args)) ≡ length args
    count_args [] = refl
    count_args (a ∷ l) = ap suc (count_args l)

    pub call_of : (f : ℕ) (args : List Expr) (n k : ℕ) (old m1 m2 new : List Instr) → (length args < 4294967296 → k ≡ length args)
        → m1 ≡ old ++ instr.Call n f n k ∷ [] → AddsValues c (vals_of (map (resolve facts) args)) n m1 m2 → new ≡ m2 ++ instr.Step ∷ [] → AddsValue c (tree.call f (vals_of (map (resolve facts) args))) n old new
    call_of f args n k old m1 m2 new y e p z =
        let same = count_args args in
        call_done f (vals_of (map (resolve facts) args)) n k old m1 m2 new (λ h. y (omega (arith, h, same)) ∙ sym same) e p z
