-- The code of an expression, a condition and a statement does what they do, over every domain.
use Rattle.std.proofs.Common.{◌≡◌, ℕ, zero, suc, ◌+◌, ◌<◌, ◌≤◌, ℤ, pos, Bool, true, false, not, inl, inr, List, [], ◌∷◌, ◌++◌, length, Option, Some, None, refl, sym, ap, ap₂, ◌∙◌, subst, arith, slice_get, nat_eq, if◌then◌else◌, append_assoc, length-append, le_refl, le_trans}
use Rattle.std.proofs.lemmas.Bool.Decides.{eqb_tells}
use Rattle.std.proofs.lemmas.Bool.{eq-eqb}
use Rattle.cc_base.specs.declared.ends.FaultKind.{FaultKind}
use Rattle.cc_base.specs.declared.ends.FaultKind.TheVariants.{Overflow, Divide, Index, Assert, Abort}
use Rattle.cc_base.specs.declared.ends.End.TheVariants.{Assume, Steps, Fault}
use Rattle.cc_model.specs.declared.checked.SiteKind.TheVariants as site
use Rattle.cc_model.specs.Core as tree
use Rattle.cc_model.specs.Core.{Cell, int_cell, ptr_cell, Layout, Op, Cmp, Val, Cond, Loc, Vals}
use Rattle.cc_model.specs.Domain.{act_divisor, act_negate, act_compare, act_test, act_index, Domain}
use Rattle.cc_model.specs.Meaning as of
use Rattle.cc_model.specs.Meaning.{Fixed, Entry, State, Result, ok, over, Ran, Flow, on, broken, continued, returned, M, Done, ◌>>=◌, ◌>>◌, go_on, prepend, pure, stop, choose, step_at, step, steps, checked, decided, accessed, fits, truth_value, binary}
use Rattle.cc_model.specs.Instructions.{Instruction, i_step, i_number, i_nil, i_copy, i_arith, i_divisor, i_negate, i_compare, i_truth, i_slot, i_global, i_access, i_offset, i_index, i_load, i_store, i_local, i_malloc, i_take, i_jump, i_jump_zero, i_call, i_return, i_stop, i_unless, leave, Config, Frame, Temporaries, put, arguments, act, act_if, machine}
use Rattle.tac_lower.specs.Lowering.{division, arith_code, sides_code, number_code, compare_code, test_code, if_single, value_code, decision_code, cond_code, locate_code, values_code, count, zero_code, update_code, bump_code, simply_code, start_code, declare_code, declare_all_code, simply_if_code, cond_if_code, return_code, exec_code, parts_code}
use Rattle.tac_lower.proofs.Falls.{Fell, Falls, falls_bind, falls_then, falls_pure, falls_steps, falls_local, falls_load, falls_store, falls_take, falls_make, falls_bound, falls_checked, falls_decided, falls_accessed, falls_fits}

-- where the condition is a single decision
abbrev pub IfSingle : Cond → Type 0 → Type 0
IfSingle (tree.compare t o a b) P = P
IfSingle (tree.test t a) P = P
IfSingle (tree.opposite c) P = Unit {0}
IfSingle (tree.both a b) P = Unit {0}
IfSingle (tree.either a b) P = Unit {0}

-- the instructions stand in the code at this place
abbrev pub HasAt : List Instruction → ℕ → List Instruction → Type 0
HasAt code pc [] = Unit {0}
HasAt code pc (i ∷ is) = (slice_get code pc ≡ Some i) × HasAt code (suc pc) is

pub has_front : (code : List Instruction) (pc : ℕ) (a b : List Instruction) → HasAt code pc (a ++ b) → HasAt code pc a
has_front code pc [] b h = tt
has_front code pc (i ∷ a) b h = (h.0, has_front code (suc pc) a b h.1)

pub has_back : (code : List Instruction) (pc : ℕ) (a b : List Instruction) → HasAt code pc (a ++ b) → HasAt code (pc + length a) b
has_back code pc [] b h = let e : pc ≡ pc + 0 = omega arith in subst (λ n. HasAt code n b) e h
has_back code pc (i ∷ a) b h = let e : suc pc + length a ≡ pc + length (i ∷ a) = omega arith in subst (λ n. HasAt code n b) e (has_back code (suc pc) a b h.1)

module _ (d : Domain) (x : Fixed) (is_zero : d.V → Bool) (first_of : ℕ → ℕ) (code : List Instruction) (lost : Config d → Done d) (zero_false : is_zero (d.number (pos 0)) ≡ true) (zero_true : is_zero (d.number (pos 1)) ≡ false) (B : ℕ) where
  abbrev pub St : Type 0
  St = State d.V d.D

  abbrev pub Conf : Type 0
  Conf = Config d

  abbrev pub Stack : Type 0
  Stack = List (Frame d)

  abbrev pub stands : ℕ → Temporaries d → Stack → Conf
  stands pc t st = record { pc = pc; temps = t; stack = st }

  abbrev pub run : ℕ → Conf → Done d
  run = machine d x is_zero first_of code lost

  -- ---- the monad at one state

  go_at : {A B : Type 0} → (l : List (Entry d.E)) (r : Result St A) (g : ℕ → A → M d B) (k : A → M d B) (b : ℕ) → Fell d r b → ((a : A) (s : St) → s.steps ≤ b → (n : ℕ) × (g n a s ≡ k a s)) → (n : ℕ) × (go_on d l r (g n) ≡ go_on d l r k)
  unfolding go_on
  go_at l (ok a s) g k b f i = let r = i a s f in (r.0, ap (prepend d l) r.1)
  go_at l (over e s) g k b f i = (0, refl)

  pub bind_at : {A B : Type 0} → (m : M d A) (g : ℕ → A → M d B) (k : A → M d B) (s : St) → Falls d m → ((a : A) (s' : St) → s'.steps ≤ s.steps → (n : ℕ) × (g n a s' ≡ k a s')) → (n : ℕ) × (◌>>=◌ d m (g n) s ≡ ◌>>=◌ d m k s)
  unfolding ◌>>=◌
  bind_at m g k s f i = go_at (m s).log (m s).result g k s.steps (f s) i

  -- after a step there are fewer
  step_case : {B : Type 0} → (g : ℕ → Unit {0} → M d B) (k : Unit {0} → M d B) (s : St) (n : ℕ) → n ≡ s.steps → ((s' : St) → s'.steps < s.steps → (n : ℕ) × (g n tt s' ≡ k tt s')) → (j : ℕ) × (go_on d (step_at d n s).log (step_at d n s).result (g j) ≡ go_on d (step_at d n s).log (step_at d n s).result k)
  unfolding step_at stop go_on
  step_case g k s zero e i = (0, refl)
  step_case g k s (suc n) e i = let r = i (record s { steps = n }) (omega (arith, e)) in (r.0, ap (prepend d []) r.1)

  pub step_then : {B : Type 0} → (g : ℕ → Unit {0} → M d B) (k : Unit {0} → M d B) (s : St) → ((s' : St) → s'.steps < s.steps → (n : ℕ) × (g n tt s' ≡ k tt s')) → (n : ℕ) × (◌>>=◌ d (step d) (g n) s ≡ ◌>>=◌ d (step d) k s)
  unfolding ◌>>=◌ step
  step_then g k s i = step_case g k s s.steps refl i

  ran_same : {A : Type 0} → (p q : Ran d.E St A) → p.log ≡ q.log → p.result ≡ q.result → p ≡ q
  ran_same p q i j = ap₂ (λ a b. record { log = a; result = b }) i j

  go_ext : {A B : Type 0} → (l : List (Entry d.E)) (r : Result St A) (f g : A → M d B) → ((a : A) (s : St) → f a s ≡ g a s) → go_on d l r f ≡ go_on d l r g
  unfolding go_on
  go_ext l (ok a s) f g i = ap (prepend d l) (i a s)
  go_ext l (over e s) f g i = refl

  pub bind_ext : {A B : Type 0} → (m : M d A) (f g : A → M d B) (s : St) → ((a : A) (s' : St) → f a s' ≡ g a s') → ◌>>=◌ d m f s ≡ ◌>>=◌ d m g s
  unfolding ◌>>=◌
  bind_ext m f g s i = go_ext (m s).log (m s).result f g i

  prepend_go : {B C : Type 0} → (l m : List (Entry d.E)) (r : Result St B) (g : B → M d C) → go_on d (l ++ m) r g ≡ prepend d l (go_on d m r g)
  unfolding go_on prepend
  prepend_go l m (ok b s) g = ap (λ e. record { log = e; result = (g b s).result }) (append_assoc l m (g b s).log)
  prepend_go l m (over e s) g = refl

  go_assoc : {A B C : Type 0} → (l : List (Entry d.E)) (r : Result St A) (f : A → M d B) (g : B → M d C) → go_on d (go_on d l r f).log (go_on d l r f).result g ≡ go_on d l r (λ a. ◌>>=◌ d (f a) g)
  unfolding go_on prepend ◌>>=◌
  go_assoc l (ok a s) f g = prepend_go l (f a s).log (f a s).result g
  go_assoc l (over e s) f g = refl

  pub bind_assoc : {A B C : Type 0} → (m : M d A) (f : A → M d B) (g : B → M d C) (s : St) → ◌>>=◌ d (◌>>=◌ d m f) g s ≡ ◌>>=◌ d m (λ a. ◌>>=◌ d (f a) g) s
  unfolding ◌>>=◌
  bind_assoc m f g s = go_assoc (m s).log (m s).result f g

  pub pure_bind : {A B : Type 0} → (a : A) (g : A → M d B) (s : St) → ◌>>=◌ d (pure d a) g s ≡ g a s
  unfolding ◌>>=◌ pure go_on prepend
  pure_bind a g s = refl

  -- ---- what a stretch of code does: from pc it does m, and stands at pc' with the value in n and the temporaries below n as before

  abbrev pub Temp : Type 0
  Temp = Temporaries d

  abbrev pub Below : ℕ → Temp → Temp → Type 0
  Below n t t' = (m : ℕ) → m < n → t' m ≡ t m

  -- from each end, with no more steps than b, the machine does what k does
  abbrev pub Goes : {A : Type 0} → (Temp → A → Temp → Type 0) → Temp → ℕ → Stack → (A → Done d) → ℕ → Type 0
  Goes {A = A} P t pc st k b = (a : A) (t' : Temp) → P t a t' → (s : St) → s.steps ≤ b → (j : ℕ) × (run j (stands pc t' st) s ≡ k a s)

  abbrev pub Does : {A : Type 0} → (Temp → A → Temp → Type 0) → ℕ → Temp → M d A → ℕ → Type 0
  Does {A = A} P pc t m pc' = (st : Stack) (k : A → Done d) (s : St) → s.steps < B → Goes P t pc' st k s.steps → (j : ℕ) × (run j (stands pc t st) s ≡ ◌>>=◌ d m k s)

  -- the value is in n
  abbrev pub In : ℕ → Temp → d.V → Temp → Type 0
  In n t v t' = (t' n ≡ v) × Below n t t'

  abbrev pub InBool : ℕ → Temp → Bool → Temp → Type 0
  InBool n t b t' = (t' n ≡ truth_value d x b) × Below n t t'

  -- one instruction
  pub step_run : (pc : ℕ) (t : Temp) (st : Stack) (i : Instruction) → slice_get code pc ≡ Some i → (j : ℕ) (s : St) → run (suc j) (stands pc t st) s ≡ act d x is_zero first_of i (run j) (stands pc t st) s
  unfolding machine act_if
  step_run pc t st i e j s = ap (λ o. act_if d x is_zero first_of o (run j) (stands pc t st) s) e

  pub put_in : (t : Temp) (n : ℕ) (v : d.V) → In n t v (put d t n v)
  put_in t n v = (
    ap (λ b. if b then v else t n) (eq-eqb n n refl),
    λ m le. elim (eqb_tells m n) [
      | inl q ↦ absurd (let e = q.1 in omega (arith, le, e))
      | inr q ↦ ap (λ b. if b then v else t m) q.0
    ],
  )

  abbrev Acts : ℕ → ℕ → Temp → Instruction → M d d.V → Type 0
  Acts pc n t i m = (st : Stack) (k : Conf → Done d) (s : St) → act d x is_zero first_of i k (stands pc t st) s ≡ ◌>>=◌ d m (λ v. k (stands (suc pc) (put d t n v) st)) s

  -- an instruction that does m and puts its value into n
  one : (pc n : ℕ) (t : Temp) (i : Instruction) (m : M d d.V) → slice_get code pc ≡ Some i → Acts pc n t i m → Falls d m → Does (In n) pc t m (suc pc)
  one pc n t i m e f fl st k s lt g =
      let r = bind_at m (λ j v. run j (stands (suc pc) (put d t n v) st)) k s fl (λ v s' le. g v (put d t n v) (put_in t n v) s' le) in
      (suc r.0, step_run pc t st i e r.0 s ∙ f st (run r.0) s ∙ r.1)

  one_pure : (pc n : ℕ) (t : Temp) (i : Instruction) (v : d.V) → slice_get code pc ≡ Some i → ((st : Stack) (k : Conf → Done d) (s : St) → act d x is_zero first_of i k (stands pc t st) s ≡ k (stands (suc pc) (put d t n v) st) s) → Does (In n) pc t (pure d v) (suc pc)
  one_pure pc n t i v e f = one pc n t i (pure d v) e (λ st k s. f st k s ∙ sym (pure_bind v (λ u. k (stands (suc pc) (put d t n u) st)) s)) (falls_pure d v)

  one_bool : (pc n : ℕ) (t : Temp) (i : Instruction) (m : M d Bool) → slice_get code pc ≡ Some i → ((st : Stack) (k : Conf → Done d) (s : St) → act d x is_zero first_of i k (stands pc t st) s ≡ ◌>>=◌ d m (λ b. k (stands (suc pc) (put d t n (truth_value d x b)) st)) s) → Falls d m → Does (InBool n) pc t m (suc pc)
  one_bool pc n t i m e f fl st k s lt g =
      let r = bind_at m (λ j b. run j (stands (suc pc) (put d t n (truth_value d x b)) st)) k s fl (λ b s' le. g b (put d t n (truth_value d x b)) (put_in t n (truth_value d x b)) s' le) in
      (suc r.0, step_run pc t st i e r.0 s ∙ f st (run r.0) s ∙ r.1)

  fewer : (a b : ℕ) → a ≤ b → b < B → a < B
  fewer a b i j = omega (arith, i, j)

  -- one stretch after another
  seq : {A B' : Type 0} → (P : Temp → A → Temp → Type 0) (Q : Temp → B' → Temp → Type 0) (R : Temp → B' → Temp → Type 0) (pc pc1 pc2 : ℕ) (t : Temp) (m : M d A) (f : A → M d B') → Does P pc t m pc1
      → ((a : A) (t1 : Temp) → P t a t1 → Does Q pc1 t1 (f a) pc2) → ((a : A) (t1 : Temp) (b : B') (t2 : Temp) → P t a t1 → Q t1 b t2 → R t b t2) → Does R pc t (◌>>=◌ d m f) pc2
  seq P Q R pc pc1 pc2 t m f i c pq st k s lt g =
      let r = i st (λ a. ◌>>=◌ d (f a) k) s lt (λ a t1 p s' le. c a t1 p st k s' (fewer _ _ le lt) (λ b t2 q s'' le'. g b t2 (pq a t1 b t2 p q) s'' (le_trans le' le))) in
      (r.0, r.1 ∙ sym (bind_assoc m f k s))

  -- a step, and then a stretch
  after_step : {B' : Type 0} → (Q : Temp → B' → Temp → Type 0) (pc pc' : ℕ) (t : Temp) (m : M d B') → slice_get code pc ≡ Some i_step → Does Q (suc pc) t m pc' → Does Q pc t (◌>>◌ d (step d) m) pc'
  unfolding ◌>>◌ act
  after_step Q pc pc' t m e i st k s lt g =
      let r = step_then (λ j u. run j (stands (suc pc) t st)) (λ u. ◌>>=◌ d m k) s (λ s' le. i st k s' (omega (arith, le, lt)) (λ a t' q s'' le'. g a t' q s'' (omega (arith, le, le')))) in
      (suc r.0, step_run pc t st i_step e r.0 s ∙ r.1 ∙ sym (bind_assoc (step d) (λ u. m) k s))

  moved : {A : Type 0} → (P : Temp → A → Temp → Type 0) (pc a b : ℕ) (t : Temp) (m : M d A) → a ≡ b → Does P pc t m a → Does P pc t m b
  moved P pc a b t m e i = subst (Does P pc t m) e i

  nothing_does : {A : Type 0} → (P : Temp → A → Temp → Type 0) (pc : ℕ) (t : Temp) (a : A) → P t a t → Does P pc t (pure d a) pc
  nothing_does P pc t a p st k s lt g = let r = g a t p s (le_refl _) in (r.0, r.1 ∙ sym (pure_bind a k s))

  -- a jump where the temporary is false
  branch : {A : Type 0} → (P : Temp → A → Temp → Type 0) (pc n to pc' : ℕ) (t : Temp) (b : Bool) (m m' : M d A) → slice_get code pc ≡ Some (i_jump_zero n to) → t n ≡ truth_value d x b → (b ≡ true → Does P (suc pc) t m pc') → (b ≡ false → Does P to t m' pc') → Does P pc t (choose d b m m') pc'
  unfolding act choose truth_value
  branch P pc n to pc' t true m m' e i y z st k s lt g =
      let r = y refl st k s lt g in
      (suc r.0, step_run pc t st (i_jump_zero n to) e r.0 s ∙ ap (λ c. run r.0 (if c then stands to t st else stands (suc pc) t st) s) (ap is_zero i ∙ zero_true) ∙ r.1)
  branch P pc n to pc' t false m m' e i y z st k s lt g =
      let r = z refl st k s lt g in
      (suc r.0, step_run pc t st (i_jump_zero n to) e r.0 s ∙ ap (λ c. run r.0 (if c then stands to t st else stands (suc pc) t st) s) (ap is_zero i ∙ zero_false) ∙ r.1)

  jump : {A : Type 0} → (P : Temp → A → Temp → Type 0) (pc to pc' : ℕ) (t : Temp) (m : M d A) → slice_get code pc ≡ Some (i_jump to) → Does P to t m pc' → Does P pc t m pc'
  unfolding act
  jump P pc to pc' t m e i st k s lt g = let r = i st k s lt g in (suc r.0, step_run pc t st (i_jump to) e r.0 s ∙ r.1)

  below_trans : (n : ℕ) (t t1 t2 : Temp) → Below n t t1 → Below n t1 t2 → Below n t t2
  below_trans n t t1 t2 i j = λ m le. j m le ∙ i m le

  below_less : (n : ℕ) (t t1 : Temp) → Below (suc n) t t1 → Below n t t1
  below_less n t t1 i = λ m le. i m (omega (arith, le))

  arith_one : (pc n mark : ℕ) (o : Op) (t : Temp) (v w : d.V) → t n ≡ v → t (suc n) ≡ w → slice_get code pc ≡ Some (i_arith mark o n n (suc n)) → Does (In n) pc t (fits d x mark o v w) (suc pc)
  unfolding act
  arith_one pc n mark o t v w i j e = subst (λ m. Does (In n) pc t m (suc pc)) (ap₂ (fits d x mark o) i j) (one pc n t (i_arith mark o n n (suc n)) (fits d x mark o (t n) (t (suc n))) e (λ st k s. refl) (falls_fits d x mark o _ _))

  divisor_one : (pc n mark : ℕ) (t : Temp) (v w : d.V) → t n ≡ v → t (suc n) ≡ w → slice_get code pc ≡ Some (i_divisor mark n (suc n)) → Does (λ t a t'. t ≡ t') pc t (checked d x site.Divisor Divide mark (act_divisor v w)) (suc pc)
  unfolding act
  divisor_one pc n mark t v w i j e = subst (λ m. Does (λ t a t'. t ≡ t') pc t m (suc pc)) (ap₂ (λ a b. checked d x site.Divisor Divide mark (act_divisor a b)) i j)
      (λ st k s lt g. let r = bind_at (checked d x site.Divisor Divide mark (act_divisor (t n) (t (suc n)))) (λ q u. run q (stands (suc pc) t st)) k s (falls_checked d x site.Divisor Divide mark _) (λ u s' le. g u t refl s' le) in (suc r.0, step_run pc t st (i_divisor mark n (suc n)) e r.0 s ∙ r.1))

  division_does : (pc n mark : ℕ) (o : Op) (t : Temp) (v w : d.V) → t n ≡ v → t (suc n) ≡ w → HasAt code pc (division mark o n) → Does (In n) pc t (◌>>◌ d (checked d x site.Divisor Divide mark (act_divisor v w)) (fits d x mark o v w)) (suc (suc pc))
  unfolding ◌>>◌
  division_does pc n mark o t v w i j e = seq (λ t a t'. t ≡ t') (In n) (In n) pc (suc pc) (suc (suc pc)) t _ _ (divisor_one pc n mark t v w i j e.0) (λ u t1 q. arith_one (suc pc) n mark o t1 v w (ap (λ z. z n) (sym q) ∙ i) (ap (λ z. z (suc n)) (sym q) ∙ j) (e.1).0)
      (λ u t1 b t2 q r. subst (λ z. In n z b t2) (sym q) r)

  binary_does : (pc n mark : ℕ) (o : Op) (t : Temp) (v w : d.V) → t n ≡ v → t (suc n) ≡ w → HasAt code pc (arith_code mark o n) → Does (In n) pc t (binary d x mark o v w) (pc + length (arith_code mark o n))
  unfolding binary
  binary_does pc n mark tree.quot t v w i j e = moved (In n) pc (suc (suc pc)) _ t _ (omega arith) (division_does pc n mark tree.quot t v w i j e)
  binary_does pc n mark tree.rem t v w i j e = moved (In n) pc (suc (suc pc)) _ t _ (omega arith) (division_does pc n mark tree.rem t v w i j e)
  binary_does pc n mark tree.add t v w i j e = moved (In n) pc (suc pc) _ t _ (omega arith) (arith_one pc n mark tree.add t v w i j e.0)
  binary_does pc n mark tree.sub t v w i j e = moved (In n) pc (suc pc) _ t _ (omega arith) (arith_one pc n mark tree.sub t v w i j e.0)
  binary_does pc n mark tree.mul t v w i j e = moved (In n) pc (suc pc) _ t _ (omega arith) (arith_one pc n mark tree.mul t v w i j e.0)

  -- two values, in n and the next, and what is made of them
  two : {A : Type 0} → (P : Temp → A → Temp → Type 0) (pc pc1 pc2 pc3 n : ℕ) (t : Temp) (ma mb : M d d.V) (f : d.V → d.V → M d A) → Does (In n) pc t ma pc1 → ((t1 : Temp) → Does (In (suc n)) pc1 t1 mb pc2)
      → ((t2 : Temp) (v w : d.V) → t2 n ≡ v → t2 (suc n) ≡ w → Does P pc2 t2 (f v w) pc3) → ((t t1 t2 : Temp) (a : A) → Below n t t1 → P t1 a t2 → P t a t2) → Does P pc t (◌>>=◌ d ma (λ v. ◌>>=◌ d mb (λ w. f v w))) pc3
  two P pc pc1 pc2 pc3 n t ma mb f i j k low = seq (In n) P P pc pc1 pc3 t ma _ i
      (λ v t1 a. seq (In (suc n)) P P pc1 pc2 pc3 t1 mb (f v) (j t1) (λ w t2 b. k t2 v w (b.1 n (omega arith) ∙ a.0) b.0) (λ w t2 c t3 b q. low t1 t2 t3 c (below_less n t1 t2 b.1) q))
      (λ v t1 c t3 a q. low t t1 t3 c a.1 q)

  in_low : (n : ℕ) (t t1 t2 : Temp) (a : d.V) → Below n t t1 → In n t1 a t2 → In n t a t2
  in_low n t t1 t2 a i j = (j.0, below_trans n t t1 t2 i j.1)

  bool_low : (n : ℕ) (t t1 t2 : Temp) (a : Bool) → Below n t t1 → InBool n t1 a t2 → InBool n t a t2
  bool_low n t t1 t2 a i j = (j.0, below_trans n t t1 t2 i j.1)

  -- a value in n, and what one instruction makes of it there
  then_one : (pc pc1 n : ℕ) (t : Temp) (m : M d d.V) (f : d.V → M d d.V) (i : Instruction) → Does (In n) pc t m pc1 → slice_get code pc1 ≡ Some i
      → ((t1 : Temp) → Acts pc1 n t1 i (f (t1 n))) → ((v : d.V) → Falls d (f v)) → Does (In n) pc t (◌>>=◌ d m f) (suc pc1)
  then_one pc pc1 n t m f i j e g fl = seq (In n) (In n) (In n) pc pc1 (suc pc1) t m f j (λ v t1 a. subst (λ z. Does (In n) pc1 t1 (f z) (suc pc1)) a.0 (one pc1 n t1 i (f (t1 n)) e (g t1) (fl _))) (λ v t1 b t2 a q. in_low n t t1 t2 b a.1 q)

  then_pure : (pc pc1 n : ℕ) (t : Temp) (m : M d d.V) (f : d.V → d.V) (i : Instruction) → Does (In n) pc t m pc1 → slice_get code pc1 ≡ Some i
      → ((t1 : Temp) (st : Stack) (k : Conf → Done d) (s : St) → act d x is_zero first_of i k (stands pc1 t1 st) s ≡ k (stands (suc pc1) (put d t1 n (f (t1 n))) st) s) → Does (In n) pc t (◌>>=◌ d m (λ v. pure d (f v))) (suc pc1)
  then_pure pc pc1 n t m f i j e g = then_one pc pc1 n t m (λ v. pure d (f v)) i j e (λ t1 st k s. g t1 st k s ∙ sym (pure_bind (f (t1 n)) (λ u. k (stands (suc pc1) (put d t1 n u) st)) s)) (λ v. falls_pure d _)

  then_bool : (pc pc1 n : ℕ) (t : Temp) (m : M d d.V) (f : d.V → M d Bool) (i : Instruction) → Does (In n) pc t m pc1 → slice_get code pc1 ≡ Some i
      → ((t1 : Temp) (st : Stack) (k : Conf → Done d) (s : St) → act d x is_zero first_of i k (stands pc1 t1 st) s ≡ ◌>>=◌ d (f (t1 n)) (λ v. k (stands (suc pc1) (put d t1 n (truth_value d x v)) st)) s) → ((v : d.V) → Falls d (f v)) → Does (InBool n) pc t (◌>>=◌ d m f) (suc pc1)
  then_bool pc pc1 n t m f i j e g fl = seq (In n) (InBool n) (InBool n) pc pc1 (suc pc1) t m f j (λ v t1 a. subst (λ z. Does (InBool n) pc1 t1 (f z) (suc pc1)) a.0 (one_bool pc1 n t1 i (f (t1 n)) e (g t1) (fl _))) (λ v t1 b t2 a q. bool_low n t t1 t2 b a.1 q)

  -- the arguments stand in the temporaries from n on
  abbrev pub InAll : ℕ → ℕ → Temp → List d.V → Temp → Type 0
  InAll n m t vs t' = (arguments d t' n m ≡ vs) × Below n t t'

  pure_in : (m : M d Bool) (k : d.V → Done d) (s : St) → ◌>>=◌ d m (λ b. ◌>>=◌ d (pure d (truth_value d x b)) k) s ≡ ◌>>=◌ d m (λ b. k (truth_value d x b)) s
  pure_in m k s = bind_ext m _ _ s (λ b s'. pure_bind (truth_value d x b) k s')

  truth_bind : (m : M d Bool) (k : d.V → Done d) (s : St) → ◌>>=◌ d (◌>>=◌ d m (λ b. pure d (truth_value d x b))) k s ≡ ◌>>=◌ d m (λ b. k (truth_value d x b)) s
  truth_bind m k s = bind_assoc m (λ b. pure d (truth_value d x b)) k s ∙ pure_in m k s

  malloc_bind : (n pc : ℕ) (t : Temp) (c : Layout) (st : Stack) (k : Conf → Done d) (s : St) → act d x is_zero first_of (i_malloc n c) k (stands pc t st) s
      ≡ ◌>>=◌ d (◌>>◌ d (steps d (length c.cells)) (of.make d c)) (λ v. k (stands (suc pc) (put d t n v) st)) s
  unfolding act ◌>>◌
  malloc_bind n pc t c st k s = sym (bind_assoc (steps d (length c.cells)) (λ u. of.make d c) (λ v. k (stands (suc pc) (put d t n v) st)) s)

  -- ---- conditions: where they lead

  abbrev pub side : ℕ → ℕ → Bool → ℕ
  side y z true = y
  side y z false = z

  -- from pc a truth is found: it leads to y where it is true and to z where it is false, and the temporaries below n stand as before
  abbrev pub Leads : ℕ → ℕ → Temp → M d Bool → ℕ → ℕ → Type 0
  Leads n pc t m y z = (st : Stack) (k : Bool → Done d) (s : St) → s.steps < B
      → ((b : Bool) (t' : Temp) → Below n t t' → (s' : St) → s'.steps ≤ s.steps → (j : ℕ) × (run j (stands (side y z b) t' st) s' ≡ k b s'))
      → (j : ℕ) × (run j (stands pc t st) s ≡ ◌>>=◌ d m k s)

  lead_step : (n pc : ℕ) (t : Temp) (m : M d Bool) (y z : ℕ) → slice_get code pc ≡ Some i_step → Leads n (suc pc) t m y z → Leads n pc t (◌>>◌ d (step d) m) y z
  unfolding ◌>>◌ act
  lead_step n pc t m y z e i st k s lt g =
      let r = step_then (λ j u. run j (stands (suc pc) t st)) (λ u. ◌>>=◌ d m k) s (λ s' le. i st k s' (omega (arith, le, lt)) (λ a t' q s'' le'. g a t' q s'' (omega (arith, le, le')))) in
      (suc r.0, step_run pc t st i_step e r.0 s ∙ r.1 ∙ sym (bind_assoc (step d) (λ u. m) k s))

  -- one condition and then another
  lead_seq : (n pc y1 z1 y z : ℕ) (t : Temp) (m : M d Bool) (f : Bool → M d Bool) → Leads n pc t m y1 z1 → ((b : Bool) (t1 : Temp) → Leads n (side y1 z1 b) t1 (f b) y z) → Leads n pc t (◌>>=◌ d m f) y z
  lead_seq n pc y1 z1 y z t m f i c st k s lt g =
      let r = i st (λ b. ◌>>=◌ d (f b) k) s lt (λ b t1 q s' le. c b t1 st k s' (fewer _ _ le lt) (λ b' t2 q' s'' le'. g b' t2 (below_trans n t t1 t2 q q') s'' (le_trans le' le))) in
      (r.0, r.1 ∙ sym (bind_assoc m f k s))

  -- where it already stands on its side
  lead_there : (n pc y z : ℕ) (t : Temp) (b : Bool) → pc ≡ side y z b → Leads n pc t (pure d b) y z
  lead_there n pc y z t b e st k s lt g =
      let r = subst (λ p. (j : ℕ) × (run j (stands p t st) s ≡ k b s)) (sym e) (g b t (λ m le. refl) s (le_refl _)) in
      (r.0, r.1 ∙ sym (pure_bind b k s))

  lead_not : (n pc y z : ℕ) (t : Temp) (m : M d Bool) → Leads n pc t m z y → Leads n pc t (◌>>=◌ d m (λ b. pure d (not b))) y z
  lead_not n pc y z t m i = lead_seq n pc z y y z t m (λ b. pure d (not b)) i not_case
    where
      not_case : (b : Bool) (t1 : Temp) → Leads n (side z y b) t1 (pure d (not b)) y z
      not_case true t1 = lead_there n z y z t1 false refl
      not_case false t1 = lead_there n y y z t1 true refl

  lead_both : (n pc l y z : ℕ) (t : Temp) (m m' : M d Bool) → Leads n pc t m l z → ((t1 : Temp) → Leads n l t1 m' y z) → Leads n pc t (◌>>=◌ d m (λ b. choose d b m' (pure d false))) y z
  unfolding choose
  lead_both n pc l y z t m m' i c = lead_seq n pc l z y z t m (λ b. choose d b m' (pure d false)) i both_case
    where
      both_case : (b : Bool) (t1 : Temp) → Leads n (side l z b) t1 (choose d b m' (pure d false)) y z
      both_case true t1 = c t1
      both_case false t1 = lead_there n z y z t1 false refl

  lead_either : (n pc l y z : ℕ) (t : Temp) (m m' : M d Bool) → Leads n pc t m y l → ((t1 : Temp) → Leads n l t1 m' y z) → Leads n pc t (◌>>=◌ d m (λ b. choose d b (pure d true) m')) y z
  unfolding choose
  lead_either n pc l y z t m m' i c = lead_seq n pc y l y z t m (λ b. choose d b (pure d true) m') i either_case
    where
      either_case : (b : Bool) (t1 : Temp) → Leads n (side y l b) t1 (choose d b (pure d true) m') y z
      either_case true t1 = lead_there n y y z t1 true refl
      either_case false t1 = c t1

  -- from the decision's result in n to its side
  side_run : (n pc y z : ℕ) (t : Temp) (st : Stack) (b : Bool) (s : St) (goal : Ran d.E St (Unit {0})) → t n ≡ truth_value d x b → HasAt code pc (sides_code n y z) → (j : ℕ) × (run j (stands (side y z b) t st) s ≡ goal) → (j : ℕ) × (run j (stands pc t st) s ≡ goal)
  unfolding act truth_value
  side_run n pc y z t st true s goal i e r =
      (suc (suc r.0), step_run pc t st (i_jump_zero n z) e.0 (suc r.0) s ∙ ap (λ c. run (suc r.0) (if c then stands z t st else stands (suc pc) t st) s) (ap is_zero i ∙ zero_true) ∙ step_run (suc pc) t st (i_jump y) (e.1).0 r.0 s ∙ r.1)
  side_run n pc y z t st false s goal i e r =
      (suc r.0, step_run pc t st (i_jump_zero n z) e.0 r.0 s ∙ ap (λ c. run r.0 (if c then stands z t st else stands (suc pc) t st) s) (ap is_zero i ∙ zero_false) ∙ r.1)

  -- a decision, and the jumps behind it
  sides_lead : (n pc pc1 y z : ℕ) (t : Temp) (m : M d Bool) → Does (InBool n) pc t m pc1 → HasAt code pc1 (sides_code n y z) → Leads n pc t m y z
  sides_lead n pc pc1 y z t m i e st k s lt g = i st k s lt (λ b t' q s' le. side_run n pc1 y z t' st b s' (k b s') q.0 e (g b t' q.1 s' le))

  -- a condition whose sides put 1 or 0 into n
  number_run : (n l : ℕ) (t t' : Temp) (st : Stack) (k : Bool → Done d) (b : Bool) (s : St) → Below n t t' → HasAt code l (number_code n l) → ((t2 : Temp) → InBool n t b t2 → (j : ℕ) × (run j (stands (suc (suc (suc l))) t2 st) s ≡ k b s)) → (j : ℕ) × (run j (stands (side l (suc (suc l)) b) t' st) s ≡ k b s)
  unfolding act truth_value
  number_run n l t t' st k true s low e g =
      let q = put_in t' n (d.number (pos 1)) in
      let r = g (put d t' n (d.number (pos 1))) (q.0, below_trans n t t' _ low q.1) in
      (suc (suc r.0), step_run l t' st (i_number n (pos 1)) e.0 (suc r.0) s ∙ step_run (suc l) _ st (i_jump (suc (suc (suc l)))) (e.1).0 r.0 s ∙ r.1)
  number_run n l t t' st k false s low e g =
      let q = put_in t' n (d.number (pos 0)) in
      let r = g (put d t' n (d.number (pos 0))) (q.0, below_trans n t t' _ low q.1) in
      (suc r.0, step_run (suc (suc l)) t' st (i_number n (pos 0)) ((e.1).1).0 r.0 s ∙ r.1)

  number_does : (n pc l : ℕ) (t : Temp) (m : M d Bool) → Leads n pc t m l (suc (suc l)) → HasAt code l (number_code n l) → Does (InBool n) pc t m (suc (suc (suc l)))
  number_does n pc l t m i e st k s lt g = i st k s lt (λ b t' low s' le. number_run n l t t' st k b s' low e (λ t2 q. g b t2 q s' le))

  -- the length of a condition's code does not hang on where it leads
  sides_length : (n y z y' z' : ℕ) (p : List Instruction) → length (p ++ sides_code n y z) ≡ length (p ++ sides_code n y' z')
  sides_length n y z y' z' p = let a = length-append p (sides_code n y z) in let b = length-append p (sides_code n y' z') in omega (arith, a, b)

  pub cond_length : (c : Cond) (pc n y z y' z' : ℕ) → length (cond_code c pc n y z) ≡ length (cond_code c pc n y' z')
  cond_length (tree.compare o op a b) pc n y z y' z' = sides_length n y z y' z' (compare_code o op n (value_code a (suc pc) n) (value_code b (suc pc + length (value_code a (suc pc) n)) (suc n)))
  cond_length (tree.test o a) pc n y z y' z' = sides_length n y z y' z' (test_code o n (value_code a pc n))
  cond_length (tree.opposite c) pc n y z y' z' = ap suc (cond_length c (suc pc) n z y z' y')
  cond_length (tree.both a b) pc n y z y' z' = let l = suc pc + length (cond_code a (suc pc) n 0 0) in
      let i = cond_length a (suc pc) n l z l z' in let j = cond_length b l n y z y' z' in
      let p = length-append (cond_code a (suc pc) n l z) (cond_code b l n y z) in let q = length-append (cond_code a (suc pc) n l z') (cond_code b l n y' z') in
      omega (arith, i, j, p, q)
  cond_length (tree.either a b) pc n y z y' z' = let l = suc pc + length (cond_code a (suc pc) n 0 0) in
      let i = cond_length a (suc pc) n y l y' l in let j = cond_length b l n y z y' z' in
      let p = length-append (cond_code a (suc pc) n y l) (cond_code b l n y z) in let q = length-append (cond_code a (suc pc) n y' l) (cond_code b l n y' z') in
      omega (arith, i, j, p, q)

  -- what stands behind a condition's code stands where that ends
  cond_back : (c : Cond) (pc n y z : ℕ) (rest : List Instruction) → HasAt code pc (cond_code c pc n y z ++ rest) → HasAt code (pc + length (cond_code c pc n 0 0)) rest
  cond_back c pc n y z rest e = let q = cond_length c pc n y z 0 0 in subst (λ m. HasAt code m rest) (ap (λ v. pc + v) q) (has_back code pc (cond_code c pc n y z) rest e)

  module _ (h : ℕ → List d.V → M d d.V) (call_ok : (pc n f m : ℕ) (t : Temp) → slice_get code pc ≡ Some (i_call n f n m) → Does (In n) pc t (h f (arguments d t n m)) (suc pc)) where
    -- a comparison, and a value's truth, where the codes of the operands do what they should
    compare_does : (o : ℕ) (op : Cmp) (pc n : ℕ) (t : Temp) (ca cb : List Instruction) (ma mb : M d d.V) → (HasAt code (suc pc) ca → Does (In n) (suc pc) t ma (suc pc + length ca)) → ((t1 : Temp) → HasAt code (suc pc + length ca) cb → Does (In (suc n)) (suc pc + length ca) t1 mb (suc pc + length ca + length cb))
        → HasAt code pc (compare_code o op n ca cb) → Does (InBool n) pc t (◌>>◌ d (step d) (◌>>=◌ d ma (λ v. ◌>>=◌ d mb (λ w. decided d x o (act_compare op v w))))) (pc + length (compare_code o op n ca cb))
    unfolding act
    compare_does o op pc n t ca cb ma mb i j e =
        let pc1 = suc pc + length ca in let pc2 = pc1 + length cb in let last = i_compare o op n n (suc n) ∷ [] in
        let la = length-append ca (cb ++ last) in let lb = length-append cb last in
        let eb = has_back code (suc pc) ca (cb ++ last) e.1 in
        moved (InBool n) pc (suc pc2) _ t _ (omega (arith, la, lb))
        (after_step (InBool n) pc _ t _ e.0 (two (InBool n) (suc pc) pc1 pc2 _ n t _ _ (λ v w. decided d x o (act_compare op v w))
        (i (has_front code (suc pc) ca _ e.1)) (λ t1. j t1 (has_front code pc1 cb _ eb))
        (λ t2 v w p q. subst (λ m. Does (InBool n) pc2 t2 m (suc pc2)) (ap₂ (λ y z. decided d x o (act_compare op y z)) p q) (one_bool pc2 n t2 (i_compare o op n n (suc n)) _ (has_back code pc1 cb _ eb).0 (λ st k s. refl) (falls_decided d x o _))) (bool_low n)))

    test_does : (o pc n : ℕ) (t : Temp) (ca : List Instruction) (ma : M d d.V) → (HasAt code pc ca → Does (In n) pc t ma (pc + length ca))
        → HasAt code pc (test_code o n ca) → Does (InBool n) pc t (◌>>=◌ d ma (λ v. decided d x o (act_test v))) (pc + length (test_code o n ca))
    unfolding act
    test_does o pc n t ca ma i e =
        let la = length-append ca (i_truth o n n ∷ []) in
        moved (InBool n) pc (suc (pc + length ca)) _ t _ (omega (arith, la))
        (then_bool pc (pc + length ca) n t _ (λ v. decided d x o (act_test v)) (i_truth o n n) (i (has_front code pc ca _ e)) (has_back code pc ca _ e).0 (λ t1 st k s. refl) (λ v. falls_decided d x o _))

    as_number : (n pc pc' : ℕ) (t : Temp) (m : M d Bool) → Does (InBool n) pc t m pc' → Does (In n) pc t (◌>>=◌ d m (λ b. pure d (truth_value d x b))) pc'
    as_number n pc pc' t m i st k s lt g =
        let r = i st (λ b. k (truth_value d x b)) s lt (λ b t1 q s' le. g (truth_value d x b) t1 q s' le) in
        (r.0, r.1 ∙ sym (truth_bind m k s))

    -- a truth as a number, whatever its condition is
    jumped_does : (c : Cond) (pc n : ℕ) (t : Temp) → ((p y z : ℕ) (u : Temp) → HasAt code p (cond_code c p n y z) → Leads n p u (of.truth d x h c) y z)
        → HasAt code pc (cond_code c pc n (pc + length (cond_code c pc n 0 0)) (suc (suc (pc + length (cond_code c pc n 0 0)))) ++ number_code n (pc + length (cond_code c pc n 0 0)))
        → Does (In n) pc t (◌>>=◌ d (of.truth d x h c) (λ b. pure d (truth_value d x b))) (pc + length (cond_code c pc n (pc + length (cond_code c pc n 0 0)) (suc (suc (pc + length (cond_code c pc n 0 0)))) ++ number_code n (pc + length (cond_code c pc n 0 0))))
    jumped_does c pc n t i e =
        let l = pc + length (cond_code c pc n 0 0) in let cc = cond_code c pc n l (suc (suc l)) in
        let la = length-append cc (number_code n l) in let lc = cond_length c pc n l (suc (suc l)) 0 0 in
        moved (In n) pc (suc (suc (suc l))) _ t _ (omega (arith, la, lc))
        (as_number n pc (suc (suc (suc l))) t _ (number_does n pc l t _ (i pc l (suc (suc l)) t (has_front code pc cc _ e)) (cond_back c pc n l (suc (suc l)) (number_code n l) e)))

    truth_value_does : (c : Cond) (pc n : ℕ) (t : Temp) → ((p : ℕ) (u : Temp) → HasAt code p (decision_code c p n) → IfSingle c (Does (InBool n) p u (of.truth d x h c) (p + length (decision_code c p n))))
        → ((p y z : ℕ) (u : Temp) → HasAt code p (cond_code c p n y z) → Leads n p u (of.truth d x h c) y z) → HasAt code pc (value_code (tree.truth c) pc n)
        → Does (In n) pc t (◌>>=◌ d (of.truth d x h c) (λ b. pure d (truth_value d x b))) (pc + length (value_code (tree.truth c) pc n))
    truth_value_does (tree.compare o op a b) pc n t i j e = as_number n pc _ t _ (i pc t e)
    truth_value_does (tree.test o a) pc n t i j e = as_number n pc _ t _ (i pc t e)
    truth_value_does (tree.opposite c) pc n t i j e = jumped_does (tree.opposite c) pc n t j e
    truth_value_does (tree.both a b) pc n t i j e = jumped_does (tree.both a b) pc n t j e
    truth_value_does (tree.either a b) pc n t i j e = jumped_does (tree.either a b) pc n t j e

    mutual
      unfolding of.value act

      pub value_does : (a : Val) (pc n : ℕ) (t : Temp) → HasAt code pc (value_code a pc n) → Does (In n) pc t (of.value d x h a) (pc + length (value_code a pc n))
      value_does (tree.number z) pc n t e = moved (In n) pc (suc pc) _ t _ (omega arith) (one_pure pc n t (i_number n z) (d.number z) e.0 (λ st k s. refl))
      value_does tree.nil pc n t e = moved (In n) pc (suc pc) _ t _ (omega arith) (one_pure pc n t (i_nil n) d.nil e.0 (λ st k s. refl))
      value_does (tree.read l) pc n t e = let len = length-append (locate_code l pc n) (i_load n n ∷ []) in
          moved (In n) pc (suc (pc + length (locate_code l pc n))) _ t _ (omega (arith, len))
          (then_one pc (pc + length (locate_code l pc n)) n t _ (λ p. of.load d p) (i_load n n) (locate_does l pc n t (has_front code pc (locate_code l pc n) _ e)) (has_back code pc (locate_code l pc n) _ e).0 (λ t1 st k s. refl) (λ v. falls_load d v))
      value_does (tree.arith o op a b) pc n t e =
          let ca = value_code a (suc pc) n in let pc1 = suc pc + length ca in let cb = value_code b pc1 (suc n) in let pc2 = pc1 + length cb in
          let la = length-append ca (cb ++ arith_code o op n) in let lb = length-append cb (arith_code o op n) in
          let eb = has_back code (suc pc) ca (cb ++ arith_code o op n) e.1 in
          moved (In n) pc (pc2 + length (arith_code o op n)) _ t _ (omega (arith, la, lb))
          (after_step (In n) pc (pc2 + length (arith_code o op n)) t _ e.0 (two (In n) (suc pc) pc1 pc2 _ n t _ _ (λ v w. binary d x o op v w)
          (value_does a (suc pc) n t (has_front code (suc pc) ca _ e.1)) (λ t1. value_does b pc1 (suc n) t1 (has_front code pc1 cb _ eb))
          (λ t2 v w i j. binary_does pc2 n o op t2 v w i j (has_back code pc1 cb _ eb)) (in_low n)))
      value_does (tree.negate o a) pc n t e =
          let ca = value_code a (suc pc) n in let la = length-append ca (i_negate o n n ∷ []) in
          moved (In n) pc (suc (suc pc + length ca)) _ t _ (omega (arith, la))
          (after_step (In n) pc _ t _ e.0 (then_one (suc pc) (suc pc + length ca) n t _ (λ v. checked d x site.Fit Overflow o (act_negate v)) (i_negate o n n) (value_does a (suc pc) n t (has_front code (suc pc) ca _ e.1)) (has_back code (suc pc) ca _ e.1).0 (λ t1 st k s. refl) (λ v. falls_checked d x _ _ o _)))
      value_does (tree.truth c) pc n t e = truth_value_does c pc n t (λ p u. decision_does c p n u) (λ p y z u. cond_does c p n y z u) e
      value_does (tree.address l) pc n t e = moved (In n) pc (suc pc + length (locate_code l (suc pc) n)) _ t _ (omega arith)
          (after_step (In n) pc _ t _ e.0 (locate_does l (suc pc) n t e.1))
      value_does (tree.call f xs) pc n t e =
          let ca = values_code xs (suc pc) n in let pc1 = suc pc + length ca in let la = length-append ca (i_call n f n (count xs) ∷ []) in
          moved (In n) pc (suc pc1) _ t _ (omega (arith, la))
          (after_step (In n) pc _ t _ e.0 (seq (InAll n (count xs)) (In n) (In n) (suc pc) pc1 (suc pc1) t _ (λ vs. h f vs) (values_does xs (suc pc) n t (has_front code (suc pc) ca _ e.1))
          (λ vs t1 q. subst (λ z. Does (In n) pc1 t1 (h f z) (suc pc1)) q.0 (call_ok pc1 n f (count xs) t1 (has_back code (suc pc) ca _ e.1).0))
          (λ vs t1 b t2 q r. in_low n t t1 t2 b q.1 r)))
      value_does (tree.malloc c) pc n t e = moved (In n) pc (suc (suc pc)) _ t _ (omega arith)
          (after_step (In n) pc _ t _ e.0 (one (suc pc) n t (i_malloc n c) _ (e.1).0 (λ st k s. malloc_bind n (suc pc) t c st k s) (falls_then d _ _ (falls_steps d _) (falls_make d c))))

      pub decision_does : (c : Cond) (pc n : ℕ) (t : Temp) → HasAt code pc (decision_code c pc n) → IfSingle c (Does (InBool n) pc t (of.truth d x h c) (pc + length (decision_code c pc n)))
      decision_does (tree.compare o op a b) pc n t e = compare_does o op pc n t (value_code a (suc pc) n) (value_code b (suc pc + length (value_code a (suc pc) n)) (suc n)) _ _ (value_does a (suc pc) n t) (λ t1. value_does b _ (suc n) t1) e
      decision_does (tree.test o a) pc n t e = test_does o pc n t (value_code a pc n) _ (value_does a pc n t) e
      decision_does (tree.opposite c) pc n t e = tt
      decision_does (tree.both a b) pc n t e = tt
      decision_does (tree.either a b) pc n t e = tt

      pub cond_does : (c : Cond) (pc n y z : ℕ) (t : Temp) → HasAt code pc (cond_code c pc n y z) → Leads n pc t (of.truth d x h c) y z
      cond_does (tree.compare o op a b) pc n y z t e =
          let ca = value_code a (suc pc) n in let cb = value_code b (suc pc + length ca) (suc n) in
          sides_lead n pc _ y z t _ (compare_does o op pc n t ca cb _ _ (value_does a (suc pc) n t) (λ t1. value_does b _ (suc n) t1) (has_front code pc (compare_code o op n ca cb) _ e)) (has_back code pc (compare_code o op n ca cb) _ e)
      cond_does (tree.test o a) pc n y z t e =
          let ca = value_code a pc n in
          sides_lead n pc _ y z t _ (test_does o pc n t ca _ (value_does a pc n t) (has_front code pc (test_code o n ca) _ e)) (has_back code pc (test_code o n ca) _ e)
      cond_does (tree.opposite c) pc n y z t e = lead_step n pc t _ y z e.0 (lead_not n (suc pc) y z t _ (cond_does c (suc pc) n z y t e.1))
      cond_does (tree.both a b) pc n y z t e =
          let l = suc pc + length (cond_code a (suc pc) n 0 0) in let cb = cond_code b l n y z in
          lead_step n pc t _ y z e.0 (lead_both n (suc pc) l y z t _ _ (cond_does a (suc pc) n l z t (has_front code (suc pc) (cond_code a (suc pc) n l z) cb e.1)) (λ t1. cond_does b l n y z t1 (cond_back a (suc pc) n l z cb e.1)))
      cond_does (tree.either a b) pc n y z t e =
          let l = suc pc + length (cond_code a (suc pc) n 0 0) in let cb = cond_code b l n y z in
          lead_step n pc t _ y z e.0 (lead_either n (suc pc) l y z t _ _ (cond_does a (suc pc) n y l t (has_front code (suc pc) (cond_code a (suc pc) n y l) cb e.1)) (λ t1. cond_does b l n y z t1 (cond_back a (suc pc) n y l cb e.1)))

      pub locate_does : (l : Loc) (pc n : ℕ) (t : Temp) → HasAt code pc (locate_code l pc n) → Does (In n) pc t (of.locate d x h l) (pc + length (locate_code l pc n))
      locate_does (tree.local c) pc n t e = moved (In n) pc (suc pc) _ t _ (omega arith) (one pc n t (i_slot n c) (of.local d c) e.0 (λ st k s. refl) (falls_local d c))
      locate_does (tree.global c) pc n t e = moved (In n) pc (suc pc) _ t _ (omega arith) (one_pure pc n t (i_global n c) (d.global c) e.0 (λ st k s. refl))
      locate_does (tree.deref o a) pc n t e =
          let ca = value_code a (suc pc) n in let la = length-append ca (i_access o n n ∷ []) in
          moved (In n) pc (suc (suc pc + length ca)) _ t _ (omega (arith, la))
          (after_step (In n) pc _ t _ e.0 (then_one (suc pc) (suc pc + length ca) n t _ (λ v. accessed d x o v) (i_access o n n) (value_does a (suc pc) n t (has_front code (suc pc) ca _ e.1)) (has_back code (suc pc) ca _ e.1).0 (λ t1 st k s. refl) (λ v. falls_accessed d x o v)))
      locate_does (tree.arrow o a c) pc n t e =
          let ca = value_code a (suc pc) n in let pc1 = suc pc + length ca in let rest = i_access o n n ∷ i_offset n n c ∷ [] in let la = length-append ca rest in
          let er = has_back code (suc pc) ca rest e.1 in
          moved (In n) pc (suc (suc pc1)) _ t _ (omega (arith, la))
          (after_step (In n) pc _ t _ e.0 (seq (In n) (In n) (In n) (suc pc) pc1 (suc (suc pc1)) t _ (λ v. ◌>>=◌ d (accessed d x o v) (λ p. pure d (d.offset p c))) (value_does a (suc pc) n t (has_front code (suc pc) ca _ e.1))
          (λ v t1 q. then_pure pc1 (suc pc1) n t1 (accessed d x o v) (λ p. d.offset p c) (i_offset n n c) (subst (λ z. Does (In n) pc1 t1 (accessed d x o z) (suc pc1)) q.0 (one pc1 n t1 (i_access o n n) (accessed d x o (t1 n)) er.0 (λ st k s. refl) (falls_accessed d x o _))) (er.1).0 (λ t2 st k s. refl))
          (λ v t1 b t2 q r. in_low n t t1 t2 b q.1 r)))
      locate_does (tree.dot l c) pc n t e =
          let ca = locate_code l (suc pc) n in let la = length-append ca (i_offset n n c ∷ []) in
          moved (In n) pc (suc (suc pc + length ca)) _ t _ (omega (arith, la))
          (after_step (In n) pc _ t _ e.0 (then_pure (suc pc) (suc pc + length ca) n t _ (λ p. d.offset p c) (i_offset n n c) (locate_does l (suc pc) n t (has_front code (suc pc) ca _ e.1)) (has_back code (suc pc) ca _ e.1).0 (λ t1 st k s. refl)))
      locate_does (tree.index o l i m w) pc n t e =
          let ca = locate_code l (suc pc) n in let pc1 = suc pc + length ca in let cb = value_code i pc1 (suc n) in let pc2 = pc1 + length cb in
          let la = length-append ca (cb ++ i_index o n n (suc n) m w ∷ []) in let lb = length-append cb (i_index o n n (suc n) m w ∷ []) in
          let eb = has_back code (suc pc) ca (cb ++ i_index o n n (suc n) m w ∷ []) e.1 in
          moved (In n) pc (suc pc2) _ t _ (omega (arith, la, lb))
          (after_step (In n) pc _ t _ e.0 (two (In n) (suc pc) pc1 pc2 _ n t _ _ (λ p v. checked d x site.Index Index o (act_index p v m w))
          (locate_does l (suc pc) n t (has_front code (suc pc) ca _ e.1)) (λ t1. value_does i pc1 (suc n) t1 (has_front code pc1 cb _ eb))
          (λ t2 p v y z. subst (λ q. Does (In n) pc2 t2 q (suc pc2)) (ap₂ (λ y z. checked d x site.Index Index o (act_index y z m w)) y z) (one pc2 n t2 (i_index o n n (suc n) m w) _ (has_back code pc1 cb _ eb).0 (λ st k s. refl) (falls_checked d x _ _ o _))) (in_low n)))

      pub values_does : (xs : Vals) (pc n : ℕ) (t : Temp) → HasAt code pc (values_code xs pc n) → Does (InAll n (count xs)) pc t (of.values d x h xs) (pc + length (values_code xs pc n))
      values_does tree.done pc n t e = moved (InAll n 0) pc pc _ t _ (omega arith) (nothing_does (InAll n 0) pc t [] (refl, λ m le. refl))
      values_does (tree.more a rest) pc n t e =
          let ca = value_code a pc n in let pc1 = pc + length ca in let cr = values_code rest pc1 (suc n) in let pc2 = pc1 + length cr in let la = length-append ca cr in
          moved (InAll n (suc (count rest))) pc pc2 _ t _ (omega (arith, la))
          (seq (In n) (InAll n (suc (count rest))) (InAll n (suc (count rest))) pc pc1 pc2 t _ _ (value_does a pc n t (has_front code pc ca _ e))
          (λ v t1 q. seq (InAll (suc n) (count rest)) (InAll n (suc (count rest))) (InAll n (suc (count rest))) pc1 pc2 pc2 t1 _ _ (values_does rest pc1 (suc n) t1 (has_back code pc ca _ e))
          (λ vs t2 r. nothing_does (InAll n (suc (count rest))) pc2 t2 (v ∷ vs) (ap₂ (λ y z. y ∷ z) (r.1 n (omega arith) ∙ q.0) r.0, λ m le. refl))
          (λ vs t2 us t3 r z. (z.0, below_trans n t1 t2 t3 (below_less n t1 t2 r.1) z.1)))
          (λ v t1 us t3 q z. (z.0, below_trans n t t1 t3 q.1 z.1)))

    -- ---- statements that are left in one way

    abbrev pub Free : {A : Type 0} → Temp → A → Temp → Type 0
    Free t a t' = Unit {0}

    -- an instruction that does m and goes on
    quiet_one : (pc : ℕ) (t : Temp) (i : Instruction) (m : M d (Unit {0})) → slice_get code pc ≡ Some i → ((st : Stack) (k : Conf → Done d) (s : St) → act d x is_zero first_of i k (stands pc t st) s ≡ ◌>>=◌ d m (λ v. k (stands (suc pc) t st)) s) → Falls d m → Does Free pc t m (suc pc)
    quiet_one pc t i m e f fl st k s lt g =
        let r = bind_at m (λ j v. run j (stands (suc pc) t st)) k s fl (λ v s' le. g v t tt s' le) in
        (suc r.0, step_run pc t st i e r.0 s ∙ f st (run r.0) s ∙ r.1)

    store_one : (pc p v : ℕ) (t : Temp) (q u : d.V) → t p ≡ q → t v ≡ u → slice_get code pc ≡ Some (i_store p v) → Does Free pc t (of.store d q u) (suc pc)
    unfolding act ◌>>◌
    store_one pc p v t q u i j e = subst (λ m. Does Free pc t m (suc pc)) (ap₂ (of.store d) i j) (quiet_one pc t (i_store p v) _ e (λ st k s. refl) (falls_store d _ _))

    free_seq : {A B' : Type 0} → (P : Temp → A → Temp → Type 0) (pc pc1 pc2 : ℕ) (t : Temp) (m : M d A) (f : A → M d B') → Does P pc t m pc1 → ((a : A) (t1 : Temp) → P t a t1 → Does Free pc1 t1 (f a) pc2) → Does Free pc t (◌>>=◌ d m f) pc2
    free_seq P pc pc1 pc2 t m f i c = seq P Free Free pc pc1 pc2 t m f i c (λ a t1 b t2 p q. tt)

    -- a value in n
    forget : {A : Type 0} → (P : Temp → A → Temp → Type 0) (pc pc' : ℕ) (t : Temp) (m : M d A) → Does P pc t m pc' → Does Free pc t m pc'
    forget P pc pc' t m i st k s lt g = i st k s lt (λ a t' q s' le. g a t' tt s' le)

    done_free : (pc : ℕ) (t : Temp) → Does (Free {A = Unit {0}}) pc t (pure d tt) pc
    done_free pc t = nothing_does (Free {A = Unit {0}}) pc t tt tt

    stop_does : {A : Type 0} → (P : Temp → A → Temp → Type 0) (pc pc' : ℕ) (t : Temp) (f : FaultKind) (l : ℕ) → slice_get code pc ≡ Some (i_stop f l) → Does P pc t (stop d (Fault f l)) pc'
    unfolding act stop ◌>>=◌ go_on
    stop_does P pc pc' t f l i st k s lt g = (1, step_run pc t st (i_stop f l) i 0 s)

    -- 0, and the end of the run
    unless_does : {A : Type 0} → (P : Temp → A → Temp → Type 0) (pc pc' : ℕ) (t : Temp) → HasAt code pc (i_number 0 (pos 0) ∷ i_unless 0 ∷ []) → Does P pc t (stop d Assume) pc'
    unfolding act stop ◌>>=◌ go_on
    unless_does P pc pc' t e st k s lt g = (
      2,
      step_run pc t st (i_number 0 (pos 0)) e.0 1 s ∙ step_run (suc pc) _ st (i_unless 0) (e.1).0 0 s
          ∙ ap (λ c. (if c then stop d Assume else run 0 (stands (suc (suc pc)) (put d t 0 (d.number (pos 0))) st)) s) (ap is_zero (put_in t 0 (d.number (pos 0))).0 ∙ zero_false),
    )

    -- a condition, and what is done on each side
    lead_free : {A : Type 0} → (n pc y z pc2 : ℕ) (t : Temp) (m : M d Bool) (f : Bool → M d A) → Leads n pc t m y z → ((b : Bool) (t1 : Temp) → Does Free (side y z b) t1 (f b) pc2) → Does Free pc t (◌>>=◌ d m f) pc2
    lead_free n pc y z pc2 t m f i c st k s lt g =
        let r = i st (λ b. ◌>>=◌ d (f b) k) s lt (λ b t1 q s' le. c b t1 st k s' (fewer _ _ le lt) (λ a t2 p s'' le'. g a t2 tt s'' (le_trans le' le))) in
        (r.0, r.1 ∙ sym (bind_assoc m f k s))

    choose_free : {A : Type 0} → (y z pc2 : ℕ) (m m' : M d A) → ((t : Temp) → Does Free y t m pc2) → ((t : Temp) → Does Free z t m' pc2) → (b : Bool) (t : Temp) → Does Free (side y z b) t (choose d b m m') pc2
    unfolding choose
    choose_free y z pc2 m m' i j true t = i t
    choose_free y z pc2 m m' i j false t = j t

    -- the operator of a compound assignment, with its left side at p and the two operands from n on
    operate : (pc n p : ℕ) (mark : ℕ) (o : Op) (t : Temp) (v w q : d.V) → p < n → t p ≡ q → t n ≡ v → t (suc n) ≡ w → HasAt code pc (arith_code mark o n ++ i_store p n ∷ []) → Does Free pc t (◌>>=◌ d (binary d x mark o v w) (λ r. of.store d q r)) (pc + length (arith_code mark o n ++ i_store p n ∷ []))
    operate pc n p mark o t v w q lt i j k e = let la = length-append (arith_code mark o n) (i_store p n ∷ []) in
        moved Free pc (suc (pc + length (arith_code mark o n))) _ t _ (omega (arith, la))
        (free_seq (In n) pc (pc + length (arith_code mark o n)) _ t _ _ (binary_does pc n mark o t v w j k (has_front code pc (arith_code mark o n) _ e))
        (λ r t1 a. store_one (pc + length (arith_code mark o n)) p n t1 q r (a.1 p lt ∙ i) a.0 (has_back code pc (arith_code mark o n) _ e).0))

    load_one : (pc n p : ℕ) (t : Temp) (q : d.V) → t p ≡ q → slice_get code pc ≡ Some (i_load n p) → Does (In n) pc t (of.load d q) (suc pc)
    unfolding act
    load_one pc n p t q i e = subst (λ z. Does (In n) pc t (of.load d z) (suc pc)) i (one pc n t (i_load n p) _ e (λ st k s. refl) (falls_load d _))

    copy_one : (pc n a : ℕ) (t : Temp) (v : d.V) → t a ≡ v → slice_get code pc ≡ Some (i_copy n a) → Does (In n) pc t (pure d v) (suc pc)
    unfolding act
    copy_one pc n a t v i e = subst (λ z. Does (In n) pc t (pure d z) (suc pc)) i (one_pure pc n t (i_copy n a) _ e (λ st k s. refl))

    number_one : (pc n : ℕ) (t : Temp) (z : ℤ) → slice_get code pc ≡ Some (i_number n z) → Does (In n) pc t (pure d (d.number z)) (suc pc)
    unfolding act
    number_one pc n t z e = one_pure pc n t (i_number n z) (d.number z) e (λ st k s. refl)

    -- m with a value at its front that is no work
    pure_front : {A B' : Type 0} → (P : Temp → B' → Temp → Type 0) (pc pc' : ℕ) (t : Temp) (a : A) (f : A → M d B') → Does P pc t (◌>>=◌ d (pure d a) f) pc' → Does P pc t (f a) pc'
    pure_front P pc pc' t a f i st k s lt g = let r = i st k s lt g in (r.0, r.1 ∙ bind_assoc (pure d a) f k s ∙ pure_bind a (λ b. ◌>>=◌ d (f b) k) s)

    update_does : (pc mark : ℕ) (o : Op) (t : Temp) (v p : d.V) → t 0 ≡ v → t 1 ≡ p → HasAt code pc (update_code mark o) → Does Free pc t (◌>>◌ d (step d) (◌>>=◌ d (of.load d p) (λ w. ◌>>=◌ d (binary d x mark o w v) (λ r. of.store d p r)))) (pc + length (update_code mark o))
    update_does pc mark o t v p i j e =
        let e3 = (((e.1).1).1) in
        moved Free pc (suc (suc (suc pc)) + length (arith_code mark o 2 ++ i_store 1 2 ∷ [])) _ t _ (omega arith)
        (after_step Free pc _ t _ e.0 (free_seq (In 2) (suc pc) (suc (suc pc)) _ t _ _ (load_one (suc pc) 2 1 t p j (e.1).0)
        (λ w t1 a. pure_front Free (suc (suc pc)) _ t1 v (λ u. ◌>>=◌ d (binary d x mark o w u) (λ r. of.store d p r))
        (free_seq (In 3) (suc (suc pc)) (suc (suc (suc pc))) _ t1 (pure d v) _ (copy_one (suc (suc pc)) 3 0 t1 v (a.1 0 (omega arith) ∙ i) ((e.1).1).0)
        (λ u t2 b. operate (suc (suc (suc pc))) 2 1 mark o t2 w u p (omega arith) (b.1 1 (omega arith) ∙ a.1 1 (omega arith) ∙ j) (b.1 2 (omega arith) ∙ a.0) b.0 e3)))))

    bump_does : (pc mark : ℕ) (o : Op) (t : Temp) (p : d.V) → t 0 ≡ p → HasAt code pc (bump_code mark o) → Does Free pc t (◌>>◌ d (step d) (◌>>=◌ d (of.load d p) (λ w. ◌>>=◌ d (binary d x mark o w (d.number (pos 1))) (λ r. of.store d p r)))) (pc + length (bump_code mark o))
    bump_does pc mark o t p j e =
        let e3 = (((e.1).1).1) in
        moved Free pc (suc (suc (suc pc)) + length (arith_code mark o 1 ++ i_store 0 1 ∷ [])) _ t _ (omega arith)
        (after_step Free pc _ t _ e.0 (free_seq (In 1) (suc pc) (suc (suc pc)) _ t _ _ (load_one (suc pc) 1 0 t p j (e.1).0)
        (λ w t1 a. pure_front Free (suc (suc pc)) _ t1 (d.number (pos 1)) (λ u. ◌>>=◌ d (binary d x mark o w u) (λ r. of.store d p r))
        (free_seq (In 2) (suc (suc pc)) (suc (suc (suc pc))) _ t1 _ _ (number_one (suc (suc pc)) 2 t1 (pos 1) ((e.1).1).0)
        (λ u t2 b. operate (suc (suc (suc pc))) 1 0 mark o t2 w u p (omega arith) (b.1 0 (omega arith) ∙ a.1 0 (omega arith) ∙ j) (b.1 1 (omega arith) ∙ a.0) b.0 e3)))))

    take_one : (pc : ℕ) (t : Temp) (p : d.V) → t 0 ≡ p → slice_get code pc ≡ Some (i_take 0) → Does Free pc t (of.take d p) (suc pc)
    unfolding act ◌>>◌
    take_one pc t p i e = subst (λ z. Does Free pc t (of.take d z) (suc pc)) i (quiet_one pc t (i_take 0) _ e (λ st k s. refl) (falls_take d _))

    pub simply_does : (a : tree.Simple) (pc : ℕ) (t : Temp) → HasAt code pc (simply_code x.program.line a pc) → Does Free pc t (of.simply d x h a) (pc + length (simply_code x.program.line a pc))
    unfolding of.simply
    simply_does (tree.assign l a) pc t e =
        let ca = value_code a pc 0 in let pc1 = pc + length ca in let cl = locate_code l pc1 1 in let la = length-append ca (cl ++ i_store 1 0 ∷ []) in let ll = length-append cl (i_store 1 0 ∷ []) in
        let eb = has_back code pc ca (cl ++ i_store 1 0 ∷ []) e in
        moved Free pc (suc (pc1 + length cl)) _ t _ (omega (arith, la, ll))
        (free_seq (In 0) pc pc1 _ t _ _ (value_does a pc 0 t (has_front code pc ca _ e)) (λ v t1 i. free_seq (In 1) pc1 (pc1 + length cl) _ t1 _ _ (locate_does l pc1 1 t1 (has_front code pc1 cl _ eb))
        (λ p t2 j. store_one (pc1 + length cl) 1 0 t2 p v j.0 (j.1 0 (omega arith) ∙ i.0) (has_back code pc1 cl _ eb).0)))
    simply_does (tree.update mark o l a) pc t e =
        let ca = value_code a pc 0 in let pc1 = pc + length ca in let cl = locate_code l pc1 1 in let cu = update_code mark o in let la = length-append ca (cl ++ cu) in let ll = length-append cl cu in
        let eb = has_back code pc ca (cl ++ cu) e in
        moved Free pc (pc1 + length cl + length cu) _ t _ (omega (arith, la, ll))
        (free_seq (In 0) pc pc1 _ t _ _ (value_does a pc 0 t (has_front code pc ca _ e)) (λ v t1 i. free_seq (In 1) pc1 (pc1 + length cl) _ t1 _ _ (locate_does l pc1 1 t1 (has_front code pc1 cl _ eb))
        (λ p t2 j. update_does (pc1 + length cl) mark o t2 v p (j.1 0 (omega arith) ∙ i.0) j.0 (has_back code pc1 cl _ eb))))
    simply_does (tree.bump mark o l) pc t e =
        let cl = locate_code l pc 0 in let cu = bump_code mark o in let ll = length-append cl cu in
        moved Free pc (pc + length cl + length cu) _ t _ (omega (arith, ll))
        (free_seq (In 0) pc (pc + length cl) _ t _ _ (locate_does l pc 0 t (has_front code pc cl _ e)) (λ p t1 i. bump_does (pc + length cl) mark o t1 p i.0 (has_back code pc cl _ e)))
    simply_does (tree.perform f xs) pc t e =
        let ca = values_code xs (suc pc) 0 in let pc1 = suc pc + length ca in let la = length-append ca (i_call 0 f 0 (count xs) ∷ []) in
        moved Free pc (suc pc1) _ t _ (omega (arith, la))
        (after_step Free pc _ t _ e.0 (free_seq (InAll 0 (count xs)) (suc pc) pc1 (suc pc1) t _ _ (values_does xs (suc pc) 0 t (has_front code (suc pc) ca _ e.1))
        (λ vs t1 q. free_seq (In 0) pc1 (suc pc1) (suc pc1) t1 _ _ (subst (λ z. Does (In 0) pc1 t1 (h f z) (suc pc1)) q.0 (call_ok pc1 0 f (count xs) t1 (has_back code (suc pc) ca _ e.1).0)) (λ v t2 r. done_free (suc pc1) t2))))
    simply_does (tree.assert mark c) pc t e =
        let l = suc pc + length (cond_code c (suc pc) 0 0 0) in let cc = cond_code c (suc pc) 0 (suc l) l in let last = i_stop Assert (x.program.line mark) ∷ [] in
        let la = length-append cc last in let lc = cond_length c (suc pc) 0 (suc l) l 0 0 in let el = cond_back c (suc pc) 0 (suc l) l last e.1 in
        moved Free pc (suc l) _ t _ (omega (arith, la, lc))
        (after_step Free pc _ t _ e.0 (lead_free 0 (suc pc) (suc l) l (suc l) t _ _ (cond_does c (suc pc) 0 (suc l) l t (has_front code (suc pc) cc last e.1))
        (choose_free (suc l) l (suc l) _ _ (λ t1. done_free (suc l) t1) (λ t1. stop_does Free l (suc l) t1 Assert (x.program.line mark) el.0))))
    simply_does (tree.assume c) pc t e =
        let l = suc pc + length (cond_code c (suc pc) 0 0 0) in let cc = cond_code c (suc pc) 0 (suc (suc l)) l in let last = i_number 0 (pos 0) ∷ i_unless 0 ∷ [] in
        let la = length-append cc last in let lc = cond_length c (suc pc) 0 (suc (suc l)) l 0 0 in let el = cond_back c (suc pc) 0 (suc (suc l)) l last e.1 in
        moved Free pc (suc (suc l)) _ t _ (omega (arith, la, lc))
        (after_step Free pc _ t _ e.0 (lead_free 0 (suc pc) (suc (suc l)) l (suc (suc l)) t _ _ (cond_does c (suc pc) 0 (suc (suc l)) l t (has_front code (suc pc) cc last e.1))
        (choose_free (suc (suc l)) l (suc (suc l)) _ _ (λ t1. done_free (suc (suc l)) t1) (λ t1. unless_does Free l (suc (suc l)) t1 el))))
    simply_does (tree.abort mark) pc t e = after_step Free pc _ t _ e.0 (stop_does Free (suc pc) _ t Abort (x.program.line mark) (e.1).0)
    simply_does (tree.take l) pc t e = let cl = locate_code l (suc pc) 0 in let la = length-append cl (i_take 0 ∷ []) in
        moved Free pc (suc (suc pc + length cl)) _ t _ (omega (arith, la))
        (after_step Free pc _ t _ e.0 (free_seq (In 0) (suc pc) (suc pc + length cl) _ t _ _ (locate_does l (suc pc) 0 t (has_front code (suc pc) cl _ e.1)) (λ p t1 i. take_one (suc pc + length cl) t1 p i.0 (has_back code (suc pc) cl _ e.1).0)))

    -- ---- declarations and the parts of loops

    -- after a declared variable's cells its pointer is that of its slot
    slot_bound : (pc n slot : ℕ) (p : d.V) (t : Temp) (st : Stack) (k : Conf → Done d) → slice_get code pc ≡ Some (i_slot n slot) → (j : ℕ) (s : St)
        → ◌>>=◌ d (of.bind d slot p) (λ u. run (suc j) (stands pc t st)) s ≡ ◌>>=◌ d (of.bind d slot p) (λ u. run j (stands (suc pc) (put d t n p) st)) s
    unfolding ◌>>=◌ of.bind go_on act of.local prepend
    slot_bound pc n slot p t st k e j s =
        ap (prepend d []) (step_run pc t st (i_slot n slot) e j _ ∙ ap (λ b. prepend d [] (run j (stands (suc pc) (put d t n (if b then p else s.locals slot)) st) (record s { locals = λ m. if nat_eq m slot then p else s.locals m }))) (eq-eqb slot slot refl) ∙ refl)

    -- the slot, and then the start
    started : (slot : ℕ) (p : d.V) (a : Option Val) (pc : ℕ) (t : Temp) → HasAt code pc (start_code x.program.line slot a pc) → (st : Stack) (k : Unit {0} → Done d) (s : St) → s.steps < B → Goes (Free {A = Unit {0}}) t (pc + length (start_code x.program.line slot a pc)) st k s.steps
        → (j : ℕ) × (◌>>=◌ d (of.bind d slot p) (λ u. run j (stands pc t st)) s ≡ ◌>>=◌ d (◌>>◌ d (of.bind d slot p) (of.start d x h p a)) k s)
    unfolding of.start ◌>>◌
    started slot p None pc t e st k s lt g =
        let r = bind_at (of.bind d slot p) (λ j u. run j (stands pc t st)) (λ u. ◌>>=◌ d (pure d tt) k) s (falls_bound d slot p)
        (λ u s1 le. let q = subst (λ z. (j : ℕ) × (run j (stands z t st) s1 ≡ k tt s1)) (let o : pc + 0 ≡ pc = omega arith in o) (g tt t tt s1 le) in (q.0, q.1 ∙ sym (pure_bind tt k s1))) in
        (r.0, r.1 ∙ sym (bind_assoc (of.bind d slot p) (λ u. pure d tt) k s))
    started slot p (Some a) pc t e st k s lt g =
        let ca = value_code a (suc pc) 1 in let la = length-append ca (i_store 0 1 ∷ []) in
        let t1 = put d t 0 p in
        let body : Does Free (suc pc) t1 (◌>>=◌ d (of.value d x h a) (λ v. of.store d p v)) (suc (suc pc + length ca)) =
        free_seq (In 1) (suc pc) (suc pc + length ca) _ t1 _ _ (value_does a (suc pc) 1 t1 (has_front code (suc pc) ca _ e.1))
        (λ v t2 i. store_one (suc pc + length ca) 0 1 t2 p v (i.1 0 (omega arith) ∙ (put_in t 0 p).0) i.0 (has_back code (suc pc) ca _ e.1).0) in
        let r = bind_at (of.bind d slot p) (λ j u. run j (stands (suc pc) t1 st)) (λ u. ◌>>=◌ d (◌>>=◌ d (of.value d x h a) (λ v. of.store d p v)) k) s (falls_bound d slot p)
        (λ u s1 le. body st k s1 (fewer _ _ le lt) (λ b t' q s2 le2. subst (λ z. (j : ℕ) × (run j (stands z t' st) s2 ≡ k b s2)) (let o : pc + length (i_slot 0 slot ∷ (ca ++ i_store 0 1 ∷ [])) ≡ suc (suc pc + length ca) = omega (arith, la) in o) (g b t' tt s2 (le_trans le2 le)))) in
        (suc r.0, slot_bound pc 0 slot p t st (λ c. stop d Steps) e.0 r.0 s ∙ r.1 ∙ sym (bind_assoc (of.bind d slot p) (λ u. ◌>>=◌ d (of.value d x h a) (λ v. of.store d p v)) k s))

    cells_do : (v : tree.Declarator) (pc : ℕ) (t : Temp) → HasAt code pc (i_local v.slot v.type ∷ start_code x.program.line v.slot v.start (suc pc)) → Does Free pc t (◌>>◌ d (steps d (length (v.type).cells)) (◌>>=◌ d (of.make d v.type) (λ p. ◌>>◌ d (of.bind d v.slot p) (of.start d x h p v.start)))) (suc pc + length (start_code x.program.line v.slot v.start (suc pc)))
    unfolding act ◌>>◌
    cells_do v pc t e st k s lt g =
        let after_bind : d.V → M d (Unit {0}) = λ p. ◌>>=◌ d (of.bind d v.slot p) (λ u. of.start d x h p v.start) in
        let r = bind_at (steps d (length (v.type).cells)) (λ j u. ◌>>=◌ d (of.make d v.type) (λ p. ◌>>=◌ d (of.bind d v.slot p) (λ u. run j (stands (suc pc) t st)))) (λ u. ◌>>=◌ d (◌>>=◌ d (of.make d v.type) after_bind) k) s (falls_steps d _)
        (λ u s1 le1. let q = bind_at (of.make d v.type) (λ j p. ◌>>=◌ d (of.bind d v.slot p) (λ u. run j (stands (suc pc) t st))) (λ p. ◌>>=◌ d (after_bind p) k) s1 (falls_make d v.type)
        (λ p s2 le2. started v.slot p v.start (suc pc) t e.1 st k s2 (fewer _ _ (le_trans le2 le1) lt) (λ a t' z s3 le3. g a t' tt s3 (le_trans le3 (le_trans le2 le1)))) in
        (q.0, q.1 ∙ sym (bind_assoc (of.make d v.type) after_bind k s1))) in
        (suc r.0, step_run pc t st (i_local v.slot v.type) e.0 r.0 s ∙ r.1 ∙ sym (bind_assoc (steps d (length (v.type).cells)) (λ u. ◌>>=◌ d (of.make d v.type) after_bind) k s))

    -- a declarator: its cells, its slot, and its start
    declare_does : (v : tree.Declarator) (pc : ℕ) (t : Temp) → HasAt code pc (declare_code x.program.line v pc) → Does Free pc t (of.declare d x h v) (pc + length (declare_code x.program.line v pc))
    unfolding of.declare
    declare_does v pc t e = moved Free pc (suc (suc pc) + length (start_code x.program.line v.slot v.start (suc (suc pc)))) _ t _ (omega arith)
        (after_step Free pc _ t _ e.0 (cells_do v (suc pc) t e.1))

    then_free : {B' : Type 0} → (pc pc1 pc2 : ℕ) (t : Temp) (m : M d (Unit {0})) (f : M d B') → Does Free pc t m pc1 → ((t1 : Temp) → Does Free pc1 t1 f pc2) → Does Free pc t (◌>>◌ d m f) pc2
    unfolding ◌>>◌
    then_free pc pc1 pc2 t m f i c = free_seq Free pc pc1 pc2 t m (λ _. f) i (λ a t1 p. c t1)

    declare_all_does : (vs : List tree.Declarator) (pc : ℕ) (t : Temp) → HasAt code pc (declare_all_code x.program.line vs pc) → Does Free pc t (of.declare_all d x h vs) (pc + length (declare_all_code x.program.line vs pc))
    unfolding of.declare_all
    declare_all_does [] pc t e = moved Free pc pc _ t _ (omega arith) (done_free pc t)
    declare_all_does (v ∷ vs) pc t e =
        let cv = declare_code x.program.line v pc in let cs = declare_all_code x.program.line vs (pc + length cv) in let la = length-append cv cs in
        moved Free pc (pc + length cv + length cs) _ t _ (omega (arith, la))
        (then_free pc (pc + length cv) _ t _ _ (declare_does v pc t (has_front code pc cv _ e)) (λ t1. declare_all_does vs (pc + length cv) t1 (has_back code pc cv _ e)))

    simply_if_does : (a : Option tree.Simple) (pc : ℕ) (t : Temp) → HasAt code pc (simply_if_code x.program.line a pc) → Does Free pc t (of.simply_if d x h a) (pc + length (simply_if_code x.program.line a pc))
    unfolding of.simply_if
    simply_if_does None pc t e = moved Free pc pc _ t _ (omega arith) (done_free pc t)
    simply_if_does (Some a) pc t e = moved Free pc (suc pc + length (simply_code x.program.line a (suc pc))) _ t _ (omega arith) (after_step Free pc _ t _ e.0 (simply_does a (suc pc) t e.1))

    cond_if_does : (a : Option Cond) (pc y z : ℕ) (t : Temp) → HasAt code pc (cond_if_code x.program.line a pc y z) → Leads 0 pc t (of.truth_if d x h a) y z
    unfolding of.truth_if act
    cond_if_does None pc y z t e = λ st k s lt g.
        let r = g true t (λ m le. refl) s (le_refl _) in
        (suc r.0, step_run pc t st (i_jump y) e.0 r.0 s ∙ r.1 ∙ sym (pure_bind true k s))
    cond_if_does (Some c) pc y z t e = cond_does c pc 0 y z t e

    cond_if_length : (a : Option Cond) (pc y z y' z' : ℕ) → length (cond_if_code x.program.line a pc y z) ≡ length (cond_if_code x.program.line a pc y' z')
    cond_if_length None pc y z y' z' = refl
    cond_if_length (Some c) pc y z y' z' = cond_length c pc 0 y z y' z'

    -- ---- statements by the way they are left

    module _ (res : Cell) (fuel_ok : B ≤ x.fuel) where
      -- from where each flow leads, with no more steps than b, the machine does what k does
      pub record FlowTo (pc brk cont : ℕ) (st : Stack) (k : Flow d.V → Done d) (b : ℕ) : Type 0 where
        pub to_on : (t : Temp) (s : St) → s.steps ≤ b → (j : ℕ) × (run j (stands pc t st) s ≡ k on s)
        pub to_brk : (t : Temp) (s : St) → s.steps ≤ b → (j : ℕ) × (run j (stands brk t st) s ≡ k broken s)
        pub to_cont : (t : Temp) (s : St) → s.steps ≤ b → (j : ℕ) × (run j (stands cont t st) s ≡ k continued s)
        pub to_ret : (v : Option d.V) (s : St) → s.steps ≤ b → (j : ℕ) × (leave d (run j) (of.answer d x res (returned v)) st s ≡ k (returned v) s)

      fewer_flow : (pc brk cont : ℕ) (st : Stack) (k : Flow d.V → Done d) (a b : ℕ) → a ≤ b → FlowTo pc brk cont st k b → FlowTo pc brk cont st k a
      fewer_flow pc brk cont st k a b le g = record {
        to_on = λ t s i. g.to_on t s (le_trans i le);
        to_brk = λ t s i. g.to_brk t s (le_trans i le);
        to_cont = λ t s i. g.to_cont t s (le_trans i le);
        to_ret = λ v s i. g.to_ret v s (le_trans i le);
      }

      abbrev pub Flows : ℕ → Temp → M d (Flow d.V) → ℕ → ℕ → ℕ → Type 0
      Flows pc t m pc' brk cont = (st : Stack) (k : Flow d.V → Done d) (s : St) → s.steps < B → FlowTo pc' brk cont st k s.steps → (j : ℕ) × (run j (stands pc t st) s ≡ ◌>>=◌ d m k s)

      -- one that takes a step
      abbrev pub FlowsLess : ℕ → Temp → M d (Flow d.V) → ℕ → ℕ → ℕ → Type 0
      FlowsLess pc t m pc' brk cont = (st : Stack) (k : Flow d.V → Done d) (s : St) → s.steps < B → ((b : ℕ) → b < s.steps → FlowTo pc' brk cont st k b) → (j : ℕ) × (run j (stands pc t st) s ≡ ◌>>=◌ d m k s)

      flow_less : (pc : ℕ) (t : Temp) (m : M d (Flow d.V)) (pc' brk cont : ℕ) → FlowsLess pc t m pc' brk cont → Flows pc t m pc' brk cont
      flow_less pc t m pc' brk cont i st k s lt g = i st k s lt (λ b le. fewer_flow pc' brk cont st k b s.steps (omega (arith, le)) g)

      after_step_flow : (pc : ℕ) (t : Temp) (m : M d (Flow d.V)) (pc' brk cont : ℕ) → slice_get code pc ≡ Some i_step → Flows (suc pc) t m pc' brk cont → FlowsLess pc t (◌>>◌ d (step d) m) pc' brk cont
      unfolding ◌>>◌ act
      after_step_flow pc t m pc' brk cont e i st k s lt g =
          let r = step_then (λ j u. run j (stands (suc pc) t st)) (λ u. ◌>>=◌ d m k) s (λ s' le. i st k s' (omega (arith, le, lt)) (g s'.steps le)) in
          (suc r.0, step_run pc t st i_step e r.0 s ∙ r.1 ∙ sym (bind_assoc (step d) (λ u. m) k s))

      does_flow : {A : Type 0} → (P : Temp → A → Temp → Type 0) (pc pc1 pc2 brk cont : ℕ) (t : Temp) (m : M d A) (f : A → M d (Flow d.V)) → Does P pc t m pc1 → ((a : A) (t1 : Temp) → P t a t1 → Flows pc1 t1 (f a) pc2 brk cont) → Flows pc t (◌>>=◌ d m f) pc2 brk cont
      does_flow P pc pc1 pc2 brk cont t m f i c st k s lt g =
          let r = i st (λ a. ◌>>=◌ d (f a) k) s lt (λ a t1 p s' le. c a t1 p st k s' (fewer _ _ le lt) (fewer_flow pc2 brk cont st k _ _ le g)) in
          (r.0, r.1 ∙ sym (bind_assoc m f k s))

      then_flow : (pc pc1 pc2 brk cont : ℕ) (t : Temp) (m : M d (Unit {0})) (f : M d (Flow d.V)) → Does Free pc t m pc1 → ((t1 : Temp) → Flows pc1 t1 f pc2 brk cont) → Flows pc t (◌>>◌ d m f) pc2 brk cont
      unfolding ◌>>◌
      then_flow pc pc1 pc2 brk cont t m f i c = does_flow Free pc pc1 pc2 brk cont t m (λ _. f) i (λ a t1 p. c t1)

      flow_on : (pc brk cont : ℕ) (t : Temp) → Flows pc t (pure d on) pc brk cont
      flow_on pc brk cont t st k s lt g = let r = g.to_on t s (le_refl _) in (r.0, r.1 ∙ sym (pure_bind on k s))

      lead_flow : (pc y z pc2 brk cont : ℕ) (t : Temp) (m : M d Bool) (f : Bool → M d (Flow d.V)) → Leads 0 pc t m y z → ((b : Bool) (t1 : Temp) → Flows (side y z b) t1 (f b) pc2 brk cont) → Flows pc t (◌>>=◌ d m f) pc2 brk cont
      lead_flow pc y z pc2 brk cont t m f i c st k s lt g =
          let r = i st (λ b. ◌>>=◌ d (f b) k) s lt (λ b t1 q s' le. c b t1 st k s' (fewer _ _ le lt) (fewer_flow pc2 brk cont st k _ _ le g)) in
          (r.0, r.1 ∙ sym (bind_assoc m f k s))

      choose_flow : (y z pc2 brk cont : ℕ) (m m' : M d (Flow d.V)) → ((t : Temp) → Flows y t m pc2 brk cont) → ((t : Temp) → Flows z t m' pc2 brk cont) → (b : Bool) (t : Temp) → Flows (side y z b) t (choose d b m m') pc2 brk cont
      unfolding choose
      choose_flow y z pc2 brk cont m m' i j true t = i t
      choose_flow y z pc2 brk cont m m' i j false t = j t

      jump_less : (pc to pc' brk cont : ℕ) (t : Temp) (m : M d (Flow d.V)) → slice_get code pc ≡ Some (i_jump to) → FlowsLess to t m pc' brk cont → FlowsLess pc t m pc' brk cont
      unfolding act
      jump_less pc to pc' brk cont t m e i st k s lt g = let r = i st k s lt g in (suc r.0, step_run pc t st (i_jump to) e r.0 s ∙ r.1)

      -- the flow ends at another place: a jump leads from there
      on_jump : (pc to brk cont : ℕ) (t : Temp) (m : M d (Flow d.V)) (from : ℕ) → slice_get code pc ≡ Some (i_jump to) → Flows from t m pc brk cont → Flows from t m to brk cont
      unfolding act
      on_jump pc to brk cont t m from e i st k s lt g = i st k s lt (record {
        to_on = λ t' s' le. let r = g.to_on t' s' le in (suc r.0, step_run pc t' st (i_jump to) e r.0 s' ∙ r.1);
        to_brk = g.to_brk;
        to_cont = g.to_cont;
        to_ret = g.to_ret;
      })

      jump_broken : (pc pc' brk cont : ℕ) (t : Temp) → slice_get code pc ≡ Some (i_jump brk) → Flows pc t (pure d broken) pc' brk cont
      unfolding act
      jump_broken pc pc' brk cont t e st k s lt g = let r = g.to_brk t s (le_refl _) in (suc r.0, step_run pc t st (i_jump brk) e r.0 s ∙ r.1 ∙ sym (pure_bind broken k s))

      jump_continued : (pc pc' brk cont : ℕ) (t : Temp) → slice_get code pc ≡ Some (i_jump cont) → Flows pc t (pure d continued) pc' brk cont
      unfolding act
      jump_continued pc pc' brk cont t e st k s lt g = let r = g.to_cont t s (le_refl _) in (suc r.0, step_run pc t st (i_jump cont) e r.0 s ∙ r.1 ∙ sym (pure_bind continued k s))

      choose_at : {A : Type 0} → (y z : ℕ) (t : Temp) (st : Stack) (b : Bool) (m m' : M d A) (k : A → Done d) (s : St) → (b ≡ true → (j : ℕ) × (run j (stands y t st) s ≡ ◌>>=◌ d m k s)) → (b ≡ false → (j : ℕ) × (run j (stands z t st) s ≡ ◌>>=◌ d m' k s))
          → (j : ℕ) × (run j (stands (side y z b) t st) s ≡ ◌>>=◌ d (choose d b m m') k s)
      unfolding choose
      choose_at y z t st true m m' k s i j = i refl
      choose_at y z t st false m m' k s i j = j refl

      -- one turn, where what comes after it is done
      turn_does : (pt py pn pe brk cont : ℕ) (body : M d (Flow d.V)) (next : M d (Unit {0})) (rest : M d (Flow d.V)) → ((t : Temp) → FlowsLess py t body pn pe pn) → ((t : Temp) → Does Free pn t next pt) → (t : Temp) (st : Stack) (k : Flow d.V → Done d) (s : St) → s.steps < B → FlowTo pe brk cont st k s.steps
          → ((t : Temp) (s' : St) → s'.steps < s.steps → (j : ℕ) × (run j (stands pt t st) s' ≡ ◌>>=◌ d rest k s'))
          → (j : ℕ) × (run j (stands py t st) s ≡ ◌>>=◌ d (◌>>=◌ d body (of.after_turn d x h (◌>>◌ d next rest))) k s)
      unfolding of.after_turn ◌>>◌
      turn_does pt py pn pe brk cont body next rest jb nx t st k s lt g again =
          let after : Flow d.V → Done d = λ f. ◌>>=◌ d (of.after_turn d x h (◌>>◌ d next rest) f) k in
          let go : (t' : Temp) (s' : St) → s'.steps < s.steps → (j : ℕ) × (run j (stands pn t' st) s' ≡ ◌>>=◌ d (◌>>=◌ d next (λ u. rest)) k s') = λ t' s' le.
          (let q = nx t' st (λ u. ◌>>=◌ d rest k) s' (omega (arith, le, lt)) (λ u t'' z s'' le'. again t'' s'' (omega (arith, le, le'))) in (q.0, q.1 ∙ sym (bind_assoc next (λ u. rest) k s'))) in
          let r = jb t st after s lt (λ b le. record {
            to_on = λ t' s' i. go t' s' (omega (arith, i, le));
            to_brk = λ t' s' i. (let q = g.to_on t' s' (omega (arith, i, le)) in (q.0, q.1 ∙ sym (pure_bind on k s')));
            to_cont = λ t' s' i. go t' s' (omega (arith, i, le));
            to_ret = λ v s' i. (let q = g.to_ret v s' (omega (arith, i, le)) in (q.0, q.1 ∙ sym (pure_bind (returned v) k s')));
          }) in
          (r.0, r.1 ∙ sym (bind_assoc body (of.after_turn d x h (◌>>◌ d next rest)) k s))

      -- loops: the test at pt, which leads to the body at py or to the end at pe; what comes after each turn is at pn
      turns_do : (n pt py pn pe brk cont : ℕ) (test : M d Bool) (body : M d (Flow d.V)) (next : M d (Unit {0})) → ((t : Temp) → Leads 0 pt t test py pe)
          → ((t : Temp) → FlowsLess py t body pn pe pn) → ((t : Temp) → Does Free pn t next pt) → (t : Temp) (st : Stack) (k : Flow d.V → Done d) (s : St) → s.steps < n → s.steps < B → FlowTo pe brk cont st k s.steps
          → (j : ℕ) × (run j (stands pt t st) s ≡ ◌>>=◌ d (of.turns d x h n test body next) k s)
      unfolding of.turns
      turns_do zero pt py pn pe brk cont test body next i jb nx t st k s ln lt g = absurd (omega (arith, ln))
      turns_do (suc n) pt py pn pe brk cont test body next i jb nx t st k s ln lt g =
          let turn : M d (Flow d.V) = ◌>>=◌ d body (of.after_turn d x h (◌>>◌ d next (of.turns d x h n test body next))) in
          let r = i t st (λ b. ◌>>=◌ d (choose d b turn (pure d on)) k) s lt (λ b t1 q s1 le1.
          choose_at py pe t1 st b turn (pure d on) k s1
          (λ z. turn_does pt py pn pe brk cont body next (of.turns d x h n test body next) jb nx t1 st k s1 (fewer _ _ le1 lt) (fewer_flow pe brk cont st k _ _ le1 g)
          (λ t' s' le2. turns_do n pt py pn pe brk cont test body next i jb nx t' st k s' (omega (arith, le2, le1, ln)) (omega (arith, le2, le1, lt)) (fewer_flow pe brk cont st k _ _ (omega (arith, le2, le1)) g)))
          (λ z. flow_on pe brk cont t1 st k s1 (fewer _ _ le1 lt) (fewer_flow pe brk cont st k _ _ le1 g))) in
          (r.0, r.1 ∙ sym (bind_assoc test (λ b. choose d b turn (pure d on)) k s))

      -- a body and what comes after it, where that is done from pn
      turn_of : (pc pn pe brk cont : ℕ) (body after : M d (Flow d.V)) (t : Temp) → FlowsLess pc t body pn pe pn → (st : Stack) (k : Flow d.V → Done d) (s : St) → s.steps < B → FlowTo pe brk cont st k s.steps
          → ((t : Temp) (s' : St) → s'.steps < s.steps → (j : ℕ) × (run j (stands pn t st) s' ≡ ◌>>=◌ d after k s'))
          → (j : ℕ) × (run j (stands pc t st) s ≡ ◌>>=◌ d (◌>>=◌ d body (of.after_turn d x h after)) k s)
      unfolding of.after_turn
      turn_of pc pn pe brk cont body after t jb st k s lt g go =
          let r = jb st (λ f. ◌>>=◌ d (of.after_turn d x h after f) k) s lt (λ b le. record {
            to_on = λ t' s' i. go t' s' (omega (arith, i, le));
            to_brk = λ t' s' i. (let q = g.to_on t' s' (omega (arith, i, le)) in (q.0, q.1 ∙ sym (pure_bind on k s')));
            to_cont = λ t' s' i. go t' s' (omega (arith, i, le));
            to_ret = λ v s' i. (let q = g.to_ret v s' (omega (arith, i, le)) in (q.0, q.1 ∙ sym (pure_bind (returned v) k s')));
          }) in
          (r.0, r.1 ∙ sym (bind_assoc body (of.after_turn d x h after) k s))

      -- a statement and the parts behind it
      part_of : (pc pn pe brk cont : ℕ) (first rest : M d (Flow d.V)) (t : Temp) → FlowsLess pc t first pn brk cont → ((t : Temp) → Flows pn t rest pe brk cont) → Flows pc t (◌>>=◌ d first (of.after_part d x h rest)) pe brk cont
      unfolding of.after_part
      part_of pc pn pe brk cont first rest t i c st k s lt g =
          let r = i st (λ f. ◌>>=◌ d (of.after_part d x h rest f) k) s lt (λ b le. record {
            to_on = λ t' s' i. c t' st k s' (omega (arith, i, le, lt)) (fewer_flow pe brk cont st k _ _ (omega (arith, i, le)) g);
            to_brk = λ t' s' i. (let q = g.to_brk t' s' (omega (arith, i, le)) in (q.0, q.1 ∙ sym (pure_bind broken k s')));
            to_cont = λ t' s' i. (let q = g.to_cont t' s' (omega (arith, i, le)) in (q.0, q.1 ∙ sym (pure_bind continued k s')));
            to_ret = λ v s' i. (let q = g.to_ret v s' (omega (arith, i, le)) in (q.0, q.1 ∙ sym (pure_bind (returned v) k s')));
          }) in
          (r.0, r.1 ∙ sym (bind_assoc first (of.after_part d x h rest) k s))

      -- ---- returns

      ret_one : (pc pc' brk cont : ℕ) (t : Temp) (r : Option d.V) → t 0 ≡ of.answer d x res (returned r) → slice_get code pc ≡ Some (i_return 0) → Flows pc t (pure d (returned r)) pc' brk cont
      unfolding act
      ret_one pc pc' brk cont t v i e st k s lt g =
          let r = g.to_ret v s (le_refl _) in
          (suc r.0, step_run pc t st (i_return 0) e r.0 s ∙ ap (λ z. leave d (run r.0) z st s) i ∙ r.1 ∙ sym (pure_bind (returned v) k s))

      zero_by : (pc pc' brk cont : ℕ) (t : Temp) (i : Instruction) (z : d.V) → slice_get code pc ≡ Some i → ((st : Stack) (k : Conf → Done d) (s : St) → act d x is_zero first_of i k (stands pc t st) s ≡ k (stands (suc pc) (put d t 0 z) st) s)
          → z ≡ of.answer d x res (returned None) → slice_get code (suc pc) ≡ Some (i_return 0) → Flows pc t (pure d (returned None)) pc' brk cont
      zero_by pc pc' brk cont t i z e f q r st k s lt g =
          let w = ret_one (suc pc) pc' brk cont (put d t 0 z) None ((put_in t 0 z).0 ∙ q) r st k s lt g in
          (suc w.0, step_run pc t st i e w.0 s ∙ f st (run w.0) s ∙ w.1)

      -- 0 or NULL, and back
      zero_ret_of : (c : Cell) → of.zero_of d x c ≡ of.answer d x res (returned None) → (pc pc' brk cont : ℕ) (t : Temp) → HasAt code pc (zero_code c 0 ++ i_return 0 ∷ []) → Flows pc t (pure d (returned None)) pc' brk cont
      unfolding of.zero_of act
      zero_ret_of int_cell q pc pc' brk cont t e = zero_by pc pc' brk cont t (i_number 0 (pos 0)) (d.number (pos 0)) e.0 (λ st k s. refl) q (e.1).0
      zero_ret_of (ptr_cell c) q pc pc' brk cont t e = zero_by pc pc' brk cont t (i_nil 0) d.nil e.0 (λ st k s. refl) q (e.1).0

      zero_ret : (pc pc' brk cont : ℕ) (t : Temp) → HasAt code pc (zero_code res 0 ++ i_return 0 ∷ []) → Flows pc t (pure d (returned None)) pc' brk cont
      unfolding of.answer
      zero_ret pc pc' brk cont t e = zero_ret_of res refl pc pc' brk cont t e

      return_does : (a : Option Val) (pc pc' brk cont : ℕ) (t : Temp) → HasAt code pc (return_code x.program.line res a pc) → Flows pc t (of.returns d x h a) pc' brk cont
      unfolding of.returns of.answer
      return_does None pc pc' brk cont t e = zero_ret pc pc' brk cont t e
      return_does (Some a) pc pc' brk cont t e =
          let ca = value_code a pc 0 in
          does_flow (In 0) pc (pc + length ca) pc' brk cont t _ _ (value_does a pc 0 t (has_front code pc ca _ e))
          (λ v t1 q. ret_one (pc + length ca) pc' brk cont t1 (Some v) q.0 (has_back code pc ca _ e).0)

      -- ---- the length of a statement's code does not hang on where its jumps go

      abbrev pub stmt : tree.Stmt → ℕ → ℕ → ℕ → List Instruction
      stmt a pc b c = exec_code x.program.line res a pc b c

      abbrev pub parts : tree.Parts → ℕ → ℕ → ℕ → List Instruction
      parts a pc b c = parts_code x.program.line res a pc b c

      mutual
        pub stmt_length : (a : tree.Stmt) (pc b c b' c' : ℕ) → length (stmt a pc b c) ≡ length (stmt a pc b' c')
        stmt_length tree.empty pc b c b' c' = refl
        stmt_length (tree.block ps) pc b c b' c' = ap suc (parts_length ps (suc pc) b c b' c')
        stmt_length (tree.choice v a) pc b c b' c' =
            let l = suc pc + length (cond_code v (suc pc) 0 0 0) in let i = stmt_length a l b c b' c' in
            let z = l + length (stmt a l b c) in let z' = l + length (stmt a l b' c') in let lv = cond_length v (suc pc) 0 l z l z' in
            let la = length-append (cond_code v (suc pc) 0 l z) (stmt a l b c) in let lb = length-append (cond_code v (suc pc) 0 l z') (stmt a l b' c') in
            omega (arith, i, la, lb, lv)
        stmt_length (tree.choice_else v a e) pc b c b' c' =
            let l = suc pc + length (cond_code v (suc pc) 0 0 0) in let i = stmt_length a l b c b' c' in
            let m = l + length (stmt a l b c) in let m' = l + length (stmt a l b' c') in
            let im : m ≡ m' = omega (arith, i) in
            let j = ap (λ z. length (stmt e (suc z) b c)) im ∙ stmt_length e (suc m') b c b' c' in
            let ra = stmt a l b c in let ra' = stmt a l b' c' in
            let re = i_jump (suc m + length (stmt e (suc m) b c)) ∷ stmt e (suc m) b c in let re' = i_jump (suc m' + length (stmt e (suc m') b' c')) ∷ stmt e (suc m') b' c' in
            let cv = cond_code v (suc pc) 0 l (suc m) in let cv' = cond_code v (suc pc) 0 l (suc m') in let lv = cond_length v (suc pc) 0 l (suc m) l (suc m') in
            let la = length-append cv (ra ++ re) in let lb = length-append cv' (ra' ++ re') in
            let lc = length-append ra re in let ld = length-append ra' re' in
            omega (arith, i, j, la, lb, lc, ld, lv)
        stmt_length (tree.loop v body) pc b c b' c' = refl
        stmt_length (tree.repeat body v) pc b c b' c' = refl
        stmt_length (tree.loop_for first ds v next body) pc b c b' c' = refl
        stmt_length (tree.return a) pc b c b' c' = refl
        stmt_length tree.break pc b c b' c' = refl
        stmt_length tree.continue pc b c b' c' = refl
        stmt_length (tree.simple a) pc b c b' c' = refl

        pub parts_length : (a : tree.Parts) (pc b c b' c' : ℕ) → length (parts a pc b c) ≡ length (parts a pc b' c')
        parts_length tree.finish pc b c b' c' = refl
        parts_length (tree.declare v rest) pc b c b' c' =
            let cv = declare_code x.program.line v pc in let i = parts_length rest (pc + length cv) b c b' c' in
            let la = length-append cv (parts rest (pc + length cv) b c) in let lb = length-append cv (parts rest (pc + length cv) b' c') in
            omega (arith, i, la, lb)
        parts_length (tree.then a rest) pc b c b' c' =
            let i = stmt_length a pc b c b' c' in let ra = stmt a pc b c in let ra' = stmt a pc b' c' in
            let im : pc + length ra ≡ pc + length ra' = omega (arith, i) in
            let j = ap (λ z. length (parts rest z b c)) im ∙ parts_length rest (pc + length ra') b c b' c' in
            let la = length-append ra (parts rest (pc + length ra) b c) in let lb = length-append ra' (parts rest (pc + length ra') b' c') in
            omega (arith, i, j, la, lb)

      moved_less : (pc a b brk cont : ℕ) (t : Temp) (m : M d (Flow d.V)) → a ≡ b → FlowsLess pc t m a brk cont → FlowsLess pc t m b brk cont
      moved_less pc a b brk cont t m e i = subst (λ z. FlowsLess pc t m z brk cont) e i

      moved_flow : (pc a b brk cont : ℕ) (t : Temp) (m : M d (Flow d.V)) → a ≡ b → Flows pc t m a brk cont → Flows pc t m b brk cont
      moved_flow pc a b brk cont t m e i = subst (λ z. Flows pc t m z brk cont) e i

      -- what stands before a jump
      next_does : (pc q to : ℕ) (t : Temp) (m : M d (Unit {0})) → Does (Free {A = Unit {0}}) pc t m q → slice_get code q ≡ Some (i_jump to) → Does (Free {A = Unit {0}}) pc t m to
      unfolding act
      next_does pc q to t m i e st k s lt g = i st k s lt (λ a t' z s' le. let r = g a t' tt s' le in (suc r.0, step_run q t' st (i_jump to) e r.0 s' ∙ r.1))

      -- `for`, where its body's code does what the body does
      for_does : (first : Option tree.Simple) (ds : List tree.Declarator) (v : Option Cond) (next : Option tree.Simple) (body : tree.Stmt) (pc brk cont : ℕ) (t : Temp) → HasAt code pc (stmt (tree.loop_for first ds v next body) pc brk cont)
          → ((p u w : ℕ) (t : Temp) → HasAt code p (stmt body p u w) → FlowsLess p t (of.exec d x h body) (p + length (stmt body p u w)) u w)
          → FlowsLess pc t (◌>>◌ d (step d) (◌>>◌ d (of.simply_if d x h first) (◌>>◌ d (of.declare_all d x h ds) (of.turns d x h x.fuel (of.truth_if d x h v) (of.exec d x h body) (of.simply_if d x h next))))) (pc + length (stmt (tree.loop_for first ds v next body) pc brk cont)) brk cont
      for_does first ds v next body pc brk cont t e bd =
          let line = x.program.line in
          let cf = simply_if_code line first (suc pc) in let p0 = suc pc + length cf in let cd = declare_all_code line ds p0 in let p1 = p0 + length cd in
          let l = p1 + length (cond_if_code line v p1 0 0) in let m = l + length (stmt body l 0 0) in let cn = simply_if_code line next m in let q = m + length cn in
          let cv = cond_if_code line v p1 l (suc q) in let cb = stmt body l (suc q) m in let jmp = i_jump p1 ∷ [] in
          let r3 = cn ++ jmp in let r2 = cb ++ r3 in let r1 = cv ++ r2 in let r0 = cd ++ r1 in
          let l0 = length-append cf r0 in let l1 = length-append cd r1 in let l2 = length-append cv r2 in let l3 = length-append cb r3 in let l4 = length-append cn jmp in
          let lc = stmt_length body l (suc q) m 0 0 in let lv = cond_if_length v p1 l (suc q) 0 0 in
          let e0 = has_back code (suc pc) cf r0 e.1 in let e1 = has_back code p0 cd r1 e0 in
          let e2 = subst (λ z. HasAt code z r2) (let o : p1 + length cv ≡ l = ap (λ z. p1 + z) lv in o) (has_back code p1 cv r2 e1) in
          let e3 = subst (λ z. HasAt code z r3) (let o : l + length cb ≡ m = ap (λ z. l + z) lc in o) (has_back code l cb r3 e2) in
          let e4 = has_back code m cn jmp e3 in
          moved_less pc (suc q) _ brk cont t _ (omega (arith, l0, l1, l2, l3, l4, lc, lv)) (after_step_flow pc t _ (suc q) brk cont e.0
          (then_flow (suc pc) p0 (suc q) brk cont t _ _ (simply_if_does first (suc pc) t (has_front code (suc pc) cf _ e.1)) (λ t1.
          then_flow p0 p1 (suc q) brk cont t1 _ _ (declare_all_does ds p0 t1 (has_front code p0 cd _ e0)) (λ t2 st k s lt g.
          turns_do x.fuel p1 l m (suc q) brk cont (of.truth_if d x h v) (of.exec d x h body) (of.simply_if d x h next) (λ t3. cond_if_does v p1 l (suc q) t3 (has_front code p1 cv _ e1))
          (λ t3. moved_less l (l + length cb) m (suc q) m t3 _ (omega (arith, lc)) (bd l (suc q) m t3 (has_front code l cb _ e2)))
          (λ t3. next_does m q p1 t3 (of.simply_if d x h next) (simply_if_does next m t3 (has_front code m cn _ e3)) e4.0)
          t2 st k s (omega (arith, lt, fuel_ok)) lt g))))

      mutual
        unfolding of.exec

        pub exec_does : (a : tree.Stmt) (pc brk cont : ℕ) (t : Temp) → HasAt code pc (stmt a pc brk cont) → FlowsLess pc t (of.exec d x h a) (pc + length (stmt a pc brk cont)) brk cont
        exec_does tree.empty pc brk cont t e = moved_less pc (suc pc) _ brk cont t _ (omega arith) (after_step_flow pc t _ (suc pc) brk cont e.0 (flow_on (suc pc) brk cont t))
        exec_does (tree.block ps) pc brk cont t e = moved_less pc (suc pc + length (parts ps (suc pc) brk cont)) _ brk cont t _ (omega arith) (after_step_flow pc t _ _ brk cont e.0 (parts_does ps (suc pc) brk cont t e.1))
        exec_does (tree.choice v a) pc brk cont t e =
            let l = suc pc + length (cond_code v (suc pc) 0 0 0) in let ca = stmt a l brk cont in let end = l + length ca in let cv = cond_code v (suc pc) 0 l end in
            let la = length-append cv ca in let lv = cond_length v (suc pc) 0 l end 0 0 in let er = cond_back v (suc pc) 0 l end ca e.1 in
            moved_less pc end _ brk cont t _ (omega (arith, la, lv)) (after_step_flow pc t _ end brk cont e.0
            (lead_flow (suc pc) l end end brk cont t _ _ (cond_does v (suc pc) 0 l end t (has_front code (suc pc) cv ca e.1)) (choose_flow l end end brk cont _ _
            (λ t1. flow_less l t1 _ end brk cont (exec_does a l brk cont t1 er)) (λ t1. flow_on end brk cont t1))))
        exec_does (tree.choice_else v a b) pc brk cont t e =
            let l = suc pc + length (cond_code v (suc pc) 0 0 0) in let ca = stmt a l brk cont in let m = l + length ca in let cb = stmt b (suc m) brk cont in let end = suc m + length cb in
            let tail = i_jump end ∷ cb in let cv = cond_code v (suc pc) 0 l (suc m) in let la = length-append cv (ca ++ tail) in let lb = length-append ca tail in let lv = cond_length v (suc pc) 0 l (suc m) 0 0 in
            let er = cond_back v (suc pc) 0 l (suc m) (ca ++ tail) e.1 in let et = has_back code l ca tail er in
            moved_less pc end _ brk cont t _ (omega (arith, la, lb, lv)) (after_step_flow pc t _ end brk cont e.0
            (lead_flow (suc pc) l (suc m) end brk cont t _ _ (cond_does v (suc pc) 0 l (suc m) t (has_front code (suc pc) cv (ca ++ tail) e.1)) (choose_flow l (suc m) end brk cont _ _
            (λ t1. on_jump m end brk cont t1 _ l et.0 (flow_less l t1 _ m brk cont (exec_does a l brk cont t1 (has_front code l ca _ er))))
            (λ t1. flow_less (suc m) t1 _ end brk cont (exec_does b (suc m) brk cont t1 et.1)))))
        exec_does (tree.loop v body) pc brk cont t e =
            let l = suc pc + length (cond_code v (suc pc) 0 0 0) in let m = l + length (stmt body l 0 0) in let cb = stmt body l (suc m) m in let cv = cond_code v (suc pc) 0 l (suc m) in
            let tail = i_jump (suc pc) ∷ [] in let la = length-append cv (cb ++ tail) in let lb = length-append cb tail in
            let lc = stmt_length body l (suc m) m 0 0 in let lv = cond_length v (suc pc) 0 l (suc m) 0 0 in
            let er = cond_back v (suc pc) 0 l (suc m) (cb ++ tail) e.1 in let et = has_back code l cb tail er in
            let ej : slice_get code m ≡ Some (i_jump (suc pc)) = subst (λ z. slice_get code z ≡ Some (i_jump (suc pc))) (let q : l + length cb ≡ m = ap (λ z. l + z) lc in q) et.0 in
            moved_less pc (suc m) _ brk cont t _ (omega (arith, la, lb, lc, lv)) (after_step_flow pc t _ (suc m) brk cont e.0 (λ st k s lt g.
            turns_do x.fuel (suc pc) l m (suc m) brk cont (of.truth d x h v) (of.exec d x h body) (pure d tt) (λ t1. cond_does v (suc pc) 0 l (suc m) t1 (has_front code (suc pc) cv _ e.1))
            (λ t1. moved_less l (l + length cb) m (suc m) m t1 _ (omega (arith, lc)) (exec_does body l (suc m) m t1 (has_front code l cb _ er)))
            (λ t1. jump Free m (suc pc) (suc pc) t1 _ ej (done_free (suc pc) t1)) t st k s (omega (arith, lt, fuel_ok)) lt g))
        exec_does (tree.repeat body v) pc brk cont t e =
            let m = suc pc + length (stmt body (suc pc) 0 0) in let l = m + length (cond_code v m 0 0 0) in let cb = stmt body (suc pc) (suc l) m in let cv = cond_code v m 0 l (suc l) in
            let tail = i_jump (suc pc) ∷ [] in let la = length-append cb (cv ++ tail) in let lb = length-append cv tail in
            let lc = stmt_length body (suc pc) (suc l) m 0 0 in let lv = cond_length v m 0 l (suc l) 0 0 in
            let ev = subst (λ z. HasAt code z (cv ++ tail)) (let q : suc pc + length cb ≡ m = ap (λ z. suc pc + z) lc in q) (has_back code (suc pc) cb (cv ++ tail) e.1) in
            let et = cond_back v m 0 l (suc l) tail ev in
            let eb : (t1 : Temp) → FlowsLess (suc pc) t1 (of.exec d x h body) m (suc l) m = λ t1. moved_less (suc pc) (suc pc + length cb) m (suc l) m t1 _ (omega (arith, lc)) (exec_does body (suc pc) (suc l) m t1 (has_front code (suc pc) cb _ e.1)) in
            moved_less pc (suc l) _ brk cont t _ (omega (arith, la, lb, lc, lv)) (after_step_flow pc t _ (suc l) brk cont e.0 (λ st k s lt g.
            turn_of (suc pc) m (suc l) brk cont (of.exec d x h body) _ t (eb t) st k s lt g (λ t1 s1 le.
            turns_do x.fuel m l m (suc l) brk cont (of.truth d x h v) (of.exec d x h body) (pure d tt) (λ t2. cond_does v m 0 l (suc l) t2 (has_front code m cv tail ev))
            (λ t2. jump_less l (suc pc) m (suc l) m t2 _ et.0 (eb t2)) (λ t2. done_free m t2) t1 st k s1 (omega (arith, le, lt, fuel_ok)) (omega (arith, le, lt)) (fewer_flow _ brk cont st k _ _ (omega (arith, le)) g))))
        exec_does (tree.loop_for first ds v next body) pc brk cont t e = for_does first ds v next body pc brk cont t e (λ p u w t1 y. exec_does body p u w t1 y)
        exec_does (tree.return a) pc brk cont t e = after_step_flow pc t _ _ brk cont e.0 (return_does a (suc pc) _ brk cont t e.1)
        exec_does tree.break pc brk cont t e = after_step_flow pc t _ _ brk cont e.0 (jump_broken (suc pc) _ brk cont t (e.1).0)
        exec_does tree.continue pc brk cont t e = after_step_flow pc t _ _ brk cont e.0 (jump_continued (suc pc) _ brk cont t (e.1).0)
        exec_does (tree.simple a) pc brk cont t e = let ca = simply_code x.program.line a (suc pc) in
            moved_less pc (suc pc + length ca) _ brk cont t _ (omega arith) (after_step_flow pc t _ _ brk cont e.0 (then_flow (suc pc) (suc pc + length ca) _ brk cont t _ _ (simply_does a (suc pc) t e.1) (λ t1. flow_on _ brk cont t1)))

        pub parts_does : (a : tree.Parts) (pc brk cont : ℕ) (t : Temp) → HasAt code pc (parts a pc brk cont) → Flows pc t (of.exec_parts d x h a) (pc + length (parts a pc brk cont)) brk cont
        parts_does tree.finish pc brk cont t e = moved_flow pc pc _ brk cont t _ (omega arith) (flow_on pc brk cont t)
        parts_does (tree.declare v rest) pc brk cont t e =
            let cv = declare_code x.program.line v pc in let cr = parts rest (pc + length cv) brk cont in let la = length-append cv cr in
            moved_flow pc (pc + length cv + length cr) _ brk cont t _ (omega (arith, la)) (then_flow pc (pc + length cv) _ brk cont t _ _ (declare_does v pc t (has_front code pc cv _ e)) (λ t1. parts_does rest (pc + length cv) brk cont t1 (has_back code pc cv _ e)))
        parts_does (tree.then a rest) pc brk cont t e =
            let ca = stmt a pc brk cont in let cr = parts rest (pc + length ca) brk cont in let la = length-append ca cr in
            moved_flow pc (pc + length ca + length cr) _ brk cont t _ (omega (arith, la)) (part_of pc (pc + length ca) _ brk cont _ _ t (exec_does a pc brk cont t (has_front code pc ca _ e)) (λ t1. parts_does rest (pc + length ca) brk cont t1 (has_back code pc ca _ e)))
