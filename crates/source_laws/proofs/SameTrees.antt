-- A renumbered program runs as the program does, over a domain that makes objects by the cells' kinds alone.
use Rattle.std.proofs.Common.{◌≡◌, ℕ, zero, suc, Bool, true, false, List, [], ◌∷◌, map, length, Option, Some, None, slice_get, option_map, refl, sym, ap, ◌∙◌}
use Rattle.std.proofs.lemmas.List.{length-map}
use Rattle.std.proofs.lemmas.Option.{slice_get-map}
use Rattle.cc_base.specs.declared.ends.FaultKind.{FaultKind}
use Rattle.cc_base.specs.declared.ends.FaultKind.TheVariants.{Null, Assert, Abort}
use Rattle.cc_base.specs.declared.ends.End.TheVariants.{Fault}
use Rattle.cc_model.specs.declared.checked.SiteKind.{SiteKind}
use Rattle.cc_model.specs.declared.checked.SiteKind.TheVariants as site
use Rattle.cc_model.specs.Core as tree
use Rattle.cc_model.specs.Core.{Cell, int_cell, ptr_cell, Layout, Op, Val, Cond, Loc, Vals, Simple, Declarator, Stmt, Parts, Func, Program}
use Rattle.cc_model.specs.Domain.{Act, act_access, Domain}
use Rattle.cc_model.specs.Meaning as of
use Rattle.cc_model.specs.Meaning.{Fixed, State, Result, ok, over, Ran, Flow, on, broken, continued, returned, M, Done, ◌>>=◌, ◌>>◌, go_on, prepend, pure, stop, choose, step, steps}
use Rattle.source_laws.specs.Renumbering.{renumber_cell, renumber_layout, renumber_val, renumber_cond, renumber_loc, renumber_vals, renumber_simple, if_there, renumber_declarator, renumber_stmt, renumber_parts, renumber_func}

module _ (d : Domain) where
  -- pieces that do the same from each state
  abbrev pub Same : {A : Type 0} → M d A → M d A → Type 0
  Same m n = (s : State d.V d.D) → m s ≡ n s

  same_go_on : {A B : Type 0} (l : List (of.Entry d.E)) (p : Result (State d.V d.D) A) (f g : A → M d B) → ((a : A) → Same (f a) (g a)) → go_on d l p f ≡ go_on d l p g
  unfolding go_on
  same_go_on l (ok a s) f g h = ap (prepend d l) (h a s)
  same_go_on l (over e s) f g h = refl

  pub same_bind : {A B : Type 0} (m n : M d A) (f g : A → M d B) → Same m n → ((a : A) → Same (f a) (g a)) → Same (◌>>=◌ d m f) (◌>>=◌ d n g)
  unfolding ◌>>=◌
  same_bind m n f g h k = λ s. ap (λ p. go_on d p.log p.result f) (h s) ∙ same_go_on (n s).log (n s).result f g k

  pub same_then : {A B : Type 0} (m n : M d A) (f g : M d B) → Same m n → Same f g → Same (◌>>◌ d m f) (◌>>◌ d n g)
  unfolding ◌>>◌
  same_then m n f g h k = same_bind m n (λ _. f) (λ _. g) h (λ a. k)

  same_self : {A : Type 0} (m : M d A) → Same m m
  same_self m = λ s. refl

  after_step : {A : Type 0} (f g : M d A) → Same f g → Same (◌>>◌ d (step d) f) (◌>>◌ d (step d) g)
  after_step f g h = same_then (step d) (step d) f g (same_self (step d)) h

  same_choose : {A : Type 0} (b : Bool) (m n m' n' : M d A) → Same m n → Same m' n' → Same (choose d b m m') (choose d b n n')
  unfolding choose
  same_choose true m n m' n' h k = h
  same_choose false m n m' n' h k = k

  same_steps : (m n : ℕ) → m ≡ n → Same (steps d m) (steps d n)
  same_steps m n e = λ s. ap (λ k. steps d k s) e

  -- the two programs, which differ by the numbers of types alone
  module _ (r : ℕ → ℕ) (blind : (t u : Layout) (x : d.D) → u.cells ≡ map (renumber_cell r) t.cells → d.make t x ≡ d.make u x)
      (objects fuel : ℕ) (p q : Program) (line : (t : ℕ) → q.line t ≡ p.line t) where
    abbrev x : Fixed
    x = record { objects = objects; fuel = fuel; program = p }

    abbrev y : Fixed
    y = record { objects = objects; fuel = fuel; program = q }

    same_make : (t u : Layout) → u.cells ≡ map (renumber_cell r) t.cells → Same (of.make d t) (of.make d u)
    unfolding of.make
    same_make t u e = λ s. ap (λ a. record { log = []; result = ok a.value (record s { data_now = a.after }) }) (blind t u s.data_now e)

    same_length : (t : Layout) → length t.cells ≡ length (renumber_layout r t).cells
    same_length t = sym (length-map t.cells (renumber_cell r))

    -- ---- operations

    same_checked : (k : SiteKind) (f : FaultKind) (t : ℕ) (a : Act d.V) → Same (of.checked d x k f t a) (of.checked d y k f t a)
    unfolding of.checked
    same_checked k f t a = same_bind (of.event d k t a) (of.event d k t a) _ _ (same_self _)
        (λ o s. ap (λ n. of.if_plain d o.outcome (Fault f n) (pure d o.value) s) (sym (line t)))

    same_decided : (t : ℕ) (a : Act d.V) → Same (of.decided d x t a) (of.decided d y t a)
    unfolding of.decided
    same_decided t a = same_self _

    same_accessed : (t : ℕ) (v : d.V) → Same (of.accessed d x t v) (of.accessed d y t v)
    unfolding of.accessed
    same_accessed t v = same_bind (of.event d site.Access t (act_access v)) (of.event d site.Access t (act_access v)) _ _ (same_self _)
        (λ o s. ap (λ n. of.if_made d objects o.outcome (Fault Null n) (pure d o.value) s) (sym (line t)))

    same_fits : (t : ℕ) (o : Op) (a b : d.V) → Same (of.fits d x t o a b) (of.fits d y t o a b)
    unfolding of.fits
    same_fits t o a b = same_checked _ _ t _

    same_binary : (t : ℕ) (o : Op) (a b : d.V) → Same (of.binary d x t o a b) (of.binary d y t o a b)
    unfolding of.binary
    same_binary t tree.quot a b = same_then _ _ _ _ (same_checked _ _ t _) (same_fits t tree.quot a b)
    same_binary t tree.rem a b = same_then _ _ _ _ (same_checked _ _ t _) (same_fits t tree.rem a b)
    same_binary t tree.add a b = same_fits t tree.add a b
    same_binary t tree.sub a b = same_fits t tree.sub a b
    same_binary t tree.mul a b = same_fits t tree.mul a b

    same_truth_value : (b : Bool) → Same (pure d (of.truth_value d x b)) (pure d (of.truth_value d y b))
    unfolding of.truth_value
    same_truth_value true = same_self _
    same_truth_value false = same_self _

    -- ---- expressions

    abbrev Handlers : (ℕ → List d.V → M d d.V) → (ℕ → List d.V → M d d.V) → Type 0
    Handlers h g = (f : ℕ) (vs : List d.V) → Same (h f vs) (g f vs)

    module _ (h g : ℕ → List d.V → M d d.V) (same : Handlers h g) where
      mutual
        unfolding of.value

        pub same_value : (a : Val) → Same (of.value d x h a) (of.value d y g (renumber_val r a))
        same_value (tree.number z) = same_self _
        same_value tree.nil = same_self _
        same_value (tree.read l) = same_bind _ _ _ _ (same_locate l) (λ v. same_self _)
        same_value (tree.arith t o a b) = after_step _ _ (same_bind _ _ _ _ (same_value a) (λ v. same_bind _ _ _ _ (same_value b) (λ w. same_binary t o v w)))
        same_value (tree.negate t a) = after_step _ _ (same_bind _ _ _ _ (same_value a) (λ v. same_checked _ _ t _))
        same_value (tree.truth c) = same_bind _ _ _ _ (same_truth c) (λ b. same_truth_value b)
        same_value (tree.address l) = after_step _ _ (same_locate l)
        same_value (tree.call f args) = after_step _ _ (same_bind _ _ _ _ (same_values args) (λ vs. same f vs))
        same_value (tree.malloc t) = after_step _ _ (same_then _ _ _ _ (same_steps _ _ (same_length t)) (same_make t (renumber_layout r t) refl))

        pub same_truth : (c : Cond) → Same (of.truth d x h c) (of.truth d y g (renumber_cond r c))
        same_truth (tree.compare t o a b) = after_step _ _ (same_bind _ _ _ _ (same_value a) (λ v. same_bind _ _ _ _ (same_value b) (λ w. same_decided t _)))
        same_truth (tree.opposite c) = after_step _ _ (same_bind _ _ _ _ (same_truth c) (λ b. same_self _))
        same_truth (tree.both a b) = after_step _ _ (same_bind _ _ _ _ (same_truth a) (λ c. same_choose c _ _ _ _ (same_truth b) (same_self _)))
        same_truth (tree.either a b) = after_step _ _ (same_bind _ _ _ _ (same_truth a) (λ c. same_choose c _ _ _ _ (same_self _) (same_truth b)))
        same_truth (tree.test t a) = same_bind _ _ _ _ (same_value a) (λ v. same_decided t _)

        pub same_locate : (l : Loc) → Same (of.locate d x h l) (of.locate d y g (renumber_loc r l))
        same_locate (tree.local n) = same_self _
        same_locate (tree.global n) = same_self _
        same_locate (tree.deref t a) = after_step _ _ (same_bind _ _ _ _ (same_value a) (λ v. same_accessed t v))
        same_locate (tree.arrow t a n) = after_step _ _ (same_bind _ _ _ _ (same_value a) (λ v. same_bind _ _ _ _ (same_accessed t v) (λ p. same_self _)))
        same_locate (tree.dot l n) = after_step _ _ (same_bind _ _ _ _ (same_locate l) (λ p. same_self _))
        same_locate (tree.index t l i n w) = after_step _ _ (same_bind _ _ _ _ (same_locate l) (λ p. same_bind _ _ _ _ (same_value i) (λ v. same_checked _ _ t _)))

        pub same_values : (a : Vals) → Same (of.values d x h a) (of.values d y g (renumber_vals r a))
        same_values tree.done = same_self _
        same_values (tree.more a rest) = same_bind _ _ _ _ (same_value a) (λ v. same_bind _ _ _ _ (same_values rest) (λ vs. same_self _))

      -- ---- statements

      same_update : (t : ℕ) (o : Op) (p v w : d.V) → Same (◌>>=◌ d (of.binary d x t o w v) (λ a. of.store d p a)) (◌>>=◌ d (of.binary d y t o w v) (λ a. of.store d p a))
      same_update t o p v w = same_bind _ _ _ _ (same_binary t o w v) (λ a. same_self _)

      same_fault : (f : FaultKind) (t : ℕ) → Same {A = Unit {0}} (stop d (Fault f (p.line t))) (stop d (Fault f (q.line t)))
      same_fault f t = λ s. ap (λ n. stop d {A = Unit {0}} (Fault f n) s) (sym (line t))

      pub same_simply : (a : Simple) → Same (of.simply d x h a) (of.simply d y g (renumber_simple r a))
      unfolding of.simply
      same_simply (tree.assign l a) = same_bind _ _ _ _ (same_value a) (λ v. same_bind _ _ _ _ (same_locate l) (λ w. same_self _))
      same_simply (tree.update t o l a) = same_bind _ _ _ _ (same_value a) (λ v. same_bind _ _ _ _ (same_locate l) (λ w. after_step _ _ (same_bind _ _ _ _ (same_self _) (λ u. same_update t o w v u))))
      same_simply (tree.bump t o l) = same_bind _ _ _ _ (same_locate l) (λ w. after_step _ _ (same_bind _ _ _ _ (same_self _) (λ u. same_update t o w _ u)))
      same_simply (tree.perform f args) = after_step _ _ (same_bind _ _ _ _ (same_values args) (λ vs. same_bind _ _ _ _ (same f vs) (λ v. same_self _)))
      same_simply (tree.assert t c) = after_step _ _ (same_bind _ _ _ _ (same_truth c) (λ b. same_choose b _ _ _ _ (same_self _) (same_fault Assert t)))
      same_simply (tree.assume c) = after_step _ _ (same_bind _ _ _ _ (same_truth c) (λ b. same_self _))
      same_simply (tree.abort t) = after_step _ _ (same_fault Abort t)
      same_simply (tree.take l) = after_step _ _ (same_bind _ _ _ _ (same_locate l) (λ w. same_self _))

      same_start : (w : d.V) (a : Option Val) → Same (of.start d x h w a) (of.start d y g w (if_there r (renumber_val r) a))
      unfolding of.start
      same_start w None = same_self _
      same_start w (Some a) = same_bind _ _ _ _ (same_value a) (λ v. same_self _)

      same_declare : (t : Declarator) → Same (of.declare d x h t) (of.declare d y g (renumber_declarator r t))
      unfolding of.declare
      same_declare t = after_step _ _ (same_then _ _ _ _ (same_steps _ _ (same_length t.type)) (same_bind _ _ _ _ (same_make t.type (renumber_layout r t.type) refl)
          (λ w. same_then _ _ _ _ (same_self _) (same_start w t.start))))

      same_declare_all : (ts : List Declarator) → Same (of.declare_all d x h ts) (of.declare_all d y g (map (renumber_declarator r) ts))
      unfolding of.declare_all
      same_declare_all [] = same_self _
      same_declare_all (t ∷ ts) = same_then _ _ _ _ (same_declare t) (same_declare_all ts)

      same_simply_if : (a : Option Simple) → Same (of.simply_if d x h a) (of.simply_if d y g (if_there r (renumber_simple r) a))
      unfolding of.simply_if
      same_simply_if None = same_self _
      same_simply_if (Some a) = after_step _ _ (same_simply a)

      same_truth_if : (a : Option Cond) → Same (of.truth_if d x h a) (of.truth_if d y g (if_there r (renumber_cond r) a))
      unfolding of.truth_if
      same_truth_if None = same_self _
      same_truth_if (Some a) = same_truth a

      same_after_turn : (m n : M d (Flow d.V)) (f : Flow d.V) → Same m n → Same (of.after_turn d x h m f) (of.after_turn d y g n f)
      unfolding of.after_turn
      same_after_turn m n on k = k
      same_after_turn m n broken k = same_self _
      same_after_turn m n continued k = k
      same_after_turn m n (returned v) k = same_self _

      same_turns : (n : ℕ) (a a' : M d Bool) (b b' : M d (Flow d.V)) (c c' : Done d) → Same a a' → Same b b' → Same c c' → Same (of.turns d x h n a b c) (of.turns d y g n a' b' c')
      unfolding of.turns
      same_turns zero a a' b b' c c' i j k = same_self _
      same_turns (suc n) a a' b b' c c' i j k = same_bind _ _ _ _ i (λ v. same_choose v _ _ _ _ (same_bind _ _ _ _ j
          (λ f. same_after_turn _ _ f (same_then _ _ _ _ k (same_turns n a a' b b' c c' i j k)))) (same_self _))

      same_after_part : (m n : M d (Flow d.V)) (f : Flow d.V) → Same m n → Same (of.after_part d x h m f) (of.after_part d y g n f)
      unfolding of.after_part
      same_after_part m n on k = k
      same_after_part m n broken k = same_self _
      same_after_part m n continued k = same_self _
      same_after_part m n (returned v) k = same_self _

      same_returns : (a : Option Val) → Same (of.returns d x h a) (of.returns d y g (if_there r (renumber_val r) a))
      unfolding of.returns
      same_returns None = same_self _
      same_returns (Some a) = same_bind _ _ _ _ (same_value a) (λ v. same_self _)

      mutual
        unfolding of.exec

        pub same_exec : (a : Stmt) → Same (of.exec d x h a) (of.exec d y g (renumber_stmt r a))
        same_exec tree.empty = same_self _
        same_exec (tree.block parts) = after_step _ _ (same_parts parts)
        same_exec (tree.choice c a) = after_step _ _ (same_bind _ _ _ _ (same_truth c) (λ v. same_choose v _ _ _ _ (same_exec a) (same_self _)))
        same_exec (tree.choice_else c a b) = after_step _ _ (same_bind _ _ _ _ (same_truth c) (λ v. same_choose v _ _ _ _ (same_exec a) (same_exec b)))
        same_exec (tree.loop c body) = after_step _ _ (same_turns fuel _ _ _ _ _ _ (same_truth c) (same_exec body) (same_self _))
        same_exec (tree.repeat body c) = after_step _ _ (same_bind _ _ _ _ (same_exec body) (λ f. same_after_turn _ _ f (same_turns fuel _ _ _ _ _ _ (same_truth c) (same_exec body) (same_self _))))
        same_exec (tree.loop_for first decls c next body) = after_step _ _ (same_then _ _ _ _ (same_simply_if first) (same_then _ _ _ _ (same_declare_all decls)
            (same_turns fuel _ _ _ _ _ _ (same_truth_if c) (same_exec body) (same_simply_if next))))
        same_exec (tree.return a) = after_step _ _ (same_returns a)
        same_exec tree.break = same_self _
        same_exec tree.continue = same_self _
        same_exec (tree.simple a) = after_step _ _ (same_then _ _ _ _ (same_simply a) (same_self _))

        pub same_parts : (a : Parts) → Same (of.exec_parts d x h a) (of.exec_parts d y g (renumber_parts r a))
        same_parts tree.finish = same_self _
        same_parts (tree.declare t rest) = same_then _ _ _ _ (same_declare t) (same_parts rest)
        same_parts (tree.then a rest) = same_bind _ _ _ _ (same_exec a) (λ f. same_after_part _ _ f (same_parts rest))

    -- ---- calls

    same_take_args : (n : ℕ) (vs : List d.V) (cs : List Cell) → Same (of.take_args d x n vs cs) (of.take_args d y n vs (map (renumber_cell r) cs))
    unfolding of.take_args
    same_take_args n [] [] = same_self _
    same_take_args n [] (c ∷ cs) = same_self _
    same_take_args n (v ∷ vs) [] = same_self _
    same_take_args n (v ∷ vs) (c ∷ cs) = after_step _ _ (same_bind _ _ _ _ (same_make (record { type = 0; cells = c ∷ [] }) (record { type = 0; cells = renumber_cell r c ∷ [] }) refl)
        (λ w. same_then _ _ _ _ (same_self _) (same_then _ _ _ _ (same_self _) (same_take_args (suc n) vs cs))))

    same_zero : (c : Cell) → of.zero_of d x c ≡ of.zero_of d y (renumber_cell r c)
    unfolding of.zero_of
    same_zero int_cell = refl
    same_zero (ptr_cell t) = refl

    same_answer : (c : Cell) (f : Flow d.V) → of.answer d x c f ≡ of.answer d y (renumber_cell r c) f
    unfolding of.answer
    same_answer c on = same_zero c
    same_answer c broken = same_zero c
    same_answer c continued = same_zero c
    same_answer c (returned None) = same_zero c
    same_answer c (returned (Some v)) = refl

    same_pure : {A : Type 0} (a b : A) → a ≡ b → Same (pure d a) (pure d b)
    same_pure a b e = λ s. ap (λ v. pure d v s) e

    same_call_in : (h g : ℕ → List d.V → M d d.V) → Handlers h g → (vs : List d.V) (f : Option Func) → Same (of.call_in d x h vs f) (of.call_in d y g vs (if_there r (renumber_func r) f))
    unfolding of.call_in
    same_call_in h g k vs None = same_self _
    same_call_in h g k vs (Some f) = same_bind _ _ _ _ (same_self _) (λ saved. same_then _ _ _ _ (same_take_args 0 vs f.params) (after_step _ _ (same_bind _ _ _ _ (same_parts h g k f.body)
        (λ a. same_then _ _ _ _ (same_self _) (same_pure _ _ (same_answer f.result a))))))

    as_map : (o : Option Func) → option_map (renumber_func r) o ≡ if_there r (renumber_func r) o
    as_map None = refl
    as_map (Some f) = refl

    module _ (funcs : q.funcs ≡ map (renumber_func r) p.funcs) (entry : q.entry ≡ p.entry) where
      same_func : (n : ℕ) → if_there r (renumber_func r) (slice_get p.funcs n) ≡ slice_get q.funcs n
      same_func n = sym (ap (λ l. slice_get l n) funcs ∙ slice_get-map (renumber_func r) p.funcs n ∙ as_map (slice_get p.funcs n))

      same_calls : (n : ℕ) → Handlers (of.calls d x n) (of.calls d y n)
      unfolding of.calls
      same_calls zero f vs = same_self _
      same_calls (suc n) f vs = λ s. same_call_in (of.calls d x n) (of.calls d y n) (same_calls n) vs (slice_get p.funcs f) s
          ∙ ap (λ o. of.call_in d y (of.calls d y n) vs o s) (same_func f)

      same_main_in : (h g : ℕ → List d.V → M d d.V) → Handlers h g → (f : Option Func) → Same (of.main_in d x h f) (of.main_in d y g (if_there r (renumber_func r) f))
      unfolding of.main_in
      same_main_in h g k None = same_self _
      same_main_in h g k (Some f) = after_step _ _ (same_bind _ _ _ _ (same_parts h g k f.body) (λ a. same_self _))

      pub same_main : Same (of.main d x) (of.main d y)
      unfolding of.main
      same_main = λ s. same_main_in (of.calls d x fuel) (of.calls d y fuel) (same_calls fuel) (slice_get p.funcs p.entry) s
          ∙ ap (λ o. of.main_in d y (of.calls d y fuel) o s) (same_func p.entry ∙ ap (slice_get q.funcs) (sym entry))
