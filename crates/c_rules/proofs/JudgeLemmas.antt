-- An expression that is judged from left to right: a call behind its arguments, and the arguments from an index on.
use Rattle.std.proofs.Common.{◌≡◌, ◌∙◌, sym, ap, ℕ, ◌+◌, ◌<◌, ◌⊎◌, inl, inr, List, [], ◌∷◌, ◌++◌, map, drop, length, get_or, IfOk, Result, Ok, Err}
use Rattle.cc_model.specs.declared.trees.Expr.{Expr}
use Rattle.cc_model.specs.declared.trees.Expr.TheVariants as expr
use Rattle.cc_model.specs.declared.trees.Expr.TheOpen as level
use Rattle.cc_model.specs.declared.trees.Expr.TheFolds.{fold-roll-Expr}
use Rattle.cc_model.specs.declared.typing.Shape.{Shape}
use Rattle.cc_model.specs.declared.typing.Note.{Note}
use Rattle.cc_model.specs.declared.typing.Operand.{Operand}
use Rattle.cc_model.specs.Scopes.{Text, View}
use Rattle.cc_model.specs.Typing.{callee, call_value}
use Rattle.c_rules.specs.Telling.{Answer, answer, told, ints, truths, equals, Teller, two, Args, args_told, told_args, no_args, called_with, telling_level, telling, tell}
use Rattle.c_scopes.proofs.ListLemmas.{from_item}

told_call : (text : ℕ → Text) (view : View) (f t : ℕ) (args : List Expr) (n : List Note) → tell text view (expr.Call f t args) n ≡ called_with text view t (told_args (map (telling text view) args) (no_args n))
told_call text view f t args n = ap (λ e. tell text view e n) (sym (expr.rolls-Call f t args)) ∙ ap (λ (j : Teller). j.tell n) (fold-roll-Expr Teller (telling_level text view) (level.Call f t args))

-- a call, by the arguments that are judged before it
pub call_told : {E : Type 0} (r : Result Shape E) (text : ℕ → Text) (view : View) (e : Expr) (f t : ℕ) (args seen_args : List Expr) (l m : List Operand) (n behind after : List Note) → e ≡ expr.Call f t args → seen_args ≡ args
    → told_args (map (telling text view) seen_args) (no_args n) ≡ args_told l behind → m ≡ l → IfOk r (λ s. told (call_value text view 0 t m (callee text view t) behind) ≡ answer s after) → IfOk r (λ s. tell text view e n ≡ answer s after)
call_told (Err x) text view e f t args seen_args l m n behind after i a g o h = tt
call_told (Ok s) text view e f t args seen_args l m n behind after i a g o h =
    ap (λ d. tell text view d n) i ∙ told_call text view f t args n ∙ ap (λ d. called_with text view t (told_args (map (telling text view) d) (no_args n))) (sym a)
    ∙ ap (called_with text view t) g ∙ ap (λ d. told (call_value text view 0 t d (callee text view t) behind)) (sym o) ∙ h

-- one more argument
pub args_more : (text : ℕ → Text) (view : View) (args : List Expr) (k : ℕ) (x : Expr) (f : ℕ) (s : Shape) (before after : List Operand) (n m : List Note) (r : Args) → k < length args → x ≡ get_or args k x → tell text view x n ≡ answer s m
    → (telling text view x).first ≡ f → after ≡ before ++ record { first = f; shape = s } ∷ [] → told_args (map (telling text view) (drop k args)) (args_told before n) ≡ r
    → told_args (map (telling text view) (drop (k + 1) args)) (args_told after m) ≡ r
args_more text view args k x f s before after n m r h e j g p i =
    ap (told_args (map (telling text view) (drop (k + 1) args))) (λ d. args_told ((p ∙ (λ c. before ++ record { first = sym g c; shape = (sym j c).shape } ∷ [])) d) ((sym j d).notes))
    ∙ (ap (λ (d : List Expr). told_args (map (telling text view) d) (args_told before n)) (sym (from_item args k x h e)) ∙ i)

-- an operator between two operands that are judged before it
pub pair_told : {E : Type 0} (r : Result Shape E) (text : ℕ → Text) (view : View) (e a b seen_a seen_b : Expr) (rule : Shape → Shape → List Note → Answer) (s u : Shape) (n m k after : List Note)
    → tell text view e n ≡ two rule (telling text view a) (telling text view b) n → seen_a ≡ a → tell text view seen_a n ≡ answer s m → seen_b ≡ b → tell text view seen_b m ≡ answer u k
    → IfOk r (λ x. rule s u k ≡ answer x after) → IfOk r (λ x. tell text view e n ≡ answer x after)
pair_told (Err x) text view e a b seen_a seen_b rule s u n m k after i p g q h j = tt
pair_told (Ok x) text view e a b seen_a seen_b rule s u n m k after i p g q h j =
    i ∙ ap (λ (y : Answer). rule y.shape (tell text view b y.notes).shape (tell text view b y.notes).notes) (ap (λ d. tell text view d n) (sym p) ∙ g)
    ∙ ap (λ (y : Answer). rule s y.shape y.notes) (ap (λ d. tell text view d m) (sym q) ∙ h) ∙ j

-- what is told of an operator between two operands
or_told : (text : ℕ → Text) (view : View) (f t : ℕ) (a b : Expr) (n : List Note) → tell text view (expr.Or f t a b) n ≡ two (truths t) (telling text view a) (telling text view b) n
or_told text view f t a b n = ap (λ e. tell text view e n) (sym (expr.rolls-Or f t a b)) ∙ ap (λ (j : Teller). j.tell n) (fold-roll-Expr Teller (telling_level text view) (level.Or f t a b))

and_told : (text : ℕ → Text) (view : View) (f t : ℕ) (a b : Expr) (n : List Note) → tell text view (expr.And f t a b) n ≡ two (truths t) (telling text view a) (telling text view b) n
and_told text view f t a b n = ap (λ e. tell text view e n) (sym (expr.rolls-And f t a b)) ∙ ap (λ (j : Teller). j.tell n) (fold-roll-Expr Teller (telling_level text view) (level.And f t a b))

pub by_truths : (text : ℕ → Text) (view : View) (e : Expr) (t : ℕ) (a b : Expr) (n : List Note) → ((f : ℕ) × (e ≡ expr.Or f t a b)) ⊎ ((f : ℕ) × (e ≡ expr.And f t a b)) → tell text view e n ≡ two (truths t) (telling text view a) (telling text view b) n
by_truths text view e t a b n (inl h) = ap (λ d. tell text view d n) h.1 ∙ or_told text view h.0 t a b n
by_truths text view e t a b n (inr h) = ap (λ d. tell text view d n) h.1 ∙ and_told text view h.0 t a b n

equal_told : (text : ℕ → Text) (view : View) (f t : ℕ) (a b : Expr) (n : List Note) → tell text view (expr.Equal f t a b) n ≡ two (equals t) (telling text view a) (telling text view b) n
equal_told text view f t a b n = ap (λ e. tell text view e n) (sym (expr.rolls-Equal f t a b)) ∙ ap (λ (j : Teller). j.tell n) (fold-roll-Expr Teller (telling_level text view) (level.Equal f t a b))

unequal_told : (text : ℕ → Text) (view : View) (f t : ℕ) (a b : Expr) (n : List Note) → tell text view (expr.Unequal f t a b) n ≡ two (equals t) (telling text view a) (telling text view b) n
unequal_told text view f t a b n = ap (λ e. tell text view e n) (sym (expr.rolls-Unequal f t a b)) ∙ ap (λ (j : Teller). j.tell n) (fold-roll-Expr Teller (telling_level text view) (level.Unequal f t a b))

pub by_equals : (text : ℕ → Text) (view : View) (e : Expr) (t : ℕ) (a b : Expr) (n : List Note) → ((f : ℕ) × (e ≡ expr.Equal f t a b)) ⊎ ((f : ℕ) × (e ≡ expr.Unequal f t a b)) → tell text view e n ≡ two (equals t) (telling text view a) (telling text view b) n
by_equals text view e t a b n (inl h) = ap (λ d. tell text view d n) h.1 ∙ equal_told text view h.0 t a b n
by_equals text view e t a b n (inr h) = ap (λ d. tell text view d n) h.1 ∙ unequal_told text view h.0 t a b n

less_told : (text : ℕ → Text) (view : View) (f t : ℕ) (a b : Expr) (n : List Note) → tell text view (expr.Less f t a b) n ≡ two (ints t) (telling text view a) (telling text view b) n
less_told text view f t a b n = ap (λ e. tell text view e n) (sym (expr.rolls-Less f t a b)) ∙ ap (λ (j : Teller). j.tell n) (fold-roll-Expr Teller (telling_level text view) (level.Less f t a b))

greater_told : (text : ℕ → Text) (view : View) (f t : ℕ) (a b : Expr) (n : List Note) → tell text view (expr.Greater f t a b) n ≡ two (ints t) (telling text view a) (telling text view b) n
greater_told text view f t a b n = ap (λ e. tell text view e n) (sym (expr.rolls-Greater f t a b)) ∙ ap (λ (j : Teller). j.tell n) (fold-roll-Expr Teller (telling_level text view) (level.Greater f t a b))

atmost_told : (text : ℕ → Text) (view : View) (f t : ℕ) (a b : Expr) (n : List Note) → tell text view (expr.AtMost f t a b) n ≡ two (ints t) (telling text view a) (telling text view b) n
atmost_told text view f t a b n = ap (λ e. tell text view e n) (sym (expr.rolls-AtMost f t a b)) ∙ ap (λ (j : Teller). j.tell n) (fold-roll-Expr Teller (telling_level text view) (level.AtMost f t a b))

atleast_told : (text : ℕ → Text) (view : View) (f t : ℕ) (a b : Expr) (n : List Note) → tell text view (expr.AtLeast f t a b) n ≡ two (ints t) (telling text view a) (telling text view b) n
atleast_told text view f t a b n = ap (λ e. tell text view e n) (sym (expr.rolls-AtLeast f t a b)) ∙ ap (λ (j : Teller). j.tell n) (fold-roll-Expr Teller (telling_level text view) (level.AtLeast f t a b))

sum_told : (text : ℕ → Text) (view : View) (f t : ℕ) (a b : Expr) (n : List Note) → tell text view (expr.Sum f t a b) n ≡ two (ints t) (telling text view a) (telling text view b) n
sum_told text view f t a b n = ap (λ e. tell text view e n) (sym (expr.rolls-Sum f t a b)) ∙ ap (λ (j : Teller). j.tell n) (fold-roll-Expr Teller (telling_level text view) (level.Sum f t a b))

difference_told : (text : ℕ → Text) (view : View) (f t : ℕ) (a b : Expr) (n : List Note) → tell text view (expr.Difference f t a b) n ≡ two (ints t) (telling text view a) (telling text view b) n
difference_told text view f t a b n = ap (λ e. tell text view e n) (sym (expr.rolls-Difference f t a b)) ∙ ap (λ (j : Teller). j.tell n) (fold-roll-Expr Teller (telling_level text view) (level.Difference f t a b))

product_told : (text : ℕ → Text) (view : View) (f t : ℕ) (a b : Expr) (n : List Note) → tell text view (expr.Product f t a b) n ≡ two (ints t) (telling text view a) (telling text view b) n
product_told text view f t a b n = ap (λ e. tell text view e n) (sym (expr.rolls-Product f t a b)) ∙ ap (λ (j : Teller). j.tell n) (fold-roll-Expr Teller (telling_level text view) (level.Product f t a b))

quotient_told : (text : ℕ → Text) (view : View) (f t : ℕ) (a b : Expr) (n : List Note) → tell text view (expr.Quotient f t a b) n ≡ two (ints t) (telling text view a) (telling text view b) n
quotient_told text view f t a b n = ap (λ e. tell text view e n) (sym (expr.rolls-Quotient f t a b)) ∙ ap (λ (j : Teller). j.tell n) (fold-roll-Expr Teller (telling_level text view) (level.Quotient f t a b))

remainder_told : (text : ℕ → Text) (view : View) (f t : ℕ) (a b : Expr) (n : List Note) → tell text view (expr.Remainder f t a b) n ≡ two (ints t) (telling text view a) (telling text view b) n
remainder_told text view f t a b n = ap (λ e. tell text view e n) (sym (expr.rolls-Remainder f t a b)) ∙ ap (λ (j : Teller). j.tell n) (fold-roll-Expr Teller (telling_level text view) (level.Remainder f t a b))

pub by_ints : (text : ℕ → Text) (view : View) (e : Expr) (t : ℕ) (a b : Expr) (n : List Note) → ((f : ℕ) × (e ≡ expr.Less f t a b)) ⊎ (((f : ℕ) × (e ≡ expr.Greater f t a b)) ⊎ (((f : ℕ) × (e ≡ expr.AtMost f t a b)) ⊎ (((f : ℕ) × (e ≡ expr.AtLeast f t a b)) ⊎ (((f : ℕ) × (e ≡ expr.Sum f t a b)) ⊎ (((f : ℕ) × (e ≡ expr.Difference f t a b)) ⊎ (((f : ℕ) × (e ≡ expr.Product f t a b)) ⊎ (((f : ℕ) × (e ≡ expr.Quotient f t a b)) ⊎ ((f : ℕ) × (e ≡ expr.Remainder f t a b))))))))) → tell text view e n ≡ two (ints t) (telling text view a) (telling text view b) n
by_ints text view e t a b n (inl h) = ap (λ d. tell text view d n) h.1 ∙ less_told text view h.0 t a b n
by_ints text view e t a b n (inr (inl h)) = ap (λ d. tell text view d n) h.1 ∙ greater_told text view h.0 t a b n
by_ints text view e t a b n (inr (inr (inl h))) = ap (λ d. tell text view d n) h.1 ∙ atmost_told text view h.0 t a b n
by_ints text view e t a b n (inr (inr (inr (inl h)))) = ap (λ d. tell text view d n) h.1 ∙ atleast_told text view h.0 t a b n
by_ints text view e t a b n (inr (inr (inr (inr (inl h))))) = ap (λ d. tell text view d n) h.1 ∙ sum_told text view h.0 t a b n
by_ints text view e t a b n (inr (inr (inr (inr (inr (inl h)))))) = ap (λ d. tell text view d n) h.1 ∙ difference_told text view h.0 t a b n
by_ints text view e t a b n (inr (inr (inr (inr (inr (inr (inl h))))))) = ap (λ d. tell text view d n) h.1 ∙ product_told text view h.0 t a b n
by_ints text view e t a b n (inr (inr (inr (inr (inr (inr (inr (inl h)))))))) = ap (λ d. tell text view d n) h.1 ∙ quotient_told text view h.0 t a b n
by_ints text view e t a b n (inr (inr (inr (inr (inr (inr (inr (inr h)))))))) = ap (λ d. tell text view d n) h.1 ∙ remainder_told text view h.0 t a b n
