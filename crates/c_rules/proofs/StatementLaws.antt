-- What is said of statements asks for the scopes of their place alone.
use Rattle.std.proofs.Common.{◌≡◌, ◌∙◌, refl, sym, ap, ℕ, List, [], ◌∷◌, ◌++◌, map, Option, None, OnOk, Result, Ok, Err}
use Rattle.cc_model.specs.declared.trees.Expr.{Expr}
use Rattle.cc_model.specs.declared.trees.Simple.{Simple}
use Rattle.cc_model.specs.declared.trees.Simple.TheVariants as simple
use Rattle.cc_model.specs.declared.typing.CType.{CType}
use Rattle.cc_model.specs.declared.typing.Variable.{Variable}
use Rattle.cc_model.specs.declared.typing.File.{File}
use Rattle.cc_model.specs.declared.typing.Before.{Before}
use Rattle.cc_model.specs.declared.typing.Note.{Note}
use Rattle.cc_model.specs.Scopes.{Text}
use Rattle.cc_model.specs.Typing.{operand_of, notes_of, callee, call_done, judged}
use Rattle.cc_model.specs.Faults.{Inside, view_at, args_at, simple_notes}
use Rattle.c_rules.specs.Views.{seen, here}

args_are : (text : ℕ → Text) (file : File) (before : Before) (r : Option CType) (inside : Inside) (l : List Expr) → map (judged text (view_at (judged text) text file before r inside)) l ≡ args_at (judged text) text file before r inside l
args_are text file before r inside [] = refl
args_are text file before r inside (e ∷ l) = ap (λ x. judged text (view_at (judged text) text file before r inside) e ∷ x) (args_are text file before r inside l)

-- a call as a statement
pub call_noted : {E : Type 0} (o : Result (Unit {0}) E) (text : ℕ → Text) (file : File) (before : Before) (scopes : List (List Variable)) (s : Simple) (t : ℕ) (l seen_l : List Expr) (n after : List Note) → s ≡ simple.Call t l → seen_l ≡ l
    → OnOk o (after ≡ n ++ call_done text (seen file before scopes) t (map operand_of (map (judged text (seen file before scopes)) seen_l)) (callee text (seen file before scopes) t) (notes_of (map (judged text (seen file before scopes)) seen_l)))
    → OnOk o (after ≡ n ++ simple_notes (judged text) text file before None s (here scopes))
call_noted (Err x) text file before scopes s t l seen_l n after i j h = tt
call_noted (Ok x) text file before scopes s t l seen_l n after i j h =
    h ∙ ap (λ d. n ++ call_done text (seen file before scopes) t (map operand_of d) (callee text (seen file before scopes) t) (notes_of d)) (ap (map (judged text (seen file before scopes))) j ∙ args_are text file before None (here scopes) l)
    ∙ ap (λ d. n ++ simple_notes (judged text) text file before None d (here scopes)) (sym i)

-- so a place with the same scopes has the same said
pub simple_here : (text : ℕ → Text) (file : File) (before : Before) (r : Option CType) (s : Simple) (inside : Inside) → simple_notes (judged text) text file before None s (here inside.scopes) ≡ simple_notes (judged text) text file before r s inside
simple_here text file before r (simple.Assign t l e) inside = refl
simple_here text file before r (simple.AddTo t l e) inside = refl
simple_here text file before r (simple.SubFrom t l e) inside = refl
simple_here text file before r (simple.MulBy t l e) inside = refl
simple_here text file before r (simple.DivBy t l e) inside = refl
simple_here text file before r (simple.RemBy t l e) inside = refl
simple_here text file before r (simple.Increase t l) inside = refl
simple_here text file before r (simple.Decrease t l) inside = refl
simple_here text file before r (simple.IncreaseFirst t l) inside = refl
simple_here text file before r (simple.DecreaseFirst t l) inside = refl
simple_here text file before r (simple.Call t l) inside =
    ap (λ d. call_done text (seen file before inside.scopes) t (map operand_of d) (callee text (seen file before inside.scopes) t) (notes_of d))
    (sym (args_are text file before None (here inside.scopes) l) ∙ args_are text file before r inside l)
simple_here text file before r (simple.Assert t e) inside = refl
simple_here text file before r (simple.Assume t e) inside = refl
simple_here text file before r (simple.Abort t) inside = refl
simple_here text file before r (simple.CrestInt t l) inside = refl
