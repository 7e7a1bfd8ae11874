-- A function's parameters, as they are looked up.
use Rattle.std.proofs.Common.{◌≡◌, ℕ, zero, suc, ◌+◌, ◌<◌, List, [], ◌∷◌, Option, Some, None, option_map, map, drop, length, get_or, slice_get, Bool, true, false, refl, sym, ap, ◌∙◌, arith, add-one, drop-cons, if◌then◌else◌}
use Rattle.cc_model.specs.declared.checked.Checked.{Checked}
use Rattle.cc_model.specs.declared.checked.Sig.{Sig}
use Rattle.cc_model.specs.declared.trees.Item.{Item}
use Rattle.cc_model.specs.declared.trees.Item.TheVariants as item
use Rattle.cc_model.specs.declared.trees.Func as source_func
use Rattle.cc_model.specs.declared.trees.Param.{Param}
use Rattle.cc_model.specs.Core.{Cell, Func}
use Rattle.cc_model.specs.CheckedProgram.{name_at, slot_layout, is_func, body_in, func_if, funcs_from, core_of}
use Rattle.cc_model.specs.Resolve.{first_cell}
use Rattle.sym_run.specs.Params.{function_in}

module _ (c : Checked) (number : ℕ) where
  here_if : (t : Bool) (f g : source_func.Func) (o : Option source_func.Func) → (if t then Some f else None) ≡ Some g → (if t then Some f else o) ≡ Some g
  here_if true f g o e = e
  here_if false f g o e = absurd (cc e)

  past_if : (t : Bool) (f : source_func.Func) (o : Option source_func.Func) → (if t then Some f else None) ≡ None → (if t then Some f else o) ≡ o
  past_if true f o e = absurd (cc e)
  past_if false f o e = refl

  pub here : (i : Item) (l : List Item) (f : source_func.Func) → function_in c number i ≡ Some f → body_in c number (i ∷ l) ≡ Some f
  here (item.Func f) l g e = here_if (is_func c number (name_at c f.name)) f g (body_in c number l) e
  here i l g e = absurd (cc e)

  pub past : (i : Item) (l : List Item) → function_in c number i ≡ None → body_in c number (i ∷ l) ≡ body_in c number l
  past (item.Func f) l e = past_if (is_func c number (name_at c f.name)) f (body_in c number l) e
  past i l e = refl

  cut : (l : List Item) (i : ℕ) (x : Item) → i < length l → x ≡ get_or l i x → drop i l ≡ x ∷ drop (i + 1) l
  cut l i x h e = drop-cons l i x h ∙ ap (λ y. y ∷ drop (suc i) l) (sym e) ∙ ap (λ n. x ∷ drop n l) (sym (add-one i))

  pub here_at : (l : List Item) (i : ℕ) (x : Item) (f : source_func.Func) → i < length l → x ≡ get_or l i x → body_in c number (drop i l) ≡ body_in c number l → function_in c number x ≡ Some f → body_in c number l ≡ Some f
  here_at l i x f h e k g = sym k ∙ ap (body_in c number) (cut l i x h e) ∙ here x (drop (i + 1) l) f g

  pub past_at : (l : List Item) (i : ℕ) (x : Item) → i < length l → x ≡ get_or l i x → body_in c number (drop i l) ≡ body_in c number l → function_in c number x ≡ None → body_in c number (drop (i + 1) l) ≡ body_in c number l
  past_at l i x h e k g = sym (past x (drop (i + 1) l) g) ∙ ap (body_in c number) (sym (cut l i x h e)) ∙ k

  -- ---- the program's function

  abbrev the_items : List Item
  the_items = (c.program).items

  abbrev the_function : Func
  the_function = func_if c number (body_in c number the_items)

  funcs_at : (l : List Sig) (n k : ℕ) → slice_get (funcs_from c n l) k ≡ option_map (λ s. func_if c (n + k) (body_in c (n + k) the_items)) (slice_get l k)
  funcs_at [] n k = refl
  funcs_at (s ∷ l) n zero = let e : n + 0 ≡ n = omega arith in ap (λ m. Some (func_if c m (body_in c m the_items))) (sym e)
  funcs_at (s ∷ l) n (suc k) = let e : suc n + k ≡ n + suc k = omega arith in funcs_at l (suc n) k ∙ ap (λ m. option_map (λ s. func_if c m (body_in c m the_items)) (slice_get l k)) e

  function_at : (s : Sig) → slice_get c.funcs number ≡ Some s → slice_get (core_of c).funcs number ≡ Some the_function
  function_at s f = let e : 0 + number ≡ number = omega arith in
      funcs_at c.funcs 0 number ∙ ap (λ m. option_map (λ s. func_if c m (body_in c m the_items)) (slice_get c.funcs number)) e ∙ ap (option_map (λ s. the_function)) f

  abbrev pub param_in : Sig → Param → Cell
  param_in s p = first_cell (slot_layout c (Some s) (name_at c p.name)).cells

  by_sig : (o : Option Sig) (s : Sig) (f : source_func.Func) → o ≡ Some s → map (λ p. first_cell (slot_layout c o (name_at c p.name)).cells) f.params ≡ map (param_in s) f.params
  by_sig o s f e = ap (λ o. map (λ p. first_cell (slot_layout c o (name_at c p.name)).cells) f.params) e

  pub no_body : (s : Sig) → slice_get c.funcs number ≡ Some s → body_in c number the_items ≡ None → (f : Func) × (slice_get (core_of c).funcs number ≡ Some f) × (f.params ≡ [])
  no_body s e f = (the_function, function_at s e, ap (λ o. (func_if c number o).params) f)

  pub with_body : (s : Sig) (f : source_func.Func) → slice_get c.funcs number ≡ Some s → body_in c number the_items ≡ Some f → (g : Func) × (slice_get (core_of c).funcs number ≡ Some g) × (g.params ≡ map (param_in s) f.params)
  with_body s f e g = (the_function, function_at s e, ap (λ o. (func_if c number o).params) g ∙ by_sig (slice_get c.funcs number) s f e)
