-- The tokens and the sites of an expression, by its form.
use Rattle.std.specs.Prelude.{ℕ, max, List, [], ◌∷◌, ◌++◌, flat_map, Option, Some, None}
use denote.Param.Weighed.{most}
use Rattle.cc_model.specs.declared.checked.SiteKind.TheVariants as kind
use Rattle.cc_model.specs.declared.trees.Expr.{Expr, size-Expr}
use Rattle.cc_model.specs.CheckedProgram.{tokens_in}
use Rattle.cc_model.specs.Sites.{Mark, at, sites_of}
use Rattle.c_trees.specs.declared.form.Own.{Own}
use Rattle.c_trees.specs.declared.form.Own.TheVariants as own
use Rattle.c_trees.specs.declared.form.Form.{Form}
use Rattle.c_trees.specs.declared.form.Form.TheVariants as form

-- the sites of an expression that is used for its value, and of one that is used as a truth value
abbrev pub valued : Expr → List Mark
valued e = (sites_of e).by_value

abbrev pub decided : Expr → List Mark
decided e = (sites_of e).by_truth

abbrev pub own_sites : Own → ℕ → List Mark
own_sites own.Nothing t = []
own_sites own.Decision t = at kind.Decision t ∷ []
own_sites own.Fit t = at kind.Fit t ∷ []
own_sites own.Division t = at kind.Divisor t ∷ at kind.Fit t ∷ []
own_sites own.Index t = at kind.Index t ∷ []
own_sites own.Access t = at kind.Access t ∷ []

abbrev pub form_tokens : Form → List ℕ
form_tokens (form.Logical t a b) = t ∷ (tokens_in a.now ++ tokens_in b.now)
form_tokens (form.Not t a) = t ∷ tokens_in a.now
form_tokens (form.Binary t own a b) = t ∷ (tokens_in a.now ++ tokens_in b.now)
form_tokens (form.Unary t own a) = t ∷ tokens_in a.now
form_tokens (form.Arrow t a) = t ∷ tokens_in a.now
form_tokens (form.Call t args) = t ∷ flat_map tokens_in args.now
form_tokens (form.Alone t) = t ∷ []

abbrev pub form_sites : Form → List Mark
form_sites (form.Logical t a b) = decided a.now ++ decided b.now
form_sites (form.Not t a) = decided a.now
form_sites (form.Binary t own a b) = valued a.now ++ (own_sites own t ++ valued b.now)
form_sites (form.Unary t own a) = own_sites own t ++ valued a.now
form_sites (form.Arrow t a) = valued a.now ++ (at kind.Access t ∷ [])
form_sites (form.Call t args) = flat_map valued args.now
form_sites (form.Alone t) = []

-- how deep the deepest operand is
abbrev pub form_depth : Form → ℕ
form_depth (form.Logical t a b) = max (size-Expr a.now) (size-Expr b.now)
form_depth (form.Not t a) = size-Expr a.now
form_depth (form.Binary t own a b) = max (size-Expr a.now) (size-Expr b.now)
form_depth (form.Unary t own a) = size-Expr a.now
form_depth (form.Arrow t a) = size-Expr a.now
form_depth (form.Call t args) = most size-Expr args.now
form_depth (form.Alone t) = 0

-- the decision of a truth value
abbrev pub decision : Option ℕ → List Mark
decision None = []
decision (Some t) = at kind.Decision t ∷ []
