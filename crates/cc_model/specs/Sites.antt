-- The sites of a program: the places at which an event can come. All of them are this project's own.
use Rattle.std.specs.Prelude.{ℕ, Bool, ◌&&◌, ◌||◌, nat_eq, nat_lt, nat_le, List, [], ◌∷◌, ◌++◌, flat_map, Option, Some, None, if◌then◌else◌}
use Rattle.cc_model.specs.declared.checked.SiteKind.{SiteKind}
use Rattle.cc_model.specs.declared.checked.SiteKind.TheVariants.{Decision, Fit, Divisor, Index, Access}
use Rattle.cc_model.specs.declared.trees.Expr.{Expr}
use Rattle.cc_model.specs.declared.trees.Expr.TheOpen as expr
use Rattle.cc_model.specs.declared.trees.Expr.TheOpen.{Expr-F}
use Rattle.cc_model.specs.declared.trees.Expr.TheFolds.{fold-Expr}
use Rattle.cc_model.specs.declared.trees.Simple.{Simple}
use Rattle.cc_model.specs.declared.trees.Simple.TheVariants as simple
use Rattle.cc_model.specs.declared.trees.Head.{Head}
use Rattle.cc_model.specs.declared.trees.Head.TheVariants as head
use Rattle.cc_model.specs.declared.trees.Decl.{Decl}
use Rattle.cc_model.specs.declared.trees.Initializer.{Initializer}
use Rattle.cc_model.specs.declared.trees.Part.{Part}
use Rattle.cc_model.specs.declared.trees.Part.TheOpen as stmt
use Rattle.cc_model.specs.declared.trees.Part.TheOpen.{Part-F, Stmt-F}
use Rattle.cc_model.specs.declared.trees.Part.TheFolds.{fold-Part}
use Rattle.cc_model.specs.declared.trees.Item.{Item}
use Rattle.cc_model.specs.declared.trees.Item.TheVariants as item

-- a site: its token, and what happens there
pub record Mark : Type 0 where
  pub token : ℕ
  pub kind : SiteKind

abbrev pub at : SiteKind → ℕ → Mark
at k t = record { token = t; kind = k }

-- ---- the order: by token, and at one token by kind

abbrev pub kind_rank : SiteKind → ℕ
kind_rank Decision = 0
kind_rank Divisor = 1
kind_rank Fit = 2
kind_rank Index = 3
kind_rank Access = 4

abbrev pub not_after : Mark → Mark → Bool
not_after a b = nat_lt a.token b.token || (nat_eq a.token b.token && nat_le (kind_rank a.kind) (kind_rank b.kind))

abbrev pub inserted : Mark → List Mark → List Mark
inserted m [] = m ∷ []
inserted m (n ∷ l) = if not_after m n then m ∷ n ∷ l else n ∷ inserted m l

abbrev pub in_order : List Mark → List Mark
in_order [] = []
in_order (m ∷ l) = inserted m (in_order l)

-- ---- expressions

-- the sites of an expression that is used for its value or as a place, and of one that is used as a truth value
pub record Seen : Type 0 where
  pub by_value : List Mark
  pub by_truth : List Mark

-- a comparison, `!`, `&&` or `||`
abbrev pub always : List Mark → Seen
always l = record { by_value = l; by_truth = l }

-- any other expression: as a truth value it is a decision site at its first token
abbrev pub decides : ℕ → List Mark → Seen
decides f l = record { by_value = l; by_truth = at Decision f ∷ l }

abbrev pub values_of : List Seen → List Mark
values_of l = flat_map (λ s. s.by_value) l

abbrev pub sites_level : Expr-F Seen → Seen
sites_level (expr.Or f t a b) = always (a.by_truth ++ b.by_truth)
sites_level (expr.And f t a b) = always (a.by_truth ++ b.by_truth)
sites_level (expr.Equal f t a b) = always (a.by_value ++ at Decision t ∷ b.by_value)
sites_level (expr.Unequal f t a b) = always (a.by_value ++ at Decision t ∷ b.by_value)
sites_level (expr.Less f t a b) = always (a.by_value ++ at Decision t ∷ b.by_value)
sites_level (expr.Greater f t a b) = always (a.by_value ++ at Decision t ∷ b.by_value)
sites_level (expr.AtMost f t a b) = always (a.by_value ++ at Decision t ∷ b.by_value)
sites_level (expr.AtLeast f t a b) = always (a.by_value ++ at Decision t ∷ b.by_value)
sites_level (expr.Sum f t a b) = decides f (a.by_value ++ at Fit t ∷ b.by_value)
sites_level (expr.Difference f t a b) = decides f (a.by_value ++ at Fit t ∷ b.by_value)
sites_level (expr.Product f t a b) = decides f (a.by_value ++ at Fit t ∷ b.by_value)
sites_level (expr.Quotient f t a b) = decides f (a.by_value ++ at Divisor t ∷ at Fit t ∷ b.by_value)
sites_level (expr.Remainder f t a b) = decides f (a.by_value ++ at Divisor t ∷ at Fit t ∷ b.by_value)
sites_level (expr.Minus f t a) = decides f (at Fit t ∷ a.by_value)
sites_level (expr.Not f t a) = always a.by_truth
sites_level (expr.Deref f t a) = decides f (at Access t ∷ a.by_value)
sites_level (expr.Address f t a) = decides f a.by_value
sites_level (expr.Dot f t a name) = decides f a.by_value
sites_level (expr.Arrow f t a name) = decides f (a.by_value ++ at Access t ∷ [])
sites_level (expr.Index f t a i) = decides f (a.by_value ++ at Index t ∷ i.by_value)
sites_level (expr.Name f t) = decides f []
sites_level (expr.Number f t z) = decides f []
sites_level (expr.Null f t) = decides f []
sites_level (expr.Call f t args) = decides f (values_of args)
sites_level (expr.Malloc f t cast m) = decides f []

abbrev pub sites_of : Expr → Seen
sites_of e = fold-Expr Seen sites_level e

-- ---- statements, by the sites of their expressions

module _ (seen : Expr → Seen) where
  abbrev pub value_sites : Expr → List Mark
  value_sites e = (seen e).by_value

  abbrev pub truth_sites : Expr → List Mark
  truth_sites e = (seen e).by_truth

  abbrev pub simple_sites : Simple → List Mark
  simple_sites (simple.Assign t l e) = value_sites l ++ value_sites e
  simple_sites (simple.AddTo t l e) = value_sites l ++ at Fit t ∷ value_sites e
  simple_sites (simple.SubFrom t l e) = value_sites l ++ at Fit t ∷ value_sites e
  simple_sites (simple.MulBy t l e) = value_sites l ++ at Fit t ∷ value_sites e
  simple_sites (simple.DivBy t l e) = value_sites l ++ at Divisor t ∷ at Fit t ∷ value_sites e
  simple_sites (simple.RemBy t l e) = value_sites l ++ at Divisor t ∷ at Fit t ∷ value_sites e
  simple_sites (simple.Increase t l) = value_sites l ++ at Fit t ∷ []
  simple_sites (simple.Decrease t l) = value_sites l ++ at Fit t ∷ []
  simple_sites (simple.IncreaseFirst t l) = at Fit t ∷ value_sites l
  simple_sites (simple.DecreaseFirst t l) = at Fit t ∷ value_sites l
  simple_sites (simple.Call t args) = flat_map value_sites args
  simple_sites (simple.Assert t e) = truth_sites e
  simple_sites (simple.Assume t e) = truth_sites e
  simple_sites (simple.Abort t) = []
  simple_sites (simple.CrestInt t l) = value_sites l

  abbrev pub simple_sites_if : Option Simple → List Mark
  simple_sites_if None = []
  simple_sites_if (Some s) = simple_sites s

  abbrev pub value_sites_if : Option Expr → List Mark
  value_sites_if None = []
  value_sites_if (Some e) = value_sites e

  abbrev pub truth_sites_if : Option Expr → List Mark
  truth_sites_if None = []
  truth_sites_if (Some e) = truth_sites e

  abbrev pub start_sites : Option Initializer → List Mark
  start_sites None = []
  start_sites (Some i) = value_sites i.value

  abbrev pub decl_sites : Decl → List Mark
  decl_sites d = flat_map (λ p. start_sites p.initializer) d.parts

  abbrev pub head_sites : Head → List Mark
  head_sites (head.Decl d) = decl_sites d
  head_sites (head.Simple s) = simple_sites_if s

  abbrev pub part_sites : Part-F (List Mark) (List Mark) → List Mark
  part_sites (stmt.Decl d) = decl_sites d
  part_sites (stmt.Stmt s) = s

  abbrev pub stmt_sites : Stmt-F (List Mark) (List Mark) → List Mark
  stmt_sites stmt.Empty = []
  stmt_sites (stmt.Block parts) = flat_map (λ l. l) parts
  stmt_sites (stmt.If w c a) = truth_sites c ++ a
  stmt_sites (stmt.IfElse w c a b) = truth_sites c ++ (a ++ b)
  stmt_sites (stmt.While w c body) = truth_sites c ++ body
  stmt_sites (stmt.Do w body c) = body ++ truth_sites c
  stmt_sites (stmt.For w h c next body) = head_sites h ++ (truth_sites_if c ++ (simple_sites_if next ++ body))
  stmt_sites (stmt.Return w e) = value_sites_if e
  stmt_sites (stmt.Break w) = []
  stmt_sites (stmt.Continue w) = []
  stmt_sites (stmt.Simple s) = simple_sites s

abbrev pub sites_of_part : Part → List Mark
sites_of_part p = fold-Part (List Mark) (List Mark) (part_sites sites_of) (stmt_sites sites_of) p

abbrev pub item_sites : Item → List Mark
item_sites (item.Func f) = flat_map sites_of_part f.body
item_sites _ = []

-- the sites of a program, in their order
abbrev pub sites_in : List Item → List Mark
sites_in items = in_order (flat_map item_sites items)
