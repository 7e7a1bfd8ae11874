-- What a walk has gathered.
use Rattle.std.specs.Prelude.{◌≡◌, ℕ, List, ◌++◌, map, flat_map}
use Rattle.cc_model.specs.declared.trees.Expr.{Expr}
use Rattle.cc_model.specs.declared.trees.Declared.{Declared}
use Rattle.cc_model.specs.declared.trees.Part.{Part}
use Rattle.cc_model.specs.declared.trees.Part.TheFolds.{fold-Stmt, fold-Part}
use Rattle.cc_model.specs.declared.trees.Stmt.{Stmt}
use Rattle.cc_model.specs.declared.trees.Item.{Item}
use Rattle.cc_model.specs.CheckedProgram.{tokens_in, part_expressions, stmt_expressions, start_expression, expression_tokens}
use Rattle.cc_model.specs.Sites as sites
use Rattle.cc_model.specs.Sites.{sites_of, part_sites, stmt_sites, start_sites, item_sites}
use Rattle.c_trees.specs.declared.walk.Mark.{Mark}
use Rattle.c_trees.specs.declared.walk.Walk.{Walk}

abbrev pub mark : Mark → sites.Mark
mark m = record { token = m.token; kind = m.kind }

-- the new walk has these tokens and these sites behind those of the old one
pub record Adds (old new : Walk) (more : List ℕ) (seen : List sites.Mark) : Type 0 where
  pub tokens : new.tokens ≡ old.tokens ++ more
  pub marks : map mark new.marks ≡ map mark old.marks ++ seen

-- the tokens of these expressions
abbrev pub Covers : (old new : Walk) (expressions : List Expr) (seen : List sites.Mark) → Type 0
Covers old new expressions seen = Adds old new (flat_map tokens_in expressions) seen

-- the expressions of a statement, and its sites
abbrev pub expressions_in : Stmt → List Expr
expressions_in s = fold-Stmt (List Expr) (List Expr) part_expressions stmt_expressions s

abbrev pub expressions_of : Part → List Expr
expressions_of p = fold-Part (List Expr) (List Expr) part_expressions stmt_expressions p

abbrev pub marks_in : Stmt → List sites.Mark
marks_in s = fold-Stmt (List sites.Mark) (List sites.Mark) (part_sites sites_of) (stmt_sites sites_of) s

abbrev pub marks_of : Part → List sites.Mark
marks_of p = fold-Part (List sites.Mark) (List sites.Mark) (part_sites sites_of) (stmt_sites sites_of) p

abbrev pub declared_expressions : Declared → List Expr
declared_expressions d = start_expression d.initializer

abbrev pub declared_marks : Declared → List sites.Mark
declared_marks d = start_sites sites_of d.initializer

-- the walk has all tokens and all sites of the items
pub record Walks (items : List Item) (w : Walk) : Type 0 where
  pub tokens : w.tokens ≡ expression_tokens items
  pub marks : map mark w.marks ≡ flat_map item_sites items
