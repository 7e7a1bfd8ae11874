-- The types, names and sites of small programs, and what a checked program tells of tokens, computed from their source trees.
use Rattle.std.proofs.Common.{◌≡◌, ℕ, pos, true, false, List, [], ◌∷◌, map, flat_map, Some, None, refl, ap, ◌∙◌, codes}
use Rattle.cc_base.specs.declared.cells.CellTy.TheVariants as cell
use Rattle.cc_model.specs.declared.checked.SiteKind.TheVariants.{Decision, Fit, Divisor, Index, Access}
use Rattle.cc_model.specs.declared.checked.Target.TheVariants as target
use Rattle.cc_model.specs.declared.checked.Ty.TheVariants as ty
use Rattle.cc_model.specs.declared.checked.Checked.{Checked}
use Rattle.cc_model.specs.declared.trees.Base.TheVariants as base
use Rattle.cc_model.specs.declared.trees.ResultType.TheVariants as returned
use Rattle.cc_model.specs.declared.trees.Expr.TheVariants as expr
use Rattle.cc_model.specs.declared.trees.Simple.TheVariants as simple
use Rattle.cc_model.specs.declared.trees.Stmt.TheVariants as stmt
use Rattle.cc_model.specs.declared.trees.Part.{Part}
use Rattle.cc_model.specs.declared.trees.Part.TheVariants as part
use Rattle.cc_model.specs.declared.trees.StructDef.TheVariants as struct
use Rattle.cc_model.specs.declared.trees.StartValue.TheVariants as start_value
use Rattle.cc_model.specs.declared.trees.Item.TheVariants as item
use Rattle.cc_model.specs.Core.{int_cell, ptr_cell, start_null}
use Rattle.cc_model.specs.Resolve.{Facts}
use Rattle.cc_model.specs.Types.{int_base, void_base, struct_base}
use Rattle.cc_model.specs.Scopes.{nothing_before, file_of}
use Rattle.cc_model.specs.Typing.{Note}
use Rattle.cc_model.specs.Faults.{items_notes, notes_in}
use Rattle.cc_model.specs.Sites.{Mark, at, sites_level, sites_of, part_sites, stmt_sites, sites_of_part, in_order}
use Rattle.cc_model.specs.CheckedProgram.{type_at, meant, token_level, tokens_in, part_expressions, stmt_expressions, expressions_of_part, facts_by, starts_of}
use Rattle.cc_model.proofs.Folds.{fold_of, folds, fold_of_part, folds_part}
use Rattle.cc_model.proofs.FaultRows.{Row, text_in, compute_part, computes_part, everything}

-- ---- notes, sites and tokens, computed

notes_of : Row → List Note
notes_of r = notes_in (text_in r.texts) r.items

unfoldable compute_notes : Row → List Note
compute_notes r = items_notes (text_in r.texts) (file_of (text_in r.texts) r.items) (compute_part (text_in r.texts) (file_of (text_in r.texts) r.items)) nothing_before r.items

computes_notes : (r : Row) → notes_of r ≡ compute_notes r
unfolding notes_of compute_notes
computes_notes r = λ i. items_notes (text_in r.texts) (file_of (text_in r.texts) r.items)
    (λ before result p. computes_part (text_in r.texts) (file_of (text_in r.texts) r.items) before result p i) nothing_before r.items

unfoldable compute_sites : List Part → List Mark
compute_sites parts = in_order (flat_map (fold_of_part (part_sites (fold_of sites_level)) (stmt_sites (fold_of sites_level))) parts)

computes_sites : (parts : List Part) → in_order (flat_map sites_of_part parts) ≡ compute_sites parts
unfolding compute_sites
computes_sites parts = (λ i. in_order (flat_map (λ p. folds_part (part_sites sites_of) (stmt_sites sites_of) p i) parts))
    ∙ ap (λ s. in_order (flat_map (fold_of_part (part_sites s) (stmt_sites s)) parts)) (λ i e. folds sites_level e i)

unfoldable compute_tokens : List Part → List ℕ
compute_tokens parts = flat_map (fold_of token_level) (flat_map (fold_of_part part_expressions stmt_expressions) parts)

computes_tokens : (parts : List Part) → flat_map tokens_in (flat_map expressions_of_part parts) ≡ compute_tokens parts
unfolding compute_tokens
computes_tokens parts = (λ i. flat_map (λ e. folds token_level e i) (flat_map (λ p. folds_part part_expressions stmt_expressions p i) parts))

-- struct s { int a; int *p; }; int g = 3; int f(struct s *q, int x) { int t[3]; if (q->p == 0) t[x] = g; while (-x) x /= 2; return f(q, t[1]) + (NULL != q); }
unfoldable body : List Part
body = (part.Decl (record { base = base.Int; parts = (record { declarator = record { stars = 0; name = 30; lengths = (record { token = 32; value = pos 3 } ∷ []) }; initializer = None } ∷ []) }) ∷ part.Stmt (stmt.If 35 (expr.Equal 37 40 (expr.Arrow 37 38 (expr.Name 37 37) 39) (expr.Number 41 41 (pos 0))) (stmt.Simple (simple.Assign 47 (expr.Index 43 44 (expr.Name 43 43) (expr.Name 45 45)) (expr.Name 48 48)))) ∷ part.Stmt (stmt.While 50 (expr.Minus 52 52 (expr.Name 53 53)) (stmt.Simple (simple.DivBy 56 (expr.Name 55 55) (expr.Number 57 57 (pos 2))))) ∷ part.Stmt (stmt.Return 59 (Some (expr.Sum 60 69 (expr.Call 60 60 ((expr.Name 62 62) ∷ (expr.Index 64 65 (expr.Name 64 64) (expr.Number 66 66 (pos 1))) ∷ [])) (expr.Unequal 70 72 (expr.Null 71 71) (expr.Name 73 73))))) ∷ [])

unfoldable program : Row
program = record {
  texts = (1, codes "s") ∷ (4, codes "a") ∷ (8, codes "p") ∷ (13, codes "g") ∷ (18, codes "f") ∷ (21, codes "s") ∷ (23, codes "q") ∷ (26, codes "x") ∷ (30, codes "t") ∷ (37, codes "q") ∷ (39, codes "p") ∷ (43, codes "t") ∷ (45, codes "x") ∷ (48, codes "g") ∷ (53, codes "x") ∷ (55, codes "x") ∷ (60, codes "f") ∷ (62, codes "q") ∷ (64, codes "t") ∷ (73, codes "q") ∷ [];
  items = item.Struct (struct.Tagged 1 (record { base = base.Int; parts = (record { stars = 0; name = 4; lengths = [] } ∷ []) } ∷ record { base = base.Int; parts = (record { stars = 1; name = 8; lengths = [] } ∷ []) } ∷ [])) ∷ item.Globals base.Int (record { declarator = record { stars = 0; name = 13; lengths = [] }; start = Some (record { equals = 14; value = start_value.Number 15 (pos 3) }) } ∷ []) ∷ item.Func (record { result = (returned.Value (record { base = base.Int; stars = 0 })); name = 18; params = (record { ty = record { base = (base.Struct 21); stars = 1 }; name = 23 } ∷ record { ty = record { base = base.Int; stars = 0 }; name = 26 } ∷ []); body = body }) ∷ [];
}

sites_in_order : in_order (flat_map sites_of_part body) ≡ at Access 38 ∷ at Decision 40 ∷ at Index 44 ∷ at Decision 52 ∷ at Fit 52 ∷ at Divisor 56 ∷ at Fit 56 ∷ at Index 65 ∷ at Fit 69 ∷ at Decision 72 ∷ []
unfolding everything compute_sites body
sites_in_order = computes_sites body

abbrev numbered : List ℕ
numbered = 40 ∷ 38 ∷ 37 ∷ 41 ∷ 44 ∷ 43 ∷ 45 ∷ 48 ∷ 52 ∷ 53 ∷ 55 ∷ 57 ∷ 69 ∷ 60 ∷ 62 ∷ 65 ∷ 64 ∷ 66 ∷ 72 ∷ 71 ∷ 73 ∷ []

tokens_in_order : flat_map tokens_in (flat_map expressions_of_part body) ≡ numbered
unfolding everything compute_tokens body
tokens_in_order = computes_tokens body

types_in_order : map (type_at (notes_of program)) numbered ≡ record { base = int_base; stars = 0; lengths = [] } ∷ record { base = int_base; stars = 1; lengths = [] } ∷ record { base = struct_base 0; stars = 1; lengths = [] } ∷ record { base = void_base; stars = 0; lengths = [] } ∷ record { base = int_base; stars = 0; lengths = [] } ∷ record { base = int_base; stars = 0; lengths = (3 ∷ []) } ∷ record { base = int_base; stars = 0; lengths = [] } ∷ record { base = int_base; stars = 0; lengths = [] } ∷ record { base = int_base; stars = 0; lengths = [] } ∷ record { base = int_base; stars = 0; lengths = [] } ∷ record { base = int_base; stars = 0; lengths = [] } ∷ record { base = int_base; stars = 0; lengths = [] } ∷ record { base = int_base; stars = 0; lengths = [] } ∷ record { base = int_base; stars = 0; lengths = [] } ∷ record { base = struct_base 0; stars = 1; lengths = [] } ∷ record { base = int_base; stars = 0; lengths = [] } ∷ record { base = int_base; stars = 0; lengths = (3 ∷ []) } ∷ record { base = int_base; stars = 0; lengths = [] } ∷ record { base = int_base; stars = 0; lengths = [] } ∷ record { base = void_base; stars = 0; lengths = [] } ∷ record { base = struct_base 0; stars = 1; lengths = [] } ∷ []
unfolding everything compute_notes program body
types_in_order = ap (λ n. map (type_at n) numbered) (computes_notes program)

abbrev asked : List ℕ
asked = 4 ∷ 8 ∷ 13 ∷ 18 ∷ 23 ∷ 26 ∷ 30 ∷ 37 ∷ 39 ∷ 43 ∷ 48 ∷ 60 ∷ 1 ∷ 21 ∷ []

names_meant : map (meant (notes_of program)) asked ≡ Some (target.Field 0) ∷ Some (target.Field 1) ∷ Some (target.Global 0) ∷ Some (target.Func 0) ∷ Some (target.Local 0) ∷ Some (target.Local 1) ∷ Some (target.Local 2) ∷ Some (target.Local 0) ∷ Some (target.Field 1) ∷ Some (target.Local 2) ∷ Some (target.Global 0) ∷ Some (target.Func 0) ∷ None ∷ None ∷ []
unfolding everything compute_notes program body
names_meant = ap (λ n. map (meant n) asked) (computes_notes program)

-- int *h = 0; int f(int *q) { int t[2]; if (q == 0) t[1] = *q; return 0; }
unfoldable body' : List Part
body' = (part.Decl (record { base = base.Int; parts = (record { declarator = record { stars = 0; name = 15; lengths = (record { token = 17; value = pos 2 } ∷ []) }; initializer = None } ∷ []) }) ∷ part.Stmt (stmt.If 20 (expr.Equal 22 23 (expr.Name 22 22) (expr.Number 24 24 (pos 0))) (stmt.Simple (simple.Assign 30 (expr.Index 26 27 (expr.Name 26 26) (expr.Number 28 28 (pos 1))) (expr.Deref 31 31 (expr.Name 32 32))))) ∷ part.Stmt (stmt.Return 34 (Some (expr.Number 35 35 (pos 0)))) ∷ [])

unfoldable checked : Checked
checked = record {
  program = record { items = item.Globals base.Int (record { declarator = record { stars = 1; name = 2; lengths = [] }; start = Some (record { equals = 3; value = start_value.Number 4 (pos 0) }) } ∷ []) ∷ item.Func (record { result = (returned.Value (record { base = base.Int; stars = 0 })); name = 7; params = (record { ty = record { base = base.Int; stars = 1 }; name = 11 } ∷ []); body = body' }) ∷ [] };
  tys = ty.Void ∷ ty.Int ∷ ty.Ptr (record { 0 = 1 }) ∷ ty.Array (record { 0 = 1 }) 2 ∷ [];
  layouts = [] ∷ (cell.Int ∷ []) ∷ (cell.Ptr (record { 0 = 1 }) ∷ []) ∷ (cell.Int ∷ cell.Int ∷ []) ∷ [];
  expr_tys = (record { 0 = 1 } ∷ record { 0 = 2 } ∷ record { 0 = 0 } ∷ record { 0 = 1 } ∷ record { 0 = 3 } ∷ record { 0 = 1 } ∷ record { 0 = 1 } ∷ record { 0 = 2 } ∷ record { 0 = 1 } ∷ []);
  names = (None ∷ None ∷ Some (target.Global 0) ∷ None ∷ None ∷ None ∷ None ∷ Some (target.Func 0) ∷ None ∷ None ∷ None ∷ Some (target.Local 0) ∷ None ∷ None ∷ None ∷ Some (target.Local 1) ∷ None ∷ None ∷ None ∷ None ∷ None ∷ None ∷ Some (target.Local 0) ∷ None ∷ None ∷ None ∷ Some (target.Local 1) ∷ None ∷ None ∷ None ∷ None ∷ None ∷ Some (target.Local 0) ∷ None ∷ None ∷ None ∷ None ∷ None ∷ []);
  lines = [];
  sites = [];
  funcs = record { params = (record { 0 = 2 } ∷ []); result = record { 0 = 1 }; slots = (record { 0 = 2 } ∷ record { 0 = 3 } ∷ []) } ∷ [];
  globals = (record { 0 = 2 } ∷ []);
  entry = 0;
}

unfoldable facts : Facts
facts = facts_by checked (flat_map tokens_in (flat_map expressions_of_part body')) 0

-- the `0` that is compared with a pointer, the index 1, and the 0 that is returned
nulls : map (facts.is_null) (24 ∷ 28 ∷ 35 ∷ []) ≡ true ∷ false ∷ false ∷ []
unfolding everything compute_tokens facts checked body'
nulls = ap (λ t. map ((facts_by checked t 0).is_null) (24 ∷ 28 ∷ 35 ∷ [])) (computes_tokens body')

index_length : facts.lengths 27 ≡ 2
unfolding everything compute_tokens facts checked body'
index_length = ap (λ t. (facts_by checked t 0).lengths 27) (computes_tokens body')

index_width : facts.widths 27 ≡ 1
unfolding everything compute_tokens facts checked body'
index_width = ap (λ t. (facts_by checked t 0).widths 27) (computes_tokens body')

array_declared : facts.declared 15 ≡ record { type = 3; cells = int_cell ∷ int_cell ∷ [] }
unfolding facts checked
array_declared = refl

pointer_declared : facts.declared 11 ≡ record { type = 2; cells = ptr_cell 1 ∷ [] }
unfolding facts checked
pointer_declared = refl

result_given : facts.results 7 ≡ int_cell
unfolding facts checked
result_given = refl

global_starts : starts_of checked (record { declarator = record { stars = 1; name = 2; lengths = [] }; start = Some (record { equals = 3; value = start_value.Number 4 (pos 0) }) } ∷ []) checked.globals ≡ start_null ∷ []
unfolding checked
global_starts = refl
