-- The checked program that a well typed program determines, and the program of the meaning that a checked one is.
use Rattle.std.specs.Prelude.{◌≡◌, ◌<◌, ℕ, suc, ◌+◌, Bool, true, false, ℤ, pos, neg_ℤ, nat_eq, List, [], ◌∷◌, ◌++◌, map, flat_map, filter_map, take, length, position, slice_get, bytes_eq, unwrap_or, option_map, option_and_then, Option, Some, None, if◌then◌else◌}
use Rattle.cc_base.specs.Paths.{In}
use Rattle.cc_base.specs.declared.cells.TyId.{TyId}
use Rattle.cc_base.specs.declared.cells.CellTy.{CellTy}
use Rattle.cc_base.specs.declared.cells.CellTy.TheVariants as cell
use Rattle.cc_model.specs.declared.tokens.Token.{Token}
use Rattle.cc_model.specs.declared.checked.Ty.{Ty}
use Rattle.cc_model.specs.declared.checked.Ty.TheVariants as ty
use Rattle.cc_model.specs.declared.checked.Target.{Target}
use Rattle.cc_model.specs.declared.checked.Target.TheVariants as target
use Rattle.cc_model.specs.declared.checked.Site.{Site}
use Rattle.cc_model.specs.declared.checked.Sig.{Sig}
use Rattle.cc_model.specs.declared.checked.Checked.{Checked}
use Rattle.cc_model.specs.declared.trees.Expr.{Expr}
use Rattle.cc_model.specs.declared.trees.Expr.TheOpen as expr
use Rattle.cc_model.specs.declared.trees.Expr.TheOpen.{Expr-F}
use Rattle.cc_model.specs.declared.trees.Expr.TheFolds.{fold-Expr}
use Rattle.cc_model.specs.declared.trees.Simple as source_simple
use Rattle.cc_model.specs.declared.trees.Simple.TheVariants as simple
use Rattle.cc_model.specs.declared.trees.Head.{Head}
use Rattle.cc_model.specs.declared.trees.Head.TheVariants as head
use Rattle.cc_model.specs.declared.trees.Decl.{Decl}
use Rattle.cc_model.specs.declared.trees.Initializer.{Initializer}
use Rattle.cc_model.specs.declared.trees.Part.{Part}
use Rattle.cc_model.specs.declared.trees.Part.TheOpen as stmt
use Rattle.cc_model.specs.declared.trees.Part.TheOpen.{Part-F, Stmt-F}
use Rattle.cc_model.specs.declared.trees.Part.TheFolds.{fold-Part}
use Rattle.cc_model.specs.declared.trees.StartValue.{StartValue}
use Rattle.cc_model.specs.declared.trees.StartValue.TheVariants as start_value
use Rattle.cc_model.specs.declared.trees.GlobalStart.{GlobalStart}
use Rattle.cc_model.specs.declared.trees.GlobalPart.{GlobalPart}
use Rattle.cc_model.specs.declared.trees.Func as source_func
use Rattle.cc_model.specs.declared.trees.Item.{Item}
use Rattle.cc_model.specs.declared.trees.Item.TheVariants as item
use Rattle.cc_model.specs.Core as core
use Rattle.cc_model.specs.Core.{Cell, int_cell, ptr_cell, Layout, Func, Start, start_number, start_null, Program}
use Rattle.cc_model.specs.Resolve.{Facts, func_of, first_cell}
use Rattle.cc_model.specs.Types.{BaseType, struct_base, CType, int_type, void_type, target_of, element_of, is_pointer, is_array, TypeCell, number_cell, pointer_cell, cells_in}
use Rattle.cc_model.specs.Scopes.{Text, Before, Member, File, Function, Variable, nothing_before, after_item, after_items, function_in, result_type, file_of}
use Rattle.cc_model.specs.Typing.{Note, means, typed, null, declares}
use Rattle.cc_model.specs.Sites.{Mark, sites_in}
use Rattle.cc_model.specs.Faults.{follow, params_of, at_body, part_of, body_of, notes_in, WellTyped, has_entry}

-- ---- what the notes say

-- what a name at a token means
abbrev pub meant : List Note → ℕ → Option Target
meant [] t = None
meant (means at what ∷ l) t = if nat_eq at t then Some what else meant l t
meant (_ ∷ l) t = meant l t

-- the number at a token stands for NULL
abbrev pub stands_for_null : List Note → ℕ → Bool
stands_for_null [] t = false
stands_for_null (null at ∷ l) t = if nat_eq at t then true else stands_for_null l t
stands_for_null (_ ∷ l) t = stands_for_null l t

-- the type of the expression at a token; NULL, and the number 0 that stands for it, have none
abbrev pub type_noted : List Note → ℕ → CType
type_noted [] t = void_type
type_noted (typed at type ∷ l) t = if nat_eq at t then type else type_noted l t
type_noted (_ ∷ l) t = type_noted l t

abbrev pub type_at : List Note → ℕ → CType
type_at notes t = if stands_for_null notes t then void_type else type_noted notes t

-- the types of what is declared, in order
abbrev pub declared_types : List Note → List CType
declared_types [] = []
declared_types (declares at type ∷ l) = type ∷ declared_types l
declared_types (_ ∷ l) = declared_types l

-- ---- the tokens of an expression and those inside it, in order of their numbers: in order of the first token and then from the outside in

abbrev pub all_of : List (List ℕ) → List ℕ
all_of l = flat_map (λ x. x) l

abbrev pub token_level : Expr-F (List ℕ) → List ℕ
token_level (expr.Or f t a b) = t ∷ (a ++ b)
token_level (expr.And f t a b) = t ∷ (a ++ b)
token_level (expr.Equal f t a b) = t ∷ (a ++ b)
token_level (expr.Unequal f t a b) = t ∷ (a ++ b)
token_level (expr.Less f t a b) = t ∷ (a ++ b)
token_level (expr.Greater f t a b) = t ∷ (a ++ b)
token_level (expr.AtMost f t a b) = t ∷ (a ++ b)
token_level (expr.AtLeast f t a b) = t ∷ (a ++ b)
token_level (expr.Sum f t a b) = t ∷ (a ++ b)
token_level (expr.Difference f t a b) = t ∷ (a ++ b)
token_level (expr.Product f t a b) = t ∷ (a ++ b)
token_level (expr.Quotient f t a b) = t ∷ (a ++ b)
token_level (expr.Remainder f t a b) = t ∷ (a ++ b)
token_level (expr.Minus f t a) = t ∷ a
token_level (expr.Not f t a) = t ∷ a
token_level (expr.Deref f t a) = t ∷ a
token_level (expr.Address f t a) = t ∷ a
token_level (expr.Dot f t a name) = t ∷ a
token_level (expr.Arrow f t a name) = t ∷ a
token_level (expr.Index f t a i) = t ∷ (a ++ i)
token_level (expr.Name f t) = t ∷ []
token_level (expr.Number f t z) = t ∷ []
token_level (expr.Null f t) = t ∷ []
token_level (expr.Call f t args) = t ∷ all_of args
token_level (expr.Malloc f t cast m) = t ∷ []

abbrev pub tokens_in : Expr → List ℕ
tokens_in e = fold-Expr (List ℕ) token_level e

-- ---- the expressions that stand in statements, in order

abbrev pub expression_if : Option Expr → List Expr
expression_if None = []
expression_if (Some e) = e ∷ []

abbrev pub simple_expressions : source_simple.Simple → List Expr
simple_expressions (simple.Assign t l e) = l ∷ e ∷ []
simple_expressions (simple.AddTo t l e) = l ∷ e ∷ []
simple_expressions (simple.SubFrom t l e) = l ∷ e ∷ []
simple_expressions (simple.MulBy t l e) = l ∷ e ∷ []
simple_expressions (simple.DivBy t l e) = l ∷ e ∷ []
simple_expressions (simple.RemBy t l e) = l ∷ e ∷ []
simple_expressions (simple.Increase t l) = l ∷ []
simple_expressions (simple.Decrease t l) = l ∷ []
simple_expressions (simple.IncreaseFirst t l) = l ∷ []
simple_expressions (simple.DecreaseFirst t l) = l ∷ []
simple_expressions (simple.Call t args) = args
simple_expressions (simple.Assert t e) = e ∷ []
simple_expressions (simple.Assume t e) = e ∷ []
simple_expressions (simple.Abort t) = []
simple_expressions (simple.CrestInt t l) = l ∷ []

abbrev pub simple_expressions_if : Option source_simple.Simple → List Expr
simple_expressions_if None = []
simple_expressions_if (Some s) = simple_expressions s

abbrev pub start_expression : Option Initializer → List Expr
start_expression None = []
start_expression (Some i) = i.value ∷ []

abbrev pub decl_expressions : Decl → List Expr
decl_expressions d = flat_map (λ p. start_expression p.initializer) d.parts

abbrev pub head_expressions : Head → List Expr
head_expressions (head.Decl d) = decl_expressions d
head_expressions (head.Simple s) = simple_expressions_if s

abbrev pub part_expressions : Part-F (List Expr) (List Expr) → List Expr
part_expressions (stmt.Decl d) = decl_expressions d
part_expressions (stmt.Stmt s) = s

abbrev pub stmt_expressions : Stmt-F (List Expr) (List Expr) → List Expr
stmt_expressions stmt.Empty = []
stmt_expressions (stmt.Block parts) = flat_map (λ l. l) parts
stmt_expressions (stmt.If w c a) = c ∷ a
stmt_expressions (stmt.IfElse w c a b) = c ∷ (a ++ b)
stmt_expressions (stmt.While w c body) = c ∷ body
stmt_expressions (stmt.Do w body c) = body ++ c ∷ []
stmt_expressions (stmt.For w h c next body) = head_expressions h ++ (expression_if c ++ (simple_expressions_if next ++ body))
stmt_expressions (stmt.Return w e) = expression_if e
stmt_expressions (stmt.Break w) = []
stmt_expressions (stmt.Continue w) = []
stmt_expressions (stmt.Simple s) = simple_expressions s

abbrev pub expressions_of_part : Part → List Expr
expressions_of_part p = fold-Part (List Expr) (List Expr) part_expressions stmt_expressions p

abbrev pub item_expressions : Item → List Expr
item_expressions (item.Func f) = flat_map expressions_of_part f.body
item_expressions _ = []

-- the tokens of all expressions, in order of their numbers
abbrev pub expression_tokens : List Item → List ℕ
expression_tokens items = flat_map tokens_in (flat_map item_expressions items)

-- the types of the expressions, in order of their numbers
abbrev pub expression_types : (ℕ → Text) → List Item → List CType
expression_types text items = map (type_at (notes_in text items)) (expression_tokens items)

-- ---- types by their numbers

-- the type of this number in the list
pub data Denotes (tys : List Ty) : ℕ → CType → Type 0 where
  int : {n : ℕ} → slice_get tys n ≡ Some ty.Int → Denotes tys n int_type
  void : {n : ℕ} → slice_get tys n ≡ Some ty.Void → Denotes tys n void_type
  struct : {n : ℕ} (k : ℕ) → slice_get tys n ≡ Some (ty.Struct k) → Denotes tys n (record { base = struct_base k; stars = 0; lengths = [] })
  pointer : {n : ℕ} (m : TyId) (b : BaseType) (stars : ℕ) → slice_get tys n ≡ Some (ty.Ptr m) → Denotes tys m.0 (record { base = b; stars = stars; lengths = [] }) →
      Denotes tys n (record { base = b; stars = suc stars; lengths = [] })
  array : {n : ℕ} (m : TyId) (size : ℕ) (e : CType) → slice_get tys n ≡ Some (ty.Array m size) → Denotes tys m.0 e →
      Denotes tys n (record { base = e.base; stars = e.stars; lengths = size ∷ e.lengths })

-- the numbers denote the types, one after the other
abbrev pub AllDenote : List Ty → List TyId → List CType → Type 0
AllDenote tys [] [] = Unit {0}
AllDenote tys (n ∷ ns) (t ∷ ts) = Denotes tys n.0 t × AllDenote tys ns ts
AllDenote tys _ _ = ⊥

-- types that are known
abbrev pub known : List (Option CType) → List CType
known types = filter_map (λ t. t) types

abbrev pub result_of : Function → List CType
result_of f = known (f.result ∷ [])

-- the type of a declaration or an expression, one that such a type is made of, or void
pub data Mentioned (notes : List Note) (expressions : List CType) (functions : List Function) : CType → Type 0 where
  void : Mentioned notes expressions functions void_type
  expression : (t : CType) → In t expressions → Mentioned notes expressions functions t
  declaration : (t : CType) → In t (declared_types notes) → Mentioned notes expressions functions t
  result : (f : Function) (t : CType) → In f functions → f.result ≡ Some t → Mentioned notes expressions functions t
  param : (f : Function) (t : CType) → In f functions → In (Some t) f.params → Mentioned notes expressions functions t
  pointed : (t : CType) → Mentioned notes expressions functions t → is_pointer t ≡ true → Mentioned notes expressions functions (target_of t)
  element : (t : CType) → Mentioned notes expressions functions t → is_array t ≡ true → Mentioned notes expressions functions (element_of t)

-- the list has each type that is mentioned, once, and no other
pub record AreTypes (notes : List Note) (expressions : List CType) (functions : List Function) (tys : List Ty) : Type 0 where
  pub all : (t : CType) → Mentioned notes expressions functions t → (n : ℕ) × Denotes tys n t
  pub once : (m n : ℕ) (t : CType) → Denotes tys m t → Denotes tys n t → m ≡ n
  pub only : (n : ℕ) → n < length tys → (t : CType) × (Denotes tys n t × Mentioned notes expressions functions t)

-- ---- layouts

-- the cells of structs in order of definition: a field's struct is defined before it
abbrev pub cells_if : List (List TypeCell) → Option CType → List TypeCell
cells_if structs None = []
cells_if structs (Some t) = cells_in structs t

abbrev pub struct_cells : List (List TypeCell) → List Member → List TypeCell
struct_cells structs fields = flat_map (λ f. cells_if structs f.ty) fields

abbrev pub cells_after : List (List TypeCell) → List (List Member) → List (List TypeCell)
cells_after structs [] = structs
cells_after structs (s ∷ l) = cells_after (structs ++ struct_cells structs s ∷ []) l

-- the cells of a type of the file
abbrev pub layout_of : File → CType → List TypeCell
layout_of file t = cells_in (cells_after [] file.structs) t

abbrev pub IsCell : List Ty → CellTy → TypeCell → Type 0
IsCell tys cell.Int number_cell = Unit {0}
IsCell tys (cell.Ptr m) (pointer_cell t) = Denotes tys m.0 t
IsCell tys _ _ = ⊥

abbrev pub AreCells : List Ty → List CellTy → List TypeCell → Type 0
AreCells tys [] [] = Unit {0}
AreCells tys (c ∷ cs) (d ∷ ds) = IsCell tys c d × AreCells tys cs ds
AreCells tys _ _ = ⊥

-- ---- sites, globals, functions

abbrev pub line_or_zero : Option Token → ℕ
line_or_zero (Some t) = t.line
line_or_zero None = 0

abbrev pub col_or_zero : Option Token → ℕ
col_or_zero (Some t) = t.col
col_or_zero None = 0

abbrev pub site_of : List Token → Mark → Site
site_of tokens m = record { token = m.token; line = line_or_zero (slice_get tokens m.token); col = col_or_zero (slice_get tokens m.token); kind = m.kind }

-- the globals, in order of declarator
abbrev pub globals_in : (ℕ → Text) → List Item → List Variable
globals_in text items = (after_items text (file_of text items).tags nothing_before items).globals

module _ (text : ℕ → Text) (file : File) where
  -- what is said of a body and its parameters
  abbrev pub body_notes : Before → source_func.Func → List Note
  body_notes before f = (follow (params_of text file before f.params at_body) (body_of (part_of text file before (result_type text file.tags before f.result)) f.body)).notes

  -- the types of a function's locals: its parameters, and then its declarators in order; a function without a body has none
  abbrev pub slots_in : Before → Text → List Item → List CType
  slots_in before name [] = []
  slots_in before name (item.Func f ∷ l) = if bytes_eq (text f.name) name then declared_types (body_notes before f) else slots_in (after_item text file.tags before (item.Func f)) name l
  slots_in before name (i ∷ l) = slots_in (after_item text file.tags before i) name l

pub record IsSig (text : ℕ → Text) (items : List Item) (tys : List Ty) (f : Function) (s : Sig) : Type 0 where
  pub params : AllDenote tys s.params (known f.params)
  pub result : AllDenote tys (s.result ∷ []) (result_of f)
  pub slots : AllDenote tys s.slots (slots_in text (file_of text items) nothing_before f.name items)

abbrev pub AreSigs : (text : ℕ → Text) (items : List Item) (tys : List Ty) → List Function → List Sig → Type 0
AreSigs text items tys [] [] = Unit {0}
AreSigs text items tys (f ∷ fs) (s ∷ ss) = IsSig text items tys f s × AreSigs text items tys fs ss
AreSigs text items tys _ _ = ⊥

-- ---- the checked program: that of a well typed program, whose names have these texts, with a tested function

pub record IsChecked (text : ℕ → Text) (tokens : List Token) (entry : Text) (c : Checked) : Type 0 where
  pub well_typed : WellTyped text (c.program).items
  pub types : AreTypes (notes_in text (c.program).items) (expression_types text (c.program).items) (file_of text (c.program).items).functions c.tys
  pub layouts : length c.layouts ≡ length c.tys
  pub layout : (n : ℕ) (t : CType) → Denotes c.tys n t → (cells : List CellTy) × ((slice_get c.layouts n ≡ Some cells) × AreCells c.tys cells (layout_of (file_of text (c.program).items) t))
  pub expressions : AllDenote c.tys c.expr_tys (expression_types text (c.program).items)
  pub names : length c.names ≡ length tokens
  pub name : (t : ℕ) → t < length tokens → slice_get c.names t ≡ Some (meant (notes_in text (c.program).items) t)
  pub lines : c.lines ≡ map (λ t. t.line) tokens
  pub sites : c.sites ≡ map (site_of tokens) (sites_in (c.program).items)
  pub funcs : AreSigs text (c.program).items c.tys (file_of text (c.program).items).functions c.funcs
  pub globals : AllDenote c.tys c.globals (known (map (λ v. v.ty) (globals_in text (c.program).items)))
  pub tested : function_in entry (file_of text (c.program).items).functions ≡ Some c.entry
  pub has_body : has_entry text (c.program).items entry ≡ true

-- ---- what a checked program tells of tokens

abbrev pub cell_of : CellTy → Cell
cell_of cell.Int = int_cell
cell_of (cell.Ptr m) = ptr_cell m.0

abbrev pub flat : {A : Type 0} → Option (Option A) → Option A
flat None = None
flat (Some a) = a

abbrev pub target_id : Option Ty → ℕ
target_id (Some (ty.Ptr m)) = m.0
target_id _ = 0

abbrev pub array_length : Option Ty → ℕ
array_length (Some (ty.Array m n)) = n
array_length _ = 0

abbrev pub element_id : Option Ty → ℕ
element_id (Some (ty.Array m n)) = m.0
element_id _ = 0

abbrev pub is_void_ty : Option Ty → Bool
is_void_ty (Some ty.Void) = true
is_void_ty _ = false

module _ (c : Checked) where
  -- the cells of a type
  abbrev pub cells_at : ℕ → List Cell
  cells_at n = map cell_of (unwrap_or (slice_get c.layouts n) [])

  abbrev pub layout_at : ℕ → Layout
  layout_at n = record { type = n; cells = cells_at n }

  -- what the name at a token means
  abbrev pub name_at : ℕ → Option Target
  name_at t = flat (slice_get c.names t)

  -- the type of the expression at its operator, name, number or word, or of the one n numbers behind it
  -- `tokens` are those of the expressions in order
  abbrev pub expression_type : List ℕ → ℕ → ℕ → Option Ty
  expression_type tokens t n = option_and_then (λ k. option_and_then (λ i. slice_get c.tys i.0) (slice_get c.expr_tys (k + n))) (position (nat_eq t) tokens)

  -- the cells of the globals, in order
  abbrev pub cells_of_all : List TyId → List Cell
  cells_of_all ids = flat_map (λ i. cells_at i.0) ids

  abbrev pub slot_layout : Option Sig → Option Target → Layout
  slot_layout (Some s) (Some (target.Local n)) = unwrap_or (option_map (λ i. layout_at i.0) (slice_get s.slots n)) (layout_at 0)
  slot_layout _ _ = layout_at 0

  -- what a function gives; an int cell for `void`
  abbrev pub result_cell : Option Sig → Cell
  result_cell None = int_cell
  result_cell (Some s) = first_cell (cells_at (s.result).0)

  abbrev pub sig_named : Option Target → Option Sig
  sig_named (Some (target.Func n)) = slice_get c.funcs n
  sig_named _ = None

  -- of the tokens of function k. The operand of an index is the next expression behind it
  abbrev pub facts_by : List ℕ → ℕ → Facts
  facts_by tokens k = record {
    names = name_at;
    global_cells = λ n. length (cells_of_all (take n c.globals));
    made = λ t. layout_at (target_id (expression_type tokens t 0));
    declared = λ t. slot_layout (slice_get c.funcs k) (name_at t);
    lengths = λ t. array_length (expression_type tokens t 1);
    widths = λ t. length (cells_at (element_id (expression_type tokens t 1)));
    is_null = λ t. is_void_ty (expression_type tokens t 0);
    results = λ t. result_cell (sig_named (name_at t));
  }

  abbrev pub facts_in : ℕ → Facts
  facts_in k = facts_by (expression_tokens (c.program).items) k

  -- ---- the program of the meaning

  abbrev pub is_func : ℕ → Option Target → Bool
  is_func n (Some (target.Func m)) = nat_eq n m
  is_func n _ = false

  -- function n, where it has a body
  abbrev pub body_in : ℕ → List Item → Option source_func.Func
  body_in n [] = None
  body_in n (item.Func f ∷ l) = if is_func n (name_at f.name) then Some f else body_in n l
  body_in n (i ∷ l) = body_in n l

  -- of a function without a body; nothing calls it
  abbrev pub no_body : Func
  no_body = record { params = []; result = int_cell; body = core.finish }

  abbrev pub func_if : ℕ → Option source_func.Func → Func
  func_if n None = no_body
  func_if n (Some f) = func_of (facts_in n) f

  abbrev pub funcs_from : ℕ → List Sig → List Func
  funcs_from n [] = []
  funcs_from n (s ∷ l) = func_if n (body_in n (c.program).items) ∷ funcs_from (suc n) l

  -- what a cell starts with, where nothing is written (6.7.9)
  abbrev pub zero_start : Cell → Start
  zero_start int_cell = start_number (pos 0)
  zero_start (ptr_cell t) = start_null

  -- a number for an int, NULL for a pointer
  abbrev pub number_start : ℤ → Cell → Start
  number_start z int_cell = start_number z
  number_start z (ptr_cell t) = start_null

  abbrev pub started : StartValue → Cell → Start
  started (start_value.Number t z) d = number_start z d
  started (start_value.Negative m t z) d = number_start (neg_ℤ z) d
  started (start_value.Null t) d = start_null

  abbrev pub start_of : Option GlobalStart → Cell → Start
  start_of None d = zero_start d
  start_of (Some s) d = started s.value d

  abbrev pub starts_of : List GlobalPart → List TyId → List Start
  starts_of [] ids = []
  starts_of (p ∷ l) [] = []
  starts_of (p ∷ l) (i ∷ ids) = map (start_of p.start) (cells_at i.0) ++ starts_of l ids

  abbrev pub global_parts : Item → List GlobalPart
  global_parts (item.Globals base parts) = parts
  global_parts _ = []

  -- the program that is run
  abbrev pub core_of : Program
  core_of = record {
    funcs = funcs_from 0 c.funcs;
    line = λ t. unwrap_or (slice_get c.lines t) 0;
    layouts = cells_at;
    globals = starts_of (flat_map global_parts (c.program).items) c.globals;
    entry = c.entry;
  }
