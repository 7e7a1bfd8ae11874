-- Faults of small programs, computed from their source trees.
use Rattle.std.proofs.Common.{◌≡◌, ℕ, pos, List, [], ◌∷◌, Option, Some, None, nat_eq, nat_lt, nat_le, ◌&&◌, ◌||◌, if◌then◌else◌, refl, ap, ◌∙◌, codes}
use Rattle.cc_model.specs.declared.trees.Base.TheVariants as base
use Rattle.cc_model.specs.declared.trees.ResultType.TheVariants as returned
use Rattle.cc_model.specs.declared.trees.Expr.{Expr}
use Rattle.cc_model.specs.declared.trees.Expr.TheVariants as expr
use Rattle.cc_model.specs.declared.trees.Simple.TheVariants as simple
use Rattle.cc_model.specs.declared.trees.Head.TheVariants as head
use Rattle.cc_model.specs.declared.trees.Stmt.TheVariants as stmt
use Rattle.cc_model.specs.declared.trees.Part.{Part}
use Rattle.cc_model.specs.declared.trees.Part.TheVariants as part
use Rattle.cc_model.specs.declared.trees.StructDef.TheVariants as struct
use Rattle.cc_model.specs.declared.trees.StartValue.TheVariants as start_value
use Rattle.cc_model.specs.declared.trees.Item.{Item}
use Rattle.cc_model.specs.declared.trees.Item.TheVariants as item
use Rattle.cc_model.specs.Types.{CType}
use Rattle.cc_model.specs.Scopes.{Text, Before, File, View, nothing_before, file_of}
use Rattle.cc_model.specs.Typing.{unknown, twice, mismatch, too_large, Judged, typing_level, judged}
use Rattle.cc_model.specs.Faults.{Inside, Said, Found, wrong_rank, part_level, stmt_level, part_of, items_notes, faults_among, notes_in}
use Rattle.cc_model.proofs.Folds.{fold_of, folds, fold_of_part, folds_part}

-- a program: the texts of its names by their tokens, and its items
pub record Row : Type 0 where
  pub texts : List (ℕ × Text)
  pub items : List Item

abbrev pub text_in : List (ℕ × Text) → ℕ → Text
text_in [] t = []
text_in (p ∷ l) t = if nat_eq t p.0 then p.1 else text_in l t

-- in order of their tokens, and at one token by kind
abbrev inserted : Found → List Found → List Found
inserted f [] = f ∷ []
inserted f (g ∷ l) = if nat_lt f.token g.token || (nat_eq f.token g.token && nat_le (wrong_rank f.what) (wrong_rank g.what)) then f ∷ g ∷ l else g ∷ inserted f l

abbrev sorted : List Found → List Found
sorted [] = []
sorted (f ∷ l) = inserted f (sorted l)

faults_of : Row → List Found
faults_of r = sorted (faults_among (notes_in (text_in r.texts) r.items))

-- ---- the same, computed

unfoldable pub compute_judged : (ℕ → Text) → View → Expr → Judged
compute_judged text view e = fold_of (typing_level text view) e

unfoldable pub compute_part : (ℕ → Text) → File → Before → Option CType → Part → Inside → Said
compute_part text file before result p = fold_of_part (part_level (compute_judged text) text file before result) (stmt_level (compute_judged text) text file before result) p

unfoldable compute_faults : Row → List Found
compute_faults r = sorted (faults_among (items_notes (text_in r.texts) (file_of (text_in r.texts) r.items) (compute_part (text_in r.texts) (file_of (text_in r.texts) r.items)) nothing_before r.items))

computes_judged : (text : ℕ → Text) → judged text ≡ compute_judged text
unfolding compute_judged
computes_judged text = λ i view e. folds (typing_level text view) e i

pub computes_part : (text : ℕ → Text) (file : File) (before : Before) (result : Option CType) (p : Part) → part_of text file before result p ≡ compute_part text file before result p
unfolding compute_part
computes_part text file before result p = folds_part (part_level (judged text) text file before result) (stmt_level (judged text) text file before result) p
    ∙ ap (λ j. fold_of_part (part_level j text file before result) (stmt_level j text file before result) p) (computes_judged text)

computes_faults : (r : Row) → faults_of r ≡ compute_faults r
unfolding faults_of compute_faults
computes_faults r = λ i. sorted (faults_among (items_notes (text_in r.texts) (file_of (text_in r.texts) r.items)
    (λ before result p. computes_part (text_in r.texts) (file_of (text_in r.texts) r.items) before result p i) nothing_before r.items))

row : (r : Row) (l : List Found) → compute_faults r ≡ l → faults_of r ≡ l
row r l e = computes_faults r ∙ e

unfoldable pub everything : Unit {0}
unfolding
    fold_of fold_of_part Rattle.cc_model.proofs.Folds.fold_of_stmt compute_judged compute_part
    Rattle.cc_model.specs.declared.trees.Expr.TheBlock.hidden-the_row-Expr-0 Rattle.cc_model.specs.declared.trees.Expr.TheBlock.hidden-the_row-Expr-1
    Rattle.cc_model.specs.declared.trees.Part.TheBlock.hidden-the_row-Part-0 Rattle.cc_model.specs.declared.trees.Part.TheBlock.hidden-the_row-Stmt-1 denote.Hole.Carrier.hidden
everything = tt

-- well typed: struct cell { int v; struct cell *next; }; int f(struct cell *p, int x) { while (p) p = p->next; if (p == NULL) return 0; return p->v + x; }
unfoldable accepted : Row
accepted = record {
  texts = (1, codes "cell") ∷ (4, codes "v") ∷ (7, codes "cell") ∷ (9, codes "next") ∷ (14, codes "f") ∷ (17, codes "cell") ∷ (19, codes "p") ∷ (22, codes "x") ∷ (27, codes "p") ∷ (29, codes "p") ∷ (31, codes "p") ∷ (33, codes "next") ∷ (37, codes "p") ∷ (45, codes "p") ∷ (47, codes "v") ∷ (49, codes "x") ∷ [];
  items = item.Struct (struct.Tagged 1 (record { base = base.Int; parts = (record { stars = 0; name = 4; lengths = [] } ∷ []) } ∷ record { base = (base.Struct 7); parts = (record { stars = 1; name = 9; lengths = [] } ∷ []) } ∷ [])) ∷ item.Func (record { result = (returned.Value (record { base = base.Int; stars = 0 })); name = 14; params = (record { ty = record { base = (base.Struct 17); stars = 1 }; name = 19 } ∷ record { ty = record { base = base.Int; stars = 0 }; name = 22 } ∷ []); body = (part.Stmt (stmt.While 25 (expr.Name 27 27) (stmt.Simple (simple.Assign 30 (expr.Name 29 29) (expr.Arrow 31 32 (expr.Name 31 31) 33)))) ∷ part.Stmt (stmt.If 35 (expr.Equal 37 38 (expr.Name 37 37) (expr.Null 39 39)) (stmt.Return 41 (Some (expr.Number 42 42 (pos 0))))) ∷ part.Stmt (stmt.Return 44 (Some (expr.Sum 45 48 (expr.Arrow 45 46 (expr.Name 45 45) 47) (expr.Name 49 49)))) ∷ []) }) ∷ [];
}

accepted_faults : faults_of accepted ≡ []
unfolding everything faults_of compute_faults accepted
accepted_faults = row accepted _ refl

-- a name that nothing declares: int f(int x) { return y; }
unfoldable unknown_name : Row
unknown_name = record {
  texts = (1, codes "f") ∷ (4, codes "x") ∷ (8, codes "y") ∷ [];
  items = item.Func (record { result = (returned.Value (record { base = base.Int; stars = 0 })); name = 1; params = (record { ty = record { base = base.Int; stars = 0 }; name = 4 } ∷ []); body = (part.Stmt (stmt.Return 7 (Some (expr.Name 8 8))) ∷ []) }) ∷ [];
}

unknown_name_faults : faults_of unknown_name ≡ record { what = unknown; token = 8 } ∷ []
unfolding everything faults_of compute_faults unknown_name
unknown_name_faults = row unknown_name _ refl

-- a fault inside a part silences the rules around it: int g(int a) { return a; } int f(int *p) { return g(bad) + p; }
unfoldable bad_silences : Row
bad_silences = record {
  texts = (1, codes "g") ∷ (4, codes "a") ∷ (8, codes "a") ∷ (12, codes "f") ∷ (16, codes "p") ∷ (20, codes "g") ∷ (22, codes "bad") ∷ (25, codes "p") ∷ [];
  items = item.Func (record { result = (returned.Value (record { base = base.Int; stars = 0 })); name = 1; params = (record { ty = record { base = base.Int; stars = 0 }; name = 4 } ∷ []); body = (part.Stmt (stmt.Return 7 (Some (expr.Name 8 8))) ∷ []) }) ∷ item.Func (record { result = (returned.Value (record { base = base.Int; stars = 0 })); name = 12; params = (record { ty = record { base = base.Int; stars = 1 }; name = 16 } ∷ []); body = (part.Stmt (stmt.Return 19 (Some (expr.Sum 20 24 (expr.Call 20 20 ((expr.Name 22 22) ∷ [])) (expr.Name 25 25)))) ∷ []) }) ∷ [];
}

bad_silences_faults : faults_of bad_silences ≡ record { what = unknown; token = 22 } ∷ []
unfolding everything faults_of compute_faults bad_silences
bad_silences_faults = row bad_silences _ refl

-- also the count of a call, and the type of the other arguments: int g(int a) { return a; } int f(int *p) { return g(p, bad); }
unfoldable bad_call : Row
bad_call = record {
  texts = (1, codes "g") ∷ (4, codes "a") ∷ (8, codes "a") ∷ (12, codes "f") ∷ (16, codes "p") ∷ (20, codes "g") ∷ (22, codes "p") ∷ (24, codes "bad") ∷ [];
  items = item.Func (record { result = (returned.Value (record { base = base.Int; stars = 0 })); name = 1; params = (record { ty = record { base = base.Int; stars = 0 }; name = 4 } ∷ []); body = (part.Stmt (stmt.Return 7 (Some (expr.Name 8 8))) ∷ []) }) ∷ item.Func (record { result = (returned.Value (record { base = base.Int; stars = 0 })); name = 12; params = (record { ty = record { base = base.Int; stars = 1 }; name = 16 } ∷ []); body = (part.Stmt (stmt.Return 19 (Some (expr.Call 20 20 ((expr.Name 22 22) ∷ (expr.Name 24 24) ∷ [])))) ∷ []) }) ∷ [];
}

bad_call_faults : faults_of bad_call ≡ record { what = unknown; token = 24 } ∷ []
unfolding everything faults_of compute_faults bad_call
bad_call_faults = row bad_call _ refl

-- also that of `return`: void f(void) { return bad; }
unfoldable bad_return : Row
bad_return = record {
  texts = (1, codes "f") ∷ (7, codes "bad") ∷ [];
  items = item.Func (record { result = returned.Void; name = 1; params = []; body = (part.Stmt (stmt.Return 6 (Some (expr.Name 7 7))) ∷ []) }) ∷ [];
}

bad_return_faults : faults_of bad_return ≡ record { what = unknown; token = 7 } ∷ []
unfolding everything faults_of compute_faults bad_return
bad_return_faults = row bad_return _ refl

-- a field of 300 cells, and its length: struct s { int a[300]; };
unfoldable long_field : Row
long_field = record {
  texts = (1, codes "s") ∷ (4, codes "a") ∷ [];
  items = item.Struct (struct.Tagged 1 (record { base = base.Int; parts = (record { stars = 0; name = 4; lengths = (record { token = 6; value = pos 300 } ∷ []) } ∷ []) } ∷ [])) ∷ [];
}

long_field_faults : faults_of long_field ≡ record { what = too_large; token = 4 } ∷ record { what = too_large; token = 6 } ∷ []
unfolding everything faults_of compute_faults long_field
long_field_faults = row long_field _ refl

-- two fields of 200 cells: struct s { int a[200], b[200]; };
unfoldable large_struct : Row
large_struct = record {
  texts = (1, codes "s") ∷ (4, codes "a") ∷ (9, codes "b") ∷ [];
  items = item.Struct (struct.Tagged 1 (record { base = base.Int; parts = (record { stars = 0; name = 4; lengths = (record { token = 6; value = pos 200 } ∷ []) } ∷ record { stars = 0; name = 9; lengths = (record { token = 11; value = pos 200 } ∷ []) } ∷ []) } ∷ [])) ∷ [];
}

large_struct_faults : faults_of large_struct ≡ record { what = too_large; token = 1 } ∷ []
unfolding everything faults_of compute_faults large_struct
large_struct_faults = row large_struct _ refl

-- a struct without a tag is judged at the typedef's name: typedef struct { int a[200]; int b[200]; } t;
unfoldable large_untagged : Row
large_untagged = record {
  texts = (4, codes "a") ∷ (10, codes "b") ∷ (16, codes "t") ∷ [];
  items = item.Struct (struct.Named None (record { base = base.Int; parts = (record { stars = 0; name = 4; lengths = (record { token = 6; value = pos 200 } ∷ []) } ∷ []) } ∷ record { base = base.Int; parts = (record { stars = 0; name = 10; lengths = (record { token = 12; value = pos 200 } ∷ []) } ∷ []) } ∷ []) 16) ∷ [];
}

large_untagged_faults : faults_of large_untagged ≡ record { what = too_large; token = 16 } ∷ []
unfolding everything faults_of compute_faults large_untagged
large_untagged_faults = row large_untagged _ refl

-- a struct with a faulty field isn't judged: struct s { int a[200]; int a[200]; };
unfoldable faulty_field : Row
faulty_field = record {
  texts = (1, codes "s") ∷ (4, codes "a") ∷ (10, codes "a") ∷ [];
  items = item.Struct (struct.Tagged 1 (record { base = base.Int; parts = (record { stars = 0; name = 4; lengths = (record { token = 6; value = pos 200 } ∷ []) } ∷ []) } ∷ record { base = base.Int; parts = (record { stars = 0; name = 10; lengths = (record { token = 12; value = pos 200 } ∷ []) } ∷ []) } ∷ [])) ∷ [];
}

faulty_field_faults : faults_of faulty_field ≡ record { what = twice; token = 10 } ∷ []
unfolding everything faults_of compute_faults faulty_field
faulty_field_faults = row faulty_field _ refl

-- NULL is no pointer: int f(int *p) { if (NULL == 0) return 1; if (NULL != NULL) return 2; if (p == 0) return 3; return 0 == (0); }
unfoldable null_zero : Row
null_zero = record {
  texts = (1, codes "f") ∷ (5, codes "p") ∷ (28, codes "p") ∷ [];
  items = item.Func (record { result = (returned.Value (record { base = base.Int; stars = 0 })); name = 1; params = (record { ty = record { base = base.Int; stars = 1 }; name = 5 } ∷ []); body = (part.Stmt (stmt.If 8 (expr.Equal 10 11 (expr.Null 10 10) (expr.Number 12 12 (pos 0))) (stmt.Return 14 (Some (expr.Number 15 15 (pos 1))))) ∷ part.Stmt (stmt.If 17 (expr.Unequal 19 20 (expr.Null 19 19) (expr.Null 21 21)) (stmt.Return 23 (Some (expr.Number 24 24 (pos 2))))) ∷ part.Stmt (stmt.If 26 (expr.Equal 28 29 (expr.Name 28 28) (expr.Number 30 30 (pos 0))) (stmt.Return 32 (Some (expr.Number 33 33 (pos 3))))) ∷ part.Stmt (stmt.Return 35 (Some (expr.Equal 36 37 (expr.Number 36 36 (pos 0)) (expr.Number 38 39 (pos 0))))) ∷ []) }) ∷ [];
}

null_zero_faults : faults_of null_zero ≡ record { what = mismatch; token = 11 } ∷ record { what = mismatch; token = 20 } ∷ []
unfolding everything faults_of compute_faults null_zero
null_zero_faults = row null_zero _ refl

-- -0 is no NULL: int *q = 0; int *r = -0; int f(void) { int *p = -0; p = (0); p = 0 + 0; return 0; }
unfoldable minus_zero : Row
minus_zero = record {
  texts = (2, codes "q") ∷ (8, codes "r") ∷ (14, codes "f") ∷ (21, codes "p") ∷ (26, codes "p") ∷ (32, codes "p") ∷ [];
  items = item.Globals base.Int (record { declarator = record { stars = 1; name = 2; lengths = [] }; start = Some (record { equals = 3; value = start_value.Number 4 (pos 0) }) } ∷ []) ∷ item.Globals base.Int (record { declarator = record { stars = 1; name = 8; lengths = [] }; start = Some (record { equals = 9; value = start_value.Negative 10 11 (pos 0) }) } ∷ []) ∷ item.Func (record { result = (returned.Value (record { base = base.Int; stars = 0 })); name = 14; params = []; body = (part.Decl (record { base = base.Int; parts = (record { declarator = record { stars = 1; name = 21; lengths = [] }; initializer = Some (record { equals = 22; value = (expr.Minus 23 23 (expr.Number 24 24 (pos 0))) }) } ∷ []) }) ∷ part.Stmt (stmt.Simple (simple.Assign 27 (expr.Name 26 26) (expr.Number 28 29 (pos 0)))) ∷ part.Stmt (stmt.Simple (simple.Assign 33 (expr.Name 32 32) (expr.Sum 34 35 (expr.Number 34 34 (pos 0)) (expr.Number 36 36 (pos 0))))) ∷ part.Stmt (stmt.Return 38 (Some (expr.Number 39 39 (pos 0)))) ∷ []) }) ∷ [];
}

minus_zero_faults : faults_of minus_zero ≡ record { what = mismatch; token = 9 } ∷ record { what = mismatch; token = 22 } ∷ record { what = mismatch; token = 33 } ∷ []
unfolding everything faults_of compute_faults minus_zero
minus_zero_faults = row minus_zero _ refl

-- a variable is visible in its own initialiser: int f(void) { int x = x; int *p = p + 1; return x; }
unfoldable own_start : Row
own_start = record {
  texts = (1, codes "f") ∷ (7, codes "x") ∷ (9, codes "x") ∷ (13, codes "p") ∷ (15, codes "p") ∷ (20, codes "x") ∷ [];
  items = item.Func (record { result = (returned.Value (record { base = base.Int; stars = 0 })); name = 1; params = []; body = (part.Decl (record { base = base.Int; parts = (record { declarator = record { stars = 0; name = 7; lengths = [] }; initializer = Some (record { equals = 8; value = (expr.Name 9 9) }) } ∷ []) }) ∷ part.Decl (record { base = base.Int; parts = (record { declarator = record { stars = 1; name = 13; lengths = [] }; initializer = Some (record { equals = 14; value = (expr.Sum 15 16 (expr.Name 15 15) (expr.Number 17 17 (pos 1))) }) } ∷ []) }) ∷ part.Stmt (stmt.Return 19 (Some (expr.Name 20 20))) ∷ []) }) ∷ [];
}

own_start_faults : faults_of own_start ≡ record { what = mismatch; token = 16 } ∷ []
unfolding everything faults_of compute_faults own_start
own_start_faults = row own_start _ refl

-- an inner declaration hides an outer one: int *x; int f(int x) { { int *x; *x = 1; } x = 2; { struct s x; } return x; } struct s { int a; };
unfoldable shadows : Row
shadows = record {
  texts = (2, codes "x") ∷ (5, codes "f") ∷ (8, codes "x") ∷ (14, codes "x") ∷ (17, codes "x") ∷ (22, codes "x") ∷ (28, codes "s") ∷ (29, codes "x") ∷ (33, codes "x") ∷ (37, codes "s") ∷ (40, codes "a") ∷ [];
  items = item.Globals base.Int (record { declarator = record { stars = 1; name = 2; lengths = [] }; start = None } ∷ []) ∷ item.Func (record { result = (returned.Value (record { base = base.Int; stars = 0 })); name = 5; params = (record { ty = record { base = base.Int; stars = 0 }; name = 8 } ∷ []); body = (part.Stmt (stmt.Block (part.Decl (record { base = base.Int; parts = (record { declarator = record { stars = 1; name = 14; lengths = [] }; initializer = None } ∷ []) }) ∷ part.Stmt (stmt.Simple (simple.Assign 18 (expr.Deref 16 16 (expr.Name 17 17)) (expr.Number 19 19 (pos 1)))) ∷ [])) ∷ part.Stmt (stmt.Simple (simple.Assign 23 (expr.Name 22 22) (expr.Number 24 24 (pos 2)))) ∷ part.Stmt (stmt.Block (part.Decl (record { base = (base.Struct 28); parts = (record { declarator = record { stars = 0; name = 29; lengths = [] }; initializer = None } ∷ []) }) ∷ [])) ∷ part.Stmt (stmt.Return 32 (Some (expr.Name 33 33))) ∷ []) }) ∷ item.Struct (struct.Tagged 37 (record { base = base.Int; parts = (record { stars = 0; name = 40; lengths = [] } ∷ []) } ∷ [])) ∷ [];
}

shadows_faults : faults_of shadows ≡ record { what = unknown; token = 28 } ∷ []
unfolding everything faults_of compute_faults shadows
shadows_faults = row shadows _ refl

-- parameters stand in the scope of the body's outermost block: int f(int x, int x) { int x; { int x; int x; } for (int x = 0; x < 1; x++) { int x; x = 2; } return x; }
unfoldable same_scope : Row
same_scope = record {
  texts = (1, codes "f") ∷ (4, codes "x") ∷ (7, codes "x") ∷ (11, codes "x") ∷ (15, codes "x") ∷ (18, codes "x") ∷ (24, codes "x") ∷ (28, codes "x") ∷ (32, codes "x") ∷ (37, codes "x") ∷ (39, codes "x") ∷ (45, codes "x") ∷ [];
  items = item.Func (record { result = (returned.Value (record { base = base.Int; stars = 0 })); name = 1; params = (record { ty = record { base = base.Int; stars = 0 }; name = 4 } ∷ record { ty = record { base = base.Int; stars = 0 }; name = 7 } ∷ []); body = (part.Decl (record { base = base.Int; parts = (record { declarator = record { stars = 0; name = 11; lengths = [] }; initializer = None } ∷ []) }) ∷ part.Stmt (stmt.Block (part.Decl (record { base = base.Int; parts = (record { declarator = record { stars = 0; name = 15; lengths = [] }; initializer = None } ∷ []) }) ∷ part.Decl (record { base = base.Int; parts = (record { declarator = record { stars = 0; name = 18; lengths = [] }; initializer = None } ∷ []) }) ∷ [])) ∷ part.Stmt (stmt.For 21 (head.Decl (record { base = base.Int; parts = (record { declarator = record { stars = 0; name = 24; lengths = [] }; initializer = Some (record { equals = 25; value = (expr.Number 26 26 (pos 0)) }) } ∷ []) })) (Some (expr.Less 28 29 (expr.Name 28 28) (expr.Number 30 30 (pos 1)))) (Some (simple.Increase 33 (expr.Name 32 32))) (stmt.Block (part.Decl (record { base = base.Int; parts = (record { declarator = record { stars = 0; name = 37; lengths = [] }; initializer = None } ∷ []) }) ∷ part.Stmt (stmt.Simple (simple.Assign 40 (expr.Name 39 39) (expr.Number 41 41 (pos 2)))) ∷ []))) ∷ part.Stmt (stmt.Return 44 (Some (expr.Name 45 45))) ∷ []) }) ∷ [];
}

same_scope_faults : faults_of same_scope ≡ record { what = twice; token = 7 } ∷ record { what = twice; token = 11 } ∷ record { what = twice; token = 18 } ∷ []
unfolding everything faults_of compute_faults same_scope
same_scope_faults = row same_scope _ refl

-- a declaration ends with its block: int f(void) { { int y; y = 1; } for (int i = 0; i < 2; ++i) ; return i + y; }
unfoldable block_ends : Row
block_ends = record {
  texts = (1, codes "f") ∷ (8, codes "y") ∷ (10, codes "y") ∷ (18, codes "i") ∷ (22, codes "i") ∷ (27, codes "i") ∷ (31, codes "i") ∷ (33, codes "y") ∷ [];
  items = item.Func (record { result = (returned.Value (record { base = base.Int; stars = 0 })); name = 1; params = []; body = (part.Stmt (stmt.Block (part.Decl (record { base = base.Int; parts = (record { declarator = record { stars = 0; name = 8; lengths = [] }; initializer = None } ∷ []) }) ∷ part.Stmt (stmt.Simple (simple.Assign 11 (expr.Name 10 10) (expr.Number 12 12 (pos 1)))) ∷ [])) ∷ part.Stmt (stmt.For 15 (head.Decl (record { base = base.Int; parts = (record { declarator = record { stars = 0; name = 18; lengths = [] }; initializer = Some (record { equals = 19; value = (expr.Number 20 20 (pos 0)) }) } ∷ []) })) (Some (expr.Less 22 23 (expr.Name 22 22) (expr.Number 24 24 (pos 2)))) (Some (simple.IncreaseFirst 26 (expr.Name 27 27))) (stmt.Empty)) ∷ part.Stmt (stmt.Return 30 (Some (expr.Sum 31 32 (expr.Name 31 31) (expr.Name 33 33)))) ∷ []) }) ∷ [];
}

block_ends_faults : faults_of block_ends ≡ record { what = unknown; token = 31 } ∷ record { what = unknown; token = 33 } ∷ []
unfolding everything faults_of compute_faults block_ends
block_ends_faults = row block_ends _ refl

-- prototypes may repeat; their parameters stand in a scope of their own: int g(int a, int b); int g(int, int c); int f(int x) { return g(x, 1); } int g(int b, int a) { return a; }
unfoldable prototypes : Row
prototypes = record {
  texts = (1, codes "g") ∷ (4, codes "a") ∷ (7, codes "b") ∷ (11, codes "g") ∷ (16, codes "c") ∷ (20, codes "f") ∷ (23, codes "x") ∷ (27, codes "g") ∷ (29, codes "x") ∷ (36, codes "g") ∷ (39, codes "b") ∷ (42, codes "a") ∷ (46, codes "a") ∷ [];
  items = item.Prototype (returned.Value (record { base = base.Int; stars = 0 })) 1 (record { ty = record { base = base.Int; stars = 0 }; name = Some 4 } ∷ record { ty = record { base = base.Int; stars = 0 }; name = Some 7 } ∷ []) ∷ item.Prototype (returned.Value (record { base = base.Int; stars = 0 })) 11 (record { ty = record { base = base.Int; stars = 0 }; name = None } ∷ record { ty = record { base = base.Int; stars = 0 }; name = Some 16 } ∷ []) ∷ item.Func (record { result = (returned.Value (record { base = base.Int; stars = 0 })); name = 20; params = (record { ty = record { base = base.Int; stars = 0 }; name = 23 } ∷ []); body = (part.Stmt (stmt.Return 26 (Some (expr.Call 27 27 ((expr.Name 29 29) ∷ (expr.Number 31 31 (pos 1)) ∷ [])))) ∷ []) }) ∷ item.Func (record { result = (returned.Value (record { base = base.Int; stars = 0 })); name = 36; params = (record { ty = record { base = base.Int; stars = 0 }; name = 39 } ∷ record { ty = record { base = base.Int; stars = 0 }; name = 42 } ∷ []); body = (part.Stmt (stmt.Return 45 (Some (expr.Name 46 46))) ∷ []) }) ∷ [];
}

prototypes_faults : faults_of prototypes ≡ []
unfolding everything faults_of compute_faults prototypes
prototypes_faults = row prototypes _ refl

-- declarations of one function agree; one with prototypes alone isn't called: int g(int a); int g(int *a); void h(void); int h(void); int f(int x, int x2) { return g(x); } int p(int a, int a);
unfoldable disagree : Row
disagree = record {
  texts = (1, codes "g") ∷ (4, codes "a") ∷ (8, codes "g") ∷ (12, codes "a") ∷ (16, codes "h") ∷ (22, codes "h") ∷ (28, codes "f") ∷ (31, codes "x") ∷ (34, codes "x2") ∷ (38, codes "g") ∷ (40, codes "x") ∷ (45, codes "p") ∷ (48, codes "a") ∷ (51, codes "a") ∷ [];
  items = item.Prototype (returned.Value (record { base = base.Int; stars = 0 })) 1 (record { ty = record { base = base.Int; stars = 0 }; name = Some 4 } ∷ []) ∷ item.Prototype (returned.Value (record { base = base.Int; stars = 0 })) 8 (record { ty = record { base = base.Int; stars = 1 }; name = Some 12 } ∷ []) ∷ item.Prototype returned.Void 16 [] ∷ item.Prototype (returned.Value (record { base = base.Int; stars = 0 })) 22 [] ∷ item.Func (record { result = (returned.Value (record { base = base.Int; stars = 0 })); name = 28; params = (record { ty = record { base = base.Int; stars = 0 }; name = 31 } ∷ record { ty = record { base = base.Int; stars = 0 }; name = 34 } ∷ []); body = (part.Stmt (stmt.Return 37 (Some (expr.Call 38 38 ((expr.Name 40 40) ∷ [])))) ∷ []) }) ∷ item.Prototype (returned.Value (record { base = base.Int; stars = 0 })) 45 (record { ty = record { base = base.Int; stars = 0 }; name = Some 48 } ∷ record { ty = record { base = base.Int; stars = 0 }; name = Some 51 } ∷ []) ∷ [];
}

disagree_faults : faults_of disagree ≡ record { what = mismatch; token = 8 } ∷ record { what = mismatch; token = 22 } ∷ record { what = unknown; token = 38 } ∷ record { what = twice; token = 51 } ∷ []
unfolding everything faults_of compute_faults disagree
disagree_faults = row disagree _ refl

-- a second body: int f(void) { return 0; } int f(void) { return 1; } int x; int x; struct s { int a; }; struct s { int b; };
unfoldable bodies : Row
bodies = record {
  texts = (1, codes "f") ∷ (11, codes "f") ∷ (21, codes "x") ∷ (24, codes "x") ∷ (27, codes "s") ∷ (30, codes "a") ∷ (35, codes "s") ∷ (38, codes "b") ∷ [];
  items = item.Func (record { result = (returned.Value (record { base = base.Int; stars = 0 })); name = 1; params = []; body = (part.Stmt (stmt.Return 6 (Some (expr.Number 7 7 (pos 0)))) ∷ []) }) ∷ item.Func (record { result = (returned.Value (record { base = base.Int; stars = 0 })); name = 11; params = []; body = (part.Stmt (stmt.Return 16 (Some (expr.Number 17 17 (pos 1)))) ∷ []) }) ∷ item.Globals base.Int (record { declarator = record { stars = 0; name = 21; lengths = [] }; start = None } ∷ []) ∷ item.Globals base.Int (record { declarator = record { stars = 0; name = 24; lengths = [] }; start = None } ∷ []) ∷ item.Struct (struct.Tagged 27 (record { base = base.Int; parts = (record { stars = 0; name = 30; lengths = [] } ∷ []) } ∷ [])) ∷ item.Struct (struct.Tagged 35 (record { base = base.Int; parts = (record { stars = 0; name = 38; lengths = [] } ∷ []) } ∷ [])) ∷ [];
}

bodies_faults : faults_of bodies ≡ record { what = twice; token = 11 } ∷ record { what = twice; token = 24 } ∷ record { what = twice; token = 35 } ∷ []
unfolding everything faults_of compute_faults bodies
bodies_faults = row bodies _ refl

-- `return` and `void`: void g(void) { return; } int h(int x) { return; } void f(int x) { return 1; } int k(void) { g(); return g(); }
unfoldable void_value : Row
void_value = record {
  texts = (1, codes "g") ∷ (10, codes "h") ∷ (13, codes "x") ∷ (20, codes "f") ∷ (23, codes "x") ∷ (31, codes "k") ∷ (36, codes "g") ∷ (41, codes "g") ∷ [];
  items = item.Func (record { result = returned.Void; name = 1; params = []; body = (part.Stmt (stmt.Return 6 None) ∷ []) }) ∷ item.Func (record { result = (returned.Value (record { base = base.Int; stars = 0 })); name = 10; params = (record { ty = record { base = base.Int; stars = 0 }; name = 13 } ∷ []); body = (part.Stmt (stmt.Return 16 None) ∷ []) }) ∷ item.Func (record { result = returned.Void; name = 20; params = (record { ty = record { base = base.Int; stars = 0 }; name = 23 } ∷ []); body = (part.Stmt (stmt.Return 26 (Some (expr.Number 27 27 (pos 1)))) ∷ []) }) ∷ item.Func (record { result = (returned.Value (record { base = base.Int; stars = 0 })); name = 31; params = []; body = (part.Stmt (stmt.Simple (simple.Call 36 [])) ∷ part.Stmt (stmt.Return 40 (Some (expr.Call 41 41 []))) ∷ []) }) ∷ [];
}

void_value_faults : faults_of void_value ≡ record { what = mismatch; token = 16 } ∷ record { what = mismatch; token = 26 } ∷ record { what = mismatch; token = 41 } ∷ []
unfolding everything faults_of compute_faults void_value
void_value_faults = row void_value _ refl

-- a typedef's name isn't declared anew: typedef struct s t; struct s { int t; t *n; }; int f(t *t2) { int t; return 0; } int g(int, int t); int h(void) { return t; }
unfoldable typedef_names : Row
typedef_names = record {
  texts = (2, codes "s") ∷ (3, codes "t") ∷ (6, codes "s") ∷ (9, codes "t") ∷ (11, codes "t") ∷ (13, codes "n") ∷ (18, codes "f") ∷ (20, codes "t") ∷ (22, codes "t2") ∷ (26, codes "t") ∷ (33, codes "g") ∷ (38, codes "t") ∷ (42, codes "h") ∷ (48, codes "t") ∷ [];
  items = item.Alias 2 3 ∷ item.Struct (struct.Tagged 6 (record { base = base.Int; parts = (record { stars = 0; name = 9; lengths = [] } ∷ []) } ∷ record { base = (base.Alias 11); parts = (record { stars = 1; name = 13; lengths = [] } ∷ []) } ∷ [])) ∷ item.Func (record { result = (returned.Value (record { base = base.Int; stars = 0 })); name = 18; params = (record { ty = record { base = (base.Alias 20); stars = 1 }; name = 22 } ∷ []); body = (part.Decl (record { base = base.Int; parts = (record { declarator = record { stars = 0; name = 26; lengths = [] }; initializer = None } ∷ []) }) ∷ part.Stmt (stmt.Return 28 (Some (expr.Number 29 29 (pos 0)))) ∷ []) }) ∷ item.Prototype (returned.Value (record { base = base.Int; stars = 0 })) 33 (record { ty = record { base = base.Int; stars = 0 }; name = None } ∷ record { ty = record { base = base.Int; stars = 0 }; name = Some 38 } ∷ []) ∷ item.Func (record { result = (returned.Value (record { base = base.Int; stars = 0 })); name = 42; params = []; body = (part.Stmt (stmt.Return 47 (Some (expr.Name 48 48))) ∷ []) }) ∷ [];
}

typedef_names_faults : faults_of typedef_names ≡ record { what = twice; token = 26 } ∷ record { what = twice; token = 38 } ∷ record { what = unknown; token = 48 } ∷ []
unfolding everything faults_of compute_faults typedef_names
typedef_names_faults = row typedef_names _ refl

-- a pointer may name a tag that is defined later; a variable needs a definition before it: typedef struct x t; int f(t *p) { return p->v; } t a; struct x b; t *c; struct x { int v; struct x own; }; t d; typedef struct nope e;
unfoldable forward : Row
forward = record {
  texts = (2, codes "x") ∷ (3, codes "t") ∷ (6, codes "f") ∷ (8, codes "t") ∷ (10, codes "p") ∷ (14, codes "p") ∷ (16, codes "v") ∷ (19, codes "t") ∷ (20, codes "a") ∷ (23, codes "x") ∷ (24, codes "b") ∷ (26, codes "t") ∷ (28, codes "c") ∷ (31, codes "x") ∷ (34, codes "v") ∷ (37, codes "x") ∷ (38, codes "own") ∷ (42, codes "t") ∷ (43, codes "d") ∷ (47, codes "nope") ∷ (48, codes "e") ∷ [];
  items = item.Alias 2 3 ∷ item.Func (record { result = (returned.Value (record { base = base.Int; stars = 0 })); name = 6; params = (record { ty = record { base = (base.Alias 8); stars = 1 }; name = 10 } ∷ []); body = (part.Stmt (stmt.Return 13 (Some (expr.Arrow 14 15 (expr.Name 14 14) 16))) ∷ []) }) ∷ item.Globals (base.Alias 19) (record { declarator = record { stars = 0; name = 20; lengths = [] }; start = None } ∷ []) ∷ item.Globals (base.Struct 23) (record { declarator = record { stars = 0; name = 24; lengths = [] }; start = None } ∷ []) ∷ item.Globals (base.Alias 26) (record { declarator = record { stars = 1; name = 28; lengths = [] }; start = None } ∷ []) ∷ item.Struct (struct.Tagged 31 (record { base = base.Int; parts = (record { stars = 0; name = 34; lengths = [] } ∷ []) } ∷ record { base = (base.Struct 37); parts = (record { stars = 0; name = 38; lengths = [] } ∷ []) } ∷ [])) ∷ item.Globals (base.Alias 42) (record { declarator = record { stars = 0; name = 43; lengths = [] }; start = None } ∷ []) ∷ item.Alias 47 48 ∷ [];
}

forward_faults : faults_of forward ≡ record { what = unknown; token = 19 } ∷ record { what = unknown; token = 23 } ∷ record { what = unknown; token = 37 } ∷ record { what = unknown; token = 47 } ∷ []
unfolding everything faults_of compute_faults forward
forward_faults = row forward _ refl

-- parameters and results are no structs: struct s { int a; }; int f(struct s p) { return 0; } int g(struct s); struct s h(int a); int k(struct u); struct u { int b; };
unfoldable struct_params : Row
struct_params = record {
  texts = (1, codes "s") ∷ (4, codes "a") ∷ (9, codes "f") ∷ (12, codes "s") ∷ (13, codes "p") ∷ (21, codes "g") ∷ (24, codes "s") ∷ (28, codes "s") ∷ (29, codes "h") ∷ (32, codes "a") ∷ (36, codes "k") ∷ (39, codes "u") ∷ (43, codes "u") ∷ (46, codes "b") ∷ [];
  items = item.Struct (struct.Tagged 1 (record { base = base.Int; parts = (record { stars = 0; name = 4; lengths = [] } ∷ []) } ∷ [])) ∷ item.Func (record { result = (returned.Value (record { base = base.Int; stars = 0 })); name = 9; params = (record { ty = record { base = (base.Struct 12); stars = 0 }; name = 13 } ∷ []); body = (part.Stmt (stmt.Return 16 (Some (expr.Number 17 17 (pos 0)))) ∷ []) }) ∷ item.Prototype (returned.Value (record { base = base.Int; stars = 0 })) 21 (record { ty = record { base = (base.Struct 24); stars = 0 }; name = None } ∷ []) ∷ item.Prototype (returned.Value (record { base = (base.Struct 28); stars = 0 })) 29 (record { ty = record { base = base.Int; stars = 0 }; name = Some 32 } ∷ []) ∷ item.Prototype (returned.Value (record { base = base.Int; stars = 0 })) 36 (record { ty = record { base = (base.Struct 39); stars = 0 }; name = None } ∷ []) ∷ item.Struct (struct.Tagged 43 (record { base = base.Int; parts = (record { stars = 0; name = 46; lengths = [] } ∷ []) } ∷ [])) ∷ [];
}

struct_params_faults : faults_of struct_params ≡ record { what = mismatch; token = 13 } ∷ record { what = mismatch; token = 21 } ∷ record { what = mismatch; token = 29 } ∷ record { what = unknown; token = 39 } ∷ []
unfolding everything faults_of compute_faults struct_params
struct_params_faults = row struct_params _ refl

-- what operators take: struct s { int a; }; int f(int *p, struct s *q, int x) { int t[2]; x = p + 1; x = -p; x = !NULL; x = *x; x = p->a; x = q.a; x = x[0]; x = t[p2]; p = &t; p = &t[1]; x = q->b; x = (*q).a; x = x < p; return 0; }
unfoldable operators : Row
operators = record {
  texts = (1, codes "s") ∷ (4, codes "a") ∷ (9, codes "f") ∷ (13, codes "p") ∷ (16, codes "s") ∷ (18, codes "q") ∷ (21, codes "x") ∷ (25, codes "t") ∷ (30, codes "x") ∷ (32, codes "p") ∷ (36, codes "x") ∷ (39, codes "p") ∷ (41, codes "x") ∷ (46, codes "x") ∷ (49, codes "x") ∷ (51, codes "x") ∷ (53, codes "p") ∷ (55, codes "a") ∷ (57, codes "x") ∷ (59, codes "q") ∷ (61, codes "a") ∷ (63, codes "x") ∷ (65, codes "x") ∷ (70, codes "x") ∷ (72, codes "t") ∷ (74, codes "p2") ∷ (77, codes "p") ∷ (80, codes "t") ∷ (82, codes "p") ∷ (85, codes "t") ∷ (90, codes "x") ∷ (92, codes "q") ∷ (94, codes "b") ∷ (96, codes "x") ∷ (100, codes "q") ∷ (103, codes "a") ∷ (105, codes "x") ∷ (107, codes "x") ∷ (109, codes "p") ∷ [];
  items = item.Struct (struct.Tagged 1 (record { base = base.Int; parts = (record { stars = 0; name = 4; lengths = [] } ∷ []) } ∷ [])) ∷ item.Func (record { result = (returned.Value (record { base = base.Int; stars = 0 })); name = 9; params = (record { ty = record { base = base.Int; stars = 1 }; name = 13 } ∷ record { ty = record { base = (base.Struct 16); stars = 1 }; name = 18 } ∷ record { ty = record { base = base.Int; stars = 0 }; name = 21 } ∷ []); body = (part.Decl (record { base = base.Int; parts = (record { declarator = record { stars = 0; name = 25; lengths = (record { token = 27; value = pos 2 } ∷ []) }; initializer = None } ∷ []) }) ∷ part.Stmt (stmt.Simple (simple.Assign 31 (expr.Name 30 30) (expr.Sum 32 33 (expr.Name 32 32) (expr.Number 34 34 (pos 1))))) ∷ part.Stmt (stmt.Simple (simple.Assign 37 (expr.Name 36 36) (expr.Minus 38 38 (expr.Name 39 39)))) ∷ part.Stmt (stmt.Simple (simple.Assign 42 (expr.Name 41 41) (expr.Not 43 43 (expr.Null 44 44)))) ∷ part.Stmt (stmt.Simple (simple.Assign 47 (expr.Name 46 46) (expr.Deref 48 48 (expr.Name 49 49)))) ∷ part.Stmt (stmt.Simple (simple.Assign 52 (expr.Name 51 51) (expr.Arrow 53 54 (expr.Name 53 53) 55))) ∷ part.Stmt (stmt.Simple (simple.Assign 58 (expr.Name 57 57) (expr.Dot 59 60 (expr.Name 59 59) 61))) ∷ part.Stmt (stmt.Simple (simple.Assign 64 (expr.Name 63 63) (expr.Index 65 66 (expr.Name 65 65) (expr.Number 67 67 (pos 0))))) ∷ part.Stmt (stmt.Simple (simple.Assign 71 (expr.Name 70 70) (expr.Index 72 73 (expr.Name 72 72) (expr.Name 74 74)))) ∷ part.Stmt (stmt.Simple (simple.Assign 78 (expr.Name 77 77) (expr.Address 79 79 (expr.Name 80 80)))) ∷ part.Stmt (stmt.Simple (simple.Assign 83 (expr.Name 82 82) (expr.Address 84 84 (expr.Index 85 86 (expr.Name 85 85) (expr.Number 87 87 (pos 1)))))) ∷ part.Stmt (stmt.Simple (simple.Assign 91 (expr.Name 90 90) (expr.Arrow 92 93 (expr.Name 92 92) 94))) ∷ part.Stmt (stmt.Simple (simple.Assign 97 (expr.Name 96 96) (expr.Dot 98 102 (expr.Deref 98 99 (expr.Name 100 100)) 103))) ∷ part.Stmt (stmt.Simple (simple.Assign 106 (expr.Name 105 105) (expr.Less 107 108 (expr.Name 107 107) (expr.Name 109 109)))) ∷ part.Stmt (stmt.Return 111 (Some (expr.Number 112 112 (pos 0)))) ∷ []) }) ∷ [];
}

operators_faults : faults_of operators ≡ record { what = mismatch; token = 33 } ∷ record { what = mismatch; token = 38 } ∷ record { what = mismatch; token = 43 } ∷ record { what = mismatch; token = 48 } ∷ record { what = mismatch; token = 54 } ∷ record { what = mismatch; token = 60 } ∷ record { what = mismatch; token = 66 } ∷ record { what = unknown; token = 74 } ∷ record { what = mismatch; token = 79 } ∷ record { what = unknown; token = 94 } ∷ record { what = mismatch; token = 108 } ∷ []
unfolding everything faults_of compute_faults operators
operators_faults = row operators _ refl

-- what assignments take: struct s { int a; }; int f(int *p, struct s *q, int x) { int t[2]; x = p; 1 = x; t = x; *q = *q; p = q; p += 1; x += p; p++; ++q; x--; CREST_int(p); CREST_int(*p); x = NULL; return 0; }
unfoldable assignments : Row
assignments = record {
  texts = (1, codes "s") ∷ (4, codes "a") ∷ (9, codes "f") ∷ (13, codes "p") ∷ (16, codes "s") ∷ (18, codes "q") ∷ (21, codes "x") ∷ (25, codes "t") ∷ (30, codes "x") ∷ (32, codes "p") ∷ (36, codes "x") ∷ (38, codes "t") ∷ (40, codes "x") ∷ (43, codes "q") ∷ (46, codes "q") ∷ (48, codes "p") ∷ (50, codes "q") ∷ (52, codes "p") ∷ (56, codes "x") ∷ (58, codes "p") ∷ (60, codes "p") ∷ (64, codes "q") ∷ (66, codes "x") ∷ (71, codes "p") ∷ (77, codes "p") ∷ (80, codes "x") ∷ [];
  items = item.Struct (struct.Tagged 1 (record { base = base.Int; parts = (record { stars = 0; name = 4; lengths = [] } ∷ []) } ∷ [])) ∷ item.Func (record { result = (returned.Value (record { base = base.Int; stars = 0 })); name = 9; params = (record { ty = record { base = base.Int; stars = 1 }; name = 13 } ∷ record { ty = record { base = (base.Struct 16); stars = 1 }; name = 18 } ∷ record { ty = record { base = base.Int; stars = 0 }; name = 21 } ∷ []); body = (part.Decl (record { base = base.Int; parts = (record { declarator = record { stars = 0; name = 25; lengths = (record { token = 27; value = pos 2 } ∷ []) }; initializer = None } ∷ []) }) ∷ part.Stmt (stmt.Simple (simple.Assign 31 (expr.Name 30 30) (expr.Name 32 32))) ∷ part.Stmt (stmt.Simple (simple.Assign 35 (expr.Number 34 34 (pos 1)) (expr.Name 36 36))) ∷ part.Stmt (stmt.Simple (simple.Assign 39 (expr.Name 38 38) (expr.Name 40 40))) ∷ part.Stmt (stmt.Simple (simple.Assign 44 (expr.Deref 42 42 (expr.Name 43 43)) (expr.Deref 45 45 (expr.Name 46 46)))) ∷ part.Stmt (stmt.Simple (simple.Assign 49 (expr.Name 48 48) (expr.Name 50 50))) ∷ part.Stmt (stmt.Simple (simple.AddTo 53 (expr.Name 52 52) (expr.Number 54 54 (pos 1)))) ∷ part.Stmt (stmt.Simple (simple.AddTo 57 (expr.Name 56 56) (expr.Name 58 58))) ∷ part.Stmt (stmt.Simple (simple.Increase 61 (expr.Name 60 60))) ∷ part.Stmt (stmt.Simple (simple.IncreaseFirst 63 (expr.Name 64 64))) ∷ part.Stmt (stmt.Simple (simple.Decrease 67 (expr.Name 66 66))) ∷ part.Stmt (stmt.Simple (simple.CrestInt 69 (expr.Name 71 71))) ∷ part.Stmt (stmt.Simple (simple.CrestInt 74 (expr.Deref 76 76 (expr.Name 77 77)))) ∷ part.Stmt (stmt.Simple (simple.Assign 81 (expr.Name 80 80) (expr.Null 82 82))) ∷ part.Stmt (stmt.Return 84 (Some (expr.Number 85 85 (pos 0)))) ∷ []) }) ∷ [];
}

assignments_faults : faults_of assignments ≡ record { what = mismatch; token = 31 } ∷ record { what = mismatch; token = 35 } ∷ record { what = mismatch; token = 39 } ∷ record { what = mismatch; token = 44 } ∷ record { what = mismatch; token = 49 } ∷ record { what = mismatch; token = 53 } ∷ record { what = mismatch; token = 57 } ∷ record { what = mismatch; token = 61 } ∷ record { what = mismatch; token = 63 } ∷ record { what = mismatch; token = 69 } ∷ record { what = mismatch; token = 81 } ∷ []
unfolding everything faults_of compute_faults assignments
assignments_faults = row assignments _ refl

-- what conditions take: struct s { int a; }; int f(int *p, struct s *q) { if (*q) ; while (NULL) ; do ; while (p); for (;;) break; for (; *q;) continue; break; continue; assert(NULL); assume(p); abort(); return p && q; }
unfoldable conditions : Row
conditions = record {
  texts = (1, codes "s") ∷ (4, codes "a") ∷ (9, codes "f") ∷ (13, codes "p") ∷ (16, codes "s") ∷ (18, codes "q") ∷ (24, codes "q") ∷ (36, codes "p") ∷ (50, codes "q") ∷ (66, codes "p") ∷ (74, codes "p") ∷ (76, codes "q") ∷ [];
  items = item.Struct (struct.Tagged 1 (record { base = base.Int; parts = (record { stars = 0; name = 4; lengths = [] } ∷ []) } ∷ [])) ∷ item.Func (record { result = (returned.Value (record { base = base.Int; stars = 0 })); name = 9; params = (record { ty = record { base = base.Int; stars = 1 }; name = 13 } ∷ record { ty = record { base = (base.Struct 16); stars = 1 }; name = 18 } ∷ []); body = (part.Stmt (stmt.If 21 (expr.Deref 23 23 (expr.Name 24 24)) (stmt.Empty)) ∷ part.Stmt (stmt.While 27 (expr.Null 29 29) (stmt.Empty)) ∷ part.Stmt (stmt.Do 32 (stmt.Empty) (expr.Name 36 36)) ∷ part.Stmt (stmt.For 39 (head.Simple None) None None (stmt.Break 44)) ∷ part.Stmt (stmt.For 46 (head.Simple None) (Some (expr.Deref 49 49 (expr.Name 50 50))) None (stmt.Continue 53)) ∷ part.Stmt (stmt.Break 55) ∷ part.Stmt (stmt.Continue 57) ∷ part.Stmt (stmt.Simple (simple.Assert 59 (expr.Null 61 61))) ∷ part.Stmt (stmt.Simple (simple.Assume 64 (expr.Name 66 66))) ∷ part.Stmt (stmt.Simple (simple.Abort 69)) ∷ part.Stmt (stmt.Return 73 (Some (expr.And 74 75 (expr.Name 74 74) (expr.Name 76 76)))) ∷ []) }) ∷ [];
}

conditions_faults : faults_of conditions ≡ record { what = mismatch; token = 21 } ∷ record { what = mismatch; token = 27 } ∷ record { what = mismatch; token = 46 } ∷ record { what = mismatch; token = 55 } ∷ record { what = mismatch; token = 57 } ∷ record { what = mismatch; token = 59 } ∷ []
unfolding everything faults_of compute_faults conditions
conditions_faults = row conditions _ refl

-- calls, and `malloc`: struct s { int a; }; int g(int a, int *p) { return a; } int f(int x) { int *p = malloc(sizeof(int)); p = (int *) malloc(sizeof(int)); p = (int **) malloc(sizeof(int)); struct s *q = (struct s *) malloc(sizeof(struct s)); g(x, 0); g(x, NULL); g(p, x); g(x); h(x); x(1); return g + x; }
unfoldable calls : Row
calls = record {
  texts = (1, codes "s") ∷ (4, codes "a") ∷ (9, codes "g") ∷ (12, codes "a") ∷ (16, codes "p") ∷ (20, codes "a") ∷ (24, codes "f") ∷ (27, codes "x") ∷ (32, codes "p") ∷ (42, codes "p") ∷ (56, codes "p") ∷ (72, codes "s") ∷ (74, codes "q") ∷ (78, codes "s") ∷ (86, codes "s") ∷ (90, codes "g") ∷ (92, codes "x") ∷ (97, codes "g") ∷ (99, codes "x") ∷ (104, codes "g") ∷ (106, codes "p") ∷ (108, codes "x") ∷ (111, codes "g") ∷ (113, codes "x") ∷ (116, codes "h") ∷ (118, codes "x") ∷ (121, codes "x") ∷ (127, codes "g") ∷ (129, codes "x") ∷ [];
  items = item.Struct (struct.Tagged 1 (record { base = base.Int; parts = (record { stars = 0; name = 4; lengths = [] } ∷ []) } ∷ [])) ∷ item.Func (record { result = (returned.Value (record { base = base.Int; stars = 0 })); name = 9; params = (record { ty = record { base = base.Int; stars = 0 }; name = 12 } ∷ record { ty = record { base = base.Int; stars = 1 }; name = 16 } ∷ []); body = (part.Stmt (stmt.Return 19 (Some (expr.Name 20 20))) ∷ []) }) ∷ item.Func (record { result = (returned.Value (record { base = base.Int; stars = 0 })); name = 24; params = (record { ty = record { base = base.Int; stars = 0 }; name = 27 } ∷ []); body = (part.Decl (record { base = base.Int; parts = (record { declarator = record { stars = 1; name = 32; lengths = [] }; initializer = Some (record { equals = 33; value = (expr.Malloc 34 34 None (record { base = base.Int; stars = 0 })) }) } ∷ []) }) ∷ part.Stmt (stmt.Simple (simple.Assign 43 (expr.Name 42 42) (expr.Malloc 44 48 (Some (record { base = base.Int; stars = 1 })) (record { base = base.Int; stars = 0 })))) ∷ part.Stmt (stmt.Simple (simple.Assign 57 (expr.Name 56 56) (expr.Malloc 58 63 (Some (record { base = base.Int; stars = 2 })) (record { base = base.Int; stars = 0 })))) ∷ part.Decl (record { base = (base.Struct 72); parts = (record { declarator = record { stars = 1; name = 74; lengths = [] }; initializer = Some (record { equals = 75; value = (expr.Malloc 76 81 (Some (record { base = (base.Struct 78); stars = 1 })) (record { base = (base.Struct 86); stars = 0 })) }) } ∷ []) }) ∷ part.Stmt (stmt.Simple (simple.Call 90 ((expr.Name 92 92) ∷ (expr.Number 94 94 (pos 0)) ∷ []))) ∷ part.Stmt (stmt.Simple (simple.Call 97 ((expr.Name 99 99) ∷ (expr.Null 101 101) ∷ []))) ∷ part.Stmt (stmt.Simple (simple.Call 104 ((expr.Name 106 106) ∷ (expr.Name 108 108) ∷ []))) ∷ part.Stmt (stmt.Simple (simple.Call 111 ((expr.Name 113 113) ∷ []))) ∷ part.Stmt (stmt.Simple (simple.Call 116 ((expr.Name 118 118) ∷ []))) ∷ part.Stmt (stmt.Simple (simple.Call 121 ((expr.Number 123 123 (pos 1)) ∷ []))) ∷ part.Stmt (stmt.Return 126 (Some (expr.Sum 127 128 (expr.Name 127 127) (expr.Name 129 129)))) ∷ []) }) ∷ [];
}

calls_faults : faults_of calls ≡ record { what = mismatch; token = 63 } ∷ record { what = mismatch; token = 106 } ∷ record { what = mismatch; token = 108 } ∷ record { what = mismatch; token = 111 } ∷ record { what = unknown; token = 116 } ∷ record { what = unknown; token = 121 } ∷ record { what = unknown; token = 127 } ∷ []
unfolding everything faults_of compute_faults calls
calls_faults = row calls _ refl

-- an array's length is 1 to 256, and a type has at most 256 cells: int a[0]; int b[256]; int c[16][17]; int *d[257]; int f(void) { int e[2][129]; return a[0] + b[1]; }
unfoldable lengths : Row
lengths = record {
  texts = (1, codes "a") ∷ (7, codes "b") ∷ (13, codes "c") ∷ (23, codes "d") ∷ (29, codes "f") ∷ (35, codes "e") ∷ (44, codes "a") ∷ (49, codes "b") ∷ [];
  items = item.Globals base.Int (record { declarator = record { stars = 0; name = 1; lengths = (record { token = 3; value = pos 0 } ∷ []) }; start = None } ∷ []) ∷ item.Globals base.Int (record { declarator = record { stars = 0; name = 7; lengths = (record { token = 9; value = pos 256 } ∷ []) }; start = None } ∷ []) ∷ item.Globals base.Int (record { declarator = record { stars = 0; name = 13; lengths = (record { token = 15; value = pos 16 } ∷ record { token = 18; value = pos 17 } ∷ []) }; start = None } ∷ []) ∷ item.Globals base.Int (record { declarator = record { stars = 1; name = 23; lengths = (record { token = 25; value = pos 257 } ∷ []) }; start = None } ∷ []) ∷ item.Func (record { result = (returned.Value (record { base = base.Int; stars = 0 })); name = 29; params = []; body = (part.Decl (record { base = base.Int; parts = (record { declarator = record { stars = 0; name = 35; lengths = (record { token = 37; value = pos 2 } ∷ record { token = 40; value = pos 129 } ∷ []) }; initializer = None } ∷ []) }) ∷ part.Stmt (stmt.Return 43 (Some (expr.Sum 44 48 (expr.Index 44 45 (expr.Name 44 44) (expr.Number 46 46 (pos 0))) (expr.Index 49 50 (expr.Name 49 49) (expr.Number 51 51 (pos 1)))))) ∷ []) }) ∷ [];
}

lengths_faults : faults_of lengths ≡ record { what = too_large; token = 3 } ∷ record { what = too_large; token = 13 } ∷ record { what = too_large; token = 23 } ∷ record { what = too_large; token = 25 } ∷ record { what = too_large; token = 35 } ∷ []
unfolding everything faults_of compute_faults lengths
lengths_faults = row lengths _ refl

-- a local hides a function, and functions are visible before: int f(void) { return g(); } int g(void) { int g; return g(); }
unfoldable calls_hidden : Row
calls_hidden = record {
  texts = (1, codes "f") ∷ (7, codes "g") ∷ (13, codes "g") ∷ (19, codes "g") ∷ (22, codes "g") ∷ [];
  items = item.Func (record { result = (returned.Value (record { base = base.Int; stars = 0 })); name = 1; params = []; body = (part.Stmt (stmt.Return 6 (Some (expr.Call 7 7 []))) ∷ []) }) ∷ item.Func (record { result = (returned.Value (record { base = base.Int; stars = 0 })); name = 13; params = []; body = (part.Decl (record { base = base.Int; parts = (record { declarator = record { stars = 0; name = 19; lengths = [] }; initializer = None } ∷ []) }) ∷ part.Stmt (stmt.Return 21 (Some (expr.Call 22 22 []))) ∷ []) }) ∷ [];
}

calls_hidden_faults : faults_of calls_hidden ≡ record { what = unknown; token = 22 } ∷ []
unfolding everything faults_of compute_faults calls_hidden
calls_hidden_faults = row calls_hidden _ refl

-- a loop's body is no scope of its condition: int f(void) { do { int y; y = 0; } while (y); return 0; }
unfoldable do_body : Row
do_body = record {
  texts = (1, codes "f") ∷ (9, codes "y") ∷ (11, codes "y") ∷ (18, codes "y") ∷ [];
  items = item.Func (record { result = (returned.Value (record { base = base.Int; stars = 0 })); name = 1; params = []; body = (part.Stmt (stmt.Do 6 (stmt.Block (part.Decl (record { base = base.Int; parts = (record { declarator = record { stars = 0; name = 9; lengths = [] }; initializer = None } ∷ []) }) ∷ part.Stmt (stmt.Simple (simple.Assign 12 (expr.Name 11 11) (expr.Number 13 13 (pos 0)))) ∷ [])) (expr.Name 18 18)) ∷ part.Stmt (stmt.Return 21 (Some (expr.Number 22 22 (pos 0)))) ∷ []) }) ∷ [];
}

do_body_faults : faults_of do_body ≡ record { what = unknown; token = 18 } ∷ []
unfolding everything faults_of compute_faults do_body
do_body_faults = row do_body _ refl
