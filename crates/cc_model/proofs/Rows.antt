-- Runs of small programs, computed from their source trees.
use Rattle.std.proofs.Common.{◌≡◌, ℕ, suc, ℤ, pos, negsuc, true, false, List, [], ◌∷◌, map, Option, Some, None, nat_eq, nat_le, if◌then◌else◌, refl, ap, ◌∙◌}
use Rattle.cc_base.specs.declared.outcomes.Outcome.{Outcome}
use Rattle.cc_base.specs.declared.outcomes.Outcome.TheVariants.{Zero, High, Low, Plain, False, True, Object}
use Rattle.cc_base.specs.declared.ends.End.{End}
use Rattle.cc_base.specs.declared.ends.End.TheVariants.{Return, Assume, Cut, Objects, Steps, Fault}
use Rattle.cc_base.specs.declared.ends.FaultKind.TheVariants as fault
use Rattle.cc_base.specs.declared.inputs.Input.{Input}
use Rattle.cc_base.specs.Limits.{Limits}
use Rattle.cc_model.specs.declared.checked.SiteKind.{SiteKind}
use Rattle.cc_model.specs.declared.checked.SiteKind.TheVariants.{Decision, Fit, Divisor}
use Rattle.cc_model.specs.declared.checked.Target.{Target}
use Rattle.cc_model.specs.declared.checked.Target.TheVariants as target
use Rattle.cc_model.specs.declared.trees.Base.TheVariants as base
use Rattle.cc_model.specs.declared.trees.ResultType.TheVariants as gives
use Rattle.cc_model.specs.declared.trees.Expr.TheVariants as expr
use Rattle.cc_model.specs.declared.trees.Simple.TheVariants as simple
use Rattle.cc_model.specs.declared.trees.Head.TheVariants as head
use Rattle.cc_model.specs.declared.trees.Stmt.TheVariants as stmt
use Rattle.cc_model.specs.declared.trees.Part.TheVariants as part
use Rattle.cc_model.specs.declared.trees.Func.{Func}
use Rattle.cc_model.specs.Core.{Cell, int_cell, ptr_cell, Layout, Start, start_number, start_null, Program}
use Rattle.cc_model.specs.Meaning.{Entry, State, Result, ok, over}
use Rattle.cc_model.specs.Plain.{Value, Data}
use Rattle.cc_model.specs.Resolve.{Facts, func_of}
use Rattle.cc_model.specs.Runs.{run_of, path_at, end_at}
use Rattle.cc_model.proofs.Compute.{everything}
use Rattle.cc_model.proofs.Computed.{compute_func, computes_func, written}

-- a program as its functions are written, with what a checker tells of it, and the first token of each line
pub record Source : Type 0 where
  pub facts : Facts
  pub funcs : List Func
  pub line_starts : List ℕ
  pub layouts : ℕ → List Cell
  pub globals : List Start
  pub entry : ℕ

-- what a table tells of a token
abbrev told : {A : Type 0} → A → List (ℕ × A) → ℕ → A
told other [] t = other
told other (p ∷ l) t = if nat_eq t p.0 then p.1 else told other l t

abbrev named : List (ℕ × Target) → ℕ → Option Target
named [] t = None
named (p ∷ l) t = if nat_eq t p.0 then Some p.1 else named l t

abbrev no_layout : Layout
no_layout = record { type = 0; cells = [] }

-- the line of a token: how many lines begin at or before it
abbrev line_of : List ℕ → ℕ → ℕ
line_of [] t = 0
line_of (s ∷ l) t = if nat_le s t then suc (line_of l t) else 0

-- the program, resolved from its source trees
pub program_of : Source → Program
program_of s = record { funcs = map (func_of s.facts) s.funcs; line = line_of s.line_starts; layouts = s.layouts; globals = s.globals; entry = s.entry }

-- what is seen of a run: its path, its end, and the steps that are left
record Shown : Type 0 where
  path : List Outcome
  end : End
  left : ℕ

abbrev steps_left : Result (State Value Data) (Unit {0}) → ℕ
steps_left (ok a s) = s.steps
steps_left (over e s) = s.steps

shows : Program → Limits → Input → Shown
shows p b h = record { path = path_at p b h; end = end_at p b h; left = steps_left (run_of p b h).result }

-- the sites of a run's events, in order
record At : Type 0 where
  kind : SiteKind
  token : ℕ

abbrev sites_in : List (Entry Outcome) → List At
sites_in [] = []
sites_in (e ∷ l) = record { kind = e.kind; token = e.token } ∷ sites_in l

sites_at : Program → Limits → Input → List At
sites_at p b h = sites_in (run_of p b h).log

-- the full range of numbers
unfoldable pub bounds : ℕ → ℕ → ℕ → Limits
bounds depth objects steps = record { lo = negsuc 2147483647; hi = pos 2147483647; depth = depth; objects = objects; steps = steps }

abbrev pub input : List ℤ → List ℤ → Input
input cells stream = record { cells = cells; stream = stream }

unfoldable pub compute_program : Source → Program
compute_program s = record { funcs = map (compute_func s.facts) s.funcs; line = line_of s.line_starts; layouts = s.layouts; globals = s.globals; entry = s.entry }

pub computes_program : (s : Source) → program_of s ≡ compute_program s
unfolding program_of compute_program
computes_program s = λ i. record { funcs = map (λ f. computes_func s.facts f i) s.funcs; line = line_of s.line_starts; layouts = s.layouts; globals = s.globals; entry = s.entry }

row : (s : Source) (b : Limits) (h : Input) (r : Shown) → shows (compute_program s) b h ≡ r → shows (program_of s) b h ≡ r
row s b h r e = ap (λ p. shows p b h) (computes_program s) ∙ e

sites_row : (s : Source) (b : Limits) (h : Input) (r : List At) → sites_at (compute_program s) b h ≡ r → sites_at (program_of s) b h ≡ r
sites_row s b h r e = ap (λ p. sites_at p b h) (computes_program s) ∙ e

-- int f(void) { return 0; }
unfoldable p1 : Source
p1 = record {
  facts = record {
    names = named ((1, target.Func 0) ∷ []);
    global_cells = told 0 [];
    made = told no_layout [];
    declared = told no_layout [];
    lengths = told 0 [];
    widths = told 0 [];
    is_null = told false [];
    results = told int_cell ((1, int_cell) ∷ []);
  };
  funcs =
      record {
        result = (gives.Value (record { base = base.Int; stars = 0 }));
        name = 1;
        params = [];
        body = part.Stmt (stmt.Return 6 (Some (expr.Number 7 7 (pos 0)))) ∷ [];
      } ∷ [];
  line_starts = 0 ∷ [];
  layouts = told [] [];
  globals = [];
  entry = 0;
}

p1_returns : shows (program_of p1) (bounds 100 8 2) (input [] []) ≡ record { path = []; end = Return; left = 0 }
unfolding everything written shows bounds compute_program p1
p1_returns = row p1 (bounds 100 8 2) (input [] []) _ refl

p1_steps : shows (program_of p1) (bounds 100 8 1) (input [] []) ≡ record { path = []; end = Steps; left = 0 }
unfolding everything written shows bounds compute_program p1
p1_steps = row p1 (bounds 100 8 1) (input [] []) _ refl

-- int f(int x) { return x + 1; }
unfoldable pub p2 : Source
p2 = record {
  facts = record {
    names = named ((1, target.Func 0) ∷ (4, target.Local 0) ∷ (8, target.Local 0) ∷ []);
    global_cells = told 0 [];
    made = told no_layout [];
    declared = told no_layout ((4, record { type = 0; cells = int_cell ∷ [] }) ∷ []);
    lengths = told 0 [];
    widths = told 0 [];
    is_null = told false [];
    results = told int_cell ((1, int_cell) ∷ []);
  };
  funcs =
      record {
        result = (gives.Value (record { base = base.Int; stars = 0 }));
        name = 1;
        params = record { ty = record { base = base.Int; stars = 0 }; name = 4 } ∷ [];
        body = part.Stmt (stmt.Return 7 (Some (expr.Sum 8 9 (expr.Name 8 8) (expr.Number 10 10 (pos 1))))) ∷ [];
      } ∷ [];
  line_starts = 0 ∷ [];
  layouts = told [] ((0, int_cell ∷ []) ∷ []);
  globals = [];
  entry = 0;
}

p2_high : shows (program_of p2) (bounds 1 8 100000) (input (pos 2147483647 ∷ []) []) ≡ record { path = High ∷ []; end = Fault fault.Overflow 1; left = 99997 }
unfolding everything written shows bounds compute_program p2
p2_high = row p2 (bounds 1 8 100000) (input (pos 2147483647 ∷ []) []) _ refl

p2_plain : shows (program_of p2) (bounds 1 8 100000) (input (pos 0 ∷ []) []) ≡ record { path = Plain ∷ []; end = Return; left = 99997 }
unfolding everything written shows bounds compute_program p2
p2_plain = row p2 (bounds 1 8 100000) (input (pos 0 ∷ []) []) _ refl

-- int f(int x) { return x - 1; }
unfoldable less_one : Source
less_one = record {
  facts = record {
    names = named ((1, target.Func 0) ∷ (4, target.Local 0) ∷ (8, target.Local 0) ∷ []);
    global_cells = told 0 [];
    made = told no_layout [];
    declared = told no_layout ((4, record { type = 0; cells = int_cell ∷ [] }) ∷ []);
    lengths = told 0 [];
    widths = told 0 [];
    is_null = told false [];
    results = told int_cell ((1, int_cell) ∷ []);
  };
  funcs =
      record {
        result = (gives.Value (record { base = base.Int; stars = 0 }));
        name = 1;
        params = record { ty = record { base = base.Int; stars = 0 }; name = 4 } ∷ [];
        body = part.Stmt (stmt.Return 7 (Some (expr.Difference 8 9 (expr.Name 8 8) (expr.Number 10 10 (pos 1))))) ∷ [];
      } ∷ [];
  line_starts = 0 ∷ [];
  layouts = told [] ((0, int_cell ∷ []) ∷ []);
  globals = [];
  entry = 0;
}

less_one_low : shows (program_of less_one) (bounds 100 8 1000) (input (negsuc 2147483647 ∷ []) []) ≡ record { path = Low ∷ []; end = Fault fault.Overflow 1; left = 997 }
unfolding everything written shows bounds compute_program less_one
less_one_low = row less_one (bounds 100 8 1000) (input (negsuc 2147483647 ∷ []) []) _ refl

-- #include <stdlib.h>
-- typedef struct cell { int v; struct cell *next; } cell;
-- int f(int v) { return 2 * v + 1; }
-- int testme(cell *p, int x) {
--   if (x > 0)
--     if (p != NULL)
--       if (f(x) == p->v)
--         if (p->next == p) abort();
--   return 0; /* no fault */
-- }
unfoldable pub p3 : Source
p3 = record {
  facts = record {
    names = named ((16, target.Func 0) ∷ (19, target.Local 0) ∷ (25, target.Local 0) ∷ (31, target.Func 1) ∷ (35, target.Local 0) ∷ (38, target.Local 1) ∷ (43, target.Local 1) ∷ (49, target.Local 0) ∷ (55, target.Func 0) ∷ (57, target.Local 1) ∷ (60, target.Local 0) ∷ (62, target.Field 0) ∷ (66, target.Local 0) ∷ (68, target.Field 1) ∷ (70, target.Local 0) ∷ []);
    global_cells = told 0 [];
    made = told no_layout [];
    declared = told no_layout ((19, record { type = 0; cells = int_cell ∷ [] }) ∷ (35, record { type = 1; cells = ptr_cell 2 ∷ [] }) ∷ (38, record { type = 0; cells = int_cell ∷ [] }) ∷ []);
    lengths = told 0 [];
    widths = told 0 [];
    is_null = told false [];
    results = told int_cell ((16, int_cell) ∷ (31, int_cell) ∷ []);
  };
  funcs =
      record {
        result = (gives.Value (record { base = base.Int; stars = 0 }));
        name = 16;
        params = record { ty = record { base = base.Int; stars = 0 }; name = 19 } ∷ [];
        body = part.Stmt (stmt.Return 22 (Some (expr.Sum 23 26 (expr.Product 23 24 (expr.Number 23 23 (pos 2)) (expr.Name 25 25)) (expr.Number 27 27 (pos 1))))) ∷ [];
      } ∷ record {
        result = (gives.Value (record { base = base.Int; stars = 0 }));
        name = 31;
        params = record { ty = record { base = (base.Alias 33); stars = 1 }; name = 35 } ∷ record { ty = record { base = base.Int; stars = 0 }; name = 38 } ∷ [];
        body = part.Stmt (stmt.If 41 (expr.Greater 43 44 (expr.Name 43 43) (expr.Number 45 45 (pos 0))) (stmt.If 47 (expr.Unequal 49 50 (expr.Name 49 49) (expr.Null 51 51)) (stmt.If 53 (expr.Equal 55 59 (expr.Call 55 55 ((expr.Name 57 57) ∷ [])) (expr.Arrow 60 61 (expr.Name 60 60) 62)) (stmt.If 64 (expr.Equal 66 69 (expr.Arrow 66 67 (expr.Name 66 66) 68) (expr.Name 70 70)) (stmt.Simple (simple.Abort 72)))))) ∷ part.Stmt (stmt.Return 76 (Some (expr.Number 77 77 (pos 0)))) ∷ [];
      } ∷ [];
  line_starts = 0 ∷ 0 ∷ 15 ∷ 30 ∷ 41 ∷ 47 ∷ 53 ∷ 64 ∷ 76 ∷ 79 ∷ [];
  layouts = told [] ((0, int_cell ∷ []) ∷ (1, ptr_cell 2 ∷ []) ∷ (2, int_cell ∷ ptr_cell 2 ∷ []) ∷ []);
  globals = [];
  entry = 1;
}

p3_abort : shows (program_of p3) (bounds 10 8 100000) (input (pos 3 ∷ pos 1 ∷ pos 3 ∷ pos 3 ∷ []) []) ≡ record { path = True ∷ True ∷ Plain ∷ Plain ∷ Object 0 ∷ True ∷ Object 0 ∷ True ∷ []; end = Fault fault.Abort 8; left = 99981 }
unfolding everything written shows bounds compute_program p3
p3_abort = row p3 (bounds 10 8 100000) (input (pos 3 ∷ pos 1 ∷ pos 3 ∷ pos 3 ∷ []) []) _ refl

p3_not_positive : shows (program_of p3) (bounds 10 8 100000) (input (pos 0 ∷ pos 0 ∷ []) []) ≡ record { path = False ∷ []; end = Return; left = 99996 }
unfolding everything written shows bounds compute_program p3
p3_not_positive = row p3 (bounds 10 8 100000) (input (pos 0 ∷ pos 0 ∷ []) []) _ refl

p3_null : shows (program_of p3) (bounds 10 8 100000) (input (pos 0 ∷ pos 1 ∷ []) []) ≡ record { path = True ∷ False ∷ []; end = Return; left = 99994 }
unfolding everything written shows bounds compute_program p3
p3_null = row p3 (bounds 10 8 100000) (input (pos 0 ∷ pos 1 ∷ []) []) _ refl

p3_overflow : shows (program_of p3) (bounds 10 8 100000) (input (pos 3 ∷ pos 1073741824 ∷ pos 0 ∷ pos 0 ∷ []) []) ≡ record { path = True ∷ True ∷ High ∷ []; end = Fault fault.Overflow 3; left = 99987 }
unfolding everything written shows bounds compute_program p3
p3_overflow = row p3 (bounds 10 8 100000) (input (pos 3 ∷ pos 1073741824 ∷ pos 0 ∷ pos 0 ∷ []) []) _ refl

p3_other_value : shows (program_of p3) (bounds 10 8 100000) (input (pos 3 ∷ pos 1 ∷ pos 0 ∷ pos 0 ∷ []) []) ≡ record { path = True ∷ True ∷ Plain ∷ Plain ∷ Object 0 ∷ False ∷ []; end = Return; left = 99985 }
unfolding everything written shows bounds compute_program p3
p3_other_value = row p3 (bounds 10 8 100000) (input (pos 3 ∷ pos 1 ∷ pos 0 ∷ pos 0 ∷ []) []) _ refl

p3_other_link : shows (program_of p3) (bounds 10 8 100000) (input (pos 3 ∷ pos 1 ∷ pos 3 ∷ pos 0 ∷ []) []) ≡ record { path = True ∷ True ∷ Plain ∷ Plain ∷ Object 0 ∷ True ∷ Object 0 ∷ False ∷ []; end = Return; left = 99982 }
unfolding everything written shows bounds compute_program p3
p3_other_link = row p3 (bounds 10 8 100000) (input (pos 3 ∷ pos 1 ∷ pos 3 ∷ pos 0 ∷ []) []) _ refl

-- struct cell { int v; struct cell *next; };
-- int f(struct cell *p) {
--   while (p) p = p->next;
--   return 0;
-- }
unfoldable p4 : Source
p4 = record {
  facts = record {
    names = named ((14, target.Func 0) ∷ (19, target.Local 0) ∷ (24, target.Local 0) ∷ (26, target.Local 0) ∷ (28, target.Local 0) ∷ (30, target.Field 1) ∷ []);
    global_cells = told 0 [];
    made = told no_layout [];
    declared = told no_layout ((19, record { type = 0; cells = ptr_cell 1 ∷ [] }) ∷ []);
    lengths = told 0 [];
    widths = told 0 [];
    is_null = told false [];
    results = told int_cell ((14, int_cell) ∷ []);
  };
  funcs =
      record {
        result = (gives.Value (record { base = base.Int; stars = 0 }));
        name = 14;
        params = record { ty = record { base = (base.Struct 17); stars = 1 }; name = 19 } ∷ [];
        body = part.Stmt (stmt.While 22 (expr.Name 24 24) (stmt.Simple (simple.Assign 27 (expr.Name 26 26) (expr.Arrow 28 29 (expr.Name 28 28) 30)))) ∷ part.Stmt (stmt.Return 32 (Some (expr.Number 33 33 (pos 0)))) ∷ [];
      } ∷ [];
  line_starts = 0 ∷ 13 ∷ 22 ∷ 32 ∷ 35 ∷ [];
  layouts = told [] ((0, ptr_cell 1 ∷ []) ∷ (1, int_cell ∷ ptr_cell 1 ∷ []) ∷ []);
  globals = [];
  entry = 0;
}

p4_returns : shows (program_of p4) (bounds 3 8 1000) (input (pos 2 ∷ pos 0 ∷ pos 0 ∷ []) []) ≡ record { path = True ∷ Object 0 ∷ False ∷ []; end = Return; left = 995 }
unfolding everything written shows bounds compute_program p4
p4_returns = row p4 (bounds 3 8 1000) (input (pos 2 ∷ pos 0 ∷ pos 0 ∷ []) []) _ refl

p4_cut : shows (program_of p4) (bounds 3 8 1000) (input (pos 2 ∷ pos 0 ∷ pos 4 ∷ pos 0 ∷ pos 0 ∷ []) []) ≡ record { path = True ∷ Object 0 ∷ True ∷ []; end = Cut; left = 994 }
unfolding everything written shows bounds compute_program p4
p4_cut = row p4 (bounds 3 8 1000) (input (pos 2 ∷ pos 0 ∷ pos 4 ∷ pos 0 ∷ pos 0 ∷ []) []) _ refl

p4_objects : shows (program_of p4) (bounds 4 1 1000) (input (pos 2 ∷ pos 0 ∷ pos 4 ∷ pos 0 ∷ pos 0 ∷ []) []) ≡ record { path = True ∷ Object 0 ∷ True ∷ Object 1 ∷ []; end = Objects; left = 994 }
unfolding everything written shows bounds compute_program p4
p4_objects = row p4 (bounds 4 1 1000) (input (pos 2 ∷ pos 0 ∷ pos 4 ∷ pos 0 ∷ pos 0 ∷ []) []) _ refl

p4_same : shows (program_of p4) (bounds 4 1 1000) (input (pos 2 ∷ pos 0 ∷ pos 2 ∷ []) []) ≡ record { path = True ∷ Object 0 ∷ True ∷ Object 0 ∷ []; end = Cut; left = 994 }
unfolding everything written shows bounds compute_program p4
p4_same = row p4 (bounds 4 1 1000) (input (pos 2 ∷ pos 0 ∷ pos 2 ∷ []) []) _ refl

-- struct cell { int v; struct cell *next; };
-- int f(struct cell *p, struct cell *q) {
--   p->v = 1;
--   q->v = 2;
--   assert(p->v == 1);
--   return 0;
-- }
unfoldable pub p5 : Source
p5 = record {
  facts = record {
    names = named ((14, target.Func 0) ∷ (19, target.Local 0) ∷ (24, target.Local 1) ∷ (27, target.Local 0) ∷ (29, target.Field 0) ∷ (33, target.Local 1) ∷ (35, target.Field 0) ∷ (41, target.Local 0) ∷ (43, target.Field 0) ∷ []);
    global_cells = told 0 [];
    made = told no_layout [];
    declared = told no_layout ((19, record { type = 0; cells = ptr_cell 1 ∷ [] }) ∷ (24, record { type = 0; cells = ptr_cell 1 ∷ [] }) ∷ []);
    lengths = told 0 [];
    widths = told 0 [];
    is_null = told false [];
    results = told int_cell ((14, int_cell) ∷ []);
  };
  funcs =
      record {
        result = (gives.Value (record { base = base.Int; stars = 0 }));
        name = 14;
        params = record { ty = record { base = (base.Struct 17); stars = 1 }; name = 19 } ∷ record { ty = record { base = (base.Struct 22); stars = 1 }; name = 24 } ∷ [];
        body = part.Stmt (stmt.Simple (simple.Assign 30 (expr.Arrow 27 28 (expr.Name 27 27) 29) (expr.Number 31 31 (pos 1)))) ∷ part.Stmt (stmt.Simple (simple.Assign 36 (expr.Arrow 33 34 (expr.Name 33 33) 35) (expr.Number 37 37 (pos 2)))) ∷ part.Stmt (stmt.Simple (simple.Assert 39 (expr.Equal 41 44 (expr.Arrow 41 42 (expr.Name 41 41) 43) (expr.Number 45 45 (pos 1))))) ∷ part.Stmt (stmt.Return 48 (Some (expr.Number 49 49 (pos 0)))) ∷ [];
      } ∷ [];
  line_starts = 0 ∷ 13 ∷ 27 ∷ 33 ∷ 39 ∷ 48 ∷ 51 ∷ [];
  layouts = told [] ((0, ptr_cell 1 ∷ []) ∷ (1, int_cell ∷ ptr_cell 1 ∷ []) ∷ []);
  globals = [];
  entry = 0;
}

p5_same : shows (program_of p5) (bounds 10 8 100000) (input (pos 3 ∷ pos 3 ∷ pos 0 ∷ pos 0 ∷ []) []) ≡ record { path = Object 0 ∷ Object 0 ∷ Object 0 ∷ False ∷ []; end = Fault fault.Assert 5; left = 99991 }
unfolding everything written shows bounds compute_program p5
p5_same = row p5 (bounds 10 8 100000) (input (pos 3 ∷ pos 3 ∷ pos 0 ∷ pos 0 ∷ []) []) _ refl

p5_apart : shows (program_of p5) (bounds 10 8 100000) (input (pos 3 ∷ pos 5 ∷ pos 0 ∷ pos 0 ∷ pos 0 ∷ pos 0 ∷ []) []) ≡ record { path = Object 0 ∷ Object 1 ∷ Object 0 ∷ True ∷ []; end = Return; left = 99990 }
unfolding everything written shows bounds compute_program p5
p5_apart = row p5 (bounds 10 8 100000) (input (pos 3 ∷ pos 5 ∷ pos 0 ∷ pos 0 ∷ pos 0 ∷ pos 0 ∷ []) []) _ refl

p5_null : shows (program_of p5) (bounds 10 8 100000) (input (pos 0 ∷ pos 0 ∷ []) []) ≡ record { path = Zero ∷ []; end = Fault fault.Null 3; left = 99997 }
unfolding everything written shows bounds compute_program p5
p5_null = row p5 (bounds 10 8 100000) (input (pos 0 ∷ pos 0 ∷ []) []) _ refl

p5_second_null : shows (program_of p5) (bounds 10 8 100000) (input (pos 3 ∷ pos 0 ∷ pos 0 ∷ pos 0 ∷ []) []) ≡ record { path = Object 0 ∷ Zero ∷ []; end = Fault fault.Null 4; left = 99995 }
unfolding everything written shows bounds compute_program p5
p5_second_null = row p5 (bounds 10 8 100000) (input (pos 3 ∷ pos 0 ∷ pos 0 ∷ pos 0 ∷ []) []) _ refl

-- int f(int x) { if (x == 3) return 1; return 0; }
unfoldable pub p8 : Source
p8 = record {
  facts = record {
    names = named ((1, target.Func 0) ∷ (4, target.Local 0) ∷ (9, target.Local 0) ∷ []);
    global_cells = told 0 [];
    made = told no_layout [];
    declared = told no_layout ((4, record { type = 0; cells = int_cell ∷ [] }) ∷ []);
    lengths = told 0 [];
    widths = told 0 [];
    is_null = told false [];
    results = told int_cell ((1, int_cell) ∷ []);
  };
  funcs =
      record {
        result = (gives.Value (record { base = base.Int; stars = 0 }));
        name = 1;
        params = record { ty = record { base = base.Int; stars = 0 }; name = 4 } ∷ [];
        body = part.Stmt (stmt.If 7 (expr.Equal 9 10 (expr.Name 9 9) (expr.Number 11 11 (pos 3))) (stmt.Return 13 (Some (expr.Number 14 14 (pos 1))))) ∷ part.Stmt (stmt.Return 16 (Some (expr.Number 17 17 (pos 0)))) ∷ [];
      } ∷ [];
  line_starts = 0 ∷ [];
  layouts = told [] ((0, int_cell ∷ []) ∷ []);
  globals = [];
  entry = 0;
}

p8_steps_else : shows (program_of p8) (bounds 100 8 3) (input (pos 0 ∷ []) []) ≡ record { path = False ∷ []; end = Steps; left = 0 }
unfolding everything written shows bounds compute_program p8
p8_steps_else = row p8 (bounds 100 8 3) (input (pos 0 ∷ []) []) _ refl

p8_steps_then : shows (program_of p8) (bounds 100 8 3) (input (pos 3 ∷ []) []) ≡ record { path = True ∷ []; end = Steps; left = 0 }
unfolding everything written shows bounds compute_program p8
p8_steps_then = row p8 (bounds 100 8 3) (input (pos 3 ∷ []) []) _ refl

p8_else : shows (program_of p8) (bounds 100 8 4) (input (pos 0 ∷ []) []) ≡ record { path = False ∷ []; end = Return; left = 0 }
unfolding everything written shows bounds compute_program p8
p8_else = row p8 (bounds 100 8 4) (input (pos 0 ∷ []) []) _ refl

p8_then : shows (program_of p8) (bounds 100 8 4) (input (pos 3 ∷ []) []) ≡ record { path = True ∷ []; end = Return; left = 0 }
unfolding everything written shows bounds compute_program p8
p8_then = row p8 (bounds 100 8 4) (input (pos 3 ∷ []) []) _ refl

-- int f(int x, int y) { return x / y; }
unfoldable pub p9 : Source
p9 = record {
  facts = record {
    names = named ((1, target.Func 0) ∷ (4, target.Local 0) ∷ (7, target.Local 1) ∷ (11, target.Local 0) ∷ (13, target.Local 1) ∷ []);
    global_cells = told 0 [];
    made = told no_layout [];
    declared = told no_layout ((4, record { type = 0; cells = int_cell ∷ [] }) ∷ (7, record { type = 0; cells = int_cell ∷ [] }) ∷ []);
    lengths = told 0 [];
    widths = told 0 [];
    is_null = told false [];
    results = told int_cell ((1, int_cell) ∷ []);
  };
  funcs =
      record {
        result = (gives.Value (record { base = base.Int; stars = 0 }));
        name = 1;
        params = record { ty = record { base = base.Int; stars = 0 }; name = 4 } ∷ record { ty = record { base = base.Int; stars = 0 }; name = 7 } ∷ [];
        body = part.Stmt (stmt.Return 10 (Some (expr.Quotient 11 12 (expr.Name 11 11) (expr.Name 13 13)))) ∷ [];
      } ∷ [];
  line_starts = 0 ∷ [];
  layouts = told [] ((0, int_cell ∷ []) ∷ []);
  globals = [];
  entry = 0;
}

p9_overflow : shows (program_of p9) (bounds 100 8 1000) (input (negsuc 2147483647 ∷ negsuc 0 ∷ []) []) ≡ record { path = Plain ∷ High ∷ []; end = Fault fault.Overflow 1; left = 997 }
unfolding everything written shows bounds compute_program p9
p9_overflow = row p9 (bounds 100 8 1000) (input (negsuc 2147483647 ∷ negsuc 0 ∷ []) []) _ refl

p9_divide : shows (program_of p9) (bounds 100 8 1000) (input (pos 7 ∷ pos 0 ∷ []) []) ≡ record { path = Zero ∷ []; end = Fault fault.Divide 1; left = 997 }
unfolding everything written shows bounds compute_program p9
p9_divide = row p9 (bounds 100 8 1000) (input (pos 7 ∷ pos 0 ∷ []) []) _ refl

p9_sites : sites_at (program_of p9) (bounds 5 8 1000) (input (negsuc 2147483647 ∷ negsuc 0 ∷ []) []) ≡ record { kind = Divisor; token = 12 } ∷ record { kind = Fit; token = 12 } ∷ []
unfolding everything written sites_at bounds compute_program p9
p9_sites = sites_row p9 (bounds 5 8 1000) (input (negsuc 2147483647 ∷ negsuc 0 ∷ []) []) _ refl

-- int f(int x) { return f(x); }
unfoldable pub p10 : Source
p10 = record {
  facts = record {
    names = named ((1, target.Func 0) ∷ (4, target.Local 0) ∷ (8, target.Func 0) ∷ (10, target.Local 0) ∷ []);
    global_cells = told 0 [];
    made = told no_layout [];
    declared = told no_layout ((4, record { type = 0; cells = int_cell ∷ [] }) ∷ []);
    lengths = told 0 [];
    widths = told 0 [];
    is_null = told false [];
    results = told int_cell ((1, int_cell) ∷ []);
  };
  funcs =
      record {
        result = (gives.Value (record { base = base.Int; stars = 0 }));
        name = 1;
        params = record { ty = record { base = base.Int; stars = 0 }; name = 4 } ∷ [];
        body = part.Stmt (stmt.Return 7 (Some (expr.Call 8 8 ((expr.Name 10 10) ∷ [])))) ∷ [];
      } ∷ [];
  line_starts = 0 ∷ [];
  layouts = told [] ((0, int_cell ∷ []) ∷ []);
  globals = [];
  entry = 0;
}

p10_steps : shows (program_of p10) (bounds 5 8 1000) (input (pos 0 ∷ []) []) ≡ record { path = []; end = Steps; left = 0 }
unfolding everything written shows bounds compute_program p10
p10_steps = row p10 (bounds 5 8 1000) (input (pos 0 ∷ []) []) _ refl

-- int f(void) { int x; CREST_int(x); if (x > 10) return 1; return 0; }
unfoldable pub p12 : Source
p12 = record {
  facts = record {
    names = named ((1, target.Func 0) ∷ (7, target.Local 0) ∷ (11, target.Local 0) ∷ (16, target.Local 0) ∷ []);
    global_cells = told 0 [];
    made = told no_layout [];
    declared = told no_layout ((7, record { type = 0; cells = int_cell ∷ [] }) ∷ []);
    lengths = told 0 [];
    widths = told 0 [];
    is_null = told false [];
    results = told int_cell ((1, int_cell) ∷ []);
  };
  funcs =
      record {
        result = (gives.Value (record { base = base.Int; stars = 0 }));
        name = 1;
        params = [];
        body = part.Decl (record { base = base.Int; parts = record { declarator = record { stars = 0; name = 7; lengths = [] }; initializer = None } ∷ [] }) ∷ part.Stmt (stmt.Simple (simple.CrestInt 9 (expr.Name 11 11))) ∷ part.Stmt (stmt.If 14 (expr.Greater 16 17 (expr.Name 16 16) (expr.Number 18 18 (pos 10))) (stmt.Return 20 (Some (expr.Number 21 21 (pos 1))))) ∷ part.Stmt (stmt.Return 23 (Some (expr.Number 24 24 (pos 0)))) ∷ [];
      } ∷ [];
  line_starts = 0 ∷ [];
  layouts = told [] ((0, int_cell ∷ []) ∷ []);
  globals = [];
  entry = 0;
}

p12_base : shows (program_of p12) (bounds 100 8 1000) (input [] []) ≡ record { path = False ∷ []; end = Return; left = 992 }
unfolding everything written shows bounds compute_program p12
p12_base = row p12 (bounds 100 8 1000) (input [] []) _ refl

p12_taken : shows (program_of p12) (bounds 100 8 1000) (input [] (pos 11 ∷ [])) ≡ record { path = True ∷ []; end = Return; left = 992 }
unfolding everything written shows bounds compute_program p12
p12_taken = row p12 (bounds 100 8 1000) (input [] (pos 11 ∷ [])) _ refl

-- int f(int x) { int t[2]; t[x] = 1; return 0; }
unfoldable pub p13 : Source
p13 = record {
  facts = record {
    names = named ((1, target.Func 0) ∷ (4, target.Local 0) ∷ (8, target.Local 1) ∷ (13, target.Local 1) ∷ (15, target.Local 0) ∷ []);
    global_cells = told 0 [];
    made = told no_layout [];
    declared = told no_layout ((4, record { type = 0; cells = int_cell ∷ [] }) ∷ (8, record { type = 1; cells = int_cell ∷ int_cell ∷ [] }) ∷ []);
    lengths = told 0 ((14, 2) ∷ []);
    widths = told 0 ((14, 1) ∷ []);
    is_null = told false [];
    results = told int_cell ((1, int_cell) ∷ []);
  };
  funcs =
      record {
        result = (gives.Value (record { base = base.Int; stars = 0 }));
        name = 1;
        params = record { ty = record { base = base.Int; stars = 0 }; name = 4 } ∷ [];
        body = part.Decl (record { base = base.Int; parts = record { declarator = record { stars = 0; name = 8; lengths = record { token = 10; value = pos 2 } ∷ [] }; initializer = None } ∷ [] }) ∷ part.Stmt (stmt.Simple (simple.Assign 17 (expr.Index 13 14 (expr.Name 13 13) (expr.Name 15 15)) (expr.Number 18 18 (pos 1)))) ∷ part.Stmt (stmt.Return 20 (Some (expr.Number 21 21 (pos 0)))) ∷ [];
      } ∷ [];
  line_starts = 0 ∷ [];
  layouts = told [] ((0, int_cell ∷ []) ∷ (1, int_cell ∷ int_cell ∷ []) ∷ []);
  globals = [];
  entry = 0;
}

p13_plain : shows (program_of p13) (bounds 100 8 1000) (input (pos 0 ∷ []) []) ≡ record { path = Plain ∷ []; end = Return; left = 993 }
unfolding everything written shows bounds compute_program p13
p13_plain = row p13 (bounds 100 8 1000) (input (pos 0 ∷ []) []) _ refl

p13_high : shows (program_of p13) (bounds 100 8 1000) (input (pos 2 ∷ []) []) ≡ record { path = High ∷ []; end = Fault fault.Index 1; left = 994 }
unfolding everything written shows bounds compute_program p13
p13_high = row p13 (bounds 100 8 1000) (input (pos 2 ∷ []) []) _ refl

p13_low : shows (program_of p13) (bounds 100 8 1000) (input (negsuc 0 ∷ []) []) ≡ record { path = Low ∷ []; end = Fault fault.Index 1; left = 994 }
unfolding everything written shows bounds compute_program p13
p13_low = row p13 (bounds 100 8 1000) (input (negsuc 0 ∷ []) []) _ refl

-- int f(int x) { while (x < 5) x = x + 1; return x; }
unfoldable count_up : Source
count_up = record {
  facts = record {
    names = named ((1, target.Func 0) ∷ (4, target.Local 0) ∷ (9, target.Local 0) ∷ (13, target.Local 0) ∷ (15, target.Local 0) ∷ (20, target.Local 0) ∷ []);
    global_cells = told 0 [];
    made = told no_layout [];
    declared = told no_layout ((4, record { type = 0; cells = int_cell ∷ [] }) ∷ []);
    lengths = told 0 [];
    widths = told 0 [];
    is_null = told false [];
    results = told int_cell ((1, int_cell) ∷ []);
  };
  funcs =
      record {
        result = (gives.Value (record { base = base.Int; stars = 0 }));
        name = 1;
        params = record { ty = record { base = base.Int; stars = 0 }; name = 4 } ∷ [];
        body = part.Stmt (stmt.While 7 (expr.Less 9 10 (expr.Name 9 9) (expr.Number 11 11 (pos 5))) (stmt.Simple (simple.Assign 14 (expr.Name 13 13) (expr.Sum 15 16 (expr.Name 15 15) (expr.Number 17 17 (pos 1)))))) ∷ part.Stmt (stmt.Return 19 (Some (expr.Name 20 20))) ∷ [];
      } ∷ [];
  line_starts = 0 ∷ [];
  layouts = told [] ((0, int_cell ∷ []) ∷ []);
  globals = [];
  entry = 0;
}

count_up_turns : shows (program_of count_up) (bounds 100 8 1000) (input (pos 3 ∷ []) []) ≡ record { path = True ∷ Plain ∷ True ∷ Plain ∷ False ∷ []; end = Return; left = 990 }
unfolding everything written shows bounds compute_program count_up
count_up_turns = row count_up (bounds 100 8 1000) (input (pos 3 ∷ []) []) _ refl

count_up_none : shows (program_of count_up) (bounds 100 8 1000) (input (pos 5 ∷ []) []) ≡ record { path = False ∷ []; end = Return; left = 996 }
unfolding everything written shows bounds compute_program count_up
count_up_none = row count_up (bounds 100 8 1000) (input (pos 5 ∷ []) []) _ refl

-- int f(int x) {
--   int s = 0;
--   for (int i = 0; i < 10; i++) {
--     if (i == 1) continue;
--     if (i == 3) break;
--     s += i;
--   }
--   return s == x;
-- }
unfoldable for_loop : Source
for_loop = record {
  facts = record {
    names = named ((1, target.Func 0) ∷ (4, target.Local 0) ∷ (8, target.Local 1) ∷ (15, target.Local 2) ∷ (19, target.Local 2) ∷ (23, target.Local 2) ∷ (29, target.Local 2) ∷ (37, target.Local 2) ∷ (43, target.Local 1) ∷ (45, target.Local 2) ∷ (49, target.Local 1) ∷ (51, target.Local 0) ∷ []);
    global_cells = told 0 [];
    made = told no_layout [];
    declared = told no_layout ((4, record { type = 0; cells = int_cell ∷ [] }) ∷ (8, record { type = 0; cells = int_cell ∷ [] }) ∷ (15, record { type = 0; cells = int_cell ∷ [] }) ∷ []);
    lengths = told 0 [];
    widths = told 0 [];
    is_null = told false [];
    results = told int_cell ((1, int_cell) ∷ []);
  };
  funcs =
      record {
        result = (gives.Value (record { base = base.Int; stars = 0 }));
        name = 1;
        params = record { ty = record { base = base.Int; stars = 0 }; name = 4 } ∷ [];
        body = part.Decl (record { base = base.Int; parts = record { declarator = record { stars = 0; name = 8; lengths = [] }; initializer = Some (record { equals = 9; value = (expr.Number 10 10 (pos 0)) }) } ∷ [] }) ∷ part.Stmt (stmt.For 12 (head.Decl (record { base = base.Int; parts = record { declarator = record { stars = 0; name = 15; lengths = [] }; initializer = Some (record { equals = 16; value = (expr.Number 17 17 (pos 0)) }) } ∷ [] })) (Some (expr.Less 19 20 (expr.Name 19 19) (expr.Number 21 21 (pos 10)))) (Some (simple.Increase 24 (expr.Name 23 23))) (stmt.Block (part.Stmt (stmt.If 27 (expr.Equal 29 30 (expr.Name 29 29) (expr.Number 31 31 (pos 1))) (stmt.Continue 33)) ∷ part.Stmt (stmt.If 35 (expr.Equal 37 38 (expr.Name 37 37) (expr.Number 39 39 (pos 3))) (stmt.Break 41)) ∷ part.Stmt (stmt.Simple (simple.AddTo 44 (expr.Name 43 43) (expr.Name 45 45))) ∷ []))) ∷ part.Stmt (stmt.Return 48 (Some (expr.Equal 49 50 (expr.Name 49 49) (expr.Name 51 51)))) ∷ [];
      } ∷ [];
  line_starts = 0 ∷ 7 ∷ 12 ∷ 27 ∷ 35 ∷ 43 ∷ 47 ∷ 48 ∷ 53 ∷ [];
  layouts = told [] ((0, int_cell ∷ []) ∷ []);
  globals = [];
  entry = 0;
}

for_loop_turns : shows (program_of for_loop) (bounds 100 8 1000) (input (pos 2 ∷ []) []) ≡ record { path = True ∷ False ∷ False ∷ Plain ∷ Plain ∷ True ∷ True ∷ Plain ∷ True ∷ False ∷ False ∷ Plain ∷ Plain ∷ True ∷ False ∷ True ∷ True ∷ []; end = Return; left = 958 }
unfolding everything written shows bounds compute_program for_loop
for_loop_turns = row for_loop (bounds 100 8 1000) (input (pos 2 ∷ []) []) _ refl

-- int f(int x) { int i; for (i = x; ; i++) { if (i > 2) break; } for (; ; ) return i; }
unfoldable no_condition : Source
no_condition = record {
  facts = record {
    names = named ((1, target.Func 0) ∷ (4, target.Local 0) ∷ (8, target.Local 1) ∷ (12, target.Local 1) ∷ (14, target.Local 0) ∷ (17, target.Local 1) ∷ (23, target.Local 1) ∷ (36, target.Local 1) ∷ []);
    global_cells = told 0 [];
    made = told no_layout [];
    declared = told no_layout ((4, record { type = 0; cells = int_cell ∷ [] }) ∷ (8, record { type = 0; cells = int_cell ∷ [] }) ∷ []);
    lengths = told 0 [];
    widths = told 0 [];
    is_null = told false [];
    results = told int_cell ((1, int_cell) ∷ []);
  };
  funcs =
      record {
        result = (gives.Value (record { base = base.Int; stars = 0 }));
        name = 1;
        params = record { ty = record { base = base.Int; stars = 0 }; name = 4 } ∷ [];
        body = part.Decl (record { base = base.Int; parts = record { declarator = record { stars = 0; name = 8; lengths = [] }; initializer = None } ∷ [] }) ∷ part.Stmt (stmt.For 10 (head.Simple (Some (simple.Assign 13 (expr.Name 12 12) (expr.Name 14 14)))) None (Some (simple.Increase 18 (expr.Name 17 17))) (stmt.Block (part.Stmt (stmt.If 21 (expr.Greater 23 24 (expr.Name 23 23) (expr.Number 25 25 (pos 2))) (stmt.Break 27)) ∷ []))) ∷ part.Stmt (stmt.For 30 (head.Simple None) None None (stmt.Return 35 (Some (expr.Name 36 36)))) ∷ [];
      } ∷ [];
  line_starts = 0 ∷ [];
  layouts = told [] ((0, int_cell ∷ []) ∷ []);
  globals = [];
  entry = 0;
}

no_condition_turns : shows (program_of no_condition) (bounds 100 8 1000) (input (pos 2 ∷ []) []) ≡ record { path = False ∷ Plain ∷ True ∷ []; end = Return; left = 984 }
unfolding everything written shows bounds compute_program no_condition
no_condition_turns = row no_condition (bounds 100 8 1000) (input (pos 2 ∷ []) []) _ refl

-- int f(int x) {
--   int n = 0;
--   do {
--     n++;
--     if (n == 2) continue;
--     x--;
--   } while (x > 0);
--   return n;
-- }
unfoldable do_loop : Source
do_loop = record {
  facts = record {
    names = named ((1, target.Func 0) ∷ (4, target.Local 0) ∷ (8, target.Local 1) ∷ (14, target.Local 1) ∷ (19, target.Local 1) ∷ (25, target.Local 0) ∷ (31, target.Local 0) ∷ (37, target.Local 1) ∷ []);
    global_cells = told 0 [];
    made = told no_layout [];
    declared = told no_layout ((4, record { type = 0; cells = int_cell ∷ [] }) ∷ (8, record { type = 0; cells = int_cell ∷ [] }) ∷ []);
    lengths = told 0 [];
    widths = told 0 [];
    is_null = told false [];
    results = told int_cell ((1, int_cell) ∷ []);
  };
  funcs =
      record {
        result = (gives.Value (record { base = base.Int; stars = 0 }));
        name = 1;
        params = record { ty = record { base = base.Int; stars = 0 }; name = 4 } ∷ [];
        body = part.Decl (record { base = base.Int; parts = record { declarator = record { stars = 0; name = 8; lengths = [] }; initializer = Some (record { equals = 9; value = (expr.Number 10 10 (pos 0)) }) } ∷ [] }) ∷ part.Stmt (stmt.Do 12 (stmt.Block (part.Stmt (stmt.Simple (simple.Increase 15 (expr.Name 14 14))) ∷ part.Stmt (stmt.If 17 (expr.Equal 19 20 (expr.Name 19 19) (expr.Number 21 21 (pos 2))) (stmt.Continue 23)) ∷ part.Stmt (stmt.Simple (simple.Decrease 26 (expr.Name 25 25))) ∷ [])) (expr.Greater 31 32 (expr.Name 31 31) (expr.Number 33 33 (pos 0)))) ∷ part.Stmt (stmt.Return 36 (Some (expr.Name 37 37))) ∷ [];
      } ∷ [];
  line_starts = 0 ∷ 7 ∷ 12 ∷ 14 ∷ 17 ∷ 25 ∷ 28 ∷ 36 ∷ 39 ∷ [];
  layouts = told [] ((0, int_cell ∷ []) ∷ []);
  globals = [];
  entry = 0;
}

do_loop_turns : shows (program_of do_loop) (bounds 100 8 1000) (input (pos 2 ∷ []) []) ≡ record { path = Plain ∷ False ∷ Plain ∷ True ∷ Plain ∷ True ∷ True ∷ Plain ∷ False ∷ Plain ∷ False ∷ []; end = Return; left = 972 }
unfolding everything written shows bounds compute_program do_loop
do_loop_turns = row do_loop (bounds 100 8 1000) (input (pos 2 ∷ []) []) _ refl

-- int f(int x, int y) { int z; z = x && !y || x > 5; if (!(z && x < y)) return 1; else return z; }
unfoldable junctions : Source
junctions = record {
  facts = record {
    names = named ((1, target.Func 0) ∷ (4, target.Local 0) ∷ (7, target.Local 1) ∷ (11, target.Local 2) ∷ (13, target.Local 2) ∷ (15, target.Local 0) ∷ (18, target.Local 1) ∷ (20, target.Local 0) ∷ (28, target.Local 2) ∷ (30, target.Local 0) ∷ (32, target.Local 1) ∷ (40, target.Local 2) ∷ []);
    global_cells = told 0 [];
    made = told no_layout [];
    declared = told no_layout ((4, record { type = 0; cells = int_cell ∷ [] }) ∷ (7, record { type = 0; cells = int_cell ∷ [] }) ∷ (11, record { type = 0; cells = int_cell ∷ [] }) ∷ []);
    lengths = told 0 [];
    widths = told 0 [];
    is_null = told false [];
    results = told int_cell ((1, int_cell) ∷ []);
  };
  funcs =
      record {
        result = (gives.Value (record { base = base.Int; stars = 0 }));
        name = 1;
        params = record { ty = record { base = base.Int; stars = 0 }; name = 4 } ∷ record { ty = record { base = base.Int; stars = 0 }; name = 7 } ∷ [];
        body = part.Decl (record { base = base.Int; parts = record { declarator = record { stars = 0; name = 11; lengths = [] }; initializer = None } ∷ [] }) ∷ part.Stmt (stmt.Simple (simple.Assign 14 (expr.Name 13 13) (expr.Or 15 19 (expr.And 15 16 (expr.Name 15 15) (expr.Not 17 17 (expr.Name 18 18))) (expr.Greater 20 21 (expr.Name 20 20) (expr.Number 22 22 (pos 5)))))) ∷ part.Stmt (stmt.IfElse 24 (expr.Not 26 26 (expr.And 27 29 (expr.Name 28 28) (expr.Less 30 31 (expr.Name 30 30) (expr.Name 32 32)))) (stmt.Return 35 (Some (expr.Number 36 36 (pos 1)))) (stmt.Return 39 (Some (expr.Name 40 40)))) ∷ [];
      } ∷ [];
  line_starts = 0 ∷ [];
  layouts = told [] ((0, int_cell ∷ []) ∷ []);
  globals = [];
  entry = 0;
}

junctions_first : shows (program_of junctions) (bounds 100 8 1000) (input (pos 1 ∷ pos 0 ∷ []) []) ≡ record { path = True ∷ False ∷ True ∷ False ∷ []; end = Return; left = 988 }
unfolding everything written shows bounds compute_program junctions
junctions_first = row junctions (bounds 100 8 1000) (input (pos 1 ∷ pos 0 ∷ []) []) _ refl

junctions_neither : shows (program_of junctions) (bounds 100 8 1000) (input (pos 0 ∷ pos 3 ∷ []) []) ≡ record { path = False ∷ False ∷ False ∷ []; end = Return; left = 989 }
unfolding everything written shows bounds compute_program junctions
junctions_neither = row junctions (bounds 100 8 1000) (input (pos 0 ∷ pos 3 ∷ []) []) _ refl

junctions_second : shows (program_of junctions) (bounds 100 8 1000) (input (pos 6 ∷ pos 7 ∷ []) []) ≡ record { path = True ∷ True ∷ True ∷ True ∷ True ∷ []; end = Return; left = 987 }
unfolding everything written shows bounds compute_program junctions
junctions_second = row junctions (bounds 100 8 1000) (input (pos 6 ∷ pos 7 ∷ []) []) _ refl

-- int t[2];
-- int i;
-- int g(void) { i = 1; t[1] = 5; return 2; }
-- int f(void) {
--   t[i] += g();
--   assert(t[1] == 7);
--   return 0;
-- }
unfoldable compound : Source
compound = record {
  facts = record {
    names = named ((1, target.Global 0) ∷ (7, target.Global 1) ∷ (10, target.Func 0) ∷ (15, target.Global 1) ∷ (19, target.Global 0) ∷ (31, target.Func 1) ∷ (36, target.Global 0) ∷ (38, target.Global 1) ∷ (41, target.Func 0) ∷ (47, target.Global 0) ∷ []);
    global_cells = told 0 ((0, 0) ∷ (1, 2) ∷ []);
    made = told no_layout [];
    declared = told no_layout ((1, record { type = 0; cells = int_cell ∷ int_cell ∷ [] }) ∷ (7, record { type = 1; cells = int_cell ∷ [] }) ∷ []);
    lengths = told 0 ((20, 2) ∷ (37, 2) ∷ (48, 2) ∷ []);
    widths = told 0 ((20, 1) ∷ (37, 1) ∷ (48, 1) ∷ []);
    is_null = told false [];
    results = told int_cell ((10, int_cell) ∷ (31, int_cell) ∷ []);
  };
  funcs =
      record {
        result = (gives.Value (record { base = base.Int; stars = 0 }));
        name = 10;
        params = [];
        body = part.Stmt (stmt.Simple (simple.Assign 16 (expr.Name 15 15) (expr.Number 17 17 (pos 1)))) ∷ part.Stmt (stmt.Simple (simple.Assign 23 (expr.Index 19 20 (expr.Name 19 19) (expr.Number 21 21 (pos 1))) (expr.Number 24 24 (pos 5)))) ∷ part.Stmt (stmt.Return 26 (Some (expr.Number 27 27 (pos 2)))) ∷ [];
      } ∷ record {
        result = (gives.Value (record { base = base.Int; stars = 0 }));
        name = 31;
        params = [];
        body = part.Stmt (stmt.Simple (simple.AddTo 40 (expr.Index 36 37 (expr.Name 36 36) (expr.Name 38 38)) (expr.Call 41 41 []))) ∷ part.Stmt (stmt.Simple (simple.Assert 45 (expr.Equal 47 51 (expr.Index 47 48 (expr.Name 47 47) (expr.Number 49 49 (pos 1))) (expr.Number 52 52 (pos 7))))) ∷ part.Stmt (stmt.Return 55 (Some (expr.Number 56 56 (pos 0)))) ∷ [];
      } ∷ [];
  line_starts = 0 ∷ 6 ∷ 9 ∷ 30 ∷ 36 ∷ 45 ∷ 55 ∷ 58 ∷ [];
  layouts = told [] ((0, int_cell ∷ int_cell ∷ []) ∷ (1, int_cell ∷ []) ∷ []);
  globals = start_number (pos 0) ∷ start_number (pos 0) ∷ start_number (pos 0) ∷ [];
  entry = 1;
}

compound_order : shows (program_of compound) (bounds 100 8 1000) (input [] []) ≡ record { path = Plain ∷ Plain ∷ Plain ∷ Plain ∷ True ∷ []; end = Return; left = 985 }
unfolding everything written shows bounds compute_program compound
compound_order = row compound (bounds 100 8 1000) (input [] []) _ refl

-- int f(int x, int y) { int t[2]; t[x] += 1 / y; return 0; }
unfoldable compound_index : Source
compound_index = record {
  facts = record {
    names = named ((1, target.Func 0) ∷ (4, target.Local 0) ∷ (7, target.Local 1) ∷ (11, target.Local 2) ∷ (16, target.Local 2) ∷ (18, target.Local 0) ∷ (23, target.Local 1) ∷ []);
    global_cells = told 0 [];
    made = told no_layout [];
    declared = told no_layout ((4, record { type = 0; cells = int_cell ∷ [] }) ∷ (7, record { type = 0; cells = int_cell ∷ [] }) ∷ (11, record { type = 1; cells = int_cell ∷ int_cell ∷ [] }) ∷ []);
    lengths = told 0 ((17, 2) ∷ []);
    widths = told 0 ((17, 1) ∷ []);
    is_null = told false [];
    results = told int_cell ((1, int_cell) ∷ []);
  };
  funcs =
      record {
        result = (gives.Value (record { base = base.Int; stars = 0 }));
        name = 1;
        params = record { ty = record { base = base.Int; stars = 0 }; name = 4 } ∷ record { ty = record { base = base.Int; stars = 0 }; name = 7 } ∷ [];
        body = part.Decl (record { base = base.Int; parts = record { declarator = record { stars = 0; name = 11; lengths = record { token = 13; value = pos 2 } ∷ [] }; initializer = None } ∷ [] }) ∷ part.Stmt (stmt.Simple (simple.AddTo 20 (expr.Index 16 17 (expr.Name 16 16) (expr.Name 18 18)) (expr.Quotient 21 22 (expr.Number 21 21 (pos 1)) (expr.Name 23 23)))) ∷ part.Stmt (stmt.Return 25 (Some (expr.Number 26 26 (pos 0)))) ∷ [];
      } ∷ [];
  line_starts = 0 ∷ [];
  layouts = told [] ((0, int_cell ∷ []) ∷ (1, int_cell ∷ int_cell ∷ []) ∷ []);
  globals = [];
  entry = 0;
}

compound_value_first : shows (program_of compound_index) (bounds 100 8 1000) (input (pos 2 ∷ pos 0 ∷ []) []) ≡ record { path = Zero ∷ []; end = Fault fault.Divide 1; left = 994 }
unfolding everything written shows bounds compute_program compound_index
compound_value_first = row compound_index (bounds 100 8 1000) (input (pos 2 ∷ pos 0 ∷ []) []) _ refl

compound_step_last : shows (program_of compound_index) (bounds 100 8 1000) (input (pos 2 ∷ pos 1 ∷ []) []) ≡ record { path = Plain ∷ Plain ∷ High ∷ []; end = Fault fault.Index 1; left = 993 }
unfolding everything written shows bounds compute_program compound_index
compound_step_last = row compound_index (bounds 100 8 1000) (input (pos 2 ∷ pos 1 ∷ []) []) _ refl

compound_all : shows (program_of compound_index) (bounds 100 8 1000) (input (pos 1 ∷ pos 1 ∷ []) []) ≡ record { path = Plain ∷ Plain ∷ Plain ∷ Plain ∷ []; end = Return; left = 991 }
unfolding everything written shows bounds compute_program compound_index
compound_all = row compound_index (bounds 100 8 1000) (input (pos 1 ∷ pos 1 ∷ []) []) _ refl

-- int f(int x) { x -= 2; x *= 3; x /= 4; x %= 2; --x; x--; ++x; return x == -0; }
unfoldable compounds : Source
compounds = record {
  facts = record {
    names = named ((1, target.Func 0) ∷ (4, target.Local 0) ∷ (7, target.Local 0) ∷ (11, target.Local 0) ∷ (15, target.Local 0) ∷ (19, target.Local 0) ∷ (24, target.Local 0) ∷ (26, target.Local 0) ∷ (30, target.Local 0) ∷ (33, target.Local 0) ∷ []);
    global_cells = told 0 [];
    made = told no_layout [];
    declared = told no_layout ((4, record { type = 0; cells = int_cell ∷ [] }) ∷ []);
    lengths = told 0 [];
    widths = told 0 [];
    is_null = told false [];
    results = told int_cell ((1, int_cell) ∷ []);
  };
  funcs =
      record {
        result = (gives.Value (record { base = base.Int; stars = 0 }));
        name = 1;
        params = record { ty = record { base = base.Int; stars = 0 }; name = 4 } ∷ [];
        body = part.Stmt (stmt.Simple (simple.SubFrom 8 (expr.Name 7 7) (expr.Number 9 9 (pos 2)))) ∷ part.Stmt (stmt.Simple (simple.MulBy 12 (expr.Name 11 11) (expr.Number 13 13 (pos 3)))) ∷ part.Stmt (stmt.Simple (simple.DivBy 16 (expr.Name 15 15) (expr.Number 17 17 (pos 4)))) ∷ part.Stmt (stmt.Simple (simple.RemBy 20 (expr.Name 19 19) (expr.Number 21 21 (pos 2)))) ∷ part.Stmt (stmt.Simple (simple.DecreaseFirst 23 (expr.Name 24 24))) ∷ part.Stmt (stmt.Simple (simple.Decrease 27 (expr.Name 26 26))) ∷ part.Stmt (stmt.Simple (simple.IncreaseFirst 29 (expr.Name 30 30))) ∷ part.Stmt (stmt.Return 32 (Some (expr.Equal 33 34 (expr.Name 33 33) (expr.Minus 35 35 (expr.Number 36 36 (pos 0)))))) ∷ [];
      } ∷ [];
  line_starts = 0 ∷ [];
  layouts = told [] ((0, int_cell ∷ []) ∷ []);
  globals = [];
  entry = 0;
}

compounds_all : shows (program_of compounds) (bounds 100 8 1000) (input (pos 7 ∷ []) []) ≡ record { path = Plain ∷ Plain ∷ Plain ∷ Plain ∷ Plain ∷ Plain ∷ Plain ∷ Plain ∷ Plain ∷ Plain ∷ True ∷ []; end = Return; left = 982 }
unfolding everything written shows bounds compute_program compounds
compounds_all = row compounds (bounds 100 8 1000) (input (pos 7 ∷ []) []) _ refl

-- struct cell { int v; struct cell *next; };
-- int f(int x) {
--   struct cell *p = malloc(sizeof(struct cell));
--   p->v = x;
--   p->next = p;
--   if (p->next->v == x) return p->next == p;
--   return 0;
-- }
unfoldable made : Source
made = record {
  facts = record {
    names = named ((14, target.Func 0) ∷ (17, target.Local 0) ∷ (23, target.Local 1) ∷ (34, target.Local 1) ∷ (36, target.Field 0) ∷ (38, target.Local 0) ∷ (40, target.Local 1) ∷ (42, target.Field 1) ∷ (44, target.Local 1) ∷ (48, target.Local 1) ∷ (50, target.Field 1) ∷ (52, target.Field 0) ∷ (54, target.Local 0) ∷ (57, target.Local 1) ∷ (59, target.Field 1) ∷ (61, target.Local 1) ∷ []);
    global_cells = told 0 [];
    made = told no_layout ((25, record { type = 2; cells = int_cell ∷ ptr_cell 2 ∷ [] }) ∷ []);
    declared = told no_layout ((17, record { type = 0; cells = int_cell ∷ [] }) ∷ (23, record { type = 1; cells = ptr_cell 2 ∷ [] }) ∷ []);
    lengths = told 0 [];
    widths = told 0 [];
    is_null = told false [];
    results = told int_cell ((14, int_cell) ∷ []);
  };
  funcs =
      record {
        result = (gives.Value (record { base = base.Int; stars = 0 }));
        name = 14;
        params = record { ty = record { base = base.Int; stars = 0 }; name = 17 } ∷ [];
        body = part.Decl (record { base = (base.Struct 21); parts = record { declarator = record { stars = 1; name = 23; lengths = [] }; initializer = Some (record { equals = 24; value = (expr.Malloc 25 25 None (record { base = (base.Struct 30); stars = 0 })) }) } ∷ [] }) ∷ part.Stmt (stmt.Simple (simple.Assign 37 (expr.Arrow 34 35 (expr.Name 34 34) 36) (expr.Name 38 38))) ∷ part.Stmt (stmt.Simple (simple.Assign 43 (expr.Arrow 40 41 (expr.Name 40 40) 42) (expr.Name 44 44))) ∷ part.Stmt (stmt.If 46 (expr.Equal 48 53 (expr.Arrow 48 51 (expr.Arrow 48 49 (expr.Name 48 48) 50) 52) (expr.Name 54 54)) (stmt.Return 56 (Some (expr.Equal 57 60 (expr.Arrow 57 58 (expr.Name 57 57) 59) (expr.Name 61 61))))) ∷ part.Stmt (stmt.Return 63 (Some (expr.Number 64 64 (pos 0)))) ∷ [];
      } ∷ [];
  line_starts = 0 ∷ 13 ∷ 20 ∷ 34 ∷ 40 ∷ 46 ∷ 63 ∷ 66 ∷ [];
  layouts = told [] ((0, int_cell ∷ []) ∷ (1, ptr_cell 2 ∷ []) ∷ (2, int_cell ∷ ptr_cell 2 ∷ []) ∷ []);
  globals = [];
  entry = 0;
}

made_links : shows (program_of made) (bounds 100 8 1000) (input (pos 4 ∷ []) []) ≡ record { path = Plain ∷ Plain ∷ Plain ∷ Plain ∷ True ∷ Plain ∷ True ∷ []; end = Return; left = 983 }
unfolding everything written shows bounds compute_program made
made_links = row made (bounds 100 8 1000) (input (pos 4 ∷ []) []) _ refl

-- struct cell { int v; struct cell *next; };
-- int f(void) {
--   struct cell *p = (struct cell *) malloc(sizeof(struct cell));
--   return p->v == 0 && p->next == NULL && p->next == 0;
-- }
unfoldable made_zero : Source
made_zero = record {
  facts = record {
    names = named ((14, target.Func 0) ∷ (22, target.Local 0) ∷ (39, target.Local 0) ∷ (41, target.Field 0) ∷ (45, target.Local 0) ∷ (47, target.Field 1) ∷ (51, target.Local 0) ∷ (53, target.Field 1) ∷ []);
    global_cells = told 0 [];
    made = told no_layout ((29, record { type = 1; cells = int_cell ∷ ptr_cell 1 ∷ [] }) ∷ []);
    declared = told no_layout ((22, record { type = 0; cells = ptr_cell 1 ∷ [] }) ∷ []);
    lengths = told 0 [];
    widths = told 0 [];
    is_null = told false ((55, true) ∷ []);
    results = told int_cell ((14, int_cell) ∷ []);
  };
  funcs =
      record {
        result = (gives.Value (record { base = base.Int; stars = 0 }));
        name = 14;
        params = [];
        body = part.Decl (record { base = (base.Struct 20); parts = record { declarator = record { stars = 1; name = 22; lengths = [] }; initializer = Some (record { equals = 23; value = (expr.Malloc 24 29 (Some (record { base = (base.Struct 26); stars = 1 })) (record { base = (base.Struct 34); stars = 0 })) }) } ∷ [] }) ∷ part.Stmt (stmt.Return 38 (Some (expr.And 39 50 (expr.And 39 44 (expr.Equal 39 42 (expr.Arrow 39 40 (expr.Name 39 39) 41) (expr.Number 43 43 (pos 0))) (expr.Equal 45 48 (expr.Arrow 45 46 (expr.Name 45 45) 47) (expr.Null 49 49))) (expr.Equal 51 54 (expr.Arrow 51 52 (expr.Name 51 51) 53) (expr.Number 55 55 (pos 0)))))) ∷ [];
      } ∷ [];
  line_starts = 0 ∷ 13 ∷ 19 ∷ 38 ∷ 57 ∷ [];
  layouts = told [] ((0, ptr_cell 1 ∷ []) ∷ (1, int_cell ∷ ptr_cell 1 ∷ []) ∷ []);
  globals = [];
  entry = 0;
}

made_zero_cells : shows (program_of made_zero) (bounds 100 8 1000) (input [] []) ≡ record { path = Plain ∷ True ∷ Plain ∷ True ∷ Plain ∷ True ∷ []; end = Return; left = 985 }
unfolding everything written shows bounds compute_program made_zero
made_zero_cells = row made_zero (bounds 100 8 1000) (input [] []) _ refl

-- int f(void) { int x, y; CREST_int(x); CREST_int(y); return x > y; }
unfoldable two_numbers : Source
two_numbers = record {
  facts = record {
    names = named ((1, target.Func 0) ∷ (7, target.Local 0) ∷ (9, target.Local 1) ∷ (13, target.Local 0) ∷ (18, target.Local 1) ∷ (22, target.Local 0) ∷ (24, target.Local 1) ∷ []);
    global_cells = told 0 [];
    made = told no_layout [];
    declared = told no_layout ((7, record { type = 0; cells = int_cell ∷ [] }) ∷ (9, record { type = 0; cells = int_cell ∷ [] }) ∷ []);
    lengths = told 0 [];
    widths = told 0 [];
    is_null = told false [];
    results = told int_cell ((1, int_cell) ∷ []);
  };
  funcs =
      record {
        result = (gives.Value (record { base = base.Int; stars = 0 }));
        name = 1;
        params = [];
        body = part.Decl (record { base = base.Int; parts = record { declarator = record { stars = 0; name = 7; lengths = [] }; initializer = None } ∷ record { declarator = record { stars = 0; name = 9; lengths = [] }; initializer = None } ∷ [] }) ∷ part.Stmt (stmt.Simple (simple.CrestInt 11 (expr.Name 13 13))) ∷ part.Stmt (stmt.Simple (simple.CrestInt 16 (expr.Name 18 18))) ∷ part.Stmt (stmt.Return 21 (Some (expr.Greater 22 23 (expr.Name 22 22) (expr.Name 24 24)))) ∷ [];
      } ∷ [];
  line_starts = 0 ∷ [];
  layouts = told [] ((0, int_cell ∷ []) ∷ []);
  globals = [];
  entry = 0;
}

two_numbers_base : shows (program_of two_numbers) (record (bounds 100 8 1000) { lo = pos 7; hi = pos 9 }) (input [] (pos 8 ∷ [])) ≡ record { path = True ∷ []; end = Return; left = 989 }
unfolding everything written shows bounds compute_program two_numbers
two_numbers_base = row two_numbers (record (bounds 100 8 1000) { lo = pos 7; hi = pos 9 }) (input [] (pos 8 ∷ [])) _ refl

two_numbers_taken : shows (program_of two_numbers) (bounds 100 8 1000) (input [] (pos 7 ∷ pos 8 ∷ [])) ≡ record { path = False ∷ []; end = Return; left = 989 }
unfolding everything written shows bounds compute_program two_numbers
two_numbers_taken = row two_numbers (bounds 100 8 1000) (input [] (pos 7 ∷ pos 8 ∷ [])) _ refl

-- int g = 5, h = -2;
-- int *p = 0;
-- int f(int x) {
--   g = g + x;
--   if (p == NULL) return g + h == 6;
--   return 0;
-- }
unfoldable started : Source
started = record {
  facts = record {
    names = named ((1, target.Global 0) ∷ (5, target.Global 1) ∷ (12, target.Global 2) ∷ (17, target.Func 0) ∷ (20, target.Local 0) ∷ (23, target.Global 0) ∷ (25, target.Global 0) ∷ (27, target.Local 0) ∷ (31, target.Global 2) ∷ (36, target.Global 0) ∷ (38, target.Global 1) ∷ []);
    global_cells = told 0 ((0, 0) ∷ (1, 1) ∷ (2, 2) ∷ []);
    made = told no_layout [];
    declared = told no_layout ((1, record { type = 0; cells = int_cell ∷ [] }) ∷ (5, record { type = 0; cells = int_cell ∷ [] }) ∷ (12, record { type = 1; cells = ptr_cell 0 ∷ [] }) ∷ (20, record { type = 0; cells = int_cell ∷ [] }) ∷ []);
    lengths = told 0 [];
    widths = told 0 [];
    is_null = told false [];
    results = told int_cell ((17, int_cell) ∷ []);
  };
  funcs =
      record {
        result = (gives.Value (record { base = base.Int; stars = 0 }));
        name = 17;
        params = record { ty = record { base = base.Int; stars = 0 }; name = 20 } ∷ [];
        body = part.Stmt (stmt.Simple (simple.Assign 24 (expr.Name 23 23) (expr.Sum 25 26 (expr.Name 25 25) (expr.Name 27 27)))) ∷ part.Stmt (stmt.If 29 (expr.Equal 31 32 (expr.Name 31 31) (expr.Null 33 33)) (stmt.Return 35 (Some (expr.Equal 36 39 (expr.Sum 36 37 (expr.Name 36 36) (expr.Name 38 38)) (expr.Number 40 40 (pos 6)))))) ∷ part.Stmt (stmt.Return 42 (Some (expr.Number 43 43 (pos 0)))) ∷ [];
      } ∷ [];
  line_starts = 0 ∷ 10 ∷ 16 ∷ 23 ∷ 29 ∷ 42 ∷ 45 ∷ [];
  layouts = told [] ((0, int_cell ∷ []) ∷ (1, ptr_cell 0 ∷ []) ∷ []);
  globals = start_number (pos 5) ∷ start_number (negsuc 1) ∷ start_null ∷ [];
  entry = 0;
}

started_values : shows (program_of started) (bounds 100 8 1000) (input (pos 3 ∷ []) []) ≡ record { path = Plain ∷ True ∷ Plain ∷ True ∷ []; end = Return; left = 992 }
unfolding everything written shows bounds compute_program started
started_values = row started (bounds 100 8 1000) (input (pos 3 ∷ []) []) _ refl

-- int h(int a, int b) { return b; }
-- int g(int a, int b) { return a * 10 + b; }
-- int f(int x) { return g(g(x, 2), g(3, x)) == 151; }
unfoldable nested : Source
nested = record {
  facts = record {
    names = named ((1, target.Func 0) ∷ (4, target.Local 0) ∷ (7, target.Local 1) ∷ (11, target.Local 1) ∷ (15, target.Func 1) ∷ (18, target.Local 0) ∷ (21, target.Local 1) ∷ (25, target.Local 0) ∷ (29, target.Local 1) ∷ (33, target.Func 2) ∷ (36, target.Local 0) ∷ (40, target.Func 1) ∷ (42, target.Func 1) ∷ (44, target.Local 0) ∷ (49, target.Func 1) ∷ (53, target.Local 0) ∷ []);
    global_cells = told 0 [];
    made = told no_layout [];
    declared = told no_layout ((4, record { type = 0; cells = int_cell ∷ [] }) ∷ (7, record { type = 0; cells = int_cell ∷ [] }) ∷ (18, record { type = 0; cells = int_cell ∷ [] }) ∷ (21, record { type = 0; cells = int_cell ∷ [] }) ∷ (36, record { type = 0; cells = int_cell ∷ [] }) ∷ []);
    lengths = told 0 [];
    widths = told 0 [];
    is_null = told false [];
    results = told int_cell ((1, int_cell) ∷ (15, int_cell) ∷ (33, int_cell) ∷ []);
  };
  funcs =
      record {
        result = (gives.Value (record { base = base.Int; stars = 0 }));
        name = 1;
        params = record { ty = record { base = base.Int; stars = 0 }; name = 4 } ∷ record { ty = record { base = base.Int; stars = 0 }; name = 7 } ∷ [];
        body = part.Stmt (stmt.Return 10 (Some (expr.Name 11 11))) ∷ [];
      } ∷ record {
        result = (gives.Value (record { base = base.Int; stars = 0 }));
        name = 15;
        params = record { ty = record { base = base.Int; stars = 0 }; name = 18 } ∷ record { ty = record { base = base.Int; stars = 0 }; name = 21 } ∷ [];
        body = part.Stmt (stmt.Return 24 (Some (expr.Sum 25 28 (expr.Product 25 26 (expr.Name 25 25) (expr.Number 27 27 (pos 10))) (expr.Name 29 29)))) ∷ [];
      } ∷ record {
        result = (gives.Value (record { base = base.Int; stars = 0 }));
        name = 33;
        params = record { ty = record { base = base.Int; stars = 0 }; name = 36 } ∷ [];
        body = part.Stmt (stmt.Return 39 (Some (expr.Equal 40 56 (expr.Call 40 40 ((expr.Call 42 42 ((expr.Name 44 44) ∷ (expr.Number 46 46 (pos 2)) ∷ [])) ∷ (expr.Call 49 49 ((expr.Number 51 51 (pos 3)) ∷ (expr.Name 53 53) ∷ [])) ∷ [])) (expr.Number 57 57 (pos 151))))) ∷ [];
      } ∷ [];
  line_starts = 0 ∷ 14 ∷ 32 ∷ [];
  layouts = told [] ((0, int_cell ∷ []) ∷ []);
  globals = [];
  entry = 2;
}

nested_calls : shows (program_of nested) (bounds 100 8 1000) (input (pos 1 ∷ []) []) ≡ record { path = Plain ∷ Plain ∷ Plain ∷ Plain ∷ Plain ∷ Plain ∷ True ∷ []; end = Return; left = 976 }
unfolding everything written shows bounds compute_program nested
nested_calls = row nested (bounds 100 8 1000) (input (pos 1 ∷ []) []) _ refl

-- int f(int x, int y, int q, int r) { return x / y == q && x % y == r; }
unfoldable signs : Source
signs = record {
  facts = record {
    names = named ((1, target.Func 0) ∷ (4, target.Local 0) ∷ (7, target.Local 1) ∷ (10, target.Local 2) ∷ (13, target.Local 3) ∷ (17, target.Local 0) ∷ (19, target.Local 1) ∷ (21, target.Local 2) ∷ (23, target.Local 0) ∷ (25, target.Local 1) ∷ (27, target.Local 3) ∷ []);
    global_cells = told 0 [];
    made = told no_layout [];
    declared = told no_layout ((4, record { type = 0; cells = int_cell ∷ [] }) ∷ (7, record { type = 0; cells = int_cell ∷ [] }) ∷ (10, record { type = 0; cells = int_cell ∷ [] }) ∷ (13, record { type = 0; cells = int_cell ∷ [] }) ∷ []);
    lengths = told 0 [];
    widths = told 0 [];
    is_null = told false [];
    results = told int_cell ((1, int_cell) ∷ []);
  };
  funcs =
      record {
        result = (gives.Value (record { base = base.Int; stars = 0 }));
        name = 1;
        params = record { ty = record { base = base.Int; stars = 0 }; name = 4 } ∷ record { ty = record { base = base.Int; stars = 0 }; name = 7 } ∷ record { ty = record { base = base.Int; stars = 0 }; name = 10 } ∷ record { ty = record { base = base.Int; stars = 0 }; name = 13 } ∷ [];
        body = part.Stmt (stmt.Return 16 (Some (expr.And 17 22 (expr.Equal 17 20 (expr.Quotient 17 18 (expr.Name 17 17) (expr.Name 19 19)) (expr.Name 21 21)) (expr.Equal 23 26 (expr.Remainder 23 24 (expr.Name 23 23) (expr.Name 25 25)) (expr.Name 27 27))))) ∷ [];
      } ∷ [];
  line_starts = 0 ∷ [];
  layouts = told [] ((0, int_cell ∷ []) ∷ []);
  globals = [];
  entry = 0;
}

signs_low_high : shows (program_of signs) (bounds 100 8 1000) (input (negsuc 6 ∷ pos 2 ∷ negsuc 2 ∷ negsuc 0 ∷ []) []) ≡ record { path = Plain ∷ Plain ∷ True ∷ Plain ∷ Plain ∷ True ∷ []; end = Return; left = 993 }
unfolding everything written shows bounds compute_program signs
signs_low_high = row signs (bounds 100 8 1000) (input (negsuc 6 ∷ pos 2 ∷ negsuc 2 ∷ negsuc 0 ∷ []) []) _ refl

signs_high_low : shows (program_of signs) (bounds 100 8 1000) (input (pos 7 ∷ negsuc 1 ∷ negsuc 2 ∷ pos 1 ∷ []) []) ≡ record { path = Plain ∷ Plain ∷ True ∷ Plain ∷ Plain ∷ True ∷ []; end = Return; left = 993 }
unfolding everything written shows bounds compute_program signs
signs_high_low = row signs (bounds 100 8 1000) (input (pos 7 ∷ negsuc 1 ∷ negsuc 2 ∷ pos 1 ∷ []) []) _ refl

signs_low_low : shows (program_of signs) (bounds 100 8 1000) (input (negsuc 6 ∷ negsuc 1 ∷ pos 3 ∷ negsuc 0 ∷ []) []) ≡ record { path = Plain ∷ Plain ∷ True ∷ Plain ∷ Plain ∷ True ∷ []; end = Return; left = 993 }
unfolding everything written shows bounds compute_program signs
signs_low_low = row signs (bounds 100 8 1000) (input (negsuc 6 ∷ negsuc 1 ∷ pos 3 ∷ negsuc 0 ∷ []) []) _ refl

signs_high_high : shows (program_of signs) (bounds 100 8 1000) (input (pos 7 ∷ pos 2 ∷ pos 3 ∷ pos 1 ∷ []) []) ≡ record { path = Plain ∷ Plain ∷ True ∷ Plain ∷ Plain ∷ True ∷ []; end = Return; left = 993 }
unfolding everything written shows bounds compute_program signs
signs_high_high = row signs (bounds 100 8 1000) (input (pos 7 ∷ pos 2 ∷ pos 3 ∷ pos 1 ∷ []) []) _ refl

-- int f(int x, int y) { return x % y; }
unfoldable remainder : Source
remainder = record {
  facts = record {
    names = named ((1, target.Func 0) ∷ (4, target.Local 0) ∷ (7, target.Local 1) ∷ (11, target.Local 0) ∷ (13, target.Local 1) ∷ []);
    global_cells = told 0 [];
    made = told no_layout [];
    declared = told no_layout ((4, record { type = 0; cells = int_cell ∷ [] }) ∷ (7, record { type = 0; cells = int_cell ∷ [] }) ∷ []);
    lengths = told 0 [];
    widths = told 0 [];
    is_null = told false [];
    results = told int_cell ((1, int_cell) ∷ []);
  };
  funcs =
      record {
        result = (gives.Value (record { base = base.Int; stars = 0 }));
        name = 1;
        params = record { ty = record { base = base.Int; stars = 0 }; name = 4 } ∷ record { ty = record { base = base.Int; stars = 0 }; name = 7 } ∷ [];
        body = part.Stmt (stmt.Return 10 (Some (expr.Remainder 11 12 (expr.Name 11 11) (expr.Name 13 13)))) ∷ [];
      } ∷ [];
  line_starts = 0 ∷ [];
  layouts = told [] ((0, int_cell ∷ []) ∷ []);
  globals = [];
  entry = 0;
}

remainder_overflow : shows (program_of remainder) (bounds 100 8 1000) (input (negsuc 2147483647 ∷ negsuc 0 ∷ []) []) ≡ record { path = Plain ∷ High ∷ []; end = Fault fault.Overflow 1; left = 997 }
unfolding everything written shows bounds compute_program remainder
remainder_overflow = row remainder (bounds 100 8 1000) (input (negsuc 2147483647 ∷ negsuc 0 ∷ []) []) _ refl

-- int f(int x) { return -x; }
unfoldable minus : Source
minus = record {
  facts = record {
    names = named ((1, target.Func 0) ∷ (4, target.Local 0) ∷ (9, target.Local 0) ∷ []);
    global_cells = told 0 [];
    made = told no_layout [];
    declared = told no_layout ((4, record { type = 0; cells = int_cell ∷ [] }) ∷ []);
    lengths = told 0 [];
    widths = told 0 [];
    is_null = told false [];
    results = told int_cell ((1, int_cell) ∷ []);
  };
  funcs =
      record {
        result = (gives.Value (record { base = base.Int; stars = 0 }));
        name = 1;
        params = record { ty = record { base = base.Int; stars = 0 }; name = 4 } ∷ [];
        body = part.Stmt (stmt.Return 7 (Some (expr.Minus 8 8 (expr.Name 9 9)))) ∷ [];
      } ∷ [];
  line_starts = 0 ∷ [];
  layouts = told [] ((0, int_cell ∷ []) ∷ []);
  globals = [];
  entry = 0;
}

minus_high : shows (program_of minus) (bounds 100 8 1000) (input (negsuc 2147483647 ∷ []) []) ≡ record { path = High ∷ []; end = Fault fault.Overflow 1; left = 997 }
unfolding everything written shows bounds compute_program minus
minus_high = row minus (bounds 100 8 1000) (input (negsuc 2147483647 ∷ []) []) _ refl

-- struct pair { int a; int b[3]; };
-- int f(int i) {
--   struct pair t[2];
--   int *q;
--   t[1].b[i] = 4;
--   q = &t[1].b[2];
--   *q += 1;
--   return (&t[1])->b[i] == 5;
-- }
unfoldable places : Source
places = record {
  facts = record {
    names = named ((15, target.Func 0) ∷ (18, target.Local 0) ∷ (23, target.Local 1) ∷ (30, target.Local 2) ∷ (32, target.Local 1) ∷ (37, target.Field 1) ∷ (39, target.Local 0) ∷ (44, target.Local 2) ∷ (47, target.Local 1) ∷ (52, target.Field 1) ∷ (58, target.Local 2) ∷ (65, target.Local 1) ∷ (71, target.Field 1) ∷ (73, target.Local 0) ∷ []);
    global_cells = told 0 [];
    made = told no_layout [];
    declared = told no_layout ((18, record { type = 0; cells = int_cell ∷ [] }) ∷ (23, record { type = 1; cells = int_cell ∷ int_cell ∷ int_cell ∷ int_cell ∷ int_cell ∷ int_cell ∷ int_cell ∷ int_cell ∷ [] }) ∷ (30, record { type = 2; cells = ptr_cell 0 ∷ [] }) ∷ []);
    lengths = told 0 ((33, 2) ∷ (38, 3) ∷ (48, 2) ∷ (53, 3) ∷ (66, 2) ∷ (72, 3) ∷ []);
    widths = told 0 ((33, 4) ∷ (38, 1) ∷ (48, 4) ∷ (53, 1) ∷ (66, 4) ∷ (72, 1) ∷ []);
    is_null = told false [];
    results = told int_cell ((15, int_cell) ∷ []);
  };
  funcs =
      record {
        result = (gives.Value (record { base = base.Int; stars = 0 }));
        name = 15;
        params = record { ty = record { base = base.Int; stars = 0 }; name = 18 } ∷ [];
        body = part.Decl (record { base = (base.Struct 22); parts = record { declarator = record { stars = 0; name = 23; lengths = record { token = 25; value = pos 2 } ∷ [] }; initializer = None } ∷ [] }) ∷ part.Decl (record { base = base.Int; parts = record { declarator = record { stars = 1; name = 30; lengths = [] }; initializer = None } ∷ [] }) ∷ part.Stmt (stmt.Simple (simple.Assign 41 (expr.Index 32 38 (expr.Dot 32 36 (expr.Index 32 33 (expr.Name 32 32) (expr.Number 34 34 (pos 1))) 37) (expr.Name 39 39)) (expr.Number 42 42 (pos 4)))) ∷ part.Stmt (stmt.Simple (simple.Assign 45 (expr.Name 44 44) (expr.Address 46 46 (expr.Index 47 53 (expr.Dot 47 51 (expr.Index 47 48 (expr.Name 47 47) (expr.Number 49 49 (pos 1))) 52) (expr.Number 54 54 (pos 2)))))) ∷ part.Stmt (stmt.Simple (simple.AddTo 59 (expr.Deref 57 57 (expr.Name 58 58)) (expr.Number 60 60 (pos 1)))) ∷ part.Stmt (stmt.Return 62 (Some (expr.Equal 63 75 (expr.Index 63 72 (expr.Arrow 63 70 (expr.Address 63 64 (expr.Index 65 66 (expr.Name 65 65) (expr.Number 67 67 (pos 1)))) 71) (expr.Name 73 73)) (expr.Number 76 76 (pos 5))))) ∷ [];
      } ∷ [];
  line_starts = 0 ∷ 14 ∷ 21 ∷ 28 ∷ 32 ∷ 44 ∷ 57 ∷ 62 ∷ 78 ∷ [];
  layouts = told [] ((0, int_cell ∷ []) ∷ (1, int_cell ∷ int_cell ∷ int_cell ∷ int_cell ∷ int_cell ∷ int_cell ∷ int_cell ∷ int_cell ∷ []) ∷ (2, ptr_cell 0 ∷ []) ∷ []);
  globals = [];
  entry = 0;
}

places_same : shows (program_of places) (bounds 100 8 1000) (input (pos 2 ∷ []) []) ≡ record { path = Plain ∷ Plain ∷ Plain ∷ Plain ∷ Plain ∷ Plain ∷ Plain ∷ Plain ∷ Plain ∷ True ∷ []; end = Return; left = 970 }
unfolding everything written shows bounds compute_program places
places_same = row places (bounds 100 8 1000) (input (pos 2 ∷ []) []) _ refl

-- int f(int x) { int t[2][3]; t[1][x] = 7; return t[1][2] == 7; }
unfoldable table : Source
table = record {
  facts = record {
    names = named ((1, target.Func 0) ∷ (4, target.Local 0) ∷ (8, target.Local 1) ∷ (16, target.Local 1) ∷ (21, target.Local 0) ∷ (27, target.Local 1) ∷ []);
    global_cells = told 0 [];
    made = told no_layout [];
    declared = told no_layout ((4, record { type = 0; cells = int_cell ∷ [] }) ∷ (8, record { type = 1; cells = int_cell ∷ int_cell ∷ int_cell ∷ int_cell ∷ int_cell ∷ int_cell ∷ [] }) ∷ []);
    lengths = told 0 ((17, 2) ∷ (20, 3) ∷ (28, 2) ∷ (31, 3) ∷ []);
    widths = told 0 ((17, 3) ∷ (20, 1) ∷ (28, 3) ∷ (31, 1) ∷ []);
    is_null = told false [];
    results = told int_cell ((1, int_cell) ∷ []);
  };
  funcs =
      record {
        result = (gives.Value (record { base = base.Int; stars = 0 }));
        name = 1;
        params = record { ty = record { base = base.Int; stars = 0 }; name = 4 } ∷ [];
        body = part.Decl (record { base = base.Int; parts = record { declarator = record { stars = 0; name = 8; lengths = record { token = 10; value = pos 2 } ∷ record { token = 13; value = pos 3 } ∷ [] }; initializer = None } ∷ [] }) ∷ part.Stmt (stmt.Simple (simple.Assign 23 (expr.Index 16 20 (expr.Index 16 17 (expr.Name 16 16) (expr.Number 18 18 (pos 1))) (expr.Name 21 21)) (expr.Number 24 24 (pos 7)))) ∷ part.Stmt (stmt.Return 26 (Some (expr.Equal 27 34 (expr.Index 27 31 (expr.Index 27 28 (expr.Name 27 27) (expr.Number 29 29 (pos 1))) (expr.Number 32 32 (pos 2))) (expr.Number 35 35 (pos 7))))) ∷ [];
      } ∷ [];
  line_starts = 0 ∷ [];
  layouts = told [] ((0, int_cell ∷ []) ∷ (1, int_cell ∷ int_cell ∷ int_cell ∷ int_cell ∷ int_cell ∷ int_cell ∷ []) ∷ []);
  globals = [];
  entry = 0;
}

table_in : shows (program_of table) (bounds 100 8 1000) (input (pos 2 ∷ []) []) ≡ record { path = Plain ∷ Plain ∷ Plain ∷ Plain ∷ True ∷ []; end = Return; left = 985 }
unfolding everything written shows bounds compute_program table
table_in = row table (bounds 100 8 1000) (input (pos 2 ∷ []) []) _ refl

table_out : shows (program_of table) (bounds 100 8 1000) (input (pos 3 ∷ []) []) ≡ record { path = Plain ∷ High ∷ []; end = Fault fault.Index 1; left = 989 }
unfolding everything written shows bounds compute_program table
table_out = row table (bounds 100 8 1000) (input (pos 3 ∷ []) []) _ refl

-- int f(int x) { return x <= 3 && x >= 3 && !(x < 3) && !(x > 3) && !(x != 3) && x == 3; }
unfoldable compares : Source
compares = record {
  facts = record {
    names = named ((1, target.Func 0) ∷ (4, target.Local 0) ∷ (8, target.Local 0) ∷ (12, target.Local 0) ∷ (18, target.Local 0) ∷ (25, target.Local 0) ∷ (32, target.Local 0) ∷ (37, target.Local 0) ∷ []);
    global_cells = told 0 [];
    made = told no_layout [];
    declared = told no_layout ((4, record { type = 0; cells = int_cell ∷ [] }) ∷ []);
    lengths = told 0 [];
    widths = told 0 [];
    is_null = told false [];
    results = told int_cell ((1, int_cell) ∷ []);
  };
  funcs =
      record {
        result = (gives.Value (record { base = base.Int; stars = 0 }));
        name = 1;
        params = record { ty = record { base = base.Int; stars = 0 }; name = 4 } ∷ [];
        body = part.Stmt (stmt.Return 7 (Some (expr.And 8 36 (expr.And 8 29 (expr.And 8 22 (expr.And 8 15 (expr.And 8 11 (expr.AtMost 8 9 (expr.Name 8 8) (expr.Number 10 10 (pos 3))) (expr.AtLeast 12 13 (expr.Name 12 12) (expr.Number 14 14 (pos 3)))) (expr.Not 16 16 (expr.Less 17 19 (expr.Name 18 18) (expr.Number 20 20 (pos 3))))) (expr.Not 23 23 (expr.Greater 24 26 (expr.Name 25 25) (expr.Number 27 27 (pos 3))))) (expr.Not 30 30 (expr.Unequal 31 33 (expr.Name 32 32) (expr.Number 34 34 (pos 3))))) (expr.Equal 37 38 (expr.Name 37 37) (expr.Number 39 39 (pos 3)))))) ∷ [];
      } ∷ [];
  line_starts = 0 ∷ [];
  layouts = told [] ((0, int_cell ∷ []) ∷ []);
  globals = [];
  entry = 0;
}

compares_same : shows (program_of compares) (bounds 100 8 1000) (input (pos 3 ∷ []) []) ≡ record { path = True ∷ True ∷ False ∷ False ∷ False ∷ True ∷ []; end = Return; left = 984 }
unfolding everything written shows bounds compute_program compares
compares_same = row compares (bounds 100 8 1000) (input (pos 3 ∷ []) []) _ refl

compares_less : shows (program_of compares) (bounds 100 8 1000) (input (pos 2 ∷ []) []) ≡ record { path = True ∷ False ∷ []; end = Return; left = 991 }
unfolding everything written shows bounds compute_program compares
compares_less = row compares (bounds 100 8 1000) (input (pos 2 ∷ []) []) _ refl

compares_more : shows (program_of compares) (bounds 100 8 1000) (input (pos 4 ∷ []) []) ≡ record { path = False ∷ []; end = Return; left = 992 }
unfolding everything written shows bounds compute_program compares
compares_more = row compares (bounds 100 8 1000) (input (pos 4 ∷ []) []) _ refl

-- int f(int x) { return (x < 3) + !x == 2; }
unfoldable truths : Source
truths = record {
  facts = record {
    names = named ((1, target.Func 0) ∷ (4, target.Local 0) ∷ (9, target.Local 0) ∷ (15, target.Local 0) ∷ []);
    global_cells = told 0 [];
    made = told no_layout [];
    declared = told no_layout ((4, record { type = 0; cells = int_cell ∷ [] }) ∷ []);
    lengths = told 0 [];
    widths = told 0 [];
    is_null = told false [];
    results = told int_cell ((1, int_cell) ∷ []);
  };
  funcs =
      record {
        result = (gives.Value (record { base = base.Int; stars = 0 }));
        name = 1;
        params = record { ty = record { base = base.Int; stars = 0 }; name = 4 } ∷ [];
        body = part.Stmt (stmt.Return 7 (Some (expr.Equal 8 16 (expr.Sum 8 13 (expr.Less 8 10 (expr.Name 9 9) (expr.Number 11 11 (pos 3))) (expr.Not 14 14 (expr.Name 15 15))) (expr.Number 17 17 (pos 2))))) ∷ [];
      } ∷ [];
  line_starts = 0 ∷ [];
  layouts = told [] ((0, int_cell ∷ []) ∷ []);
  globals = [];
  entry = 0;
}

truths_both : shows (program_of truths) (bounds 100 8 1000) (input (pos 0 ∷ []) []) ≡ record { path = True ∷ False ∷ Plain ∷ True ∷ []; end = Return; left = 994 }
unfolding everything written shows bounds compute_program truths
truths_both = row truths (bounds 100 8 1000) (input (pos 0 ∷ []) []) _ refl

truths_one : shows (program_of truths) (bounds 100 8 1000) (input (pos 1 ∷ []) []) ≡ record { path = True ∷ True ∷ Plain ∷ False ∷ []; end = Return; left = 994 }
unfolding everything written shows bounds compute_program truths
truths_one = row truths (bounds 100 8 1000) (input (pos 1 ∷ []) []) _ refl

-- int *g(void) { int *p; if (p) return p; }
-- int f(void) { return g() == NULL; }
unfoldable no_pointer : Source
no_pointer = record {
  facts = record {
    names = named ((2, target.Func 0) ∷ (9, target.Local 0) ∷ (13, target.Local 0) ∷ (16, target.Local 0) ∷ (20, target.Func 1) ∷ (26, target.Func 0) ∷ []);
    global_cells = told 0 [];
    made = told no_layout [];
    declared = told no_layout ((9, record { type = 1; cells = ptr_cell 0 ∷ [] }) ∷ []);
    lengths = told 0 [];
    widths = told 0 [];
    is_null = told false [];
    results = told int_cell ((2, ptr_cell 0) ∷ (20, int_cell) ∷ []);
  };
  funcs =
      record {
        result = (gives.Value (record { base = base.Int; stars = 1 }));
        name = 2;
        params = [];
        body = part.Decl (record { base = base.Int; parts = record { declarator = record { stars = 1; name = 9; lengths = [] }; initializer = None } ∷ [] }) ∷ part.Stmt (stmt.If 11 (expr.Name 13 13) (stmt.Return 15 (Some (expr.Name 16 16)))) ∷ [];
      } ∷ record {
        result = (gives.Value (record { base = base.Int; stars = 0 }));
        name = 20;
        params = [];
        body = part.Stmt (stmt.Return 25 (Some (expr.Equal 26 29 (expr.Call 26 26 []) (expr.Null 30 30)))) ∷ [];
      } ∷ [];
  line_starts = 0 ∷ 19 ∷ [];
  layouts = told [] ((0, int_cell ∷ []) ∷ (1, ptr_cell 0 ∷ []) ∷ []);
  globals = [];
  entry = 1;
}

no_pointer_null : shows (program_of no_pointer) (bounds 100 8 1000) (input [] []) ≡ record { path = False ∷ True ∷ []; end = Return; left = 992 }
unfolding everything written shows bounds compute_program no_pointer
no_pointer_null = row no_pointer (bounds 100 8 1000) (input [] []) _ refl

-- int f(int x) { if (x) abort(); else assert(x == 0); return 0; }
unfoldable either : Source
either = record {
  facts = record {
    names = named ((1, target.Func 0) ∷ (4, target.Local 0) ∷ (9, target.Local 0) ∷ (18, target.Local 0) ∷ []);
    global_cells = told 0 [];
    made = told no_layout [];
    declared = told no_layout ((4, record { type = 0; cells = int_cell ∷ [] }) ∷ []);
    lengths = told 0 [];
    widths = told 0 [];
    is_null = told false [];
    results = told int_cell ((1, int_cell) ∷ []);
  };
  funcs =
      record {
        result = (gives.Value (record { base = base.Int; stars = 0 }));
        name = 1;
        params = record { ty = record { base = base.Int; stars = 0 }; name = 4 } ∷ [];
        body = part.Stmt (stmt.IfElse 7 (expr.Name 9 9) (stmt.Simple (simple.Abort 11)) (stmt.Simple (simple.Assert 16 (expr.Equal 18 19 (expr.Name 18 18) (expr.Number 20 20 (pos 0)))))) ∷ part.Stmt (stmt.Return 23 (Some (expr.Number 24 24 (pos 0)))) ∷ [];
      } ∷ [];
  line_starts = 0 ∷ [];
  layouts = told [] ((0, int_cell ∷ []) ∷ []);
  globals = [];
  entry = 0;
}

either_else : shows (program_of either) (bounds 100 8 1000) (input (pos 0 ∷ []) []) ≡ record { path = False ∷ True ∷ []; end = Return; left = 994 }
unfolding everything written shows bounds compute_program either
either_else = row either (bounds 100 8 1000) (input (pos 0 ∷ []) []) _ refl

either_then : shows (program_of either) (bounds 100 8 1000) (input (pos 1 ∷ []) []) ≡ record { path = True ∷ []; end = Fault fault.Abort 1; left = 996 }
unfolding everything written shows bounds compute_program either
either_then = row either (bounds 100 8 1000) (input (pos 1 ∷ []) []) _ refl

-- void h(int *p) { }
-- void g(int *p) { if (*p > 3) return; *p = 9; }
-- int f(int x) { int y = x; g(&y); assume(y == 9); return 0; }
unfoldable given_back : Source
given_back = record {
  facts = record {
    names = named ((1, target.Func 0) ∷ (5, target.Local 0) ∷ (10, target.Func 1) ∷ (14, target.Local 0) ∷ (20, target.Local 0) ∷ (27, target.Local 0) ∷ (33, target.Func 2) ∷ (36, target.Local 0) ∷ (40, target.Local 1) ∷ (42, target.Local 0) ∷ (44, target.Func 1) ∷ (47, target.Local 1) ∷ (52, target.Local 1) ∷ []);
    global_cells = told 0 [];
    made = told no_layout [];
    declared = told no_layout ((5, record { type = 0; cells = ptr_cell 1 ∷ [] }) ∷ (14, record { type = 0; cells = ptr_cell 1 ∷ [] }) ∷ (36, record { type = 1; cells = int_cell ∷ [] }) ∷ (40, record { type = 1; cells = int_cell ∷ [] }) ∷ []);
    lengths = told 0 [];
    widths = told 0 [];
    is_null = told false [];
    results = told int_cell ((1, int_cell) ∷ (10, int_cell) ∷ (33, int_cell) ∷ []);
  };
  funcs =
      record {
        result = gives.Void;
        name = 1;
        params = record { ty = record { base = base.Int; stars = 1 }; name = 5 } ∷ [];
        body = [];
      } ∷ record {
        result = gives.Void;
        name = 10;
        params = record { ty = record { base = base.Int; stars = 1 }; name = 14 } ∷ [];
        body = part.Stmt (stmt.If 17 (expr.Greater 19 21 (expr.Deref 19 19 (expr.Name 20 20)) (expr.Number 22 22 (pos 3))) (stmt.Return 24 None)) ∷ part.Stmt (stmt.Simple (simple.Assign 28 (expr.Deref 26 26 (expr.Name 27 27)) (expr.Number 29 29 (pos 9)))) ∷ [];
      } ∷ record {
        result = (gives.Value (record { base = base.Int; stars = 0 }));
        name = 33;
        params = record { ty = record { base = base.Int; stars = 0 }; name = 36 } ∷ [];
        body = part.Decl (record { base = base.Int; parts = record { declarator = record { stars = 0; name = 40; lengths = [] }; initializer = Some (record { equals = 41; value = (expr.Name 42 42) }) } ∷ [] }) ∷ part.Stmt (stmt.Simple (simple.Call 44 ((expr.Address 46 46 (expr.Name 47 47)) ∷ []))) ∷ part.Stmt (stmt.Simple (simple.Assume 50 (expr.Equal 52 53 (expr.Name 52 52) (expr.Number 54 54 (pos 9))))) ∷ part.Stmt (stmt.Return 57 (Some (expr.Number 58 58 (pos 0)))) ∷ [];
      } ∷ [];
  line_starts = 0 ∷ 9 ∷ 32 ∷ [];
  layouts = told [] ((0, ptr_cell 1 ∷ []) ∷ (1, int_cell ∷ []) ∷ []);
  globals = [];
  entry = 2;
}

given_back_on : shows (program_of given_back) (bounds 100 8 1000) (input (pos 1 ∷ []) []) ≡ record { path = Plain ∷ False ∷ Plain ∷ True ∷ []; end = Return; left = 983 }
unfolding everything written shows bounds compute_program given_back
given_back_on = row given_back (bounds 100 8 1000) (input (pos 1 ∷ []) []) _ refl

given_back_ends : shows (program_of given_back) (bounds 100 8 1000) (input (pos 4 ∷ []) []) ≡ record { path = Plain ∷ True ∷ False ∷ []; end = Assume; left = 985 }
unfolding everything written shows bounds compute_program given_back
given_back_ends = row given_back (bounds 100 8 1000) (input (pos 4 ∷ []) []) _ refl

-- int g(int x) { if (x) return 1; }
-- int f(int x) { return g(x) == 0; }
unfoldable no_return : Source
no_return = record {
  facts = record {
    names = named ((1, target.Func 0) ∷ (4, target.Local 0) ∷ (9, target.Local 0) ∷ (16, target.Func 1) ∷ (19, target.Local 0) ∷ (23, target.Func 0) ∷ (25, target.Local 0) ∷ []);
    global_cells = told 0 [];
    made = told no_layout [];
    declared = told no_layout ((4, record { type = 0; cells = int_cell ∷ [] }) ∷ (19, record { type = 0; cells = int_cell ∷ [] }) ∷ []);
    lengths = told 0 [];
    widths = told 0 [];
    is_null = told false [];
    results = told int_cell ((1, int_cell) ∷ (16, int_cell) ∷ []);
  };
  funcs =
      record {
        result = (gives.Value (record { base = base.Int; stars = 0 }));
        name = 1;
        params = record { ty = record { base = base.Int; stars = 0 }; name = 4 } ∷ [];
        body = part.Stmt (stmt.If 7 (expr.Name 9 9) (stmt.Return 11 (Some (expr.Number 12 12 (pos 1))))) ∷ [];
      } ∷ record {
        result = (gives.Value (record { base = base.Int; stars = 0 }));
        name = 16;
        params = record { ty = record { base = base.Int; stars = 0 }; name = 19 } ∷ [];
        body = part.Stmt (stmt.Return 22 (Some (expr.Equal 23 27 (expr.Call 23 23 ((expr.Name 25 25) ∷ [])) (expr.Number 28 28 (pos 0))))) ∷ [];
      } ∷ [];
  line_starts = 0 ∷ 15 ∷ [];
  layouts = told [] ((0, int_cell ∷ []) ∷ []);
  globals = [];
  entry = 1;
}

no_return_zero : shows (program_of no_return) (bounds 100 8 1000) (input (pos 0 ∷ []) []) ≡ record { path = False ∷ True ∷ []; end = Return; left = 993 }
unfolding everything written shows bounds compute_program no_return
no_return_zero = row no_return (bounds 100 8 1000) (input (pos 0 ∷ []) []) _ refl

no_return_one : shows (program_of no_return) (bounds 100 8 1000) (input (pos 5 ∷ []) []) ≡ record { path = True ∷ False ∷ []; end = Return; left = 992 }
unfolding everything written shows bounds compute_program no_return
no_return_one = row no_return (bounds 100 8 1000) (input (pos 5 ∷ []) []) _ refl

-- int f(int x) { int y = 1; { int y = 2; y++; ; } return y == x; }
unfoldable hidden : Source
hidden = record {
  facts = record {
    names = named ((1, target.Func 0) ∷ (4, target.Local 0) ∷ (8, target.Local 1) ∷ (14, target.Local 2) ∷ (18, target.Local 2) ∷ (24, target.Local 1) ∷ (26, target.Local 0) ∷ []);
    global_cells = told 0 [];
    made = told no_layout [];
    declared = told no_layout ((4, record { type = 0; cells = int_cell ∷ [] }) ∷ (8, record { type = 0; cells = int_cell ∷ [] }) ∷ (14, record { type = 0; cells = int_cell ∷ [] }) ∷ []);
    lengths = told 0 [];
    widths = told 0 [];
    is_null = told false [];
    results = told int_cell ((1, int_cell) ∷ []);
  };
  funcs =
      record {
        result = (gives.Value (record { base = base.Int; stars = 0 }));
        name = 1;
        params = record { ty = record { base = base.Int; stars = 0 }; name = 4 } ∷ [];
        body = part.Decl (record { base = base.Int; parts = record { declarator = record { stars = 0; name = 8; lengths = [] }; initializer = Some (record { equals = 9; value = (expr.Number 10 10 (pos 1)) }) } ∷ [] }) ∷ part.Stmt (stmt.Block (part.Decl (record { base = base.Int; parts = record { declarator = record { stars = 0; name = 14; lengths = [] }; initializer = Some (record { equals = 15; value = (expr.Number 16 16 (pos 2)) }) } ∷ [] }) ∷ part.Stmt (stmt.Simple (simple.Increase 19 (expr.Name 18 18))) ∷ part.Stmt (stmt.Empty) ∷ [])) ∷ part.Stmt (stmt.Return 23 (Some (expr.Equal 24 25 (expr.Name 24 24) (expr.Name 26 26)))) ∷ [];
      } ∷ [];
  line_starts = 0 ∷ [];
  layouts = told [] ((0, int_cell ∷ []) ∷ []);
  globals = [];
  entry = 0;
}

hidden_outer : shows (program_of hidden) (bounds 100 8 1000) (input (pos 1 ∷ []) []) ≡ record { path = Plain ∷ True ∷ []; end = Return; left = 989 }
unfolding everything written shows bounds compute_program hidden
hidden_outer = row hidden (bounds 100 8 1000) (input (pos 1 ∷ []) []) _ refl

-- int f(void) {
--   for (int i = 0; i < 2; ++i) { int k; ++k; assert(k == 1); }
--   return 0;
-- }
unfoldable anew : Source
anew = record {
  facts = record {
    names = named ((1, target.Func 0) ∷ (9, target.Local 0) ∷ (13, target.Local 0) ∷ (18, target.Local 0) ∷ (22, target.Local 1) ∷ (25, target.Local 1) ∷ (29, target.Local 1) ∷ []);
    global_cells = told 0 [];
    made = told no_layout [];
    declared = told no_layout ((9, record { type = 0; cells = int_cell ∷ [] }) ∷ (22, record { type = 0; cells = int_cell ∷ [] }) ∷ []);
    lengths = told 0 [];
    widths = told 0 [];
    is_null = told false [];
    results = told int_cell ((1, int_cell) ∷ []);
  };
  funcs =
      record {
        result = (gives.Value (record { base = base.Int; stars = 0 }));
        name = 1;
        params = [];
        body = part.Stmt (stmt.For 6 (head.Decl (record { base = base.Int; parts = record { declarator = record { stars = 0; name = 9; lengths = [] }; initializer = Some (record { equals = 10; value = (expr.Number 11 11 (pos 0)) }) } ∷ [] })) (Some (expr.Less 13 14 (expr.Name 13 13) (expr.Number 15 15 (pos 2)))) (Some (simple.IncreaseFirst 17 (expr.Name 18 18))) (stmt.Block (part.Decl (record { base = base.Int; parts = record { declarator = record { stars = 0; name = 22; lengths = [] }; initializer = None } ∷ [] }) ∷ part.Stmt (stmt.Simple (simple.IncreaseFirst 24 (expr.Name 25 25))) ∷ part.Stmt (stmt.Simple (simple.Assert 27 (expr.Equal 29 30 (expr.Name 29 29) (expr.Number 31 31 (pos 1))))) ∷ []))) ∷ part.Stmt (stmt.Return 35 (Some (expr.Number 36 36 (pos 0)))) ∷ [];
      } ∷ [];
  line_starts = 0 ∷ 6 ∷ 35 ∷ 38 ∷ [];
  layouts = told [] ((0, int_cell ∷ []) ∷ []);
  globals = [];
  entry = 0;
}

anew_zero : shows (program_of anew) (bounds 100 8 1000) (input [] []) ≡ record { path = True ∷ Plain ∷ True ∷ Plain ∷ True ∷ Plain ∷ True ∷ Plain ∷ False ∷ []; end = Return; left = 972 }
unfolding everything written shows bounds compute_program anew
anew_zero = row anew (bounds 100 8 1000) (input [] []) _ refl

-- int f(int x) { if (((x))) return 1; return !(x + 1) || (-x); }
unfoldable bracketed : Source
bracketed = record {
  facts = record {
    names = named ((1, target.Func 0) ∷ (4, target.Local 0) ∷ (11, target.Local 0) ∷ (21, target.Local 0) ∷ (28, target.Local 0) ∷ []);
    global_cells = told 0 [];
    made = told no_layout [];
    declared = told no_layout ((4, record { type = 0; cells = int_cell ∷ [] }) ∷ []);
    lengths = told 0 [];
    widths = told 0 [];
    is_null = told false [];
    results = told int_cell ((1, int_cell) ∷ []);
  };
  funcs =
      record {
        result = (gives.Value (record { base = base.Int; stars = 0 }));
        name = 1;
        params = record { ty = record { base = base.Int; stars = 0 }; name = 4 } ∷ [];
        body = part.Stmt (stmt.If 7 (expr.Name 9 11) (stmt.Return 15 (Some (expr.Number 16 16 (pos 1))))) ∷ part.Stmt (stmt.Return 18 (Some (expr.Or 19 25 (expr.Not 19 19 (expr.Sum 20 22 (expr.Name 21 21) (expr.Number 23 23 (pos 1)))) (expr.Minus 26 27 (expr.Name 28 28))))) ∷ [];
      } ∷ [];
  line_starts = 0 ∷ [];
  layouts = told [] ((0, int_cell ∷ []) ∷ []);
  globals = [];
  entry = 0;
}

bracketed_sites : sites_at (program_of bracketed) (bounds 5 8 1000) (input (pos 0 ∷ []) []) ≡ record { kind = Decision; token = 9 } ∷ record { kind = Fit; token = 22 } ∷ record { kind = Decision; token = 20 } ∷ record { kind = Fit; token = 27 } ∷ record { kind = Decision; token = 26 } ∷ []
unfolding everything written sites_at bounds compute_program bracketed
bracketed_sites = sites_row bracketed (bounds 5 8 1000) (input (pos 0 ∷ []) []) _ refl
