-- Programs that are one but for the numbers of their types. All of it is this project's own.
use Rattle.std.specs.Prelude.{ℕ, ◌≡◌, map, Option, Some, None}
use Rattle.cc_base.specs.declared.cells.CellTy.{CellTy}
use Rattle.cc_base.specs.declared.cells.CellTy.TheVariants as ty
use Rattle.cc_base.specs.Places.{Placed}
use Rattle.cc_model.specs.Core as tree
use Rattle.cc_model.specs.Core.{Cell, int_cell, ptr_cell, Layout, Val, Cond, Loc, Vals, Simple, Declarator, Stmt, Parts, Func, Program}
use Rattle.cc_model.specs.Meaning.{Entry}
use Rattle.cc_model.specs.Traced.{Event}

-- each number n of a type becomes r n
module _ (r : ℕ → ℕ) where
  abbrev pub renumber_cell : Cell → Cell
  renumber_cell int_cell = int_cell
  renumber_cell (ptr_cell t) = ptr_cell (r t)

  abbrev pub renumber_layout : Layout → Layout
  renumber_layout t = record { type = r t.type; cells = map renumber_cell t.cells }

  -- ---- trees

  abbrev mutual
    pub renumber_val : Val → Val
    renumber_val (tree.number z) = tree.number z
    renumber_val tree.nil = tree.nil
    renumber_val (tree.read l) = tree.read (renumber_loc l)
    renumber_val (tree.arith t o a b) = tree.arith t o (renumber_val a) (renumber_val b)
    renumber_val (tree.negate t a) = tree.negate t (renumber_val a)
    renumber_val (tree.truth c) = tree.truth (renumber_cond c)
    renumber_val (tree.address l) = tree.address (renumber_loc l)
    renumber_val (tree.call f args) = tree.call f (renumber_vals args)
    renumber_val (tree.malloc t) = tree.malloc (renumber_layout t)

    pub renumber_cond : Cond → Cond
    renumber_cond (tree.compare t o a b) = tree.compare t o (renumber_val a) (renumber_val b)
    renumber_cond (tree.opposite c) = tree.opposite (renumber_cond c)
    renumber_cond (tree.both a b) = tree.both (renumber_cond a) (renumber_cond b)
    renumber_cond (tree.either a b) = tree.either (renumber_cond a) (renumber_cond b)
    renumber_cond (tree.test t a) = tree.test t (renumber_val a)

    pub renumber_loc : Loc → Loc
    renumber_loc (tree.local n) = tree.local n
    renumber_loc (tree.global n) = tree.global n
    renumber_loc (tree.deref t a) = tree.deref t (renumber_val a)
    renumber_loc (tree.arrow t a n) = tree.arrow t (renumber_val a) n
    renumber_loc (tree.dot l n) = tree.dot (renumber_loc l) n
    renumber_loc (tree.index t l i n w) = tree.index t (renumber_loc l) (renumber_val i) n w

    pub renumber_vals : Vals → Vals
    renumber_vals tree.done = tree.done
    renumber_vals (tree.more a rest) = tree.more (renumber_val a) (renumber_vals rest)

  abbrev pub renumber_simple : Simple → Simple
  renumber_simple (tree.assign l a) = tree.assign (renumber_loc l) (renumber_val a)
  renumber_simple (tree.update t o l a) = tree.update t o (renumber_loc l) (renumber_val a)
  renumber_simple (tree.bump t o l) = tree.bump t o (renumber_loc l)
  renumber_simple (tree.perform f args) = tree.perform f (renumber_vals args)
  renumber_simple (tree.assert t c) = tree.assert t (renumber_cond c)
  renumber_simple (tree.assume c) = tree.assume (renumber_cond c)
  renumber_simple (tree.abort t) = tree.abort t
  renumber_simple (tree.take l) = tree.take (renumber_loc l)

  -- what may be left out
  abbrev pub if_there : {A : Type 0} → (A → A) → Option A → Option A
  if_there f None = None
  if_there f (Some a) = Some (f a)

  abbrev pub renumber_declarator : Declarator → Declarator
  renumber_declarator d = record { slot = d.slot; type = renumber_layout d.type; start = if_there renumber_val d.start }

  abbrev mutual
    pub renumber_stmt : Stmt → Stmt
    renumber_stmt tree.empty = tree.empty
    renumber_stmt (tree.block parts) = tree.block (renumber_parts parts)
    renumber_stmt (tree.choice c a) = tree.choice (renumber_cond c) (renumber_stmt a)
    renumber_stmt (tree.choice_else c a b) = tree.choice_else (renumber_cond c) (renumber_stmt a) (renumber_stmt b)
    renumber_stmt (tree.loop c body) = tree.loop (renumber_cond c) (renumber_stmt body)
    renumber_stmt (tree.repeat body c) = tree.repeat (renumber_stmt body) (renumber_cond c)
    renumber_stmt (tree.loop_for first decls c next body) = tree.loop_for (if_there renumber_simple first) (map renumber_declarator decls)
        (if_there renumber_cond c) (if_there renumber_simple next) (renumber_stmt body)
    renumber_stmt (tree.return a) = tree.return (if_there renumber_val a)
    renumber_stmt tree.break = tree.break
    renumber_stmt tree.continue = tree.continue
    renumber_stmt (tree.simple a) = tree.simple (renumber_simple a)

    pub renumber_parts : Parts → Parts
    renumber_parts tree.finish = tree.finish
    renumber_parts (tree.declare d rest) = tree.declare (renumber_declarator d) (renumber_parts rest)
    renumber_parts (tree.then a rest) = tree.then (renumber_stmt a) (renumber_parts rest)

  abbrev pub renumber_func : Func → Func
  renumber_func f = record { params = map renumber_cell f.params; result = renumber_cell f.result; body = renumber_parts f.body }

  -- ---- what a traced run tells of types: what stands at its places

  abbrev pub renumber_ty : CellTy → CellTy
  renumber_ty ty.Int = ty.Int
  renumber_ty (ty.Ptr t) = ty.Ptr (record { 0 = r t.0 })

  abbrev pub renumber_placed : Placed → Placed
  renumber_placed p = record { place = p.place; holds = renumber_ty p.holds }

  -- the site, the outcome and what is asked stay
  abbrev pub renumber_event : Event → Event
  renumber_event e = record { outcome = e.outcome; asked = e.asked; places = map renumber_placed e.places }

  abbrev pub renumber_entry : Entry Event → Entry Event
  renumber_entry a = record { kind = a.kind; token = a.token; event = renumber_event a.event }

-- q is p with r n for each number n of a type: r gives no two numbers one, and its cells of types, its functions and
-- their bodies are those of p, renumbered; the lines, the globals and the tested function are the same
pub record Renumbers (r : ℕ → ℕ) (p q : Program) : Type 0 where
  pub one_to_one : (m n : ℕ) → r m ≡ r n → m ≡ n
  pub layouts : (t : ℕ) → q.layouts (r t) ≡ map (renumber_cell r) (p.layouts t)
  pub funcs : q.funcs ≡ map (renumber_func r) p.funcs
  pub line : (t : ℕ) → q.line t ≡ p.line t
  pub globals : q.globals ≡ p.globals
  pub entry : q.entry ≡ p.entry
