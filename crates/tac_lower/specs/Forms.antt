-- What an expression's form says: what the expression is by its parts.
use Rattle.std.specs.Prelude.{ℕ, max, List, map}
use denote.Param.Weighed.{most}
use Rattle.cc_model.specs.declared.trees.Expr.{Expr, size-Expr}
use Rattle.cc_model.specs.Core as core
use Rattle.cc_model.specs.Core.{Op, Val, Cond, Loc}
use Rattle.cc_model.specs.Resolve.{Facts, Read, by_value, by_truth, by_place, vals_of, number_or_null, function_named, offset_named, variable_named, resolve, value_of, truth_of, place_of}
use Rattle.tac_lower.specs.declared.form.Operator.{Operator}
use Rattle.tac_lower.specs.declared.form.Operator.TheVariants as operator
use Rattle.tac_lower.specs.declared.form.Computed.{Computed}
use Rattle.tac_lower.specs.declared.form.Computed.TheVariants as computed
use Rattle.tac_lower.specs.declared.form.Located.{Located}
use Rattle.tac_lower.specs.declared.form.Located.TheVariants as located
use Rattle.tac_lower.specs.declared.form.Decided.{Decided}
use Rattle.tac_lower.specs.declared.form.Decided.TheVariants as decided
use Rattle.tac_lower.specs.declared.form.Form.{Form}
use Rattle.tac_lower.specs.declared.form.Form.TheVariants as form
use Rattle.tac_lower.specs.Seen.{comparison}

abbrev pub operation : Operator → Op
operation operator.Add = core.add
operation operator.Sub = core.sub
operation operator.Mul = core.mul
operation operator.Quot = core.quot
operation operator.Rem = core.rem

module _ (facts : Facts) where
  abbrev pub computed_of : Computed → Val
  computed_of (computed.Number t z) = number_or_null (facts.is_null t) z
  computed_of computed.Null = core.nil
  computed_of (computed.Arith o t a b) = core.arith t (operation o) (value_of facts a.now) (value_of facts b.now)
  computed_of (computed.Negate t a) = core.negate t (value_of facts a.now)
  computed_of (computed.Address a) = core.address (place_of facts a.now)
  computed_of (computed.Call t args) = core.call (function_named (facts.names t)) (vals_of (map (resolve facts) args.now))
  computed_of (computed.Malloc t) = core.malloc (facts.made t)

  abbrev pub located_of : Located → Loc
  located_of (located.Name t) = variable_named facts (facts.names t)
  located_of (located.Deref t a) = core.deref t (value_of facts a.now)
  located_of (located.Arrow t a name) = core.arrow t (value_of facts a.now) (offset_named (facts.names name))
  located_of (located.Dot a name) = core.dot (place_of facts a.now) (offset_named (facts.names name))
  located_of (located.Index t a i) = core.index t (place_of facts a.now) (value_of facts i.now) (facts.lengths t) (facts.widths t)

  abbrev pub decided_of : Decided → Cond
  decided_of (decided.Compare o t a b) = core.compare t (comparison o) (value_of facts a.now) (value_of facts b.now)
  decided_of (decided.Not a) = core.opposite (truth_of facts a.now)
  decided_of (decided.And a b) = core.both (truth_of facts a.now) (truth_of facts b.now)
  decided_of (decided.Or a b) = core.either (truth_of facts a.now) (truth_of facts b.now)

  -- the expression that has the form
  abbrev pub read_of : Form → Read
  read_of (form.Value f v) = by_value f (computed_of v)
  read_of (form.Place f l) = by_place f (located_of l)
  read_of (form.Truth k) = by_truth (decided_of k)

-- ---- how deep the deepest part is

abbrev pub deepest : List Expr → ℕ
deepest l = most size-Expr l

abbrev pub computed_depth : Computed → ℕ
computed_depth (computed.Call t args) = deepest args.now
computed_depth (computed.Arith o t a b) = max (size-Expr a.now) (size-Expr b.now)
computed_depth (computed.Negate t a) = size-Expr a.now
computed_depth (computed.Address a) = size-Expr a.now
computed_depth _ = 0

abbrev pub located_depth : Located → ℕ
located_depth (located.Name t) = 0
located_depth (located.Deref t a) = size-Expr a.now
located_depth (located.Arrow t a name) = size-Expr a.now
located_depth (located.Dot a name) = size-Expr a.now
located_depth (located.Index t a i) = max (size-Expr a.now) (size-Expr i.now)

abbrev pub decided_depth : Decided → ℕ
decided_depth (decided.Compare o t a b) = max (size-Expr a.now) (size-Expr b.now)
decided_depth (decided.Not a) = size-Expr a.now
decided_depth (decided.And a b) = max (size-Expr a.now) (size-Expr b.now)
decided_depth (decided.Or a b) = max (size-Expr a.now) (size-Expr b.now)

abbrev pub depth_of : Form → ℕ
depth_of (form.Value f v) = computed_depth v
depth_of (form.Place f l) = located_depth l
depth_of (form.Truth k) = decided_depth k
