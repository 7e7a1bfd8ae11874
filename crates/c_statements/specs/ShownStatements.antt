-- What the code's tests of tokens say of the descent's, for statements.
use Rattle.std.specs.Prelude.{◌≡◌, true, false, Option, Some, None}
use Rattle.cc_model.specs.declared.tokens.Kind.{Kind}
use Rattle.cc_model.specs.declared.tokens.Punct.{Punct}
use Rattle.cc_model.specs.declared.tokens.Punct.TheVariants as punct
use Rattle.cc_model.specs.declared.trees.Simple.TheVariants as a_simple
use Rattle.cc_model.specs.ReadExpressions.{Prefix}
use Rattle.cc_model.specs.ReadStatements.{Assignment, Stepping, assign_sign, behind_sign, before_sign}
use Rattle.c_statements.specs.declared.openings.Behind.{Behind}
use Rattle.c_statements.specs.declared.openings.Behind.TheVariants as behind
use Rattle.c_statements.specs.declared.openings.SimpleStart.{SimpleStart}
use Rattle.c_statements.specs.declared.openings.SimpleStart.TheVariants as simple
use Rattle.c_statements.specs.declared.openings.StmtStart.{StmtStart}
use Rattle.c_statements.specs.declared.openings.StmtStart.TheVariants as stmt
use Rattle.c_statements.specs.DescentStatements.{assign_at, behind_at}
use Rattle.c_statements.specs.DescentStatements as of

-- the trees of signs; a sign that is none has any
abbrev pub assign_or : Option Assignment → Assignment
assign_or (Some make) = make
assign_or None = a_simple.Assign

abbrev pub assign_maker : Punct → Assignment
assign_maker p = assign_or (assign_sign p)

abbrev pub behind_or : Option Stepping → Stepping
behind_or (Some make) = make
behind_or None = a_simple.Increase

abbrev pub behind_maker : Punct → Stepping
behind_maker p = behind_or (behind_sign p)

abbrev pub before_or : Option Stepping → Stepping
before_or (Some make) = make
before_or None = a_simple.IncreaseFirst

abbrev pub before_maker : Punct → Stepping
before_maker p = before_or (before_sign p)

-- what stands behind a unary expression with the prefix operator
abbrev pub BehindAt : Behind → Option Prefix → Option Kind → Type 0
BehindAt (behind.Assign p) o k = assign_at k ≡ Some (assign_maker p)
BehindAt (behind.Step p) o k = (assign_at k ≡ None) × (behind_at o k ≡ Some (behind_maker p))
BehindAt behind.Nothing o k = (assign_at k ≡ None) × (behind_at o k ≡ None)

-- the same start
abbrev pub simple_is : SimpleStart → of.SimpleStart
simple_is simple.Assert = of.an_assert
simple_is simple.Assume = of.an_assume
simple_is simple.Abort = of.an_abort
simple_is simple.CrestInt = of.a_crest_int
simple_is (simple.Step p) = of.a_step (before_maker p)
simple_is simple.Unary = of.a_unary

abbrev pub stmt_is : StmtStart → of.StmtStart
stmt_is stmt.Empty = of.an_empty
stmt_is stmt.Block = of.a_block
stmt_is stmt.If = of.an_if
stmt_is stmt.While = of.a_while
stmt_is stmt.Do = of.a_do
stmt_is stmt.For = of.a_for
stmt_is stmt.Return = of.a_return
stmt_is stmt.Break = of.a_break
stmt_is stmt.Continue = of.a_continue
stmt_is stmt.Simple = of.a_plain
