-- Where a simple statement that begins with a unary expression stands.
use Rattle.std.proofs.Common.{ℕ, Bool, Option}
use Rattle.cc_model.specs.declared.tokens.Kind.{Kind}
use Rattle.cc_model.specs.declared.trees.Simple.{Simple}
use Rattle.cc_model.specs.Spots.{Spot}
use Rattle.c_expressions.specs.Descent.{Got, Ends}
use Rattle.c_statements.specs.DescentStatements as st

pub unary_is : (tok : ℕ → Option Kind) (fits : ℕ → ℕ → Bool) (s : Spot) {r : Got Simple} → Ends (λ m. st.unary_stmt tok fits m) s r → Ends (λ m. st.simple_of tok fits m st.a_unary) s r
unfolding st.simple_of
unary_is tok fits s h = h
