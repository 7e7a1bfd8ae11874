use Rattle.std.proofs.Common.{ap}
use Rattle.std.specs.Prelude.{option_map}
use Rattle.cc_model.specs.Lexical.{begins}
use Rattle.c_lex.specs.Tables.{sized}
use Rattle.c_lex.proofs.Tables.{find_found, find_passed, find_all}
use Rattle.c_lex.proofs.signs.first_of.Goals as goal

pub returns-then-begins-clause-value : goal.returns-then-begins-clause-value
returns-then-begins-clause-value c = ap (option_map sized) (find_found (λ s. begins c.args.bytes.now s.0) _ _ _ _ c.loop-text-test.true c.begins.ensures.value c.if-begins.true c.loop-text.invariant)

pub loop-text-preserved : goal.loop-text-preserved
loop-text-preserved c = find_passed (λ s. begins c.args.bytes.now s.0) _ _ _ _ c.loop-text-test.true c.begins.ensures.value c.if-begins.false c.loop-text.invariant

pub returns-clause-value : goal.returns-clause-value
returns-clause-value c = ap (option_map sized) (find_all (λ s. begins c.args.bytes.now s.0) c.args.table.now _ c.loop-text-test.false c.loop-text.invariant)
