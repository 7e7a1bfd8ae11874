use Rattle.std.proofs.Common.{ap}
use Rattle.std.specs.Prelude.{option_map}
use Rattle.std.specs.Str.{bytes_eq}
use Rattle.cc_model.specs.Lexical.{entry}
use Rattle.c_lex.proofs.Tables.{find_found, find_passed, find_all}
use Rattle.c_lex.proofs.words.entry.Goals as goal

pub returns-then-eq : goal.returns-then-eq
unfolding entry
returns-then-eq c = ap (option_map (λ e. e.1)) (find_found (λ e. bytes_eq c.args.text.now e.0) _ _ _ _ c.loop-word-test.true c.eq.ensures c.if-eq.true c.loop-word.invariant)

pub loop-word-preserved : goal.loop-word-preserved
loop-word-preserved c = find_passed (λ e. bytes_eq c.args.text.now e.0) _ _ _ _ c.loop-word-test.true c.eq.ensures c.if-eq.false c.loop-word.invariant

pub returns : goal.returns
unfolding entry
returns c = ap (option_map (λ e. e.1)) (find_all (λ e. bytes_eq c.args.text.now e.0) c.args.table.now _ c.loop-word-test.false c.loop-word.invariant)
