use Rattle.std.proofs.Common.{◌∙◌, ap}
use lib.Chars.{codes}
use Rattle.cc_model.specs.Lexical.{begins}
use Rattle.c_lex.proofs.Closing.{close_none, close_found, close_passed, close_all}
use Rattle.c_lex.proofs.gaps.before_close.Goals as goal

pub loop-i-init : goal.loop-i-init
loop-i-init c = close_none _

pub returns-then-begins-clause-value : goal.returns-then-begins-clause-value
returns-then-begins-clause-value c = close_found _ _ _ _ c.loop-i-test.true (c.begins.ensures.value ∙ ap (λ t. begins t (codes "*/")) c.rest_from.ensures) c.if-begins.true c.loop-i.invariant

pub loop-i-preserved : goal.loop-i-preserved
loop-i-preserved c = close_passed _ _ _ _ c.loop-i-test.true (c.begins.ensures.value ∙ ap (λ t. begins t (codes "*/")) c.rest_from.ensures) c.if-begins.false c.loop-i.invariant

pub returns-clause-value : goal.returns-clause-value
returns-clause-value c = close_all _ _ _ c.loop-i-test.false c.loop-i.invariant
