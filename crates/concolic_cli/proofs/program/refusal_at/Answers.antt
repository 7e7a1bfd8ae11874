-- The tokens are no program, and the line is that of their fault's place.
use Rattle.std.proofs.Common.{ℕ, List, inl, inr, subst}
use Rattle.cc_model.specs.declared.tokens.Token.{Token}
use Rattle.c_expressions.specs.declared.fault.ParseFault.TheVariants.{Syntax, TooDeep}
use Rattle.c_parse.specs.Places.{IsSyntax, IsDeep, Placed}
use Rattle.concolic_cli.proofs.program.refusal_at.Goals as goal

at_syntax : (tokens : List Token) (k : ℕ) → Placed tokens (Syntax k) → IsSyntax tokens k
at_syntax tokens k (inl e) = absurd (cc e)
at_syntax tokens k (inr i) = i

at_deep : (tokens : List Token) (k : ℕ) → Placed tokens (TooDeep k) → IsDeep tokens k
at_deep tokens k (inl e) = absurd (cc e)
at_deep tokens k (inr i) = i

pub returns-in-Syntax : goal.returns-in-Syntax
returns-in-Syntax c = λ entry h p. (c.args.tokens.now, c.in-Syntax.at, c.requires.lexed, c.place_line.ensures, λ tree a. cc (h tree a, c.in-Syntax.is), at_syntax _ _ (subst (λ f. Placed c.args.tokens.now f) c.in-Syntax.is p))

pub returns-in-TooDeep : goal.returns-in-TooDeep
returns-in-TooDeep c = λ entry h p. (c.args.tokens.now, c.in-TooDeep.at, c.requires.lexed, c.place_line-in-TooDeep.ensures, λ tree a. cc (h tree a, c.in-TooDeep.is), at_deep _ _ (subst (λ f. Placed c.args.tokens.now f) c.in-TooDeep.is p))
