use Rattle.std.proofs.Common.{take}
use Rattle.c_lex.proofs.Digits.{Capped}
use Rattle.c_lex.proofs.numbers.value_of.Given as goal

abbrev pub invariant-loop-digit : goal.invariant-loop-digit
invariant-loop-digit l = Capped l.value (take l.digit-index l.digits)
