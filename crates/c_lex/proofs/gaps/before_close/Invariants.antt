use Rattle.std.proofs.Common.{◌≡◌, drop}
use Rattle.cc_model.specs.Lexical.{before_close}
use Rattle.c_lex.proofs.Closing.{behind}
use Rattle.c_lex.proofs.gaps.before_close.Given as goal

abbrev pub invariant-loop-i : goal.invariant-loop-i
invariant-loop-i l = behind l.i (before_close (drop l.i l.bytes)) ≡ before_close l.bytes
