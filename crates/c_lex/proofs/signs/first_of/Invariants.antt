use Rattle.std.proofs.Common.{◌≡◌, drop}
use Rattle.std.specs.List.{find}
use Rattle.cc_model.specs.Lexical.{begins}
use Rattle.c_lex.specs.Tables.{seen}
use Rattle.c_lex.proofs.signs.first_of.Given as goal

abbrev pub invariant-loop-text : goal.invariant-loop-text
invariant-loop-text l = find (λ s. begins l.bytes s.0) (seen (drop l.text-index l.table)) ≡ find (λ s. begins l.bytes s.0) (seen l.table)
