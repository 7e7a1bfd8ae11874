use Rattle.std.proofs.Common.{◌≡◌, drop}
use Rattle.std.specs.List.{find}
use Rattle.std.specs.Str.{bytes_eq}
use Rattle.c_lex.specs.Tables.{seen}
use Rattle.c_lex.proofs.words.entry.Given as goal

abbrev pub invariant-loop-word : goal.invariant-loop-word
invariant-loop-word l = find (λ e. bytes_eq l.text e.0) (seen (drop l.word-index l.table)) ≡ find (λ e. bytes_eq l.text e.0) (seen l.table)
