use Rattle.c_numbering.specs.Table.{plain, Numbered}
use Rattle.c_numbering.proofs.table.Table.number_of_plain.Given as goal

abbrev pub invariant-loop-star : goal.invariant-loop-star
invariant-loop-star l = Numbered l.fn.self l.self (l.number).0 (plain l.fn.base l._star)
