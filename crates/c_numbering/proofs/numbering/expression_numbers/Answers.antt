use Rattle.c_numbering.proofs.numbering.expression_numbers.Goals as goal

pub returns : goal.returns
returns c = record {
  between = c.numbers_of.new.self;
  numbered = c.in_ok-numbers.ensures;
  more = c.in_ok-_declared._declared;
  behind = c.in_ok-_declared.ensures;
}
