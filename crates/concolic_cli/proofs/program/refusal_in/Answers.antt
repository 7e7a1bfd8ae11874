-- The first fault of the program is at the checker's token.
use Rattle.std.proofs.Common.{subst}
use Rattle.cc_model.specs.Source.{text_at}
use Rattle.c_types.specs.Refused.{IsTypeFault}
use Rattle.concolic_cli.proofs.program.refusal_in.Goals as goal

pub returns-in-Unknown : goal.returns-in-Unknown
returns-in-Unknown c = λ tree entry a first. record {
  tokens = c.args.tokens.now;
  tree = tree;
  token = c.in-Unknown.at;
  lexed = c.requires.lexed;
  read = a;
  first = subst (λ f. IsTypeFault (text_at c.args.source.now c.args.tokens.now) tree.items entry f) c.in-Unknown.is first;
  place = c.place_line.ensures;
}

pub returns-in-Twice : goal.returns-in-Twice
returns-in-Twice c = λ tree entry a first. record {
  tokens = c.args.tokens.now;
  tree = tree;
  token = c.in-Twice.at;
  lexed = c.requires.lexed;
  read = a;
  first = subst (λ f. IsTypeFault (text_at c.args.source.now c.args.tokens.now) tree.items entry f) c.in-Twice.is first;
  place = c.place_line-in-Twice.ensures;
}

pub returns-in-Mismatch : goal.returns-in-Mismatch
returns-in-Mismatch c = λ tree entry a first. record {
  tokens = c.args.tokens.now;
  tree = tree;
  token = c.in-Mismatch.at;
  lexed = c.requires.lexed;
  read = a;
  first = subst (λ f. IsTypeFault (text_at c.args.source.now c.args.tokens.now) tree.items entry f) c.in-Mismatch.is first;
  place = c.place_line-in-Mismatch.ensures;
}

pub returns-in-TooLarge : goal.returns-in-TooLarge
returns-in-TooLarge c = λ tree entry a first. record {
  tokens = c.args.tokens.now;
  tree = tree;
  token = c.in-TooLarge.at;
  lexed = c.requires.lexed;
  read = a;
  first = subst (λ f. IsTypeFault (text_at c.args.source.now c.args.tokens.now) tree.items entry f) c.in-TooLarge.is first;
  place = c.place_line-in-TooLarge.ensures;
}

pub returns-in-NoEntry : goal.returns-in-NoEntry
returns-in-NoEntry c = λ tree entry a first.
    let h = subst (λ f. IsTypeFault (text_at c.args.source.now c.args.tokens.now) tree.items entry f) c.in-NoEntry.is first in
    (c.args.tokens.now, tree, record { lexed = c.requires.lexed; read = a; well_typed = h.0 }, h.1)
