use Rattle.cc_model.specs.CheckedProgram.{core_of}
use Rattle.concolic_cli.proofs.MapRefusals.{cause_by, no_whole, one_by, never_refused}
use Rattle.concolic_cli.proofs.map_words.read_input.Goals as goal

pub returns-in-Ok-clause-refused : goal.returns-in-Ok-clause-refused
returns-in-Ok-clause-refused c = λ f r. absurd (never_refused c.in-Ok.input f (c.in-Ok.ensures.refused f r))

pub returns-in-Err : goal.returns-in-Err
returns-in-Err c = record {
  read = tt;
  map_refused = cause_by (core_of c.args.checked.now) c.args.bounds.now c.args.text.now c.in-Err.fault _ c.refusal_of.ensures c.in-Err.ensures.answer;
  whole = λ h i j. no_whole c.in-Err.fault _ h c.refusal_of.ensures (c.in-Err.ensures.read h i j);
  refused = λ f r. one_by c.in-Err.fault _ f c.refusal_of.ensures (c.in-Err.ensures.refused f r);
}
