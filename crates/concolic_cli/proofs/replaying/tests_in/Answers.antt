use Rattle.std.proofs.Common.{subst, ◌∙◌, ap, Err}
use Rattle.cc_model.specs.CheckedProgram.{core_of}
use Rattle.replay.specs.Files.{Refused}
use Rattle.concolic_cli.proofs.ReplayLaws.{not_file}
use Rattle.concolic_cli.proofs.replaying.tests_in.Goals as goal

pub returns-in-Err-Line-clause-refused : goal.returns-in-Err-Line-clause-refused
returns-in-Err-Line-clause-refused c = record {
  refused = subst (Refused (core_of c.args.checked.now) c.args.text.now) c.in-Err-Line.field-0-is c.in-Err-Line.ensures.refused;
  none = λ b all lines h. not_file c.read_tests.result c.in-Err-Line.line b all lines (c.in-Err-Line.is ∙ ap Err c.in-Err-Line.field-0-is) (c.read_tests.ensures.only b all lines h);
}
