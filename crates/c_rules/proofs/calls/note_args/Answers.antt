use Rattle.std.proofs.Common.{◌++◌}
use Rattle.cc_model.specs.Typing.{arg_notes}
use Rattle.c_rules.proofs.ArgumentLemmas.{noted_all}
use Rattle.c_rules.proofs.calls.note_args.Goals as goal

pub returns : goal.returns
returns c = noted_all c.loop-arg.params.now c.args.args.now c.loop-arg.arg-index c.loop-arg.notes (c.args.notes.now ++ arg_notes c.args.params.now c.args.args.now) c.loop-arg-test.false c.loop-arg.invariant
