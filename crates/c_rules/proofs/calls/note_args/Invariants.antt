use Rattle.std.proofs.Common.{◌≡◌, ◌++◌, drop}
use Rattle.cc_model.specs.Typing.{arg_notes}
use Rattle.c_rules.proofs.calls.note_args.Given as goal

abbrev pub invariant-loop-arg : goal.invariant-loop-arg
invariant-loop-arg l = l.notes ++ arg_notes l.params (drop l.arg-index l.args) ≡ l.fn.notes ++ arg_notes l.fn.params l.fn.args
