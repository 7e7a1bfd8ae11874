use Rattle.std.proofs.Common.{◌≡◌, drop}
use Rattle.cc_model.specs.Typing.{all_taken}
use Rattle.c_rules.proofs.calls.all_taken.Given as goal

abbrev pub invariant-loop-arg : goal.invariant-loop-arg
invariant-loop-arg l = all_taken l.params (drop l.arg-index l.args) ≡ all_taken l.fn.params l.fn.args
