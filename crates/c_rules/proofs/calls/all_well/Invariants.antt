use Rattle.std.proofs.Common.{◌≡◌, drop}
use Rattle.cc_model.specs.Typing.{all_well}
use Rattle.c_rules.proofs.calls.all_well.Given as goal

abbrev pub invariant-loop-arg : goal.invariant-loop-arg
invariant-loop-arg l = all_well (drop l.arg-index l.args) ≡ all_well l.fn.args
