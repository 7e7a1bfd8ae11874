use Rattle.std.proofs.Common.{◌≡◌, drop}
use Rattle.cc_model.specs.Faults.{all_known}
use Rattle.c_scopes.proofs.whole.all_known.Given as goal

abbrev pub invariant-loop-param : goal.invariant-loop-param
invariant-loop-param l = all_known (drop l.param-index l.params) ≡ all_known l.fn.params
