use Rattle.std.proofs.Common.{◌≡◌, drop}
use Rattle.cc_model.specs.Faults.{same_all}
use Rattle.c_rules.proofs.agreement.same_all.Given as goal

abbrev pub invariant-loop-param : goal.invariant-loop-param
invariant-loop-param l = same_all (drop l.param-index l.one) l.other ≡ same_all l.fn.one l.fn.other
