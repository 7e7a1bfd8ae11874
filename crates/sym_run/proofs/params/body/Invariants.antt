use Rattle.std.proofs.Common.{◌≡◌, drop}
use Rattle.cc_model.specs.CheckedProgram.{body_in}
use Rattle.sym_run.proofs.params.body.Given as goal

-- no item so far is the function with the number
abbrev pub invariant-loop-item : goal.invariant-loop-item
invariant-loop-item l = body_in l.checked l.number (drop l.item-index l.item-items) ≡ body_in l.checked l.number l.item-items
