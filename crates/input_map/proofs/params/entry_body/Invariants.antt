use Rattle.std.proofs.Common.{◌≡◌, drop}
use Rattle.cc_model.specs.CheckedProgram.{body_in}
use Rattle.input_map.proofs.params.entry_body.Given as goal

-- no item so far is the tested function's body
abbrev pub invariant-loop-item : goal.invariant-loop-item
invariant-loop-item l = body_in l.checked (l.checked).entry (drop l.item-index l.item-items) ≡ body_in l.checked (l.checked).entry l.item-items
