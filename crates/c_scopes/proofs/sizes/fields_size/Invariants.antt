use Rattle.std.proofs.Common.{◌≡◌, ◌+◌, ◌≤◌, drop}
use Rattle.cc_model.specs.Types.{up_to_257}
use Rattle.cc_model.specs.Scopes as scopes
use Rattle.c_scopes.proofs.sizes.fields_size.Given as goal

abbrev pub invariant-loop-member : goal.invariant-loop-member
invariant-loop-member l = (up_to_257 (l.size + scopes.fields_size l.sizes (drop l.member-index l.members)) ≡ scopes.fields_size l.fn.sizes l.fn.members) × (l.size ≤ 257)
