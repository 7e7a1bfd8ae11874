use Rattle.std.proofs.Common.{◌≡◌, ◌++◌, drop}
use Rattle.c_scopes.specs.FileNames as kept
use Rattle.c_scopes.proofs.file_names.member_names.Given as goal

abbrev pub invariant-loop-member : goal.invariant-loop-member
invariant-loop-member l = l.names ++ kept.member_names (drop l.member-index l.members) ≡ kept.member_names l.fn.members
