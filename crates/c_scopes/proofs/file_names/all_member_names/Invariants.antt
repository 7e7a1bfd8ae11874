use Rattle.std.proofs.Common.{◌≡◌, ◌++◌, drop, map}
use Rattle.c_scopes.specs.FileNames as kept
use Rattle.c_scopes.proofs.file_names.all_member_names.Given as goal

abbrev pub invariant-loop-members : goal.invariant-loop-members
invariant-loop-members l = l.all ++ map kept.member_names (drop l.members-index l.structs) ≡ map kept.member_names l.fn.structs
