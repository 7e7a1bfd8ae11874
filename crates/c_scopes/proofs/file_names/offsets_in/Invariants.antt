use Rattle.std.proofs.Common.{◌≡◌, ◌++◌, drop}
use Rattle.c_scopes.specs.FileNames as kept
use Rattle.c_scopes.proofs.file_names.offsets_in.Given as goal

abbrev pub invariant-loop-member : goal.invariant-loop-member
invariant-loop-member l = l.offsets ++ kept.offsets_in l.sizes l.size (drop l.member-index l.members) ≡ kept.offsets_in l.fn.sizes 0 l.fn.members
