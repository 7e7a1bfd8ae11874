use Rattle.std.proofs.Common.{◌≡◌, ◌++◌, drop, map}
use Rattle.c_scopes.specs.FileNames as kept
use Rattle.c_scopes.proofs.file_names.all_offsets.Given as goal

abbrev pub invariant-loop-members : goal.invariant-loop-members
invariant-loop-members l = l.all ++ map (kept.offsets_in l.sizes 0) (drop l.members-index l.structs) ≡ map (kept.offsets_in l.fn.sizes 0) l.fn.structs
