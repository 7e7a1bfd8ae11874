use Rattle.std.proofs.Common.{◌≡◌, [], drop}
use Rattle.cc_model.specs.Scopes.{sizes_after}
use Rattle.c_scopes.proofs.file.sizes_of.Given as goal

abbrev pub invariant-loop-members : goal.invariant-loop-members
invariant-loop-members l = sizes_after l.sizes (drop l.members-index l.structs) ≡ sizes_after [] l.fn.structs
