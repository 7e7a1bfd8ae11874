use Rattle.std.proofs.Common.{◌≡◌, ◌++◌, drop}
use Rattle.c_scopes.proofs.file_names.tag_index.Given as goal

abbrev pub invariant-loop-tag : goal.invariant-loop-tag
invariant-loop-tag l = l.index ++ drop l.tag-index l.tags ≡ l.fn.tags
