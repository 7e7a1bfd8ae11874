use Rattle.std.proofs.Common.{◌≡◌, ◌++◌, drop}
use Rattle.cc_model.specs.Source.{text_at}
use Rattle.cc_model.specs.Scopes.{tags_of}
use Rattle.c_scopes.proofs.file.tags_of.Given as goal

abbrev pub invariant-loop-item : goal.invariant-loop-item
invariant-loop-item l = l.tags ++ tags_of (text_at l.source l.tokens) (drop l.item-index l.items) ≡ tags_of (text_at l.fn.source l.fn.tokens) l.fn.items
