use Rattle.std.proofs.Common.{◌≡◌, drop}
use Rattle.cc_model.specs.Source.{text_at}
use Rattle.cc_model.specs.Scopes.{nothing_before, after_items}
use Rattle.c_types.proofs.resolved.behind.Given as goal

abbrev pub invariant-loop-item : goal.invariant-loop-item
invariant-loop-item l = after_items (text_at l.source l.tokens) l.tags l.before (drop l.item-index l.items) ≡ after_items (text_at l.fn.source l.fn.tokens) l.fn.tags nothing_before l.fn.items
