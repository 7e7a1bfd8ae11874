use Rattle.std.proofs.Common.{◌∙◌}
use Rattle.checked_memory.proofs.Writes.{next_number}
use Rattle.checked_memory.proofs.Memory.made.Goals as goal

pub overflow_sub-result : goal.overflow_sub-result
overflow_sub-result c = (next_number _ _ _ _ _ c.self.invariant c.self.view_is (c.len.ensures ∙ c.self.inside.objects.ok.0)).0

pub returns : goal.returns
returns c = (next_number _ _ _ _ _ c.self.invariant c.self.view_is (c.len.ensures ∙ c.self.inside.objects.ok.0)).1
