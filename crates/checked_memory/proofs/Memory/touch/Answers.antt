use Rattle.std.proofs.Common.{◌∙◌, refl, w64}
use Rattle.std.proofs.lemmas.Int.{to_z-of_z}
use Rattle.checked_memory.proofs.Writes.{object_touched}
use Rattle.checked_memory.proofs.Memory.touch.Goals as goal

pub invariant_of-self-2 : goal.invariant_of-self-2
invariant_of-self-2 c =
    (object_touched _ _ _ _ _ _ _ _ _ _ c.in_ok-push.ensures.items refl c.in_ok-cells.ensures.items c.self.invariant c.self.view_is c.requires.few refl (to_z-of_z w64 c.args.address c.ranges.address) c.requires.fresh (c.len-index.ensures ∙ c.self.inside.objects.ok.0)).0

pub returns-clause-touched : goal.returns-clause-touched
returns-clause-touched c =
    (object_touched _ _ _ _ _ _ _ _ _ _ c.in_ok-push.ensures.items refl c.in_ok-cells.ensures.items c.self.invariant c.self.view_is c.requires.few refl (to_z-of_z w64 c.args.address c.ranges.address) c.requires.fresh (c.len-index.ensures ∙ c.self.inside.objects.ok.0)).1
