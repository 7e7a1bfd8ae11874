use Rattle.std.proofs.Common.{◌++◌, ◌∷◌, [], ap, ◌∙◌, refl, arith}
use Rattle.checked_memory.specs.Contents.{Contents}
use Rattle.checked_memory.proofs.Writes.{object_made, next_number}
use Rattle.checked_memory.proofs.Memory.make.Goals as goal

pub overflow_sub-number : goal.overflow_sub-number
overflow_sub-number c = (next_number _ _ _ _ _ c.self.invariant c.self.view_is (c.len.ensures ∙ c.self.inside.objects.ok.0)).0

pub overflow_cast-result : goal.overflow_cast-result
overflow_cast-result c = omega (arith, c.requires, (next_number _ _ _ _ _ c.self.invariant c.self.view_is (c.len.ensures ∙ c.self.inside.objects.ok.0)).1)

pub returns-clause-number : goal.returns-clause-number
returns-clause-number c = (next_number _ _ _ _ _ c.self.invariant c.self.view_is (c.len.ensures ∙ c.self.inside.objects.ok.0)).1

pub invariant_of-self-2 : goal.invariant_of-self-2
invariant_of-self-2 c = (object_made _ _ _ _ _ _ c.in_ok-push.ensures.items refl c.in_ok-cells.ensures.items c.self.invariant).0

pub returns-clause-made : goal.returns-clause-made
returns-clause-made c =
    (object_made _ _ _ _ _ _ c.in_ok-push.ensures.items refl c.in_ok-cells.ensures.items c.self.invariant).1
    ∙ ap (λ (m : Contents). (let r : Contents = record { made = m.made ++ c.args.cells.now ∷ []; touched = m.touched } in r)) c.self.view_is
