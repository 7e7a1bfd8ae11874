use Rattle.std.proofs.Common.{◌≡◌, ℕ, Option, Some, None, refl, ap, ◌∙◌}
use Rattle.checked_memory.specs.declared.values.Cell.{Cell}
use Rattle.sym_run.proofs.StartLaws.{push_each}
use Rattle.sym_run.proofs.calls.empty_slots.Goals as goal

pub loop-number-preserved : goal.loop-number-preserved
loop-number-preserved c = λ n d e.
    push_each (λ (m : ℕ) (x : Option Cell). (y : Cell) → x ≡ Some y → ⊥) c.loop-number.slots c.push.new.self None c.in_ok-push.ensures.ok (λ m x f y g. c.loop-number.invariant m y (f ∙ ap Some g)) (λ y g. absurd (cc g)) n (Some d) e d refl
