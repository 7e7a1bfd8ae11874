use Rattle.std.proofs.Common.{◌≡◌, ℕ, ◌+◌, ◌-◌, ◌*◌, take, get_or, subst, sym}
use Rattle.c_lex.proofs.Digits.{Capped, capped_none, capped_step, capped_over}
use Rattle.c_lex.proofs.numbers.value_of.Goals as goal
use Rattle.c_lex.proofs.numbers.value_of.Goals.{then-value-le-MAX, else-value-le-MAX}

pub loop-digit-init : goal.loop-digit-init
loop-digit-init c = capped_none

pub loop-digit-preserved : goal.loop-digit-preserved
loop-digit-preserved c =
    let IsCapped : ℕ → Type 0 = λ v. Capped v (take (c.loop-digit.digit-index + 1) c.args.digits.now) in
    elim c.if-value-le-MAX.branch [
      | then-value-le-MAX w ↦
          let e : 10 * c.loop-digit.value + (get_or c.args.digits.now c.loop-digit.digit-index 0 - 48) ≡ c.if-value-le-MAX.value = cc in
          subst IsCapped e (capped_step _ _ _ 0 c.loop-digit-test.true w.if-value-le-MAX.true c.loop-digit.invariant)
      | else-value-le-MAX w ↦ subst IsCapped (sym w.value-is) (capped_over _ _ _ 0 c.loop-digit-test.true w.if-value-le-MAX.false c.loop-digit.invariant)
    ]
