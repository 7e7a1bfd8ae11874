use Rattle.std.proofs.Common.{◌-◌, ◌<◌, ℕ, Option, Some, None, arith, ap, sym, ◌∙◌, length, get_or}
use Rattle.std.proofs.lemmas.Option.{slice_get-get_or}
use Rattle.tac_lower.specs.Bodies.{func_at}
use Rattle.tac_lower.proofs.Wholes.{one_is_written}
use Rattle.tac_lower.proofs.lowering.write_all.Goals as goal

pub loop-left-preserved : goal.loop-left-preserved
loop-left-preserved c =
    let unset : Option ℕ = None in
    let test = c.loop-left-test.true in
    let w = c.loop-left.invariant.within in
    let many = c.requires.many in
    let items = (c.args.checked.now.program).items in
    let at : Option ℕ = get_or c.args.bodies.now (c.loop-left.left - 1) unset in
    let lt : c.loop-left.left - 1 < length c.args.bodies.now = omega (arith, test, w, many) in
    record {
      within = omega (arith, w);
      written = one_is_written c.args.checked.now c.index-sigs-left.result c.loop-left.left (c.loop-left.left - 1) (func_at items (Some at)) c.in_ok-function.function c.loop-left.code c.defined.new.code c.loop-left.funcs c.push.new.self
          (omega (arith, test)) w (c.index-sigs-left.is ∙ ap (λ l. get_or l (c.loop-left.left - 1) c.index-sigs-left.result) c.as_slice-sigs.ensures)
          (ap (func_at items) (sym (slice_get-get_or c.args.bodies.now (c.loop-left.left - 1) unset lt)) ∙ c.requires.bodies (c.loop-left.left - 1) lt)
          c.in_ok-function.ensures c.in_ok-push.ensures.ok c.loop-left.invariant.written;
    }
