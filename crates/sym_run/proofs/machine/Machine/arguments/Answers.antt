use Rattle.std.proofs.Common.{◌≡◌, ◌+◌, ℕ, [], ◌∷◌, Some, slice_get, length, length-append, ap, subst, sym, arith}
use Rattle.checked_memory.specs.declared.values.Cell.{Cell}
use Rattle.sym_run.proofs.StartLaws.{push_each}
use Rattle.sym_run.proofs.machine.Machine.arguments.Goals as goal

pub loop-number-preserved : goal.loop-number-preserved
loop-number-preserved c =
    let cell : Cell = c.in_ok-cell.cell in
    let here : slice_get c.args.self.now.temps (c.args.first + c.loop-number.number) ≡ Some cell = subst (λ (n : ℕ). slice_get c.args.self.now.temps n ≡ Some cell) c.in_ok-at.ensures c.in_ok-cell.ensures.there in
    record {
      count = omega (arith, c.loop-number.invariant.count, ap length c.in_ok-push.ensures.ok, length-append c.loop-number.cells (cell ∷ []));
      there = push_each (λ (n : ℕ) (x : Cell). slice_get c.args.self.now.temps (c.args.first + n) ≡ Some x) c.loop-number.cells c.push.new.self cell c.in_ok-push.ensures.ok c.loop-number.invariant.there
          (subst (λ (n : ℕ). slice_get c.args.self.now.temps (c.args.first + n) ≡ Some cell) (sym c.loop-number.invariant.count) here);
    }
