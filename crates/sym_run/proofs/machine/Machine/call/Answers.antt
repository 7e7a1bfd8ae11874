use Rattle.std.proofs.Common.{◌≡◌, ◌+◌, ℕ, Some, List, ap, sym, subst, ◌∙◌, map, length, slice_get}
use Rattle.cc_base.specs.declared.cells.CellTy.{CellTy}
use Rattle.checked_memory.specs.declared.values.Cell.{Cell}
use Rattle.cc_model.specs.CheckedProgram.{cell_of}
use Rattle.sym_run.specs.Stands.{Setting, setting}
use Rattle.sym_run.proofs.PassLaws.{call_did, call_over}
use Rattle.sym_run.proofs.machine.Machine.call.Goals as goal

pub returns-then-not-done : goal.returns-then-not-done
returns-then-not-done c =
    let w : Setting = setting c.args.fixed.now.checked.now c.args.fixed.now.tac.now c.args.fixed.now.bounds.now c.args.fixed.now.input.now in
    let f = c.in_ok-types.ensures in
    let there : (n : ℕ) (x : Cell) → slice_get c.as_slice.result.now n ≡ Some x → slice_get c.args.self.now.temps (c.args.first + n) ≡ Some x =
    subst (λ (l : List Cell). (n : ℕ) (x : Cell) → slice_get l n ≡ Some x → slice_get c.args.self.now.temps (c.args.first + n) ≡ Some x) (sym c.as_slice.ensures) c.in_ok-cells.ensures.cells in
    call_over w c.args.self.now c.enter.new.self c.pass_all.new.self c.args.dst c.args.function c.args.first c.args.count c.as_slice.result.now c.as_slice-2.result.now f.0 f.1
    (ap (λ (l : List CellTy). map cell_of l) c.as_slice-2.ensures ∙ f.2) (ap (λ (l : List Cell). length l) c.as_slice.ensures ∙ c.in_ok-cells.ensures.count) there c.in_ok-enter.ensures c.in_ok-done.done (c.in_ok-done.ensures w) c.if-not-done.true

pub returns : goal.returns
returns c =
    let w : Setting = setting c.args.fixed.now.checked.now c.args.fixed.now.tac.now c.args.fixed.now.bounds.now c.args.fixed.now.input.now in
    let f = c.in_ok-types.ensures in
    let there : (n : ℕ) (x : Cell) → slice_get c.as_slice.result.now n ≡ Some x → slice_get c.args.self.now.temps (c.args.first + n) ≡ Some x =
    subst (λ (l : List Cell). (n : ℕ) (x : Cell) → slice_get l n ≡ Some x → slice_get c.args.self.now.temps (c.args.first + n) ≡ Some x) (sym c.as_slice.ensures) c.in_ok-cells.ensures.cells in
    call_did w c.args.self.now c.enter.new.self c.pass_all.new.self c.args.dst c.args.function c.args.first c.args.count c.as_slice.result.now c.as_slice-2.result.now f.0 f.1
    (ap (λ (l : List CellTy). map cell_of l) c.as_slice-2.ensures ∙ f.2) (ap (λ (l : List Cell). length l) c.as_slice.ensures ∙ c.in_ok-cells.ensures.count) there c.in_ok-enter.ensures c.in_ok-done.done (c.in_ok-done.ensures w) c.if-not-done.false
