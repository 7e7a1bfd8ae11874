use Rattle.std.proofs.Common.{◌≡◌, List, [], refl, ap, ◌∙◌, subst, suc, length, slice_get, slice_set, unwrap_or, Some}
use Rattle.cc_base.specs.declared.cells.CellTy.{CellTy}
use Rattle.sym_run.specs.declared.machine.Machine.{Machine}
use Rattle.sym_run.specs.Remembers.{names_in}
use Rattle.sym_run.specs.Stands.{Setting, setting}
use Rattle.sym_run.proofs.DataActs.{MadeBy, local_over, local_did}
use Rattle.sym_run.proofs.machine.Machine.local.Goals as goal

pub returns-then-not-spend : goal.returns-then-not-spend
returns-then-not-spend c =
    let w : Setting = setting c.args.fixed.now.checked.now c.args.fixed.now.tac.now c.args.fixed.now.bounds.now c.args.fixed.now.input.now in
    let cells : c.layout_at-cells.result.now ≡ unwrap_or (slice_get c.args.fixed.now.checked.now.layouts c.args.ty.0) [] = c.layout_at-cells.ensures ∙ ap (λ (l : List (List CellTy)). unwrap_or (slice_get l c.args.ty.0) []) c.as_slice.ensures in
    local_over w c.args.self.now c.spend.new.self c.args.ty.0 c.layout_at-cells.result.now cells c.args.slot (length c.layout_at-cells.result.now) refl (c.spend.ensures.fewer c.if-not-spend.true) c.spend.ensures.kept

pub returns : goal.returns
returns c =
    let w : Setting = setting c.args.fixed.now.checked.now c.args.fixed.now.tac.now c.args.fixed.now.bounds.now c.args.fixed.now.input.now in
    let cells : c.layout_at-cells.result.now ≡ unwrap_or (slice_get c.args.fixed.now.checked.now.layouts c.args.ty.0) [] = c.layout_at-cells.ensures ∙ ap (λ (l : List (List CellTy)). unwrap_or (slice_get l c.args.ty.0) []) c.as_slice.ensures in
    local_did w c.args.self.now c.advance.new.self c.args.ty.0 c.layout_at-cells.result.now cells c.args.slot (length c.layout_at-cells.result.now) c.spend.new.self.steps c.make.new.self c.in_ok-pointer.pointer refl (c.spend.ensures.enough c.if-not-spend.false)
    (subst (λ (x : Machine). MadeBy x.objects c.layout_at-cells.result.now c.make.new.self c.in_ok-pointer.pointer) c.spend.ensures.kept c.in_ok-pointer.ensures.made)
    (c.in_ok-pointer.ensures.names ∙ ap (λ (x : Machine). names_in x.objects) c.spend.ensures.kept)
    (c.in_ok-advance.ensures ∙ ap (λ (x : Machine). record x { pc = suc x.pc }) c.in_ok-bind.ensures ∙ ap (λ (x : Machine). record x { pc = suc x.pc; objects = c.make.new.self; slots = slice_set x.slots c.args.slot (Some c.in_ok-pointer.pointer) }) c.spend.ensures.kept)
