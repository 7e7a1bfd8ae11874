use Rattle.std.proofs.Common.{◌-◌, ◌∙◌, ℤ, List, nat_abs, drop, ap₂, w64}
use Rattle.std.proofs.lemmas.Int.{to_z-of_z}
use Rattle.sym_run.specs.Remembers.{cell_shadow}
use Rattle.sym_run.proofs.EnterLaws.{new_touched}
use Rattle.sym_run.proofs.ObjectLaws.{on_ok}
use Rattle.sym_run.proofs.objects.Objects.touch_new.Goals as goal

pub returns-clause-touched : goal.returns-clause-touched
returns-clause-touched c = on_ok c.touch.result c.touch.ensures.touched (λ h start named d f k b r e low listed.
    let same = to_z-of_z w64 c.args.address c.ranges.address in
    new_touched c.args.layouts.now c.args.input.now f named start b c.touch.new.symbols c.touch.new.self d c.in-Some.pointer k c.args.address _ c.layout_at-layout.result.now c.in-Some-numbers_from.numbers.now (cell_shadow c.args.symbols.now c.args.at)
    c.in-Some.ensures e c.layout_at-layout.ensures (c.in-Some-numbers_from.ensures ∙ ap₂ (λ (z : ℤ) (l : List ℤ). drop (nat_abs z - 1) l) same c.as_slice.ensures) same low listed (h start named d f r))
