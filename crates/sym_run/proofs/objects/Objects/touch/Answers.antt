use Rattle.std.proofs.Common.{◌∙◌, w64}
use Rattle.std.proofs.lemmas.Int.{to_z-of_z}
use Rattle.sym_run.proofs.AccessLaws.{touched_whole}
use Rattle.sym_run.proofs.objects.Objects.touch.Goals as goal

pub returns-clause-touched : goal.returns-clause-touched
returns-clause-touched c = λ start named d layouts r same low values hold.
    touched_whole start named c.args.symbols.now c.new_cells.new.symbols c.args.self.now d c.args.pointer layouts c.args.layout.now c.args.numbers.now c.args.address _ c.new_cells.new.places c.push.new.self c.touch.new.self c.as_slice.result.now
    r same low values hold c.in_ok-cells.ensures.enough c.in_ok-cells.ensures.symbols c.in_ok-cells.ensures.places c.in_ok-push.ensures.ok (c.as_slice.ensures.value ∙ c.in_ok-cells.ensures.cells)
    (to_z-of_z w64 c.args.address c.ranges.address) c.in_ok-touch.ensures.touched
