use Rattle.std.proofs.Common.{◌≡◌, List, map, ap, sym, subst, ◌∙◌}
use Rattle.cc_laws.specs.LinearForms.{linear}
use Rattle.cc_model.specs.Traced as traced
use Rattle.checked_memory.specs.declared.values.Cell.{Cell}
use Rattle.checked_memory.specs.declared.values.Value.TheVariants.{Made}
use Rattle.checked_memory.specs.Contents.{Contents}
use Rattle.sym_run.specs.Beside.{traced_of}
use Rattle.sym_run.specs.Remembers.{Remembers, IsKnown, names_in, zero_of}
use Rattle.sym_run.proofs.MemoryLaws.{with_memory}
use Rattle.sym_run.proofs.ObjectLaws.{with_object, object_made, made_pointer, pointer_known}
use Rattle.sym_run.proofs.objects.Objects.make.Goals as goal

pub returns-clause-made : goal.returns-clause-made
returns-clause-made c = λ start named symbols d type r e.
    let grown : c.make.new.self ≡ with_object c.args.self.now.memory (map zero_of c.args.cells.now) = c.in_ok-number.ensures.made ∙ ap (λ (cs : List Cell). with_object c.args.self.now.memory cs) (c.as_slice.ensures.value ∙ c.in_ok-zeros.ensures) in
    let cell : Cell = record { value = Made c.in_ok-number.number 0; shadow = 0 } in
    subst (λ (m : Contents). (traced_of symbols cell ≡ (traced.make linear type d).value) × Remembers start named symbols (with_memory c.args.self.now m) (traced.make linear type d).after × IsKnown named (names_in (with_memory c.args.self.now m)) symbols cell) (sym grown) (
      made_pointer start named symbols c.args.self.now d r type c.in_ok-number.number c.in_ok-number.ensures.number,
      object_made start named symbols c.args.self.now d r type c.args.cells.now e,
      pointer_known named (names_in c.args.self.now) symbols c.in_ok-number.number,
    )
