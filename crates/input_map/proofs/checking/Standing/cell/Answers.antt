use Rattle.std.proofs.Common.{◌≡◌, ◌+ℤ◌, pos, suc, inr, Some, arith, sym, ap, ◌∙◌, to_z, of_z, w64}
use Rattle.std.proofs.lemmas.Int.{ints, to_z-of_z}
use Rattle.cc_model.specs.CheckedProgram.{cells_at}
use Rattle.input_map.specs.CellFaults.{is_within}
use Rattle.input_map.specs.declared.faults.MapFault.TheVariants.{Long, OutOfBounds}
use Rattle.input_map.proofs.Standings.{long, number_in, number_out}
use Rattle.input_map.proofs.checking.Standing.cell.Goals as goal

pub returns-in-None : goal.returns-in-None
returns-in-None c = λ zs o f.
    let few = c.requires in
    let a : to_z w64 (of_z w64 (to_z w64 c.args.at +ℤ pos 1)) ≡ pos (suc c.args.at) = omega (arith, ints) in
    inr (long (cells_at c.args.checked.now) c.args.bounds.now c.args.most c.args.at c.args.self.now c.args.number zs o f (sym c.in-None.ensures.value) (omega arith) ∙ ap (λ n. Some (Long n)) (sym a))

pub returns-then-is_within : goal.returns-then-is_within
returns-then-is_within c = λ zs o f.
    let w = ap (is_within c.args.bounds.now) (sym (to_z-of_z w64 c.args.number c.ranges.number)) ∙ sym c.if-is_within.ensures in
    number_in (cells_at c.args.checked.now) c.args.bounds.now c.args.most c.args.at c.args.self.now c.args.number zs o f (cc (c.in-Some-Int.ensures.value, c.in-Some-Int.field-0-is)) w

pub returns-else-is_within : goal.returns-else-is_within
returns-else-is_within c = λ zs o f.
    let few = c.requires in
    let a : to_z w64 (of_z w64 (to_z w64 c.args.at +ℤ pos 1)) ≡ pos (suc c.args.at) = omega (arith, ints) in
    let w = ap (is_within c.args.bounds.now) (sym (to_z-of_z w64 c.args.number c.ranges.number)) ∙ sym c.if-is_within.ensures in
    inr (number_out (cells_at c.args.checked.now) c.args.bounds.now c.args.most c.args.at c.args.self.now c.args.number zs o f (cc (c.in-Some-Int.ensures.value, c.in-Some-Int.field-0-is)) w ∙ ap (λ n. Some (OutOfBounds n)) (sym a))
