use Rattle.std.proofs.Common.{◌≡◌, ◌<◌, ◌+ℤ◌, pos, suc, inr, Some, arith, rules, sym, ap, ◌∙◌, to_z, of_z, w64}
use Rattle.std.proofs.lemmas.Int.{ints, to_z-of_z}
use Rattle.cc_model.specs.CheckedProgram.{cells_at}
use Rattle.input_map.specs.declared.faults.MapFault.TheVariants.{NotCanonical}
use Rattle.input_map.proofs.Standings.{is_old_block, is_no_block, is_new_block}
use Rattle.input_map.proofs.checking.Standing.pointer.Goals as goal

pub returns-then-has_old : goal.returns-then-has_old
returns-then-has_old c = λ b zs o e f.
    let small : (c.args.target).0 < 4294967296 = search rules in
    is_old_block (cells_at c.args.checked.now) b c.args.most c.args.at c.args.self.now c.args.number zs o c.args.target small
    (to_z w64 (of_z w64 c.args.number)) (to_z-of_z w64 c.args.number c.ranges.number) c.ranges.number e f c.if-has_old.ensures

pub returns-then-not-is_next : goal.returns-then-not-is_next
returns-then-not-is_next c = λ b zs o e f.
    let small : (c.args.target).0 < 4294967296 = search rules in
    let few = c.requires in
    let a : to_z w64 (of_z w64 (to_z w64 c.args.at +ℤ pos 1)) ≡ pos (suc c.args.at) = omega (arith, ints) in
    inr (is_no_block (cells_at c.args.checked.now) b c.args.most c.args.at c.args.self.now c.args.number zs o c.args.target small
    (to_z w64 (of_z w64 c.args.number)) (to_z-of_z w64 c.args.number c.ranges.number) c.ranges.number e f c.if-has_old.ensures c.if-not-is_next.ensures
    ∙ ap (λ n. Some (NotCanonical n)) (sym a))

pub returns : goal.returns
returns c = λ b zs o e f.
    let small : (c.args.target).0 < 4294967296 = search rules in
    is_new_block (cells_at c.args.checked.now) b c.args.most c.args.at c.args.self.now c.args.number zs o c.args.target small
    (to_z w64 (of_z w64 c.args.number)) (to_z-of_z w64 c.args.number c.ranges.number) c.ranges.number e f c.if-has_old.ensures c.if-not-is_next.ensures
    c.layout.result.now c.name.new.self c.layout.ensures c.in_ok-name.ensures
