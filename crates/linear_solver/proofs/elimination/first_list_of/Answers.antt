use Rattle.std.proofs.Common.{◌∙◌, ◌++◌, ap, ap₂, List, ℤ}
use Rattle.std.proofs.lemmas.Int.{to_z-of_z}
use mir.Syntax.{w32}
use Rattle.cc_base.specs.Inequality as plain
use Rattle.cc_base.specs.Need.{all_written, first_list}
use Rattle.linear_solver.specs.Atoms.{seen_atoms}
use Rattle.linear_solver.specs.Seen.{seen_all}
use Rattle.linear_solver.proofs.Loops.{seen_none}
use Rattle.linear_solver.proofs.FirstList.{first_written, bounds_wrote, bounds_written}
use Rattle.linear_solver.proofs.elimination.first_list_of.Goals as goal

pub loop-x-init : goal.loop-x-init
loop-x-init c = first_written _ _ (seen_atoms c.args.atoms.now) (seen_all c.write_atoms.new.out.items) c.args.places.now
    (c.in_ok-write_atoms.ensures ∙ ap (λ (m : List plain.Inequality). m ++ all_written (seen_atoms c.args.atoms.now)) (seen_none c.new-out.result.items c.new-out.ensures.items)) c.requires.places

pub loop-x-preserved : goal.loop-x-preserved
loop-x-preserved c = bounds_wrote _ _ c.loop-x.out.items c.write_bounds.new.out.items c.args.places.now c.loop-x.x-index _ c.loop-x-test.true c.in_ok-write_bounds.ensures c.loop-x.invariant

pub returns : goal.returns
returns c = bounds_written _ _ c.loop-x.out.items c.args.places.now c.loop-x.x-index _ c.loop-x-test.false c.loop-x.invariant
    ∙ ap₂ (λ (a b : ℤ). first_list a b (seen_atoms c.args.atoms.now)) (to_z-of_z w32 c.args.lo c.ranges.lo) (to_z-of_z w32 c.args.hi c.ranges.hi)
