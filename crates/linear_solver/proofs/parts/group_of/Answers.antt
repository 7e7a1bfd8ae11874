use Rattle.std.proofs.Common.{reverse}
use Rattle.cc_base.specs.Groups.{atoms_on}
use Rattle.linear_solver.specs.Atoms.{seen_atoms}
use Rattle.linear_solver.proofs.PartSteps.{on_start, on_more, on_end}
use Rattle.linear_solver.proofs.parts.group_of.Goals as goal

pub loop-a-init : goal.loop-a-init
loop-a-init c = on_start (reverse c.args.part.now) c.new-out.result.items c.args.atoms.now c.new-out.ensures.items

pub loop-a-preserved : goal.loop-a-preserved
loop-a-preserved c = on_more (reverse c.args.part.now) c.loop-a.out.items c.add_atom.new.out.items c.args.atoms.now c.loop-a.a-index c.a-item.result (atoms_on (reverse c.args.part.now) (seen_atoms c.args.atoms.now)) c.loop-a-test.true c.a-item.is c.in_ok-add_atom.ensures c.loop-a.invariant

pub returns : goal.returns
returns c = on_end (reverse c.args.part.now) c.loop-a.out.items c.args.atoms.now c.loop-a.a-index (atoms_on (reverse c.args.part.now) (seen_atoms c.args.atoms.now)) c.loop-a-test.false c.loop-a.invariant
