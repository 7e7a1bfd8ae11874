use Rattle.std.proofs.Common.{◌++◌, refl}
use Rattle.cc_base.specs.Need.{all_written}
use Rattle.linear_solver.specs.Atoms.{seen_atoms}
use Rattle.linear_solver.specs.Seen.{seen_all}
use Rattle.linear_solver.proofs.Writing.{fit_at}
use Rattle.linear_solver.proofs.FirstList.{atoms_wrote, atoms_written}
use Rattle.linear_solver.proofs.elimination.write_atoms.Goals as goal

pub loop-a-init : goal.loop-a-init
loop-a-init c = refl

pub write_atom-requires : goal.write_atom-requires
write_atom-requires c = fit_at c.args.atoms.now c.loop-a.a-index c.a-item.result c.requires c.loop-a-test.true c.a-item.is

pub loop-a-preserved : goal.loop-a-preserved
loop-a-preserved c = atoms_wrote c.loop-a.out.items c.write_atom.new.out.items c.args.atoms.now c.loop-a.a-index c.a-item.result (seen_all c.args.out.now.items ++ all_written (seen_atoms c.args.atoms.now)) c.loop-a-test.true c.a-item.is c.in_ok-write_atom.ensures c.loop-a.invariant

pub returns : goal.returns
returns c = atoms_written c.loop-a.out.items c.args.atoms.now c.loop-a.a-index (seen_all c.args.out.now.items ++ all_written (seen_atoms c.args.atoms.now)) c.loop-a-test.false c.loop-a.invariant
