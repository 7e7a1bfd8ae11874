use Rattle.std.proofs.Common.{sym, arith, append-nil}
use Rattle.sym_expr.specs.AtomsSeen.{atoms_of}
use Rattle.slice_solve.specs.Joins.{all_joined}
use Rattle.slice_solve.proofs.Steps.{joined_more}
use Rattle.slice_solve.proofs.joins.join_all.Goals as goal

pub loop-atom-init : goal.loop-atom-init
unfolding all_joined
loop-atom-init c = record { joined = sym (append-nil (atoms_of c.args.joins.now.items)); len = omega arith }

pub loop-atom-preserved : goal.loop-atom-preserved
loop-atom-preserved c = record {
  joined = joined_more (atoms_of c.args.joins.now.items) (atoms_of c.loop-atom.joins.items) (atoms_of c.join.new.joins.items) c.args.condition.now c.loop-atom.atom-index c.atom-item.result c.loop-atom-test.true c.atom-item.is c.in_ok-join.ensures.joined c.loop-atom.invariant.joined;
  len = omega (arith, c.in_ok-join.ensures.len, c.loop-atom.invariant.len);
}
