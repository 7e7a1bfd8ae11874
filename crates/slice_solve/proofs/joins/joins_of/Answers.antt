use Rattle.std.proofs.Common.{◌∙◌, ap, List, ◌++◌}
use Rattle.sym_expr.specs.declared.atoms.Atom.{Atom}
use Rattle.sym_expr.specs.AtomsSeen.{atoms_of}
use Rattle.slice_solve.specs.Joins.{all_joined}
use Rattle.slice_solve.proofs.Steps.{both_joins}
use Rattle.slice_solve.proofs.joins.joins_of.Goals as goal

pub returns-clause-joined : goal.returns-clause-joined
returns-clause-joined c = both_joins (atoms_of c.join_all.new.joins.items) (atoms_of c.join_to_null.new.joins.items) (atoms_of c.args.condition.now) (atoms_of c.args.alternative.now)
    (c.in_ok-join_all.ensures.joined ∙ ap (λ (l : List Atom). atoms_of l ++ all_joined (atoms_of c.args.condition.now)) c.new-joins.ensures.items)
    c.in_ok-join_to_null.ensures.joined
