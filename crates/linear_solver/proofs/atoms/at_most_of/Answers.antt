use Rattle.std.proofs.Common.{rules, SFits}
use mir.Syntax.{w128}
use Rattle.linear_solver.specs.Atoms.{seen_form}
use Rattle.linear_solver.proofs.Writing.{differs, fits_difference, at_most_is}
use Rattle.linear_solver.proofs.atoms.at_most_of.Goals as goal

pub overflow_sub-result : goal.overflow_sub-result
overflow_sub-result c =
    let g : SFits w128 c.args.a.now.constant = search rules in
    fits_difference c.args.n c.args.a.now.constant c.ranges.n g c.requires.small c.requires.fit.constant

pub returns : goal.returns
returns c =
    let g : SFits w128 c.args.a.now.constant = search rules in
    at_most_is (seen_form c.args.a.now) c.args.n _ c.in_ok-terms.terms.items (let t = c.in_ok-terms.ensures in search rules) (differs c.args.n c.args.a.now.constant c.ranges.n g c.requires.small c.requires.fit.constant)
