use Rattle.std.proofs.Common.{ap, rules, arith, SFits, ℤ}
use Rattle.std.proofs.lemmas.Int.{ints}
use mir.Syntax.{w64}
use Rattle.cc_base.specs.declared.forms.Multiple.{Multiple}
use Rattle.sym_expr.specs.Sums.{negated}
use Rattle.sym_expr.proofs.forms.opposite_term.Goals as goal

pub returns : goal.returns
unfolding negated
returns c =
    let f : SFits w64 c.args.term.coefficient = search rules in
    ap (λ (z : ℤ). let t : Multiple = record { place = c.args.term.place.0; coefficient = z } in t) (omega (arith, ints, f, c.requires))
