use Rattle.std.proofs.Common.{◌∙◌, ap₂, sym, subst, rules, SFits, List, ◌++◌, negsuc, All, ◌≤◌, ◌^◌, unsigned_abs}
use mir.Syntax.{w128}
use Rattle.cc_base.specs.Inequality.{scaled}
use Rattle.cc_base.specs.declared.forms.Multiple.{Multiple}
use Rattle.linear_solver.specs.Atoms.{seen_form}
use Rattle.linear_solver.proofs.Writing.{differs_back, fits_back, at_least_is, wider}
use Rattle.linear_solver.proofs.atoms.at_least_of.Goals as goal

pub push_multiples-requires-clause-narrow : goal.push_multiples-requires-clause-narrow
push_multiples-requires-clause-narrow c = subst (λ (l : List Multiple). All (λ t. unsigned_abs t.coefficient ≤ 2 ^ 44) l) (sym c.deref.ensures.value) (wider c.args.a.now.terms.items c.requires.fit.terms)

pub overflow_sub-result : goal.overflow_sub-result
overflow_sub-result c =
    let g : SFits w128 c.args.a.now.constant = search rules in
    fits_back c.args.n c.args.a.now.constant c.ranges.n g c.requires.small c.requires.fit.constant

pub returns : goal.returns
returns c =
    let g : SFits w128 c.args.a.now.constant = search rules in
    at_least_is (seen_form c.args.a.now) c.args.n _ c.push_multiples.new.out.items
    (c.in_ok-push_multiples.ensures ∙ ap₂ (λ (o l : List Multiple). o ++ scaled (negsuc 0) l) c.new-terms.ensures.items c.deref.ensures.value)
    (differs_back c.args.n c.args.a.now.constant c.ranges.n g c.requires.small c.requires.fit.constant)
