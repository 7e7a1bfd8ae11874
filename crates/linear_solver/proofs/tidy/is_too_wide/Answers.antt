use Rattle.std.proofs.Common.{◌∙◌, sym, ap, rules, SFits, unsigned_abs}
use Rattle.std.proofs.lemmas.Int.{to_z-of_z}
use mir.Syntax.{w128}
use Rattle.cc_base.specs.Pass.{wide_term}
use Rattle.linear_solver.specs.Seen.{seen}
use Rattle.linear_solver.proofs.TidySteps.{wide_terms, wide_most}
use Rattle.linear_solver.proofs.tidy.is_too_wide.Goals as goal

pub returns-then-has_wide_term : goal.returns-then-has_wide_term
returns-then-has_wide_term c = wide_terms (seen c.args.i.now) (sym (c.has_wide_term.ensures ∙ ap wide_term c.deref.ensures.value) ∙ c.if-has_wide_term.true)

pub returns : goal.returns
returns c =
    let f : SFits w128 c.args.i.now.most = search rules in
    wide_most (seen c.args.i.now) c.unsigned_abs.result (sym (c.has_wide_term.ensures ∙ ap wide_term c.deref.ensures.value) ∙ c.if-has_wide_term.false) (c.unsigned_abs.ensures.value ∙ ap unsigned_abs (to_z-of_z w128 c.args.i.now.most f))
