use Rattle.std.proofs.Common.{◌≡◌, ◌∙◌, sym, ap, subst, rules, List, [], length, inl, to_z, of_z}
use borrow.Author.Tests.{eqb-true, eq-eqb}
use mir.Syntax.{w32}
use Rattle.cc_base.specs.Groups.{Atom}
use Rattle.linear_solver.specs.Answers.{Advanced, AloneAdvanced}
use Rattle.linear_solver.specs.Atoms.{seen_atom, seen_atoms, FitAll}
use Rattle.linear_solver.proofs.WritingAnswers.{at_bounds, alone_result, terms_none, terms_some, fit_one, one_atom}
use Rattle.linear_solver.proofs.solve.advance_alone.Goals as goal

pub returns-then-not-is_empty : goal.returns-then-not-is_empty
returns-then-not-is_empty c =
    let o = c.args.a.now.terms.ok.0 in
    let n = terms_some c.args.a.now (λ (e : length c.args.a.now.terms.items ≡ 0). (let t = eq-eqb c.args.a.now.terms.len 0 (o ∙ e) in let s = sym c.is_empty.ensures ∙ c.if-not-is_empty.true in let b : ⊥ = cc (t, s) in b)) in
    inl (n, (let r : c.args.progress.now.answers.items ≡ c.args.progress.now.answers.items = search rules in r), (let r : c.args.progress.now.spent ≡ c.args.progress.now.spent = search rules in r))

pub advance-requires-clause-fit : goal.advance-requires-clause-fit
advance-requires-clause-fit c =
    let g = ap seen_atoms c.deref.ensures.value ∙ one_atom c.new-group.result.items c.push.new.self.items c.in_ok-copy_atom.field-0 (seen_atom c.args.a.now) c.new-group.ensures.items c.in_ok-push.ensures.items c.in_ok-copy_atom.ensures in
    subst (λ (l : List Atom). FitAll l) (sym g) (fit_one c.args.a.now c.requires.fit)

pub returns : goal.returns
returns c =
    let o = c.args.a.now.terms.ok.0 in
    let n = terms_none c.args.a.now (sym o ∙ eqb-true c.args.a.now.terms.len 0 (sym c.is_empty.ensures ∙ c.if-not-is_empty.false)) in
    let g = ap seen_atoms c.deref.ensures.value ∙ one_atom c.new-group.result.items c.push.new.self.items c.in_ok-copy_atom.field-0 (seen_atom c.args.a.now) c.new-group.ensures.items c.in_ok-push.ensures.items c.in_ok-copy_atom.ensures in
    let a = subst (λ (l : List Atom). Advanced (to_z w32 (of_z w32 c.args.lo)) (to_z w32 (of_z w32 c.args.hi)) c.args.budget [] l c.args.progress.now.answers.items c.args.progress.now.spent c.advance.new.progress.answers.items c.advance.new.progress.spent c.in_ok-refuted.refuted) g c.in_ok-refuted.ensures in
    at_bounds (λ lo hi. AloneAdvanced lo hi c.args.budget (seen_atom c.args.a.now) c.args.progress.now.answers.items c.args.progress.now.spent c.advance.new.progress.answers.items c.advance.new.progress.spent c.in_ok-refuted.refuted)
    c.args.lo c.args.hi c.ranges.lo c.ranges.hi
    (alone_result _ _ c.args.budget (seen_atom c.args.a.now) c.args.progress.now.answers.items c.advance.new.progress.answers.items c.args.progress.now.spent c.advance.new.progress.spent c.in_ok-refuted.refuted n a)
