use Rattle.std.proofs.Common.{◌≡◌, ◌∙◌, sym, ap, subst, rules, List, reverse, length, inl, to_z, of_z}
use borrow.Author.Tests.{eqb-true, eq-eqb}
use mir.Syntax.{w32}
use Rattle.cc_base.specs.Groups.{Atom}
use Rattle.linear_solver.specs.Answers.{Advanced, PartAdvanced}
use Rattle.linear_solver.specs.Atoms.{seen_atoms, FitAll}
use Rattle.linear_solver.proofs.WritingAnswers.{at_bounds, part_result, fit_on, not_empty, is_empty}
use Rattle.linear_solver.proofs.solve.advance_part.Goals as goal

pub returns-then-is_empty : goal.returns-then-is_empty
returns-then-is_empty c =
    let e : length c.args.part.now ≡ 0 = eqb-true (length c.args.part.now) 0 (sym c.is_empty.ensures ∙ c.if-is_empty.true) in
    inl (is_empty c.args.part.now e, (let r : c.args.progress.now.answers.items ≡ c.args.progress.now.answers.items = search rules in r), (let r : c.args.progress.now.spent ≡ c.args.progress.now.spent = search rules in r))

pub advance-requires-clause-fit : goal.advance-requires-clause-fit
advance-requires-clause-fit c =
    subst (λ (l : List Atom). FitAll l) (sym (ap seen_atoms c.deref.ensures.value ∙ c.in_ok-group.ensures)) (fit_on (reverse c.args.part.now) (seen_atoms c.args.atoms.now) c.requires.fit)

pub returns : goal.returns
returns c =
    let n = not_empty c.args.part.now (λ (e : length c.args.part.now ≡ 0). (let t = eq-eqb (length c.args.part.now) 0 e in let s = sym c.is_empty.ensures ∙ c.if-is_empty.false in let b : ⊥ = cc (t, s) in b)) in
    let a = subst (λ (l : List Atom). Advanced (to_z w32 (of_z w32 c.args.lo)) (to_z w32 (of_z w32 c.args.hi)) c.args.budget (reverse c.args.part.now) l c.args.progress.now.answers.items c.args.progress.now.spent c.advance.new.progress.answers.items c.advance.new.progress.spent c.in_ok-refuted.refuted)
    (ap seen_atoms c.deref.ensures.value ∙ c.in_ok-group.ensures) c.in_ok-refuted.ensures in
    at_bounds (λ lo hi. PartAdvanced lo hi c.args.budget (reverse c.args.part.now) (seen_atoms c.args.atoms.now) c.args.progress.now.answers.items c.args.progress.now.spent c.advance.new.progress.answers.items c.advance.new.progress.spent c.in_ok-refuted.refuted)
    c.args.lo c.args.hi c.ranges.lo c.ranges.hi
    (part_result _ _ c.args.budget (reverse c.args.part.now) (seen_atoms c.args.atoms.now) c.args.progress.now.answers.items c.advance.new.progress.answers.items c.args.progress.now.spent c.advance.new.progress.spent c.in_ok-refuted.refuted n a)
