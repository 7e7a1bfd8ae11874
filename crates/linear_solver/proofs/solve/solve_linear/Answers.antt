use Rattle.std.proofs.Common.{◌∙◌, sym, subst, rules, ℕ, ℤ, List, Bool, vec_len, Option, SFits, to_z, of_z}
use mir.Syntax.{w32}
use Rattle.cc_base.specs.Groups.{parts, groups, groups_of}
use Rattle.cc_base.specs.Solve.{SomeRefuted, Right, sat}
use Rattle.linear_solver.specs.Answers.{Given}
use Rattle.linear_solver.specs.Atoms.{seen_atoms}
use Rattle.linear_solver.specs.Parts.{answered}
use Rattle.linear_solver.specs.Standing.{Left}
use Rattle.linear_solver.specs.declared.solve.Solved.TheVariants.{Sat}
use Rattle.linear_solver.proofs.Assembling.{right_sat, given_sat}
use Rattle.linear_solver.proofs.WritingAnswers.{at_limits, parts_refute}
use Rattle.linear_solver.proofs.solve.solve_linear.Goals as goal

pub returns-then-branch-clause-right : goal.returns-then-branch-clause-right
returns-then-branch-clause-right c =
    let L = seen_atoms c.args.atoms.now in
    let f : SFits w32 c.lo-lo.result = search rules in
    let g : SFits w32 c.hi-hi.result = search rules in
    let r = subst (λ (q : Bool). Left (to_z w32 (of_z w32 c.lo-lo.result)) (to_z w32 (of_z w32 c.hi-hi.result)) c.args.budget (vec_len c.in_ok-vec.field-0) c.settle_parts.new.progress.answers.items c.settle_parts.new.progress.spent (parts L) (groups_of (parts L) L) q)
    c.if-branch.true c.in_ok-settle_parts.ensures in
    at_limits (λ lo hi. SomeRefuted lo hi c.args.budget (groups L)) c.args.bounds.now.lo c.args.bounds.now.hi c.lo-lo.result c.hi-hi.result f g c.lo-lo.ensures.value c.hi-hi.ensures.value
    (parts_refute _ _ c.args.budget L r)

pub returns-clause-right : goal.returns-clause-right
returns-clause-right c =
    let L = seen_atoms c.args.atoms.now in
    let f : SFits w32 c.lo-lo.result = search rules in
    let g : SFits w32 c.hi-hi.result = search rules in
    let st = subst (λ (q : Bool). Left (to_z w32 (of_z w32 c.lo-lo.result)) (to_z w32 (of_z w32 c.hi-hi.result)) c.args.budget (vec_len c.settle_parts.new.progress.answers) c.settle_alone.new.progress.answers.items c.settle_alone.new.progress.spent (parts L) (groups L) q)
    c.if-branch-2.false c.in_ok-settle_alone.ensures in
    at_limits (λ lo hi. Right lo hi c.args.budget L (sat (answered c.from_vec.result))) c.args.bounds.now.lo c.args.bounds.now.hi c.lo-lo.result c.hi-hi.result f g c.lo-lo.ensures.value c.hi-hi.ensures.value
    (subst (λ (o : List (Option ℤ)). Right (to_z w32 (of_z w32 c.lo-lo.result)) (to_z w32 (of_z w32 c.hi-hi.result)) c.args.budget L (sat (answered o))) (sym c.from_vec.ensures)
    (right_sat _ _ c.args.budget (vec_len c.settle_parts.new.progress.answers) L c.settle_alone.new.progress.answers.items c.settle_alone.new.progress.spent st c.if-progress.false))

pub returns-clause-given : goal.returns-clause-given
returns-clause-given c =
    let L = seen_atoms c.args.atoms.now in
    let f : SFits w32 c.lo-lo.result = search rules in
    let g : SFits w32 c.hi-hi.result = search rules in
    let st = subst (λ (q : Bool). Left (to_z w32 (of_z w32 c.lo-lo.result)) (to_z w32 (of_z w32 c.hi-hi.result)) c.args.budget (vec_len c.settle_parts.new.progress.answers) c.settle_alone.new.progress.answers.items c.settle_alone.new.progress.spent (parts L) (groups L) q)
    c.if-branch-2.false c.in_ok-settle_alone.ensures in
    let sp = subst (λ (q : Bool). Left (to_z w32 (of_z w32 c.lo-lo.result)) (to_z w32 (of_z w32 c.hi-hi.result)) c.args.budget (vec_len c.in_ok-vec.field-0) c.settle_parts.new.progress.answers.items c.settle_parts.new.progress.spent (parts L) (groups_of (parts L) L) q)
    c.if-branch.false c.in_ok-settle_parts.ensures in
    let m = c.settle_parts.new.progress.answers.ok.0 in
    let n = m ∙ sp.size ∙ c.in_ok-vec.ensures.len in
    at_limits (λ lo hi. Given lo hi c.args.places L (Sat c.from_vec.result)) c.args.bounds.now.lo c.args.bounds.now.hi c.lo-lo.result c.hi-hi.result f g c.lo-lo.ensures.value c.hi-hi.ensures.value
    (subst (λ (o : List (Option ℤ)). Given (to_z w32 (of_z w32 c.lo-lo.result)) (to_z w32 (of_z w32 c.hi-hi.result)) c.args.places L (Sat o)) (sym c.from_vec.ensures)
    (subst (λ (k : ℕ). Given (to_z w32 (of_z w32 c.lo-lo.result)) (to_z w32 (of_z w32 c.hi-hi.result)) k L (Sat c.settle_alone.new.progress.answers.items)) n
    (given_sat _ _ c.args.budget (vec_len c.settle_parts.new.progress.answers) L c.settle_alone.new.progress.answers.items c.settle_alone.new.progress.spent st c.if-progress.false)))
