use Rattle.std.proofs.Common.{subst, arith, ℤ, List}
use Rattle.cc_base.specs.Groups.{HoldAll}
use Rattle.linear_solver.specs.Atoms.{seen_atoms}
use Rattle.linear_solver.specs.Seen.{at_places}
use Rattle.linear_solver.proofs.Settling.{need_none, values_none, refuted_none}
use Rattle.linear_solver.proofs.group.settle_none.Goals as goal

pub returns-then-budget-lt1 : goal.returns-then-budget-lt1
returns-then-budget-lt1 c = let e = need_none c.args.lo c.args.hi (seen_atoms c.args.atoms.now) c.requires.places in let h = c.if-budget-lt1.true in omega (arith, e, h)

pub returns-then-hold_all : goal.returns-then-hold_all
returns-then-hold_all c =
    let A = seen_atoms c.args.atoms.now in
    let e = need_none c.args.lo c.args.hi A c.requires.places in let h = c.if-budget-lt1.false in (
      omega (arith, e, h),
      values_none c.args.lo c.args.hi (at_places c.new-values.result.items) A c.requires.places,
      subst (λ (l : List ℤ). HoldAll (at_places l) A) c.deref.ensures.value (c.hold_all.ensures.0 c.if-hold_all.true),
    )

pub returns : goal.returns
returns c =
    let A = seen_atoms c.args.atoms.now in
    refuted_none c.args.lo c.args.hi c.args.budget (at_places c.deref.result.now) A c.requires.places (let h = c.if-budget-lt1.false in omega (arith, h)) (λ m. let t = c.hold_all.ensures.1 m in let f = c.if-hold_all.false in cc (t, f))
