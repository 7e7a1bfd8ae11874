use Rattle.std.proofs.Common.{ℤ}
use Rattle.cc_base.specs.Groups.{HoldAll, Holds}
use Rattle.cc_base.specs.Witness.{changed, origin}
use Rattle.linear_solver.specs.Atoms.{seen_atom, seen_atoms}
use Rattle.linear_solver.proofs.Spanning.{kept_same, kept_on, kept_more, only_at, holds_member}
use Rattle.linear_solver.proofs.Writing.{fit_at}
use Rattle.linear_solver.proofs.one_place.all_enclosed.Goals as goal

pub loop-a-init : goal.loop-a-init
loop-a-init c = kept_same (λ (z : ℤ). HoldAll (changed origin c.args.place z) (seen_atoms c.args.atoms.now)) c.args.span

pub enclosed-rest-requires-clause-fit : goal.enclosed-rest-requires-clause-fit
enclosed-rest-requires-clause-fit c = fit_at c.args.atoms.now c.loop-a.a-index c.a-item.result c.requires.fit c.loop-a-test.true c.a-item.is

pub enclosed-rest-requires-clause-only : goal.enclosed-rest-requires-clause-only
enclosed-rest-requires-clause-only c = only_at c.args.place c.args.atoms.now c.loop-a.a-index c.a-item.result c.requires.only c.loop-a-test.true c.a-item.is

pub loop-a-preserved : goal.loop-a-preserved
loop-a-preserved c =
    kept_on (λ (z : ℤ). HoldAll (changed origin c.args.place z) (seen_atoms c.args.atoms.now)) c.args.span c.loop-a.rest c.enclosed-rest.result c.loop-a.invariant
    (kept_more (λ (z : ℤ). Holds (changed origin c.args.place z) (seen_atom c.a-item.result)) (λ (z : ℤ). HoldAll (changed origin c.args.place z) (seen_atoms c.args.atoms.now)) c.loop-a.rest c.enclosed-rest.result
    (λ z m. holds_member (changed origin c.args.place z) c.args.atoms.now c.loop-a.a-index c.a-item.result m c.loop-a-test.true c.a-item.is) c.enclosed-rest.ensures)

pub returns : goal.returns
returns c = c.loop-a.invariant
