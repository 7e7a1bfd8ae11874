use Rattle.std.proofs.Common.{◌≡◌, ◌∙◌, ap, arith, ℕ, ◌-◌, drop}
use Rattle.cc_base.specs.Groups.{parts}
use Rattle.linear_solver.specs.Atoms.{seen_atoms}
use Rattle.linear_solver.specs.Parts.{all_backwards}
use Rattle.linear_solver.proofs.PartSteps.{part_none, part_more}
use Rattle.linear_solver.proofs.parts.parts_of.Goals as goal

pub atoms-init : goal.atoms-init
atoms-init c = record { within = omega arith; same = part_none c.args.atoms.now _ c.new-out.result.items c.new-out.ensures.items (omega arith) }

pub atoms-preserved : goal.atoms-preserved
atoms-preserved c = record {
  within = omega arith;
  same = part_more c.args.atoms.now c.atoms.left (c.atoms.left - 1) c.index-atoms-left.result (all_backwards c.atoms.out.items) (all_backwards c.in_ok-out.out.items) (omega arith) (omega arith) c.index-atoms-left.is c.in_ok-out.ensures c.atoms.invariant.same;
}

pub returns : goal.returns
returns c = let e : c.atoms.left ≡ 0 = omega arith in c.atoms.invariant.same ∙ ap (λ (j : ℕ). parts (seen_atoms (drop j c.args.atoms.now))) e
