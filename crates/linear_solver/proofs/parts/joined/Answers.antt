use Rattle.std.proofs.Common.{◌≡◌, ◌∙◌, ap, refl, rules, arith, ℕ, ◌-◌, List, reverse, drop, if◌then◌else◌}
use Rattle.cc_base.specs.Groups.{touching, shares, put_all}
use Rattle.linear_solver.specs.Parts.{all_backwards}
use Rattle.linear_solver.proofs.PartSteps.{touch_none, touch_more}
use Rattle.linear_solver.proofs.parts.joined.Goals as goal

pub parts-init : goal.parts-init
parts-init c = record { within = omega arith; same = (let e : c.in_ok-out.out.items ≡ c.args.p.now = search rules in ap reverse e) ∙ touch_none (reverse c.args.p.now) c.args.parts.now _ (omega arith) }

pub parts-preserved : goal.parts-preserved
parts-preserved c = record {
  within = omega arith;
  same = touch_more (reverse c.args.p.now) (reverse c.parts.out.items) (reverse c.add_touching.new.list.items) c.args.parts.now c.parts.left (c.parts.left - 1) c.index-parts-left.result c.args.p.now (omega arith) (omega arith) c.index-parts-left.is refl
      (c.in_ok-add_touching.ensures ∙ ap (λ (m : List ℕ). if shares c.args.p.now m then put_all (reverse m) (reverse c.parts.out.items) else reverse c.parts.out.items) c.deref.ensures.value) c.parts.invariant.same;
}

pub returns : goal.returns
returns c = let e : c.parts.left ≡ 0 = omega arith in c.parts.invariant.same ∙ ap (λ (j : ℕ). touching (reverse c.args.p.now) (all_backwards (drop j c.args.parts.now))) e
