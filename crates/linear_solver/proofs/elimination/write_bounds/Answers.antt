use Rattle.std.proofs.Common.{◌∙◌, ap, ℤ, pos, negsuc}
use Rattle.linear_solver.specs.Seen.{single}
use Rattle.linear_solver.proofs.FirstList.{wrote_bounds, wide_number, wide_negative}
use Rattle.linear_solver.proofs.elimination.write_bounds.Goals as goal

pub returns : goal.returns
returns c = wrote_bounds c.args.lo c.args.hi c.args.place c.args.out.now.items c.push.new.self.items c.push-2.new.self.items c.in_ok-one_term.field-0 c.in_ok-one_term-2.field-0
    c.in_ok-push.ensures.items c.in_ok-push-2.ensures.items
    (c.in_ok-one_term.ensures ∙ ap (λ (z : ℤ). single c.args.place (pos 1) z) (wide_number c.args.hi c.ranges.hi))
    (c.in_ok-one_term-2.ensures ∙ ap (λ (z : ℤ). single c.args.place (negsuc 0) z) (wide_negative c.args.lo c.ranges.lo))
