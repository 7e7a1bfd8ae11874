use Rattle.std.proofs.Common.{◌∙◌, sym, ap, Bool, reverse, if◌then◌else◌}
use Rattle.cc_base.specs.Groups.{put_all}
use Rattle.linear_solver.proofs.parts.add_touching.Goals as goal

pub returns-then-share : goal.returns-then-share
returns-then-share c = c.in_ok-add_all.ensures ∙ sym (ap (λ (b : Bool). if b then put_all (reverse c.args.part.now) (reverse c.args.list.now.items) else reverse c.args.list.now.items) (sym c.share.ensures ∙ c.if-share.true))

pub returns : goal.returns
returns c = sym (ap (λ (b : Bool). if b then put_all (reverse c.args.part.now) (reverse c.args.list.now.items) else reverse c.args.list.now.items) (sym c.share.ensures ∙ c.if-share.false))
