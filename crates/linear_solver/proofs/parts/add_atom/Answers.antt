use Rattle.std.proofs.Common.{◌∙◌, sym, ap, List, reverse}
use Rattle.cc_base.specs.declared.forms.Multiple.{Multiple}
use Rattle.cc_base.specs.Groups.{shares, named}
use Rattle.linear_solver.proofs.PartSteps.{on_one, on_none}
use Rattle.linear_solver.proofs.parts.add_atom.Goals as goal

pub returns-then-touches : goal.returns-then-touches
returns-then-touches c =
    let t = sym (c.touches.ensures ∙ ap (λ (l : List Multiple). shares (named l) (reverse c.args.part.now)) c.deref.ensures.value) ∙ c.if-touches.true in
    on_one (reverse c.args.part.now) c.args.a.now c.in_ok-copy_atom.field-0 c.args.out.now.items c.push.new.self.items t c.in_ok-push.ensures.items c.in_ok-copy_atom.ensures

pub returns : goal.returns
returns c =
    let t = sym (c.touches.ensures ∙ ap (λ (l : List Multiple). shares (named l) (reverse c.args.part.now)) c.deref.ensures.value) ∙ c.if-touches.false in
    on_none (reverse c.args.part.now) c.args.a.now c.args.out.now.items t
