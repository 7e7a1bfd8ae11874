use Rattle.std.proofs.Common.{◌∙◌, true, false}
use Rattle.sym_expr.specs.AtomsSeen.{side_of}
use Rattle.sym_run.proofs.PointerLaws.{if_ok, both_nothing, both_choices}
use Rattle.sym_run.proofs.pointer_events.both_asked.Goals as goal

pub returns-then-same_side : goal.returns-then-same_side
returns-then-same_side c = λ o e. both_nothing o c.same_side.result (side_of c.args.a) (side_of c.args.b) c.same_side.ensures c.if-same_side.true

pub returns-then-differ : goal.returns-then-differ
returns-then-differ c = if_ok c.two_choices.result c.two_choices.ensures (λ asked f o e. f ∙ both_choices o true c.same_side.result (side_of c.args.a) (side_of c.args.b) c.same_side.ensures c.if-same_side.false (e ∙ c.if-differ.true))

pub returns : goal.returns
returns c = if_ok c.two_choices-2.result c.two_choices-2.ensures (λ asked f o e. f ∙ both_choices o false c.same_side.result (side_of c.args.a) (side_of c.args.b) c.same_side.ensures c.if-same_side.false (e ∙ c.if-differ.false))
