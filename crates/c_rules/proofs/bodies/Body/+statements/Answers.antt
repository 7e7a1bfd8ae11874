use Rattle.cc_model.specs.Source.{text_at}
use Rattle.cc_model.specs.Typing.{judged}
use Rattle.cc_model.specs.Faults.{Inside, tested}
use Rattle.c_rules.specs.Views.{seen}
use Rattle.c_scopes.specs.Places.{place, stmt_of, turn}
use Rattle.c_scopes.proofs.Going.{on_ok, then_noted}
use Rattle.c_rules.proofs.BodyLaws.{block_leads, turn_leads, for_leads}
use Rattle.c_rules.proofs.bodies.Body.+statements.Goals as goal

pub block-returns : goal.block-returns
block-returns t c = block_leads (text_at c.args.self.now.view.source.now c.args.self.now.view.tokens.now) c.args.self.now.view.file.now c.args.self.now.view.before.now c.args.self.now.gives.now
    c.args.parts.now (place c.args.inside.now) (place c.open.new.self) (place c.parts.new.inside) (place c.close.new.self) c.args.notes.now c.parts.new.notes c.in_ok-open.ensures c.in_ok-parts.ensures c.close.ensures

pub do_loop-returns : goal.do_loop-returns
do_loop-returns t c = on_ok c.test.result c.test.ensures (λ h. then_noted c.args.notes.now c.turn.new.notes c.test.new.notes
    (turn (stmt_of (text_at c.args.self.now.view.source.now c.args.self.now.view.tokens.now) c.args.self.now.view.file.now c.args.self.now.view.before.now c.args.self.now.gives.now c.args.body.now) (place c.args.inside.now))
    (λ (i : Inside). tested c.args.t (judged (text_at c.args.self.now.view.source.now c.args.self.now.view.tokens.now) (seen c.args.self.now.view.file.now c.args.self.now.view.before.now i.scopes) c.args.test.now)) (place c.turn.new.inside) c.in_ok-turn.ensures h)

pub for_loop-returns : goal.for_loop-returns
for_loop-returns t c = for_leads (text_at c.args.self.now.view.source.now c.args.self.now.view.tokens.now) c.args.self.now.view.file.now c.args.self.now.view.before.now c.args.self.now.gives.now
    c.args.t c.args.head.now c.args.test.now c.args.next.now c.args.body.now (place c.args.inside.now) (place c.open.new.self) (place c.head.new.inside) (place c.turn.new.inside) (place c.close.new.self)
    c.args.notes.now c.head.new.notes c.test_if.new.notes c.simple_if.new.notes c.turn.new.notes
    c.in_ok-open.ensures c.in_ok-head.ensures c.in_ok-test_if.ensures c.in_ok-simple_if.ensures c.in_ok-turn.ensures c.close.ensures

pub turn-returns : goal.turn-returns
turn-returns t c = turn_leads (text_at c.args.self.now.view.source.now c.args.self.now.view.tokens.now) c.args.self.now.view.file.now c.args.self.now.view.before.now c.args.self.now.gives.now
    c.args.body.now (place c.args.inside.now) (place c.statement.new.inside) c.args.notes.now c.statement.new.notes c.in_ok-statement.ensures
