use Rattle.c_trees.specs.Walks.{expressions_of, marks_of}
use Rattle.c_trees.proofs.Walking.{on_ok, no_parts}
use Rattle.c_trees.proofs.StatementLaws.{block_done, if_done, if_else_done, while_done, do_done, for_done}
use Rattle.c_trees.proofs.walk.Walk.+statements.Goals as goal

pub parts-returns : goal.parts-returns
parts-returns t c = c.loop-part.invariant c.loop-part.self (no_parts expressions_of marks_of c.args.parts.now c.loop-part.part-index c.loop-part.self c.loop-part-test.false)

pub statement-returns-in-Block : goal.statement-returns-in-Block
statement-returns-in-Block t c = on_ok c.parts.result c.parts.ensures (λ p. block_done c.args.self.now c.parts.new.self c.args.s.now c.in-Block.parts c.as_slice.result.now c.in-Block.is c.as_slice.ensures p)

pub statement-returns-in_ok-tested-in-If : goal.statement-returns-in_ok-tested-in-If
statement-returns-in_ok-tested-in-If t c = on_ok c.statement.result c.statement.ensures (λ p. if_done c.args.self.now c.tested.new.self c.statement.new.self c.args.s.now c.in-If.field-0 c.in-If.c c.in-If.a c.get.result.now c.in-If.is c.get.ensures c.in_ok-tested-in-If.ensures p)

pub statement-returns-in_ok-statement-in-IfElse : goal.statement-returns-in_ok-statement-in-IfElse
statement-returns-in_ok-statement-in-IfElse t c = on_ok c.statement-in-IfElse-2.result c.statement-in-IfElse-2.ensures (λ p. if_else_done c.args.self.now c.tested-in-IfElse.new.self c.statement-in-IfElse.new.self c.statement-in-IfElse-2.new.self c.args.s.now c.in-IfElse.field-0 c.in-IfElse.c c.in-IfElse.a c.in-IfElse.b
    c.get-in-IfElse.result.now c.get-in-IfElse-2.result.now c.in-IfElse.is c.get-in-IfElse.ensures c.get-in-IfElse-2.ensures c.in_ok-tested-in-IfElse.ensures c.in_ok-statement-in-IfElse.ensures p)

pub statement-returns-in_ok-tested-in-While : goal.statement-returns-in_ok-tested-in-While
statement-returns-in_ok-tested-in-While t c = on_ok c.statement-in-While.result c.statement-in-While.ensures (λ p. while_done c.args.self.now c.tested-in-While.new.self c.statement-in-While.new.self c.args.s.now c.in-While.field-0 c.in-While.c c.in-While.body c.get-in-While.result.now c.in-While.is c.get-in-While.ensures c.in_ok-tested-in-While.ensures p)

pub statement-returns-in_ok-statement-in-Do : goal.statement-returns-in_ok-statement-in-Do
statement-returns-in_ok-statement-in-Do t c = on_ok c.tested-in-Do.result c.tested-in-Do.ensures (λ p. do_done c.args.self.now c.statement-in-Do.new.self c.tested-in-Do.new.self c.args.s.now c.in-Do.field-0 c.in-Do.c c.in-Do.body c.get-in-Do.result.now c.in-Do.is c.get-in-Do.ensures c.in_ok-statement-in-Do.ensures p)

pub statement-returns-in_ok-turn-in-For : goal.statement-returns-in_ok-turn-in-For
statement-returns-in_ok-turn-in-For t c = on_ok c.statement-in-For.result c.statement-in-For.ensures (λ p. for_done c.args.self.now c.head.new.self c.turn.new.self c.statement-in-For.new.self c.args.s.now c.in-For.field-0 c.in-For.head c.in-For.c c.in-For.next c.in-For.body
    c.get-in-For.result.now c.in-For.is c.get-in-For.ensures c.in_ok-head-in-For.ensures c.in_ok-turn-in-For.ensures p)
