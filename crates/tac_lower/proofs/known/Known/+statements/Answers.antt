-- What each function adds is what its arms add.
use Rattle.std.proofs.Common.{◌-◌, arith, sym, ap, ◌∙◌, subst, map, List}
use Rattle.cc_model.specs.CheckedProgram.{cell_of}
use Rattle.cc_model.specs.Resolve.{Piece, stmt_of, piece_of, declarator_of, declares, does}
use Rattle.cc_model.proofs.Resolved.{stmt_empty, stmt_block, stmt_if, stmt_if_else, stmt_while, stmt_do, stmt_for, stmt_return, stmt_break, stmt_continue, stmt_simple, piece_decl, piece_stmt}
use Rattle.tac_lower.specs.declared.instr.Instr.{Instr}
use Rattle.cc_model.specs.declared.trees.Declared.{Declared}
use Rattle.tac_lower.specs.Tables.{facts_of}
use Rattle.tac_lower.specs.Emitted.{AddsDeclarators}
use Rattle.tac_lower.proofs.Emitting.{on_ok}
use Rattle.tac_lower.proofs.Loops.{set_at, stmt_as, piece_as, empty_done, block_done, simple_done, return_done, break_done, continue_done, choice_done, choice_else_done, loop_done, repeat_done, for_done, none_placed, one_placed, piece_decl_done, piece_stmt_done}
use Rattle.tac_lower.proofs.known.Known.+statements.Goals as goal

pub block-returns : goal.block-returns
block-returns t c = on_ok c.emit.result c.emit.ensures (λ e. block_done c.args.self.now.checked.now (cell_of c.args.given) _ c.args.brk c.args.cont _ _ _ c.in_ok-parts.ensures e)

pub choice-returns : goal.choice-returns
choice-returns t c = on_ok c.emit.result c.emit.ensures (λ e. choice_done c.args.self.now.checked.now (cell_of c.args.given) _ _ c.args.brk c.args.cont _ _ _ _ _ _ c.here-end.ensures c.in_ok-statement.ensures c.here-inside.ensures c.in_ok-condition.ensures e)

pub either-returns : goal.either-returns
either-returns t c = on_ok c.emit-2.result c.emit-2.ensures (λ e. choice_else_done c.args.self.now.checked.now (cell_of c.args.given) _ _ _ c.args.brk c.args.cont _ _ _ _ _ _ _ _ _ c.here-end.ensures c.in_ok-statement.ensures c.here-other.ensures c.in_ok-emit.ensures c.in_ok-statement-2.ensures c.here-inside.ensures c.in_ok-condition.ensures e)

pub while_loop-returns : goal.while_loop-returns
while_loop-returns t c = on_ok c.emit-2.result c.emit-2.ensures (λ e. loop_done c.args.self.now.checked.now (cell_of c.args.given) _ _ c.args.brk c.args.cont _ _ _ _ _ _ _ _ _ _ c.here-end.ensures c.in_ok-emit.ensures c.here-again.ensures c.in_ok-statement.ensures c.here-inside.ensures c.in_ok-condition.ensures c.here-start.ensures (set_at _ _ _ _ _ c.len-at.ensures c.patch.ensures) e)

pub do_loop-returns : goal.do_loop-returns
do_loop-returns t c = on_ok c.emit-2.result c.emit-2.ensures (λ e. repeat_done c.args.self.now.checked.now (cell_of c.args.given) _ _ c.args.brk c.args.cont _ _ _ _ _ _ _ _ _ _ c.here-end.ensures c.in_ok-emit.ensures c.here-again.ensures c.in_ok-condition.ensures c.here-test.ensures c.in_ok-statement.ensures c.here-start.ensures (set_at _ _ _ _ _ c.len-at.ensures c.patch.ensures) e)

pub for_loop-returns : goal.for_loop-returns
for_loop-returns t c = on_ok c.emit-2.result c.emit-2.ensures (λ e. for_done c.args.self.now.checked.now (cell_of c.args.given) _ _ _ _ _ c.args.brk c.args.cont _ _ _ _ _ _ _ _ _ _ _ _ _ c.here-end.ensures c.in_ok-emit.ensures c.in_ok-simple_if.ensures c.here-again.ensures c.in_ok-statement.ensures c.here-inside.ensures c.in_ok-condition_if.ensures c.here-start.ensures (set_at _ _ _ _ _ c.len-at.ensures c.patch.ensures) c.in_ok-head_locals.ensures c.in_ok-head_start.ensures e)

pub parts-loop-left-init : goal.parts-loop-left-init
parts-loop-left-init t c = record { within = omega arith; written = none_placed c.args.self.now.checked.now (cell_of c.args.given) (facts_of c.args.self.now.checked.now c.args.self.now.function) c.args.parts.now c.args.brk c.args.cont _ }

pub parts-loop-left-preserved : goal.parts-loop-left-preserved
parts-loop-left-preserved t c = record {
  within = (let h = c.loop-left.invariant.within in omega (arith, h));
  written = (let h = c.loop-left-test.true in one_placed c.args.self.now.checked.now (cell_of c.args.given) (facts_of c.args.self.now.checked.now c.args.self.now.function) c.args.parts.now c.index-parts-left.result c.loop-left.left (c.loop-left.left - 1) c.args.brk c.args.cont _ _ _ (omega (arith, h)) c.loop-left.invariant.within c.index-parts-left.is c.loop-left.invariant.written c.in_ok-part.ensures);
}

pub statement-returns-in-Empty : goal.statement-returns-in-Empty
statement-returns-in-Empty t c = on_ok c.emit.result c.emit.ensures (λ e. stmt_as c.args.self.now.checked.now (cell_of c.args.given) c.args.brk c.args.cont _ _ (sym (stmt_empty (facts_of c.args.self.now.checked.now c.args.self.now.function)) ∙ ap (λ z. stmt_of (facts_of c.args.self.now.checked.now c.args.self.now.function) z) (sym c.in-Empty.is)) (empty_done c.args.self.now.checked.now (cell_of c.args.given) c.args.brk c.args.cont _ _ e))

pub statement-returns-in_ok-returned-in-Return : goal.statement-returns-in_ok-returned-in-Return
statement-returns-in_ok-returned-in-Return t c = on_ok c.emit-in-Return.result c.emit-in-Return.ensures (λ e. stmt_as c.args.self.now.checked.now (cell_of c.args.given) c.args.brk c.args.cont _ _ (sym (stmt_return (facts_of c.args.self.now.checked.now c.args.self.now.function) _ c.in-Return.e) ∙ ap (λ z. stmt_of (facts_of c.args.self.now.checked.now c.args.self.now.function) z) (sym c.in-Return.is)) (return_done c.args.self.now.checked.now (cell_of c.args.given) _ c.args.brk c.args.cont _ _ _ c.in_ok-returned-in-Return.ensures e))

pub statement-returns-in_ok-emit-in-Break : goal.statement-returns-in_ok-emit-in-Break
statement-returns-in_ok-emit-in-Break t c = on_ok c.emit-in-Break-2.result c.emit-in-Break-2.ensures (λ e. stmt_as c.args.self.now.checked.now (cell_of c.args.given) c.args.brk c.args.cont _ _ (sym (stmt_break (facts_of c.args.self.now.checked.now c.args.self.now.function) _) ∙ ap (λ z. stmt_of (facts_of c.args.self.now.checked.now c.args.self.now.function) z) (sym c.in-Break.is)) (break_done c.args.self.now.checked.now (cell_of c.args.given) c.args.brk c.args.cont _ _ _ c.in_ok-emit-in-Break.ensures e))

pub statement-returns-in_ok-emit-in-Continue : goal.statement-returns-in_ok-emit-in-Continue
statement-returns-in_ok-emit-in-Continue t c = on_ok c.emit-in-Continue-2.result c.emit-in-Continue-2.ensures (λ e. stmt_as c.args.self.now.checked.now (cell_of c.args.given) c.args.brk c.args.cont _ _ (sym (stmt_continue (facts_of c.args.self.now.checked.now c.args.self.now.function) _) ∙ ap (λ z. stmt_of (facts_of c.args.self.now.checked.now c.args.self.now.function) z) (sym c.in-Continue.is)) (continue_done c.args.self.now.checked.now (cell_of c.args.given) c.args.brk c.args.cont _ _ _ c.in_ok-emit-in-Continue.ensures e))

pub statement-returns-in_ok-simple-in-Simple : goal.statement-returns-in_ok-simple-in-Simple
statement-returns-in_ok-simple-in-Simple t c = on_ok c.emit-in-Simple.result c.emit-in-Simple.ensures (λ e. stmt_as c.args.self.now.checked.now (cell_of c.args.given) c.args.brk c.args.cont _ _ (sym (stmt_simple (facts_of c.args.self.now.checked.now c.args.self.now.function) _) ∙ ap (λ z. stmt_of (facts_of c.args.self.now.checked.now c.args.self.now.function) z) (sym c.in-Simple.is)) (simple_done c.args.self.now.checked.now (cell_of c.args.given) _ c.args.brk c.args.cont _ _ _ c.in_ok-simple-in-Simple.ensures e))

pub part-returns-in-Decl : goal.part-returns-in-Decl
part-returns-in-Decl t c = on_ok c.declarators.result c.declarators.ensures (λ q. λ (l : List Piece) (base : List Instr) p.
    piece_as c.args.self.now.checked.now (cell_of c.args.given) l c.args.brk c.args.cont base _ (sym (piece_decl (facts_of c.args.self.now.checked.now c.args.self.now.function) _) ∙ ap (λ z. piece_of (facts_of c.args.self.now.checked.now c.args.self.now.function) z) (sym c.in-Decl.is)) (piece_decl_done c.args.self.now.checked.now (cell_of c.args.given) _ l c.args.brk c.args.cont base _ _ (subst (λ (ds : List Declared). AddsDeclarators c.args.self.now.checked.now (map (declarator_of (facts_of c.args.self.now.checked.now c.args.self.now.function)) ds) c.args.code.now c.declarators.new.code) c.as_slice.ensures q) p))

pub part-returns-in-Stmt : goal.part-returns-in-Stmt
part-returns-in-Stmt t c = on_ok c.statement.result c.statement.ensures (λ q. λ (l : List Piece) (base : List Instr) p.
    piece_as c.args.self.now.checked.now (cell_of c.args.given) l c.args.brk c.args.cont base _ (sym (piece_stmt (facts_of c.args.self.now.checked.now c.args.self.now.function) _) ∙ ap (λ z. piece_of (facts_of c.args.self.now.checked.now c.args.self.now.function) z) (sym c.in-Stmt.is)) (piece_stmt_done c.args.self.now.checked.now (cell_of c.args.given) _ l c.args.brk c.args.cont base _ _ q p))
