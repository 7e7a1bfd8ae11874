-- How deep what is left is. What calls another on the same statement stands above it.
use Rattle.std.proofs.Common.{◌+◌, ◌*◌, ◌≤◌, max, length, map, drop}
use denote.Param.Weighed.{most}
use Rattle.cc_model.specs.declared.trees.Part.{size-Part}
use Rattle.cc_model.specs.declared.trees.Stmt.{size-Stmt}
use Rattle.cc_model.specs.Resolve.{parts_of, piece_of}
use Rattle.cc_model.specs.CheckedProgram.{cell_of}
use Rattle.tac_lower.specs.Tables.{facts_of}
use Rattle.tac_lower.specs.Emitted.{AddsParts}
use Rattle.tac_lower.proofs.known.Known.+statements.Given as goal

abbrev pub decreases-statement : goal.decreases-statement
decreases-statement l = 4 * size-Stmt l.s.now + 2

abbrev pub decreases-block : goal.decreases-block
decreases-block l = 4 * most size-Part l.parts.now + 4

abbrev pub decreases-parts : goal.decreases-parts
decreases-parts l = 4 * most size-Part l.parts.now + 3

abbrev pub decreases-part : goal.decreases-part
decreases-part l = 4 * size-Part l.p.now + 2

abbrev pub decreases-choice : goal.decreases-choice
decreases-choice l = 4 * size-Stmt l.a.now + 3

abbrev pub decreases-either : goal.decreases-either
decreases-either l = 4 * max (size-Stmt l.a.now) (size-Stmt l.b.now) + 3

abbrev pub decreases-while_loop : goal.decreases-while_loop
decreases-while_loop l = 4 * size-Stmt l.body.now + 3

abbrev pub decreases-do_loop : goal.decreases-do_loop
decreases-do_loop l = 4 * size-Stmt l.body.now + 3

abbrev pub decreases-for_loop : goal.decreases-for_loop
decreases-for_loop l = 4 * size-Stmt l.body.now + 3

-- what comes from `left` on is written
abbrev pub invariant-parts-loop-left : goal.invariant-parts-loop-left
invariant-parts-loop-left l = record {
  within : l.left ≤ length l.parts;
  written : AddsParts l.self.checked.now (cell_of l.given) (parts_of (map (piece_of (facts_of l.self.checked.now l.self.function)) (drop l.left l.parts))) l.brk l.cont l.initial.code l.code;
}

abbrev pub decreases-parts-loop-left : goal.decreases-parts-loop-left
decreases-parts-loop-left l = l.left
