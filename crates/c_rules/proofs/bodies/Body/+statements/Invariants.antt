-- How deep what is left is. What calls another on the same statement stands above it.
use Rattle.std.proofs.Common.{◌≡◌, ◌+◌, ◌*◌, max, drop}
use denote.Param.Weighed.{most}
use Rattle.cc_model.specs.declared.trees.Part.{size-Part}
use Rattle.cc_model.specs.declared.trees.Stmt.{size-Stmt}
use Rattle.cc_model.specs.Source.{text_at}
use Rattle.cc_model.specs.Faults.{first_say, part_of, body_of}
use Rattle.c_scopes.specs.Places.{place}
use Rattle.c_rules.proofs.bodies.Body.+statements.Given as goal

abbrev pub decreases-statement : goal.decreases-statement
decreases-statement l = 5 * size-Stmt l.s.now + 2

abbrev pub decreases-block : goal.decreases-block
decreases-block l = 5 * most size-Part l.parts.now + 4

abbrev pub decreases-parts : goal.decreases-parts
decreases-parts l = 5 * most size-Part l.parts.now + 3

abbrev pub decreases-part : goal.decreases-part
decreases-part l = 5 * size-Part l.part.now + 2

abbrev pub decreases-choice : goal.decreases-choice
decreases-choice l = 5 * size-Stmt l.one.now + 3

abbrev pub decreases-either : goal.decreases-either
decreases-either l = 5 * max (size-Stmt l.one.now) (size-Stmt l.other.now) + 3

abbrev pub decreases-turn : goal.decreases-turn
decreases-turn l = 5 * size-Stmt l.body.now + 3

abbrev pub decreases-while_loop : goal.decreases-while_loop
decreases-while_loop l = 5 * size-Stmt l.body.now + 4

abbrev pub decreases-do_loop : goal.decreases-do_loop
decreases-do_loop l = 5 * size-Stmt l.body.now + 4

abbrev pub decreases-for_loop : goal.decreases-for_loop
decreases-for_loop l = 5 * size-Stmt l.body.now + 4

-- the parts that are left lead to the same
abbrev pub invariant-parts-loop-part : goal.invariant-parts-loop-part
invariant-parts-loop-part l =
    first_say l.notes (body_of (part_of (text_at l.self.view.source.now l.self.view.tokens.now) l.self.view.file.now l.self.view.before.now l.self.gives.now) (drop l.part-index l.parts) (place l.inside))
    ≡ first_say l.fn.notes (body_of (part_of (text_at l.fn.self.view.source.now l.fn.self.view.tokens.now) l.fn.self.view.file.now l.fn.self.view.before.now l.fn.self.gives.now) l.fn.parts (place l.fn.inside))
