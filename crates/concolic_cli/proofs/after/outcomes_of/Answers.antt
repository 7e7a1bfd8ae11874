use Rattle.std.proofs.Common.{rules, ◌∙◌}
use Rattle.concolic_cli.proofs.PathReads.{reads_more, reads_none}
use Rattle.concolic_cli.proofs.after.outcomes_of.Goals.{in-Some+in_ok-push, in_default}
use Rattle.concolic_cli.proofs.after.outcomes_of.Goals as goal

pub loop-byte-preserved : goal.loop-byte-preserved
loop-byte-preserved c = elim c.match-from_byte.branch [
  | in-Some+in_ok-push w ↦ λ p a e. w.path-is ∙ w.in_ok-push.ensures.ok ∙ reads_more c.args.bytes.now c.loop-byte.byte-index 0 c.loop-byte.path w.in-Some.outcome (search rules) c.loop-byte.invariant w.in-Some.ensures.byte p a e
  | in_default w ↦ λ p a e. w.path-is ∙ reads_none c.args.bytes.now c.loop-byte.byte-index 0 c.loop-byte.path (search rules) w.in_default.ensures.none p a e
]
