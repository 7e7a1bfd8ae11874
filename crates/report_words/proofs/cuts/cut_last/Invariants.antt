use Rattle.std.proofs.Common.{◌≤◌, length, drop}
use Rattle.report_words.specs.Cuts.{Lacks}
use Rattle.report_words.proofs.cuts.cut_last.Given as goal

abbrev pub invariant-bytes : goal.invariant-bytes
invariant-bytes l = (l.place ≤ length l.text) × Lacks l.mark (drop l.place l.text)

abbrev pub decreases-bytes : goal.decreases-bytes
decreases-bytes l = l.place
