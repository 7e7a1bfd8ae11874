use Rattle.concolic_cli.proofs.MadeText.{Written}
use Rattle.concolic_cli.proofs.making.made_source.Given as goal

abbrev pub invariant-loop-number : goal.invariant-loop-number
invariant-loop-number l = Written l.branches l.number l.text.items
