-- The words that a text may name, as the code holds them.
use Rattle.concolic_cli.specs.declared.answers.Named.{Named}
use Rattle.concolic_cli.specs.Refusals.{Names}

abbrev pub names_in : Named → Names
names_in n = record { file = (n.file).now; entry = (n.entry).now; tests = (n.tests).now }
