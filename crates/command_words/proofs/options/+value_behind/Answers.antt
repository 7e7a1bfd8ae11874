use Rattle.std.proofs.Common.{sym, ◌∙◌}
use Rattle.command_words.proofs.NamedWords.{behind_here}
use Rattle.command_words.proofs.options.+value_behind.Goals as goal

pub returns-then-eq-clause-some : goal.returns-then-eq-clause-some
returns-then-eq-clause-some t c = behind_here c.args.name.now c.in_ok-first.ensures.some c.in_ok-second.ensures.some (sym c.eq.ensures ∙ c.if-eq.true)
