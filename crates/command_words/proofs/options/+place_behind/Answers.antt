use Rattle.std.proofs.Common.{sym, ◌∙◌}
use Rattle.command_words.proofs.PathWords.{place_later}
use Rattle.command_words.proofs.options.+place_behind.Goals as goal

pub returns : goal.returns
returns t c = c.place_behind.ensures ∙ sym (place_later c.args.name.now c.args.before c.in_ok-first.ensures.some c.in_ok-second.ensures.some (sym c.eq.ensures ∙ c.if-eq.false))
