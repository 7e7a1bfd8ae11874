use Rattle.std.proofs.Common.{◌≡◌, drop, map}
use Rattle.cc_model.specs.Source.{text_at}
use Rattle.c_rules.specs.Telling.{telling, told_args, args_told, no_args}
use Rattle.c_rules.specs.Views.{seen}
use Rattle.c_rules.proofs.view.View.+judging.Given as goal

abbrev pub invariant-tell_args-loop-arg : goal.invariant-tell_args-loop-arg
invariant-tell_args-loop-arg l =
    told_args (map (telling (text_at l.self.source.now l.self.tokens.now) (seen l.self.file.now l.self.before.now l.self.scopes.now)) (drop l.arg-index l.args)) (args_told l.operands l.notes)
    ≡ told_args (map (telling (text_at l.fn.self.source.now l.fn.self.tokens.now) (seen l.fn.self.file.now l.fn.self.before.now l.fn.self.scopes.now)) l.fn.args) (no_args l.fn.notes)
