use Rattle.std.proofs.Common.{◌∙◌, ◌<◌, ap, sym, subst, length, IfSome, position, bytes_eq}
use Rattle.c_names.proofs.IndexLemmas.{position_map, position_within}
use Rattle.cc_model.specs.declared.typing.Function.{Function}
use Rattle.c_rules.proofs.view.View.function_place.Goals as goal

pub returns-clause-value : goal.returns-clause-value
returns-clause-value c =
    c.position.ensures.value ∙ ap (position (bytes_eq c.args.name.now)) c.args.self.now.function_names ∙ position_map (bytes_eq c.args.name.now) (λ (f : Function). f.name) c.args.self.now.file.now.functions

pub returns-clause-within : goal.returns-clause-within
returns-clause-within c =
    subst (λ z. IfSome z (λ n. n < length c.args.self.now.file.now.functions)) (sym (returns-clause-value c)) (position_within (λ (f : Function). bytes_eq c.args.name.now f.name) c.args.self.now.file.now.functions)
