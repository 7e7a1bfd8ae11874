use Rattle.c_scopes.proofs.FieldLemmas.{sized_behind}
use Rattle.c_rules.proofs.view.View.field.Goals as goal

pub returns-clause-sized : goal.returns-clause-sized
returns-clause-sized c = sized_behind c.push.result c.args.self.now.file.now.sizes c.as_slice.result.now c.args.earlier.now c.push.new.self _ c.args.size.now c.with_field.result c.as_slice.ensures c.requires.sized c.with_field.ensures c.push.ensures
