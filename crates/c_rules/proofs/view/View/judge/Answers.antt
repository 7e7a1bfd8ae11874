use Rattle.cc_model.specs.Source.{text_at}
use Rattle.c_rules.specs.Views.{seen}
use Rattle.c_rules.proofs.TellingLaws.{judged_if}
use Rattle.c_rules.proofs.view.View.judge.Goals as goal

pub returns : goal.returns
returns c = judged_if c.tell.result (text_at c.args.self.now.source.now c.args.self.now.tokens.now) (seen c.args.self.now.file.now c.args.self.now.before.now c.args.self.now.scopes.now) c.args.e.now c.args.notes.now c.tell.new.notes c.tell.ensures
