use Rattle.cc_model.specs.Source.{text_at}
use Rattle.c_rules.proofs.StatementLaws.{call_noted}
use Rattle.c_rules.proofs.view.View.simple.Goals as goal

pub returns-in-Call : goal.returns-in-Call
returns-in-Call c = call_noted c.call_statement.result (text_at c.args.self.now.source.now c.args.self.now.tokens.now) c.args.self.now.file.now c.args.self.now.before.now c.args.self.now.scopes.now
    c.args.s.now c.in-Call.t _ c.as_slice.result.now c.args.notes.now c.call_statement.new.notes c.in-Call.is c.as_slice.ensures c.call_statement.ensures
