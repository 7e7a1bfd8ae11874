use Rattle.std.proofs.Common.{◌++◌, map}
use Rattle.cc_model.specs.Source.{text_at}
use Rattle.cc_model.specs.Scopes.{field_of}
use Rattle.cc_model.specs.Faults.{line_notes}
use Rattle.c_rules.proofs.StructLaws.{line_more, members_more}
use Rattle.c_rules.proofs.view.View.line.Goals as goal

pub loop-declarator-preserved : goal.loop-declarator-preserved
loop-declarator-preserved c = record {
  sized = c.in_ok-field.ensures.sized;
  notes = λ rest. line_more (text_at c.args.self.now.source.now c.args.self.now.tokens.now) c.args.self.now.file.now c.args.self.now.before.now c.args.base c.args.parts.now c.loop-declarator.declarator-index c.declarator-item.result c.loop-declarator.earlier c.field.new.earlier c.loop-declarator.notes c.field.new.notes
      (c.args.notes.now ++ line_notes (text_at c.args.self.now.source.now c.args.self.now.tokens.now) c.args.self.now.file.now c.args.self.now.before.now c.args.earlier.now c.args.base c.args.parts.now rest) rest c.loop-declarator-test.true c.declarator-item.is c.in_ok-field.ensures.notes c.in_ok-field.ensures.member (c.loop-declarator.invariant.notes rest);
  members = members_more (field_of (text_at c.args.self.now.source.now c.args.self.now.tokens.now) c.args.self.now.file.now.tags c.args.self.now.before.now c.args.base) c.args.parts.now c.loop-declarator.declarator-index c.declarator-item.result c.loop-declarator.earlier c.field.new.earlier
      (c.args.earlier.now ++ map (field_of (text_at c.args.self.now.source.now c.args.self.now.tokens.now) c.args.self.now.file.now.tags c.args.self.now.before.now c.args.base) c.args.parts.now) c.loop-declarator-test.true c.declarator-item.is c.in_ok-field.ensures.member c.loop-declarator.invariant.members;
}
