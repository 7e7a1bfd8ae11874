use Rattle.cc_model.specs.Source.{text_at}
use Rattle.c_rules.proofs.StructLaws.{named_struct}
use Rattle.c_rules.proofs.view.View.struct_def.Goals as goal

pub returns-in_ok-fields-in-Named : goal.returns-in_ok-fields-in-Named
returns-in_ok-fields-in-Named c = named_struct c.note_twice.result (text_at c.args.self.now.source.now c.args.self.now.tokens.now) c.args.self.now.file.now c.args.self.now.before.now c.args.def.now c.in-Named.tag _ c.as_slice-in-Named.result.now c.in-Named.name c.name_of_struct.result c.is_taken.result
    c.args.notes.now c.note_tag-in-Named.new.notes c.fields-in-Named.new.notes c.note_twice.new.notes c.in-Named.is c.as_slice-in-Named.ensures
    (c.name_of_struct.ensures (text_at c.args.self.now.source.now c.args.self.now.tokens.now) c.args.self.now.file.now) c.is_taken.ensures c.in_ok-note_tag-in-Named.ensures c.in_ok-fields-in-Named.ensures c.note_twice.ensures
