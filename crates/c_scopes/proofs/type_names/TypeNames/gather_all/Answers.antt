-- A step of the walk: what the item declares comes behind what was found.
use Rattle.cc_model.specs.Source.{text_at}
use Rattle.c_scopes.proofs.GatherLemmas.{behind_step, structs_step, functions_step}
use Rattle.c_scopes.proofs.type_names.TypeNames.gather_all.Goals as goal

pub loop-item-preserved : goal.loop-item-preserved
loop-item-preserved c =
    let text = text_at c.args.self.now.source.now c.args.self.now.tokens.now in
    record {
      behind = behind_step text c.args.self.now.tags.now c.args.items.now c.loop-item.item-index c.item-item.result c.loop-item.before c.gather_item.new.before _ c.loop-item-test.true c.item-item.is c.loop-item.invariant.behind c.in_ok-gather_item.ensures.before;
      structs = structs_step text c.args.self.now.tags.now c.args.items.now c.loop-item.item-index c.item-item.result c.loop-item.before c.gather_item.new.before c.loop-item.structs c.gather_item.new.structs _ c.loop-item-test.true c.item-item.is c.loop-item.invariant.structs c.in_ok-gather_item.ensures.before c.in_ok-gather_item.ensures.structs;
      functions = functions_step text c.args.self.now.tags.now c.args.items.now c.loop-item.item-index c.item-item.result c.loop-item.before c.gather_item.new.before c.loop-item.functions c.gather_item.new.functions _ c.loop-item-test.true c.item-item.is c.loop-item.invariant.functions c.in_ok-gather_item.ensures.before c.in_ok-gather_item.ensures.functions;
    }
