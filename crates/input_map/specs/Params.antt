-- The cells of the tested function's parameters.
use Rattle.std.specs.Prelude.{Option, Some, None, if◌then◌else◌}
use Rattle.cc_model.specs.declared.checked.Checked.{Checked}
use Rattle.cc_model.specs.declared.trees.Item.{Item}
use Rattle.cc_model.specs.declared.trees.Item.TheVariants as item
use Rattle.cc_model.specs.declared.trees.Func as source_func
use Rattle.cc_model.specs.CheckedProgram.{is_func, name_at}

-- the function of an item, where it is the tested one
abbrev pub entry_item : Checked → Item → Option source_func.Func
entry_item c (item.Func f) = if is_func c c.entry (name_at c f.name) then Some f else None
entry_item c _ = None
