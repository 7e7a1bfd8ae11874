-- The function of an item.
use Rattle.std.specs.Prelude.{ℕ, Option, Some, None, if◌then◌else◌}
use Rattle.cc_model.specs.declared.checked.Checked.{Checked}
use Rattle.cc_model.specs.declared.trees.Item.{Item}
use Rattle.cc_model.specs.declared.trees.Item.TheVariants as item
use Rattle.cc_model.specs.declared.trees.Func as source_func
use Rattle.cc_model.specs.CheckedProgram.{is_func, name_at}

-- where it is the one with this number
abbrev pub function_in : Checked → ℕ → Item → Option source_func.Func
function_in c n (item.Func f) = if is_func c n (name_at c f.name) then Some f else None
function_in c n _ = None
