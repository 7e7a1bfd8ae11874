-- What is said of an item at one place. The declarators of a line of globals stand at a place each, behind one another, so nothing is said of the line here.
use Rattle.std.specs.Prelude.{ℕ, List, []}
use Rattle.cc_model.specs.declared.trees.Item.{Item}
use Rattle.cc_model.specs.declared.trees.Item.TheVariants as item
use Rattle.cc_model.specs.declared.typing.Note.{Note}
use Rattle.cc_model.specs.declared.typing.File.{File}
use Rattle.cc_model.specs.declared.typing.Before.{Before}
use Rattle.cc_model.specs.Scopes.{Text}
use Rattle.cc_model.specs.Faults.{part_of, item_notes}

abbrev pub apart : (ℕ → Text) → File → Before → Item → List Note
apart text file before (item.Globals b parts) = []
apart text file before i = item_notes text file (part_of text file) before i
