-- What the code's tests of tokens say of the descent's, for items.
use Rattle.std.specs.Prelude.{◌≡◌, true, false, Option, Some, None}
use Rattle.cc_model.specs.declared.tokens.Kind.{Kind}
use Rattle.cc_model.specs.declared.tokens.Punct.TheVariants as punct
use Rattle.c_parse.specs.declared.openings.ItemStart.{ItemStart}
use Rattle.c_parse.specs.declared.openings.ItemStart.TheVariants as item
use Rattle.c_parse.specs.declared.openings.ValueStart.{ValueStart}
use Rattle.c_parse.specs.declared.openings.ValueStart.TheVariants as value
use Rattle.c_expressions.specs.Descent.{is_sign}
use Rattle.c_statements.specs.DescentStatements.{number_at}
use Rattle.c_parse.specs.DescentItems as of_item

-- the same start
abbrev pub item_is : ItemStart → of_item.ItemStart
item_is item.Typedef = of_item.a_typedef
item_is item.Struct = of_item.a_struct
item_is item.Void = of_item.a_void
item_is item.Typed = of_item.a_typed

-- a global's start value
abbrev pub ValueAt : ValueStart → Option Kind → Type 0
ValueAt (value.Number z) k = number_at k ≡ Some z
ValueAt value.Negative k = (number_at k ≡ None) × (is_sign punct.Dash k ≡ true)
ValueAt value.Null k = (number_at k ≡ None) × (is_sign punct.Dash k ≡ false)
