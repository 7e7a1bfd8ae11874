-- The body of each function, by its item.
use Rattle.std.specs.Prelude.{◌≡◌, ℕ, ◌<◌, List, length, Option, Some, None, slice_get, slice_set}
use Rattle.cc_model.specs.declared.checked.Checked.{Checked}
use Rattle.cc_model.specs.declared.trees.Func as source
use Rattle.cc_model.specs.declared.trees.Item.{Item}
use Rattle.cc_model.specs.declared.trees.Item.TheVariants as item
use Rattle.cc_model.specs.declared.checked.Target.{Target}
use Rattle.cc_model.specs.declared.checked.Target.TheVariants as target
use Rattle.cc_model.specs.CheckedProgram.{name_at, body_in}

abbrev pub func_in : Option Item → Option source.Func
func_in (Some (item.Func f)) = Some f
func_in _ = None

-- the function with a body at an index of the items, where there is an index
abbrev pub func_at : List Item → Option (Option ℕ) → Option source.Func
func_at items (Some (Some at)) = func_in (slice_get items at)
func_at items _ = None

-- of each of so many functions: the index of its body's item among these
abbrev pub AreBodies : Checked → (items rest : List Item) → List (Option ℕ) → Type 0
AreBodies c items rest l = (n : ℕ) → n < length l → func_at items (slice_get l n) ≡ body_in c n rest

abbrev pub number_named : Option Target → Option ℕ
number_named (Some (target.Func n)) = Some n
number_named _ = None

-- the number of the function whose body an item is
abbrev pub body_number : Checked → Item → Option ℕ
body_number c (item.Func f) = number_named (name_at c f.name)
body_number c _ = None

-- the list with the body's index
abbrev pub noted : Option ℕ → ℕ → List (Option ℕ) → List (Option ℕ)
noted None at l = l
noted (Some n) at l = slice_set l n (Some at)
