-- What a refusal by the checker means: the first fault of the program, or that no function with a body has the tested name.
use Rattle.std.specs.Prelude.{◌≡◌, ℕ, false, List}
use Rattle.cc_model.specs.declared.trees.Item.{Item}
use Rattle.cc_model.specs.declared.typing.Wrong.TheVariants as wrong
use Rattle.cc_model.specs.Scopes.{Text}
use Rattle.cc_model.specs.Faults.{WellTyped, IsFirst, has_entry}
use Rattle.c_types.specs.declared.checker.TypeFault.{TypeFault}
use Rattle.c_types.specs.declared.checker.TypeFault.TheVariants.{Unknown, Twice, Mismatch, TooLarge, NoEntry, NoMemory}

abbrev pub IsTypeFault : (ℕ → Text) → List Item → Text → TypeFault → Type 0
IsTypeFault text items entry (Unknown t) = IsFirst text items (record { what = wrong.Unknown; token = t })
IsTypeFault text items entry (Twice t) = IsFirst text items (record { what = wrong.Twice; token = t })
IsTypeFault text items entry (Mismatch t) = IsFirst text items (record { what = wrong.Mismatch; token = t })
IsTypeFault text items entry (TooLarge t) = IsFirst text items (record { what = wrong.TooLarge; token = t })
IsTypeFault text items entry NoEntry = WellTyped text items × (has_entry text items entry ≡ false)
IsTypeFault text items entry NoMemory = Unit {0}
