-- The functions with a body, and the types of their locals.
use Rattle.std.specs.Prelude.{ℕ, List, [], ◌∷◌, Option, Some, None, find, bytes_eq}
use Rattle.cc_model.specs.declared.trees.Item.{Item}
use Rattle.cc_model.specs.declared.trees.Item.TheVariants as item
use Rattle.cc_model.specs.declared.typing.File.{File}
use Rattle.cc_model.specs.declared.typing.Before.{Before}
use Rattle.cc_model.specs.declared.typing.CType.{CType}
use Rattle.cc_model.specs.Scopes.{Text, after_item}
use Rattle.cc_model.specs.CheckedProgram.{declared_types, body_notes}
use Rattle.c_rules.specs.declared.locals.Locals.{Locals}

-- the types of its locals; a function without a body has none
abbrev pub locals_if : Option Locals → List CType
locals_if None = []
locals_if (Some b) = b.types

module _ (text : ℕ → Text) where
  -- the first body of that name counts
  abbrev pub locals_named : Text → List Locals → List CType
  locals_named name bodies = locals_if (find (λ (b : Locals). bytes_eq (text b.name) name) bodies)

  -- the functions with a body among items, in order, behind what stands before them
  abbrev pub bodies_in : File → Before → List Item → List Locals
  bodies_in file before [] = []
  bodies_in file before (item.Func f ∷ l) = record { name = f.name; types = declared_types (body_notes text file before f) } ∷ bodies_in file (after_item text file.tags before (item.Func f)) l
  bodies_in file before (i ∷ l) = bodies_in file (after_item text file.tags before i) l
