-- What a well typed program was found to be, before its types have numbers.
use Rattle.std.specs.Prelude.{◌≡◌, ℕ, true, List, map, Some}
use Rattle.cc_model.specs.declared.tokens.Token.{Token}
use Rattle.cc_model.specs.declared.checked.Site.{Site}
use Rattle.cc_model.specs.declared.trees.Item.{Item}
use Rattle.cc_model.specs.declared.typing.File.{File}
use Rattle.cc_model.specs.declared.typing.Note.{Note}
use Rattle.cc_model.specs.Scopes.{Text, function_in, file_of}
use Rattle.cc_model.specs.Sites.{sites_in}
use Rattle.cc_model.specs.Faults.{WellTyped, notes_in, has_entry}
use Rattle.cc_model.specs.CheckedProgram.{site_of}

-- the file that the items are, what is said of them, and their sites in order
pub record AreRead (text : ℕ → Text) (tokens : List Token) (items : List Item) (file : File) (notes : List Note) (sites : List Site) : Type 0 where
  pub files : file ≡ file_of text items
  pub said : notes ≡ notes_in text items
  pub marked : sites ≡ map (site_of tokens) (sites_in items)

-- nothing is wrong, and the function with this number has the name, and has a body
pub record IsTested (text : ℕ → Text) (items : List Item) (name : Text) (number : ℕ) : Type 0 where
  pub well_typed : WellTyped text items
  pub named : function_in name (file_of text items).functions ≡ Some number
  pub has_body : has_entry text items name ≡ true
