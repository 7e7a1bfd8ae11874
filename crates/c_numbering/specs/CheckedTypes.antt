-- The parts of a checked program that its types by their numbers are.
use Rattle.std.specs.Prelude.{◌≡◌, ℕ, List, length, slice_get, Some}
use Rattle.cc_base.specs.declared.cells.CellTy.{CellTy}
use Rattle.cc_model.specs.declared.trees.Item.{Item}
use Rattle.cc_model.specs.declared.typing.CType.{CType}
use Rattle.cc_model.specs.Scopes.{Text, file_of}
use Rattle.cc_model.specs.Faults.{notes_in}
use Rattle.cc_model.specs.CheckedProgram.{Denotes, AllDenote, AreTypes, AreCells, AreSigs, layout_of, globals_in}
use Rattle.c_numbering.specs.declared.numbering.Numbering.{Numbering}
use Rattle.c_numbering.specs.Numbers.{global_types}

pub record AreCheckedTypes (text : ℕ → Text) (items : List Item) (expressions : List CType) (n : Numbering) : Type 0 where
  pub types : AreTypes (notes_in text items) expressions (file_of text items).functions n.tys
  pub layouts : length n.layouts ≡ length n.tys
  pub layout : (k : ℕ) (t : CType) → Denotes n.tys k t → (cells : List CellTy) × ((slice_get n.layouts k ≡ Some cells) × AreCells n.tys cells (layout_of (file_of text items) t))
  pub expressions_numbered : AllDenote n.tys n.expr_tys expressions
  pub funcs : AreSigs text items n.tys (file_of text items).functions n.funcs
  pub globals : AllDenote n.tys n.globals (global_types (globals_in text items))
