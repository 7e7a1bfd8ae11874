-- All types of a program by their numbers.
use Rattle.std.specs.Prelude.{◌≡◌, List, [], ◌∷◌, length, map}
use Rattle.cc_base.specs.Paths.{In}
use Rattle.cc_base.specs.declared.cells.TyId.{TyId}
use Rattle.cc_model.specs.declared.checked.Ty.{Ty}
use Rattle.cc_model.specs.declared.checked.Ty.TheVariants as ty
use Rattle.cc_model.specs.declared.typing.CType.{CType}
use Rattle.cc_model.specs.declared.typing.Variable.{Variable}
use Rattle.cc_model.specs.declared.typing.File.{File}
use Rattle.cc_model.specs.CheckedProgram.{AllDenote, known, cells_after}
use Rattle.c_numbering.specs.declared.numbering.Numbering.{Numbering}
use Rattle.c_numbering.specs.Table.{Continues, Asked, AreAmong, AllNumbered}
use Rattle.c_numbering.specs.Layouts.{FieldsAsked, AreLayouts, LaidOut}
use Rattle.c_numbering.specs.Sigs.{SigsDenote, SigsNumbered, FunctionsAsked, SlotsAsked}

-- the types of globals, where they are known
abbrev pub global_types : List Variable → List CType
global_types globals = known (map (λ (v : Variable). v.ty) globals)

-- each type of a program was asked for
pub record AllAsked (asked expressions declarations : List CType) (file : File) (globals : List Variable) (locals : List (List CType)) : Type 0 where
  pub expressions_asked : (t : CType) → In t expressions → Asked asked t
  pub declarations_asked : (t : CType) → In t declarations → Asked asked t
  pub globals_asked : (t : CType) → In t (global_types globals) → Asked asked t
  pub functions_asked : FunctionsAsked asked file.functions
  pub locals_asked : SlotsAsked asked locals
  pub fields_asked : FieldsAsked asked file.structs

-- the types of a program by their numbers: those of expressions, declarations, globals, functions and their locals, and fields
pub record IsNumbering (expressions declarations : List CType) (file : File) (globals : List Variable) (locals : List (List CType)) (n : Numbering) : Type 0 where
  pub first : Continues (ty.Void ∷ []) n.tys
  pub of_expressions : AllDenote n.tys n.expr_tys expressions
  pub of_declarations : (ids : List TyId) × AllDenote n.tys ids declarations
  pub of_globals : AllDenote n.tys n.globals (global_types globals)
  pub of_functions : SigsDenote n.tys file.functions locals n.funcs
  pub among : (asked : List CType) → AllAsked asked expressions declarations file globals locals → AreAmong asked n.tys
  pub each : length n.layouts ≡ length n.tys
  pub cells_of : (asked : List CType) → AreAmong asked n.tys → AreLayouts n.tys n.layouts (cells_after [] file.structs)

-- types have these numbers, and others were put in behind them
pub record BothNumbered (old new : List Ty) (ns : List TyId) (ts others : List CType) : Type 0 where
  pub between : List Ty
  pub numbered : AllNumbered old between ns ts
  pub more : List TyId
  pub behind : AllNumbered between new more others

-- the types of globals and functions and the cells of types by their numbers, put in behind the old entries
pub record FileNumbered (file : File) (globals : List Variable) (locals : List (List CType)) (old : List Ty) (n : Numbering) : Type 0 where
  pub behind_globals : List Ty
  pub behind_functions : List Ty
  pub of_globals : AllNumbered old behind_globals n.globals (global_types globals)
  pub of_functions : SigsNumbered behind_globals behind_functions file.functions locals n.funcs
  pub laid : LaidOut file.structs behind_functions n.tys n.layouts
