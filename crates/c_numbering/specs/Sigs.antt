-- The types of functions and globals by their numbers.
use Rattle.std.specs.Prelude.{List, [], ◌∷◌, ◌++◌, unwrap_or}
use Rattle.cc_base.specs.Paths.{In}
use Rattle.cc_base.specs.declared.cells.TyId.{TyId}
use Rattle.cc_model.specs.declared.checked.Ty.{Ty}
use Rattle.cc_model.specs.declared.checked.Sig.{Sig}
use Rattle.cc_model.specs.declared.typing.CType.{CType}
use Rattle.cc_model.specs.declared.typing.Function.{Function}
use Rattle.cc_model.specs.Types.{void_type}
use Rattle.cc_model.specs.CheckedProgram.{Denotes, AllDenote, known, result_of}
use Rattle.c_numbering.specs.Table.{Continues, Asked, AreAmong}

-- types by their numbers, behind others
pub record AddsNumbers (old new : List Ty) (before after : List TyId) (ts : List CType) : Type 0 where
  pub kept : Continues old new
  pub denote : (us : List CType) → AllDenote old before us → AllDenote new after (us ++ ts)
  pub among : (asked : List CType) → ((t : CType) → In t ts → Asked asked t) → AreAmong asked old → AreAmong asked new

-- the types of a function; a result that isn't known counts as void
pub record SigDenotes (tys : List Ty) (f : Function) (locals : List CType) (s : Sig) : Type 0 where
  pub params : AllDenote tys s.params (known f.params)
  pub result : Denotes tys (s.result).0 (unwrap_or f.result void_type)
  pub slots : AllDenote tys s.slots locals

-- the types of functions, one after the other, with the types of each one's locals
abbrev pub SigsDenote : List Ty → List Function → List (List CType) → List Sig → Type 0
SigsDenote tys [] [] [] = Unit {0}
SigsDenote tys (f ∷ fs) (l ∷ ls) (s ∷ ss) = SigDenotes tys f l s × SigsDenote tys fs ls ss
SigsDenote tys _ _ _ = ⊥

-- the types of results, parameters and locals were asked for
abbrev pub FunctionsAsked : List CType → List Function → Type 0
FunctionsAsked asked fs = (f : Function) (t : CType) → In f fs → In t (result_of f ++ known f.params) → Asked asked t

abbrev pub SlotsAsked : List CType → List (List CType) → Type 0
SlotsAsked asked ls = (l : List CType) (t : CType) → In l ls → In t l → Asked asked t

-- the functions' types are in the new table, and only what they need was put in
pub record SigsNumbered (old new : List Ty) (fs : List Function) (ls : List (List CType)) (ss : List Sig) : Type 0 where
  pub kept : Continues old new
  pub denote : SigsDenote new fs ls ss
  pub among : (asked : List CType) → FunctionsAsked asked fs → SlotsAsked asked ls → AreAmong asked old → AreAmong asked new
