-- The types of a checked program are those that a numbering gives.
use Rattle.std.proofs.Common.{◌≡◌, sym, subst, ℕ, List, [], ◌∷◌, map, Result, Ok, Err, IfOk}
use Rattle.cc_base.specs.declared.cells.TyId.{TyId}
use Rattle.cc_model.specs.declared.checked.Ty.{Ty}
use Rattle.cc_model.specs.declared.checked.Ty.TheVariants as ty
use Rattle.cc_model.specs.declared.checked.Sig.{Sig}
use Rattle.cc_model.specs.declared.trees.Item.{Item}
use Rattle.cc_model.specs.declared.typing.CType.{CType}
use Rattle.cc_model.specs.declared.typing.Function.{Function}
use Rattle.cc_model.specs.declared.typing.Member.{Member}
use Rattle.cc_model.specs.declared.typing.Variable.{Variable}
use Rattle.cc_model.specs.declared.typing.File.{File}
use Rattle.cc_model.specs.Scopes.{Text, file_of}
use Rattle.cc_model.specs.Faults.{notes_in, WellTyped}
use Rattle.cc_model.specs.CheckedProgram.{declared_types, globals_in}
use Rattle.c_numbering.specs.declared.numbering.Numbering.{Numbering}
use Rattle.c_numbering.specs.Table.{Continues, AreAmong, AllNumbered}
use Rattle.c_numbering.specs.Layouts.{LaidOut}
use Rattle.c_numbering.specs.Sigs.{SigsNumbered}
use Rattle.c_numbering.specs.CheckedTypes.{AreCheckedTypes}
use Rattle.c_numbering.specs.Numbers.{global_types, AllAsked, IsNumbering, BothNumbered, FileNumbered}
use Rattle.c_numbering.proofs.DenotesLemmas.{continues_from}
use Rattle.c_numbering.proofs.TableLemmas.{AllDenote-continue}
use Rattle.c_numbering.proofs.SigLemmas.{SigsDenote-continue}
use Rattle.c_numbering.proofs.CheckedLaws.{new_among, asked_expression, asked_declaration, asked_functions, AreTypes-from, locals_of, AreSigs-from}
use Rattle.c_numbering.proofs.DeclaredLaws.{all_of_file, fields_asked, globals_asked, slots_asked, results_known}

-- ---- the steps of a numbering

module _ (expressions declarations : List CType) (file : File) (globals : List Variable) (locals : List (List CType)) (one three : List Ty) (n : Numbering)
    (b : BothNumbered one three n.expr_tys expressions declarations) (r : FileNumbered file globals locals three n) where
  after_four : Continues r.behind_globals n.tys
  after_four = continues_from r.behind_globals r.behind_functions n.tys r.of_functions.kept r.laid.kept

  after_three : Continues three n.tys
  after_three = continues_from three r.behind_globals n.tys r.of_globals.kept after_four

  after_two : Continues b.between n.tys
  after_two = continues_from b.between three n.tys b.behind.kept after_three

  all_steps : one ≡ ty.Void ∷ [] → IsNumbering expressions declarations file globals locals n
  all_steps o = record {
    first = subst (λ z. Continues z n.tys) o (continues_from one b.between n.tys b.numbered.kept after_two);
    of_expressions = AllDenote-continue b.between n.tys n.expr_tys expressions after_two b.numbered.denote;
    of_declarations = (b.more, AllDenote-continue three n.tys b.more declarations after_three b.behind.denote);
    of_globals = AllDenote-continue r.behind_globals n.tys n.globals (global_types globals) after_four r.of_globals.denote;
    of_functions = SigsDenote-continue r.behind_functions n.tys file.functions locals n.funcs r.laid.kept r.of_functions.denote;
    among = λ asked a. r.laid.among asked a.fields_asked (r.of_functions.among asked a.functions_asked a.locals_asked (r.of_globals.among asked a.globals_asked (b.behind.among asked a.declarations_asked (b.numbered.among asked a.expressions_asked (subst (AreAmong asked) (sym o) (new_among asked))))));
    each = r.laid.each;
    cells_of = r.laid.cells_of;
  }

numbering_made : (expressions declarations : List CType) (file : File) (globals : List Variable) (locals : List (List CType)) (one three : List Ty) (es : List TyId) (n : Numbering)
    → one ≡ ty.Void ∷ [] → BothNumbered one three es expressions declarations → n.expr_tys ≡ es → FileNumbered file globals locals three n
    → IsNumbering expressions declarations file globals locals n
numbering_made expressions declarations file globals locals one three es n o b e r =
    all_steps expressions declarations file globals locals one three n (subst (λ z. BothNumbered one three z expressions declarations) (sym e) b) r o

-- the steps behind expressions and declarations
file_numbered : (file : File) (globals : List Variable) (locals : List (List CType)) (old behind_globals behind_functions : List Ty) (gs : List TyId) (ss : List Sig) (functions : List Function) (structs : List (List Member)) (n : Numbering)
    → AllNumbered old behind_globals gs (global_types globals) → functions ≡ file.functions → SigsNumbered behind_globals behind_functions functions locals ss → structs ≡ file.structs → LaidOut structs behind_functions n.tys n.layouts
    → n.globals ≡ gs → n.funcs ≡ ss → FileNumbered file globals locals old n
file_numbered file globals locals old four five gs ss functions structs n g p f q l a b = record {
  behind_globals = four;
  behind_functions = five;
  of_globals = subst (λ z. AllNumbered old four z (global_types globals)) (sym a) g;
  of_functions = subst (λ z. SigsNumbered four five file.functions locals z) (sym b) (subst (λ z. SigsNumbered four five z locals ss) p f);
  laid = subst (λ z. LaidOut z five n.tys n.layouts) q l;
}

pub numbering_if : {E : Type 0} (result : Result Numbering E) (expressions declarations : List CType) (file : File) (globals : List Variable) (locals : List (List CType)) (one three : List Ty) (es : List TyId)
    → one ≡ ty.Void ∷ [] → BothNumbered one three es expressions declarations → IfOk result (λ n. n.expr_tys ≡ es) → IfOk result (λ n. FileNumbered file globals locals three n)
    → IfOk result (λ n. IsNumbering expressions declarations file globals locals n)
numbering_if (Err x) expressions declarations file globals locals one three es o b e r = tt
numbering_if (Ok n) expressions declarations file globals locals one three es o b e r = numbering_made expressions declarations file globals locals one three es n o b e r

pub file_numbered_if : {E : Type 0} (result : Result Numbering E) (file : File) (globals : List Variable) (locals : List (List CType)) (old behind_globals behind_functions : List Ty) (gs : List TyId) (ss : List Sig) (functions : List Function) (structs : List (List Member))
    → AllNumbered old behind_globals gs (global_types globals) → functions ≡ file.functions → SigsNumbered behind_globals behind_functions functions locals ss → structs ≡ file.structs
    → IfOk result (λ n. LaidOut structs behind_functions n.tys n.layouts) → IfOk result (λ n. n.globals ≡ gs) → IfOk result (λ n. n.funcs ≡ ss) → IfOk result (λ n. FileNumbered file globals locals old n)
file_numbered_if (Err x) file globals locals old four five gs ss functions structs g p f q l a b = tt
file_numbered_if (Ok n) file globals locals old four five gs ss functions structs g p f q l a b = file_numbered file globals locals old four five gs ss functions structs n g p f q l a b

-- ---- the parts of a checked program that a numbering is

module _ (text : ℕ → Text) (items : List Item) (expressions : List CType) where
  all_asked : AllAsked (all_of_file text items expressions) expressions (declared_types (notes_in text items)) (file_of text items) (globals_in text items) (map (locals_of text items) (file_of text items).functions)
  all_asked = record {
    expressions_asked = asked_expression (notes_in text items) expressions (file_of text items).functions;
    declarations_asked = asked_declaration (notes_in text items) expressions (file_of text items).functions;
    globals_asked = globals_asked text items expressions;
    functions_asked = asked_functions (notes_in text items) expressions (file_of text items).functions;
    locals_asked = slots_asked text items expressions (file_of text items).functions;
    fields_asked = fields_asked text items expressions;
  }

  -- of a well typed file, with all that it declares
  pub numbering_checked : (n : Numbering) → WellTyped text items
      → IsNumbering expressions (declared_types (notes_in text items)) (file_of text items) (globals_in text items) (map (locals_of text items) (file_of text items).functions) n → AreCheckedTypes text items expressions n
  numbering_checked n w h =
      let among = h.among (all_of_file text items expressions) all_asked in
      record {
        types = AreTypes-from (notes_in text items) expressions (file_of text items).functions n.tys n.expr_tys h.of_declarations.0 (map (locals_of text items) (file_of text items).functions) n.funcs h.first h.of_expressions h.of_declarations.1 h.of_functions among;
        layouts = h.each;
        layout = h.cells_of (all_of_file text items expressions) among;
        expressions_numbered = h.of_expressions;
        funcs = AreSigs-from text items n.tys (file_of text items).functions n.funcs (results_known text items w) h.of_functions;
        globals = h.of_globals;
      }
