-- The checked program, put together from its parts.
use Rattle.std.proofs.Common.{◌≡◌, ◌∙◌, sym, ap, subst, ℕ, ◌<◌, true, false, List, ◌++◌, map, length, slice_get, Option, Some, None, Result, Ok, Err, IfOk}
use Rattle.cc_model.specs.declared.tokens.Token.{Token}
use Rattle.cc_model.specs.declared.checked.Site.{Site}
use Rattle.cc_model.specs.declared.checked.Target.{Target}
use Rattle.cc_model.specs.declared.trees.Item.{Item}
use Rattle.cc_model.specs.declared.typing.CType.{CType}
use Rattle.cc_model.specs.declared.typing.Variable.{Variable}
use Rattle.cc_model.specs.declared.typing.Function.{Function}
use Rattle.cc_model.specs.declared.typing.File.{File}
use Rattle.cc_model.specs.declared.typing.Note.{Note}
use Rattle.cc_model.specs.Scopes.{Text, nothing_before, after_items, has_name, function_in, file_of}
use Rattle.cc_model.specs.Sites.{sites_in}
use Rattle.cc_model.specs.Faults.{WellTyped, IsFirst, notes_in, faults_in, faults_among, sites_fault, has_entry}
use Rattle.cc_model.specs.CheckedProgram.{IsChecked, site_of, meant, type_at, expression_tokens, expression_types, declared_types, globals_in, slots_in}
use Rattle.c_types.specs.declared.least.Found.{Found}
use Rattle.c_numbering.specs.declared.numbering.Numbering.{Numbering}
use Rattle.c_types.specs.FirstFault.{fault, faults_of, IsLeast}
use Rattle.c_numbering.specs.Numbers.{IsNumbering}
use Rattle.c_numbering.specs.CheckedTypes.{AreCheckedTypes}
use Rattle.c_types.specs.Resolving.{AreRead, IsTested}
use Rattle.c_types.proofs.FirstFaults.{first_in, none_found, first_found}
use Rattle.c_numbering.proofs.NumberingLaws.{numbering_checked}
use Rattle.c_types.proofs.Distinct.{with_number}

-- ---- types by their numbers

if_ok : {A E : Type 0} (P Q : A → Type 0) (r : Result A E) → ((a : A) → P a → Q a) → IfOk r P → IfOk r Q
if_ok P Q (Ok a) f h = f a h
if_ok P Q (Err e) f h = tt

pub numbered_types : {E : Type 0} (r : Result Numbering E) (text : ℕ → Text) (items : List Item) (es ds : List CType) (file : File) (gs : List Variable) (ls : List (List CType)) (notes : List Note)
    → es ≡ map (type_at notes) (expression_tokens items) → ds ≡ declared_types notes → file ≡ file_of text items
    → gs ≡ (after_items text file.tags nothing_before items).globals → ls ≡ map (λ (f : Function). slots_in text file nothing_before f.name items) file.functions
    → notes ≡ notes_in text items → WellTyped text items
    → IfOk r (λ n. IsNumbering es ds file gs ls n) → IfOk r (λ n. AreCheckedTypes text items (expression_types text items) n)
numbered_types r text items es ds file gs ls notes e d f g l n w h =
    let e' : es ≡ expression_types text items = e ∙ ap (λ z. map (type_at z) (expression_tokens items)) n in
    let d' : ds ≡ declared_types (notes_in text items) = d ∙ ap (λ z. declared_types z) n in
    let g' : gs ≡ globals_in text items = g ∙ ap (λ z. (after_items text z.tags nothing_before items).globals) f in
    let l' : ls ≡ map (λ (q : Function). slots_in text (file_of text items) nothing_before q.name items) (file_of text items).functions =
    l ∙ ap (λ z. map (λ (q : Function). slots_in text z nothing_before q.name items) z.functions) f in
    let one = subst (λ z. IfOk r (λ k. IsNumbering z ds file gs ls k)) e' h in
    let two = subst (λ z. IfOk r (λ k. IsNumbering (expression_types text items) z file gs ls k)) d' one in
    let three = subst (λ z. IfOk r (λ k. IsNumbering (expression_types text items) (declared_types (notes_in text items)) file z ls k)) g' two in
    let four = subst (λ z. IfOk r (λ k. IsNumbering (expression_types text items) (declared_types (notes_in text items)) file (globals_in text items) z k)) l' three in
    let five = subst (λ z. IfOk r (λ k. IsNumbering (expression_types text items) (declared_types (notes_in text items)) z (globals_in text items) (map (λ (q : Function). slots_in text (file_of text items) nothing_before q.name items) (file_of text items).functions) k)) f four in
    if_ok (λ k. IsNumbering (expression_types text items) (declared_types (notes_in text items)) (file_of text items) (globals_in text items) (map (λ (q : Function). slots_in text (file_of text items) nothing_before q.name items) (file_of text items).functions) k)
    (λ k. AreCheckedTypes text items (expression_types text items) k) r (λ k i. numbering_checked text items (expression_types text items) k w i) five

-- the same lists in other words
pub numbered_as : {E : Type 0} (r : Result Numbering E) (es ds : List CType) (file : File) (gs gs' : List Variable) (ls ls' : List (List CType)) → gs ≡ gs' → ls ≡ ls'
    → IfOk r (λ n. IsNumbering es ds file gs ls n) → IfOk r (λ n. IsNumbering es ds file gs' ls' n)
numbered_as r es ds file gs gs' ls ls' g l h = subst (λ z. IfOk r (λ n. IsNumbering es ds file gs' z n)) l (subst (λ z. IfOk r (λ n. IsNumbering es ds file z ls n)) g h)

-- ---- the checked program

pub checked_is : (text : ℕ → Text) (tokens : List Token) (items seen : List Item) (name : Text) (file : File) (notes : List Note) (sites : List Site) (n : Numbering) (names : List (Option Target)) (lines : List ℕ) (number : ℕ)
    → AreRead text tokens items file notes sites → seen ≡ items → AreCheckedTypes text seen (expression_types text seen) n
    → length names ≡ length tokens → ((t : ℕ) → t < length tokens → slice_get names t ≡ Some (meant notes t)) → lines ≡ map (λ t. t.line) tokens
    → IsTested text items name number
    → IsChecked text tokens name (record { program = record { items = items }; tys = n.tys; layouts = n.layouts; expr_tys = n.expr_tys; names = names; lines = lines; sites = sites; funcs = n.funcs; globals = n.globals; entry = number })
checked_is text tokens items seen name file notes sites n names lines number read same types count named lined tested =
    let known = subst (λ z. AreCheckedTypes text z (expression_types text z) n) same types in
    record {
      well_typed = tested.well_typed;
      types = known.types;
      layouts = known.layouts;
      layout = known.layout;
      expressions = known.expressions_numbered;
      names = count;
      name = λ t h. subst (λ z. slice_get names t ≡ Some (meant z t)) read.said (named t h);
      lines = lined;
      sites = read.marked;
      funcs = known.funcs;
      globals = known.globals;
      tested = tested.named;
      has_body = tested.has_body;
    }

-- ---- faults

pub least_read : (text : ℕ → Text) (tokens : List Token) (items : List Item) (file : File) (notes seen : List Note) (sites placed : List Site) (s r : Option Found)
    → AreRead text tokens items file notes sites → seen ≡ notes → placed ≡ sites
    → ((tokens : List Token) (items : List Item) → placed ≡ map (site_of tokens) (sites_in items) → faults_of s ≡ sites_fault items)
    → IsLeast (faults_among seen ++ faults_of s) r → IsLeast (faults_in text items) r
least_read text tokens items file notes seen sites placed s r read i j found least =
    first_in text items seen s r (i ∙ read.said) (found tokens items (j ∙ read.marked)) least

pub first_read : (text : ℕ → Text) (items : List Item) (o : Option Found) (f : Found) → o ≡ Some f → IsLeast (faults_in text items) o → IsFirst text items (fault f)
first_read text items o f e h = first_found text items f (subst (λ z. IsLeast (faults_in text items) z) e h)

pub none_read : (text : ℕ → Text) (items : List Item) (o : Option Found) → o ≡ None → IsLeast (faults_in text items) o → WellTyped text items
none_read text items o e h = none_found text items (subst (λ z. IsLeast (faults_in text items) z) e h)

-- ---- the entry

pub numbered_name : (text : ℕ → Text) (items : List Item) (file : File) (name : Text) → file ≡ file_of text items → has_name name file.bodies ≡ true → (n : ℕ) × (function_in name file.functions ≡ Some n)
numbered_name text items file name e h = subst (λ z. (n : ℕ) × (function_in name z.functions ≡ Some n)) (sym e) (with_number text items name (subst (λ z. has_name name z.bodies ≡ true) e h))

pub is_tested : (text : ℕ → Text) (items : List Item) (file : File) (name : Text) (number : ℕ) → file ≡ file_of text items → WellTyped text items → has_name name file.bodies ≡ true → function_in name file.functions ≡ Some number → IsTested text items name number
is_tested text items file name number e w h k = record {
  well_typed = w;
  named = subst (λ z. function_in name z.functions ≡ Some number) e k;
  has_body = subst (λ z. has_name name z.bodies ≡ true) e h;
}

pub not_tested : (text : ℕ → Text) (items : List Item) (file : File) (name : Text) → file ≡ file_of text items → has_name name file.bodies ≡ false → has_entry text items name ≡ false
not_tested text items file name e h = subst (λ z. has_name name z.bodies ≡ false) e h
