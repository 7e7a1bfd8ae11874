-- The parts of the rules of items, each with its completion.
use Rattle.std.proofs.Common.{◌≡◌, ℕ, suc, ℤ, List, [], ◌∷◌, Option, Some, None}
use Rattle.cc_model.specs.declared.tokens.Kind.TheVariants as kind
use Rattle.cc_model.specs.declared.tokens.Punct.TheVariants as punct
use Rattle.cc_model.specs.declared.tokens.Keyword.TheVariants as keyword
use Rattle.cc_model.specs.declared.trees.Base.{Base}
use Rattle.cc_model.specs.declared.trees.TypeName.{TypeName}
use Rattle.cc_model.specs.declared.trees.ResultType.{ResultType}
use Rattle.cc_model.specs.declared.trees.ResultType.TheVariants as returned
use Rattle.cc_model.specs.declared.trees.Declarator.{Declarator}
use Rattle.cc_model.specs.declared.trees.Param.{Param}
use Rattle.cc_model.specs.declared.trees.ProtoParam.{ProtoParam}
use Rattle.cc_model.specs.declared.trees.Field.{Field}
use Rattle.cc_model.specs.declared.trees.StructDef.TheVariants as a_def
use Rattle.cc_model.specs.declared.trees.StartValue.{StartValue}
use Rattle.cc_model.specs.declared.trees.StartValue.TheVariants as a_value
use Rattle.cc_model.specs.declared.trees.GlobalPart.{GlobalPart}
use Rattle.cc_model.specs.declared.trees.Item.{Item}
use Rattle.cc_model.specs.declared.trees.Item.TheVariants as an_item
use Rattle.cc_model.specs.Spots.{Spot, passed, Is}
use Rattle.cc_model.specs.ReadStatements as rs
use Rattle.cc_model.specs.ReadItems as by
use Rattle.c_parse.specs.DescentItems.{with_names}
use Rattle.c_expressions.proofs.Viable.{Tokens, Fits, Piece, seq, done, left, here, rule}
use Rattle.c_expressions.proofs.ViableExpressions.{base, stars, typed}
use Rattle.c_parse.proofs.FirmStatements.{declares_firm, with_lengths}
use Rattle.c_parse.proofs.FirmItems.{Valued, Naming, Headed, Ending, Tagged, Types, Behind, with_value, with_naming, with_ending, with_types, with_behind, with_lines, with_items, valued_firm, naming_firm, headed_firm, ending_firm, tagged_firm, types_firm, behind_firm, line_firm, lines_firm, fields_firm, start_firm, global_firm, prototyped_firm, listed_firm, item_firm, items_firm}
use Rattle.c_parse.proofs.FirmItems as behind
use Rattle.c_parse.proofs.Afters.{after, opens, passes, shuts, made, goes}
use Rattle.c_parse.proofs.ViableStatements.{NumberAt, number, number_piece, lengths, declarator_rest, declares, commas, commas_rest}
use Rattle.c_parse.proofs.ViableParts.{block}

-- ---- structs

pub declares_rel : (tok : Tokens) (fits : Fits) (s t : Spot) (a : Declarator) → declares.rel tok fits s a t → rs.Declares tok fits s t a
unfolding declares made
declares_rel tok fits s t a d = d

unfoldable pub declarators : Piece (List Declarator)
declarators = commas rs.Declares (λ tok fits s t a h. declares_firm s t a h) declares declares_rel

unfoldable pub line_parts : Piece Field
line_parts = seq base (λ b. seq declarators (λ l. passes (kind.Punct punct.Semicolon) (done (record { base = b; parts = l }))))

pub line_from : (tok : Tokens) (fits : Fits) (s t : Spot) (a : Field) → line_parts.rel tok fits s a t → by.FieldLine tok fits s t a
unfolding line_parts declarators commas base made seq passes after done
line_from tok fits s t a d = rw (d.3.3.1.0, d.3.3.1.1) (by.line d.2 d.3.2 d.3.3.0)

unfoldable pub line : Piece Field
line = made by.FieldLine (λ tok fits s t a h. line_firm s t a h) (λ _. line_parts) line_from

unfoldable pub lines_rest : List Field → Piece (List Field)
lines_rest l = goes by.FieldLine (λ tok fits s t a h. line_firm s t a h) l

unfoldable pub lines_parts : Piece (List Field)
lines_parts = seq line (λ f. lines_rest (f ∷ []))

pub lines_from : (tok : Tokens) (fits : Fits) (s t : Spot) (l : List Field) → lines_parts.rel tok fits s l t → by.FieldLines tok fits s t l
unfolding lines_parts lines_rest goes line made seq
lines_from tok fits s t l d = with_lines tok fits (by.first d.2) d.3

unfoldable pub lines : Piece (List Field)
lines = made by.FieldLines (λ tok fits s t l h. lines_firm h) (λ _. lines_parts) lines_from

unfoldable pub fields_parts : Spot → Piece (List Field)
fields_parts s = opens (kind.Punct punct.OpenBrace) (seq lines (λ l. shuts punct.CloseBrace s.level (done l)))

pub fields_from : (tok : Tokens) (fits : Fits) (s t : Spot) (l : List Field) → (fields_parts s).rel tok fits s l t → by.Fields tok fits s t l
unfolding fields_parts lines made seq opens shuts after done
fields_from tok fits s t l d = rw (d.1.3.1.0, d.1.3.1.1) (by.braces d.0 d.1.2 d.1.3.0)

unfoldable pub fields : Piece (List Field)
fields = made by.Fields (λ tok fits s t l h. fields_firm h) fields_parts fields_from

-- ---- globals

unfoldable pub null_parts : Spot → Piece StartValue
null_parts s = passes (kind.Key keyword.Null) (done (a_value.Null s.at))

pub null_from : (tok : Tokens) (fits : Fits) (s t : Spot) (v : StartValue) → (null_parts s).rel tok fits s v t → by.Start tok fits s t v
unfolding null_parts passes after done
null_from tok fits s t v d = rw (d.1.0, d.1.1) (by.null d.0)

unfoldable pub value : Piece StartValue
value = made by.Start (λ tok fits s t v h. start_firm h) null_parts null_from

unfoldable pub number_parts : ℤ → Spot → Piece StartValue
number_parts z s = passes (kind.Number z) (done (a_value.Number s.at z))

pub number_from : (z : ℤ) (tok : Tokens) (fits : Fits) (s t : Spot) (v : StartValue) → (number_parts z s).rel tok fits s v t → value.rel tok fits s v t
unfolding number_parts value made passes after done
number_from z tok fits s t v d = rw (d.1.0, d.1.1) (by.number z d.0)

unfoldable pub negative_parts : Spot → Piece StartValue
negative_parts s = passes (kind.Punct punct.Dash) (seq number_piece (λ z. done (a_value.Negative s.at (suc s.at) z)))

pub negative_of : (tok : Tokens) (fits : Fits) (s t : Spot) (z : ℤ) → Is tok fits punct.Dash s → NumberAt tok fits (passed s) t z → by.Start tok fits s t (a_value.Negative s.at (suc s.at) z)
negative_of tok fits s _ _ i (number z n) = by.negative z i n

pub negative_from : (tok : Tokens) (fits : Fits) (s t : Spot) (v : StartValue) → (negative_parts s).rel tok fits s v t → value.rel tok fits s v t
unfolding negative_parts number_piece value made passes after seq done
negative_from tok fits s t v d = rw (d.1.3.0, d.1.3.1) (negative_of tok fits s d.1.1 d.1.0 d.0 d.1.2)

unfoldable pub valued : Declarator → Piece GlobalPart
unfolding done
valued d = made (λ tok fits s t g. Valued tok fits d s t g) (λ tok fits s t g h. valued_firm s t g h) (λ _. done (record { declarator = d; start = None })) (λ tok fits s t g e. rw (e.0, e.1) behind.Valued.plain)

pub valued_plain : (d : Declarator) (tok : Tokens) (fits : Fits) (s : Spot) → (valued d).rel tok fits s (record { declarator = d; start = None }) s
unfolding valued made
valued_plain d tok fits s = behind.Valued.plain

unfoldable pub starts_parts : Declarator → Spot → Piece GlobalPart
starts_parts d s = passes (kind.Punct punct.Assign) (seq value (λ v. done (record { declarator = d; start = Some (record { equals = s.at; value = v }) })))

pub starts_from : (d : Declarator) (tok : Tokens) (fits : Fits) (s t : Spot) (g : GlobalPart) → (starts_parts d s).rel tok fits s g t → (valued d).rel tok fits s g t
unfolding starts_parts valued value made passes after seq done
starts_from d tok fits s t g r = rw (r.1.3.0, r.1.3.1) (behind.Valued.starts r.0 r.1.2)

unfoldable pub global_parts : Piece GlobalPart
global_parts = seq declares valued

pub global_from : (tok : Tokens) (fits : Fits) (s t : Spot) (g : GlobalPart) → global_parts.rel tok fits s g t → by.Global tok fits s t g
unfolding global_parts declares valued made seq
global_from tok fits s t g d = with_value tok fits d.2 d.3

unfoldable pub global : Piece GlobalPart
global = made by.Global (λ tok fits s t g h. global_firm s t g h) (λ _. global_parts) global_from

pub global_rel : (tok : Tokens) (fits : Fits) (s t : Spot) (g : GlobalPart) → global.rel tok fits s g t → by.Global tok fits s t g
unfolding global made
global_rel tok fits s t g d = d

-- ---- functions

unfoldable pub naming : TypeName → Piece ProtoParam
unfolding done
naming r = made (λ tok fits s t p. Naming tok fits r s t p) (λ tok fits s t p h. naming_firm s t p h) (λ _. done (record { ty = r; name = None })) (λ tok fits s t p e. rw (e.0, e.1) behind.Naming.nameless)

pub naming_none : (r : TypeName) (tok : Tokens) (fits : Fits) (s : Spot) → (naming r).rel tok fits s (record { ty = r; name = None }) s
unfolding naming made
naming_none r tok fits s = behind.Naming.nameless

unfoldable pub name_parts : TypeName → Spot → Piece ProtoParam
name_parts r s = passes kind.Name (done (record { ty = r; name = Some s.at }))

pub name_from : (r : TypeName) (tok : Tokens) (fits : Fits) (s t : Spot) (p : ProtoParam) → (name_parts r s).rel tok fits s p t → (naming r).rel tok fits s p t
unfolding name_parts naming made passes after done
name_from r tok fits s t p d = rw (d.1.0, d.1.1) (behind.Naming.named d.0)

unfoldable pub proto_parts : Piece ProtoParam
proto_parts = seq typed naming

pub proto_from : (tok : Tokens) (fits : Fits) (s t : Spot) (p : ProtoParam) → proto_parts.rel tok fits s p t → by.Prototyped tok fits s t p
unfolding proto_parts typed rule naming made seq
proto_from tok fits s t p d = with_naming tok fits d.2 d.3

unfoldable pub proto : Piece ProtoParam
proto = made by.Prototyped (λ tok fits s t p h. prototyped_firm s t p h) (λ _. proto_parts) proto_from

pub proto_rel : (tok : Tokens) (fits : Fits) (s t : Spot) (p : ProtoParam) → proto.rel tok fits s p t → by.Prototyped tok fits s t p
unfolding proto made
proto_rel tok fits s t p d = d

unfoldable pub proto_list : Piece (List ProtoParam)
proto_list = commas by.Prototyped (λ tok fits s t a h. prototyped_firm s t a h) proto proto_rel

unfoldable pub protos : Piece (List ProtoParam)
unfolding done
protos = made (λ tok fits s t l. by.Listed tok fits ProtoParam (by.Prototyped tok fits) s t l) (λ tok fits s t l h. listed_firm by.Prototyped prototyped_firm h) (λ _. done []) (λ tok fits s t l d. rw (d.0, d.1) by.none)

pub no_protos : (tok : Tokens) (fits : Fits) (s : Spot) → protos.rel tok fits s [] s
unfolding protos made
no_protos tok fits s = by.none

unfoldable pub void_parts : Piece (List ProtoParam)
void_parts = passes (kind.Key keyword.Void) (done [])

pub void_from : (tok : Tokens) (fits : Fits) (s t : Spot) (l : List ProtoParam) → void_parts.rel tok fits s l t → protos.rel tok fits s l t
unfolding void_parts protos made passes after done
void_from tok fits s t l d = rw (d.1.0, d.1.1) (by.void d.0)

pub some_from : (tok : Tokens) (fits : Fits) (s t : Spot) (l : List ProtoParam) → proto_list.rel tok fits s l t → protos.rel tok fits s l t
unfolding proto_list protos commas made
some_from tok fits s t l d = by.some d

unfoldable pub headed_parts : Spot → Piece (List ProtoParam)
headed_parts s = opens (kind.Punct punct.Open) (seq protos (λ l. shuts punct.Close s.level (done l)))

pub headed_from : (tok : Tokens) (fits : Fits) (s t : Spot) (l : List ProtoParam) → (headed_parts s).rel tok fits s l t → Headed tok fits s t l
unfolding headed_parts protos made seq opens shuts after done
headed_from tok fits s t l d = rw (d.1.3.1.0, d.1.3.1.1) (behind.headed d.0 d.1.2 d.1.3.0)

unfoldable pub headed : Piece (List ProtoParam)
headed = made Headed (λ tok fits s t l h. headed_firm s t l h) headed_parts headed_from

unfoldable pub prototype_parts : ResultType → ℕ → List ProtoParam → Piece Item
prototype_parts r x l = passes (kind.Punct punct.Semicolon) (done (an_item.Prototype r x l))

pub prototype_from : (r : ResultType) (x : ℕ) (l : List ProtoParam) (tok : Tokens) (fits : Fits) (s t : Spot) (i : Item) → (prototype_parts r x l).rel tok fits s i t → Ending tok fits r x l s t i
unfolding prototype_parts passes after done
prototype_from r x l tok fits s t i d = rw (d.1.0, d.1.1) (behind.Ending.prototype d.0)

unfoldable pub ending : ResultType → ℕ → List ProtoParam → Piece Item
ending r x l = made (λ tok fits s t i. Ending tok fits r x l s t i) (λ tok fits s t i h. ending_firm s t i h) (λ _. prototype_parts r x l) (prototype_from r x l)

unfoldable pub body_parts : ResultType → ℕ → List Param → Piece Item
body_parts r x q = seq block (λ b. done (an_item.Func (record { result = r; name = x; params = q; body = b })))

pub body_from : (r : ResultType) (x : ℕ) (l : List ProtoParam) (q : List Param) → with_names l ≡ Some q → (tok : Tokens) (fits : Fits) (s t : Spot) (i : Item) → (body_parts r x q).rel tok fits s i t → (ending r x l).rel tok fits s i t
unfolding body_parts ending block made seq done
body_from r x l q e tok fits s t i d = rw (d.3.0, d.3.1) (behind.Ending.function e d.2)

pub prototype_rel : (r : ResultType) (x : ℕ) (l : List ProtoParam) (tok : Tokens) (fits : Fits) (s : Spot) → Is tok fits punct.Semicolon s → (ending r x l).rel tok fits s (an_item.Prototype r x l) (passed s)
unfolding ending made
prototype_rel r x l tok fits s c = behind.Ending.prototype c

pub ending_rel : (r : ResultType) (x : ℕ) (l : List ProtoParam) (tok : Tokens) (fits : Fits) (s t : Spot) (i : Item) → Ending tok fits r x l s t i → (ending r x l).rel tok fits s i t
unfolding ending made
ending_rel r x l tok fits s t i d = d

-- behind the name of a function
unfoldable pub function_rest : ResultType → ℕ → Piece Item
function_rest r x = seq headed (λ l. ending r x l)

-- ---- items

unfoldable pub struct_rest : Option ℕ → Piece Item
struct_rest tag = seq fields (λ l. here (λ t. passes kind.Name (passes (kind.Punct punct.Semicolon) (done (an_item.Struct (a_def.Named tag l t.at))))))

pub tagged_from : (x : ℕ) (tok : Tokens) (fits : Fits) (s t : Spot) (i : Item) → (struct_rest (Some x)).rel tok fits s i t → Tagged tok fits x s t i
unfolding struct_rest fields made seq here passes after done
tagged_from x tok fits s t i d = rw (d.3.1.1.0, d.3.1.1.1) (behind.Tagged.struct d.2 d.3.0 d.3.1.0)

unfoldable pub tagged : ℕ → Piece Item
tagged x = made (λ tok fits s t i. Tagged tok fits x s t i) (λ tok fits s t i h. tagged_firm s t i h) (λ _. struct_rest (Some x)) (tagged_from x)

unfoldable pub alias_parts : ℕ → Spot → Piece Item
alias_parts x s = passes kind.Name (passes (kind.Punct punct.Semicolon) (done (an_item.Alias x s.at)))

pub alias_from : (x : ℕ) (tok : Tokens) (fits : Fits) (s t : Spot) (i : Item) → (alias_parts x s).rel tok fits s i t → (tagged x).rel tok fits s i t
unfolding alias_parts tagged made passes after done
alias_from x tok fits s t i d = rw (d.1.1.0, d.1.1.1) (behind.Tagged.alias d.0 d.1.0)

pub untagged_from : (tok : Tokens) (fits : Fits) (s t : Spot) (i : Item) → (struct_rest None).rel tok fits s i t → Types tok fits s t i
unfolding struct_rest fields made seq here passes after done
untagged_from tok fits s t i d = rw (d.3.1.1.0, d.3.1.1.1) (behind.Types.untagged d.2 d.3.0 d.3.1.0)

unfoldable pub types : Piece Item
types = made Types (λ tok fits s t i h. types_firm s t i h) (λ _. struct_rest None) untagged_from

unfoldable pub tag_parts : Spot → Piece Item
tag_parts s = passes kind.Name (tagged s.at)

pub tag_from : (tok : Tokens) (fits : Fits) (s t : Spot) (i : Item) → (tag_parts s).rel tok fits s i t → types.rel tok fits s i t
unfolding tag_parts tagged types made passes after
tag_from tok fits s t i d = behind.Types.tag d.0 d.1

unfoldable pub globals_rest : Base → Declarator → Piece Item
globals_rest b d = seq (valued d) (λ g. seq (commas_rest by.Global (λ tok fits s t a h. global_firm s t a h) (g ∷ [])) (λ l. passes (kind.Punct punct.Semicolon) (done (an_item.Globals b l))))

unfoldable pub globals_parts : ℕ → Base → ℕ → ℕ → Piece Item
globals_parts n b k x = seq (declarator_rest n k x) (globals_rest b)

pub globals_from : (n : ℕ) (b : Base) (k x : ℕ) (tok : Tokens) (fits : Fits) (s t : Spot) (i : Item) → (globals_parts n b k x).rel tok fits s i t → Behind tok fits n b k x s t i
unfolding globals_parts globals_rest declarator_rest lengths valued commas_rest goes made seq passes after left done
globals_from n b k x tok fits s t i d = let v = rw (d.2.3.0, d.2.3.1) at d.3.2 in rw (d.3.3.3.1.0, d.3.3.3.1.1) (behind.Behind.globals (with_lengths tok fits rs.none d.2.2) v d.3.3.2 d.3.3.3.0)

unfoldable pub after_name : ℕ → Base → ℕ → ℕ → Piece Item
after_name n b k x = made (λ tok fits s t i. Behind tok fits n b k x s t i) (λ tok fits s t i h. behind_firm s t i h) (λ _. globals_parts n b k x) (globals_from n b k x)

pub function_from : (n : ℕ) (b : Base) (k x : ℕ) (tok : Tokens) (fits : Fits) (s t : Spot) (i : Item) → (function_rest (returned.Value (record { base = b; stars = k })) x).rel tok fits s i t → (after_name n b k x).rel tok fits s i t
unfolding function_rest headed ending after_name made seq
function_from n b k x tok fits s t i d = behind.Behind.function d.2 d.3

unfoldable pub typed_parts : Piece Item
typed_parts = seq base (λ b. here (λ t. seq stars (λ k. here (λ u. passes kind.Name (after_name t.level b k u.at)))))

pub typed_from : (tok : Tokens) (fits : Fits) (s t : Spot) (i : Item) → typed_parts.rel tok fits s i t → by.ItemAt tok fits s t i
unfolding typed_parts base stars after_name here made seq passes after
typed_from tok fits s t i d = with_behind tok fits d.2 d.3.2 d.3.3.0 d.3.3.1

unfoldable pub item : Piece Item
item = made by.ItemAt (λ tok fits s t i h. item_firm s t i h) (λ _. typed_parts) typed_from

unfoldable pub typedef_parts : Piece Item
typedef_parts = passes (kind.Key keyword.Typedef) (passes (kind.Key keyword.Struct) types)

pub typedef_from : (tok : Tokens) (fits : Fits) (s t : Spot) (i : Item) → typedef_parts.rel tok fits s i t → item.rel tok fits s i t
unfolding typedef_parts types item made passes after
typedef_from tok fits s t i d = with_types tok fits d.0 d.1.0 d.1.1

unfoldable pub struct_parts : Spot → Piece Item
struct_parts s = passes (kind.Key keyword.Struct) (passes kind.Name (seq fields (λ l. passes (kind.Punct punct.Semicolon) (done (an_item.Struct (a_def.Tagged (suc s.at) l))))))

pub struct_from : (tok : Tokens) (fits : Fits) (s t : Spot) (i : Item) → (struct_parts s).rel tok fits s i t → item.rel tok fits s i t
unfolding struct_parts fields item made seq passes after done
struct_from tok fits s t i d = rw (d.1.1.3.1.0, d.1.1.3.1.1) (by.struct d.0 d.1.0 d.1.1.2 d.1.1.3.0)

unfoldable pub procedure_parts : Spot → Piece Item
procedure_parts s = passes (kind.Key keyword.Void) (passes kind.Name (function_rest returned.Void (suc s.at)))

pub procedure_from : (tok : Tokens) (fits : Fits) (s t : Spot) (i : Item) → (procedure_parts s).rel tok fits s i t → item.rel tok fits s i t
unfolding procedure_parts function_rest headed ending item made seq passes after
procedure_from tok fits s t i d = with_ending tok fits (by.void d.0) d.1.0 d.1.1.2 d.1.1.3

pub item_rel : (tok : Tokens) (fits : Fits) (s t : Spot) (i : Item) → item.rel tok fits s i t → by.ItemAt tok fits s t i
unfolding item made
item_rel tok fits s t i d = d

unfoldable pub items_rest : Piece (List Item)
items_rest = goes by.ItemAt (λ tok fits s t i h. item_firm s t i h) []

pub items_end : (tok : Tokens) (fits : Fits) (s t : Spot) (l : List Item) → items_rest.rel tok fits s l t → by.Items tok fits s t l
unfolding items_rest goes made
items_end tok fits s t l d = with_items tok fits by.none d

-- the items of a file; their completion is their end
unfoldable pub items : Piece (List Item)
items = made by.Items (λ tok fits s t l h. items_firm h) (λ _. items_rest) items_end
