-- What a file declares, and which declaration a name means (C11 6.2.1, 6.2.3). That functions are visible in the whole file, and that no
-- inner scope hides a typedef name, is this project's own.
use Rattle.std.specs.Prelude.{ℕ, zero, suc, ◌+◌, Bool, true, false, ◌||◌, nat_abs, List, [], ◌∷◌, ◌++◌, map, flat_map, length, find, position, nat_lt, bytes_eq, Option, Some, None, is_some, option_map, option_and_then, if◌then◌else◌}
use Rattle.cc_model.specs.declared.checked.Target.TheVariants as target
use Rattle.cc_model.specs.declared.trees.Base.{Base}
use Rattle.cc_model.specs.declared.trees.Base.TheVariants as base
use Rattle.cc_model.specs.declared.trees.TypeName.{TypeName}
use Rattle.cc_model.specs.declared.trees.ResultType.{ResultType}
use Rattle.cc_model.specs.declared.trees.ResultType.TheVariants as returned
use Rattle.cc_model.specs.declared.trees.Length.{Length}
use Rattle.cc_model.specs.declared.trees.Declarator.{Declarator}
use Rattle.cc_model.specs.declared.trees.Param.{Param}
use Rattle.cc_model.specs.declared.trees.ProtoParam.{ProtoParam}
use Rattle.cc_model.specs.declared.trees.Field as source_field
use Rattle.cc_model.specs.declared.trees.StructDef.TheVariants as struct
use Rattle.cc_model.specs.declared.trees.GlobalPart.{GlobalPart}
use Rattle.cc_model.specs.declared.trees.Item.{Item}
use Rattle.cc_model.specs.declared.trees.Item.TheVariants as item
use Rattle.cc_model.specs.Types.{BaseType, int_base, struct_base, CType, void_type, up_to_257, size_of}
pub use Rattle.cc_model.specs.declared.typing.Variable.{Variable}
pub use Rattle.cc_model.specs.declared.typing.Alias.{Alias}
pub use Rattle.cc_model.specs.declared.typing.Member.{Member}
pub use Rattle.cc_model.specs.declared.typing.Function.{Function}
pub use Rattle.cc_model.specs.declared.typing.Before.{Before}
pub use Rattle.cc_model.specs.declared.typing.File.{File}

-- the text of a name
abbrev pub Text : Type 0
Text = List ℕ

abbrev pub nothing_before : Before
nothing_before = record { aliases = []; structs = 0; globals = []; functions = []; bodies = [] }

-- what is visible at a place of a function: besides the file's scope, the variables of each scope around, the innermost scope last
pub record View : Type 0 where
  pub file : File
  pub before : Before
  pub scopes : List (List Variable)

-- ---- among declarations

abbrev pub has_name : Text → List Text → Bool
has_name name names = is_some (find (bytes_eq name) names)

abbrev pub variable_in : Text → List Variable → Option Variable
variable_in name variables = find (λ v. bytes_eq name v.name) variables

abbrev pub alias_in : Text → List Alias → Option Alias
alias_in name aliases = find (λ a. bytes_eq name a.name) aliases

abbrev pub has_tag : Text → Option Text → Bool
has_tag name None = false
has_tag name (Some tag) = bytes_eq name tag

-- the number of the struct of a tag: the first that is defined with it
abbrev pub tag_in : Text → List (Option Text) → Option ℕ
tag_in name tags = position (has_tag name) tags

abbrev pub field_in : Text → List Member → Option ℕ
field_in name fields = position (λ f. bytes_eq name f.name) fields

abbrev pub function_in : Text → List Function → Option ℕ
function_in name functions = position (λ f. bytes_eq name f.name) functions

abbrev pub is_alias : Before → Text → Bool
is_alias before name = is_some (alias_in name before.aliases)

-- a name that the file's scope has already
abbrev pub is_taken : Before → Text → Bool
is_taken before name = is_alias before name || (is_some (variable_in name before.globals) || has_name name before.functions)

-- ---- which declaration a name means: the innermost

abbrev pub or_else : {A : Type 0} → Option A → Option A → Option A
or_else None b = b
or_else (Some a) b = Some a

abbrev pub variable_in_scopes : Text → List (List Variable) → Option Variable
variable_in_scopes name [] = None
variable_in_scopes name (s ∷ l) = or_else (variable_in_scopes name l) (variable_in name s)

-- the variable that a name means
abbrev pub variable_named : View → Text → Option Variable
variable_named view name = or_else (variable_in_scopes name view.scopes) (variable_in name view.before.globals)

-- the number of the function that a name means; a local variable hides it
abbrev pub function_named : View → Text → Option ℕ
function_named view name = if is_some (variable_in_scopes name view.scopes) then None else function_in name view.file.functions

-- ---- sizes of structs: a field's struct is defined before it

abbrev pub size_if : List ℕ → Option CType → ℕ
size_if sizes None = 0
size_if sizes (Some t) = size_of sizes t

abbrev pub field_size : List ℕ → Member → ℕ
field_size sizes f = size_if sizes f.ty

abbrev pub fields_size : List ℕ → List Member → ℕ
fields_size sizes [] = 0
fields_size sizes (f ∷ l) = up_to_257 (field_size sizes f + fields_size sizes l)

abbrev pub sizes_after : List ℕ → List (List Member) → List ℕ
sizes_after sizes [] = sizes
sizes_after sizes (s ∷ l) = sizes_after (sizes ++ fields_size sizes s ∷ []) l

-- ---- types as they are written

module _ (text : ℕ → Text) where
  -- the tags of the structs that a file defines, in order; a struct may have none
  abbrev pub tags_of : List Item → List (Option Text)
  tags_of [] = []
  tags_of (item.Struct (struct.Tagged tag fields) ∷ l) = Some (text tag) ∷ tags_of l
  tags_of (item.Struct (struct.Named tag fields name) ∷ l) = option_map text tag ∷ tags_of l
  tags_of (_ ∷ l) = tags_of l

  module _ (tags : List (Option Text)) where
    -- a type's name: a tag that the file defines anywhere, or a typedef's name that stands before
    abbrev pub base_named : Before → Base → Option BaseType
    base_named before base.Int = Some int_base
    base_named before (base.Struct tag) = option_map struct_base (tag_in (text tag) tags)
    base_named before (base.Alias name) = option_and_then (λ a. option_map struct_base a.number) (alias_in (text name) before.aliases)

    abbrev pub with_parts : ℕ → List ℕ → BaseType → CType
    with_parts stars lengths b = record { base = b; stars = stars; lengths = lengths }

    -- the type that a name and stars say (6.7.7)
    abbrev pub type_named : Before → TypeName → Option CType
    type_named before t = option_map (with_parts t.stars []) (base_named before t.base)

    abbrev pub is_complete : Before → ℕ → BaseType → Bool
    is_complete before (suc n) b = true
    is_complete before zero (struct_base n) = nat_lt n before.structs
    is_complete before zero _ = true

    abbrev pub if_complete : Before → ℕ → BaseType → Option BaseType
    if_complete before stars b = if is_complete before stars b then Some b else None

    -- the type of an object: a struct has to be defined before it (6.7)
    abbrev pub object_type : Before → Base → ℕ → List ℕ → Option CType
    object_type before base stars lengths = option_map (with_parts stars lengths) (option_and_then (if_complete before stars) (base_named before base))

    abbrev pub length_of : Length → ℕ
    length_of l = nat_abs l.value

    abbrev pub declared_type : Before → Base → Declarator → Option CType
    declared_type before base d = object_type before base d.stars (map length_of d.lengths)

    abbrev pub result_type : Before → ResultType → Option CType
    result_type before returned.Void = Some void_type
    result_type before (returned.Value t) = type_named before t

    abbrev pub param_type : Before → TypeName → Option CType
    param_type before t = object_type before t.base t.stars []

    -- ---- what an item declares

    abbrev pub field_of : Before → Base → Declarator → Member
    field_of before base d = record { name = text d.name; ty = declared_type before base d }

    abbrev pub fields_of : Before → List source_field.Field → List Member
    fields_of before lines = flat_map (λ l. map (field_of before l.base) l.parts) lines

    abbrev pub with_alias : Before → Text → Option ℕ → Before
    with_alias b name number = record b { aliases = b.aliases ++ record { name = name; number = number } ∷ [] }

    -- the globals are numbered in order of declarator
    abbrev pub global_of : Before → Base → GlobalPart → Variable
    global_of b base p = record { name = text (p.declarator).name; ty = declared_type b base p.declarator; target = target.Global (length b.globals) }

    abbrev pub after_global : Before → Base → GlobalPart → Before
    after_global b base p = record b { globals = b.globals ++ global_of b base p ∷ [] }

    abbrev pub after_globals : Before → Base → List GlobalPart → Before
    after_globals b base [] = b
    after_globals b base (p ∷ l) = after_globals (after_global b base p) base l

    -- what stands before the next item
    abbrev pub after_item : Before → Item → Before
    after_item b (item.Alias tag name) = with_alias b (text name) (tag_in (text tag) tags)
    after_item b (item.Struct (struct.Tagged tag fields)) = record b { structs = suc b.structs }
    after_item b (item.Struct (struct.Named tag fields name)) = with_alias (record b { structs = suc b.structs }) (text name) (Some b.structs)
    after_item b (item.Globals base parts) = after_globals b base parts
    after_item b (item.Func f) = record b { functions = b.functions ++ text f.name ∷ []; bodies = b.bodies ++ text f.name ∷ [] }
    after_item b (item.Prototype result name params) = record b { functions = b.functions ++ text name ∷ [] }

    abbrev pub after_items : Before → List Item → Before
    after_items b [] = b
    after_items b (i ∷ l) = after_items (after_item b i) l

    -- the fields of the structs that items define
    abbrev pub structs_in : Before → List Item → List (List Member)
    structs_in b [] = []
    structs_in b (item.Struct (struct.Tagged tag fields) ∷ l) = fields_of b fields ∷ structs_in (after_item b (item.Struct (struct.Tagged tag fields))) l
    structs_in b (item.Struct (struct.Named tag fields name) ∷ l) = fields_of b fields ∷ structs_in (after_item b (item.Struct (struct.Named tag fields name))) l
    structs_in b (i ∷ l) = structs_in (after_item b i) l

    abbrev pub func_params : Before → List Param → List (Option CType)
    func_params b params = map (λ p. param_type b p.ty) params

    abbrev pub proto_params : Before → List ProtoParam → List (Option CType)
    proto_params b params = map (λ p. param_type b p.ty) params

    -- a function that an item declares first
    abbrev pub if_first : Before → Function → List Function → List Function
    if_first b f l = if has_name f.name b.functions then l else f ∷ l

    abbrev pub functions_in : Before → List Item → List Function
    functions_in b [] = []
    functions_in b (item.Func f ∷ l) =
        if_first b (record { name = text f.name; result = result_type b f.result; params = func_params b f.params }) (functions_in (after_item b (item.Func f)) l)
    functions_in b (item.Prototype result name params ∷ l) =
        if_first b (record { name = text name; result = result_type b result; params = proto_params b params }) (functions_in (after_item b (item.Prototype result name params)) l)
    functions_in b (i ∷ l) = functions_in (after_item b i) l

  -- the file that items are
  abbrev pub file_of : List Item → File
  file_of items = record {
    tags = tags_of items;
    structs = structs_in (tags_of items) nothing_before items;
    sizes = sizes_after [] (structs_in (tags_of items) nothing_before items);
    functions = functions_in (tags_of items) nothing_before items;
    bodies = (after_items (tags_of items) nothing_before items).bodies;
  }
