-- The descent for the items of a file.
use Rattle.std.specs.Prelude.{ℕ, suc, Bool, true, false, ℤ, List, [], ◌∷◌, Option, Some, None}
use Rattle.cc_model.specs.declared.tokens.Kind.{Kind}
use Rattle.cc_model.specs.declared.tokens.Kind.TheVariants as kind
use Rattle.cc_model.specs.declared.tokens.Punct.TheVariants as punct
use Rattle.cc_model.specs.declared.tokens.Keyword.TheVariants as keyword
use Rattle.cc_model.specs.declared.trees.Base.{Base}
use Rattle.cc_model.specs.declared.trees.TypeName.{TypeName}
use Rattle.cc_model.specs.declared.trees.ResultType.{ResultType}
use Rattle.cc_model.specs.declared.trees.ResultType.TheVariants as returned
use Rattle.cc_model.specs.declared.trees.Declarator.{Declarator}
use Rattle.cc_model.specs.declared.trees.Param.{Param}
use Rattle.cc_model.specs.declared.trees.ProtoParam.{ProtoParam}
use Rattle.cc_model.specs.declared.trees.Field.{Field}
use Rattle.cc_model.specs.declared.trees.StructDef.TheVariants as a_def
use Rattle.cc_model.specs.declared.trees.StartValue.{StartValue}
use Rattle.cc_model.specs.declared.trees.StartValue.TheVariants as a_value
use Rattle.cc_model.specs.declared.trees.GlobalPart.{GlobalPart}
use Rattle.cc_model.specs.declared.trees.Item.{Item}
use Rattle.cc_model.specs.declared.trees.Item.TheVariants as an_item
use Rattle.cc_model.specs.Spots.{opened, passed}
use Rattle.c_expressions.specs.Descent.{P, ◌>>=◌, ◌>>◌, pure, wrong, is_sign, is_key, is_name}
use Rattle.c_expressions.specs.Descent as of
use Rattle.c_statements.specs.DescentStatements.{here, branch, given, number_at}
use Rattle.c_statements.specs.DescentStatements as stmts

-- the parameters of a function, where each has a name
unfoldable pub add_named : TypeName → Option ℕ → Option (List Param) → Option (List Param)
add_named r (Some x) (Some l) = Some (record { ty = r; name = x } ∷ l)
add_named r (Some x) None = None
add_named r None l = None

unfoldable pub with_names : List ProtoParam → Option (List Param)
with_names [] = Some []
with_names (p ∷ l) = add_named p.ty p.name (with_names l)

-- what begins an item
pub data ItemStart : Type 0 where
  a_typedef : ItemStart
  a_struct : ItemStart
  a_void : ItemStart
  a_typed : ItemStart

unfoldable pub struct_or : Bool → ItemStart
struct_or true = a_struct
struct_or false = a_typed

-- by the first and the third token
unfoldable pub item_at : Option Kind → Option Kind → ItemStart
item_at (Some (kind.Key keyword.Typedef)) k = a_typedef
item_at (Some (kind.Key keyword.Struct)) k = struct_or (is_sign punct.OpenBrace k)
item_at (Some (kind.Key keyword.Void)) k = a_void
item_at _ k = a_typed

unfoldable pub is_end : Option Kind → Bool
is_end None = true
is_end (Some k) = false

module _ (tok : ℕ → Option Kind) (fits : ℕ → ℕ → Bool) where
  -- ---- structs

  unfoldable pub field_line : ℕ → P Field
  field_line n = of.base_type tok fits >>= λ b. stmts.commas tok fits (stmts.declarator tok fits) n >>= λ l.
      of.expect tok fits punct.Semicolon passed >> pure (record { base = b; parts = l })

  unfoldable pub field_lines : ℕ → P (List Field)
  field_lines n = field_line n >>= λ f. stmts.many tok fits (stmts.has tok fits punct.CloseBrace) field_line n (f ∷ [])

  unfoldable pub fields : ℕ → P (List Field)
  fields n = here (λ s. of.expect tok fits punct.OpenBrace opened >> (field_lines n >>= λ l. of.close tok fits punct.CloseBrace s.level >> pure l))

  -- ---- globals

  unfoldable pub number_value : ℤ → P StartValue
  number_value z = here (λ s. of.take tok fits passed >> pure (a_value.Number s.at z))

  unfoldable pub negative_value : P StartValue
  negative_value = here (λ s. of.take tok fits passed >> here (λ t. stmts.expect_number tok fits >>= λ z. pure (a_value.Negative s.at t.at z)))

  unfoldable pub null_value : P StartValue
  null_value = here (λ s. of.expect_key tok fits keyword.Null >> pure (a_value.Null s.at))

  unfoldable pub start_value : ℕ → P StartValue
  start_value n = given (λ s. number_at (tok s.at)) number_value (branch (stmts.has tok fits punct.Dash) negative_value null_value)

  unfoldable pub global_from : ℕ → Declarator → P GlobalPart
  global_from n d = branch (stmts.has tok fits punct.Assign)
      (here (λ t. of.take tok fits passed >> (start_value n >>= λ v. pure (record { declarator = d; start = Some (record { equals = t.at; value = v }) }))))
      (pure (record { declarator = d; start = None }))

  unfoldable pub global : ℕ → P GlobalPart
  global n = stmts.declarator tok fits n >>= λ d. global_from n d

  -- behind the first declarator of globals
  unfoldable pub globals_from : ℕ → Base → Declarator → P Item
  globals_from n b d = global_from n d >>= λ g. stmts.commas_more tok fits global n (g ∷ []) >>= λ l.
      of.expect tok fits punct.Semicolon passed >> pure (an_item.Globals b l)

  -- ---- functions

  unfoldable pub proto : ℕ → P ProtoParam
  proto n = of.type_name tok fits n >>= λ r. branch (λ s. is_name (tok s.at))
      (here (λ t. of.take tok fits passed >> pure (record { ty = r; name = Some t.at })))
      (pure (record { ty = r; name = None }))

  unfoldable pub void_protos : P (List ProtoParam)
  void_protos = of.take tok fits passed >> pure []

  unfoldable pub protos : ℕ → P (List ProtoParam)
  protos n = branch (stmts.has tok fits punct.Close) (pure [])
      (branch (λ s. is_key keyword.Void (tok s.at)) void_protos (stmts.commas tok fits proto n))

  unfoldable pub heading : ℕ → P (List ProtoParam)
  heading n = here (λ s. of.expect tok fits punct.Open opened >> (protos n >>= λ l. of.close tok fits punct.Close s.level >> pure l))

  -- the body of the function x, whose parameters must have names
  unfoldable pub bodied : ℕ → ResultType → ℕ → List ProtoParam → P Item
  bodied n r x l = given (λ _. with_names l) (λ q. stmts.block tok fits n >>= λ b. pure (an_item.Func (record { result = r; name = x; params = q; body = b }))) wrong

  -- a block or a `;` behind the parameters l of the function x
  unfoldable pub ending : ℕ → ResultType → ℕ → List ProtoParam → P Item
  ending n r x l = branch (stmts.has tok fits punct.OpenBrace) (bodied n r x l) (of.expect tok fits punct.Semicolon passed >> pure (an_item.Prototype r x l))

  unfoldable pub function_from : ℕ → ResultType → ℕ → P Item
  function_from n r x = heading n >>= λ l. ending n r x l

  -- ---- items

  unfoldable pub alias : ℕ → P Item
  alias x = here (λ t. of.take tok fits passed >> of.expect tok fits punct.Semicolon passed >> pure (an_item.Alias x t.at))

  unfoldable pub struct_type : ℕ → Option ℕ → P Item
  struct_type n tag = fields n >>= λ l. here (λ t. of.expect_name tok fits >> of.expect tok fits punct.Semicolon passed >> pure (an_item.Struct (a_def.Named tag l t.at)))

  unfoldable pub tagged : ℕ → P Item
  tagged n = here (λ s. of.take tok fits passed >> branch (λ t. is_name (tok t.at)) (alias s.at) (struct_type n (Some s.at)))

  unfoldable pub typedef : ℕ → P Item
  typedef n = of.take tok fits passed >> of.expect_key tok fits keyword.Struct >> branch (λ s. is_name (tok s.at)) (tagged n) (struct_type n None)

  unfoldable pub struct_def : ℕ → P Item
  struct_def n = of.take tok fits passed >> here (λ t. of.expect_name tok fits >> (fields n >>= λ l.
      of.expect tok fits punct.Semicolon passed >> pure (an_item.Struct (a_def.Tagged t.at l))))

  unfoldable pub procedure : ℕ → P Item
  procedure n = of.take tok fits passed >> here (λ t. of.expect_name tok fits >> function_from n returned.Void t.at)

  -- globals behind the stars and the name of the first one
  unfoldable pub globals_named : ℕ → ℕ → Base → ℕ → ℕ → P Item
  globals_named n level b k x = stmts.declarator_from tok fits n level k x >>= λ d. globals_from n b d

  -- a function with a result, or globals: behind their type b
  unfoldable pub typed_from : ℕ → Base → P Item
  typed_from n b = here (λ s. of.stars tok fits n >>= λ k. here (λ t. of.expect_name tok fits >> branch (stmts.has tok fits punct.Open)
      (function_from n (returned.Value (record { base = b; stars = k })) t.at) (globals_named n s.level b k t.at)))

  unfoldable pub item_of : ℕ → ItemStart → P Item
  item_of n a_typedef = typedef n
  item_of n a_struct = struct_def n
  item_of n a_void = procedure n
  item_of n a_typed = of.base_type tok fits >>= λ b. typed_from n b

  unfoldable pub item : ℕ → P Item
  item n = here (λ s. item_of n (item_at (tok s.at) (tok (suc (suc s.at)))))

  unfoldable pub items : ℕ → P (List Item)
  items n = stmts.many tok fits (λ s. is_end (tok s.at)) item n []
