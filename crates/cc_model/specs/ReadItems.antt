-- How tokens read as the items of a file: one case for each alternative of the grammar (C11 6.7 and 6.9).
-- Each of them ends at the level at which it begins.
use Rattle.std.specs.Prelude.{ℕ, suc, Bool, ℤ, List, [], ◌∷◌, ◌++◌, Option, Some, None}
use Rattle.cc_model.specs.declared.tokens.Kind.{Kind}
use Rattle.cc_model.specs.declared.tokens.Kind.TheVariants as kind
use Rattle.cc_model.specs.declared.tokens.Punct.TheVariants as punct
use Rattle.cc_model.specs.declared.tokens.Keyword.TheVariants as keyword
use Rattle.cc_model.specs.declared.trees.Base.{Base}
use Rattle.cc_model.specs.declared.trees.TypeName.{TypeName}
use Rattle.cc_model.specs.declared.trees.ResultType.{ResultType}
use Rattle.cc_model.specs.declared.trees.ResultType.TheVariants as a_returned
use Rattle.cc_model.specs.declared.trees.Declarator.{Declarator}
use Rattle.cc_model.specs.declared.trees.Param.{Param}
use Rattle.cc_model.specs.declared.trees.ProtoParam.{ProtoParam}
use Rattle.cc_model.specs.declared.trees.Field.{Field}
use Rattle.cc_model.specs.declared.trees.StructDef.TheVariants as a_struct
use Rattle.cc_model.specs.declared.trees.StartValue.{StartValue}
use Rattle.cc_model.specs.declared.trees.StartValue.TheVariants as a_value
use Rattle.cc_model.specs.declared.trees.GlobalPart.{GlobalPart}
use Rattle.cc_model.specs.declared.trees.Part.{Part}
use Rattle.cc_model.specs.declared.trees.Item.{Item}
use Rattle.cc_model.specs.declared.trees.Item.TheVariants as a_item
use Rattle.cc_model.specs.Spots.{Spot, opened, passed, back, closed, Next, Is, IsKey, IsName}
use Rattle.cc_model.specs.ReadTypes.{BaseType, Typed}
use Rattle.cc_model.specs.ReadStatements.{Commas, Declares, Block}

module _ (tok : ℕ → Option Kind) (fits : ℕ → ℕ → Bool) where
  -- field: type declarator,+ ';' (C11 6.7.2.1)
  pub data FieldLine : Spot → Spot → Field → Type 0 where
    line : {s t u : Spot} {b : Base} {l : List Declarator} → BaseType tok fits s t b → Commas tok fits Declarator (Declares tok fits) t u l →
        Is tok fits punct.Semicolon u → FieldLine s (passed u) (record { base = b; parts = l })

  -- field field*
  pub data FieldLines : Spot → Spot → List Field → Type 0 where
    first : {s t : Spot} {f : Field} → FieldLine s t f → FieldLines s t (f ∷ [])
    next : {s t u : Spot} {l : List Field} {f : Field} → FieldLines s t l → FieldLine t u f → FieldLines s u (l ++ f ∷ [])

  -- '{' field field* '}'
  pub data Fields : Spot → Spot → List Field → Type 0 where
    braces : {s t : Spot} {l : List Field} → Is tok fits punct.OpenBrace s → FieldLines (opened s) t l →
        Is tok fits punct.CloseBrace (back t s.level) → Fields s (closed t s.level) l

  -- ['-'] NUMBER | 'NULL'; this `-` is no operator and stays open nowhere
  pub data Start : Spot → Spot → StartValue → Type 0 where
    number : {s : Spot} (z : ℤ) → Next tok fits (kind.Number z) s → Start s (passed s) (a_value.Number s.at z)
    negative : {s : Spot} (z : ℤ) → Is tok fits punct.Dash s → Next tok fits (kind.Number z) (passed s) →
        Start s (passed (passed s)) (a_value.Negative s.at (suc s.at) z)
    null : {s : Spot} → IsKey tok fits keyword.Null s → Start s (passed s) (a_value.Null s.at)

  -- gdecl: declarator ['=' (['-'] NUMBER | 'NULL')] (C11 6.7.9)
  pub data Global : Spot → Spot → GlobalPart → Type 0 where
    plain : {s t : Spot} {d : Declarator} → Declares tok fits s t d → Global s t (record { declarator = d; start = None })
    starts : {s t u : Spot} {d : Declarator} {v : StartValue} → Declares tok fits s t d → Is tok fits punct.Assign t → Start (passed t) u v →
        Global s u (record { declarator = d; start = Some (record { equals = t.at; value = v }) })

  -- rtype: 'void' | type '*'* (C11 6.7.6.3)
  pub data Returns : Spot → Spot → ResultType → Type 0 where
    void : {s : Spot} → IsKey tok fits keyword.Void s → Returns s (passed s) a_returned.Void
    value : {s t : Spot} {r : TypeName} → Typed tok fits s t r → Returns s t (a_returned.Value r)

  -- type '*'* NAME
  pub data Parameter : Spot → Spot → Param → Type 0 where
    named : {s t : Spot} {r : TypeName} → Typed tok fits s t r → IsName tok fits t → Parameter s (passed t) (record { ty = r; name = t.at })

  -- type '*'* [NAME]
  pub data Prototyped : Spot → Spot → ProtoParam → Type 0 where
    nameless : {s t : Spot} {r : TypeName} → Typed tok fits s t r → Prototyped s t (record { ty = r; name = None })
    named : {s t : Spot} {r : TypeName} → Typed tok fits s t r → IsName tok fits t → Prototyped s (passed t) (record { ty = r; name = Some t.at })

  -- [ 'void' | x,+ ] (C11 6.7.6.3)
  pub data Listed (A : Type 0) (R : Spot → Spot → A → Type 0) : Spot → Spot → List A → Type 0 where
    none : {s : Spot} → Listed A R s s []
    void : {s : Spot} → IsKey tok fits keyword.Void s → Listed A R s (passed s) []
    some : {s t : Spot} {l : List A} → Commas tok fits A R s t l → Listed A R s t l

  -- NAME '(' [ 'void' | x,+ ] ')', the name being the next token
  pub data Heading (A : Type 0) (R : Spot → Spot → A → Type 0) : Spot → Spot → List A → Type 0 where
    heading : {s t : Spot} {l : List A} → IsName tok fits s → Is tok fits punct.Open (passed s) → Listed A R (opened (passed s)) t l →
        Is tok fits punct.Close (back t s.level) → Heading A R s (closed t s.level) l

  -- item (C11 6.9)
  pub data ItemAt : Spot → Spot → Item → Type 0 where
    -- 'typedef' 'struct' NAME NAME ';' (C11 6.7.8)
    alias : {s : Spot} → IsKey tok fits keyword.Typedef s → IsKey tok fits keyword.Struct (passed s) → IsName tok fits (passed (passed s)) →
        IsName tok fits (passed (passed (passed s))) → Is tok fits punct.Semicolon (passed (passed (passed (passed s)))) →
        ItemAt s (passed (passed (passed (passed (passed s))))) (a_item.Alias (suc (suc s.at)) (suc (suc (suc s.at))))
    -- 'typedef' 'struct' [NAME] '{' field field* '}' NAME ';'
    untagged : {s t : Spot} {l : List Field} → IsKey tok fits keyword.Typedef s → IsKey tok fits keyword.Struct (passed s) →
        Fields (passed (passed s)) t l → IsName tok fits t → Is tok fits punct.Semicolon (passed t) →
        ItemAt s (passed (passed t)) (a_item.Struct (a_struct.Named None l t.at))
    tagged : {s t : Spot} {l : List Field} → IsKey tok fits keyword.Typedef s → IsKey tok fits keyword.Struct (passed s) → IsName tok fits (passed (passed s)) →
        Fields (passed (passed (passed s))) t l → IsName tok fits t → Is tok fits punct.Semicolon (passed t) →
        ItemAt s (passed (passed t)) (a_item.Struct (a_struct.Named (Some (suc (suc s.at))) l t.at))
    -- 'struct' NAME '{' field field* '}' ';' (C11 6.7.2.1)
    struct : {s t : Spot} {l : List Field} → IsKey tok fits keyword.Struct s → IsName tok fits (passed s) → Fields (passed (passed s)) t l →
        Is tok fits punct.Semicolon t → ItemAt s (passed t) (a_item.Struct (a_struct.Tagged (suc s.at) l))
    -- type gdecl,+ ';' (C11 6.9.2)
    globals : {s t u : Spot} {b : Base} {l : List GlobalPart} → BaseType tok fits s t b → Commas tok fits GlobalPart Global t u l →
        Is tok fits punct.Semicolon u → ItemAt s (passed u) (a_item.Globals b l)
    -- rtype NAME '(' params ')' block (C11 6.9.1)
    function : {s t u v : Spot} {r : ResultType} {l : List Param} {b : List Part} → Returns s t r → Heading Param Parameter t u l →
        Block tok fits u v b → ItemAt s v (a_item.Func (record { result = r; name = t.at; params = l; body = b }))
    -- rtype NAME '(' protos ')' ';' (C11 6.7.6.3)
    prototype : {s t u : Spot} {r : ResultType} {l : List ProtoParam} → Returns s t r → Heading ProtoParam Prototyped t u l →
        Is tok fits punct.Semicolon u → ItemAt s (passed u) (a_item.Prototype r t.at l)

  -- program: item* (C11 6.9)
  pub data Items : Spot → Spot → List Item → Type 0 where
    none : {s : Spot} → Items s s []
    more : {s t u : Spot} {l : List Item} {i : Item} → Items s t l → ItemAt t u i → Items s u (l ++ i ∷ [])
