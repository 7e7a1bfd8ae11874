-- The same for the items of a file.
use Rattle.std.proofs.Common.{◌≡◌, ℕ, List, [], ◌∷◌, Some, None}
use Rattle.cc_model.specs.declared.tokens.Punct.TheVariants as punct
use Rattle.cc_model.specs.declared.tokens.Keyword.TheVariants as keyword
use Rattle.cc_model.specs.declared.trees.Base.{Base}
use Rattle.cc_model.specs.declared.trees.TypeName.{TypeName}
use Rattle.cc_model.specs.declared.trees.ResultType.{ResultType}
use Rattle.cc_model.specs.declared.trees.ResultType.TheVariants as a_returned
use Rattle.cc_model.specs.declared.trees.Length.{Length}
use Rattle.cc_model.specs.declared.trees.Declarator.{Declarator}
use Rattle.cc_model.specs.declared.trees.Param.{Param}
use Rattle.cc_model.specs.declared.trees.ProtoParam.{ProtoParam}
use Rattle.cc_model.specs.declared.trees.Field.{Field}
use Rattle.cc_model.specs.declared.trees.StructDef.TheVariants as a_struct
use Rattle.cc_model.specs.declared.trees.StartValue.{StartValue}
use Rattle.cc_model.specs.declared.trees.GlobalPart.{GlobalPart}
use Rattle.cc_model.specs.declared.trees.Part.{Part}
use Rattle.cc_model.specs.declared.trees.Item.{Item}
use Rattle.cc_model.specs.declared.trees.Item.TheVariants as a_item
use Rattle.cc_model.specs.Spots.{Spot, opened, passed, back, closed, Is, IsKey, IsName}
use Rattle.cc_model.specs.ReadTypes.{BaseType, Stars, Typed, typed}
use Rattle.cc_model.specs.ReadStatements as rs
use Rattle.cc_model.specs.ReadItems as by
use Rattle.c_parse.specs.DescentItems.{with_names}
use Rattle.c_parse.proofs.ItemLaws.{heading_params}
use Rattle.c_expressions.proofs.Viable.{Tokens, Fits}
use Rattle.c_parse.proofs.Firm.{Firm, firm_none, firm_next, firm_map, firm2, firm3, firm4, firm5, firm6, base_firm, typed_firm}
use Rattle.c_parse.proofs.FirmStatements.{Goes, stop, go, Comma, goes_firm, comma_firm, commas_firm, lengths_firm, declares_firm, block_firm, with_commas}

module _ (tok : Tokens) (fits : Fits) where
  -- behind the declarator d of a global
  pub data Valued (d : Declarator) : Spot → Spot → GlobalPart → Type 0 where
    plain : {s : Spot} → Valued d s s (record { declarator = d; start = None })
    starts : {s t : Spot} {v : StartValue} → Is tok fits punct.Assign s → by.Start tok fits (passed s) t v →
        Valued d s t (record { declarator = d; start = Some (record { equals = s.at; value = v }) })

  -- behind the type r of a prototype's parameter
  pub data Naming (r : TypeName) : Spot → Spot → ProtoParam → Type 0 where
    nameless : {s : Spot} → Naming r s s (record { ty = r; name = None })
    named : {s : Spot} → IsName tok fits s → Naming r s (passed s) (record { ty = r; name = Some s.at })

  -- '(' [ 'void' | x,+ ] ')'
  pub data Headed : Spot → Spot → List ProtoParam → Type 0 where
    headed : {s t : Spot} {l : List ProtoParam} → Is tok fits punct.Open s → by.Listed tok fits ProtoParam (by.Prototyped tok fits) (opened s) t l →
        Is tok fits punct.Close (back t s.level) → Headed s (closed t s.level) l

  -- behind the heading of the function x
  pub data Ending (r : ResultType) (x : ℕ) (l : List ProtoParam) : Spot → Spot → Item → Type 0 where
    prototype : {s : Spot} → Is tok fits punct.Semicolon s → Ending r x l s (passed s) (a_item.Prototype r x l)
    function : {s t : Spot} {q : List Param} {b : List Part} → with_names l ≡ Some q → rs.Block tok fits s t b →
        Ending r x l s t (a_item.Func (record { result = r; name = x; params = q; body = b }))

  -- behind 'typedef' 'struct' and the name x
  pub data Tagged (x : ℕ) : Spot → Spot → Item → Type 0 where
    alias : {s : Spot} → IsName tok fits s → Is tok fits punct.Semicolon (passed s) → Tagged x s (passed (passed s)) (a_item.Alias x s.at)
    struct : {s t : Spot} {l : List Field} → by.Fields tok fits s t l → IsName tok fits t → Is tok fits punct.Semicolon (passed t) →
        Tagged x s (passed (passed t)) (a_item.Struct (a_struct.Named (Some x) l t.at))

  -- behind 'typedef' 'struct'
  pub data Types : Spot → Spot → Item → Type 0 where
    tag : {s t : Spot} {i : Item} → IsName tok fits s → Tagged s.at (passed s) t i → Types s t i
    untagged : {s t : Spot} {l : List Field} → by.Fields tok fits s t l → IsName tok fits t → Is tok fits punct.Semicolon (passed t) →
        Types s (passed (passed t)) (a_item.Struct (a_struct.Named None l t.at))

  -- behind the type b, k stars and the name x, where n tokens are open behind a declarator
  pub data Behind (n : ℕ) (b : Base) (k x : ℕ) : Spot → Spot → Item → Type 0 where
    function : {s t u : Spot} {l : List ProtoParam} {i : Item} → Headed s t l → Ending (a_returned.Value (record { base = b; stars = k })) x l t u i → Behind n b k x s u i
    globals : {s t u v : Spot} {l : List Length} {g : GlobalPart} {m : List GlobalPart} → rs.Lengths tok fits s t l →
        Valued (record { stars = k; name = x; lengths = l }) (back t n) u g → Goes GlobalPart (Comma by.Global tok fits) (g ∷ []) u v m →
        Is tok fits punct.Semicolon v → Behind n b k x s (passed v) (a_item.Globals b m)

  pub with_value : {s t u : Spot} {d : Declarator} {g : GlobalPart} → rs.Declares tok fits s t d → Valued d t u g → by.Global tok fits s u g
  with_value h plain = by.plain h
  with_value h (starts i v) = by.starts h i v

  pub with_naming : {s t u : Spot} {r : TypeName} {p : ProtoParam} → Typed tok fits s t r → Naming r t u p → by.Prototyped tok fits s u p
  with_naming d nameless = by.nameless d
  with_naming d (named i) = by.named d i

  pub with_heading : {s t : Spot} {l : List ProtoParam} → IsName tok fits s → Headed (passed s) t l → by.Heading tok fits ProtoParam (by.Prototyped tok fits) s t l
  with_heading i (headed o d c) = by.heading i o d c

  pub with_ending : {s t u v : Spot} {r : ResultType} {l : List ProtoParam} {i : Item} → by.Returns tok fits s t r → IsName tok fits t → Headed (passed t) u l →
      Ending r t.at l u v i → by.ItemAt tok fits s v i
  with_ending d i h (prototype c) = by.prototype d (with_heading i h) c
  with_ending d i h (function {q = q} e b) = by.function d (heading_params tok fits q (with_heading i h) e) b

  pub with_types : {s t : Spot} {i : Item} → IsKey tok fits keyword.Typedef s → IsKey tok fits keyword.Struct (passed s) → Types (passed (passed s)) t i → by.ItemAt tok fits s t i
  with_types i j (tag n (alias m c)) = by.alias i j n m c
  with_types i j (tag n (struct h m c)) = by.tagged i j n h m c
  with_types i j (untagged h n c) = by.untagged i j h n c

  pub with_behind : {s t u v : Spot} {b : Base} {k : ℕ} {i : Item} → BaseType tok fits s t b → Stars tok fits t u k → IsName tok fits u →
      Behind t.level b k u.at (passed u) v i → by.ItemAt tok fits s v i
  with_behind d e i (function h n) = with_ending (by.value (typed d e)) i h n
  with_behind d e i (globals l v g c) = by.globals d (with_commas tok fits by.Global (rs.first (with_value (rs.declares e i l) v)) g) c

  pub with_lines : {s t u : Spot} {l m : List Field} → by.FieldLines tok fits s t l → Goes Field (by.FieldLine tok fits) l t u m → by.FieldLines tok fits s u m
  with_lines d stop = d
  with_lines d (go x k) = with_lines (by.next d x) k

  pub with_items : {s t u : Spot} {l m : List Item} → by.Items tok fits s t l → Goes Item (by.ItemAt tok fits) l t u m → by.Items tok fits s u m
  with_items d stop = d
  with_items d (go x k) = with_items (by.more d x) k

module _ {tok : Tokens} {fits : Fits} where
  pub line_firm : (s t : Spot) (f : Field) → by.FieldLine tok fits s t f → Firm tok fits s.at t.at (λ tok' fits'. by.FieldLine tok' fits' s t f)
  line_firm _ _ _ (by.line d l i) = firm3 (base_firm d) (commas_firm rs.Declares declares_firm l) (firm_next i) (λ tok' fits' d l i. by.line d l i)

  pub lines_firm : {s t : Spot} {l : List Field} → by.FieldLines tok fits s t l → Firm tok fits s.at t.at (λ tok' fits'. by.FieldLines tok' fits' s t l)
  lines_firm (by.first {s} {t} {f} d) = firm_map (line_firm s t f d) (λ tok' fits' d. by.first d)
  lines_firm (by.next {s} {t} {u} {l} {f} d e) = firm2 (lines_firm d) (line_firm t u f e) (λ tok' fits' d e. by.next d e)

  pub fields_firm : {s t : Spot} {l : List Field} → by.Fields tok fits s t l → Firm tok fits s.at t.at (λ tok' fits'. by.Fields tok' fits' s t l)
  fields_firm (by.braces i d c) = firm3 (firm_next i) (lines_firm d) (firm_next c) (λ tok' fits' i d c. by.braces i d c)

  pub start_firm : {s t : Spot} {v : StartValue} → by.Start tok fits s t v → Firm tok fits s.at t.at (λ tok' fits'. by.Start tok' fits' s t v)
  start_firm (by.number z i) = firm_map (firm_next i) (λ tok' fits' i. by.number z i)
  start_firm (by.negative z i j) = firm2 (firm_next i) (firm_next j) (λ tok' fits' i j. by.negative z i j)
  start_firm (by.null i) = firm_map (firm_next i) (λ tok' fits' i. by.null i)

  pub global_firm : (s t : Spot) (g : GlobalPart) → by.Global tok fits s t g → Firm tok fits s.at t.at (λ tok' fits'. by.Global tok' fits' s t g)
  global_firm s t _ (by.plain {d = d} h) = firm_map (declares_firm s t d h) (λ tok' fits' h. by.plain h)
  global_firm _ _ _ (by.starts {s} {t} {u} {d} h i e) = firm3 (declares_firm s t d h) (firm_next i) (start_firm e) (λ tok' fits' h i e. by.starts h i e)

  pub returns_firm : {s t : Spot} {r : ResultType} → by.Returns tok fits s t r → Firm tok fits s.at t.at (λ tok' fits'. by.Returns tok' fits' s t r)
  returns_firm (by.void i) = firm_map (firm_next i) (λ tok' fits' i. by.void i)
  returns_firm (by.value d) = firm_map (typed_firm d) (λ tok' fits' d. by.value d)

  pub parameter_firm : (s t : Spot) (p : Param) → by.Parameter tok fits s t p → Firm tok fits s.at t.at (λ tok' fits'. by.Parameter tok' fits' s t p)
  parameter_firm _ _ _ (by.named d i) = firm2 (typed_firm d) (firm_next i) (λ tok' fits' d i. by.named d i)

  pub prototyped_firm : (s t : Spot) (p : ProtoParam) → by.Prototyped tok fits s t p → Firm tok fits s.at t.at (λ tok' fits'. by.Prototyped tok' fits' s t p)
  prototyped_firm _ _ _ (by.nameless d) = firm_map (typed_firm d) (λ tok' fits' d. by.nameless d)
  prototyped_firm _ _ _ (by.named d i) = firm2 (typed_firm d) (firm_next i) (λ tok' fits' d i. by.named d i)

  pub listed_firm : {A : Type 0} (R : Tokens → Fits → Spot → Spot → A → Type 0) →
      ((s t : Spot) (a : A) → R tok fits s t a → Firm tok fits s.at t.at (λ tok' fits'. R tok' fits' s t a)) →
      {s t : Spot} {l : List A} → by.Listed tok fits A (R tok fits) s t l → Firm tok fits s.at t.at (λ tok' fits'. by.Listed tok' fits' A (R tok' fits') s t l)
  listed_firm R f by.none = firm_none (λ tok' fits'. by.none)
  listed_firm R f (by.void i) = firm_map (firm_next i) (λ tok' fits' i. by.void i)
  listed_firm R f (by.some d) = firm_map (commas_firm R f d) (λ tok' fits' d. by.some d)

  pub heading_firm : {A : Type 0} (R : Tokens → Fits → Spot → Spot → A → Type 0) →
      ((s t : Spot) (a : A) → R tok fits s t a → Firm tok fits s.at t.at (λ tok' fits'. R tok' fits' s t a)) →
      {s t : Spot} {l : List A} → by.Heading tok fits A (R tok fits) s t l → Firm tok fits s.at t.at (λ tok' fits'. by.Heading tok' fits' A (R tok' fits') s t l)
  heading_firm R f (by.heading i o d c) = firm4 (firm_next i) (firm_next o) (listed_firm R f d) (firm_next c) (λ tok' fits' i o d c. by.heading i o d c)

  pub valued_firm : {d : Declarator} (s t : Spot) (g : GlobalPart) → Valued tok fits d s t g → Firm tok fits s.at t.at (λ tok' fits'. Valued tok' fits' d s t g)
  valued_firm _ _ _ plain = firm_none (λ tok' fits'. plain)
  valued_firm _ _ _ (starts i v) = firm2 (firm_next i) (start_firm v) (λ tok' fits' i v. starts i v)

  pub naming_firm : {r : TypeName} (s t : Spot) (p : ProtoParam) → Naming tok fits r s t p → Firm tok fits s.at t.at (λ tok' fits'. Naming tok' fits' r s t p)
  naming_firm _ _ _ nameless = firm_none (λ tok' fits'. nameless)
  naming_firm _ _ _ (named i) = firm_map (firm_next i) (λ tok' fits' i. named i)

  pub headed_firm : (s t : Spot) (l : List ProtoParam) → Headed tok fits s t l → Firm tok fits s.at t.at (λ tok' fits'. Headed tok' fits' s t l)
  headed_firm _ _ _ (headed o d c) = firm3 (firm_next o) (listed_firm by.Prototyped prototyped_firm d) (firm_next c) (λ tok' fits' o d c. headed o d c)

  pub ending_firm : {r : ResultType} {x : ℕ} {l : List ProtoParam} (s t : Spot) (i : Item) → Ending tok fits r x l s t i → Firm tok fits s.at t.at (λ tok' fits'. Ending tok' fits' r x l s t i)
  ending_firm _ _ _ (prototype c) = firm_map (firm_next c) (λ tok' fits' c. prototype c)
  ending_firm _ _ _ (function e d) = firm_map (block_firm d) (λ tok' fits' d. function e d)

  pub tagged_firm : {x : ℕ} (s t : Spot) (i : Item) → Tagged tok fits x s t i → Firm tok fits s.at t.at (λ tok' fits'. Tagged tok' fits' x s t i)
  tagged_firm _ _ _ (alias n c) = firm2 (firm_next n) (firm_next c) (λ tok' fits' n c. alias n c)
  tagged_firm _ _ _ (struct h n c) = firm3 (fields_firm h) (firm_next n) (firm_next c) (λ tok' fits' h n c. struct h n c)

  pub types_firm : (s t : Spot) (i : Item) → Types tok fits s t i → Firm tok fits s.at t.at (λ tok' fits'. Types tok' fits' s t i)
  types_firm _ _ _ (tag {s} {t} {i} n h) = firm2 (firm_next n) (tagged_firm (passed s) t i h) (λ tok' fits' n h. tag n h)
  types_firm _ _ _ (untagged h n c) = firm3 (fields_firm h) (firm_next n) (firm_next c) (λ tok' fits' h n c. untagged h n c)

  pub behind_firm : {n : ℕ} {b : Base} {k x : ℕ} (s t : Spot) (i : Item) → Behind tok fits n b k x s t i → Firm tok fits s.at t.at (λ tok' fits'. Behind tok' fits' n b k x s t i)
  behind_firm _ _ _ (function {s} {t} {u} {l} {i} h e) = firm2 (headed_firm s t l h) (ending_firm t u i e) (λ tok' fits' h e. function h e)
  behind_firm {n} _ _ _ (globals {s} {t} {u} {v} {l} {g} h x k c) = firm4 (lengths_firm h) (valued_firm (back t n) u g x) (goes_firm (Comma by.Global) (comma_firm by.Global global_firm) k) (firm_next c)
      (λ tok' fits' h x k c. globals h x k c)

  pub item_firm : (s t : Spot) (a : Item) → by.ItemAt tok fits s t a → Firm tok fits s.at t.at (λ tok' fits'. by.ItemAt tok' fits' s t a)
  item_firm _ _ _ (by.alias i j n m c) = firm5 (firm_next i) (firm_next j) (firm_next n) (firm_next m) (firm_next c) (λ tok' fits' i j n m c. by.alias i j n m c)
  item_firm _ _ _ (by.untagged i j h n c) = firm5 (firm_next i) (firm_next j) (fields_firm h) (firm_next n) (firm_next c) (λ tok' fits' i j h n c. by.untagged i j h n c)
  item_firm _ _ _ (by.tagged i j m h n c) = firm6 (firm_next i) (firm_next j) (firm_next m) (fields_firm h) (firm_next n) (firm_next c) (λ tok' fits' i j m h n c. by.tagged i j m h n c)
  item_firm _ _ _ (by.struct i n h c) = firm4 (firm_next i) (firm_next n) (fields_firm h) (firm_next c) (λ tok' fits' i n h c. by.struct i n h c)
  item_firm _ _ _ (by.globals d l i) = firm3 (base_firm d) (commas_firm by.Global global_firm l) (firm_next i) (λ tok' fits' d l i. by.globals d l i)
  item_firm _ _ _ (by.function d h b) = firm3 (returns_firm d) (heading_firm by.Parameter parameter_firm h) (block_firm b) (λ tok' fits' d h b. by.function d h b)
  item_firm _ _ _ (by.prototype d h c) = firm3 (returns_firm d) (heading_firm by.Prototyped prototyped_firm h) (firm_next c) (λ tok' fits' d h c. by.prototype d h c)

  pub items_firm : {s t : Spot} {l : List Item} → by.Items tok fits s t l → Firm tok fits s.at t.at (λ tok' fits'. by.Items tok' fits' s t l)
  items_firm by.none = firm_none (λ tok' fits'. by.none)
  items_firm (by.more {s} {t} {u} {l} {i} d e) = firm2 (items_firm d) (item_firm t u i e) (λ tok' fits' d e. by.more d e)
