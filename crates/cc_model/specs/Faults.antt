-- What is wrong in a program, and what its names mean: each declaration and each statement, over what stands around it
-- (C11 6.7 to 6.9). The limits on lengths, sizes and sites are this project's own.
use Rattle.std.specs.Prelude.{◌≡◌, ◌⊎◌, ◌<◌, ◌≤◌, ℕ, suc, Bool, true, false, not, ◌&&◌, ◌||◌, ℤ, pos, negsuc, nat_le, nat_lt, List, [], ◌∷◌, ◌++◌, map, slice_get, Option, Some, None, is_some, if◌then◌else◌}
use Rattle.cc_base.specs.Paths.{In}
use Rattle.cc_model.specs.declared.checked.Target.TheVariants as target
use Rattle.cc_model.specs.declared.trees.Base.{Base}
use Rattle.cc_model.specs.declared.trees.Length.{Length}
use Rattle.cc_model.specs.declared.trees.Declarator.{Declarator}
use Rattle.cc_model.specs.declared.trees.ResultType.{ResultType}
use Rattle.cc_model.specs.declared.trees.ResultType.TheVariants as returned
use Rattle.cc_model.specs.declared.trees.Expr.{Expr}
use Rattle.cc_model.specs.declared.trees.Simple.{Simple}
use Rattle.cc_model.specs.declared.trees.Simple.TheVariants as simple
use Rattle.cc_model.specs.declared.trees.Head.{Head}
use Rattle.cc_model.specs.declared.trees.Head.TheVariants as head
use Rattle.cc_model.specs.declared.trees.Declared.{Declared}
use Rattle.cc_model.specs.declared.trees.Initializer.{Initializer}
use Rattle.cc_model.specs.declared.trees.Part.{Part}
use Rattle.cc_model.specs.declared.trees.Part.TheOpen as stmt
use Rattle.cc_model.specs.declared.trees.Part.TheOpen.{Part-F, Stmt-F}
use Rattle.cc_model.specs.declared.trees.Part.TheFolds.{fold-Part}
use Rattle.cc_model.specs.declared.trees.Param.{Param}
use Rattle.cc_model.specs.declared.trees.ProtoParam.{ProtoParam}
use Rattle.cc_model.specs.declared.trees.Func.{Func}
use Rattle.cc_model.specs.declared.trees.Field as source_field
use Rattle.cc_model.specs.declared.trees.StructDef.TheVariants as struct
use Rattle.cc_model.specs.declared.trees.StartValue.{StartValue}
use Rattle.cc_model.specs.declared.trees.StartValue.TheVariants as start_value
use Rattle.cc_model.specs.declared.trees.GlobalStart.{GlobalStart}
use Rattle.cc_model.specs.declared.trees.GlobalPart.{GlobalPart}
use Rattle.cc_model.specs.declared.trees.Item.{Item}
use Rattle.cc_model.specs.declared.trees.Item.TheVariants as item
use Rattle.cc_model.specs.Types.{CType, int_type, is_int, is_pointer, is_void, struct_in, same_type}
use Rattle.cc_model.specs.Scopes.{Text, Variable, Member, Function, Before, File, View, nothing_before, has_name, variable_in, function_in, field_in, tag_in, is_alias, is_taken, declared_type, param_type, result_type, func_params, proto_params, field_of, fields_of, fields_size, global_of, after_global, after_item, file_of}
use Rattle.cc_model.specs.Typing.{Wrong, unknown, twice, mismatch, too_large, Note, fault, means, declares, Shape, null_itself, value, is_well, type_of, is_int_shape, is_pointer_shape, has_truth, is_place, is_int_place, takes, null_beside, rule, Judged, number_shape, unknown_if_none, size_notes, both_well, operand_of, notes_of, callee, call_done, judged}
use Rattle.cc_model.specs.Sites.{Mark, sites_in}

-- ---- declarators (6.7.6)

-- an array's length is 1 to 256
abbrev pub is_length : ℤ → Bool
is_length (pos n) = nat_le 1 n && nat_le n 256
is_length (negsuc n) = false

abbrev pub length_notes : List Length → List Note
length_notes [] = []
length_notes (l ∷ ls) = (if is_length l.value then [] else fault too_large l.token ∷ []) ++ length_notes ls

abbrev pub twice_if : Bool → ℕ → List Note
twice_if true t = fault twice t ∷ []
twice_if false t = []

-- what is said of a declared name of a known type
abbrev pub declares_if : List ℕ → ℕ → Option CType → List Note
declares_if sizes t None = []
declares_if sizes t (Some type) = declares t type ∷ size_notes sizes t type

-- a type that is int or a pointer
abbrev pub is_scalar : CType → Bool
is_scalar t = is_int t || is_pointer t

-- ---- places of a function

-- a place of a function: the variables of each scope around, the innermost scope last; the number of the next local; whether a loop is around
pub record Inside : Type 0 where
  pub scopes : List (List Variable)
  pub next : ℕ
  pub in_loop : Bool

-- what is said of a piece, and the place behind it
pub record Said : Type 0 where
  pub after : Inside
  pub notes : List Note

abbrev pub said : Inside → List Note → Said
said inside notes = record { after = inside; notes = notes }

-- notes, and then a piece
abbrev pub first_say : List Note → Said → Said
first_say notes s = record { after = s.after; notes = notes ++ s.notes }

-- a piece, and then another one
abbrev pub follow : Said → (Inside → Said) → Said
follow s next = first_say s.notes (next s.after)

-- a piece, and then notes
abbrev pub then_say : Said → (Inside → List Note) → Said
then_say s notes = record { after = s.after; notes = s.notes ++ notes s.after }

-- a scope of its own (6.2.1)
abbrev pub opened : Inside → Inside
opened inside = record inside { scopes = inside.scopes ++ [] ∷ [] }

abbrev pub looping : Inside → Inside
looping inside = record inside { in_loop = true }

-- behind a piece, whose declarations end there
abbrev pub closed : Inside → Said → Said
closed inside s = record { after = record inside { next = (s.after).next }; notes = s.notes }

-- with one more variable in the innermost scope
abbrev pub with_variable : Variable → List (List Variable) → List (List Variable)
with_variable v [] = []
with_variable v (s ∷ []) = (s ++ v ∷ []) ∷ []
with_variable v (s ∷ l) = s ∷ with_variable v l

-- the innermost scope has a variable of that name
abbrev pub in_scope : Text → List (List Variable) → Bool
in_scope name [] = false
in_scope name (s ∷ []) = is_some (variable_in name s)
in_scope name (s ∷ l) = in_scope name l

-- the next local, with a name and a type
abbrev pub declare : Text → Option CType → Inside → Inside
declare name type inside = record {
  scopes = with_variable (record { name = name; ty = type; target = target.Local inside.next }) inside.scopes;
  next = suc inside.next;
  in_loop = inside.in_loop;
}

abbrev pub through : List (Inside → Said) → Inside → Said
through [] inside = said inside []
through (p ∷ l) inside = follow (p inside) (through l)

-- a value that goes into an object of the type
abbrev pub taken : ℕ → CType → Judged → List Note
taken t type e = e.notes ++ (rule t (is_well e.shape) (takes type e.shape) ++ null_beside (is_pointer type) e.shape)

-- the rule of `=` (6.5.16, 6.7.9)
abbrev pub stored : ℕ → CType → Judged → List Note
stored t type e = e.notes ++ (rule t (is_well e.shape) (is_scalar type && takes type e.shape) ++ null_beside (is_pointer type) e.shape)

abbrev pub stored_if : ℕ → Option CType → Judged → List Note
stored_if t None e = e.notes
stored_if t (Some type) e = stored t type e

abbrev pub assigned : ℕ → Judged → Judged → List Note
assigned t l e = l.notes ++ (e.notes
    ++ (rule t (both_well l e) (is_place l.shape && (is_scalar (type_of l.shape) && takes (type_of l.shape) e.shape))
    ++ null_beside (is_pointer_shape l.shape) e.shape))

-- a compound operator takes an int's place and an int (6.5.16.2)
abbrev pub updated : ℕ → Judged → Judged → List Note
updated t l e = l.notes ++ (e.notes ++ rule t (both_well l e) (is_int_place l.shape && is_int_shape e.shape))

-- `++`, `--` and `CREST_int` take an int's place (6.5.2.4, 6.5.3.1)
abbrev pub bumped : ℕ → Judged → List Note
bumped t l = l.notes ++ rule t (is_well l.shape) (is_int_place l.shape)

-- a truth value (6.8.4.1, 6.8.5)
abbrev pub tested : ℕ → Judged → List Note
tested t e = e.notes ++ rule t (is_well e.shape) (has_truth e.shape)

-- `return` has a value exactly where the result isn't `void`, and it is of the result's type (6.8.6.4)
abbrev pub returned_none : ℕ → Option CType → List Note
returned_none t None = []
returned_none t (Some r) = rule t true (is_void r)

abbrev pub returned_value : ℕ → Option CType → Judged → List Note
returned_value t None e = e.notes
returned_value t (Some r) e = if is_void r then e.notes ++ rule t (is_well e.shape) false else taken t r e

-- ---- statements of a function, in its file and behind what stands before it in the file's scope; `result` is the function's, and `judge`
-- tells what an expression is
module _ (judge : View → Expr → Judged) (text : ℕ → Text) (file : File) (before : Before) (result : Option CType) where
  abbrev pub view_at : Inside → View
  view_at inside = record { file = file; before = before; scopes = inside.scopes }

  abbrev pub judged_at : Inside → Expr → Judged
  judged_at inside e = judge (view_at inside) e

  abbrev pub args_at : Inside → List Expr → List Judged
  args_at inside [] = []
  args_at inside (e ∷ l) = judged_at inside e ∷ args_at inside l

  abbrev pub simple_notes : Simple → Inside → List Note
  simple_notes (simple.Assign t l e) inside = assigned t (judged_at inside l) (judged_at inside e)
  simple_notes (simple.AddTo t l e) inside = updated t (judged_at inside l) (judged_at inside e)
  simple_notes (simple.SubFrom t l e) inside = updated t (judged_at inside l) (judged_at inside e)
  simple_notes (simple.MulBy t l e) inside = updated t (judged_at inside l) (judged_at inside e)
  simple_notes (simple.DivBy t l e) inside = updated t (judged_at inside l) (judged_at inside e)
  simple_notes (simple.RemBy t l e) inside = updated t (judged_at inside l) (judged_at inside e)
  simple_notes (simple.Increase t l) inside = bumped t (judged_at inside l)
  simple_notes (simple.Decrease t l) inside = bumped t (judged_at inside l)
  simple_notes (simple.IncreaseFirst t l) inside = bumped t (judged_at inside l)
  simple_notes (simple.DecreaseFirst t l) inside = bumped t (judged_at inside l)
  simple_notes (simple.Call t args) inside = call_done text (view_at inside) t (map operand_of (args_at inside args)) (callee text (view_at inside) t) (notes_of (args_at inside args))
  simple_notes (simple.Assert t e) inside = tested t (judged_at inside e)
  simple_notes (simple.Assume t e) inside = tested t (judged_at inside e)
  simple_notes (simple.Abort t) inside = []
  simple_notes (simple.CrestInt t l) inside = bumped t (judged_at inside l)

  abbrev pub simple_notes_if : Option Simple → Inside → List Note
  simple_notes_if None inside = []
  simple_notes_if (Some s) inside = simple_notes s inside

  abbrev pub tested_if : ℕ → Option Expr → Inside → List Note
  tested_if t None inside = []
  tested_if t (Some e) inside = tested t (judged_at inside e)

  abbrev pub return_notes : ℕ → Option Expr → Inside → List Note
  return_notes t None inside = returned_none t result
  return_notes t (Some e) inside = returned_value t result (judged_at inside e)

  -- a variable is visible from the end of its declarator, so in its own initialiser too
  abbrev pub start_notes : Option Initializer → Option CType → Inside → List Note
  start_notes None type inside = []
  start_notes (Some i) type inside = stored_if i.equals type (judged_at inside i.value)

  -- a name is declared once in a scope, and a typedef's name not anew
  abbrev pub local_notes : Base → Declarator → Option CType → Inside → List Note
  local_notes b d type inside = unknown_if_none type b ++ (length_notes d.lengths ++ (means d.name (target.Local inside.next)
      ∷ (declares_if file.sizes d.name type ++ twice_if (in_scope (text d.name) inside.scopes || is_alias before (text d.name)) d.name)))

  abbrev pub local_of : Base → Declarator → Option Initializer → Option CType → Inside → Said
  local_of b d start type inside = first_say (local_notes b d type inside)
      (said (declare (text d.name) type inside) (start_notes start type (declare (text d.name) type inside)))

  abbrev pub declared_of : Base → Declared → Inside → Said
  declared_of b p inside = local_of b p.declarator p.initializer (declared_type text file.tags before b p.declarator) inside

  abbrev pub declareds_of : Base → List Declared → Inside → Said
  declareds_of b [] inside = said inside []
  declareds_of b (p ∷ l) inside = follow (declared_of b p inside) (declareds_of b l)

  abbrev pub head_of : Head → Inside → Said
  head_of (head.Decl d) inside = declareds_of d.base d.parts inside
  head_of (head.Simple s) inside = said inside (simple_notes_if s inside)

  -- behind the head of a `for`
  abbrev pub turns_of : ℕ → Option Expr → Option Simple → (Inside → Said) → Inside → Said
  turns_of w c next body inside = first_say (tested_if w c inside ++ simple_notes_if next inside) (body (looping inside))

  abbrev pub part_level : Part-F (Inside → Said) (Inside → Said) → Inside → Said
  part_level (stmt.Decl d) inside = declareds_of d.base d.parts inside
  part_level (stmt.Stmt s) inside = s inside

  abbrev pub stmt_level : Stmt-F (Inside → Said) (Inside → Said) → Inside → Said
  stmt_level stmt.Empty inside = said inside []
  stmt_level (stmt.Block parts) inside = closed inside (through parts (opened inside))
  stmt_level (stmt.If w c a) inside = first_say (tested w (judged_at inside c)) (a inside)
  stmt_level (stmt.IfElse w c a b) inside = first_say (tested w (judged_at inside c)) (follow (a inside) b)
  stmt_level (stmt.While w c body) inside = first_say (tested w (judged_at inside c)) (closed inside (body (looping inside)))
  stmt_level (stmt.Do w body c) inside = then_say (closed inside (body (looping inside))) (λ i. tested w (judged_at i c))
  stmt_level (stmt.For w h c next body) inside = closed inside (follow (head_of h (opened inside)) (turns_of w c next body))
  stmt_level (stmt.Return w e) inside = said inside (return_notes w e inside)
  stmt_level (stmt.Break w) inside = said inside (rule w true inside.in_loop)
  stmt_level (stmt.Continue w) inside = said inside (rule w true inside.in_loop)
  stmt_level (stmt.Simple s) inside = said inside (simple_notes s inside)

-- what is said of a part of a body
abbrev pub part_of : (text : ℕ → Text) (file : File) (before : Before) (result : Option CType) → Part → Inside → Said
part_of text file before result p = fold-Part (Inside → Said) (Inside → Said) (part_level (judged text) text file before result) (stmt_level (judged text) text file before result) p

abbrev pub body_of : (part : Part → Inside → Said) → List Part → Inside → Said
body_of part [] inside = said inside []
body_of part (p ∷ l) inside = follow (part p inside) (body_of part l)

-- ---- functions (6.9.1)

-- at the start of a body
abbrev pub at_body : Inside
at_body = record { scopes = [] ∷ []; next = 0; in_loop = false }

abbrev pub base_of_result : ResultType → Option CType → List Note
base_of_result returned.Void type = []
base_of_result (returned.Value t) type = unknown_if_none type t.base

-- parameters and results are no structs
abbrev pub no_struct : ℕ → Option CType → List Note
no_struct t None = []
no_struct t (Some type) = rule t true (not (is_some (struct_in type)))

abbrev pub is_known : Option CType → Bool
is_known o = is_some o

abbrev pub all_known : List (Option CType) → Bool
all_known [] = true
all_known (p ∷ l) = is_some p && all_known l

abbrev pub same_if : Option CType → Option CType → Bool
same_if (Some s) (Some t) = same_type s t
same_if _ _ = false

abbrev pub same_all : List (Option CType) → List (Option CType) → Bool
same_all [] [] = true
same_all (p ∷ k) (q ∷ l) = same_if p q && same_all k l
same_all _ _ = false

-- declarations of one function agree with the first, where all their types are known
abbrev pub agreed : ℕ → Function → Option Function → List Note
agreed t f None = []
agreed t f (Some g) = rule t ((is_some f.result && all_known f.params) && (is_some g.result && all_known g.params)) (same_if f.result g.result && same_all f.params g.params)

-- the name's number, its agreement with the first declaration
abbrev pub numbered : ℕ → Function → List Function → Option ℕ → List Note
numbered t f functions None = []
numbered t f functions (Some n) = means t (target.Func n) ∷ agreed t f (slice_get functions n)

module _ (text : ℕ → Text) (file : File) where
  -- what is said of a function's name
  abbrev pub function_notes : Before → ℕ → ResultType → Function → Bool → List Note
  function_notes before t r f again = base_of_result r f.result ++ (no_struct t f.result ++ (numbered t f file.functions (function_in f.name file.functions)
      ++ twice_if (again || (is_alias before f.name || is_some (variable_in f.name before.globals))) t))

  -- the parameters of a body stand in the scope of its outermost block
  abbrev pub param_notes : Before → Param → Option CType → Inside → List Note
  param_notes before p type inside = unknown_if_none type (p.ty).base ++ (no_struct p.name type ++ (means p.name (target.Local inside.next)
      ∷ (declares_if file.sizes p.name type ++ twice_if (in_scope (text p.name) inside.scopes || is_alias before (text p.name)) p.name)))

  abbrev pub params_of : Before → List Param → Inside → Said
  params_of before [] inside = said inside []
  params_of before (p ∷ l) inside = follow
      (first_say (param_notes before p (param_type text file.tags before p.ty) inside) (said (declare (text p.name) (param_type text file.tags before p.ty) inside) []))
      (params_of before l)

  abbrev pub function_of : Before → Func → Function
  function_of before f = record { name = text f.name; result = result_type text file.tags before f.result; params = func_params text file.tags before f.params }

  -- what is said of a function with a body, by what is said of its parts
  abbrev pub func_notes : (part : Before → Option CType → Part → Inside → Said) → Before → Func → List Note
  func_notes part before f = function_notes before f.name f.result (function_of before f) (has_name (text f.name) before.bodies)
      ++ (follow (params_of before f.params at_body) (body_of (part before (result_type text file.tags before f.result)) f.body)).notes

  -- the parameters of a prototype stand in a scope of their own
  abbrev pub proto_name : ℕ → Option ℕ → ℕ
  proto_name t None = t
  proto_name t (Some name) = name

  abbrev pub proto_twice : Before → List Text → Option ℕ → List Note
  proto_twice before earlier None = []
  proto_twice before earlier (Some name) = twice_if (has_name (text name) earlier || is_alias before (text name)) name

  abbrev pub with_proto : List Text → Option ℕ → List Text
  with_proto earlier None = earlier
  with_proto earlier (Some name) = earlier ++ text name ∷ []

  abbrev pub protos_notes : Before → ℕ → List Text → List ProtoParam → List Note
  protos_notes before t earlier [] = []
  protos_notes before t earlier (p ∷ l) = unknown_if_none (param_type text file.tags before p.ty) (p.ty).base
      ++ (no_struct (proto_name t p.name) (param_type text file.tags before p.ty) ++ (proto_twice before earlier p.name
      ++ protos_notes before t (with_proto earlier p.name) l))

  abbrev pub prototype_of : Before → ResultType → ℕ → List ProtoParam → Function
  prototype_of before r t params = record { name = text t; result = result_type text file.tags before r; params = proto_params text file.tags before params }

  -- ---- structs and typedefs (6.7.2.1, 6.7.8)

  abbrev pub field_notes : Before → List Member → Base → Declarator → Option CType → List Note
  field_notes before earlier b d type = unknown_if_none type b ++ (length_notes d.lengths ++ (means d.name (target.Field (fields_size file.sizes earlier))
      ∷ (declares_if file.sizes d.name type ++ twice_if (is_some (field_in (text d.name) earlier)) d.name)))

  -- the fields of a line, behind earlier ones, and then those of the other lines
  abbrev pub line_notes : Before → List Member → Base → List Declarator → (List Member → List Note) → List Note
  line_notes before earlier b [] rest = rest earlier
  line_notes before earlier b (d ∷ l) rest = field_notes before earlier b d (declared_type text file.tags before b d)
      ++ line_notes before (earlier ++ field_of text file.tags before b d ∷ []) b l rest

  abbrev pub lines_notes : Before → List source_field.Field → List Member → List Note
  lines_notes before [] earlier = []
  lines_notes before (f ∷ l) earlier = line_notes before earlier f.base f.parts (lines_notes before l)

  abbrev pub is_fault : Note → Bool
  is_fault (fault w t) = true
  is_fault _ = false

  abbrev pub has_fault : List Note → Bool
  has_fault [] = false
  has_fault (n ∷ l) = is_fault n || has_fault l

  -- a struct without a faulty field is judged for its size, at its declared name
  abbrev pub struct_size : ℕ → Before → List source_field.Field → List Note
  struct_size t before fields = if has_fault (lines_notes before fields []) then []
      else if nat_lt 256 (fields_size file.sizes (fields_of text file.tags before fields)) then fault too_large t ∷ [] else []

  abbrev pub fields_notes : ℕ → Before → List source_field.Field → List Note
  fields_notes t before fields = struct_size t before fields ++ lines_notes before fields []

  abbrev pub is_earlier : Before → Option ℕ → Bool
  is_earlier before None = false
  is_earlier before (Some n) = nat_lt n before.structs

  -- a tag is defined once
  abbrev pub tag_notes : Before → Option ℕ → List Note
  tag_notes before None = []
  tag_notes before (Some tag) = twice_if (is_earlier before (tag_in (text tag) file.tags)) tag

  abbrev pub name_of_struct : Option ℕ → ℕ → ℕ
  name_of_struct None name = name
  name_of_struct (Some tag) name = tag

  abbrev pub unknown_tag : Option ℕ → ℕ → List Note
  unknown_tag None tag = fault unknown tag ∷ []
  unknown_tag (Some n) tag = []

  -- ---- globals (6.9.2)

  abbrev pub start_shape : StartValue → Shape
  start_shape (start_value.Number t z) = number_shape t z
  start_shape (start_value.Negative m t z) = value int_type
  start_shape (start_value.Null t) = null_itself

  abbrev pub global_start : Option GlobalStart → Option CType → List Note
  global_start None type = []
  global_start (Some s) None = []
  global_start (Some s) (Some type) = rule s.equals true (is_scalar type && takes type (start_shape s.value))

  abbrev pub global_notes : Before → Base → GlobalPart → Variable → List Note
  global_notes before b p v = unknown_if_none v.ty b ++ (length_notes (p.declarator).lengths ++ (means (p.declarator).name v.target
      ∷ (declares_if file.sizes (p.declarator).name v.ty ++ (twice_if (is_taken before v.name) (p.declarator).name ++ global_start p.start v.ty))))

  abbrev pub globals_notes : Before → Base → List GlobalPart → List Note
  globals_notes before b [] = []
  globals_notes before b (p ∷ l) = global_notes before b p (global_of text file.tags before b p) ++ globals_notes (after_global text file.tags before b p) b l

  -- ---- items

  abbrev pub item_notes : (part : Before → Option CType → Part → Inside → Said) → Before → Item → List Note
  item_notes part before (item.Alias tag name) = unknown_tag (tag_in (text tag) file.tags) tag ++ twice_if (is_taken before (text name)) name
  item_notes part before (item.Struct (struct.Tagged tag fields)) = tag_notes before (Some tag) ++ fields_notes tag before fields
  item_notes part before (item.Struct (struct.Named tag fields name)) = tag_notes before tag ++ (fields_notes (name_of_struct tag name) before fields ++ twice_if (is_taken before (text name)) name)
  item_notes part before (item.Globals b parts) = globals_notes before b parts
  item_notes part before (item.Func f) = func_notes part before f
  item_notes part before (item.Prototype r name params) = function_notes before name r (prototype_of before r name params) false ++ protos_notes before name [] params

  abbrev pub items_notes : (part : Before → Option CType → Part → Inside → Said) → Before → List Item → List Note
  items_notes part before [] = []
  items_notes part before (i ∷ l) = item_notes part before i ++ items_notes part (after_item text file.tags before i) l

-- ---- a program

-- what is said of a program whose names have these texts
abbrev pub notes_in : (ℕ → Text) → List Item → List Note
notes_in text items = items_notes text (file_of text items) (part_of text (file_of text items)) nothing_before items

pub record Found : Type 0 where
  pub what : Wrong
  pub token : ℕ

abbrev pub faults_among : List Note → List Found
faults_among [] = []
faults_among (fault w t ∷ l) = record { what = w; token = t } ∷ faults_among l
faults_among (_ ∷ l) = faults_among l

abbrev pub site_fault : Option Mark → List Found
site_fault None = []
site_fault (Some m) = record { what = too_large; token = m.token } ∷ []

-- a program has at most 4096 sites
abbrev pub sites_fault : List Item → List Found
sites_fault items = site_fault (slice_get (sites_in items) 4096)

-- the faults of a program
abbrev pub faults_in : (ℕ → Text) → List Item → List Found
faults_in text items = faults_among (notes_in text items) ++ sites_fault items

abbrev pub WellTyped : (ℕ → Text) → List Item → Type 0
WellTyped text items = faults_in text items ≡ []

abbrev pub wrong_rank : Wrong → ℕ
wrong_rank unknown = 0
wrong_rank twice = 1
wrong_rank mismatch = 2
wrong_rank too_large = 3

-- f stands before g, or is no later one of the same token
abbrev pub NotAfter : Found → Found → Type 0
NotAfter f g = (f.token < g.token) ⊎ ((f.token ≡ g.token) × (wrong_rank f.what ≤ wrong_rank g.what))

-- the first fault: that of the least token, and at one token by kind
abbrev pub IsFirst : (ℕ → Text) → List Item → Found → Type 0
IsFirst text items f = In f (faults_in text items) × ((g : Found) → In g (faults_in text items) → NotAfter f g)

-- a function with a body has the name
abbrev pub has_entry : (ℕ → Text) → List Item → Text → Bool
has_entry text items entry = has_name entry (file_of text items).bodies
