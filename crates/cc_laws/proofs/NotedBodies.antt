-- The types that are said of a program's declarations and statements.
use Rattle.std.proofs.Common.{ℕ, arith, inl, Bool, true, false, ◌||◌, List, [], ◌∷◌, ◌++◌, map, length, slice_get, is_some, Option, Some, None, sym, subst, if◌then◌else◌}
use Rattle.cc_model.specs.declared.checked.Target.TheVariants as target
use Rattle.cc_model.specs.declared.typing.CType.{CType}
use Rattle.cc_model.specs.declared.typing.Variable.{Variable}
use Rattle.cc_model.specs.declared.typing.Member.{Member}
use Rattle.cc_model.specs.declared.typing.Function.{Function}
use Rattle.cc_model.specs.declared.typing.Before.{Before}
use Rattle.cc_model.specs.declared.typing.File.{File}
use Rattle.cc_model.specs.declared.typing.Note.{Note}
use Rattle.cc_model.specs.declared.typing.Note.TheVariants.{Fault as fault, Means as means}
use Rattle.cc_model.specs.declared.typing.Wrong.{Wrong}
use Rattle.cc_model.specs.declared.trees.Base.{Base}
use Rattle.cc_model.specs.declared.trees.ResultType.{ResultType}
use Rattle.cc_model.specs.declared.trees.ResultType.TheVariants as returned
use Rattle.cc_model.specs.declared.trees.Length.{Length}
use Rattle.cc_model.specs.declared.trees.Declarator.{Declarator}
use Rattle.cc_model.specs.declared.trees.Declared.{Declared}
use Rattle.cc_model.specs.declared.trees.Initializer.{Initializer}
use Rattle.cc_model.specs.declared.trees.Expr.{Expr}
use Rattle.cc_model.specs.declared.trees.Simple.{Simple}
use Rattle.cc_model.specs.declared.trees.Simple.TheVariants as simple
use Rattle.cc_model.specs.declared.trees.Head.{Head}
use Rattle.cc_model.specs.declared.trees.Head.TheVariants as head
use Rattle.cc_model.specs.declared.trees.Stmt as source
use Rattle.cc_model.specs.declared.trees.Stmt.{Row_of-Part, more_of-Part, end_of-Part, Row_of-Stmt, more_of-Stmt, end_of-Stmt}
use Rattle.cc_model.specs.declared.trees.Stmt.TheVariants as stmt
use Rattle.cc_model.specs.declared.trees.Part.{Part}
use Rattle.cc_model.specs.declared.trees.Part.TheVariants as part
use Rattle.cc_model.specs.declared.trees.Param.{Param}
use Rattle.cc_model.specs.declared.trees.ProtoParam.{ProtoParam}
use Rattle.cc_model.specs.declared.trees.Func.{Func}
use Rattle.cc_model.specs.declared.trees.Field as source_field
use Rattle.cc_model.specs.declared.trees.StructDef.TheVariants as struct
use Rattle.cc_model.specs.declared.trees.GlobalStart.{GlobalStart}
use Rattle.cc_model.specs.declared.trees.GlobalPart.{GlobalPart}
use Rattle.cc_model.specs.declared.trees.Item.{Item}
use Rattle.cc_model.specs.declared.trees.Item.TheVariants as item
use Rattle.cc_model.specs.Types.{is_pointer, is_void}
use Rattle.cc_model.specs.Scopes.{Text, nothing_before, function_in, is_alias, variable_in, declared_type, param_type, result_type, tags_of, tag_in, global_of, after_global, after_item, field_of, file_of}
use Rattle.cc_model.specs.Typing.{is_pointer_shape, rule, Judged, unknown_if_none, operand_of, callee, judged}
use Rattle.cc_model.specs.Faults.{is_length, length_notes, twice_if, declares_if, Inside, Said, said, first_say, follow, then_say, opened, looping, closed, with_variable, declare, through, taken, stored_if, assigned, updated, bumped, tested, returned_none, returned_value, view_at, judged_at, args_at, simple_notes, simple_notes_if, tested_if, return_notes, start_notes, local_of, declareds_of, head_of, turns_of, part_level, stmt_level, part_of, body_of, at_body, base_of_result, no_struct, agreed, numbered, function_notes, param_notes, params_of, function_of, func_notes, protos_notes, proto_name, proto_twice, with_proto, prototype_of, field_notes, line_notes, lines_notes, has_fault, struct_size, fields_notes, tag_notes, name_of_struct, unknown_tag, global_start, global_notes, globals_notes, item_notes, items_notes, notes_in}
use Rattle.cc_model.proofs.Folds.{fold_of_stmt, fold_of_part, fold_of_parts, folds_part}
use Rattle.cc_laws.proofs.StructCells.{Every, every_append, IsTyped}
use Rattle.cc_laws.proofs.NamedTypes.{IsVariable, IsBefore, IsFile, StructsLeft, declared_is, param_is, behind, behind_global, left, nothing_is, file_is}
use Rattle.cc_laws.proofs.NotedTypes.{IsNote, AllNotes, both_notes, notes_if, rule_notes, beside_notes, none_notes, sized_notes, IsJudged, judged_notes, IsView, call_done_notes, judged_is}

module _ (n : ℕ) where
  -- ---- notes that say no type

  fault_if : (b : Bool) (w : Wrong) (t : ℕ) → AllNotes n (if b then [] else fault w t ∷ [])
  fault_if true w t = tt
  fault_if false w t = (tt, tt)

  lengths_said : (l : List Length) → AllNotes n (length_notes l)
  lengths_said [] = tt
  lengths_said (a ∷ l) = both_notes n _ (length_notes l) (fault_if (is_length a.value) _ a.token) (lengths_said l)

  twice_said : (b : Bool) (t : ℕ) → AllNotes n (twice_if b t)
  twice_said true t = (tt, tt)
  twice_said false t = tt

  declares_said : (sizes : List ℕ) (t : ℕ) (o : Option CType) → IsTyped n o → AllNotes n (declares_if sizes t o)
  declares_said sizes t None h = tt
  declares_said sizes t (Some type) h = (inl h, sized_notes n sizes t type)

  -- what is said of a declared name
  name_said : (o : Option CType) (b : Base) (l : List Length) (m : Note) (sizes : List ℕ) (t : ℕ) (rest : List Note) → IsTyped n o → IsNote n m → AllNotes n rest
      → AllNotes n (unknown_if_none o b ++ (length_notes l ++ (m ∷ (declares_if sizes t o ++ rest))))
  name_said o b l m sizes t rest h k i = both_notes n (unknown_if_none o b) _ (none_notes n o b)
      (both_notes n (length_notes l) _ (lengths_said l) (k, both_notes n (declares_if sizes t o) rest (declares_said sizes t o h) i))

  -- ---- places of a function

  abbrev pub IsInside : Inside → Type 0
  IsInside i = Every (λ s. Every (IsVariable n) s) i.scopes

  pub record IsSaid (s : Said) : Type 0 where
    pub after : IsInside s.after
    pub notes : AllNotes n s.notes

  abbrev pub IsPiece : (Inside → Said) → Type 0
  IsPiece p = (i : Inside) → IsInside i → IsSaid (p i)

  said_is : (i : Inside) (notes : List Note) → IsInside i → AllNotes n notes → IsSaid (said i notes)
  said_is i notes h k = record { after = h; notes = k }

  first_is : (notes : List Note) (s : Said) → AllNotes n notes → IsSaid s → IsSaid (first_say notes s)
  first_is notes s h k = record { after = k.after; notes = both_notes n notes s.notes h k.notes }

  follow_is : (s : Said) (p : Inside → Said) → IsSaid s → IsPiece p → IsSaid (follow s p)
  follow_is s p h k = first_is s.notes (p s.after) h.notes (k s.after h.after)

  then_is : (s : Said) (p : Inside → List Note) → IsSaid s → ((i : Inside) → IsInside i → AllNotes n (p i)) → IsSaid (then_say s p)
  then_is s p h k = record { after = h.after; notes = both_notes n s.notes _ h.notes (k s.after h.after) }

  opened_is : (i : Inside) → IsInside i → IsInside (opened i)
  opened_is i h = every_append (λ s. Every (IsVariable n) s) i.scopes _ h (tt, tt)

  closed_is : (i : Inside) (s : Said) → IsInside i → IsSaid s → IsSaid (closed i s)
  closed_is i s h k = record { after = h; notes = k.notes }

  with_is : (v : Variable) (l : List (List Variable)) → IsVariable n v → Every (λ s. Every (IsVariable n) s) l → Every (λ s. Every (IsVariable n) s) (with_variable v l)
  with_is v [] h k = tt
  with_is v (s ∷ []) h k = (every_append (IsVariable n) s _ k.0 (h, tt), tt)
  with_is v (s ∷ t ∷ l) h k = (k.0, with_is v (t ∷ l) h k.1)

  declare_is : (name : Text) (o : Option CType) (i : Inside) → IsTyped n o → IsInside i → IsInside (declare name o i)
  declare_is name o i h k = with_is _ i.scopes h k

  abbrev pub AllPieces : List (Inside → Said) → Type 0
  AllPieces l = Every IsPiece l

  through_is : (l : List (Inside → Said)) → AllPieces l → IsPiece (through l)
  through_is [] h i k = said_is i [] k tt
  through_is (p ∷ l) h i k = follow_is (p i) (through l) (h.0 i k) (through_is l h.1)

  -- ---- rules of statements

  taken_said : (t : ℕ) (type : CType) (e : Judged) → IsJudged n e → AllNotes n (taken t type e)
  taken_said t type e h = both_notes n e.notes _ h.notes (both_notes n (rule t _ _) _ (rule_notes n t _ _) (beside_notes n (is_pointer type) e.shape))

  stored_said : (t : ℕ) (o : Option CType) (e : Judged) → IsJudged n e → AllNotes n (stored_if t o e)
  stored_said t None e h = h.notes
  stored_said t (Some type) e h = both_notes n e.notes _ h.notes (both_notes n (rule t _ _) _ (rule_notes n t _ _) (beside_notes n (is_pointer type) e.shape))

  assigned_said : (t : ℕ) (l e : Judged) → IsJudged n l → IsJudged n e → AllNotes n (assigned t l e)
  assigned_said t l e h k = both_notes n l.notes _ h.notes (both_notes n e.notes _ k.notes (both_notes n (rule t _ _) _ (rule_notes n t _ _) (beside_notes n (is_pointer_shape l.shape) e.shape)))

  updated_said : (t : ℕ) (l e : Judged) → IsJudged n l → IsJudged n e → AllNotes n (updated t l e)
  updated_said t l e h k = both_notes n l.notes _ h.notes (both_notes n e.notes _ k.notes (rule_notes n t _ _))

  bumped_said : (t : ℕ) (l : Judged) → IsJudged n l → AllNotes n (bumped t l)
  bumped_said t l h = both_notes n l.notes _ h.notes (rule_notes n t _ _)

  tested_said : (t : ℕ) (e : Judged) → IsJudged n e → AllNotes n (tested t e)
  tested_said t e h = both_notes n e.notes _ h.notes (rule_notes n t _ _)

  none_returned : (t : ℕ) (o : Option CType) → AllNotes n (returned_none t o)
  none_returned t None = tt
  none_returned t (Some r) = rule_notes n t true (is_void r)

  value_returned : (t : ℕ) (o : Option CType) (e : Judged) → IsJudged n e → AllNotes n (returned_value t o e)
  value_returned t None e h = h.notes
  value_returned t (Some r) e h = notes_if n (is_void r) _ _ (both_notes n e.notes _ h.notes (rule_notes n t _ _)) (taken_said t r e h)

  module _ (text : ℕ → Text) (file : File) (is_file : IsFile n file) where
    module _ (before : Before) (is_before : IsBefore n before) (result : Option CType) where
      at_is : (i : Inside) → IsInside i → IsView n (view_at (judged text) text file before result i)
      at_is i h = record { file = is_file; before = is_before; scopes = h }

      judged_there : (i : Inside) (e : Expr) → IsInside i → IsJudged n (judged_at (judged text) text file before result i e)
      judged_there i e h = judged_is n text (view_at (judged text) text file before result i) (at_is i h) e

      args_there : (i : Inside) (l : List Expr) → IsInside i → Every (IsJudged n) (args_at (judged text) text file before result i l)
      args_there i [] h = tt
      args_there i (e ∷ l) h = (judged_there i e h, args_there i l h)

      simple_said : (s : Simple) (i : Inside) → IsInside i → AllNotes n (simple_notes (judged text) text file before result s i)
      simple_said (simple.Assign t l e) i h = assigned_said t _ _ (judged_there i l h) (judged_there i e h)
      simple_said (simple.AddTo t l e) i h = updated_said t _ _ (judged_there i l h) (judged_there i e h)
      simple_said (simple.SubFrom t l e) i h = updated_said t _ _ (judged_there i l h) (judged_there i e h)
      simple_said (simple.MulBy t l e) i h = updated_said t _ _ (judged_there i l h) (judged_there i e h)
      simple_said (simple.DivBy t l e) i h = updated_said t _ _ (judged_there i l h) (judged_there i e h)
      simple_said (simple.RemBy t l e) i h = updated_said t _ _ (judged_there i l h) (judged_there i e h)
      simple_said (simple.Increase t l) i h = bumped_said t _ (judged_there i l h)
      simple_said (simple.Decrease t l) i h = bumped_said t _ (judged_there i l h)
      simple_said (simple.IncreaseFirst t l) i h = bumped_said t _ (judged_there i l h)
      simple_said (simple.DecreaseFirst t l) i h = bumped_said t _ (judged_there i l h)
      simple_said (simple.Call t args) i h = let view = view_at (judged text) text file before result i in
          call_done_notes n text view (at_is i h) t (map operand_of (args_at (judged text) text file before result i args)) (callee text view t) _ (judged_notes n (args_at (judged text) text file before result i args) (args_there i args h))
      simple_said (simple.Assert t e) i h = tested_said t _ (judged_there i e h)
      simple_said (simple.Assume t e) i h = tested_said t _ (judged_there i e h)
      simple_said (simple.Abort t) i h = tt
      simple_said (simple.CrestInt t l) i h = bumped_said t _ (judged_there i l h)

      simple_if_said : (s : Option Simple) (i : Inside) → IsInside i → AllNotes n (simple_notes_if (judged text) text file before result s i)
      simple_if_said None i h = tt
      simple_if_said (Some s) i h = simple_said s i h

      tested_if_said : (t : ℕ) (e : Option Expr) (i : Inside) → IsInside i → AllNotes n (tested_if (judged text) text file before result t e i)
      tested_if_said t None i h = tt
      tested_if_said t (Some e) i h = tested_said t _ (judged_there i e h)

      return_said : (t : ℕ) (e : Option Expr) (i : Inside) → IsInside i → AllNotes n (return_notes (judged text) text file before result t e i)
      return_said t None i h = none_returned t result
      return_said t (Some e) i h = value_returned t result _ (judged_there i e h)

      start_said : (s : Option Initializer) (o : Option CType) (i : Inside) → IsInside i → AllNotes n (start_notes (judged text) text file before result s o i)
      start_said None o i h = tt
      start_said (Some s) o i h = stored_said s.equals o _ (judged_there i s.value h)

      local_is : (b : Base) (d : Declarator) (s : Option Initializer) (o : Option CType) (i : Inside) → IsTyped n o → IsInside i → IsSaid (local_of (judged text) text file before result b d s o i)
      local_is b d s o i h k = let there = declare_is (text d.name) o i h k in
          first_is _ _ (name_said o b d.lengths (means d.name (target.Local i.next)) file.sizes d.name _ h tt (twice_said _ d.name)) (said_is (declare (text d.name) o i) _ there (start_said s o _ there))

      declareds_is : (b : Base) (l : List Declared) → IsPiece (declareds_of (judged text) text file before result b l)
      declareds_is b [] i h = said_is i [] h tt
      declareds_is b (p ∷ l) i h = follow_is _ (declareds_of (judged text) text file before result b l)
          (local_is b p.declarator p.initializer _ i (declared_is n text file.tags is_file.tags before b p.declarator is_before) h) (declareds_is b l)

      head_is : (a : Head) → IsPiece (head_of (judged text) text file before result a)
      head_is (head.Decl d) i h = declareds_is d.base d.parts i h
      head_is (head.Simple s) i h = said_is i _ h (simple_if_said s i h)

      turns_is : (w : ℕ) (c : Option Expr) (next : Option Simple) (body : Inside → Said) → IsPiece body → IsPiece (turns_of (judged text) text file before result w c next body)
      turns_is w c next body k i h = first_is _ (body (looping i)) (both_notes n (tested_if (judged text) text file before result w c i) _ (tested_if_said w c i h) (simple_if_said next i h)) (k (looping i) h)

      abbrev fold_stmt : source.Stmt → Inside → Said
      fold_stmt a = fold_of_stmt (part_level (judged text) text file before result) (stmt_level (judged text) text file before result) a

      abbrev fold_part : Part → Inside → Said
      fold_part a = fold_of_part (part_level (judged text) text file before result) (stmt_level (judged text) text file before result) a

      mutual
        unfolding fold_of_stmt

        stmt_is : (a : source.Stmt) (i : Inside) → IsInside i → IsSaid (fold_stmt a i)
        stmt_is stmt.Empty i h = said_is i [] h tt
        stmt_is (stmt.Block' m parts) i h = closed_is i _ h (through_is _ (parts_are parts) (opened i) (opened_is i h))
        stmt_is (stmt.If' w c m (more_of-Stmt a end_of-Stmt)) i h = first_is _ _ (tested_said w _ (judged_there i c h)) (stmt_is a i h)
        stmt_is (stmt.IfElse' w c m (more_of-Stmt a end_of-Stmt) m' (more_of-Stmt b end_of-Stmt)) i h = first_is _ _ (tested_said w _ (judged_there i c h)) (follow_is _ (fold_stmt b) (stmt_is a i h) (stmt_is b))
        stmt_is (stmt.While' w c m (more_of-Stmt a end_of-Stmt)) i h = first_is _ _ (tested_said w _ (judged_there i c h)) (closed_is i _ h (stmt_is a (looping i) h))
        stmt_is (stmt.Do' w m (more_of-Stmt a end_of-Stmt) c) i h = then_is _ _ (closed_is i _ h (stmt_is a (looping i) h)) (λ j k. tested_said w _ (judged_there j c k))
        stmt_is (stmt.For' w a c next m (more_of-Stmt b end_of-Stmt)) i h = closed_is i _ h (follow_is _ (turns_of (judged text) text file before result w c next (fold_stmt b)) (head_is a (opened i) (opened_is i h)) (turns_is w c next (fold_stmt b) (stmt_is b)))
        stmt_is (stmt.Return w e) i h = said_is i _ h (return_said w e i h)
        stmt_is (stmt.Break w) i h = said_is i _ h (rule_notes n w true i.in_loop)
        stmt_is (stmt.Continue w) i h = said_is i _ h (rule_notes n w true i.in_loop)
        stmt_is (stmt.Simple s) i h = said_is i _ h (simple_said s i h)

        part_is : (a : Part) (i : Inside) → IsInside i → IsSaid (fold_part a i)
        part_is (part.Decl d) i h = declareds_is d.base d.parts i h
        part_is (part.Stmt a) i h = stmt_is a i h

        parts_are : {m : _} (r : Row_of-Part m) → AllPieces (fold_of_parts (part_level (judged text) text file before result) (stmt_level (judged text) text file before result) r)
        parts_are end_of-Part = tt
        parts_are (more_of-Part a r) = (part_is a, parts_are r)

      said_of_part : (a : Part) → IsPiece (part_of text file before result a)
      said_of_part a = subst IsPiece (sym (folds_part (part_level (judged text) text file before result) (stmt_level (judged text) text file before result) a)) (part_is a)

      pub body_is : (l : List Part) → IsPiece (body_of (part_of text file before result) l)
      body_is [] i h = said_is i [] h tt
      body_is (p ∷ l) i h = follow_is _ (body_of (part_of text file before result) l) (said_of_part p i h) (body_is l)

    -- ---- functions

    result_base : (r : ResultType) (o : Option CType) → AllNotes n (base_of_result r o)
    result_base returned.Void o = tt
    result_base (returned.Value t) o = none_notes n o t.base

    struct_said : (t : ℕ) (o : Option CType) → AllNotes n (no_struct t o)
    struct_said t None = tt
    struct_said t (Some type) = rule_notes n t true _

    agreed_said : (t : ℕ) (f : Function) (o : Option Function) → AllNotes n (agreed t f o)
    agreed_said t f None = tt
    agreed_said t f (Some g) = rule_notes n t _ _

    numbered_said : (t : ℕ) (f : Function) (l : List Function) (o : Option ℕ) → AllNotes n (numbered t f l o)
    numbered_said t f l None = tt
    numbered_said t f l (Some k) = (tt, agreed_said t f (slice_get l k))

    function_said : (before : Before) (t : ℕ) (r : ResultType) (f : Function) (again : Bool) → AllNotes n (function_notes text file before t r f again)
    function_said before t r f again = both_notes n (base_of_result r f.result) _ (result_base r f.result) (both_notes n (no_struct t f.result) _ (struct_said t f.result)
        (both_notes n (numbered t f file.functions (function_in f.name file.functions)) _ (numbered_said t f file.functions (function_in f.name file.functions))
        (twice_said (again || (is_alias before f.name || is_some (variable_in f.name before.globals))) t)))

    module _ (before : Before) (is_before : IsBefore n before) where
      param_said : (p : Param) (o : Option CType) (i : Inside) → IsTyped n o → AllNotes n (param_notes text file before p o i)
      param_said p o i h = both_notes n (unknown_if_none o (p.ty).base) _ (none_notes n o (p.ty).base) (both_notes n (no_struct p.name o) _ (struct_said p.name o)
          (tt, both_notes n (declares_if file.sizes p.name o) _ (declares_said file.sizes p.name o h) (twice_said _ p.name)))

      params_is : (l : List Param) → IsPiece (params_of text file before l)
      params_is [] i h = said_is i [] h tt
      params_is (p ∷ l) i h = let o = param_type text file.tags before p.ty in let typed = param_is n text file.tags is_file.tags before p.ty is_before in
          follow_is _ (params_of text file before l) (first_is (param_notes text file before p o i) _ (param_said p o i typed) (said_is (declare (text p.name) o i) [] (declare_is (text p.name) o i typed h) tt)) (params_is l)

      pub func_said : (f : Func) → AllNotes n (func_notes text file (part_of text file) before f)
      func_said f = both_notes n (function_notes text file before f.name f.result (function_of text file before f) _) _ (function_said before f.name f.result (function_of text file before f) _)
          (follow_is (params_of text file before f.params at_body) (body_of (part_of text file before (result_type text file.tags before f.result)) f.body) (params_is f.params at_body (tt, tt))
          (body_is before is_before (result_type text file.tags before f.result) f.body)).notes

      proto_said : (earlier : List Text) (o : Option ℕ) → AllNotes n (proto_twice text file before earlier o)
      proto_said earlier None = tt
      proto_said earlier (Some name) = twice_said _ name

      pub protos_said : (t : ℕ) (earlier : List Text) (l : List ProtoParam) → AllNotes n (protos_notes text file before t earlier l)
      protos_said t earlier [] = tt
      protos_said t earlier (p ∷ l) = let o = param_type text file.tags before p.ty in both_notes n (unknown_if_none o (p.ty).base) _ (none_notes n o (p.ty).base)
          (both_notes n (no_struct (proto_name text file t p.name) o) _ (struct_said (proto_name text file t p.name) o) (both_notes n (proto_twice text file before earlier p.name) _ (proto_said earlier p.name) (protos_said t (with_proto text file earlier p.name) l)))

      -- ---- structs and globals

      field_said : (earlier : List Member) (b : Base) (d : Declarator) → AllNotes n (field_notes text file before earlier b d (declared_type text file.tags before b d))
      field_said earlier b d = name_said (declared_type text file.tags before b d) b d.lengths (means d.name (target.Field _)) file.sizes d.name _ (declared_is n text file.tags is_file.tags before b d is_before) tt (twice_said _ d.name)

      line_said : (earlier : List Member) (b : Base) (l : List Declarator) (rest : List Member → List Note) → ((m : List Member) → AllNotes n (rest m)) → AllNotes n (line_notes text file before earlier b l rest)
      line_said earlier b [] rest h = h earlier
      line_said earlier b (d ∷ l) rest h = both_notes n (field_notes text file before earlier b d (declared_type text file.tags before b d)) _ (field_said earlier b d) (line_said (earlier ++ field_of text file.tags before b d ∷ []) b l rest h)

      lines_said : (l : List source_field.Field) (earlier : List Member) → AllNotes n (lines_notes text file before l earlier)
      lines_said [] earlier = tt
      lines_said (f ∷ l) earlier = line_said earlier f.base f.parts (lines_notes text file before l) (lines_said l)

      size_said : (t : ℕ) (l : List source_field.Field) → AllNotes n (struct_size text file t before l)
      size_said t l = notes_if n (has_fault text file (lines_notes text file before l [])) [] _ tt (notes_if n _ (fault _ t ∷ []) [] (tt, tt) tt)

      pub fields_said : (t : ℕ) (l : List source_field.Field) → AllNotes n (fields_notes text file t before l)
      fields_said t l = both_notes n (struct_size text file t before l) _ (size_said t l) (lines_said l [])

      pub tag_said : (o : Option ℕ) → AllNotes n (tag_notes text file before o)
      tag_said None = tt
      tag_said (Some tag) = twice_said _ tag

    unknown_said : (o : Option ℕ) (t : ℕ) → AllNotes n (unknown_tag text file o t)
    unknown_said None t = (tt, tt)
    unknown_said (Some k) t = tt

    start_value_said : (s : Option GlobalStart) (o : Option CType) → AllNotes n (global_start text file s o)
    start_value_said None o = tt
    start_value_said (Some s) None = tt
    start_value_said (Some s) (Some type) = rule_notes n s.equals true _

    globals_said : (before : Before) (b : Base) (l : List GlobalPart) → IsBefore n before → AllNotes n (globals_notes text file before b l)
    globals_said before b [] h = tt
    globals_said before b (p ∷ l) h = let v = global_of text file.tags before b p in both_notes n (global_notes text file before b p v) _
        (name_said v.ty b (p.declarator).lengths (means (p.declarator).name v.target) file.sizes (p.declarator).name _ (declared_is n text file.tags is_file.tags before b p.declarator h) tt
        (both_notes n (twice_if _ (p.declarator).name) _ (twice_said _ (p.declarator).name) (start_value_said p.start v.ty)))
        (globals_said (after_global text file.tags before b p) b l (behind_global n text file.tags is_file.tags before b p h))

    -- ---- items

    item_said : (before : Before) (i : Item) → IsBefore n before → AllNotes n (item_notes text file (part_of text file) before i)
    item_said before (item.Alias tag name) h = both_notes n (unknown_tag text file (tag_in (text tag) file.tags) tag) _ (unknown_said (tag_in (text tag) file.tags) tag) (twice_said _ name)
    item_said before (item.Struct (struct.Tagged tag fields)) h = both_notes n (tag_notes text file before (Some tag)) _ (tag_said before h (Some tag)) (fields_said before h tag fields)
    item_said before (item.Struct (struct.Named tag fields name)) h = both_notes n (tag_notes text file before tag) _ (tag_said before h tag)
        (both_notes n (fields_notes text file (name_of_struct text file tag name) before fields) _ (fields_said before h (name_of_struct text file tag name) fields) (twice_said _ name))
    item_said before (item.Globals b parts) h = globals_said before b parts h
    item_said before (item.Func f) h = func_said before h f
    item_said before (item.Prototype r name params) h = both_notes n (function_notes text file before name r (prototype_of text file before r name params) false) _
        (function_said before name r (prototype_of text file before r name params) false) (protos_said before h name [] params)

    pub items_said : (before : Before) (l : List Item) → StructsLeft n text file.tags is_file.tags before l → IsBefore n before → AllNotes n (items_notes text file (part_of text file) before l)
    items_said before [] e h = tt
    items_said before (i ∷ l) e h = both_notes n (item_notes text file (part_of text file) before i) _ (item_said before i h)
        (items_said (after_item text file.tags before i) l (left n text file.tags is_file.tags before i l e) (behind n text file.tags is_file.tags before i l e h))

-- the types that are said of a file's tokens are made of its structs
pub all_said : (text : ℕ → Text) (items : List Item) → AllNotes (length (tags_of text items)) (notes_in text items)
all_said text items = items_said (length (tags_of text items)) text (file_of text items) (file_is text items) nothing_before items (omega arith) (nothing_is (length (tags_of text items)))
