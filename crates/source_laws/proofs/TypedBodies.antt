-- What is said of a program tells the type of each expression's token at most once, and of no other token.
use Rattle.std.proofs.Common.{◌≡◌, ℕ, ◌≤◌, Bool, true, false, List, [], ◌∷◌, ◌++◌, map, flat_map, slice_get, Option, Some, None, refl, sym, ap, subst, ◌∙◌, arith, append_assoc, if◌then◌else◌}
use Rattle.cc_model.specs.declared.checked.Target.{Target}
use Rattle.cc_model.specs.declared.checked.Target.TheVariants as target
use Rattle.cc_model.specs.declared.typing.CType.{CType}
use Rattle.cc_model.specs.declared.typing.Member.{Member}
use Rattle.cc_model.specs.declared.typing.Function.{Function}
use Rattle.cc_model.specs.declared.typing.Before.{Before}
use Rattle.cc_model.specs.declared.typing.File.{File}
use Rattle.cc_model.specs.declared.typing.Note.{Note}
use Rattle.cc_model.specs.declared.typing.Note.TheVariants.{Fault as fault, Means as means}
use Rattle.cc_model.specs.declared.typing.Operand.{Operand}
use Rattle.cc_model.specs.declared.trees.Base.{Base}
use Rattle.cc_model.specs.declared.trees.ResultType.{ResultType}
use Rattle.cc_model.specs.declared.trees.ResultType.TheVariants as returned
use Rattle.cc_model.specs.declared.trees.Length.{Length}
use Rattle.cc_model.specs.declared.trees.Declarator.{Declarator}
use Rattle.cc_model.specs.declared.trees.Declared.{Declared}
use Rattle.cc_model.specs.declared.trees.Initializer.{Initializer}
use Rattle.cc_model.specs.declared.trees.Expr.{Expr}
use Rattle.cc_model.specs.declared.trees.Simple.{Simple}
use Rattle.cc_model.specs.declared.trees.Simple.TheVariants as simple
use Rattle.cc_model.specs.declared.trees.Head.{Head}
use Rattle.cc_model.specs.declared.trees.Head.TheVariants as head
use Rattle.cc_model.specs.declared.trees.Stmt as source
use Rattle.cc_model.specs.declared.trees.Stmt.{Row_of-Part, more_of-Part, end_of-Part, more_of-Stmt, end_of-Stmt}
use Rattle.cc_model.specs.declared.trees.Stmt.TheVariants as stmt
use Rattle.cc_model.specs.declared.trees.Part.{Part}
use Rattle.cc_model.specs.declared.trees.Part.TheVariants as part
use Rattle.cc_model.specs.declared.trees.Param.{Param}
use Rattle.cc_model.specs.declared.trees.ProtoParam.{ProtoParam}
use Rattle.cc_model.specs.declared.trees.Func.{Func}
use Rattle.cc_model.specs.declared.trees.Field as source_field
use Rattle.cc_model.specs.declared.trees.StructDef.TheVariants as struct
use Rattle.cc_model.specs.declared.trees.GlobalStart.{GlobalStart}
use Rattle.cc_model.specs.declared.trees.GlobalPart.{GlobalPart}
use Rattle.cc_model.specs.declared.trees.Item.{Item}
use Rattle.cc_model.specs.declared.trees.Item.TheVariants as item
use Rattle.cc_model.specs.Types.{is_pointer, is_void}
use Rattle.cc_model.specs.Scopes.{Text, nothing_before, function_in, declared_type, param_type, result_type, tag_in, global_of, after_global, after_item, field_of, file_of}
use Rattle.cc_model.specs.Typing.{is_pointer_shape, rule, Judged, unknown_if_none, operand_of, notes_of, callee, call_done_of, call_done, judged}
use Rattle.cc_model.specs.Faults.{is_length, length_notes, twice_if, declares_if, Inside, Said, opened, looping, closed, through, taken, stored_if, assigned, updated, bumped, tested, returned_none, returned_value, view_at, judged_at, args_at, simple_notes, simple_notes_if, tested_if, return_notes, start_notes, local_notes, declareds_of, head_of, part_level, stmt_level, part_of, body_of, at_body, base_of_result, no_struct, agreed, numbered, function_notes, param_notes, params_of, function_of, func_notes, protos_notes, proto_name, proto_twice, with_proto, prototype_of, field_notes, line_notes, lines_notes, has_fault, struct_size, fields_notes, tag_notes, name_of_struct, unknown_tag, global_start, global_notes, globals_notes, item_notes, items_notes, notes_in}
use Rattle.cc_model.specs.CheckedProgram.{tokens_in, expression_if, simple_expressions, simple_expressions_if, start_expression, head_expressions, part_expressions, stmt_expressions, expressions_of_part, item_expressions, expression_tokens}
use Rattle.cc_model.proofs.Folds.{fold_of_stmt, fold_of_part, fold_of_parts, folds_part}
use Rattle.cc_model.specs.declared.tokens.Token.{Token}
use Rattle.cc_model.specs.declared.trees.Program.{Program}
use Rattle.cc_model.specs.Reads.{Reads}
use Rattle.source_laws.specs.Tokens.{times, typed_in}
use Rattle.source_laws.proofs.SpansItems.{tokens_once}
use Rattle.source_laws.proofs.Counting.{times_append}
use Rattle.source_laws.proofs.SpansBodies.{toks, toks_both, toks_each}
use Rattle.source_laws.proofs.TypedOnce.{Silent, silent_both, silent_if, Few, few_silent, few_none, few_both, few_then, few_behind, rule_silent, beside_silent, unknown_silent, size_silent, said_call, judged_few}

few_as : (n : List Note) (l m : List ℕ) → l ≡ m → Few n l → Few n m
few_as n l m e h = subst (λ x. Few n x) e h

-- with nothing behind
few_end : (n : List Note) (l : List ℕ) → Few n l → Few n (l ++ [])
few_end n l h = record { few = λ k. (let a = times_append k l [] in let b = h.few k in omega (arith, a, b)) }

for_toks : (a : Head) (c : Option Expr) (n : Option Simple) (l : List Expr) → toks (head_expressions a) ++ ((toks (expression_if c) ++ toks (simple_expressions_if n)) ++ toks l)
    ≡ toks (head_expressions a ++ (expression_if c ++ (simple_expressions_if n ++ l)))
for_toks a c n l = sym (toks_both (head_expressions a) (expression_if c ++ (simple_expressions_if n ++ l)) ∙ ap (λ m. toks (head_expressions a) ++ m)
    (toks_both (expression_if c) (simple_expressions_if n ++ l) ∙ ap (λ m. toks (expression_if c) ++ m) (toks_both (simple_expressions_if n) l)
    ∙ sym (append_assoc (toks (expression_if c)) (toks (simple_expressions_if n)) (toks l))))

-- ---- notes that say no type of an expression

silent_means : (t : ℕ) (w : Target) (l : List Note) → Silent l → Silent (means t w ∷ l)
silent_means t w l h = record { none = h.none }

twice_silent : (b : Bool) (t : ℕ) → Silent (twice_if b t)
twice_silent true t = (record { none = refl })
twice_silent false t = (record { none = refl })

lengths_silent : (l : List Length) → Silent (length_notes l)
lengths_silent [] = (record { none = refl })
lengths_silent (a ∷ l) = silent_both _ (length_notes l) (silent_if (is_length a.value) [] (fault _ a.token ∷ []) (record { none = refl }) (record { none = refl })) (lengths_silent l)

declares_silent : (sizes : List ℕ) (t : ℕ) (o : Option CType) → Silent (declares_if sizes t o)
declares_silent sizes t None = (record { none = refl })
declares_silent sizes t (Some type) = record { none = (size_silent sizes t type).none }

-- ---- rules of statements

taken_few : (t : ℕ) (type : CType) (e : Judged) (l : List ℕ) → Few e.notes l → Few (taken t type e) l
taken_few t type e l h = few_then e.notes _ l h (silent_both (rule t _ _) _ (rule_silent t _ _) (beside_silent (is_pointer type) e.shape))

stored_few : (t : ℕ) (o : Option CType) (e : Judged) (l : List ℕ) → Few e.notes l → Few (stored_if t o e) l
stored_few t None e l h = h
stored_few t (Some type) e l h = few_then e.notes _ l h (silent_both (rule t _ _) _ (rule_silent t _ _) (beside_silent (is_pointer type) e.shape))

assigned_few : (t : ℕ) (a b : Judged) (l m : List ℕ) → Few a.notes l → Few b.notes m → Few (assigned t a b) (l ++ (m ++ []))
assigned_few t a b l m h k = few_both a.notes _ l (m ++ []) h (few_end _ m (few_then b.notes _ m k (silent_both (rule t _ _) _ (rule_silent t _ _) (beside_silent (is_pointer_shape a.shape) b.shape))))

updated_few : (t : ℕ) (a b : Judged) (l m : List ℕ) → Few a.notes l → Few b.notes m → Few (updated t a b) (l ++ (m ++ []))
updated_few t a b l m h k = few_both a.notes _ l (m ++ []) h (few_end _ m (few_then b.notes _ m k (rule_silent t _ _)))

bumped_few : (t : ℕ) (a : Judged) (l : List ℕ) → Few a.notes l → Few (bumped t a) (l ++ [])
bumped_few t a l h = few_end _ l (few_then a.notes _ l h (rule_silent t _ _))

tested_few : (t : ℕ) (a : Judged) (l : List ℕ) → Few a.notes l → Few (tested t a) l
tested_few t a l h = few_then a.notes _ l h (rule_silent t _ _)

none_returned : (t : ℕ) (o : Option CType) → Silent (returned_none t o)
none_returned t None = (record { none = refl })
none_returned t (Some r) = rule_silent t true (is_void r)

few_if : (b : Bool) (n m : List Note) (l : List ℕ) → Few n l → Few m l → Few (if b then n else m) l
few_if true n m l h k = h
few_if false n m l h k = k

value_returned : (t : ℕ) (o : Option CType) (e : Judged) (l : List ℕ) → Few e.notes l → Few (returned_value t o e) l
value_returned t None e l h = h
value_returned t (Some r) e l h = few_if (is_void r) _ _ l (few_then e.notes _ l h (rule_silent t _ _)) (taken_few t r e l h)

module _ (text : ℕ → Text) (file : File) where
  module _ (before : Before) (result : Option CType) where
    abbrev J : Inside → Expr → Judged
    J i e = judged_at (judged text) text file before result i e

    there : (i : Inside) (e : Expr) → Few (judged_at (judged text) text file before result i e).notes (tokens_in e)
    there i e = judged_few text (view_at (judged text) text file before result i) e

    args_there : (i : Inside) (l : List Expr) → Few (notes_of (args_at (judged text) text file before result i l)) (toks l)
    args_there i [] = few_none []
    args_there i (e ∷ l) = few_both (judged_at (judged text) text file before result i e).notes (notes_of (args_at (judged text) text file before result i l)) (tokens_in e) (toks l) (there i e) (args_there i l)

    done_of : (i : Inside) (t : ℕ) (args : List Operand) (m : ℕ) (o : Option Function) (n : List Note) (l : List ℕ) → Few n l → Few (call_done_of text (view_at (judged text) text file before result i) t args m o n) l
    done_of i t args m None n l h = h
    done_of i t args m (Some g) n l h = said_call text (view_at (judged text) text file before result i) t args m g n l h

    done_few : (i : Inside) (t : ℕ) (args : List Operand) (o : Option ℕ) (n : List Note) (l : List ℕ) → Few n l → Few (call_done text (view_at (judged text) text file before result i) t args o n) l
    done_few i t args None n l h = few_then n (fault _ t ∷ []) l h (record { none = refl })
    done_few i t args (Some m) n l h = done_of i t args m (slice_get file.functions m) n l h

    simple_few : (s : Simple) (i : Inside) → Few (simple_notes (judged text) text file before result s i) (toks (simple_expressions s))
    simple_few (simple.Assign t l e) i = assigned_few t (J i l) (J i e) (tokens_in l) (tokens_in e) (there i l) (there i e)
    simple_few (simple.AddTo t l e) i = updated_few t (J i l) (J i e) (tokens_in l) (tokens_in e) (there i l) (there i e)
    simple_few (simple.SubFrom t l e) i = updated_few t (J i l) (J i e) (tokens_in l) (tokens_in e) (there i l) (there i e)
    simple_few (simple.MulBy t l e) i = updated_few t (J i l) (J i e) (tokens_in l) (tokens_in e) (there i l) (there i e)
    simple_few (simple.DivBy t l e) i = updated_few t (J i l) (J i e) (tokens_in l) (tokens_in e) (there i l) (there i e)
    simple_few (simple.RemBy t l e) i = updated_few t (J i l) (J i e) (tokens_in l) (tokens_in e) (there i l) (there i e)
    simple_few (simple.Increase t l) i = bumped_few t (J i l) (tokens_in l) (there i l)
    simple_few (simple.Decrease t l) i = bumped_few t (J i l) (tokens_in l) (there i l)
    simple_few (simple.IncreaseFirst t l) i = bumped_few t (J i l) (tokens_in l) (there i l)
    simple_few (simple.DecreaseFirst t l) i = bumped_few t (J i l) (tokens_in l) (there i l)
    simple_few (simple.Call t args) i = done_few i t (map operand_of (args_at (judged text) text file before result i args)) (callee text (view_at (judged text) text file before result i) t) _ (toks args) (args_there i args)
    simple_few (simple.Assert t e) i = few_end _ (tokens_in e) (tested_few t (J i e) (tokens_in e) (there i e))
    simple_few (simple.Assume t e) i = few_end _ (tokens_in e) (tested_few t (J i e) (tokens_in e) (there i e))
    simple_few (simple.Abort t) i = few_silent [] [] (record { none = refl })
    simple_few (simple.CrestInt t l) i = bumped_few t (J i l) (tokens_in l) (there i l)

    simple_if_few : (s : Option Simple) (i : Inside) → Few (simple_notes_if (judged text) text file before result s i) (toks (simple_expressions_if s))
    simple_if_few None i = few_silent [] [] (record { none = refl })
    simple_if_few (Some s) i = simple_few s i

    tested_if_few : (t : ℕ) (e : Option Expr) (i : Inside) → Few (tested_if (judged text) text file before result t e i) (toks (expression_if e))
    tested_if_few t None i = few_silent [] [] (record { none = refl })
    tested_if_few t (Some e) i = few_end _ (tokens_in e) (tested_few t (J i e) (tokens_in e) (there i e))

    return_few : (t : ℕ) (e : Option Expr) (i : Inside) → Few (return_notes (judged text) text file before result t e i) (toks (expression_if e))
    return_few t None i = few_silent (returned_none t result) [] (none_returned t result)
    return_few t (Some e) i = few_end _ (tokens_in e) (value_returned t result (J i e) (tokens_in e) (there i e))

    start_few : (s : Option Initializer) (o : Option CType) (i : Inside) → Few (start_notes (judged text) text file before result s o i) (toks (start_expression s))
    start_few None o i = few_silent [] [] (record { none = refl })
    start_few (Some s) o i = few_end _ (tokens_in s.value) (stored_few s.equals o (J i s.value) (tokens_in s.value) (there i s.value))

    local_silent : (b : Base) (d : Declarator) (o : Option CType) (i : Inside) → Silent (local_notes (judged text) text file before result b d o i)
    local_silent b d o i = silent_both (unknown_if_none o b) _ (unknown_silent o b) (silent_both (length_notes d.lengths) _ (lengths_silent d.lengths)
        (silent_means d.name (target.Local i.next) _ (silent_both (declares_if file.sizes d.name o) _ (declares_silent file.sizes d.name o) (twice_silent _ d.name))))

    abbrev of_declareds : List Declared → List ℕ
    of_declareds l = flat_map (λ p. toks (start_expression p.initializer)) l

    declareds_few : (b : Base) (l : List Declared) (i : Inside) → Few (declareds_of (judged text) text file before result b l i).notes (of_declareds l)
    declareds_few b [] i = few_silent [] [] (record { none = refl })
    declareds_few b (p ∷ l) i = let o = declared_type text file.tags before b p.declarator in
        few_both _ _ (toks (start_expression p.initializer)) (of_declareds l)
        (few_behind (local_notes (judged text) text file before result b p.declarator o i) _ (toks (start_expression p.initializer)) (local_silent b p.declarator o i) (start_few p.initializer o _))
        (declareds_few b l _)

    decl_few : (b : Base) (l : List Declared) (i : Inside) → Few (declareds_of (judged text) text file before result b l i).notes (toks (flat_map (λ p. start_expression p.initializer) l))
    decl_few b l i = few_as _ (of_declareds l) _ (sym (toks_each (λ p. start_expression p.initializer) l)) (declareds_few b l i)

    head_few : (a : Head) (i : Inside) → Few (head_of (judged text) text file before result a i).notes (toks (head_expressions a))
    head_few (head.Decl d) i = decl_few d.base d.parts i
    head_few (head.Simple s) i = simple_if_few s i

    abbrev fold_stmt : source.Stmt → Inside → Said
    fold_stmt a = fold_of_stmt (part_level (judged text) text file before result) (stmt_level (judged text) text file before result) a

    abbrev fold_part : Part → Inside → Said
    fold_part a = fold_of_part (part_level (judged text) text file before result) (stmt_level (judged text) text file before result) a

    abbrev Es : source.Stmt → List Expr
    Es a = fold_of_stmt part_expressions stmt_expressions a

    abbrev Ps : Part → List Expr
    Ps a = fold_of_part part_expressions stmt_expressions a

    mutual
      unfolding fold_of_stmt

      stmt_few : (a : source.Stmt) (i : Inside) → Few (fold_stmt a i).notes (toks (fold_of_stmt part_expressions stmt_expressions a))
      stmt_few stmt.Empty i = few_silent [] [] (record { none = refl })
      stmt_few (stmt.Block' m parts) i = parts_few parts (opened i)
      stmt_few (stmt.If' w c m (more_of-Stmt a end_of-Stmt)) i = few_both _ _ (tokens_in c) (toks (Es a)) (tested_few w (J i c) (tokens_in c) (there i c)) (stmt_few a i)
      stmt_few (stmt.IfElse' w c m (more_of-Stmt a end_of-Stmt) m' (more_of-Stmt b end_of-Stmt)) i = few_both _ _ (tokens_in c) (toks (Es a ++ Es b)) (tested_few w (J i c) (tokens_in c) (there i c))
          (few_as _ (toks (Es a) ++ toks (Es b)) _ (sym (toks_both (Es a) (Es b))) (few_both _ _ (toks (Es a)) (toks (Es b)) (stmt_few a i) (stmt_few b _)))
      stmt_few (stmt.While' w c m (more_of-Stmt a end_of-Stmt)) i = few_both _ _ (tokens_in c) (toks (Es a)) (tested_few w (J i c) (tokens_in c) (there i c)) (stmt_few a (looping i))
      stmt_few (stmt.Do' w m (more_of-Stmt a end_of-Stmt) c) i = few_as _ (toks (Es a) ++ (tokens_in c ++ [])) _ (sym (toks_both (Es a) (c ∷ [])))
          (few_both _ _ (toks (Es a)) (tokens_in c ++ []) (stmt_few a (looping i)) (few_end _ (tokens_in c) (tested_few w (J (closed i (fold_stmt a (looping i))).after c) (tokens_in c) (there (closed i (fold_stmt a (looping i))).after c))))
      stmt_few (stmt.For' w a c next m (more_of-Stmt b end_of-Stmt)) i =
          few_as _ (toks (head_expressions a) ++ ((toks (expression_if c) ++ toks (simple_expressions_if next)) ++ toks (Es b))) _ (for_toks a c next (Es b))
          (few_both _ _ (toks (head_expressions a)) ((toks (expression_if c) ++ toks (simple_expressions_if next)) ++ toks (Es b)) (head_few a (opened i))
          (few_both _ _ (toks (expression_if c) ++ toks (simple_expressions_if next)) (toks (Es b)) (few_both _ _ (toks (expression_if c)) (toks (simple_expressions_if next)) (tested_if_few w c _) (simple_if_few next _)) (stmt_few b _)))
      stmt_few (stmt.Return w e) i = return_few w e i
      stmt_few (stmt.Break w) i = few_silent _ [] (rule_silent w true i.in_loop)
      stmt_few (stmt.Continue w) i = few_silent _ [] (rule_silent w true i.in_loop)
      stmt_few (stmt.Simple s) i = simple_few s i

      part_few : (a : Part) (i : Inside) → Few (fold_part a i).notes (toks (fold_of_part part_expressions stmt_expressions a))
      part_few (part.Decl d) i = decl_few d.base d.parts i
      part_few (part.Stmt a) i = stmt_few a i

      parts_few : {m : _} (r : Row_of-Part m) (i : Inside) → Few (through (fold_of_parts (part_level (judged text) text file before result) (stmt_level (judged text) text file before result) r) i).notes (toks (flat_map (λ l. l) (fold_of_parts part_expressions stmt_expressions r)))
      parts_few end_of-Part i = few_silent [] [] (record { none = refl })
      parts_few (more_of-Part a r) i = few_as _ (toks (Ps a) ++ toks (flat_map (λ l. l) (fold_of_parts part_expressions stmt_expressions r))) _
          (sym (toks_both (Ps a) (flat_map (λ l. l) (fold_of_parts part_expressions stmt_expressions r)))) (few_both _ _ (toks (Ps a)) (toks (flat_map (λ l. l) (fold_of_parts part_expressions stmt_expressions r))) (part_few a i) (parts_few r _))

    part_there : (a : Part) (i : Inside) → Few (part_of text file before result a i).notes (toks (expressions_of_part a))
    part_there a i = subst (λ p. Few (p i).notes (toks (expressions_of_part a))) (sym (folds_part (part_level (judged text) text file before result) (stmt_level (judged text) text file before result) a))
        (few_as _ (toks (Ps a)) _ (sym (ap toks (folds_part part_expressions stmt_expressions a))) (part_few a i))

    body_few : (l : List Part) (i : Inside) → Few (body_of (part_of text file before result) l i).notes (flat_map (λ p. toks (expressions_of_part p)) l)
    body_few [] i = few_none []
    body_few (p ∷ l) i = few_both _ _ (toks (expressions_of_part p)) (flat_map (λ p. toks (expressions_of_part p)) l) (part_there p i) (body_few l _)

  -- ---- functions

  result_silent : (r : ResultType) (o : Option CType) → Silent (base_of_result r o)
  result_silent returned.Void o = record { none = refl }
  result_silent (returned.Value t) o = unknown_silent o t.base

  struct_silent : (t : ℕ) (o : Option CType) → Silent (no_struct t o)
  struct_silent t None = record { none = refl }
  struct_silent t (Some type) = rule_silent t true _

  agreed_silent : (t : ℕ) (f : Function) (o : Option Function) → Silent (agreed t f o)
  agreed_silent t f None = record { none = refl }
  agreed_silent t f (Some g) = rule_silent t _ _

  numbered_silent : (t : ℕ) (f : Function) (l : List Function) (o : Option ℕ) → Silent (numbered t f l o)
  numbered_silent t f l None = record { none = refl }
  numbered_silent t f l (Some k) = silent_means t (target.Func k) _ (agreed_silent t f (slice_get l k))

  function_silent : (before : Before) (t : ℕ) (r : ResultType) (f : Function) (again : Bool) → Silent (function_notes text file before t r f again)
  function_silent before t r f again = silent_both (base_of_result r f.result) _ (result_silent r f.result) (silent_both (no_struct t f.result) _ (struct_silent t f.result)
      (silent_both (numbered t f file.functions (function_in f.name file.functions)) _ (numbered_silent t f file.functions (function_in f.name file.functions)) (twice_silent _ t)))

  module _ (before : Before) where
    param_silent : (p : Param) (o : Option CType) (i : Inside) → Silent (param_notes text file before p o i)
    param_silent p o i = silent_both (unknown_if_none o (p.ty).base) _ (unknown_silent o (p.ty).base) (silent_both (no_struct p.name o) _ (struct_silent p.name o)
        (silent_means p.name (target.Local i.next) _ (silent_both (declares_if file.sizes p.name o) _ (declares_silent file.sizes p.name o) (twice_silent _ p.name))))

    params_silent : (l : List Param) (i : Inside) → Silent (params_of text file before l i).notes
    params_silent [] i = record { none = refl }
    params_silent (p ∷ l) i = silent_both _ _ (silent_both (param_notes text file before p (param_type text file.tags before p.ty) i) [] (param_silent p (param_type text file.tags before p.ty) i) (record { none = refl })) (params_silent l _)

    func_few : (f : Func) → Few (func_notes text file (part_of text file) before f) (toks (flat_map expressions_of_part f.body))
    func_few f = few_as _ (flat_map (λ p. toks (expressions_of_part p)) f.body) _ (sym (toks_each expressions_of_part f.body))
        (few_behind (function_notes text file before f.name f.result (function_of text file before f) _) _ _ (function_silent before f.name f.result (function_of text file before f) _)
        (few_behind (params_of text file before f.params at_body).notes _ _ (params_silent f.params at_body) (body_few before (result_type text file.tags before f.result) f.body _)))

    proto_silent : (earlier : List Text) (o : Option ℕ) → Silent (proto_twice text file before earlier o)
    proto_silent earlier None = record { none = refl }
    proto_silent earlier (Some name) = twice_silent _ name

    protos_silent : (t : ℕ) (earlier : List Text) (l : List ProtoParam) → Silent (protos_notes text file before t earlier l)
    protos_silent t earlier [] = record { none = refl }
    protos_silent t earlier (p ∷ l) = let o = param_type text file.tags before p.ty in silent_both (unknown_if_none o (p.ty).base) _ (unknown_silent o (p.ty).base)
        (silent_both (no_struct (proto_name text file t p.name) o) _ (struct_silent (proto_name text file t p.name) o) (silent_both (proto_twice text file before earlier p.name) _ (proto_silent earlier p.name)
        (protos_silent t (with_proto text file earlier p.name) l)))

    -- ---- structs and globals

    field_silent : (earlier : List Member) (b : Base) (d : Declarator) → Silent (field_notes text file before earlier b d (declared_type text file.tags before b d))
    field_silent earlier b d = let o = declared_type text file.tags before b d in silent_both (unknown_if_none o b) _ (unknown_silent o b) (silent_both (length_notes d.lengths) _ (lengths_silent d.lengths)
        (silent_means d.name (target.Field _) _ (silent_both (declares_if file.sizes d.name o) _ (declares_silent file.sizes d.name o) (twice_silent _ d.name))))

    line_silent : (earlier : List Member) (b : Base) (l : List Declarator) (rest : List Member → List Note) → ((m : List Member) → Silent (rest m)) → Silent (line_notes text file before earlier b l rest)
    line_silent earlier b [] rest h = h earlier
    line_silent earlier b (d ∷ l) rest h = silent_both (field_notes text file before earlier b d (declared_type text file.tags before b d)) _ (field_silent earlier b d)
        (line_silent (earlier ++ field_of text file.tags before b d ∷ []) b l rest h)

    lines_silent : (l : List source_field.Field) (earlier : List Member) → Silent (lines_notes text file before l earlier)
    lines_silent [] earlier = record { none = refl }
    lines_silent (f ∷ l) earlier = line_silent earlier f.base f.parts (lines_notes text file before l) (lines_silent l)

    sized_silent : (t : ℕ) (l : List source_field.Field) → Silent (struct_size text file t before l)
    sized_silent t l = silent_if (has_fault text file (lines_notes text file before l [])) [] _ (record { none = refl }) (silent_if _ (fault _ t ∷ []) [] (record { none = refl }) (record { none = refl }))

    fields_silent : (t : ℕ) (l : List source_field.Field) → Silent (fields_notes text file t before l)
    fields_silent t l = silent_both (struct_size text file t before l) _ (sized_silent t l) (lines_silent l [])

    tag_silent : (o : Option ℕ) → Silent (tag_notes text file before o)
    tag_silent None = record { none = refl }
    tag_silent (Some tag) = twice_silent _ tag

  tag_known : (o : Option ℕ) (t : ℕ) → Silent (unknown_tag text file o t)
  tag_known None t = record { none = refl }
  tag_known (Some k) t = record { none = refl }

  start_silent : (s : Option GlobalStart) (o : Option CType) → Silent (global_start text file s o)
  start_silent None o = record { none = refl }
  start_silent (Some s) None = record { none = refl }
  start_silent (Some s) (Some type) = rule_silent s.equals true _

  globals_silent : (before : Before) (b : Base) (l : List GlobalPart) → Silent (globals_notes text file before b l)
  globals_silent before b [] = record { none = refl }
  globals_silent before b (p ∷ l) = let v = global_of text file.tags before b p in silent_both (global_notes text file before b p v) _
      (silent_both (unknown_if_none v.ty b) _ (unknown_silent v.ty b) (silent_both (length_notes (p.declarator).lengths) _ (lengths_silent (p.declarator).lengths)
      (silent_means (p.declarator).name v.target _ (silent_both (declares_if file.sizes (p.declarator).name v.ty) _ (declares_silent file.sizes (p.declarator).name v.ty)
      (silent_both (twice_if _ (p.declarator).name) _ (twice_silent _ (p.declarator).name) (start_silent p.start v.ty))))))
      (globals_silent (after_global text file.tags before b p) b l)

  -- ---- items

  item_few : (before : Before) (i : Item) → Few (item_notes text file (part_of text file) before i) (toks (item_expressions i))
  item_few before (item.Alias tag name) = few_silent _ [] (silent_both (unknown_tag text file (tag_in (text tag) file.tags) tag) _ (tag_known (tag_in (text tag) file.tags) tag) (twice_silent _ name))
  item_few before (item.Struct (struct.Tagged tag fields)) = few_silent _ [] (silent_both (tag_notes text file before (Some tag)) _ (tag_silent before (Some tag)) (fields_silent before tag fields))
  item_few before (item.Struct (struct.Named tag fields name)) = few_silent _ [] (silent_both (tag_notes text file before tag) _ (tag_silent before tag)
      (silent_both (fields_notes text file (name_of_struct text file tag name) before fields) _ (fields_silent before (name_of_struct text file tag name) fields) (twice_silent _ name)))
  item_few before (item.Globals b parts) = few_silent _ [] (globals_silent before b parts)
  item_few before (item.Func f) = func_few before f
  item_few before (item.Prototype r name params) = few_silent _ [] (silent_both (function_notes text file before name r (prototype_of text file before r name params) false) _
      (function_silent before name r (prototype_of text file before r name params) false) (protos_silent before name [] params))

  items_few : (before : Before) (l : List Item) → Few (items_notes text file (part_of text file) before l) (flat_map (λ i. toks (item_expressions i)) l)
  items_few before [] = few_none []
  items_few before (i ∷ l) = few_both (item_notes text file (part_of text file) before i) (items_notes text file (part_of text file) (after_item text file.tags before i) l) (toks (item_expressions i)) (flat_map (λ i. toks (item_expressions i)) l)
      (item_few before i) (items_few (after_item text file.tags before i) l)

-- a token's type is said no more often than the token is that of an expression
pub typed_few : (text : ℕ → Text) (items : List Item) (k : ℕ) → times k (typed_in (notes_in text items)) ≤ times k (expression_tokens items)
typed_few text items k = (few_as (notes_in text items) (flat_map (λ i. toks (item_expressions i)) items) (expression_tokens items) (sym (toks_each item_expressions items)) (items_few text (file_of text items) nothing_before items)).few k

pub typed_once : (fits : ℕ → ℕ → Bool) (tokens : List Token) (p : Program) (text : ℕ → Text) → Reads fits tokens p → (k : ℕ) → times k (typed_in (notes_in text p.items)) ≤ 1
typed_once fits tokens p text h k = let a = typed_few text p.items k in let b = tokens_once fits tokens p h k in omega (arith, a, b)
