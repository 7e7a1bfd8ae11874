-- A statement leaves the scopes as they were, and a part of a body changes the innermost one alone.
use Rattle.std.proofs.Common.{◌≡◌, ◌∙◌, refl, sym, ap, subst, ℕ, List, [], ◌∷◌, ◌++◌, map, Option}
use Rattle.cc_model.specs.declared.typing.CType.{CType}
use Rattle.cc_model.specs.declared.typing.Variable.{Variable}
use Rattle.cc_model.specs.declared.typing.File.{File}
use Rattle.cc_model.specs.declared.typing.Before.{Before}
use Rattle.cc_model.specs.declared.trees.Base.{Base}
use Rattle.cc_model.specs.declared.trees.Declared.{Declared}
use Rattle.cc_model.specs.declared.trees.Expr.{Expr}
use Rattle.cc_model.specs.declared.trees.Head.{Head}
use Rattle.cc_model.specs.declared.trees.Head.TheVariants as head
use Rattle.cc_model.specs.declared.trees.Stmt as source
use Rattle.cc_model.specs.declared.trees.Stmt.{more_of-Stmt, end_of-Stmt}
use Rattle.cc_model.specs.declared.trees.Stmt.TheVariants as stmt
use Rattle.cc_model.specs.declared.trees.Part.{Part}
use Rattle.cc_model.specs.declared.trees.Part.TheVariants as part
use Rattle.cc_model.specs.Scopes.{Text, View, declared_type}
use Rattle.cc_model.specs.Typing.{Judged, judged}
use Rattle.cc_model.specs.Faults.{Inside, Said, first_say, declare, with_variable, through, declareds_of, head_of, part_level, stmt_level, part_of, body_of}
use Rattle.cc_model.proofs.Folds.{fold_of_stmt, fold_of_part, folds_stmt, folds_part}
use Rattle.c_scopes.specs.Places.{around, stmt_of}

-- ---- scopes

pub around_last : (l : List (List Variable)) (s : List Variable) → around (l ++ s ∷ []) ≡ l
around_last [] s = refl
around_last (a ∷ []) s = refl
around_last (a ∷ (b ∷ l)) s = ap (λ x. a ∷ x) (around_last (b ∷ l) s)

pub with_last : (v : Variable) (l : List (List Variable)) (s : List Variable) → with_variable v (l ++ s ∷ []) ≡ l ++ (s ++ v ∷ []) ∷ []
with_last v [] s = refl
with_last v (a ∷ []) s = refl
with_last v (a ∷ (b ∷ l)) s = ap (λ x. a ∷ x) (with_last v (b ∷ l) s)

around_with : (v : Variable) (l : List (List Variable)) → around (with_variable v l) ≡ around l
around_with v [] = refl
around_with v (a ∷ []) = refl
around_with v (a ∷ (b ∷ [])) = refl
around_with v (a ∷ (b ∷ (c ∷ l))) = ap (λ x. a ∷ x) (around_with v (b ∷ (c ∷ l)))

-- ---- what a piece does to a place

-- it leaves the scopes, and whether a loop is around
pub record Restores (piece : Inside → Said) (i : Inside) : Type 0 where
  pub scopes : ((piece i).after).scopes ≡ i.scopes
  pub in_loop : ((piece i).after).in_loop ≡ i.in_loop

-- it leaves the scopes around the innermost one, and whether a loop is around
pub record Keeps (piece : Inside → Said) (i : Inside) : Type 0 where
  pub scopes : around ((piece i).after).scopes ≡ around i.scopes
  pub in_loop : ((piece i).after).in_loop ≡ i.in_loop

module _ (judge : View → Expr → Judged) (text : ℕ → Text) (file : File) (before : Before) (result : Option CType) where
  pub restores_of : (s : source.Stmt) (i : Inside) → Restores (fold_of_stmt (part_level judge text file before result) (stmt_level judge text file before result) s) i
  unfolding fold_of_stmt
  restores_of stmt.Empty i = record { scopes = refl; in_loop = refl }
  restores_of (stmt.Block' n parts) i = record { scopes = refl; in_loop = refl }
  restores_of (stmt.If' w c n (more_of-Stmt a end_of-Stmt)) i = record { scopes = (restores_of a i).scopes; in_loop = (restores_of a i).in_loop }
  restores_of (stmt.IfElse' w c n (more_of-Stmt a end_of-Stmt) m (more_of-Stmt b end_of-Stmt)) i = record {
    scopes = (restores_of b ((fold_of_stmt (part_level judge text file before result) (stmt_level judge text file before result) a i).after)).scopes ∙ (restores_of a i).scopes;
    in_loop = (restores_of b ((fold_of_stmt (part_level judge text file before result) (stmt_level judge text file before result) a i).after)).in_loop ∙ (restores_of a i).in_loop;
  }
  restores_of (stmt.While' w c n (more_of-Stmt a end_of-Stmt)) i = record { scopes = refl; in_loop = refl }
  restores_of (stmt.Do' w n (more_of-Stmt a end_of-Stmt) c) i = record { scopes = refl; in_loop = refl }
  restores_of (stmt.For' w h c next n (more_of-Stmt a end_of-Stmt)) i = record { scopes = refl; in_loop = refl }
  restores_of (stmt.Return w e) i = record { scopes = refl; in_loop = refl }
  restores_of (stmt.Break w) i = record { scopes = refl; in_loop = refl }
  restores_of (stmt.Continue w) i = record { scopes = refl; in_loop = refl }
  restores_of (stmt.Simple x) i = record { scopes = refl; in_loop = refl }

  pub keeps_declareds : (b : Base) (l : List Declared) (i : Inside) → Keeps (declareds_of judge text file before result b l) i
  keeps_declareds b [] i = record { scopes = refl; in_loop = refl }
  keeps_declareds b (p ∷ l) i = record {
    scopes = (keeps_declareds b l (declare (text (p.declarator).name) (declared_type text file.tags before b p.declarator) i)).scopes ∙ around_with _ i.scopes;
    in_loop = (keeps_declareds b l (declare (text (p.declarator).name) (declared_type text file.tags before b p.declarator) i)).in_loop;
  }

  pub keeps_head : (h : Head) (i : Inside) → Keeps (head_of judge text file before result h) i
  keeps_head (head.Decl d) i = keeps_declareds d.base d.parts i
  keeps_head (head.Simple s) i = record { scopes = refl; in_loop = refl }

module _ (text : ℕ → Text) (file : File) (before : Before) (result : Option CType) where
  pub restores : (s : source.Stmt) (i : Inside) → Restores (stmt_of text file before result s) i
  restores s i = subst (λ f. Restores f i) (sym (folds_stmt (part_level (judged text) text file before result) (stmt_level (judged text) text file before result) s)) (restores_of (judged text) text file before result s i)

  keeps_written : (p : Part) (i : Inside) → Keeps (fold_of_part (part_level (judged text) text file before result) (stmt_level (judged text) text file before result) p) i
  unfolding fold_of_part
  keeps_written (part.Decl d) i = keeps_declareds (judged text) text file before result d.base d.parts i
  keeps_written (part.Stmt s) i = record { scopes = ap around (restores_of (judged text) text file before result s i).scopes; in_loop = (restores_of (judged text) text file before result s i).in_loop }

  pub keeps_part : (p : Part) (i : Inside) → Keeps (part_of text file before result p) i
  keeps_part p i = subst (λ f. Keeps f i) (sym (folds_part (part_level (judged text) text file before result) (stmt_level (judged text) text file before result) p)) (keeps_written p i)

  pub keeps_body : (l : List Part) (i : Inside) → Keeps (body_of (part_of text file before result) l) i
  keeps_body [] i = record { scopes = refl; in_loop = refl }
  keeps_body (p ∷ l) i = record {
    scopes = (keeps_body l (part_of text file before result p i).after).scopes ∙ (keeps_part p i).scopes;
    in_loop = (keeps_body l (part_of text file before result p i).after).in_loop ∙ (keeps_part p i).in_loop;
  }

-- the parts of a block, one after the other
pub through_is : (part : Part → Inside → Said) (l : List Part) (i : Inside) → through (map part l) i ≡ body_of part l i
through_is part [] i = refl
through_is part (p ∷ l) i = ap (first_say (part p i).notes) (through_is part l (part p i).after)
