-- What a walk over a statement covers, by what the walks over its pieces cover.
use Rattle.std.proofs.Common.{◌≡◌, ◌∙◌, sym, ap, ℕ, List, [], ◌∷◌, ◌++◌, flat_map, Option, append_assoc}
use Rattle.std.proofs.lemmas.List.Folds.{flat_map-map}
use Rattle.cc_model.specs.declared.trees.Expr.{Expr}
use Rattle.cc_model.specs.declared.trees.Simple.{Simple}
use Rattle.cc_model.specs.declared.trees.Head.{Head}
use Rattle.cc_model.specs.declared.trees.Part.{Part}
use Rattle.cc_model.specs.declared.trees.Stmt.{Stmt}
use Rattle.cc_model.specs.declared.trees.Stmt.TheVariants as stmt
use Rattle.cc_model.specs.declared.trees.Part.TheOpen as levels
use Rattle.cc_model.specs.declared.trees.Part.TheFolds.{fold-roll-Stmt}
use Rattle.cc_model.specs.CheckedProgram.{part_expressions, stmt_expressions, expression_if, simple_expressions_if, head_expressions}
use Rattle.cc_model.specs.Sites.{Mark, sites_of, part_sites, stmt_sites, truth_sites_if, simple_sites_if, head_sites}
use Rattle.c_trees.specs.declared.walk.Walk.{Walk}
use Rattle.c_trees.specs.Forms.{decided}
use Rattle.c_trees.specs.Walks.{Covers, expressions_in, expressions_of, marks_in, marks_of}
use Rattle.c_trees.proofs.Walking.{beyond, covers_as}

pub block_done : (x y : Walk) (s : Stmt) (parts items : List Part) → s ≡ stmt.Block parts → items ≡ parts
    → Covers x y (flat_map expressions_of items) (flat_map marks_of items) → Covers x y (expressions_in s) (marks_in s)
block_done x y s parts items h g p = covers_as x y (expressions_in s) (flat_map expressions_of items) (marks_in s) (flat_map marks_of items)
    (ap expressions_in (h ∙ sym (stmt.rolls-Block parts)) ∙ fold-roll-Stmt (List Expr) (List Expr) part_expressions stmt_expressions (levels.Block parts) ∙ flat_map-map (λ (l : List Expr). l) expressions_of parts ∙ ap (flat_map expressions_of) (sym g))
    (ap marks_in (h ∙ sym (stmt.rolls-Block parts)) ∙ fold-roll-Stmt (List Mark) (List Mark) (part_sites sites_of) (stmt_sites sites_of) (levels.Block parts) ∙ flat_map-map (λ (l : List Mark). l) marks_of parts ∙ ap (flat_map marks_of) (sym g))
    p

pub if_done : (x y z : Walk) (s : Stmt) (w : ℕ) (c : Expr) (a b : Stmt) → s ≡ stmt.If w c a → b ≡ a → Covers x y (c ∷ []) (decided c) → Covers y z (expressions_in b) (marks_in b) → Covers x z (expressions_in s) (marks_in s)
if_done x y z s w c a b h g p q = covers_as x z (expressions_in s) (c ∷ expressions_in b) (marks_in s) (decided c ++ marks_in b)
    (ap expressions_in (h ∙ sym (stmt.rolls-If w c a)) ∙ fold-roll-Stmt (List Expr) (List Expr) part_expressions stmt_expressions (levels.If w c a) ∙ ap (λ d. c ∷ expressions_in d) (sym g))
    (ap marks_in (h ∙ sym (stmt.rolls-If w c a)) ∙ fold-roll-Stmt (List Mark) (List Mark) (part_sites sites_of) (stmt_sites sites_of) (levels.If w c a) ∙ ap (λ d. decided c ++ marks_in d) (sym g))
    (beyond x y z (c ∷ []) (expressions_in b) (decided c) (marks_in b) p q)

pub while_done : (x y z : Walk) (s : Stmt) (w : ℕ) (c : Expr) (a b : Stmt) → s ≡ stmt.While w c a → b ≡ a → Covers x y (c ∷ []) (decided c) → Covers y z (expressions_in b) (marks_in b) → Covers x z (expressions_in s) (marks_in s)
while_done x y z s w c a b h g p q = covers_as x z (expressions_in s) (c ∷ expressions_in b) (marks_in s) (decided c ++ marks_in b)
    (ap expressions_in (h ∙ sym (stmt.rolls-While w c a)) ∙ fold-roll-Stmt (List Expr) (List Expr) part_expressions stmt_expressions (levels.While w c a) ∙ ap (λ d. c ∷ expressions_in d) (sym g))
    (ap marks_in (h ∙ sym (stmt.rolls-While w c a)) ∙ fold-roll-Stmt (List Mark) (List Mark) (part_sites sites_of) (stmt_sites sites_of) (levels.While w c a) ∙ ap (λ d. decided c ++ marks_in d) (sym g))
    (beyond x y z (c ∷ []) (expressions_in b) (decided c) (marks_in b) p q)

pub do_done : (x y z : Walk) (s : Stmt) (w : ℕ) (c : Expr) (a b : Stmt) → s ≡ stmt.Do w a c → b ≡ a → Covers x y (expressions_in b) (marks_in b) → Covers y z (c ∷ []) (decided c) → Covers x z (expressions_in s) (marks_in s)
do_done x y z s w c a b h g p q = covers_as x z (expressions_in s) (expressions_in b ++ c ∷ []) (marks_in s) (marks_in b ++ decided c)
    (ap expressions_in (h ∙ sym (stmt.rolls-Do w a c)) ∙ fold-roll-Stmt (List Expr) (List Expr) part_expressions stmt_expressions (levels.Do w a c) ∙ ap (λ d. expressions_in d ++ c ∷ []) (sym g))
    (ap marks_in (h ∙ sym (stmt.rolls-Do w a c)) ∙ fold-roll-Stmt (List Mark) (List Mark) (part_sites sites_of) (stmt_sites sites_of) (levels.Do w a c) ∙ ap (λ d. marks_in d ++ decided c) (sym g))
    (beyond x y z (expressions_in b) (c ∷ []) (marks_in b) (decided c) p q)

pub if_else_done : (x y z v : Walk) (s : Stmt) (w : ℕ) (c : Expr) (a b d e : Stmt) → s ≡ stmt.IfElse w c a b → d ≡ a → e ≡ b
    → Covers x y (c ∷ []) (decided c) → Covers y z (expressions_in d) (marks_in d) → Covers z v (expressions_in e) (marks_in e) → Covers x v (expressions_in s) (marks_in s)
if_else_done x y z v s w c a b d e h g i p q r = covers_as x v (expressions_in s) (c ∷ (expressions_in d ++ expressions_in e)) (marks_in s) (decided c ++ (marks_in d ++ marks_in e))
    (ap expressions_in (h ∙ sym (stmt.rolls-IfElse w c a b)) ∙ fold-roll-Stmt (List Expr) (List Expr) part_expressions stmt_expressions (levels.IfElse w c a b)
    ∙ ap (λ k. c ∷ (expressions_in k ++ expressions_in b)) (sym g) ∙ ap (λ k. c ∷ (expressions_in d ++ expressions_in k)) (sym i))
    (ap marks_in (h ∙ sym (stmt.rolls-IfElse w c a b)) ∙ fold-roll-Stmt (List Mark) (List Mark) (part_sites sites_of) (stmt_sites sites_of) (levels.IfElse w c a b)
    ∙ ap (λ k. decided c ++ (marks_in k ++ marks_in b)) (sym g) ∙ ap (λ k. decided c ++ (marks_in d ++ marks_in k)) (sym i))
    (beyond x y v (c ∷ []) (expressions_in d ++ expressions_in e) (decided c) (marks_in d ++ marks_in e) p (beyond y z v (expressions_in d) (expressions_in e) (marks_in d) (marks_in e) q r))

pub for_done : (x y z u : Walk) (s : Stmt) (w : ℕ) (h : Head) (c : Option Expr) (n : Option Simple) (a b : Stmt) → s ≡ stmt.For w h c n a → b ≡ a
    → Covers x y (head_expressions h) (head_sites sites_of h) → Covers y z (expression_if c ++ simple_expressions_if n) (truth_sites_if sites_of c ++ simple_sites_if sites_of n)
    → Covers z u (expressions_in b) (marks_in b) → Covers x u (expressions_in s) (marks_in s)
for_done x y z u s w h c n a b i g p q t = covers_as x u (expressions_in s) (head_expressions h ++ ((expression_if c ++ simple_expressions_if n) ++ expressions_in b)) (marks_in s) (head_sites sites_of h ++ ((truth_sites_if sites_of c ++ simple_sites_if sites_of n) ++ marks_in b))
    (ap expressions_in (i ∙ sym (stmt.rolls-For w h c n a)) ∙ fold-roll-Stmt (List Expr) (List Expr) part_expressions stmt_expressions (levels.For w h c n a)
    ∙ ap (λ k. head_expressions h ++ (expression_if c ++ (simple_expressions_if n ++ expressions_in k))) (sym g)
    ∙ ap (λ k. head_expressions h ++ k) (sym (append_assoc (expression_if c) (simple_expressions_if n) (expressions_in b))))
    (ap marks_in (i ∙ sym (stmt.rolls-For w h c n a)) ∙ fold-roll-Stmt (List Mark) (List Mark) (part_sites sites_of) (stmt_sites sites_of) (levels.For w h c n a)
    ∙ ap (λ k. head_sites sites_of h ++ (truth_sites_if sites_of c ++ (simple_sites_if sites_of n ++ marks_in k))) (sym g)
    ∙ ap (λ k. head_sites sites_of h ++ k) (sym (append_assoc (truth_sites_if sites_of c) (simple_sites_if sites_of n) (marks_in b))))
    (beyond x y u (head_expressions h) ((expression_if c ++ simple_expressions_if n) ++ expressions_in b) (head_sites sites_of h) ((truth_sites_if sites_of c ++ simple_sites_if sites_of n) ++ marks_in b) p
    (beyond y z u (expression_if c ++ simple_expressions_if n) (expressions_in b) (truth_sites_if sites_of c ++ simple_sites_if sites_of n) (marks_in b) q t))
