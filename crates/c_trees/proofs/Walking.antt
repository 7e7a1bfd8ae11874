-- Steps of a walk, one after the other.
use Rattle.std.proofs.Common.{◌≡◌, ◌∙◌, refl, sym, ap, ℕ, ◌≤◌, List, [], ◌++◌, map, flat_map, drop, length, append_assoc, append-nil, Result, Ok, Err, OnOk}
use Rattle.std.proofs.lemmas.List.{drop_all}
use Rattle.std.proofs.lemmas.Grind.{flat_map-append}
use Rattle.cc_model.specs.declared.trees.Expr.{Expr}
use Rattle.cc_model.specs.CheckedProgram.{tokens_in}
use Rattle.cc_model.specs.Sites.{Mark}
use Rattle.c_trees.specs.declared.walk.Walk.{Walk}
use Rattle.c_trees.specs.Walks.{mark, Adds, Covers}

pub on_ok : {A E : Type 0} {P Q : Type 0} (r : Result A E) → OnOk r P → (P → Q) → OnOk r Q
on_ok (Ok a) h f = f h
on_ok (Err e) h f = tt

behind : {X : Type 0} (a b c s t : List X) → b ≡ a ++ s → c ≡ b ++ t → c ≡ a ++ (s ++ t)
behind a b c s t p q = q ∙ ap (λ x. x ++ t) p ∙ append_assoc a s t

pub still : (a : Walk) → Adds a a [] []
still a = record { tokens = sym (append-nil a.tokens); marks = sym (append-nil (map mark a.marks)) }

pub then : (a b c : Walk) (s t : List ℕ) (m n : List Mark) → Adds a b s m → Adds b c t n → Adds a c (s ++ t) (m ++ n)
then a b c s t m n p q = record {
  tokens = behind a.tokens b.tokens c.tokens s t p.tokens q.tokens;
  marks = behind (map mark a.marks) (map mark b.marks) (map mark c.marks) m n p.marks q.marks;
}

-- equal tokens and equal sites
pub adds_as : (a b : Walk) (s t : List ℕ) (m n : List Mark) → s ≡ t → m ≡ n → Adds a b t n → Adds a b s m
adds_as a b s t m n e f p = record { tokens = p.tokens ∙ ap (λ x. a.tokens ++ x) (sym e); marks = p.marks ∙ ap (λ x. map mark a.marks ++ x) (sym f) }

-- expressions behind others
pub beyond : (a b c : Walk) (d e : List Expr) (m n : List Mark) → Covers a b d m → Covers b c e n → Covers a c (d ++ e) (m ++ n)
beyond a b c d e m n p q = adds_as a c (flat_map tokens_in (d ++ e)) (flat_map tokens_in d ++ flat_map tokens_in e) (m ++ n) (m ++ n) (flat_map-append tokens_in d e) refl (then a b c (flat_map tokens_in d) (flat_map tokens_in e) m n p q)

-- the same expressions and sites
pub covers_as : (a b : Walk) (d e : List Expr) (m n : List Mark) → d ≡ e → m ≡ n → Covers a b e n → Covers a b d m
covers_as a b d e m n p q h = adds_as a b (flat_map tokens_in d) (flat_map tokens_in e) m n (ap (flat_map tokens_in) p) q h

-- nothing is left
pub no_values : (f : Expr → List Mark) (l : List Expr) (k : ℕ) (a : Walk) → length l ≤ k → Adds a a (flat_map tokens_in (drop k l)) (flat_map f (drop k l))
no_values f l k a h = adds_as a a (flat_map tokens_in (drop k l)) [] (flat_map f (drop k l)) [] (ap (flat_map tokens_in) (drop_all k l h)) (ap (flat_map f) (drop_all k l h)) (still a)

pub no_parts : {X : Type 0} (g : X → List Expr) (f : X → List Mark) (l : List X) (k : ℕ) (a : Walk) → length l ≤ k → Covers a a (flat_map g (drop k l)) (flat_map f (drop k l))
no_parts g f l k a h = covers_as a a (flat_map g (drop k l)) [] (flat_map f (drop k l)) [] (ap (flat_map g) (drop_all k l h)) (ap (flat_map f) (drop_all k l h)) (still a)
