-- More pieces that are alike over two lists of tokens: tests of the next token, what it begins, and lists.
use Rattle.std.proofs.Common.{◌≡◌, ℕ, zero, suc, ◌<◌, Bool, List, [], ◌∷◌, ◌++◌, Option, Some, None, sym, subst}
use Rattle.cc_model.specs.declared.tokens.Kind.{Kind}
use Rattle.cc_model.specs.Spots.{Spot}
use Rattle.c_expressions.specs.Descent.{Got, P, pure, out, on_some}
use Rattle.c_statements.specs.DescentStatements.{branch, given}
use Rattle.c_statements.specs.DescentStatements as st
use Rattle.c_parse.proofs.Agree.{Behind, Alike, equal, Local, local_split, if_behind, alike_if, alike_some, local_bind, pure_local}

some_behind : {A B : Type 0} (K : ℕ) (o : Option A) (f : A → Got B) (y : Got B) → ((a : A) → Behind K (f a)) → Behind K y → Behind K (on_some o f y)
unfolding on_some
some_behind K (Some a) f y h k = h a
some_behind K None f y h k = k

-- a test of the token that is reached
pub branch_local : {A : Type 0} (K D : ℕ) (c d : Spot → Bool) (a b x y : P A) (s : Spot) → (s.at < K → d s ≡ c s) → Local K D s (a s) (x s) → Local K D s (b s) (y s) →
    Local K D s (branch c a b s) (branch d x y s)
unfolding branch
branch_local K D c d a b x y s e h k = local_split K D s _ _ (λ l. alike_if K D (c s) (d s) (a s) (b s) (x s) (y s) (e l) h.0 k.0)
    (λ l. (if_behind K (c s) (a s) (b s) (h.1 l).0 (k.1 l).0, if_behind K (d s) (x s) (y s) (h.1 l).1 (k.1 l).1))

pub given_local : {A B : Type 0} (K D : ℕ) (o q : Spot → Option A) (f g : A → P B) (b y : P B) (s : Spot) → (s.at < K → q s ≡ o s) → ((a : A) → Local K D s (f a s) (g a s)) → Local K D s (b s) (y s) →
    Local K D s (given o f b s) (given q g y s)
unfolding given
given_local K D o q f g b y s e h k = local_split K D s _ _ (λ l. alike_some K D (o s) (q s) (λ a. f a s) (λ a. g a s) (b s) (y s) (e l) (λ a. (h a).0) k.0)
    (λ l. (some_behind K (o s) (λ a. f a s) (b s) (λ a. ((h a).1 l).0) (k.1 l).0, some_behind K (q s) (λ a. g a s) (y s) (λ a. ((h a).1 l).1) (k.1 l).1))

-- what the token begins
pub pick_local : {A C : Type 0} (K D : ℕ) (f g : C → P A) (c d : C) (s : Spot) → (s.at < K → d ≡ c) → ((c : C) → Local K D s (f c s) (g c s)) → Local K D s (f c s) (g d s)
pick_local K D f g c d s e h = local_split K D s (f c s) (g d s) (λ l. subst (λ x. Alike K D (f c s) (g x s)) (sym (e l)) ((h c).0)) (λ l. (((h c).1 l).0, ((h d).1 l).1))

pub many_local : {A : Type 0} (K D : ℕ) (tok tok' : ℕ → Option Kind) (fits fits' : ℕ → ℕ → Bool) (c d : Spot → Bool) (f g : ℕ → P A) → ((s : Spot) → s.at < K → d s ≡ c s) → ((n : ℕ) (s : Spot) → Local K D s (f n s) (g n s)) →
    (n : ℕ) (l : List A) (s : Spot) → Local K D s (st.many tok fits c f n l s) (st.many tok' fits' d g n l s)
unfolding st.many out
many_local K D tok tok' fits fits' c d f g e h zero l s = (equal, λ k. (tt, tt))
many_local K D tok tok' fits fits' c d f g e h (suc n) l s = branch_local K D c d (pure l) _ (pure l) _ s (e s) (pure_local K D l s)
    (local_bind K D (λ a. st.many tok fits c f n (l ++ a ∷ [])) (λ a. st.many tok' fits' d g n (l ++ a ∷ [])) (λ a t. many_local K D tok tok' fits fits' c d f g e h n (l ++ a ∷ []) t) s (f n) (g n) (h n s))
