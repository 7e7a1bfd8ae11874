-- How the pieces of the descent go one after another, and what holds of what they give.
use Rattle.std.proofs.Common.{◌≡◌, ℕ, zero, suc, Bool, true, false, List, [], ◌∷◌, ◌++◌, Option, Some, None, if◌then◌else◌, refl, ap, ◌∙◌}
use Rattle.cc_model.specs.declared.tokens.Kind.{Kind}
use Rattle.cc_model.specs.declared.tokens.Punct.{Punct}
use Rattle.cc_model.specs.declared.tokens.Keyword.{Keyword}
use Rattle.cc_model.specs.Spots.{Spot, passed, back, closed, Is, IsKey, IsName}
use Rattle.c_expressions.specs.Descent.{Fault, bad, deep, Got, got, failed, spent, P, go_on, ◌>>=◌, ◌>>◌, pure, leave, out, wrong, Ends, code, key_code, is_sign, is_key, is_name, on_some}
use Rattle.c_expressions.specs.Descent as of
pub use Rattle.c_expressions.proofs.Rules.{ends_suc, ends_bind, ends_fail, ends_then, ends_pure, ends_leave, ends_once}
use Rattle.c_expressions.proofs.Tests as tests
pub use Rattle.c_expressions.proofs.Tests.{sign_yes, key_yes, take_yes}
pub use Rattle.c_expressions.proofs.Made.{Made, made_bind, made_some, made_if, then_take, then_name, then_close, then_sign, then_word}
use Rattle.c_statements.specs.DescentStatements.{here, branch, given, number_at}
use Rattle.c_statements.specs.DescentStatements as st

pub ends_stop : {A B : Type 0} {s : Spot} {e : Fault} (f : P A) (g : ℕ → P B) →
    f s ≡ failed e → Ends (λ m. f >> g m) s (failed e)
unfolding ◌>>=◌ ◌>>◌ go_on
ends_stop f g p = (0, λ m h. ap (λ x. go_on x (λ _. g m)) p)

-- a type first, which wants no fuel
pub ends_base : {A B : Type 0} {s t : Spot} {a : A} {r : Got B} (f : P A) (g : ℕ → A → P B) →
    f s ≡ got a t → Ends (λ m. g m a) t r → Ends (λ m. f >>= g m) s r
unfolding ◌>>=◌ go_on
ends_base f g p q = (q.0, λ m h. ap (λ x. go_on x (g m)) p ∙ q.1 m h)

pub leave_is : {A : Type 0} (n : ℕ) (a : A) (s : Spot) → leave n a s ≡ got a (back s n)
unfolding leave
leave_is n a s = refl

pub ends_wrong : {A : Type 0} (s : Spot) → Ends (λ _. wrong {A = A}) s (failed (bad s.at))
unfolding wrong
ends_wrong s = (0, λ _ _. refl)

pub ends_here : {A : Type 0} {s : Spot} {r : Got A} (f : ℕ → Spot → P A) → Ends (λ m. f m s) s r → Ends (λ m. here (f m)) s r
unfolding here
ends_here f h = h

pub ends_yes : {A : Type 0} {s : Spot} {r : Got A} (c : Spot → Bool) (a b : ℕ → P A) → c s ≡ true → Ends a s r → Ends (λ m. branch c (a m) (b m)) s r
unfolding branch
ends_yes {s = s} c a b e h = (h.0, λ m k. ap (λ x. if x then a m s else b m s) e ∙ h.1 m k)

pub ends_no : {A : Type 0} {s : Spot} {r : Got A} (c : Spot → Bool) (a b : ℕ → P A) → c s ≡ false → Ends b s r → Ends (λ m. branch c (a m) (b m)) s r
unfolding branch
ends_no {s = s} c a b e h = (h.0, λ m k. ap (λ x. if x then a m s else b m s) e ∙ h.1 m k)

pub ends_some : {A B : Type 0} {s : Spot} {r : Got B} (o : Spot → Option A) (x : A) (f : ℕ → A → P B) (b : ℕ → P B) → o s ≡ Some x → Ends (λ m. f m x) s r → Ends (λ m. given o (f m) (b m)) s r
unfolding given on_some
ends_some {s = s} o x f b e h = (h.0, λ m k. ap (λ y. on_some y (λ a. f m a s) (b m s)) e ∙ h.1 m k)

pub ends_none : {A B : Type 0} {s : Spot} {r : Got B} (o : Spot → Option A) (f : ℕ → A → P B) (b : ℕ → P B) → o s ≡ None → Ends b s r → Ends (λ m. given o (f m) (b m)) s r
unfolding given on_some
ends_none {s = s} o f b e h = (h.0, λ m k. ap (λ y. on_some y (λ a. f m a s) (b m s)) e ∙ h.1 m k)

-- ---- what holds of what is given

pub made_here : {A : Type 0} (Q : A → Spot → Type 0) (s : Spot) (f : Spot → P A) → Made Q (f s s) → Made Q (here f s)
unfolding here
made_here Q s f h = h

pub made_branch : {A : Type 0} (Q : A → Spot → Type 0) (s : Spot) (c : Spot → Bool) (a b : P A) → (c s ≡ true → Made Q (a s)) → (c s ≡ false → Made Q (b s)) → Made Q (branch c a b s)
unfolding branch
made_branch Q s c a b h k = made_if Q (c s) (a s) (b s) h k

pub made_given : {A B : Type 0} (Q : B → Spot → Type 0) (s : Spot) (o : Spot → Option A) (f : A → P B) (b : P B) → ((x : A) → o s ≡ Some x → Made Q (f x s)) → (o s ≡ None → Made Q (b s)) → Made Q (given o f b s)
unfolding given
made_given Q s o f b h k = made_some Q (o s) (λ a. f a s) (b s) h k

pub made_pure : {A : Type 0} (Q : A → Spot → Type 0) (s : Spot) (a : A) → Q a s → Made Q (pure a s)
unfolding pure
made_pure Q s a h = h

pub made_leave : {A : Type 0} (Q : A → Spot → Type 0) (s : Spot) (n : ℕ) (a : A) → Q a (back s n) → Made Q (leave n a s)
unfolding leave
made_leave Q s n a h = h

pub made_wrong : {A : Type 0} (Q : A → Spot → Type 0) (s : Spot) → Made Q (wrong {A = A} s)
unfolding wrong
made_wrong Q s = tt

-- ---- tokens

module _ (tok : ℕ → Option Kind) (fits : ℕ → ℕ → Bool) where
  pub expect_yes : (s : Spot) (p : Punct) (next : Spot → Spot) → Is tok fits p s → of.expect tok fits p next s ≡ got tt (next s)
  expect_yes s p next i = tests.expect_yes tok fits s p next i.0 i.1

  pub key_taken : (s : Spot) (p : Keyword) → IsKey tok fits p s → of.expect_key tok fits p s ≡ got tt (passed s)
  key_taken s p i = tests.word_yes tok fits s p i.0 i.1

  pub name_taken : (s : Spot) → IsName tok fits s → of.expect_name tok fits s ≡ got tt (passed s)
  name_taken s i = tests.name_yes tok fits s i.0 i.1

  pub close_yes : (s : Spot) (p : Punct) (n : ℕ) → Is tok fits p (back s n) → of.close tok fits p n s ≡ got tt (closed s n)
  close_yes s p n i = tests.close_yes tok fits s p n i.0 i.1

  -- ---- lists

  pub many_stop : {A : Type 0} {s : Spot} (stop : Spot → Bool) (f : ℕ → P A) (l : List A) → stop s ≡ true → Ends (λ m. st.many tok fits stop f m l) s (got l s)
  unfolding st.many
  many_stop {s = s} stop f l e = ends_suc {s = s} (λ m. st.many tok fits stop f m l) (λ m. branch stop (pure l) (f m >>= λ a. st.many tok fits stop f m (l ++ a ∷ []))) (λ m. refl)
      (ends_yes stop _ _ e (ends_pure l s))

  pub many_go : {A : Type 0} {s : Spot} {r : Got (List A)} (stop : Spot → Bool) (f : ℕ → P A) (l : List A) → stop s ≡ false →
      Ends (λ m. f m >>= λ a. st.many tok fits stop f m (l ++ a ∷ [])) s r → Ends (λ m. st.many tok fits stop f m l) s r
  unfolding st.many
  many_go {s = s} stop f l e h = ends_suc {s = s} (λ m. st.many tok fits stop f m l) (λ m. branch stop (pure l) (f m >>= λ a. st.many tok fits stop f m (l ++ a ∷ []))) (λ m. refl)
      (ends_no stop _ _ e h)

  pub made_many : {A : Type 0} (Q : List A → Spot → Type 0) (stop : Spot → Bool) (f : ℕ → P A) →
      ((m : ℕ) (l : List A) (t : Spot) → Q l t → stop t ≡ false → Made (λ a u. Q (l ++ a ∷ []) u) (f m t)) →
      (n : ℕ) (l : List A) (t : Spot) → Q l t → Made (λ l u. Q l u × (stop u ≡ true)) (st.many tok fits stop f n l t)
  unfolding st.many out
  made_many Q stop f k zero l t q = tt
  made_many Q stop f k (suc n) l t q = made_branch _ t stop _ _ (λ e. made_pure _ t l (q, e))
      (λ e. made_bind (λ a u. Q (l ++ a ∷ []) u) _ t (f n) _ (k n l t q e) (λ a u h. made_many Q stop f k n (l ++ a ∷ []) u h))
