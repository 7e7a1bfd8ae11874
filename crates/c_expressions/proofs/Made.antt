-- What the descent gives has the property that its parts give it: one law for each way to go on.
use Rattle.std.proofs.Common.{◌≡◌, ℕ, Bool, true, false, Option, Some, None, if◌then◌else◌, refl}
use Rattle.cc_model.specs.declared.tokens.Kind.{Kind}
use Rattle.cc_model.specs.declared.tokens.Keyword.{Keyword}
use Rattle.cc_model.specs.declared.tokens.Punct.{Punct}
use Rattle.cc_model.specs.Spots.{Spot, closed, passed, back, Is, IsKey, IsName}
use Rattle.c_expressions.specs.Descent.{bad, deep, Got, got, failed, spent, P, go_on, ◌>>=◌, ◌>>◌, is_sign, is_key, is_name, on_some}
use Rattle.c_expressions.specs.Descent as of
use Rattle.c_expressions.proofs.Tests.{is_sign_tells, is_key_tells, is_name_tells}

-- Q holds of what is given
abbrev pub Made : {A : Type 0} → (A → Spot → Type 0) → Got A → Type 0
Made Q (got a t) = Q a t
Made Q (failed f) = Unit {0}
Made Q spent = Unit {0}

pub made_on : {A B : Type 0} (R : A → Spot → Type 0) (Q : B → Spot → Type 0) (m : Got A) (f : A → P B) → Made R m → ((a : A) (t : Spot) → R a t → Made Q (f a t)) → Made Q (go_on m f)
unfolding go_on
made_on R Q (got a t) f h k = k a t h
made_on R Q (failed e) f h k = tt
made_on R Q spent f h k = tt

pub made_bind : {A B : Type 0} (R : A → Spot → Type 0) (Q : B → Spot → Type 0) (s : Spot) (m : P A) (f : A → P B) → Made R (m s) → ((a : A) (t : Spot) → R a t → Made Q (f a t)) → Made Q ((m >>= f) s)
unfolding ◌>>=◌
made_bind R Q s m f h k = made_on R Q (m s) f h k

pub made_some : {A B : Type 0} (Q : B → Spot → Type 0) (o : Option A) (f : A → Got B) (b : Got B) → ((x : A) → o ≡ Some x → Made Q (f x)) → (o ≡ None → Made Q b) → Made Q (on_some o f b)
unfolding on_some
made_some Q (Some x) f b h k = h x refl
made_some Q None f b h k = k refl

pub made_if : {B : Type 0} (Q : B → Spot → Type 0) (c : Bool) (x y : Got B) → (c ≡ true → Made Q x) → (c ≡ false → Made Q y) → Made Q (if c then x else y)
made_if Q true x y h k = h refl
made_if Q false x y h k = k refl

pub made_choice : {B : Type 0} (Q : B → Spot → Type 0) (c : Bool) (f g : P B) (s : Spot) → Made Q (f s) → Made Q (g s) → Made Q ((if c then f else g) s)
made_choice Q true f g s h k = h
made_choice Q false f g s h k = k

pub made_map : {A : Type 0} (R Q : A → Spot → Type 0) (m : Got A) → ((a : A) (t : Spot) → R a t → Q a t) → Made R m → Made Q m
made_map R Q (got a t) f h = f a t h
made_map R Q (failed e) f h = tt
made_map R Q spent f h = tt

module _ (tok : ℕ → Option Kind) (fits : ℕ → ℕ → Bool) where
  pub made_then : {B : Type 0} (Q : B → Spot → Type 0) (s : Spot) (m : P (Unit {0})) (k : P B) (R : Type 0) (t : Spot) →
      Made (λ _ u. R × (u ≡ t)) (m s) → (R → Made Q (k t)) → Made Q ((m >> k) s)
  unfolding ◌>>◌
  made_then Q s m k R t h g = made_bind (λ _ u. R × (u ≡ t)) Q s m (λ _. k) h (λ a u p. rw p.1 (g p.0))

  pub take_made : (s : Spot) (next : Spot → Spot) (R : Type 0) → (fits s.at s.level ≡ true → R) → Made (λ _ u. R × (u ≡ next s)) (of.take tok fits next s)
  unfolding of.take
  take_made s next R f = made_if (λ _ u. R × (u ≡ next s)) (fits s.at s.level) (got tt (next s)) (failed (deep s.at)) (λ e. (f e, refl)) (λ _. tt)

  pub name_made : (s : Spot) → Made (λ _ u. IsName tok fits s × (u ≡ passed s)) (of.expect_name tok fits s)
  unfolding of.expect_name
  name_made s = made_if (λ _ u. IsName tok fits s × (u ≡ passed s)) (is_name (tok s.at)) (of.take tok fits passed s) (failed (bad s.at))
      (λ e. take_made s passed (IsName tok fits s) (λ f. (is_name_tells (tok s.at) e, f))) (λ _. tt)

  pub word_made : (s : Spot) (k : Keyword) → Made (λ _ u. IsKey tok fits k s × (u ≡ passed s)) (of.expect_key tok fits k s)
  unfolding of.expect_key
  word_made s k = made_if (λ _ u. IsKey tok fits k s × (u ≡ passed s)) (is_key k (tok s.at)) (of.take tok fits passed s) (failed (bad s.at))
      (λ e. take_made s passed (IsKey tok fits k s) (λ f. (is_key_tells k (tok s.at) e, f))) (λ _. tt)

  pub sign_made : (s : Spot) (p : Punct) (next : Spot → Spot) → Made (λ _ u. Is tok fits p s × (u ≡ next s)) (of.expect tok fits p next s)
  unfolding of.expect
  sign_made s p next = made_if (λ _ u. Is tok fits p s × (u ≡ next s)) (is_sign p (tok s.at)) (of.take tok fits next s) (failed (bad s.at))
      (λ e. take_made s next (Is tok fits p s) (λ f. (is_sign_tells p (tok s.at) e, f))) (λ _. tt)

  pub close_made : (s : Spot) (p : Punct) (n : ℕ) → Made (λ _ u. Is tok fits p (back s n) × (u ≡ closed s n)) (of.close tok fits p n s)
  unfolding of.close of.expect
  close_made s p n = made_if (λ _ u. Is tok fits p (back s n) × (u ≡ closed s n)) (is_sign p (tok s.at))
      (of.take tok fits passed (back s n)) (failed (bad s.at))
      (λ e. take_made (back s n) passed (Is tok fits p (back s n)) (λ f. (is_sign_tells p (tok s.at) e, f))) (λ _. tt)

  -- a token that is taken, one that is a name, and a closing bracket, before the rest
  pub then_take : {B : Type 0} (Q : B → Spot → Type 0) (s : Spot) (next : Spot → Spot) (k : P B) → (fits s.at s.level ≡ true → Made Q (k (next s))) → Made Q ((of.take tok fits next >> k) s)
  then_take Q s next k g = made_then Q s (of.take tok fits next) k (fits s.at s.level ≡ true) (next s) (take_made s next _ (λ e. e)) g

  pub then_name : {B : Type 0} (Q : B → Spot → Type 0) (s : Spot) (k : P B) → (IsName tok fits s → Made Q (k (passed s))) → Made Q ((of.expect_name tok fits >> k) s)
  then_name Q s k g = made_then Q s (of.expect_name tok fits) k (IsName tok fits s) (passed s) (name_made s) g

  pub then_close : {B : Type 0} (Q : B → Spot → Type 0) (s : Spot) (p : Punct) (n : ℕ) (k : P B) →
      (Is tok fits p (back s n) → Made Q (k (closed s n))) → Made Q ((of.close tok fits p n >> k) s)
  then_close Q s p n k g = made_then Q s (of.close tok fits p n) k (Is tok fits p (back s n)) (closed s n) (close_made s p n) g

  pub then_sign : {B : Type 0} (Q : B → Spot → Type 0) (s : Spot) (p : Punct) (next : Spot → Spot) (k : P B) → (Is tok fits p s → Made Q (k (next s))) → Made Q ((of.expect tok fits p next >> k) s)
  then_sign Q s p next k g = made_then Q s (of.expect tok fits p next) k (Is tok fits p s) (next s) (sign_made s p next) g

  pub then_word : {B : Type 0} (Q : B → Spot → Type 0) (s : Spot) (w : Keyword) (k : P B) → (IsKey tok fits w s → Made Q (k (passed s))) → Made Q ((of.expect_key tok fits w >> k) s)
  then_word Q s w k g = made_then Q s (of.expect_key tok fits w) k (IsKey tok fits w s) (passed s) (word_made s w) g
