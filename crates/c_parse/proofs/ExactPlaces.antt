-- The place of a fault is exact: the tokens before it begin a program, and with it they begin none.
use Rattle.std.proofs.Common.{◌≡◌, ◌⊎◌, inl, inr, ℕ, zero, suc, ◌+◌, ◌-◌, ◌≤◌, ◌<◌, Bool, true, false, List, [], ◌∷◌, ◌++◌, take, length, Option, Some, None, nat_eq, nat_lt, if◌then◌else◌, eq-eqb, refl, sym, ap, ◌∙◌, arith}
use Rattle.std.proofs.lemmas.Bool.Decides.{nat_tests}
use Rattle.std.proofs.lemmas.Option.{slice_get_past}
use Rattle.cc_model.specs.declared.tokens.Token.{Token}
use Rattle.cc_model.specs.declared.tokens.Kind.{Kind}
use Rattle.cc_model.specs.declared.tokens.Kind.TheVariants as kind
use Rattle.cc_model.specs.declared.trees.Item.{Item}
use Rattle.cc_model.specs.declared.trees.Program.{Program}
use Rattle.cc_model.specs.Spots.{Spot, start, kind_at, kind_of, shallow}
use Rattle.cc_model.specs.Reads.{Reads}
use Rattle.cc_model.specs.ReadItems.{Items}
use Rattle.c_expressions.specs.declared.fault.ParseFault.{ParseFault}
use Rattle.c_expressions.specs.declared.fault.ParseFault.TheVariants.{Syntax, TooDeep, NoMemory}
use Rattle.c_expressions.specs.Descent.{Fault, bad, deep, Got, got, failed, Ends}
use Rattle.c_parse.specs.DescentItems as it
use Rattle.c_expressions.specs.Shown.{ShowsFault}
use Rattle.c_parse.specs.Places.{unbounded, shallow_at, Begins, Ceases, IsSyntax, IsDeep, Placed}
use Rattle.c_parse.proofs.ItemLaws.{items_yes}
use Rattle.c_expressions.proofs.Viable.{Tokens, Fits, Verdict, limit, place, fits_of}
use Rattle.c_parse.proofs.ItemPieces.{items}
use Rattle.c_parse.proofs.ViableItems.{items_verdict}
use Rattle.c_parse.proofs.Afters.{made}
use Rattle.c_parse.proofs.FirmItems.{items_firm}
use Rattle.c_parse.proofs.Agree.{Alike, equal, behind, early, spent_one, spent_two, Agree}
use Rattle.c_parse.proofs.AgreeItems.{items_local}

-- ---- tokens by their kinds

token_of : Option Kind → Token
token_of (Some k) = record { kind = k; start = 0; end = 0; line = 1; col = 1 }
token_of None = record { kind = kind.Name; start = 0; end = 0; line = 1; col = 1 }

-- n tokens of the kinds from i on
fill : Tokens → ℕ → ℕ → List Token
fill tok i zero = []
fill tok i (suc n) = token_of (tok i) ∷ fill tok (suc i) n

fill_end : (tok : Tokens) (i n : ℕ) → kind_at (fill tok i n) n ≡ None
unfolding fill
fill_end tok i zero = refl
fill_end tok i (suc n) = fill_end tok (suc i) n

fill_at : (tok : Tokens) (i n j : ℕ) → j < n → ((k : ℕ) → i ≤ k → k < i + n → (x : Kind) × (tok k ≡ Some x)) → kind_at (fill tok i n) j ≡ tok (i + j)
unfolding fill token_of
fill_at tok i zero j h f = absurd (omega arith)
fill_at tok i (suc n) zero h f = let x = f i (omega arith) (omega arith) in let e : i + 0 ≡ i = omega arith in rw (e, x.1) refl
fill_at tok i (suc n) (suc j) h f = let e : suc i + j ≡ i + suc j = omega arith in fill_at tok (suc i) n j (omega arith) (λ k a b. f k (omega arith) (omega arith)) ∙ ap tok e

front : (k : ℕ) (l more : List Token) (i : ℕ) → k ≤ length l → i < k → kind_at (take k l ++ more) i ≡ kind_at l i
front zero l more i h p = absurd (omega arith)
front (suc k) [] more i h p = absurd (omega arith)
front (suc k) (x ∷ l) more zero h p = refl
front (suc k) (x ∷ l) more (suc i) h p = front k l more i (omega arith) (omega arith)

back : (k : ℕ) (l more : List Token) (j : ℕ) → k ≤ length l → kind_at (take k l ++ more) (k + j) ≡ kind_at more j
back zero l more j h = let e : 0 + j ≡ j = omega arith in ap (kind_at more) e
back (suc k) [] more j h = absurd (omega arith)
back (suc k) (x ∷ l) more j h = let e : suc k + j ≡ suc (k + j) = omega arith in ap (kind_at (x ∷ take k l ++ more)) e ∙ back k l more j (omega arith)

-- as many tokens as are found
found : (tokens : List Token) (k : ℕ) → ((i : ℕ) → i < k → (x : Kind) × (kind_at tokens i ≡ Some x)) → k ≤ length tokens
found tokens k f = go (nat_lt (length tokens) k) refl
  where
    go : (b : Bool) → nat_lt (length tokens) k ≡ b → k ≤ length tokens
    go true e = let x = f (length tokens) (grind (arith, nat_tests)) in let y = slice_get_past tokens (length tokens) (omega arith) in absurd (cc (ap kind_of y, x.1))
    go false e = grind (arith, nat_tests)

-- ---- the tokens before a fault begin a program

begins_from : (tokens : List Token) (tok : Tokens) (fits : Fits) (k : ℕ) (l : List Item) (t : Spot) → ((i : ℕ) → i < k → tok i ≡ kind_at tokens i) → k ≤ t.at → Items tok fits start t l →
    (k ≤ length tokens) × Begins fits tokens k
begins_from tokens tok fits k l t same h d =
    let f = items_firm d in
    let e : k + (t.at - k) ≡ t.at = omega arith in
    let long = found tokens k (λ i p. let x = f.filled i (omega arith) (omega arith) in (x.0, sym (same i p) ∙ x.1)) in
    let text = take k tokens ++ fill tok k (t.at - k) in
    let alike : (i : ℕ) → i < t.at → kind_at text i ≡ tok i = λ i p. go (nat_lt i k) i p refl long in (
      long,
      (
        fill tok k (t.at - k),
        record { items = l },
        record {
          end = t;
          items = f.moved (kind_at text) fits (λ i p q. (alike i q, λ d e. e));
          all = ap (kind_at text) (sym e) ∙ (back k tokens (fill tok k (t.at - k)) (t.at - k) long ∙ fill_end tok k (t.at - k));
        },
      ),
    )
  where
    go : (b : Bool) (i : ℕ) → i < t.at → nat_lt i k ≡ b → k ≤ length tokens → kind_at (take k tokens ++ fill tok k (t.at - k)) i ≡ tok i
    go true i p q long = front k tokens (fill tok k (t.at - k)) i long (grind (arith, nat_tests)) ∙ sym (same i (grind (arith, nat_tests)))
    go false i p q long =
        let le : k ≤ i = grind (arith, nat_tests) in
        let e : k + (i - k) ≡ i = omega arith in
        ap (kind_at (take k tokens ++ fill tok k (t.at - k))) (sym e) ∙ (back k tokens (fill tok k (t.at - k)) (i - k) long ∙
        (fill_at tok k (t.at - k) (i - k) (omega arith) (λ j a b. (items_firm d).filled j (omega arith) (omega arith)) ∙ ap tok e))

viable : (tokens : List Token) (f : Fault) → Ends (λ n. it.items (kind_at tokens) shallow n) start (failed f) → (limit f ≤ length tokens) × Begins (fits_of shallow f) tokens (limit f)
unfolding items made
viable tokens f h = go (it.items (kind_at tokens) shallow h.0 start) (items_verdict (kind_at tokens) shallow h.0 start) (h.1 h.0 (omega arith))
  where
    all : Verdict items (kind_at tokens) shallow start (failed f) → (limit f ≤ length tokens) × Begins (fits_of shallow f) tokens (limit f)
    all v = begins_from tokens v.0.0 (fits_of shallow f) (limit f) v.0.1 v.0.2 v.0.3 v.0.4 v.0.5

    go : (q : Got (List Item)) → Verdict items (kind_at tokens) shallow start q → q ≡ failed f → (limit f ≤ length tokens) × Begins (fits_of shallow f) tokens (limit f)
    go q v e = all (rw e at v)

-- ---- with a bad token they begin none, and with a deep one none in which it isn't deep

-- over the one list there is a fault, over the other none
clash : {A : Type 0} (K D : ℕ) (r q : Got A) (f : Fault) (a : A) (t : Spot) → Alike K D r q → r ≡ failed f → q ≡ got a t → (K ≤ place f) ⊎ ((i : ℕ) × (f ≡ deep i) × (i < D))
clash K D r _ f a t equal e x = absurd (cc (e, x))
clash K D r q f a t (behind h k) e x = inl (rw e at h)
clash K D _ q f a t (early {i} l) e x = inr (i, cc (e), l)
clash K D _ q f a t spent_one e x = absurd (cc (e))
clash K D r _ f a t spent_two e x = absurd (cc (x))

parted : (tokens text : List Token) (K D : ℕ) (fits : Fits) (f : Fault) (p : Program) → Ends (λ n. it.items (kind_at tokens) shallow n) start (failed f) → Agree K D (kind_at tokens) (kind_at text) shallow fits →
    Reads fits text p → (K ≤ place f) ⊎ ((i : ℕ) × (f ≡ deep i) × (i < D))
parted tokens text K D fits f p h agree r =
    let e = items_yes (kind_at text) fits r.items r.all in
    clash K D (it.items (kind_at tokens) shallow (h.0 + e.0) start) (it.items (kind_at text) fits (h.0 + e.0) start) f p.items r.end (items_local K D (kind_at tokens) (kind_at text) shallow fits agree (h.0 + e.0) start).0
    (h.1 (h.0 + e.0) (omega arith)) (e.1 (h.0 + e.0) (omega arith))

none_with : (tokens text : List Token) (k : ℕ) (p : Program) → Ends (λ n. it.items (kind_at tokens) shallow n) start (failed (bad k)) → ((i : ℕ) → i < suc k → kind_at text i ≡ kind_at tokens i) →
    Reads unbounded text p → ⊥
none_with tokens text k p h same r = go (parted tokens text (suc k) (suc k) unbounded (bad k) p h
    (record { same = same; keeps = λ i d l e. refl; fails = λ i d a b e. absurd (omega arith) }) r)
  where
    go : (suc k ≤ k) ⊎ ((i : ℕ) × (bad k ≡ deep i) × (i < suc k)) → ⊥
    go (inl l) = absurd (omega arith)
    go (inr x) = absurd (cc (x.1))

at_keeps : (k i d : ℕ) → shallow i d ≡ true → shallow_at k i d ≡ true
at_keeps k i d e = go (nat_eq i k)
  where
    go : (b : Bool) → (if b then shallow i d else true) ≡ true
    go true = e
    go false = refl

at_fails : (k i d : ℕ) → k ≤ i → i < suc k → shallow i d ≡ false → shallow_at k i d ≡ false
at_fails k i d a b e = let q : i ≡ k = omega arith in let x : nat_eq i k ≡ true = eq-eqb i k q in rw x e

none_shallow : (tokens text : List Token) (k : ℕ) (p : Program) → Ends (λ n. it.items (kind_at tokens) shallow n) start (failed (deep k)) → ((i : ℕ) → i < suc k → kind_at text i ≡ kind_at tokens i) →
    Reads (shallow_at k) text p → ⊥
none_shallow tokens text k p h same r = go (parted tokens text (suc k) k (shallow_at k) (deep k) p h
    (record { same = same; keeps = λ i d l e. at_keeps k i d e; fails = λ i d a b e. at_fails k i d a b e }) r)
  where
    go : (suc k ≤ k) ⊎ ((i : ℕ) × (deep k ≡ deep i) × (i < k)) → ⊥
    go (inl l) = absurd (omega arith)
    go (inr x) = let e : k ≡ x.0 = cc (x.1) in absurd (omega (arith, x.2))

ceases : (tokens : List Token) (k : ℕ) → k ≤ length tokens → Ends (λ n. it.items (kind_at tokens) shallow n) start (failed (bad k)) → Ceases tokens k
ceases tokens k l h = go (nat_lt k (length tokens)) refl
  where
    go : (b : Bool) → nat_lt k (length tokens) ≡ b → Ceases tokens k
    go true e = let less : k < length tokens = grind (arith, nat_tests) in
        inl (less, λ b. none_with tokens (take (suc k) tokens ++ b.0) k b.1 h (λ i p. front (suc k) tokens b.0 i (omega arith) p) b.2)
    go false e = let same : k ≡ length tokens = grind (arith, nat_tests) in inr (same, λ p r. none_with tokens tokens k p h (λ i _. refl) r)

pub syntax_placed : (tokens : List Token) (k : ℕ) → Ends (λ n. it.items (kind_at tokens) shallow n) start (failed (bad k)) → IsSyntax tokens k
unfolding fits_of
syntax_placed tokens k h = let v = viable tokens (bad k) h in (v.1, ceases tokens k v.0 h)

pub deep_placed : (tokens : List Token) (k : ℕ) → Ends (λ n. it.items (kind_at tokens) shallow n) start (failed (deep k)) → IsDeep tokens k
unfolding fits_of
deep_placed tokens k h = let v = viable tokens (deep k) h in
    (omega (arith, v.0), v.1, λ b. none_shallow tokens (take (suc k) tokens ++ b.0) k b.1 h (λ i p. front (suc k) tokens b.0 i v.0 p) b.2)

-- the fault that is found is the one that the tokens have
pub placed : (tokens : List Token) (f : ParseFault) → ShowsFault (λ n. it.items (kind_at tokens) shallow n) start f → Placed tokens f
placed tokens (Syntax k) h = inr (syntax_placed tokens k h)
placed tokens (TooDeep k) h = inr (deep_placed tokens k h)
placed tokens NoMemory h = inl refl
