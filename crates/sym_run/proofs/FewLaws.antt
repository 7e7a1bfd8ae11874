-- How many outcomes an event offers, and their order; they have bytes.
use Rattle.std.proofs.Common.{◌≡◌, ◌<◌, ◌≤◌, ◌+◌, ◌⊎◌, inl, inr, ℕ, zero, suc, Bool, true, false, ◌||◌, ℤ, pos, negsuc, List, [], ◌∷◌, ◌++◌, length, length-append, map, Option, Some, None, nat_eq, nat_lt, refl, sym, ap, subst, ◌∙◌, arith, if◌then◌else◌}
use Rattle.std.proofs.lemmas.Bool.{eq-eqb, ltb-false, ltb-true}
use Rattle.cc_base.specs.declared.outcomes.Outcome.{Outcome}
use Rattle.cc_base.specs.declared.outcomes.Outcome.TheVariants.{Zero, High, Low, Plain, False, True, Object}
use Rattle.cc_base.specs.Forms.{Form, Atom, Side, is_zero, not_zero}
use Rattle.cc_base.specs.Outcomes.{byte_of, HasByte}
use Rattle.cc_base.specs.Paths.{In, Ascend}
use Rattle.cc_base.specs.Places.{Placed}
use Rattle.cc_model.specs.Conditions.{same_outcome, without, alternatives}
use Rattle.cc_model.specs.Core as tree
use Rattle.cc_model.specs.Core.{Cell, Layout, Op, Cmp}
use Rattle.cc_model.specs.Domain.{Act, act_arith, act_divisor, act_negate, act_compare, act_test, act_access, act_index}
use Rattle.cc_model.specs.FormOperations.{Forms}
use Rattle.cc_model.specs.Plain as base
use Rattle.cc_model.specs.Plain.{Value, Obj, num, null, at, block, made, has, rank}
use Rattle.cc_model.specs.Traced as on
use Rattle.cc_model.specs.Traced.{Traced, Data, Shadow, form, place, none, Spot, in_made, in_touched, nowhere, Touched, Shadows, Choice, Event, Asked, asks_nothing, one_of, term, Formed, plain_number, formed, termed, traced}
use Rattle.sym_run.proofs.KeptLaws.{Within, Invariant}

abbrev pub outs : List Choice → List Outcome
outs cs = map (λ c. c.outcome) cs

-- each outcome has a byte
abbrev pub Bytes : List Choice → Type 0
Bytes cs = (y : Outcome) → In y (outs cs) → HasByte y

-- at most 28 choices, ascending, that have bytes
abbrev pub Sorted : List Choice → Type 0
Sorted cs = (length cs ≤ 28) × Ascend (outs cs) × Bytes cs

abbrev pub SortedAsked : Asked → Type 0
SortedAsked asks_nothing = Unit {0}
SortedAsked (one_of cs) = Sorted cs
SortedAsked (term k) = Unit {0}

-- so are the alternatives of an event, and its own outcome is none of them
abbrev pub IsFew : Event → Type 0
IsFew e = (length (alternatives e) ≤ 28) × Ascend (outs (alternatives e)) × (In e.outcome (outs (alternatives e)) → ⊥) × Bytes (alternatives e)

pub record Offered (e : Event) : Type 0 where
  pub few : IsFew e
  pub byte : HasByte e.outcome

-- ---- choices but for one

module _ (o : Outcome) where
  in_kept : (b : Bool) (c : Choice) (l m : List Choice) → ((y : Outcome) → In y (outs l) → In y (outs m)) → (y : Outcome) → In y (outs (if b then l else c ∷ l)) → In y (outs (c ∷ m))
  in_kept true c l m h y i = inr (h y i)
  in_kept false c l m h y (inl e) = inl e
  in_kept false c l m h y (inr i) = inr (h y i)

  without_in : (cs : List Choice) (y : Outcome) → In y (outs (without o cs)) → In y (outs cs)
  unfolding without
  without_in [] y i = i
  without_in (c ∷ cs) y i = in_kept (same_outcome c.outcome o) c (without o cs) cs (without_in cs) y i

  short_kept : (b : Bool) (c : Choice) (l m : List Choice) → length l ≤ length m → length (if b then l else c ∷ l) ≤ suc (length m)
  short_kept true c l m h = omega (arith, h)
  short_kept false c l m h = omega (arith, h)

  without_short : (cs : List Choice) → length (without o cs) ≤ length cs
  unfolding without
  without_short [] = omega arith
  without_short (c ∷ cs) = short_kept (same_outcome c.outcome o) c (without o cs) cs (without_short cs)

  sorted_kept : (b : Bool) (c : Choice) (l m : List Choice) → ((y : Outcome) → In y (outs l) → In y (outs m)) → Ascend (outs (c ∷ m)) → Ascend (outs l) → Ascend (outs (if b then l else c ∷ l))
  sorted_kept true c l m s h g = g
  sorted_kept false c l m s h g = (λ y i. h.0 y (s y i), g)

  without_sorted : (cs : List Choice) → Ascend (outs cs) → Ascend (outs (without o cs))
  unfolding without
  without_sorted [] h = tt
  without_sorted (c ∷ cs) h = sorted_kept (same_outcome c.outcome o) c (without o cs) cs (without_in cs) h (without_sorted cs h.1)

  same_self : (c : Outcome) → o ≡ c → same_outcome c o ≡ true
  unfolding same_outcome
  same_self c e = eq-eqb (byte_of c) (byte_of o) (ap byte_of (sym e))

  own_kept : (b : Bool) (c : Choice) (l : List Choice) → same_outcome c.outcome o ≡ b → (In o (outs l) → ⊥) → In o (outs (if b then l else c ∷ l)) → ⊥
  own_kept true c l e h i = h i
  own_kept false c l e h (inl p) = let q = same_self c.outcome p in absurd (cc (e, q))
  own_kept false c l e h (inr i) = h i

  without_own : (cs : List Choice) → In o (outs (without o cs)) → ⊥
  unfolding without
  without_own [] i = i
  without_own (c ∷ cs) i = own_kept (same_outcome c.outcome o) c (without o cs) refl (without_own cs) i

few_by : (o : Outcome) (q : Asked) (ps : List Placed) → SortedAsked q → IsFew (record { outcome = o; asked = q; places = ps })
unfolding alternatives
few_by o asks_nothing ps h = (omega arith, tt, (λ i. i), (λ y i. absurd i))
few_by o (one_of cs) ps h = let s = without_short o cs in let n = h.0 in (omega (arith, s, n), without_sorted o cs h.1, without_own o cs, (λ y i. h.2 y (without_in o cs y i)))
few_by o (term k) ps h = (omega arith, tt, (λ i. i), (λ y i. absurd i))

-- ---- what an event asks

below_one : (o p y : Outcome) → byte_of o < byte_of p → In y (p ∷ []) → byte_of o < byte_of y
below_one o p y h (inl e) = subst (λ (z : Outcome). byte_of o < byte_of z) (sym e) h
below_one o p y h (inr i) = absurd i

byte_two : (o p y : Outcome) → HasByte o → HasByte p → In y (o ∷ p ∷ []) → HasByte y
byte_two o p y h g (inl e) = subst (λ (z : Outcome). HasByte z) (sym e) h
byte_two o p y h g (inr (inl e)) = subst (λ (z : Outcome). HasByte z) (sym e) g
byte_two o p y h g (inr (inr i)) = absurd i

two_sorted : (t e : Atom) → Sorted (on.two_choices t e)
unfolding on.two_choices
two_sorted t e = (omega arith, ((λ y i. below_one False True y (omega arith) i), ((λ y i. absurd i), tt)), (λ y i. byte_two False True y tt tt i))

below_two : (o p q y : Outcome) → byte_of o < byte_of p → byte_of o < byte_of q → In y (p ∷ q ∷ []) → byte_of o < byte_of y
below_two o p q y h g (inl e) = subst (λ (z : Outcome). byte_of o < byte_of z) (sym e) h
below_two o p q y h g (inr i) = below_one o q y g i

same_sorted : (o : Cmp) (a b : Side) → Sorted (on.same_choices o a b)
unfolding on.same_choices
same_sorted tree.ne a b = two_sorted _ _
same_sorted _ a b = two_sorted _ _

either_asked : (b : Bool) (q r : Asked) → SortedAsked q → SortedAsked r → SortedAsked (if b then q else r)
either_asked true q r h g = h
either_asked false q r h g = g

sides_sorted : (o : Cmp) (a b : Option Side) → SortedAsked (on.sides_asked o a b)
unfolding on.sides_asked
sides_sorted o (Some a) (Some b) = either_asked (on.same_side a b) asks_nothing (one_of (on.same_choices o a b)) tt (same_sorted o a b)
sides_sorted o None b = tt
sides_sorted o (Some a) None = tt

pointers_sorted : (o : Cmp) (x : Value) (s : Shadow) (y : Value) (u : Shadow) (touched : List ℕ) (l : List Touched) → SortedAsked (on.pointers_asked o (record { plain = x; shadow = s }) (record { plain = y; shadow = u }) touched l)
unfolding on.pointers_asked on.places_asked
pointers_sorted o x (place p t) y (place q u) touched l = either_asked (nat_eq t u) (on.sides_asked o _ _) (term _) (sides_sorted o _ _) tt
pointers_sorted o x (place p t) y (form g) touched l = sides_sorted o _ _
pointers_sorted o x (place p t) y none touched l = sides_sorted o _ _
pointers_sorted o x (form g) y (place q u) touched l = sides_sorted o _ _
pointers_sorted o x none y (place q u) touched l = sides_sorted o _ _
pointers_sorted o x (form g) y (form h) touched l = tt
pointers_sorted o x (form g) y none touched l = tt
pointers_sorted o x none y (form h) touched l = tt
pointers_sorted o x none y none touched l = tt

-- the letters are those of ranks from n on
letter_kept : (b : Bool) (c : Choice) (l : List Choice) (n m : ℕ) → c.outcome ≡ Object n → ((y : Outcome) → In y (outs l) → (r : ℕ) × (y ≡ Object r) × (suc n ≤ r) × (r < suc n + m))
    → (y : Outcome) → In y (outs (if b then c ∷ l else l)) → (r : ℕ) × (y ≡ Object r) × (n ≤ r) × (r < n + suc m)
letter_kept true c l n m is h y (inl e) = (n, e ∙ is, omega arith, omega arith)
letter_kept true c l n m is h y (inr i) = let k = h y i in let a = k.2 in let b = k.3 in (k.0, k.1, omega (arith, a), omega (arith, b))
letter_kept false c l n m is h y i = let k = h y i in let a = k.2 in let b = k.3 in (k.0, k.1, omega (arith, a), omega (arith, b))

letters_are : (p t n : ℕ) (l : List Touched) (y : Outcome) → In y (outs (on.letters p t n l)) → (r : ℕ) × (y ≡ Object r) × (n ≤ r) × (r < n + length l)
unfolding on.letters
letters_are p t n [] y i = absurd i
letters_are p t n (b ∷ l) y i = letter_kept (nat_eq t b.type) _ (on.letters p t (suc n) l) n (length l) refl (letters_are p t (suc n) l) y i

count_kept : (b : Bool) (c : Choice) (l : List Choice) (m : ℕ) → length l ≤ m → length (if b then c ∷ l else l) ≤ suc m
count_kept true c l m h = omega (arith, h)
count_kept false c l m h = omega (arith, h)

letters_short : (p t n : ℕ) (l : List Touched) → length (on.letters p t n l) ≤ length l
unfolding on.letters
letters_short p t n [] = omega arith
letters_short p t n (b ∷ l) = count_kept (nat_eq t b.type) _ (on.letters p t (suc n) l) (length l) (letters_short p t (suc n) l)

below_letter : (n r : ℕ) (y : Outcome) → y ≡ Object r → n < r → byte_of (Object n) < byte_of y
below_letter n r y e h = subst (λ (z : Outcome). byte_of (Object n) < byte_of z) (sym e) (omega (arith, h))

rise_kept : (b : Bool) (c : Choice) (l : List Choice) (n : ℕ) → c.outcome ≡ Object n → ((y : Outcome) → In y (outs l) → byte_of (Object n) < byte_of y) → Ascend (outs l) → Ascend (outs (if b then c ∷ l else l))
rise_kept true c l n is h g = ((λ y i. subst (λ (z : Outcome). byte_of z < byte_of y) (sym is) (h y i)), g)
rise_kept false c l n is h g = g

letters_ascend : (p t n : ℕ) (l : List Touched) → Ascend (outs (on.letters p t n l))
unfolding on.letters
letters_ascend p t n [] = tt
letters_ascend p t n (b ∷ l) = rise_kept (nat_eq t b.type) _ (on.letters p t (suc n) l) n refl (λ y i. let k = letters_are p t (suc n) l y i in let h = k.2 in below_letter n k.0 y k.1 (omega (arith, h))) (letters_ascend p t (suc n) l)

in_last : (l : List Choice) (c : Choice) (y : Outcome) → In y (outs (l ++ c ∷ [])) → In y (outs l) ⊎ (y ≡ c.outcome)
in_last [] c y (inl e) = inr e
in_last [] c y (inr i) = absurd i
in_last (x ∷ l) c y (inl e) = inl (inl e)
in_last (x ∷ l) c y (inr i) = elim (in_last l c y i) [ inl j ↦ inl (inr j) | inr e ↦ inr e ]

ascend_last : (l : List Choice) (c : Choice) → Ascend (outs l) → ((y : Outcome) → In y (outs l) → byte_of y < byte_of c.outcome) → Ascend (outs (l ++ c ∷ []))
ascend_last [] c h g = ((λ y i. absurd i), tt)
ascend_last (x ∷ l) c h g = (
  (λ y i. elim (in_last l c y i) [
    | inl j ↦ h.0 y j
    | inr e ↦ subst (λ (z : Outcome). byte_of x.outcome < byte_of z) (sym e) (g x.outcome (inl refl))
  ]),
  ascend_last l c h.1 (λ y i. g y (inr i)),
)

byte_below : (y : Outcome) (r n : ℕ) → y ≡ Object r → r < n → byte_of y < byte_of (Object n)
byte_below y r n e h = subst (λ (z : Outcome). byte_of z < byte_of (Object n)) (sym e) (omega (arith, h))

null_below : (y : Outcome) (r : ℕ) → y ≡ Object r → byte_of Zero < byte_of y
null_below y r e = subst (λ (z : Outcome). byte_of Zero < byte_of z) (sym e) (omega arith)

object_byte : (y : Outcome) (r : ℕ) → y ≡ Object r → r ≤ 25 → HasByte y
object_byte y r e h = subst (λ (z : Outcome). HasByte z) (sym e) h

access_bytes : (p t : ℕ) (l : List Touched) → length l ≤ 25 → (last : Choice) → last.outcome ≡ Object (length l) → (y : Outcome) → (y ≡ Zero) ⊎ In y (outs (on.letters p t 0 l ++ last ∷ [])) → HasByte y
access_bytes p t l short last is y (inl e) = subst (λ (z : Outcome). HasByte z) (sym e) tt
access_bytes p t l short last is y (inr i) = elim (in_last (on.letters p t 0 l) last y i) [
  | inl j ↦ (let k = letters_are p t 0 l y j in let h = k.3 in object_byte y k.0 k.1 (omega (arith, h, short)))
  | inr e ↦ object_byte y (length l) (e ∙ is) short
]

access_sorted : (p t : ℕ) (l : List Touched) → length l ≤ 25 → Sorted (on.access_choices p t l)
unfolding on.access_choices
access_sorted p t l short =
    let last : Choice = record { outcome = Object (length l); atoms = _ } in
    let few = letters_short p t 0 l in
    let more = length-append (on.letters p t 0 l) (last ∷ []) in (
      omega (arith, short, few, more),
      (
        (λ y i. elim (in_last (on.letters p t 0 l) last y i) [ inl j ↦ (let k = letters_are p t 0 l y j in null_below y k.0 k.1) | inr e ↦ null_below y (length l) e ]),
        ascend_last (on.letters p t 0 l) last (letters_ascend p t 0 l) (λ y i. let k = letters_are p t 0 l y i in let h = k.3 in byte_below y k.0 (length l) k.1 (omega (arith, h))),
      ),
      (λ y i. access_bytes p t l short last refl y i),
    )

access_asks : (s : Shadow) (l : List Touched) → length l ≤ 25 → SortedAsked (on.access_asked s l)
unfolding on.access_asked
access_asks (place p t) l h = either_asked (on.is_first p l) asks_nothing (one_of (on.access_choices p t l)) tt (access_sorted p t l h)
access_asks (form g) l h = tt
access_asks none l h = tt

fit_byte_of : (y : Outcome) → In y (High ∷ Low ∷ Plain ∷ []) → HasByte y
fit_byte_of y (inl e) = subst (λ (z : Outcome). HasByte z) (sym e) tt
fit_byte_of y (inr i) = byte_two Low Plain y tt tt i

module _ (f : Forms) where
  fit_sorted : (q : Formed) → SortedAsked (on.fit_asked f q)
  unfolding on.fit_asked on.fit_choices
  fit_sorted plain_number = tt
  fit_sorted (formed g) = (omega arith, ((λ y i. below_two High Low Plain y (omega arith) (omega arith) i), ((λ y i. below_one Low Plain y (omega arith) i), ((λ y i. absurd i), tt))), (λ y i. fit_byte_of y i))
  fit_sorted (termed k) = tt

  difference_sorted : (o : Cmp) (g : Option Form) → SortedAsked (on.difference_asked f o g)
  unfolding on.difference_asked
  difference_sorted o None = tt
  difference_sorted o (Some g) = two_sorted _ _

  numbers_sorted : (o : Cmp) (a b : Form) → SortedAsked (on.numbers_asked f o a b)
  unfolding on.numbers_asked
  numbers_sorted o a b = either_asked _ _ asks_nothing (difference_sorted o (f.difference a b)) tt

  compare_sorted : (o : Cmp) (x : Value) (s : Shadow) (y : Value) (u : Shadow) (d : Data) → SortedAsked (on.compare_asked f o (record { plain = x; shadow = s }) (record { plain = y; shadow = u }) d)
  unfolding on.compare_asked
  compare_sorted o x (form g) y (form h) d = numbers_sorted o g h
  compare_sorted o x (form g) y (place q u) d = tt
  compare_sorted o x (form g) y none d = tt
  compare_sorted o x (place p t) y (form h) d = tt
  compare_sorted o x none y (form h) d = tt
  compare_sorted o x (place p t) y (place q u) d = pointers_sorted o x (place p t) y (place q u) (d.plain).touched (d.shadows).touched
  compare_sorted o x (place p t) y none d = pointers_sorted o x (place p t) y none (d.plain).touched (d.shadows).touched
  compare_sorted o x none y (place q u) d = pointers_sorted o x none y (place q u) (d.plain).touched (d.shadows).touched
  compare_sorted o x none y none d = pointers_sorted o x none y none (d.plain).touched (d.shadows).touched

  test_sorted : (s : Shadow) → SortedAsked (on.test_asked f s)
  unfolding on.test_asked
  test_sorted (form g) = either_asked (on.depends g) (one_of (on.two_choices (not_zero g) (is_zero g))) asks_nothing (two_sorted (not_zero g) (is_zero g)) tt
  test_sorted (place p t) = two_sorted _ _
  test_sorted none = tt

  divisor_sorted : (a b : Form) → SortedAsked (on.divisor_asked f a b)
  unfolding on.divisor_asked
  divisor_sorted a b = either_asked _ (term _) asks_nothing tt tt

  index_sorted : (a : Form) → SortedAsked (on.index_asked f a)
  unfolding on.index_asked
  index_sorted a = either_asked _ (term _) asks_nothing tt tt

  asked_sorted : (a : Act Traced) (d : Data) → length (d.shadows).touched ≤ 25 → SortedAsked (on.asked_of f a d)
  unfolding on.asked_of
  asked_sorted (act_arith o a b) d h = fit_sorted _
  asked_sorted (act_divisor a b) d h = divisor_sorted _ _
  asked_sorted (act_negate a) d h = fit_sorted _
  asked_sorted (act_compare o a b) d h = compare_sorted o a.plain a.shadow b.plain b.shadow d
  asked_sorted (act_test a) d h = test_sorted a.shadow
  asked_sorted (act_access a) d h = access_asks a.shadow (d.shadows).touched h
  asked_sorted (act_index p i n w) d h = index_sorted _

  -- ---- how many blocks are touched

  set_as_many : (l : List Touched) (r c : ℕ) (v : Shadow) → length (on.set_touched l r c v) ≡ length l
  unfolding on.set_touched
  set_as_many [] r c v = refl
  set_as_many (b ∷ l) zero c v = refl
  set_as_many (b ∷ l) (suc r) c v = ap suc (set_as_many l r c v)

  write_as_many : (p : Spot) (v : Shadow) (s : Shadows) → length (on.with_shadow p v s).touched ≡ length s.touched
  unfolding on.with_shadow
  write_as_many (in_made n c) v s = refl
  write_as_many (in_touched r c) v s = set_as_many s.touched r c v
  write_as_many nowhere v s = refl

  pub store_as_many : (p v : Traced) (d : Data) → length ((on.store p v d).shadows).touched ≡ length (d.shadows).touched
  unfolding on.store
  store_as_many p v d = write_as_many _ v.shadow d.shadows

  pub take_as_many : (p : Traced) (d : Data) → length ((on.take f p d).shadows).touched ≡ length (d.shadows).touched
  unfolding on.take
  take_as_many p d = write_as_many _ _ _

  pub make_as_many : (t : Layout) (d : Data) → length (((on.make f t d).after).shadows).touched ≡ length (d.shadows).touched
  unfolding on.make
  make_as_many t d = refl

  module _ (layout : ℕ → List Cell) (k : ℕ) where
    touch_one : (b : Bool) (n p t : ℕ) (s : Shadows) → nat_lt n (length s.touched) ≡ b → n < k → length s.touched ≤ k → length (if b then s else on.touch f layout p t s).touched ≤ k
    unfolding on.touch
    touch_one true n p t s e h g = g
    touch_one false n p t s e h g = let m = ltb-false n (length s.touched) e in let q = length-append s.touched ((record { first = p; type = t; shadows = on.cell_shadows f (length s.places) (layout t) }) ∷ []) in omega (arith, h, m, q)

    touch_few : (o : Outcome) (x : Shadow) (s : Shadows) (v : Traced) → Within k (act_access v) o → length s.touched ≤ k → length (on.touch_by f layout o x s).touched ≤ k
    unfolding on.touch_by
    touch_few (Object n) (place p t) s v w h = touch_one (nat_lt n (length s.touched)) n p t s refl (ltb-true n k w) h
    touch_few (Object n) (form g) s v w h = h
    touch_few (Object n) none s v w h = h
    touch_few Zero x s v w h = h
    touch_few High x s v w h = h
    touch_few Low x s v w h = h
    touch_few Plain x s v w h = h
    touch_few False x s v w h = h
    touch_few True x s v w h = h

    after_few : (a : Act Traced) (o : Outcome) (s : Shadows) → Within k a o → length s.touched ≤ k → length (on.after_shadows f layout a o s).touched ≤ k
    unfolding on.after_shadows
    after_few (act_access a) o s w h = touch_few o a.shadow s a w h
    after_few (act_arith o a b) t s w h = h
    after_few (act_divisor a b) t s w h = h
    after_few (act_negate a) t s w h = h
    after_few (act_compare o a b) t s w h = h
    after_few (act_test a) t s w h = h
    after_few (act_index p i n w) t s v h = h

    -- ---- how many blocks are touched in the plain memory

    rank_kept : (t : Bool) (n m : ℕ) → n ≤ m → (if t then 0 else suc n) ≤ suc m
    rank_kept true n m h = omega arith
    rank_kept false n m h = omega (arith, h)

    rank_low : (a : ℕ) (l : List ℕ) → rank a l ≤ length l
    unfolding rank
    rank_low a [] = omega arith
    rank_low a (b ∷ l) = rank_kept (nat_eq a b) (rank a l) (length l) (rank_low a l)

    away_kept : (t h : Bool) (n m : ℕ) → (t || h) ≡ false → (h ≡ false → n ≡ m) → (if t then 0 else suc n) ≡ suc m
    away_kept true h n m e g = absurd (cc e)
    away_kept false h n m e g = ap suc (g e)

    rank_away : (a : ℕ) (l : List ℕ) → has a l ≡ false → rank a l ≡ length l
    unfolding rank has
    rank_away a [] e = refl
    rank_away a (b ∷ l) e = away_kept (nat_eq a b) (has a l) (rank a l) (length l) e (rank_away a l)

    touched_one : (t : Bool) (a : ℕ) (l : List ℕ) → has a l ≡ t → rank a l < k → length l ≤ k → length (if t then l else l ++ a ∷ []) ≤ k
    touched_one true a l e w h = h
    touched_one false a l e w h = let r = rank_away a l e in let q = length-append l (a ∷ []) in omega (arith, r, q, w, h)

    access_few : (v : Value) (d : base.Data) (u : Traced) → Within k (act_access u) (base.access_in v d).event → length d.touched ≤ k → length ((base.access_in v d).after).touched ≤ k
    unfolding base.access_in base.acted base.touch
    access_few (at (block a) c) d u w h = touched_one (has a d.touched) a d.touched refl (ltb-true (rank a d.touched) k w) h
    access_few (at (made n) c) d u w h = h
    access_few (num z) d u w h = h
    access_few null d u w h = h

    plain_few : (a : Act Traced) (d : base.Data) → Within k a (base.act (on.plain_of f layout a) d).event → length d.touched ≤ k → length ((base.act (on.plain_of f layout a) d).after).touched ≤ k
    unfolding base.act base.acted on.plain_of
    plain_few (act_access a) d w h = access_few a.plain d a w h
    plain_few (act_arith o a b) d w h = h
    plain_few (act_divisor a b) d w h = h
    plain_few (act_negate a) d w h = h
    plain_few (act_compare o a b) d w h = h
    plain_few (act_test a) d w h = h
    plain_few (act_index p i n x) d w h = h

    store_touched : (p v : Value) (d : base.Data) → (base.store p v d).touched ≡ d.touched
    unfolding base.store base.with_cells
    store_touched (at (block a) c) v d = refl
    store_touched (at (made n) c) v d = refl
    store_touched (num z) v d = refl
    store_touched null v d = refl

    take_touched : (p : Value) (d : base.Data) → (base.take p d).touched ≡ d.touched
    unfolding base.take
    take_touched p d = store_touched p _ _

    make_touched : (t : Layout) (d : base.Data) → (base.make t d).after.touched ≡ d.touched
    unfolding base.make
    make_touched t d = refl

    -- ---- outcomes have bytes

    pick_byte : (b : Bool) (o p : Outcome) → HasByte o → HasByte p → HasByte (if b then o else p)
    pick_byte true o p h g = h
    pick_byte false o p h g = g

    choose_byte : (a b : Bool) → HasByte (if a then High else (if b then Low else Plain))
    choose_byte true b = tt
    choose_byte false true = tt
    choose_byte false false = tt

    fit_byte : (z : ℤ) → HasByte (base.fit_of z)
    unfolding base.fit_of
    fit_byte z = choose_byte _ _

    index_byte : (z : ℤ) (n : ℕ) → HasByte (base.index_of z n)
    unfolding base.index_of
    index_byte (negsuc i) n = tt
    index_byte (pos i) n = pick_byte (nat_lt i n) Plain High tt tt

    decision_byte : (b : Bool) → HasByte (base.decision_of b)
    unfolding base.decision_of
    decision_byte true = tt
    decision_byte false = tt

    access_byte : (v : Value) (d : base.Data) → length d.touched ≤ 25 → HasByte (base.access_in v d).event
    unfolding base.access_in base.acted
    access_byte (at (block a) c) d h = let r = rank_low a d.touched in omega (arith, r, h)
    access_byte (at (made n) c) d h = tt
    access_byte (num z) d h = tt
    access_byte null d h = tt

    plain_byte : (a : Act Traced) (d : base.Data) → length d.touched ≤ 25 → HasByte (base.act (on.plain_of f layout a) d).event
    unfolding base.act base.acted on.plain_of
    plain_byte (act_access a) d h = access_byte a.plain d h
    plain_byte (act_arith o a b) d h = fit_byte _
    plain_byte (act_divisor a b) d h = pick_byte _ Zero Plain tt tt
    plain_byte (act_negate a) d h = fit_byte _
    plain_byte (act_compare o a b) d h = decision_byte _
    plain_byte (act_test a) d h = decision_byte _
    plain_byte (act_index p i n x) d h = index_byte _ n

    -- ---- the two together

    pub record FewTouched (d : Data) : Type 0 where
      pub shadows : length (d.shadows).touched ≤ k
      pub plain : length (d.plain).touched ≤ k

    pub store_few : (p v : Traced) (d : Data) → FewTouched d → FewTouched (on.store p v d)
    unfolding on.store
    store_few p v d h = let e = store_as_many p v d in let g = ap length (store_touched p.plain v.plain d.plain) in let s = h.shadows in let t = h.plain in record { shadows = omega (arith, e, s); plain = omega (arith, g, t) }

    pub take_few : (p : Traced) (d : Data) → FewTouched d → FewTouched (on.take f p d)
    unfolding on.take
    take_few p d h = let e = take_as_many p d in let g = ap length (take_touched p.plain d.plain) in let s = h.shadows in let t = h.plain in record { shadows = omega (arith, e, s); plain = omega (arith, g, t) }

    pub make_few : (t : Layout) (d : Data) → FewTouched d → FewTouched (on.make f t d).after
    unfolding on.make
    make_few t d h = let e = make_as_many t d in let g = ap length (make_touched t d.plain) in let s = h.shadows in let q = h.plain in record { shadows = omega (arith, e, s); plain = omega (arith, g, q) }

    pub act_few : (a : Act Traced) (d : Data) → Within k a ((on.act f layout a d).event).outcome → FewTouched d → FewTouched (on.act f layout a d).after
    unfolding on.act
    act_few a d w h = record { shadows = after_few a _ d.shadows w h.shadows; plain = plain_few a d.plain w h.plain }

    pub act_offers : (a : Act Traced) (d : Data) → k ≤ 25 → FewTouched d → Offered (on.act f layout a d).event
    unfolding on.act
    act_offers a d low h = let s = h.shadows in let t = h.plain in record { few = few_by _ _ _ (asked_sorted a d (omega (arith, s, low))); byte = plain_byte a d.plain (omega (arith, t, low)) }

    -- blocks are touched up to the bound, and each event offers few outcomes
    abbrev pub few : k ≤ 25 → Invariant (traced f layout) k
    few low = record {
      Ok = λ x. FewTouched x;
      Last = λ x. Unit {0};
      Value = λ x v. Unit {0};
      Ev = λ x e. Offered e;
      Le = λ x y. Unit {0};
      le_refl = λ x. tt;
      le_trans = λ x y z h g. tt;
      later = λ x y v h g. tt;
      later_event = λ x y e h g. g;
      last = λ x h. tt;
      number = λ x z. tt;
      nil = λ x. tt;
      offset = λ x v n h. tt;
      global = λ x n. tt;
      load = λ x p h g. tt;
      store = λ x p v h g o. (store_few p v x o, tt);
      make = λ x t o. (make_few t x o, tt, tt);
      take = λ x p h o. (take_few p x o, tt);
      act = λ x a h o. (act_offers a x low o, tt, tt, λ w. (act_few a x w o, tt));
    }
