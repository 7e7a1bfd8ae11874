-- What a reader has passed is what is written of its numbers.
use Rattle.std.proofs.Common.{◌≡◌, ℕ, zero, suc, ◌+◌, ◌*◌, ◌/◌, ◌%◌, ◌^◌, ◌<◌, ◌≤◌, ℤ, unsigned_abs, Bool, true, false, ◌&&◌, List, [], ◌∷◌, ◌++◌, Option, Some, None, option_and_then, codes, refl, sym, ap, ◌∙◌, subst, arith, nat_eq, nat_lt, if◌then◌else◌, append_assoc}
use Rattle.std.proofs.lemmas.List.{append-nil}
use Rattle.std.proofs.lemmas.Bool.{and_parts}
use Rattle.std.proofs.lemmas.Bool.Decides.{nat_tests}
use Rattle.std.proofs.lemmas.Fmt.{decimal_digit, decimal_step}
use Rattle.std.specs.Fmt.{decimal, signed_decimal}
use Rattle.cc_base.specs.Inputs.{numbers_text, cells_text, stream_text}
use Rattle.input_map.specs.declared.reading.Mark.{Mark}
use Rattle.input_map.specs.declared.reading.Mark.TheVariants.{Tilde, Comma, Slash, Minus, Digit}
use Rattle.input_map.specs.declared.reading.Place.{Place}
use Rattle.input_map.specs.declared.reading.Place.TheVariants.{Start, NoCells, Due, Sign, Digits}
use Rattle.input_map.specs.declared.reading.Reader.{Reader}
use Rattle.input_map.specs.Maps.{IsShort, AllShort, IsMap}
use Rattle.input_map.specs.Reading.{mark_of, signed, start, at, added, moved, step, steps, finish, input_in}
use Rattle.input_map.proofs.Marks.{IsMark, marked}

-- ---- texts of numbers

abbrev pub ahead : List ℤ → List ℕ
ahead [] = []
ahead (z ∷ zs) = (signed_decimal z ++ codes ",") ++ ahead zs

numbers_cons : (y : ℤ) (zs : List ℤ) (z : ℤ) → numbers_text (y ∷ (zs ++ z ∷ [])) ≡ (signed_decimal y ++ codes ",") ++ numbers_text (zs ++ z ∷ [])
numbers_cons y [] z = refl
numbers_cons y (x ∷ zs) z = refl

joined : (zs : List ℤ) (z : ℤ) → ahead zs ++ signed_decimal z ≡ numbers_text (zs ++ z ∷ [])
joined [] z = refl
joined (y ∷ zs) z = append_assoc (signed_decimal y ++ codes ",") (ahead zs) (signed_decimal z)
    ∙ ap (λ t. (signed_decimal y ++ codes ",") ++ t) (joined zs z) ∙ sym (numbers_cons y zs z)

ahead_more : (zs : List ℤ) (z : ℤ) → ahead (zs ++ z ∷ []) ≡ (ahead zs ++ signed_decimal z) ++ codes ","
ahead_more [] z = append-nil (signed_decimal z ++ codes ",")
ahead_more (y ∷ zs) z = ap (λ t. (signed_decimal y ++ codes ",") ++ t) (ahead_more zs z)
    ∙ sym (append_assoc (signed_decimal y ++ codes ",") (ahead zs ++ signed_decimal z) (codes ","))
    ∙ ap (λ t. t ++ codes ",") (sym (append_assoc (signed_decimal y ++ codes ",") (ahead zs) (signed_decimal z)))

cells_joined : (zs : List ℤ) (z : ℤ) → cells_text (zs ++ z ∷ []) ≡ ahead zs ++ signed_decimal z
cells_joined [] z = refl
cells_joined (y ∷ zs) z = sym (joined (y ∷ zs) z)

stream_joined : (zs : List ℤ) (z : ℤ) → stream_text (zs ++ z ∷ []) ≡ codes "/" ++ (ahead zs ++ signed_decimal z)
stream_joined [] z = refl
stream_joined (y ∷ zs) z = ap (λ t. codes "/" ++ t) (sym (joined (y ∷ zs) z))

pub short_more : (zs : List ℤ) (z : ℤ) → AllShort zs → IsShort z → AllShort (zs ++ z ∷ [])
short_more [] z h k = (k, tt)
short_more (y ∷ zs) z h k = (h.0, short_more zs z h.1 k)

pub signed_size : (g : Bool) (n : ℕ) → unsigned_abs (signed g n) ≡ n
signed_size true zero = refl
signed_size true (suc n) = refl
signed_size false n = refl

signed_short : (g : Bool) (n : ℕ) → n < 10 ^ 18 → IsShort (signed g n)
signed_short g n h = subst (λ m. m < 10 ^ 18) (sym (signed_size g n)) h

-- ---- one more digit

digit_more : (n d : ℕ) → 1 ≤ n → n < 10 ^ 17 → d < 10 → decimal (10 * n + d) ≡ decimal n ++ (48 + d) ∷ []
digit_more n d h k l =
    let q : (10 * n + d) / 10 ≡ n = omega arith in
    let m : (10 * n + d) % 10 ≡ d = omega arith in
    decimal_step (10 * n + d) (omega arith) (omega arith) ∙ ap (λ a. decimal a ++ (48 + (10 * n + d) % 10) ∷ []) q ∙ ap (λ a. decimal n ++ (48 + a) ∷ []) m

signed_positive : (n : ℕ) → 1 ≤ n → signed_decimal (signed true n) ≡ codes "-" ++ decimal n
signed_positive zero h = absurd (omega (arith, h))
signed_positive (suc n) h = refl

signed_more : (g : Bool) (n d : ℕ) → 1 ≤ n → n < 10 ^ 17 → d < 10 → signed_decimal (signed g (10 * n + d)) ≡ signed_decimal (signed g n) ++ (48 + d) ∷ []
signed_more false n d h k l = digit_more n d h k l
signed_more true n d h k l = signed_positive (10 * n + d) (omega (arith, h)) ∙ ap (λ t. codes "-" ++ t) (digit_more n d h k l)
    ∙ ap (λ t. t ++ (48 + d) ∷ []) (sym (signed_positive n h))

-- ---- readers

abbrev pub reader : List ℤ → List ℤ → Bool → Place → Reader
reader cs ss t p = record { cells = cs; stream = ss; in_stream = t; place = p }

abbrev pub shown : Place → List ℕ
shown Start = []
shown NoCells = codes "~"
shown Due = []
shown Sign = codes "-"
shown (Digits g n) = signed_decimal (signed g n)

abbrev pub front : Bool → List ℤ → List ℤ → List ℕ
front true cs ss = (cells_text cs ++ codes "/") ++ ahead ss
front false cs ss = ahead cs

-- what has been passed
abbrev pub text_at : Reader → List ℕ
text_at s = front s.in_stream s.cells s.stream ++ shown s.place

abbrev pub IsAtStart : Reader → Type 0
IsAtStart s = (s.cells ≡ []) × (s.stream ≡ []) × (s.in_stream ≡ false)

abbrev pub IsPlace : Place → Reader → Type 0
IsPlace Start s = IsAtStart s
IsPlace NoCells s = IsAtStart s
IsPlace Due s = Unit {0}
IsPlace Sign s = Unit {0}
IsPlace (Digits g n) s = (n < 10 ^ 18) × (g ≡ true → 1 ≤ n)

pub record Valid (s : Reader) : Type 0 where
  pub place : IsPlace s.place s
  pub cells : AllShort s.cells
  pub stream : AllShort s.stream
  pub outside : s.in_stream ≡ false → s.stream ≡ []

-- r stands one byte behind
abbrev pub Moves : List ℤ → List ℤ → Bool → Place → ℕ → Reader → Type 0
Moves cs ss t p b r = Valid r × (text_at r ≡ text_at (reader cs ss t p) ++ b ∷ [])

given : (P : Reader → Type 0) (s r : Reader) → Some s ≡ Some r → P s → P r
given P s r e h = let f : s ≡ r = cc in subst P f h

-- within a number
within : (cs ss : List ℤ) (t : Bool) (p q : Place) (b : ℕ) → Valid (reader cs ss t p) → IsPlace q (reader cs ss t q) → shown q ≡ shown p ++ b ∷ [] → Moves cs ss t p b (reader cs ss t q)
within cs ss t p q b v i e = (
  record { place = i; cells = v.cells; stream = v.stream; outside = v.outside },
  ap (λ l. front t cs ss ++ l) e ∙ sym (append_assoc (front t cs ss) (shown p) (b ∷ [])),
)

first_digit : (d b : ℕ) → IsMark (Digit d) b → decimal d ≡ b ∷ []
first_digit d b i = decimal_digit d i.0 ∙ ap (λ n. n ∷ []) (sym i.1)

small : (d : ℕ) → d < 10 → d < 10 ^ 18
small d h = omega (arith, h)

no_sign : (n : ℕ) → false ≡ true → 1 ≤ n
no_sign n e = absurd (cc e)

-- behind a -
signed_first : (cs ss : List ℤ) (t : Bool) (d b : ℕ) (r : Reader) → IsMark (Digit d) b → Valid (reader cs ss t Sign) → (z : Bool) → nat_eq d 0 ≡ z
    → (if z then None else Some (reader cs ss t (Digits true d))) ≡ Some r → Moves cs ss t Sign b r
signed_first cs ss t d b r i v true f e = absurd (cc e)
signed_first cs ss t d b r i v false f e = let one : 1 ≤ d = grind (arith, nat_tests) in
    given (Moves cs ss t Sign b) _ r e (within cs ss t Sign (Digits true d) b v (small d i.0, λ _. one) (signed_positive d one ∙ ap (λ l. codes "-" ++ l) (first_digit d b i)))

-- behind digits
one_digit : (cs ss : List ℤ) (t g : Bool) (n d b : ℕ) (r : Reader) → IsMark (Digit d) b → Valid (reader cs ss t (Digits g n)) → (z : Bool) → nat_lt 0 n && nat_lt n (10 ^ 17) ≡ z
    → (if z then Some (reader cs ss t (Digits g (10 * n + d))) else None) ≡ Some r → Moves cs ss t (Digits g n) b r
one_digit cs ss t g n d b r i v false f e = absurd (cc e)
one_digit cs ss t g n d b r i v true f e =
    let p = and_parts (nat_lt 0 n) (nat_lt n (10 ^ 17)) f in
    let low : 1 ≤ n = let q = p.0 in grind (arith, nat_tests) in
    let high : n < 10 ^ 17 = let q = p.1 in grind (arith, nat_tests) in
    let d10 = i.0 in
    given (Moves cs ss t (Digits g n) b) _ r e (within cs ss t (Digits g n) (Digits g (10 * n + d)) b v ((omega (arith, high, d10)), λ _. omega (arith, low))
    (signed_more g n d low high d10 ∙ ap (λ m. signed_decimal (signed g n) ++ m ∷ []) (sym i.1)))

-- ---- at a separator

codes_slash : (b : ℕ) → b ≡ 47 → codes "/" ≡ b ∷ []
codes_slash b e = ap (λ n. n ∷ []) (sym e)

codes_comma : (b : ℕ) → b ≡ 44 → codes "," ≡ b ∷ []
codes_comma b e = ap (λ n. n ∷ []) (sym e)

no_end : {A : Type 0} (l : List A) → l ++ [] ≡ l
no_end l = append-nil l

comma_outside : (cs ss : List ℤ) (g : Bool) (n b : ℕ) → b ≡ 44 → Valid (reader cs ss false (Digits g n)) → Moves cs ss false (Digits g n) b (reader (cs ++ signed g n ∷ []) ss false Due)
comma_outside cs ss g n b i v = (
  record { place = tt; cells = short_more cs (signed g n) v.cells (signed_short g n (v.place).0); stream = v.stream; outside = v.outside },
  no_end (ahead (cs ++ signed g n ∷ [])) ∙ ahead_more cs (signed g n) ∙ ap (λ t. (ahead cs ++ signed_decimal (signed g n)) ++ t) (codes_comma b i),
)

comma_inside : (cs ss : List ℤ) (g : Bool) (n b : ℕ) → b ≡ 44 → Valid (reader cs ss true (Digits g n)) → Moves cs ss true (Digits g n) b (reader cs (ss ++ signed g n ∷ []) true Due)
comma_inside cs ss g n b i v = (
  record { place = tt; cells = v.cells; stream = short_more ss (signed g n) v.stream (signed_short g n (v.place).0); outside = λ e. absurd (cc e) },
  no_end ((cells_text cs ++ codes "/") ++ ahead (ss ++ signed g n ∷ [])) ∙ ap (λ t. (cells_text cs ++ codes "/") ++ t) (ahead_more ss (signed g n))
      ∙ sym (append_assoc (cells_text cs ++ codes "/") (ahead ss ++ signed_decimal (signed g n)) (codes ","))
      ∙ ap (λ t. t ++ codes ",") (sym (append_assoc (cells_text cs ++ codes "/") (ahead ss) (signed_decimal (signed g n))))
      ∙ ap (λ t. ((((cells_text cs ++ codes "/") ++ ahead ss) ++ signed_decimal (signed g n)) ++ t)) (codes_comma b i),
)

at_comma_ok : (cs ss : List ℤ) (t g : Bool) (n b : ℕ) (r : Reader) → b ≡ 44 → Valid (reader cs ss t (Digits g n)) → step (reader cs ss t (Digits g n)) Comma ≡ Some r → Moves cs ss t (Digits g n) b r
at_comma_ok cs ss true g n b r i v e = given (Moves cs ss true (Digits g n) b) (reader cs (ss ++ signed g n ∷ []) true Due) r e (comma_inside cs ss g n b i v)
at_comma_ok cs ss false g n b r i v e = given (Moves cs ss false (Digits g n) b) (reader (cs ++ signed g n ∷ []) ss false Due) r e (comma_outside cs ss g n b i v)

slash_behind : (cs ss : List ℤ) (g : Bool) (n b : ℕ) → b ≡ 47 → Valid (reader cs ss false (Digits g n)) → ss ≡ [] → Moves cs ss false (Digits g n) b (reader (cs ++ signed g n ∷ []) ss true Due)
slash_behind cs ss g n b i v o = (
  record { place = tt; cells = short_more cs (signed g n) v.cells (signed_short g n (v.place).0); stream = v.stream; outside = λ e. absurd (cc e) },
  no_end ((cells_text (cs ++ signed g n ∷ []) ++ codes "/") ++ ahead ss) ∙ ap (λ l. (cells_text (cs ++ signed g n ∷ []) ++ codes "/") ++ ahead l) o
      ∙ no_end (cells_text (cs ++ signed g n ∷ []) ++ codes "/") ∙ ap (λ t. t ++ codes "/") (cells_joined cs (signed g n))
      ∙ ap (λ t. (ahead cs ++ signed_decimal (signed g n)) ++ t) (codes_slash b i),
)

at_slash_ok : (cs ss : List ℤ) (t g : Bool) (n b : ℕ) (r : Reader) → b ≡ 47 → Valid (reader cs ss t (Digits g n)) → step (reader cs ss t (Digits g n)) Slash ≡ Some r → Moves cs ss t (Digits g n) b r
at_slash_ok cs ss true g n b r i v e = absurd (cc e)
at_slash_ok cs ss false g n b r i v e = given (Moves cs ss false (Digits g n) b) (reader (cs ++ signed g n ∷ []) ss true Due) r e (slash_behind cs ss g n b i v (v.outside refl))

slash_nothing : (cs ss : List ℤ) (t : Bool) (b : ℕ) → b ≡ 47 → cs ≡ [] → ss ≡ [] → t ≡ false → Moves cs ss t NoCells b (reader cs ss true Due)
slash_nothing [] [] false b i e f h = (
  record { place = tt; cells = tt; stream = tt; outside = λ e. absurd (cc e) },
  ap (λ l. codes "~" ++ l) (codes_slash b i),
)
slash_nothing (x ∷ cs) ss t b i e f h = absurd (cc e)
slash_nothing cs (x ∷ ss) t b i e f h = absurd (cc f)
slash_nothing cs ss true b i e f h = absurd (cc h)

-- ---- a step

moved_if : (z : Bool) (p : Place) (s r : Reader) → moved (if z then None else Some p) s ≡ Some r → (if z then None else Some (at p s)) ≡ Some r
moved_if true p s r e = e
moved_if false p s r e = e

moved_unless : (z : Bool) (p : Place) (s r : Reader) → moved (if z then Some p else None) s ≡ Some r → (if z then Some (at p s) else None) ≡ Some r
moved_unless true p s r e = e
moved_unless false p s r e = e

byte : (m b : ℕ) → b ≡ m → m ∷ [] ≡ [] ++ b ∷ []
byte m b e = ap (λ n. n ∷ []) (sym e)

step_ok : (cs ss : List ℤ) (t : Bool) (p : Place) (m : Mark) (b : ℕ) (r : Reader) → IsMark m b → Valid (reader cs ss t p) → step (reader cs ss t p) m ≡ Some r → Moves cs ss t p b r
step_ok cs ss t Start Tilde b r i v e = given (Moves cs ss t Start b) _ r e (within cs ss t Start NoCells b v v.place (byte 126 b i))
step_ok cs ss t Start Minus b r i v e = given (Moves cs ss t Start b) _ r e (within cs ss t Start Sign b v tt (byte 45 b i))
step_ok cs ss t Start (Digit d) b r i v e = given (Moves cs ss t Start b) _ r e (within cs ss t Start (Digits false d) b v (small d i.0, no_sign d) (first_digit d b i))
step_ok cs ss t Due Minus b r i v e = given (Moves cs ss t Due b) _ r e (within cs ss t Due Sign b v tt (byte 45 b i))
step_ok cs ss t Due (Digit d) b r i v e = given (Moves cs ss t Due b) _ r e (within cs ss t Due (Digits false d) b v (small d i.0, no_sign d) (first_digit d b i))
step_ok cs ss t Sign (Digit d) b r i v e = signed_first cs ss t d b r i v (nat_eq d 0) refl (moved_if (nat_eq d 0) (Digits true d) (reader cs ss t Sign) r e)
step_ok cs ss t (Digits g n) (Digit d) b r i v e = one_digit cs ss t g n d b r i v (nat_lt 0 n && nat_lt n (10 ^ 17)) refl (moved_unless (nat_lt 0 n && nat_lt n (10 ^ 17)) (Digits g (10 * n + d)) (reader cs ss t (Digits g n)) r e)
step_ok cs ss t (Digits g n) Comma b r i v e = at_comma_ok cs ss t g n b r i v e
step_ok cs ss t (Digits g n) Slash b r i v e = at_slash_ok cs ss t g n b r i v e
step_ok cs ss t NoCells Slash b r i v e = given (Moves cs ss t NoCells b) _ r e (slash_nothing cs ss t b i (v.place).0 (v.place).1 (v.place).2)
step_ok cs ss t p m b r i v e = absurd (cc e)

-- ---- steps

pub steps_ok : (l : List ℕ) (s r : Reader) → Valid s → steps s l ≡ Some r → Valid r × (text_at r ≡ text_at s ++ l)
unfolding steps
steps_ok [] s r v e = let f : s ≡ r = cc in (subst Valid f v, ap text_at (sym f) ∙ sym (no_end (text_at s)))
steps_ok (b ∷ l) s r v e = behind b l s r v (steps_ok l) (step s (mark_of b)) refl e
  where
    first : (b : ℕ) (l : List ℕ) (s n r : Reader) → Moves s.cells s.stream s.in_stream s.place b n → Valid r × (text_at r ≡ text_at n ++ l) → Valid r × (text_at r ≡ text_at s ++ b ∷ l)
    first b l s n r m k = (k.0, k.1 ∙ ap (λ x. x ++ l) m.1 ∙ append_assoc (text_at s) (b ∷ []) l)

    behind : (b : ℕ) (l : List ℕ) (s r : Reader) → Valid s → ((n r : Reader) → Valid n → steps n l ≡ Some r → Valid r × (text_at r ≡ text_at n ++ l)) → (o : Option Reader) → step s (mark_of b) ≡ o
        → option_and_then (λ n. steps n l) o ≡ Some r → Valid r × (text_at r ≡ text_at s ++ b ∷ l)
    behind b l s r v h None f e = absurd (cc e)
    behind b l s r v h (Some n) f e = let m = step_ok s.cells s.stream s.in_stream s.place (mark_of b) b n (marked b) v f in first b l s n r m (h n r m.0 e)

pub start_valid : Valid start
start_valid = record { place = (refl, refl, refl); cells = tt; stream = tt; outside = λ e. refl }

-- ---- at the end

nothing_map : (cs ss : List ℤ) (t : Bool) → cs ≡ [] → ss ≡ [] → t ≡ false → IsMap (text_at (reader cs ss t NoCells)) (input_in (reader cs ss t NoCells))
nothing_map [] [] false e f h = record { written = refl; cells = tt; stream = tt }
nothing_map (x ∷ cs) ss t e f h = absurd (cc e)
nothing_map cs (x ∷ ss) t e f h = absurd (cc f)
nothing_map cs ss true e f h = absurd (cc h)

number_map : (cs ss : List ℤ) (t g : Bool) (n : ℕ) → Valid (reader cs ss t (Digits g n)) → IsMap (text_at (reader cs ss t (Digits g n))) (input_in (added (signed g n) (reader cs ss t (Digits g n))))
number_map cs ss true g n v = record {
  written = append_assoc (cells_text cs ++ codes "/") (ahead ss) (signed_decimal (signed g n)) ∙ append_assoc (cells_text cs) (codes "/") (ahead ss ++ signed_decimal (signed g n))
      ∙ ap (λ l. cells_text cs ++ l) (sym (stream_joined ss (signed g n)));
  cells = v.cells;
  stream = short_more ss (signed g n) v.stream (signed_short g n (v.place).0);
}
number_map cs ss false g n v = record {
  written = sym (ap (λ l. cells_text (cs ++ signed g n ∷ []) ++ stream_text l) (v.outside refl) ∙ no_end (cells_text (cs ++ signed g n ∷ [])) ∙ cells_joined cs (signed g n));
  cells = short_more cs (signed g n) v.cells (signed_short g n (v.place).0);
  stream = v.stream;
}

finish_place : (cs ss : List ℤ) (t : Bool) (p : Place) (r : Reader) → Valid (reader cs ss t p) → finish (reader cs ss t p) ≡ Some r → IsMap (text_at (reader cs ss t p)) (input_in r)
finish_place cs ss t NoCells r v e = given (λ r. IsMap (text_at (reader cs ss t NoCells)) (input_in r)) _ r e (nothing_map cs ss t (v.place).0 (v.place).1 (v.place).2)
finish_place cs ss t (Digits g n) r v e = given (λ r. IsMap (text_at (reader cs ss t (Digits g n))) (input_in r)) _ r e (number_map cs ss t g n v)
finish_place cs ss t p r v e = absurd (cc e)

pub finish_ok : (s r : Reader) → Valid s → finish s ≡ Some r → IsMap (text_at s) (input_in r)
finish_ok s r v e = finish_place s.cells s.stream s.in_stream s.place r v e
