-- A reader takes each map text, and where it goes on, a map text goes on.
use Rattle.std.proofs.Common.{◌≡◌, ℕ, suc, ◌+◌, ◌*◌, ◌/◌, ◌%◌, ◌^◌, ◌<◌, ◌≤◌, ◌⊎◌, inl, inr, ℤ, pos, negsuc, Bool, true, false, ◌&&◌, List, [], ◌∷◌, ◌++◌, Option, Some, None, option_and_then, codes, refl, sym, ap, ◌∙◌, subst, arith, nat_eq, nat_lt, if◌then◌else◌, append_assoc}
use Rattle.std.proofs.lemmas.List.{append-nil}
use Rattle.std.proofs.lemmas.Bool.Decides.{nat_tests}
use Rattle.std.proofs.lemmas.Fmt.{decimal_by_steps}
use Rattle.std.specs.Fmt.{decimal, signed_decimal}
use Rattle.cc_base.specs.declared.inputs.Input.{Input}
use Rattle.cc_base.specs.Inputs.{numbers_text, cells_text, stream_text}
use Rattle.input_map.specs.declared.reading.Mark.{Mark}
use Rattle.input_map.specs.declared.reading.Mark.TheVariants.{Tilde, Comma, Slash, Minus, Digit}
use Rattle.input_map.specs.declared.reading.Place.{Place}
use Rattle.input_map.specs.declared.reading.Place.TheVariants.{Start, NoCells, Due, Sign, Digits}
use Rattle.input_map.specs.declared.reading.Reader.{Reader}
use Rattle.input_map.specs.Maps.{IsShort, AllShort, IsMap}
use Rattle.input_map.specs.Reading.{mark_of, signed, start, added, moved, step, steps, finish}
use Rattle.input_map.proofs.Marks.{mark_of_digit, mark_of_tilde, mark_of_comma, mark_of_slash, mark_of_minus}
use Rattle.input_map.proofs.Written.{reader}

-- ---- one text behind another

onward : (l m : List ℕ) (o : Option Reader) → ((n : Reader) → steps n (l ++ m) ≡ option_and_then (λ r. steps r m) (steps n l))
    → option_and_then (λ r. steps r (l ++ m)) o ≡ option_and_then (λ r. steps r m) (option_and_then (λ r. steps r l) o)
onward l m None h = refl
onward l m (Some n) h = h n

pub steps_append : (l m : List ℕ) (s : Reader) → steps s (l ++ m) ≡ option_and_then (λ r. steps r m) (steps s l)
unfolding steps
steps_append [] m s = refl
steps_append (b ∷ l) m s = onward l m (step s (mark_of b)) (steps_append l m)

-- behind l it stands at n
pub goes_on : (l m : List ℕ) (s n : Reader) → steps s l ≡ Some n → steps s (l ++ m) ≡ steps n m
goes_on l m s n e = steps_append l m s ∙ ap (option_and_then (λ r. steps r m)) e

pub stuck : (l m : List ℕ) (s : Reader) → steps s l ≡ None → steps s (l ++ m) ≡ None
stuck l m s e = steps_append l m s ∙ ap (option_and_then (λ r. steps r m)) e

pub one_byte : (b : ℕ) (s : Reader) → steps s (b ∷ []) ≡ step s (mark_of b)
unfolding steps
one_byte b s = here (step s (mark_of b))
  where
    here : (o : Option Reader) → option_and_then (λ r. Some r) o ≡ o
    here None = refl
    here (Some r) = refl

pub first_byte : (b : ℕ) (l : List ℕ) (s n : Reader) → step s (mark_of b) ≡ Some n → steps s (b ∷ l) ≡ steps n l
first_byte b l s n e = goes_on (b ∷ []) l s n (one_byte b s ∙ e)

at_mark : (b : ℕ) (m : Mark) (s : Reader) → mark_of b ≡ m → step s (mark_of b) ≡ step s m
at_mark b m s e = ap (step s) e

-- ---- a number

-- where the digits of a number begin: behind a - they aren't 0
data Opens : Place → Bool → ℕ → Type 0 where
  first : {n : ℕ} → Opens Start false n
  later : {n : ℕ} → Opens Due false n
  behind : {n : ℕ} → 1 ≤ n → Opens Sign true n

first_step : (cs ss : List ℤ) (t : Bool) (p : Place) (g : Bool) (n : ℕ) → Opens p g n → step (reader cs ss t p) (Digit n) ≡ Some (reader cs ss t (Digits g n))
first_step cs ss t p g n first = refl
first_step cs ss t p g n later = refl
first_step cs ss t p g n (behind h) = let e : nat_eq n 0 ≡ false = grind (arith, nat_tests) in ap (λ z. moved (if z then None else Some (Digits true n)) (reader cs ss t Sign)) e

next_step : (cs ss : List ℤ) (t g : Bool) (n d : ℕ) → 1 ≤ n → n < 10 ^ 17 → step (reader cs ss t (Digits g n)) (Digit d) ≡ Some (reader cs ss t (Digits g (10 * n + d)))
next_step cs ss t g n d h k =
    let e : nat_lt 0 n ≡ true = grind (arith, nat_tests) in
    let f : nat_lt n (10 ^ 17) ≡ true = grind (arith, nat_tests) in
    ap (λ z. moved (if z && nat_lt n (10 ^ 17) then Some (Digits g (10 * n + d)) else None) (reader cs ss t (Digits g n))) e
    ∙ ap (λ z. moved (if z then Some (Digits g (10 * n + d)) else None) (reader cs ss t (Digits g n))) f

opens_less : (p : Place) (g : Bool) (n m : ℕ) → (1 ≤ n → 1 ≤ m) → Opens p g n → Opens p g m
opens_less p g n m h first = first
opens_less p g n m h later = later
opens_less p g n m h (behind k) = behind (h k)

-- where a number may begin
abbrev pub IsOpen : Place → Type 0
IsOpen p = (p ≡ Start) ⊎ (p ≡ Due)

abbrev pub number_place : ℤ → Place
number_place (pos n) = Digits false n
number_place (negsuc n) = Digits true (suc n)

opens : (p : Place) (n : ℕ) → IsOpen p → Opens p false n
opens p n (inl e) = subst (λ q. Opens q false n) (sym e) first
opens p n (inr e) = subst (λ q. Opens q false n) (sym e) later

module _ (cs ss : List ℤ) (t : Bool) where
  abbrev Reads : ℕ → List ℕ → Type 0
  Reads n ds = n < 10 ^ 18 → (p : Place) (g : Bool) → Opens p g n → steps (reader cs ss t p) ds ≡ Some (reader cs ss t (Digits g n))

  one_digit : (n : ℕ) → n < 10 → Reads n ((48 + n) ∷ [])
  one_digit n h k p g o = one_byte (48 + n) (reader cs ss t p) ∙ at_mark (48 + n) (Digit n) (reader cs ss t p) (mark_of_digit n h) ∙ first_step cs ss t p g n o

  more_digits : (n : ℕ) (ds : List ℕ) → 10 ≤ n → Reads (n / 10) ds → Reads n (ds ++ (48 + n % 10) ∷ [])
  more_digits n ds h r k p g o =
      let low : 1 ≤ n / 10 = omega arith in
      let high : n / 10 < 10 ^ 17 = omega arith in
      let last : n % 10 < 10 = omega arith in
      let whole : 10 * (n / 10) + n % 10 ≡ n = omega arith in
      goes_on ds ((48 + n % 10) ∷ []) (reader cs ss t p) (reader cs ss t (Digits g (n / 10))) (r (omega (arith, high)) p g (opens_less p g n (n / 10) (λ _. low) o))
      ∙ one_byte (48 + n % 10) (reader cs ss t (Digits g (n / 10))) ∙ at_mark (48 + n % 10) (Digit (n % 10)) (reader cs ss t (Digits g (n / 10))) (mark_of_digit (n % 10) last)
      ∙ next_step cs ss t g (n / 10) (n % 10) low high ∙ ap (λ m. Some (reader cs ss t (Digits g m))) whole

  digits_read : (n : ℕ) → n < 10 ^ 18 → (p : Place) (g : Bool) → Opens p g n → steps (reader cs ss t p) (decimal n) ≡ Some (reader cs ss t (Digits g n))
  digits_read n h = decimal_by_steps Reads one_digit more_digits n (omega (arith, h)) h

  sign_step : (p : Place) → IsOpen p → step (reader cs ss t p) Minus ≡ Some (reader cs ss t Sign)
  sign_step p (inl e) = ap (λ q. step (reader cs ss t q) Minus) e
  sign_step p (inr e) = ap (λ q. step (reader cs ss t q) Minus) e

  number_read : (z : ℤ) → IsShort z → (p : Place) → IsOpen p → steps (reader cs ss t p) (signed_decimal z) ≡ Some (reader cs ss t (number_place z))
  number_read (pos n) h p o = digits_read n h p false (opens p n o)
  number_read (negsuc n) h p o = first_byte 45 (decimal (suc n)) (reader cs ss t p) (reader cs ss t Sign) (at_mark 45 Minus (reader cs ss t p) mark_of_minus ∙ sign_step p o)
      ∙ digits_read (suc n) h Sign true (behind (omega arith))

-- ---- numbers

-- behind numbers, the last of which is still open
abbrev pub numbered : ℤ → List ℤ → List ℤ → List ℤ → Bool → Reader
numbered z [] cs ss t = reader cs ss t (number_place z)
numbered z (y ∷ l) cs ss true = numbered y l cs (ss ++ z ∷ []) true
numbered z (y ∷ l) cs ss false = numbered y l (cs ++ z ∷ []) ss false

comma_step : (z : ℤ) (cs ss : List ℤ) → step (reader cs ss true (number_place z)) Comma ≡ Some (reader cs (ss ++ z ∷ []) true Due)
comma_step (pos n) cs ss = refl
comma_step (negsuc n) cs ss = refl

comma_step_cells : (z : ℤ) (cs ss : List ℤ) → step (reader cs ss false (number_place z)) Comma ≡ Some (reader (cs ++ z ∷ []) ss false Due)
comma_step_cells (pos n) cs ss = refl
comma_step_cells (negsuc n) cs ss = refl

-- one number and a comma
number_comma : (z : ℤ) (cs ss : List ℤ) (t : Bool) (p : Place) (n : Reader) → IsShort z → IsOpen p → step (reader cs ss t (number_place z)) Comma ≡ Some n
    → steps (reader cs ss t p) (signed_decimal z ++ codes ",") ≡ Some n
number_comma z cs ss t p n h o e = goes_on (signed_decimal z) (codes ",") (reader cs ss t p) (reader cs ss t (number_place z)) (number_read cs ss t z h p o)
    ∙ one_byte 44 (reader cs ss t (number_place z)) ∙ at_mark 44 Comma (reader cs ss t (number_place z)) mark_of_comma ∙ e

numbers_read : (l : List ℤ) (z : ℤ) (cs ss : List ℤ) (t : Bool) (p : Place) → IsOpen p → IsShort z → AllShort l → steps (reader cs ss t p) (numbers_text (z ∷ l)) ≡ Some (numbered z l cs ss t)
numbers_read [] z cs ss t p o h k = number_read cs ss t z h p o
numbers_read (y ∷ l) z cs ss true p o h k = goes_on (signed_decimal z ++ codes ",") (numbers_text (y ∷ l)) (reader cs ss true p) (reader cs (ss ++ z ∷ []) true Due)
    (number_comma z cs ss true p _ h o (comma_step z cs ss))
    ∙ numbers_read l y cs (ss ++ z ∷ []) true Due (inr refl) k.0 k.1
numbers_read (y ∷ l) z cs ss false p o h k = goes_on (signed_decimal z ++ codes ",") (numbers_text (y ∷ l)) (reader cs ss false p) (reader (cs ++ z ∷ []) ss false Due)
    (number_comma z cs ss false p _ h o (comma_step_cells z cs ss))
    ∙ numbers_read l y (cs ++ z ∷ []) ss false Due (inr refl) k.0 k.1

-- the reader that is left holds these numbers
abbrev pub Holds : Option Reader → List ℤ → List ℤ → Type 0
Holds None cs ss = ⊥
Holds (Some r) cs ss = (r.cells ≡ cs) × (r.stream ≡ ss)

split : (cs : List ℤ) (z : ℤ) (l : List ℤ) → (cs ++ z ∷ []) ++ l ≡ cs ++ z ∷ l
split cs z l = append_assoc cs (z ∷ []) l

end_outside : (l : List ℤ) (z : ℤ) (cs ss : List ℤ) → Holds (finish (numbered z l cs ss false)) (cs ++ z ∷ l) ss
end_outside [] (pos n) cs ss = (refl, refl)
end_outside [] (negsuc n) cs ss = (refl, refl)
end_outside (y ∷ l) z cs ss = subst (λ k. Holds (finish (numbered y l (cs ++ z ∷ []) ss false)) k ss) (split cs z (y ∷ l)) (end_outside l y (cs ++ z ∷ []) ss)

end_inside : (l : List ℤ) (z : ℤ) (cs ss : List ℤ) → Holds (finish (numbered z l cs ss true)) cs (ss ++ z ∷ l)
end_inside [] (pos n) cs ss = (refl, refl)
end_inside [] (negsuc n) cs ss = (refl, refl)
end_inside (y ∷ l) z cs ss = subst (λ k. Holds (finish (numbered y l cs (ss ++ z ∷ []) true)) cs k) (split ss z (y ∷ l)) (end_inside l y cs (ss ++ z ∷ []))

slash_step : (l : List ℤ) (z : ℤ) (cs ss : List ℤ) → step (numbered z l cs ss false) Slash ≡ Some (reader (cs ++ z ∷ l) ss true Due)
slash_step [] (pos n) cs ss = refl
slash_step [] (negsuc n) cs ss = refl
slash_step (y ∷ l) z cs ss = slash_step l y (cs ++ z ∷ []) ss ∙ ap (λ k. Some (reader k ss true Due)) (split cs z (y ∷ l))

-- ---- a whole map text

abbrev pub Ends : List ℕ → List ℤ → List ℤ → Type 0
Ends l cs ss = (s : Reader) × (steps start l ≡ Some s) × Holds (finish s) cs ss

-- a stream behind what stands before the /
stream_read : (l : List ℕ) (s : Reader) (cs ss : List ℤ) (z : ℤ) → steps start l ≡ Some s → step s Slash ≡ Some (reader cs [] true Due) → IsShort z → AllShort ss → Ends (l ++ stream_text (z ∷ ss)) cs (z ∷ ss)
stream_read l s cs ss z e f h k = (
  numbered z ss cs [] true,
  goes_on l (codes "/" ++ numbers_text (z ∷ ss)) start s e ∙ first_byte 47 (numbers_text (z ∷ ss)) s (reader cs [] true Due) (at_mark 47 Slash s mark_of_slash ∙ f)
      ∙ numbers_read ss z cs [] true Due (inr refl) h k,
  end_inside ss z cs [],
)

tilde_read : steps start (codes "~") ≡ Some (reader [] [] false NoCells)
tilde_read = one_byte 126 start ∙ at_mark 126 Tilde start mark_of_tilde

text_read : (cs ss : List ℤ) → AllShort cs → AllShort ss → Ends (cells_text cs ++ stream_text ss) cs ss
text_read [] [] h k = (reader [] [] false NoCells, tilde_read, (refl, refl))
text_read [] (z ∷ ss) h k = stream_read (codes "~") (reader [] [] false NoCells) [] ss z tilde_read refl k.0 k.1
text_read (z ∷ cs) [] h k = (numbered z cs [] [] false, ap (steps start) (append-nil (numbers_text (z ∷ cs))) ∙ numbers_read cs z [] [] false Start (inl refl) h.0 h.1, end_outside cs z [] [])
text_read (z ∷ cs) (y ∷ ss) h k = stream_read (numbers_text (z ∷ cs)) (numbered z cs [] [] false) (z ∷ cs) ss y (numbers_read cs z [] [] false Start (inl refl) h.0 h.1) (slash_step cs z [] []) k.0 k.1

pub taken : (l : List ℕ) (h : Input) → IsMap l h → Ends l h.cells h.stream
taken l h m = subst (λ t. Ends t h.cells h.stream) (sym m.written) (text_read h.cells h.stream m.cells m.stream)

-- ---- each place goes on to an end

abbrev pub EndsFrom : Reader → Type 0
EndsFrom s = (l : List ℕ) × (r : Reader) × (steps s l ≡ Some r) × (e : Reader) × (finish r ≡ Some e)

here : (s : Reader) → steps s [] ≡ Some s
unfolding steps
here s = refl

from_place : (cs ss : List ℤ) (t : Bool) (p : Place) → EndsFrom (reader cs ss t p)
from_place cs ss t Start = (codes "~", reader cs ss t NoCells, one_byte 126 (reader cs ss t Start) ∙ at_mark 126 Tilde (reader cs ss t Start) mark_of_tilde, reader cs ss t NoCells, refl)
from_place cs ss t NoCells = ([], reader cs ss t NoCells, here _, reader cs ss t NoCells, refl)
from_place cs ss t Due = (codes "0", reader cs ss t (Digits false 0), one_byte 48 (reader cs ss t Due) ∙ at_mark 48 (Digit 0) (reader cs ss t Due) (mark_of_digit 0 (omega arith)), added (pos 0) (reader cs ss t (Digits false 0)), refl)
from_place cs ss t Sign = (codes "1", reader cs ss t (Digits true 1), one_byte 49 (reader cs ss t Sign) ∙ at_mark 49 (Digit 1) (reader cs ss t Sign) (mark_of_digit 1 (omega arith)), added (signed true 1) (reader cs ss t (Digits true 1)), refl)
from_place cs ss t (Digits g n) = ([], reader cs ss t (Digits g n), here _, added (signed g n) (reader cs ss t (Digits g n)), refl)

pub from_each : (s : Reader) → EndsFrom s
from_each s = from_place s.cells s.stream s.in_stream s.place
