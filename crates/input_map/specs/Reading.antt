-- How the reader of map texts goes on from byte to byte.
use Rattle.std.specs.Prelude.{ℕ, ◌+◌, ◌*◌, ◌-◌, ◌^◌, ◌&&◌, ◌<◌, ◌≡◌, ℤ, pos, neg_ℤ, Bool, true, false, List, [], ◌∷◌, ◌++◌, Option, Some, None, option_and_then, nat_eq, nat_lt, if◌then◌else◌}
use Rattle.cc_base.specs.declared.inputs.Input.{Input}
use Rattle.input_map.specs.Maps.{MalformedAt}
use Rattle.input_map.specs.declared.faults.MapFault.{MapFault}
use Rattle.input_map.specs.declared.faults.MapFault.TheVariants.{Malformed}
use Rattle.input_map.specs.declared.reading.Mark.{Mark}
use Rattle.input_map.specs.declared.reading.Mark.TheVariants.{Tilde, Comma, Slash, Minus, Digit, Other}
use Rattle.input_map.specs.declared.reading.Place.{Place}
use Rattle.input_map.specs.declared.reading.Place.TheVariants.{Start, NoCells, Due, Sign, Digits}
use Rattle.input_map.specs.declared.reading.Numbers.{Numbers}
use Rattle.input_map.specs.declared.reading.Reader.{Reader}

-- what a byte is
unfoldable pub mark_of : ℕ → Mark
mark_of b = if nat_eq b 126 then Tilde else (if nat_eq b 44 then Comma else (if nat_eq b 47 then Slash else (if nat_eq b 45 then Minus
    else (if nat_lt b 48 then Other else (if nat_lt 57 b then Other else Digit (b - 48))))))

-- the number with this sign and these digits
abbrev pub signed : Bool → ℕ → ℤ
signed true n = neg_ℤ (pos n)
signed false n = pos n

abbrev pub start : Reader
start = record { cells = []; stream = []; in_stream = false; place = Start }

abbrev pub at : Place → Reader → Reader
at p s = record { cells = s.cells; stream = s.stream; in_stream = s.in_stream; place = p }

-- behind the `/`
abbrev pub past : Reader → Reader
past s = record { cells = s.cells; stream = s.stream; in_stream = true; place = Due }

-- one more number
abbrev pub added : ℤ → Reader → Reader
added z s = if s.in_stream then record { cells = s.cells; stream = s.stream ++ z ∷ []; in_stream = s.in_stream; place = s.place }
    else record { cells = s.cells ++ z ∷ []; stream = s.stream; in_stream = s.in_stream; place = s.place }

-- one more digit: not behind a 0, and not behind 18 digits
abbrev pub one_more : Bool → ℕ → ℕ → Option Place
one_more negative n d = if nat_lt 0 n && nat_lt n (10 ^ 17) then Some (Digits negative (10 * n + d)) else None

-- where a number goes on
abbrev pub inside : Place → Mark → Option Place
inside Start Tilde = Some NoCells
inside Start Minus = Some Sign
inside Start (Digit d) = Some (Digits false d)
inside Due Minus = Some Sign
inside Due (Digit d) = Some (Digits false d)
inside Sign (Digit d) = if nat_eq d 0 then None else Some (Digits true d)
inside (Digits negative n) (Digit d) = one_more negative n d
inside _ _ = None

-- at a `,`
abbrev pub at_comma : Place → Reader → Option Reader
at_comma (Digits negative n) s = Some (at Due (added (signed negative n) s))
at_comma _ s = None

-- at a `/`
abbrev pub at_slash : Place → Reader → Option Reader
at_slash NoCells s = Some (past s)
at_slash (Digits negative n) s = if s.in_stream then None else Some (past (added (signed negative n) s))
at_slash _ s = None

abbrev pub moved : Option Place → Reader → Option Reader
moved None s = None
moved (Some p) s = Some (at p s)

-- behind one more byte; None where no map text goes on with it
abbrev pub step : Reader → Mark → Option Reader
step s Comma = at_comma s.place s
step s Slash = at_slash s.place s
step s m = moved (inside s.place m) s

unfoldable pub steps : Reader → List ℕ → Option Reader
steps s [] = Some s
steps s (b ∷ t) = option_and_then (λ r. steps r t) (step s (mark_of b))

-- the numbers of a whole text
abbrev pub finish_at : Place → Reader → Option Reader
finish_at NoCells s = Some s
finish_at (Digits negative n) s = Some (added (signed negative n) s)
finish_at _ s = None

abbrev pub finish : Reader → Option Reader
finish s = finish_at s.place s

abbrev pub input_in : Reader → Input
input_in s = record { cells = s.cells; stream = s.stream }

abbrev pub input_of : Numbers → Input
input_of n = record { cells = n.cells; stream = n.stream }

-- a number so far has at most 18 digits
abbrev pub HasFewDigits : Place → Type 0
HasFewDigits (Digits negative n) = n < 10 ^ 18
HasFewDigits _ = Unit {0}

abbrev pub IsMalformed : List ℕ → MapFault → Type 0
IsMalformed text f = (n : ℕ) × (f ≡ Malformed n) × MalformedAt text n
