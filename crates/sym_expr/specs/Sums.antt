-- Sums and multiples of forms, and how wide a form may be. They are this project's own.
use Rattle.std.specs.Prelude.{ℕ, zero, suc, ◌+◌, ◌^◌, ◌<◌, ◌≤◌, ◌≢◌, ℤ, pos, negsuc, ◌+ℤ◌, ◌*ℤ◌, neg_ℤ, Bool, true, false, if◌then◌else◌, nat_lt, unsigned_abs, List, [], ◌∷◌, length, map}
use Rattle.std.specs.List.{All}
use Rattle.cc_base.specs.declared.forms.Multiple.{Multiple}
use Rattle.cc_base.specs.Forms.{Form}

unfoldable pub is_zero_number : ℤ → Bool
is_zero_number (pos zero) = true
is_zero_number (pos (suc n)) = false
is_zero_number (negsuc n) = false

-- k times the place x in front of the rest; a zero coefficient is dropped
unfoldable pub put_unless_zero : ℕ → ℤ → List Multiple → List Multiple
put_unless_zero x k l = if is_zero_number k then l else (record { place = x; coefficient = k } ∷ l)

-- the multiple t and the rest p, merged with q; `rest` merges p with what is left
unfoldable pub merge_term : Multiple → (List Multiple → List Multiple) → List Multiple → List Multiple
merge_term t rest [] = t ∷ rest []
merge_term t rest (u ∷ q) =
    if nat_lt t.place u.place then t ∷ rest (u ∷ q)
    else (if nat_lt u.place t.place then u ∷ merge_term t rest q
    else put_unless_zero t.place (t.coefficient +ℤ u.coefficient) (rest q))

-- two lists, ascending by place, as one: multiples of one place are added up, and zeros dropped
unfoldable pub merge : List Multiple → List Multiple → List Multiple
merge [] q = q
merge (t ∷ p) q = merge_term t (merge p) q

-- each multiple with the opposite sign
unfoldable pub negated : Multiple → Multiple
negated t = record { place = t.place; coefficient = neg_ℤ t.coefficient }

-- k times each multiple; zeros are dropped
unfoldable pub scaled : ℤ → List Multiple → List Multiple
scaled k [] = []
scaled k (t ∷ l) = put_unless_zero t.place (k *ℤ t.coefficient) (scaled k l)

-- the sum of two forms
unfoldable pub sum_of : Form → Form → Form
sum_of a b = record { constant = a.constant +ℤ b.constant; terms = merge a.terms b.terms }

-- the form with the opposite sign
unfoldable pub opposite_of : Form → Form
opposite_of g = record { constant = neg_ℤ g.constant; terms = map negated g.terms }

-- the difference of two forms
unfoldable pub difference_of : Form → Form → Form
difference_of a b = sum_of a (opposite_of b)

-- k times a form
unfoldable pub multiple_of_form : ℤ → Form → Form
multiple_of_form k g = record { constant = k *ℤ g.constant; terms = scaled k g.terms }

-- the form with c added to its constant
abbrev pub shifted : ℤ → Form → Form
shifted c g = record { constant = g.constant +ℤ c; terms = g.terms }

-- a number as a form
abbrev pub number_form : ℤ → Form
number_form z = record { constant = z; terms = [] }

-- a place as a form
abbrev pub place_form : ℕ → Form
place_form x = record { constant = pos 0; terms = record { place = x; coefficient = pos 1 } ∷ [] }

-- a form by its parts
abbrev pub form_with : ℤ → List Multiple → Form
form_with z l = record { constant = z; terms = l }

-- no coefficient is above 2^40 in absolute value
abbrev pub AllSmall : List Multiple → Type 0
AllSmall l = All (λ t. unsigned_abs t.coefficient ≤ 2 ^ 40) l

-- what a form that isn't wide keeps to: at most 16 terms, coefficients up to 2^40 and a constant up to 2^72 in absolute value
pub record IsNarrow (g : Form) : Type 0 where
  pub few : length g.terms ≤ 16
  pub coefficients : AllSmall g.terms
  pub number : unsigned_abs g.constant ≤ 2 ^ 72

-- each place of the list is above x
abbrev pub AllAbove : ℕ → List Multiple → Type 0
AllAbove x [] = Unit {0}
AllAbove x (t ∷ l) = (x < t.place) × AllAbove x l

-- the list ascends by place
abbrev pub Ascending : List Multiple → Type 0
Ascending [] = Unit {0}
Ascending (t ∷ l) = AllAbove t.place l × Ascending l

-- what every form keeps to; a shift may take a constant past 2^72, by at most 2^33
pub record IsForm (g : Form) : Type 0 where
  pub few : length g.terms ≤ 16
  pub coefficients : AllSmall g.terms
  pub number : unsigned_abs g.constant ≤ 2 ^ 72 + 2 ^ 33
  pub ascending : Ascending g.terms
  pub not_zero : All (λ t. t.coefficient ≢ pos 0) g.terms
