-- The operations on forms that a traced run uses, and their laws.
-- A sum, a difference or a multiple that is too wide to be kept has no form. Both are this project's own.
use Rattle.std.specs.Prelude.{ℕ, ℤ, ◌+ℤ◌, ◌-ℤ◌, ◌*ℤ◌, neg_ℤ, ◌≡◌, ◌⊎◌, List, [], ◌∷◌, map, Option, Some}
use Rattle.cc_base.specs.Forms.{Form}
use Rattle.cc_base.specs.Holds.{value_of_form}
use Rattle.cc_base.specs.Paths.{In}

pub record Forms : Type 0 where
  pub number : ℤ → Form
  -- the value of a place
  pub of : (place : ℕ) → Form
  pub sum : Form → Form → Option Form
  pub difference : Form → Form → Option Form
  -- a number of times a form
  pub scale : ℤ → Form → Option Form
  -- a form with a number added to its constant
  pub shift : Form → ℤ → Form
  pub opposite : Form → Form

-- the places whose values a form adds up
abbrev pub places_of_form : Form → List ℕ
places_of_form g = map (λ t. t.place) g.terms

-- what is formed has the value of its operation, whatever the values of places are, and no places but those of its operands
pub record Laws (f : Forms) : Type 0 where
  pub number : (z : ℤ) → f.number z ≡ record { constant = z; terms = [] }
  pub of : (p : ℕ) (h : ℕ → ℤ) → value_of_form h (f.of p) ≡ h p
  pub of_places : (p : ℕ) → places_of_form (f.of p) ≡ p ∷ []
  pub sum : (a b c : Form) → f.sum a b ≡ Some c → (h : ℕ → ℤ) → value_of_form h c ≡ value_of_form h a +ℤ value_of_form h b
  pub sum_places : (a b c : Form) → f.sum a b ≡ Some c → (p : ℕ) → In p (places_of_form c) → In p (places_of_form a) ⊎ In p (places_of_form b)
  pub difference : (a b c : Form) → f.difference a b ≡ Some c → (h : ℕ → ℤ) → value_of_form h c ≡ value_of_form h a -ℤ value_of_form h b
  pub difference_places : (a b c : Form) → f.difference a b ≡ Some c → (p : ℕ) → In p (places_of_form c) → In p (places_of_form a) ⊎ In p (places_of_form b)
  pub scale : (z : ℤ) (a c : Form) → f.scale z a ≡ Some c → (h : ℕ → ℤ) → value_of_form h c ≡ z *ℤ value_of_form h a
  pub scale_places : (z : ℤ) (a c : Form) → f.scale z a ≡ Some c → (p : ℕ) → In p (places_of_form c) → In p (places_of_form a)
  pub shift : (a : Form) (z : ℤ) (h : ℕ → ℤ) → value_of_form h (f.shift a z) ≡ value_of_form h a +ℤ z
  pub shift_places : (a : Form) (z : ℤ) → places_of_form (f.shift a z) ≡ places_of_form a
  pub opposite : (a : Form) (h : ℕ → ℤ) → value_of_form h (f.opposite a) ≡ neg_ℤ (value_of_form h a)
  pub opposite_places : (a : Form) → places_of_form (f.opposite a) ≡ places_of_form a
