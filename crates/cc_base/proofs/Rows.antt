-- Slices, computed.
use Rattle.std.proofs.Common.{◌≡◌, pos, negsuc, [], ◌∷◌, refl}
use Rattle.cc_base.specs.Forms.{Form, at_most_zero, is_zero, not_zero}
use Rattle.cc_base.specs.Groups.{form_of, contains, put, put_all, named, places_in, shares, touching, apart, parts, atoms_on}
use Rattle.cc_base.specs.Slice.{parts_with, slice_of}

-- x - 1, x - y, z
one_place : Form
one_place = record { constant = negsuc 0; terms = record { place = 0; coefficient = pos 1 } ∷ [] }

two_places : Form
two_places = record { constant = pos 0; terms = record { place = 0; coefficient = pos 1 } ∷ (record { place = 1; coefficient = negsuc 0 } ∷ []) }

other_place : Form
other_place = record { constant = pos 0; terms = record { place = 2; coefficient = pos 1 } ∷ [] }

second_place : Form
second_place = record { constant = pos 0; terms = record { place = 1; coefficient = pos 1 } ∷ [] }

-- of x <= 1, z /= 0 and x = y the alternative y /= 0 takes the first and the third
joined : slice_of (at_most_zero one_place ∷ (not_zero other_place ∷ (is_zero two_places ∷ []))) (not_zero second_place ∷ [])
    ≡ at_most_zero one_place ∷ (is_zero two_places ∷ (not_zero second_place ∷ []))
unfolding one_place two_places other_place second_place form_of contains put put_all named places_in shares touching apart parts atoms_on parts_with slice_of
joined = refl

-- the alternative z = 0 takes none but the second
alone : slice_of (at_most_zero one_place ∷ (not_zero other_place ∷ (is_zero two_places ∷ []))) (is_zero other_place ∷ [])
    ≡ not_zero other_place ∷ (is_zero other_place ∷ [])
unfolding one_place two_places other_place second_place form_of contains put put_all named places_in shares touching apart parts atoms_on parts_with slice_of
alone = refl
