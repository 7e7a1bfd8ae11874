-- Need of groups over the Full range.
use Rattle.std.proofs.Common.{◌≡◌, ℕ, ℤ, pos, negsuc, List, [], ◌∷◌, refl}
use Rattle.cc_base.specs.Inequality.{Inequality}
use Rattle.cc_base.specs.declared.forms.Multiple.{Multiple}
use Rattle.cc_base.specs.Pass.{Passed, pass}
use Rattle.cc_base.specs.Groups.{Form, Atom, at_most_zero, is_zero, not_zero, groups}
use Rattle.cc_base.specs.Need.{Tried, found, closed, open_choice, elimination, need, first_list}

unfoldable everything : Unit {0}
unfolding Rattle.cc_base.specs.Inequality.total Rattle.cc_base.specs.Inequality.euclid Rattle.cc_base.specs.Inequality.gcd Rattle.cc_base.specs.Inequality.divisor_from Rattle.cc_base.specs.Inequality.divisor Rattle.cc_base.specs.Inequality.floor Rattle.cc_base.specs.Inequality.divided Rattle.cc_base.specs.Inequality.divided_by Rattle.cc_base.specs.Inequality.normal Rattle.cc_base.specs.Inequality.scaled_term Rattle.cc_base.specs.Inequality.scaled Rattle.cc_base.specs.Inequality.int_is_zero Rattle.cc_base.specs.Inequality.put_unless_zero Rattle.cc_base.specs.Inequality.merge_term Rattle.cc_base.specs.Inequality.merge Rattle.cc_base.specs.Inequality.coefficient Rattle.cc_base.specs.Pass.int_same Rattle.cc_base.specs.Pass.same_terms Rattle.cc_base.specs.Pass.lesser Rattle.cc_base.specs.Pass.kept Rattle.cc_base.specs.Pass.tidy Rattle.cc_base.specs.Pass.wide_term Rattle.cc_base.specs.Pass.too_wide Rattle.cc_base.specs.Pass.some_wide Rattle.cc_base.specs.Pass.has_terms Rattle.cc_base.specs.Pass.is_false Rattle.cc_base.specs.Pass.some_false Rattle.cc_base.specs.Pass.with_terms Rattle.cc_base.specs.Pass.below Rattle.cc_base.specs.Pass.above Rattle.cc_base.specs.Pass.is_positive Rattle.cc_base.specs.Pass.is_lower Rattle.cc_base.specs.Pass.is_upper Rattle.cc_base.specs.Pass.lowers Rattle.cc_base.specs.Pass.uppers Rattle.cc_base.specs.Pass.others Rattle.cc_base.specs.Pass.pair_slack Rattle.cc_base.specs.Pass.slack_with Rattle.cc_base.specs.Pass.slack_of Rattle.cc_base.specs.Pass.slack Rattle.cc_base.specs.Pass.pairs Rattle.cc_base.specs.Pass.better Rattle.cc_base.specs.Pass.best_in Rattle.cc_base.specs.Pass.best Rattle.cc_base.specs.Pass.some_place Rattle.cc_base.specs.Pass.dark_part Rattle.cc_base.specs.Pass.paired Rattle.cc_base.specs.Pass.paired_with Rattle.cc_base.specs.Pass.all_paired Rattle.cc_base.specs.Pass.eliminate Rattle.cc_base.specs.Pass.go_on Rattle.cc_base.specs.Pass.judged Rattle.cc_base.specs.Pass.ready Rattle.cc_base.specs.Pass.costing Rattle.cc_base.specs.Pass.turns Rattle.cc_base.specs.Pass.pass Rattle.cc_base.specs.Groups.value Rattle.cc_base.specs.Groups.form_of Rattle.cc_base.specs.Groups.contains Rattle.cc_base.specs.Groups.put Rattle.cc_base.specs.Groups.put_all Rattle.cc_base.specs.Groups.named Rattle.cc_base.specs.Groups.places_in Rattle.cc_base.specs.Groups.shares Rattle.cc_base.specs.Groups.touching Rattle.cc_base.specs.Groups.apart Rattle.cc_base.specs.Groups.parts Rattle.cc_base.specs.Groups.atoms_on Rattle.cc_base.specs.Groups.placeless Rattle.cc_base.specs.Groups.groups_of Rattle.cc_base.specs.Groups.groups Rattle.cc_base.specs.Need.at_most Rattle.cc_base.specs.Need.at_least Rattle.cc_base.specs.Need.bounds Rattle.cc_base.specs.Need.written Rattle.cc_base.specs.Need.all_written Rattle.cc_base.specs.Need.first_list Rattle.cc_base.specs.Need.disequality Rattle.cc_base.specs.Need.disequalities Rattle.cc_base.specs.Need.after Rattle.cc_base.specs.Need.after_open Rattle.cc_base.specs.Need.by_dark Rattle.cc_base.specs.Need.one_choice Rattle.cc_base.specs.Need.tried Rattle.cc_base.specs.Need.elimination Rattle.cc_base.specs.Need.width Rattle.cc_base.specs.Need.box Rattle.cc_base.specs.Need.with_elimination Rattle.cc_base.specs.Need.need_at Rattle.cc_base.specs.Need.need
everything = tt

t : ℕ → ℤ → Multiple
t x k = record { place = x; coefficient = k }

f : ℤ → List Multiple → Form
f c l = record { constant = c; terms = l }

lo : ℤ
lo = negsuc 2147483647

hi : ℤ
hi = pos 2147483647

-- x - y >= 1 and y - x >= -1
near : List Atom
near = at_most_zero (f (pos 1) (t 0 (negsuc 0) ∷ (t 1 (pos 1) ∷ []))) ∷ (at_most_zero (f (negsuc 0) (t 0 (pos 1) ∷ (t 1 (negsuc 0) ∷ []))) ∷ [])

need_near : need lo hi near ≡ 33
unfolding everything t f lo hi near
need_near = refl

near_found : elimination lo hi near ≡ found 33
unfolding everything t f lo hi near
near_found = refl

-- 2x = 2y + 1
even_odd : List Atom
even_odd = is_zero (f (negsuc 0) (t 0 (pos 2) ∷ (t 1 (negsuc 1) ∷ []))) ∷ []

need_even_odd : need lo hi even_odd ≡ 10
unfolding everything t f lo hi even_odd
need_even_odd = refl

even_odd_closed : elimination lo hi even_odd ≡ closed 10
unfolding everything t f lo hi even_odd
even_odd_closed = refl

-- x - y is not 0: the first choice, y - x >= 1, has values
unequal : List Atom
unequal = not_zero (f (pos 0) (t 0 (pos 1) ∷ (t 1 (negsuc 0) ∷ []))) ∷ []

unequal_found : elimination lo hi unequal ≡ found 22
unfolding everything t f lo hi unequal
unequal_found = refl

-- 2x = 3y + 1 has values, and Elimination does not find them: the two inequalities of the equation leave no room for the dark part
two_three : List Atom
two_three = is_zero (f (negsuc 0) (t 0 (pos 2) ∷ (t 1 (negsuc 2) ∷ []))) ∷ []

two_three_open : elimination lo hi two_three ≡ open_choice 32
unfolding everything t f lo hi two_three
two_three_open = refl

two_three_need : need lo hi two_three ≡ 36893488147419103232
unfolding everything t f lo hi two_three
two_three_need = refl

-- x = 3y + 1 is found, since x has coefficient 1
one_three : List Atom
one_three = is_zero (f (negsuc 0) (t 0 (pos 1) ∷ (t 1 (negsuc 2) ∷ []))) ∷ []

one_three_found : elimination lo hi one_three ≡ found 33
unfolding everything t f lo hi one_three
one_three_found = refl

-- the parts of atoms on 3, none, 1 and 2, 2 and 3: one group of three atoms, in their order, and one without place
mixed : List Atom
mixed = at_most_zero (f (pos 0) (t 3 (pos 1) ∷ [])) ∷ (at_most_zero (f (pos 0) []) ∷ (is_zero (f (pos 0) (t 1 (pos 1) ∷ (t 2 (pos 1) ∷ []))) ∷ (not_zero (f (pos 0) (t 2 (pos 1) ∷ (t 3 (pos 1) ∷ []))) ∷ [])))

mixed_groups : groups mixed ≡ (at_most_zero (f (pos 0) (t 3 (pos 1) ∷ [])) ∷ (is_zero (f (pos 0) (t 1 (pos 1) ∷ (t 2 (pos 1) ∷ []))) ∷ (not_zero (f (pos 0) (t 2 (pos 1) ∷ (t 3 (pos 1) ∷ []))) ∷ []))) ∷ ((at_most_zero (f (pos 0) []) ∷ []) ∷ [])
unfolding everything t f mixed
mixed_groups = refl

-- one place: m + 1
alone_need : need lo hi (not_zero (f (pos 0) (t 0 (pos 1) ∷ [])) ∷ (at_most_zero (f (pos 3) (t 0 (pos 2) ∷ [])) ∷ [])) ≡ 3
unfolding everything t f lo hi
alone_need = refl
