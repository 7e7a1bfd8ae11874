use Rattle.std.proofs.Common.{sym, subst, ℕ, ◌<◌, ℤ, Bool, true, false, if◌then◌else◌, nat_lt, ◌+ℤ◌, List, [], ◌∷◌, map}
use Rattle.cc_base.specs.declared.forms.Multiple.{Multiple}
use Rattle.cc_base.specs.Forms.{Form}
use Rattle.cc_base.specs.Groups.{form_of}
use Rattle.linear_solver.specs.Answers.{Below}
use Rattle.sym_expr.specs.Sums.{is_zero_number, put_unless_zero, merge_term, merge, negated, sum_of, opposite_of, difference_of}
use Rattle.row_tests.proofs.slices.equal.Goals as goal

chosen : (n : ℕ) (b : Bool) (k l : List Multiple) → Below n k → Below n l → Below n (if b then k else l)
chosen n true k l h i = h
chosen n false k l h i = i

put_below : (n x : ℕ) (k : ℤ) (l : List Multiple) → x < n → Below n l → Below n (put_unless_zero x k l)
unfolding put_unless_zero
put_below n x k l h i = chosen n (is_zero_number k) l (record { place = x; coefficient = k } ∷ l) i (h, i)

term_below : (n : ℕ) (t : Multiple) (rest : List Multiple → List Multiple) (q : List Multiple) → t.place < n → ((l : List Multiple) → Below n l → Below n (rest l)) → Below n q → Below n (merge_term t rest q)
unfolding merge_term
term_below n t rest [] h r i = (h, r [] tt)
term_below n t rest (u ∷ q) h r i =
    chosen n (nat_lt t.place u.place) (t ∷ rest (u ∷ q)) (if nat_lt u.place t.place then u ∷ merge_term t rest q else put_unless_zero t.place (t.coefficient +ℤ u.coefficient) (rest q))
    (h, r (u ∷ q) i)
    (chosen n (nat_lt u.place t.place) (u ∷ merge_term t rest q) (put_unless_zero t.place (t.coefficient +ℤ u.coefficient) (rest q))
    (i.0, term_below n t rest q h r i.1)
    (put_below n t.place (t.coefficient +ℤ u.coefficient) (rest q) h (r q i.1)))

merge_below : (n : ℕ) (p q : List Multiple) → Below n p → Below n q → Below n (merge p q)
unfolding merge
merge_below n [] q h i = i
merge_below n (t ∷ p) q h i = term_below n t (merge p) q h.0 (λ l j. merge_below n p l h.1 j) i

negated_below : (n : ℕ) (p : List Multiple) → Below n p → Below n (map negated p)
unfolding negated
negated_below n [] h = tt
negated_below n (t ∷ p) h = (h.0, negated_below n p h.1)

difference_below : (n : ℕ) (a b : Form) → Below n a.terms → Below n b.terms → Below n (difference_of a b).terms
unfolding difference_of sum_of opposite_of
difference_below n a b h i = merge_below n a.terms (map negated b.terms) h (negated_below n b.terms i)

pub returns : goal.returns
unfolding form_of
returns c = subst (λ (g : Form). Below 4 g.terms) (sym c.in_ok-form.ensures.form.1) (difference_below 4 c.args.a.now c.args.b.now c.requires.left c.requires.right)
