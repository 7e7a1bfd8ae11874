use Rattle.std.proofs.Common.{◌≡◌, ◌∙◌, sym, ap, ap₂, subst, rules, arith, ℕ, ℤ, pos, ◌+ℤ◌, ◌≤ℤ◌, ◌+◌, ◌/◌, ◌%◌, ◌<◌, ◌≤◌, List, drop, length, get_or, SFits}
use Rattle.std.proofs.lemmas.Int.{to_z-of_z}
use Rattle.std.proofs.lemmas.List.{drop_more, drop_all}
use mir.Syntax.{w32}
use Rattle.cc_base.specs.Witness.{changed, origin}
use Rattle.linear_solver.specs.Box.{decoded}
use Rattle.linear_solver.proofs.Restoring.{at_none}
use Rattle.linear_solver.proofs.box_search.+point.Goals as goal

none_decoded : (lo : ℤ) (w k : ℕ) (l : List ℕ) (n : ℕ) → length l ≤ n → origin ≡ decoded lo w k (drop n l)
unfolding decoded
none_decoded lo w k l n h = sym (ap (decoded lo w k) (drop_all n l h))

more_decoded : (lo : ℤ) (w k : ℕ) (l : List ℕ) (n : ℕ) → n < length l → changed (decoded lo w (k / w) (drop (n + 1) l)) (get_or l n 0) (lo +ℤ pos (k % w)) ≡ decoded lo w k (drop n l)
unfolding decoded
more_decoded lo w k l n h = sym (ap (decoded lo w k) (drop_more l n 0 h))

pub returns-then-from-places : goal.returns-then-from-places
returns-then-from-places t c = at_none c.new.result.items c.new.ensures.items ∙ none_decoded c.args.lo c.args.width c.args.k c.args.places.now c.args.from c.if-from-places.true

pub point-requires : goal.point-requires
point-requires t c = (search rules, (c.requires.positive, subst (λ (z : ℤ). (z +ℤ pos c.args.width) ≤ℤ pos 2147483648) (sym (to_z-of_z w32 c.args.lo c.ranges.lo)) c.requires.fits))

pub returns : goal.returns
returns t c =
    let f : SFits w32 c.digit.result = search rules in
    c.in_ok-put_value.ensures
    ∙ ap₂ (λ (v : ℕ → ℤ) (z : ℤ). changed v (get_or c.args.places.now c.args.from 0) z)
    (c.in_ok-values.ensures ∙ ap (λ (z : ℤ). decoded z c.args.width (c.args.k / c.args.width) (drop (c.args.from + 1) c.args.places.now)) (to_z-of_z w32 c.args.lo c.ranges.lo))
    (to_z-of_z w32 c.digit.result f ∙ c.digit.ensures ∙ ap (λ (z : ℤ). z +ℤ pos (c.args.k % c.args.width)) (to_z-of_z w32 c.args.lo c.ranges.lo))
    ∙ more_decoded c.args.lo c.args.width c.args.k c.args.places.now c.args.from (let h = c.if-from-places.false in omega (arith, h))
