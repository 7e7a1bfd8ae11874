use Rattle.std.proofs.Common.{◌≡◌, ap, refl, arith, ◌<◌, ◌≤◌, List, [], ◌∷◌, length, get_or}
use Rattle.cc_base.specs.declared.forms.Multiple.{Multiple}
use Rattle.cc_base.specs.Pass.{some_place}
use Rattle.linear_solver.proofs.ready.first_place.Goals as goal

first_is : (l : List Multiple) (t : Multiple) → 0 < length l → t ≡ get_or l 0 t → t.place ≡ some_place l
unfolding some_place
first_is [] t h e = absurd (omega arith)
first_is (u ∷ l) t h e = ap (λ (v : Multiple). v.place) e

none_is : (l : List Multiple) → length l ≤ 0 → 0 ≡ some_place l
unfolding some_place
none_is [] h = refl
none_is (u ∷ l) h = absurd (omega arith)

pub returns-in-Some : goal.returns-in-Some
returns-in-Some c = let h = c.in-Some.ensures.item in first_is c.args.terms.now c.in-Some.t.now (h.3).0 h.1

pub returns-in-None : goal.returns-in-None
returns-in-None c = let h = c.in-None.ensures.item in none_is c.args.terms.now h.3
