use Rattle.std.proofs.Common.{◌≡◌, ◌∙◌, sym, ap, subst, rules, arith, ℕ, suc, ℤ, pos, ◌+◌, ◌^◌, ◌<◌, ◌≤◌, unsigned_abs, List, [], ◌∷◌, ◌++◌, SFits, FitsSigned, to_z, of_z}
use Rattle.std.proofs.lemmas.Int.{to_z-of_z, ints}
use Rattle.std.proofs.lemmas.List.Elements.{All-push}
use mir.Syntax.{w8, w128}
use Rattle.cc_base.specs.Groups.{Form}
use Rattle.cc_base.specs.declared.forms.Multiple.{Multiple}
use Rattle.linear_solver.specs.Answers.{Below}
use Rattle.linear_solver.specs.Atoms.{FitForm}
use Rattle.linear_solver.specs.Ordered.{Ordered}
use Rattle.row_tests.proofs.linear_table.add.Goals as goal

ordered_more : (m n : ℕ) (l : List Multiple) (t : Multiple) → Ordered m l → Below n l → m ≤ n → n ≤ t.place → t.place < 2 ^ 32 → Ordered m (l ++ (t ∷ []))
ordered_more m n [] t o b h i j = (omega (arith, h, i), j, tt)
ordered_more m n (u ∷ l) t o b h i j = let k = b.0 in (o.0, o.1, ordered_more (suc u.place) n l t o.2 b.1 (omega (arith, k)) i j)

below_more : (n : ℕ) (l : List Multiple) (t : Multiple) → Below n l → t.place ≡ n → Below (n + 1) (l ++ (t ∷ []))
below_more n [] t b e = (omega (arith, e), tt)
below_more n (u ∷ l) t b e = let k = b.0 in (omega (arith, k), below_more n l t b.1 e)

below_next : (n : ℕ) (l : List Multiple) → Below n l → Below (n + 1) l
below_next n [] b = tt
below_next n (u ∷ l) b = let k = b.0 in (omega (arith, k), below_next n l b.1)

form : List Multiple → Form
form l = record { constant = pos 0; terms = l }

fit_more : (n : ℕ) (l m : List Multiple) (k : ℤ) → FitForm (record { constant = pos 0; terms = l }) → Below n l → n < 2 ^ 32 → unsigned_abs k ≤ 2 ^ 40 → m ≡ l ++ ((let t : Multiple = record { place = n; coefficient = k } in t) ∷ []) →
    FitForm (record { constant = pos 0; terms = m })
unfolding form
fit_more n l m k f b h s e = subst (λ (p : List Multiple). FitForm (form p)) (sym e) (record {
  ordered = ordered_more 0 n l _ f.ordered b (omega arith) (omega arith) h;
  terms = All-push (λ (t : Multiple). unsigned_abs t.coefficient ≤ 2 ^ 40) l _ f.terms s;
  constant = f.constant;
})

small : (z : ℤ) → SFits w8 z → unsigned_abs (to_z w128 (of_z w128 (to_z w8 (of_z w8 z)))) ≤ 2 ^ 40
small z f =
    let s = f.sfits in
    let e = ap (λ (y : ℤ). to_z w128 (of_z w128 y)) (to_z-of_z w8 z f) ∙ to_z-of_z w128 z (let g : FitsSigned w128 z = omega (arith, ints, s) in g) in
    subst (λ (y : ℤ). unsigned_abs y ≤ 2 ^ 40) (sym e) (omega (arith, ints, s))

pub returns-in_ok-push-clause-fit : goal.returns-in_ok-push-clause-fit
returns-in_ok-push-clause-fit c = fit_more c.args.place c.args.terms.now.items c.push.new.self.items _ c.requires.fit c.requires.below (search rules) (small c.args.coefficient c.ranges.coefficient) c.in_ok-push.ensures.items

pub returns-in_ok-push-clause-below : goal.returns-in_ok-push-clause-below
returns-in_ok-push-clause-below c = subst (λ (l : List Multiple). Below (c.args.place + 1) l) (sym c.in_ok-push.ensures.items) (below_more c.args.place c.args.terms.now.items _ c.requires.below (search rules))

pub returns-else-coefficient-ne0-clause-below : goal.returns-else-coefficient-ne0-clause-below
returns-else-coefficient-ne0-clause-below c = below_next c.args.place c.args.terms.now.items c.requires.below
