use Rattle.std.proofs.Common.{◌≡◌, ◌≢◌, ◌∙◌, sym, ap, refl, arith, ℕ, zero, suc, ◌<◌, List, [], ◌∷◌, length, get_or, vec_len, Bool, false, nat_eq}
use Rattle.std.proofs.lemmas.List.{nil_from_length}
use borrow.Author.Tests.{eqb-true, eq-eqb}
use Rattle.cc_base.specs.declared.passes.PassEnd.TheVariants.{Full}
use Rattle.cc_base.specs.Pass.{ended, going, go_on, best, some_place}
use Rattle.linear_solver.specs.declared.inequalities.Inequality.{Inequality}
use Rattle.linear_solver.specs.Seen.{seen, seen_all}
use Rattle.linear_solver.proofs.ready.go_on_with.Goals as goal

none_left : (l : List Inequality) → l ≡ [] → ended Full ≡ go_on (seen_all l)
unfolding go_on seen_all
none_left l e = sym (ap (λ (m : List Inequality). go_on (seen_all m)) e)

some_left : (l : List Inequality) (x : Inequality) (p first : ℕ) → 0 < length l → x ≡ get_or l 0 x → first ≡ some_place x.terms.items → p ≡ best (seen_all l) first (seen_all l) → going p (seen_all l) ≡ go_on (seen_all l)
unfolding go_on seen_all
some_left [] x p first h e f g = absurd (omega arith)
some_left (i ∷ l) x p first h e f g =
    ap (λ (n : ℕ). going n (seen i ∷ seen_all l)) (g ∙ ap (λ (n : ℕ). best (seen i ∷ seen_all l) n (seen i ∷ seen_all l)) (f ∙ ap (λ (y : Inequality). some_place y.terms.items) e))

pub returns-then-is_empty : goal.returns-then-is_empty
returns-then-is_empty c =
    let e : vec_len c.args.list ≡ 0 = eqb-true (vec_len c.args.list) 0 (sym c.is_empty.ensures ∙ c.if-is_empty.true) in
    none_left c.args.list.items (nil_from_length c.args.list.items (omega (arith, e, c.args.list.ok.0)))

not_zero : (n : ℕ) → n ≢ 0 → 0 < n
not_zero zero h = absurd (h refl)
not_zero (suc n) h = omega arith

some_items : (n : ℕ) (b : Bool) → b ≡ nat_eq n 0 → b ≡ false → 0 < n
some_items n b e f = not_zero n (λ h. let t = eq-eqb n 0 h in cc (e, f, t))

pub index-requires : goal.index-requires
index-requires c = some_items (vec_len c.args.list) c.is_empty.result c.is_empty.ensures c.if-is_empty.false

pub returns : goal.returns
returns c =
    let p = some_items (vec_len c.args.list) c.is_empty.result c.is_empty.ensures c.if-is_empty.false in
    some_left c.args.list.items c.index.result.now c.in_ok-place.place c.first_place-first.result (omega (arith, p, c.args.list.ok.0)) c.index.ensures
    (c.first_place-first.ensures ∙ ap some_place c.deref.ensures.value)
    (c.in_ok-place.ensures ∙ ap (λ (l : List Inequality). best (seen_all l) c.first_place-first.result (seen_all l)) c.deref-2.ensures.value)
