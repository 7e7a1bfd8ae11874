use Rattle.std.proofs.Common.{◌≡◌, ◌∙◌, sym, ap, ap₂, refl, subst, SFits, to_z, of_z, arith, rules, unsigned_abs, ℤ, ℕ, pos, ◌<◌, ◌^◌, map, List, lit<, All, ◌<ℤ◌, ◌≤◌}
use Rattle.std.proofs.lemmas.Int.{to_z-of_z, to_z_pos, ints}
use Rattle.std.proofs.lemmas.List.{with_items_is}
use Rattle.std.specs.Vec.{with_items}
use mir.Syntax.{w128}
use Rattle.cc_base.specs.Inequality.{Inequality, divisor, divided, floor, normal, divided_by}
use Rattle.cc_base.specs.declared.forms.Multiple.{Multiple}
use Rattle.linear_solver.specs.Seen.{seen}
use Rattle.linear_solver.proofs.Steps.{divided_is, not_divided, divisor_below}
use Rattle.linear_solver.proofs.normalise.normalise.Goals as goal

small : (g : ℕ) (l m : List Multiple) → g ≡ divisor l → l ≡ m → All (λ t. unsigned_abs t.coefficient < 2 ^ 127) m → g < 2 ^ 127
small g l m e i a = let h = divisor_below (2 ^ 127) m (lit< tt) a in subst (λ (n : ℕ). n < 2 ^ 127) (sym (e ∙ ap divisor i)) h

fits : (g : ℕ) → g < 2 ^ 127 → SFits w128 (pos g)
fits g h = record { sfits = h }

kept : (g : ℕ) → g < 2 ^ 127 → to_z w128 g ≡ pos g
kept g h = to_z_pos w128 g h

above : (g : ℕ) → g < 2 ^ 127 → 0 < g → pos 0 <ℤ to_z w128 g
above g h k = subst (λ (z : ℤ). pos 0 <ℤ z) (sym (kept g h)) (omega (arith, ints))

pub overflow_cast-g : goal.overflow_cast-g
overflow_cast-g c = fits c.divisor_of-g.result (small c.divisor_of-g.result c.deref.result.now c.args.i.now.terms.items c.divisor_of-g.ensures c.deref.ensures.value c.requires)

pub divide-requires : goal.divide-requires
divide-requires c = above c.divisor_of-g.result (small c.divisor_of-g.result c.deref.result.now c.args.i.now.terms.items c.divisor_of-g.ensures c.deref.ensures.value c.requires) c.if-g-gt0.true

pub overflow_cast-g-then-g-gt0 : goal.overflow_cast-g-then-g-gt0
overflow_cast-g-then-g-gt0 c = fits c.divisor_of-g.result (small c.divisor_of-g.result c.deref.result.now c.args.i.now.terms.items c.divisor_of-g.ensures c.deref.ensures.value c.requires)

pub floor_of-i-requires : goal.floor_of-i-requires
floor_of-i-requires c = above c.divisor_of-g.result (small c.divisor_of-g.result c.deref.result.now c.args.i.now.terms.items c.divisor_of-g.ensures c.deref.ensures.value c.requires) c.if-g-gt0.true

as_normal : (g : ℕ) (i : Inequality) → g ≡ divisor i.terms → 0 < g → (ts : List Multiple) → ts ≡ map (divided g) i.terms → (m : ℤ) → m ≡ floor i.most g → (let r : Inequality = record { terms = ts; most = m } in r) ≡ normal i
unfolding normal
as_normal g i e h ts p m q =
    ap₂ (λ (a : List Multiple) (b : ℤ). let r : Inequality = record { terms = a; most = b } in r) p q ∙ sym (divided_is g i h) ∙ ap (λ (n : ℕ). divided_by n i) e

pub returns-then-g-gt0 : goal.returns-then-g-gt0
returns-then-g-gt0 c =
    let g = c.divisor_of-g.result in
    let b = small g c.deref.result.now c.args.i.now.terms.items c.divisor_of-g.ensures c.deref.ensures.value c.requires in
    let u : unsigned_abs (to_z w128 g) ≡ g = ap unsigned_abs (kept g b) in
    let f : SFits w128 c.floor_of-i.result = search rules in
    let m : SFits w128 c.args.i.now.most = search rules in
    as_normal g (seen c.args.i.now) (c.divisor_of-g.ensures ∙ ap divisor c.deref.ensures.value) c.if-g-gt0.true
    (with_items c.args.i.now.terms c.divide.new.terms).items
    (with_items_is c.args.i.now.terms c.divide.new.terms (c.divide.auto.terms ∙ c.deref_mut.ensures.len ∙ refl) ∙ c.divide.ensures ∙ ap₂ (λ (n : ℕ) (l : List Multiple). map (divided n) l) u c.deref_mut.ensures.value)
    (to_z w128 (of_z w128 c.floor_of-i.result)) (to_z-of_z w128 c.floor_of-i.result f ∙ c.floor_of-i.ensures ∙ ap₂ (λ (z : ℤ) (n : ℕ). floor z n) (to_z-of_z w128 c.args.i.now.most m) u)

unchanged : (g : ℕ) (i : Inequality) → g ≡ divisor i.terms → g ≤ 0 → i ≡ normal i
unfolding normal
unchanged g i e h = sym (not_divided g i h) ∙ ap (λ (n : ℕ). divided_by n i) e

pub returns-else-g-gt0 : goal.returns-else-g-gt0
returns-else-g-gt0 c = unchanged c.divisor_of-g.result (seen c.args.i.now) (c.divisor_of-g.ensures ∙ ap divisor c.deref.ensures.value) c.if-g-gt0.false
