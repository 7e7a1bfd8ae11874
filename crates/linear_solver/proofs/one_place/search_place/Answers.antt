use Rattle.std.proofs.Common.{◌≡◌, ◌∙◌, sym, ap, subst, rules, arith, ℕ, ℤ, pos, ◌+ℤ◌, ◌≤ℤ◌, Option, inl, inr, SFits, to_z, of_z}
use Rattle.std.proofs.lemmas.Int.{to_z-of_z, ints}
use Rattle.std.proofs.lemmas.Bool.{cases_lt}
use mir.Syntax.{w32, w128}
use Rattle.cc_base.specs.Groups.{HoldAll}
use Rattle.cc_base.specs.Witness.{changed, origin}
use Rattle.linear_solver.specs.Atoms.{seen_atoms}
use Rattle.linear_solver.specs.Seen.{at_places}
use Rattle.linear_solver.specs.Spans.{TriedAt}
use Rattle.linear_solver.proofs.Evaluation.{changed_same}
use Rattle.linear_solver.proofs.one_place.search_place.Goals as goal

lies : (lo hi a b l h z : ℤ) (k : ℕ) → a ≡ lo → b ≡ hi → a ≤ℤ l → h ≤ℤ b → (l +ℤ pos k) ≤ℤ h → z ≡ l +ℤ pos k → (lo ≤ℤ z) × (z ≤ℤ hi)
lies lo hi a b l h z k e f g i j m = (omega (arith, ints, e, g, m), omega (arith, ints, f, i, j, m))

pub marks_of-requires-clause-low_most : goal.marks_of-requires-clause-low_most
marks_of-requires-clause-low_most c =
    let l = c.all_enclosed-span.result.low in let f : SFits w128 l = search rules in
    let n = c.if-size-eq0.false in let w = c.size_of_span-size.ensures.within 0 (omega (arith, n)) in
    let e = c.whole.ensures.high ∙ to_z-of_z w32 c.args.hi c.ranges.hi in let s = c.ranges.hi.sfits in let h = c.all_enclosed-span.ensures.high in
    subst (λ (z : ℤ). z ≤ℤ pos 2147483647) (sym (to_z-of_z w128 l f)) (omega (arith, ints, w, e, s, h))

pub returns-in-Some : goal.returns-in-Some
returns-in-Some c =
    let l = c.all_enclosed-span.result.low in let k = c.loop-k.k in let A = seen_atoms c.args.atoms.now in
    let f : SFits w32 c.number_at-number.result = search rules in let fl : SFits w128 l = search rules in
    let n : to_z w32 (of_z w32 c.number_at-number.result) ≡ l +ℤ pos k = to_z-of_z w32 c.number_at-number.result f ∙ c.number_at-number.ensures ∙ ap (λ (z : ℤ). z +ℤ pos k) (to_z-of_z w128 l fl) in
    let t = subst (λ (r : Option _). TriedAt c.args.place (to_z w32 (of_z w32 c.number_at-number.result)) A r) c.in-Some.is c.in_ok-values.ensures in
    let v : at_places c.in-Some.values.items c.args.place ≡ l +ℤ pos k = ap (λ (w : ℕ → ℤ). w c.args.place) t.0 ∙ changed_same origin c.args.place c.args.place _ (let r : c.args.place ≡ c.args.place = search rules in r) ∙ n in
    let b = lies c.args.lo c.args.hi c.whole.result.low c.whole.result.high l c.all_enclosed-span.result.high (at_places c.in-Some.values.items c.args.place) k
    (c.whole.ensures.low ∙ to_z-of_z w32 c.args.lo c.ranges.lo) (c.whole.ensures.high ∙ to_z-of_z w32 c.args.hi c.ranges.hi) c.all_enclosed-span.ensures.low c.all_enclosed-span.ensures.high (c.size_of_span-size.ensures.within k c.loop-k-test.true) v in
    (b.0, b.1, t.1)

pub loop-k-preserved : goal.loop-k-preserved
loop-k-preserved c = λ j h m. elim (cases_lt j c.loop-k.k) [
  | inl i ↦ c.loop-k.invariant j i m
  | inr i ↦
      let l = c.all_enclosed-span.result.low in let A = seen_atoms c.args.atoms.now in
      let e : j ≡ c.loop-k.k = omega (arith, h, i) in
      let f : SFits w32 c.number_at-number.result = search rules in let fl : SFits w128 l = search rules in
      let n : to_z w32 (of_z w32 c.number_at-number.result) ≡ l +ℤ pos c.loop-k.k = to_z-of_z w32 c.number_at-number.result f ∙ c.number_at-number.ensures ∙ ap (λ (z : ℤ). z +ℤ pos c.loop-k.k) (to_z-of_z w128 l fl) in
      let t = subst (λ (r : Option _). TriedAt c.args.place (to_z w32 (of_z w32 c.number_at-number.result)) A r) c.in_default.is c.in_ok-values.ensures in
      t (subst (λ (z : ℤ). HoldAll (changed origin c.args.place z) A) (ap (λ (i : ℕ). l +ℤ pos i) e ∙ sym n) m)
]

pub returns : goal.returns
returns c = λ z a b m.
    let wl = c.whole.ensures.low ∙ to_z-of_z w32 c.args.lo c.ranges.lo in let wh = c.whole.ensures.high ∙ to_z-of_z w32 c.args.hi c.ranges.hi in
    let s = c.all_enclosed-span.ensures.all z (omega (arith, ints, a, wl)) (omega (arith, ints, b, wh)) m in
    let k = c.size_of_span-size.ensures.each z s.0 s.1 in let k1 = k.1 in let t = c.loop-k-test.false in
    c.loop-k.invariant k.0 (omega (arith, k1, t)) (subst (λ (y : ℤ). HoldAll (changed origin c.args.place y) (seen_atoms c.args.atoms.now)) k.2 m)
