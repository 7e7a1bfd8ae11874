use Rattle.std.proofs.Common.{◌≡◌, take, length, subst, arith, refl, slice_index_or}
use Rattle.cc_base.specs.Paths.{In}
use Rattle.cc_model.specs.declared.terms.TermKind.TheVariants.{Product}
use Rattle.search_base.specs.declared.terms.FoundTerm.{FoundTerm}
use Rattle.search_base.specs.Terms.{seen_term, Comes}
use Rattle.search_base.proofs.InsertLaws.{any_there, place_more, place_end}
use Rattle.search_base.proofs.terms.place_of.Goals as goal

pub loop-i-preserved : goal.loop-i-preserved
loop-i-preserved c =
    let d : FoundTerm = record { line = 0; col = 0; kind = Product } in
    place_more FoundTerm (λ x. Comes (seen_term x) (seen_term c.args.term)) c.args.terms.now c.loop-i.i (slice_index_or c.args.terms.now c.loop-i.i d) c.loop-i-test.true
    (any_there c.args.terms.now c.loop-i.i d _ c.loop-i-test.true) (c.comes.ensures.yes c.if-not-comes.false) c.loop-i.invariant

pub returns : goal.returns
returns c =
    let h = c.loop-i-test.false in
    let k = (c.loop-i.auto).i-end in
    let e : c.loop-i.i ≡ length c.args.terms.now = omega (arith, h, k) in
    place_end FoundTerm (λ x. Comes (seen_term x) (seen_term c.args.term)) c.args.terms.now (length c.args.terms.now) refl
    (subst (λ n. (z : FoundTerm) → In z (take n c.args.terms.now) → Comes (seen_term z) (seen_term c.args.term)) e c.loop-i.invariant)
