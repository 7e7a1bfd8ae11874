use Rattle.std.proofs.Common.{◌≡◌, ◌<◌, take, length, get_or, subst, arith, refl}
use Rattle.cc_base.specs.declared.outcomes.Outcome.{Outcome}
use Rattle.cc_base.specs.declared.outcomes.Outcome.TheVariants.{Zero}
use Rattle.cc_base.specs.Outcomes.{byte_of}
use Rattle.cc_base.specs.Paths.{In}
use Rattle.search_base.proofs.FirstLaws.{any_default}
use Rattle.search_base.proofs.InsertLaws.{place_more, place_end}
use Rattle.search_base.proofs.choices.place_of.Goals as goal

pub loop-i-preserved : goal.loop-i-preserved
loop-i-preserved c =
    let l = c.if-byte.false in
    let e = c.byte.ensures in
    let f = c.byte-in-loop-i.ensures in
    place_more Outcome (λ x. byte_of x < byte_of c.args.own) c.args.outcomes.now c.loop-i.i (get_or c.args.outcomes.now c.loop-i.i Zero) c.loop-i-test.true
    (any_default c.args.outcomes.now c.loop-i.i Zero _ c.loop-i-test.true) (omega (arith, l, e, f)) c.loop-i.invariant

pub returns : goal.returns
returns c =
    let h = c.loop-i-test.false in
    let k = (c.loop-i.auto).i-end in
    let e : c.loop-i.i ≡ length c.args.outcomes.now = omega (arith, h, k) in
    place_end Outcome (λ x. byte_of x < byte_of c.args.own) c.args.outcomes.now (length c.args.outcomes.now) refl
    (subst (λ n. (z : Outcome) → In z (take n c.args.outcomes.now) → byte_of z < byte_of c.args.own) e c.loop-i.invariant)
