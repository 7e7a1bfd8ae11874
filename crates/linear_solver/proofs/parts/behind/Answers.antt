use Rattle.std.proofs.Common.{◌≡◌, ◌∙◌, sym, ap, arith, ℕ, true, false, List, length, reverse, length-append, ◌<◌, Vec, Global, ◌++◌, ◌∷◌, []}
use Rattle.std.proofs.lemmas.List.{nil_from_length}
use Rattle.cc_base.specs.Groups.{apart, shares}
use Rattle.linear_solver.specs.Parts.{all_backwards, backwards}
use Rattle.linear_solver.proofs.PartSteps.{shares_back, apart_start, apart_drop, apart_keep, apart_end}
use Rattle.linear_solver.proofs.parts.behind.Goals as goal

shorter : (r s : List (Vec ℕ Global)) (x : Vec ℕ Global) → r ≡ s ++ (x ∷ []) → length s < length r
shorter r s x e = omega (arith, ap length e, length-append s (x ∷ []))

pub parts-init : goal.parts-init
parts-init c = apart_start (reverse c.args.p.now) c.args.parts.items c.new-out.result.items c.new-out.ensures.items

pub parts-smaller : goal.parts-smaller
parts-smaller c = shorter c.parts.rest.items c.pop.new.self.items c.in-Some.c c.in-Some.ensures.items

pub parts-preserved-then-share : goal.parts-preserved-then-share
parts-preserved-then-share c =
    let t : shares (reverse c.args.p.now) (backwards c.in-Some.c) ≡ true = sym (shares_back c.args.p.now c.in-Some.c.items) ∙ sym (c.share.ensures ∙ ap (shares c.args.p.now) c.deref.ensures.value) ∙ c.if-share.true in
    apart_drop (reverse c.args.p.now) c.parts.rest.items c.pop.new.self.items c.in-Some.c (reverse (all_backwards c.parts.out.items)) (apart (reverse c.args.p.now) (all_backwards c.args.parts.items)) c.in-Some.ensures.items t c.parts.invariant

pub parts-preserved : goal.parts-preserved
parts-preserved c =
    let t : shares (reverse c.args.p.now) (backwards c.in-Some.c) ≡ false = sym (shares_back c.args.p.now c.in-Some.c.items) ∙ sym (c.share.ensures ∙ ap (shares c.args.p.now) c.deref.ensures.value) ∙ c.if-share.false in
    apart_keep (reverse c.args.p.now) c.parts.rest.items c.pop.new.self.items c.in-Some.c c.parts.out.items c.push.new.self.items (apart (reverse c.args.p.now) (all_backwards c.args.parts.items)) c.in-Some.ensures.items t c.in_ok-push.ensures.items c.parts.invariant

pub returns : goal.returns
returns c = apart_end (reverse c.args.p.now) c.parts.rest.items c.parts.out.items c.push-2.new.self.items c.reverse.new.self.items c.args.first (apart (reverse c.args.p.now) (all_backwards c.args.parts.items))
    (let w = c.in_default.ensures.cases.0 in nil_from_length c.parts.rest.items (omega (arith, w, c.parts.rest.ok.0))) c.in_ok-push-2.ensures.items c.reverse.ensures.items c.parts.invariant
