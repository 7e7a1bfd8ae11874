use Rattle.std.proofs.Common.{◌≡◌, ◌∙◌, sym, arith, vec_len, length, reverse}
use borrow.Author.Tests.{eqb-true, eq-eqb}
use Rattle.std.proofs.lemmas.List.{nil_from_length}
use Rattle.cc_base.specs.Pass.{with_terms}
use Rattle.linear_solver.specs.Seen.{seen_all}
use Rattle.linear_solver.proofs.TidySteps.{with_start, with_drop, with_keep, with_end, shorter}
use Rattle.linear_solver.proofs.tidy.with_terms_of.Goals as goal

pub kept-init : goal.kept-init
kept-init c = with_start c.args.list.items c.new-out.result.items c.new-out.ensures.items

pub kept-smaller : goal.kept-smaller
kept-smaller c = shorter c.kept.rest.items c.pop.new.self.items c.in-Some.i c.in-Some.ensures.items

pub kept-preserved-then-is_empty : goal.kept-preserved-then-is_empty
kept-preserved-then-is_empty c =
    let e : vec_len c.in-Some.i.terms ≡ 0 = eqb-true (vec_len c.in-Some.i.terms) 0 (sym c.is_empty.ensures ∙ c.if-is_empty.true) in
    with_drop c.kept.rest.items c.pop.new.self.items c.in-Some.i (reverse (seen_all c.kept.out.items)) (with_terms (seen_all c.args.list.items)) c.in-Some.ensures.items (omega (arith, e, c.in-Some.i.terms.ok.0)) c.kept.invariant

pub kept-preserved : goal.kept-preserved
kept-preserved c =
    let n = (λ (h : length c.in-Some.i.terms.items ≡ 0). let e : vec_len c.in-Some.i.terms ≡ 0 = omega (arith, h, c.in-Some.i.terms.ok.0) in
    let t = eq-eqb (vec_len c.in-Some.i.terms) 0 e in let s = sym c.is_empty.ensures ∙ c.if-is_empty.false in let b : ⊥ = cc (t, s) in b) in
    with_keep c.kept.rest.items c.pop.new.self.items c.in-Some.i c.kept.out.items c.push.new.self.items (with_terms (seen_all c.args.list.items)) c.in-Some.ensures.items n c.in_ok-push.ensures.items c.kept.invariant

pub returns : goal.returns
returns c = with_end c.kept.rest.items c.kept.out.items c.reverse.new.self.items (with_terms (seen_all c.args.list.items)) (let w = c.in_default.ensures.cases.0 in nil_from_length c.kept.rest.items (omega (arith, w, c.kept.rest.ok.0))) c.reverse.ensures.items c.kept.invariant
