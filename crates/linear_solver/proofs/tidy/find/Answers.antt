use Rattle.std.proofs.Common.{◌≡◌, ◌∙◌, sym, ap, arith, suc, ◌-◌, ◌<◌, length, true, false}
use Rattle.std.proofs.lemmas.List.{get_or_default}
use Rattle.cc_base.specs.Pass.{same_terms}
use Rattle.linear_solver.specs.Chains.{terms_at}
use Rattle.linear_solver.specs.Seen.{seen_all}
use Rattle.linear_solver.proofs.Tidied.{same_tells}
use Rattle.linear_solver.proofs.Chains.{not_same, sought_next, terms_are}
use Rattle.linear_solver.proofs.tidy.find.Goals as goal

pub returns-then-has_same_terms-clause-some : goal.returns-then-has_same_terms-clause-some
returns-then-has_same_terms-clause-some c =
    let w = c.chain.invariant.within in let p = c.chain-test.true in
    let h : c.chain.at - 1 < length c.args.kept.now.list.items = omega (arith, w, p) in
    let t : same_terms c.args.terms.now c.index.result.now.terms.items ≡ true = sym (c.has_same_terms.ensures ∙ ap (same_terms c.args.terms.now) c.deref.ensures.value) ∙ c.if-has_same_terms.true in
    (h, sym (same_tells c.args.terms.now c.index.result.now.terms.items t ∙ terms_are c.args.kept.now.list.items (c.chain.at - 1) c.index.result.now h c.index.ensures))

pub chain-preserved : goal.chain-preserved
chain-preserved c =
    let a = c.args.kept.now in let w = c.chain.invariant.within in let p = c.chain-test.true in let s = c.requires.chained.size in
    let h : c.chain.at - 1 < length a.list.items = omega (arith, w, p) in
    let t : same_terms c.args.terms.now c.index.result.now.terms.items ≡ false = sym (c.has_same_terms.ensures ∙ ap (same_terms c.args.terms.now) c.deref.ensures.value) ∙ c.if-has_same_terms.false in
    let e : c.chain.at ≡ suc (c.chain.at - 1) = omega (arith, p) in
    let r = c.index-at-in-chain.result.now in
    let b : c.chain.at - 1 < length a.before.items = omega (arith, h, s) in
    sought_next (length a.list.items) (terms_at (seen_all a.list.items)) a.last.items a.before.items c.args.at_bucket c.args.terms.now c.chain.at (c.chain.at - 1) r c.requires.chained c.requires.bucket c.chain.invariant e
    (λ m. not_same c.args.terms.now c.index.result.now.terms.items t (terms_are a.list.items (c.chain.at - 1) c.index.result.now h c.index.ensures ∙ m))
    (c.index-at-in-chain.ensures ∙ get_or_default a.before.items (c.chain.at - 1) r 0 b)
