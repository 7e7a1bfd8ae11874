use Rattle.std.proofs.Common.{◌≡◌, ◌∙◌, sym, ap, ap₂, refl, rules, arith, ℕ, ◌+◌, ◌<◌, true, List, [], ◌∷◌, length, length-append, set, get_or, SFits, ℤ}
use Rattle.std.proofs.lemmas.Int.{to_z-of_z}
use Rattle.std.proofs.lemmas.List.{get_or_default, length-set, get_or-set_same, get_or-set_other, get_or_append_left}
use Rattle.std.proofs.Math.Seq.{get_or-append_seam}
use mir.Syntax.{w128}
use Rattle.cc_base.specs.Inequality as plain
use Rattle.cc_base.specs.Pass.{kept, same_terms, lesser}
use Rattle.linear_solver.specs.declared.inequalities.Inequality.{Inequality}
use Rattle.linear_solver.specs.Chains.{bucket, terms_at}
use Rattle.linear_solver.specs.Seen.{seen, seen_all, with_most}
use Rattle.linear_solver.proofs.TidySteps.{kept_here, kept_end}
use Rattle.linear_solver.proofs.Chains.{same_self, chained_more, chained_same, terms_put, terms_before, terms_last, terms_are, kept_skips}
use Rattle.linear_solver.proofs.tidy.keep.Goals as goal

terms_stay : (n x : plain.Inequality) (m : ℤ) → n ≡ with_most m x → n.terms ≡ x.terms
unfolding with_most
terms_stay n x m e = ap (λ (i : plain.Inequality). i.terms) e

pub returns-in-Some-clause-chained : goal.returns-in-Some-clause-chained
returns-in-Some-clause-chained c =
    let a = c.args.all.now in let l = a.list.items in let k = c.in-Some.index in let x = c.index_mut.result.now in let h : k < length l = c.in-Some.ensures.some.0 in
    let f = terms_stay (seen c.lower.new.i) (seen x) _ c.lower.ensures in
    chained_same (length l) (length (set l k c.lower.new.i)) (terms_at (seen_all l)) (terms_at (seen_all (set l k c.lower.new.i))) a.last.items a.before.items
    (length-set l k c.lower.new.i) (λ i j. terms_put l k x c.lower.new.i j h c.index_mut.ensures.value f i) c.requires

pub returns-in-Some-clause-list : goal.returns-in-Some-clause-list
returns-in-Some-clause-list c =
    let l = c.args.all.now.list.items in let k = c.in-Some.index in let x = c.index_mut.result.now in let i = c.args.i in
    let h : k < length l = c.in-Some.ensures.some.0 in
    let t : terms_at (seen_all l) k ≡ i.terms.items = c.in-Some.ensures.some.1 ∙ c.deref-2.ensures.value in
    let s : same_terms i.terms.items x.terms.items ≡ true = ap (same_terms i.terms.items) (terms_are l k x h c.index_mut.ensures.value ∙ t) ∙ same_self i.terms.items in
    let f : SFits w128 i.most = search rules in
    kept_here (seen i) l k x c.lower.new.i (kept (seen i) (seen_all l)) h c.index_mut.ensures.value s (c.lower.ensures ∙ ap (λ (z : ℤ). with_most (lesser z x.most) (seen x)) (to_z-of_z w128 i.most f))
    (kept_skips (seen i) l k (λ j b d m. c.requires.different j k b h (m ∙ sym t)))

pub returns-clause-chained : goal.returns-clause-chained
returns-clause-chained c =
    let a = c.args.all.now in let l = a.list.items in let i = c.args.i in let n = length l in let b = c.bucket_of-at_bucket.result in
    let last = a.last.items in let before = a.before.items in let v = c.index-last.result.now in
    let e = c.in_ok-push-2.ensures.items in let g = c.in_ok-push.ensures.items in let z = c.requires.size in
    let ll : c.len.result ≡ length last = c.len.ensures ∙ a.last.ok.0 in
    let bl : b < length last = (let r = c.bucket_of-at_bucket.ensures.bound in omega (arith, r, ll)) in
    let m : length c.push-2.new.self.items ≡ n + 1 = ap length e ∙ length-append l (i ∷ []) in
    let w : c.len-2.result ≡ n + 1 = c.len-2.ensures ∙ c.push-2.new.self.ok.0 ∙ m in
    chained_same (n + 1) (length c.push-2.new.self.items) _ (terms_at (seen_all c.push-2.new.self.items)) _ _ m refl
    (chained_more n (terms_at (seen_all l)) (terms_at (seen_all c.push-2.new.self.items)) last before (set last b c.len-2.result) c.push.new.self.items b i.terms.items c.requires
    (λ j h. ap (λ (u : List Inequality). terms_at (seen_all u) j) e ∙ terms_before l i j h)
    (ap (λ (u : List Inequality). terms_at (seen_all u) n) e ∙ terms_last l i)
    (c.bucket_of-at_bucket.ensures.value ∙ ap₂ bucket ll c.deref.ensures.value)
    (length-set last b c.len-2.result)
    (get_or-set_same last b c.len-2.result 0 bl ∙ w)
    (λ x d. get_or-set_other last b x c.len-2.result 0 d)
    (let q = ap length g ∙ length-append before (v ∷ []) in omega (arith, q, z))
    (ap₂ (λ (u : List ℕ) (k : ℕ). get_or u k 0) g (sym z) ∙ get_or-append_seam before v [] 0 ∙ c.index-last.ensures ∙ get_or_default last b v 0 bl)
    (λ k h. ap (λ (u : List ℕ). get_or u k 0) g ∙ get_or_append_left before (v ∷ []) 0 k (omega (arith, h, z)))
    (λ j h q. c.in_default.ensures.none j h (q ∙ sym c.deref-2.ensures.value)))

pub returns-clause-list : goal.returns-clause-list
returns-clause-list c =
    let l = c.args.all.now.list.items in let i = c.args.i in
    kept_end i l c.push-2.new.self.items (length l) (kept (seen i) (seen_all l)) (omega arith) c.in_ok-push-2.ensures.items
    (kept_skips (seen i) l (length l) (λ j b d q. c.in_default.ensures.none j d (q ∙ sym c.deref-2.ensures.value)))
