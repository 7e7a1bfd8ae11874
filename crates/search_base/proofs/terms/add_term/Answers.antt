use Rattle.std.proofs.Common.{◌≡◌, length, Some, slice_get, sym, ap, subst, arith}
use Rattle.search_base.specs.declared.terms.FoundTerm.{FoundTerm}
use Rattle.search_base.specs.Inserting.{IsPlace}
use Rattle.search_base.specs.Terms.{seen_term, Comes, InOrder}
use Rattle.search_base.proofs.TermLaws.{there_is}
use Rattle.search_base.proofs.InsertLaws.{there, none_past}
use Rattle.search_base.proofs.TermLaws.{Before_it, AlsoHas, put_all, put_order, is_there}
use Rattle.search_base.proofs.terms.add_term.Goals as goal
use Rattle.search_base.proofs.terms.add_term.Goals.{then-at-len+else-not-comes, else-at-len}

pub returns-then-not-comes-clause-all : goal.returns-then-not-comes-clause-all
returns-then-not-comes-clause-all c =
    let l = ((c.args.terms).now).items in
    let place = subst (λ m. IsPlace (Before_it c.args.term) m c.place_of-at.result) c.as_slice.ensures.value c.place_of-at.ensures in
    let h = c.if-at-len.true in
    let n = c.len.ensures in
    is_there l c.args.term c.place_of-at.result place (c.index.result).now (there_is l c.place_of-at.result (c.index.result).now (let k = c.as_slice.ensures.len in let v = ap length c.as_slice.ensures.value in omega (arith, h, n, k, v)) c.index.ensures) (c.comes.ensures.no c.if-not-comes.true)

pub returns-clause-all : goal.returns-clause-all
returns-clause-all c =
    let l = ((c.args.terms).now).items in
    let place = subst (λ m. IsPlace (Before_it c.args.term) m c.place_of-at.result) c.as_slice.ensures.value c.place_of-at.ensures in
    subst (λ m. AlsoHas l m c.args.term) (sym c.in_ok-insert.ensures.items) (put_all l c.args.term c.place_of-at.result place)

pub returns-clause-order : goal.returns-clause-order
returns-clause-order c = λ o.
    let l = ((c.args.terms).now).items in
    let t = c.args.term in
    let n = c.place_of-at.result in
    let place = subst (λ m. IsPlace (Before_it t) m n) c.as_slice.ensures.value c.place_of-at.ensures in
    let above : (x : FoundTerm) → slice_get l n ≡ Some x → Comes (seen_term t) (seen_term x) = elim c.if-at-len.branch [
      | then-at-len+else-not-comes w ↦ λ x f. subst (λ z. Comes (seen_term t) (seen_term z)) (sym (there l n (w.index.result).now x w.index.ensures f)) (w.comes.ensures.yes w.if-not-comes.false)
      | else-at-len w ↦ λ x f. absurd (let g = none_past l n (let h = w.if-at-len.false in let i = c.len.ensures in let k = c.as_slice.ensures.len in let v = ap length c.as_slice.ensures.value in omega (arith, h, i, k, v)) in cc (f, g))
    ] in
    subst InOrder (sym c.in_ok-insert.ensures.items) (put_order l t n place above o)
