use Rattle.std.proofs.Common.{◌≡◌, ◌-◌, ◌<◌, arith, ap, sym, ◌∙◌, subst, length, slice_get}
use Rattle.std.proofs.lemmas.Option.{slice_get-get_or}
use Rattle.tac_lower.specs.Marking.{AreMarked}
use Rattle.tac_lower.proofs.Tabled.{next_marked, all_marked}
use Rattle.tac_lower.proofs.tables.sites.Goals as goal

pub loop-left-preserved : goal.loop-left-preserved
loop-left-preserved c =
    let test = c.loop-left-test.true in
    let w = c.loop-left.invariant.within in
    let same = c.as_slice-sites.ensures in
    let lt : c.loop-left.left - 1 < length c.as_slice-sites.result.now = subst (λ l. c.loop-left.left - 1 < length l) (sym same) (omega (arith, test, w)) in
    record {
      within = omega (arith, w);
      marked = next_marked c.args.checked.now _ _ c.loop-left.left (c.loop-left.left - 1) c.loop-left.table c.mark.new.table c.mark.ensures c.in_ok-counted-2.ensures.value (omega (arith, test))
          (ap (λ l. slice_get l (c.loop-left.left - 1)) (sym same) ∙ slice_get-get_or c.as_slice-sites.result.now (c.loop-left.left - 1) _ lt) c.loop-left.invariant.marked;
    }

pub returns : goal.returns
returns c =
    let f = c.loop-left-test.false in
    let z : c.loop-left.left ≡ 0 = omega (arith, f) in
    all_marked c.args.checked.now c.loop-left.table (subst (λ n. AreMarked c.args.checked.now n c.loop-left.table) z c.loop-left.invariant.marked)
