use Rattle.std.proofs.Common.{◌≡◌, ◌-◌, ◌<◌, ℕ, Option, Some, None, rules, arith, ap, sym, ◌∙◌, subst, length, replicate, get_or, set}
use Rattle.std.proofs.lemmas.List.{length-replicate, length-set}
use Rattle.std.proofs.lemmas.Option.{slice_get-get_or}
use Rattle.tac_lower.specs.Marking.{AreNumbered}
use Rattle.tac_lower.proofs.Tabled.{none_numbered, one_numbered, all_numbered}
use Rattle.tac_lower.proofs.tables.numbers.Goals as goal

pub loop-left-init : goal.loop-left-init
loop-left-init c =
    let unset : Option ℕ = None in
    let made : c.from_vec-table.result ≡ replicate c.length_over.result unset = c.from_vec-table.ensures ∙ c.in_ok-vec.ensures.items_if_clones_equal (search rules) in
    record {
      within = omega arith;
      covers = λ k h. subst (λ n. get_or c.args.tokens.now k 0 < n) (sym (ap length made ∙ length-replicate c.length_over.result unset)) (c.length_over.ensures k h);
      numbered = subst (λ l. AreNumbered c.args.tokens.now (length c.args.tokens.now) l) (sym made) (none_numbered c.args.tokens.now c.length_over.result);
    }

pub loop-left-preserved : goal.loop-left-preserved
loop-left-preserved c =
    let test = c.loop-left-test.true in
    let w = c.loop-left.invariant.within in
    let k : ℕ = c.loop-left.left - 1 in
    let t : ℕ = get_or c.args.tokens.now (c.loop-left.left - 1) 0 in
    let lt : c.loop-left.left - 1 < length c.args.tokens.now = omega (arith, test, w) in
    let e : c.set_number.new.table ≡ set c.loop-left.table t (Some k) = c.set_number.ensures ∙ ap (λ (n : ℕ). set c.loop-left.table t (Some n)) c.in_ok-number.ensures.value in
    record {
      within = omega (arith, w);
      covers = λ j h. subst (λ n. get_or c.args.tokens.now j 0 < n) (sym (ap length e ∙ length-set c.loop-left.table t (Some k))) (c.loop-left.invariant.covers j h);
      numbered = one_numbered c.args.tokens.now t c.loop-left.left k c.loop-left.table c.set_number.new.table (omega (arith, test)) (slice_get-get_or c.args.tokens.now k 0 lt) (c.loop-left.invariant.covers k lt) c.loop-left.invariant.numbered e;
    }

pub returns : goal.returns
returns c =
    let f = c.loop-left-test.false in
    let z : c.loop-left.left ≡ 0 = omega (arith, f) in
    all_numbered c.args.tokens.now c.loop-left.table (subst (λ n. AreNumbered c.args.tokens.now n c.loop-left.table) z c.loop-left.invariant.numbered)
