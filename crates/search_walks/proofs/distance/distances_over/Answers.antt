use Rattle.std.proofs.Common.{rules, ◌≡◌, ◌<◌, ◌∙◌, ap, length, subst, arith}
use Rattle.search_walks.specs.Layers.{Opens, DecisionsOf}
use Rattle.search_walks.proofs.RowLaws.{empty_of}
use Rattle.search_walks.proofs.LayerLaws.{found_first, layer_over, all_found}
use Rattle.search_walks.proofs.distance.distances_over.Goals as goal

pub layers-init : goal.layers-init
layers-init c = record {
  found = found_first c.args.checked.now c.args.tac.now c.args.covered.now _ _ _ c.requires.covered c.in_ok-start.ensures c.in_ok-front.ensures.none (c.in_ok-front.ensures.size ∙ c.len.ensures);
  none_open = c.in_ok-front.ensures.open;
}

pub layers-preserved : goal.layers-preserved
layers-preserved c = record {
  found = layer_over c.args.checked.now c.args.tac.now c.args.covered.now _ _ _ c.requires.flow _ _ _ _ c.layers.invariant.found _ _ _ _ _ _ _ _ c.layers.invariant.none_open c.new-next.ensures.items c.in_ok-pass.ensures.done
      (subst (λ n. Opens c.layers.front.passed.items c.layers.front.open.items c.open_decisions.new.self.passed.items c.open_decisions.new.self.open.items (DecisionsOf c.args.flow.now.decisions.rows.items n)) c.deref.ensures.value c.in_ok-open_decisions.ensures)
      c.in_ok-pass.ensures.passing;
  none_open = c.in_ok-pass.ensures.done;
}

pub layers-smaller : goal.layers-smaller
layers-smaller c =
    let f = c.in_ok-pass.ensures.passing.fewer in
    let n = ap length c.new-next.ensures.items in
    let h : 0 < length c.layers.next.items = search rules in
    omega (arith, f, n, h)

pub returns : goal.returns
returns c =
    let h : length c.layers.next.items ≡ 0 = search rules in
    let e = empty_of c.layers.next.items h in
    all_found c.args.checked.now c.args.tac.now c.args.covered.now _ _ _ _ e c.layers.invariant.found
