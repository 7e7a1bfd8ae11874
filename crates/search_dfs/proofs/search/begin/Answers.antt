use Rattle.std.proofs.Common.{◌+◌, ◌++◌, [], ◌∷◌, refl, ap, ◌∙◌}
use Rattle.search_dfs.specs.Stack.{last_first}
use Rattle.search_dfs.proofs.search.begin.Goals as goal

pub returns : goal.returns
returns c = (
  c.in_ok-first.first,
  record {
    none = ap (λ t. t.levels) c.in_ok-tree.ensures;
    depth = refl;
    runs = ap last_first (c.in_ok-push.ensures.ok ∙ ap (λ l. l ++ c.in_ok-first.first ∷ []) c.new-runs.ensures);
    from = c.in_ok-first.ensures.from;
    trace = c.in_ok-first.ensures.trace;
    most = ap (λ t. t.most) c.in_ok-tree.ensures ∙ ap (λ n. n + 1) c.depth.ensures.value;
    base = c.in_ok-first.ensures.input ∙ c.requires.base;
    made = refl;
    stopped = refl;
  },
)
