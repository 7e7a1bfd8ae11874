use Rattle.c_trees.specs.Forms.{valued}
use Rattle.c_trees.proofs.Walking.{on_ok, then, adds_as, no_values}
use Rattle.std.proofs.Common.{[], ◌∷◌, flat_map}
use Rattle.cc_model.specs.CheckedProgram.{tokens_in}
use Rattle.c_trees.proofs.walk.Walk.+expressions.Goals as goal

pub value-returns-in_ok-token-in-Call : goal.value-returns-in_ok-token-in-Call
value-returns-in_ok-token-in-Call t c = on_ok c.values.result c.values.ensures (λ p. adds_as c.args.self.now c.values.new.self (tokens_in c.args.e.now) (c.in-Call.t ∷ flat_map tokens_in c.in-Call.args.now) (valued c.args.e.now) (flat_map valued c.in-Call.args.now)
    c.in-Call.ensures.tokens c.in-Call.ensures.sites
    (then c.args.self.now c.token-in-Call.new.self c.values.new.self (c.in-Call.t ∷ []) (flat_map tokens_in c.in-Call.args.now) [] (flat_map valued c.in-Call.args.now) c.in_ok-token-in-Call.ensures p))

pub values-returns : goal.values-returns
values-returns t c = c.loop-arg.invariant c.loop-arg.self (no_values valued c.args.args.now c.loop-arg.arg-index c.loop-arg.self c.loop-arg-test.false)
