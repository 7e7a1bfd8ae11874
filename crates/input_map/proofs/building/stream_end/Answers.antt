use Rattle.std.proofs.Common.{◌≡◌, ap, ◌∙◌, take, arith, max}
use Rattle.input_map.specs.Builds.{stream_length}
use Rattle.input_map.proofs.Steps.{end_more}
use Rattle.input_map.proofs.building.stream_end.Goals as goal

pub loop-id-preserved : goal.loop-id-preserved
loop-id-preserved c = c.larger-end.ensures ∙ ap (λ n. max n c.loop-id.end) c.needed_at.ensures ∙ end_more c.args.places.now c.loop-id.id c.loop-id.end c.loop-id.invariant

pub returns : goal.returns
returns c = let e : c.loop-id.id ≡ c.args.count = omega arith in c.loop-id.invariant ∙ ap (λ n. stream_length (take n c.args.places.now)) e
