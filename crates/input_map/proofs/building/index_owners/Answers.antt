use Rattle.std.proofs.Common.{sym, subst, arith, take}
use Rattle.std.proofs.lemmas.List.{take_more, take_all}
use Rattle.input_map.specs.Laying.{IsOwner, owner_in}
use Rattle.input_map.proofs.Indexed.{owner_none}
use Rattle.input_map.proofs.building.index_owners.Goals as goal

pub loop-place-init : goal.loop-place-init
loop-place-init c = owner_none c.args.values.now c.no_owners-owners.result c.no_owners-owners.ensures

pub loop-place-preserved : goal.loop-place-preserved
loop-place-preserved c = subst (λ l. IsOwner c.args.values.now l (owner_in c.index_owner.new.owners)) (sym (take_more c.args.touched.now c.loop-place.place-index _ (omega arith)))
    (c.in_ok-index_owner.ensures (take c.loop-place.place-index c.args.touched.now) c.loop-place.invariant)

pub returns : goal.returns
returns c = subst (λ l. IsOwner c.args.values.now l (owner_in c.loop-place.owners)) (take_all c.loop-place.place-index c.args.touched.now (omega arith)) c.loop-place.invariant
