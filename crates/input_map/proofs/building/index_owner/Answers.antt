use Rattle.input_map.specs.Laying.{Puts}
use Rattle.input_map.proofs.Indexed.{owner_put}
use Rattle.std.proofs.Common.{subst}
use Rattle.input_map.proofs.building.index_owner.Goals as goal

pub returns : goal.returns
returns c = λ l h. owner_put c.args.values.now c.args.owners.now c.put_owner.new.owners c.args.place
    (subst (λ k. Puts c.args.owners.now k (c.args.place).0 c.put_owner.new.owners) c.class_at.ensures c.in_ok-put_owner.ensures) l h
