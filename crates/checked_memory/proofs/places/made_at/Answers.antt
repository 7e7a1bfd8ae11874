use Rattle.std.proofs.Common.{◌<◌, length, Option, IsSome, refl, sym, ◌∙◌, subst, arith, rules}
use Rattle.checked_memory.specs.declared.places.Block.{Block}
use Rattle.checked_memory.proofs.Walks.{counting_first, counting_inside, counting_some, counting_step, counting_found, counting_last, object_block, as_many}
use Rattle.checked_memory.proofs.places.made_at.Goals as goal

pub loop-at-init : goal.loop-at-init
loop-at-init c = counting_first _ _ _ _ c.requires.linked c.requires.counted c.requires.there

pub overflow_sub-index : goal.overflow_sub-index
overflow_sub-index c = (counting_inside _ _ _ _ _ c.loop-at.invariant c.in-Some.is).1

pub offset_bounds-objects-block : goal.offset_bounds-objects-block
offset_bounds-objects-block c =
    let h : c.in-Some.block < length c.args.objects.now = omega (arith, (counting_inside _ _ _ _ _ c.loop-at.invariant c.in-Some.is).0, as_many c.args.objects.now) in
    search rules

pub bounds-objects-block : goal.bounds-objects-block
bounds-objects-block c = omega (arith, (counting_inside _ _ _ _ _ c.loop-at.invariant c.in-Some.is).0, as_many c.args.objects.now)

pub bounds-objects-block-else-block-index : goal.bounds-objects-block-else-block-index
bounds-objects-block-else-block-index c = omega (arith, (counting_inside _ _ _ _ _ c.loop-at.invariant c.in-Some.is).0, as_many c.args.objects.now)

pub unwrap-at-requires : goal.unwrap-at-requires
unwrap-at-requires c =
    let h : c.in-Some.block < length c.args.objects.now = omega (arith, (counting_inside _ _ _ _ _ c.loop-at.invariant c.in-Some.is).0, as_many c.args.objects.now) in
    let s = counting_some _ _ _ _ _ c.loop-at.invariant c.in-Some.is in
    subst (λ (x : Option Block). IsSome x) (sym s.1 ∙ object_block c.args.objects.now c.in-Some.block c.index-objects-block.result h) refl

pub loop-at-smaller : goal.loop-at-smaller
loop-at-smaller c =
    let h : c.in-Some.block < length c.args.objects.now = omega (arith, (counting_inside _ _ _ _ _ c.loop-at.invariant c.in-Some.is).0, as_many c.args.objects.now) in
    (counting_step _ _ _ _ _ _ c.loop-at.invariant c.in-Some.is c.if-block-index.false (object_block c.args.objects.now c.in-Some.block c.index-objects-block.result h ∙ c.unwrap-at.ensures)).1

pub loop-at-preserved : goal.loop-at-preserved
loop-at-preserved c =
    let h : c.in-Some.block < length c.args.objects.now = omega (arith, (counting_inside _ _ _ _ _ c.loop-at.invariant c.in-Some.is).0, as_many c.args.objects.now) in
    (counting_step _ _ _ _ _ _ c.loop-at.invariant c.in-Some.is c.if-block-index.false (object_block c.args.objects.now c.in-Some.block c.index-objects-block.result h ∙ c.unwrap-at.ensures)).0

pub returns-then-block-index : goal.returns-then-block-index
returns-then-block-index c = counting_found _ _ _ _ _ c.loop-at.invariant c.in-Some.is c.if-block-index.true

pub returns-in_default : goal.returns-in_default
returns-in_default c = counting_last _ _ _ _ c.loop-at.invariant c.in_default.is
