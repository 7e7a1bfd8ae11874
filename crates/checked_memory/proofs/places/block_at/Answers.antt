use Rattle.std.proofs.Common.{◌≡◌, ◌≢◌, ℕ, ◌<◌, ℤ, length, sym, ap, ◌∙◌, subst, arith, rules, to_z, of_z, SFits, w64}
use Rattle.std.proofs.lemmas.Int.{to_z-of_z}
use Rattle.checked_memory.specs.Entries.{entries}
use Rattle.checked_memory.proofs.Walks.{Searching, searching_first, searching_inside, searching_some, searching_step, searching_found, searching_none, object_block, as_many}
use Rattle.checked_memory.proofs.places.block_at.Goals as goal

pub loop-at-init : goal.loop-at-init
loop-at-init c = searching_first _ _ _ _ c.requires.linked c.requires.counted

pub offset_bounds-objects-index : goal.offset_bounds-objects-index
offset_bounds-objects-index c =
    let h : c.in-Some.index < length c.args.objects.now = omega (arith, (searching_inside _ _ _ _ _ c.loop-at.invariant c.in-Some.is).0, as_many c.args.objects.now) in
    search rules

pub bounds-objects-index : goal.bounds-objects-index
bounds-objects-index c = omega (arith, (searching_inside _ _ _ _ _ c.loop-at.invariant c.in-Some.is).0, as_many c.args.objects.now)

pub bounds-objects-index-in-Some : goal.bounds-objects-index-in-Some
bounds-objects-index-in-Some c = omega (arith, (searching_inside _ _ _ _ _ c.loop-at.invariant c.in-Some.is).0, as_many c.args.objects.now)

pub returns-in_err-block : goal.returns-in_err-block
returns-in_err-block c =
    let h : c.in-Some.index < length c.args.objects.now = omega (arith, (searching_inside _ _ _ _ _ c.loop-at.invariant c.in-Some.is).0, as_many c.args.objects.now) in
    let s = searching_some _ _ _ _ _ c.loop-at.invariant c.in-Some.is in
    absurd (cc (s.1, object_block c.args.objects.now c.in-Some.index c.index-objects-index.result h, c.in_err-block.was))

pub overflow_sub-rank : goal.overflow_sub-rank
overflow_sub-rank c = (searching_inside _ _ _ _ _ c.loop-at.invariant c.in-Some.is).1

-- an address that the walk carries as bits
as_passed : (z : ℤ) (P : ℤ → Type 0) → SFits w64 z → P (to_z w64 (of_z w64 z)) → P z
as_passed z P f h = subst P (to_z-of_z w64 z f) h

same_bits : (x y : ℤ) → SFits w64 x → SFits w64 y → of_z w64 x ≡ of_z w64 y → x ≡ y
same_bits x y f g e = sym (to_z-of_z w64 x f) ∙ ap (λ (n : ℕ). to_z w64 n) e ∙ to_z-of_z w64 y g

other_bits : (x y : ℤ) → SFits w64 y → (of_z w64 x ≡ of_z w64 y → ⊥) → x ≢ to_z w64 (of_z w64 y)
other_bits x y g n e = n (ap (λ (z : ℤ). of_z w64 z) (e ∙ to_z-of_z w64 y g))

pub returns-then-block-address : goal.returns-then-block-address
returns-then-block-address c =
    let h : c.in-Some.index < length c.args.objects.now = omega (arith, (searching_inside _ _ _ _ _ c.loop-at.invariant c.in-Some.is).0, as_many c.args.objects.now) in
    let f : SFits w64 c.in_ok-block.block.address = search rules in
    let s = as_passed c.args.address (λ (z : ℤ). Searching (entries c.args.objects.now) c.loop-at.at z c.loop-at.rank) c.ranges.address c.loop-at.invariant in
    searching_found _ _ _ _ _ c.in_ok-block.block s c.in-Some.is (object_block c.args.objects.now c.in-Some.index c.index-objects-index.result h ∙ c.in_ok-block.was) (same_bits c.in_ok-block.block.address c.args.address f c.ranges.address c.if-block-address.true)

pub loop-at-smaller : goal.loop-at-smaller
loop-at-smaller c =
    let h : c.in-Some.index < length c.args.objects.now = omega (arith, (searching_inside _ _ _ _ _ c.loop-at.invariant c.in-Some.is).0, as_many c.args.objects.now) in
    (searching_step _ _ _ _ _ c.in_ok-block.block c.loop-at.invariant c.in-Some.is (object_block c.args.objects.now c.in-Some.index c.index-objects-index.result h ∙ c.in_ok-block.was) (other_bits c.in_ok-block.block.address c.args.address c.ranges.address c.if-block-address.false)).1

pub loop-at-preserved : goal.loop-at-preserved
loop-at-preserved c =
    let h : c.in-Some.index < length c.args.objects.now = omega (arith, (searching_inside _ _ _ _ _ c.loop-at.invariant c.in-Some.is).0, as_many c.args.objects.now) in
    (searching_step _ _ _ _ _ c.in_ok-block.block c.loop-at.invariant c.in-Some.is (object_block c.args.objects.now c.in-Some.index c.index-objects-index.result h ∙ c.in_ok-block.was) (other_bits c.in_ok-block.block.address c.args.address c.ranges.address c.if-block-address.false)).0

pub returns : goal.returns
returns c =
    let s = as_passed c.args.address (λ (z : ℤ). Searching (entries c.args.objects.now) c.loop-at.at z c.loop-at.rank) c.ranges.address c.loop-at.invariant in
    searching_none _ _ _ _ s c.in_default.is
