use Rattle.std.proofs.Common.{◌≡◌, ◌-◌, ◌<◌, ℕ, Option, None, refl, arith, ap, sym, ◌∙◌, subst, length, replicate, drop}
use Rattle.std.proofs.lemmas.List.{length-replicate}
use Rattle.std.proofs.lemmas.Option.{slice_get_read}
use Rattle.tac_lower.specs.Bodies.{AreBodies, noted}
use Rattle.tac_lower.proofs.Tabled.{no_bodies, one_body, same_many, unset_alone}
use Rattle.tac_lower.proofs.bodies.bodies.Goals as goal

pub loop-left-init : goal.loop-left-init
loop-left-init c =
    let unset : Option ℕ = None in
    let made : c.from_vec-bodies.result ≡ replicate c.len.result unset = c.from_vec-bodies.ensures ∙ c.in_ok-vec.ensures.items_if_clones_equal (unset_alone _ (λ n k. k)) in
    record {
      within = omega arith;
      noted = subst (λ l. AreBodies c.args.checked.now c.as_slice-items.result.now (drop (length c.as_slice-items.result.now) c.as_slice-items.result.now) l) (sym made) (no_bodies c.args.checked.now c.as_slice-items.result.now c.len.result);
      many = ap length made ∙ length-replicate c.len.result unset ∙ c.len.ensures;
    }

pub loop-left-preserved : goal.loop-left-preserved
loop-left-preserved c =
    let test = c.loop-left-test.true in
    let w = c.loop-left.invariant.within in
    let lt : c.loop-left.left - 1 < length c.as_slice-items.result.now = omega (arith, test, w) in
    let e : c.note.new.bodies ≡ noted c.body_number-number.result (c.loop-left.left - 1) c.loop-left.bodies = c.note.ensures in
    record {
      within = omega (arith, w);
      noted = one_body c.args.checked.now c.as_slice-items.result.now c.index-items-left.result c.loop-left.left (c.loop-left.left - 1) c.loop-left.bodies c.note.new.bodies (omega (arith, test))
          (slice_get_read c.as_slice-items.result.now (length c.as_slice-items.result.now) (c.loop-left.left - 1) c.index-items-left.result refl lt c.index-items-left.is)
          c.loop-left.invariant.noted (e ∙ ap (λ b. noted b (c.loop-left.left - 1) c.loop-left.bodies) c.body_number-number.ensures);
      many = same_many c.args.checked.now c.body_number-number.result (c.loop-left.left - 1) c.loop-left.bodies c.note.new.bodies e ∙ c.loop-left.invariant.many;
    }
