use Rattle.std.proofs.Common.{◌≡◌, ◌≢◌, ◌∙◌, sym, ap, arith, SFits, to_z, of_z, ℤ, pos}
use Rattle.std.proofs.lemmas.Int.{ints, to_z-of_z}
use Rattle.cc_base.specs.Places.{cell_at}
use mir.Syntax.{w64}
use Rattle.sym_expr.proofs.PlaceSteps.{behind_null, behind_some}
use Rattle.sym_expr.proofs.places.cell_from.Goals as goal

no_bits : (z : ℤ) → SFits w64 z → of_z w64 z ≡ 0 → z ≡ pos 0
no_bits z f e = sym (to_z-of_z w64 z f) ∙ ap (to_z w64) e

some_bits : (z : ℤ) → (of_z w64 z ≡ 0 → ⊥) → z ≢ pos 0
some_bits z h e = h (ap (of_z w64) e)

pub returns-then-address-eq0 : goal.returns-then-address-eq0
returns-then-address-eq0 c = behind_null c.args.cells.now c.args.address c.args.cell (no_bits c.args.address c.ranges.address c.if-address-eq0.true)

pub returns : goal.returns
returns c =
    c.cell_of.ensures ∙ ap (cell_at c.args.cells.now) (omega (arith, ints))
    ∙ behind_some c.args.cells.now c.args.address c.args.cell (some_bits c.args.address c.if-address-eq0.false)
