use Rattle.std.proofs.Common.{ℤ, ap, ◌∙◌, sym, subst, arith, rules, SFits, w64}
use Rattle.std.proofs.lemmas.Int.{to_z-of_z}
use Rattle.checked_memory.specs.declared.values.Value.{Value}
use Rattle.checked_memory.specs.Contents.{cell_at, IsTouched}
use Rattle.checked_memory.specs.Entries.{entries, contents, made_of, touched_of}
use Rattle.checked_memory.proofs.Finds.{none_made, none_touched, count_made}
use Rattle.checked_memory.proofs.places.place_in.Goals as goal

pub returns-then-number-touched : goal.returns-then-number-touched
returns-then-number-touched c =
    ap (λ (v : Value). cell_at v (contents (entries c.args.objects.now))) c.in-Made.is
    ∙ none_made (made_of (entries c.args.objects.now)) c.in-Made.number c.in-Made.offset (omega (arith, count_made c.args.objects.now c.args.touched c.requires.counted))

pub made_at-requires-clause-there : goal.made_at-requires-clause-there
made_at-requires-clause-there c = omega (arith, count_made c.args.objects.now c.args.touched c.requires.counted)

pub returns-in-None : goal.returns-in-None
returns-in-None c =
    let f : SFits w64 c.in-Block.address = search rules in
    ap (λ (v : Value). cell_at v (contents (entries c.args.objects.now))) c.in-Block.is
    ∙ none_touched c.in-Block.address c.in-Block.offset (touched_of (entries c.args.objects.now)) (subst (λ (a : ℤ). IsTouched a (touched_of (entries c.args.objects.now)) → ⊥) (to_z-of_z w64 c.in-Block.address f) c.in-None.ensures)
