use Rattle.std.proofs.Common.{◌≡◌, ℤ, Some, map, slice_get, sym, subst, rules, SFits, w64}
use Rattle.std.proofs.lemmas.Int.{to_z-of_z}
use Rattle.checked_memory.specs.declared.values.Value.{Value}
use Rattle.checked_memory.specs.Contents.{address_of}
use Rattle.sym_run.specs.Inside.{IsInside}
use Rattle.sym_run.specs.Remembers.{names_in}
use Rattle.sym_run.proofs.EnterLaws.{found_in}
use Rattle.sym_run.proofs.objects.Objects.is_inside.Goals as goal

pub returns-in-Some : goal.returns-in-Some
returns-in-Some c = λ h.
    let fits : SFits w64 c.in-Block.address = search rules in
    let there : slice_get (map address_of c.args.self.now.memory.touched) c.in-Some.field-0 ≡ Some c.in-Block.address =
    subst (λ (a : ℤ). slice_get (map address_of c.args.self.now.memory.touched) c.in-Some.field-0 ≡ Some a) (to_z-of_z w64 c.in-Block.address fits) c.in-Some.ensures in
    subst (λ (v : Value). IsInside (names_in c.args.self.now) v) (sym c.in-Block.is) (found_in c.args.self.now.memory.touched c.in-Block.address c.in-Some.field-0 there)
