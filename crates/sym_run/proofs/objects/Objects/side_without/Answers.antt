use Rattle.std.proofs.Common.{◌≡◌, ℤ, pos, ◌≤ℤ◌, nat_abs, List, slice_get, sym, ap, ◌∙◌, subst, rules, SFits, w64}
use Rattle.std.specs.Option.{option_map}
use Rattle.std.proofs.lemmas.Int.{to_z-of_z}
use Rattle.checked_memory.specs.declared.values.Value.{Value}
use Rattle.cc_model.specs.Plain as plain
use Rattle.cc_model.specs.Traced as traced
use Rattle.sym_run.specs.declared.objects.First.{First}
use Rattle.sym_run.specs.Beside.{IsValue, value_of}
use Rattle.sym_run.specs.Pointers.{blank}
use Rattle.sym_run.specs.Remembers.{names_in}
use Rattle.sym_run.proofs.RankLaws.{side_is}
use Rattle.sym_run.proofs.objects.Objects.side_without.Goals as goal

pub returns-else-offset-ne0 : goal.returns-else-offset-ne0
returns-else-offset-ne0 c = λ start named symbols d r.
    let f : SFits w64 c.in-Block.address = search rules in
    let low : pos 0 ≤ℤ c.in-Block.address = subst (λ (v : Value). IsValue v) c.in-Block.is c.requires in
    let rank = subst (λ (a : ℤ). pos 0 ≤ℤ a → c.rank.result ≡ plain.rank (nat_abs a) (names_in c.args.self.now)) (to_z-of_z w64 c.in-Block.address f) (c.rank.ensures.rank r.addresses) low in
    c.first_of_type.ensures
    ∙ ap (λ (l : List First). traced.first_if c.args.target.0 (option_map blank (slice_get l c.rank.result))) c.as_slice.ensures
    ∙ side_is start named symbols c.args.self.now d r c.args.target.0 c.in-Block.address c.in-Block.offset c.rank.result rank c.if-offset-ne0.false
    ∙ ap (λ (v : Value). traced.side_without c.args.target.0 (value_of v) (d.plain).touched (d.shadows).touched) (sym c.in-Block.is)
