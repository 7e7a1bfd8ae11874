use Rattle.std.proofs.Common.{◌≡◌, ◌∙◌, ℤ, nat_abs, sym, ap, subst, to_z, of_z, w64}
use Rattle.std.proofs.lemmas.Int.{to_z-of_z}
use Rattle.checked_memory.specs.declared.values.Value.TheVariants.{Block}
use Rattle.cc_base.specs.Paths.{In}
use Rattle.cc_model.specs.Plain as plain
use Rattle.sym_run.specs.Remembers.{names_in}
use Rattle.sym_run.proofs.Appended.{Grows-refl}
use Rattle.sym_run.proofs.EnterLaws.{found_in, enters_old, enters_new, both_ok}
use Rattle.sym_run.proofs.objects.Objects.entered.Goals as goal

pub returns-in-Some-clause-reaches : goal.returns-in-Some-clause-reaches
returns-in-Some-clause-reaches c = both_ok c.reached.result c.reached.ensures.value c.reached.ensures.kept c.reached.ensures.symbols (λ cell value kept more start named d f i b r is known rank.
    let same : to_z w64 (of_z w64 c.args.address) ≡ c.args.address = to_z-of_z w64 c.args.address c.ranges.address in
    let inside : In (nat_abs c.args.address) (names_in c.args.self.now) = subst (λ (z : ℤ). In (nat_abs z) (names_in c.args.self.now)) same (found_in c.args.self.now.memory.touched _ c.in-Some.field-0 c.in-Some.ensures) in
    enters_old f start named c.args.symbols.now c.args.symbols.now c.reached.new.symbols c.args.self.now c.args.self.now d r c.args.at cell c.args.address i c.args.rank is known rank more (value start named) kept.0 kept.1 inside r (Grows-refl c.args.symbols.now) inside)

pub returns-in_ok-touch_new-in-None-clause-reaches : goal.returns-in_ok-touch_new-in-None-clause-reaches
returns-in_ok-touch_new-in-None-clause-reaches c = both_ok c.reached-in-None.result c.reached-in-None.ensures.value c.reached-in-None.ensures.kept c.reached-in-None.ensures.symbols (λ cell value kept more start named d f i b r is known rank.
    let A : ℤ = to_z w64 (of_z w64 c.args.address) in
    let same : A ≡ c.args.address = to_z-of_z w64 c.args.address c.ranges.address in
    enters_new f start named c.args.symbols.now c.touch_new.new.symbols c.reached-in-None.new.symbols c.args.self.now c.touch_new.new.self d r c.args.at cell A i c.args.rank
    (is ∙ ap (λ (z : ℤ). Block z i) (sym same)) known (rank ∙ ap (λ (z : ℤ). plain.rank (nat_abs z) (names_in c.args.self.now)) (sym same)) more (value start named) kept.0 kept.1
    c.in-None.ensures (λ q e low listed. c.in_ok-touch_new-in-None.ensures.touched start named d f q b r e low listed) c.in_ok-touch_new-in-None.ensures.names c.in_ok-touch_new-in-None.ensures.symbols)
