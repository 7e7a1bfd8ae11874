use Rattle.std.proofs.Common.{◌≡◌, ◌∙◌, ℤ, pos, ◌≤ℤ◌, nat_abs, refl, sym, ap, subst, to_z, of_z, rules, SFits, w64}
use Rattle.std.proofs.lemmas.Int.{to_z-of_z}
use Rattle.cc_base.specs.declared.outcomes.Outcome.TheVariants.{Zero, Plain}
use Rattle.checked_memory.specs.declared.values.Value.{Value}
use Rattle.checked_memory.specs.declared.values.Value.TheVariants.{Int, Null, Made, Block}
use Rattle.cc_model.specs.Plain as plain
use Rattle.sym_run.specs.Asks.{asked_of}
use Rattle.sym_run.specs.Beside.{IsValue}
use Rattle.sym_run.specs.Remembers.{cell_shadow, names_in}
use Rattle.sym_run.proofs.EnterLaws.{asked_is, enters, stays}
use Rattle.sym_run.proofs.objects.Objects.access.Goals as goal

pub returns-in_ok-cell-in-Block-clause-follows : goal.returns-in_ok-cell-in-Block-clause-follows
returns-in_ok-cell-in-Block-clause-follows c = λ start named d f b r known.
    let A : ℤ = to_z w64 (of_z w64 c.in-Block.address) in
    let fits : SFits w64 c.in-Block.address = search rules in
    let same : A ≡ c.in-Block.address = to_z-of_z w64 c.in-Block.address fits in
    let is : c.args.at.value ≡ Block A c.in-Block.field-1 = c.in-Block.is ∙ ap (λ (z : ℤ). Block z c.in-Block.field-1) (sym same) in
    let low : pos 0 ≤ℤ A = subst (λ (v : Value). IsValue v) is known.cell.value in
    let rank : c.rank-rank.result ≡ plain.rank (nat_abs A) (names_in c.args.self.now) = c.rank-rank.ensures.rank r.addresses low in
    enters f start named c.args.symbols.now c.entered.new.symbols c.args.self.now c.entered.new.self d c.args.at c.in_ok-cell-in-Block.cell A c.in-Block.field-1 c.rank-rank.result c.in_ok-asked.asked r is
    (asked_is start named c.args.symbols.now c.args.self.now d r (asked_of c.in_ok-asked.asked) (cell_shadow c.args.symbols.now c.args.at) c.as_slice.result.now c.in_ok-asked.ensures c.as_slice.ensures) rank
    (c.in_ok-cell-in-Block.ensures.reaches start named d f c.in-Block.field-1 b r is known rank)

pub returns-in-Made-clause-follows : goal.returns-in-Made-clause-follows
returns-in-Made-clause-follows c = λ start named d f b r known.
    stays f start named c.args.symbols.now c.args.self.now d c.args.at (Made c.in-Made.field-0 c.in-Made.field-1) Plain c.in_ok-asked.asked r known c.in-Made.is tt refl
    (asked_is start named c.args.symbols.now c.args.self.now d r (asked_of c.in_ok-asked.asked) (cell_shadow c.args.symbols.now c.args.at) c.as_slice.result.now c.in_ok-asked.ensures c.as_slice.ensures)

pub returns-in-Null-clause-follows : goal.returns-in-Null-clause-follows
returns-in-Null-clause-follows c = λ start named d f b r known.
    stays f start named c.args.symbols.now c.args.self.now d c.args.at Null Zero c.in_ok-asked.asked r known c.in-Null.is tt refl
    (asked_is start named c.args.symbols.now c.args.self.now d r (asked_of c.in_ok-asked.asked) (cell_shadow c.args.symbols.now c.args.at) c.as_slice.result.now c.in_ok-asked.ensures c.as_slice.ensures)

pub returns-in-Int-clause-follows : goal.returns-in-Int-clause-follows
returns-in-Int-clause-follows c = λ start named d f b r known.
    stays f start named c.args.symbols.now c.args.self.now d c.args.at (Int c.in-Int.field-0) Zero c.in_ok-asked.asked r known c.in-Int.is tt refl
    (asked_is start named c.args.symbols.now c.args.self.now d r (asked_of c.in_ok-asked.asked) (cell_shadow c.args.symbols.now c.args.at) c.as_slice.result.now c.in_ok-asked.ensures c.as_slice.ensures)
