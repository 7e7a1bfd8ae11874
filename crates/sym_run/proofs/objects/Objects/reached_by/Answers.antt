use Rattle.std.proofs.Common.{◌≡◌, ◌++◌, ◌∷◌, [], suc, List, length, length-append, slice_get, arith, ap, ◌∙◌}
use Rattle.cc_model.specs.Traced.{Shadow, Traced}
use Rattle.sym_run.specs.declared.objects.First.{First}
use Rattle.sym_run.specs.declared.symbols.Symbol.{Symbol}
use Rattle.sym_run.specs.declared.symbols.Symbol.TheVariants.{Place}
use Rattle.sym_run.specs.Beside.{value_of, shadow_by}
use Rattle.sym_run.specs.Remembers.{cell_shadow}
use Rattle.sym_run.proofs.ObjectLaws.{shadow_last}
use Rattle.sym_run.proofs.RankLaws.{reached_itself, reached_past, reached_place}
use Rattle.sym_run.proofs.objects.Objects.reached_by.Goals as goal

pub returns-then-first-beside-2-clause-value : goal.returns-then-first-beside-2-clause-value
returns-then-first-beside-2-clause-value c = λ start named d r.
    ap (λ (s : Shadow). (let t : Traced = record { plain = value_of c.args.pointer.value; shadow = s } in t))
    (reached_itself start named c.args.symbols.now c.args.self.now d r c.args.rank (cell_shadow c.args.symbols.now c.args.pointer) c.in-Some.first c.args.beside c.requires (c.in-Some.ensures ∙ ap (λ (l : List First). slice_get l c.args.rank) c.as_slice.ensures) c.if-first-beside.true c.if-first-beside-2.true)

pub returns-in-None-clause-value : goal.returns-in-None-clause-value
returns-in-None-clause-value c = λ start named d r.
    ap (λ (s : Shadow). (let t : Traced = record { plain = value_of c.args.pointer.value; shadow = s } in t))
    (reached_past start named c.args.symbols.now c.args.self.now d r c.args.rank (cell_shadow c.args.symbols.now c.args.pointer) (c.in-None.ensures ∙ ap (λ (l : List First). slice_get l c.args.rank) c.as_slice.ensures))

pub returns-in_ok-shadow-in-Some-clause-value : goal.returns-in_ok-shadow-in-Some-clause-value
returns-in_ok-shadow-in-Some-clause-value c = λ start named d r.
    let symbol : Symbol = Place c.in-Some.first.place c.in-Some.first.ty in
    let grown : c.add.new.self ≡ c.args.symbols.now ++ symbol ∷ [] = c.in_ok-shadow-in-Some.ensures.ok in
    let last : c.in_ok-shadow-in-Some.shadow ≡ length c.add.new.self = c.in_ok-shadow-in-Some.ensures.shadow in
    let count : c.in_ok-shadow-in-Some.shadow ≡ suc (length c.args.symbols.now) = omega (arith, last, ap length grown, length-append c.args.symbols.now (symbol ∷ [])) in
    ap (λ (s : Shadow). (let t : Traced = record { plain = value_of c.args.pointer.value; shadow = s } in t))
    (ap (λ (l : List Symbol). shadow_by l c.in_ok-shadow-in-Some.shadow (value_of c.args.pointer.value)) grown
    ∙ shadow_last c.args.symbols.now symbol c.in_ok-shadow-in-Some.shadow (value_of c.args.pointer.value) count
    ∙ reached_place start named c.args.symbols.now c.args.self.now d r c.args.rank (cell_shadow c.args.symbols.now c.args.pointer) c.in-Some.first c.args.beside c.requires (c.in-Some.ensures ∙ ap (λ (l : List First). slice_get l c.args.rank) c.as_slice.ensures))
