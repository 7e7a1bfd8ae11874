use Rattle.std.proofs.Common.{◌≡◌, ◌+◌, ◌++◌, ◌∷◌, [], ◌∙◌, ℤ, List, slice_get, unwrap_or, arith, sym, ap₂, subst, w32}
use Rattle.std.proofs.lemmas.Int.{to_z-of_z}
use Rattle.checked_memory.specs.declared.values.Value.TheVariants.{Int}
use Rattle.cc_model.specs.Traced as traced
use Rattle.sym_run.specs.declared.symbols.Symbol.{Symbol}
use Rattle.sym_run.specs.declared.symbols.Symbol.TheVariants.{Form}
use Rattle.sym_run.specs.Beside.{IsCell}
use Rattle.sym_run.specs.Remembers.{Remembers, IsKnown, names_in}
use Rattle.sym_run.proofs.MemoryLaws.{remembers_append, is_cell_append}
use Rattle.sym_run.proofs.ObjectLaws.{on_ok, counted, number_taken, number_known, value_stored}
use Rattle.sym_run.proofs.objects.Objects.take.Goals as goal

pub returns-clause-taken : goal.returns-clause-taken
returns-clause-taken c = on_ok c.store.result c.store.ensures.stored (λ h start named d r k list low.
    let more : List Symbol = Form c.of.result ∷ [] in
    let grown : c.add.new.self ≡ c.args.symbols.now ++ more = c.in_ok-shadow.ensures.ok in
    let before : Remembers start named c.add.new.self c.args.self.now d = subst (λ (l : List Symbol). Remembers start named l c.args.self.now d) (sym grown) (remembers_append start named c.args.symbols.now more c.args.self.now d r) in
    let at : IsCell c.add.new.self c.args.at = subst (λ (l : List Symbol). IsCell l c.args.at) (sym grown) (is_cell_append c.args.symbols.now more c.args.at k) in
    let last = c.in_ok-shadow.ensures.shadow in
    let is : c.number_or-value.result ≡ Int (unwrap_or (slice_get c.args.input.now.stream c.args.self.now.taken) c.args.base) =
    c.number_or-value.ensures.value ∙ ap₂ (λ (l : List ℤ) (b : ℤ). Int (unwrap_or (slice_get l c.args.self.now.taken) b)) c.as_slice.ensures (to_z-of_z w32 c.args.base c.ranges.base) in
    let known : IsKnown named (names_in c.args.self.now) c.add.new.self (record { value = c.number_or-value.result; shadow = c.in_ok-shadow.shadow }) =
    number_known named (names_in c.args.self.now) c.args.symbols.now c.add.new.self c.of.result c.number_or-value.result _ c.in_ok-shadow.shadow grown last is c.number_or-value.ensures.word in
    let after = h start named c.add.new.self (counted d) (number_taken start named c.add.new.self c.args.self.now d before (c.args.self.now.taken + 1) c.add_place.new.places (omega arith) c.in_ok-place.ensures.ok) at known in
    subst (λ (t : traced.Data). Remembers start named c.add.new.self c.store.new.self t)
    (value_stored start named c.args.symbols.now c.add.new.self c.args.self.now d c.args.at c.of.result c.in_ok-place.place.0 c.in_ok-shadow.shadow c.number_or-value.result c.args.base c.args.input.now.stream r grown c.of.ensures.form c.in_ok-place.ensures.id last is list low) after)
