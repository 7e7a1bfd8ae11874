use Rattle.std.proofs.Common.{IsSome, map, rules, sym, ap, ◌∙◌, subst}
use Rattle.checked_memory.specs.Contents.{Contents, cell_at}
use Rattle.cc_model.specs.Traced as traced
use Rattle.sym_run.specs.Beside.{traced_of}
use Rattle.sym_run.specs.Remembers.{Remembers, name_of}
use Rattle.sym_run.proofs.MemoryLaws.{some_of, stored, names_kept, with_memory}
use Rattle.sym_run.proofs.objects.Objects.store.Goals as goal

pub returns-clause-stored : goal.returns-clause-stored
returns-clause-stored c = λ start named symbols d r k h.
    let there : IsSome (cell_at c.args.at.value c.args.self.now.memory) = search rules in
    let w = some_of (cell_at c.args.at.value c.args.self.now.memory) there in
    subst (λ (m : Contents). Remembers start named symbols (with_memory c.args.self.now m) (traced.store (traced_of symbols c.args.at) (traced_of symbols c.args.cell) d)) (sym c.write.ensures.whole)
    (stored start named symbols c.args.self.now d r c.args.cell h c.args.at.value c.args.at.shadow w.0 k.value w.1)

pub returns-clause-names : goal.returns-clause-names
returns-clause-names c = ap (λ (m : Contents). map name_of m.touched) c.write.ensures.whole ∙ names_kept c.args.at.value c.args.cell c.args.self.now.memory
