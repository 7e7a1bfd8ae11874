use Rattle.std.proofs.Common.{◌*◌, map, refl, sym, ap, ◌∙◌, subst}
use Rattle.cc_base.specs.Paths.{In}
use Rattle.cc_model.specs.Tested.{Term}
use Rattle.search_base.specs.Readable.{IsNarrow}
use Rattle.search_base.specs.Terms.{seen_term}
use Rattle.search_walks.specs.Logged.{Finished}
use Rattle.search_walks.specs.Output.{HasNumbers, decision_count}
use Rattle.search_walks.specs.Task.{setting_of}
use Rattle.search_base.proofs.OnLaws.{on_err}
use Rattle.search_walks.proofs.SumLaws.{finished, finished_some, finished_terms}
use Rattle.search_walks.proofs.log.Log.finish.Goals as goal

pub returns-in_err-write_terms-clause-err : goal.returns-in_err-write_terms-clause-err
returns-in_err-write_terms-clause-err g c = on_err _ (finished_some _ _ c.as_slice.result.now c.in_err-write_terms.ensures.part)

pub returns-in_err-count_outcomes-clause-err : goal.returns-in_err-count_outcomes-clause-err
returns-in_err-count_outcomes-clause-err g c = on_err _ (finished_terms _ _ c.as_slice.result.now c.in_ok-write_terms.ensures.ok)

pub returns-clause-ok : goal.returns-clause-ok
returns-clause-ok g c = λ items h.
    subst (Finished (setting_of (c.args.task).now) items _ _) (sym c.with_numbers.ensures.same)
    (finished (setting_of (c.args.task).now) items (c.args.self).now h _ _ _ c.as_slice.result.now c.deref.result.now c.as_slice.ensures.value c.in_ok-write_terms.ensures.ok c.from.ensures c.deref.ensures.value c.count_covered.ensures
    (c.in_ok-count_outcomes.ensures ∙ ap (λ l. 2 * decision_count l) c.as_slice-3.ensures) refl
    (subst (λ m. (e : Term) → In e (map seen_term m) → IsNarrow e) c.as_slice-2.ensures.value c.narrow.ensures)
    (subst HasNumbers c.with_numbers.ensures.same c.with_numbers.ensures.numbers))
