-- What is written is the report of a listing, or a first part of one.
use Rattle.std.proofs.Common.{refl, ◌∙◌}
use Rattle.std.proofs.lemmas.Result.{err_from_is_err_and}
use Rattle.concolic_cli.proofs.Written.{nothing_written, no_bounds, search_some, last_some, last_none, all_written}
use Rattle.concolic_cli.proofs.searching.write_listing.Goals as goal

pub returns-in_default-clause-part : goal.returns-in_default-clause-part
returns-in_default-clause-part g c = nothing_written c.args.compiled.now.checked c.args.bounds.now _ _ _ refl

pub returns-in_err-write_line-clause-part : goal.returns-in_err-write_line-clause-part
returns-in_err-write_line-clause-part g c =
    let p = err_from_is_err_and c.from_residual.result c.from_residual.ensures.1 in
    rw p.1 (no_bounds c.args.compiled.now.checked c.args.bounds.now _ _ _ _ (c.deref.ensures.value ∙ c.in-Ok.ensures) c.in_err-write_line.ensures.part)

pub returns-in_err-summary-clause-part : goal.returns-in_err-summary-clause-part
returns-in_err-summary-clause-part g c =
    let p = err_from_is_err_and c.from_residual-in_err-summary.result c.from_residual-in_err-summary.ensures.1 in
    rw p.1 (search_some c.args.compiled.now.checked c.args.bounds.now _ _ c.args.budget _ _ (c.deref.ensures.value ∙ c.in-Ok.ensures) c.in_ok-write_line.ensures.ok _ c.in_err-summary.ensures.some)

pub returns-in_default-last_line-clause-part : goal.returns-in_default-last_line-clause-part
returns-in_default-last_line-clause-part g c =
    last_none c.args.compiled.now.checked c.args.bounds.now _ _ c.args.budget _ _ (c.deref.ensures.value ∙ c.in-Ok.ensures) c.in_ok-write_line.ensures.ok c.args.runs _ c.in_ok-summary.summary c.in_ok-summary.ensures.explored _ refl

pub returns-in_err-write_line-2-clause-part : goal.returns-in_err-write_line-2-clause-part
returns-in_err-write_line-2-clause-part g c =
    let p = err_from_is_err_and c.from_residual-in_err-write_line-2.result c.from_residual-in_err-write_line-2.ensures.1 in
    let x = c.in_ok-summary.ensures.explored in
    rw p.1 (last_some c.args.compiled.now.checked c.args.bounds.now _ _ c.args.budget _ _ (c.deref.ensures.value ∙ c.in-Ok.ensures) c.in_ok-write_line.ensures.ok c.args.runs _ c.in_ok-summary.summary x _ _ (c.deref-2.ensures.value ∙ c.in-Ok-last_line.ensures _ x.sums) c.in_err-write_line-2.ensures.part)

pub returns-clause-ok : goal.returns-clause-ok
returns-clause-ok g c =
    let x = c.in_ok-summary.ensures.explored in
    all_written c.args.compiled.now.checked c.args.bounds.now _ _ c.args.budget _ _ (c.deref.ensures.value ∙ c.in-Ok.ensures) c.in_ok-write_line.ensures.ok c.args.runs _ c.in_ok-summary.summary x _ _ _ (c.deref-2.ensures.value ∙ c.in-Ok-last_line.ensures _ x.sums) c.in_ok-write_line-2.ensures.ok (c.verdict.ensures _ x.sums)
