-- What is written is the report of a walk, or a first part of one.
use Rattle.std.proofs.Common.{refl, ◌∙◌}
use Rattle.std.proofs.lemmas.Result.{err_from_is_err_and}
use Rattle.concolic_cli.proofs.WalkTexts.{nothing_written, no_bounds, walk_some, last_some, last_none, all_written}
use Rattle.concolic_cli.proofs.walking.write_walk.Goals as goal

pub returns-in_default-clause-part : goal.returns-in_default-clause-part
returns-in_default-clause-part g c = nothing_written c.args.compiled.now.checked c.args.compiled.now.tac c.args.words.now.strategy c.args.words.now.bounds c.args.words.now.runs c.args.words.now.budget c.args.words.now.seed _ c.lo-lowest.ensures.in_range c.requires.walk _ refl

pub returns-in_err-write_line-clause-part : goal.returns-in_err-write_line-clause-part
returns-in_err-write_line-clause-part g c =
    let p = err_from_is_err_and c.from_residual.result c.from_residual.ensures.1 in
    rw p.1 (no_bounds c.args.compiled.now.checked c.args.compiled.now.tac c.args.words.now.strategy c.args.words.now.bounds c.args.words.now.runs c.args.words.now.budget c.args.words.now.seed _ c.lo-lowest.ensures.in_range c.requires.walk _ _ (c.deref.ensures.value ∙ c.in-Ok.ensures) c.in_err-write_line.ensures.part)

pub returns-in_err-summary-clause-part : goal.returns-in_err-summary-clause-part
returns-in_err-summary-clause-part g c =
    let p = err_from_is_err_and c.from_residual-in_err-summary.result c.from_residual-in_err-summary.ensures.1 in
    rw p.1 (walk_some c.args.compiled.now.checked c.args.compiled.now.tac c.args.words.now.strategy c.args.words.now.bounds c.args.words.now.runs c.args.words.now.budget c.args.words.now.seed _ _ _ (c.deref.ensures.value ∙ c.in-Ok.ensures) c.in_ok-write_line.ensures.ok _ c.in_err-summary.ensures.part)

pub returns-in_default-ended_line-clause-part : goal.returns-in_default-ended_line-clause-part
returns-in_default-ended_line-clause-part g c =
    last_none c.args.compiled.now.checked c.args.compiled.now.tac c.args.words.now.strategy c.args.words.now.bounds c.args.words.now.runs c.args.words.now.budget c.args.words.now.seed _ _ _ (c.deref.ensures.value ∙ c.in-Ok.ensures) c.in_ok-write_line.ensures.ok _ c.in_ok-summary.summary c.in_ok-summary.ensures.walked _ refl

pub returns-in_err-write_line-2-clause-part : goal.returns-in_err-write_line-2-clause-part
returns-in_err-write_line-2-clause-part g c =
    let p = err_from_is_err_and c.from_residual-in_err-write_line-2.result c.from_residual-in_err-write_line-2.ensures.1 in
    rw p.1 (last_some c.args.compiled.now.checked c.args.compiled.now.tac c.args.words.now.strategy c.args.words.now.bounds c.args.words.now.runs c.args.words.now.budget c.args.words.now.seed _ _ _ (c.deref.ensures.value ∙ c.in-Ok.ensures) c.in_ok-write_line.ensures.ok _ c.in_ok-summary.summary c.in_ok-summary.ensures.walked _ _ (c.deref-2.ensures.value ∙ c.in-Ok-ended_line.ensures) c.in_err-write_line-2.ensures.part)

pub returns-clause-ok : goal.returns-clause-ok
returns-clause-ok g c =
    all_written c.args.compiled.now.checked c.args.compiled.now.tac c.args.words.now.strategy c.args.words.now.bounds c.args.words.now.runs c.args.words.now.budget c.args.words.now.seed _ _ _ (c.deref.ensures.value ∙ c.in-Ok.ensures) c.in_ok-write_line.ensures.ok _ c.in_ok-summary.summary c.in_ok-summary.ensures.walked _ _ _ (c.deref-2.ensures.value ∙ c.in-Ok-ended_line.ensures) c.in_ok-write_line-2.ensures.ok c.status_of.ensures
