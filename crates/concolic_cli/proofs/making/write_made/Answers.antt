-- The line is that of a listing of the made source, or the source is refused.
use Rattle.std.proofs.Common.{refl}
use Rattle.std.proofs.lemmas.Result.{err_from_is_err_and}
use Rattle.concolic_cli.specs.Session.{no_line}
use Rattle.concolic_cli.proofs.Causes.{made_refused, line_failed}
use Rattle.concolic_cli.proofs.Sessions.{makes_as, line_written, line_begun}
use Rattle.concolic_cli.proofs.making.write_made.Goals as goal

pub returns-in_default : goal.returns-in_default
returns-in_default g c = no_line refl

pub returns-in_err-compiled : goal.returns-in_err-compiled
returns-in_err-compiled g c =
    let s = c.in-Ok.ensures.source in
    let q = err_from_is_err_and c.from_residual.result c.from_residual.ensures.1 in
    rw (q.1, q.2) (made_refused c.args.branches _ _ _ _ c.deref.result.now c.in_err-compiled.field-0.0 (cc (s, c.deref.ensures.value)) c.in_err-compiled.ensures.refused refl)

pub returns-in_default-searched_line : goal.returns-in_default-searched_line
returns-in_default-searched_line g c = no_line refl

pub returns-in_err-write_line : goal.returns-in_err-write_line
returns-in_err-write_line g c =
    let q = err_from_is_err_and c.from_residual-in_err-write_line.result c.from_residual-in_err-write_line.ensures.1 in
    let s = c.in-Ok.ensures.source in
    let m = makes_as c.args.branches _ c.deref.result.now _ c.in-Ok-searched_line.line.items c.made_bounds-bounds.result c.in_ok-compiled.compiled (cc (s, c.deref.ensures.value)) refl c.in_ok-compiled.ensures.compiled c.made_bounds-bounds.ensures refl c.in-Ok-searched_line.ensures in
    rw (q.1, q.2) (line_failed c.args.branches _ _ _ _ c.in_err-write_line.field-0.0 (line_begun c.args.branches _ _ _ _ c.deref-2.ensures.value m c.in_err-write_line.ensures.part) c.in_err-write_line.ensures.output_failed)

pub returns : goal.returns
returns g c =
    let s = c.in-Ok.ensures.source in
    let m = makes_as c.args.branches _ c.deref.result.now _ c.in-Ok-searched_line.line.items c.made_bounds-bounds.result c.in_ok-compiled.compiled (cc (s, c.deref.ensures.value)) refl c.in_ok-compiled.ensures.compiled c.made_bounds-bounds.ensures refl c.in-Ok-searched_line.ensures in
    (refl, line_written c.args.branches _ _ _ _ c.deref-2.ensures.value m c.in_ok-write_line.ensures.ok)
